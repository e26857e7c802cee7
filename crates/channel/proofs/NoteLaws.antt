-- The columns noted one by one: after i columns the arrays hold the first and the last pin column of every number among
-- those.
use Rattle.std.specs.Prelude.{ℕ, ◌+◌, ◌<◌, ◌≡◌, Bool, true, false, cond, ◌||◌, set, replicate, eqb}
use Rattle.std.proofs.Common.{arith, sym, ◌∙◌, ⊎_elim, eq-eqb, ne_eqb}
use Rattle.std.proofs.Math.Path.{refl, ap}
use mathlib.Core.List.{List, [], ◌∷◌, ◌++◌, map, Memᴰ}
use Rattle.lists.specs.Lists.{keep, from, up_to, head_or, last_or, at}
use Rattle.lists.specs.Tests.{same_test, and_right, and_both, equal?}
use Rattle.lists.specs.Members.{keep-member, up_to-member}
use Rattle.lists.specs.Tallies.{keep_same}
use Rattle.lists.specs.Updates.{keep-next, set_gives}
use Rattle.lists.specs.Arrays.{get_or-numbered, numbered-same, numbered-replicate, set-numbered}
use Rattle.channel.specs.Channel.{Channel, width, is_net, stands, has_pin, pin_columns, first_column, last_column}
use Rattle.channel.specs.Spans.{each512, firsts, lasts, first_noted}
use Rattle.channel.specs.Parked.{NetsOnly}
use Rattle.channel.proofs.ParkedLaws.{zero-no-net, no-first, no_last, net-stands}

-- the first and the last pin column of number n among the first i columns, 0 if there is none
unfoldable pub first_by : Channel → ℕ → ℕ → ℕ
first_by ch i n = head_or 0 (keep (stands ch n) (up_to i))

unfoldable pub last_by : Channel → ℕ → ℕ → ℕ
last_by ch i n = last_or 0 (keep (stands ch n) (up_to i))

-- before any column is noted no number has one
module _ (ch : Channel) where
  first-none : (n : ℕ) → 0 ≡ first_by ch 0 n
  unfolding first_by head_or keep from
  first-none n = refl

  last_none : (n : ℕ) → 0 ≡ last_by ch 0 n
  unfolding last_by last_or keep from
  last_none n = refl

  pub firsts-none : replicate 512 0 ≡ each512 (first_by ch 0)
  firsts-none = numbered-replicate 512 0 ∙ numbered-same (λ n. 0) (first_by ch 0) 512 (λ n below. first-none n)

  pub lasts-none : replicate 512 0 ≡ each512 (last_by ch 0)
  lasts-none = numbered-replicate 512 0 ∙ numbered-same (λ n. 0) (last_by ch 0) 512 (λ n below. last_none n)

-- in rows that show nets only, the columns in which a number other than 0 stands are those of its net's pins
module _ (ch : Channel) (only : NetsOnly ch) where
  standing-columns : (n : ℕ) → (n ≡ 0 → ⊥) → keep (stands ch n) (up_to (width ch)) ≡ pin_columns ch n
  unfolding pin_columns
  standing-columns n h =
      keep_same (stands ch n) (has_pin ch n) (up_to (width ch))
      (λ c m. same_test (stands ch n c) (has_pin ch n c)
      (λ t. and_both (is_net ch n) (stands ch n c) (net-stands only n c (omega (arith, h)) t) t)
      (and_right (is_net ch n) (stands ch n c)))

  -- after all columns are noted, and those of number 0 cleared, each number has its own
  pub firsts-whole : set (each512 (first_by ch (width ch))) 0 0 ≡ firsts ch
  unfolding first_by first_column
  firsts-whole =
      set_gives (first_by ch (width ch)) (first_column ch) 512 0 0 (omega arith) (no-first ch 0 (zero-no-net ch))
      (λ n below apart. ap (head_or 0) (standing-columns n apart))

  pub lasts-whole : set (each512 (last_by ch (width ch))) 0 0 ≡ lasts ch
  unfolding last_by last_column
  lasts-whole =
      set_gives (last_by ch (width ch)) (last_column ch) 512 0 0 (omega arith) (no_last ch 0 (zero-no-net ch))
      (λ n below apart. ap (last_or 0) (standing-columns n apart))

-- a column that is noted where there is none yet
abbrev noted : ℕ → ℕ → ℕ
noted x c = cond (eqb x 0) c x

head-snoc : (xs : List ℕ) (b : Bool) (c : ℕ) → ((x : ℕ) → Memᴰ x xs → 0 < x)
    → head_or 0 (xs ++ cond b (c ∷ []) []) ≡ cond b (noted (head_or 0 xs) c) (head_or 0 xs)
unfolding head_or
head-snoc [] true c h = refl
head-snoc [] false c h = refl
head-snoc (x ∷ xs) true c h = let p = h x (Memᴰ.head refl) in rw (ne_eqb x 0 (omega arith))
head-snoc (x ∷ xs) false c h = refl

last_snoc : (d : ℕ) (xs : List ℕ) (b : Bool) (c : ℕ) → last_or d (xs ++ cond b (c ∷ []) []) ≡ cond b c (last_or d xs)
unfolding last_or
last_snoc d [] true c = refl
last_snoc d [] false c = refl
last_snoc d (x ∷ xs) b c = last_snoc x xs b c

first_more : (ch : Channel) (i n : ℕ) → first_by ch (i + 1) n ≡ cond (stands ch n (i + 1))
    (noted (first_by ch i n) (i + 1)) (first_by ch i n)
unfolding first_by keep
first_more ch i n =
    ap (head_or 0) (keep-next (stands ch n) i)
    ∙ head-snoc (keep (stands ch n) (up_to i)) (stands ch n (i + 1)) (i + 1)
    (λ x m. (up_to-member i (keep-member (stands ch n) (up_to i) m).0).0)

last_more : (ch : Channel) (i n : ℕ) → last_by ch (i + 1) n ≡ cond (stands ch n (i + 1)) (i + 1) (last_by ch i n)
unfolding last_by keep
last_more ch i n =
    ap (last_or 0) (keep-next (stands ch n) i) ∙ last_snoc 0 (keep (stands ch n) (up_to i)) (stands ch n (i + 1)) (i + 1)

eqb-sym : (a b : ℕ) → eqb a b ≡ eqb b a
eqb-sym a b =
    ⊎_elim (λ e. eq-eqb a b e ∙ sym (eq-eqb b a (sym e))) (λ o. ne_eqb a b o ∙ sym (ne_eqb b a (λ e. o (sym e))))
    (equal? a b)

-- noting a column for number n in an array of first columns
noted-numbered : (f : ℕ → ℕ) (m n c : ℕ) → n < m
    → first_noted (map f (from 0 m)) n c ≡ map (λ k. cond (eqb k n) (noted (f k) c) (f k)) (from 0 m)
unfolding first_noted
noted-numbered f m n c inside = rw (get_or-numbered f m n inside) (go (eqb (f n) 0) refl)
  where
    at_place : (b : Bool) → eqb (f n) 0 ≡ b → (k : ℕ)
        → cond (eqb k n) (cond b c (f k)) (f k) ≡ cond (eqb k n) (noted (f k) c) (f k)
    at_place b e k =
        ⊎_elim (λ q. rw q (ap (λ (t : Bool). cond (eqb n n) (cond t c (f n)) (f n)) (sym e))) (λ o. rw (ne_eqb k n o))
        (equal? k n)

    go : (b : Bool) → eqb (f n) 0 ≡ b → cond b (set (map f (from 0 m)) n c) (map f (from 0 m)) ≡ map
        (λ k. cond (eqb k n) (noted (f k) c) (f k)) (from 0 m)
    go true e =
        set-numbered f m n c inside ∙ numbered-same (λ k. cond (eqb k n) c (f k))
        (λ k. cond (eqb k n) (noted (f k) c) (f k)) m (λ k below. at_place true e k)
    go false e =
        numbered-same f (λ k. cond (eqb k n) (noted (f k) c) (f k)) m
        (λ k below. same (eqb k n) (f k) ∙ at_place false e k)
      where
        same : (b : Bool) (x : ℕ) → x ≡ cond b x x
        same true x = refl
        same false x = refl

-- noting it for two numbers notes it once for a number that is either
twice : (p q : Bool) (x c : ℕ) → cond q (noted (cond p (noted x c) x) c) (cond p (noted x c) x) ≡ cond (p || q)
    (noted x c) x
twice true true x c = go (eqb x 0) refl
  where
    go : (b : Bool) → eqb x 0 ≡ b → noted (cond b c x) c ≡ cond b c x
    go true e = both (eqb c 0)
      where
        both : (b : Bool) → cond b c c ≡ c
        both true = refl
        both false = refl
    go false e = rw e
twice true false x c = refl
twice false true x c = refl
twice false false x c = refl

once : (p q : Bool) (x c : ℕ) → cond q c (cond p c x) ≡ cond (p || q) c x
once true true x c = refl
once true false x c = refl
once false true x c = refl
once false false x c = refl

module _ (ch : Channel) (i : ℕ) (a b : ℕ) (on_top : a ≡ at ch.top (i + 1)) (on_bot : b ≡ at ch.bot (i + 1))
    (lowTop : a < 512) (lowBot : b < 512) where
  test : (n : ℕ) → stands ch n (i + 1) ≡ eqb n a || eqb n b
  test n = rw (on_top, on_bot, eqb-sym n (at ch.top (i + 1)), eqb-sym n (at ch.bot (i + 1)))

  -- both pins of a column noted
  pub firsts-noted : first_noted (first_noted (each512 (first_by ch i)) a (i + 1)) b (i + 1) ≡ each512 (first_by ch (i + 1))
  firsts-noted =
      rw (
        noted-numbered (first_by ch i) 512 a (i + 1) lowTop,
        noted-numbered (λ k. cond (eqb k a) (noted (first_by ch i k) (i + 1)) (first_by ch i k)) 512 b (i + 1) lowBot,
      )
      (numbered-same (λ k. cond (eqb k b) (noted (cond (eqb k a) (noted (first_by ch i k) (i + 1)) (first_by ch i k))
      (i + 1)) (cond (eqb k a) (noted (first_by ch i k) (i + 1)) (first_by ch i k))) (first_by ch (i + 1)) 512
      (λ n below. twice (eqb n a) (eqb n b) (first_by ch i n) (i + 1) ∙ sym (rw (first_more ch i n, test n))))

  pub lasts-noted : set (set (each512 (last_by ch i)) a (i + 1)) b (i + 1) ≡ each512 (last_by ch (i + 1))
  lasts-noted =
      rw (
        set-numbered (last_by ch i) 512 a (i + 1) lowTop,
        set-numbered (λ k. cond (eqb k a) (i + 1) (last_by ch i k)) 512 b (i + 1) lowBot,
      )
      (numbered-same (λ k. cond (eqb k b) (i + 1) (cond (eqb k a) (i + 1) (last_by ch i k))) (last_by ch (i + 1)) 512
      (λ n below. once (eqb n a) (eqb n b) (last_by ch i n) (i + 1) ∙ sym (rw (last_more ch i n, test n))))
