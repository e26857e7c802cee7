-- The reader's parts over the automaton: a number, a word and a whole line, each as the code meets it at a place of the
-- text.
use Rattle.std.specs.Prelude.{ℕ, zero, suc, ◌+◌, ◌-◌, ◌*◌, ◌≤◌, ◌<◌, ◌≡◌, refl, List, [], ◌∷◌, ◌++◌, Bool, true, false, cond, length, get_or, drop, eqb, Option, Some, None, Ok, Err}
use Rattle.std.proofs.Common.{arith, add-one, add-suc, add-zero, zero-add, sym, ◌∙◌, ap, subst, drop_of_length-le, length-drop, drop-cons, eqb→eq, eq-eqb, ne_eqb}
use Rattle.std.proofs.Math.Decide.{dec_le}
use Rattle.lists.specs.Lists.{within}
use Rattle.lists.specs.Tests.{T→true, true→T, fails→false, within→, →within}
use Rattle.pinlist.specs.declared.number.Number.{Number}
use Rattle.pinlist.specs.Reader.{Stand, due, zero_read, digits, returned, LineStep, on, closed, stuck}
use Rattle.pinlist.specs.Reader.{after_number, first_digit, line_step}
use Rattle.pinlist.specs.Code.{number_to, line_to, stuck_at, kept, digits_behind, number_from, number_read, spaces_end, RunOfSpaces, shared}
use Rattle.pinlist.specs.Code.{Lined, lined, broken, line_from, feed_read, line_read}

-- the test for a byte between two others, by what it tells
inside-true : (a x b : ℕ) → a ≤ x → x ≤ b → within a x b ≡ true
inside-true a x b h k = T→true (within a x b) (→within a x b h k)

outside-false : (a x b : ℕ) → ((a ≤ x) × (x ≤ b) → ⊥) → within a x b ≡ false
outside-false a x b h = fails→false (within a x b) (λ t. h (within→ a x b t))

-- a number, from the tests that the code makes of its bytes
pub number-none : (text : List ℕ) (at : ℕ) → length text ≤ at → number_read text at ≡ None
unfolding number_from
number-none text at h = rw (drop_of_length-le text h)

pub number-zero : (text : List ℕ) (at : ℕ) → at < length text → get_or text at 0 ≡ 48
    → number_read text at ≡ Some (number_to 0 (at + 1))
unfolding number_from
number-zero text at h e = rw (add-one, drop-cons text at 0, eq-eqb (get_or text at 0) 48 e)

pub number-other : (text : List ℕ) (at : ℕ) → at < length text → ((48 ≤ get_or text at 0) × (get_or text at 0 ≤ 57) → ⊥)
    → number_read text at ≡ None
unfolding number_from
number-other text at h k =
    rw (
      drop-cons text at 0,
      ne_eqb (get_or text at 0) 48 (λ e. k (omega arith)),
      outside-false 49 (get_or text at 0) 57 (λ w. k (omega arith)),
    )

pub number-digit : (text : List ℕ) (at : ℕ) → at < length text → 49 ≤ get_or text at 0 → get_or text at 0 ≤ 57
    → number_read text at ≡ digits_behind (get_or text at 0 - 48) (at + 1) (drop (at + 1) text)
unfolding number_from
number-digit text at h l u =
    rw (
      add-one,
      drop-cons text at 0,
      ne_eqb (get_or text at 0) 48 (λ e. omega arith),
      inside-true 49 (get_or text at 0) 57 l u,
    )

pub digits-end : (text : List ℕ) (v k : ℕ) → length text ≤ k → digits_behind v k (drop k text) ≡ Some (number_to v k)
unfolding digits_behind
digits-end text v k h = rw (drop_of_length-le text h)

pub digits-stop : (text : List ℕ) (v k : ℕ) → k < length text → ((48 ≤ get_or text k 0) × (get_or text k 0 ≤ 57) → ⊥)
    → digits_behind v k (drop k text) ≡ Some (number_to v k)
unfolding digits_behind
digits-stop text v k h e = rw (drop-cons text k 0, outside-false 48 (get_or text k 0) 57 e)

pub digits_more : (text : List ℕ) (v k : ℕ) → k < length text → 48 ≤ get_or text k 0 → get_or text k 0 ≤ 57
    → digits_behind v k (drop k text) ≡ digits_behind (kept (v * 10 + (get_or text k 0 - 48))) (k + 1) (drop (k + 1) text)
unfolding digits_behind
digits_more text v k h l u = rw (add-one, drop-cons text k 0, inside-true 48 (get_or text k 0) 57 l u)

-- the first i bytes of the word stand at `at`, and what the rest of it shares with the rest of the text comes on top
abbrev pub SharedTo : List ℕ → List ℕ → ℕ → ℕ → Type 0
SharedTo word text at i = shared word (drop at text) ≡ i + shared (drop i word) (drop (at + i) text)

pub shared-first : (word text : List ℕ) (at : ℕ) → SharedTo word text at 0
shared-first word text at = rw (add-zero, zero-add)

pub shared-next : (word text : List ℕ) (at i : ℕ) → i < length word → at + i < length text
    → get_or text (at + i) 0 ≡ get_or word i 0 → SharedTo word text at i → SharedTo word text at (i + 1)
unfolding shared
shared-next word text at i h l e s = let r = same in omega arith
  where
    same : shared (drop i word) (drop (at + i) text) ≡ suc (shared (drop (i + 1) word) (drop (at + (i + 1)) text))
    same =
        rw (
          add-one i,
          add-suc at i,
          drop-cons word i 0,
          drop-cons text (at + i) 0,
          eq-eqb (get_or text (at + i) 0) (get_or word i 0) e,
        )

-- the three ways in which the word ends: where the text does, at another byte, or whole
shared-nothing : (word : List ℕ) → shared word [] ≡ 0
unfolding shared
shared-nothing [] = refl
shared-nothing (w ∷ ws) = refl

shared-ends : (word text : List ℕ) (at i : ℕ) → shared (drop i word) (drop (at + i) text) ≡ 0 → SharedTo word text at i
    → i ≡ shared word (drop at text)
shared-ends word text at i e s = omega arith

pub shared-cut : (word text : List ℕ) (at i : ℕ) → length text ≤ at + i → SharedTo word text at i
    → i ≡ shared word (drop at text)
shared-cut word text at i h =
    shared-ends word text at i (ap (shared (drop i word)) (drop_of_length-le text h) ∙ shared-nothing (drop i word))

pub shared-differs : (word text : List ℕ) (at i : ℕ) → i < length word → at + i < length text
    → (get_or text (at + i) 0 ≡ get_or word i 0 → ⊥) → SharedTo word text at i → i ≡ shared word (drop at text)
unfolding shared
shared-differs word text at i h l e =
    shared-ends word text at i (rw (
      drop-cons word i 0,
      drop-cons text (at + i) 0,
      ne_eqb (get_or text (at + i) 0) (get_or word i 0) e,
    ))

pub shared-whole : (word text : List ℕ) (at i : ℕ) → length word ≤ i → SharedTo word text at i
    → i ≡ shared word (drop at text)
unfolding shared
shared-whole word text at i h = shared-ends word text at i (rw (drop_of_length-le word h))

-- one byte of a line, by what the automaton does with it
line_on : (s s' : Stand) (ns ns' : List ℕ) (b k : ℕ) (bs : List ℕ) → line_step s ns b ≡ on s' ns'
    → line_from s ns k (b ∷ bs) ≡ line_from s' ns' (suc k) bs
unfolding line_from
line_on s s' ns ns' b k bs e = rw (e, line_from)

line-stuck : (s : Stand) (ns : List ℕ) (b k : ℕ) (bs : List ℕ) → line_step s ns b ≡ stuck
    → line_from s ns k (b ∷ bs) ≡ broken k
unfolding line_from
line-stuck s ns b k bs e = rw (e, line_from)

-- the line from behind the number n, of which the byte at k is no further digit
unfoldable pub behind : ℕ → List ℕ → ℕ → List ℕ → Lined
behind n ns k [] = broken k
behind n ns k (b ∷ bs) =
    elim (after_number n ns b) [
      | on s' ns' ↦ line_from s' ns' (suc k) bs
      | closed ns' ↦ lined ns' (suc k)
      | stuck ↦
          broken k
    ]

zero-behind : (ns : List ℕ) (k : ℕ) (bs : List ℕ) → line_from zero_read ns k bs ≡ behind 0 ns k bs
unfolding line_from line_step behind
zero-behind ns k [] = refl
zero-behind ns k (b ∷ bs) = refl

digits-behind : (n : ℕ) (ns : List ℕ) (b k : ℕ) (bs : List ℕ) → within 48 b 57 ≡ false
    → line_from (digits n) ns k (b ∷ bs) ≡ behind n ns k (b ∷ bs)
unfolding line_from line_step behind
digits-behind n ns b k bs e = rw (e, line_from)

digit-on : (n : ℕ) (ns : List ℕ) (b : ℕ) → within 48 b 57 ≡ true
    → line_step (digits n) ns b ≡ on (digits (n * 10 + (b - 48))) ns
unfolding line_step
digit-on n ns b e = rw e

-- a number of the line ends at j; it is kept as v, and the line goes on behind it
pub record Standing (text ns : List ℕ) (from : ℕ) (line : Lined) (v j : ℕ) : Type 0 where
  pub number : ℕ
  pub as-kept : v ≡ kept number
  pub later : from < j
  pub inside : j ≤ length text
  pub goes_on : line ≡ behind number ns j (drop j text)

-- what the number that is read at a place says of the line there
abbrev pub Tells : List ℕ → List ℕ → ℕ → Lined → Option Number → Type 0
Tells text ns from line None = line ≡ broken from
Tells text ns from line (Some n) = Standing text ns from line n.value n.next

-- the rest of the text begins with this byte
pub drop-next : (text : List ℕ) (k b : ℕ) (bs : List ℕ) → drop k text ≡ b ∷ bs → drop (suc k) text ≡ bs
drop-next [] zero b bs e = absurd (let z : ◌≡◌ {A = ℕ} 0 1 = cc in omega arith)
drop-next [] (suc k) b bs e = absurd (let z : ◌≡◌ {A = ℕ} 0 1 = cc in omega arith)
drop-next (x ∷ xs) zero b bs e = cc
drop-next (x ∷ xs) (suc k) b bs e = drop-next xs k b bs e

drop-inside : (text : List ℕ) (k b : ℕ) (bs : List ℕ) → drop k text ≡ b ∷ bs → k < length text
drop-inside [] zero b bs e = absurd (let z : ◌≡◌ {A = ℕ} 0 1 = cc in omega arith)
drop-inside [] (suc k) b bs e = absurd (let z : ◌≡◌ {A = ℕ} 0 1 = cc in omega arith)
drop-inside (x ∷ xs) zero b bs e = omega arith
drop-inside (x ∷ xs) (suc k) b bs e = let h = drop-inside xs k b bs e in omega arith

drop_head : (text : List ℕ) (k b : ℕ) (bs : List ℕ) → drop k text ≡ b ∷ bs → get_or text k 0 ≡ b
drop_head text k b bs e = let r = drop-cons text k 0 (drop-inside text k b bs e) in cc

-- behind digits that have the value n, kept as v: the exact number grows beside the kept one
digits-tell : (text ns : List ℕ) (from v n k : ℕ) (bs : List ℕ) → v ≡ kept n → from < k → k ≤ length text
    → drop k text ≡ bs → Tells text ns from (line_from (digits n) ns k bs) (digits_behind v k bs)
unfolding digits_behind line_from behind
digits-tell text ns from v n k [] e l i q = record { number = n; as-kept = e; later = l; inside = i; goes_on = rw q }
digits-tell text ns from v n k (b ∷ bs) e l i q =
    let more : Tells text ns from (line_from (digits (n * 10 + (b - 48))) ns (suc k) bs)
    (digits_behind (kept (v * 10 + (b - 48))) (suc k) bs)
    = digits-tell text ns from (kept (v * 10 + (b - 48))) (n * 10 + (b - 48)) (suc k) bs (omega arith) (omega arith)
    (drop-inside text k b bs q) (drop-next text k b bs q) in
    go (within 48 b 57) refl more
  where
    go : (t : Bool) → within 48 b 57 ≡ t → Tells text ns from (line_from (digits (n * 10 + (b - 48))) ns (suc k) bs)
        (digits_behind (kept (v * 10 + (b - 48))) (suc k) bs)
        → Tells text ns from (line_from (digits n) ns k (b ∷ bs))
        (cond t (digits_behind (kept (v * 10 + (b - 48))) (suc k) bs) (Some (number_to v k)))
    go true t more =
        subst (λ (line : Lined). Tells text ns from line (digits_behind (kept (v * 10 + (b - 48))) (suc k) bs))
        (sym (line_on (digits n) (digits (n * 10 + (b - 48))) ns ns b k bs (digit-on n ns b t))) more
    go false t more =
        record {
          number = n;
          as-kept = e;
          later = l;
          inside = i;
          goes_on = digits-behind n ns b k bs t
              ∙ ap (behind n ns k) (sym q);
        }

space-on : (ns : List ℕ) (b : ℕ) → eqb b 32 ≡ true → line_step (due []) ns b ≡ on (due []) ns
unfolding line_step
space-on ns b e = rw e

zero-on : (ns : List ℕ) (b : ℕ) → eqb b 32 ≡ false → eqb b 48 ≡ true → line_step (due []) ns b ≡ on zero_read ns
unfolding line_step first_digit
zero-on ns b s e = rw (s, e)

first_on : (ns : List ℕ) (b : ℕ) → eqb b 32 ≡ false → eqb b 48 ≡ false → within 49 b 57 ≡ true
    → line_step (due []) ns b ≡ on (digits (b - 48)) ns
unfolding line_step first_digit
first_on ns b s e h = rw (s, e, h)

first-stuck : (ns : List ℕ) (b : ℕ) → eqb b 32 ≡ false → eqb b 48 ≡ false → within 49 b 57 ≡ false
    → line_step (due []) ns b ≡ stuck
unfolding line_step first_digit
first-stuck ns b s e h = rw (s, e, h)

-- the number that is read at a byte other than a space says how the line goes on
number-from : (text ns : List ℕ) (k b : ℕ) (bs : List ℕ) → eqb b 32 ≡ false → drop k text ≡ b ∷ bs
    → Tells text ns k (line_from (due []) ns k (b ∷ bs)) (number_from k (b ∷ bs))
unfolding number_from
number-from text ns k b bs s q = go (eqb b 48) refl (within 49 b 57) refl
  where
    after : drop (suc k) text ≡ bs
    after = drop-next text k b bs q

    inside : suc k ≤ length text
    inside = drop-inside text k b bs q

    go : (t : Bool) → eqb b 48 ≡ t → (u : Bool) → within 49 b 57 ≡ u
        → Tells text ns k (line_from (due []) ns k (b ∷ bs))
        (cond t (Some (number_to 0 (suc k))) (cond u (digits_behind (b - 48) (suc k) bs) None))
    go true t u v =
        record {
          number = 0;
          as-kept = refl;
          later = omega arith;
          inside = inside;
          goes_on = line_on (due []) zero_read ns ns b k bs (zero-on ns b s t)
              ∙ (zero-behind ns (suc k) bs ∙ ap (behind 0 ns (suc k)) (sym after));
        }
    go false t true v =
        let w = within→ 49 b 57 (true→T (within 49 b 57) v) in
        subst (λ (line : Lined). Tells text ns k line (digits_behind (b - 48) (suc k) bs))
        (sym (line_on (due []) (digits (b - 48)) ns ns b k bs (first_on ns b s t v)))
        (digits-tell text ns k (b - 48) (b - 48) (suc k) bs (omega arith) (omega arith) inside after)
    go false t false v = line-stuck (due []) ns b k bs (first-stuck ns b s t v)

-- the spaces from k on are passed, and the number behind them says how the line goes on
found_from : (text ns : List ℕ) (k : ℕ) (bs : List ℕ) → drop k text ≡ bs
    → Tells text ns (spaces_end k bs) (line_from (due []) ns k bs) (number_read text (spaces_end k bs))
unfolding spaces_end number_from line_from
found_from text ns k [] q = rw q
found_from text ns k (b ∷ bs) q = go (eqb b 32) refl (found_from text ns (suc k) bs (drop-next text k b bs q))
  where
    go : (t : Bool) → eqb b 32 ≡ t
        → Tells text ns (spaces_end (suc k) bs) (line_from (due []) ns (suc k) bs) (number_read text (spaces_end (suc k) bs))
        → Tells text ns (cond t (spaces_end (suc k) bs) k) (line_from (due []) ns k (b ∷ bs))
        (number_read text (cond t (spaces_end (suc k) bs) k))
    go true t more =
        subst
        (λ (line : Lined). Tells text ns (spaces_end (suc k) bs) line (number_read text (spaces_end (suc k) bs)))
        (sym (line_on (due []) (due []) ns ns b k bs (space-on ns b t))) more
    go false t more = rw q (number-from text ns k b bs t q)

pub number-tells : (text ns : List ℕ) (k : ℕ)
    → Tells text ns (spaces_end k (drop k text)) (line_from (due []) ns k (drop k text))
    (number_read text (spaces_end k (drop k text)))
number-tells text ns k = found_from text ns k (drop k text) refl

-- the place behind the spaces is the end of their run
run-from : (text : List ℕ) (k : ℕ) (bs : List ℕ) → drop k text ≡ bs → RunOfSpaces text k (spaces_end k bs)
unfolding spaces_end
run-from text k [] q =
    record {
      later = omega arith;
      spaces = λ i l u. absurd (omega arith);
      no_more = λ h e. let z = length-drop k text in let n = ap length q in absurd (omega arith);
    }
run-from text k (b ∷ bs) q = go (eqb b 32) refl (run-from text (suc k) bs (drop-next text k b bs q))
  where
    go : (t : Bool) → eqb b 32 ≡ t → RunOfSpaces text (suc k) (spaces_end (suc k) bs)
        → RunOfSpaces text k (cond t (spaces_end (suc k) bs) k)
    go true t more =
        let h = more.later in
        record {
          later = omega arith;
          spaces = λ i l u. elim (dec_le (suc k) i) [
            | yes g ↦ more.spaces i g u
            | no g ↦
                let e : k ≡ i = omega arith in
                subst (λ (j : ℕ). get_or text j 0 ≡ 32) e (drop_head text k b bs q ∙ eqb→eq b 32 (true→T (eqb b 32) t))
          ];
          no_more = more.no_more;
        }
    go false t more =
        record {
          later = omega arith;
          spaces = λ i l u. absurd (omega arith);
          no_more = λ h e.
              let s = eq-eqb b 32 (sym (drop_head text k b bs q) ∙ e) in
              let z : ◌≡◌ {A = ℕ} 0 1 = cc in
              omega arith;
        }

pub spaces-run : (text : List ℕ) (k : ℕ) → RunOfSpaces text k (spaces_end k (drop k text))
spaces-run text k = run-from text k (drop k text) refl

-- the same, from the tests that the code makes of its bytes
pub spaces-none : (text : List ℕ) (k : ℕ) → length text ≤ k → spaces_end k (drop k text) ≡ k
unfolding spaces_end
spaces-none text k h = rw (drop_of_length-le text h)

pub spaces-stop : (text : List ℕ) (k : ℕ) → k < length text → (get_or text k 0 ≡ 32 → ⊥) → spaces_end k (drop k text) ≡ k
unfolding spaces_end
spaces-stop text k h e = rw (drop-cons text k 0, ne_eqb (get_or text k 0) 32 e)

pub spaces-more : (text : List ℕ) (k : ℕ) → k < length text → get_or text k 0 ≡ 32
    → spaces_end k (drop k text) ≡ spaces_end (k + 1) (drop (k + 1) text)
unfolding spaces_end
spaces-more text k h e = rw (add-one, drop-cons text k 0, eq-eqb (get_or text k 0) 32 e)

-- behind a number: the end of the text, a line feed, a carriage return, a space, or another byte
pub behind-end : (n : ℕ) (ns text : List ℕ) (j : ℕ) → length text ≤ j → behind n ns j (drop j text) ≡ broken j
unfolding behind
behind-end n ns text j h = rw (drop_of_length-le text h)

pub behind-feed : (n : ℕ) (ns text : List ℕ) (j : ℕ) → j < length text → get_or text j 0 ≡ 10
    → behind n ns j (drop j text) ≡ lined (ns ++ (n ∷ [])) (suc j)
unfolding behind after_number
behind-feed n ns text j h e =
    rw (drop-cons text j 0, ne_eqb (get_or text j 0) 32 (λ q. omega arith), eq-eqb (get_or text j 0) 10 e, behind)

pub behind-space : (n : ℕ) (ns text : List ℕ) (j : ℕ) → j < length text → get_or text j 0 ≡ 32
    → behind n ns j (drop j text) ≡ line_from (due []) (ns ++ (n ∷ [])) (suc j) (drop (suc j) text)
unfolding behind after_number
behind-space n ns text j h e = rw (drop-cons text j 0, eq-eqb (get_or text j 0) 32 e, behind)

pub behind-other : (n : ℕ) (ns text : List ℕ) (j : ℕ) → j < length text → (get_or text j 0 ≡ 10 → ⊥)
    → (get_or text j 0 ≡ 13 → ⊥) → (get_or text j 0 ≡ 32 → ⊥) → behind n ns j (drop j text) ≡ broken j
unfolding behind after_number
behind-other n ns text j h e f g =
    rw (
      drop-cons text j 0,
      ne_eqb (get_or text j 0) 32 g,
      ne_eqb (get_or text j 0) 10 e,
      ne_eqb (get_or text j 0) 13 f,
      behind,
    )

pub behind-return : (n : ℕ) (ns text : List ℕ) (j : ℕ) → j < length text → get_or text j 0 ≡ 13
    → behind n ns j (drop j text) ≡ line_from returned (ns ++ (n ∷ [])) (suc j) (drop (suc j) text)
unfolding behind after_number
behind-return n ns text j h e =
    rw (
      drop-cons text j 0,
      ne_eqb (get_or text j 0) 32 (λ q. omega arith),
      ne_eqb (get_or text j 0) 10 (λ q. omega arith),
      eq-eqb (get_or text j 0) 13 e,
      behind,
    )

-- behind a carriage return the code answers what the automaton reads, and a line that ends has just the numbers so far
pub returned-tells : (ns : List ℕ) (k : ℕ) (bs : List ℕ) → let l = line_from returned ns k bs in
    (feed_read (length ns) k bs ≡ line_read l) × ((row : List ℕ) (j : ℕ) → l ≡ lined row j → ns ≡ row)
unfolding line_from line_step line_read feed_read
returned-tells ns k [] = (refl, λ row j e. absurd (let z : ◌≡◌ {A = ℕ} 0 1 = cc in omega arith))
returned-tells ns k (b ∷ bs) = go (eqb b 10)
  where
    after : Bool → Lined
    after t =
        elim (cond t (closed ns) stuck)
        [ on s' ns' ↦ line_from s' ns' (suc k) bs | closed ns' ↦ lined ns' (suc k) | stuck ↦ broken k ]

    go : (t : Bool) → (cond t (Ok (line_to (length ns) (suc k))) (Err (stuck_at k)) ≡ line_read (after t))
        × ((row : List ℕ) (j : ℕ) → after t ≡ lined row j → ns ≡ row)
    go true = (refl, λ row j e. cc)
    go false = (refl, λ row j e. absurd (let z : ◌≡◌ {A = ℕ} 0 1 = cc in omega arith))

-- the line feed that is due, from the tests that the code makes
pub feed-none : (text : List ℕ) (count k : ℕ) → length text ≤ k → feed_read count k (drop k text) ≡ Err (stuck_at k)
unfolding feed_read
feed-none text count k h = rw (drop_of_length-le text h)

pub feed-missing : (text : List ℕ) (count k : ℕ) → k < length text → (get_or text k 0 ≡ 10 → ⊥)
    → feed_read count k (drop k text) ≡ Err (stuck_at k)
unfolding feed_read
feed-missing text count k h e = rw (drop-cons text k 0, ne_eqb (get_or text k 0) 10 e)

pub feed-there : (text : List ℕ) (count k : ℕ) → k < length text → get_or text k 0 ≡ 10
    → feed_read count k (drop k text) ≡ Ok (line_to count (k + 1))
unfolding feed_read
feed-there text count k h e = rw (add-one, drop-cons text k 0, eq-eqb (get_or text k 0) 10 e)

-- a word that stands whole is passed, and any other breaks the line where it ends
due-on : (d : ℕ) (ds ns : List ℕ) (b : ℕ) → eqb b d ≡ true → line_step (due (d ∷ ds)) ns b ≡ on (due ds) ns
unfolding line_step
due-on d ds ns b e = rw e

due-stuck : (d : ℕ) (ds ns : List ℕ) (b : ℕ) → eqb b d ≡ false → line_step (due (d ∷ ds)) ns b ≡ stuck
unfolding line_step
due-stuck d ds ns b e = rw e

pub word-passed : (ds ns : List ℕ) (k : ℕ) (bs : List ℕ) → shared ds bs ≡ length ds
    → line_from (due ds) ns k bs ≡ line_from (due []) ns (k + length ds) (drop (length ds) bs)
unfolding shared
word-passed [] ns k bs h = rw add-zero
word-passed (d ∷ ds) ns k [] h = absurd (omega arith)
word-passed (d ∷ ds) ns k (b ∷ bs) h = go (eqb b d) refl h (λ q. word-passed ds ns (suc k) bs q)
  where
    go : (t : Bool) → eqb b d ≡ t → cond t (suc (shared ds bs)) 0 ≡ suc (length ds)
        → (shared ds bs ≡ length ds → line_from (due ds) ns (suc k) bs ≡ line_from (due []) ns (suc k + length ds)
        (drop (length ds) bs)) → line_from (due (d ∷ ds)) ns k (b ∷ bs) ≡ line_from (due []) ns (k + suc (length ds))
        (drop (length ds) bs)
    go true t q more =
        line_on (due (d ∷ ds)) (due ds) ns ns b k bs (due-on d ds ns b t)
        ∙ (more (omega arith) ∙ ap (λ (j : ℕ). line_from (due []) ns j (drop (length ds) bs)) (omega arith))
    go false t q more = absurd (omega arith)

pub word-broken : (ds ns : List ℕ) (k : ℕ) (bs : List ℕ) → shared ds bs < length ds
    → line_from (due ds) ns k bs ≡ broken (k + shared ds bs)
unfolding shared line_from
word-broken [] ns k bs h = absurd (omega arith)
word-broken (d ∷ ds) ns k [] h = rw add-zero
word-broken (d ∷ ds) ns k (b ∷ bs) h = go (eqb b d) refl h (λ q. word-broken ds ns (suc k) bs q)
  where
    go : (t : Bool) → eqb b d ≡ t → cond t (suc (shared ds bs)) 0 < suc (length ds)
        → (shared ds bs < length ds → line_from (due ds) ns (suc k) bs ≡ broken (suc k + shared ds bs))
        → line_from (due (d ∷ ds)) ns k (b ∷ bs) ≡ broken (k + cond t (suc (shared ds bs)) 0)
    go true t q more =
        line_on (due (d ∷ ds)) (due ds) ns ns b k bs (due-on d ds ns b t)
        ∙ (more (omega arith) ∙ ap broken (omega arith))
    go false t q more = line-stuck (due (d ∷ ds)) ns b k bs (due-stuck d ds ns b t) ∙ ap broken (omega arith)

pub shared-within : (ds bs : List ℕ) → (shared ds bs ≤ length ds) × (shared ds bs ≤ length bs)
unfolding shared
shared-within [] bs = (omega arith, omega arith)
shared-within (d ∷ ds) [] = (omega arith, omega arith)
shared-within (d ∷ ds) (b ∷ bs) = go (eqb b d) (shared-within ds bs)
  where
    go : (t : Bool) → (shared ds bs ≤ length ds) × (shared ds bs ≤ length bs)
        → (cond t (suc (shared ds bs)) 0 ≤ suc (length ds)) × (cond t (suc (shared ds bs)) 0 ≤ suc (length bs))
    go true h = omega arith
    go false h = (omega arith, omega arith)

-- a line ends within the text
pub lined-within : (s : Stand) (ns : List ℕ) (k : ℕ) (bs : List ℕ) {row : List ℕ} {j : ℕ}
    → line_from s ns k bs ≡ lined row j → j ≤ k + length bs
unfolding line_from
lined-within s ns k [] e = absurd (let z : ◌≡◌ {A = ℕ} 0 1 = cc in omega arith)
lined-within s ns k (b ∷ bs) {row} {j} e = go (line_step s ns b) e (λ s' ns' q. lined-within s' ns' (suc k) bs q)
  where
    go : (o : LineStep) → elim o [
      | on s' ns' ↦ line_from s' ns' (suc k) bs
      | closed ns' ↦ lined ns' (suc k)
      | stuck ↦
          broken k
    ] ≡ lined row j → ((s' : Stand) (ns' : List ℕ) → line_from s' ns' (suc k) bs ≡ lined row j
        → j ≤ suc k + length bs) → j ≤ k + suc (length bs)
    go (on s' ns') q more = let h = more s' ns' q in omega arith
    go (closed ns') q more = let r : suc k ≡ j = cc in omega arith
    go stuck q more = absurd (let z : ◌≡◌ {A = ℕ} 0 1 = cc in omega arith)
