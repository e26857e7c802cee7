-- What the code learns on its way, turned into the answers: the first bad piece from the pieces passed, and the answer
-- of opening from the header and the tests on it.
use Rattle.std.specs.Prelude.{ℕ, ◌+◌, ◌*◌, ◌≤◌, ◌<◌, ◌≡◌, refl, List, ◌⊎◌, Bool, true, false, cond, not, ◌||◌, length, T, eqb, find, Option, Some, None, Ok, Err}
use Rattle.std.specs.Option.{is_some}
use Rattle.std.proofs.Common.{arith, sym, inl, inr}
use Rattle.std.proofs.Math.Path.{ap}
use Rattle.std.proofs.Math.Logic.{⊎_elim}
use Rattle.std.proofs.Math.Decide.{dec_le}
use borrow.Author.Tests.{lt-ltb, le-ltb, le-leb, lt-leb, eq-eqb, ne_eqb}
use Rattle.lists.specs.Lists.{up_to, within}
use Rattle.lists.specs.Finds.{lowest-found, found-none, none-found}
use Rattle.lists.specs.Tests.{true→T, T→true, false→fails, not-passes, not-fails, or_right, passes?}
use Rattle.refusal.specs.declared.Refusal.TheVariants.{Torn, BadField}
use Rattle.refusal.specs.Refusals.{refuse_if, ◌or_else◌, answered}
use Rattle.refusal.specs.ChainLaws.{answered-none, refuse-found}
use Rattle.boardfile.specs.declared.Header.{Header}
use Rattle.boardfile.specs.Open.{word_at, header_of, file_width, file_tracks, file_count, file_spare}
use Rattle.boardfile.specs.Open.{word_right, torn, bad_field, open_refusal, open_answer}
use Rattle.boardfile.specs.Code.{wrong_piece}
use Rattle.boardfile.specs.FieldLaws.{header-small, Opened, opens}

header-wrong : (w spare : ℕ) → ((w < 1) ⊎ ((512 < w) ⊎ (spare ≡ 1))) → (not (within 1 w 512) || eqb spare 1) ≡ true
header-wrong w spare (inl low) = rw (lt-leb 1 w low)
header-wrong w spare (inr (inl high)) = rw (le-leb 1 w (omega arith), lt-leb w 512 high)
header-wrong w spare (inr (inr set)) =
    T→true (not (within 1 w 512) || eqb spare 1)
    (or_right (not (within 1 w 512)) (eqb spare 1) (true→T (eqb spare 1) (eq-eqb spare 1 set)))

-- a piece is made of a word exactly if the word is right
pub some-made : {A : Type 0} (b : Bool) (x : A) → is_some (cond b (Some x) None) ≡ b
some-made true x = refl
some-made false x = refl

module _ (bs : List ℕ) (w t n : ℕ) where
  -- the word of this piece, and of each before it
  abbrev right : ℕ → Bool
  right i = word_right w t (word_at bs (4 * i))

  abbrev pub RightBelow : ℕ → Type 0
  RightBelow i = (k : ℕ) → k < i → 1 ≤ k → right k ≡ true

  pub first-bad-at : (i : ℕ) → 1 ≤ i → i ≤ n → RightBelow i → right i ≡ false
      → Some i ≡ find (wrong_piece bs w t) (up_to n)
  first-bad-at i low high before bad =
      lowest-found (wrong_piece bs w t) n (record {
        holds = record {
          low = low;
          high = omega arith;
          passes = not-passes (right i) (false→fails (right i) bad);
        };
        lowest = λ k p. elim (dec_le i k) [
          | yes h ↦ h
          | no h ↦ absurd (not-fails (right k) p.passes (true→T (right k) (before k (omega arith) p.low)))
        ];
      })

  pub none-bad : RightBelow (n + 1) → None ≡ find (wrong_piece bs w t) (up_to n)
  none-bad all =
      found-none (wrong_piece bs w t) n (λ k p. let high = p.high in
      not-fails (right k) p.passes (true→T (right k) (all k (omega arith) p.low)))

  -- where there is no first bad piece, every piece is right
  all_right : None ≡ find (wrong_piece bs w t) (up_to n) → (i : ℕ) → 1 ≤ i → i ≤ n → T (right i)
  all_right e i low high =
      ⊎_elim (λ p. p)
      (λ p. absurd (none-found (wrong_piece bs w t) n (sym e) i
      (record { low = low; high = omega arith; passes = not-passes (right i) p })))
      (passes? (right i))

-- opening, from the header that the code read
module _ (bs : List ℕ) (h : Header) (head : h ≡ header_of (word_at bs 0)) where
  width_is : file_width bs ≡ h.width
  unfolding file_width
  width_is = ap (λ (k : Header). k.width) (sym head)

  tracks-is : file_tracks bs ≡ h.tracks
  unfolding file_tracks
  tracks-is = ap (λ (k : Header). k.tracks) (sym head)

  pub count-is : file_count bs ≡ h.count
  unfolding file_count
  count-is = ap (λ (k : Header). k.count) (sym head)

  spare-is : file_spare bs ≡ h.spare
  unfolding file_spare
  spare-is = ap (λ (k : Header). k.spare) (sym head)

  pub small : (h.tracks < 512) × (h.count < 4096) × (h.spare < 2)
  small = rw head (header-small (word_at bs 0))

  pub open-torn : 4 ≤ length bs → (length bs ≡ 4 + 4 * h.count → ⊥)
      → open_answer bs ≡ Err (Torn (4 + 4 * h.count))
  unfolding open_answer open_refusal torn refuse_if ◌or_else◌ answered
  open-torn long other = rw (count-is, le-ltb (length bs) 4 long, ne_eqb (length bs) (4 + 4 * h.count) other)

  -- the length is right: opening goes on to the fields
  module _ (due : length bs ≡ 4 + 4 * h.count) where
    pub open-header : ((h.width < 1) ⊎ ((512 < h.width) ⊎ (h.spare ≡ 1)))
        → open_answer bs ≡ Err (BadField 0)
    unfolding open_answer open_refusal torn bad_field refuse_if ◌or_else◌ answered
    open-header bad =
        rw (
          count-is,
          width_is,
          spare-is,
          le-ltb (length bs) 4 (omega arith),
          eq-eqb (length bs) (4 + 4 * h.count) due,
          header-wrong h.width h.spare bad,
        )

    module _ (low : 1 ≤ h.width) (high : h.width ≤ 512) (unset : h.spare ≡ 1 → ⊥) where
      abbrev pub bad : Option ℕ
      bad = find (wrong_piece bs h.width h.tracks) (up_to h.count)

      pub open-piece : {p : ℕ} → Some p ≡ bad → open_answer bs ≡ Err (BadField p)
      unfolding open_answer open_refusal torn bad_field refuse_if ◌or_else◌ answered
      open-piece {p} e =
          rw (
            count-is,
            width_is,
            tracks-is,
            spare-is,
            le-ltb (length bs) 4 (omega arith),
            eq-eqb (length bs) (4 + 4 * h.count) due,
            le-leb 1 h.width low,
            le-leb h.width 512 high,
            ne_eqb h.spare 1 unset,
            refuse-found BadField (wrong_piece bs h.width h.tracks) (up_to h.count) (sym e),
          )

      pub open-whole : None ≡ bad
          → open_answer bs ≡ Ok (record { width = h.width; tracks = h.tracks; count = h.count })
      unfolding open_answer
      open-whole none =
          let s = small.2 in
          let o : Opened bs =
          record {
            long = rw count-is due;
            wide = rw width_is low;
            narrow = rw width_is high;
            spare = rw spare-is (omega arith);
            right = rw (count-is, width_is, tracks-is) (all_right bs h.width h.tracks h.count none);
          } in
          rw (count-is, width_is, tracks-is) (answered-none Err (open_refusal bs) _ (opens bs o))

pub open-short : (bs : List ℕ) → length bs < 4 → open_answer bs ≡ Err (Torn 4)
unfolding open_answer open_refusal torn refuse_if ◌or_else◌ answered
open-short bs h = rw (lt-ltb (length bs) 4 h)
