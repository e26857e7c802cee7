-- A reader opened over a file that opens answers each piece of its layout under its number, counted from 1; under every
-- other number, and under any number of bytes that do not open, it refuses.
use Rattle.std.specs.Prelude.{ℕ, zero, suc, ◌≤◌, ◌<◌, ◌≡◌, refl, List, ◌⊎◌, leb, Ok, Err}
use Rattle.std.proofs.Common.{arith, sym, ◌∙◌, inl, inr, ⊎_elim, leb→le, le→leb}
use Rattle.std.proofs.Math.Option.{none, some}
use Rattle.std.proofs.Math.ListN.{get_elem?}
use Rattle.lists.specs.Lists.{within}
use Rattle.lists.specs.Tests.{T→true, fails→false, passes?, within→, →within}
use Rattle.refusal.specs.declared.Refusal.{Refusal}
use Rattle.refusal.specs.declared.Refusal.TheVariants.{BadField}
use Rattle.refusal.specs.Refusals.{answered}
use Rattle.grid.specs.declared.Piece.{Piece}
use Rattle.boardfile.specs.Open.{file_count, file_layout, open_refusal, open_answer, piece_answer}
use Rattle.boardfile.specs.Reading.{piece-numbered, no-piece-numbered}
use Rattle.board_reader.specs.Reader.{count_in, reader_count, reader_piece, read_answer}

-- the count of a file that opens is the header's; of one that does not, 0
pub opened-count : (bs : List ℕ) → open_refusal bs ≡ none → reader_count bs ≡ file_count bs
unfolding reader_count count_in open_answer answered
opened-count bs h = rw (h, answered, count_in)

pub refused-count : (bs : List ℕ) (r : Refusal) → open_refusal bs ≡ some r → reader_count bs ≡ 0
unfolding reader_count count_in open_answer answered
refused-count bs r h = rw (h, answered, count_in)

-- a number outside of the count is refused with that number
pub outside : (bs : List ℕ) (count n : ℕ) → ((n ≡ 0) ⊎ (count < n)) → reader_piece bs count n ≡ Err (BadField n)
unfolding reader_piece
outside bs count n h =
    rw (fails→false (within 1 n count) (λ t. let w = within→ 1 n count t in let low = w.0 in let high = w.1 in
    ⊎_elim (λ e. absurd (omega arith)) (λ l. absurd (omega arith)) h))

-- and one within is answered as the file has it
pub inside : (bs : List ℕ) (count n : ℕ) → 1 ≤ n → n ≤ count → reader_piece bs count n ≡ piece_answer bs n
unfolding reader_piece
inside bs count n low high = rw (T→true (within 1 n count) (→within 1 n count low high))

-- a number is outside of a count or within
outside-or-inside : (count n : ℕ) → ((n ≡ 0) ⊎ (count < n)) ⊎ ((1 ≤ n) × (n ≤ count))
outside-or-inside count zero = inl (inl refl)
outside-or-inside count (suc n) =
    ⊎_elim (λ t. inr (omega arith, leb→le (suc n) count t))
    (λ f. inl (inr (let no : suc n ≤ count → ⊥ = λ l. f (le→leb (suc n) count l) in omega arith)))
    (passes? (leb (suc n) count))

-- by the header's count a file that opens is answered at each number as the file has it
as-filed : (bs : List ℕ) → open_refusal bs ≡ none → (n : ℕ) → reader_piece bs (file_count bs) n ≡ piece_answer bs n
as-filed bs h n =
    ⊎_elim (λ out. outside bs (file_count bs) n out ∙ sym (no-piece-numbered bs h n out))
    (λ w. inside bs (file_count bs) n w.0 w.1) (outside-or-inside (file_count bs) n)

-- the n-th piece of a file that opens
pub reads : (bs : List ℕ) → open_refusal bs ≡ none → (n : ℕ) (p : Piece) → get_elem? (file_layout bs).pieces n ≡ some p
    → read_answer bs (suc n) ≡ Ok p
reads bs h n p at = rw (opened-count bs h) (as-filed bs h (suc n) ∙ piece-numbered bs h n p at)

-- every other number, and bytes that do not open
pub reads-no-other : (bs : List ℕ) (n : ℕ) → ((n ≡ 0) ⊎ (reader_count bs < n)) → read_answer bs n ≡ Err (BadField n)
reads-no-other bs n h = outside bs (reader_count bs) n h

pub reads-none-refused : (bs : List ℕ) (r : Refusal) → open_refusal bs ≡ some r → (n : ℕ)
    → read_answer bs n ≡ Err (BadField n)
reads-none-refused bs r h n =
    rw (refused-count bs r h) (outside bs 0 n (⊎_elim (λ out. out) (λ w. let low = w.0 in inr (omega arith))
    (outside-or-inside 0 n)))
