-- What the reader answers of any file, by whether it holds the whole right word of a piece of that number; and so of an
-- open file: each piece of its layout under its number, counted from 1, and a refusal under every other number.
use Rattle.std.specs.Prelude.{ℕ, suc, ◌+◌, ◌*◌, ◌≤◌, ◌<◌, ◌≡◌, List, ◌⊎◌, Bool, ◌&&◌, length, T, leb, Result, Ok, Err}
use Rattle.std.proofs.Common.{arith, ap, ◌∙◌, ⊎_elim, le→leb}
use Rattle.std.proofs.Math.Option.{none, some}
use Rattle.std.proofs.Math.ListN.{get_elem?}
use Rattle.std.proofs.Math.Dec.{leb→le}
use Rattle.lists.specs.Lists.{within}
use Rattle.lists.specs.Tests.{T→true, fails→false, and_left, and_right, and_both, within→, →within}
use Rattle.refusal.specs.declared.Refusal.{Refusal}
use Rattle.refusal.specs.declared.Refusal.TheVariants.{BadField}
use Rattle.grid.specs.declared.Piece.{Piece}
use Rattle.boardfile.specs.Open.{word_at, file_width, file_tracks, file_count, word_right, piece_of, open_refusal}
use Rattle.boardfile.specs.Open.{file_layout, piece_answer}
use Rattle.boardfile.specs.FieldLaws.{Opened, opened, piece-at}

-- the file holds the whole word of a piece of this number, and the word is right
pub record Readable (bs : List ℕ) (n : ℕ) : Type 0 where
  pub numbered : 1 ≤ n
  pub counted : n ≤ file_count bs
  pub whole : 4 * n + 4 ≤ length bs
  pub right : T (word_right (file_width bs) (file_tracks bs) (word_at bs (4 * n)))

module _ (bs : List ℕ) (n : ℕ) where
  -- the condition of the answer, as it asks it
  reach : Bool
  reach = within 1 n (file_count bs)

  held : Bool
  held = leb (4 * n + 4) (length bs)

  fits : Bool
  fits = word_right (file_width bs) (file_tracks bs) (word_at bs (4 * n))

  pub found : Readable bs n → piece_answer bs n ≡ Ok (piece_of (word_at bs (4 * n)))
  unfolding piece_answer reach held fits
  found r =
      rw (T→true (reach && (held && fits)) (and_both reach (held && fits)
      (→within 1 n (file_count bs) r.numbered r.counted)
      (and_both held fits (le→leb (4 * n + 4) (length bs) r.whole) r.right)))

  readable : T (reach && (held && fits)) → Readable bs n
  unfolding reach held fits
  readable t =
      let inside = within→ 1 n (file_count bs) (and_left reach (held && fits) t) in
      let rest = and_right reach (held && fits) t in
      record {
        numbered = inside.0;
        counted = inside.1;
        whole = leb→le (4 * n + 4) (length bs) (and_left held fits rest);
        right = and_right held fits rest;
      }

  pub refused : (Readable bs n → ⊥) → piece_answer bs n ≡ Err (BadField n)
  unfolding piece_answer reach held fits
  refused h = rw (fails→false (reach && (held && fits)) (λ t. h (readable t)))

  open-readable : Opened bs → 1 ≤ n → n ≤ file_count bs → Readable bs n
  open-readable o h k =
      record { numbered = h; counted = k; whole = let long = o.long in omega arith; right = o.right n h k }

pub piece-numbered : (bs : List ℕ) → open_refusal bs ≡ none → (n : ℕ) (p : Piece)
    → get_elem? (file_layout bs).pieces n ≡ some p → piece_answer bs (suc n) ≡ Ok p
unfolding file_layout
piece-numbered bs h n p e =
    let r = piece-at bs 4 (file_count bs) n p e in
    let l = r.0 in
    let m : 4 * suc n ≡ 4 + 4 * n = omega arith in
    found bs (suc n) (open-readable bs (suc n) (opened bs h) (omega arith) l)
    ∙ ap {B = Result Piece Refusal} Ok (ap (λ (j : ℕ). piece_of (word_at bs j)) m ∙ r.1)

pub no-piece-numbered : (bs : List ℕ) → open_refusal bs ≡ none → (n : ℕ) → ((n ≡ 0) ⊎ (file_count bs < n))
    → piece_answer bs n ≡ Err (BadField n)
no-piece-numbered bs h n out =
    refused bs n (λ r. let low = r.numbered in let high = r.counted in
    ⊎_elim (λ e. absurd (omega arith)) (λ l. absurd (omega arith)) out)
