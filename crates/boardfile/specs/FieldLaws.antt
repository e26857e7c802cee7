-- What an open board file has: its length, its width and its spare bit are right, and so is each piece's word. It opens
-- exactly then.
use Rattle.std.specs.Prelude.{ℕ, zero, suc, ◌+◌, ◌*◌, ◌≤◌, ◌<◌, ◌≡◌, Bool, ◌||◌, not, length, ltb, eqb}
use native.Mathlib.Omega.{arith}
use Rattle.std.proofs.Common.{sym, ap, subst, ◌∙◌}
use mathlib.Core.List.{List, Memᴰ}
use Rattle.std.proofs.Math.Logic.{⊎_elim}
use Rattle.std.proofs.Math.Option.{none, some, none-ne-some, some-injective}
use Rattle.std.proofs.Math.ListN.{get_elem?}
use Rattle.std.proofs.Math.Dec.{T, ltb→lt, eqb→eq, eqb_refl}
use Rattle.lists.specs.Lists.{keep, up_to, within}
use Rattle.lists.specs.Tests.{passes?, not-passes, not-fails, or_cases, or_left, or_right, within→, →within}
use Rattle.lists.specs.Members.{up_to-member, in-up_to}
use Rattle.lists.specs.Ranges.{member-place, none-kept→fails, fails→none-kept}
use Rattle.refusal.specs.declared.Refusal.TheVariants.{Torn, BadField}
use Rattle.refusal.specs.Refusals.{refuse_if, refuse_at_first}
use Rattle.refusal.specs.ChainLaws.{or_else_none, none-or-else, refuse-if-none, none-refuse-if, refuse-at-first-none}
use Rattle.refusal.specs.ChainLaws.{none-refuse-at-first}
use Rattle.grid.specs.declared.Piece.{Piece}
use Rattle.grid.specs.Pieces.{OnGrid}
use Rattle.grid.specs.WordLaws.{right→on-grid}
use Rattle.boardfile.specs.Open.{word_at, header_of, fields_of, file_width, file_tracks, file_count, file_spare}
use Rattle.boardfile.specs.Open.{word_right, piece_of, torn, bad_field, open_refusal, pieces_from, file_layout}

-- what the refusals of opening, all silent, say together
pub record Opened (bs : List ℕ) : Type 0 where
  pub long : length bs ≡ 4 + 4 * file_count bs
  pub wide : 1 ≤ file_width bs
  pub narrow : file_width bs ≤ 512
  pub spare : file_spare bs ≡ 0
  pub right : (i : ℕ) → 1 ≤ i → i ≤ file_count bs → T (word_right (file_width bs) (file_tracks bs) (word_at bs (4 * i)))

-- the fields that the code counts with are small
pub header-small : (v : ℕ) → ((header_of v).tracks < 512) × ((header_of v).count < 4096) × ((header_of v).spare < 2)
unfolding header_of
header-small v = omega arith

fails→passes : (b : Bool) → (T (not b) → ⊥) → T b
fails→passes b h = ⊎_elim (λ t. t) (λ k. absurd (h (not-passes b k))) (passes? b)

module _ (bs : List ℕ) where
  -- the conditions of the chain, as it asks them
  wrong_length : Bool
  wrong_length = not (eqb (length bs) (4 + 4 * file_count bs))

  wrong_header : Bool
  wrong_header = not (within 1 (file_width bs) 512) || eqb (file_spare bs) 1

  wrong_word : ℕ → Bool
  wrong_word i = not (word_right (file_width bs) (file_tracks bs) (word_at bs (4 * i)))

  spare-0 : (T (eqb (file_spare bs) 1) → ⊥) → file_spare bs ≡ 0
  unfolding file_spare
  spare-0 h =
      let s = (header-small (word_at bs 0)).2 in
      let apart : file_spare bs ≡ 1 → ⊥ = λ e. h (subst (λ (n : ℕ). T (eqb n 1)) (sym e) tt) in
      omega arith

  pub opened : open_refusal bs ≡ none → Opened bs
  unfolding open_refusal torn bad_field wrong_length wrong_header wrong_word
  opened h =
      let parts = or_else_none (torn bs) (bad_field bs) h in
      let lengths = or_else_none (refuse_if (ltb (length bs) 4) (Torn 4))
      (refuse_if wrong_length (Torn (4 + 4 * file_count bs))) parts.0 in
      let fields = or_else_none (refuse_if wrong_header (BadField 0))
      (refuse_at_first BadField (keep wrong_word (up_to (file_count bs)))) parts.1 in
      let head = refuse-if-none wrong_header (BadField 0) fields.0 in
      let wide = within→ 1 (file_width bs) 512 (fails→passes (within 1 (file_width bs) 512)
      (λ t. head (or_left (not (within 1 (file_width bs) 512)) (eqb (file_spare bs) 1) t))) in
      record {
        long =
            eqb→eq (length bs) (4 + 4 * file_count bs) (fails→passes (eqb (length bs) (4 + 4 * file_count bs))
            (refuse-if-none wrong_length (Torn (4 + 4 * file_count bs)) lengths.1));
        wide = wide.0;
        narrow = wide.1;
        spare = spare-0 (λ t. head (or_right (not (within 1 (file_width bs) 512)) (eqb (file_spare bs) 1) t));
        right =
            λ i h₁ h₂. fails→passes (word_right (file_width bs) (file_tracks bs) (word_at bs (4 * i)))
            (none-kept→fails wrong_word (refuse-at-first-none BadField (keep wrong_word (up_to (file_count bs)))
            fields.1) (in-up_to (file_count bs) i h₁ h₂));
      }

  pub opens : Opened bs → open_refusal bs ≡ none
  unfolding open_refusal torn bad_field wrong_length wrong_header wrong_word
  opens o =
      let long = o.long in
      let spare = o.spare in
      none-or-else (torn bs) (bad_field bs)
      (none-or-else (refuse_if (ltb (length bs) 4) (Torn 4)) (refuse_if wrong_length (Torn (4 + 4 * file_count bs)))
      (none-refuse-if (ltb (length bs) 4) (Torn 4) (λ t. let l = ltb→lt (length bs) 4 t in absurd (omega arith)))
      (none-refuse-if wrong_length (Torn (4 + 4 * file_count bs))
      (λ t. not-fails (eqb (length bs) (4 + 4 * file_count bs)) t (rw long (eqb_refl (4 + 4 * file_count bs))))))
      (none-or-else (refuse_if wrong_header (BadField 0)) (refuse_at_first BadField (keep wrong_word (up_to (file_count bs))))
      (none-refuse-if wrong_header (BadField 0) (λ t.
      ⊎_elim (λ k. not-fails (within 1 (file_width bs) 512) k (→within 1 (file_width bs) 512 o.wide o.narrow))
      (λ k. let e = eqb→eq (file_spare bs) 1 k in absurd (omega arith))
      (or_cases (not (within 1 (file_width bs) 512)) (eqb (file_spare bs) 1) t)))
      (none-refuse-at-first BadField (keep wrong_word (up_to (file_count bs)))
      (fails→none-kept wrong_word (up_to (file_count bs))
      (λ i m t. let r = up_to-member (file_count bs) m in
      not-fails (word_right (file_width bs) (file_tracks bs) (word_at bs (4 * i))) t (o.right i r.0 r.1)))))

-- the piece at a place of the list is that of the word at that place of the file
pub piece-at : (bs : List ℕ) (i n k : ℕ) (p : Piece) → get_elem? (pieces_from bs i n) k ≡ some p
    → (k < n) × (piece_of (word_at bs (i + 4 * k)) ≡ p)
unfolding pieces_from
piece-at bs i zero k p e = absurd (none-ne-some p e)
piece-at bs i (suc n) zero p e = (
  omega arith,
  ap (λ (j : ℕ). piece_of (word_at bs j)) (omega arith)
      ∙ some-injective (piece_of (word_at bs i)) p e,
)
piece-at bs i (suc n) (suc k) p e =
    let r = piece-at bs (i + 4) n k p e in let l = r.0 in
    (omega arith, ap (λ (j : ℕ). piece_of (word_at bs j)) (omega arith) ∙ r.1)

pub opened-on-grid : (bs : List ℕ) → open_refusal bs ≡ none → (p : Piece) → Memᴰ p (file_layout bs).pieces
    → OnGrid (file_width bs) (file_tracks bs) p
unfolding file_layout piece_of word_right
opened-on-grid bs h p m =
    let place = member-place m in
    let k = place.0 in
    let r = piece-at bs 4 (file_count bs) k p place.1 in
    let l = r.0 in
    let f = fields_of (word_at bs (4 * suc k)) in
    let e : 4 * suc k ≡ 4 + 4 * k = omega arith in
    let right = (opened bs h).right (suc k) (omega arith) (omega arith) in
    subst (OnGrid (file_width bs) (file_tracks bs)) (ap (λ (j : ℕ). piece_of (word_at bs j)) e ∙ r.1)
    (right→on-grid (file_width bs) (file_tracks bs) f.kind f.line f.from f.to right)

pub opened-width : (bs : List ℕ) → open_refusal bs ≡ none → (1 ≤ file_width bs) × (file_width bs ≤ 512)
opened-width bs h = let o = opened bs h in (o.wide, o.narrow)

pub opened-length : (bs : List ℕ) → open_refusal bs ≡ none → length bs ≡ 4 + 4 * file_count bs
opened-length bs h = (opened bs h).long
