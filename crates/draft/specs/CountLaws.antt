-- The count of a column is the number of nets that are marked in it: its eight words have the marks of the nets 0 to
-- 511, each word those of the next 64.
use Prim.Native.Nat.{ℕ, zero, suc, ◌+◌, ◌-◌, ◌*◌, ◌/◌, ◌%◌, ◌≤◌, ◌<◌}
use native.Mathlib.Omega.{arith}
use Rattle.std.specs.Prelude.{◌≡◌, List, [], ◌∷◌, ◌++◌, length, get_or, take, T}
use Rattle.std.proofs.Math.Path.{refl, ap, ap₂}
use Rattle.std.proofs.Common.{sym, ◌∙◌, take-suc, get_or-drop}
use Rattle.std.proofs.Math.ListN.{drop, length-drop}
use Rattle.std.specs.Int.Count.{ones}
use Rattle.lists.specs.Lists.{keep, from, within}
use Rattle.lists.specs.Tests.{T→true, fails→false, →within}
use Rattle.lists.specs.Members.{from_member}
use Rattle.lists.specs.Tallies.{keep_same}
use Rattle.lists.specs.Parts.{kept-two}
use Rattle.channel.specs.Channel.{widest}
use Rattle.draft.specs.Marks.{LongDraft, IsColumn, is_set, marked, marks_of, column_words, count_of}
use Rattle.draft.specs.BitLaws.{ones-counted}
use Rattle.draft.specs.MarkLaws.{Words64}

-- the marks of words end to end
pub marks-append : (xs ys : List ℕ) → marks_of (xs ++ ys) ≡ marks_of xs + marks_of ys
unfolding marks_of
marks-append [] ys = omega arith
marks-append (x ∷ xs) ys = omega (arith, marks-append xs ys)

marks-snoc : (ws : List ℕ) (w : ℕ) → marks_of (ws ++ (w ∷ [])) ≡ marks_of ws + ones w
unfolding marks_of
marks-snoc ws w = omega (arith, marks-append ws (w ∷ []))

-- a column's count, inside 1 to 512 and outside
pub count-inside : (words : List ℕ) (c : ℕ) → IsColumn c → count_of words c ≡ marks_of (column_words words c)
unfolding count_of
count-inside words c column = rw (T→true (within 1 c widest) (→within 1 c widest column.0 column.1))

pub count-outside : (words : List ℕ) (c : ℕ) → (T (within 1 c widest) → ⊥) → count_of words c ≡ 0
unfolding count_of
count-outside words c out = rw (fails→false (within 1 c widest) out)

module _ (words : List ℕ) (c : ℕ) (sized : Words64 words) (long : LongDraft words) (column : IsColumn c) where
  abbrev word_at : ℕ → ℕ
  word_at k = get_or words ((c - 1) * 8 + k) 0

  -- digit j of word k is the mark of net k * 64 + j
  mark_of : (k j : ℕ) → j < 64 → marked words c (k * 64 + j) ≡ is_set (word_at k) j
  unfolding marked
  mark_of k j h =
      let word : (k * 64 + j) / 64 ≡ k = omega arith in
      let place : (k * 64 + j) % 64 ≡ j = omega arith in
      ap₂ (λ (x y : ℕ). is_set (word_at x) y) word place

  -- the marks of word k
  word-marks : (k : ℕ) → k < 8 → ones (word_at k) ≡ length (keep (λ j. marked words c (k * 64 + j)) (from 0 64))
  word-marks k h =
      ones-counted 64 (word_at k) (sized ((c - 1) * 8 + k) (omega arith))
      ∙ ap length (keep_same (is_set (word_at k)) (λ j. marked words c (k * 64 + j)) (from 0 64)
      (λ j m. let r = from_member 0 64 m in sym (mark_of k j (omega arith))))

  -- the marks of the first k words
  words-marks : (k : ℕ) → k ≤ 8
      → marks_of (take k (drop ((c - 1) * 8) words)) ≡ length (keep (marked words c) (from 0 (k * 64)))
  words-marks zero h = unfold marks_of keep from in refl
  words-marks (suc k) h =
      let row = drop ((c - 1) * 8) words in
      let rest = words-marks k (omega arith) in
      let size = length-drop ((c - 1) * 8) words in
      let front = ap marks_of (take-suc row k 0 (omega arith)) ∙ marks-snoc (take k row) (get_or row k 0) in
      let last = ap ones (get_or-drop ((c - 1) * 8) words k 0) ∙ word-marks k (omega arith) in
      let both = kept-two (marked words c) (k * 64) 64 in
      let next : suc k * 64 ≡ k * 64 + 64 = omega arith in
      rw next (omega arith)

  pub count-marks : count_of words c ≡ length (keep (marked words c) (from 0 512))
  count-marks = count-inside words c column ∙ words-marks 8 (omega arith)
