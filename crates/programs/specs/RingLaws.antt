-- From what `fewest_ring` answers of an accepted channel to the lines of its ring: the pairs that the ring buffer holds,
-- or that there is none.
use Prim.Native.Nat.{ℕ, zero, suc, ◌*◌, ◌≤◌}
use native.Mathlib.Omega.{arith}
use Rattle.std.proofs.Math.Path.{◌≡◌, refl, sym, ap, subst}
use Rattle.std.proofs.Common.{◌∙◌, ne_eqb}
use Rattle.std.specs.Prelude.{List, take, Option, Some, None, Result, Ok, Err}
use Rattle.std.proofs.Math.ListN.{length}
use Rattle.lists.specs.Overlays.{front_of}
use Rattle.refusal.specs.declared.Refusal.{Refusal}
use Rattle.refusal.specs.Trays.{record_tray, ring_tray}
use Rattle.channel.specs.Channel.{Channel}
use Rattle.channel.specs.Answers.{Escapes}
use Rattle.channel.specs.CountLaws.{nets-few}
use Rattle.leftedge.specs.Walk.{ring_numbers}
use Rattle.leftedge.specs.RingLists.{length-numbers}
use Rattle.rings.specs.Fewest.{fewest, fewest_ring}
use Rattle.rings.specs.Answers.{pairs_answer}
use Rattle.rings.specs.Code.{FewestDone}
use Rattle.rings.proofs.FewestLaws.{fewest-length, fewest-few}
use Rattle.rings.proofs.AnswerLaws.{pairs-answered, filled}
use Rattle.report.specs.Lines.{none_line, ring_lines}
use Rattle.report.specs.Code.{ring_text}
use Rattle.report.specs.CodeLaws.{ring-text}
use Rattle.programs.specs.Programs.{fewest_lines}

-- two answers of the ring with the fewest nets are the same
abbrev Same : Result (Option ℕ) Refusal → Result (Option ℕ) Refusal → Type 0
Same a b = a ≡ b

-- the lines of a channel that has a ring, and of one that has none
some-lines : (ch : Channel) (j : ℕ) → fewest ch ≡ suc j → ring_lines (fewest_ring ch) ≡ fewest_lines ch
unfolding fewest_lines
some-lines ch j e = sym (rw (ne_eqb (fewest ch) 0 (λ z. omega arith)))

none-lines : (ch : Channel) → fewest ch ≡ 0 → none_line ≡ fewest_lines ch
unfolding fewest_lines
none-lines ch e = sym (rw e)

module _ (ch : Channel) (esc : Escapes ch) {ring ring' : List ℕ} {r : Result (Option ℕ) Refusal} (room : ring_tray ≤ length ring)
    (done : FewestDone ch ring r ring') where
  by-fewest : r ≡ Ok (pairs_answer (fewest ch))
  by-fewest = done.answer ∙ pairs-answered (length ring) ch room esc

  -- the front of the ring buffer
  front : take (2 * length (fewest_ring ch)) ring' ≡ ring_numbers (fewest_ring ch)
  front =
      front_of (ring_numbers (fewest_ring ch)) ring (sym (length-numbers (fewest_ring ch)))
      (filled ch ring room esc (record { answer = done.answer; held = done.held }))

  pub ring-found : {k : ℕ} → r ≡ Ok (Some k) → (k ≤ record_tray) × (ring_text ring' k ≡ fewest_lines ch)
  unfolding pairs_answer
  ring-found {k} e = go (fewest ch) refl
    where
      go : (m : ℕ) → fewest ch ≡ m → (k ≤ record_tray) × (ring_text ring' k ≡ fewest_lines ch)
      go zero q =
          let other : Same (Ok None) (Ok (Some k)) = sym (by-fewest ∙ ap (λ (m : ℕ). Ok (pairs_answer m)) q) ∙ e in
          cc
      go (suc j) q =
          let told : Same (Ok (Some (suc j))) (Ok (Some k)) = sym (by-fewest ∙ ap (λ (m : ℕ). Ok (pairs_answer m)) q) ∙ e in
          let same : suc j ≡ k = cc in
          let long = fewest-length ch in
          let pairs : length (fewest_ring ch) ≡ k = omega arith in (
            (let few = fewest-few ch in let all = nets-few ch in omega arith),
            subst (λ (n : ℕ). ring_text ring' n ≡ ring_lines (fewest_ring ch)) pairs (ring-text (fewest_ring ch) ring' front)
                ∙ some-lines ch j q,
          )

  pub ring-none : r ≡ Ok None → none_line ≡ fewest_lines ch
  unfolding pairs_answer
  ring-none e = go (fewest ch) refl
    where
      go : (m : ℕ) → fewest ch ≡ m → none_line ≡ fewest_lines ch
      go zero q = none-lines ch q
      go (suc j) q =
          let other : Same (Ok (Some (suc j))) (Ok None) = sym (by-fewest ∙ ap (λ (m : ℕ). Ok (pairs_answer m)) q) ∙ e in
          cc

  -- an accepted channel is not refused
  pub ring-unrefused : {q : Refusal} → r ≡ Err q → ⊥
  unfolding pairs_answer
  ring-unrefused {q} e = go (fewest ch) refl
    where
      go : (m : ℕ) → fewest ch ≡ m → ⊥
      go zero p =
          let other : Same (Ok None) (Err q) = sym (by-fewest ∙ ap (λ (m : ℕ). Ok (pairs_answer m)) p) ∙ e in
          cc
      go (suc j) p =
          let other : Same (Ok (Some (suc j))) (Err q) = sym (by-fewest ∙ ap (λ (m : ℕ). Ok (pairs_answer m)) p) ∙ e in
          cc
