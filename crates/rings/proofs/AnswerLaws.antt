-- What `fewest_ring` answers, and what the ring buffer then holds, in each of its cases.
use Rattle.std.specs.Prelude.{ℕ, zero, suc, ◌*◌, ◌≤◌, ◌<◌, ◌≡◌, refl, List, [], ◌∷◌, ◌↔◌, length, drop, ltb, Option, Some, None, unwrap_or, Result, Ok, Err}
use Rattle.std.proofs.Math.Decide.{dec_le}
use Rattle.std.proofs.Common.{arith, ◌∙◌, lt→ltb}
use Rattle.std.proofs.Math.Path.{sym, ap, subst⁻¹}
use mathlib.Core.List.Memᴰ
use Rattle.std.proofs.Math.Option.{none, some}
use Rattle.std.proofs.Math.Seq.{drop-append_seam}
use Rattle.lists.specs.Lists.{keep, each, overlay}
use Rattle.lists.specs.Tests.{T→true}
use Rattle.lists.specs.Overlays.{front_of}
use Rattle.refusal.specs.declared.Refusal.{Refusal}
use Rattle.refusal.specs.declared.Refusal.TheVariants.{ShortTray}
use Rattle.refusal.specs.Refusals.{told_by, refuse_at_first, ◌or_else◌, filled_unless}
use Rattle.refusal.specs.ChainLaws.{some-or-else, none-or-else-later, answered-none, answered-some, ok→none, err→some}
use Rattle.refusal.specs.ToldLaws.{told-ok_unless}
use Rattle.refusal.specs.Trays.{Tray, ring_tray, short_tray}
use Rattle.refusal.specs.TrayLaws.{trays-fit}
use Rattle.channel.specs.Channel.{Channel}
use Rattle.channel.specs.Answers.{Escapes, rows_refusal, rows_answer}
use Rattle.channel.specs.Constraints.{Tangled}
use Rattle.channel.proofs.EscapeLaws.{accepted-exactly}
use Rattle.leftedge.specs.Walk.{ring_numbers}
use Rattle.leftedge.specs.RingLists.{length-numbers}
use Rattle.rings.specs.Fewest.{fewest, fewest_ring}
use Rattle.rings.specs.Answers.{fewest_refusal, pairs_answer, fewest_answer, fewest_after, pairs_of, fewest_told}
use Rattle.rings.specs.Promise.{ShowsFewest, FewestPromise}
use Rattle.rings.specs.Code.{FewestDone}
use Rattle.rings.specs.TurnLaws.{ring-turnable}
use Rattle.rings.proofs.FewestLaws.{fewest-length, fewest-none, fewest-ring}
use Rattle.rings.proofs.OfNets.{none-ring}

pub pairs-shown : (k : ℕ) → unwrap_or (pairs_answer k) 0 ≡ k
unfolding pairs_answer
pairs-shown zero = refl
pairs-shown (suc k) = refl

pub pairs-some : (k : ℕ) → (k ≡ 0 → ⊥) → pairs_answer k ≡ Some k
unfolding pairs_answer
pairs-some zero h = absurd (h refl)
pairs-some (suc k) h = refl

no_pairs : (k : ℕ) → (pairs_answer k ≡ None) ↔ (k ≡ 0)
unfolding pairs_answer
no_pairs zero = (λ e. refl, λ e. refl)
no_pairs (suc k) = (
  λ e. absurd (let z : ◌≡◌ {A = ℕ} 0 1 = cc in omega arith),
  λ e. absurd (omega arith),
)

-- the answer is told by its refusal, or by the number of pairs, 0 for none
pub fewest-told : (room : ℕ) (ch : Channel)
    → fewest_told (fewest_answer room ch) ≡ told_by (fewest_refusal room ch) (fewest ch ∷ [])
unfolding fewest_answer
fewest-told room ch =
    told-ok_unless _ (fewest_refusal room ch) (pairs_answer (fewest ch))
    ∙ ap (λ (k : ℕ). told_by (fewest_refusal room ch) (k ∷ [])) (pairs-shown (fewest ch))

-- what is answered and what the ring buffer then holds, by the definitions
pub record Held (ch : Channel) (ring : List ℕ) (r : Result (Option ℕ) Refusal) (ring' : List ℕ) : Type 0 where
  pub answer : r ≡ fewest_answer (length ring) ch
  pub held : ring' ≡ fewest_after ch ring

abbrev tray_of : ℕ → List Tray
tray_of room = record { lent = room; needed = ring_tray } ∷ []

-- the ring buffer is too short, or long enough
short : (room : ℕ) → room < ring_tray → short_tray (tray_of room) ≡ some (ShortTray ring_tray)
unfolding short_tray keep refuse_at_first
short room h = rw (T→true (ltb room ring_tray) (lt→ltb room ring_tray h))

enough : (room : ℕ) → ring_tray ≤ room → short_tray (tray_of room) ≡ none
enough room h =
    (trays-fit (tray_of room)).1 (λ b m.
    subst⁻¹ (λ (t : Tray). t.needed ≤ t.lent) (Memᴰ.eq_of_singleton m) h)

-- nothing is refused exactly if the ring buffer is long enough and the rows escape 3 to 5
pub fewest-accepted : (room : ℕ) (ch : Channel) → (fewest_refusal room ch ≡ none) ↔ ((ring_tray ≤ room) × Escapes ch)
unfolding fewest_refusal
fewest-accepted room ch = (λ e. elim (dec_le ring_tray room) [ yes h ↦ rows h e | no h ↦ absurd (none-short h e) ], back)
  where
    alone : ring_tray ≤ room → (short_tray (tray_of room) or_else rows_refusal ch) ≡ rows_refusal ch
    alone h = none-or-else-later (short_tray (tray_of room)) (rows_refusal ch) (enough room h)

    rows : ring_tray ≤ room → (short_tray (tray_of room) or_else rows_refusal ch) ≡ none → (ring_tray ≤ room) × Escapes ch
    rows h e = (h, (accepted-exactly ch).0 (sym (alone h) ∙ e))

    none-short : (ring_tray ≤ room → ⊥) → (short_tray (tray_of room) or_else rows_refusal ch) ≡ none → ⊥
    none-short h e =
        let s = some-or-else (short_tray (tray_of room)) (rows_refusal ch) (ShortTray ring_tray)
        (short room (omega (arith, h))) in
        let z : ◌≡◌ {A = ℕ} 0 1 = cc in
        omega arith

    back : (ring_tray ≤ room) × Escapes ch → (short_tray (tray_of room) or_else rows_refusal ch) ≡ none
    back p = alone p.0 ∙ (accepted-exactly ch).1 p.1

-- the pairs that are answered, where nothing is refused
pub pairs-answered : (room : ℕ) (ch : Channel) → ring_tray ≤ room → Escapes ch
    → fewest_answer room ch ≡ Ok (pairs_answer (fewest ch))
unfolding fewest_answer
pairs-answered room ch h esc =
    answered-none Err _ (Ok (pairs_answer (fewest ch))) ((fewest-accepted room ch).1 (h, esc))

module _ (ch : Channel) (ring : List ℕ) where
  -- under a refusal nothing is written
  refused : (q : Refusal) → fewest_refusal (length ring) ch ≡ some q → Held ch ring (Err q) ring
  unfolding fewest_answer fewest_after filled_unless
  refused q e =
      record { answer = sym (answered-some Err _ (Ok (pairs_answer (fewest ch))) q e); held = sym (rw (e, filled_unless)) }

  -- refusal 1: the ring buffer is short
  pub short-held : length ring < ring_tray → Held ch ring (Err (ShortTray ring_tray)) ring
  unfolding fewest_refusal
  short-held h =
      refused (ShortTray ring_tray)
      (some-or-else (short_tray (tray_of (length ring))) (rows_refusal ch) (ShortTray ring_tray) (short (length ring) h))

  module _ (room : ring_tray ≤ length ring) where
    rows-alone : fewest_refusal (length ring) ch ≡ rows_refusal ch
    unfolding fewest_refusal
    rows-alone = none-or-else-later (short_tray (tray_of (length ring))) (rows_refusal ch) (enough (length ring) room)

    -- refusals 3 to 5: the rows are refused
    pub rows-held : (q : Refusal) → Err q ≡ rows_answer ch → Held ch ring (Err q) ring
    unfolding rows_answer
    rows-held q e = refused q (rows-alone ∙ err→some tt (rows_refusal ch) (sym e))

    module _ (accepted : rows_refusal ch ≡ none) where
      after_filled : fewest_after ch ring ≡ overlay (ring_numbers (fewest_ring ch)) ring
      unfolding fewest_after filled_unless
      after_filled = rw (rows-alone ∙ accepted, filled_unless)

    -- accepted rows: `fewest_of` has answered and filled
    pub found-held : Ok tt ≡ rows_answer ch → {pairs : Option ℕ} {ring' : List ℕ} → pairs ≡ pairs_answer (fewest ch)
        → ring' ≡ overlay (ring_numbers (fewest_ring ch)) ring → Held ch ring (Ok pairs) ring'
    unfolding rows_answer
    found-held e counted filled =
        let accepted = (ok→none tt (rows_refusal ch) (sym e)).0 in
        record {
          answer = ap Ok counted ∙ sym (pairs-answered (length ring) ch room ((accepted-exactly ch).0 accepted));
          held = filled ∙ sym (after_filled accepted);
        }

    -- of a channel that escapes refusals 3 to 5
    module _ (esc : Escapes ch) {r : Result (Option ℕ) Refusal} {ring' : List ℕ} (h : Held ch ring r ring') where
      by-fewest : r ≡ Ok (pairs_answer (fewest ch))
      by-fewest = h.answer ∙ pairs-answered (length ring) ch room esc

      pub filled : ring' ≡ overlay (ring_numbers (fewest_ring ch)) ring
      filled = h.held ∙ after_filled ((accepted-exactly ch).1 esc)

      pub counted : pairs_of r ≡ fewest ch
      counted = ap pairs_of by-fewest ∙ pairs-shown (fewest ch)

      none_told : (r ≡ Ok None) ↔ (Tangled ch → ⊥)
      none_told = (
        λ e. (fewest-none ch esc).0 ((no_pairs (fewest ch)).0 (let same = sym by-fewest ∙ e in cc)),
        λ u. by-fewest ∙ ap Ok ((no_pairs (fewest ch)).1 ((fewest-none ch esc).1 u)),
      )

      -- the pairs fill the front of the ring buffer
      shows : 0 < fewest ch → ShowsFewest ch (pairs_of r) ring ring'
      shows positive =
          let front = ring_numbers (fewest_ring ch) in
          let long : 2 * pairs_of r ≡ length front =
          let a = length-numbers (fewest_ring ch) in let b = fewest-length ch in let c = counted in omega arith in
          record {
            steps = fewest_ring ch;
            counted = fewest-length ch ∙ sym counted;
            stored = front_of front ring long filled;
            remainder = rw (long, filled) (drop-append_seam front (drop (length front) ring));
            shown = fewest-ring ch esc positive;
          }

      untouched : fewest ch ≡ 0 → ring' ≡ ring
      unfolding ring_numbers each
      untouched z = filled ∙ rw (none-ring ch z, ring_numbers)

      promised : FewestPromise ch (pairs_of r) ring ring'
      promised =
          record {
            none-exactly = rw counted (fewest-none ch esc);
            untouched = λ z. untouched (sym counted ∙ z);
            shown = λ positive. shows (let c = counted in omega arith);
            turnable = ring-turnable ch;
          }

  -- so what the code promises holds, by the two equations
  pub fewest-done : {r : Result (Option ℕ) Refusal} {ring' : List ℕ} → Held ch ring r ring' → FewestDone ch ring r ring'
  fewest-done h =
      record {
        answer = h.answer;
        held = h.held;
        none-exactly = λ room esc. none_told room esc h;
        promise = λ room esc. promised room esc h;
      }
