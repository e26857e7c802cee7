-- The judge's answer is told by its refusal, or by the fault found, or by the tracks; each is small.
use Rattle.std.specs.Prelude.{ℕ, pred, ◌≤◌, ◌<◌, List, [], ◌∷◌}
use Rattle.std.proofs.Common.{arith, ◌∙◌}
use Rattle.std.proofs.Math.Path.{◌≡◌, refl}
use Rattle.std.proofs.Math.Option.{Option, none, some}
use Rattle.lists.specs.Places.{place-below}
use Rattle.refusal.specs.declared.Refusal.{Refusal}
use Rattle.refusal.specs.Refusals.{Told, told_at, told_refusal, told_values, answered}
use Rattle.channel.specs.Channel.{Channel, width, widest}
use Rattle.boardfile.specs.Open.{file_tracks, file_layout}
use Rattle.boardfile.specs.ToldLaws.{fields-small, pieces-few}
use Rattle.judge.specs.declared.Fault.{Fault}
use Rattle.judge.specs.declared.Fault.TheVariants.{Short, Open, Floating}
use Rattle.judge.specs.declared.JudgeAnswer.TheVariants.{Good, Refused}
use Rattle.judge.specs.Finding.{finding}
use Rattle.judge.specs.Answers.{judge_refusal, judged, judge_answer, fault_number, fault_place, judge_told}
use Rattle.judge.proofs.OnBytes.{unrefused→, found-on-bytes}

-- 0 and the tracks, or the fault's number and place
unfoldable pub found_told : ℕ → Option Fault → Told
found_told tracks none = told_values (tracks ∷ [])
found_told tracks (some f) = told_at (fault_number f) (fault_place f)

module _ (ch : Channel) (board : List ℕ) (scratch : ℕ) where
  abbrev found : Told
  found = found_told (file_tracks board) (finding ch (file_layout board))

  pub judge-told : judge_told (judge_answer ch board scratch) ≡ answered told_refusal (judge_refusal ch board scratch) found
  unfolding judge_answer judge_told judged answered found_told
  judge-told = go (judge_refusal ch board scratch) (finding ch (file_layout board))
    where
      go : (r : Option Refusal) (f : Option Fault)
          → judge_told (answered Refused r (judged (file_tracks board) f))
          ≡ answered told_refusal r (found_told (file_tracks board) f)
      go none none = refl
      go none (some f) = refl
      go (some r) f = refl

  pub unrefused-told : judge_refusal ch board scratch ≡ none → judge_told (judge_answer ch board scratch) ≡ found
  unfolding answered
  unrefused-told h = judge-told ∙ rw h

  -- the tracks' field has 9 bits
  pub good-small : {t : ℕ} → judge_answer ch board scratch ≡ Good t → t < 512
  unfolding judge_answer judged answered
  good-small {t} e = go (judge_refusal ch board scratch) (finding ch (file_layout board)) e
    where
      go : (r : Option Refusal) (f : Option Fault) → answered Refused r (judged (file_tracks board) f) ≡ Good t → t < 512
      go none none h = let same : file_tracks board ≡ t = cc in omega (arith, (fields-small board).0)
      go none (some f) h = absurd (let z : ◌≡◌ {A = ℕ} 0 1 = cc in omega arith)
      go (some r) f h = absurd (let z : ◌≡◌ {A = ℕ} 0 1 = cc in omega arith)

  -- a fault's place is a pin position or the number of a piece of the file
  pub fault-small : judge_refusal ch board scratch ≡ none → (f : Fault) → finding ch (file_layout board) ≡ some f
      → fault_place f < 4097
  unfolding fault_place
  fault-small h f e = go f e
    where
      narrow : width ch ≤ widest
      narrow = (unrefused→ ch board scratch h).escapes.narrow

      go : (f : Fault) → finding ch (file_layout board) ≡ some f → fault_place f < 4097
      go (Short p) e = omega (arith, narrow, (((found-on-bytes ch board scratch h).short p).0 e).holds.on_board)
      go (Open p) e = omega (arith, narrow, (((found-on-bytes ch board scratch h).opened p).0 e).1.holds.on_board)
      go (Floating i) e =
          let loose = (((found-on-bytes ch board scratch h).floating i).0 e).2.holds in
          omega (arith, place-below (file_layout board).pieces (pred i) loose.place, pieces-few board)
