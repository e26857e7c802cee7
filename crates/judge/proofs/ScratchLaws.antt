-- Req 10's promise, proved: scratch that suffices is not seen in the answer.
use Rattle.std.specs.Prelude.{ℕ, ◌+◌, ◌≤◌, ◌≡◌, refl, List}
use Rattle.std.proofs.Common.{arith, sym, ◌∙◌, ap}
use Rattle.std.proofs.Math.Option.{Option}
use Rattle.refusal.specs.declared.Refusal.{Refusal}
use Rattle.refusal.specs.Refusals.{answered}
use Rattle.refusal.specs.Trays.{scratch_tray}
use Rattle.channel.specs.Channel.{Channel, width}
use Rattle.channel.specs.Answers.{Escapes}
use Rattle.boardfile.specs.Open.{word_at, file_tracks, file_count, file_layout}
use Rattle.boardfile.specs.FieldLaws.{header-small}
use Rattle.judge.specs.declared.JudgeAnswer.TheVariants.{Refused}
use Rattle.judge.specs.Finding.{finding}
use Rattle.judge.specs.Answers.{judged, judge_answer}
use Rattle.judge.specs.Promise.{ScratchPromise}
use Rattle.judge.proofs.JudgeSteps.{past-short, answer-short}

room-unseen : (ch : Channel) (board : List ℕ) (n : ℕ) → scratch_tray ≤ n
    → judge_answer ch board n ≡ judge_answer ch board scratch_tray
unfolding judge_answer
room-unseen ch board n h =
    ap (λ (r : Option Refusal). answered Refused r (judged (file_tracks board) (finding ch (file_layout board))))
    (past-short ch board n h ∙ sym (past-short ch board scratch_tray (omega arith)))

elements-fit : (ch : Channel) (board : List ℕ) → Escapes ch → width ch + width ch + file_count board ≤ scratch_tray
unfolding file_count
elements-fit ch board esc = let h = header-small (word_at board 0) in let w = esc.narrow in omega arith

pub req10 : ScratchPromise
req10 =
    record {
      one_each = refl;
      enough = elements-fit;
      short = λ ch board n h. sym (answer-short ch board n h);
      same = room-unseen;
    }
