-- What is read of a panel's text: of two lists that fit, the rows that were joined.
use Rattle.std.specs.Prelude.{ℕ, ◌<◌, ◌≡◌, refl, List, Bool, true, false, cond, length, ltb}
use Rattle.std.proofs.Common.{arith, ◌∙◌, ap}
use Rattle.std.proofs.Math.Option.{Option, none, some}
use Rattle.refusal.specs.declared.Refusal.{Refusal}
use Rattle.refusal.specs.Refusals.{answered}
use Rattle.refusal.specs.ChainLaws.{answered-none}
use Rattle.channel.specs.Channel.{Channel}
use Rattle.pinlist.specs.Reader.{rows, read_text}
use Rattle.pinlist.specs.Answers.{text_channel, text_refusal}
use Rattle.panel.specs.Joined.{joined, Fits}
use Rattle.panel.specs.Answers.{panel_refusal}
use Rattle.panel.proofs.PanelLaws.{both-escapes}
use Rattle.panel.proofs.AnswerLaws.{fits-silent}
use Rattle.report.specs.Lines.{refused_line, refusal_line}
use Rattle.programs.specs.Programs.{input_limit, over_limit, within_limit, of_pin_list, pin_list, panel_lines}
use Rattle.programs.specs.Programs.{panel_output}
use Rattle.programs.specs.Code.{silent, pins_pass}
use Rattle.programs.specs.PinListLaws.{pins-back, channel-back, pins-written-pass}

-- the proved reader gives back the rows that were joined, and the text passes as every pin list that programs read
pub record ReadsJoined (first second : List ℕ) : Type 0 where
  pub rows_back : read_text (panel_output first second) ≡ rows
      (joined (text_channel first) (text_channel second)).top
      (joined (text_channel first) (text_channel second)).bot
  pub same-channel : text_channel (panel_output first second) ≡ joined (text_channel first) (text_channel second)
  pub passes : pins_pass (panel_output first second) ≡ true

-- what is written of a pin list that passes
passed : (text : List ℕ) → pins_pass text ≡ true → (output : Channel → List ℕ)
    → of_pin_list output text ≡ output (text_channel text)
unfolding pins_pass silent of_pin_list within_limit answered
passed text e output = go (ltb input_limit (length text)) (text_refusal text) e
  where
    go : (over : Bool) (a : Option Refusal) → cond over false (silent a) ≡ true
        → cond over (refused_line over_limit) (answered refusal_line a (output (text_channel text)))
        ≡ output (text_channel text)
    go true a k = absurd (let z : ◌≡◌ {A = ℕ} 0 1 = cc in omega arith)
    go false none k = refl
    go false (some r) k = absurd (let z : ◌≡◌ {A = ℕ} 0 1 = cc in omega arith)

-- of two lists that pass and fit, the pin list of the joined rows is written
joined-text : (first second : List ℕ) → pins_pass first ≡ true → pins_pass second ≡ true
    → Fits (text_channel first) (text_channel second)
    → panel_output first second ≡ pin_list (joined (text_channel first) (text_channel second))
unfolding panel_output panel_lines
joined-text first second one two fits =
    let ch = text_channel first in
    let dh = text_channel second in
    passed first one (λ k. of_pin_list (panel_lines k) second)
    ∙ (passed second two (panel_lines ch)
    ∙ answered-none refusal_line (panel_refusal ch dh) (pin_list (joined ch dh)) (fits-silent ch dh fits))

pub panel-reads-back : (first second : List ℕ) → pins_pass first ≡ true → pins_pass second ≡ true
    → Fits (text_channel first) (text_channel second) → ReadsJoined first second
panel-reads-back first second one two fits =
    let both = joined (text_channel first) (text_channel second) in
    let text = joined-text first second one two fits in
    let esc = both-escapes fits in
    let bots : 0 < length both.bot = omega (arith, esc.even, esc.wide) in
    record {
      rows_back = ap read_text text ∙ pins-back both esc.wide bots;
      same-channel = ap text_channel text ∙ channel-back both esc.wide bots;
      passes = ap pins_pass text ∙ pins-written-pass both esc;
    }
