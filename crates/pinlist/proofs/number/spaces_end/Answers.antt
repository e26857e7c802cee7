use Rattle.std.proofs.Common.{◌≡◌, length, refl, sym, ◌∙◌, arith}
use Rattle.std.proofs.Math.Decide.{dec_le}
use Rattle.pinlist.proofs.CodeLaws.{spaces-none, spaces-stop, spaces-more}
use Rattle.pinlist.proofs.number.spaces_end.Goals as goal

pub returns-then-text-end-ne32 : goal.returns-then-text-end-ne32
returns-then-text-end-ne32 c =
    let loop = c.loop-end in sym (loop.invariant ∙ spaces-stop _ loop.end (omega arith) c.if-text-end-ne32.true)

pub loop-end-init : goal.loop-end-init
loop-end-init c = refl

pub loop-end-preserved : goal.loop-end-preserved
loop-end-preserved c =
    let loop = c.loop-end in loop.invariant ∙ spaces-more _ loop.end (omega arith) c.if-text-end-ne32.false

pub returns : goal.returns
returns c =
    let loop = c.loop-end in
    let text = c.args.text.now in
    elim (dec_le c.args.at (length text)) [
      | yes inside ↦
          (let end : c.max.result ≡ loop.end =
          c.max.ensures ∙ (let high = loop.auto.end-end inside in omega (arith, c.loop-end-test.false)) in
          end ∙ sym (loop.invariant ∙ spaces-none text loop.end c.loop-end-test.false))
      | no past ↦
          (let end : c.max.result ≡ c.args.at = c.max.ensures ∙ omega (arith, past) in
          end ∙ sym (spaces-none text c.args.at (omega arith)))
    ]
