-- A board over the limit, or the line of what the judge answered.
use Rattle.std.proofs.Common.{◌∙◌, ap}
use Rattle.text.specs.PutLaws.{put_same}
use Rattle.programs.specs.Programs.{judge_lines}
use Rattle.programs.specs.CodeLaws.{over-limit, in-limit}
use Rattle.programs.proofs.judge_channel.Goals as goal

pub returns-then-board-gt-INPUT_LIMIT-clause-put : goal.returns-then-board-gt-INPUT_LIMIT-clause-put
returns-then-board-gt-INPUT_LIMIT-clause-put c =
    put_same c.put_unread.ensures.put (over-limit _ _ c.if-board-gt-INPUT_LIMIT.true)

pub returns-clause-put : goal.returns-clause-put
returns-clause-put c =
    let answer = rw (c.top.ensures, c.bot.ensures) at c.judge.ensures.answer in
    put_same c.put_judged.ensures.put (ap judge_lines answer ∙ in-limit _ _ c.if-board-gt-INPUT_LIMIT.false)
