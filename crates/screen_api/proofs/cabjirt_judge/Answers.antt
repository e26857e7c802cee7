-- `cabjirt_judge` meets its contract: in each case the number is that of what `judge` answers, and scratch is as
-- `judge` left it.
use Rattle.judge.specs.Answers.{judge_told}
use Rattle.screen_api.proofs.CodeLaws.{judge-entry, judge-good}
use Rattle.screen_api.proofs.cabjirt_judge.Goals as goal

pub returns-in-Good : goal.returns-in-Good
returns-in-Good c = judge-good c.judge.ensures c.in-Good.is

pub returns-in-Faulty : goal.returns-in-Faulty
unfolding judge_told
returns-in-Faulty c =
    judge-entry c.judge.ensures (rw c.in-Faulty.is c.faulty.ensures)

pub returns-in-Refused : goal.returns-in-Refused
unfolding judge_told
returns-in-Refused c =
    judge-entry c.judge.ensures (rw c.in-Refused.is c.refused.ensures)
