-- Each case is the line of its answer.
use Rattle.std.proofs.Common.{sym, ◌∙◌, ap}
use Rattle.text.specs.PutLaws.{put_same}
use Rattle.programs.specs.Programs.{judge_lines}
use Rattle.programs.specs.CodeLaws.{good-line, fault-line, refused-line}
use Rattle.programs.proofs.put_judged.Goals as goal

pub returns-in-Good-clause-put : goal.returns-in-Good-clause-put
returns-in-Good-clause-put c = put_same c.put_good.ensures.put (good-line _ ∙ ap judge_lines (sym c.in-Good.is))

pub returns-in-Faulty-clause-put : goal.returns-in-Faulty-clause-put
returns-in-Faulty-clause-put c =
    let put = rw (c.fault_number.ensures, c.fault_place.ensures) at c.put_refused.ensures.put in
    put_same put (fault-line _ ∙ ap judge_lines (sym c.in-Faulty.is))

pub returns-in-Refused-clause-put : goal.returns-in-Refused-clause-put
returns-in-Refused-clause-put c = put_same c.put_refusal.ensures.put (refused-line _ ∙ ap judge_lines (sym c.in-Refused.is))
