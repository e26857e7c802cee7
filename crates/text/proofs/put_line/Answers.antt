-- The word, the numbers and the line feed, each put behind the one before, are the line.
use Rattle.std.proofs.Common.{sym}
use Rattle.lists.specs.Parts.{each_map}
use Rattle.text.specs.Lines.{field, line_of}
use Rattle.text.specs.PutLaws.{put_then}
use Rattle.text.proofs.put_line.Goals as goal

pub returns-clause-put : goal.returns-clause-put
unfolding line_of
returns-clause-put g c =
    let numbers = rw (sym (each_map g.N.Number.value field c.args.numbers.now)) at c.put_numbers-last.ensures.put in
    put_then c.put_text-first.ensures (put_then numbers c.put_text.ensures)
