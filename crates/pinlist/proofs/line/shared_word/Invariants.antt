-- The first `i` bytes of the word stand at `at`, and what the rest of it shares with the rest of the text comes on top.
use Rattle.std.specs.Prelude.{◌+◌, ◌≤◌, length}
use Rattle.pinlist.proofs.CodeLaws.{SharedTo}
use Rattle.pinlist.proofs.line.shared_word.Given as goal

abbrev pub invariant-loop-i : goal.invariant-loop-i
invariant-loop-i l = (l.at + l.i ≤ length l.text) × SharedTo l.word l.text l.at l.i
