-- SCOPE, Req 14: nets that come and go, by one computed check of the nets and one of the words; and so of the memory.
use Rattle.refusal.specs.Refusals as refusals
use Rattle.std.specs.Prelude.{ℕ, ◌≡◌, refl, List, [], ◌∷◌, ◌++◌, map, true, replicate}
use Rattle.std.proofs.Common.{◌∙◌}
use Rattle.std.specs.Int.Count.{ones}
use Rattle.lists.specs.Lists.{keep, any_of, all_of, from, greatest}
use Rattle.refusal.specs.Refusals.{told_values, refuse_if, ◌or_else◌, answered}
use Rattle.refusal.specs.Trays.{draft_tray}
use Rattle.channel.specs.Density.{spans_over}
use Rattle.draft.specs.Marks.{is_set, with_mark, without_mark, marked, marks_of, count_of, changed, zeros}
use Rattle.draft.specs.Marks.{arrived_in, left_from}
use Rattle.draft.specs.Answers.{arrival_refusal, leaving_refusal}
use Rattle.draft.specs.History.{Call, arrive, leave, count, whole, clear, after_calls, call_told, nets_after}
use Rattle.draft.specs.History.{nets_after_calls, nets_here, span_count, span_greatest, nets_told}
use Rattle.draft.specs.HistoryLaws.{history-of-zeros}
use Rattle.examples.specs.Starred.{same, all}

-- what a call is told after a list of calls: the number, then the value or the place
abbrev told : List Call → Call → List ℕ
told calls call = let t = nets_told (nets_here calls) call in t.number ∷ t.values

-- two nets come, of which the second has the first's digit in the next word
abbrev two : List Call
two = arrive 5 2 4 ∷ arrive 69 4 6 ∷ []

-- and one goes and comes again elsewhere, among calls that are refused
abbrev again : List Call
again = two ++ (arrive 5 7 9 ∷ leave 600 ∷ leave 7 ∷ leave 5 ∷ leave 5 ∷ arrive 5 1 2 ∷ [])

pub drafts :
    all
    (same (map (span_count (nets_here two)) (from 0 8)) (0 ∷ 0 ∷ 1 ∷ 1 ∷ 2 ∷ 1 ∷ 1 ∷ 0 ∷ [])
    ∷ same (told two (count 4)) (0 ∷ 2 ∷ [])
    ∷ same (told two (count 513)) (0 ∷ 0 ∷ [])
    ∷ same (told two whole) (0 ∷ 2 ∷ [])
    -- 21 before 22 and 23, and the place is the number, whatever it is
    ∷ same (told two (arrive 5 7 7)) (21 ∷ 5 ∷ [])
    ∷ same (told two (arrive 5 7 513)) (21 ∷ 5 ∷ [])
    ∷ same (told two (arrive 512 1 2)) (21 ∷ 512 ∷ [])
    ∷ same (told two (arrive 0 1 2)) (21 ∷ 0 ∷ [])
    ∷ same (told two (arrive 5 7 9)) (22 ∷ 5 ∷ [])
    ∷ same (told two (leave 600)) (21 ∷ 600 ∷ [])
    ∷ same (told two (leave 7)) (23 ∷ 7 ∷ [])
    ∷ same (told two (leave 69)) (0 ∷ 0 ∷ [])
    -- refused calls have no effect, and a net may come again
    ∷ same (map (span_count (nets_here again)) (from 0 8)) (0 ∷ 1 ∷ 1 ∷ 0 ∷ 1 ∷ 1 ∷ 1 ∷ 0 ∷ [])
    ∷ same (told again whole) (0 ∷ 1 ∷ [])
    ∷ same (told (again ++ (clear ∷ [])) whole) (0 ∷ 0 ∷ [])
    ∷ [])
    ≡ true
unfolding
    keep any_of all_of from greatest refuse_if ◌or_else◌ answered spans_over
    arrival_refusal leaving_refusal refusals.told nets_after nets_after_calls span_count span_greatest nets_told
drafts = refl

-- so 4,096 words that were 0 are told the same after these calls
pub held : call_told (after_calls (zeros draft_tray) again) whole ≡ told_values (1 ∷ [])
unfolding
    keep any_of from greatest refuse_if ◌or_else◌ answered spans_over
    arrival_refusal leaving_refusal refusals.told nets_after nets_after_calls span_count span_greatest nets_told
held = (history-of-zeros again).answers whole ∙ refl

-- the words of three columns: net 69 has digit 5 of each column's second word
pub words :
    all
    (same (arrived_in 69 2 3 (replicate 24 0))
    (replicate 9 0 ++ (32 ∷ replicate 7 0) ++ (32 ∷ replicate 6 0))
    ∷ same (left_from 69 (arrived_in 69 2 3 (replicate 24 7))) (replicate 24 7)
    ∷ same (left_from 2 (replicate 9 7)) (3 ∷ replicate 7 7 ++ (3 ∷ []))
    ∷ same (map (count_of (arrived_in 69 2 3 (replicate 24 1))) (from 0 4)) (0 ∷ 8 ∷ 9 ∷ 9 ∷ [])
    ∷ [])
    ≡ true
unfolding all_of from is_set with_mark without_mark marked marks_of count_of changed ones
words = refl
