-- SCOPE, Req 14: "For every list of these calls from an empty draft, each column's count and the greatest equal those
-- worked out from the nets that have arrived and not left since, refused calls having no effect." The list of calls is
-- data; what each does to the memory is what its function's contract says, and the spans are counted by the density of
-- `channel`.
use Rattle.std.specs.Prelude.{ℕ, ◌<◌, ◌≡◌, List, [], ◌∷◌, map, Bool, cond, not, ◌&&◌, get_or, eqb}
use Rattle.std.proofs.Math.Option.{none}
use Rattle.lists.specs.Lists.{keep, any_of, up_to, greatest, within}
use Rattle.refusal.specs.Refusals.{Told}
use Rattle.refusal.specs.Trays.{draft_tray}
use Rattle.channel.specs.Channel.{widest}
use Rattle.channel.specs.Density.{Span, spans_over}
use Rattle.draft.specs.Marks.{LongDraft, InDraft, marked, count_of, greatest_of}
use Rattle.draft.specs.Answers.{
  good_span,
  short_draft,
  arrival_refusal,
  leaving_refusal,
  arrive_refusal,
  leave_refusal,
  change_answer,
  ask_answer,
  arrive_after,
  leave_after,
  clear_after,
  draft_told,
  count_told,
}

-- the calls on a draft
pub data Call : Type 0 where
  arrive : (number first last : ℕ) → Call
  leave : (number : ℕ) → Call
  count : (column : ℕ) → Call
  whole : Call
  clear : Call

-- what the memory holds after a call, and after a list of them
unfoldable pub after_call : List ℕ → Call → List ℕ
after_call words (arrive n first last) = arrive_after words n first last
after_call words (leave n) = leave_after words n
after_call words (count c) = words
after_call words whole = words
after_call words clear = clear_after words

unfoldable pub after_calls : List ℕ → List Call → List ℕ
after_calls words [] = words
after_calls words (call ∷ calls) = after_calls (after_call words call) calls

-- what a call on a memory is told, in the scope's numbers
unfoldable pub call_told : List ℕ → Call → Told
call_told words (arrive n first last) = draft_told (change_answer (arrive_refusal words n first last))
call_told words (leave n) = draft_told (change_answer (leave_refusal words n))
call_told words (count c) = count_told (ask_answer (short_draft words) (count_of words c))
call_told words whole = count_told (ask_answer (short_draft words) (greatest_of words))
call_told words clear = draft_told (change_answer (short_draft words))

-- a net that has arrived
pub record Arrived : Type 0 where
  pub number : ℕ
  pub span : Span

abbrev pub is_of : ℕ → Arrived → Bool
is_of n net = eqb n net.number

-- "the nets that have arrived and not left since, refused calls having no effect": those before a call, and after it
unfoldable pub nets_after : List Arrived → Call → List Arrived
nets_after nets (arrive n first last) =
    cond (good_span n first last && not (any_of (is_of n) nets))
    (record { number = n; span = record { first = first; last = last } } ∷ nets) nets
nets_after nets (leave n) = keep (λ net. not (is_of n net)) nets
nets_after nets (count c) = nets
nets_after nets whole = nets
nets_after nets clear = []

unfoldable pub nets_after_calls : List Arrived → List Call → List Arrived
nets_after_calls nets [] = nets
nets_after_calls nets (call ∷ calls) = nets_after_calls (nets_after nets call) calls

-- those after a list of calls from an empty draft
abbrev pub nets_here : List Call → List Arrived
nets_here calls = nets_after_calls [] calls

-- the count of a column and the greatest, worked out from the spans of nets
unfoldable pub span_count : List Arrived → ℕ → ℕ
span_count nets c = spans_over (map (λ net. net.span) nets) c

unfoldable pub span_greatest : List Arrived → ℕ
span_greatest nets = greatest (map (span_count nets) (up_to widest))

-- what a call is told where these nets are on the draft
unfoldable pub nets_told : List Arrived → Call → Told
nets_told nets (arrive n first last) = draft_told (change_answer (arrival_refusal (any_of (is_of n) nets) n first last))
nets_told nets (leave n) = draft_told (change_answer (leaving_refusal (any_of (is_of n) nets) n))
nets_told nets (count c) = count_told (ask_answer none (span_count nets c))
nets_told nets whole = count_told (ask_answer none (span_greatest nets))
nets_told nets clear = draft_told (change_answer none)

-- the net's span holds column c, and the net is the one with number n
abbrev pub over : ℕ → Arrived → Bool
over c net = within net.span.first c net.span.last

abbrev pub covers : ℕ → ℕ → Arrived → Bool
covers n c net = is_of n net && over c net

-- a draft on which no net is: its 4,096 words are 0
pub record Empty (words : List ℕ) : Type 0 where
  pub long : LongDraft words
  pub zeros : (i : ℕ) → i < draft_tray → get_or words i 0 ≡ 0

-- Req 14, of a list of calls and the memory after them. Rules out: a net that leaves and stays counted in one of its
-- columns, or comes twice and is counted twice (counts); a greatest of the columns up to the last arrival's (whole); a
-- net taken for another by its number modulo 64 (marks, answers).
pub record DraftPromise (calls : List Call) (words : List ℕ) : Type 0 where
  -- "Each column keeps the set of nets over it, one mark a net"
  pub marks : (c n : ℕ) → InDraft n c → marked words c n ≡ any_of (covers n c) (nets_here calls)
  pub counts : (c : ℕ) → count_of words c ≡ span_count (nets_here calls) c
  pub whole : greatest_of words ≡ span_greatest (nets_here calls)
  -- and whatever is called next is told by these nets, refusals 21 to 23 among it
  pub answers : (call : Call) → call_told words call ≡ nets_told (nets_here calls) call
