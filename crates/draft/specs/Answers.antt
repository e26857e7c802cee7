-- SCOPE, Req 14: the refusals of the calls on a draft, in their order and with their places, the answers, and what the
-- lent words then hold.
use Rattle.std.specs.Prelude.{ℕ, List, [], ◌∷◌, Bool, not, ◌&&◌, length, ltb, leb, Result}
use Rattle.std.proofs.Math.Option.{Option, none, some}
use Rattle.lists.specs.Lists.{within}
use Rattle.refusal.specs.declared.Refusal.{Refusal}
use Rattle.refusal.specs.declared.Refusal.TheVariants.{BadSpan, AlreadyHere, NotHere}
use Rattle.refusal.specs.Refusals.{Told, refuse_if, ◌or_else◌, ok_unless, told}
use Rattle.refusal.specs.Trays.{draft_tray, short_tray}
use Rattle.channel.specs.Channel.{highest_net, widest}
use Rattle.draft.specs.Marks.{is_here, arrived_in, left_from, cleared}

-- 21 is "for a number outside 1 to 511 or columns not rising within 1 to 512": a number inside
abbrev pub good_number : ℕ → Bool
good_number n = within 1 n highest_net

-- and with it columns that rise there
abbrev pub good_span : ℕ → ℕ → ℕ → Bool
good_span n first last = good_number n && (leb 1 first && (ltb first last && leb last widest))

-- "under refusal 1 in every call"
unfoldable pub short_draft : List ℕ → Option Refusal
short_draft words = short_tray (record { lent = length words; needed = draft_tray } ∷ [])

-- "21, bad span, ..; then 22, already here": of a net that arrives where a net is here or not
unfoldable pub arrival_refusal : Bool → ℕ → ℕ → ℕ → Option Refusal
arrival_refusal here n first last =
    refuse_if (not (good_span n first last)) (BadSpan n) or_else refuse_if here (AlreadyHere n)

-- "21, bad span, ..; then 23, not here"
unfoldable pub leaving_refusal : Bool → ℕ → Option Refusal
leaving_refusal here n = refuse_if (not (good_number n)) (BadSpan n) or_else refuse_if (not here) (NotHere n)

unfoldable pub arrive_refusal : List ℕ → ℕ → ℕ → ℕ → Option Refusal
arrive_refusal words n first last = short_draft words or_else arrival_refusal (is_here words n) n first last

unfoldable pub leave_refusal : List ℕ → ℕ → Option Refusal
leave_refusal words n = short_draft words or_else leaving_refusal (is_here words n) n

-- the answer of a call that changes the draft, and of one that asks
abbrev pub change_answer : Option Refusal → Result (Unit {0}) Refusal
change_answer refusal = ok_unless refusal tt

abbrev pub ask_answer : Option Refusal → ℕ → Result ℕ Refusal
ask_answer refusal k = ok_unless refusal k

-- "refused calls having no effect"
unfoldable pub unless : Option Refusal → List ℕ → List ℕ → List ℕ
unless none after before = after
unless (some r) after before = before

unfoldable pub arrive_after : List ℕ → ℕ → ℕ → ℕ → List ℕ
arrive_after words n first last = unless (arrive_refusal words n first last) (arrived_in n first last words) words

unfoldable pub leave_after : List ℕ → ℕ → List ℕ
leave_after words n = unless (leave_refusal words n) (left_from n words) words

unfoldable pub clear_after : List ℕ → List ℕ
clear_after words = unless (short_draft words) (cleared words) words

-- both answers in the scope's numbers: the value is 0, or the count
abbrev pub draft_told : Result (Unit {0}) Refusal → Told
draft_told = told (λ _. 0 ∷ [])

abbrev pub count_told : Result ℕ Refusal → Told
count_told = told (λ k. k ∷ [])
