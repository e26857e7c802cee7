-- Req 14 holds of every list of calls from an empty draft: at every time the memory has the marks of the nets that
-- have arrived and not left since, since each call leaves it so, and so each call is told what these nets say.
use Rattle.std.specs.Prelude.{ℕ, ◌≡◌, refl, List, [], ◌∷◌, cond, ◌&&◌, T, leb, ltb}
use Rattle.std.proofs.Common.{arith, ◌∙◌, eqb→eq, leb→le, ltb→lt}
use Rattle.std.proofs.Math.Path.{ap, ap₂}
use Rattle.std.proofs.Math.Bool.{Bool, true, false, not}
use Rattle.std.proofs.Math.Option.{Option}
use Rattle.lists.specs.Lists.{keep, any_of, up_to, greatest}
use Rattle.lists.specs.Tests.{true→T, fails→false, false→fails, and_left, and_right, and_both, not-passes, not-fails}
use Rattle.lists.specs.Tests.{within→, →within}
use Rattle.lists.specs.Members.{member→any, keep_all}
use Rattle.lists.specs.Updates.{map_same}
use Rattle.refusal.specs.declared.Refusal.{Refusal}
use Rattle.refusal.specs.declared.Refusal.TheVariants.{BadSpan, AlreadyHere, NotHere}
use Rattle.refusal.specs.Refusals.{refuse_if, ◌or_else◌}
use Rattle.refusal.specs.ChainLaws.{none-or-else-later}
use Rattle.refusal.specs.Trays.{draft_tray}
use Rattle.channel.specs.Channel.{highest_net, widest}
use Rattle.draft.specs.Marks.{LongDraft, count_of, greatest_of, zeros, arrived_in, left_from}
use Rattle.draft.specs.Answers.{good_number, good_span, short_draft, arrival_refusal, leaving_refusal}
use Rattle.draft.specs.Answers.{change_answer, ask_answer, draft_told, count_told}
use Rattle.draft.specs.Answers.{arrive_refusal, leave_refusal, unless, arrive_after, leave_after, clear_after}
use Rattle.draft.specs.History.{Call, arrive, leave, count, whole, clear, after_call, after_calls, call_told}
use Rattle.draft.specs.History.{Arrived, is_of, nets_after, nets_after_calls, span_count, span_greatest, nets_told}
use Rattle.draft.specs.History.{Empty, DraftPromise}
use Rattle.draft.specs.AnswerLaws.{long-silent}
use Rattle.draft.specs.MarkLaws.{cleared-empty, zeros-empty}
use Rattle.draft.specs.NetLaws.{net_of, is_not, Fits, Draws, draws-none, here, draws-arrived, draws-left, counted}

-- a net that refusal 21 lets pass
pub good-fits : (n first last : ℕ) → T (good_span n first last) → Fits (net_of n first last)
good-fits n first last t =
    let columns = leb 1 first && (ltb first last && leb last widest) in
    let number = within→ 1 n highest_net (and_left (good_number n) columns t) in
    let inside = and_right (good_number n) columns t in
    let later = and_right (leb 1 first) (ltb first last && leb last widest) inside in
    record {
      low = number.0;
      high = number.1;
      begins = leb→le 1 first (and_left (leb 1 first) (ltb first last && leb last widest) inside);
      rises = ltb→lt first last (and_left (ltb first last) (leb last widest) later);
      ends = leb→le last widest (and_right (ltb first last) (leb last widest) later);
    }

pub span-fits : (n first last : ℕ) → good_span n first last ≡ true → Fits (net_of n first last)
span-fits n first last good = good-fits n first last (true→T (good_span n first last) good)

-- refusal 21 comes first: whether the net is here matters only where 21 is silent
after-good : (good : Bool) (r : Refusal) (later later' : Option Refusal) → (T good → later ≡ later')
    → (refuse_if (not good) r or_else later) ≡ (refuse_if (not good) r or_else later')
unfolding refuse_if ◌or_else◌
after-good true r later later' h = h tt
after-good false r later later' h = refl

-- what a call that is refused or not leaves
unless-either : (good bad : Bool) (r q : Refusal) (after before : List ℕ)
    → unless (refuse_if (not good) r or_else refuse_if bad q) after before ≡ cond (good && not bad) after before
unfolding unless refuse_if ◌or_else◌
unless-either true true r q after before = refl
unless-either true false r q after before = refl
unless-either false bad r q after before = refl

module _ {words : List ℕ} {nets : List Arrived} (d : Draws words nets) where
  -- the refusals go by the nets, and so does what a call leaves
  arrive-refused : (n first last : ℕ)
      → arrive_refusal words n first last ≡ arrival_refusal (any_of (is_of n) nets) n first last
  unfolding arrive_refusal arrival_refusal
  arrive-refused n first last =
      none-or-else-later (short_draft words) _ (long-silent words d.long)
      ∙ after-good (good_span n first last) (BadSpan n) _ _ (λ t. ap (λ (b : Bool). refuse_if b (AlreadyHere n))
      (here d n (good-fits n first last t).high))

  leave-refused : (n : ℕ) → leave_refusal words n ≡ leaving_refusal (any_of (is_of n) nets) n
  unfolding leave_refusal leaving_refusal
  leave-refused n =
      none-or-else-later (short_draft words) _ (long-silent words d.long)
      ∙ after-good (good_number n) (BadSpan n) _ _ (λ t. ap (λ (b : Bool). refuse_if (not b) (NotHere n))
      (here d n (within→ 1 n highest_net t).1))

  after-arrive : (n first last : ℕ) → arrive_after words n first last
      ≡ cond (good_span n first last && not (any_of (is_of n) nets)) (arrived_in n first last words) words
  unfolding arrive_after arrival_refusal
  after-arrive n first last =
      ap (λ (r : Option Refusal). unless r (arrived_in n first last words) words) (arrive-refused n first last)
      ∙ unless-either (good_span n first last) (any_of (is_of n) nets) (BadSpan n) (AlreadyHere n) _ _

  after_leave : (n : ℕ)
      → leave_after words n ≡ cond (good_number n && not (not (any_of (is_of n) nets))) (left_from n words) words
  unfolding leave_after leaving_refusal
  after_leave n =
      ap (λ (r : Option Refusal). unless r (left_from n words) words) (leave-refused n)
      ∙ unless-either (good_number n) (not (any_of (is_of n) nets)) (BadSpan n) (NotHere n) _ _

  -- where no net with this number is to leave, none is taken out
  none-leaves : (n : ℕ) → good_number n && not (not (any_of (is_of n) nets)) ≡ false → keep (is_not n) nets ≡ nets
  none-leaves n e =
      keep_all (is_not n) nets (λ net m. not-passes (is_of n net) (λ t. let fit = d.fits net m in
      let low = fit.low in let high = fit.high in let same = eqb→eq n net.number t in
      false→fails (good_number n && not (not (any_of (is_of n) nets))) e
      (and_both (good_number n) (not (not (any_of (is_of n) nets))) (→within 1 n highest_net (omega arith) (omega arith))
      (not-passes (not (any_of (is_of n) nets)) (λ k. not-fails (any_of (is_of n) nets) k (member→any (is_of n) m t))))))

  -- after each call the memory has the marks of the nets
  draws-arrive : (n first last : ℕ) → Draws (arrive_after words n first last) (nets_after nets (arrive n first last))
  unfolding nets_after
  draws-arrive n first last = rw (after-arrive n first last) (go (good && new) refl)
    where
      good : Bool
      good = good_span n first last

      new : Bool
      new = not (any_of (is_of n) nets)

      go : (b : Bool) → good && new ≡ b
          → Draws (cond b (arrived_in n first last words) words) (cond b (net_of n first last ∷ nets) nets)
      go true e =
          let t = true→T (good && new) e in
          draws-arrived d n first last (good-fits n first last (and_left good new t))
          (fails→false (any_of (is_of n) nets) (not-fails (any_of (is_of n) nets) (and_right good new t)))
      go false e = d

  draws-leave : (n : ℕ) → Draws (leave_after words n) (nets_after nets (leave n))
  unfolding nets_after
  draws-leave n = rw (after_leave n) (go (good_number n && not (not (any_of (is_of n) nets))) refl)
    where
      go : (b : Bool) → good_number n && not (not (any_of (is_of n) nets)) ≡ b
          → Draws (cond b (left_from n words) words) (keep (is_not n) nets)
      go true e = draws-left d n
      go false e = rw (none-leaves n e) d

  draws-clear : Draws (clear_after words) []
  unfolding clear_after unless
  draws-clear = rw (long-silent words d.long) (draws-none (cleared-empty words d.long))

  draws-call : (call : Call) → Draws (after_call words call) (nets_after nets call)
  unfolding after_call nets_after
  draws-call (arrive n first last) = draws-arrive n first last
  draws-call (leave n) = draws-leave n
  draws-call (count c) = d
  draws-call whole = d
  draws-call clear = draws-clear

  -- and each call is told what they say
  greatest-counted : greatest_of words ≡ span_greatest nets
  unfolding greatest_of span_greatest
  greatest-counted = ap greatest (map_same (count_of words) (span_count nets) (up_to widest) (λ c m. counted d c))

  told : (call : Call) → call_told words call ≡ nets_told nets call
  unfolding call_told nets_told
  told (arrive n first last) = ap (λ (r : Option Refusal). draft_told (change_answer r)) (arrive-refused n first last)
  told (leave n) = ap (λ (r : Option Refusal). draft_told (change_answer r)) (leave-refused n)
  told (count c) = ap₂ (λ r k. count_told (ask_answer r k)) (long-silent words d.long) (counted d c)
  told whole = ap₂ (λ r k. count_told (ask_answer r k)) (long-silent words d.long) greatest-counted
  told clear = ap (λ (r : Option Refusal). draft_told (change_answer r)) (long-silent words d.long)

draws-calls : (calls : List Call) {words : List ℕ} {nets : List Arrived} → Draws words nets
    → Draws (after_calls words calls) (nets_after_calls nets calls)
unfolding after_calls nets_after_calls
draws-calls [] d = d
draws-calls (call ∷ calls) d = draws-calls calls (draws-call d call)

pub history : (words : List ℕ) → Empty words → (calls : List Call) → DraftPromise calls (after_calls words calls)
history words empty calls =
    let d = draws-calls calls (draws-none empty) in
    record { marks = d.marks; counts = counted d; whole = greatest-counted d; answers = told d }

-- its memory stays long enough
pub history-long : (words : List ℕ) → Empty words → (calls : List Call) → LongDraft (after_calls words calls)
history-long words empty calls = (draws-calls calls (draws-none empty)).long

-- and so of 4,096 words that are all 0
pub history-of-zeros : (calls : List Call) → DraftPromise calls (after_calls (zeros draft_tray) calls)
history-of-zeros calls = history (zeros draft_tray) zeros-empty calls
