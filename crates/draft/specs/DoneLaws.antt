-- A call's contract from what it answered and left: under a refusal, and under none.
use Rattle.std.specs.Prelude.{ℕ, ◌≤◌, ◌<◌, ◌≡◌, refl, length, Result, Ok, Err}
use Rattle.std.proofs.Common.{arith, ◌∙◌}
use Rattle.std.proofs.Math.Path.{sym, ap}
use mathlib.Core.List.{List, [], ◌∷◌, ◌++◌}
use Rattle.std.proofs.Math.Option.{none, some}
use Rattle.refusal.specs.declared.Refusal.{Refusal}
use Rattle.refusal.specs.declared.Refusal.TheVariants.{ShortTray}
use Rattle.refusal.specs.Refusals.{answered}
use Rattle.refusal.specs.Trays.{draft_tray}
use Rattle.draft.specs.Marks.{LongDraft, count_of, greatest_of, arrived_in, left_from, cleared}
use Rattle.draft.specs.Answers.{arrive_refusal, leave_refusal, unless}
use Rattle.draft.specs.Answers.{arrive_after, leave_after, clear_after}
use Rattle.draft.specs.History.{Call, arrive, leave, clear, after_call, after_calls}
use Rattle.draft.specs.Code.{GoesOn, After, ArriveDone, LeaveDone, CountDone, GreatestDone}
use Rattle.draft.specs.Code.{ClearDone}
use Rattle.draft.specs.AnswerLaws.{long-silent, short-told}
use Rattle.draft.specs.MarkLaws.{Words64, cleared-empty}
use Rattle.draft.specs.CountLaws.{count-marks}
use Rattle.draft.specs.HistoryLaws.{history, history-long}

-- a list of calls that goes on by one
after_last : (start : List ℕ) (calls : List Call) (call : Call)
    → after_calls start (calls ++ (call ∷ [])) ≡ after_call (after_calls start calls) call
unfolding after_calls
after_last start [] call = refl
after_last start (c ∷ calls) call = after_last (after_call start c) calls call

goes-on-by : (call : Call) (words words' : List ℕ) → words' ≡ after_call words call → GoesOn words call words'
goes-on-by call words words' held start calls e =
    held ∙ (ap (λ (ws : List ℕ). after_call ws call) e ∙ sym (after_last start calls call))

module _ (words : List ℕ) (n first last : ℕ) where
  arrive-held : {words' : List ℕ} → words' ≡ arrive_after words n first last → GoesOn words (arrive n first last) words'
  unfolding after_call
  arrive-held {words'} held = goes-on-by (arrive n first last) words words' held

  pub arrive-refused : {q : Refusal} → arrive_refusal words n first last ≡ some q
      → ArriveDone words n first last (Err q) words
  unfolding answered unless arrive_after
  arrive-refused e = record { answer = rw e; words_held = rw e; goes_on = arrive-held (rw e) }

  pub arrive-done : {words' : List ℕ} → arrive_refusal words n first last ≡ none → words' ≡ arrived_in n first last words
      → ArriveDone words n first last (Ok tt) words'
  unfolding answered unless arrive_after
  arrive-done e held = record { answer = rw e; words_held = rw e held; goes_on = arrive-held (rw e held) }

module _ (words : List ℕ) (n : ℕ) where
  leave-held : {words' : List ℕ} → words' ≡ leave_after words n → GoesOn words (leave n) words'
  unfolding after_call
  leave-held {words'} held = goes-on-by (leave n) words words' held

  pub leave-refused : {words' : List ℕ} {q : Refusal} → leave_refusal words n ≡ some q → words' ≡ words
      → LeaveDone words n (Err q) words'
  unfolding answered unless leave_after
  leave-refused e held = record { answer = rw e; words_held = rw e held; goes_on = leave-held (rw e held) }

  pub leave-done : {words' : List ℕ} → leave_refusal words n ≡ none → words' ≡ left_from n words
      → LeaveDone words n (Ok tt) words'
  unfolding answered unless leave_after
  leave-done e held = record { answer = rw e; words_held = rw e held; goes_on = leave-held (rw e held) }

module _ (words : List ℕ) where
  clear-held : {words' : List ℕ} → words' ≡ clear_after words → GoesOn words clear words'
  unfolding after_call
  clear-held {words'} held = goes-on-by clear words words' held

  pub clear-refused : length words < draft_tray → ClearDone words (Err (ShortTray draft_tray)) words
  unfolding answered unless clear_after
  clear-refused short =
      let e = short-told words short in
      record {
        answer = rw e;
        words_held = rw e;
        goes_on = clear-held (rw e);
        empty = λ long. absurd (omega (arith, short, long));
      }

  pub clear-done : {words' : List ℕ} → LongDraft words → words' ≡ cleared words → ClearDone words (Ok tt) words'
  unfolding answered unless clear_after
  clear-done long held =
      let e = long-silent words long in
      record {
        answer = rw e;
        words_held = rw e held;
        goes_on = clear-held (rw e held);
        empty = λ _. rw held (cleared-empty words long);
      }

-- a memory after calls is long enough, so it is not refused, and an answer that is refused is no count
after-long : {calls : List Call} {words : List ℕ} → After calls words → LongDraft words
after-long {calls} after = rw after.held (history-long after.start after.began calls)

no-count : {q : Refusal} {k : ℕ} → ◌≡◌ {A = Result ℕ Refusal} (Err q) (Ok k) → ⊥
no-count e = cc

same_count_lem : {j k : ℕ} → ◌≡◌ {A = Result ℕ Refusal} (Ok j) (Ok k) → j ≡ k
same_count_lem e = cc

module _ (words : List ℕ) (c : ℕ) where
  pub count-refused : length words < draft_tray → CountDone words c (Err (ShortTray draft_tray))
  unfolding answered
  count-refused short =
      record {
        answer = rw (short-told words short);
        few = λ k e. absurd (no-count e);
        marks = λ k e column. absurd (no-count e);
        promise = λ calls after. absurd (let long = after-long after in omega (arith, short));
      }

  pub count-done : LongDraft words → Words64 words → {k : ℕ} → k ≡ count_of words c → k ≤ 512
      → CountDone words c (Ok k)
  unfolding answered
  count-done long sized {k} counted small =
      record {
        answer = rw (long-silent words long) (ap Ok counted);
        few = λ j e. let same = same_count_lem e in omega arith;
        marks = λ j e column. sym (same_count_lem e) ∙ (counted ∙ count-marks words c sized long column);
        promise = λ calls after. ap Ok (counted ∙ (ap (λ (ws : List ℕ). count_of ws c) after.held
            ∙ (history after.start after.began calls).counts c));
      }

module _ (words : List ℕ) where
  pub greatest-refused : length words < draft_tray → GreatestDone words (Err (ShortTray draft_tray))
  unfolding answered
  greatest-refused short =
      record {
        answer = rw (short-told words short);
        few = λ k e. absurd (no-count e);
        promise = λ calls after. absurd (let long = after-long after in omega (arith, short));
      }

  pub greatest-done : LongDraft words → {k : ℕ} → k ≡ greatest_of words → k ≤ 512 → GreatestDone words (Ok k)
  unfolding answered
  greatest-done long {k} most small =
      record {
        answer = rw (long-silent words long) (ap Ok most);
        few = λ j e. let same = same_count_lem e in omega arith;
        promise = λ calls after. ap Ok (most ∙ (ap greatest_of after.held
            ∙ (history after.start after.began calls).whole));
      }
