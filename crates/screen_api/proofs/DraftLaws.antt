-- The number that C reads of a call on a draft is what was answered, and so what the nets on the draft say.
use Rattle.std.specs.Prelude.{ℕ, ◌≤◌, ◌<◌, ◌≡◌, refl, List, Result, Ok, Err}
use Rattle.std.proofs.Common.{arith, ◌∙◌, subst}
use Rattle.std.proofs.Math.Path.{ap}
use Rattle.std.proofs.Math.Option.{Option, none, some}
use Rattle.refusal.specs.declared.Refusal.{Refusal}
use Rattle.refusal.specs.Refusals.{Told, answered, told}
use Rattle.refusal.specs.ChainLaws.{answered-none}
use Rattle.draft.specs.Answers.{short_draft, change_answer, ask_answer, draft_told, count_told}
use Rattle.draft.specs.History.{Call, arrive, leave, count, whole, clear, after_call, call_told}
use Rattle.draft.specs.Code.{GoesOn, Few, ArriveDone, LeaveDone, CountDone, GreatestDone, ClearDone}
use Rattle.draft.specs.AnswerLaws.{Below, below-short, arrive-below, leave-below}
use Rattle.draft.specs.HistoryLaws.{history}
use Rattle.screen_api.specs.Numbers.{packed, entry_number}
use Rattle.screen_api.proofs.NumberLaws.{decoded, value-number}
use Rattle.screen_api.specs.Drafts.{Reads, TellsNets, ChangeEntry, ClearEntry, AskEntry}

reads : {t : Told} {r : ℕ} → r ≡ entry_number t → packed t.values ≤ 4294967295 → Reads t r
reads e small =
    let d = decoded e in
    let place = d.place in
    record { number = d.number; place = omega arith }

-- a memory after calls tells what the nets say
by-nets : {words : List ℕ} {r : ℕ} (call : Call) → Reads (call_told words call) r → TellsNets words call r
by-nets {r = r} call h calls after =
    subst (λ (t : Told). Reads t r) (ap (λ (ws : List ℕ). call_told ws call) after.held
    ∙ (history after.start after.began calls).answers call) h

-- what is told has a value, or a place, that fits
change-small : (a : Option Refusal) → Below 4294967295 a → packed (draft_told (change_answer a)).values ≤ 4294967295
unfolding answered told packed
change-small none h = omega arith
change-small (some q) h = h q refl

ask-small : (a : Option Refusal) (k : ℕ) → Below 4294967295 a → (a ≡ none → k ≤ 512)
    → packed (count_told (ask_answer a k)).values ≤ 4294967295
unfolding answered told packed
ask-small none k h small = omega (arith, small refl)
ask-small (some q) k h small = h q refl

module _ {words : List ℕ} {r : ℕ} (call : Call) (e : r ≡ entry_number (call_told words call))
    (small : packed (call_told words call).values ≤ 4294967295) where
  change-entry : {words' : List ℕ} → words' ≡ after_call words call → GoesOn words call words'
      → ChangeEntry words call r words'
  change-entry held on =
      let read = reads e small in
      record { answer = e; read = read; words_held = held; goes_on = on; promise = by-nets call read }

  ask-entry : AskEntry words call r
  ask-entry = let read = reads e small in record { answer = e; read = read; promise = by-nets call read }

-- each call, from its function's contract: by the number of its answer
module _ {words words' : List ℕ} {a : Result (Unit {0}) Refusal} {r : ℕ} (e : r ≡ entry_number (draft_told a)) where
  pub arrive-entry : {n first last : ℕ} → n < 4294967296 → ArriveDone words n first last a words'
      → ChangeEntry words (arrive n first last) r words'
  unfolding call_told after_call
  arrive-entry {n} {first} {last} fits done =
      change-entry (arrive n first last) (e ∙ ap (λ x. entry_number (draft_told x)) done.answer)
      (change-small _ (arrive-below 4294967295 words (omega arith) n (omega arith) first last)) done.words_held
      done.goes_on

  pub leave-entry : {n : ℕ} → n < 4294967296 → LeaveDone words n a words' → ChangeEntry words (leave n) r words'
  unfolding call_told after_call
  leave-entry {n} fits done =
      change-entry (leave n) (e ∙ ap (λ x. entry_number (draft_told x)) done.answer)
      (change-small _ (leave-below 4294967295 words (omega arith) n (omega arith))) done.words_held done.goes_on

  pub clear-entry : ClearDone words a words' → ClearEntry words r words'
  unfolding call_told after_call
  clear-entry done =
      record {
        change = change-entry clear (e ∙ ap (λ x. entry_number (draft_told x)) done.answer)
            (change-small _ (below-short 4294967295 words (omega arith))) done.words_held done.goes_on;
        empty = done.empty;
      }

module _ {words : List ℕ} {a : Result ℕ Refusal} {r : ℕ} (e : r ≡ entry_number (count_told a)) where
  pub count-entry : {c : ℕ} → CountDone words c a → AskEntry words (count c) r
  unfolding call_told
  count-entry {c} done =
      ask-entry (count c) (e ∙ ap (λ x. entry_number (count_told x)) done.answer)
      (ask-small _ _ (below-short 4294967295 words (omega arith))
      (λ silent. done.few _ (done.answer ∙ answered-none Err (short_draft words) _ silent)))

  pub greatest-entry : GreatestDone words a → AskEntry words whole r
  unfolding call_told
  greatest-entry done =
      ask-entry whole (e ∙ ap (λ x. entry_number (count_told x)) done.answer)
      (ask-small _ _ (below-short 4294967295 words (omega arith))
      (λ silent. done.few _ (done.answer ∙ answered-none Err (short_draft words) _ silent)))

-- the number of a draft that was changed is 0, and of a count the count itself
pub done-number : {a : Result (Unit {0}) Refusal} → a ≡ Ok tt → 0 ≡ entry_number (draft_told a)
unfolding told
done-number q = rw q (value-number (omega arith))

pub count-number : {a : Result ℕ Refusal} {k : ℕ} → Few a → a ≡ Ok k → k ≡ entry_number (count_told a)
unfolding told
count-number {k = k} few q = rw q (value-number (let small = few k q in omega arith))
