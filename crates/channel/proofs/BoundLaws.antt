-- What the check of rows tells of the refusal behind it, and what an operation on rows answers: the refusal of the rows,
-- or its answer of the channel that they are.
use Rattle.std.specs.Prelude.{◌≡◌, Ok, Err}
use Rattle.std.proofs.Common.{sym, ◌∙◌, ap}
use Rattle.std.proofs.Math.Option.{none}
use Rattle.refusal.specs.declared.Refusal.{Refusal}
use Rattle.refusal.specs.Refusals.{answered}
use Rattle.refusal.specs.ChainLaws.{answered-none, answered-some, ok→none, err→some}
use Rattle.channel.specs.Channel.{Channel}
use Rattle.channel.specs.Answers.{rows_refusal, Escapes, rows_answer, accepted, bounds_of, bounds_answer}
use Rattle.channel.proofs.EscapeLaws.{accepted-exactly}

module _ (ch : Channel) where
  unrefused : rows_answer ch ≡ Ok tt → rows_refusal ch ≡ none
  unfolding rows_answer
  unrefused e = (ok→none tt (rows_refusal ch) e).0

  -- rows that are accepted escape the refusals
  pub accepted→escapes : rows_answer ch ≡ Ok tt → Escapes ch
  accepted→escapes e = (accepted-exactly ch).0 (unrefused e)

  pub escapes→accepted : Escapes ch → rows_answer ch ≡ Ok tt
  unfolding rows_answer
  escapes→accepted esc = answered-none Err (rows_refusal ch) (Ok tt) ((accepted-exactly ch).1 esc)

  pub bounds-accepted : rows_answer ch ≡ Ok tt → bounds_answer ch ≡ Ok (bounds_of ch)
  unfolding bounds_answer
  bounds-accepted e = answered-none Err (rows_refusal ch) (Ok (bounds_of ch)) (unrefused e)

  pub bounds-refused : {r : Refusal} → rows_answer ch ≡ Err r → bounds_answer ch ≡ Err r
  unfolding bounds_answer rows_answer
  bounds-refused e = answered-some Err (rows_refusal ch) (Ok (bounds_of ch)) _ (err→some tt (rows_refusal ch) e)

  -- what the check says, where the rows are handed on
  pub checked→ok : Ok tt ≡ rows_answer ch → Ok ch ≡ accepted ch
  unfolding accepted
  checked→ok e = sym (answered-none Err (rows_refusal ch) (Ok ch) (unrefused (sym e)))

  pub checked→err : {r : Refusal} → Err r ≡ rows_answer ch → Err r ≡ accepted ch
  unfolding accepted rows_answer
  checked→err e = sym (answered-some Err (rows_refusal ch) (Ok ch) _ (err→some tt (rows_refusal ch) (sym e)))

  -- `e` is what `Rows::accept` ensures at each arm of its answer
  pub ok→same : {k : Channel} → Ok k ≡ accepted ch → k ≡ ch
  unfolding accepted
  ok→same e = sym (ok→none ch (rows_refusal ch) (sym e)).1

  module _ {A : Type 0} (refused : Refusal → A) where
    pub told-err : (a : A) {r : Refusal} → Err r ≡ accepted ch → refused r ≡ answered refused (rows_refusal ch) a
    unfolding accepted
    told-err a e = sym (answered-some refused (rows_refusal ch) a _ (err→some ch (rows_refusal ch) (sym e)))

    pub told-ok : (of : Channel → A) {k : Channel} → Ok k ≡ accepted ch
        → of k ≡ answered refused (rows_refusal ch) (of ch)
    unfolding accepted
    told-ok of e =
        ap of (ok→same e) ∙ sym (answered-none refused (rows_refusal ch) (of ch) (ok→none ch (rows_refusal ch) (sym e)).0)

  -- the same as the check says it
  pub ok→checked : {k : Channel} → Ok k ≡ accepted ch → Ok tt ≡ rows_answer ch
  unfolding rows_answer
  ok→checked e = told-ok Err (λ k. Ok tt) e

  pub err→checked : {r : Refusal} → Err r ≡ accepted ch → Err r ≡ rows_answer ch
  unfolding rows_answer
  err→checked e = told-err Err (Ok tt) e
