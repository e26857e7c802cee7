-- A whole text is read as its first line, then its second, and nothing may follow.
use Rattle.std.specs.Prelude.{ℕ, suc, ◌≤◌, ◌<◌, refl, length, drop, Ok, Err}
use Rattle.std.proofs.Common.{arith, sym, ◌∙◌, ap, drop_of_length-le, drop-cons}
use Rattle.std.proofs.Math.Path.{◌≡◌, subst}
use mathlib.Core.List.{List, [], ◌∷◌}
use Rattle.std.proofs.Math.Option.{none, some}
use Rattle.lists.specs.Bytes.{bytes}
use Rattle.pinlist.specs.Reader.{Stand, due, LineStep, on, closed, stuck, line_step, in_top, in_bot, ended, top_step}
use Rattle.pinlist.specs.Reader.{bot_step, step, TextRead, rows, garbled, at_end, read_from, read_text}
use Rattle.pinlist.specs.Code.{stuck_at, Lined, lined, broken, line_from, text_read, Parsed}
use Rattle.pinlist.proofs.CodeLaws.{drop-next}
use Rattle.pinlist.proofs.RowLaws.{Held, Whole}

-- what the text is read as behind its first line, and behind its second
abbrev after_top : List ℕ → Lined → TextRead
after_top text (lined top j) = read_from (in_bot top (due (bytes "BOT ")) []) j (drop j text)
after_top text (broken j) = garbled j

abbrev after_bot : List ℕ → List ℕ → Lined → TextRead
after_bot text top (lined bot j) = read_from (ended top bot) j (drop j text)
after_bot text top (broken j) = garbled j

top_from : (text : List ℕ) (s : Stand) (ns : List ℕ) (k : ℕ) (bs : List ℕ) → drop k text ≡ bs
    → read_from (in_top s ns) k bs ≡ after_top text (line_from s ns k bs)
unfolding read_from at_end step top_step line_from
top_from text s ns k [] q = refl
top_from text s ns k (b ∷ bs) q =
    go (line_step s ns b) (λ s' ns'. top_from text s' ns' (suc k) bs (drop-next text k b bs q))
  where
    go : (o : LineStep) → ((s' : Stand) (ns' : List ℕ)
        → read_from (in_top s' ns') (suc k) bs ≡ after_top text (line_from s' ns' (suc k) bs))
        → elim (top_step o) [ none ↦ garbled k | some s' ↦ read_from s' (suc k) bs ] ≡ after_top text
        (elim o [ on s' ns' ↦ line_from s' ns' (suc k) bs | closed ns' ↦ lined ns' (suc k) | stuck ↦ broken k ])
    go (on s' ns') more = more s' ns'
    go (closed ns') more = ap (read_from (in_bot ns' (due (bytes "BOT ")) []) (suc k)) (sym (drop-next text k b bs q))
    go stuck more = refl

bot-from : (text top : List ℕ) (s : Stand) (ns : List ℕ) (k : ℕ) (bs : List ℕ) → drop k text ≡ bs
    → read_from (in_bot top s ns) k bs ≡ after_bot text top (line_from s ns k bs)
unfolding read_from at_end step bot_step line_from
bot-from text top s ns k [] q = refl
bot-from text top s ns k (b ∷ bs) q =
    go (line_step s ns b) (λ s' ns'. bot-from text top s' ns' (suc k) bs (drop-next text k b bs q))
  where
    go : (o : LineStep) → ((s' : Stand) (ns' : List ℕ)
        → read_from (in_bot top s' ns') (suc k) bs ≡ after_bot text top (line_from s' ns' (suc k) bs))
        → elim (bot_step top o) [ none ↦ garbled k | some s' ↦ read_from s' (suc k) bs ] ≡ after_bot text top
        (elim o [ on s' ns' ↦ line_from s' ns' (suc k) bs | closed ns' ↦ lined ns' (suc k) | stuck ↦ broken k ])
    go (on s' ns') more = more s' ns'
    go (closed ns') more = ap (read_from (ended top ns') (suc k)) (sym (drop-next text k b bs q))
    go stuck more = refl

text-read : (text : List ℕ) → read_text text ≡ after_top text (line_from (due (bytes "TOP ")) [] 0 text)
unfolding read_text
text-read text = top_from text (due (bytes "TOP ")) [] 0 text refl

bot-read : (text top : List ℕ) (k : ℕ) → read_from (in_bot top (due (bytes "BOT ")) []) k
    (drop k text) ≡ after_bot text top (line_from (due (bytes "BOT ")) [] k (drop k text))
bot-read text top k = bot-from text top (due (bytes "BOT ")) [] k (drop k text) refl

ended-whole : (text top bot : List ℕ) (k : ℕ) → length text ≤ k
    → read_from (ended top bot) k (drop k text) ≡ rows top bot
unfolding read_from at_end
ended-whole text top bot k h = rw (drop_of_length-le text h)

ended-garbled : (text top bot : List ℕ) (k : ℕ) → k < length text → read_from (ended top bot) k (drop k text) ≡ garbled k
unfolding read_from step
ended-garbled text top bot k h = rw (drop-cons text k 0)

-- what is read of a whole text, from what is read of its lines
module _ (text top bot top' bot' : List ℕ) where
  all-garbled : (k : ℕ) → read_text text ≡ garbled k → Parsed text top bot (Err (stuck_at k)) top' bot'
  unfolding text_read
  all-garbled k e =
      record {
        answer = rw e;
        top_held = λ ts bs q. absurd (let z : ◌≡◌ {A = ℕ} 0 1 = cc in omega arith);
        bot_held = λ ts bs q. absurd (let z : ◌≡◌ {A = ℕ} 0 1 = cc in omega arith);
      }

  pub top-garbled : (k : ℕ) → line_from (due (bytes "TOP ")) [] 0 text ≡ broken k
      → Parsed text top bot (Err (stuck_at k)) top' bot'
  top-garbled k e = all-garbled k (text-read text ∙ ap (after_top text) e)

  module _ {tops next : ℕ} (first : Whole (bytes "TOP ") text 0 top top' tops next) where
    behind-top : read_text text ≡ after_bot text first.numbers (line_from (due (bytes "BOT ")) [] next (drop next text))
    behind-top = text-read text ∙ (ap (after_top text) first.read ∙ bot-read text first.numbers next)

    pub bot-garbled : (k : ℕ) → line_from (due (bytes "BOT ")) [] next (drop next text) ≡ broken k
        → Parsed text top bot (Err (stuck_at k)) top' bot'
    bot-garbled k e = all-garbled k (behind-top ∙ ap (after_bot text first.numbers) e)

    pub more-garbled : {bots end : ℕ} → Whole (bytes "BOT ") text next bot bot' bots end → end < length text
        → Parsed text top bot (Err (stuck_at end)) top' bot'
    more-garbled {bots} {end} second h =
        all-garbled end (behind-top ∙ (ap (after_bot text first.numbers) second.read
        ∙ ended-garbled text first.numbers second.numbers end h))

    pub both-whole : {bots end : ℕ} → Whole (bytes "BOT ") text next bot bot' bots end → length text ≤ end
        → Parsed text top bot (Ok (tops, bots)) top' bot'
    unfolding text_read
    both-whole {bots} {end} second h =
        let all = behind-top ∙ (ap (after_bot text first.numbers) second.read
        ∙ ended-whole text first.numbers second.numbers end h) in
        record {
          answer = rw (all, first.counted, second.counted);
          top_held = λ ts bs q. let same : first.numbers ≡ ts = cc in
              subst (λ (l : List ℕ). Held l top top') same first.held;
          bot_held = λ ts bs q. let same : second.numbers ≡ bs = cc in
              subst (λ (l : List ℕ). Held l bot bot') same second.held;
        }
