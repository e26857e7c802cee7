-- The reader reads exactly the texts of the form, and stops at the end of the longest start that some text of the form
-- shares: from every state that it reaches, some bytes lead to the end of both lines.
use Rattle.std.specs.Prelude.{ℕ, ◌≤◌, ◌≡◌, refl, List, [], ◌∷◌, ◌++◌, take}
use Rattle.std.proofs.Common.{arith, sym, ◌∙◌, ap, ap₂, subst, append_assoc}
use Rattle.lists.specs.Bytes.{bytes}
use Rattle.pinlist.specs.Form.{Form, SharedStart, GarbledAt}
use Rattle.pinlist.specs.Reader.{Stand, due, State, in_top, in_bot, ended, start, TextRead, rows, garbled, read_text}
use Rattle.pinlist.proofs.Runs.{top-on, top_closed, bot-on, bot-closed, Runs, here, next, runs_append, runs-start}
use Rattle.pinlist.proofs.Runs.{runs→read, read→runs, Stops, garbled→stops}
use Rattle.pinlist.proofs.LineLaws.{LineRun, last, then, line-run, run→line, closable}
use Rattle.pinlist.specs.Promise.{ReadExactly}

top-run : {s : Stand} {ns text top : List ℕ} → LineRun s ns text top
    → Runs (in_top s ns) text (in_bot top (due (bytes "BOT ")) [])
top-run (last t) = next (top_closed t) here
top-run (then t r) = next (top-on t) (top-run r)

bot-run : {s : Stand} (top : List ℕ) {ns text bot : List ℕ} → LineRun s ns text bot
    → Runs (in_bot top s ns) text (ended top bot)
bot-run top (last t) = next (bot-closed t) here
bot-run top (then t r) = next (bot-on t) (bot-run top r)

bot-line : {s : Stand} {t ns text top bot : List ℕ} → Runs (in_bot t s ns) text (ended top bot)
    → (t ≡ top) × LineRun s ns text bot
bot-line {s = s} {ns = ns} {top = top} {bot = bot} (next {b = b} (bot-closed t) (next {bs = bs} x11 _)) = elim x11 [ ]
bot-line (next (bot-on t) r) = let k = bot-line r in (k.0, then t k.1)
bot-line (next (bot-closed t) here) = (refl, last t)

-- a run to the end of both lines, parted where the first line ends
record Parted (s : Stand) (ns text top bot : List ℕ) : Type 0 where
  top_part : List ℕ
  bot_part : List ℕ
  parts : text ≡ top_part ++ bot_part
  top_run : LineRun s ns top_part top
  bot_run : LineRun (due (bytes "BOT ")) [] bot_part bot

parted : {s : Stand} {ns text top bot : List ℕ} → Runs (in_top s ns) text (ended top bot) → Parted s ns text top bot
parted (next {b} (top-on t) r) =
    let p = parted r in
    record {
      top_part = b ∷ p.top_part;
      bot_part = p.bot_part;
      parts = ap (λ (l : List ℕ). b ∷ l) p.parts;
      top_run = then t p.top_run;
      bot_run = p.bot_run;
    }
parted {s} {ns} (next {b} {bs} (top_closed t) r) =
    let k = bot-line r in
    record {
      top_part = b ∷ [];
      bot_part = bs;
      parts = refl;
      top_run = subst (λ (row : List ℕ). LineRun s ns (b ∷ []) row) k.0 (last t);
      bot_run = k.1;
    }

lines-grouped : (word numbers end rest : List ℕ)
    → (word ++ (numbers ++ end)) ++ rest ≡ word ++ (numbers ++ (end ++ rest))
lines-grouped word numbers end rest = simp append_assoc

form→runs : {text top bot : List ℕ} → Form text top bot → Runs start text (ended top bot)
unfolding bytes
form→runs {text} {top} {bot} f =
    let t = line-run (bytes "TOP") f.top_numbers f.top_end in
    let b = line-run (bytes "BOT") f.bot_numbers f.bot_end in
    let grouped = lines-grouped (bytes "TOP") f.top_text f.end₁ (bytes "BOT" ++ (f.bot_text ++ f.end₂)) in
    subst (λ (l : List ℕ). Runs start l (ended top bot)) (grouped ∙ sym f.written)
    (runs_append (top-run t) (bot-run top b))

runs→form : {text top bot : List ℕ} → Runs start text (ended top bot) → Form text top bot
unfolding bytes
runs→form r =
    let p = parted r in
    let t = run→line (bytes "TOP") p.top_run in
    let b = run→line (bytes "BOT") p.bot_run in
    let grouped = lines-grouped (bytes "TOP") t.number_text t.end (bytes "BOT" ++ (b.number_text ++ b.end)) in
    record {
      top_text = t.number_text;
      bot_text = b.number_text;
      end₁ = t.end;
      end₂ = b.end;
      top_numbers = t.numbers;
      bot_numbers = b.numbers;
      top_end = t.ends;
      bot_end = b.ends;
      written = p.parts
          ∙ (ap₂ (λ (l m : List ℕ). l ++ m) t.written b.written ∙ grouped);
    }

-- from every state some bytes lead to the end of both lines
live : (s : State) → (rest : List ℕ) × (top : List ℕ) × (bot : List ℕ) × Runs s rest (ended top bot)
live (in_top s ns) =
    let t = closable s ns in
    let b = closable (due (bytes "BOT ")) [] in
    (t.rest ++ b.rest, t.row, b.row, runs_append (top-run t.runs) (bot-run t.row b.runs))
live (in_bot top s ns) = let b = closable s ns in (b.rest, top, b.row, bot-run top b.runs)
live (ended top bot) = ([], top, bot, here)

-- the bytes that the reader takes are the longest shared start
stops→shared : {text : List ℕ} {n : ℕ} → Stops start text n → SharedStart text n
stops→shared h =
    let l = live h.state in
    record {
      within = h.within_text;
      top = l.1;
      bot = l.2;
      rest = l.0;
      form = runs→form (runs_append h.runs l.3);
    }

shared→most : {text : List ℕ} {n : ℕ} → Stops start text n → (m : ℕ) → SharedStart text m → m ≤ n
shared→most {text} h m k = h.most m k.within (runs-start (take m text) k.rest (form→runs k.form)).1

garbled→at : (text : List ℕ) (n : ℕ) → read_text text ≡ garbled n → GarbledAt text n
unfolding read_text
garbled→at text n e =
    let w = garbled→stops text start 0 n e in
    let q : w.0 ≡ n = omega arith in
    let h = subst (λ (m : ℕ). Stops start text m) q w.2 in
    record { no-form = no-form; shared = stops→shared h; longest = shared→most h }
  where
    no-form : (top bot : List ℕ) → Form text top bot → ⊥
    no-form top bot f = let r = runs→read (form→runs f) 0 in let z : ◌≡◌ {A = ℕ} 0 1 = cc in absurd (omega arith)

pub read-exactly : (text : List ℕ) → ReadExactly text
unfolding read_text
read-exactly text =
    record {
      rows-exactly = λ top bot. (λ e. runs→form (read→runs text start 0 e), λ f. runs→read (form→runs f) 0);
      garbled-exactly = λ n. (garbled→at text n, λ g. go (read_text text) refl n g);
    }
  where
    go : (r : TextRead) → read_text text ≡ r → (n : ℕ) → GarbledAt text n → read_text text ≡ garbled n
    go (rows top bot) e n g = absurd (g.no-form top bot (runs→form (read→runs text start 0 e)))
    go (garbled m) e n g =
        let k = garbled→at text m e in
        let l = k.longest n g.shared in
        let u = g.longest m k.shared in
        let q : m ≡ n = omega arith in
        e ∙ ap garbled q
