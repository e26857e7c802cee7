-- The reader's steps as relations: which byte takes it from where to where, for one line and for both, and what a run
-- of bytes tells of what is read.
use Rattle.std.specs.Prelude.{ℕ, zero, suc, ◌+◌, ◌*◌, ◌≤◌, ◌<◌, ◌≡◌, refl, List, [], ◌∷◌, ◌++◌, Bool, true, false, cond, ◌⊎◌, length, take, T, eqb}
use Rattle.std.proofs.Common.{arith, sym, ◌∙◌, ap, subst, inl, inr, ⊎_elim, eqb→eq, eq-eqb, ne_eqb}
use Rattle.std.proofs.Math.Option.{none, some}
use Rattle.lists.specs.Lists.{within}
use Rattle.lists.specs.Bytes.{bytes}
use Rattle.lists.specs.Tests.{within→, →within}
use Rattle.pinlist.specs.Reader.{Stand, due, zero_read, digits, returned, LineStep, on, closed, stuck}
use Rattle.pinlist.specs.Reader.{after_number, first_digit, line_step}
use Rattle.pinlist.specs.Reader.{State, in_top, in_bot, ended, top_step, bot_step, step, rows, garbled, at_end}
use Rattle.pinlist.specs.Reader.{read_from}

-- the reader stands behind the number n
pub data Behind : Stand → ℕ → Type 0 where
  behind-zero : Behind zero_read 0
  behind-digits : {n : ℕ} → Behind (digits n) n

-- a byte that belongs, and what it does
pub data Takes : Stand → List ℕ → ℕ → LineStep → Type 0 where
  the-due : {b d : ℕ} {ds ns : List ℕ} → b ≡ d → Takes (due (d ∷ ds)) ns b (on (due ds) ns)
  further-space : {b : ℕ} {ns : List ℕ} → b ≡ 0x20 → Takes (due []) ns b (on (due []) ns)
  the_zero : {b : ℕ} {ns : List ℕ} → b ≡ 48 → Takes (due []) ns b (on zero_read ns)
  first-digit : {b d : ℕ} {ns : List ℕ} → b ≡ 48 + d → 1 ≤ d → d < 10 → Takes (due []) ns b (on (digits d) ns)
  next-digit : {b d m : ℕ} {ns : List ℕ} → b ≡ 48 + d → d < 10 → Takes (digits m) ns b (on (digits (m * 10 + d)) ns)
  first-space : {s : Stand} {b n : ℕ} {ns : List ℕ} → Behind s n → b ≡ 0x20
      → Takes s ns b (on (due []) (ns ++ (n ∷ [])))
  line-feed : {s : Stand} {b n : ℕ} {ns : List ℕ} → Behind s n → b ≡ 0x0A → Takes s ns b (closed (ns ++ (n ∷ [])))
  carriage-return : {s : Stand} {b n : ℕ} {ns : List ℕ} → Behind s n → b ≡ 0x0D
      → Takes s ns b (on returned (ns ++ (n ∷ [])))
  feed-due : {b : ℕ} {ns : List ℕ} → b ≡ 0x0A → Takes returned ns b (closed ns)

by-test : {A : Type 0} (P : A → Type 0) (t : Bool) {x y : A} → (T t → P x) → ((T t → ⊥) → P y) → P (cond t x y)
by-test P true f g = f tt
by-test P false f g = g (λ h. h)

-- behind a number a byte below the digits does what after_number says
behind-step : {s : Stand} {n : ℕ} (ns : List ℕ) (b : ℕ) → Behind s n → b < 48 → line_step s ns b ≡ after_number n ns b
unfolding line_step
behind-step ns b behind-zero h = refl
behind-step ns b (behind-digits {n}) h =
    by-test (λ o. o ≡ after_number n ns b) (within 48 b 57) (λ t. let w = within→ 48 b 57 t in absurd (omega arith))
    (λ f. refl)

takes→step : {s : Stand} {ns : List ℕ} {b : ℕ} {o : LineStep} → Takes s ns b o → line_step s ns b ≡ o
unfolding line_step first_digit after_number
takes→step (the-due {b} {d} e) = rw (eq-eqb b d e)
takes→step (further-space {b} e) = rw (eq-eqb b 0x20 e)
takes→step (the_zero {b} e) = rw (ne_eqb b 0x20 (λ q. omega arith), eq-eqb b 48 e)
takes→step (first-digit {b} {d} {ns} e l h) =
    rw (ne_eqb b 0x20 (λ q. omega arith), ne_eqb b 48 (λ q. omega arith))
    (by-test (λ o. o ≡ on (digits d) ns) (within 49 b 57) (λ t. ap (λ (k : ℕ). on (digits k) ns) (omega arith))
    (λ g. absurd (g (→within 49 b 57 (omega arith) (omega arith)))))
takes→step (next-digit {b} {d} {m} {ns} e h) =
    by-test (λ o. o ≡ on (digits (m * 10 + d)) ns) (within 48 b 57)
    (λ t. ap (λ (k : ℕ). on (digits (m * 10 + k)) ns) (omega arith))
    (λ g. absurd (g (→within 48 b 57 (omega arith) (omega arith))))
takes→step (first-space {b} {ns} k e) = behind-step ns b k (omega arith) ∙ rw (eq-eqb b 0x20 e)
takes→step (line-feed {b} {ns} k e) =
    behind-step ns b k (omega arith) ∙ rw (ne_eqb b 0x20 (λ q. omega arith), eq-eqb b 0x0A e)
takes→step (carriage-return {b} {ns} k e) =
    behind-step ns b k (omega arith)
    ∙ rw (ne_eqb b 0x20 (λ q. omega arith), ne_eqb b 0x0A (λ q. omega arith), eq-eqb b 0x0D e)
takes→step (feed-due {b} e) = rw (eq-eqb b 0x0A e)

-- a byte belongs, or the line is stuck at it
data Outcome (s : Stand) (ns : List ℕ) (b : ℕ) : LineStep → Type 0 where
  belongs : {o : LineStep} → Takes s ns b o → Outcome s ns b o
  refused : Outcome s ns b stuck

after-number : {s : Stand} {n : ℕ} (ns : List ℕ) (b : ℕ) → Behind s n → Outcome s ns b (after_number n ns b)
unfolding after_number
after-number {s} {n} ns b h =
    let P : LineStep → Type 0 = λ o. Outcome s ns b o in
    by-test P (eqb b 0x20) (λ t. belongs (first-space h (eqb→eq b 0x20 t)))
    (λ f. by-test P (eqb b 0x0A) (λ t. belongs (line-feed h (eqb→eq b 0x0A t)))
    (λ g. by-test P (eqb b 0x0D) (λ t. belongs (carriage-return h (eqb→eq b 0x0D t))) (λ k. refused)))

outcome : (s : Stand) (ns : List ℕ) (b : ℕ) → Outcome s ns b (line_step s ns b)
unfolding line_step first_digit
outcome (due []) ns b =
    let P : LineStep → Type 0 = λ o. Outcome (due []) ns b o in
    by-test P (eqb b 0x20) (λ t. belongs (further-space (eqb→eq b 0x20 t)))
    (λ e. by-test P (eqb b 48) (λ t. belongs (the_zero (eqb→eq b 48 t)))
    (λ f. by-test P (within 49 b 57) (λ t. let w = within→ 49 b 57 t in
    belongs (first-digit (omega arith) (omega arith) (omega arith))) (λ g. refused)))
outcome (due (d ∷ ds)) ns b =
    by-test (λ o. Outcome (due (d ∷ ds)) ns b o) (eqb b d) (λ t. belongs (the-due (eqb→eq b d t))) (λ f. refused)
outcome zero_read ns b = after-number ns b behind-zero
outcome (digits m) ns b =
    by-test (λ o. Outcome (digits m) ns b o) (within 48 b 57)
    (λ t. let w = within→ 48 b 57 t in belongs (next-digit (omega arith) (omega arith)))
    (λ f. after-number ns b behind-digits)
outcome returned ns b =
    by-test (λ o. Outcome returned ns b o) (eqb b 0x0A) (λ t. belongs (feed-due (eqb→eq b 0x0A t))) (λ f. refused)

-- the same for both lines
pub data Steps : State → ℕ → State → Type 0 where
  top-on : {s s' : Stand} {ns ns' : List ℕ} {b : ℕ} → Takes s ns b (on s' ns') → Steps (in_top s ns) b (in_top s' ns')
  top_closed : {s : Stand} {ns top : List ℕ} {b : ℕ} → Takes s ns b (closed top)
      → Steps (in_top s ns) b (in_bot top (due (bytes "BOT ")) [])
  bot-on : {s s' : Stand} {top ns ns' : List ℕ} {b : ℕ} → Takes s ns b (on s' ns')
      → Steps (in_bot top s ns) b (in_bot top s' ns')
  bot-closed : {s : Stand} {top ns bot : List ℕ} {b : ℕ} → Takes s ns b (closed bot)
      → Steps (in_bot top s ns) b (ended top bot)

steps→step : {s s' : State} {b : ℕ} → Steps s b s' → step s b ≡ some s'
unfolding step top_step bot_step
steps→step (top-on t) = ap top_step (takes→step t)
steps→step (top_closed t) = ap top_step (takes→step t)
steps→step (bot-on {top} t) = ap (bot_step top) (takes→step t)
steps→step (bot-closed {top} t) = ap (bot_step top) (takes→step t)

steps? : (s : State) (b : ℕ) → ((s' : State) × Steps s b s') ⊎ (step s b ≡ none)
unfolding step top_step bot_step
steps? (in_top s ns) b = go (line_step s ns b) (outcome s ns b)
  where
    go : (o : LineStep) → Outcome s ns b o → ((s' : State) × Steps (in_top s ns) b s') ⊎ (top_step o ≡ none)
    go (on s' ns') (belongs t) = inl (in_top s' ns', top-on t)
    go (closed top) (belongs t) = inl (in_bot top (due (bytes "BOT ")) [], top_closed t)
    go stuck h = inr refl
steps? (in_bot top s ns) b = go (line_step s ns b) (outcome s ns b)
  where
    go : (o : LineStep) → Outcome s ns b o → ((s' : State) × Steps (in_bot top s ns) b s') ⊎ (bot_step top o ≡ none)
    go (on s' ns') (belongs t) = inl (in_bot top s' ns', bot-on t)
    go (closed bot) (belongs t) = inl (ended top bot, bot-closed t)
    go stuck h = inr refl
steps? (ended top bot) b = inr refl

-- these bytes take the reader from one state to another
pub data Runs : State → List ℕ → State → Type 0 where
  here : {s : State} → Runs s [] s
  next : {s s' s'' : State} {b : ℕ} {bs : List ℕ} → Steps s b s' → Runs s' bs s'' → Runs s (b ∷ bs) s''

pub runs_append : {s s' s'' : State} {xs ys : List ℕ} → Runs s xs s' → Runs s' ys s'' → Runs s (xs ++ ys) s''
runs_append here k = k
runs_append (next t r) k = next t (runs_append r k)

pub runs-start : {s s'' : State} (xs ys : List ℕ) → Runs s (xs ++ ys) s'' → (s' : State) × Runs s xs s'
runs-start {s} [] ys r = (s, here)
runs-start (x ∷ xs) ys (next t r) = let k = runs-start xs ys r in (k.0, next t k.1)

read-on : {s s' : State} {b : ℕ} → Steps s b s' → (k : ℕ) (bs : List ℕ) → read_from s k (b ∷ bs) ≡ read_from s' (suc k) bs
unfolding read_from
read-on t k bs = rw (steps→step t, read_from)

read-stuck : (s : State) (b k : ℕ) (bs : List ℕ) → step s b ≡ none → read_from s k (b ∷ bs) ≡ garbled k
unfolding read_from
read-stuck s b k bs e = rw (e, read_from)

-- rows are read where the bytes run to the end of both lines, and only there
pub runs→read : {s : State} {text top bot : List ℕ} → Runs s text (ended top bot) → (k : ℕ)
    → read_from s k text ≡ rows top bot
unfolding read_from at_end
runs→read here k = refl
runs→read (next {bs} t r) k = read-on t k bs ∙ runs→read r (suc k)

pub read→runs : (text : List ℕ) (s : State) (k : ℕ) {top bot : List ℕ} → read_from s k text ≡ rows top bot
    → Runs s text (ended top bot)
unfolding read_from at_end
read→runs [] (in_top s ns) k e = let z : ◌≡◌ {A = ℕ} 0 1 = cc in absurd (omega arith)
read→runs [] (in_bot t s ns) k e = let z : ◌≡◌ {A = ℕ} 0 1 = cc in absurd (omega arith)
read→runs [] (ended t b) k {top} {bot} e =
    let q : ended t b ≡ ended top bot = cc in subst (λ (s : State). Runs (ended t b) [] s) q here
read→runs (b ∷ bs) s k e =
    ⊎_elim (λ w. next w.1 (read→runs bs w.0 (suc k) (sym (read-on w.1 k bs) ∙ e)))
    (λ q. let f = read-stuck s b k bs q in let z : ◌≡◌ {A = ℕ} 0 1 = cc in absurd (omega arith)) (steps? s b)

-- n is the most bytes of the text that the reader takes
pub record Stops (s : State) (text : List ℕ) (n : ℕ) : Type 0 where
  pub within_text : n ≤ length text
  pub state : State
  pub runs : Runs s (take n text) state
  pub most : (m : ℕ) {s' : State} → m ≤ length text → Runs s (take m text) s' → m ≤ n

none-taken : (s : State) → Stops s [] 0
none-taken s = record { within_text = omega arith; state = s; runs = here; most = λ m h r. h }

stuck-first : (s : State) (b : ℕ) (bs : List ℕ) → step s b ≡ none → Stops s (b ∷ bs) 0
stuck-first s b bs q = record { within_text = omega arith; state = s; runs = here; most = most }
  where
    most : (m : ℕ) {s' : State} → m ≤ suc (length bs) → Runs s (take m (b ∷ bs)) s' → m ≤ 0
    most zero h r = omega arith
    most (suc m) h (next t r) = let f = steps→step t in let z : ◌≡◌ {A = ℕ} 0 1 = cc in absurd (omega arith)

one_more : {s s' : State} {b : ℕ} {bs : List ℕ} {j : ℕ} → Steps s b s' → Stops s' bs j → Stops s (b ∷ bs) (suc j)
one_more {s} {s'} {b} {bs} {j} t h =
    record {
      within_text = let l = h.within_text in
          omega arith;
      state = h.state;
      runs = next t h.runs;
      most = most;
    }
  where
    most : (m : ℕ) {s'' : State} → m ≤ suc (length bs) → Runs s (take m (b ∷ bs)) s'' → m ≤ suc j
    most zero l r = omega arith
    most (suc m) {s''} l (next {s' = s₁} t₁ r) =
        let e₁ = steps→step t in
        let e₂ = steps→step t₁ in
        let q : s₁ ≡ s' = cc in
        let u = h.most m (omega arith) (subst (λ (s₀ : State). Runs s₀ (take m bs) s'') q r) in
        omega arith

pub garbled→stops : (text : List ℕ) (s : State) (k n : ℕ) → read_from s k text ≡ garbled n
    → (j : ℕ) × (n ≡ k + j) × Stops s text j
unfolding read_from at_end
garbled→stops [] (in_top s ns) k n e = let q : k ≡ n = cc in (0, omega arith, none-taken (in_top s ns))
garbled→stops [] (in_bot t s ns) k n e = let q : k ≡ n = cc in (0, omega arith, none-taken (in_bot t s ns))
garbled→stops [] (ended t b) k n e = let z : ◌≡◌ {A = ℕ} 0 1 = cc in absurd (omega arith)
garbled→stops (b ∷ bs) s k n e =
    ⊎_elim (λ w. let r = garbled→stops bs w.0 (suc k) n (sym (read-on w.1 k bs) ∙ e) in
    (suc r.0, omega arith, one_more w.1 r.2))
    (λ q. let f = read-stuck s b k bs q in let p : k ≡ n = cc in (0, omega arith, stuck-first s b bs q))
    (steps? s b)
