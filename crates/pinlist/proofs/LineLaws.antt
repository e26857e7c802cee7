-- One line of a pin list: the reader closes it with a row exactly where the bytes are the word, the numbers of the row
-- and a line end.
use Rattle.std.specs.Prelude.{ℕ, zero, suc, ◌≡◌, refl, List, [], ◌∷◌, ◌++◌}
use Rattle.std.proofs.Common.{arith, sym, ◌∙◌, ap, subst, append_assoc, append-nil}
use Rattle.lists.specs.Bytes.{decimal}
use Rattle.lists.specs.Digits.{Grows, whole, digit, decimal-small, grown, first-digit as begins}
use Rattle.pinlist.specs.Form.{Gap, space, wider, LineEnd, feed, return-feed, Numbers, one, more}
use Rattle.pinlist.specs.Reader.{Stand, due, zero_read, digits, returned, on, closed}
use Rattle.pinlist.proofs.Runs.{Behind, behind-zero, behind-digits, Takes, the-due, further-space, the_zero}
use Rattle.pinlist.proofs.Runs.{first-digit, next-digit, first-space, line-feed, carriage-return, feed-due}

-- from this stand, with these numbers, the bytes close the line with this row
pub data LineRun : Stand → List ℕ → List ℕ → List ℕ → Type 0 where
  last : {s : Stand} {ns row : List ℕ} {b : ℕ} → Takes s ns b (closed row) → LineRun s ns (b ∷ []) row
  then : {s s' : Stand} {ns ns' text row : List ℕ} {b : ℕ} → Takes s ns b (on s' ns') → LineRun s' ns' text row
      → LineRun s ns (b ∷ text) row

-- none or more of: a gap and a number
data Further : List ℕ → List ℕ → Type 0 where
  nothing : Further [] []
  further : (g : List ℕ) (n : ℕ) {text ns : List ℕ} → Gap g → Further text ns
      → Further (g ++ (decimal n ++ text)) (n ∷ ns)

numbers→further : {text ns : List ℕ} → Numbers text ns → Further text ns
numbers→further (one g n e) =
    subst (λ (t : List ℕ). Further (g ++ t) (n ∷ [])) (append-nil (decimal n)) (further g n e nothing)
numbers→further (more g n e r) = further g n e (numbers→further r)

further→numbers : (g : List ℕ) (n : ℕ) {text ns : List ℕ} → Gap g → Further text ns
    → Numbers (g ++ (decimal n ++ text)) (n ∷ ns)
further→numbers g n e nothing =
    subst (λ (t : List ℕ). Numbers (g ++ t) (n ∷ [])) (sym (append-nil (decimal n))) (one g n e)
further→numbers g n e (further h m f r) = more g n e (further→numbers h m f r)

-- what may follow until the number n is read; where spaces may go on, they are the rest of a gap
abbrev Rest : Stand → List ℕ → ℕ → Type 0
Rest (due bs) front n = (pad : List ℕ) × Gap (0x20 ∷ pad) × (front ≡ bs ++ (pad ++ decimal n))
Rest zero_read front n = (front ≡ []) × (n ≡ 0)
Rest (digits m) front n = Grows m front n
Rest returned front n = ⊥

-- what may follow until the line is closed with this row, the rest of a number first
record Numbered (s : Stand) (ns text row : List ℕ) : Type 0 where
  front : List ℕ
  n : ℕ
  tail : List ℕ
  ms : List ℕ
  end : List ℕ
  number : Rest s front n
  numbers : Further tail ms
  ends : LineEnd end
  written : text ≡ front ++ (tail ++ end)
  is_row : row ≡ ns ++ (n ∷ ms)

-- the same behind a carriage return too
data Open : Stand → List ℕ → List ℕ → List ℕ → Type 0 where
  a-number : {s : Stand} {ns text row : List ℕ} → Numbered s ns text row → Open s ns text row
  a-feed : {ns : List ℕ} → Open returned ns (0x0A ∷ []) ns

behind→rest : {s : Stand} {n : ℕ} → Behind s n → Rest s [] n
behind→rest behind-zero = (refl, refl)
behind→rest behind-digits = whole

grow-front : {s s' : Stand} {ns text row : List ℕ} (b : ℕ) (o : Numbered s' ns text row) → Rest s (b ∷ o.front) o.n
    → Open s ns (b ∷ text) row
grow-front b o h =
    a-number record {
      front = b ∷ o.front;
      n = o.n;
      tail = o.tail;
      ms = o.ms;
      end = o.end;
      number = h;
      numbers = o.numbers;
      ends = o.ends;
      written = ap (λ (t : List ℕ). b ∷ t) o.written;
      is_row = o.is_row;
    }

-- a line end behind the last number
last-number : {s : Stand} {n : ℕ} {ns end : List ℕ} → Behind s n → LineEnd end → Open s ns end (ns ++ (n ∷ []))
last-number {n} {end} k e =
    a-number record {
      front = [];
      n = n;
      tail = [];
      ms = [];
      end = end;
      number = behind→rest k;
      numbers = nothing;
      ends = e;
      written = refl;
      is_row = refl;
    }

regrouped : (pad number tail end : List ℕ) → (pad ++ number) ++ (tail ++ end) ≡ (pad ++ (number ++ tail)) ++ end
regrouped pad number tail end = simp append_assoc

-- a byte that belongs stands in front of what may follow it
open-before : {s s' : Stand} {ns ns' text row : List ℕ} {b : ℕ} → Takes s ns b (on s' ns') → Open s' ns' text row
    → Open s ns (b ∷ text) row
open-before (the-due {b} {d} {ds} e) (a-number o) =
    let r = o.number in
    grow-front b o (r.0, r.1, let q : o.front ≡ ds ++ (r.0 ++ decimal o.n) = r.2 in cc)
open-before (further-space {b} e) (a-number o) =
    let r = o.number in
    grow-front b o (
      b ∷ r.0,
      wider (subst (λ (k : ℕ). Gap (k ∷ r.0)) (sym e) r.1),
      let q : o.front ≡ r.0 ++ decimal o.n = r.2 in cc,
    )
open-before (the_zero {b} e) (a-number o) =
    let q = o.number.0 in
    let z = o.number.1 in
    grow-front b o ([], space, cc (decimal-small 0 (omega arith)))
open-before (first-digit {b} {d} e l h) (a-number o) =
    grow-front b o (
      [],
      space,
      rw e (ap (λ (ds : List ℕ). ds ++ o.front) (sym (decimal-small d h)) ∙ sym (grown l o.number)),
    )
open-before (next-digit {b} {d} {m} e h) (a-number o) = grow-front b o (rw e (digit d h o.number))
open-before (first-space {b} {n} {ns} k e) (a-number o) =
    let r = o.number in
    a-number record {
      front = [];
      n = n;
      tail = (b ∷ r.0) ++ (decimal o.n ++ o.tail);
      ms = o.n ∷ o.ms;
      end = o.end;
      number = behind→rest k;
      numbers = further (b ∷ r.0) o.n (subst (λ (j : ℕ). Gap (j ∷ r.0)) (sym e) r.1) o.numbers;
      ends = o.ends;
      written = ap (λ (t : List ℕ). b ∷ t) (o.written
          ∙ (ap (λ (t : List ℕ). t ++ (o.tail ++ o.end)) r.2
          ∙ regrouped r.0 (decimal o.n) o.tail o.end));
      is_row = o.is_row
          ∙ append_assoc ns (n ∷ []) (o.n ∷ o.ms);
    }
open-before (carriage-return k e) (a-number o) = absurd o.number
open-before (carriage-return k e) a-feed = rw e (last-number k return-feed)

run→open : {s : Stand} {ns text row : List ℕ} → LineRun s ns text row → Open s ns text row
run→open (last (line-feed k e)) = rw e (last-number k feed)
run→open (last (feed-due e)) = rw e a-feed
run→open (then t r) = open-before t (run→open r)

-- where bytes are due a number follows
due→number : {bs ns text row : List ℕ} → Open (due bs) ns text row → Numbered (due bs) ns text row
due→number (a-number o) = o

-- and the other way round: over what may follow, the reader runs to the row
digits-run : {m : ℕ} {ds : List ℕ} {n : ℕ} {ns text row : List ℕ} → Grows m ds n → LineRun (digits n) ns text row
    → LineRun (digits m) ns (ds ++ text) row
digits-run whole r = r
digits-run (digit d h g) r = then (next-digit refl h) (digits-run g r)

-- what closes the line from behind a number, behind its digits closes it from where a digit is due
number-run : (n : ℕ) {ns text row : List ℕ} → ((s : Stand) → Behind s n → LineRun s ns text row)
    → LineRun (due []) ns (decimal n ++ text) row
number-run zero {ns} {text} {row} r =
    subst (λ (t : List ℕ). LineRun (due []) ns (t ++ text) row) (sym (decimal-small 0 (omega arith)))
    (then (the_zero refl) (r zero_read behind-zero))
number-run (suc n) {ns} {text} {row} r =
    let f = begins (suc n) (omega arith) in
    subst (λ (t : List ℕ). LineRun (due []) ns (t ++ text) row) (sym f.written)
    (then (first-digit refl f.low f.high) (digits-run f.grows (r (digits (suc n)) behind-digits)))

-- a gap is passed where spaces may go on, behind a number, and behind a line's word
spaces-run : {g ns text row : List ℕ} → Gap g → LineRun (due []) ns text row → LineRun (due []) ns (g ++ text) row
spaces-run space r = then (further-space refl) r
spaces-run (wider g) r = then (further-space refl) (spaces-run g r)

gap-run : {s : Stand} {n : ℕ} {g ns text row : List ℕ} → Behind s n → Gap g
    → LineRun (due []) (ns ++ (n ∷ [])) text row → LineRun s ns (g ++ text) row
gap-run k space r = then (first-space k refl) r
gap-run k (wider g) r = then (first-space k refl) (spaces-run g r)

word-run : (word : List ℕ) {g ns text row : List ℕ} → Gap g → LineRun (due []) ns text row
    → LineRun (due (word ++ (0x20 ∷ []))) ns (word ++ (g ++ text)) row
word-run [] space r = then (the-due refl) r
word-run [] (wider g) r = then (the-due refl) (spaces-run g r)
word-run (b ∷ word) g r = then (the-due refl) (word-run word g r)

end-run : {s : Stand} {n : ℕ} {ns end : List ℕ} → Behind s n → LineEnd end → LineRun s ns end (ns ++ (n ∷ []))
end-run k feed = last (line-feed k refl)
end-run k return-feed = then (carriage-return k refl) (last (feed-due refl))

further-run : {s : Stand} {n : ℕ} (ns : List ℕ) {text ms end : List ℕ} → Behind s n → Further text ms → LineEnd end
    → LineRun s ns (text ++ end) (ns ++ (n ∷ ms))
further-run ns k nothing e = end-run k e
further-run {s} {n} ns {end} k (further g m {text} {ns = ms} h f) e =
    rw (append_assoc g (decimal m ++ text) end, append_assoc (decimal m) text end)
    (gap-run k h (number-run m (λ s' k'. rw append_assoc at (further-run {s = s'} (ns ++ (n ∷ [])) k' f e))))

start-run : (word : List ℕ) {g : List ℕ} (n : ℕ) {tail ms end : List ℕ} → Gap g → Further tail ms → LineEnd end
    → LineRun (due (word ++ (0x20 ∷ []))) [] (word ++ ((g ++ (decimal n ++ tail)) ++ end)) (n ∷ ms)
start-run word n h f e =
    simp append_assoc (word-run word h (number-run n (λ s k. further-run [] k f e)))

-- the word, the numbers of a row and a line end close a line with the row
pub line-run : (word : List ℕ) {text row end : List ℕ} → Numbers text row → LineEnd end
    → LineRun (due (word ++ (0x20 ∷ []))) [] (word ++ (text ++ end)) row
line-run word (one g n h) e = rw append-nil at (start-run word n h nothing e)
line-run word (more g n h r) e = start-run word n h (numbers→further r) e

-- and nothing else does
pub record Line (word text row : List ℕ) : Type 0 where
  pub number_text : List ℕ
  pub end : List ℕ
  pub numbers : Numbers number_text row
  pub ends : LineEnd end
  pub written : text ≡ word ++ (number_text ++ end)

pub run→line : (word : List ℕ) {text row : List ℕ} → LineRun (due (word ++ (0x20 ∷ []))) [] text row
    → Line word text row
run→line word {text} {row} r =
    let o = due→number (run→open r) in
    let pad = o.number.0 in
    record {
      number_text = (0x20 ∷ pad) ++ (decimal o.n ++ o.tail);
      end = o.end;
      numbers = subst (λ (ns : List ℕ). Numbers ((0x20 ∷ pad) ++ (decimal o.n ++ o.tail)) ns) (sym o.is_row)
          (further→numbers (0x20 ∷ pad) o.n o.number.1 o.numbers);
      ends = o.ends;
      written = o.written
          ∙ (ap (λ (t : List ℕ). t ++ (o.tail ++ o.end)) o.number.2 ∙ simp append_assoc);
    }

-- every line that is begun can be closed
pub record Closable (s : Stand) (ns : List ℕ) : Type 0 where
  pub rest : List ℕ
  pub row : List ℕ
  pub runs : LineRun s ns rest row

behind-closable : {s : Stand} {n : ℕ} (ns : List ℕ) → Behind s n → Closable s ns
behind-closable {n} ns k = record { rest = 0x0A ∷ []; row = ns ++ (n ∷ []); runs = end-run k feed }

pub closable : (s : Stand) (ns : List ℕ) → Closable s ns
closable (due []) ns =
    record {
      rest = decimal 0 ++ (0x0A ∷ []);
      row = ns ++ (0 ∷ []);
      runs = number-run 0 (λ s k. end-run k feed);
    }
closable (due (b ∷ bs)) ns =
    let c = closable (due bs) ns in
    record { rest = b ∷ c.rest; row = c.row; runs = then (the-due refl) c.runs }
closable zero_read ns = behind-closable ns behind-zero
closable (digits n) ns = behind-closable ns behind-digits
closable returned ns = record { rest = 0x0A ∷ []; row = ns; runs = last (feed-due refl) }
