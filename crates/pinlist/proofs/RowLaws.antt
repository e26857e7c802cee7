-- The numbers of a line, one by one: how far the line is read, and what its row holds then.
use Rattle.std.specs.Prelude.{ℕ, suc, ◌+◌, ◌≤◌, ◌<◌, refl, length, get_or, take, drop, set, Some, None, Result, Ok, Err}
use Rattle.std.proofs.Common.{arith, sym, ◌∙◌, ap, length-append, length-drop, drop-drop}
use Rattle.std.proofs.Math.Numerals.{add-one}
use Rattle.std.proofs.Math.Path.{◌≡◌, subst}
use mathlib.Core.List.{List, [], ◌∷◌, ◌++◌, map, map-append}
use Rattle.std.proofs.lemmas.List.{length-map}
use Rattle.lists.specs.Lists.{overlay}
use Rattle.lists.specs.Overlays.{stored_next}
use Rattle.channel.specs.Channel.{widest}
use Rattle.pinlist.specs.declared.number.NumberAt.{NumberAt}
use Rattle.pinlist.specs.declared.line.Line.{Line}
use Rattle.pinlist.specs.declared.line.Stuck.{Stuck}
use Rattle.pinlist.specs.Reader.{due}
use Rattle.pinlist.specs.Code.{number_to, line_to, stuck_at, kept, NumberFound, Lined, lined, broken, line_from, feed_read, shared, line_read}
use Rattle.pinlist.specs.Code.{LineDone}
use Rattle.pinlist.proofs.CodeLaws.{Tells, Standing, behind, number-tells, behind-end, behind-feed, behind-return, behind-space, behind-other, returned-tells, word-passed, word-broken, shared-within, lined-within}

-- these numbers stand at the front of the row, as far as it reaches
abbrev pub Held : List ℕ → List ℕ → List ℕ → Type 0
Held ns row₀ row = row ≡ overlay (take widest (map kept ns)) row₀

-- the line from `from` on goes on at `at`, behind `count` numbers that the row holds
pub record SoFar (text : List ℕ) (from : ℕ) (row₀ row : List ℕ) (at count : ℕ) : Type 0 where
  pub numbers : List ℕ
  pub goes_on : line_from (due []) [] from (drop from text) ≡ line_from (due []) numbers at (drop at text)
  pub counted : count ≡ length numbers
  pub held : Held numbers row₀ row
  pub inside : at ≤ length text
  pub few : count ≤ at

-- the same behind one more number, before the byte that follows it is looked at
pub record Behind (text : List ℕ) (from : ℕ) (row₀ row : List ℕ) (at count : ℕ) : Type 0 where
  pub before : List ℕ
  pub number : ℕ
  pub goes_on : line_from (due []) [] from (drop from text) ≡ behind number before at (drop at text)
  pub counted : count ≡ length (before ++ (number ∷ []))
  pub held : Held (before ++ (number ∷ [])) row₀ row
  pub inside : at ≤ length text
  pub few : count ≤ at

pub none_yet : (text : List ℕ) (from : ℕ) (row : List ℕ) → from ≤ length text → SoFar text from row row from 0
none_yet text from row h =
    record { numbers = []; goes_on = refl; counted = refl; held = refl; inside = h; few = omega arith }

-- one more number
held_more : (ns : List ℕ) (n : ℕ) (row₀ row : List ℕ) → length row₀ ≡ widest → Held ns row₀ row
    → Held (ns ++ (n ∷ [])) row₀ (set row (length ns) (kept n))
held_more ns n row₀ row e h = rw (map-append, ← length-map ns kept) (stored_next row₀ (map kept ns) (kept n) widest e h)

module _ (text : List ℕ) (from : ℕ) (row₀ : List ℕ) where
  -- what the number reader finds at `at` says how the line goes on
  told : (row : List ℕ) (at count : ℕ) (s : SoFar text from row₀ row at count) {r : NumberAt} → NumberFound text at r
      → Tells text s.numbers r.from (line_from (due []) s.numbers at (drop at text)) r.number
  told row at count s f = rw (f.number, f.from) (number-tells text s.numbers at)

  standing : (row : List ℕ) (at count v next : ℕ) (s : SoFar text from row₀ row at count) {r : NumberAt}
      → NumberFound text at r → r.number ≡ Some (number_to v next)
      → Standing text s.numbers r.from (line_from (due []) s.numbers at (drop at text)) v next
  standing row at count v next s {r} f e =
      subst (Tells text s.numbers r.from (line_from (due []) s.numbers at (drop at text))) e
      (told row at count s f)

  extended : (row row' : List ℕ) (at count v next : ℕ) (s : SoFar text from row₀ row at count) → length row₀ ≡ widest
      → row' ≡ set row count v → {begins : ℕ} → at ≤ begins
      → Standing text s.numbers begins (line_from (due []) s.numbers at (drop at text)) v next
      → Behind text from row₀ row' next (count + 1)
  extended row row' at count v next s e q b t =
      record {
        before = s.numbers;
        number = t.number;
        goes_on = s.goes_on ∙ t.goes_on;
        counted = simp length-append (omega arith);
        held = q ∙ rw (s.counted, t.as-kept) (held_more s.numbers t.number row₀ row e s.held);
        inside = t.inside;
        few = let h = s.few in let l = t.later in omega arith;
      }

  -- what is found at `at` is the next number, which goes into its place of the row
  pub number_read_lem : (row row' : List ℕ) (at count v next : ℕ) → SoFar text from row₀ row at count → length row₀ ≡ widest
      → row' ≡ set row count v → {r : NumberAt} → NumberFound text at r → r.number ≡ Some (number_to v next)
      → Behind text from row₀ row' next (count + 1)
  number_read_lem row row' at count v next s e q f g =
      extended row row' at count v next s e q f.run.later (standing row at count v next s f g)

  pub number-later : (row : List ℕ) (at count v next : ℕ) → SoFar text from row₀ row at count → {r : NumberAt}
      → NumberFound text at r → r.number ≡ Some (number_to v next) → at < next
  number-later row at count v next s f g =
      let h = f.run.later in
      let l = (standing row at count v next s f g).later in
      omega arith

  -- the ways in which a line ends
  stuck-done : (row : List ℕ) (k : ℕ) → line_from (due []) [] from (drop from text) ≡ broken k
      → LineDone [] text from row₀ (Err (stuck_at k)) row
  unfolding line_read
  stuck-done row k e = record { answer = rw e; held = λ ns j q. absurd (let z : ◌≡◌ {A = ℕ} 0 1 = cc in omega arith) }

  pub no_number : (row : List ℕ) (at count : ℕ) → SoFar text from row₀ row at count → {r : NumberAt}
      → NumberFound text at r → r.number ≡ None → LineDone [] text from row₀ (Err (stuck_at r.from)) row
  no_number row at count s {r} f e =
      stuck-done row r.from
      (s.goes_on ∙ subst
      (Tells text s.numbers r.from (line_from (due []) s.numbers at (drop at text))) e
      (told row at count s f))

  pub cut_off : (row : List ℕ) (at count : ℕ) → Behind text from row₀ row at count → length text ≤ at
      → LineDone [] text from row₀ (Err (stuck_at at)) row
  cut_off row at count b h = stuck-done row at (b.goes_on ∙ behind-end b.number b.before text at h)

  pub other_byte : (row : List ℕ) (at count : ℕ) → Behind text from row₀ row at count → at < length text
      → (get_or text at 0 ≡ 10 → ⊥) → (get_or text at 0 ≡ 13 → ⊥) → (get_or text at 0 ≡ 32 → ⊥)
      → LineDone [] text from row₀ (Err (stuck_at at)) row
  other_byte row at count b h e f g =
      stuck-done row at (b.goes_on ∙ behind-other b.number b.before text at h e f g)

  pub line-feed : (row : List ℕ) (at count : ℕ) → Behind text from row₀ row at count → at < length text
      → get_or text at 0 ≡ 10 → LineDone [] text from row₀ (Ok (line_to count (at + 1))) row
  unfolding line_read
  line-feed row at count b h e =
      let whole = b.goes_on ∙ behind-feed b.number b.before text at h e in
      record {
        answer = rw (whole, add-one, b.counted);
        held = λ ns j q.
            let same : b.before ++ (b.number ∷ []) ≡ ns = cc in
            subst (λ (l : List ℕ). Held l row₀ row) same b.held;
      }

  -- a carriage return, and what is answered of the byte behind it
  pub carriage-return : (row : List ℕ) (at count : ℕ) → Behind text from row₀ row at count → at < length text
      → get_or text at 0 ≡ 13 → {r : Result Line Stuck} → r ≡ feed_read count (at + 1) (drop (at + 1) text)
      → LineDone [] text from row₀ r row
  carriage-return row at count b h e q =
      let told = returned-tells (b.before ++ (b.number ∷ [])) (suc at) (drop (suc at) text) in
      let goes = b.goes_on ∙ behind-return b.number b.before text at h e in
      record {
        answer = q ∙ rw (goes, add-one, b.counted) told.0;
        held = λ ns j p. subst (λ (l : List ℕ). Held l row₀ row) (told.1 ns j (sym goes ∙ p)) b.held;
      }

  -- a space, and the line goes on
  pub space : (row : List ℕ) (at count : ℕ) → Behind text from row₀ row at count → at < length text
      → get_or text at 0 ≡ 32 → SoFar text from row₀ row (at + 1) count
  space row at count b h e =
      record {
        numbers = b.before ++ (b.number ∷ []);
        goes_on = rw add-one (b.goes_on ∙ behind-space b.number b.before text at h e);
        counted = b.counted;
        held = b.held;
        inside = omega arith;
        few = let l = b.few in omega arith;
      }

-- a line from its word on: a word that does not stand whole breaks it, and behind a whole one the numbers are read
module _ (word text : List ℕ) (at n : ℕ) (inside : at ≤ length text) (size : length word ≡ n) where
  pub word_cut : (row row' : List ℕ) {same : ℕ} → same ≡ shared word (drop at text) → same < n
      → LineDone word text at row (Err (stuck_at (at + same))) row'
  unfolding line_read
  word_cut row row' {same} e h =
      let cut = word-broken word [] at (drop at text) (omega arith) in
      record { answer = rw (cut, e); held = λ ns j q. absurd (let z : ◌≡◌ {A = ℕ} 0 1 = cc in omega arith) }

  pub word_room : {same : ℕ} → same ≡ shared word (drop at text) → n ≤ same → at + n ≤ length text
  word_room e h = let w = shared-within word (drop at text) in let l = length-drop at text in omega arith

  pub word-whole : (row row' : List ℕ) (r : Result Line Stuck) {same : ℕ} → same ≡ shared word (drop at text) → n ≤ same
      → LineDone [] text (at + n) row r row' → LineDone word text at row r row'
  word-whole row row' r e h d =
      record { answer = d.answer ∙ ap line_read (sym passed); held = λ ns k q. d.held ns k (sym passed ∙ q) }
    where
      passed : line_from (due word) [] at (drop at text) ≡ line_from (due []) [] (at + n) (drop (at + n) text)
      passed =
          let w = shared-within word (drop at text) in
          word-passed word [] at (drop at text) (omega arith) ∙ rw (size, drop-drop)

-- what is answered of a line, taken back to the line
pub line-broken : (word text : List ℕ) (at : ℕ) (row row' : List ℕ) {stuck : Stuck}
    → LineDone word text at row (Err stuck) row' → line_from (due word) [] at (drop at text) ≡ broken stuck.0
unfolding line_read
line-broken word text at row row' {stuck} d = go (line_from (due word) [] at (drop at text)) d.answer
  where
    go : (l : Lined) → Err stuck ≡ line_read l → l ≡ broken stuck.0
    go (lined ns j) q = cc
    go (broken j) q = let same : stuck ≡ stuck_at j = cc in ap (λ (e : Stuck). broken e.0) (sym same)

-- a whole line: its numbers, and the row that holds them
pub record Whole (word text : List ℕ) (at : ℕ) (row row' : List ℕ) (count next : ℕ) : Type 0 where
  pub numbers : List ℕ
  pub read : line_from (due word) [] at (drop at text) ≡ lined numbers next
  pub counted : count ≡ length numbers
  pub held : Held numbers row row'

pub line-whole : (word text : List ℕ) (at : ℕ) (row row' : List ℕ) {line : Line}
    → LineDone word text at row (Ok line) row' → Whole word text at row row' line.count line.next
unfolding line_read
line-whole word text at row row' {line} d = go (line_from (due word) [] at (drop at text)) refl d.answer
  where
    go : (l : Lined) → line_from (due word) [] at (drop at text) ≡ l → Ok line ≡ line_read l
        → Whole word text at row row' line.count line.next
    go (lined ns j) p q =
        let same : line ≡ line_to (length ns) j = cc in
        let read = p ∙ ap (lined ns) (sym (ap (λ (l : Line). l.next) same)) in
        record { numbers = ns; read = read; counted = ap (λ (l : Line). l.count) same; held = d.held ns line.next read }
    go (broken j) p q = cc

pub whole-within : {word text : List ℕ} {at : ℕ} {row row' : List ℕ} {count next : ℕ} → at ≤ length text
    → Whole word text at row row' count next → next ≤ length text
whole-within {word} {text} {at} h w =
    let l = lined-within (due word) [] at (drop at text) w.read in
    let d = length-drop at text in omega arith
