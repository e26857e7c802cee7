-- What reading a text answers and leaves, case by case: short rows, a garbled text, rows too wide, and what the check
-- of the kept rows says.
use Rattle.std.specs.Prelude.{ℕ, suc, ◌≤◌, ◌<◌, refl, ◌↔◌, ◌⊎◌, ◌||◌, take, Result, Ok, Err}
use native.Mathlib.Omega.{arith}
use Rattle.std.proofs.Math.Decide.{dec_le}
use Rattle.std.proofs.Math.Path.{◌≡◌, ap}
use Rattle.std.proofs.Common.{sym, ◌∙◌, ap₂, take_all, lt→ltb}
use mathlib.Core.List.{List, map}
use Rattle.std.proofs.Math.Logic.{⊎_elim}
use Rattle.std.proofs.Math.Option.{Option, none, some}
use Rattle.std.proofs.Math.ListN.{length}
use Rattle.std.proofs.lemmas.List.{length-map}
use Rattle.std.proofs.Math.Dec.{ltb}
use borrow.Author.Tests.{lt-ltb, le-ltb}
use Rattle.lists.specs.Lists.{keep, overlay}
use Rattle.lists.specs.Tests.{or_left, or_right}
use Rattle.lists.specs.Overlays.{overlay-front}
use Rattle.refusal.specs.declared.Refusal.{Refusal}
use Rattle.refusal.specs.declared.Refusal.TheVariants.{ShortTray, Garbled, TooWide}
use Rattle.refusal.specs.Refusals.{refuse_at_first, ◌or_else◌, answered, ok_unless, filled_unless}
use Rattle.refusal.specs.ChainLaws.{or_else_some, some-or-else, some-refuse-if, ok→none, err→some}
use Rattle.refusal.specs.Trays.{row_tray, short_tray}
use Rattle.channel.specs.Channel as channel
use Rattle.channel.specs.Channel.{Channel, width, widest}
use Rattle.channel.specs.Answers.{too_wide, uneven, high_net, rows_refusal, rows_answer}
use Rattle.channel.proofs.ToldLaws.{rows-numbers}
use Rattle.pinlist.specs.declared.line.Stuck.{Stuck}
use Rattle.pinlist.specs.Reader as reader
use Rattle.pinlist.specs.Reader.{rows, garbled, read_text}
use Rattle.pinlist.specs.Answers.{
  garbled_refusal,
  channel_of,
  text_channel,
  text_refusal,
  read_refusal,
  read_answer,
  top_after,
  bot_after,
}
use Rattle.pinlist.specs.Form.{GarbledAt}
use Rattle.pinlist.proofs.ReaderLaws.{read-exactly}
use Rattle.pinlist.specs.Code.{stuck_at, kept, text_read, Parsed, ReadDone}
use Rattle.pinlist.proofs.RowLaws.{Held}
use Rattle.pinlist.specs.KeptLaws.{kept_channel, kept-refusal, accepted-same}

-- what a parsed text was
pub parsed-garbled : (text t b t' b' : List ℕ) {stuck : Stuck} → Parsed text t b (Err stuck) t' b'
    → read_text text ≡ garbled stuck.0
unfolding text_read
parsed-garbled text t b t' b' {stuck} p = go (read_text text) p.answer
  where
    go : (w : reader.TextRead) → Err stuck ≡ text_read w → w ≡ garbled stuck.0
    go (rows ts bs) q = cc
    go (garbled j) q = let same : stuck ≡ stuck_at j = cc in ap (λ (e : Stuck). garbled e.0) (sym same)

-- the arrays hold the numbers of the two rows, whatever they held before
pub record BothRows (text t' b' : List ℕ) (a c : ℕ) : Type 0 where
  pub t : List ℕ
  pub b : List ℕ
  pub top : List ℕ
  pub bot : List ℕ
  pub read : read_text text ≡ rows top bot
  pub top_count : a ≡ length top
  pub bot_count : c ≡ length bot
  pub top_held : Held top t t'
  pub bot_held : Held bot b b'

pub parsed-rows : (text t b t' b' : List ℕ) {a c : ℕ} → Parsed text t b (Ok (a, c)) t' b' → BothRows text t' b' a c
unfolding text_read
parsed-rows text t b t' b' {a} {c} p = go (read_text text) refl p.answer
  where
    go : (w : reader.TextRead) → read_text text ≡ w → Ok (a, c) ≡ text_read w → BothRows text t' b' a c
    go (rows ts bs) h q =
        let both : (a, c) ≡ (length ts, length bs) = cc in
        let first = ap (λ (k : ℕ × ℕ). k.0) both in
        let second = ap (λ (k : ℕ × ℕ). k.1) both in
        record {
          t = t;
          b = b;
          top = ts;
          bot = bs;
          read = h;
          top_count = first;
          bot_count = second;
          top_held = p.top_held ts bs h;
          bot_held = p.bot_held ts bs h;
        }
    go (garbled j) h q = cc

-- the front of an array that holds a row is the row as it is kept
front : (ns row : List ℕ) {row' : List ℕ} {a : ℕ} → Held ns row row' → a ≡ length ns → a ≤ widest
    → take a row' ≡ map kept ns
front ns row {row'} {a} held e h =
    let size : a ≡ length (map kept ns) = e ∙ sym (length-map ns kept) in
    rw (held, take_all widest (map kept ns) (omega arith), size) (overlay-front (map kept ns) row)

module _ {text t' b' : List ℕ} {a c : ℕ} (both : BothRows text t' b' a c) where
  top-front : a ≤ widest → take a t' ≡ map kept both.top
  top-front = front both.top both.t both.top_held both.top_count

  bot-front : c ≤ widest → take c b' ≡ map kept both.bot
  bot-front = front both.bot both.b both.bot_held both.bot_count

  pub top-size : a ≤ widest → a ≡ length (take a t')
  top-size h = both.top_count ∙ (sym (length-map both.top kept) ∙ ap length (sym (top-front h)))

  pub bot-size : c ≤ widest → c ≡ length (take c b')
  bot-size h = both.bot_count ∙ (sym (length-map both.bot kept) ∙ ap length (sym (bot-front h)))

module _ (text top bot : List ℕ) where
  pub long-rows : row_tray ≤ length top → row_tray ≤ length bot
      → read_refusal text (length top) (length bot) ≡ text_refusal text
  unfolding read_refusal short_tray keep refuse_at_first ◌or_else◌
  long-rows long₁ long₂ = rw (le-ltb (length top) row_tray long₁, le-ltb (length bot) row_tray long₂)

  -- refusal 2 is that of the text: rows are refused for 3 to 5
  text-refusal : (n : ℕ) → (text_refusal text ≡ some (Garbled n)) ↔ (read_text text ≡ garbled n)
  unfolding text_refusal garbled_refusal ◌or_else◌
  text-refusal n = (
    λ e. ⊎_elim (go (read_text text))
        (λ h. let k = rows-numbers (text_channel text) (Garbled n) h.1 in absurd (omega arith))
        (or_else_some (garbled_refusal (read_text text)) (rows_refusal (text_channel text)) (Garbled n) e),
    λ e. rw e,
  )
    where
      go : (w : reader.TextRead) → garbled_refusal w ≡ some (Garbled n) → w ≡ garbled n
      go (rows ts bs) e = absurd (let z : ◌≡◌ {A = ℕ} 0 1 = cc in omega arith)
      go (garbled m) e = cc

  answered-garbled : row_tray ≤ length top → row_tray ≤ length bot → (n : ℕ)
      → (read_answer text (length top) (length bot) ≡ Err (Garbled n)) ↔ GarbledAt text n
  unfolding read_answer answered
  answered-garbled long₁ long₂ n =
      let exactly = (read-exactly text).garbled-exactly n in
      let same = long-rows long₁ long₂ in (
        λ e. exactly.0 ((text-refusal n).0 (sym same ∙ err→some _ (read_refusal text (length top) (length bot)) e)),
        λ g. rw (same, (text-refusal n).1 (exactly.1 g)),
      )

  -- the equations give the whole contract
  done : {r : Result ℕ Refusal} {top' bot' : List ℕ} → r ≡ read_answer text (length top) (length bot)
      → top' ≡ top_after text top bot → bot' ≡ bot_after text top bot → ReadDone text top bot r top' bot'
  done e t b =
      record {
        answer = e;
        top_held = t;
        bot_held = b;
        exactly = read-exactly text;
        garbled = λ h₁ h₂ n. rw e (answered-garbled h₁ h₂ n);
      }

  refused : {r : Refusal} → read_refusal text (length top) (length bot) ≡ some r
      → ReadDone text top bot (Err r) top bot
  unfolding read_answer top_after bot_after answered filled_unless
  refused e = done (rw e) (rw e) (rw e)

  -- refusal 1
  pub short-rows : (length top < row_tray) ⊎ (length bot < row_tray)
      → ReadDone text top bot (Err (ShortTray row_tray)) top bot
  unfolding read_refusal short_tray keep refuse_at_first ◌or_else◌
  short-rows h = refused (go (dec_le row_tray (length top)))
    where
      go : Dec (row_tray ≤ length top) → read_refusal text (length top) (length bot) ≡ some (ShortTray row_tray)
      go (yes l) =
          let k : length bot < row_tray = ⊎_elim (λ s. absurd (omega arith)) (λ s. s) h in
          rw (le-ltb (length top) row_tray l, lt-ltb (length bot) row_tray k)
      go (no l) = let k : length top < row_tray = omega arith in rw (lt-ltb (length top) row_tray k)

  module _ (long₁ : row_tray ≤ length top) (long₂ : row_tray ≤ length bot) where
    -- refusal 2
    pub text-garbled : (k : ℕ) → read_text text ≡ garbled k → ReadDone text top bot (Err (Garbled k)) top bot
    unfolding text_refusal garbled_refusal ◌or_else◌
    text-garbled k e = refused (long-rows long₁ long₂ ∙ rw e)

    module _ {t' b' : List ℕ} {a c : ℕ} (both : BothRows text t' b' a c) where
      abbrev ch : Channel
      ch = channel.rows both.top both.bot

      of-rows : read_refusal text (length top) (length bot) ≡ rows_refusal ch
      unfolding text_refusal garbled_refusal channel_of ◌or_else◌
      of-rows = long-rows long₁ long₂ ∙ rw both.read

      -- refusal 3
      pub rows-wide : (widest < a) ⊎ (widest < c) → ReadDone text top bot (Err (TooWide (suc widest))) top bot
      unfolding rows_refusal too_wide
      rows-wide h =
          let one = ltb widest (length both.top) in
          let other = ltb widest (length both.bot) in
          let first = both.top_count in
          let second = both.bot_count in
          let wide =
          ⊎_elim (λ w. or_left one other (lt→ltb widest (length both.top) (omega arith)))
          (λ w. or_right one other (lt→ltb widest (length both.bot) (omega arith))) h in
          let said = some-refuse-if (one || other) (TooWide (suc widest)) wide in
          refused (of-rows ∙ some-or-else (too_wide ch) (uneven ch or_else high_net ch) _ said)

      -- 3 to 5, as the check of the kept rows says them
      module _ (narrow₁ : a ≤ widest) (narrow₂ : c ≤ widest) where
        said : rows_answer (channel.rows (take a t') (take c b')) ≡ ok_unless (rows_refusal ch) tt
        unfolding rows_answer
        said =
            ap (λ (o : Option Refusal). ok_unless o tt)
            (ap rows_refusal (ap₂ channel.rows (top-front both narrow₁) (bot-front both narrow₂)) ∙ kept-refusal ch)

        pub check-refuses : {q : Refusal} → Err q ≡ rows_answer (channel.rows (take a t') (take c b'))
            → ReadDone text top bot (Err q) top bot
        check-refuses e = refused (of-rows ∙ err→some tt (rows_refusal ch) (sym (e ∙ said)))

        -- accepted: the rows are copied to the fronts of the lent ones
        pub check-accepts : (top' bot' : List ℕ) → Ok tt ≡ rows_answer (channel.rows (take a t') (take c b'))
            → top' ≡ overlay (take a t') top → bot' ≡ overlay (take c b') bot
            → ReadDone text top bot (Ok a) top' bot'
        unfolding read_answer top_after bot_after answered filled_unless channel_of
        check-accepts top' bot' e p q =
            done (rw (of-rows, accepted, both.read, both.top_count))
            (p ∙ rw (of-rows, accepted, both.read)
            (ap (λ (l : List ℕ). overlay l top) (top-front both narrow₁ ∙ ap (λ (k : Channel). k.top) same)))
            (q ∙ rw (of-rows, accepted, both.read)
            (ap (λ (l : List ℕ). overlay l bot) (bot-front both narrow₂ ∙ ap (λ (k : Channel). k.bot) same)))
          where
            accepted : rows_refusal ch ≡ none
            accepted = (ok→none tt (rows_refusal ch) (sym (e ∙ said))).0

            same : kept_channel ch ≡ ch
            same = accepted-same ch accepted
