-- The fill's own copy of the columns: going over the pins copies those of all nets; and a copy of the columns found has
-- those of each net record, with the parked pins removed or not.
use Rattle.std.specs.Prelude.{ℕ, ◌+◌, ◌≤◌, ◌<◌, ◌≡◌, ◌⊎◌, length, get_or, set, replicate, T}
use Rattle.std.proofs.Common.{arith, sym, ◌∙◌, ap, inl, inr, ⊎_elim, length-set, get_or-set_same, get_or-set_other}
use Rattle.std.proofs.Math.Decide.{dec_le}
use Rattle.std.proofs.Math.Path.{subst}
use mathlib.Core.List.Memᴰ
use mathlib.Core.List.{List}
use Rattle.std.proofs.lemmas.List.{length-replicate}
use Rattle.lists.specs.Lists.{at}
use Rattle.lists.specs.Tests.{equal?}
use Rattle.lists.specs.Counts.{get_or-zeros}
use Rattle.lists.specs.Arrays.{numbered, numbered-at}
use Rattle.channel.specs.Channel.{Channel, width, first_column, last_column, is_net, nets, without_parked}
use Rattle.channel.proofs.Laws.{net→pin}
use Rattle.channel.proofs.ParkedLaws.{no-first, no_last}
use Rattle.channel.proofs.SpanLaws.{nets→}
use Rattle.channel.specs.Spans.{each512, firsts, lasts}
use Rattle.channel.proofs.ShownLaws.{firsts-shown, lasts-shown}
use Rattle.leftedge.specs.Items.{Place}
use Rattle.leftedge.specs.Nets.{record_of, records}
use Rattle.leftedge.specs.Columns.{CopiedFor, ColumnsDue}

-- of the first i columns none has a pin of number n
abbrev pub Unseen : Channel → ℕ → ℕ → Type 0
Unseen ch i n = (c : ℕ) → 1 ≤ c → c ≤ i → (at ch.top c ≡ n) ⊎ (at ch.bot c ≡ n) → ⊥

-- a table by number into which what f gives is copied for the numbers of the first i columns, and that has 0 for others
pub record CopiedTo (ch : Channel) (f : ℕ → ℕ) (i : ℕ) (t : List ℕ) : Type 0 where
  pub long : length t ≡ 512
  pub each : (n : ℕ) → n < 512 → (get_or t n 0 ≡ f n) ⊎ ((get_or t n 0 ≡ 0) × Unseen ch i n)

pub copied_none : (ch : Channel) (f : ℕ → ℕ) {t : List ℕ} → t ≡ replicate 512 0 → CopiedTo ch f 0 t
copied_none ch f e =
    record {
      long = rw e (length-replicate {A = ℕ} 512 0);
      each = λ n below. inr (rw e (get_or-zeros 512 n), λ c h k pin. absurd (omega arith));
    }

-- a store of what f gives for number a
stored : (f : ℕ → ℕ) (t : List ℕ) (a n : ℕ) → a < length t
    → (get_or (set t a (f a)) n 0 ≡ f n) ⊎ ((n ≡ a → ⊥) × (get_or (set t a (f a)) n 0 ≡ get_or t n 0))
stored f t a n inside =
    ⊎_elim (λ e. inl (rw e (get_or-set_same t a (f a) 0 inside))) (λ o. inr (o, get_or-set_other t a n (f a) 0 o))
    (equal? n a)

-- a further column, with number a above and b below
pub copied_next : {ch : Channel} (f : ℕ → ℕ) (i : ℕ) {t : List ℕ} → CopiedTo ch f i t → (a b : ℕ) → a < 512 → b < 512
    → at ch.top (i + 1) ≡ a → at ch.bot (i + 1) ≡ b → CopiedTo ch f (i + 1) (set (set t a (f a)) b (f b))
copied_next {ch} f i {t} h a b low-a low-b upper lower =
    record { long = length-set (set t a (f a)) b (f b) ∙ once; each = each }
  where
    once : length (set t a (f a)) ≡ 512
    once = length-set t a (f a) ∙ h.long

    further : (n : ℕ) → (n ≡ a → ⊥) → (n ≡ b → ⊥) → Unseen ch i n → Unseen ch (i + 1) n
    further n not_a not-b unseen c from to pin =
        elim (dec_le c i) [
          | yes k ↦ unseen c from k pin
          | no k ↦
              let here : c ≡ i + 1 = omega arith in
              ⊎_elim (λ e. not_a (sym e ∙ (ap (at ch.top) here ∙ upper)))
              (λ e. not-b (sym e ∙ (ap (at ch.bot) here ∙ lower))) pin
        ]

    each : (n : ℕ) → n < 512 → let t' = set (set t a (f a)) b (f b) in
        (get_or t' n 0 ≡ f n) ⊎ ((get_or t' n 0 ≡ 0) × Unseen ch (i + 1) n)
    each n below =
        ⊎_elim inl (λ second. ⊎_elim (λ e. inl (second.1 ∙ e))
        (λ first. ⊎_elim (λ e. inl (second.1 ∙ (first.1 ∙ e)))
        (λ old. inr (second.1 ∙ (first.1 ∙ old.0), further n first.0 second.0 old.1)) (h.each n below))
        (stored f t a n (rw h.long low-a))) (stored f (set t a (f a)) b n (rw once low-b))

-- all columns: a net has a pin in one of them, and what is no net's has no columns
pub copied-whole : {ch : Channel} (f : ℕ → ℕ) {t : List ℕ} → length ch.bot ≡ width ch
    → ((n : ℕ) → (T (is_net ch n) → ⊥) → f n ≡ 0) → CopiedTo ch f (width ch) t → t ≡ each512 f
copied-whole {ch} f {t} even none h =
    numbered f 512 t h.long (λ n below. ⊎_elim (λ e. e) (λ o. o.0 ∙ sym (none n (λ net.
    let p = net→pin ch n even net in o.1 p.0 p.1.first p.1.last p.1.pin))) (h.each n below))

module _ (ch : Channel) where
  -- a copy of the columns found has those of each record
  pub columns-due : {first last : List ℕ} → first ≡ firsts ch → last ≡ lasts ch → ColumnsDue ch first last
  unfolding records record_of
  columns-due {first} {last} f l =
      record {
        begins = f;
        ends = l;
        recorded = λ ps r m. let k = Memᴰ.of_map (record_of ch ps) (nets ch) m in
            subst (CopiedFor first last) k.2 (of-net ps k.0 (nets→ ch k.0 k.1).low);
      }
    where
      of-net : (ps : List Place) (n : ℕ) → n ≤ 511 → CopiedFor first last (record_of ch ps n)
      of-net ps n low =
          record {
            begins = numbered-at (first_column ch) 512 f n (omega arith);
            ends = numbered-at (last_column ch) 512 l n (omega arith);
          }

  -- both tables, with the pins of all columns copied
  pub copied-due : {first last : List ℕ} → length ch.bot ≡ width ch → CopiedTo ch (first_column ch) (width ch) first
      → CopiedTo ch (last_column ch) (width ch) last → ColumnsDue ch first last
  copied-due even f l =
      columns-due (copied-whole (first_column ch) even (no-first ch) f)
      (copied-whole (last_column ch) even (no_last ch) l)

  -- the copy is made of the rows without the parked pins; it is that of the whole list
  pub due-shown : {first last : List ℕ} → ColumnsDue (without_parked ch) first last → ColumnsDue ch first last
  due-shown d = columns-due (d.begins ∙ firsts-shown ch) (d.ends ∙ lasts-shown ch)
