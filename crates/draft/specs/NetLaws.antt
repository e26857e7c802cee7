-- A memory that has the marks of a list of nets: such is the empty one of no net, and after a net arrived or left the
-- memory has the marks of the nets that are then there. A net is marked somewhere if it is one of the nets, and the
-- count of a column is the number of their spans that hold it.
use Rattle.std.specs.Prelude.{ℕ, ◌≤◌, ◌<◌, ◌≡◌, refl, Bool, false, not, ◌&&◌, ◌||◌, length, eqb}
use Rattle.std.proofs.Common.{arith, sym, ◌∙◌, ap, subst, ⊎_elim, eqb→eq}
use mathlib.Core.List.Memᴰ
use mathlib.Core.List.{List, [], ◌∷◌, map, Memᴰ}
use Rattle.std.proofs.Math.Bool.{or_comm}
use Rattle.std.proofs.lemmas.List.{length-map}
use Rattle.std.proofs.Math.Dec.{T}
use Rattle.lists.specs.Lists.{keep, any_of, from, up_to, within, Distinct}
use Rattle.lists.specs.Tests.{same_test, eq→T, false→fails, passes?, and_left, and_right, and_both}
use Rattle.lists.specs.Tests.{not-passes, not-fails, within→, →within}
use Rattle.lists.specs.Members.{keep-member, kept, any→member, member→any, from_member, in-from, up_to-member, in-up_to}
use Rattle.lists.specs.Ends.{from-rising, keep-rising, rising-distinct}
use Rattle.lists.specs.Pigeonhole.{distinct_cons, kept-distinct, same_length}
use Rattle.lists.specs.Ranges.{length-keep-map, fails→none-kept}
use Rattle.channel.specs.Channel.{highest_net, widest}
use Rattle.channel.specs.Density.{Span, spans_over}
use Rattle.draft.specs.Marks.{LongDraft, IsColumn, InDraft, marked, is_here, count_of, arrived_in, left_from}
use Rattle.draft.specs.History.{Arrived, is_of, span_count, over, covers, Empty}
use Rattle.draft.specs.MarkLaws.{Words64, length-arrived, length-left, marked-arrived, marked-left}
use Rattle.draft.specs.MarkLaws.{marked_empty, arrived-64, left-64, empty-64}
use Rattle.draft.specs.CountLaws.{count-marks, count-outside}

abbrev pub net_of : ℕ → ℕ → ℕ → Arrived
net_of n first last = record { number = n; span = record { first = first; last = last } }

abbrev pub is_not : ℕ → Arrived → Bool
is_not n net = not (is_of n net)

abbrev pub numbers : List Arrived → List ℕ
numbers nets = map (λ net. net.number) nets

-- a net that refusal 21 lets pass
pub record Fits (net : Arrived) : Type 0 where
  pub low : 1 ≤ net.number
  pub high : net.number ≤ highest_net
  pub begins : 1 ≤ net.span.first
  pub rises : net.span.first < net.span.last
  pub ends : net.span.last ≤ widest

-- the memory has the marks of these nets
pub record Draws (words : List ℕ) (nets : List Arrived) : Type 0 where
  pub long : LongDraft words
  pub sized : Words64 words
  pub fits : (net : Arrived) → Memᴰ net nets → Fits net
  pub different : Distinct (numbers nets)
  pub marks : (c n : ℕ) → InDraft n c → marked words c n ≡ any_of (covers n c) nets

pub draws-none : {words : List ℕ} → Empty words → Draws words []
draws-none {words} empty =
    record {
      long = empty.long;
      sized = empty-64 words empty;
      fits = λ net m. absurd (Memᴰ.not-nil m);
      different = unfold Distinct in tt;
      marks = λ c n inside. marked_empty words c n empty inside ∙ (unfold any_of in refl);
    }

module _ (n c : ℕ) (net : Arrived) (t : T (covers n c net)) where
  covers-number : n ≡ net.number
  covers-number = eqb→eq n net.number (and_left (is_of n net) (over c net) t)

  covers-over : T (over c net)
  covers-over = and_right (is_of n net) (over c net) t

-- after net n is taken out a net of another number is there if it was there before
module _ (n c m : ℕ) (nets : List Arrived) where
  others-stay : T (any_of (covers m c) nets && not (eqb m n)) → T (any_of (covers m c) (keep (is_not n) nets))
  others-stay t =
      let r = any→member (covers m c) nets (and_left (any_of (covers m c) nets) (not (eqb m n)) t) in
      let apart = not-fails (eqb m n) (and_right (any_of (covers m c) nets) (not (eqb m n)) t) in
      member→any (covers m c) (kept (is_not n) r.1 (not-passes (is_of n r.0)
      (λ e. apart (eq→T m n (covers-number m c r.0 r.2 ∙ sym (eqb→eq n r.0.number e)))))) r.2

  stay-others : T (any_of (covers m c) (keep (is_not n) nets)) → T (any_of (covers m c) nets && not (eqb m n))
  stay-others t =
      let r = any→member (covers m c) (keep (is_not n) nets) t in
      let k = keep-member (is_not n) nets r.1 in
      let number = covers-number m c r.0 r.2 in
      and_both (any_of (covers m c) nets) (not (eqb m n)) (member→any (covers m c) k.0 r.2) (not-passes (eqb m n)
      (λ e. not-fails (is_of n r.0) k.1 (eq→T n r.0.number (sym (eqb→eq m n e) ∙ number))))

  others : any_of (covers m c) nets && not (eqb m n) ≡ any_of (covers m c) (keep (is_not n) nets)
  others =
      same_test (any_of (covers m c) nets && not (eqb m n)) (any_of (covers m c) (keep (is_not n) nets)) others-stay
      stay-others

-- the count of a column by the spans of nets is the number of those nets
span-count : (nets : List Arrived) (c : ℕ) → span_count nets c ≡ length (numbers (keep (over c) nets))
unfolding span_count spans_over
span-count nets c =
    length-keep-map (λ (s : Span). within s.first c s.last) (λ (net : Arrived). net.span) nets
    ∙ sym (length-map (keep (over c) nets) (λ net. net.number))

module _ {words : List ℕ} {nets : List Arrived} (d : Draws words nets) where
  -- each net is marked in the first column of its span
  first-marked : (net : Arrived) → Memᴰ net nets → (n : ℕ) → n ≡ net.number
      → (c : ℕ) × InDraft n c × T (marked words c n)
  first-marked net m n same =
      let fit = d.fits net m in
      let high = fit.high in
      let begins = fit.begins in
      let rises = fit.rises in
      let ends = fit.ends in
      let c = net.span.first in
      let inside : InDraft n c = (omega arith, (begins, omega arith)) in (
        c,
        inside,
        subst T (sym (d.marks c n inside)) (member→any (covers n c) m (and_both (is_of n net) (over c net)
            (eq→T n net.number same) (→within c c net.span.last (omega arith) (omega arith)))),
      )

  pub here : (n : ℕ) → n ≤ highest_net → is_here words n ≡ any_of (is_of n) nets
  unfolding is_here
  here n high = same_test (is_here words n) (any_of (is_of n) nets) there back
    where
      there : T (any_of (λ c. marked words c n) (up_to widest)) → T (any_of (is_of n) nets)
      there t =
          let r = any→member (λ c. marked words c n) (up_to widest) t in
          let c = r.0 in
          let s = any→member (covers n c) nets (subst T (d.marks c n (high, up_to-member widest r.1)) r.2) in
          member→any (is_of n) s.1 (and_left (is_of n s.0) (over c s.0) s.2)

      back : T (any_of (is_of n) nets) → T (any_of (λ c. marked words c n) (up_to widest))
      back t =
          let r = any→member (is_of n) nets t in
          let f = first-marked r.0 r.1 n (eqb→eq n r.0.number r.2) in
          member→any (λ c. marked words c n) (in-up_to widest f.0 f.1.1.0 f.1.1.1) f.2

  pub draws-arrived : (n first last : ℕ) → Fits (net_of n first last) → any_of (is_of n) nets ≡ false
      → Draws (arrived_in n first last words) (net_of n first last ∷ nets)
  draws-arrived n first last fit new =
      let net = net_of n first last in
      let long = d.long in
      let same = length-arrived n first last words in
      record {
        long = omega arith;
        sized = arrived-64 n first last words d.long d.sized;
        fits = λ other m. ⊎_elim (λ e. subst Fits (sym e) fit) (d.fits other) (Memᴰ.cases_cons m);
        different = distinct_cons n (numbers nets) (λ m. let r = Memᴰ.of_map (λ (a : Arrived). a.number) nets m in
            false→fails (any_of (is_of n) nets) new (member→any (is_of n) r.1 (eq→T n r.0.number (sym r.2))))
            d.different;
        marks = λ c m inside. marked-arrived n first last words c m d.long inside
            ∙ (ap (λ (b : Bool). b || covers m c net) (d.marks c m inside)
            ∙ (or_comm (any_of (covers m c) nets) (covers m c net) ∙ (unfold any_of in refl)));
      }

  pub draws-left : (n : ℕ) → Draws (left_from n words) (keep (is_not n) nets)
  draws-left n =
      let long = d.long in
      let same = length-left n words in
      record {
        long = omega arith;
        sized = left-64 n words d.long d.sized;
        fits = λ net m. d.fits net (keep-member (is_not n) nets m).0;
        different = kept-distinct (is_not n) (λ net. net.number) nets d.different;
        marks = λ c m inside. marked-left n words c m d.long inside
            ∙ (ap (λ (b : Bool). b && not (eqb m n)) (d.marks c m inside) ∙ others n c m nets);
      }

  -- the numbers that are marked in a column are those of the nets over it
  module _ (c : ℕ) (column : IsColumn c) where
    abbrev seen : List ℕ
    seen = keep (marked words c) (from 0 512)

    abbrev held : List ℕ
    held = numbers (keep (over c) nets)

    seen-held : (m : ℕ) → Memᴰ m seen → Memᴰ m held
    seen-held m i =
        let k = keep-member (marked words c) (from 0 512) i in
        let low = from_member 0 512 k.0 in
        let r = any→member (covers m c) nets (subst T (d.marks c m (omega arith, column)) k.1) in
        Memᴰ.cast (covers-number m c r.0 r.2)
        (Memᴰ.map (λ net. net.number) (kept (over c) r.1 (covers-over m c r.0 r.2)))

    held-seen : (m : ℕ) → Memᴰ m held → Memᴰ m seen
    held-seen m i =
        let r = Memᴰ.of_map (λ (net : Arrived). net.number) (keep (over c) nets) i in
        let k = keep-member (over c) nets r.1 in
        let high = (d.fits r.0 k.0).high in
        let same = r.2 in
        kept (marked words c) (in-from 0 512 m (omega arith) (omega arith))
        (subst T (sym (d.marks c m (omega arith, column))) (member→any (covers m c) k.0
        (and_both (is_of m r.0) (over c r.0) (eq→T m r.0.number (sym same)) k.1)))

    counted-inside : count_of words c ≡ span_count nets c
    counted-inside =
        count-marks words c d.sized d.long column
        ∙ (same_length seen held (rising-distinct seen (keep-rising (marked words c) (from 0 512) (from-rising 0 512)))
        (kept-distinct (over c) (λ net. net.number) nets d.different) seen-held held-seen ∙ sym (span-count nets c))

  counted-outside : (c : ℕ) → (T (within 1 c widest) → ⊥) → count_of words c ≡ span_count nets c
  counted-outside c out =
      count-outside words c out
      ∙ sym (span-count nets c ∙ ap (λ (l : List Arrived). length (numbers l)) (fails→none-kept (over c) nets
      (λ net m t. let fit = d.fits net m in let begins = fit.begins in let ends = fit.ends in
      let r = within→ net.span.first c net.span.last t in
      let low = r.0 in let high = r.1 in out (→within 1 c widest (omega arith) (omega arith)))))

  pub counted : (c : ℕ) → count_of words c ≡ span_count nets c
  counted c =
      ⊎_elim (λ t. counted-inside c (within→ 1 c widest t)) (counted-outside c) (passes? (within 1 c widest))
