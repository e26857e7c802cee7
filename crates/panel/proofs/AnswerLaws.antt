-- What joining two lists answers, and what the lent rows then hold, in each of its cases.
use Rattle.std.specs.Prelude.{ℕ, suc, ◌+◌, ◌-◌, ◌≤◌, ◌<◌, ◌↔◌, ◌⊎◌, T, ltb, Result, Ok, Err}
use native.Mathlib.Omega.{arith}
use Rattle.std.proofs.Math.Decide.{dec_le}
use Rattle.std.proofs.Math.Path.{◌≡◌, refl, ap, subst}
use Rattle.std.proofs.Common.{sym, ◌∙◌, ap₂, inl, inr, ⊎_elim, lt→ltb, lt-ltb, le-ltb}
use mathlib.Core.List.{List, [], ◌∷◌, ◌++◌, map, Memᴰ}
use Rattle.std.proofs.Math.Option.{Option, none, some}
use Rattle.std.proofs.Math.ListN.{length, take}
use Rattle.std.proofs.Math.Dec.{ltb→lt}
use Rattle.lists.specs.Lists.{keep, least, overlay, Lowest}
use Rattle.lists.specs.Ends.{member-some, first_member}
use Rattle.lists.specs.Orders.{least-among, least-lower}
use Rattle.lists.specs.Overlays.{front_of}
use Rattle.refusal.specs.declared.Refusal.{Refusal}
use Rattle.refusal.specs.declared.Refusal.TheVariants.{ShortTray, TooWide, PanelFull}
use Rattle.refusal.specs.Refusals.{told_by, refuse_at_first, ◌or_else◌, answered, ok_unless, filled_unless}
use Rattle.refusal.specs.ChainLaws.{or_else_none, none-or-else, none-or-else-later, some-or-else, refuse-if-none}
use Rattle.refusal.specs.ChainLaws.{none-refuse-if, refuse-if-some, some-refuse-if, answered-none, answered-some, ok→none, err→some}
use Rattle.refusal.specs.ToldLaws.{told-ok_unless}
use Rattle.refusal.specs.Trays.{Tray, row_tray, short_tray}
use Rattle.channel.specs.Channel.{Channel, rows, width, highest_net, widest}
use Rattle.channel.specs.Answers.{Escapes, rows_refusal, rows_answer}
use Rattle.channel.proofs.EscapeLaws.{accepted-exactly}
use Rattle.panel.specs.Joined.{highest, raised, joined, Fits}
use Rattle.panel.specs.Answers.{lists_refusal, panel_wide, high_numbers, panel_full, panel_refusal, join_refusal}
use Rattle.panel.specs.Answers.{lists_answer, join_answer, top_after, bot_after, join_told}
use Rattle.panel.specs.Promise.{PanelPromise, RaisedOver}
use Rattle.panel.specs.Code.{lowest_of, CheckedJoined, LongRows, JoinDone}
use Rattle.panel.proofs.JoinLaws.{highest-low, width-both}
use Rattle.panel.proofs.PanelLaws.{bot-length, panel-promise}
use Rattle.panel.proofs.OverLaws.{high→over, over→high, lowest-over, none_over, low_sum, found_over, found-place}
use Rattle.panel.proofs.OverLaws.{found_none}

abbrev trays : ℕ → ℕ → List Tray
trays a b = record { lent = a; needed = row_tray } ∷ record { lent = b; needed = row_tray } ∷ []

rows_long : (a b : ℕ) → row_tray ≤ a → row_tray ≤ b → short_tray (trays a b) ≡ none
unfolding short_tray keep refuse_at_first
rows_long a b h k = rw (le-ltb a row_tray h, le-ltb b row_tray k)

rows_short : (a b : ℕ) → (a < row_tray) ⊎ (b < row_tray) → short_tray (trays a b) ≡ some (ShortTray row_tray)
unfolding short_tray keep refuse_at_first
rows_short a b h = go (dec_le row_tray a)
  where
    go : Dec (row_tray ≤ a) → short_tray (trays a b) ≡ some (ShortTray row_tray)
    go (yes l) =
        let k : b < row_tray = ⊎_elim (λ s. absurd (omega arith)) (λ s. s) h in
        rw (le-ltb a row_tray l, lt-ltb b row_tray k)
    go (no l) = let k : a < row_tray = omega arith in rw (lt-ltb a row_tray k)

module _ (ch dh : Channel) where
  -- both lists pass alone
  pub lists-none : (lists_refusal ch dh ≡ none) ↔ (Escapes ch × Escapes dh)
  unfolding lists_refusal
  lists-none = (
    λ e. let r = or_else_none (rows_refusal ch) (rows_refusal dh) e in
        ((accepted-exactly ch).0 r.0, (accepted-exactly dh).0 r.1),
    λ p. none-or-else (rows_refusal ch) (rows_refusal dh) ((accepted-exactly ch).1 p.0) ((accepted-exactly dh).1 p.1),
  )

  pub lists-pass : Ok tt ≡ lists_answer ch dh → Escapes ch × Escapes dh
  unfolding lists_answer
  lists-pass e = lists-none.0 (ok→none tt (lists_refusal ch dh) (sym e)).0

  narrow-none : width ch + width dh ≤ widest → panel_wide ch dh ≡ none
  unfolding panel_wide
  narrow-none h =
      none-refuse-if (ltb widest (width ch + width dh)) _
      (λ t. let l = ltb→lt widest (width ch + width dh) t in omega arith)

  none-narrow : panel_wide ch dh ≡ none → width ch + width dh ≤ widest
  unfolding panel_wide
  none-narrow e =
      elim (dec_le (width ch + width dh) widest) [
        | yes h ↦ h
        | no h ↦
            absurd (refuse-if-none (ltb widest (width ch + width dh)) _ e
            (lt→ltb widest (width ch + width dh) (omega arith)))
      ]

  -- no number is too high
  empty-none : high_numbers ch dh ≡ [] → panel_full ch dh ≡ none
  unfolding panel_full
  empty-none e =
      none-refuse-if (ltb 0 (length (high_numbers ch dh))) _
      (λ t. let l = ltb→lt 0 (length (high_numbers ch dh)) t in let z = ap length e in omega arith)

  none-empty : panel_full ch dh ≡ none → high_numbers ch dh ≡ []
  unfolding panel_full
  none-empty e = go (high_numbers ch dh) (refuse-if-none (ltb 0 (length (high_numbers ch dh))) _ e)
    where
      go : (l : List ℕ) → (T (ltb 0 (length l)) → ⊥) → l ≡ []
      go [] h = refl
      go (x ∷ xs) h = absurd (h (lt→ltb 0 (length (x ∷ xs)) (omega arith)))

  full-some : {n : ℕ} → Memᴰ n (high_numbers ch dh) → panel_full ch dh ≡ some (PanelFull (least (high_numbers ch dh)))
  unfolding panel_full
  full-some m =
      some-refuse-if (ltb 0 (length (high_numbers ch dh))) _ (lt→ltb 0 (length (high_numbers ch dh)) (member-some m))

  -- lists that fit are not refused together
  pub fits-silent : Fits ch dh → panel_refusal ch dh ≡ none
  unfolding panel_refusal
  fits-silent fit =
      none-or-else (panel_wide ch dh) (panel_full ch dh) (narrow-none fit.columns)
      (empty-none (none_over ch dh (highest-low fit.first) (highest-low fit.second) fit.numbers))

  module _ (esc₁ : Escapes ch) (esc₂ : Escapes dh) where
    low₁ : highest ch ≤ highest_net
    low₁ = highest-low esc₁

    low₂ : highest dh ≤ highest_net
    low₂ = highest-low esc₂

    panel-fits : panel_refusal ch dh ≡ none → Fits ch dh
    unfolding panel_refusal
    panel-fits e =
        let r = or_else_none (panel_wide ch dh) (panel_full ch dh) e in
        record {
          first = esc₁;
          second = esc₂;
          columns = none-narrow r.0;
          numbers = low_sum ch dh low₁ low₂ (none-empty r.1);
        }

    full-place : (p : ℕ) → (panel_full ch dh ≡ some (PanelFull p)) ↔ Lowest (RaisedOver ch dh) p
    unfolding panel_full
    full-place p = (
      λ e. let r = refuse-if-some (ltb 0 (length (high_numbers ch dh))) _ (PanelFull p) e in
          let here : least (high_numbers ch dh) ≡ p = cc r.1 in
          let m = first_member (high_numbers ch dh) (ltb→lt 0 (length (high_numbers ch dh)) r.0) in
          subst (Lowest (RaisedOver ch dh)) here (lowest-over ch dh low₁ low₂ m),
      λ l. let m = over→high ch dh low₁ low₂ l.holds in
          let a = least-lower (high_numbers ch dh) m in
          let b = l.lowest (least (high_numbers ch dh)) (high→over ch dh low₁ low₂ (least-among m)) in
          let here : least (high_numbers ch dh) ≡ p = omega arith in
          full-some m ∙ ap (λ (k : ℕ). some (PanelFull k)) here,
    )

    -- what the code of two lists that pass alone answers
    checked_refused : (top bot : List ℕ) {r : Refusal} → panel_refusal ch dh ≡ some r
        → CheckedJoined ch dh top bot (Err r) top bot
    unfolding answered filled_unless
    checked_refused top bot e = record { answer = rw e; top_held = rw e; bot_held = rw e }

    pub checked-wide : (top bot : List ℕ) → widest < width ch + width dh
        → CheckedJoined ch dh top bot (Err (TooWide (suc widest))) top bot
    unfolding panel_refusal panel_wide
    checked-wide top bot h =
        checked_refused top bot (some-or-else (panel_wide ch dh) (panel_full ch dh) _
        (some-refuse-if (ltb widest (width ch + width dh)) _ (lt→ltb widest (width ch + width dh) h)))

    module _ (narrow : width ch + width dh ≤ widest) where
      of-full : panel_refusal ch dh ≡ panel_full ch dh
      unfolding panel_refusal
      of-full = none-or-else-later (panel_wide ch dh) (panel_full ch dh) (narrow-none narrow)

      -- by the highest number h of the first list, and the lowest l of the second that is too high
      pub checked-full : (top bot : List ℕ) {h l : ℕ} → h ≡ highest ch → l ≡ lowest_of (highest_net - h) dh
          → l ≤ highest_net → CheckedJoined ch dh top bot (Err (PanelFull (h + l))) top bot
      checked-full top bot {h} {l} e f small =
          let found : l ≡ found_over ch dh = f ∙ ap (λ (k : ℕ). lowest_of (highest_net - k) dh) e in
          let r = found-place ch dh low₁ low₂ (omega arith) in
          let place : least (high_numbers ch dh) ≡ h + l = let q = r.1 in omega arith in
          checked_refused top bot (of-full ∙ (full-some r.0 ∙ ap (λ (k : ℕ). some (PanelFull k)) place))

      silent : highest_net < found_over ch dh → panel_refusal ch dh ≡ none
      silent h = of-full ∙ empty-none (found_none ch dh low₁ low₂ h)

      pub checked-stored : {top bot top' bot' : List ℕ} {h l : ℕ} → h ≡ highest ch → l ≡ lowest_of (highest_net - h) dh
          → highest_net < l → top' ≡ overlay (ch.top ++ map (raised h) dh.top) top
          → bot' ≡ overlay (ch.bot ++ map (raised h) dh.bot) bot
          → CheckedJoined ch dh top bot (Ok (width ch + width dh)) top' bot'
      unfolding answered filled_unless joined
      checked-stored {top} {bot} {h = h} e f large p q =
          let found = f ∙ ap (λ (k : ℕ). lowest_of (highest_net - k) dh) e in
          let none-high = silent (omega arith) in
          record {
            answer = rw none-high;
            top_held = rw none-high (p ∙ ap (λ (k : ℕ). overlay (ch.top ++ map (raised k) dh.top) top) e);
            bot_held = rw none-high (q ∙ ap (λ (k : ℕ). overlay (ch.bot ++ map (raised k) dh.bot) bot) e);
          }

module _ (ch dh : Channel) (top bot : List ℕ) where
  abbrev refusal : Option Refusal
  refusal = join_refusal (length top) (length bot) ch dh

  -- what the chain comes to where the rows are long enough, and where the lists pass alone too
  long-refusal : LongRows top bot → refusal ≡ (lists_refusal ch dh or_else panel_refusal ch dh)
  unfolding join_refusal
  long-refusal (h, k) = none-or-else-later (short_tray (trays (length top) (length bot))) _ (rows_long _ _ h k)

  pub passed-refusal : LongRows top bot → Escapes ch → Escapes dh → refusal ≡ panel_refusal ch dh
  passed-refusal long esc₁ esc₂ =
      long-refusal long
      ∙ none-or-else-later (lists_refusal ch dh) (panel_refusal ch dh) ((lists-none ch dh).1 (esc₁, esc₂))

  -- nothing is refused exactly if the rows are long enough and the lists fit
  pub join-accepted : (refusal ≡ none) ↔ (LongRows top bot × Fits ch dh)
  join-accepted = (there, back)
    where
      long : refusal ≡ none → LongRows top bot
      long e = unfold join_refusal in (
          let s = (or_else_none (short_tray (trays (length top) (length bot))) _ e).0 in
          let lacks : ((length top < row_tray) ⊎ (length bot < row_tray) → ⊥) =
          λ h. let q = rows_short (length top) (length bot) h in let z : ◌≡◌ {A = ℕ} 0 1 = cc in omega arith in
          let a : row_tray ≤ length top =
          elim (dec_le row_tray (length top)) [ yes h ↦ h | no h ↦ absurd (lacks (inl (omega arith))) ] in
          let b : row_tray ≤ length bot =
          elim (dec_le row_tray (length bot)) [ yes h ↦ h | no h ↦ absurd (lacks (inr (omega arith))) ] in
          (a, b))

      there : refusal ≡ none → LongRows top bot × Fits ch dh
      there e =
          let r = or_else_none (lists_refusal ch dh) (panel_refusal ch dh) (sym (long-refusal (long e)) ∙ e) in
          let esc = (lists-none ch dh).0 r.0 in
          (long e, panel-fits ch dh esc.0 esc.1 r.1)

      back : LongRows top bot × Fits ch dh → refusal ≡ none
      back (h, fit) = passed-refusal h fit.first fit.second ∙ fits-silent ch dh fit

  -- the three equations give the whole contract
  pub join-done : {r : Result ℕ Refusal} {top' bot' : List ℕ} → r ≡ join_answer (length top) (length bot) ch dh
      → top' ≡ top_after ch dh top bot → bot' ≡ bot_after ch dh top bot → JoinDone ch dh top bot r top' bot'
  unfolding join_answer top_after bot_after
  join-done {r} {top'} {bot'} e t b =
      record {
        answer = e;
        top_held = t;
        bot_held = b;
        fits-exactly = (λ p. join-accepted.0 (accepted p.0 p.1).0, λ p. (width ch + width dh, given p));
        full-exactly = full;
        promise = promise;
      }
    where
      accepted : (w : ℕ) → r ≡ Ok w → (refusal ≡ none) × (width ch + width dh ≡ w)
      accepted w q = ok→none (width ch + width dh) refusal (sym e ∙ q)

      given : LongRows top bot × Fits ch dh → r ≡ Ok (width ch + width dh)
      given p = e ∙ answered-none Err refusal (Ok (width ch + width dh)) (join-accepted.1 p)

      full : LongRows top bot → Escapes ch → Escapes dh → width ch + width dh ≤ widest
          → (p : ℕ) → (r ≡ Err (PanelFull p)) ↔ Lowest (RaisedOver ch dh) p
      full long esc₁ esc₂ narrow p =
          let same = passed-refusal long esc₁ esc₂ ∙ of-full ch dh esc₁ esc₂ narrow in
          let place = full-place ch dh esc₁ esc₂ p in (
            λ q. place.0 (sym same ∙ err→some (width ch + width dh) refusal (sym e ∙ q)),
            λ l. e ∙ answered-some Err refusal (Ok (width ch + width dh)) (PanelFull p) (same ∙ place.1 l),
          )

      promise : (w : ℕ) → r ≡ Ok w → PanelPromise ch dh (rows (take w top') (take w bot'))
      promise w q = unfold filled_unless in (
          let a = accepted w q in
          let fit = (join-accepted.0 a.0).1 in
          let size = a.1 in
          let wide = width-both ch dh in
          let even = bot-length fit in
          let long₁ : w ≡ length (joined ch dh).top = omega arith in
          let long₂ : w ≡ length (joined ch dh).bot = omega arith in
          let tops : take w top' ≡ (joined ch dh).top = front_of (joined ch dh).top top long₁ (rw a.0 at t) in
          let bots : take w bot' ≡ (joined ch dh).bot = front_of (joined ch dh).bot bot long₂ (rw a.0 at b) in
          subst (PanelPromise ch dh) (sym (ap₂ rows tops bots)) (panel-promise fit))

  refused : {r : Refusal} → refusal ≡ some r → JoinDone ch dh top bot (Err r) top bot
  unfolding join_answer top_after bot_after answered filled_unless
  refused e = join-done (rw e) (rw e) (rw e)

  pub join-short : (length top < row_tray) ⊎ (length bot < row_tray)
      → JoinDone ch dh top bot (Err (ShortTray row_tray)) top bot
  unfolding join_refusal
  join-short h =
      refused (some-or-else (short_tray (trays (length top) (length bot))) _ _ (rows_short (length top) (length bot) h))

  pub join-lists : {q : Refusal} → LongRows top bot → Err q ≡ lists_answer ch dh
      → JoinDone ch dh top bot (Err q) top bot
  unfolding lists_answer
  join-lists {q} long e =
      refused (long-refusal long ∙ some-or-else (lists_refusal ch dh) _ q (err→some tt (lists_refusal ch dh) (sym e)))

  pub join-checked : {r : Result ℕ Refusal} {top' bot' : List ℕ} → LongRows top bot → Ok tt ≡ lists_answer ch dh
      → CheckedJoined ch dh top bot r top' bot' → JoinDone ch dh top bot r top' bot'
  unfolding join_answer top_after bot_after
  join-checked long e c =
      let esc = lists-pass ch dh e in
      let same = passed-refusal long esc.0 esc.1 in
      join-done (rw same c.answer) (rw same c.top_held) (rw same c.bot_held)

-- the check of both lists
pub one-refused : (ch dh : Channel) {q : Refusal} → Err q ≡ rows_answer ch
    → Err q ≡ lists_answer ch dh
unfolding lists_answer lists_refusal rows_answer
one-refused ch dh {q} e =
    sym (answered-some Err _ (Ok tt) q
    (some-or-else (rows_refusal ch) (rows_refusal dh) q (err→some tt (rows_refusal ch) (sym e))))

pub one-accepted : (ch dh : Channel) → Ok tt ≡ rows_answer ch → rows_answer dh ≡ lists_answer ch dh
unfolding lists_answer lists_refusal rows_answer
one-accepted ch dh e =
    ap (λ (o : Option Refusal). ok_unless o tt)
    (sym (none-or-else-later (rows_refusal ch) (rows_refusal dh) (ok→none tt (rows_refusal ch) (sym e)).0))

-- the answer is told by its refusal, or by the width
pub join-told : (a b : ℕ) (ch dh : Channel)
    → join_told (join_answer a b ch dh) ≡ told_by (join_refusal a b ch dh) ((width ch + width dh) ∷ [])
unfolding join_answer
join-told a b ch dh = told-ok_unless _ (join_refusal a b ch dh) (width ch + width dh)

-- a width that is answered is at most 512
pub width-told : {ch dh : Channel} {top bot top' bot' : List ℕ} {r : Result ℕ Refusal} → JoinDone ch dh top bot r top' bot'
    → {w : ℕ} → r ≡ Ok w → w ≤ widest
unfolding join_answer
width-told {ch} {dh} {top} {bot} done {w} q =
    let s = ok→none (width ch + width dh) (join_refusal (length top) (length bot) ch dh) (sym done.answer ∙ q) in
    let fits = ((join-accepted ch dh top bot).0 s.0).1.columns in
    let e = s.1 in
    omega arith
