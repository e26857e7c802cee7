-- An entry keeps its function's contract where the number that it answers is that of the function's answer; and what
-- the function promises of its answer, the entry promises of the number.
use Rattle.std.specs.Prelude.{ℕ, ◌+◌, ◌*◌, ◌≤◌, ◌<◌, ◌≡◌, List, [], ◌∷◌, ◌↔◌, cond, take, eqb, unwrap_or, Result, Ok, Err}
use Rattle.std.specs.declared.option.Option as found
use Rattle.std.proofs.Common.{arith, ◌∙◌, subst₂}
use Rattle.std.proofs.Math.Path.{refl, sym, ap, ap₂, subst}
use Rattle.std.proofs.Math.Logic.Iff as Iff
use Rattle.std.proofs.Math.Option.{Option, none, some}
use Rattle.std.proofs.Math.ListN.{length}
use Rattle.lists.specs.Lists.{head_or, Lowest}
use Rattle.refusal.specs.declared.Refusal.{Refusal}
use Rattle.refusal.specs.Refusals.{number_of, place_of, told_values, told_by, told}
use Rattle.refusal.specs.ChainLaws.{answered-none}
use Rattle.refusal.specs.TrayLaws.{refusal-numbered}
use Rattle.refusal.specs.ToldLaws.{told-success}
use Rattle.refusal.specs.Trays.{ring_tray, board_tray}
use Rattle.channel.specs.Channel.{Channel, width, widest, spanning}
use Rattle.channel.specs.Density.{density}
use Rattle.channel.specs.Constraints.{chain}
use Rattle.channel.specs.Answers.{Escapes, rows_refusal, bounds_answer, bounds_told}
use Rattle.channel.proofs.EscapeLaws.{accepted-exactly}
use Rattle.channel.specs.CountLaws.{nets-few}
use Rattle.channel.proofs.ToldLaws.{bounds-told, density-small, chain-small, ring-small}
use Rattle.pinlist.specs.Answers.{read_told}
use Rattle.pinlist.specs.Code.{ReadDone}
use Rattle.pinlist.specs.ToldLaws.{width_small}
use Rattle.leftedge.specs.Walk.{ring_of}
use Rattle.leftedge.specs.Looks.{ceiling}
use Rattle.leftedge.specs.Nets.{net_items, looks}
use Rattle.leftedge.proofs.NetFill.{looks≤ceiling}
use Rattle.rings.specs.Fewest.{fewest}
use Rattle.rings.specs.Answers.{fewest_refusal, fewest_told}
use Rattle.rings.specs.Promise.{FewestPromise}
use Rattle.rings.specs.Code.{FewestDone}
use Rattle.rings.proofs.FewestLaws.{fewest-few}
use Rattle.rings.proofs.AnswerLaws.{fewest-told, fewest-accepted, counted}
use Rattle.panel.specs.Joined.{Fits}
use Rattle.panel.specs.Answers.{join_refusal, join_answer, join_told}
use Rattle.panel.specs.Promise.{RaisedOver}
use Rattle.panel.specs.Code.{LongRows, JoinDone}
use Rattle.panel.proofs.JoinLaws.{highest-low}
use Rattle.panel.proofs.OverLaws.{over-small}
use Rattle.panel.proofs.AnswerLaws.{join-told, join-accepted, width-told}
use Rattle.boardfile.specs.Open.{file_tracks, file_layout}
use Rattle.judge.specs.declared.Fault.{Fault}
use Rattle.judge.specs.declared.Fault.TheVariants.{Short, Open, Floating}
use Rattle.judge.specs.declared.JudgeAnswer.{JudgeAnswer}
use Rattle.judge.specs.declared.JudgeAnswer.TheVariants as judging
use Rattle.judge.specs.Finding.{finding}
use Rattle.judge.specs.Answers.{judge_refusal, judge_answer, fault_number, fault_place, judge_told}
use Rattle.judge.specs.Code.{Judged}
use Rattle.judge.proofs.OnBytes.{found-on-bytes}
use Rattle.judge.proofs.OnBytes.{fault-between}
use Rattle.judge.proofs.ToldLaws.{found_told, unrefused-told, good-small, fault-small}
use Rattle.blanks.specs.Stock.{blank_answer, blank_told}
use Rattle.blanks.specs.Promise.{OwnPromise}
use Rattle.blanks.specs.Code.{value_told, OwnDone}
use Rattle.blanks.proofs.ToldLaws.{fourteen-exactly, blank-small, own-small}
use Rattle.promises.specs.Proved.{demand3}
use Rattle.router.specs.declared.Routing.{Routing}
use Rattle.router.specs.declared.Drawn.{Drawn}
use Rattle.router.specs.Route.{route_trays, drawn_board, route_told}
use Rattle.router.specs.Contract.{ShowsRing, RoutePromise, TurnedOver, ParkedBare, LooksPromise}
use Rattle.router.proofs.ContractLaws.{stuck-answer}
use Rattle.router.proofs.HeldLaws.{room}
use Rattle.router.specs.Code.{RowsDone}
use Rattle.router.specs.ToldLaws.{routed-small}
use Rattle.router.specs.Progress.{looks_answer, ceiling_answer, looks_told}
use Rattle.router.specs.ProgressLaws.{looks-told, ceiling-told, ceiling-small}
use Rattle.screen_api.specs.Numbers.{packed, entry_number, refusal_in, place_in, tracks_in, pieces_in}
use Rattle.screen_api.proofs.NumberLaws.{eighteen, value-number, pair-number, decoded, number-exactly, place-back, value-back, Halves, pair-back, zero-exactly, zero→values}
use Rattle.screen_api.specs.Code.{
  ReadEntry,
  BoundsEntry,
  RouteNumberPromise,
  RouteEntry,
  FewestEntry,
  JoinEntry,
  LooksEntry,
  CeilingEntry,
  FaultNumbers,
  JudgeEntry,
  BlankEntry,
  OwnBlankEntry,
}

-- reading
module _ {text top bot top' bot' : List ℕ} {a : Result ℕ Refusal} (done : ReadDone text top bot a top' bot') where
  pub read-entry : {r : ℕ} → r ≡ entry_number (read_told a) → ReadEntry text top bot r top' bot'
  read-entry e =
      let answer = e ∙ ap (λ x. entry_number (read_told x)) done.answer in
      record { answer = answer; decoded = decoded answer; top_held = done.top_held; bot_held = done.bot_held }

  pub read-width : {w : ℕ} → a ≡ Ok w → ReadEntry text top bot w top' bot'
  unfolding told
  read-width {w} e =
      let small = width_small text (length top) (length bot) (sym done.answer ∙ e) in
      read-entry (rw e (value-number (omega (arith, small))))

-- bounds
module _ (ch : Channel) where
  pub bounds-entry : {r : ℕ} → r ≡ entry_number (bounds_told (bounds_answer ch)) → BoundsEntry ch r
  bounds-entry {r} e =
      let by = e ∙ ap entry_number (bounds-told ch) in
      record {
        answer = e;
        decoded = decoded e;
        accepted = Iff.trans (zero-exactly (rows_refusal ch) _ by) (accepted-exactly ch);
        density_read = λ h. (halves h).upper;
        chain_read = λ h. (halves h).lower;
      }
    where
      halves : refusal_in r ≡ 0 → Halves (density ch) (chain ch) r
      halves h =
          let few = density-small ch in
          let short = chain-small ch in
          pair-back (omega arith) (omega arith) (zero→values (rows_refusal ch) _ (e ∙ ap entry_number (bounds-told ch)) h)

  pub bounds-given : {d k : ℕ} → bounds_answer ch ≡ Ok (record { density = d; chain = k }) → BoundsEntry ch (d * 65536 + k)
  unfolding told
  bounds-given {d} {k} q =
      let same = (told-success (rows_refusal ch) _ (d ∷ k ∷ []) (sym (bounds-told ch) ∙ ap bounds_told q)).1 in
      let upper : density ch ≡ d = cc in
      let lower : chain ch ≡ k = cc in
      let few = density-small ch in
      let short = chain-small ch in
      bounds-entry (rw q (pair-number (omega arith) (omega arith)))

-- routing
module _ {a : Result Drawn Refusal} {r : ℕ} (e : r ≡ entry_number (route_told a)) where
  -- a number with 0 in its upper half is that of a routed channel, whose tracks and pieces it has
  routed-back : ((t n : ℕ) → a ≡ Ok (drawn_board t n) → (t ≤ 511) × (n ≤ 2559)) → refusal_in r ≡ 0
      → a ≡ Ok (drawn_board (tracks_in r) (pieces_in r))
  unfolding told
  routed-back small h = go a refl
    where
      go : (b : Result Drawn Refusal) → a ≡ b → a ≡ Ok (drawn_board (tracks_in r) (pieces_in r))
      go (Ok d) q =
          let few = small d.tracks d.pieces q in
          let back = pair-back (omega arith) (omega arith) (e ∙ ap (λ x. entry_number (route_told x)) q) in
          q ∙ ap₂ (λ t n. Ok (drawn_board t n)) (sym back.tracks) (sym back.pieces)
      go (Err o) q =
          let n = (decoded (e ∙ ap (λ x. entry_number (route_told x)) q)).number in
          absurd (omega (arith, refusal-numbered o))

module _ {ch : Channel} {ring board ring' board' : List ℕ} {a : Routing}
    (done : RowsDone ch ring board a ring' board') where
  module _ {r : ℕ} (e : r ≡ entry_number (route_told a.answer)) where
    module _ (hr : ring_tray ≤ length ring) (hb : board_tray ≤ length board) (esc : Escapes ch) where
      said : RoutePromise ch a.answer ring' board'
      said = done.promise hr hb esc

      over : TurnedOver ch a.answer board'
      over = done.turned hr hb esc

      parked : ParkedBare ch a.answer (take a.count a.records) board'
      parked = done.parked hr hb esc

      back : refusal_in r ≡ 0 → a.answer ≡ Ok (drawn_board (tracks_in r) (pieces_in r))
      back = routed-back e (λ t n q. routed-small (route_trays (length ring) (length board)) ch (sym done.answer ∙ q))

      -- under 7 the place is the number of pairs, at most 511
      shown : refusal_in r ≡ 7 → ShowsRing ch (place_in r) ring'
      unfolding told
      shown h =
          let seven : (route_told a.answer).number ≡ 7 = sym (decoded e).number ∙ h in
          let left = (demand3 ch esc).refused-exactly.1 (said.tangled-exactly.0 seven) in
          let k = length (ring_of (net_items ch) left.0) in
          let fits = room (length ring) (length board) hr hb in
          let tangled = done.answer ∙ stuck-answer _ ch fits esc left.0 left.1 in
          let ring-of-k = said.ring-shown k tangled in
          let few = ring-small ch esc ring-of-k.is_ring in
          let counted = ring-of-k.counted in
          let same = place-back 7 (e ∙ ap (λ x. entry_number (route_told x)) tangled) (omega arith) in
          subst (λ (m : ℕ). ShowsRing ch m ring') (sym same) ring-of-k

      number-promise : RouteNumberPromise ch r ring' board'
      unfolding told
      number-promise =
          record {
            tangled-exactly = number-exactly (decoded e) said.tangled-exactly;
            ring-exactly = number-exactly (decoded e) said.ring-exactly;
            ring-shown = shown;
            every-other = λ h.
                let other = said.every-other (λ seven. h ((decoded e).number ∙ seven)) in
                (decoded e).number ∙ ap (λ x. (route_told x).number) other.2;
            laid_out = λ h. said.laid_out (tracks_in r) (pieces_in r) (back h);
            fewest = λ free h. said.fewest free (tracks_in r) (pieces_in r) (back h);
            floors = λ h. said.floors (tracks_in r) (pieces_in r) (back h);
            one-trunk-floor = λ h. said.one-trunk-floor (tracks_in r) (pieces_in r) (back h);
            turned-tangled = number-exactly (decoded e) over.tangled-exactly;
            turned-good = λ h. over.good (tracks_in r) (pieces_in r) (back h);
            turned-one-trunk = λ h. over.one_trunk_each (tracks_in r) (pieces_in r) (back h);
            no-copper = λ h. parked.no-copper (tracks_in r) (pieces_in r) (back h);
            stays-tangled = number-exactly (decoded e) parked.tangled-exactly;
            uncounted = λ beside h. parked.fewest beside (tracks_in r) (pieces_in r) (back h);
          }

    pub route-entry : RouteEntry ch ring board r ring' board'
    route-entry =
        let answer = e ∙ ap (λ x. entry_number (route_told x)) done.answer in
        record {
          answer = answer;
          decoded = decoded answer;
          ring_held = done.ring_held;
          board_held = done.board_held;
          promise = number-promise;
        }

  pub route-routed : {t n : ℕ} → a.answer ≡ Ok (drawn_board t n) → RouteEntry ch ring board (n * 65536 + t) ring' board'
  unfolding told
  route-routed q =
      let small = routed-small (route_trays (length ring) (length board)) ch (sym done.answer ∙ q) in
      route-entry (rw q (pair-number (omega arith) (omega arith)))

-- the ring with the fewest nets
module _ {ch : Channel} {ring ring' : List ℕ} {a : Result (found.Option ℕ) Refusal} (done : FewestDone ch ring a ring') where
  -- there are at most 511 nets
  pairs-fit : fewest ch < 4294967296
  pairs-fit = let few = fewest-few ch in let all = nets-few ch in omega arith

  pub fewest-entry : {r : ℕ} → r ≡ entry_number (fewest_told a) → FewestEntry ch ring r ring'
  fewest-entry {r} e =
      let answer = e ∙ ap (λ x. entry_number (fewest_told x)) done.answer in
      let by = answer ∙ ap entry_number (fewest-told (length ring) ch) in
      let accepted =
      Iff.trans (zero-exactly (fewest_refusal (length ring) ch) _ by) (fewest-accepted (length ring) ch) in
      record {
        answer = answer;
        decoded = decoded answer;
        ring_held = done.held;
        accepted = accepted;
        promise = λ h.
            let fits = accepted.0 h in
            let read = value-back (zero→values (fewest_refusal (length ring) ch) _ by h) pairs-fit in
            let pairs = counted ch ring fits.0 fits.1 (record { answer = done.answer; held = done.held }) in
            subst (λ (k : ℕ). FewestPromise ch k ring ring') (pairs ∙ sym read) (done.promise fits.0 fits.1);
      }

  -- a number of pairs is told as itself, and none as 0
  pub fewest-pairs : {pairs : found.Option ℕ} → a ≡ Ok pairs → FewestEntry ch ring (unwrap_or pairs 0) ring'
  unfolding told
  fewest-pairs {pairs} q =
      let s = told-success (fewest_refusal (length ring) ch) _ (unwrap_or pairs 0 ∷ [])
      (sym (fewest-told (length ring) ch) ∙ ap fewest_told (sym done.answer ∙ q)) in
      let same : fewest ch ≡ unwrap_or pairs 0 = cc s.1 in
      fewest-entry (rw q (value-number (omega (arith, same, pairs-fit))))

-- two lists on one panel
module _ {ch dh : Channel} {top bot top' bot' : List ℕ} {a : Result ℕ Refusal} (done : JoinDone ch dh top bot a top' bot')
    {r : ℕ} (e : r ≡ entry_number (join_told a)) where
  abbrev refusal : Option Refusal
  refusal = join_refusal (length top) (length bot) ch dh

  by-refusal : r ≡ entry_number (told_by refusal ((width ch + width dh) ∷ []))
  by-refusal =
      e ∙ ap (λ x. entry_number (join_told x)) done.answer
      ∙ ap entry_number (join-told (length top) (length bot) ch dh)

  accepted : (refusal_in r ≡ 0) ↔ (LongRows top bot × Fits ch dh)
  accepted = Iff.trans (zero-exactly refusal _ by-refusal) (join-accepted ch dh top bot)

  -- where 0 is read, the width comes back
  width_read : refusal_in r ≡ 0 → a ≡ Ok (place_in r)
  unfolding join_answer
  width_read h =
      let fits = accepted.0 h in
      let narrow = fits.1.columns in
      let back = value-back (zero→values refusal _ by-refusal h) (omega arith) in
      done.answer ∙ (answered-none Err refusal (Ok (width ch + width dh))
      ((join-accepted ch dh top bot).1 fits) ∙ ap Ok (sym back))

  module _ (long : LongRows top bot) (esc₁ : Escapes ch) (esc₂ : Escapes dh) (narrow : width ch + width dh ≤ widest)
      (p : ℕ) where
    place-small : {n : ℕ} → Lowest (RaisedOver ch dh) n → n ≤ 1022
    place-small l = over-small ch dh (highest-low esc₁) (highest-low esc₂) l.holds

    full-read : (b : Result ℕ Refusal) → a ≡ b → refusal_in r ≡ 18 → place_in r ≡ p → Lowest (RaisedOver ch dh) p
    unfolding told
    full-read (Ok w) q n h =
        let z = (decoded (e ∙ ap (λ x. entry_number (join_told x)) q)).number in absurd (omega arith)
    full-read (Err f) q n h =
        let by = e ∙ ap (λ x. entry_number (join_told x)) q in
        let d = decoded by in
        let number = d.number in
        let is = eighteen f (sym number ∙ n) in
        let l = (done.full-exactly long esc₁ esc₂ narrow (place_of f)).0 (q ∙ ap Err is) in
        let small = place-small l in
        let back = place-back (number_of f) by (omega arith) in
        subst (Lowest (RaisedOver ch dh)) (sym back ∙ h) l

    full-told : Lowest (RaisedOver ch dh) p → (refusal_in r ≡ 18) × (place_in r ≡ p)
    unfolding told
    full-told l =
        let q = (done.full-exactly long esc₁ esc₂ narrow p).1 l in
        let by = e ∙ ap (λ x. entry_number (join_told x)) q in
        let small = place-small l in
        ((decoded by).number, place-back 18 by (omega arith))

  pub join-entry : JoinEntry ch dh top bot r top' bot'
  join-entry =
      let answer = e ∙ ap (λ x. entry_number (join_told x)) done.answer in
      record {
        answer = answer;
        decoded = decoded answer;
        top_held = done.top_held;
        bot_held = done.bot_held;
        accepted = accepted;
        full = λ long esc₁ esc₂ narrow p. (
          λ h. full-read long esc₁ esc₂ narrow p a refl h.0 h.1,
          full-told long esc₁ esc₂ narrow p,
        );
        promise = λ h. done.promise (place_in r) (width_read h);
      }

pub join-width : {ch dh : Channel} {top bot top' bot' : List ℕ} {a : Result ℕ Refusal} → JoinDone ch dh top bot a top' bot'
    → {w : ℕ} → a ≡ Ok w → JoinEntry ch dh top bot w top' bot'
unfolding told
join-width done {w} q =
    let small = width-told done q in join-entry done (rw q (value-number (omega arith)))

-- looks and their ceiling
module _ (ch : Channel) where
  -- the ceiling of any channel fits, and no looks pass it
  ceiling-fits : ceiling (length (spanning ch)) < 4294967296
  ceiling-fits = omega (arith, ceiling-small ch)

  pub looks-entry : {r : ℕ} → r ≡ entry_number (looks_told (looks_answer ch)) → LooksEntry ch r
  looks-entry {r} e =
      let by = e ∙ ap entry_number (looks-told ch) in
      record {
        answer = e;
        decoded = decoded e;
        accepted = Iff.trans (zero-exactly (rows_refusal ch) _ by) (accepted-exactly ch);
        promise = λ h. promise ((zero-exactly (rows_refusal ch) _ by).0 h) (zero→values (rows_refusal ch) _ by h);
      }
    where
      promise : rows_refusal ch ≡ none → r ≡ entry_number (told_values (looks ch ∷ [])) → LooksPromise ch (place_in r)
      promise silent back =
          let most = looks≤ceiling ch ((accepted-exactly ch).0 silent) in
          let same = value-back back (omega (arith, most, ceiling-fits)) in
          record { sum = same; at_most = rw same most }

  pub ceiling-entry : {r : ℕ} → r ≡ entry_number (looks_told (ceiling_answer ch)) → CeilingEntry ch r
  ceiling-entry e =
      let by = e ∙ ap entry_number (ceiling-told ch) in
      record {
        answer = e;
        decoded = decoded e;
        accepted = Iff.trans (zero-exactly (rows_refusal ch) _ by) (accepted-exactly ch);
        ceiling_read = λ h. value-back (zero→values (rows_refusal ch) _ by h) ceiling-fits;
      }

  pub looks-given : {n : ℕ} → looks_answer ch ≡ Ok n → LooksEntry ch n
  unfolding told
  looks-given {n} q =
      let s = told-success (rows_refusal ch) _ (n ∷ []) (sym (looks-told ch) ∙ ap looks_told q) in
      let same : looks ch ≡ n = cc s.1 in
      let most = looks≤ceiling ch ((accepted-exactly ch).0 s.0) in
      looks-entry (rw q (value-number (omega (arith, same, most, ceiling-fits))))

  pub ceiling-given : {n : ℕ} → ceiling_answer ch ≡ Ok n → CeilingEntry ch n
  unfolding told
  ceiling-given {n} q =
      let s = told-success (rows_refusal ch) _ (n ∷ []) (sym (ceiling-told ch) ∙ ap looks_told q) in
      let same : ceiling (length (spanning ch)) ≡ n = cc s.1 in
      ceiling-entry (rw q (value-number (omega (arith, same, ceiling-fits))))

-- judging: a fault is known by its number and place
fault_of : ℕ → ℕ → Fault
fault_of n p = cond (eqb n 11) (Short p) (cond (eqb n 12) (Open p) (Floating p))

fault-is : (f : Fault) → f ≡ fault_of (fault_number f) (fault_place f)
unfolding fault_number fault_place fault_of
fault-is (Short p) = refl
fault-is (Open p) = refl
fault-is (Floating p) = refl

module _ (ch : Channel) (board : List ℕ) (lent : ℕ) (silent : judge_refusal ch board lent ≡ none) {r : ℕ}
    (e : r ≡ entry_number (judge_told (judge_answer ch board lent))) where
  told-found : (f : Option Fault) → finding ch (file_layout board) ≡ f → r ≡ entry_number (found_told (file_tracks board) f)
  told-found f q = e ∙ ap entry_number (unrefused-told ch board lent silent ∙ ap (found_told (file_tracks board)) q)

  -- the number and the place of a fault are read exactly where it is found
  found-exactly : (g : Fault)
      → ((refusal_in r ≡ fault_number g) × (place_in r ≡ fault_place g)) ↔ (finding ch (file_layout board) ≡ some g)
  unfolding found_told
  found-exactly g = (λ h. go (finding ch (file_layout board)) refl h.0 h.1, λ q. read g q)
    where
      read : (f : Fault) → finding ch (file_layout board) ≡ some f
          → (refusal_in r ≡ fault_number f) × (place_in r ≡ fault_place f)
      read f q =
          let by = told-found (some f) q in
          let small = fault-small ch board lent silent f q in
          ((decoded by).number, place-back (fault_number f) by (omega arith))

      go : (f : Option Fault) → finding ch (file_layout board) ≡ f → refusal_in r ≡ fault_number g
          → place_in r ≡ fault_place g → finding ch (file_layout board) ≡ some g
      go none q n p = let z = (decoded (told-found none q)).number in absurd (omega (arith, fault-between g))
      go (some f) q n p =
          let said = read f q in
          let same : f ≡ g = fault-is f ∙ (ap₂ fault_of (sym said.0 ∙ n) (sym said.1 ∙ p) ∙ sym (fault-is g)) in
          q ∙ ap some same

  fault-numbers : FaultNumbers ch (file_layout board) r
  unfolding fault_number fault_place
  fault-numbers =
      let promise = found-on-bytes ch board lent silent in
      record {
        short = λ p. Iff.trans (found-exactly (Short p)) (promise.short p);
        opened = λ p. Iff.trans (found-exactly (Open p)) (promise.opened p);
        floating = λ i. Iff.trans (found-exactly (Floating i)) (promise.floating i);
      }

module _ {ch : Channel} {board scratch scratch' : List ℕ} {a : JudgeAnswer}
    (done : Judged ch board scratch a scratch') where
  pub judge-entry : {r : ℕ} → r ≡ entry_number (judge_told a) → JudgeEntry ch board scratch r scratch'
  judge-entry e =
      let answer = e ∙ ap (λ x. entry_number (judge_told x)) done.answer in
      record {
        answer = answer;
        decoded = decoded answer;
        passes = number-exactly (decoded e) done.passes;
        places = λ silent. fault-numbers ch board (length scratch) silent answer;
        kept = done.kept;
      }

  pub judge-good : {t : ℕ} → a ≡ judging.Good t → JudgeEntry ch board scratch t scratch'
  unfolding judge_told
  judge-good q =
      let small = good-small ch board (length scratch) (sym done.answer ∙ q) in
      judge-entry (rw q (value-number (omega arith)))

-- blanks
module _ (t : ℕ) where
  pub blank-entry : {r : ℕ} → r ≡ entry_number (blank_told (blank_answer t)) → BlankEntry t r
  blank-entry e = record { answer = e; decoded = decoded e; refused = number-exactly (decoded e) (fourteen-exactly t) }

  pub blank-held : {b : ℕ} → blank_answer t ≡ Ok b → BlankEntry t b
  unfolding told
  blank-held q = blank-entry (rw q (value-number (omega (arith, blank-small t q))))

one_value : (a : Result ℕ Refusal) → packed (blank_told a).values ≡ value_told a
unfolding packed told head_or
one_value (Ok b) = refl
one_value (Err r) = refl

module _ {table : List ℕ} {t : ℕ} {a : Result ℕ Refusal} (done : OwnDone table t a) (fits : t < 4294967296) where
  value-fits : value_told a < 4294967296
  value-fits = let small = own-small table t in omega (arith, small, ap value_told done.answer)

  -- the one value of an answer comes back
  value_read : {r : ℕ} → r ≡ entry_number (blank_told a) → place_in r ≡ value_told a
  value_read e = let place = (decoded e).place in omega (arith, one_value a, value-fits)

  pub own-entry : {r : ℕ} → r ≡ entry_number (blank_told a) → OwnBlankEntry table t r
  own-entry {r} e =
      let answer = e ∙ ap (λ x. entry_number (blank_told x)) done.answer in
      record {
        answer = answer;
        decoded = decoded answer;
        promise = subst₂ (OwnPromise table t) (sym (decoded e).number) (sym (value_read e)) done.promise;
      }

  pub own_held : {b : ℕ} → a ≡ Ok b → OwnBlankEntry table t b
  unfolding told head_or
  own_held {b} q =
      let few = (done.promise.chosen-exactly b).0 (rw q (refl, refl)) in
      let range = few.0.in_range b few.1.in_table in
      own-entry (rw q (value-number (omega arith)))
