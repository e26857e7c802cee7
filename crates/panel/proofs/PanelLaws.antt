-- What Req 09 promises of the joined list of two lists that fit.
use Rattle.std.specs.Prelude.{ℕ, max, ◌+◌, ◌-◌, ◌≤◌, ◌<◌, ◌≡◌, refl, ◌⊎◌, length, T}
use Rattle.std.proofs.Common.{arith, ◌∙◌, subst, inl, inr, ⊎_elim}
use Rattle.std.proofs.Math.Decide.{dec_le}
use Rattle.std.proofs.Math.Path.{sym, ap, ap₂}
use mathlib.Core.List.Memᴰ
use mathlib.Core.List.{List, ◌++◌, map, map-map, map-append, Memᴰ}
use Rattle.std.proofs.Math.ListN.{length-append, length-map}
use Rattle.lists.specs.Lists.{at}
use Rattle.lists.specs.Orders.{member?}
use Rattle.lists.specs.Updates.{map_same}
use Rattle.grid.specs.Pieces.{net}
use Rattle.channel.specs.Channel.{Channel, width, highest_net, is_net, nets}
use Rattle.channel.specs.Constraints.{Tangled}
use Rattle.channel.specs.Answers.{Escapes}
use Rattle.channel.proofs.Laws.{net-positive}
use Rattle.channel.proofs.SpanLaws.{nets→, spanning→}
use Rattle.leftedge.specs.declared.NetRecord.{NetRecord}
use Rattle.leftedge.specs.Items.{Place, track_of}
use Rattle.leftedge.specs.Fill.{filled}
use Rattle.leftedge.specs.FillEnds.{filled-or-stuck}
use Rattle.leftedge.specs.Walk.{ring_of}
use Rattle.leftedge.specs.Nets.{net_items, fill, record_of, records}
use Rattle.leftedge.proofs.HalfLaws.{AsAlone, halves-filled}
use Rattle.leftedge.proofs.NetLaws.{nets-orderly, order→spanning}
use Rattle.leftedge.proofs.NetFill.{nets-filled, stuck-ring, filled-untangled}
use Rattle.panel.specs.Joined.{highest, raised, joined, Fits}
use Rattle.panel.specs.Promise.{moved_record, StandsAlone, PanelPromise}
use Rattle.panel.specs.RaiseLaws.{RaisedTo, none, some, raised-to, raised-some, raised-apart}
use Rattle.panel.proofs.JoinLaws.{top≤highest, bot≤highest, net≤highest, width-both, top-first, top-second}
use Rattle.panel.proofs.JoinLaws.{bot-first, bot-second}
use Rattle.panel.proofs.PartLaws.{first-first, last-first, first-second, last-second}
use Rattle.panel.proofs.NetLaws.{nets-both}
use Rattle.panel.proofs.DensityLaws.{density-both}
use Rattle.panel.proofs.FillLaws.{panel-halves}
use Rattle.panel.proofs.TangleLaws.{tangled-kept, chain-both}

-- a number that is at most the second's highest is low enough when it is raised
pub raised-low : (h k n : ℕ) → n ≤ k → h + k ≤ highest_net → raised h n ≤ highest_net
raised-low h k n low fits = go (raised h n) (raised-to h n)
  where
    go : (r : ℕ) → RaisedTo h n r → r ≤ highest_net
    go r (none e) = omega arith
    go r (some p) = omega arith

module _ {ch dh : Channel} (fit : Fits ch dh) where
  abbrev both : Channel
  both = joined ch dh

  abbrev up : ℕ → ℕ
  up = raised (highest ch)

  even₁ : length ch.bot ≡ width ch
  even₁ = fit.first.even

  even₂ : length dh.bot ≡ width dh
  even₂ = fit.second.even

  pub bot-length : length both.bot ≡ width both
  bot-length = unfold joined in (
      let a = length-append ch.bot (map up dh.bot) in
      let b = length-map dh.bot up in
      let w = width-both ch dh in
      omega (arith, even₁, even₂))

  low : (c : ℕ) → (at both.top c ≤ highest_net) × (at both.bot c ≤ highest_net)
  low c =
      elim (dec_le c (width ch)) [
        | yes h ↦
            (let l = fit.first.low c in let t = top-first ch dh c h in let b = bot-first ch dh even₁ c h in
            let x = l.0 in let y = l.1 in (omega arith, omega arith))
        | no h ↦ later (c - width ch) (omega arith) (omega arith)
      ]
    where
      later : (k : ℕ) → 0 < k → width ch + k ≡ c → (at both.top c ≤ highest_net) × (at both.bot c ≤ highest_net)
      later k inside e =
          let t = top-second ch dh k inside in
          let b = bot-second ch dh even₁ k inside in
          let x = raised-low (highest ch) (highest dh) (at dh.top k) (top≤highest dh k) fit.numbers in
          let y = raised-low (highest ch) (highest dh) (at dh.bot k) (bot≤highest dh k) fit.numbers in
          subst (λ (j : ℕ). (at both.top j ≤ highest_net) × (at both.bot j ≤ highest_net)) e
          (omega arith, omega arith)

  -- the joined list escapes refusals 3 to 5
  pub both-escapes : Escapes both
  both-escapes =
      let w = width-both ch dh in
      let c = fit.columns in
      let p = fit.first.wide in
      record { narrow = omega arith; even = bot-length; wide = omega arith; low = low }

  module _ {t₁ t₂ : ℕ} {ps₁ ps₂ : List Place} (e₁ : fill ch ≡ filled t₁ ps₁) (e₂ : fill dh ≡ filled t₂ ps₂) where
    alone : AsAlone (net_items both) (net_items ch) (net_items dh) (λ n. n) up t₁ t₂ ps₁ ps₂
    alone = unfold fill in (
        halves-filled (panel-halves fit) (nets-orderly ch fit.first) (nets-orderly dh fit.second) e₁ e₂)

    both-filled : fill both ≡ filled (max t₁ t₂) alone.places
    both-filled = unfold fill in alone.fills

    in_order_lem : {n : ℕ} → Memᴰ n (net_items both).order
        → Memᴰ n (net_items ch).order ⊎ ((m : ℕ) × Memᴰ m (net_items dh).order × (up m ≡ n))
    in_order_lem {n} m =
        ⊎_elim (λ x. let r = Memᴰ.of_map (λ (k : ℕ). k) (net_items ch).order x in inl (Memᴰ.cast (sym r.2) r.1))
        (λ x. inr (Memᴰ.of_map up (net_items dh).order x))
        (Memᴰ.append_cases (map (λ k. k) (net_items ch).order)
        (subst (λ (l : List ℕ). Memᴰ n l) (panel-halves fit).order m))

    -- a net without a span has no track, on the panel and alone
    untracked : (n : ℕ) → (Memᴰ n (net_items both).order → ⊥) → track_of alone.places n ≡ 0
    untracked = (nets-filled both both-escapes (max t₁ t₂) alone.places both-filled).untracked

    of-first : (n : ℕ) → T (is_net ch n) → track_of alone.places n ≡ track_of ps₁ n
    of-first n net = ⊎_elim (alone.of-first n) straight (member? n (net_items ch).order)
      where
        not-raised : (m : ℕ) → Memᴰ m (net_items dh).order → up m ≡ n → ⊥
        not-raised m x e =
            let positive = (spanning→ dh m (order→spanning dh m x)).0.positive in
            let r = raised-some (highest ch) m positive in
            let l = net≤highest ch even₁ n net in
            omega arith

        straight : (Memᴰ n (net_items ch).order → ⊥) → track_of alone.places n ≡ track_of ps₁ n
        straight out =
            untracked n (λ m. ⊎_elim out (λ r. not-raised r.0 r.1 r.2) (in_order_lem m))
            ∙ sym ((nets-filled ch fit.first t₁ ps₁ e₁).untracked n out)

    of-second : (n : ℕ) → T (is_net dh n) → track_of alone.places (up n) ≡ track_of ps₂ n
    of-second n net = ⊎_elim (alone.of-second n) straight (member? n (net_items dh).order)
      where
        not_low : Memᴰ (up n) (net_items ch).order → ⊥
        not_low x =
            let l = net≤highest ch even₁ (up n) (spanning→ ch (up n) (order→spanning ch (up n) x)).0.is_net in
            let positive = net-positive dh n net in
            let r = raised-some (highest ch) n positive in
            omega arith

        straight : (Memᴰ n (net_items dh).order → ⊥) → track_of alone.places (up n) ≡ track_of ps₂ n
        straight out =
            untracked (up n) (λ m. ⊎_elim not_low
            (λ r. out (Memᴰ.cast (sym (raised-apart (highest ch) r.0 n r.2)) r.1)) (in_order_lem m))
            ∙ sym ((nets-filled dh fit.second t₂ ps₂ e₂).untracked n out)

    record-first : (n : ℕ) → T (is_net ch n) → record_of both alone.places n ≡ record_of ch ps₁ n
    unfolding record_of
    record-first n isnet =
        rw (first-first ch dh even₁ n isnet, last-first ch dh even₁ n isnet, of-first n isnet)

    record-second : (n : ℕ) → T (is_net dh n)
        → record_of both alone.places (up n) ≡ moved_record ch (record_of dh ps₂ n)
    unfolding record_of moved_record
    record-second n isnet =
        rw (first-second ch dh even₁ n isnet even₂, last-second ch dh even₁ n isnet even₂, of-second n isnet)

    recorded : records both alone.places ≡ records ch ps₁ ++ map (moved_record ch) (records dh ps₂)
    unfolding records
    recorded =
        ap (map (record_of both alone.places)) (nets-both fit)
        ∙ (map-append (record_of both alone.places) (nets ch) (map up (nets dh))
        ∙ ap₂ {C = List NetRecord} ◌++◌ (map_same (record_of both alone.places) (record_of ch ps₁) (nets ch)
        (λ n m. record-first n (nets→ ch n m).is_net))
        (map-map (record_of both alone.places) up (nets dh)
        ∙ (map_same (λ n. record_of both alone.places (up n)) (λ n. moved_record ch (record_of dh ps₂ n)) (nets dh)
        (λ n m. record-second n (nets→ dh n m).is_net) ∙ sym (map-map (moved_record ch) (record_of dh ps₂) (nets dh)))))

    stands-alone : StandsAlone ch dh both
    stands-alone =
        record {
          tracks₁ = t₁;
          tracks₂ = t₂;
          places₁ = ps₁;
          places₂ = ps₂;
          places = alone.places;
          first = e₁;
          second = e₂;
          larger = both-filled;
          of-first = of-first;
          of-second = of-second;
          recorded = recorded;
        }

  -- each list is filled alone, or is tangled
  filled? : ((Tangled ch ⊎ Tangled dh)) ⊎ StandsAlone ch dh both
  filled? =
      ⊎_elim (λ a. ⊎_elim (λ b. inr (stands-alone a.2 b.2))
      (λ b. inl (inr (ring_of (net_items dh) b.0, stuck-ring dh fit.second b.0 b.1)))
      (filled-or-stuck (fill dh)))
      (λ a. inl (inl (ring_of (net_items ch) a.0, stuck-ring ch fit.first a.0 a.1)))
      (filled-or-stuck (fill ch))

  pub panel-promise : PanelPromise ch dh both
  panel-promise =
      record {
        rows = refl;
        escapes = both-escapes;
        tangled-exactly = (
          λ t. ⊎_elim (λ r. r) (λ s. absurd (filled-untangled both both-escapes _ _ s.larger t)) filled?,
          tangled-kept fit both-escapes,
        );
        alone = λ untangled. ⊎_elim (λ r. absurd (untangled (tangled-kept fit both-escapes r))) (λ s. s) filled?;
        larger-density = density-both fit;
        larger-chain = chain-both fit both-escapes;
      }
