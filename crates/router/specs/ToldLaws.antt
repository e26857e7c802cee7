-- The router's answer is told by its refusal, or by the pieces and the tracks, which are at most 2,559 and 511.
use Rattle.router.specs.Route.{drawn_board}
use Rattle.std.specs.Prelude.{Ok}
use Rattle.std.specs.Prelude.{ℕ, ◌≤◌, List, [], ◌∷◌}
use native.Mathlib.Omega.{arith}
use Rattle.std.proofs.Math.Path.{◌≡◌, refl, ap}
use Rattle.std.proofs.Common.{sym, ◌∙◌}
use Rattle.std.proofs.Math.Option.{none}
use Rattle.std.proofs.Math.ListN.{length}
use Rattle.refusal.specs.Refusals.{◌or_else◌, told_by, told}
use Rattle.refusal.specs.ChainLaws.{or_else_none}
use Rattle.refusal.specs.ToldLaws.{told-ok_unless, told-success}
use Rattle.refusal.specs.Trays.{Tray, short_tray}
use Rattle.grid.specs.Pieces.{Layout}
use Rattle.channel.specs.Channel.{Channel}
use Rattle.channel.specs.Answers.{Escapes, rows_refusal}
use Rattle.channel.proofs.EscapeLaws.{accepted-exactly}
use Rattle.leftedge.specs.Fill.{Filling, filled, stuck}
use Rattle.leftedge.specs.Nets.{fill}
use Rattle.drawing.specs.Draw.{draw}
use Rattle.promises.specs.Proved.{trays-fit}
use Rattle.router.specs.Route.{tangled, layout_drawn, route_refusal, route_answer, route_told}

module _ (trays : List Tray) (ch : Channel) where
  abbrev drawn : Layout
  drawn = layout_drawn ch (fill ch)

  pub route-told : route_told (route_answer trays ch)
      ≡ told_by (route_refusal trays ch) (length drawn.pieces ∷ drawn.tracks ∷ [])
  unfolding route_answer
  route-told = told-ok_unless _ (route_refusal trays ch) _

  pub routed-small : {t n : ℕ} → route_answer trays ch ≡ Ok (drawn_board t n) → (t ≤ 511) × (n ≤ 2559)
  unfolding told route_refusal tangled layout_drawn draw
  routed-small {t} {n} e =
      let s = told-success (route_refusal trays ch) _ (n ∷ t ∷ []) (sym route-told ∙ ap route_told e) in
      let late = or_else_none (short_tray trays) (rows_refusal ch or_else tangled ch (fill ch)) s.0 in
      let later = or_else_none (rows_refusal ch) (tangled ch (fill ch)) late.1 in
      let pieces : length drawn.pieces ≡ n = cc s.1 in
      let tracks : drawn.tracks ≡ t = cc s.1 in
      let small = go (fill ch) refl later.1 ((accepted-exactly ch).0 later.0) in
      (omega arith, omega arith)
    where
      go : (f : Filling) → fill ch ≡ f → tangled ch f ≡ none → Escapes ch
          → ((layout_drawn ch f).tracks ≤ 511) × (length (layout_drawn ch f).pieces ≤ 2559)
      go (filled u ps) f h esc = let fit = trays-fit ch esc in (fit.tracks-fit u ps f, fit.pieces-fit u ps f)
      go (stuck left) f h esc = absurd (let z : ◌≡◌ {A = ℕ} 0 1 = cc in omega arith)
