-- Chains of touches: they are put end to end, made longer by one touch, and turned round.
use Rattle.std.specs.Prelude.{ℕ}
use Rattle.grid.proofs.TouchLaws.{touch-sym}
use Rattle.grid.specs.Pieces.{Layout}
use Rattle.channel.specs.Channel.{Channel}
use Rattle.wiring.specs.Layouts.{Element, pin, copper, Present, Touching, Joined, itself, link}

pub touching-sym : (t : ℕ) (x y : Element) → Touching t x y → Touching t y x
unfolding Touching
touching-sym t (pin x) (pin y) h = h
touching-sym t (pin x) (copper q) h = h
touching-sym t (copper p) (pin y) h = h
touching-sym t (copper p) (copper q) h = touch-sym h

pub joined-trans : {ch : Channel} {l : Layout} {x y z : Element} → Joined ch l x y → Joined ch l y z → Joined ch l x z
joined-trans itself q = q
joined-trans (link t p r) q = link t p (joined-trans r q)

pub joined_snoc : {ch : Channel} {l : Layout} {x y z : Element} → Joined ch l x y → Touching l.tracks y z
    → Present ch l z → Joined ch l x z
joined_snoc j t p = joined-trans j (link t p itself)

pub joined-sym : {ch : Channel} {l : Layout} {x y : Element} → Present ch l x → Joined ch l x y → Joined ch l y x
joined-sym p itself = itself
joined-sym {l = l} p (link {x = x} {y = y} t q r) = joined_snoc (joined-sym q r) (touching-sym l.tracks x y t) p
