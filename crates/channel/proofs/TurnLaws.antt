-- A turned channel has the same nets with pins in the same columns, and above and below are exchanged: so a path down,
-- read backwards, is a path down of it, and the path round a ring meets a net twice there too.
use Rattle.std.specs.Prelude.{ℕ, suc, ◌≤◌, ◌<◌, ◌≡◌, refl, ◌&&◌, length, T, eqb}
use native.Mathlib.Omega.{arith}
use Rattle.std.proofs.Math.Decide.{dec_lt}
use Rattle.std.proofs.Common.{sym, ap₂, subst, ⊎_elim}
use Rattle.std.proofs.Math.Path.{ap}
use mathlib.Core.List.{List, ◌∷◌, Memᴰ}
use Rattle.std.proofs.Math.Bool.{or_comm}
use Rattle.std.proofs.Math.Dec.{ltb}
use Rattle.lists.specs.Lists.{head_or, at}
use Rattle.lists.specs.Tallies.{length-keep-append}
use Rattle.lists.specs.Pigeonhole.{distinct_head}
use Rattle.refusal.specs.Refusals.{answered}
use Rattle.channel.specs.Channel.{Channel, width, pin_count, is_net, spanning}
use Rattle.channel.specs.Constraints.{Above, Path↓, alone, down, chain, Step, nets_of, Descends, last, next}
use Rattle.channel.specs.Constraints.{Tangled}
use Rattle.channel.specs.Answers.{Escapes, bounds_answer}
use Rattle.channel.specs.Turned.{turned, TurnedPromise}
use Rattle.channel.proofs.EscapeLaws.{accepted-exactly}
use Rattle.channel.proofs.SameLaws.{SamePins, same-spanning, same-density}
use Rattle.channel.proofs.SpanLaws.{lower-spans, upper-spans}
use Rattle.channel.proofs.PathLaws.{path-nets, path-append, path-distinct?}
use Rattle.channel.proofs.ChainLaws.{chain-promise}

module _ (ch : Channel) where
  count-turned : (n : ℕ) → pin_count (turned ch) n ≡ pin_count ch n
  unfolding pin_count
  count-turned n =
      let a = length-keep-append (eqb n) ch.bot ch.top in
      let b = length-keep-append (eqb n) ch.top ch.bot in
      omega arith

  net-turned : (n : ℕ) → is_net (turned ch) n ≡ is_net ch n
  unfolding is_net
  net-turned n = ap (λ (k : ℕ). ltb 0 n && ltb 1 k) (count-turned n)

  pub escapes-turned : Escapes ch → Escapes (turned ch)
  escapes-turned esc =
      let even = esc.even in
      record {
        narrow = subst (λ (w : ℕ). w ≤ 512) (sym even) esc.narrow;
        even = sym even;
        wide = subst (λ (w : ℕ). 0 < w) (sym even) esc.wide;
        low = λ c. let l = esc.low c in (l.1, l.0);
      }

  same-pins : length ch.bot ≡ width ch → SamePins (turned ch) ch
  same-pins even =
      record {
        wide = even;
        net = net-turned;
        pin = λ n c. ap₂ ◌&&◌ (net-turned n) (or_comm (eqb (at ch.bot c) n) (eqb (at ch.top c) n));
      }

  -- above and below are exchanged
  above-turned : {a b c : ℕ} → Above ch a b c → Above (turned ch) b a c
  above-turned {a} {b} h =
      record {
        on_top = h.on_bot;
        on_bot = h.on_top;
        upper = subst T (sym (net-turned b)) h.lower;
        lower = subst T (sym (net-turned a)) h.upper;
        different = λ e. h.different (sym e);
      }

-- the steps of a ring are a path of more than one net, which ends where it began
descends-path : {ch : Channel} → Escapes ch → {end : ℕ} (s : Step) (rest : List Step)
    → Descends (Above ch) end (s ∷ rest) → (k : ℕ) × Path↓ ch (suc (suc k)) s.net end
descends-path {ch} esc s rest (last h) = (0, down s.column h (alone (lower-spans ch esc h)))
descends-path {ch} esc s rest (next {t = t} {rest = more} h d) =
    let r = descends-path esc t more d in (suc r.0, down s.column h r.1)

path-end : {ch : Channel} {k a z : ℕ} (p : Path↓ ch k a z) → Memᴰ z (path-nets p)
unfolding path-nets
path-end (alone s) = Memᴰ.head refl
path-end (down c h p) = Memᴰ.tail (path-end p)

-- and such a path meets a net twice
path-round-at : {ch : Channel} {k a b : ℕ} → a ≡ b → 1 < k → Path↓ ch k a b → Tangled ch
unfolding path-nets
path-round-at e more (alone s) = absurd (omega arith)
path-round-at {a = a} e more (down c h p) =
    ⊎_elim (λ d. absurd (distinct_head a (path-nets p) d (rw e (path-end p)))) (λ t. t) (path-distinct? (down c h p))

path-round : {ch : Channel} {k a : ℕ} → 1 < k → Path↓ ch k a a → Tangled ch
path-round more p = path-round-at refl more p

module _ (ch : Channel) (esc : Escapes ch) where
  same : SamePins (turned ch) ch
  same = same-pins ch esc.even

  -- a net's span stays
  span-turned : {n : ℕ} → Memᴰ n (spanning ch) → Memᴰ n (spanning (turned ch))
  span-turned {n} m = subst (λ (ns : List ℕ). Memᴰ n ns) (sym (same-spanning same)) m

  -- a path down, read backwards
  path-turned : {k a z : ℕ} → Path↓ ch k a z → Path↓ (turned ch) k z a
  path-turned (alone s) = alone (span-turned s)
  path-turned {a = a} {z = z} (down c h p) =
      let step = down c (above-turned ch h) (alone (span-turned (upper-spans ch esc h))) in
      subst (λ (m : ℕ). Path↓ (turned ch) m z a) (omega arith) (path-append (path-turned p) step)

  -- and so the path round a ring
  tangled-turned : Tangled ch → Tangled (turned ch)
  unfolding head_or
  tangled-turned (steps, ring) = round steps ring.closed
    where
      round : (steps : List Step) → Descends (Above ch) (head_or 0 (nets_of steps)) steps → Tangled (turned ch)
      round mathlib.Core.List.[] d = elim d [ ]
      round (s ∷ rest) d = let r = descends-path esc s rest d in path-round (omega arith) (path-turned r.1)

module _ (ch : Channel) (esc : Escapes ch) where
  back : Tangled (turned ch) → Tangled ch
  back = tangled-turned (turned ch) (escapes-turned ch esc)

  -- no chain is longer than that of the turned channel: where it is not 0 no ring is there
  chain≤turned : chain ch ≤ chain (turned ch)
  chain≤turned = elim (dec_lt 0 (chain ch)) [ yes h ↦ reached h | no h ↦ omega arith ]
    where
      reached : 0 < chain ch → chain ch ≤ chain (turned ch)
      reached h =
          let untangled : (Tangled ch → ⊥) = λ t. let z = (chain-promise ch esc).tangled t in omega arith in
          let p = (chain-promise ch esc).reached untangled h in
          (chain-promise (turned ch) (escapes-turned ch esc)).most (λ t. untangled (back t)) (chain ch) p.1 p.0
          (path-turned ch esc p.2)

chain-turned : (ch : Channel) → Escapes ch → chain (turned ch) ≡ chain ch
chain-turned ch esc =
    let up = chain≤turned ch esc in let down = chain≤turned (turned ch) (escapes-turned ch esc) in omega arith

-- what Req 02 says of the turned list
pub turned-promise : (ch : Channel) → TurnedPromise ch
unfolding bounds_answer answered
turned-promise ch =
    record {
      turned-twice = refl;
      escapes-exactly = (escapes-turned (turned ch), escapes-turned ch);
      tangled-exactly = λ esc. (back ch esc, tangled-turned ch esc);
      same-density = λ esc. same-density (same-pins ch esc.even);
      same-chain = λ esc untangled. chain-turned ch esc;
      same-bounds = bounds;
    }
  where
    bounds : Escapes ch → bounds_answer (turned ch) ≡ bounds_answer ch
    bounds esc =
        rw (
          (accepted-exactly (turned ch)).1 (escapes-turned ch esc),
          (accepted-exactly ch).1 esc,
          same-density (same-pins ch esc.even),
          chain-turned ch esc,
          answered,
        )
