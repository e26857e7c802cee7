-- Pieces put into a lent board one behind the other: what the writers of a part of the drawing are told and answer, and
-- that two parts in a row are one.
use Rattle.std.specs.Prelude.{ℕ, suc, ◌+◌, ◌-◌, ◌*◌, ◌≤◌, ◌≡◌, refl, Bool, true, false, length}
use Rattle.std.proofs.Common.{arith, ◌∙◌, subst, length-append}
use Rattle.std.proofs.Math.Path.{ap, subst⁻¹}
use mathlib.Core.List.Memᴰ
use mathlib.Core.List.{List, [], ◌∷◌, ◌++◌, append-nil, Memᴰ}
use Rattle.std.proofs.lemmas.List.Edits.{sets}
use Rattle.std.proofs.Math.Seq.{length-sets}
use Rattle.lists.specs.Lists.{keep, each, from, up_to, overlay}
use Rattle.lists.specs.Ranges.{length-each}
use Rattle.lists.specs.Runs.{each_append}
use Rattle.lists.specs.Stores.{sets-append, sets-front-last, sets-overlay}
use Rattle.grid.specs.declared.Piece.{Piece}
use Rattle.boardfile.specs.Encode.{word, piece_word}
use Rattle.boardfile.specs.Code.{SmallWords}
use Rattle.boardfile.specs.RoundTrip.{words}
use Rattle.drawing.specs.Prefixes.{below, below-here, below_more, below-same}

-- these pieces have room behind the first `count` pieces of the board, and fit its fields: "piece count 12" bits
pub record Room (board : List ℕ) (count : ℕ) (ps : List Piece) : Type 0 where
  pub long : 4 + 4 * (count + length ps) ≤ length board
  pub few : count + length ps ≤ 4095
  pub small : (p : Piece) → Memᴰ p ps → SmallWords p

-- these pieces were put behind the first `count` pieces of the board, which then has `all`; the other bytes stayed
pub record Put (board after : List ℕ) (count all : ℕ) (ps : List Piece) : Type 0 where
  pub counted : all ≡ count + length ps
  pub written : after ≡ sets board (4 + 4 * count) (words ps)

pub words-length : (ps : List Piece) → length (words ps) ≡ 4 * length ps
unfolding word
words-length ps = length-each 4 (λ p. word (piece_word p)) ps (λ p. refl)

pub put-none : (board : List ℕ) (count : ℕ) → Put board board count count []
unfolding each
put-none board count = record { counted = omega arith; written = refl }

pub put_one : (board after : List ℕ) (count : ℕ) (p : Piece) → after ≡ sets board (4 + 4 * count) (word (piece_word p))
    → Put board after count (count + 1) (p ∷ [])
unfolding each
put_one board after count p e = record { counted = refl; written = e ∙ rw append-nil }

pub room-first : {a : List ℕ} {i : ℕ} {ps : List Piece} (qs : List Piece) → Room a i (ps ++ qs) → Room a i ps
room-first {a} {i} {ps} qs r =
    let l = r.long in
    let f = r.few in
    let both = length-append ps qs in
    record { long = omega arith; few = omega arith; small = λ p m. r.small p (Memᴰ.append_left qs m) }

module _ {a b : List ℕ} {i j : ℕ} {ps : List Piece} where
  pub put-length : Put a b i j ps → length b ≡ length a
  put-length h = ap length h.written ∙ length-sets a (4 + 4 * i) (words ps)

  -- one part behind another
  pub put_then : {c : List ℕ} {k : ℕ} {qs : List Piece} → Put a b i j ps → Put b c j k qs → Put a c i k (ps ++ qs)
  put_then {c} {k} {qs} h g =
      let e = h.counted in
      let d = g.counted in
      let place : 4 + 4 * j ≡ 4 + 4 * i + length (words ps) = omega (arith, words-length ps) in
      let both = each_append (λ p. word (piece_word p)) ps qs in
      record {
        counted = omega (arith, length-append ps qs);
        written = g.written ∙ rw (h.written, place, both) (sets-append a (4 + 4 * i) (words ps) (words qs));
      }

  -- room for what is left, once the first part is put
  pub room-rest : {qs : List Piece} → Put a b i j ps → Room a i (ps ++ qs) → Room b j qs
  room-rest {qs} h r =
      let l = r.long in
      let f = r.few in
      let e = h.counted in
      let same = put-length h in
      let both = length-append ps qs in
      record { long = omega arith; few = omega arith; small = λ p m. r.small p (Memᴰ.append_right ps m) }

-- the same board and the same count
pub put_same : {a b c : List ℕ} {i j k : ℕ} {ps : List Piece} → c ≡ b → k ≡ j → Put a b i j ps → Put a c i k ps
put_same e d h = record { counted = d ∙ h.counted; written = e ∙ h.written }

-- A loop over the numbers that pass a test f, which puts D c for each such c: there is room for the next, and then it
-- is put too.
module _ (D : ℕ → List Piece) (f : ℕ → Bool) {a b : List ℕ} {i j : ℕ} (c : ℕ) (h : 1 ≤ c)
    (so_far : Put a b i j (each D (below f c))) where
  pub next-room : (w : ℕ) → c ≤ w → f c ≡ true → Room a i (each D (keep f (up_to w))) → Room b j (D c)
  unfolding each
  next-room w l t r =
      let later = keep f (from (suc c) (w - c)) in
      let e = ap (each D) (below-here f w c h l t) ∙ each_append D (below f c) (c ∷ later) in
      room-first (each D later) (room-rest so_far (subst (Room a i) e r))

  pub next-put : {b' : List ℕ} {k : ℕ} → f c ≡ true → Put b b' j k (D c) → Put a b' i k (each D (below f (c + 1)))
  unfolding each
  next-put {b'} {k} t p =
      let e = ap (each D) (below_more f c h t) ∙ each_append D (below f c) (c ∷ [])
      ∙ ap (λ (l : List Piece). each D (below f c) ++ l) (append-nil (D c)) in
      subst⁻¹ (Put a b' i k) e (put_then so_far p)

  pub next-passed : f c ≡ false → Put a b i j (each D (below f (c + 1)))
  next-passed t = subst⁻¹ (λ (l : List ℕ). Put a b i j (each D l)) (below-same f c h t) so_far

-- a header put last, in front of all pieces
pub put-header : {a b : List ℕ} {n : ℕ} {ps : List Piece} (v : ℕ) → Put a b 0 n ps → Room a 0 ps
    → sets b 0 (word v) ≡ overlay (word v ++ words ps) a
unfolding word
put-header {a} {b} {n} {ps} v h r =
    let l = r.long in
    let f = r.few in
    ap (λ (bs : List ℕ). sets bs 0 (word v)) h.written ∙ sets-front-last a 0 (word v) (words ps)
    ∙ sets-overlay a (word v ++ words ps) (omega (arith, length-append (word v) (words ps), words-length ps))
