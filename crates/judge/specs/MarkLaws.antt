-- Two elements of a layout have one mark exactly if they are joined.
use Prim.Native.Nat.{ℕ, zero, suc, pred, ◌+◌, ◌-◌, ◌≤◌, ◌<◌}
use Rattle.std.proofs.Common.{arith, ◌∙◌, subst, inl, inr}
use Rattle.std.proofs.Math.Decide.{dec_le}
use Rattle.std.proofs.Math.Path.{◌≡◌, sym, ap}
use Rattle.std.specs.Prelude.{refl, ◌↔◌, ◌⊎◌, T}
use mathlib.Core.List.Memᴰ
use mathlib.Core.List.{List, ◌++◌, map, Memᴰ}
use Rattle.std.proofs.Math.Logic.{⊎_elim}
use Rattle.std.proofs.Math.Option.{some}
use Rattle.std.proofs.Math.ListN.{get_elem?}
use Rattle.std.proofs.lemmas.List.{length-map}
use Rattle.lists.specs.Lists.{at, up_to}
use Rattle.lists.specs.Ranges.{member-place, place-member}
use Rattle.lists.specs.Places.{place-left, place-right, place_map, place-of-map, place-from, length_from, at_place}
use Rattle.grid.specs.declared.Piece.{Piece}
use Rattle.grid.specs.Pieces.{Layout}
use Rattle.channel.specs.Channel.{Channel, width}
use Rattle.channel.specs.Answers.{Escapes}
use Rattle.wiring.specs.Pins.{Pin, top, bot, IsPin, pin_at}
use Rattle.wiring.specs.Layouts.{Element, pin, copper, Present, Touching, AllOnGrid, Joined, itself, link}
use Rattle.wiring.specs.Chains.{touching-sym, joined-trans}
use Rattle.judge.specs.Elements.{elements, elements_touch}
use Rattle.judge.specs.TouchTest.{test-sym, Placed, test→touching, touching→test}
use Rattle.classes.specs.Classes.{Marked, marks_of, classes}
use Rattle.classes.specs.ClassLaws.{Equivalence, Classed, classes-classed, classes-elements}
use Rattle.judge.specs.Finding.{marks}
use Rattle.judge.specs.PinPlaces.{pin_at-top, pin_at-bot, position_of, position-pin_at, pin_at-position}
use Rattle.judge.specs.PinPlaces.{position-inside, pin-inside}

-- the places of one row of pins, and where the list of the elements goes on after it
pin_row : (ℕ → Pin) → Channel → List Element
pin_row row ch = map (λ c. pin (row c)) (up_to (width ch))

row-place : (row : ℕ → Pin) (ch : Channel) (i : ℕ) → i < width ch
    → get_elem? (pin_row row ch) i ≡ some (pin (row (suc i)))
unfolding pin_row
row-place row ch i h =
    place_map (λ (c : ℕ). pin (row c)) (up_to (width ch)) i (place-from 1 (width ch) i h)
    ∙ ap (λ (c : ℕ). some (pin (row c))) (omega arith)

after-row : (row : ℕ → Pin) (ch : Channel) (ys : List Element) (i : ℕ)
    → get_elem? (pin_row row ch ++ ys) (width ch + i) ≡ get_elem? ys i
unfolding pin_row
after-row row ch ys i =
    let e = length-map (up_to (width ch)) (λ (c : ℕ). pin (row c)) ∙ length_from 1 (width ch) in
    subst (λ (k : ℕ). get_elem? (pin_row row ch ++ ys) (k + i) ≡ get_elem? ys i) e (place-right (pin_row row ch) ys i)

-- the pin place at position p, and the piece in place i
pub pin-place : (ch : Channel) (l : Layout) (i : ℕ) → i < width ch + width ch
    → get_elem? (elements ch l) i ≡ some (pin (pin_at ch (suc i)))
unfolding elements pin_row
pin-place ch l i h = elim (dec_le (suc i) (width ch)) [ yes k ↦ on-top k | no k ↦ on-bot (omega arith) ]
  where
    pieces : List Element
    pieces = map copper l.pieces

    on-top : suc i ≤ width ch → get_elem? (elements ch l) i ≡ some (pin (pin_at ch (suc i)))
    on-top k =
        place-left (pin_row top ch) (pin_row bot ch ++ pieces) i (row-place top ch i k)
        ∙ ap (λ (x : Pin). some (pin x)) (sym (pin_at-top ch (suc i) k))

    on-bot : width ch < suc i → get_elem? (elements ch l) i ≡ some (pin (pin_at ch (suc i)))
    on-bot k =
        let j = i - width ch in
        let at-bot = after-row top ch (pin_row bot ch ++ pieces) j
        ∙ place-left (pin_row bot ch) pieces j (row-place bot ch j (omega arith)) in
        let here : i ≡ width ch + j = omega arith in
        let next : suc i ≡ width ch + suc j = omega arith in
        ap (get_elem? (elements ch l)) here ∙ at-bot ∙ ap (λ (x : Pin). some (pin x))
        (sym (pin_at-bot ch (suc j) (omega arith)) ∙ ap (pin_at ch) (sym next))

pub piece-place : (ch : Channel) (l : Layout) (i : ℕ) {q : Piece} → get_elem? l.pieces i ≡ some q
    → get_elem? (elements ch l) (width ch + width ch + i) ≡ some (copper q)
unfolding elements pin_row
piece-place ch l i e =
    let pieces : List Element = map copper l.pieces in
    let place : width ch + width ch + i ≡ width ch + (width ch + i) = omega arith in
    ap (get_elem? (elements ch l)) place ∙ after-row top ch (pin_row bot ch ++ pieces) (width ch + i)
    ∙ after-row bot ch pieces i ∙ place_map copper l.pieces i e

-- pieces and pins of the layout are among the elements, and all elements are places or pieces of it
present→element : (ch : Channel) (l : Layout) → Escapes ch → (x : Element) → Present ch l x
    → Memᴰ x (elements ch l)
unfolding Present
present→element ch l esc (pin x) h =
    let r = position-inside ch esc x h in
    let i = pred (position_of ch x) in
    let e : suc i ≡ position_of ch x = omega arith in
    Memᴰ.cast (ap pin (sym (ap (pin_at ch) e ∙ pin_at-position ch x h)))
    (place-member (elements ch l) i (pin-place ch l i (omega arith)))
present→element ch l esc (copper p) h =
    let r = member-place h in place-member (elements ch l) (width ch + width ch + r.0) (piece-place ch l r.0 r.1)

pub element→placed : (ch : Channel) (l : Layout) (x : Element) → Memᴰ x (elements ch l) → Placed l x
unfolding elements pin_row
element→placed ch l (pin x) h = tt
element→placed ch l (copper p) h =
    ⊎_elim (not_in top) (λ k. ⊎_elim (not_in bot) in_pieces (Memᴰ.append_cases (pin_row bot ch) k))
    (Memᴰ.append_cases (pin_row top ch) h)
  where
    not_in : (row : ℕ → Pin) → Memᴰ (copper p) (pin_row row ch) → Memᴰ p l.pieces
    not_in row m =
        let r = Memᴰ.of_map (λ (c : ℕ). pin (row c)) (up_to (width ch)) m in
        let e = r.2 in
        absurd (let z : ◌≡◌ {A = ℕ} 0 1 = cc in omega arith)

    in_pieces : Memᴰ (copper p) (map copper l.pieces) → Memᴰ p l.pieces
    in_pieces m =
        let r = Memᴰ.of_map copper l.pieces m in let e = r.2 in let q : p ≡ r.0 = cc in Memᴰ.cast q r.1

module _ (ch : Channel) (l : Layout) where
  -- joined both ways: an equivalence of all places
  abbrev Same : Element → Element → Type 0
  Same x y = Joined ch l x y × Joined ch l y x

  same-equivalence : AllOnGrid ch l → Equivalence (elements_touch ch l.tracks) (Placed l) Same
  same-equivalence g =
      record {
        touch-sym = test-sym ch l.tracks;
        itself = λ x. (itself, itself);
        turned = λ x y s. (s.1, s.0);
        chained = λ x y z s r. (joined-trans s.0 r.0, joined-trans r.1 s.1);
        touching =
            λ x y px py h. let r = test→touching ch l g x y px py h in
            (link r.2 r.1 itself, link (touching-sym l.tracks x y r.2) r.0 itself);
      }

  abbrev entries : List (Marked Element)
  entries = classes (elements_touch ch l.tracks) (elements ch l)

  -- the element at place i, from 1, with its mark
  record MarkedAt (i : ℕ) (x : Element) : Type 0 where
    entry : Marked Element
    listed : Memᴰ entry entries
    same-element : entry.element ≡ x
    same-mark : entry.mark ≡ at (marks ch l) i

  place→marked : (i : ℕ) {x : Element} → get_elem? (elements ch l) i ≡ some x → MarkedAt (suc i) x
  unfolding marks marks_of
  place→marked i {x} e =
      let r = place-of-map (λ (m : Marked Element). m.element) entries i
      (ap (λ (xs : List Element). get_elem? xs i) (classes-elements (elements_touch ch l.tracks) (elements ch l))
      ∙ e) in
      record {
        entry = r.0;
        listed = place-member entries i r.1;
        same-element = r.2;
        same-mark = sym (at_place (marks ch l) i (place_map (λ (m : Marked Element). m.mark) entries i r.1));
      }

  module _ (esc : Escapes ch) (g : AllOnGrid ch l) where
    classed : (m : ℕ) × Classed (elements_touch ch l.tracks) (Placed l) Same m entries
    classed =
        classes-classed (elements_touch ch l.tracks) (Placed l) Same (same-equivalence g) (elements ch l)
        (element→placed ch l)

    -- equal marks are of elements that are joined
    mark→joined : (i j : ℕ) {x y : Element} → MarkedAt i x → MarkedAt j y → at (marks ch l) i ≡ at (marks ch l) j
        → Joined ch l x y
    mark→joined i j {x} {y} a b e =
        let s = classed.1.sound a.entry b.entry a.listed b.listed
        (a.same-mark ∙ e ∙ sym b.same-mark) in
        subst (λ (z : Element). Joined ch l z y) a.same-element
        (subst (λ (z : Element). Joined ch l a.entry.element z) b.same-element s.0)

    touch→mark : {x y : Element} (a b : Marked Element) → Memᴰ a entries → Memᴰ b entries → a.element ≡ x
        → b.element ≡ y
        → Present ch l x → Present ch l y → Touching l.tracks x y → a.mark ≡ b.mark
    touch→mark {x} {y} a b ma mb ea eb px py t =
        classed.1.complete a b ma mb
        (subst (λ (z : Element). T (elements_touch ch l.tracks z b.element)) (sym ea)
        (subst (λ (z : Element). T (elements_touch ch l.tracks x z)) (sym eb) (touching→test ch l x y px py t)))

    -- along a chain the mark stays, from the entry at its start to any entry of its end
    chain→mark : {x z : Element} → Joined ch l x z → Present ch l x → (a b : Marked Element) → Memᴰ a entries
        → Memᴰ b entries → a.element ≡ x → b.element ≡ z
        → (x ≡ z) ⊎ (a.mark ≡ b.mark)
    chain→mark itself px a b ma mb ea eb = inl refl
    chain→mark (link {x = x} {y = y} {z = z} t py r) px a b ma mb ea eb =
        let q = Memᴰ.of_map (λ (m : Marked Element). m.element) entries
        (subst (λ (xs : List Element). Memᴰ y xs)
        (sym (classes-elements (elements_touch ch l.tracks) (elements ch l))) (present→element ch l esc y py)) in
        let step = touch→mark a q.0 ma q.1 ea q.2 px py t in
        ⊎_elim (λ (e : y ≡ z). inr (touch→mark a b ma mb ea (eb ∙ sym e) px py t))
        (λ (e : q.0.mark ≡ b.mark). inr (step ∙ e)) (chain→mark r py q.0 b q.1 mb q.2 eb)

    -- two elements that are joined are one, or have one mark
    joined→mark : (i j : ℕ) {x y : Element} → MarkedAt i x → MarkedAt j y → Present ch l x → Joined ch l x y
        → (x ≡ y) ⊎ (at (marks ch l) i ≡ at (marks ch l) j)
    joined→mark i j {x} {y} a b px c =
        ⊎_elim inl (λ e. inr (sym a.same-mark ∙ e ∙ b.same-mark))
        (chain→mark c px a.entry b.entry a.listed b.listed a.same-element b.same-element)

    pin-marked : (p : ℕ) → IsPin ch (pin_at ch p) → MarkedAt p (pin (pin_at ch p))
    pin-marked zero h = let r = pin-inside ch esc 0 h in absurd (omega arith)
    pin-marked (suc i) h = let r = pin-inside ch esc (suc i) h in place→marked i (pin-place ch l i (omega arith))

    piece-marked : (i : ℕ) {q : Piece} → get_elem? l.pieces i ≡ some q
        → MarkedAt (width ch + width ch + suc i) (copper q)
    piece-marked i {q} e =
        let next : suc (width ch + width ch + i) ≡ width ch + width ch + suc i = omega arith in
        subst (λ (k : ℕ). MarkedAt k (copper q)) next (place→marked (width ch + width ch + i) (piece-place ch l i e))

    -- by positions: pins p and q
    pub pins-joined : (p q : ℕ) → IsPin ch (pin_at ch p) → IsPin ch (pin_at ch q)
        → (at (marks ch l) p ≡ at (marks ch l) q) ↔ Joined ch l (pin (pin_at ch p)) (pin (pin_at ch q))
    unfolding Present
    pins-joined p q hp hq = (
      mark→joined p q (pin-marked p hp) (pin-marked q hq),
      λ c.
          ⊎_elim same (λ e. e) (joined→mark p q (pin-marked p hp) (pin-marked q hq) hp c),
    )
      where
        same : pin (pin_at ch p) ≡ pin (pin_at ch q) → at (marks ch l) p ≡ at (marks ch l) q
        same e =
            let x : pin_at ch p ≡ pin_at ch q = cc in
            ap (at (marks ch l)) (sym (position-pin_at ch p) ∙ ap (position_of ch) x ∙ position-pin_at ch q)

    -- by places: the piece in place i, from 0, and pin p
    pub piece-joined : (i p : ℕ) {q : Piece} → get_elem? l.pieces i ≡ some q → IsPin ch (pin_at ch p)
        → (at (marks ch l) (width ch + width ch + suc i) ≡ at (marks ch l) p)
        ↔ Joined ch l (copper q) (pin (pin_at ch p))
    unfolding Present
    piece-joined i p {q} e hp =
        let j = width ch + width ch + suc i in (
          mark→joined j p (piece-marked i e) (pin-marked p hp),
          λ c. ⊎_elim apart (λ e. e) (joined→mark j p (piece-marked i e) (pin-marked p hp)
              (place-member l.pieces i e) c),
        )
      where
        apart : copper q ≡ pin (pin_at ch p) → at (marks ch l) (width ch + width ch + suc i) ≡ at (marks ch l) p
        apart e = absurd (let z : ◌≡◌ {A = ℕ} 0 1 = cc in omega arith)
