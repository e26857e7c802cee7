-- Copper in one column. A pin that is joined to something outside its column leaves the column by a trunk: its chain
-- stays in the column up to a first trunk, and every row between that trunk and the pin is covered by branches of the
-- column that are joined to the pin.
use Rattle.std.specs.Prelude.{ℕ, ◌≤◌, ◌≡◌, refl, ◌⊎◌}
use native.Mathlib.Omega.{arith}
use Rattle.std.proofs.Math.Decide.{dec_le}
use Rattle.std.proofs.Common.{sym}
use Rattle.std.proofs.Math.Path.{subst}
use mathlib.Core.List.{Memᴰ}
use Rattle.std.proofs.Math.Logic.{inl, inr, ⊎_elim}
use Rattle.lists.specs.Tests.{equal?}
use Rattle.grid.specs.declared.Piece.{Piece}
use Rattle.grid.specs.Pieces.{kind_of, trunk_kind, branch_kind, left, right, low, high, Layout}
use Rattle.grid.specs.Touching.{Covers}
use Rattle.grid.proofs.TouchLaws.{one-row, one-column, met-branch}
use Rattle.channel.specs.Channel.{Channel, width}
use Rattle.wiring.specs.Pins.{Pin, column_of, row_of}
use Rattle.wiring.specs.Layouts.{Element, pin, copper, Present, Touching, Joined, itself, link, AllOnGrid}
use Rattle.wiring.specs.Chains.{joined_snoc}

-- r lies between y and e, ends included
abbrev pub Between : ℕ → ℕ → ℕ → Type 0
Between y e r = ((y ≤ r) × (r ≤ e)) ⊎ ((e ≤ r) × (r ≤ y))

le-either : (a b : ℕ) → (a ≤ b) ⊎ (b ≤ a)
le-either a b = elim (dec_le a b) [ yes h ↦ inl h | no h ↦ inr (omega arith) ]

between_split : (y m e r : ℕ) → Between y e r → Between y m r ⊎ Between m e r
between_split y m e r (inl h) = ⊎_elim (λ k. inl (inl (h.0, k))) (λ k. inr (inl (k, h.1))) (le-either r m)
between_split y m e r (inr h) = ⊎_elim (λ k. inr (inr (h.0, k))) (λ k. inl (inr (k, h.1))) (le-either r m)

between_in : (y m a b r : ℕ) → a ≤ y → y ≤ b → a ≤ m → m ≤ b → Between y m r → (a ≤ r) × (r ≤ b)
between_in y m a b r h₁ h₂ h₃ h₄ (inl h) = omega arith
between_in y m a b r h₁ h₂ h₃ h₄ (inr h) = omega arith

-- the element lies in column c alone
unfoldable pub InColumn : ℕ → Element → Type 0
InColumn c (pin y) = column_of y ≡ c
InColumn c (copper p) = (kind_of p ≡ trunk_kind → ⊥) × (left p ≡ c)

-- the element covers row y of column c
unfoldable pub Holds : ℕ → ℕ → Element → ℕ → Type 0
Holds t c (pin z) y = y ≡ row_of t z
Holds t c (copper p) y = Covers p c y

module _ (ch : Channel) (l : Layout) (x : Pin) where
  -- a branch in the pin's column that covers row r and is joined to the pin
  pub record Wired (r : ℕ) : Type 0 where
    pub piece : Piece
    pub branch : kind_of piece ≡ branch_kind
    pub present : Memᴰ piece l.pieces
    pub covered : Covers piece (column_of x) r
    pub joined : Joined ch l (pin x) (copper piece)

  -- all rows from row y to the pin are wired
  abbrev pub WiredTo : ℕ → Type 0
  WiredTo y = (r : ℕ) → Between y (row_of l.tracks x) r → Wired r

  -- the trunk by which the pin leaves its column
  pub record Leaves : Type 0 where
    pub trunk : Piece
    pub is_trunk : kind_of trunk ≡ trunk_kind
    pub present : Memᴰ trunk l.pieces
    pub over : (left trunk ≤ column_of x) × (column_of x ≤ right trunk)
    pub joined : Joined ch l (pin x) (copper trunk)
    pub wired : WiredTo (low trunk)

module _ (ch : Channel) (l : Layout) (x : Pin) (grid : AllOnGrid ch l) where
  -- every row that the element covers in the pin's column is wired
  abbrev AllWired : Element → Type 0
  AllWired u = (y : ℕ) → Holds l.tracks (column_of x) u y → WiredTo ch l x y

  -- a branch of the column that covers a row from which all is wired
  branch-wired : (p : Piece) → kind_of p ≡ branch_kind → Memᴰ p l.pieces → (m : ℕ) → Covers p (column_of x) m
      → Joined ch l (pin x) (copper p) → WiredTo ch l x m → AllWired (copper p)
  unfolding Holds
  branch-wired p b q m c j w y h r bt =
      ⊎_elim (λ near. let k = between_in y m (low p) (high p) r h.from_low h.to_high c.from_low
      c.to_high near in
      record {
        piece = p;
        branch = b;
        present = q;
        covered =
            record { from_left = c.from_left; to_right = c.to_right; from_low = k.0; to_high = k.1 };
        joined = j;
      })
      (λ far. w r far)
      (between_split y m (row_of l.tracks x) r bt)

  abbrev Onward : Element → Type 0
  Onward v = (InColumn (column_of x) v × AllWired v) ⊎ Leaves ch l x

  -- a piece that touches what is wired, at row m of the column: a branch or a contact of the column, wired too, or a
  -- trunk by which the pin leaves
  onto : (q : Piece) → Memᴰ q l.pieces → (m : ℕ) → Covers q (column_of x) m → Joined ch l (pin x) (copper q)
      → WiredTo ch l x m → Onward (copper q)
  unfolding InColumn Holds
  onto q here m c j w =
      ⊎_elim trunk
      (λ nt. inl (
        (nt, (let e = one-column q nt in let f = c.from_left in let g = c.to_right in omega arith)),
        ⊎_elim (λ b. branch-wired q b here m c j w) (point nt) (equal? (kind_of q) branch_kind),
      ))
      (equal? (kind_of q) trunk_kind)
    where
      trunk : kind_of q ≡ trunk_kind → Onward (copper q)
      trunk k =
          let r = one-row (width ch) l.tracks q (grid q here) (λ e. absurd (omega arith)) in
          let f = c.from_low in
          let g = c.to_high in
          let on : m ≡ low q = let s = r.0 in omega arith in
          inr (record {
            trunk = q;
            is_trunk = k;
            present = here;
            over = (c.from_left, c.to_right);
            joined = j;
            wired = subst (λ (n : ℕ). WiredTo ch l x n) on w;
          })

      point : (kind_of q ≡ trunk_kind → ⊥) → (kind_of q ≡ branch_kind → ⊥) → AllWired (copper q)
      point nt nb y h =
          let r = one-row (width ch) l.tracks q (grid q here) nb in
          let on : m ≡ y = let s = r.0 in let f = c.from_low in let g = c.to_high in let f' = h.from_low in
          let g' = h.to_high in omega arith in
          subst (λ (n : ℕ). WiredTo ch l x n) on w

  -- one touch further: still in the pin's column and wired, or out by a trunk
  advance : (u v : Element) → Touching l.tracks u v → Present ch l v → InColumn (column_of x) u
      → Joined ch l (pin x) u → AllWired u → Onward v
  unfolding Touching Present InColumn Holds
  advance (pin y) (pin z) t p i j w = absurd t
  advance (pin y) (copper q) t p i j w =
      onto q p (row_of l.tracks y) (subst (λ (c : ℕ). Covers q c (row_of l.tracks y)) i t.covered)
      (joined_snoc j t p) (w (row_of l.tracks y) refl)
  advance (copper q) (pin z) t p i j w =
      let e = one-column q i.0 in
      let f = t.covered.from_left in
      let g = t.covered.to_right in
      let same : column_of z ≡ column_of x = let s = i.1 in omega arith in
      inl (
        same,
        λ y h. subst (λ (n : ℕ). WiredTo ch l x n) (sym h)
            (w (row_of l.tracks z) (subst (λ (c : ℕ). Covers q c (row_of l.tracks z)) same t.covered)),
      )
  advance (copper p₁) (copper q) t p i j w =
      let e = one-column p₁ i.0 in
      let f = t.covers₁.from_left in
      let g = t.covers₁.to_right in
      let same : t.column ≡ column_of x = let s = i.1 in omega arith in
      onto q p t.row (subst (λ (c : ℕ). Covers q c t.row) same t.covers₂) (joined_snoc j t p)
      (w t.row (subst (λ (c : ℕ). Covers p₁ c t.row) same t.covers₁))

  go : {u z : Element} → Joined ch l u z → InColumn (column_of x) u → (InColumn (column_of x) z → ⊥)
      → Joined ch l (pin x) u → AllWired u → Leaves ch l x
  go itself i o j w = absurd (o i)
  go (link {x = u} {y = v} t p r) i o j w =
      ⊎_elim (λ on. go r on.0 o (joined_snoc j t p) on.1) (λ out. out) (advance u v t p i j w)

  -- the first piece of a chain is a branch at the pin
  first-wired : (v : Element) → Touching l.tracks (pin x) v → Present ch l v → InColumn (column_of x) v × AllWired v
  unfolding Touching Present InColumn
  first-wired (pin y) t p = absurd t
  first-wired (copper q) t p =
      let end = row_of l.tracks x in
      let c = t.covered in
      let b = met-branch (kind_of q) t.meets in
      let nt : (kind_of q ≡ trunk_kind → ⊥) = λ k. absurd (omega arith) in
      let e = one-column q nt in
      let f = c.from_left in
      let g = c.to_right in
      let j : Joined ch l (pin x) (copper q) = link t p itself in
      let at-end : WiredTo ch l x end = λ r bt.
      let same : end ≡ r = ⊎_elim (λ h. omega arith) (λ h. omega arith) bt in
      let covered = subst (λ (n : ℕ). Covers q (column_of x) n) same c in
      record { piece = q; branch = b; present = p; covered = covered; joined = j } in
      ((nt, omega arith), branch-wired q b p end c j at-end)

  -- a pin that is joined to something outside its column leaves it by a trunk
  pub leaves : {e : Element} → Joined ch l (pin x) e → (InColumn (column_of x) e → ⊥) → Leaves ch l x
  unfolding InColumn
  leaves itself o = absurd (o refl)
  leaves (link {y = v} t p r) o = let w = first-wired v t p in go r w.0 o (link t p itself) w.1
