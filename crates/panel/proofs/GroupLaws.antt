-- Three lists on one panel. The highest number of two joined lists is the sum of their highest, and raising twice is
-- raising by the sum: so either grouping gives the same rows, and asks the same of widths and numbers.
use Prim.Native.Nat.{ℕ, max, ◌+◌}
use native.Mathlib.Omega.{arith}
use Rattle.std.specs.Prelude.{◌≡◌}
use Rattle.std.proofs.Common.{sym, ◌∙◌}
use Rattle.std.proofs.Math.Path.{ap, ap₂}
use mathlib.Core.List.{List, [], ◌∷◌, ◌++◌, map, map-map, map-append, append_assoc}
use Rattle.lists.specs.Lists.{greatest}
use Rattle.lists.specs.Parts.{greatest-append}
use Rattle.lists.specs.Updates.{map_same}
use Rattle.channel.specs.Channel.{Channel, rows}
use Rattle.panel.specs.Joined.{highest, raised, joined, Fits}
use Rattle.panel.specs.Promise.{PanelPromise, GroupPromise}
use Rattle.panel.specs.RaiseLaws.{RaisedTo, none, some, raised-to, raised-zero, raised-twice}
use Rattle.panel.proofs.JoinLaws.{highest-rows, width-both}
use Rattle.panel.proofs.PanelLaws.{both-escapes}

raised-max : (by m n : ℕ) → max (raised by m) (raised by n) ≡ raised by (max m n)
raised-max by m n =
    go (raised by m) (raised by n) (raised by (max m n)) (raised-to by m) (raised-to by n) (raised-to by (max m n))
  where
    go : (a b c : ℕ) → RaisedTo by m a → RaisedTo by n b → RaisedTo by (max m n) c → max a b ≡ c
    go a b c (none e) (none f) (none g) = omega arith
    go a b c (none e) (none f) (some g) = absurd (omega arith)
    go a b c (none e) (some f) (none g) = absurd (omega arith)
    go a b c (none e) (some f) (some g) = omega arith
    go a b c (some e) (none f) (none g) = absurd (omega arith)
    go a b c (some e) (none f) (some g) = omega arith
    go a b c (some e) (some f) (none g) = absurd (omega arith)
    go a b c (some e) (some f) (some g) = omega arith

greatest-raised : (by : ℕ) (row : List ℕ) → greatest (map (raised by) row) ≡ raised by (greatest row)
unfolding greatest
greatest-raised by [] = sym (raised-zero by)
greatest-raised by (n ∷ row) =
    ap (max (raised by n)) (greatest-raised by row) ∙ raised-max by n (greatest row)

module _ (ch dh : Channel) where
  -- of two lists that are joined
  pub highest-both : highest (joined ch dh) ≡ highest ch + highest dh
  unfolding joined
  highest-both =
      let all = highest-rows (joined ch dh) in
      let tops = greatest-append ch.top (map (raised (highest ch)) dh.top) in
      let bots = greatest-append ch.bot (map (raised (highest ch)) dh.bot) in
      let first = highest-rows ch in
      let second = highest-rows dh in
      let top = greatest-raised (highest ch) dh.top in
      let bot = greatest-raised (highest ch) dh.bot in
      let m = raised-max (highest ch) (greatest dh.top) (greatest dh.bot) in
      sum (highest dh) (raised (highest ch) (highest dh)) (raised-to (highest ch) (highest dh))
      (let e = ap (raised (highest ch)) second in omega arith)
    where
      sum : (k r : ℕ) → RaisedTo (highest ch) k r → highest (joined ch dh) ≡ max (highest ch) r
          → highest (joined ch dh) ≡ highest ch + k
      sum k r (none e) h = omega arith
      sum k r (some p) h = omega arith

-- one row
grouped : (a b : ℕ) (xs ys zs : List ℕ)
    → (xs ++ map (raised a) ys) ++ map (raised (a + b)) zs ≡ xs ++ map (raised a) (ys ++ map (raised b) zs)
grouped a b xs ys zs =
    append_assoc xs (map (raised a) ys) (map (raised (a + b)) zs)
    ∙ ap (λ (l : List ℕ). xs ++ l) (ap (λ (l : List ℕ). map (raised a) ys ++ l)
    (map_same (raised (a + b)) (λ n. raised a (raised b n)) zs (λ n m. sym (raised-twice a b n))
    ∙ sym (map-map (raised a) (raised b) zs)) ∙ sym (map-append (raised a) ys (map (raised b) zs)))

module _ (ch dh eh : Channel) where
  pub same_rows : joined (joined ch dh) eh ≡ joined ch (joined dh eh)
  unfolding joined
  same_rows =
      ap (λ (h : ℕ). rows ((ch.top ++ map (raised (highest ch)) dh.top) ++ map (raised h) eh.top)
      ((ch.bot ++ map (raised (highest ch)) dh.bot) ++ map (raised h) eh.bot)) (highest-both ch dh)
      ∙ ap₂ rows (grouped (highest ch) (highest dh) ch.top dh.top eh.top)
      (grouped (highest ch) (highest dh) ch.bot dh.bot eh.bot)

  fits-right : Fits ch dh × Fits (joined ch dh) eh → Fits dh eh × Fits ch (joined dh eh)
  fits-right (one, two) =
      let w = width-both ch dh in
      let h = highest-both ch dh in
      let c = two.columns in
      let n = two.numbers in
      let w' = width-both dh eh in
      let h' = highest-both dh eh in
      let inner : Fits dh eh =
      record { first = one.second; second = two.second; columns = omega arith; numbers = omega arith } in
      (inner, record { first = one.first; second = both-escapes inner; columns = omega arith; numbers = omega arith })

  fits-left : Fits dh eh × Fits ch (joined dh eh) → Fits ch dh × Fits (joined ch dh) eh
  fits-left (one, two) =
      let w = width-both dh eh in
      let h = highest-both dh eh in
      let c = two.columns in
      let n = two.numbers in
      let w' = width-both ch dh in
      let h' = highest-both ch dh in
      let inner : Fits ch dh =
      record { first = two.first; second = one.first; columns = omega arith; numbers = omega arith } in
      (inner, record { first = both-escapes inner; second = one.second; columns = omega arith; numbers = omega arith })

  pub group-promise : GroupPromise ch dh eh
  group-promise = record { same_rows = same_rows; fits-exactly = (fits-right, fits-left) }

-- the same of the rows that callers hold after two calls each: j₁ joined with the third, and the first with j₂
pub held-grouped : {ch dh eh j₁ j₂ left right : Channel} → PanelPromise ch dh j₁ → PanelPromise j₁ eh left
    → PanelPromise dh eh j₂ → PanelPromise ch j₂ right → left ≡ right
held-grouped {ch} {dh} {eh} p q r s =
    q.rows ∙ (ap (λ (x : Channel). joined x eh) p.rows ∙ (same_rows ch dh eh
    ∙ (ap (joined ch) (sym r.rows) ∙ sym s.rows)))
