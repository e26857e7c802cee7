-- A chain of refusals is silent exactly if each of its parts is, and what it says is what the first part that speaks
-- says.
use Rattle.std.specs.Prelude.{ℕ, ◌≡◌, refl, Bool, true, false, List, [], ◌∷◌, ◌⊎◌, T, Some, None, find, slice_get, Result, Ok, Err, IsErrAnd}
use Rattle.std.proofs.Common.{inl, inr, sym, ◌∙◌, ap}
use Rattle.std.proofs.Math.Option.{Option, none, some, none-ne-some, some-ne-none, some-injective}
use Rattle.std.proofs.Math.ListN.{get_elem?}
use Rattle.lists.specs.Lists.{keep, up_to, head_or}
use Rattle.lists.specs.Finds.{find-keep, not-found}
use Rattle.lists.specs.Tallies.{first_of, first-none, none_first}
use Rattle.refusal.specs.declared.Refusal.{Refusal}
use Rattle.refusal.specs.Refusals.{refuse_if, refuse_at_first, ◌or_else◌, answered, ok_unless}

-- silent
pub or_else_none : (a b : Option Refusal) → (a or_else b) ≡ none → (a ≡ none) × (b ≡ none)
unfolding ◌or_else◌
or_else_none none b h = (refl, h)
or_else_none (some r) b h = absurd (some-ne-none r h)

pub none-or-else : (a b : Option Refusal) → a ≡ none → b ≡ none → (a or_else b) ≡ none
unfolding ◌or_else◌
none-or-else none b h k = k
none-or-else (some r) b h k = h

pub refuse-if-none : (c : Bool) (r : Refusal) → refuse_if c r ≡ none → T c → ⊥
unfolding refuse_if
refuse-if-none true r h t = some-ne-none r h
refuse-if-none false r h t = t

pub none-refuse-if : (c : Bool) (r : Refusal) → (T c → ⊥) → refuse_if c r ≡ none
unfolding refuse_if
none-refuse-if true r h = absurd (h tt)
none-refuse-if false r h = refl

pub refuse-at-first-none : (r : ℕ → Refusal) (ps : List ℕ) → refuse_at_first r ps ≡ none → ps ≡ []
unfolding refuse_at_first
refuse-at-first-none r [] h = refl
refuse-at-first-none r (p ∷ ps) h = absurd (some-ne-none (r p) h)

pub none-refuse-at-first : (r : ℕ → Refusal) (ps : List ℕ) → ps ≡ [] → refuse_at_first r ps ≡ none
unfolding refuse_at_first
none-refuse-at-first r ps h = rw h

-- spoken
pub or_else_some : (a b : Option Refusal) (r : Refusal) → (a or_else b) ≡ some r
    → (a ≡ some r) ⊎ ((a ≡ none) × (b ≡ some r))
unfolding ◌or_else◌
or_else_some none b r h = inr (refl, h)
or_else_some (some q) b r h = inl h

pub some-or-else : (a b : Option Refusal) (r : Refusal) → a ≡ some r → (a or_else b) ≡ some r
unfolding ◌or_else◌
some-or-else none b r h = absurd (none-ne-some r h)
some-or-else (some q) b r h = h

pub none-or-else-later : (a b : Option Refusal) → a ≡ none → (a or_else b) ≡ b
unfolding ◌or_else◌
none-or-else-later a b h = rw h

pub refuse-if-some : (c : Bool) (r s : Refusal) → refuse_if c r ≡ some s → T c × (r ≡ s)
unfolding refuse_if
refuse-if-some true r s h = (tt, some-injective r s h)
refuse-if-some false r s h = absurd (none-ne-some s h)

pub some-refuse-if : (c : Bool) (r : Refusal) → T c → refuse_if c r ≡ some r
unfolding refuse_if
some-refuse-if true r t = refl
some-refuse-if false r t = absurd t

pub refuse-at-first-some : (r : ℕ → Refusal) (ps : List ℕ) (s : Refusal) → refuse_at_first r ps ≡ some s
    → (p : ℕ) × (get_elem? ps 0 ≡ some p) × (r p ≡ s)
unfolding refuse_at_first
refuse-at-first-some r [] s h = absurd (none-ne-some s h)
refuse-at-first-some r (p ∷ ps) s h = (p, refl, some-injective (r p) s h)

pub some-refuse-at-first : (r : ℕ → Refusal) (p : ℕ) (ps : List ℕ) → refuse_at_first r (p ∷ ps) ≡ some (r p)
unfolding refuse_at_first
some-refuse-at-first r p ps = refl

-- a refusal at the first of the places that pass: silent if the first is 0, and at the first otherwise
pub refuse-none : (r : ℕ → Refusal) (f : ℕ → Bool) (n : ℕ) → first_of f n ≡ 0 → refuse_at_first r (keep f (up_to n)) ≡ none
refuse-none r f n e = none-refuse-at-first r (keep f (up_to n)) (first-none f n (none_first f n e))

pub refuse-first : (r : ℕ → Refusal) (f : ℕ → Bool) (n : ℕ) → (first_of f n ≡ 0 → ⊥)
    → refuse_at_first r (keep f (up_to n)) ≡ some (r (first_of f n))
unfolding head_or refuse_at_first
refuse-first r f n = go (keep f (up_to n))
  where
    go : (ps : List ℕ) → (head_or 0 ps ≡ 0 → ⊥) → refuse_at_first r ps ≡ some (r (head_or 0 ps))
    go [] h = absurd (h refl)
    go (p ∷ ps) h = refl

-- the same of the first that passes as an `Option`
pub refuse-found : (r : ℕ → Refusal) (f : ℕ → Bool) (ps : List ℕ) {p : ℕ} → find f ps ≡ Some p
    → refuse_at_first r (keep f ps) ≡ some (r p)
unfolding refuse_at_first
refuse-found r f ps {p} e = go (keep f ps) (sym (find-keep f ps) ∙ e)
  where
    go : (qs : List ℕ) → slice_get qs 0 ≡ Some p → refuse_at_first r qs ≡ some (r p)
    go [] h = cc
    go (q ∷ qs) h = let same : q ≡ p = cc in ap (λ (k : ℕ). some (r k)) same

pub refuse-not-found : (r : ℕ → Refusal) (f : ℕ → Bool) (ps : List ℕ) → find f ps ≡ None
    → refuse_at_first r (keep f ps) ≡ none
refuse-not-found r f ps e = none-refuse-at-first r (keep f ps) (not-found f ps e)

-- the answer
pub answered-none : {A : Type 0} (refused : Refusal → A) (a : Option Refusal) (success : A) → a ≡ none
    → answered refused a success ≡ success
unfolding answered
answered-none refused a success h = rw h

pub answered-some : {A : Type 0} (refused : Refusal → A) (a : Option Refusal) (success : A) (r : Refusal) → a ≡ some r
    → answered refused a success ≡ refused r
unfolding answered
answered-some refused a success r h = rw h

-- and what the answer tells of its refusal
module _ {A : Type 0} (value : A) where
  pub ok→none : (q : Option Refusal) {v : A} → ok_unless q value ≡ Ok v → (q ≡ none) × (value ≡ v)
  unfolding answered
  ok→none none e = (refl, cc)
  ok→none (some r) e = cc

  pub err→some : (q : Option Refusal) {r : Refusal} → ok_unless q value ≡ Err r → q ≡ some r
  unfolding answered
  err→some none e = cc
  err→some (some s) e = cc

-- what `?` hands on is the error that it was given, or what that is turned into
pub handed-on : {A E : Type 0} (a : Result A E) {r : E} → IsErrAnd a (λ q. q ≡ r) → a ≡ Err r
handed-on (Ok v) h = absurd h
handed-on (Err q) h = ap Err h
