-- What a Boolean test tells: its two cases, and those of a test that is put together of others.
use Rattle.std.specs.Prelude.{ℕ, ◌≤◌, ◌≡◌, refl, Bool, true, false, ◌&&◌, ◌||◌, not, ◌⊎◌, T, leb, eqb}
use Rattle.std.proofs.Math.Decide.{ℕ_discrete}
use Rattle.std.proofs.Common.{sym, subst, inl, inr, leb→le, le→leb}
use Rattle.std.proofs.Math.Dec.{eqb_refl}
use Rattle.lists.specs.Lists.{within}

-- a test that passes is true, and the other way round
pub T→true : (b : Bool) → T b → b ≡ true
T→true true h = refl
T→true false h = absurd h

pub true→T : (b : Bool) → b ≡ true → T b
true→T b e = subst T (sym e) tt

-- two tests that pass together are the same
pub same_test : (a b : Bool) → (T a → T b) → (T b → T a) → a ≡ b
same_test true true h k = refl
same_test true false h k = absurd (h tt)
same_test false true h k = absurd (k tt)
same_test false false h k = refl

pub eq→T : (a b : ℕ) → a ≡ b → T (eqb a b)
eq→T a b e = subst (λ (k : ℕ). T (eqb a k)) e (eqb_refl a)

pub fails→false : (b : Bool) → (T b → ⊥) → b ≡ false
fails→false true h = absurd (h tt)
fails→false false h = refl

pub false→fails : (b : Bool) → b ≡ false → T b → ⊥
false→fails b e h = subst T e h

pub cases : (b : Bool) → (b ≡ true) ⊎ (b ≡ false)
cases true = inl refl
cases false = inr refl

pub passes? : (b : Bool) → T b ⊎ (T b → ⊥)
passes? true = inl tt
passes? false = inr (λ h. h)

pub and_left : (a b : Bool) → T (a && b) → T a
and_left true b h = tt
and_left false b h = h

pub and_right : (a b : Bool) → T (a && b) → T b
and_right true b h = h
and_right false b h = absurd h

pub and_both : (a b : Bool) → T a → T b → T (a && b)
and_both true b h k = k
and_both false b h k = h

pub or_cases : (a b : Bool) → T (a || b) → T a ⊎ T b
or_cases true b h = inl tt
or_cases false b h = inr h

pub or_left : (a b : Bool) → T a → T (a || b)
or_left true b h = tt
or_left false b h = absurd h

pub or_right : (a b : Bool) → T b → T (a || b)
or_right true b h = tt
or_right false b h = h

pub not-passes : (b : Bool) → (T b → ⊥) → T (not b)
not-passes true h = h tt
not-passes false h = tt

pub not-fails : (b : Bool) → T (not b) → T b → ⊥
not-fails true h k = h
not-fails false h k = k

-- a test, counted
abbrev pub one-if : Bool → ℕ
one-if true = 1
one-if false = 0

pub equal? : (a b : ℕ) → (a ≡ b) ⊎ (a ≡ b → ⊥)
equal? a b = elim (ℕ_discrete a b) [ yes e ↦ inl e | no h ↦ inr h ]

-- a ≤ x ≤ b, as a test and as it means
pub within→ : (a x b : ℕ) → T (within a x b) → (a ≤ x) × (x ≤ b)
within→ a x b h = (leb→le a x (and_left (leb a x) (leb x b) h), leb→le x b (and_right (leb a x) (leb x b) h))

pub →within : (a x b : ℕ) → a ≤ x → x ≤ b → T (within a x b)
→within a x b h k = and_both (leb a x) (leb x b) (le→leb a x h) (le→leb x b k)
