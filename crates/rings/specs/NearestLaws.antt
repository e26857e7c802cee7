-- The loop over the net numbers that finds where the ring begins: a number takes the place of the one found so far if
-- fewer steps lead back to it, or none led back before.
use Rattle.std.specs.Prelude.{ℕ, suc, ◌+◌, ◌-◌, ◌≤◌, ◌<◌, ◌≡◌, List, ◌⊎◌, Bool, true, false, ◌&&◌, ◌||◌, not, T, ltb, eqb, Option, Some, None}
use Rattle.std.proofs.Math.Decide.{dec_lt}
use Rattle.std.proofs.Common.{arith, refl, subst, inl, inr, ⊎_elim, ltb→lt, lt→ltb, eqb→eq}
use Rattle.lists.specs.Tests.{true→T, T→true, fails→false, eq→T, false→fails, and_left, and_right, and_both, or_cases, or_left, or_right}
use Rattle.lists.specs.Tests.{not-passes, not-fails, equal?}
use Rattle.rings.specs.Fewest.{leads}
use Rattle.rings.specs.declared.fewest.Start.{Start}
use Rattle.rings.specs.Search.{FewestSteps, Nearest, NearestOf}

-- before the first number nothing is found
pub nearest-none : {below : ℕ → List ℕ} → Nearest below 0 0 0
nearest-none =
    record {
      inside = λ h. absurd (omega arith);
      lead = λ h. absurd (omega arith);
      fewest = λ k n h l t. absurd (omega arith);
      lowest = λ n h l t. absurd (omega arith);
    }

-- the code's test of the steps back from a number, with those of the number found so far
abbrev pub is_fewer : ℕ → ℕ → Bool
is_fewer back nets = not (eqb back 0) && (eqb nets 0 || ltb back nets)

fewer→ : (back nets : ℕ) → T (is_fewer back nets) → (0 < back) × ((nets ≡ 0) ⊎ (back < nets))
fewer→ back nets t =
    let some : back ≡ 0 → ⊥ =
    λ e. not-fails (eqb back 0) (and_left (not (eqb back 0)) (eqb nets 0 || ltb back nets) t) (eq→T back 0 e) in (
      omega (arith, some),
      ⊎_elim (λ e. inl (eqb→eq nets 0 e)) (λ l. inr (ltb→lt back nets l))
          (or_cases (eqb nets 0) (ltb back nets) (and_right (not (eqb back 0)) _ t)),
    )

→fewer : (back nets : ℕ) → 0 < back → (nets ≡ 0) ⊎ (back < nets) → T (is_fewer back nets)
→fewer back nets h c =
    and_both (not (eqb back 0)) (eqb nets 0 || ltb back nets)
    (not-passes (eqb back 0) (λ e. let z = eqb→eq back 0 e in omega arith))
    (⊎_elim (λ e. or_left (eqb nets 0) (ltb back nets) (eq→T nets 0 e))
    (λ l. or_right (eqb nets 0) (ltb back nets) (lt→ltb back nets l)) c)

module _ {below : ℕ → List ℕ} {n net nets back : ℕ} (found : Nearest below n net nets)
    (f : FewestSteps below (n + 1) (n + 1) back) where
  -- the next number has fewer steps back: it is taken
  pub nearest-taken : is_fewer back nets ≡ true → Nearest below (n + 1) (n + 1) back
  nearest-taken t =
      record {
        inside = λ h. (omega arith, omega arith);
        lead = f.lead;
        fewest = λ k x h l u.
            ⊎_elim (λ e. f.fewest k (subst (λ (y : ℕ). T (leads below (suc k) y y)) e u))
            (λ apart. let old = found.fewest k x h (omega (arith, apart)) u in
            let few = fewer old.0 in (c.0, omega arith)) (equal? x (n + 1));
        lowest = λ x h l u.
            let some = c.0 in
            let one : back ≡ suc (back - 1) = omega arith in
            let old = found.fewest (back - 1) x h (omega arith) (subst (λ (i : ℕ). T (leads below i x x)) one u) in
            let few = fewer old.0 in
            absurd (omega arith);
      }
    where
      c : (0 < back) × ((nets ≡ 0) ⊎ (back < nets))
      c = fewer→ back nets (true→T (is_fewer back nets) t)

      fewer : 0 < nets → back < nets
      fewer h = ⊎_elim (λ e. absurd (omega arith)) (λ l. l) c.1

  -- it has not: it is left
  pub nearest-left : is_fewer back nets ≡ false → Nearest below (n + 1) net nets
  nearest-left t =
      record {
        inside = λ h. let old = found.inside h in (old.0, omega arith);
        lead = found.lead;
        fewest = λ k x h l u.
            ⊎_elim (λ e. let new = f.fewest k (subst (λ (y : ℕ). T (leads below (suc k) y y)) e u) in
            let few = no-fewer new.0 in (few.0, omega arith))
            (λ apart. found.fewest k x h (omega (arith, apart)) u) (equal? x (n + 1));
        lowest = found.lowest;
      }
    where
      fails : 0 < back → (nets ≡ 0) ⊎ (back < nets) → ⊥
      fails h c = false→fails (is_fewer back nets) t (→fewer back nets h c)

      no-fewer : 0 < back → (0 < nets) × (nets ≤ back)
      no-fewer h = (
        ⊎_elim (λ e. absurd (fails h (inl e))) (λ apart. omega (arith, apart)) (equal? nets 0),
        elim (dec_lt back nets) [ yes l ↦ absurd (fails h (inr l)) | no l ↦ omega arith ],
      )

-- the same of the answer, which is none where nothing is found yet
module _ {below : ℕ → List ℕ} (n : ℕ) {back : ℕ} (f : FewestSteps below (n + 1) (n + 1) back) where
  pub none-back : (o : Option Start) → NearestOf below n o → back ≡ 0 → NearestOf below (n + 1) o
  none-back None found z = nearest-left found f (fails→false _ (λ t. let h = (fewer→ back 0 t).0 in omega arith))
  none-back (Some s) found z =
      (found.0, nearest-left found.1 f (fails→false _ (λ t. let h = (fewer→ back s.nets t).0 in omega arith)))

  pub more-back : (s : Start) → NearestOf below n (Some s) → s.nets ≤ back → NearestOf below (n + 1) (Some s)
  more-back s found l = (
    found.0,
    nearest-left found.1 f (fails→false _ (λ t.
        ⊎_elim (λ z. let k = found.0 in omega arith) (λ k. omega arith) (fewer→ back s.nets t).1)),
  )

  module _ (some : 0 < back) where
    pub first-back : NearestOf below n None → NearestOf below (n + 1) (Some (record { net = n + 1; nets = back }))
    first-back found =
        (omega (arith, some), nearest-taken found f (T→true _ (→fewer back 0 (omega (arith, some)) (inl refl))))

    pub fewer-back : (s : Start) → NearestOf below n (Some s) → back < s.nets
        → NearestOf below (n + 1) (Some (record { net = n + 1; nets = back }))
    fewer-back s found l =
        (omega (arith, some), nearest-taken found.1 f (T→true _ (→fewer back s.nets (omega (arith, some)) (inr l))))
