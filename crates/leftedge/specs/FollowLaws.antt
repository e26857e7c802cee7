-- What `may_follow` says of two parts of one net, of items of different nets, and of items that are nets of their own.
use Rattle.std.specs.Prelude.{ℕ, ◌≡◌, [], Bool, ◌&&◌, ◌||◌, ltb, leb, eqb}
use Rattle.std.proofs.Common.{arith, ap, ◌∙◌, ⊎_elim, ltb→lt, lt→ltb, leb→le, le→leb, eqb→eq, le-ltb, ne_eqb}
use Rattle.std.proofs.Math.Bool.{and-false, or-false}
use Rattle.lists.specs.Tests.{same_test, equal?, eq→T, and_left, and_both, or_cases, or_left, or_right}
use Rattle.leftedge.specs.Tables.{net_at, may_follow}

-- of different nets: "its first column exceeds the last column of the net placed before it on this track"
pub other-net : (end of start net : ℕ) → (of ≡ net → ⊥) → may_follow end of start net ≡ ltb end start
unfolding may_follow
other-net end of start net apart =
    rw (ne_eqb of net apart) (
    ap (λ (b : Bool). ltb end start || b) (and-false (eqb end start)) ∙ or-false (ltb end start))

-- SCOPE, Req 13: "within one net a piece's first column need only reach the last column of the piece placed before it"
pub one-net : (end of start net : ℕ) → of ≡ net → may_follow end of start net ≡ leb end start
unfolding may_follow
one-net end of start net same =
    same_test (ltb end start || meet) (leb end start)
    (λ t. ⊎_elim (λ k. let h = ltb→lt end start k in le→leb end start (omega arith))
    (λ k. let h = eqb→eq end start (and_left (eqb end start) (eqb of net) k) in le→leb end start (omega arith))
    (or_cases (ltb end start) meet t))
    (λ t. ⊎_elim
    (λ e. or_right (ltb end start) meet (and_both (eqb end start) (eqb of net) (eq→T end start e) (eq→T of net same)))
    (λ n. let h = leb→le end start t in or_left (ltb end start) meet (lt→ltb end start (omega arith)))
    (equal? end start))
  where
    meet : Bool
    meet = eqb end start && eqb of net

-- where no table names their nets
pub own-net : (m n end start : ℕ) → (m ≡ n → ⊥) → may_follow end (net_at [] m) start (net_at [] n) ≡ ltb end start
unfolding net_at
own-net m n end start apart =
    rw (le-ltb m 0 (omega arith), le-ltb n 0 (omega arith)) (other-net end m start n apart)
