-- The fields of a word come back: the four bytes of a number below 2^32, the header's fields, a piece's fields.
use Rattle.std.specs.Prelude.{ℕ, ◌+◌, ◌*◌, ◌/◌, ◌%◌, ◌≤◌, ◌<◌, ◌≡◌}
use Rattle.std.proofs.Common.{arith, mod-eq_of_lt}
use Rattle.std.proofs.Math.Nat.{div-div-eq-div-mul}
use Rattle.boardfile.specs.Encode.{header, fields}
use Rattle.boardfile.specs.Open.{header_of, fields_of}

pub bytes_back : (v : ℕ) → v < 4294967296
    → v / 16777216 % 256 * 16777216 + v / 65536 % 256 * 65536 + v / 256 % 256 * 256 + v % 256 ≡ v
bytes_back v h =
    let top : v / 16777216 < 256 = omega arith in
    let whole = mod-eq_of_lt top in
    omega (arith, div-div-eq-div-mul v 256 256, div-div-eq-div-mul v 65536 256)

-- the number v has these header's fields
pub record HasHeader (w t n v : ℕ) : Type 0 where
  pub small : v < 4294967296
  pub same : header_of v ≡ record { width = w; tracks = t; count = n; spare = 0 }

pub header-has : (w t n : ℕ) → w ≤ 512 → t ≤ 511 → n ≤ 4095 → HasHeader w t n (header w t n)
unfolding header header_of
header-has w t n h₁ h₂ h₃ =
    let v = header w t n in
    let e₁ : (header_of v).width ≡ w = omega arith in
    let e₂ : (header_of v).tracks ≡ t = omega arith in
    let e₃ : (header_of v).count ≡ n = omega arith in
    let e₄ : (header_of v).spare ≡ 0 = omega arith in
    record { small = omega arith; same = λ i. record { width = e₁ i; tracks = e₂ i; count = e₃ i; spare = e₄ i } }

-- the number v has these piece's fields
pub record HasFields (kind line a b v : ℕ) : Type 0 where
  pub small : v < 4294967296
  pub same : fields_of v ≡ record { kind = kind; line = line; from = a; to = b }

pub fields-have : (kind line a b : ℕ) → kind ≤ 2 → line < 1024 → a < 1024 → b < 1024
    → HasFields kind line a b (fields kind line a b)
unfolding fields fields_of
fields-have kind line a b h₁ h₂ h₃ h₄ =
    let v = fields kind line a b in
    let e₁ : (fields_of v).kind ≡ kind = omega arith in
    let e₂ : (fields_of v).line ≡ line = omega arith in
    let e₃ : (fields_of v).from ≡ a = omega arith in
    let e₄ : (fields_of v).to ≡ b = omega arith in
    record { small = omega arith; same = λ i. record { kind = e₁ i; line = e₂ i; from = e₃ i; to = e₄ i } }
