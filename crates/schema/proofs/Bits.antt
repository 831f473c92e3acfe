-- Members of a set as the bits of a word.
use Rattle.std.proofs.Common.{◌≡◌, ℕ, ◌+◌, ◌/◌, ◌%◌, ◌^◌, ap, arith}
use Rattle.std.proofs.lemmas.Nat.{shr-shr}
use Rattle.std.proofs.lemmas.Nat.Bits.{bit_at-zero}
use Rattle.std.specs.Int.{bit_at}
use Rattle.schema.specs.Masks.{Member}

-- 0 has no member
pub member_zero : (m k : ℕ) → m ≡ 0 → Member m k → ⊥
unfolding Member
member_zero m k z h = omega (arith, ap (λ (x : ℕ). bit_at x k) z, bit_at-zero k, h)

-- a shift moves the bits down
pub bit_at_shift : (m j k : ℕ) → bit_at (m / 2 ^ j) k ≡ bit_at m (j + k)
bit_at_shift m j k = ap (λ (x : ℕ). x % 2) (shr-shr m j k)
