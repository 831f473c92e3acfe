use Rattle.std.proofs.Common.{◌≡◌, ℕ, ◌^◌, ◌<◌, ◌==◌, not, subst, ⊎_elim, rules, arith}
use lib.Bits.{bit_and}
use Rattle.std.proofs.lemmas.Bool.{cases_eq, eq-eqb, ne_eqb}
use Rattle.std.proofs.lemmas.Nat.{and_le_l}
use Rattle.std.proofs.lemmas.Nat.Bits.{bit_at_and, bit_at-trailing_zeros}
use Rattle.std.specs.Int.{w64, trailing_zeros}
use Rattle.schema.specs.Masks.{Member, Meet}
use Rattle.schema.specs.Verdicts.{Tells}
use Rattle.schema.proofs.Bits.{member_zero}
use Rattle.schema.proofs.set64.Set64.meets.Goals as goal

tells : (m n : ℕ) → m < 2 ^ 64 → Tells (not (bit_and m n == 0)) (Meet m n)
unfolding Member
tells m n l =
    let both = bit_and m n in
    ⊎_elim
    (λ (e : both ≡ 0).
    rw (eq-eqb both 0 e)
    (λ (t : Meet m n). member_zero both t.who e (omega (arith, bit_at_and m n t.who, t.first, t.second))))
    (λ (e : both ≡ 0 → ⊥).
    let k = trailing_zeros w64 both in
    let low = bit_at-trailing_zeros w64 both (omega arith) (omega (arith, and_le_l m n)) in
    rw (ne_eqb both 0 e)
    (record { who = k; small = low.0; first = omega (arith, low.1, bit_at_and m n k); second = omega (arith, low.1, bit_at_and m n k) }))
    (cases_eq both 0)

pub returns : goal.returns
returns c =
    let m = c.self.inside.bits in
    let n = c.other.inside.bits in
    subst (λ (x : ℕ). Tells (not (bit_and m n == 0)) (Meet x c.args.other)) c.self.view_is
    (subst (λ (x : ℕ). Tells (not (bit_and m n == 0)) (Meet m x)) c.other.view_is (tells m n (search rules)))
