use Rattle.std.proofs.Common.{◌≡◌, ℕ, ◌+◌, ◌-◌, ◌/◌, ◌^◌, ◌<◌, ◌≤◌, Some, nat_lt, sym, ap, ◌∙◌, subst, ⊎_elim, rules, arith}
use Rattle.std.specs.Bool.{then_some}
use lib.Count.{count_trailing_zeros, trailing_of_zero}
use Rattle.std.proofs.Math.Nat.{div-le_self}
use Rattle.std.proofs.lemmas.Bool.{cases_eq, cases_lt, lt-ltb, le-ltb}
use Rattle.std.proofs.lemmas.Nat.Bits.{bit_at-trailing_zeros}
use Rattle.std.specs.Int.{w64, bit_at}
use Rattle.search.specs.Leads.{NextLink}
use Rattle.schema.specs.Masks.{Member}
use Rattle.schema.proofs.Bits.{member_zero, bit_at_shift}
use Rattle.schema.proofs.set64.Set64.next_from.Goals as goal

module _ (m from : ℕ) (fits : m < 2 ^ 64) where
  -- what is left from `from` on, and its trailing zeros
  abbrev rest : ℕ
  rest = m / 2 ^ from

  abbrev zeros : ℕ
  zeros = count_trailing_zeros 64 rest

  lowest : (rest ≡ 0 → ⊥) → Member rest zeros × ((k : ℕ) → k < zeros → bit_at rest k ≡ 0)
  unfolding Member
  lowest h =
      let low = bit_at-trailing_zeros w64 rest (omega arith) (omega (arith, div-le_self m (2 ^ from))) in
      (low.1, low.2)

  before : (k : ℕ) → from ≤ k → k < from + zeros → Member m k → ⊥
  unfolding Member
  before k l h e =
      let i : from + (k - from) ≡ k = omega arith in
      let o : Member rest (k - from) = bit_at_shift m from (k - from) ∙ ap (bit_at m) i ∙ e in
      ⊎_elim
      (λ (z : rest ≡ 0). member_zero rest (k - from) z o)
      (λ (z : rest ≡ 0 → ⊥). omega (arith, o, (lowest z).1 (k - from) (omega arith)))
      (cases_eq rest 0)

  here : zeros < 64 → Member m (from + zeros)
  unfolding Member
  here h =
      ⊎_elim
      (λ (z : rest ≡ 0). absurd (omega (arith, h, ap (count_trailing_zeros 64) z, trailing_of_zero 64)))
      (λ (z : rest ≡ 0 → ⊥). sym (bit_at_shift m from zeros) ∙ (lowest z).0)
      (cases_eq rest 0)

  some : from + zeros < 64 → NextLink 64 (Member m) from (Some (from + zeros))
  some h = (omega arith, h, here (omega arith), before)

  -- the first set bit of what is left, if there is one
  first : NextLink 64 (Member m) from (then_some (nat_lt (from + zeros) 64) (from + zeros))
  first =
      ⊎_elim
      (λ (h : from + zeros < 64). rw (lt-ltb (from + zeros) 64 h) (some h))
      (λ (h : 64 ≤ from + zeros). rw (le-ltb (from + zeros) 64 h) (λ j l i e. before j l (omega arith) e))
      (cases_lt (from + zeros) 64)

pub returns : goal.returns
returns c =
    subst (λ (x : ℕ). NextLink 64 (Member x) c.args.from c.then_some.result) c.self.view_is
    (subst (NextLink 64 (Member c.self.inside.bits) c.args.from) (sym c.then_some.ensures) (first c.self.inside.bits c.args.from (search rules)))
