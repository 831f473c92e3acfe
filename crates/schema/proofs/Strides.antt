-- Numbers at a stride.
use Rattle.std.proofs.Common.{◌≡◌, ℕ, ◌+◌, ◌-◌, ◌*◌, ◌/◌, ◌<◌, ◌≤◌, Some, None, nat_lt, refl, ⊎_elim, arith}
use Rattle.std.proofs.lemmas.Bool.{cases_lt, lt-ltb, le-ltb}
use Rattle.std.specs.Bool.{then_some}
use Rattle.std.proofs.Math.Nat.{lt-mul-div-succ, div-lt_iff_lt-mul, mul-le-mul_left, lt_of_mul-lt-mul_left}
use Rattle.search.specs.Leads.{NextLink}
use Rattle.schema.specs.Masks.{Member, Strided}

module _ (s o : ℕ) (l : o < s) where
  -- the first block that lies from `at` on
  abbrev pub first : ℕ → ℕ
  first at = (at + (s - 1 - o)) / s

  above : (at b : ℕ) → first at ≤ b → at ≤ s * b + o
  above at b h =
      let m : at + (s - 1 - o) < s * (first at + 1) = lt-mul-div-succ (at + (s - 1 - o)) (omega arith) in
      let n : s * (first at + 1) ≤ s * (b + 1) = mul-le-mul_left s (omega arith) in
      let d : s * (b + 1) ≡ s * b + s = grind arith in
      omega arith

  below : (at b : ℕ) → at ≤ s * b + o → first at ≤ b
  below at b h =
      let d : (b + 1) * s ≡ s * b + s = grind arith in
      let m : first at < b + 1 = (div-lt_iff_lt-mul {k = s} {x = at + (s - 1 - o)} {y = b + 1} (omega arith)).1 (omega arith) in
      omega arith

  less : (b c : ℕ) → s * b + o < s * c + o → b < c
  less b c h = lt_of_mul-lt-mul_left s (omega arith)

  less_end : (b c j : ℕ) → s * b + o < j → j ≤ s * c → b < c
  less_end b c j h k = lt_of_mul-lt-mul_left s (omega arith)

  module _ (set at end : ℕ) (low : end ≤ s * 64) where
    -- there is none where there is no block
    pub strided_none : NextLink 64 (Member set) (first at) None → NextLink end (Strided set s o) at None
    strided_none h j a b t = h t.block (below at t.block (omega (arith, t.is))) (less_end t.block 64 end (omega (arith, t.is)) low) t.member

    -- the lowest block gives the lowest number, if that lies below the end
    pub strided_some : (b : ℕ) → NextLink 64 (Member set) (first at) (Some b) → NextLink end (Strided set s o) at (then_some (nat_lt (s * b + o) end) (s * b + o))
    strided_some b h =
        ⊎_elim
        (λ (l : s * b + o < end).
        rw (lt-ltb (s * b + o) end l)
        (above at b h.0, l, record { block = b; member = h.2; is = refl }, λ j a i t. h.3 t.block (below at t.block (omega (arith, t.is))) (less t.block b (omega (arith, t.is))) t.member))
        (λ (l : end ≤ s * b + o).
        rw (le-ltb (s * b + o) end l) (λ j a i t. h.3 t.block (below at t.block (omega (arith, t.is))) (less t.block b (omega (arith, t.is))) t.member))
        (cases_lt (s * b + o) end)
