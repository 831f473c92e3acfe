-- The lowest of which a fact holds.
use Rattle.std.proofs.Common.{◌≡◌, ℕ, ◌<◌, ◌≤◌, min, ◌⊎◌, Some, None, Option, sym, subst, ⊎_elim, arith}
use Rattle.std.proofs.lemmas.Bool.{cases_lt}
use Rattle.search.specs.Leads.{NextLink}
use Rattle.schema.specs.Masks.{Lower}

module _ (n at : ℕ) where
  -- a fact that says the same below n has the same lowest
  pub next_same : (A B : ℕ → Type 0) (r : Option ℕ) → ((k : ℕ) → k < n → A k → B k) → ((k : ℕ) → k < n → B k → A k) → NextLink n A at r → NextLink n B at r
  next_same A B None to from a = λ k h j b. a k h j (from k j b)
  next_same A B (Some x) to from a = (a.0, a.1, to x a.1 a.2, λ k h j b. a.3 k h j (from k (omega (arith, a.1)) b))

  -- the lowest of either is the lower of the two
  pub next_either : (A B C : ℕ → Type 0) (r s m : Option ℕ) → NextLink n A at r → NextLink n B at s → Lower r s m
      → ((k : ℕ) → A k → C k) → ((k : ℕ) → B k → C k) → ((k : ℕ) → C k → A k ⊎ B k) → NextLink n C at m
  next_either A B C None None m a b e l k split =
      subst (NextLink n C at) (sym e) (λ i h j c. ⊎_elim (a i h j) (b i h j) (split i c))
  next_either A B C None (Some y) m a b e l k split =
      subst (NextLink n C at) (sym e)
      (b.0, b.1, k y b.2, λ i h j c. ⊎_elim (λ x. a i h (omega (arith, b.1)) x) (λ x. b.3 i h j x) (split i c))
  next_either A B C (Some x) None m a b e l k split =
      subst (NextLink n C at) (sym e)
      (a.0, a.1, l x a.2, λ i h j c. ⊎_elim (λ y. a.3 i h j y) (λ y. b i h (omega (arith, a.1)) y) (split i c))
  next_either A B C (Some x) (Some y) m a b e l k split =
      subst (NextLink n C at) (sym e) (
        omega (arith, a.0, b.0),
        omega (arith, a.1),
        ⊎_elim (λ (u : x < y). let q : x ≡ min x y = omega arith in subst C q (l x a.2)) (λ (u : y ≤ x). let q : y ≡ min x y = omega arith in subst C q (k y b.2)) (cases_lt x y),
        λ i h j c. ⊎_elim (λ z. a.3 i h (omega arith) z) (λ z. b.3 i h (omega arith) z) (split i c),
      )
