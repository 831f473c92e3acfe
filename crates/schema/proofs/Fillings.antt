-- Arrays that are filled one element after the other.
use Rattle.std.proofs.Common.{◌≡◌, ℕ, ◌+◌, ◌<◌, List, length, get_or, set, sym, subst, arith, below_more, get_or-set_other, get_or-set_same}

-- one element more
pub filled_more : {B : Type 0} (Says : ℕ → B → Type 0) (xs : List B) (n : ℕ) (x d : B) → n < length xs → ((k : ℕ) → k < n → Says k (get_or xs k d)) → Says n x
    → (k : ℕ) → k < n + 1 → Says k (get_or (set xs n x) k d)
filled_more Says xs n x d l before now =
    below_more _ _
    (λ j m. let ne : j ≡ n → ⊥ = λ q. omega arith in subst (Says j) (sym (get_or-set_other xs n j x d ne)) (before j m))
    (subst (Says n) (sym (get_or-set_same xs n x d l)) now)
