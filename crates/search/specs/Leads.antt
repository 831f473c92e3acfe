-- Following links from point to point.
use Rattle.std.specs.Prelude.{◌≡◌, ℕ, ◌<◌, ◌≤◌, ◌⊎◌, List, Some, None, Option, slice_index}

-- a point leads to another when zero or more links do
pub data Leads {A : Type 0} (Link : A → A → Type 0) : A → A → Type 0 where
  stay : {x : A} → Leads Link x x
  go : {x y z : A} → Link x y → Leads Link y z → Leads Link x z

-- a link between two of the n points
abbrev pub Joined : ℕ → (ℕ → ℕ → Type 0) → ℕ → ℕ → Type 0
Joined n link i j = (i < n) × (j < n) × link i j

-- the lowest of the n points, not below `at`, that is linked to
abbrev pub NextLink : ℕ → (ℕ → Type 0) → ℕ → Option ℕ → Type 0
NextLink n to at None = (j : ℕ) → at ≤ j → j < n → to j → ⊥
NextLink n to at (Some j) = (at ≤ j) × (j < n) × to j × ((i : ℕ) → at ≤ i → i < j → to i → ⊥)

-- byte k is 1 where the start leads to point k, and 0 where it does not; a start beyond the last point leads to none
abbrev pub Marked : ℕ → (ℕ → ℕ → Type 0) → ℕ → List ℕ → Type 0
Marked n link start table =
    (k : ℕ) → k < n → ((slice_index table k ≡ 1) × Leads (Joined n link) start k) ⊎ ((slice_index table k ≡ 0) × (Leads (Joined n link) start k → ⊥))
