-- What the marks of a search say.
use Rattle.std.specs.Prelude.{◌≡◌, ℕ, ◌<◌, ◌≤◌, List, length, ◌==◌, slice_index}
use Rattle.std.specs.List.{All, Contains, count_by}

-- each mark is 0 or 1, and the order lists each point that is marked by a 1 once, and nothing else
pub record Lists (marks order : List ℕ) : Type 0 where
  pub bits : All (λ m. m ≤ 1) marks
  pub listed : (k : ℕ) → k < length marks → slice_index marks k ≡ 1 → ∥ Contains order k ∥₁
  pub inside : (i : ℕ) → i < length order → (slice_index order i < length marks) × (slice_index marks (slice_index order i) ≡ 1)
  pub once : length order ≡ count_by (λ m. m == 1) marks
