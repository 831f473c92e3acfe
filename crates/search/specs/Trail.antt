-- How a trail grows while a search goes on: an inner contract, and no promise to a caller.
use Rattle.std.specs.Prelude.{◌≡◌, ℕ, ◌<◌, ◌≤◌, ◌⊎◌, length, slice_index}
use Rattle.search.specs.declared.trail.Trail.{Trail}

-- nothing found is lost, what is new is linked to, and no more links were followed
pub record Grows (to : ℕ → Type 0) (old new : Trail) : Type 0 where
  pub size : length new.marks.now ≡ length old.marks.now
  pub kept : (k : ℕ) → k < length old.marks.now → slice_index old.marks.now k ≡ 1 → slice_index new.marks.now k ≡ 1
  pub fresh : (k : ℕ) → k < length old.marks.now → slice_index new.marks.now k ≡ 1 → (slice_index old.marks.now k ≡ 1) ⊎ to k
  pub same : (i : ℕ) → i < length old.found.items → slice_index new.found.items i ≡ slice_index old.found.items i
  pub longer : length old.found.items ≤ length new.found.items
  pub followed : new.followed ≡ old.followed
