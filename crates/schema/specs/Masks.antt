-- Sets of numbers below 64 as the bits of a word. For inner contracts: no call's promise rests on it.
use Rattle.std.specs.Prelude.{◌≡◌, ℕ, ◌+◌, ◌*◌, ◌<◌, Bool, true, false, min, ◌⊎◌, Some, None, Option}
use Rattle.std.specs.Int.{bit_at}

-- the bit at place k of m is set
unfoldable pub Member : ℕ → ℕ → Type 0
Member m k = bit_at m k ≡ 1

-- the same members, and k
pub record Joins (m k r : ℕ) : Type 0 where
  pub new : Member r k
  pub kept : (j : ℕ) → Member m j → Member r j
  pub only : (j : ℕ) → Member r j → Member m j ⊎ (j ≡ k)

-- two sets have a member in common
pub record Meet (one two : ℕ) : Type 0 where
  pub who : ℕ
  pub small : who < 64
  pub first : Member one who
  pub second : Member two who

-- the members of both sets
pub record Unites (one two r : ℕ) : Type 0 where
  pub left : (k : ℕ) → Member one k → Member r k
  pub right : (k : ℕ) → Member two k → Member r k
  pub only : (k : ℕ) → Member r k → Member one k ⊎ Member two k

-- j is the stride times a member, and the offset
pub record Strided (set stride offset j : ℕ) : Type 0 where
  pub block : ℕ
  pub member : Member set block
  pub is : j ≡ stride * block + offset

-- the lower of two numbers that may be missing
abbrev pub Lower : Option ℕ → Option ℕ → Option ℕ → Type 0
Lower None two r = r ≡ two
Lower (Some x) None r = r ≡ Some x
Lower (Some x) (Some y) r = r ≡ Some (min x y)

-- the members are numbers below n of which a test says yes, and of the other numbers below n it says no
pub record Chosen (Says : ℕ → Bool → Type 0) (n m : ℕ) : Type 0 where
  pub small : (k : ℕ) → Member m k → k < n
  pub yes : (k : ℕ) → Member m k → Says k true
  pub no : (k : ℕ) → k < n → Member m k ⊎ Says k false

-- the members are the numbers below n of which a fact holds
pub record Gathers (Fact : ℕ → Type 0) (n m : ℕ) : Type 0 where
  pub small : (k : ℕ) → Member m k → k < n
  pub only : (k : ℕ) → Member m k → Fact k
  pub all : (k : ℕ) → k < n → Fact k → Member m k
