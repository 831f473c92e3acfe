-- Worlds, and what is true in them.
--   Individual    a finite list of whole numbers
--   World         which individuals are in each class, and which ordered pairs belong to each arrow
--   In, Pair      an individual is in a class; an ordered pair belongs to an arrow
--   Meets         what an individual has an end by
--   Distinct      all of a list are different
--   AtLeast       an individual has an end at least n times
--   Fulfils       what a rule says is true in a world
--   Breaks        it is not
--   FulfilsAll    a world fulfils every row of a list
--   ClassFilled   a class has an individual
--   ClassEmpty    it has none
--   ArrowFilled   an arrow has a pair
--   ArrowEmpty    it has none
use Rattle.std.specs.Prelude.{◌≡◌, ℕ, ◌+◌, ◌*◌, Bool, T, ◌⊎◌, List, [], ◌∷◌, length}
use Rattle.schema.specs.declared.row.Row.{Row}
use Rattle.schema.specs.Rows.{◌∈◌}
use Rattle.schema.specs.Rules.{Rule, S, X, D, F, K, P, Q, Has}

-- an individual is a finite list of whole numbers
abbrev pub Individual : Type 0
Individual = List ℕ

-- of each class which individuals are in it, and of each arrow which ordered pairs belong to it
pub record World : Type 0 where
  pub within : ℕ → Individual → Bool
  pub paired : ℕ → Individual → Individual → Bool

-- i is in class a
abbrev pub In : World → ℕ → Individual → Type 0
In w a i = T (w.within a i)

-- (i, j) is a pair of arrow p
abbrev pub Pair : World → ℕ → Individual → Individual → Type 0
Pair w p i j = T (w.paired p i j)

-- i has end e by j: for the tail of p the pair is (i, j), and for its head (j, i)
abbrev pub Meets : World → ℕ → Individual → Individual → Type 0
Meets w e i j = (p : ℕ) × (((e ≡ 2 * p) × Pair w p i j) ⊎ ((e ≡ 2 * p + 1) × Pair w p j i))

-- no one of a list stands in it twice
abbrev pub Distinct : {A : Type 0} → List A → Type 0
Distinct [] = Unit {0}
Distinct (x ∷ xs) = (x ∈ xs → ⊥) × Distinct xs

-- i has end e at least n times: by n different individuals j
pub record AtLeast (w : World) (e n : ℕ) (i : Individual) : Type 0 where
  pub who : List Individual
  pub many : length who ≡ n
  pub different : Distinct who
  pub meeting : (j : Individual) → j ∈ who → Meets w e i j

-- what each letter says; at most n times is not n + 1 times
abbrev pub Fulfils : World → Rule → Type 0
Fulfils w (S a b) = (i : Individual) → In w a i → In w b i
Fulfils w (X a b) = (i : Individual) → In w a i → In w b i → ⊥
Fulfils w (D e b) = (i : Individual) → AtLeast w e 1 i → In w b i
Fulfils w (F a e n) = (i : Individual) → In w a i → AtLeast w e n i
Fulfils w (K a e n) = (i : Individual) → In w a i → AtLeast w e (n + 1) i → ⊥
Fulfils w (P p q) = (i j : Individual) → Pair w p i j → Pair w q i j
Fulfils w (Q p q) = (i j : Individual) → Pair w p i j → Pair w q i j → ⊥

-- a world that does not fulfil a rule breaks it
abbrev pub Breaks : World → Rule → Type 0
Breaks w ρ = Fulfils w ρ → ⊥

-- a world fulfils rows when it fulfils every rule that one of them writes
abbrev pub FulfilsAll : World → List Row → Type 0
FulfilsAll w rows = (ρ : Rule) → Has rows ρ → Fulfils w ρ

-- a class is filled when it has an individual
abbrev pub ClassFilled : World → ℕ → Type 0
ClassFilled w a = (i : Individual) × In w a i

-- and otherwise empty
abbrev pub ClassEmpty : World → ℕ → Type 0
ClassEmpty w a = ClassFilled w a → ⊥

-- an arrow is filled when it has a pair
abbrev pub ArrowFilled : World → ℕ → Type 0
ArrowFilled w p = (i j : Individual) × Pair w p i j

-- and otherwise empty
abbrev pub ArrowEmpty : World → ℕ → Type 0
ArrowEmpty w p = ArrowFilled w p → ⊥
