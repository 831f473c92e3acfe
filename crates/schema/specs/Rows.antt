-- Rows and their soundness.
--   shapes        the table of the seven letters: what a and b name, the range of n
--   limit         how many classes, arrows or ends there are
--   Sound         every field of a row is sound
--   Unsound       the lowest unsound field of a row: 1 letter, 2 a, 3 b, 4 n
--   ◌∈◌           one of a list
--   AllSound      every row of a list is sound
use Rattle.std.specs.List.{find, Contains}
use Rattle.std.specs.Prelude.{◌≡◌, ℕ, ◌*◌, ◌<◌, ◌≤◌, ◌⊎◌, List, [], ◌∷◌, Some, None, Option, ◌==◌}
use Rattle.schema.specs.declared.row.Row.{Row}
use Rattle.schema.specs.declared.letters.Kind.{Kind}
use Rattle.schema.specs.declared.letters.Kind.TheVariants.{Class, Arrow, End}
use Rattle.schema.specs.declared.letters.Shape.{Shape}

-- S, X, D, F, K, P and Q
abbrev pub shapes : List Shape
shapes =
    record { letter = 83; a = Class; b = Class; least = 0; most = 0 }
    ∷ record { letter = 88; a = Class; b = Class; least = 0; most = 0 }
    ∷ record { letter = 68; a = End; b = Class; least = 0; most = 0 }
    ∷ record { letter = 70; a = Class; b = End; least = 1; most = 30 }
    ∷ record { letter = 75; a = Class; b = End; least = 1; most = 30 }
    ∷ record { letter = 80; a = Arrow; b = Arrow; least = 0; most = 0 }
    ∷ record { letter = 81; a = Arrow; b = Arrow; least = 0; most = 0 }
    ∷ []

-- the line of a table that has the letter
abbrev pub shape_in : ℕ → List Shape → Option Shape
shape_in x = find (λ s. s.letter == x)

abbrev pub shape_of : ℕ → Option Shape
shape_of x = shape_in x shapes

-- there are c classes and p arrows, and each arrow has two ends
abbrev pub limit : ℕ → ℕ → Kind → ℕ
limit c p Class = c
limit c p Arrow = p
limit c p End = 2 * p

abbrev pub Fits : ℕ → ℕ → Row → Option Shape → Type 0
Fits c p r None = ⊥
Fits c p r (Some s) = (r.a < limit c p s.a) × (r.b < limit c p s.b) × (s.least ≤ r.n) × (r.n ≤ s.most)

abbrev pub Sound : ℕ → ℕ → Row → Type 0
Sound c p r = Fits c p r (shape_of r.letter)

-- a field is the lowest unsound one: it is unsound, and those before it are sound
pub data Unsound (c p : ℕ) (r : Row) : ℕ → Type 0 where
  letter_unsound : shape_of r.letter ≡ None → Unsound c p r 1
  a_unsound : (s : Shape) → shape_of r.letter ≡ Some s → limit c p s.a ≤ r.a → Unsound c p r 2
  b_unsound : (s : Shape) → shape_of r.letter ≡ Some s → r.a < limit c p s.a → limit c p s.b ≤ r.b → Unsound c p r 3
  n_unsound : (s : Shape) → shape_of r.letter ≡ Some s → r.a < limit c p s.a → r.b < limit c p s.b
      → (r.n < s.least) ⊎ (s.most < r.n) → Unsound c p r 4

infix 4 ◌∈◌
abbrev pub ◌∈◌ : {A : Type 0} → A → List A → Type 0
x ∈ xs = Contains xs x

abbrev pub AllSound : ℕ → ℕ → List Row → Type 0
AllSound c p rows = (r : Row) → r ∈ rows → Sound c p r
