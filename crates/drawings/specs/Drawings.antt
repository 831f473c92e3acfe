-- The small drawings: schemas of four classes and two arrows, and what the verdict and the question must say of each.
--   Drawing       the rules that the rows write, the rule that is asked or none, and what must come
--   empty         the verdict marks these classes and these arrows, and no others
--   yes, no       the question is answered so
--   refused       a refusal with this number and these places
--   drawings      the table
--   comes_at      what must come of line k, and none past the end
--   Crowd         a class of a world has n different individuals
--   branching     the rules of one drawing
--   OnlyEndless   where a class is filled, it has n of them for every n
--   Holds         a sheet shows four classes, two arrows and some rows
--   Draws         a sheet shows the rows of a drawing
--   asked_row     the row of the rule that is asked
--   IsGiven       a line of the code's table is the same line of this one; for inner contracts
use Rattle.std.specs.Prelude.{◌≡◌, ℕ, true, false, cond, ◌==◌, List, [], ◌∷◌, ◌++◌, map, length, Option, Some, None}
use Rattle.std.specs.List.{slice_get, list_any}
use Rattle.schema.specs.declared.row.Row.{Row}
use Rattle.schema.specs.Refusals.{notice}
use Rattle.schema.specs.Rules.{Rule, S, X, D, F, K, P, Q, row}
use Rattle.schema.specs.Sheets.{Shown}
use Rattle.schema.specs.Rows.{◌∈◌}
use Rattle.schema.specs.Truth.{Follows}
use Rattle.schema.specs.Worlds.{World, Individual, In, Distinct, ClassFilled}
use Rattle.drawings.specs.declared.given.Given.{Given}
use Rattle.drawings.specs.declared.told.Told.{Told}
use Rattle.drawings.specs.declared.told.Told.TheVariants.{Table, Answer, Refusal}

pub record Drawing : Type 0 where
  pub rules : List Rule
  pub asked : Option Rule
  pub comes : Told

abbrev pub drawing : List Rule → Option Rule → Told → Drawing
drawing rules asked comes = record { rules = rules; asked = asked; comes = comes }

-- the byte of name k: 1 where the list has it
abbrev pub byte : List ℕ → ℕ → ℕ
byte names k = cond (list_any (λ j. j == k) names) 1 0

abbrev pub bytes : List ℕ → List ℕ → List ℕ
bytes classes arrows = map (byte classes) (0 ∷ 1 ∷ 2 ∷ 3 ∷ []) ++ map (byte arrows) (0 ∷ 1 ∷ [])

abbrev pub empty : List ℕ → List ℕ → Told
empty classes arrows = Table (bytes classes arrows)

abbrev pub yes : Told
yes = Answer true

abbrev pub no : Told
no = Answer false

abbrev pub refused : ℕ → ℕ → ℕ → Told
refused number first second = Refusal (notice number first second)

abbrev pub drawings : List Drawing
drawings =
    drawing [] None (empty [] [])
    ∷ drawing (X 0 0 ∷ []) None (empty (0 ∷ []) [])
    ∷ drawing (F 0 0 2 ∷ K 0 0 1 ∷ []) None (empty (0 ∷ []) [])
    ∷ drawing (F 0 0 2 ∷ K 0 0 2 ∷ []) None (empty [] [])
    ∷ drawing (D 1 1 ∷ D 1 2 ∷ X 1 2 ∷ F 0 0 1 ∷ []) None (empty (0 ∷ []) (0 ∷ []))
    ∷ drawing (P 0 1 ∷ Q 0 1 ∷ []) None (empty [] (0 ∷ []))
    ∷ drawing (P 0 1 ∷ K 0 2 1 ∷ []) None (refused 17 1 0)
    ∷ drawing (P 0 1 ∷ K 0 0 1 ∷ []) None (empty [] [])
    ∷ drawing (F 0 0 2 ∷ P 0 1 ∷ []) (Some (F 0 2 1)) yes
    ∷ drawing (F 0 0 2 ∷ P 0 1 ∷ []) (Some (F 0 0 3)) no
    ∷ drawing (F 0 0 2 ∷ P 0 1 ∷ []) (Some (F 0 2 2)) (refused 20 0 0)
    ∷ drawing (D 0 0 ∷ D 2 1 ∷ X 0 1 ∷ []) (Some (Q 0 1)) yes
    ∷ drawing (D 0 0 ∷ D 2 1 ∷ Q 0 1 ∷ []) (Some (X 0 1)) no
    ∷ drawing (F 0 0 2 ∷ D 1 0 ∷ K 0 1 1 ∷ []) None (empty [] [])
    ∷ drawing (X 0 0 ∷ []) (Some (S 0 1)) yes
    ∷ drawing (X 0 0 ∷ []) (Some (S 1 0)) no
    ∷ drawing (X 0 0 ∷ []) (Some (X 1 0)) yes
    ∷ []

abbrev pub comes_of : Option Drawing → Option Told
comes_of None = None
comes_of (Some d) = Some d.comes

abbrev pub comes_at : ℕ → Option Told
comes_at k = comes_of (slice_get drawings k)

pub record Crowd (w : World) (a n : ℕ) : Type 0 where
  pub who : List Individual
  pub many : length who ≡ n
  pub different : Distinct who
  pub inside : (i : Individual) → i ∈ who → In w a i

-- each in class 0 has two below it there, and at most one above it
abbrev pub branching : List Rule
branching = F 0 0 2 ∷ D 1 0 ∷ K 0 1 1 ∷ []

abbrev pub OnlyEndless : List Rule → ℕ → Type 0
OnlyEndless rules a = Follows (map row rules) (λ w. ClassFilled w a → (n : ℕ) → Crowd w a n)

pub record Holds (s : Shown) (rows : List Row) : Type 0 where
  pub classes : s.classes ≡ 4
  pub arrows : s.arrows ≡ 2
  pub shows : s.rows ≡ rows

abbrev pub Draws : Drawing → Shown → Type 0
Draws d s = Holds s (map row d.rules)

abbrev pub asked_row : Option Rule → Option Row
asked_row None = None
asked_row (Some ρ) = Some (row ρ)

abbrev pub SameLine : Option Drawing → Option Given → Type 0
SameLine None None = Unit {0}
SameLine None (Some g) = ⊥
SameLine (Some d) None = ⊥
SameLine (Some d) (Some g) = (g.rows.now ≡ map row d.rules) × (g.asked ≡ asked_row d.asked)

abbrev pub IsGiven : ℕ → Option Given → Type 0
IsGiven k = SameLine (slice_get drawings k)
