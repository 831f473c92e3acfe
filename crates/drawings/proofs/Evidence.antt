-- What shows that a drawing's answer is right, once for every drawing.
use Rattle.std.proofs.Common.{◌≡◌, ℕ, zero, suc, ◌+◌, true, false, List, [], ◌∷◌, map, length, get_or, Option, Some, None, subst, inl, inr}
use Rattle.std.specs.List.{slice_get}
use Rattle.schema.specs.declared.row.Row.{Row}
use Rattle.schema.specs.Refusals.{notice}
use Rattle.schema.specs.Rows.{◌∈◌, Sound}
use Rattle.schema.specs.Rules.{Rule, row, Has}
use Rattle.schema.specs.Asked.{Uncountable}
use Rattle.schema.specs.Questions.{Yes, Countable}
use Rattle.schema.specs.Verdicts.{Small, Passes, CapsShared, EachBelow}
use Rattle.schema.specs.Rows.{AllSound}
use Rattle.schema.specs.Webs.{EmptyClass, EmptyArrow}
use Rattle.schema.specs.Worlds.{World, Fulfils, Breaks, FulfilsAll, ClassFilled, ArrowFilled}
use Rattle.schema.proofs.theory.Telling.{row_injective}
use Rattle.drawings.specs.declared.told.Told.{Told}
use Rattle.drawings.specs.declared.told.Told.TheVariants.{Table, Answer, Refusal}
use Rattle.drawings.specs.Drawings.{Drawing, asked_row}
use Rattle.schema.proofs.Members.{nth_∈}
use Rattle.drawings.proofs.Membership.{here, there, nowhere, here_or_there}

-- a fact of each of a list, one after the other
infixr 5 ◌▹◌
pub data Each {A : Type 0} (P : A → Type 0) : List A → Type 0 where
  done : Each P []
  ◌▹◌ : {x : A} {xs : List A} → P x → Each P xs → Each P (x ∷ xs)

-- it holds of any one
pub of_one : {A : Type 0} (P : A → Type 0) (xs : List A) → Each P xs → (x : A) → x ∈ xs → P x
of_one P [] done x m = absurd (nowhere x m)
of_one P (y ∷ ys) (h ▹ hs) x m = elim (here_or_there ys m) [ inl e ↦ subst P e h | inr n ↦ of_one P ys hs x n ]

-- a row of some rules is the row of one of them
written : (rules : List Rule) (ρ : Rule) → Has (map row rules) ρ → ρ ∈ rules
written [] ρ m = absurd (nowhere (row ρ) m)
written (σ ∷ rules) ρ m =
    elim (here_or_there (map row rules) m) [
      | inl e ↦ here rules (row_injective σ ρ e)
      | inr n ↦ there rules (written rules ρ n)
    ]

-- number k of some rules
pub has : (rules : List Rule) (k : ℕ) (ρ : Rule) → slice_get (map row rules) k ≡ Some (row ρ) → Has (map row rules) ρ
has rules k ρ e = nth_∈ (row ρ) (map row rules) k e

-- a world that fulfils each rule fulfils the rows
pub fulfils : (w : World) (rules : List Rule) → Each (Fulfils w) rules → FulfilsAll w (map row rules)
fulfils w rules h ρ m = of_one (Fulfils w) rules h ρ (written rules ρ m)

-- a byte of 1 for what is derived to be empty, and one of 0 for what a world fills
abbrev pub Marks : ℕ → Type 0 → Type 0 → Type 0
Marks zero Empty Filled = Filled
Marks (suc zero) Empty Filled = Empty
Marks (suc (suc b)) Empty Filled = ⊥

-- what shows the bytes of a class and of an arrow
abbrev pub ClassMark : List Rule → List ℕ → World → ℕ → Type 0
ClassMark rules table w k = Marks (get_or table k 0) (EmptyClass (map row rules) k) (ClassFilled w k)

abbrev pub ArrowMark : List Rule → List ℕ → World → ℕ → Type 0
ArrowMark rules table w k = Marks (get_or table (4 + k) 0) (EmptyArrow (map row rules) k) (ArrowFilled w k)

-- of all four classes, and of both arrows
abbrev pub ClassMarks : List Rule → List ℕ → World → Type 0
ClassMarks rules table w = ClassMark rules table w 0 × ClassMark rules table w 1 × ClassMark rules table w 2 × ClassMark rules table w 3

abbrev pub ArrowMarks : List Rule → List ℕ → World → Type 0
ArrowMarks rules table w = ArrowMark rules table w 0 × ArrowMark rules table w 1

-- one world fulfils the rules and fills each name that no derivation tells empty
pub record Sorted (rules : List Rule) (table : List ℕ) (w : World) : Type 0 where
  pub fulfilled : Each (Fulfils w) rules
  pub classes : ClassMarks rules table w
  pub arrows : ArrowMarks rules table w

-- a row caps a shared arrow, and none before it does
pub record FirstCap (rules : List Rule) (k : ℕ) : Type 0 where
  pub few : Small 4 2 (map row rules)
  pub sound : AllSound 4 2 (map row rules)
  pub caps : Row
  pub at : slice_get (map row rules) k ≡ Some caps
  pub shared : CapsShared (map row rules) caps
  pub before : EachBelow (map row rules) k (λ q. CapsShared (map row rules) q → ⊥)

-- what shows the verdict
pub data Judges (rules : List Rule) : Told → Type 0 where
  sorted : (table : List ℕ) (w : World) → Passes 4 2 (map row rules) → length table ≡ 6 → Sorted rules table w → Judges rules (Table table)
  capped : (k : ℕ) → FirstCap rules k → Judges rules (Refusal (notice 17 k 0))

-- what shows the answer to a rule that is asked
pub data Because (rules : List Rule) (ρ : Rule) : Told → Type 0 where
  derived : Countable (map row rules) ρ → Yes (map row rules) ρ → Because rules ρ (Answer true)
  broken : (w : World) → Countable (map row rules) ρ → Each (Fulfils w) rules → Breaks w ρ → Because rules ρ (Answer false)
  uncountable : Uncountable (map row rules) (row ρ) → Because rules ρ (Refusal (notice 20 0 0))

-- and that it may be asked
pub record Answers (rules : List Rule) (ρ : Rule) (t : Told) : Type 0 where
  pub passes : Passes 4 2 (map row rules)
  pub sound : Sound 4 2 (row ρ)
  pub because : Because rules ρ t

-- what shows what comes of a drawing
abbrev Comes : List Rule → Option Rule → Told → Type 0
Comes rules None t = Judges rules t
Comes rules (Some ρ) t = Answers rules ρ t

abbrev pub Evidence : Drawing → Type 0
Evidence d = Comes d.rules d.asked d.comes

-- of a drawing with no question
pub unasked : (d : Drawing) → Evidence d → None ≡ asked_row d.asked → Judges d.rules d.comes
unasked d h e = on d.asked h e
  where
    on : (o : Option Rule) → Comes d.rules o d.comes → None ≡ asked_row o → Judges d.rules d.comes
    on None h e = h
    on (Some ρ) h e = absurd (let z : ⊥ = cc in z)

-- of a drawing with one
pub asked : (d : Drawing) → Evidence d → (r : Row) → Some r ≡ asked_row d.asked → (ρ : Rule) × (r ≡ row ρ) × Answers d.rules ρ d.comes
asked d h r e = on d.asked h e
  where
    on : (o : Option Rule) → Comes d.rules o d.comes → Some r ≡ asked_row o → (ρ : Rule) × (r ≡ row ρ) × Answers d.rules ρ d.comes
    on None h e = absurd (let z : ⊥ = cc in z)
    on (Some ρ) h e = (ρ, (let z : r ≡ row ρ = cc in z), h)
