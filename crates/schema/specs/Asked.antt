-- The question.
--   Uncountable   an asked row counts to 2 or more at an arrow that another leads to
--   Answered      an unrefused answer: it tells what the rows lead to, and what is true in all worlds
--   Replied       what a question answers
--   Asked         the same, of what a sheet shows
use Rattle.std.specs.Prelude.{◌≡◌, ℕ, ◌≤◌, Bool, false, List, Ok, Err, Result}
use Rattle.schema.specs.declared.row.Row.{Row}
use Rattle.schema.specs.declared.faults.QuestionFault.{QuestionFault}
use Rattle.schema.specs.declared.faults.QuestionFault.TheVariants.{Check, UnsoundAsked, Uncounted}
use Rattle.schema.specs.Rows.{Sound, Unsound}
use Rattle.schema.specs.Rules.{Rule, F, row, arrow}
use Rattle.schema.specs.Sheets.{Shown}
use Rattle.schema.specs.Webs.{Alone}
use Rattle.schema.specs.Worlds.{World, Fulfils, Breaks}
use Rattle.schema.specs.Questions.{Yes, Countable}
use Rattle.schema.specs.Verdicts.{Passes, CheckFaulty, Tells}
use Rattle.schema.specs.Truth.{Follows, Shows}

abbrev pub Uncountable : List Row → Row → Type 0
Uncountable rows asked = (a e n : ℕ) × (asked ≡ row (F a e n)) × (2 ≤ n) × (Alone rows (arrow e) → ⊥)

-- yes where the rule is told and so true in every world that fulfils the rows; no where one world, the same for all that
-- is not told, fulfils the rows and breaks the rule
pub record Answered (c p : ℕ) (rows : List Row) (asked : Row) (answer : Bool) : Type 0 where
  pub passes : Passes c p rows
  pub rule : Rule
  pub writes : asked ≡ row rule
  pub sound : Sound c p asked
  pub countable : Countable rows rule
  pub told : Tells answer (Yes rows rule)
  pub everywhere : Tells answer (Follows rows (λ w. Fulfils w rule))
  pub one_world : (w : World) × Shows c p rows w × (answer ≡ false → Breaks w rule)

-- the question about c classes, p arrows and some rows
abbrev pub Replied : ℕ → ℕ → List Row → Row → Result Bool QuestionFault → Type 0
Replied c p rows asked (Ok answer) = Answered c p rows asked answer
Replied c p rows asked (Err (Check f)) = CheckFaulty c p rows f
Replied c p rows asked (Err (UnsoundAsked field)) = Passes c p rows × Unsound c p asked field
Replied c p rows asked (Err Uncounted) = Passes c p rows × Sound c p asked × Uncountable rows asked

-- the question about a sheet
abbrev pub Asked : Shown → Row → Result Bool QuestionFault → Type 0
Asked s = Replied s.classes s.arrows s.rows
