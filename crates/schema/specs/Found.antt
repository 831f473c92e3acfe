-- What is found out for a question. For inner contracts: no call's promise rests on it.
use Rattle.std.specs.Prelude.{◌≡◌, ℕ, ◌<◌, Bool, List, slice_index_or}
use Rattle.schema.specs.declared.row.Row.{Row}
use Rattle.schema.specs.declared.descriptions.Descriptions.{Descriptions}
use Rattle.schema.specs.Rows.{AllSound}
use Rattle.schema.specs.Rules.{Rule, row}
use Rattle.schema.specs.Points.{point, Built}
use Rattle.schema.specs.Keys.{keyed, EmptyKeys}
use Rattle.schema.specs.Verdicts.{Tells}
use Rattle.schema.specs.Questions.{Yes}

-- the web of sound rows, and the keys that are empty
pub record Found (rows : List Row) (web : Descriptions) (empty : List ℕ) : Type 0 where
  pub sound : AllSound 64 32 rows
  pub links : Built rows web
  pub keys : EmptyKeys rows empty

-- a key that is empty is marked
pub record MarkedEmpty (marks empty : List ℕ) : Type 0 where
  pub key : ℕ
  pub small : key < 128
  pub marked : slice_index_or marks (point (keyed key)) 0 ≡ 1
  pub is : slice_index_or empty key 0 ≡ 1

-- a test answers the rule that a row writes
pub record TellsYes (rows : List Row) (asked : Row) (answer : Bool) : Type 0 where
  pub rule : Rule
  pub writes : asked ≡ row rule
  pub told : Tells answer (Yes rows rule)
