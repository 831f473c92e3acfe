-- The checks and the verdict.
--   Small         at most 64 classes, 32 arrows and 512 rows
--   Passes        the checks are passed
--   SheetFaulty   why a sheet has no text: the first fault in the order of the checks
--   CheckFaulty   why the checks are not passed: the first fault in their order
--   Bit           a byte is 1 exactly when a fact holds, else 0
--   Fills         a world fills each name that a table does not list
--   Tells         a test is true exactly when a fact holds
--   Listed        the table of an unrefused verdict
--   Judged        what a verdict answers and writes
--   Verdict       the same, of what a sheet shows
use Rattle.std.specs.Prelude.{◌≡◌, ℕ, ◌+◌, ◌<◌, ◌≤◌, Bool, true, false, ◌⊎◌, List, length, take, drop, Some, Ok, Err, count_by, Result, nat_eq, slice_index}
use Rattle.std.specs.List.{slice_get}
use Rattle.schema.specs.declared.row.Row.{Row}
use Rattle.schema.specs.declared.faults.SheetFault.{SheetFault}
use Rattle.schema.specs.declared.faults.SheetFault.TheVariants.{OverLimits, UnsoundRow}
use Rattle.schema.specs.declared.faults.CheckFault.{CheckFault}
use Rattle.schema.specs.declared.faults.CheckFault.TheVariants.{Sheet, Capped}
use Rattle.schema.specs.declared.faults.VerdictFault.{VerdictFault}
use Rattle.schema.specs.declared.faults.VerdictFault.TheVariants.{Check, ShortTable}
use Rattle.schema.specs.Rows.{◌∈◌, Sound, Unsound, AllSound}
use Rattle.schema.specs.Rules.{K, row, arrow}
use Rattle.schema.specs.Sheets.{Shown}
use Rattle.schema.specs.Webs.{Alone, EmptyClass, EmptyArrow}
use Rattle.schema.specs.Worlds.{World, ClassEmpty, ClassFilled, ArrowEmpty, ArrowFilled}
use Rattle.schema.specs.Truth.{Follows, Shows}

-- at most 64 classes, 32 arrows and 512 rows
pub record Small (c p : ℕ) (rows : List Row) : Type 0 where
  pub few_classes : c ≤ 64
  pub few_arrows : p ≤ 32
  pub few_rows : length rows ≤ 512

-- a row puts a cap on an arrow that another arrow leads to
abbrev pub CapsShared : List Row → Row → Type 0
CapsShared rows r = (a e n : ℕ) × (r ≡ row (K a e n)) × (Alone rows (arrow e) → ⊥)

abbrev pub NoSharedCap : List Row → Type 0
NoSharedCap rows = (r : Row) → r ∈ rows → CapsShared rows r → ⊥

-- a fact of each row below row k
abbrev pub EachBelow : List Row → ℕ → (Row → Type 0) → Type 0
EachBelow rows k Fact = (j : ℕ) (r : Row) → j < k → slice_get rows j ≡ Some r → Fact r

pub record Passes (c p : ℕ) (rows : List Row) : Type 0 where
  pub small : Small c p rows
  pub sound : AllSound c p rows
  pub uncapped : NoSharedCap rows

pub data SheetFaulty (c p : ℕ) (rows : List Row) : SheetFault → Type 0 where
  over_limits : (64 < c) ⊎ ((32 < p) ⊎ (512 < length rows)) → SheetFaulty c p rows OverLimits
  unsound_row : (k field : ℕ) (r : Row) → Small c p rows → slice_get rows k ≡ Some r → EachBelow rows k (Sound c p)
      → Unsound c p r field → SheetFaulty c p rows (UnsoundRow k field)

pub data CheckFaulty (c p : ℕ) (rows : List Row) : CheckFault → Type 0 where
  sheet_faulty : (f : SheetFault) → SheetFaulty c p rows f → CheckFaulty c p rows (Sheet f)
  capped : (k : ℕ) (r : Row) → Small c p rows → AllSound c p rows → slice_get rows k ≡ Some r → CapsShared rows r
      → EachBelow rows k (λ q. CapsShared rows q → ⊥) → CheckFaulty c p rows (Capped k)

abbrev pub Bit : ℕ → Type 0 → Type 0
Bit b Fact = ((b ≡ 1) × Fact) ⊎ ((b ≡ 0) × (Fact → ⊥))

abbrev pub Tells : Bool → Type 0 → Type 0
Tells true Fact = Fact
Tells false Fact = Fact → ⊥

-- each name whose byte is 0 is filled
pub record Fills (c p : ℕ) (table : List ℕ) (w : World) : Type 0 where
  pub classes : (k : ℕ) → k < c → slice_index table k ≡ 0 → ClassFilled w k
  pub arrows : (k : ℕ) → k < p → slice_index table (c + k) ≡ 0 → ArrowFilled w k

-- a name's byte is 1 exactly when the name is forced empty, and that is exactly when it is empty in every world that
-- fulfils the rows; one world fills all the others and breaks what a question would answer with no. Classes first,
-- then arrows; the later bytes stay, and the answer is the number of ones
pub record Listed (c p : ℕ) (rows : List Row) (before : List ℕ) (ones : ℕ) (after : List ℕ) : Type 0 where
  pub passes : Passes c p rows
  pub room : c + p ≤ length before
  pub class_bytes : (k : ℕ) → k < c → Bit (slice_index after k) (EmptyClass rows k)
  pub arrow_bytes : (k : ℕ) → k < p → Bit (slice_index after (c + k)) (EmptyArrow rows k)
  pub class_everywhere : (k : ℕ) → k < c → Bit (slice_index after k) (Follows rows (λ w. ClassEmpty w k))
  pub arrow_everywhere : (k : ℕ) → k < p → Bit (slice_index after (c + k)) (Follows rows (λ w. ArrowEmpty w k))
  pub one_world : (w : World) × Shows c p rows w × Fills c p after w
  pub later : drop (c + p) after ≡ drop (c + p) before
  pub counted : ones ≡ count_by (λ b. nat_eq b 1) (take (c + p) after)

-- the verdict on c classes, p arrows and some rows
abbrev pub Judged : ℕ → ℕ → List Row → List ℕ → Result ℕ VerdictFault → List ℕ → Type 0
Judged c p rows before (Ok ones) after = Listed c p rows before ones after
Judged c p rows before (Err (Check f)) after = CheckFaulty c p rows f × (after ≡ before)
Judged c p rows before (Err ShortTable) after = Passes c p rows × (length before < c + p) × (after ≡ before)

-- the verdict on a sheet
abbrev pub Verdict : Shown → List ℕ → Result ℕ VerdictFault → List ℕ → Type 0
Verdict s = Judged s.classes s.arrows s.rows
