-- The report on a sheet. For inner contracts: no call's promise rests on it.
--   SheetReport    its bytes
--   SheetReported  what writing it answers and leaves
use Rattle.std.specs.Prelude.{ℕ, ◌<◌, List}
use Rattle.schema.specs.declared.faults.CheckFault.{CheckFault}
use Rattle.schema.specs.Printing.{listing, Begun}
use Rattle.schema.specs.Refusals.{check_notice}
use Rattle.schema.specs.Reports.{Lists, notice_line}
use Rattle.schema.specs.Sheets.{Shown}
use Rattle.schema.specs.Verdicts.{Passes, CheckFaulty}
use Rattle.schema.specs.Webs.{EmptyClass, EmptyArrow}
use Rattle.schema.specs.Worlds.{ClassEmpty, ArrowEmpty}
use Rattle.schema.specs.Truth.{Follows}

pub data SheetReport (s : Shown) : List ℕ → Type 0 where
  sheet_refused : (f : CheckFault) → CheckFaulty s.classes s.arrows s.rows f → SheetReport s (notice_line (check_notice f))
  sheet_listed : (classes arrows : List ℕ) → Passes s.classes s.arrows s.rows
      → Lists (λ k. (k < s.classes) × EmptyClass s.rows k) classes → Lists (λ k. (k < s.arrows) × EmptyArrow s.rows k) arrows
      → Lists (λ k. (k < s.classes) × Follows s.rows (λ w. ClassEmpty w k)) classes
      → Lists (λ k. (k < s.arrows) × Follows s.rows (λ w. ArrowEmpty w k)) arrows → SheetReport s (listing classes arrows)

pub record SheetReported (s : Shown) (before : List ℕ) (len : ℕ) (after : List ℕ) : Type 0 where
  pub report : List ℕ
  pub is : SheetReport s report
  pub begun : Begun report before len after
