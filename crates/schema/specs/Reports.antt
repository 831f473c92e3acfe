-- The report on a text.
--   Lists         the numbers of which a fact holds, rising
--   ReportIs      the bytes of the report
--   Reported      what the call answers and writes
use Rattle.std.specs.Prelude.{◌≡◌, ℕ, ◌<◌, ◌≤◌, List, [], ◌∷◌, ◌++◌, length, take, drop, Ok, Err, Result}
use Rattle.schema.specs.declared.row.Row.{Row}
use Rattle.schema.specs.declared.faults.Notice.{Notice}
use Rattle.schema.specs.declared.faults.TextFault.{TextFault}
use Rattle.schema.specs.declared.faults.CheckFault.{CheckFault}
use Rattle.schema.specs.declared.faults.ReportFault.{ReportFault}
use Rattle.schema.specs.declared.faults.ReportFault.TheVariants.{ShortBuffer}
use Rattle.schema.specs.Refusals.{text_notice, check_notice}
use Rattle.schema.specs.Rows.{◌∈◌}
use Rattle.schema.specs.Texts.{line, IsText, TextFaulty}
use Rattle.schema.specs.Verdicts.{Passes, CheckFaulty}
use Rattle.schema.specs.Webs.{EmptyClass, EmptyArrow}
use Rattle.schema.specs.Worlds.{ClassEmpty, ArrowEmpty}
use Rattle.schema.specs.Truth.{Follows}

-- each number is above all before it
abbrev pub Rising : List ℕ → Type 0
Rising [] = Unit {0}
Rising (k ∷ ks) = ((j : ℕ) → j ∈ ks → k < j) × Rising ks

pub record Lists (Fact : ℕ → Type 0) (ks : List ℕ) : Type 0 where
  pub rising : Rising ks
  pub only : (k : ℕ) → k ∈ ks → Fact k
  pub all : (k : ℕ) → Fact k → k ∈ ks

-- a letter and a number for each, other groups 0
abbrev pub name_lines : ℕ → List ℕ → List ℕ
name_lines letter [] = []
name_lines letter (k ∷ ks) = line letter k 0 0 ++ name_lines letter ks

-- the letter !, the number and the two places
abbrev pub notice_line : Notice → List ℕ
notice_line n = line 33 n.number n.first n.second

-- one line for a refusal; else the names that are forced empty, which are those that are empty in every world that
-- fulfils the rows
pub data ReportIs (text : List ℕ) : List ℕ → Type 0 where
  text_refused : (f : TextFault) → TextFaulty text f → ReportIs text (notice_line (text_notice f))
  verdict_refused : (c p : ℕ) (rows : List Row) (f : CheckFault) → IsText text c p rows → CheckFaulty c p rows f
      → ReportIs text (notice_line (check_notice f))
  listed : (c p : ℕ) (rows : List Row) (classes arrows : List ℕ) → IsText text c p rows → Passes c p rows
      → Lists (λ k. (k < c) × EmptyClass rows k) classes → Lists (λ k. (k < p) × EmptyArrow rows k) arrows
      → Lists (λ k. (k < c) × Follows rows (λ w. ClassEmpty w k)) classes → Lists (λ k. (k < p) × Follows rows (λ w. ArrowEmpty w k)) arrows
      → ReportIs text (line 86 (length classes) (length arrows) 0 ++ (name_lines 67 classes ++ name_lines 65 arrows))

-- the report stands in the first bytes, as many as the answer says; the later bytes stay
pub record Written (text before : List ℕ) (len : ℕ) (after : List ℕ) : Type 0 where
  pub room : 1358 ≤ length before
  pub short : len ≤ length before
  pub bytes : ReportIs text (take len after)
  pub later : drop len after ≡ drop len before

abbrev pub Reported : List ℕ → List ℕ → Result ℕ ReportFault → List ℕ → Type 0
Reported text before (Ok len) after = Written text before len after
Reported text before (Err ShortBuffer) after = (length before < 1358) × (after ≡ before)
