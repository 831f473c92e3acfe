-- The numbers of every notice that a report prints have four columns at most.
use Rattle.std.proofs.Common.{◌≡◌, ℕ, ◌+◌, ◌-◌, ◌<◌, ◌≤◌, List, length, take, Some, sym, ap, ◌∙◌, inl, inr, arith}
use Rattle.std.specs.List.{slice_get}
use Rattle.std.proofs.lemmas.List.{length-take, take_all}
use Rattle.std.proofs.lemmas.Option.{slice_get_past}
use Rattle.std.proofs.lemmas.Bool.{cases_lt}
use Rattle.schema.specs.declared.faults.TextFault.{TextFault}
use Rattle.schema.specs.declared.faults.SheetFault.{SheetFault}
use Rattle.schema.specs.declared.faults.CheckFault.{CheckFault}
use Rattle.schema.specs.declared.row.Row.{Row}
use Rattle.schema.specs.Refusals.{text_notice, sheet_notice, check_notice}
use Rattle.schema.specs.Rows.{Unsound, letter_unsound, a_unsound, b_unsound, n_unsound}
use Rattle.schema.specs.Texts.{BadColumn, line_at, TextFaulty, too_short, header_form, too_large, wrong_length, row_form, row_unsound}
use Rattle.schema.specs.Verdicts.{SheetFaulty, over_limits, unsound_row, CheckFaulty, sheet_faulty, capped}
use Rattle.schema.specs.Printing.{Printable}

-- a line of a text has fourteen bytes at most
short_line : (text : List ℕ) (i : ℕ) → length (line_at text i) ≤ 14
short_line text i = simp length-take (omega arith)

-- a column that is out of form is one of the fourteen
pub column_few : (Letter : ℕ → Type 0) (bytes : List ℕ) (k : ℕ) → length bytes ≤ 14 → BadColumn Letter bytes k → k ≤ 14
column_few Letter bytes k short bad =
    elim (cases_lt 14 k) [
      | inl far ↦
          let l = bad.alike.0 in
          let well = bad.alike.1 in
          let long : length l ≡ 14 = ap length well.spelled in
          let same : l ≡ bytes =
          sym (take_all (k - 1) l (omega arith)) ∙ (bad.alike.2 ∙ take_all (k - 1) bytes (omega arith)) in
          absurd (bad.none l well (ap (take k) same))
      | inr near ↦ near
    ]

-- a field is one of four
field_few : {c p : ℕ} {r : Row} {k : ℕ} → Unsound c p r k → k ≤ 4
field_few (letter_unsound _) = omega arith
field_few (a_unsound _ _ _) = omega arith
field_few (b_unsound _ _ _ _) = omega arith
field_few (n_unsound _ _ _ _ _) = omega arith

-- a row that is there is below their number
row_within : (rows : List Row) (k : ℕ) (r : Row) → slice_get rows k ≡ Some r → k < length rows
row_within rows k r e =
    elim (cases_lt k (length rows)) [
      | inl h ↦ h
      | inr h ↦ let past = slice_get_past rows k h in let z : ◌≡◌ {A = ℕ} 0 1 = cc in absurd (let f : ⊥ = omega arith in f)
    ]

-- what a refused text names
pub text_printable : {text : List ℕ} {f : TextFault} → TextFaulty text f → Printable (text_notice f)
text_printable (too_short _) = record { number = omega arith; first = omega arith; second = omega arith }
text_printable {text} (header_form k _ bad) =
    let few = column_few _ (line_at text 0) k (short_line text 0) bad in
    record { number = omega arith; first = omega arith; second = omega arith }
text_printable (too_large _ _ _ _ _) = record { number = omega arith; first = omega arith; second = omega arith }
text_printable (wrong_length _ _ _ _ _ _ _ _) = record { number = omega arith; first = omega arith; second = omega arith }
text_printable {text} (row_form c p n i k until bad) =
    let few = column_few _ (line_at text (i + 1)) k (short_line text (i + 1)) bad in
    record { number = omega arith; first = omega arith; second = omega arith }
text_printable (row_unsound c p n i field r until _ _ bad) =
    let few = field_few bad in
    record { number = omega arith; first = omega arith; second = omega arith }

-- what a sheet without a text names
sheet_printable : {c p : ℕ} {rows : List Row} {f : SheetFault} → SheetFaulty c p rows f → Printable (sheet_notice f)
sheet_printable (over_limits _) = record { number = omega arith; first = omega arith; second = omega arith }
sheet_printable {rows = rows} (unsound_row k field r small e _ bad) =
    let within = row_within rows k r e in
    let few = field_few bad in
    record { number = omega arith; first = omega arith; second = omega arith }

-- what a refused sheet names
pub check_printable : {c p : ℕ} {rows : List Row} {f : CheckFault} → CheckFaulty c p rows f → Printable (check_notice f)
check_printable (sheet_faulty _ h) = sheet_printable h
check_printable {rows = rows} (capped k r small _ e _ _) =
    let within = row_within rows k r e in
    record { number = omega arith; first = omega arith; second = omega arith }
