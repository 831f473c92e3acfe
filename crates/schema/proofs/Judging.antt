-- The report on a sheet, from its verdict and from what is written of it.
use Rattle.std.proofs.Common.{◌≡◌, ℕ, ◌+◌, ◌<◌, ◌≤◌, List, length, get_or, Err, take, sym, subst, arith, length-take-le, get_or-take}
use Rattle.std.specs.List.{between}
use Rattle.std.proofs.lemmas.List.Edits.{length-between, get_or-between}
use Rattle.schema.specs.declared.faults.Notice.{Notice}
use Rattle.schema.specs.declared.faults.VerdictFault.{VerdictFault}
use Rattle.schema.specs.declared.faults.VerdictFault.TheVariants.{Check, ShortTable}
use Rattle.schema.specs.Judgements.{SheetReport, sheet_refused, sheet_listed, SheetReported}
use Rattle.schema.specs.Printing.{ones_from, listing, Printable, Begun}
use Rattle.schema.specs.Refusals.{verdict_notice}
use Rattle.schema.specs.Reports.{Lists, notice_line, ReportIs, verdict_refused, listed}
use Rattle.schema.specs.Sheets.{Shown}
use Rattle.schema.specs.Texts.{IsText}
use Rattle.schema.specs.Verdicts.{Bit, Listed, Verdict}
use Rattle.schema.specs.Webs.{EmptyClass, EmptyArrow}
use Rattle.schema.specs.Worlds.{ClassEmpty, ArrowEmpty}
use Rattle.schema.specs.Truth.{Follows}
use Rattle.schema.proofs.Ones.{bits_list}
use Rattle.schema.proofs.Printables.{check_printable}

-- what a refused verdict names
pub verdict_printable : (s : Shown) (table marked : List ℕ) (f : VerdictFault) {n : Notice} → n ≡ verdict_notice f → Verdict s table (Err f) marked → Printable n
verdict_printable s table marked (Check f) e h = subst Printable (sym e) (check_printable h.0)
verdict_printable s table marked ShortTable e h = rw e (record { number = omega arith; first = omega arith; second = omega arith })

-- a refused verdict, its notice written: the table has room, so a check has failed
pub judged_refused : (s : Shown) (table marked : List ℕ) (f : VerdictFault) {n : Notice} {before after : List ℕ} {len : ℕ} → s.classes + s.arrows ≤ length table
    → n ≡ verdict_notice f → Verdict s table (Err f) marked → Begun (notice_line n) before len after → SheetReported s before len after
judged_refused s table marked (Check f) room e h b = record { report = _; is = sheet_refused f h.0; begun = rw e at b }
judged_refused s table marked ShortTable room e h b = absurd (let z : ⊥ = omega (arith, h.1) in z)

-- the places of the ones in a part of a table whose bytes tell a fact
part_list : (from n : ℕ) (Fact : ℕ → Type 0) (table : List ℕ) → from + n ≤ length table → ((k : ℕ) → k < n → Bit (get_or table (from + k) 0) (Fact k))
    → Lists (λ k. (k < n) × Fact k) (ones_from 0 (between from (from + n) table))
part_list from n Fact table room bits =
    let part = between from (from + n) table in
    bits_list n Fact part (omega (arith, length-between table from (from + n) room))
    (λ k h. let e = get_or-between table from (from + n) k 0 (omega arith) in subst (λ b. Bit b (Fact k)) (sym e) (bits k h))

-- the same of a part that the table begins with
front_list : (n : ℕ) (Fact : ℕ → Type 0) (table : List ℕ) → n ≤ length table → ((k : ℕ) → k < n → Bit (get_or table k 0) (Fact k))
    → Lists (λ k. (k < n) × Fact k) (ones_from 0 (take n table))
front_list n Fact table room bits =
    bits_list n Fact (take n table) (length-take-le n table room) (λ k h. subst (λ b. Bit b (Fact k)) (sym (get_or-take n table k 0 h)) (bits k h))

-- a verdict with its classes and arrows written
pub judged_listed : (s : Shown) (table marked : List ℕ) (ones : ℕ) {before after : List ℕ} {len : ℕ} → s.classes + s.arrows ≤ length marked
    → Listed s.classes s.arrows s.rows table ones marked
    → Begun (listing (ones_from 0 (take s.classes marked)) (ones_from 0 (between s.classes (s.classes + s.arrows) marked))) before len after → SheetReported s before len after
judged_listed s table marked ones room v b =
    let few : s.classes ≤ length marked = omega arith in
    let classes = front_list s.classes (EmptyClass s.rows) marked few v.class_bytes in
    let arrows = part_list s.classes s.arrows (EmptyArrow s.rows) marked room v.arrow_bytes in
    let no-class = front_list s.classes (λ k. Follows s.rows (λ w. ClassEmpty w k)) marked few v.class_everywhere in
    let no-arrow = part_list s.classes s.arrows (λ k. Follows s.rows (λ w. ArrowEmpty w k)) marked room v.arrow_everywhere in
    record { report = _; is = sheet_listed _ _ v.passes classes arrows no-class no-arrow; begun = b }

-- the report on the sheet of an accepted text is the report on the text
pub text_report : {text report : List ℕ} (s : Shown) → IsText text s.classes s.arrows s.rows → SheetReport s report → ReportIs text report
text_report s t (sheet_refused f h) = verdict_refused s.classes s.arrows s.rows f t h
text_report s t (sheet_listed classes arrows h cs ps ct pt) = listed s.classes s.arrows s.rows classes arrows t h cs ps ct pt
