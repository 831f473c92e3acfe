-- The number of each refusal, and the two places that it names, 0 where it has none.
use Rattle.std.specs.Prelude.{ℕ}
use Rattle.schema.specs.declared.faults.Notice.{Notice}
use Rattle.schema.specs.declared.faults.SetUpFault.{SetUpFault}
use Rattle.schema.specs.declared.faults.SetUpFault.TheVariants.{TooMany}
use Rattle.schema.specs.declared.faults.EnterFault.{EnterFault}
use Rattle.schema.specs.declared.faults.EnterFault.TheVariants.{Full}
use Rattle.schema.specs.declared.faults.AmendFault.{AmendFault}
use Rattle.schema.specs.declared.faults.AmendFault.TheVariants.{NoRow}
use Rattle.schema.specs.declared.faults.LineFault.{LineFault}
use Rattle.schema.specs.declared.faults.LineFault.TheVariants.{Form, UnsoundLine}
use Rattle.schema.specs.declared.faults.TextFault.{TextFault}
use Rattle.schema.specs.declared.faults.TextFault.TheVariants.{TooShort, Line, TooLarge, WrongLength}
use Rattle.schema.specs.declared.faults.LoadFault.{LoadFault}
use Rattle.schema.specs.declared.faults.LoadFault.TheVariants.{Text, MoreNames, NoRoom}
use Rattle.schema.specs.declared.faults.SheetFault.{SheetFault}
use Rattle.schema.specs.declared.faults.SheetFault.TheVariants.{OverLimits, UnsoundRow}
use Rattle.schema.specs.declared.faults.CheckFault.{CheckFault}
use Rattle.schema.specs.declared.faults.CheckFault.TheVariants.{Sheet, Capped}
use Rattle.schema.specs.declared.faults.VerdictFault.{VerdictFault}
use Rattle.schema.specs.declared.faults.VerdictFault.TheVariants.{Check, ShortTable}
use Rattle.schema.specs.declared.faults.QuestionFault.{QuestionFault}
use Rattle.schema.specs.declared.faults.QuestionFault.TheVariants.{Check as QuestionCheck, UnsoundAsked, Uncounted}
use Rattle.schema.specs.declared.faults.ReportFault.{ReportFault}
use Rattle.schema.specs.declared.faults.ReportFault.TheVariants.{ShortBuffer}
use Rattle.schema.specs.declared.faults.PrintFault.{PrintFault}
use Rattle.schema.specs.declared.faults.PrintFault.TheVariants.{Sheet as Unprinted, ShortBuffer as ShortPrint}
use Rattle.schema.specs.declared.faults.ReprintFault.{ReprintFault}
use Rattle.schema.specs.declared.faults.ReprintFault.TheVariants.{Text as Unread, ShortBuffer as ShortReprint}

abbrev pub notice : ℕ → ℕ → ℕ → Notice
notice number first second = record { number = number; first = first; second = second }

abbrev pub set_up_notice : SetUpFault → Notice
set_up_notice TooMany = notice 1 0 0

abbrev pub enter_notice : EnterFault → Notice
enter_notice Full = notice 2 0 0

abbrev pub amend_notice : AmendFault → Notice
amend_notice NoRow = notice 3 0 0

-- the line and the column, or the line and the field
abbrev pub line_notice : LineFault → Notice
line_notice (Form f) = notice 9 f.line f.column
line_notice (UnsoundLine line field) = notice 12 line field

abbrev pub text_notice : TextFault → Notice
text_notice TooShort = notice 8 0 0
text_notice (Line f) = line_notice f
text_notice TooLarge = notice 10 0 0
text_notice WrongLength = notice 11 0 0

abbrev pub load_notice : LoadFault → Notice
load_notice (Text f) = text_notice f
load_notice MoreNames = notice 13 0 0
load_notice NoRoom = notice 14 0 0

-- the row and the field
abbrev pub sheet_notice : SheetFault → Notice
sheet_notice OverLimits = notice 15 0 0
sheet_notice (UnsoundRow row field) = notice 16 row field

-- the row
abbrev pub check_notice : CheckFault → Notice
check_notice (Sheet f) = sheet_notice f
check_notice (Capped row) = notice 17 row 0

abbrev pub verdict_notice : VerdictFault → Notice
verdict_notice (Check f) = check_notice f
verdict_notice ShortTable = notice 18 0 0

-- the field
abbrev pub question_notice : QuestionFault → Notice
question_notice (QuestionCheck f) = check_notice f
question_notice (UnsoundAsked field) = notice 19 field 0
question_notice Uncounted = notice 20 0 0

abbrev pub report_notice : ReportFault → Notice
report_notice ShortBuffer = notice 21 0 0

abbrev pub print_notice : PrintFault → Notice
print_notice (Unprinted f) = sheet_notice f
print_notice ShortPrint = notice 21 0 0

abbrev pub reprint_notice : ReprintFault → Notice
reprint_notice (Unread f) = text_notice f
reprint_notice ShortReprint = notice 21 0 0
