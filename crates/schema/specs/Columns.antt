-- For inner contracts only: how a line is read, column by column.
--   mark          the byte of a column, where a number so far ends in it
--   Strays        the first column, from 0, at which nothing of a form begins alike
--   Group, Tail   the forms of a group, and of a line after its letter
--   tail          such a line after its letter
--   LineStrays    the first column, from 1, at which a line strays
--   head_line     the line of a header
--   LineFaulty    why a row's line is refused
--   Headed        a text that passes the checks before those of its rows
--   RowsRead      what the lines of the first rows say
use Rattle.std.specs.Prelude.{◌≡◌, ℕ, suc, ◌+◌, ◌*◌, ◌%◌, ◌<◌, ◌≤◌, Bool, true, false, cond, List, [], ◌∷◌, ◌++◌, length, take, ◌==◌, ◌≢◌, slice_index_or}
use Rattle.schema.specs.declared.row.Row.{Row}
use Rattle.schema.specs.declared.faults.LineFault.{LineFault}
use Rattle.schema.specs.declared.faults.LineFault.TheVariants.{Form, UnsoundLine}
use Rattle.schema.specs.Rows.{Sound, Unsound}
use Rattle.schema.specs.Texts.{group, line, line_at, row_line, BadColumn, Heads, RowLetter, Writable}

-- the last digit of a number; before the last column of a group nothing is written of 0
abbrev pub mark : Bool → ℕ → ℕ
mark last v = cond last (48 + v % 10) (cond (v == 0) 32 (48 + v % 10))

-- some list of the form has the first k columns, and none has the one after them too
pub record Strays (Form : List ℕ → Type 0) (bytes : List ℕ) (k : ℕ) : Type 0 where
  pub alike : (l : List ℕ) × Form l × (take k l ≡ take k bytes)
  pub none : (l : List ℕ) → Form l → take (suc k) l ≢ take (suc k) bytes

abbrev pub Group : List ℕ → Type 0
Group l = (v : ℕ) × (v ≤ 9999) × (l ≡ group v)

abbrev pub Feed : List ℕ → Type 0
Feed l = l ≡ 10 ∷ []

-- one form and then another
abbrev pub Then : (List ℕ → Type 0) → (List ℕ → Type 0) → List ℕ → Type 0
Then F G l = (x : List ℕ) × (y : List ℕ) × F x × G y × (l ≡ x ++ y)

abbrev pub Tail : List ℕ → Type 0
Tail = Then Group (Then Group (Then Group Feed))

abbrev pub tail : ℕ → ℕ → ℕ → List ℕ
tail a b n = group a ++ (group b ++ (group n ++ 10 ∷ []))

-- the letter is wrong, or something after a letter that may begin the line
pub data LineStrays (Begins : ℕ → Bool → Type 0) (bytes : List ℕ) (column : ℕ) : Type 0 where
  wrong_letter : (x : ℕ) (l : List ℕ) → bytes ≡ x ∷ l → Begins x false → column ≡ 1 → LineStrays Begins bytes column
  wrong_tail : (x : ℕ) (l : List ℕ) (k : ℕ) → bytes ≡ x ∷ l → Begins x true → Strays Tail l k → column ≡ k + 2 → LineStrays Begins bytes column

-- line 1 of a text
abbrev pub head_line : ℕ → ℕ → ℕ → List ℕ
head_line c p n = line 72 c p n

-- out of form, or in form with an unsound field
pub data LineFaulty (bytes : List ℕ) (number c p : ℕ) : LineFault → Type 0 where
  out_of_form : (k : ℕ) → BadColumn RowLetter bytes k → LineFaulty bytes number c p (Form (record { line = number; column = k }))
  unsound : (field : ℕ) (r : Row) → Writable r → bytes ≡ row_line r → Unsound c p r field
      → LineFaulty bytes number c p (UnsoundLine number field)

-- line 1 tells c classes, p arrows and n rows, each within its limit, and the text is as long as n says
pub record Headed (text : List ℕ) (c p n : ℕ) : Type 0 where
  pub heads : Heads text c p n
  pub few_classes : c ≤ 64
  pub few_arrows : p ≤ 32
  pub few_rows : n ≤ 512
  pub long : length text ≡ 14 * (n + 1)

abbrev pub blank_row : Row
blank_row = record { letter = 0; a = 0; b = 0; n = 0 }

-- the rows are those of their lines, and sound
abbrev pub RowsRead : List ℕ → ℕ → ℕ → List Row → Type 0
RowsRead text c p rows =
    (j : ℕ) → j < length rows → (line_at text (j + 1) ≡ row_line (slice_index_or rows j blank_row)) × Sound c p (slice_index_or rows j blank_row)
