-- Texts.
--   group         a number in four columns
--   line          a letter, three groups and a line feed: 14 bytes
--   WellFormed    a line that begins with one of some letters
--   BadColumn     where a line is out of form
--   text_of       the text of a sheet: a header line and a line for each row
--   IsText        a text that is accepted, with its counts and rows
--   TextFaulty    why a text is refused: the first fault in the order of the checks
use Rattle.std.specs.Prelude.{◌≡◌, ℕ, zero, suc, ◌+◌, ◌-◌, ◌*◌, ◌/◌, ◌%◌, ◌<◌, ◌≤◌, true, cond, ◌⊎◌, List, [], ◌∷◌, ◌++◌, length, take, drop, is_some, ◌==◌, ◌≢◌}
use Rattle.schema.specs.declared.row.Row.{Row}
use Rattle.schema.specs.declared.faults.LineFault.TheVariants.{Form, UnsoundLine}
use Rattle.schema.specs.declared.faults.TextFault.{TextFault}
use Rattle.schema.specs.declared.faults.TextFault.TheVariants.{TooShort, Line, TooLarge, WrongLength}
use Rattle.schema.specs.Rows.{shape_of, Sound, Unsound, AllSound}

-- a number right-justified in k columns, blanks to its left; nothing is written of 0
abbrev pub justified : ℕ → ℕ → List ℕ
justified zero v = []
justified (suc k) v = justified k (v / 10) ++ cond (v == 0) 32 (48 + v % 10) ∷ []

-- a number up to 9999 in four columns: the last digit is always written
abbrev pub group : ℕ → List ℕ
group n = justified 3 (n / 10) ++ (48 + n % 10) ∷ []

abbrev pub line : ℕ → ℕ → ℕ → ℕ → List ℕ
line letter a b n = letter ∷ (group a ++ (group b ++ (group n ++ 10 ∷ [])))

-- a line with one of these letters and three numbers up to 9999
pub record WellFormed (Letter : ℕ → Type 0) (bytes : List ℕ) : Type 0 where
  pub letter : ℕ
  pub a : ℕ
  pub b : ℕ
  pub n : ℕ
  pub begins : Letter letter
  pub a_fits : a ≤ 9999
  pub b_fits : b ≤ 9999
  pub n_fits : n ≤ 9999
  pub spelled : bytes ≡ line letter a b n

-- column k, from 1, is the first at which no well-formed line begins alike
pub record BadColumn (Letter : ℕ → Type 0) (bytes : List ℕ) (k : ℕ) : Type 0 where
  pub counted : 1 ≤ k
  pub alike : (l : List ℕ) × WellFormed Letter l × (take (k - 1) l ≡ take (k - 1) bytes)
  pub none : (l : List ℕ) → WellFormed Letter l → take k l ≢ take k bytes

-- H, and the seven letters of rows
abbrev pub Header : ℕ → Type 0
Header x = x ≡ 72

abbrev pub RowLetter : ℕ → Type 0
RowLetter x = is_some (shape_of x) ≡ true

-- a row that a line can write
pub record Writable (r : Row) : Type 0 where
  pub letter_stands : RowLetter r.letter
  pub a_fits : r.a ≤ 9999
  pub b_fits : r.b ≤ 9999
  pub n_fits : r.n ≤ 9999

abbrev pub row_line : Row → List ℕ
row_line r = line r.letter r.a r.b r.n

abbrev pub row_lines : List Row → List ℕ
row_lines [] = []
row_lines (r ∷ rs) = row_line r ++ row_lines rs

abbrev pub text_of : ℕ → ℕ → List Row → List ℕ
text_of c p rows = line 72 c p (length rows) ++ row_lines rows

-- line i of a text, from 0
abbrev pub line_at : List ℕ → ℕ → List ℕ
line_at text i = take 14 (drop (14 * i) text)

-- an accepted text
pub record IsText (text : List ℕ) (c p : ℕ) (rows : List Row) : Type 0 where
  pub few_classes : c ≤ 64
  pub few_arrows : p ≤ 32
  pub few_rows : length rows ≤ 512
  pub sound : AllSound c p rows
  pub bytes : text ≡ text_of c p rows

-- line 1 tells c classes, p arrows and n rows
pub record Heads (text : List ℕ) (c p n : ℕ) : Type 0 where
  pub long : 14 ≤ length text
  pub c_fits : c ≤ 9999
  pub p_fits : p ≤ 9999
  pub n_fits : n ≤ 9999
  pub first : line_at text 0 ≡ line 72 c p n

-- the header passes 10 and 11, and the lines of the rows below i are sound
pub record Until (text : List ℕ) (c p n i : ℕ) : Type 0 where
  pub heads : Heads text c p n
  pub few_classes : c ≤ 64
  pub few_arrows : p ≤ 32
  pub few_rows : n ≤ 512
  pub long : length text ≡ 14 * (n + 1)
  pub within : i < n
  pub before : (j : ℕ) → j < i → (r : Row) × (line_at text (j + 1) ≡ row_line r) × Sound c p r

pub data TextFaulty (text : List ℕ) : TextFault → Type 0 where
  too_short : length text < 14 → TextFaulty text TooShort
  header_form : (k : ℕ) → 14 ≤ length text → BadColumn Header (line_at text 0) k
      → TextFaulty text (Line (Form (record { line = 1; column = k })))
  too_large : (c p n : ℕ) → Heads text c p n → (64 < c) ⊎ ((32 < p) ⊎ (512 < n)) → TextFaulty text TooLarge
  wrong_length : (c p n : ℕ) → Heads text c p n → c ≤ 64 → p ≤ 32 → n ≤ 512 → (length text ≢ 14 * (n + 1))
      → TextFaulty text WrongLength
  row_form : (c p n i k : ℕ) → Until text c p n i → BadColumn RowLetter (line_at text (i + 1)) k
      → TextFaulty text (Line (Form (record { line = i + 2; column = k })))
  row_unsound : (c p n i field : ℕ) (r : Row) → Until text c p n i
      → Writable r → line_at text (i + 1) ≡ row_line r → Unsound c p r field
      → TextFaulty text (Line (UnsoundLine (i + 2) field))
