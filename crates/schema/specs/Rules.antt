-- What a row says.
--   Rule          one constructor for each letter
--   row           the row that writes a rule
--   Has           one of the rows writes a rule
--   arrow, side   the arrow of an end; 0 for its tail and 1 for its head
use Rattle.std.specs.Prelude.{ℕ, ◌/◌, ◌%◌, List}
use Rattle.schema.specs.declared.row.Row.{Row}
use Rattle.schema.specs.Rows.{◌∈◌}

-- a and b are classes, p and q arrows, e an end: end 2p is the tail of arrow p and end 2p+1 its head
pub data Rule : Type 0 where
  S : (a b : ℕ) → Rule
  X : (a b : ℕ) → Rule
  D : (e b : ℕ) → Rule
  F : (a e n : ℕ) → Rule
  K : (a e n : ℕ) → Rule
  P : (p q : ℕ) → Rule
  Q : (p q : ℕ) → Rule

abbrev pub row : Rule → Row
row (S a b) = record { letter = 83; a = a; b = b; n = 0 }
row (X a b) = record { letter = 88; a = a; b = b; n = 0 }
row (D e b) = record { letter = 68; a = e; b = b; n = 0 }
row (F a e n) = record { letter = 70; a = a; b = e; n = n }
row (K a e n) = record { letter = 75; a = a; b = e; n = n }
row (P p q) = record { letter = 80; a = p; b = q; n = 0 }
row (Q p q) = record { letter = 81; a = p; b = q; n = 0 }

abbrev pub Has : List Row → Rule → Type 0
Has rows ρ = row ρ ∈ rows

abbrev pub arrow : ℕ → ℕ
arrow e = e / 2

abbrev pub side : ℕ → ℕ
side e = e % 2
