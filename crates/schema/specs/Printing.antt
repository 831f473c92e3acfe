-- Printing. For inner contracts: no call's promise rests on it.
--   spliced       a list written over another, from a place on
--   ones_from     where the bytes that are 1 stand
--   listing       the report that lists classes and arrows
--   Printable     a notice whose numbers have four columns at most
--   Begun         a text written over the first bytes
use Rattle.std.specs.Prelude.{◌≡◌, ℕ, ◌+◌, ◌≤◌, cond, List, [], ◌∷◌, ◌++◌, length, take, drop, ◌==◌}
use Rattle.schema.specs.declared.faults.Notice.{Notice}
use Rattle.schema.specs.Texts.{line}
use Rattle.schema.specs.Reports.{name_lines}

abbrev pub spliced : ℕ → List ℕ → List ℕ → List ℕ
spliced at xs bytes = take at bytes ++ (xs ++ drop (at + length xs) bytes)

-- the places, counted from k, of the bytes that are 1
abbrev pub ones_from : ℕ → List ℕ → List ℕ
ones_from k [] = []
ones_from k (b ∷ bs) = cond (b == 1) (k ∷ ones_from (k + 1) bs) (ones_from (k + 1) bs)

-- V and the two counts, then the classes and the arrows
abbrev pub listing : List ℕ → List ℕ → List ℕ
listing classes arrows = line 86 (length classes) (length arrows) 0 ++ (name_lines 67 classes ++ name_lines 65 arrows)

pub record Printable (n : Notice) : Type 0 where
  pub number : n.number ≤ 9999
  pub first : n.first ≤ 9999
  pub second : n.second ≤ 9999

-- the text is as long as the answer says, there is room for it, and the later bytes stay
pub record Begun (text before : List ℕ) (len : ℕ) (after : List ℕ) : Type 0 where
  pub whole : len ≡ length text
  pub short : len ≤ length before
  pub bytes : after ≡ text ++ drop len before
