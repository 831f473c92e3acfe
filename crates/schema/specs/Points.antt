-- The links that the code follows between the 2,048 points. For inner contracts: no call's promise rests on it.
use Rattle.std.specs.Prelude.{◌≡◌, ℕ, ◌+◌, ◌*◌, ◌/◌, ◌%◌, ◌<◌, ◌≤◌, cond, max, List, [], map, ◌==◌, slice_index, slice_index_or}
use Rattle.schema.specs.declared.descriptions.Descriptions.{Descriptions}
use Rattle.schema.specs.declared.descriptions.class.Class.{Class}
use Rattle.schema.specs.declared.row.Row.{Row}
use Rattle.schema.specs.Masks.{Member, Strided}
use Rattle.schema.specs.Rows.{◌∈◌}
use Rattle.schema.specs.Webs.{Description, cls, mark}

-- the point of a description
abbrev pub point : Description → ℕ
point (cls a) = 32 * a
point (mark e m) = 32 * e + m

-- the descriptions that have a point
abbrev pub Placed : Description → Type 0
Placed (cls a) = a < 64
Placed (mark e m) = (e < 64) × (1 ≤ m) × (m ≤ 31)

-- the description at a point
abbrev pub described : ℕ → Description
described i = cond (i % 32 == 0) (cls (i / 32)) (mark (i / 32) (i % 32))

-- the three tables by class
abbrev pub supers_of : List Class → List ℕ
supers_of classes = map (λ c. c.supers) classes

abbrev pub needs_of : List Class → List ℕ
needs_of classes = map (λ c. c.needs) classes

abbrev pub counts_of : List Class → List (List ℕ)
counts_of classes = map (λ c. c.counts) classes

-- how often class a needs the end e, at most
abbrev pub count : List (List ℕ) → ℕ → ℕ → ℕ
count counts a e = slice_index (slice_index_or counts a []) e

-- the same counts, but for that of an end, which is at least n
pub record Raised (old : List ℕ) (end n : ℕ) (new : List ℕ) : Type 0 where
  pub here : slice_index new end ≡ max (slice_index old end) n
  pub there : (e : ℕ) → (e ≡ end → ⊥) → slice_index new e ≡ slice_index old e

-- j is the mark that a class needs at an end of the set
pub record ToNeeds (set : ℕ) (counts : List ℕ) (j : ℕ) : Type 0 where
  pub end : ℕ
  pub small : end < 64
  pub member : Member set end
  pub is : j ≡ 32 * end + slice_index counts end

-- a link from class x, where m is 0, or else from mark (x, m)
pub data Ways (w : Descriptions) (x m j : ℕ) : Type 0 where
  up : m ≡ 0 → Strided (slice_index (supers_of w.classes) x) 32 0 j → Ways w x m j
  need : m ≡ 0 → ToNeeds (slice_index (needs_of w.classes) x) (slice_index_or (counts_of w.classes) x []) j → Ways w x m j
  domain : m ≡ 1 → Strided (slice_index w.domains x) 32 0 j → Ways w x m j
  below : 2 ≤ m → j + 1 ≡ 32 * x + m → Ways w x m j
  along : 1 ≤ m → Strided (slice_index w.arrows.overs (x / 2)) 64 (32 * (x % 2) + m) j → Ways w x m j

abbrev pub Onward : Descriptions → ℕ → ℕ → Type 0
Onward w i j = (i < 2048) × Ways w (i / 32) (i % 32) j

-- a row whose third number is 0
abbrev pub plain : ℕ → ℕ → ℕ → Row
plain letter a b = record { letter = letter; a = a; b = b; n = 0 }

-- the sets say which rows of a letter there are
pub record Told (letter : ℕ) (sets : List ℕ) (rows : List Row) : Type 0 where
  pub only : (a b : ℕ) → Member (slice_index sets a) b → plain letter a b ∈ rows
  pub all : (a b : ℕ) → plain letter a b ∈ rows → Member (slice_index sets a) b

-- the sets say at which ends a class needs something, and the counts how much at most
pub record Needed (sets : List ℕ) (counts : List (List ℕ)) (rows : List Row) : Type 0 where
  pub some : (a e : ℕ) → e < 64 → Member (slice_index sets a) e → 0 < count counts a e
  pub only : (a e : ℕ) → e < 64 → 0 < count counts a e → record { letter = 70; a = a; b = e; n = count counts a e } ∈ rows
  pub all : (a e n : ℕ) → record { letter = 70; a = a; b = e; n = n } ∈ rows → Member (slice_index sets a) e × (n ≤ count counts a e)

-- the web holds the links of the rows
pub record Built (rows : List Row) (w : Descriptions) : Type 0 where
  pub supers : Told 83 (supers_of w.classes) rows
  pub domains : Told 68 w.domains rows
  pub overs : Told 80 w.arrows.overs rows
  pub needs : Needed (needs_of w.classes) (counts_of w.classes) rows
