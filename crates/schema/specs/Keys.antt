-- The descriptions that decide what is empty, and how the code finds it. For inner contracts: no call's promise
-- rests on it.
use Rattle.std.specs.Prelude.{◌≡◌, ℕ, ◌+◌, ◌-◌, ◌/◌, ◌%◌, ◌<◌, ◌≤◌, true, false, cond, ◌⊎◌, List, Some, None, Option, ◌==◌, nat_lt, slice_index, slice_index_or}
use Rattle.search.specs.Leads.{Leads, Joined}
use Rattle.schema.specs.declared.row.Row.{Row}
use Rattle.schema.specs.declared.arrows.Arrows.{Arrows}
use Rattle.schema.specs.declared.descriptions.Descriptions.{Descriptions}
use Rattle.schema.specs.declared.keys.KeyLinks.{KeyLinks}
use Rattle.schema.specs.declared.keys.KeySet.{KeySet}
use Rattle.schema.specs.declared.keys.Keys.{Keys}
use Rattle.schema.specs.declared.keys.Reach.{Reach}
use Rattle.schema.specs.Points.{supers_of, needs_of, counts_of, Built}
use Rattle.schema.specs.Masks.{Member, Gathers, Meet}
use Rattle.schema.specs.Verdicts.{Bit, Tells}
use Rattle.schema.specs.Points.{point, Placed, count}
use Rattle.schema.specs.Rows.{◌∈◌}
use Rattle.schema.specs.Webs.{Description, cls, mark, Link, Apart, ArrowLink, ArrowApart, Clashing, Empty, desc}

-- the links between arrows
abbrev pub Across : Arrows → ℕ → ℕ → Type 0
Across w i j = (i < 32) × Member (slice_index w.overs i) j

-- the marks tell which arrows one leads to
abbrev pub ArrowReaches : List Row → ℕ → List ℕ → Type 0
ArrowReaches rows p marks = (q : ℕ) → q < 32 → Bit (slice_index marks q) (Leads (ArrowLink rows) p q)

-- the marks tell which descriptions one leads to
abbrev pub Reaches : List Row → Description → List ℕ → Type 0
Reaches rows d marks = (u : Description) → Placed u → Bit (slice_index marks (point u)) (Leads (Link rows) d u)

-- an arrow leads to two that clash
abbrev pub ArrowTorn : List Row → ℕ → Type 0
ArrowTorn rows p = Clashing (ArrowLink rows) (ArrowApart rows) p p

-- the two points of the web of arrows that a row sets apart
abbrev pub arrows_apart : Row → Option (ℕ × ℕ)
arrows_apart r = cond (r.letter == 81) (Some (r.a, r.b)) None

-- and those of the web of descriptions
abbrev pub descriptions_apart : Row → Option (ℕ × ℕ)
descriptions_apart r =
    cond (r.letter == 88) (Some (point (cls r.a), point (cls r.b))) (cond (r.letter == 75) (Some (point (cls r.a), point (mark r.b (r.n + 1)))) None)

-- the row sets two points apart, one marked in each table, either way round
pub record BothMarked (points : Row → Option (ℕ × ℕ)) (r : Row) (first second : List ℕ) : Type 0 where
  pub one : ℕ
  pub two : ℕ
  pub apart : points r ≡ Some (one, two)
  pub marked : ((slice_index first one ≡ 1) × (slice_index second two ≡ 1)) ⊎ ((slice_index first two ≡ 1) × (slice_index second one ≡ 1))

-- some row does
pub record TornBy (points : Row → Option (ℕ × ℕ)) (rows : List Row) (first second : List ℕ) : Type 0 where
  pub by : Row
  pub stands : by ∈ rows
  pub both : BothMarked points by first second

-- the classes that cannot share a thing with the class of an X row, or of a K row, by what the rows need
pub data Rival (w : Descriptions) (r : Row) (b : ℕ) : Type 0 where
  apart : r.letter ≡ 88 → b ≡ r.b → Rival w r b
  needs_more : r.letter ≡ 75 → r.n < count (counts_of w.classes) b r.b → Rival w r b

-- the rivals of each class, by the rows
pub record RivalSets (w : Descriptions) (rows : List Row) (sets : List ℕ) : Type 0 where
  pub only : (a b : ℕ) → Member (slice_index sets a) b → (r : Row) × (r ∈ rows) × (r.a ≡ a) × (b < 64) × Rival w r b
  pub all : (r : Row) (b : ℕ) → r ∈ rows → b < 64 → Rival w r b → Member (slice_index sets r.a) b

-- a class and one of its rivals are both in the set
pub record TornSets (sets : List ℕ) (classes : ℕ) : Type 0 where
  pub class : ℕ
  pub small : class < 64
  pub has : Member classes class
  pub meets : Meet (slice_index sets class) classes

-- an end that a key links to: a class by a need, an end by an arrow that its arrow lies in
pub data ForwardEnd (w : KeyLinks) (i e : ℕ) : Type 0 where
  by_need : i < 64 → Member (slice_index (needs_of w.links.now.classes) i) e → ForwardEnd w i e
  by_arrow : 64 ≤ i → i % 2 ≡ e % 2 → e < 64 → Member (slice_index w.links.now.arrows.overs ((i - 64) / 2)) (e / 2) → ForwardEnd w i e

-- a link between keys
pub data Forward (w : KeyLinks) (i j : ℕ) : Type 0 where
  class_class : i < 64 → j < 64 → Member (slice_index (supers_of w.links.now.classes) i) j → Forward w i j
  end_class : 64 ≤ i → i < 128 → j < 64 → Member (slice_index w.links.now.domains (i - 64)) j → Forward w i j
  to_an_end : i < 128 → 64 ≤ j → j < 128 → ForwardEnd w i (j - 64) → Forward w i j

abbrev pub none : KeySet
none = record { classes = 0; ends = 0 }

abbrev pub blank : Reach
blank = record { keys = none; torn = false }

-- a key is in the set
abbrev pub Holds : KeySet → ℕ → Type 0
Holds s j = ((j < 64) × Member s.classes j) ⊎ ((64 ≤ j) × Member s.ends (j - 64))

-- no class and no end has a number from 64 on
abbrev pub Narrow : KeySet → Type 0
Narrow s = (k : ℕ) → (Member s.classes k → k < 64) × (Member s.ends k → k < 64)

-- the same keys, and one more
pub record AddsKey (s : KeySet) (key : ℕ) (r : KeySet) : Type 0 where
  pub narrow : Narrow s → Narrow r
  pub new : Holds r key
  pub kept : (j : ℕ) → Holds s j → Holds r j
  pub only : (j : ℕ) → Holds r j → Holds s j ⊎ (j ≡ key)

-- the same keys, and what lies beyond a key if it is one of them
pub record PassesKey (via : ℕ) (beyond s r : KeySet) : Type 0 where
  pub narrow : Narrow beyond → Narrow s → Narrow r
  pub kept : (j : ℕ) → Holds s j → Holds r j
  pub more : (j : ℕ) → Holds s via → Holds beyond j → Holds r j
  pub only : (j : ℕ) → Holds r j → Holds s j ⊎ (Holds s via × Holds beyond j)

-- a key, what it links to, and no key that it does not lead to
pub record NearKey (w : KeyLinks) (k : ℕ) (s : KeySet) : Type 0 where
  pub narrow : Narrow s
  pub self : Holds s k
  pub all : (j : ℕ) → Joined 128 (Forward w) k j → Holds s j
  pub only : (j : ℕ) → Holds s j → Leads (Joined 128 (Forward w)) k j

-- a link backward: to key j from the point 128, from what j leads to, or from the other end of its arrow
pub data Backward (w : Keys) (i j : ℕ) : Type 0 where
  is_torn : i ≡ 128 → j < 128 → (slice_index_or w.reaches j blank).torn ≡ true → Backward w i j
  to_class : i < 64 → j < 128 → Member (slice_index_or w.reaches j blank).keys.classes i → Backward w i j
  to_end : 64 ≤ i → i < 128 → j < 128 → Member (slice_index_or w.reaches j blank).keys.ends (i - 64) → Backward w i j
  other_end : 64 ≤ i → i < 128 → j < 128 → i / 2 ≡ j / 2 → Backward w i j

-- the description of a key
abbrev pub keyed : ℕ → Description
keyed k = cond (nat_lt k 64) (cls k) (mark (k - 64) 1)

-- a byte for each key, 1 if it is empty
abbrev pub EmptyKeys : List Row → List ℕ → Type 0
EmptyKeys rows bytes = (k : ℕ) → k < 128 → Bit (slice_index bytes k) (Empty rows (desc (keyed k)))

-- a key leads to two that clash, or it is an end whose arrow does
abbrev pub Torn : List Row → ℕ → Type 0
Torn rows k = Clashing (Link rows) (Apart rows) (keyed k) (keyed k) ⊎ ((64 ≤ k) × ArrowTorn rows ((k - 64) / 2))

-- the web of keys, and what clashes in it
pub record KeyBuilt (rows : List Row) (w : KeyLinks) : Type 0 where
  pub links : Built rows w.links.now
  pub rivals : RivalSets w.links.now rows w.rivals
  pub broken : Gathers (ArrowTorn rows) 32 w.broken

-- where the web of keys leads from a key
pub record Led (w : KeyLinks) (k : ℕ) (s : KeySet) : Type 0 where
  pub to_classes : Gathers (λ a. Leads (Joined 128 (Forward w)) k a) 64 s.classes
  pub to_ends : Gathers (λ e. Leads (Joined 128 (Forward w)) k (64 + e)) 64 s.ends

-- and from each
abbrev pub LedTo : KeyLinks → List KeySet → Type 0
LedTo w led = (k : ℕ) → k < 128 → Led w k (slice_index_or led k none)

-- where it leads from a key, and whether what it leads to clashes
pub record Studied (w : KeyLinks) (k : ℕ) (r : Reach) : Type 0 where
  pub led : Led w k r.keys
  pub tears : Tells r.torn (TornSets w.rivals r.keys.classes ⊎ ((64 ≤ k) × Member w.broken ((k - 64) / 2)))

-- what is known of a key
pub record Known (rows : List Row) (k : ℕ) (r : Reach) : Type 0 where
  pub to_classes : Gathers (λ a. Leads (Link rows) (keyed k) (cls a)) 64 r.keys.classes
  pub to_ends : Gathers (λ e. Leads (Link rows) (keyed k) (mark e 1)) 64 r.keys.ends
  pub tears : Tells r.torn (Torn rows k)

-- the first n keys are known
abbrev pub Surveyed : List Row → ℕ → Keys → Type 0
Surveyed rows n w = (k : ℕ) → k < n → Known rows k (slice_index_or w.reaches k blank)
