-- The two webs of a list of rows, what clashes in them, and what is forced empty.
--   Description   being in a class, or having an end at least m times
--   Link          the web of descriptions
--   ArrowLink     the web of arrows
--   Apart         descriptions that clash
--   ArrowApart    arrows that clash
--   Clashing      two points lead to two that clash, one from each
--   Empty         the least choice of what is empty
--   Alone         no other arrow leads to an arrow
use Rattle.std.specs.Prelude.{◌≡◌, ℕ, ◌<◌, ◌≤◌, ◌⊎◌, List}
use Rattle.search.specs.Leads.{Leads}
use Rattle.schema.specs.declared.row.Row.{Row}
use Rattle.schema.specs.Rules.{S, X, D, F, K, P, Q, Has, arrow, side}

pub data Description : Type 0 where
  cls : (a : ℕ) → Description
  mark : (e m : ℕ) → Description

pub data Link (rows : List Row) : Description → Description → Type 0 where
  by_S : {a b : ℕ} → Has rows (S a b) → Link rows (cls a) (cls b)
  by_F : {a e n : ℕ} → Has rows (F a e n) → Link rows (cls a) (mark e n)
  by_D : {e b : ℕ} → Has rows (D e b) → Link rows (mark e 1) (cls b)
  down : {e m k : ℕ} → 1 ≤ k → k < m → Link rows (mark e m) (mark e k)
  by_P : {e f m : ℕ} → Has rows (P (arrow e) (arrow f)) → side e ≡ side f → Link rows (mark e m) (mark f m)

abbrev pub ArrowLink : List Row → ℕ → ℕ → Type 0
ArrowLink rows p q = Has rows (P p q)

-- said in one order; what is apart clashes either way round
pub data Apart (rows : List Row) : Description → Description → Type 0 where
  by_X : {a b : ℕ} → Has rows (X a b) → Apart rows (cls a) (cls b)
  by_K : {a e n m : ℕ} → Has rows (K a e n) → n < m → Apart rows (cls a) (mark e m)

abbrev pub ArrowApart : List Row → ℕ → ℕ → Type 0
ArrowApart rows p q = Has rows (Q p q)

abbrev pub Clashing : {A : Type 0} (Link Apart : A → A → Type 0) → A → A → Type 0
Clashing {A} Link Apart x y = (u v : A) × Leads Link x u × Leads Link y v × (Apart u v ⊎ Apart v u)

-- what may be empty: a description or an arrow
pub data Name : Type 0 where
  desc : Description → Name
  arr : ℕ → Name

pub data Empty (rows : List Row) : Name → Type 0 where
  clash : {d : Description} → Clashing (Link rows) (Apart rows) d d → Empty rows (desc d)
  leads : {d u : Description} → Leads (Link rows) d u → Empty rows (desc u) → Empty rows (desc d)
  clash_arrow : {p : ℕ} → Clashing (ArrowLink rows) (ArrowApart rows) p p → Empty rows (arr p)
  of_end : {e : ℕ} → Empty rows (desc (mark e 1)) → Empty rows (arr (arrow e))
  of_arrow : {e : ℕ} → Empty rows (arr (arrow e)) → Empty rows (desc (mark e 1))

abbrev pub EmptyClass : List Row → ℕ → Type 0
EmptyClass rows a = Empty rows (desc (cls a))

abbrev pub EmptyArrow : List Row → ℕ → Type 0
EmptyArrow rows p = Empty rows (arr p)

abbrev pub Alone : List Row → ℕ → Type 0
Alone rows p = (q : ℕ) → Leads (ArrowLink rows) q p → q ≡ p
