-- What the marks of a search say: where the rows lead from its start.
use Rattle.std.proofs.Common.{◌≡◌, ℕ, List, get_or, subst}
use Rattle.search.specs.Leads.{Leads, stay, go, Joined, Marked}
use Rattle.schema.specs.declared.row.Row.{Row}
use Rattle.schema.specs.declared.arrows.Arrows.{Arrows}
use Rattle.schema.specs.declared.descriptions.Descriptions.{Descriptions}
use Rattle.schema.specs.Rows.{AllSound}
use Rattle.schema.specs.Rules.{P, row}
use Rattle.schema.specs.Points.{point, Placed, Told, Onward, Built}
use Rattle.schema.specs.Keys.{Across, ArrowReaches, Reaches}
use Rattle.schema.specs.Webs.{Description, ArrowLink}
use Rattle.schema.proofs.Reach.{point_below, reach_sound, reach_complete}
use Rattle.schema.proofs.Signs.{bit_same}

-- the web of arrows leads as the rows do
module _ (rows : List Row) (w : Arrows) (told : Told 80 w.overs rows) (sound : AllSound 64 32 rows) where
  -- what the code's web leads to, the rows lead to
  arrows_sound : {i j : ℕ} → Leads (Joined 32 (Across w)) i j → Leads (ArrowLink rows) i j
  arrows_sound stay = stay
  arrows_sound (go {x = x} {y = y} s p) = go (told.only x y s.2.1) (arrows_sound p)

  -- and the other way round
  arrows_complete : {i j : ℕ} → Leads (ArrowLink rows) i j → Leads (Joined 32 (Across w)) i j
  arrows_complete stay = stay
  arrows_complete (go {x = x} {y = y} l p) =
      let r = sound (row (P x y)) l in
      go (r.0, r.1, (r.0, told.all x y l)) (arrows_complete p)

  -- the marks from an arrow
  pub arrow_reaches : (p : ℕ) (marks : List ℕ) → Marked 32 (Across w) p marks → ArrowReaches rows p marks
  arrow_reaches p marks m q l = bit_same (get_or marks q 0) arrows_sound arrows_complete (m q l)

-- the marks from a description
module _ (rows : List Row) (w : Descriptions) (built : Built rows w) (sound : AllSound 64 32 rows) where
  -- from its point
  pub reaches_from : (d : Description) → Placed d → (from : ℕ) → from ≡ point d → (marks : List ℕ) → Marked 2048 (Onward w) from marks → Reaches rows d marks
  reaches_from d h from e marks m u k =
      bit_same (get_or marks (point u) 0) (reach_sound rows w built sound d u h k) (λ l. reach_complete rows w built sound l h)
      (subst (λ (i : ℕ). Marked 2048 (Onward w) i marks) e m (point u) (point_below u k))
