-- Why a description is empty: by what it leads to.
use Rattle.std.proofs.Common.{ℕ, ◌+◌, ◌<◌, ◌⊎◌, List, sym, subst, inl, inr, ⊎_elim, arith}
use Rattle.search.specs.Leads.{Leads, stay}
use Rattle.search.proofs.Trails.{leads_both}
use Rattle.schema.specs.declared.row.Row.{Row}
use Rattle.schema.specs.Rows.{AllSound}
use Rattle.schema.specs.Points.{Placed}
use Rattle.schema.specs.Keys.{descriptions_apart, Reaches, TornBy, keyed, EmptyKeys}
use Rattle.schema.specs.Found.{MarkedEmpty}
use Rattle.schema.specs.Webs.{Description, mark, Link, Apart, Clashing, Name, desc, arr, Empty, clash, leads, clash_arrow, of_end, of_arrow}
use Rattle.schema.proofs.Reach.{leads_placed}
use Rattle.schema.proofs.Signs.{bit_one, bit_holds}
use Rattle.schema.proofs.KeyReach.{keyed_mark, keyed_placed}
use Rattle.schema.proofs.Torn.{torn_clashes, clashes_torn}

module _ (rows : List Row) (sound : AllSound 64 32 rows) where
  -- a description leads to two that clash, or to a key that is empty
  abbrev Why : Description → Type 0
  Why d = Clashing (Link rows) (Apart rows) d d ⊎ ((k : ℕ) × (k < 128) × Leads (Link rows) d (keyed k) × Empty rows (desc (keyed k)))

  -- what leads to a description is empty for the same reason
  longer : {d u : Description} → Leads (Link rows) d u → Why u → Why d
  longer q (inl (x, y, l, m, a)) = inl (x, y, leads_both q l, leads_both q m, a)
  longer q (inr (k, h, l, z)) = inr (k, h, leads_both q l, z)

  abbrev Reason : Name → Type 0
  Reason (desc d) = Placed d → Why d
  Reason (arr p) = Unit {0}

  -- there is such a reason for all that is empty
  reason : {n : Name} → Empty rows n → Reason n
  reason (clash c) = λ h. inl c
  reason (leads l z) = λ h. longer l (reason z (leads_placed rows sound l h))
  reason (clash_arrow c) = tt
  reason (of_end z) = tt
  reason (of_arrow {e} z) =
      λ h. inr (
        64 + e,
        omega (arith, h.0),
        subst (Leads (Link rows) (mark e 1)) (sym (keyed_mark e)) stay,
        subst (λ (d : Description). Empty rows (desc d)) (sym (keyed_mark e)) (of_arrow {e = e} z),
      )

  module _ (d : Description) (marks empty : List ℕ) (told : Reaches rows d marks) (keys : EmptyKeys rows empty) where
    -- where two marked descriptions clash, the start is empty
    pub torn_empties : TornBy descriptions_apart rows marks marks → Empty rows (desc d)
    torn_empties t = clash (torn_clashes rows sound d d marks marks told told t)

    -- and where a key that is empty is marked
    pub marked_empties : MarkedEmpty marks empty → Empty rows (desc d)
    marked_empties m =
        leads (bit_one (told (keyed m.key) (keyed_placed m.key m.small)) m.marked) (bit_one (keys m.key m.small) m.is)

    -- an empty start has one or the other
    pub empty_marked : Placed d → Empty rows (desc d) → TornBy descriptions_apart rows marks marks ⊎ MarkedEmpty marks empty
    empty_marked h z =
        ⊎_elim (λ c. inl (clashes_torn rows sound d d marks marks told told c))
        (λ w. inr (record { key = w.0; small = w.1; marked = bit_holds (told (keyed w.0) (keyed_placed w.0 w.1)) w.2; is = bit_holds (keys w.0 w.1) w.3 }))
        (reason z h)
