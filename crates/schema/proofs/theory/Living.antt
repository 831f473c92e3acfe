-- Which individuals live in the one world, and which descriptions are true of them.
use Rattle.std.proofs.Common.{◌≡◌, ℕ, suc, ◌*◌, ◌<◌, ◌≤◌, ◌⊎◌, List, sym, refl, ◌∙◌, subst, inl, inr, arith}
use Rattle.search.specs.Leads.{Leads, stay}
use Rattle.search.proofs.Trails.{leads_both}
use Rattle.schema.specs.declared.row.Row.{Row}
use Rattle.schema.specs.Rows.{AllSound}
use Rattle.schema.specs.Rules.{arrow, side}
use Rattle.schema.specs.Webs.{Description, mark, Link, ArrowLink, Apart, ArrowApart, Clashing, clash, leads, of_end, of_arrow, EmptyArrow}
use Rattle.schema.specs.Questions.{EmptyDescription}
use Rattle.schema.proofs.theory.Ends.{opp, opp_opp, opp_arrow, opp_side, marks_up, marks_down}
use Rattle.schema.proofs.theory.Ways.{leads_point}
use Rattle.schema.proofs.theory.Points.{Point}
use Rattle.schema.proofs.theory.FiniteWebs.{descriptions}
use Rattle.schema.proofs.theory.Individuals.{Ind, root, twin, child, Slot, one, two}

-- two descriptions that lead to a clash
abbrev pub Strife : List Row → Description → Description → Type 0
Strife rows d u = Clashing (Link rows) (Apart rows) d u

-- two arrows that lead to a clash
abbrev pub ArrowStrife : List Row → ℕ → ℕ → Type 0
ArrowStrife rows a b = Clashing (ArrowLink rows) (ArrowApart rows) a b

-- two descriptions that can be true of one individual
pub record Good (c p : ℕ) (rows : List Row) (d u : Description) : Type 0 where
  pub one_point : Point c p d
  pub two_point : Point c p u
  pub one_filled : EmptyDescription rows d → ⊥
  pub two_filled : EmptyDescription rows u → ⊥
  pub agree : Strife rows d u → ⊥

-- two ends whose arrows can have one pair
pub record GoodTwin (p : ℕ) (rows : List Row) (e f : ℕ) : Type 0 where
  pub one_end : e < 2 * p
  pub two_end : f < 2 * p
  pub one_filled : EmptyArrow rows (arrow e) → ⊥
  pub two_filled : EmptyArrow rows (arrow f) → ⊥
  pub arrows_agree : ArrowStrife rows (arrow e) (arrow f) → ⊥
  pub here_agree : Strife rows (mark e 1) (mark f 1) → ⊥
  pub there_agree : Strife rows (mark (opp e) 1) (mark (opp f) 1) → ⊥

-- one of the two descriptions of x leads to d
abbrev pub Under : List Row → Ind → Description → Type 0
Under rows x d = Leads (Link rows) (one x) d ⊎ Leads (Link rows) (two x) d

-- a child lives where its parent does and is counted by a mark of it
abbrev pub Live : ℕ → ℕ → List Row → Ind → Type 0
Live c p rows (root d u) = Good c p rows d u
Live c p rows (twin e f) = GoodTwin p rows e f
Live c p rows (child x e j) = Live c p rows x × (Under rows x (mark e (suc j)) × (Slot x e j → ⊥))

-- the description d is true of x
abbrev pub Is : ℕ → ℕ → List Row → Ind → Description → Type 0
Is c p rows x d = Live c p rows x × Under rows x d

-- g is an end whose pairs are pairs of e
abbrev pub Over : List Row → ℕ → ℕ → Type 0
Over rows g e = (side g ≡ side e) × Leads (ArrowLink rows) (arrow g) (arrow e)

module _ (rows : List Row) where
  -- each end is over itself
  pub over_same : (g e : ℕ) → g ≡ e → Over rows g e
  over_same g e q = subst (λ x. Over rows g x) q (refl, stay)

  -- the other ends of two ends, one over the other, are so too
  pub over_opp : (g e : ℕ) → Over rows g e → Over rows (opp g) (opp e)
  over_opp g e o = (
    opp_side g e o.0,
    subst (λ x. Leads (ArrowLink rows) x (arrow (opp e))) (sym (opp_arrow g))
        (subst (λ x. Leads (ArrowLink rows) (arrow g) x) (sym (opp_arrow e)) o.1),
  )

  -- the same, seen from the other side
  pub over_back : (g e : ℕ) → Over rows g (opp e) → Over rows (opp g) e
  over_back g e o = subst (λ x. Over rows (opp g) x) (opp_opp e) (over_opp g (opp e) o)

  -- what is over an end is over all that the end is over
  pub over_up : (g e f : ℕ) → Over rows g e → Over rows e f → Over rows g f
  over_up g e f o q = (o.0 ∙ q.0, leads_both o.1 q.1)

  -- a description alone is good where it is not empty
  pub good_alone : (c p : ℕ) (d : Description) → Point c p d → (EmptyDescription rows d → ⊥) → Good c p rows d d
  good_alone c p d q h = record { one_point = q; two_point = q; one_filled = h; two_filled = h; agree = λ k. h (clash k) }

module _ (c p : ℕ) (rows : List Row) (sound : AllSound c p rows) where
  -- what two good descriptions lead to is a point
  under_point : (d u v : Description) → Good c p rows d u → Leads (Link rows) d v ⊎ Leads (Link rows) u v → Point c p v
  under_point d u v g (inl l) = leads_point (descriptions c p rows sound) l g.one_point
  under_point d u v g (inr l) = leads_point (descriptions c p rows sound) l g.two_point

  -- it is not empty
  under_filled : (d u v : Description) → Good c p rows d u → Leads (Link rows) d v ⊎ Leads (Link rows) u v → EmptyDescription rows v → ⊥
  under_filled d u v g (inl l) z = g.one_filled (leads l z)
  under_filled d u v g (inr l) z = g.two_filled (leads l z)

  -- no two that they lead to clash
  under_agree : (d u v w : Description) → Good c p rows d u → Leads (Link rows) d v ⊎ Leads (Link rows) u v
      → Leads (Link rows) d w ⊎ Leads (Link rows) u w → Apart rows v w → ⊥
  under_agree d u v w g (inl l) (inl m) a = g.one_filled (clash (v, w, l, m, inl a))
  under_agree d u v w g (inl l) (inr m) a = g.agree (v, w, l, m, inl a)
  under_agree d u v w g (inr l) (inl m) a = g.agree (w, v, m, l, inr a)
  under_agree d u v w g (inr l) (inr m) a = g.two_filled (clash (v, w, l, m, inl a))

  -- the two descriptions of an individual that lives are good
  pub live_good : (x : Ind) → Live c p rows x → Good c p rows (one x) (two x)
  live_good (root d u) g = g
  live_good (twin e f) g =
      record {
        one_point = (g.one_end, omega arith, omega arith);
        two_point = (g.two_end, omega arith, omega arith);
        one_filled = λ z. g.one_filled (of_end z);
        two_filled = λ z. g.two_filled (of_end z);
        agree = g.here_agree;
      }
  live_good (child x e j) (l, (un, s)) =
      let g : Good c p rows (one x) (two x) = live_good x l in
      let pt : Point c p (mark e (suc j)) = under_point (one x) (two x) (mark e (suc j)) g un in
      let low : EmptyDescription rows (mark e 1) → ⊥ =
      λ z. under_filled (one x) (two x) (mark e (suc j)) g un (leads (marks_down e (suc j) 1 (omega arith) (omega arith)) z) in
      good_alone rows c p (mark (opp e) 1) (omega (arith, pt.0), omega arith, omega arith)
      (λ z. low (of_arrow (subst (EmptyArrow rows) (opp_arrow e) (of_end z))))

  -- what is true of an individual is a point
  pub is_point : (x : Ind) (d : Description) → Is c p rows x d → Point c p d
  is_point x d h = under_point (one x) (two x) d (live_good x h.0) h.1

  -- nothing that is true of one is apart from anything that is
  pub is_agree : (x : Ind) (d u : Description) → Is c p rows x d → Is c p rows x u → Apart rows d u → ⊥
  is_agree x d u h k = under_agree (one x) (two x) d u (live_good x h.0) h.1 k.1

  -- what is true of an individual stays true along a way
  pub is_leads : (x : Ind) (d u : Description) → Is c p rows x d → Leads (Link rows) d u → Is c p rows x u
  is_leads x d u (l, inl k) m = (l, inl (leads_both k m))
  is_leads x d u (l, inr k) m = (l, inr (leads_both k m))

  -- so does a mark, for a lower number
  pub is_down : (x : Ind) (e m k : ℕ) → 1 ≤ k → k ≤ m → Is c p rows x (mark e m) → Is c p rows x (mark e k)
  is_down x e m k o l h = is_leads x (mark e m) (mark e k) h (marks_down e m k o l)

  -- and for an end that its end is over
  pub is_up : (x : Ind) (g e m : ℕ) → Over rows g e → Is c p rows x (mark g m) → Is c p rows x (mark e m)
  is_up x g e m o h = is_leads x (mark g m) (mark e m) h (marks_up o.1 g e m refl refl o.0)
