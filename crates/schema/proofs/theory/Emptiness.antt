-- Being forced empty is leading to a point that is empty at once, in a web with ways across each arrow; so it can be decided.
use Rattle.std.proofs.Common.{◌≡◌, ℕ, ◌*◌, ◌<◌, ◌⊎◌, List, sym, refl, ap, ◌∙◌, subst, inl, inr, arith}
use native.Mathlib.Decide.{map_dec, ℕ_discrete}
use Rattle.search.specs.Leads.{Leads, stay, go}
use Rattle.search.proofs.Trails.{leads_one, leads_both, leads_more}
use Rattle.schema.specs.declared.row.Row.{Row}
use Rattle.schema.specs.Rows.{AllSound}
use Rattle.schema.specs.Rules.{arrow}
use Rattle.schema.specs.Webs.{Description, cls, mark, Link, ArrowLink, Apart, ArrowApart, Clashing, Name, desc, arr}
use Rattle.schema.specs.Webs.{Empty, clash, leads, clash_arrow, of_end, of_arrow, EmptyArrow}
use Rattle.schema.specs.Questions.{EmptyDescription}
use Rattle.schema.proofs.theory.Ends.{opp, opp_opp, opp_arrow, either_end}
use Rattle.schema.proofs.theory.Deciding.{both?, or?, any?}
use Rattle.schema.proofs.theory.Ways.{Finite, leads?, leads_point}
use Rattle.schema.proofs.theory.Telling.{description_discrete}
use Rattle.schema.proofs.theory.Points.{Point, point?, points_of, points_in}
use Rattle.schema.proofs.theory.FiniteWebs.{link?, link_point, description_clash?, arrow_clash?}

-- the way from one end of an arrow across to the other
pub data Cross : Description → Description → Type 0 where
  cross : {e : ℕ} → Cross (mark e 1) (mark (opp e) 1)

-- such a way joins two marks with number 1
cross_of : {e m f k : ℕ} → Cross (mark e m) (mark f k) → (m ≡ 1) × ((k ≡ 1) × (f ≡ opp e))
cross_of cross = (refl, (refl, refl))

-- it ends in no class
no_cross : {d : Description} {b : ℕ} → Cross d (cls b) → ⊥
no_cross q = elim q [ ]

-- whether there is such a way
cross? : (d u : Description) → Dec (Cross d u)
cross? (cls a) u = no (λ q. elim q [ ])
cross? (mark e m) (cls b) = no no_cross
cross? (mark e m) (mark f k) =
    map_dec
    (λ t.
    subst (λ x. Cross (mark e x) (mark f k)) (sym t.0)
    (subst (λ x. Cross (mark e 1) (mark f x)) (sym t.1.0) (subst (λ x. Cross (mark e 1) (mark x 1)) (sym t.1.1) cross)))
    cross_of
    (both? (ℕ_discrete m 1) (λ _. both? (ℕ_discrete k 1) (λ _. ℕ_discrete f (opp e))))

-- a link of the web of descriptions, or a way across
abbrev pub Wide : List Row → Description → Description → Type 0
Wide rows d u = Link rows d u ⊎ Cross d u

-- a point that is empty at once: by a clash, or by a clash of its arrow
pub data Torn (rows : List Row) : Description → Type 0 where
  torn : {d : Description} → Clashing (Link rows) (Apart rows) d d → Torn rows d
  torn_arrow : {e : ℕ} → Clashing (ArrowLink rows) (ArrowApart rows) (arrow e) (arrow e) → Torn rows (mark e 1)

-- a description that leads to such a point
abbrev pub Doomed : List Row → Description → Type 0
Doomed rows d = (b : Description) × (Leads (Wide rows) d b × Torn rows b)

-- the same of a name: an arrow is doomed where both its ends are
abbrev Fate : List Row → Name → Type 0
Fate rows (desc d) = Doomed rows d
Fate rows (arr q) = (e : ℕ) → arrow e ≡ q → Doomed rows (mark e 1)

module _ {rows : List Row} where
  -- both ends of an arrow are empty together
  across_empty : {d u : Description} → Cross d u → EmptyDescription rows u → EmptyDescription rows d
  across_empty (cross {e}) z = of_arrow (subst (EmptyArrow rows) (opp_arrow e) (of_end z))

  -- what leads to a torn point is empty
  pub doomed_empty : {d b : Description} → Leads (Wide rows) d b → Torn rows b → EmptyDescription rows d
  doomed_empty stay (torn k) = clash k
  doomed_empty stay (torn_arrow {e} k) = of_arrow (clash_arrow k)
  doomed_empty (go (inl l) q) z = leads (leads_one l) (doomed_empty q z)
  doomed_empty (go (inr x) q) z = across_empty x (doomed_empty q z)

  -- what is empty leads to a torn point
  empty_fate : {n : Name} → Empty rows n → Fate rows n
  empty_fate (clash {d} k) = (d, (stay, torn k))
  empty_fate (leads l z) =
      let r : Doomed rows _ = empty_fate z in (r.0, (leads_both (leads_more (λ a b x. inl x) l) r.1.0, r.1.1))
  empty_fate (clash_arrow {p = q} k) =
      λ e s. (mark e 1, (stay, torn_arrow (subst (λ x. Clashing (ArrowLink rows) (ArrowApart rows) x x) (sym s) k)))
  empty_fate (of_end {e} z) = λ f s. other (empty_fate z) f (either_end f e s)
    where
      other : Doomed rows (mark e 1) → (f : ℕ) → (f ≡ e) ⊎ (f ≡ opp e) → Doomed rows (mark f 1)
      other r f (inl q) = subst (λ x. Doomed rows (mark x 1)) (sym q) r
      other r f (inr q) =
          (r.0, (go (inr (subst (λ x. Cross (mark f 1) (mark x 1)) (ap opp q ∙ opp_opp e) cross)) r.1.0, r.1.1))
  empty_fate (of_arrow {e} z) = empty_fate z e refl

  -- the same, said of a description
  pub empty_doomed : {d : Description} → EmptyDescription rows d → Doomed rows d
  empty_doomed z = empty_fate z

module _ (c p : ℕ) (rows : List Row) (sound : AllSound c p rows) where
  -- a way across leads from a point to a point
  across_point : {d u : Description} → Cross d u → Point c p d → Point c p u
  across_point (cross {e}) h = (omega arith, h.1, h.2)

  -- the web with ways across
  wide : Finite (Wide rows) (Point c p)
  wide =
      record {
        points = points_of c p;
        listed = points_in c p;
        closed = λ d u l q. elim l [ inl k ↦ link_point c p rows sound k q | inr x ↦ across_point x q ];
        same? = description_discrete;
        link? = λ d u. or? (link? rows d u) (cross? d u);
      }

  -- whether a point is torn
  torn? : (d : Description) → Point c p d → Dec (Torn rows d)
  torn? (cls a) h = map_dec torn only (description_clash? c p rows sound (cls a) (cls a) h h)
    where
      only : Torn rows (cls a) → Clashing (Link rows) (Apart rows) (cls a) (cls a)
      only (torn k) = k
  torn? (mark e m) h =
      map_dec back parts
      (or? (description_clash? c p rows sound (mark e m) (mark e m) h h)
      (both? (ℕ_discrete m 1) (λ _. arrow_clash? c p rows sound (arrow e) (arrow e) (omega arith) (omega arith))))
    where
      back : Clashing (Link rows) (Apart rows) (mark e m) (mark e m) ⊎ ((m ≡ 1) × Clashing (ArrowLink rows) (ArrowApart rows) (arrow e) (arrow e))
          → Torn rows (mark e m)
      back (inl k) = torn k
      back (inr (q, k)) = subst (λ x. Torn rows (mark e x)) (sym q) (torn_arrow k)

      parts : {f k : ℕ} → Torn rows (mark f k)
          → Clashing (Link rows) (Apart rows) (mark f k) (mark f k) ⊎ ((k ≡ 1) × Clashing (ArrowLink rows) (ArrowApart rows) (arrow f) (arrow f))
      parts (torn k) = inl k
      parts (torn_arrow k) = inr (refl, k)

  -- whether a description is empty
  pub description_empty? : (d : Description) → Point c p d → Dec (EmptyDescription rows d)
  description_empty? d h =
      map_dec (λ t. doomed_empty t.1.0 t.1.1.1)
      (λ z. let r : Doomed rows d = empty_doomed z in (r.0, (r.1.0, (leads_point wide r.1.0 h, r.1.1))))
      (any? {Q = λ b. Leads (Wide rows) d b × (Point c p b × Torn rows b)}
      (λ b. both? (leads? wide d b h) (λ _. both? (point? c p b) (λ q. torn? b q)))
      (points_of c p)
      (λ b q. points_in c p b q.1.0))

  -- whether an arrow is empty
  pub arrow_empty? : (a : ℕ) → a < p → Dec (EmptyArrow rows a)
  arrow_empty? a h =
      map_dec (λ z. subst (EmptyArrow rows) (omega arith) (of_end z))
      (λ z. of_arrow (subst (EmptyArrow rows) (omega arith) z))
      (description_empty? (mark (2 * a) 1) (omega arith, omega arith, omega arith))
