-- The two webs of sound rows: what leads to what in them, and what clashes, can be decided.
use Rattle.std.proofs.Common.{◌≡◌, ℕ, ◌<◌, ◌≤◌, ◌⊎◌, List, sym, refl, subst, inl, inr, arith}
use native.Mathlib.Decide.{map_dec, dec_le, dec_lt, ℕ_discrete}
use Rattle.search.specs.Leads.{Leads}
use Rattle.schema.specs.declared.row.Row.{Row}
use Rattle.schema.specs.Rows.{AllSound}
use Rattle.schema.specs.Rules.{S, X, D, F, K, P, Q, row, Has, arrow, side}
use Rattle.schema.specs.Webs.{Description, cls, mark, Link, by_S, by_F, by_D, down, by_P, ArrowLink, Apart, by_X, by_K, ArrowApart, Clashing}
use Rattle.schema.proofs.theory.Deciding.{both?, or?, any?, below, below_in}
use Rattle.schema.proofs.theory.Ways.{Finite, leads?, clashing?}
use Rattle.schema.proofs.theory.Telling.{description_discrete, has?}
use Rattle.schema.proofs.theory.Points.{Point, points_of, points_in}

-- the two kinds of links between marks
abbrev Steps : List Row → ℕ → ℕ → ℕ → ℕ → Type 0
Steps rows e m f k = ((e ≡ f) × ((1 ≤ k) × (k < m))) ⊎ ((m ≡ k) × (Has rows (P (arrow e) (arrow f)) × (side e ≡ side f)))

module _ {rows : List Row} where
  -- a link from a class to a class is an S row
  S_of : {a b : ℕ} → Link rows (cls a) (cls b) → Has rows (S a b)
  S_of (by_S h) = h

  -- a link from a class to a mark is an F row
  F_of : {a e n : ℕ} → Link rows (cls a) (mark e n) → Has rows (F a e n)
  F_of (by_F h) = h

  -- a link from a mark to a class is a D row, and the mark's number 1
  D_of : {e m b : ℕ} → Link rows (mark e m) (cls b) → (m ≡ 1) × Has rows (D e b)
  D_of (by_D h) = (refl, h)

  -- a link from a mark to a mark goes down, or by a P row
  steps_of : {e m f k : ℕ} → Link rows (mark e m) (mark f k) → Steps rows e m f k
  steps_of (down o l) = inl (refl, (o, l))
  steps_of (by_P h s) = inr (refl, (h, s))

  -- and each of these is a link
  link_of : (e m f k : ℕ) → Steps rows e m f k → Link rows (mark e m) (mark f k)
  link_of e m f k (inl (q, (o, l))) = subst (λ x. Link rows (mark e m) (mark x k)) q (down o l)
  link_of e m f k (inr (q, (h, s))) = subst (λ x. Link rows (mark e m) (mark f x)) q (by_P h s)

  -- two classes are apart by an X row
  X_of : {a b : ℕ} → Apart rows (cls a) (cls b) → Has rows (X a b)
  X_of (by_X h) = h

  -- a class and a mark are apart by a K row with a lower number
  K_of : {a e m : ℕ} → Apart rows (cls a) (mark e m) → (n : ℕ) × (Has rows (K a e n) × (n < m))
  K_of (by_K {n} h l) = (n, (h, l))

  -- no mark comes first of two that are apart
  not_mark : {e m : ℕ} {u : Description} → Apart rows (mark e m) u → ⊥
  not_mark q = elim q [ ]

-- whether there is a link
pub link? : (rows : List Row) (d u : Description) → Dec (Link rows d u)
link? rows (cls a) (cls b) = map_dec by_S S_of (has? rows (S a b))
link? rows (cls a) (mark e n) = map_dec by_F F_of (has? rows (F a e n))
link? rows (mark e m) (cls b) =
    map_dec (λ t. subst (λ x. Link rows (mark e x) (cls b)) (sym t.0) (by_D t.1)) D_of
    (both? (ℕ_discrete m 1) (λ _. has? rows (D e b)))
link? rows (mark e m) (mark f k) =
    map_dec (link_of e m f k) steps_of
    (or? (both? (ℕ_discrete e f) (λ _. both? (dec_le 1 k) (λ _. dec_lt k m)))
    (both? (ℕ_discrete m k) (λ _. both? (has? rows (P (arrow e) (arrow f))) (λ _. ℕ_discrete (side e) (side f)))))

-- whether two descriptions are apart
pub apart? : (rows : List Row) (d u : Description) → Dec (Apart rows d u)
apart? rows (cls a) (cls b) = map_dec by_X X_of (has? rows (X a b))
apart? rows (cls a) (mark e m) =
    map_dec (λ t. by_K t.1.0 t.1.1) K_of
    (any? {Q = λ n. Has rows (K a e n) × (n < m)} (λ n. both? (has? rows (K a e n)) (λ _. dec_lt n m)) (below m) (λ n q. below_in m n q.1))
apart? rows (mark e m) u = no not_mark

module _ (c p : ℕ) (rows : List Row) (sound : AllSound c p rows) where
  -- a link of sound rows leads from points to points
  pub link_point : {d u : Description} → Link rows d u → Point c p d → Point c p u
  link_point (by_S {a} {b} h) q = (sound (row (S a b)) h).1
  link_point (by_F {a} {e} {n} h) q = let r = sound (row (F a e n)) h in (r.1, r.2, omega (arith, r.3))
  link_point (by_D {e} {b} h) q = (sound (row (D e b)) h).1
  link_point (down {e} {m} {k} o l) q = (q.0, o, omega arith)
  link_point (by_P {e} {f} {m} h s) q = let r = sound (row (P (arrow e) (arrow f))) h in (omega (arith, r.1), q.1, q.2)

  -- the web of descriptions
  pub descriptions : Finite (Link rows) (Point c p)
  descriptions =
      record {
        points = points_of c p;
        listed = points_in c p;
        closed = λ x y l. link_point l;
        same? = description_discrete;
        link? = link? rows;
      }

  -- the web of arrows
  pub arrows : Finite (ArrowLink rows) (λ a. a < p)
  arrows =
      record {
        points = below p;
        listed = below_in p;
        closed = λ x y l _. (sound (row (P x y)) l).1;
        same? = ℕ_discrete;
        link? = λ x y. has? rows (P x y);
      }

  -- whether a description leads to another
  pub description_leads? : (d u : Description) → Point c p d → Dec (Leads (Link rows) d u)
  description_leads? = leads? descriptions

  -- whether an arrow leads to another
  pub arrow_leads? : (a b : ℕ) → a < p → Dec (Leads (ArrowLink rows) a b)
  arrow_leads? = leads? arrows

  -- whether two descriptions lead to a clash
  pub description_clash? : (d u : Description) → Point c p d → Point c p u → Dec (Clashing (Link rows) (Apart rows) d u)
  description_clash? = clashing? descriptions (Apart rows) (apart? rows)

  -- whether two arrows lead to a clash
  pub arrow_clash? : (a b : ℕ) → a < p → b < p → Dec (Clashing (ArrowLink rows) (ArrowApart rows) a b)
  arrow_clash? = clashing? arrows (ArrowApart rows) (λ x y. has? rows (Q x y))
