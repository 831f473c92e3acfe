-- Deciding what leads to what in a web whose points are listed.
use Rattle.std.proofs.Common.{◌≡◌, zero, suc, ◌⊎◌, List, [], ◌∷◌, refl, sym, subst, inl, inr, le_of_suc-le-suc}
use mathlib.Core.HLevel.{Discrete}
use native.Mathlib.Decide.{map_dec}
use Rattle.search.specs.Leads.{Leads, stay, go}
use Rattle.search.proofs.Trails.{leads_one, leads_both}
use Rattle.schema.specs.Rows.{◌∈◌}
use Rattle.schema.specs.Webs.{Clashing}
use Rattle.schema.proofs.Members.{not_in_empty}
use Rattle.schema.proofs.theory.Deciding.{both?, or?, any?}

module _ {A : Type 0} (R : A → A → Type 0) where
  -- a way from x to y on which every point between is one of ks
  abbrev Via : List A → A → A → Type 0
  Via [] x y = (x ≡ y) ⊎ R x y
  Via (k ∷ ks) x y = Via ks x y ⊎ (Via ks x k × Via ks k y)

  -- from each point to itself
  via_stay : (ks : List A) (x : A) → Via ks x x
  via_stay [] x = inl refl
  via_stay (k ∷ ks) x = inl (via_stay ks x)

  -- by one link
  via_link : (ks : List A) (x y : A) → R x y → Via ks x y
  via_link [] x y l = inr l
  via_link (k ∷ ks) x y l = inl (via_link ks x y l)

  -- two ways join at one of ks
  via_join : (ks : List A) (a b c : A) → b ∈ ks → Via ks a b → Via ks b c → Via ks a c
  via_join [] a b c m p q = absurd (not_in_empty m)
  via_join (k ∷ ks) a b c (zero, l, e) p q = inr (before (subst (λ x. Via (k ∷ ks) a x) (sym e) p), after (subst (λ x. Via (k ∷ ks) x c) (sym e) q))
    where
      before : Via (k ∷ ks) a k → Via ks a k
      before (inl v) = v
      before (inr (v, u)) = v

      after : Via (k ∷ ks) k c → Via ks k c
      after (inl v) = v
      after (inr (v, u)) = u
  via_join (k ∷ ks) a b c (suc n, l, e) (inl p) (inl q) = inl (via_join ks a b c (n, le_of_suc-le-suc l, e) p q)
  via_join (k ∷ ks) a b c (suc n, l, e) (inl p) (inr (q, q')) = inr (via_join ks a b k (n, le_of_suc-le-suc l, e) p q, q')
  via_join (k ∷ ks) a b c (suc n, l, e) (inr (p, p')) (inl q) = inr (p, via_join ks k b c (n, le_of_suc-le-suc l, e) p' q)
  via_join (k ∷ ks) a b c (suc n, l, e) (inr (p, p')) (inr (q, q')) = inr (p, q')

  -- such a way leads
  via_leads : (ks : List A) (x y : A) → Via ks x y → Leads R x y
  via_leads [] x y (inl e) = subst (Leads R x) e stay
  via_leads [] x y (inr l) = leads_one l
  via_leads (k ∷ ks) x y (inl v) = via_leads ks x y v
  via_leads (k ∷ ks) x y (inr (v, u)) = leads_both (via_leads ks x k v) (via_leads ks k y u)

  -- by recursion on ks
  via? : Discrete A → ((x y : A) → Dec (R x y)) → (ks : List A) (x y : A) → Dec (Via ks x y)
  via? d r [] x y = or? (d x y) (r x y)
  via? d r (k ∷ ks) x y = or? (via? d r ks x y) (both? (via? d r ks x k) (λ v. via? d r ks k y))

-- a web whose points are listed, and in which links lead from points to points
pub record Finite {A : Type 0} (R : A → A → Type 0) (Point : A → Type 0) : Type 0 where
  pub points : List A
  pub listed : (x : A) → Point x → x ∈ points
  pub closed : (x y : A) → R x y → Point x → Point y
  pub same? : Discrete A
  pub link? : (x y : A) → Dec (R x y)

module _ {A : Type 0} {R : A → A → Type 0} {Point : A → Type 0} where
  -- a point leads to points only
  pub leads_point : Finite R Point → {x y : A} → Leads R x y → Point x → Point y
  leads_point web stay px = px
  leads_point web (go {x = x} {y = y} l p) px = leads_point web p (web.closed x y l px)

  -- what leads from a point goes by points
  leads_via : (web : Finite R Point) {x z : A} → Leads R x z → Point x → Via R web.points x z
  leads_via web (stay {x}) px = via_stay R web.points x
  leads_via web (go {x = x} {y = y} {z = z} l p) px =
      let py : Point y = web.closed x y l px in
      via_join R web.points x y z (web.listed y py) (via_link R web.points x y l) (leads_via web p py)

  -- whether a point leads to another
  pub leads? : Finite R Point → (x y : A) → Point x → Dec (Leads R x y)
  leads? web x y px = map_dec (via_leads R web.points x y) (λ p. leads_via web p px) (via? R web.same? web.link? web.points x y)

  -- whether two points lead to two that clash
  pub clashing? : Finite R Point → (Ap : A → A → Type 0) → ((x y : A) → Dec (Ap x y)) → (x y : A) → Point x → Point y → Dec (Clashing R Ap x y)
  clashing? web Ap ap? x y px py =
      map_dec (λ t. (t.0, t.1.1.0, t.1.0, t.1.1.1.0, t.1.1.1.1)) (λ t. (t.0, (t.2, (t.1, (t.3, t.4)))))
      (any? {Q = λ u. Leads R x u × ((v : A) × (Leads R y v × (Ap u v ⊎ Ap v u)))}
      (λ u.
      both? (leads? web x u px)
      (λ _.
      any? {Q = λ v. Leads R y v × (Ap u v ⊎ Ap v u)} (λ v. both? (leads? web y v py) (λ _. or? (ap? u v) (ap? v u)))
      web.points
      (λ v q. web.listed v (leads_point web q.0 py))))
      web.points
      (λ u q. web.listed u (leads_point web q.0 px)))
