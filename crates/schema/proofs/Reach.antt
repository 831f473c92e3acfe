-- The web that the code follows leads where the web of the rows leads.
use Rattle.std.proofs.Common.{◌≡◌, ℕ, zero, suc, ◌+◌, ◌-◌, ◌*◌, ◌/◌, ◌%◌, ◌<◌, ◌≤◌, List, sym, refl, ap, subst, arith}
use Rattle.search.specs.Leads.{Leads, stay, go, Joined}
use Rattle.search.proofs.Trails.{leads_one, leads_both}
use Rattle.schema.specs.declared.row.Row.{Row}
use Rattle.schema.specs.declared.descriptions.Descriptions.{Descriptions}
use Rattle.schema.specs.Rows.{AllSound}
use Rattle.schema.specs.Rules.{S, D, F, P, row, Has, arrow, side}
use Rattle.schema.specs.Points.{point, Placed, count, counts_of, Ways, up, need, domain, below, along, Onward, Built}
use Rattle.schema.specs.Webs.{Description, cls, mark, Link, by_S, by_F, by_D, down, by_P}

pub point_below : (d : Description) → Placed d → point d < 2048
point_below (cls a) h = omega arith
point_below (mark e m) h = omega arith

-- two descriptions never share a point
pub point_injective : (d u : Description) → Placed d → Placed u → point d ≡ point u → d ≡ u
point_injective (cls a) (cls b) h k e = ap cls (omega arith)
point_injective (cls a) (mark e m) h k x = absurd (omega arith)
point_injective (mark e m) (cls b) h k x = absurd (omega arith)
point_injective (mark e m) (mark f n) h k x =
    let p : e ≡ f = omega arith in
    let q : m ≡ n = omega arith in
    λ i. mark (p i) (q i)

-- links of sound rows lead from descriptions that have a point to such
module _ (rows : List Row) (sound : AllSound 64 32 rows) where
  pub link_placed : {d u : Description} → Link rows d u → Placed d → Placed u
  link_placed (by_S {a} {b} h) k = (sound (row (S a b)) h).1
  link_placed (by_F {a} {e} {n} h) k = let r = sound (row (F a e n)) h in (omega (arith, r.1), r.2, omega (arith, r.3))
  link_placed (by_D {e} {b} h) k = (sound (row (D e b)) h).1
  link_placed (down {e} {m} {k = n} o l) k = (k.0, o, omega arith)
  link_placed (by_P {e} {f} {m} h s) k = let r = sound (row (P (arrow e) (arrow f))) h in (omega (arith, r.1), k.1, k.2)

  pub leads_placed : {d u : Description} → Leads (Link rows) d u → Placed d → Placed u
  leads_placed stay h = h
  leads_placed (go l p) h = leads_placed p (link_placed l h)

module _ (rows : List Row) (w : Descriptions) (built : Built rows w) (sound : AllSound 64 32 rows) where
  abbrev Step : ℕ → ℕ → Type 0
  Step = Joined 2048 (Onward w)

  -- where a link of the code leads: to the point of a description that the rows link to
  pub record Target (d : Description) (j : ℕ) : Type 0 where
    pub to : Description
    pub placed : Placed to
    pub is : j ≡ point to
    pub linked : Link rows d to

  from_class_lem : (a j : ℕ) → Ways w a 0 j → Target (cls a) j
  from_class_lem a j (up e t) =
      let has = built.supers.only a t.block t.member in
      record { to = cls t.block; placed = (sound (row (S a t.block)) has).1; is = omega (arith, t.is); linked = by_S has }
  from_class_lem a j (need e t) =
      let n = count (counts_of w.classes) a t.end in
      let pos : 0 < n = built.needs.some a t.end t.small t.member in
      let has : Has rows (F a t.end n) = built.needs.only a t.end t.small pos in
      let r = sound (row (F a t.end n)) has in
      record { to = mark t.end n; placed = (t.small, pos, omega (arith, r.3)); is = t.is; linked = by_F has }
  from_class_lem a j (domain e t) = absurd (omega arith)
  from_class_lem a j (below h e) = absurd (omega arith)
  from_class_lem a j (along h t) = absurd (omega arith)

  from_mark_lem : (e m j : ℕ) → Placed (mark e m) → Ways w e m j → Target (mark e m) j
  from_mark_lem e m j h (up z t) = absurd (omega arith)
  from_mark_lem e m j h (need z t) = absurd (omega arith)
  from_mark_lem e m j h (domain z t) =
      let has = built.domains.only e t.block t.member in
      record {
        to = cls t.block;
        placed = (sound (row (D e t.block)) has).1;
        is = omega (arith, t.is);
        linked = subst (λ (x : ℕ). Link rows (mark e x) (cls t.block)) (sym z) (by_D has);
      }
  from_mark_lem e m j h (below l z) =
      record { to = mark e (m - 1); placed = (h.0, omega arith, omega arith); is = omega arith; linked = down (omega arith) (omega arith) }
  from_mark_lem e m j h (along l t) =
      let f = 2 * t.block + side e in
      let has : Has rows (P (arrow e) t.block) = built.overs.only (arrow e) t.block t.member in
      let small = (sound (row (P (arrow e) t.block)) has).1 in
      let q : t.block ≡ arrow f = omega arith in
      record {
        to = mark f m;
        placed = (omega (arith, small), h.1, h.2);
        is = omega (arith, t.is);
        linked = by_P {e = e} {f = f} {m = m} (subst (λ (x : ℕ). Has rows (P (arrow e) x)) q has) (omega arith);
      }

  target : (d : Description) (i j : ℕ) → Placed d → i ≡ point d → Onward w i j → Target d j
  target (cls a) i j h e o =
      let x : i / 32 ≡ a = omega arith in
      let y : i % 32 ≡ 0 = omega arith in
      from_class_lem a j (subst (λ (z : ℕ). Ways w a z j) y (subst (λ (z : ℕ). Ways w z (i % 32) j) x o.1))
  target (mark e m) i j h q o =
      let x : i / 32 ≡ e = omega arith in
      let y : i % 32 ≡ m = omega arith in
      from_mark_lem e m j h (subst (λ (z : ℕ). Ways w e z j) y (subst (λ (z : ℕ). Ways w z (i % 32) j) x o.1))

  pub record Arrival (d : Description) (j : ℕ) : Type 0 where
    pub to : Description
    pub placed : Placed to
    pub is : j ≡ point to
    pub reached : Leads (Link rows) d to

  arrives : (d : Description) {i k : ℕ} → Placed d → i ≡ point d → Leads Step i k → Arrival d k
  arrives d h e stay = record { to = d; placed = h; is = e; reached = stay }
  arrives d h e (go {x = i} {y = j} s p) =
      let t : Target d j = target d i j h e s.2 in
      let a : Arrival t.to _ = arrives t.to t.placed t.is p in
      record { to = a.to; placed = a.placed; is = a.is; reached = go t.linked a.reached }

  -- what the code's web leads to, the rows' web leads to
  pub reach_sound : (d u : Description) → Placed d → Placed u → Leads Step (point d) (point u) → Leads (Link rows) d u
  reach_sound d u h k p =
      let a : Arrival d (point u) = arrives d h refl p in
      subst (Leads (Link rows) d) (sym (point_injective u a.to k a.placed a.is)) a.reached

  step_from_class : (a j : ℕ) → a < 64 → j < 2048 → Ways w a 0 j → Step (32 * a) j
  step_from_class a j h l o =
      let x : a ≡ 32 * a / 32 = omega arith in
      let y : 0 ≡ 32 * a % 32 = omega arith in
      (omega arith, l, (omega arith, subst (λ (z : ℕ). Ways w (32 * a / 32) z j) y (subst (λ (z : ℕ). Ways w z 0 j) x o)))

  step_from_mark : (e m j : ℕ) → Placed (mark e m) → j < 2048 → Ways w e m j → Step (32 * e + m) j
  step_from_mark e m j h l o =
      let x : e ≡ (32 * e + m) / 32 = omega arith in
      let y : m ≡ (32 * e + m) % 32 = omega arith in
      (omega arith, l, (omega arith, subst (λ (z : ℕ). Ways w ((32 * e + m) / 32) z j) y (subst (λ (z : ℕ). Ways w z m j) x o)))

  -- a mark leads down to each lower one
  lower : (e k t : ℕ) → e < 64 → 1 ≤ k → k + t ≤ 31 → Leads Step (point (mark e (k + t))) (point (mark e k))
  lower e k zero h o l = subst (λ (x : ℕ). Leads Step (32 * e + x) (32 * e + k)) (omega arith) stay
  lower e k (suc t) h o l =
      go (step_from_mark e (k + suc t) (32 * e + (k + t)) (h, omega arith, l) (omega arith) (below (omega arith) (omega arith))) (lower e k t h o (omega arith))

  lowers : (e m k : ℕ) → Placed (mark e m) → 1 ≤ k → k ≤ m → Leads Step (point (mark e m)) (point (mark e k))
  lowers e m k h o l =
      let q : k + (m - k) ≡ m = omega arith in
      subst (λ (x : ℕ). Leads Step (32 * e + x) (32 * e + k)) q (lower e k (m - k) h.0 o (omega arith))

  -- a link of the rows is a way of the code's web
  link_way : {d u : Description} → Link rows d u → Placed d → Leads Step (point d) (point u)
  link_way (by_S {a} {b} h) k =
      let r = sound (row (S a b)) h in
      leads_one (step_from_class a (32 * b) k (omega (arith, r.1)) (up refl (record { block = b; member = built.supers.all a b h; is = omega arith })))
  link_way (by_F {a} {e} {n} h) k =
      let r = sound (row (F a e n)) h in
      let m = count (counts_of w.classes) a e in
      let q = built.needs.all a e n h in
      let small : e < 64 = omega (arith, r.1) in
      let high = sound (row (F a e m)) (built.needs.only a e small (omega (arith, r.2, q.1))) in
      let f : Placed (mark e m) = (small, high.2, omega (arith, high.3)) in
      leads_both (leads_one (step_from_class a (32 * e + m) k (omega (arith, high.3)) (need refl (record { end = e; small = small; member = q.0; is = refl })))) (lowers e m n f r.2 q.1)
  link_way (by_D {e} {b} h) k =
      let r = sound (row (D e b)) h in
      leads_one (step_from_mark e 1 (32 * b) k (omega (arith, r.1)) (domain refl (record { block = b; member = built.domains.all e b h; is = omega arith })))
  link_way (down {e} {m} {k = n} o l) k = lowers e m n k o (omega arith)
  link_way (by_P {e} {f} {m} h s) k =
      let r = sound (row (P (arrow e) (arrow f))) h in
      leads_one (step_from_mark e m (32 * f + m) k (omega arith)
      (along k.1 (record { block = arrow f; member = built.overs.all (arrow e) (arrow f) h; is = omega arith })))

  -- what the rows' web leads to, the code's web leads to
  pub reach_complete : {d u : Description} → Leads (Link rows) d u → Placed d → Leads Step (point d) (point u)
  reach_complete stay h = stay
  reach_complete (go l p) h = leads_both (link_way l h) (reach_complete p (link_placed rows sound l h))
