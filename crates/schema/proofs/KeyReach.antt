-- The web of the keys leads from key to key as the web of descriptions does.
use Rattle.std.proofs.Common.{◌≡◌, ℕ, ◌+◌, ◌-◌, ◌/◌, ◌<◌, ◌≤◌, Bool, cond, List, get_or, sym, ap, ◌∙◌, subst, ⊎_elim, arith}
use Rattle.std.proofs.lemmas.Bool.{cases_lt, lt-ltb, le-ltb}
use Rattle.search.specs.Leads.{Leads, stay, go, Joined}
use Rattle.search.proofs.Trails.{leads_one, leads_both}
use Rattle.schema.specs.declared.row.Row.{Row}
use Rattle.schema.specs.declared.keys.KeyLinks.{KeyLinks}
use Rattle.schema.specs.Masks.{Member}
use Rattle.schema.specs.Rows.{AllSound}
use Rattle.schema.specs.Rules.{S, D, F, P, row, Has, arrow}
use Rattle.schema.specs.Points.{Placed, count, counts_of, Built}
use Rattle.schema.specs.Keys.{keyed, Forward, class_class, end_class, to_an_end, ForwardEnd, by_need, by_arrow}
use Rattle.schema.specs.Webs.{Description, cls, mark, Link, by_S, by_F, by_D, down, by_P}
use Rattle.schema.proofs.Reach.{link_placed}

-- the keys below 64 are classes
pub keyed_class : (k : ℕ) → k < 64 → keyed k ≡ cls k
keyed_class k h = ap (λ (b : Bool). cond b (cls k) (mark (k - 64) 1)) (lt-ltb k 64 h)

-- and the others ends
pub keyed_end : (k : ℕ) → 64 ≤ k → keyed k ≡ mark (k - 64) 1
keyed_end k h = ap (λ (b : Bool). cond b (cls k) (mark (k - 64) 1)) (le-ltb k 64 h)

-- the key of an end
pub keyed_mark : (e : ℕ) → keyed (64 + e) ≡ mark e 1
keyed_mark e = keyed_end (64 + e) (omega arith) ∙ ap (λ (x : ℕ). mark x 1) (omega arith)

-- each has a point
pub keyed_placed : (k : ℕ) → k < 128 → Placed (keyed k)
keyed_placed k h =
    ⊎_elim (λ (l : k < 64). subst Placed (sym (keyed_class k l)) l) (λ (l : 64 ≤ k). subst Placed (sym (keyed_end k l)) (omega arith, omega arith, omega arith)) (cases_lt k 64)

-- the key below a description: a mark is forgotten but for its end
abbrev pub key_of : Description → ℕ
key_of (cls a) = a
key_of (mark e m) = 64 + e

pub key_of_keyed : (k : ℕ) → key_of (keyed k) ≡ k
key_of_keyed k =
    ⊎_elim (λ (l : k < 64). ap key_of (keyed_class k l)) (λ (l : 64 ≤ k). ap key_of (keyed_end k l) ∙ omega arith) (cases_lt k 64)

module _ (rows : List Row) (w : KeyLinks) (built : Built rows w.links.now) (sound : AllSound 64 32 rows) where
  abbrev Step : ℕ → ℕ → Type 0
  Step = Joined 128 (Forward w)

  -- a way of the rows' web that a link between keys stands for
  end_way : (i e : ℕ) → i < 128 → e < 64 → ForwardEnd w i e → Leads (Link rows) (keyed i) (mark e 1)
  end_way i e h l (by_need s m) =
      let n = count (counts_of w.links.now.classes) i e in
      let pos : 0 < n = built.needs.some i e l m in
      let has : Has rows (F i e n) = built.needs.only i e l pos in
      subst (λ (d : Description). Leads (Link rows) d (mark e 1)) (sym (keyed_class i s))
      (⊎_elim (λ (b : 1 < n). go (by_F has) (leads_one (down (omega arith) b)))
      (λ (b : n ≤ 1). let one : n ≡ 1 = omega arith in subst (λ (x : ℕ). Leads (Link rows) (cls i) (mark e x)) one (leads_one (by_F has))) (cases_lt 1 n))
  end_way i e h l (by_arrow s q k m) =
      let has : Has rows (P ((i - 64) / 2) (e / 2)) = built.overs.only ((i - 64) / 2) (e / 2) m in
      subst (λ (d : Description). Leads (Link rows) d (mark e 1)) (sym (keyed_end i s)) (leads_one (by_P {e = i - 64} {f = e} {m = 1} has (omega arith)))

  key_way : (i j : ℕ) → Forward w i j → Leads (Link rows) (keyed i) (keyed j)
  key_way i j (class_class h l m) =
      subst (λ (d : Description). Leads (Link rows) d (keyed j)) (sym (keyed_class i h))
      (subst (Leads (Link rows) (cls i)) (sym (keyed_class j l)) (leads_one (by_S (built.supers.only i j m))))
  key_way i j (end_class h u l m) =
      subst (λ (d : Description). Leads (Link rows) d (keyed j)) (sym (keyed_end i h))
      (subst (Leads (Link rows) (mark (i - 64) 1)) (sym (keyed_class j l)) (leads_one (by_D (built.domains.only (i - 64) j m))))
  key_way i j (to_an_end h l u f) = subst (Leads (Link rows) (keyed i)) (sym (keyed_end j l)) (end_way i (j - 64) h (omega arith) f)

  -- what the web of keys leads to, the rows' web leads to
  pub keys_sound : {i j : ℕ} → Leads Step i j → Leads (Link rows) (keyed i) (keyed j)
  keys_sound stay = stay
  keys_sound (go {x = i} {y = j} s p) = leads_both (key_way i j s.2) (keys_sound p)

  end_step : (i e : ℕ) → i < 128 → e < 64 → ForwardEnd w i e → Step i (64 + e)
  end_step i e h l f =
      let same : e ≡ 64 + e - 64 = omega arith in
      (h, omega arith, to_an_end h (omega arith) (omega arith) (subst (ForwardEnd w i) same f))

  -- a link of the rows is a way between the keys below
  link_keys : {d u : Description} → Link rows d u → Placed d → Leads Step (key_of d) (key_of u)
  link_keys (by_S {a} {b} h) k =
      let r = sound (row (S a b)) h in leads_one (omega arith, omega (arith, r.1), class_class k r.1 (built.supers.all a b h))
  link_keys (by_F {a} {e} {n} h) k =
      let r = sound (row (F a e n)) h in leads_one (end_step a e (omega arith) (omega (arith, r.1)) (by_need k (built.needs.all a e n h).0))
  link_keys (by_D {e} {b} h) k =
      let r = sound (row (D e b)) h in
      let m : Member (get_or w.links.now.domains (64 + e - 64) 0) b =
      subst (λ (x : ℕ). Member (get_or w.links.now.domains x 0) b) (back e) (built.domains.all e b h) in
      leads_one (omega arith, omega (arith, r.1), end_class (omega arith) (omega arith) r.1 m)
    where
      back : (x : ℕ) → x ≡ 64 + x - 64
      back x = omega arith
  link_keys (down {e} {m} {k = n} o l) k = stay
  link_keys (by_P {e} {f} {m} h s) k =
      let r = sound (row (P (arrow e) (arrow f))) h in
      let a : arrow e ≡ (64 + e - 64) / 2 = omega arith in
      leads_one (end_step (64 + e) f (omega arith) (omega (arith, r.1))
      (by_arrow (omega arith) (omega arith) (omega (arith, r.1)) (subst (λ (x : ℕ). Member (get_or w.links.now.arrows.overs x 0) (arrow f)) a (built.overs.all (arrow e) (arrow f) h))))

  keys_below : {d u : Description} → Leads (Link rows) d u → Placed d → Leads Step (key_of d) (key_of u)
  keys_below stay h = stay
  keys_below (go l p) h = leads_both (link_keys l h) (keys_below p (link_placed rows sound l h))

  -- what the rows' web leads to, the web of keys leads to
  pub keys_complete : (k : ℕ) {u : Description} → k < 128 → Leads (Link rows) (keyed k) u → Leads Step k (key_of u)
  keys_complete k {u} h p = subst (λ (i : ℕ). Leads Step i (key_of u)) (key_of_keyed k) (keys_below p (keyed_placed k h))
