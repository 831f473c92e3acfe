-- Two classes that a key leads to, one the class of an X or a K row and the other its rival: what the key leads to
-- clashes. Here it matters that no cap stands on an arrow that another leads to.
use Rattle.std.proofs.Common.{◌≡◌, ℕ, ◌<◌, ◌≤◌, ◌⊎◌, List, [], ◌∷◌, ◌++◌, length, get_or, set, replicate, sym, refl, ap, ◌∙◌, subst, inl, inr, ⊎_elim, arith, get_or-set_other, get_or-set_same}
use Rattle.std.proofs.lemmas.List.Elements.{Contains-append_left, Contains-push, Contains-push_cases}
use Rattle.std.proofs.lemmas.Bool.{cases_eq, cases_lt}
use Rattle.search.specs.Leads.{Leads, stay, go}
use Rattle.search.proofs.Trails.{leads_then}
use Rattle.schema.specs.declared.row.Row.{Row}
use Rattle.schema.specs.declared.descriptions.Descriptions.{Descriptions}
use Rattle.schema.specs.Masks.{Member, Gathers}
use Rattle.schema.specs.Points.{count, counts_of, Built}
use Rattle.schema.specs.Rows.{◌∈◌, AllSound}
use Rattle.schema.specs.Rules.{X, F, K, row, Has, arrow, side}
use Rattle.schema.specs.Keys.{keyed, Rival, apart, needs_more, RivalSets, TornSets}
use Rattle.schema.specs.Verdicts.{NoSharedCap}
use Rattle.schema.specs.Webs.{Description, cls, mark, Link, by_S, by_F, by_D, down, by_P, Apart, by_X, by_K, ArrowLink, Clashing}
use Rattle.schema.proofs.Building.{row_is, fits_at, zeros_at}
use Rattle.schema.proofs.KeyReach.{keyed_class, keyed_end}
use Rattle.schema.proofs.Bits.{member_zero}
use Rattle.schema.proofs.Members.{not_in_empty}

-- arrows of two ends lead on, at the same side
abbrev Chain : List Row → ℕ → ℕ → Type 0
Chain rows e f = Leads (ArrowLink rows) (arrow e) (arrow f) × (side e ≡ side f)

-- the class whose need a high mark comes from
pub record Source (rows : List Row) (x : Description) (e m : ℕ) : Type 0 where
  pub class : ℕ
  pub end : ℕ
  pub count : ℕ
  pub reached : Leads (Link rows) x (cls class)
  pub has : Has rows (F class end count)
  pub high : m ≤ count
  pub chain : Chain rows end e

-- a mark that leads to the mark by itself
abbrev Near : List Row → Description → ℕ → ℕ → Type 0
Near rows (cls a) e m = ⊥
Near rows (mark f n) e m = (m ≤ n) × Chain rows f e

module _ (rows : List Row) where
  back : {x y : Description} (e m : ℕ) → Link rows x y → Near rows y e m ⊎ Source rows y e m → Near rows x e m ⊎ Source rows x e m
  back e m (by_S h) (inl n) = absurd n
  back e m (by_F {a} {e = f} {n} h) (inl t) = inr (record { class = a; end = f; count = n; reached = stay; has = h; high = t.0; chain = t.1 })
  back e m (by_D h) (inl n) = absurd n
  back e m (down o l) (inl t) = inl (omega (arith, t.0), t.1)
  back e m (by_P {e = g} {f} h s) (inl t) = inl (t.0, (go h t.1.0, s ∙ t.1.1))
  back e m l (inr t) =
      inr (record { class = t.class; end = t.end; count = t.count; reached = go l t.reached; has = t.has; high = t.high; chain = t.chain })

  -- a way to a mark comes from a mark of the start itself or from the need of a class on the way
  origin : {x : Description} {e m : ℕ} → Leads (Link rows) x (mark e m) → Near rows x e m ⊎ Source rows x e m
  origin stay = inl (omega arith, (stay, refl))
  origin {e = e} {m = m} (go l p) = back e m l (origin p)

  no_near : (k e m : ℕ) → 2 ≤ m → Near rows (keyed k) e m → ⊥
  no_near k e m h t =
      ⊎_elim
      (λ (l : k < 64). subst (λ (d : Description). Near rows d e m) (keyed_class k l) t)
      (λ (l : 64 ≤ k). let s = subst (λ (d : Description). Near rows d e m) (keyed_end k l) t in omega (arith, s.0))
      (cases_lt k 64)

  pub source : (k e m : ℕ) → 2 ≤ m → Leads (Link rows) (keyed k) (mark e m) → Source rows (keyed k) e m
  source k e m h p = ⊎_elim (λ n. absurd (no_near k e m h n)) (λ s. s) (origin p)

-- what a key leads to, as a set, and the rivals of each class
module _ (rows : List Row) (sound : AllSound 64 32 rows) (uncapped : NoSharedCap rows) (w : Descriptions) (built : Built rows w) (rivals : List ℕ) (told : RivalSets w rows rivals)
    (k set : ℕ) (classes : Gathers (λ a. Leads (Link rows) (keyed k) (cls a)) 64 set) where
  -- a rival that the key leads to
  rival_clash : (r : Row) (b : ℕ) → r ∈ rows → Leads (Link rows) (keyed k) (cls r.a) → Leads (Link rows) (keyed k) (cls b) → b < 64 → Rival w r b
      → Clashing (Link rows) (Apart rows) (keyed k) (keyed k)
  rival_clash r b m p q l (apart e s) =
      let f = fits_at r 88 e (sound r m) in
      let has : Has rows (X r.a b) = subst (λ (x : Row). x ∈ rows) (sym (row_is r 88 r.a b 0 e refl (sym s) (omega (arith, f.3)))) m in
      (cls r.a, cls b, p, q, inl (by_X has))
  rival_clash r b m p q l (needs_more e s) =
      let f = fits_at r 75 e (sound r m) in
      let n = count (counts_of w.classes) b r.b in
      let has : Has rows (K r.a r.b r.n) = subst (λ (x : Row). x ∈ rows) (sym (row_is r 75 r.a r.b r.n e refl refl refl)) m in
      let needed : Has rows (F b r.b n) = built.needs.only b r.b (omega (arith, f.1)) (omega arith) in
      (cls r.a, mark r.b n, p, leads_then q (by_F needed), inl (by_K has s))

  pub sets_clash : TornSets rivals set → Clashing (Link rows) (Apart rows) (keyed k) (keyed k)
  sets_clash t =
      let b = t.meets.who in
      let v = told.only t.class b t.meets.first in
      rival_clash v.0 b v.1 (classes.only v.0.a (subst (Member set) (sym v.2) t.has)) (classes.only b t.meets.second) t.meets.small v.4

  -- a row between two classes that the key leads to
  torn_at : (r : Row) (b : ℕ) → r ∈ rows → r.a < 64 → b < 64 → Leads (Link rows) (keyed k) (cls r.a) → Leads (Link rows) (keyed k) (cls b) → Rival w r b → TornSets rivals set
  torn_at r b m small l p q v =
      record {
        class = r.a;
        small = small;
        has = classes.all r.a small p;
        meets = record { who = b; small = l; first = told.all r b m l v; second = classes.all b l q };
      }

  apart_torn : {u v : Description} → Leads (Link rows) (keyed k) u → Leads (Link rows) (keyed k) v → Apart rows u v → TornSets rivals set
  apart_torn p q (by_X {a} {b} h) =
      let f = sound (row (X a b)) h in torn_at (row (X a b)) b h f.0 f.1 p q (apart refl refl)
  apart_torn p q (by_K {a} {e} {n} {m} h l) =
      let f = sound (row (K a e n)) h in
      let s = source rows k e m (omega (arith, f.2)) q in
      let g = sound (row (F s.class s.end s.count)) s.has in
      let same : s.end ≡ e = one_end s.end s.chain in
      let high = built.needs.all s.class e s.count (subst (λ (x : ℕ). Has rows (F s.class x s.count)) same s.has) in
      torn_at (row (K a e n)) s.class h f.0 g.0 p s.reached (needs_more refl (omega (arith, high.1, s.high)))
    where
      -- no other arrow leads to a capped one
      one_end : (f : ℕ) → Chain rows f e → f ≡ e
      one_end f c =
          ⊎_elim (λ (q : arrow f ≡ arrow e). omega (arith, c.1))
          (λ (q : arrow f ≡ arrow e → ⊥). absurd (uncapped (row (K a e n)) h (a, e, n, refl, λ alone. q (alone (arrow f) c.0))))
          (cases_eq (arrow f) (arrow e))

  pub clash_sets : Clashing (Link rows) (Apart rows) (keyed k) (keyed k) → TornSets rivals set
  clash_sets (u, v, p, q, inl a) = apart_torn p q a
  clash_sets (u, v, p, q, inr a) = apart_torn q p a

-- zeros tell of no row
pub rivals_none : (w : Descriptions) → RivalSets w [] (replicate 64 0)
rivals_none w =
    record {
      only = λ a b m. absurd (member_zero _ b (zeros_at 64 a) m);
      all = λ r b m. absurd (not_in_empty m);
    }

module _ (w : Descriptions) (rows : List Row) (r : Row) (sets : List ℕ) (told : RivalSets w rows sets) where
  -- one more row that has no rivals
  pub rivals_other : ((b : ℕ) → b < 64 → Rival w r b → ⊥) → RivalSets w (rows ++ r ∷ []) sets
  rivals_other f =
      record {
        only = λ a b m. let v = told.only a b m in (v.0, Contains-append_left rows (r ∷ []) v.0 v.1, v.2, v.3, v.4);
        all = λ q b m l v. ⊎_elim (λ (h : q ∈ rows). told.all q b h l v) (λ (e : r ≡ q). absurd (f b l (subst (λ (x : Row). Rival w x b) (sym e) v))) (Contains-push_cases rows r q m);
      }

  -- one more row, its rivals put into the set of its class
  pub rivals_more : (a v : ℕ) → a ≡ r.a → r.a < length sets → ((b : ℕ) → Member (get_or sets r.a 0) b → Member v b) → ((b : ℕ) → b < 64 → Rival w r b → Member v b)
      → ((b : ℕ) → Member v b → Member (get_or sets r.a 0) b ⊎ ((b < 64) × Rival w r b)) → RivalSets w (rows ++ r ∷ []) (set sets a v)
  rivals_more place v is l kept all only =
      subst (λ (i : ℕ). RivalSets w (rows ++ r ∷ []) (set sets i v)) (sym is) (record { only = λ a b m. ⊎_elim (here a b m) (there a b m) (cases_eq a r.a); all = more })
    where
      same : (a : ℕ) → a ≡ r.a → get_or (set sets r.a v) a 0 ≡ v
      same a e = ap (λ (i : ℕ). get_or (set sets r.a v) i 0) e ∙ get_or-set_same sets r.a v 0 l

      old : (a b : ℕ) → Member (get_or sets a 0) b → (q : Row) × (q ∈ (rows ++ r ∷ [])) × (q.a ≡ a) × (b < 64) × Rival w q b
      old a b m = let t = told.only a b m in (t.0, Contains-append_left rows (r ∷ []) t.0 t.1, t.2, t.3, t.4)

      here : (a b : ℕ) → Member (get_or (set sets r.a v) a 0) b → a ≡ r.a → (q : Row) × (q ∈ (rows ++ r ∷ [])) × (q.a ≡ a) × (b < 64) × Rival w q b
      here a b m e =
          ⊎_elim (λ (h : Member (get_or sets r.a 0) b). old a b (subst (λ (i : ℕ). Member (get_or sets i 0) b) (sym e) h))
          (λ (h : (b < 64) × Rival w r b). (r, Contains-push rows r, sym e, h.0, h.1))
          (only b (subst (λ (s : ℕ). Member s b) (same a e) m))

      there : (a b : ℕ) → Member (get_or (set sets r.a v) a 0) b → (a ≡ r.a → ⊥) → (q : Row) × (q ∈ (rows ++ r ∷ [])) × (q.a ≡ a) × (b < 64) × Rival w q b
      there a b m e = old a b (subst (λ (s : ℕ). Member s b) (get_or-set_other sets r.a a v 0 e) m)

      keep : (a b : ℕ) → Member (get_or sets a 0) b → Member (get_or (set sets r.a v) a 0) b
      keep a b m =
          ⊎_elim (λ (e : a ≡ r.a). subst (λ (s : ℕ). Member s b) (sym (same a e)) (kept b (subst (λ (i : ℕ). Member (get_or sets i 0) b) e m)))
          (λ (e : a ≡ r.a → ⊥). subst (λ (s : ℕ). Member s b) (sym (get_or-set_other sets r.a a v 0 e)) m)
          (cases_eq a r.a)

      more : (q : Row) (b : ℕ) → q ∈ (rows ++ r ∷ []) → b < 64 → Rival w q b → Member (get_or (set sets r.a v) q.a 0) b
      more q b m h x =
          ⊎_elim (λ (t : q ∈ rows). keep q.a b (told.all q b t h x))
          (λ (e : r ≡ q). subst (λ (s : ℕ). Member s b) (sym (same q.a (ap (λ (y : Row). y.a) (sym e)))) (all b h (subst (λ (y : Row). Rival w y b) (sym e) x)))
          (Contains-push_cases rows r q m)
