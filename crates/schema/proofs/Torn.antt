-- Two points that a row sets apart, one marked from each of two starts: the starts lead to two that clash.
use Rattle.std.proofs.Common.{◌≡◌, ℕ, ◌+◌, ◌<◌, ◌≤◌, Bool, true, false, cond, eqb, ◌⊎◌, List, get_or, Some, None, Option, sym, refl, ap, ◌∙◌, subst, inl, inr, ⊎_elim, arith}
use Rattle.std.proofs.lemmas.Bool.{cases_lt, eqb-true}
use Rattle.search.specs.Leads.{Leads}
use Rattle.search.proofs.Trails.{leads_then}
use Rattle.schema.specs.declared.row.Row.{Row}
use Rattle.schema.specs.Rows.{◌∈◌, AllSound}
use Rattle.schema.specs.Rules.{X, K, Q, row, Has}
use Rattle.schema.specs.Points.{point, Placed}
use Rattle.schema.specs.Keys.{arrows_apart, descriptions_apart, ArrowReaches, Reaches, TornBy}
use Rattle.schema.specs.Webs.{Description, cls, mark, Link, down, Apart, by_X, by_K, ArrowLink, ArrowApart, Clashing}
use Rattle.schema.proofs.Building.{row_is, fits_at}
use Rattle.schema.proofs.Signs.{bit_one, bit_holds}

-- two points or none
module _ (one two : ℕ) where
  -- a choice that gave two points took the first way
  took_first : (b : Bool) (x y : ℕ) → cond {A = Option (ℕ × ℕ)} b (Some (x, y)) None ≡ Some (one, two) → (b ≡ true) × (x ≡ one) × (y ≡ two)
  took_first true x y e = let q : ◌≡◌ {A = ℕ × ℕ} (x, y) (one, two) = cc in (refl, ap (λ (t : ℕ × ℕ). t.0) q, ap (λ (t : ℕ × ℕ). t.1) q)
  took_first false x y e = absurd (let z : ◌≡◌ {A = ℕ} 0 1 = cc in omega arith)

  -- or the second
  took_either : (b d : Bool) (x y u v : ℕ) → cond {A = Option (ℕ × ℕ)} b (Some (x, y)) (cond d (Some (u, v)) None) ≡ Some (one, two)
      → ((b ≡ true) × (x ≡ one) × (y ≡ two)) ⊎ ((d ≡ true) × (u ≡ one) × (v ≡ two))
  took_either true d x y u v e = inl (took_first true x y e)
  took_either false d x y u v e = inr (took_first d u v e)

-- marks at equal points
moved : (marks : List ℕ) {i j : ℕ} → i ≡ j → get_or marks j 0 ≡ 1 → get_or marks i 0 ≡ 1
moved marks e h = ap (λ (k : ℕ). get_or marks k 0) e ∙ h

module _ (rows : List Row) (sound : AllSound 64 32 rows) (p q : ℕ) (first second : List ℕ)
    (from-p : ArrowReaches rows p first) (from-q : ArrowReaches rows q second) where
  -- a Q row between two marked arrows
  pub arrow_torn : TornBy arrows_apart rows first second → Clashing (ArrowLink rows) (ArrowApart rows) p q
  arrow_torn t =
      let r = t.by in
      let b = t.both in
      let c = took_first b.one b.two (eqb r.letter 81) r.a r.b b.apart in
      let l : r.letter ≡ 81 = eqb-true r.letter 81 c.0 in
      let f = fits_at r 81 l (sound r t.stands) in
      let has : Has rows (Q r.a r.b) = subst (λ (s : Row). s ∈ rows) (sym (row_is r 81 r.a r.b 0 l refl refl (omega (arith, f.3)))) t.stands in
      ⊎_elim
      (λ m. (r.a, r.b, bit_one (from-p r.a f.0) (moved first c.1 m.0), bit_one (from-q r.b f.1) (moved second c.2 m.1), inl has))
      (λ m. (r.b, r.a, bit_one (from-p r.b f.1) (moved first c.2 m.0), bit_one (from-q r.a f.0) (moved second c.1 m.1), inr has))
      b.marked

  -- two arrows that clash are marked, and their Q row stands
  pub arrow_torn_by : Clashing (ArrowLink rows) (ArrowApart rows) p q → TornBy arrows_apart rows first second
  arrow_torn_by (u, v, l, m, inl h) =
      let f = sound (row (Q u v)) h in
      record { by = row (Q u v); stands = h; both = record { one = u; two = v; apart = refl; marked = inl (bit_holds (from-p u f.0) l, bit_holds (from-q v f.1) m) } }
  arrow_torn_by (u, v, l, m, inr h) =
      let f = sound (row (Q v u)) h in
      record { by = row (Q v u); stands = h; both = record { one = v; two = u; apart = refl; marked = inr (bit_holds (from-p u f.1) l, bit_holds (from-q v f.0) m) } }

-- a mark leads to each lower one
lower_mark : (rows : List Row) (d : Description) (e j k : ℕ) → 1 ≤ j → j ≤ k → Leads (Link rows) d (mark e k) → Leads (Link rows) d (mark e j)
lower_mark rows d e j k o h q =
    ⊎_elim (λ (s : j < k). leads_then q (down o s)) (λ (s : k ≤ j). subst (λ (x : ℕ). Leads (Link rows) d (mark e x)) (omega arith) q) (cases_lt j k)

module _ (rows : List Row) (sound : AllSound 64 32 rows) (d u : Description) (first second : List ℕ)
    (from-d : Reaches rows d first) (from-u : Reaches rows u second) where
  -- two descriptions that a row sets apart, one marked from each start
  both_reached : (x y : Description) (one two : ℕ) → Placed x → Placed y → point x ≡ one → point y ≡ two → Apart rows x y
      → ((get_or first one 0 ≡ 1) × (get_or second two 0 ≡ 1)) ⊎ ((get_or first two 0 ≡ 1) × (get_or second one 0 ≡ 1))
      → Clashing (Link rows) (Apart rows) d u
  both_reached x y one two h k e f a (inl (m, n)) = (x, y, bit_one (from-d x h) (moved first e m), bit_one (from-u y k) (moved second f n), inl a)
  both_reached x y one two h k e f a (inr (m, n)) = (y, x, bit_one (from-d y k) (moved first f m), bit_one (from-u x h) (moved second e n), inr a)

  -- an X or a K row between two marked descriptions
  pub torn_clashes : TornBy descriptions_apart rows first second → Clashing (Link rows) (Apart rows) d u
  torn_clashes t =
      let r = t.by in
      let b = t.both in
      ⊎_elim by_x by_k
      (took_either b.one b.two (eqb r.letter 88) (eqb r.letter 75) (point (cls r.a)) (point (cls r.b)) (point (cls r.a)) (point (mark r.b (r.n + 1))) b.apart)
    where
      by_x : (eqb t.by.letter 88 ≡ true) × (point (cls t.by.a) ≡ t.both.one) × (point (cls t.by.b) ≡ t.both.two) → Clashing (Link rows) (Apart rows) d u
      by_x c =
          let r = t.by in
          let l : r.letter ≡ 88 = eqb-true r.letter 88 c.0 in
          let f = fits_at r 88 l (sound r t.stands) in
          let has : Has rows (X r.a r.b) = subst (λ (s : Row). s ∈ rows) (sym (row_is r 88 r.a r.b 0 l refl refl (omega (arith, f.3)))) t.stands in
          both_reached (cls r.a) (cls r.b) t.both.one t.both.two f.0 f.1 c.1 c.2 (by_X has) t.both.marked

      by_k : (eqb t.by.letter 75 ≡ true) × (point (cls t.by.a) ≡ t.both.one) × (point (mark t.by.b (t.by.n + 1)) ≡ t.both.two) → Clashing (Link rows) (Apart rows) d u
      by_k c =
          let r = t.by in
          let l : r.letter ≡ 75 = eqb-true r.letter 75 c.0 in
          let f = fits_at r 75 l (sound r t.stands) in
          let has : Has rows (K r.a r.b r.n) = subst (λ (s : Row). s ∈ rows) (sym (row_is r 75 r.a r.b r.n l refl refl refl)) t.stands in
          both_reached (cls r.a) (mark r.b (r.n + 1)) t.both.one t.both.two f.0 (omega (arith, f.1), omega arith, omega (arith, f.3)) c.1 c.2
          (by_K has (omega arith)) t.both.marked

  -- two descriptions that clash are marked, and their row stands; a cap clashes with the first mark above it
  pub clashes_torn : Clashing (Link rows) (Apart rows) d u → TornBy descriptions_apart rows first second
  clashes_torn (x, y, l, m, inl (by_X {a} {b} h)) =
      let f = sound (row (X a b)) h in
      record {
        by = row (X a b);
        stands = h;
        both = record { one = point (cls a); two = point (cls b); apart = refl; marked = inl (bit_holds (from-d (cls a) f.0) l, bit_holds (from-u (cls b) f.1) m) };
      }
  clashes_torn (x, y, l, m, inr (by_X {a} {b} h)) =
      let f = sound (row (X a b)) h in
      record {
        by = row (X a b);
        stands = h;
        both = record { one = point (cls a); two = point (cls b); apart = refl; marked = inr (bit_holds (from-d (cls b) f.1) l, bit_holds (from-u (cls a) f.0) m) };
      }
  clashes_torn (x, y, l, m, inl (by_K {a} {e} {n} {m = k} h o)) =
      let f = sound (row (K a e n)) h in
      let low : Leads (Link rows) u (mark e (n + 1)) = lower_mark rows u e (n + 1) k (omega arith) (omega arith) m in
      let at : get_or second (point (mark e (n + 1))) 0 ≡ 1 = bit_holds (from-u (mark e (n + 1)) (omega (arith, f.1), omega arith, omega (arith, f.3))) low in
      record {
        by = row (K a e n);
        stands = h;
        both = record { one = point (cls a); two = point (mark e (n + 1)); apart = refl; marked = inl (bit_holds (from-d (cls a) f.0) l, at) };
      }
  clashes_torn (x, y, l, m, inr (by_K {a} {e} {n} {m = k} h o)) =
      let f = sound (row (K a e n)) h in
      let low : Leads (Link rows) d (mark e (n + 1)) = lower_mark rows d e (n + 1) k (omega arith) (omega arith) l in
      let at : get_or first (point (mark e (n + 1))) 0 ≡ 1 = bit_holds (from-d (mark e (n + 1)) (omega (arith, f.1), omega arith, omega (arith, f.3))) low in
      record {
        by = row (K a e n);
        stands = h;
        both = record { one = point (cls a); two = point (mark e (n + 1)); apart = refl; marked = inr (at, bit_holds (from-u (cls a) f.0) m) };
      }
