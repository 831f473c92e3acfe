-- In every world that fulfils the rows, what is told empty is empty and what is answered yes is fulfilled.
use Rattle.std.proofs.Common.{◌≡◌, ℕ, zero, suc, ◌+◌, ◌*◌, ◌%◌, ◌≤◌, List, [], ◌∷◌, length, refl, subst, inl, inr, arith}
use Rattle.search.specs.Leads.{Leads, stay, go}
use Rattle.schema.specs.declared.row.Row.{Row}
use Rattle.schema.specs.Rows.{◌∈◌}
use Rattle.schema.specs.Rules.{Rule, S, X, D, F, K, P, Q, Has, arrow, side}
use Rattle.schema.specs.Worlds.{World, Individual, In, Pair, Meets, AtLeast, Fulfils, FulfilsAll, ArrowFilled, ArrowEmpty}
use Rattle.schema.specs.Webs.{Description, cls, mark, Link, by_S, by_F, by_D, down, by_P, ArrowLink, Apart, by_X, by_K, ArrowApart, Clashing}
use Rattle.schema.specs.Webs.{Name, desc, arr, Empty, clash, leads, clash_arrow, of_end, of_arrow}
use Rattle.schema.specs.Questions.{Parted, Yes}
use Rattle.schema.proofs.Members.{here, not_in_empty, here_or_there}
use Rattle.schema.proofs.theory.Statements.{AlwaysHolds}
use Rattle.schema.proofs.theory.Counting.{Part, fewer}

-- a description is true of an individual
abbrev Fits : World → Description → Individual → Type 0
Fits w (cls a) i = In w a i
Fits w (mark e m) i = AtLeast w e m i

-- a description is true of no individual, or an arrow has no pair
abbrev Void : World → Name → Type 0
Void w (desc d) = (i : Individual) → Fits w d i → ⊥
Void w (arr p) = ArrowEmpty w p

-- at least m times is at least k times, for a smaller k
lower : (w : World) (e m k : ℕ) (i : Individual) → k ≤ m → AtLeast w e m i → AtLeast w e k i
lower w e m k i le h =
    let r : Part k h.who = fewer h.who k (omega (arith, h.many)) h.different in
    record { who = r.ks; many = r.long; different = r.differ; meeting = λ j m. h.meeting j (r.from j m) }

-- whoever meets one has the end at least once
single : (w : World) (e : ℕ) (i j : Individual) → Meets w e i j → AtLeast w e 1 i
single w e i j h =
    record {
      who = j ∷ [];
      many = refl;
      different = (not_in_empty, tt);
      meeting = λ k m. elim (here_or_there [] m) [ inl e' ↦ subst (Meets w e i) e' h | inr n ↦ absurd (not_in_empty n) ];
    }

-- whoever has the end at least once meets one
first : (w : World) (e : ℕ) (i : Individual) → AtLeast w e 1 i → (j : Individual) × Meets w e i j
first w e i s = head s.who s.many s.meeting
  where
    head : (js : List Individual) → length js ≡ 1 → ((j : Individual) → j ∈ js → Meets w e i j) → (j : Individual) × Meets w e i j
    head [] l m = absurd (omega arith)
    head (j ∷ js) l m = (j, m j (here js refl))

-- where no individual has an end, its arrow has no pair
at_end : (w : World) (e : ℕ) → ((i : Individual) → AtLeast w e 1 i → ⊥) → ArrowEmpty w (arrow e)
at_end w e h (i, j, q) = sides (e % 2) refl
  where
    sides : (s : ℕ) → e % 2 ≡ s → ⊥
    sides zero x = h i (single w e i j (arrow e, inl (omega arith, q)))
    sides (suc s) x = h j (single w e j i (arrow e, inr (omega arith, q)))

-- a meeting is a pair
met : (w : World) (e : ℕ) (i j : Individual) → Meets w e i j → ArrowFilled w (arrow e)
met w e i j (p, inl (x, q)) = (i, j, subst (λ y. Pair w y i j) (omega arith) q)
met w e i j (p, inr (x, q)) = (j, i, subst (λ y. Pair w y j i) (omega arith) q)

module _ (rows : List Row) (w : World) (ful : FulfilsAll w rows) where
  -- a P row takes meetings along
  meets_up : (e f : ℕ) → Has rows (P (arrow e) (arrow f)) → side e ≡ side f → (i j : Individual) → Meets w e i j → Meets w f i j
  meets_up e f h s i j (p, inl (x, q)) =
      (arrow f, inl (omega arith, ful (P (arrow e) (arrow f)) h i j (subst (λ y. Pair w y i j) (omega arith) q)))
  meets_up e f h s i j (p, inr (x, q)) =
      (arrow f, inr (omega arith, ful (P (arrow e) (arrow f)) h j i (subst (λ y. Pair w y j i) (omega arith) q)))

  -- what is true of an individual stays true along a link
  link_holds : {d u : Description} → Link rows d u → (i : Individual) → Fits w d i → Fits w u i
  link_holds (by_S {a} {b} h) i s = ful (S a b) h i s
  link_holds (by_F {a} {e} {n} h) i s = ful (F a e n) h i s
  link_holds (by_D {e} {b} h) i s = ful (D e b) h i s
  link_holds (down {e} {m} {k} o l) i s = lower w e m k i (omega arith) s
  link_holds (by_P {e} {f} {m} h sd) i s =
      record {
        who = s.who;
        many = s.many;
        different = s.different;
        meeting = λ j x. meets_up e f h sd i j (s.meeting j x);
      }

  -- and along a way
  leads_holds : {d u : Description} → Leads (Link rows) d u → (i : Individual) → Fits w d i → Fits w u i
  leads_holds stay i s = s
  leads_holds (go l p) i s = leads_holds p i (link_holds l i s)

  -- a pair of an arrow is a pair of all that it leads to
  arrow_leads_holds : {a b : ℕ} → Leads (ArrowLink rows) a b → (i j : Individual) → Pair w a i j → Pair w b i j
  arrow_leads_holds stay i j s = s
  arrow_leads_holds (go {x = a} {y = b} l p) i j s = arrow_leads_holds p i j (ful (P a b) l i j s)

  -- two descriptions that are apart are not true of one individual
  apart_holds : {d u : Description} → Apart rows d u → (i : Individual) → Fits w d i → Fits w u i → ⊥
  apart_holds (by_X {a} {b} h) i s t = ful (X a b) h i s t
  apart_holds (by_K {a} {e} {n} {m} h l) i s t = ful (K a e n) h i s (lower w e m (n + 1) i (omega arith) t)

  -- nor two that lead to a clash
  clashing_holds : {d u : Description} → Clashing (Link rows) (Apart rows) d u → (i : Individual) → Fits w d i → Fits w u i → ⊥
  clashing_holds (x, y, p, q, inl a) i s t = apart_holds a i (leads_holds p i s) (leads_holds q i t)
  clashing_holds (x, y, p, q, inr a) i s t = apart_holds a i (leads_holds q i t) (leads_holds p i s)

  -- no pair belongs to two arrows that lead to a clash
  arrow_clashing_holds : {a b : ℕ} → Clashing (ArrowLink rows) (ArrowApart rows) a b → (i j : Individual) → Pair w a i j → Pair w b i j → ⊥
  arrow_clashing_holds (x, y, p, q, inl h) i j s t = ful (Q x y) h i j (arrow_leads_holds p i j s) (arrow_leads_holds q i j t)
  arrow_clashing_holds (x, y, p, q, inr h) i j s t = ful (Q y x) h i j (arrow_leads_holds q i j t) (arrow_leads_holds p i j s)

  -- nothing is in what is told empty
  empty_holds : {n : Name} → Empty rows n → Void w n
  empty_holds (clash c) = λ i s. clashing_holds c i s s
  empty_holds (leads p z) = λ i s. empty_holds z i (leads_holds p i s)
  empty_holds (clash_arrow c) = λ t. arrow_clashing_holds c t.0 t.1 t.2 t.2
  empty_holds (of_end {e} z) = at_end w e (empty_holds z)
  empty_holds (of_arrow {e} z) = λ i s. empty_holds z (met w e i (first w e i s).0 (first w e i s).1)

  -- two descriptions that are parted are not true of one individual
  parted_holds : {d u : Description} → Parted rows d u → (i : Individual) → Fits w d i → Fits w u i → ⊥
  parted_holds (inl z) i s t = empty_holds z i s
  parted_holds (inr (inl z)) i s t = empty_holds z i t
  parted_holds (inr (inr c)) i s t = clashing_holds c i s t

  -- a rule that is answered yes is fulfilled
  yes_holds : (ρ : Rule) → Yes rows ρ → Fulfils w ρ
  yes_holds (S a b) (inl z) = λ i s. absurd (empty_holds z i s)
  yes_holds (S a b) (inr p) = λ i s. leads_holds p i s
  yes_holds (X a b) y = λ i s t. parted_holds y i s t
  yes_holds (D e b) (inl z) = λ i s. absurd (empty_holds z i s)
  yes_holds (D e b) (inr p) = λ i s. leads_holds p i s
  yes_holds (F a e n) (inl z) = λ i s. absurd (empty_holds z i s)
  yes_holds (F a e n) (inr p) = λ i s. leads_holds p i s
  yes_holds (K a e n) y = λ i s t. parted_holds y i s t
  yes_holds (P p q) (inl z) = λ i j s. absurd (empty_holds z (i, j, s))
  yes_holds (P p q) (inr l) = λ i j s. arrow_leads_holds l i j s
  yes_holds (Q p q) (inl z) = λ i j s t. empty_holds z (i, j, s)
  yes_holds (Q p q) (inr (inl z)) = λ i j s t. empty_holds z (i, j, t)
  yes_holds (Q p q) (inr (inr (inl c))) = λ i j s t. arrow_clashing_holds c i j s t
  yes_holds (Q p q) (inr (inr (inr (inl c)))) = λ i j s t.
      clashing_holds c i (single w (2 * p) i j (p, inl (refl, s))) (single w (2 * q) i j (q, inl (refl, t)))
  yes_holds (Q p q) (inr (inr (inr (inr c)))) = λ i j s t.
      clashing_holds c j (single w (2 * p + 1) j i (p, inr (refl, s))) (single w (2 * q + 1) j i (q, inr (refl, t)))

-- so what is told holds in every world that fulfils the rows
pub always_holds : AlwaysHolds
always_holds rows w ful =
    record {
      class_empty = λ k z t. empty_holds rows w ful z t.0 t.1;
      arrow_empty = λ k z. empty_holds rows w ful z;
      rule_fulfilled = yes_holds rows w ful;
    }
