-- The sets of a web after one more row.
use Rattle.std.proofs.Common.{◌≡◌, ℕ, zero, suc, ◌<◌, ◌≤◌, ◌⊎◌, List, [], ◌∷◌, ◌++◌, length, get_or, set, replicate, max, sym, refl, ap, ◌∙◌, subst, inl, inr, ⊎_elim, arith, get_or-set_other, get_or-set_same}
use Rattle.std.proofs.lemmas.List.Elements.{Contains-append_left, Contains-push, Contains-push_cases}
use Rattle.std.proofs.lemmas.Bool.{cases_eq, cases_lt}
use Rattle.std.proofs.lemmas.List.{get_or_default, get_or-map, map-set, length-map}
use Rattle.std.proofs.Math.Seq.{map-set_same}
use Rattle.schema.specs.declared.descriptions.Descriptions.{Descriptions}
use Rattle.schema.specs.declared.descriptions.class.Class.{Class}
use Rattle.schema.specs.declared.row.Row.{Row}
use Rattle.schema.specs.Masks.{Member, Joins}
use Rattle.schema.specs.Rows.{◌∈◌, shape_of, Fits, Sound}
use Rattle.schema.specs.Points.{plain, supers_of, needs_of, counts_of, count, Raised, Told, Needed, Built}
use Rattle.schema.proofs.Bits.{member_zero}
use Rattle.schema.proofs.Members.{not_in_empty}

-- a row is told by its fields
pub row_is : (r : Row) (l a b n : ℕ) → r.letter ≡ l → r.a ≡ a → r.b ≡ b → r.n ≡ n → record { letter = l; a = a; b = b; n = n } ≡ r
row_is r l a b n p q s t = λ i. record { letter = sym p i; a = sym q i; b = sym s i; n = sym t i }

-- a set with one more member at its place, and the other sets as they were
module _ (sets : List ℕ) (a b v : ℕ) (within : a < length sets) (joins : Joins (get_or sets a 0) b v) where
  pub member_more : (x y : ℕ) → Member (get_or (set sets a v) x 0) y → Member (get_or sets x 0) y ⊎ ((x ≡ a) × (y ≡ b))
  member_more x y m =
      ⊎_elim
      (λ (e : x ≡ a).
      let w : Member v y = subst (λ (s : ℕ). Member s y) (ap (λ (i : ℕ). get_or (set sets a v) i 0) e ∙ get_or-set_same sets a v 0 within) m in
      ⊎_elim (λ (k : Member (get_or sets a 0) y). inl (subst (λ (i : ℕ). Member (get_or sets i 0) y) (sym e) k)) (λ (k : y ≡ b). inr (e, k)) (joins.only y w))
      (λ (e : x ≡ a → ⊥). inl (subst (λ (s : ℕ). Member s y) (get_or-set_other sets a x v 0 e) m))
      (cases_eq x a)

  pub member_kept : (x y : ℕ) → Member (get_or sets x 0) y → Member (get_or (set sets a v) x 0) y
  member_kept x y m =
      ⊎_elim
      (λ (e : x ≡ a).
      subst (λ (s : ℕ). Member s y) (sym (ap (λ (i : ℕ). get_or (set sets a v) i 0) e ∙ get_or-set_same sets a v 0 within))
      (joins.kept y (subst (λ (i : ℕ). Member (get_or sets i 0) y) e m)))
      (λ (e : x ≡ a → ⊥). subst (λ (s : ℕ). Member s y) (sym (get_or-set_other sets a x v 0 e)) m)
      (cases_eq x a)

  pub member_new : (x y : ℕ) → x ≡ a → y ≡ b → Member (get_or (set sets a v) x 0) y
  member_new x y e k =
      subst (λ (s : ℕ). Member s y) (sym (ap (λ (i : ℕ). get_or (set sets a v) i 0) e ∙ get_or-set_same sets a v 0 within))
      (subst (Member v) (sym k) joins.new)

-- a member that joins a set, said of equal places
pub joins_at : (sets : List ℕ) (a x b y d v : ℕ) → a ≡ x → b ≡ y → x < length sets → Joins (get_or sets a d) b v → Joins (get_or sets x 0) y v
joins_at sets a x b y d v p q w j =
    subst (λ (k : ℕ). Joins (get_or sets x 0) k v) q
    (subst (λ (m : ℕ). Joins m b v) (ap (λ (i : ℕ). get_or sets i d) p ∙ get_or_default sets x d 0 w) j)

-- one more row of the letter
pub told_more : (l : ℕ) (sets : List ℕ) (rows : List Row) (r : Row) (a b d v : ℕ) → r.letter ≡ l → r.n ≡ 0 → a ≡ r.a → b ≡ r.b → r.a < length sets
    → Joins (get_or sets a d) b v → Told l sets rows → Told l (set sets a v) (rows ++ r ∷ [])
told_more l sets rows r a b d v e z p q w i t =
    let j : Joins (get_or sets r.a 0) r.b v = joins_at sets a r.a b r.b d v p q w i in
    subst (λ (x : ℕ). Told l (set sets x v) (rows ++ r ∷ [])) (sym p)
    (record {
      only = λ a b m. ⊎_elim
          (λ (k : Member (get_or sets a 0) b). Contains-append_left rows (r ∷ []) (plain l a b) (t.only a b k))
          (λ (k : (a ≡ r.a) × (b ≡ r.b)). subst (λ (q : Row). q ∈ (rows ++ r ∷ [])) (sym (row_is r l a b 0 e (sym k.0) (sym k.1) z)) (Contains-push rows r))
          (member_more sets r.a r.b v w j a b m);
      all = λ a b m. ⊎_elim
          (λ (k : plain l a b ∈ rows). member_kept sets r.a r.b v w j a b (t.all a b k))
          (λ (k : r ≡ plain l a b). member_new sets r.a r.b v w j a b (ap (λ (q : Row). q.a) (sym k)) (ap (λ (q : Row). q.b) (sym k)))
          (Contains-push_cases rows r (plain l a b) m);
    })

-- one more row of another letter
pub told_other : (l : ℕ) (sets : List ℕ) (rows : List Row) (r : Row) → (r.letter ≡ l → ⊥) → Told l sets rows → Told l sets (rows ++ r ∷ [])
told_other l sets rows r e t =
    record {
      only = λ a b m. Contains-append_left rows (r ∷ []) (plain l a b) (t.only a b m);
      all = λ a b m. ⊎_elim (λ (k : plain l a b ∈ rows). t.all a b k) (λ (k : r ≡ plain l a b). absurd (e (ap (λ (q : Row). q.letter) k))) (Contains-push_cases rows r (plain l a b) m);
    }

abbrev needing : ℕ → ℕ → ℕ → Row
needing a e n = record { letter = 70; a = a; b = e; n = n }

pub needed_other : (sets : List ℕ) (counts : List (List ℕ)) (rows : List Row) (r : Row) → (r.letter ≡ 70 → ⊥) → Needed sets counts rows → Needed sets counts (rows ++ r ∷ [])
needed_other sets counts rows r x t =
    record {
      some = t.some;
      only = λ a e l h. Contains-append_left rows (r ∷ []) (needing a e (count counts a e)) (t.only a e l h);
      all = λ a e n m. ⊎_elim (λ (k : needing a e n ∈ rows). t.all a e n k) (λ (k : r ≡ needing a e n). absurd (x (ap (λ (q : Row). q.letter) k))) (Contains-push_cases rows r (needing a e n) m);
    }

-- one more need, put into the sets and counts of its class
module _ (sets : List ℕ) (counts : List (List ℕ)) (rows : List Row) (r : Row) (v : ℕ) (line : List ℕ) (x : r.letter ≡ 70) (w : r.a < length sets) (lw : r.a < length counts) (pos : 1 ≤ r.n)
    (j : Joins (get_or sets r.a 0) r.b v) (up : Raised (get_or counts r.a []) r.b r.n line) (t : Needed sets counts rows) where
  abbrev counts' : List (List ℕ)
  counts' = set counts r.a line

  same : (a e : ℕ) → a ≡ r.a → e ≡ r.b → count counts a e ≡ count counts r.a r.b
  same a e p q = ap (λ (i : ℕ). count counts i e) p ∙ ap (λ (i : ℕ). count counts r.a i) q

  here : (a e : ℕ) → a ≡ r.a → e ≡ r.b → count counts' a e ≡ max (count counts a e) r.n
  here a e p q =
      ap (λ (i : ℕ). count counts' i e) p ∙ ap (λ (l : List ℕ). get_or l e 0) (get_or-set_same counts r.a line [] lw)
      ∙ ap (λ (i : ℕ). get_or line i 0) q ∙ up.here ∙ ap (λ (n : ℕ). max n r.n) (sym (same a e p q))

  beside : (a e : ℕ) → a ≡ r.a → (e ≡ r.b → ⊥) → count counts' a e ≡ count counts a e
  beside a e p n =
      ap (λ (i : ℕ). count counts' i e) p ∙ ap (λ (l : List ℕ). get_or l e 0) (get_or-set_same counts r.a line [] lw)
      ∙ up.there e n ∙ sym (ap (λ (i : ℕ). count counts i e) p)

  there : (a e : ℕ) → ((a ≡ r.a) × (e ≡ r.b) → ⊥) → count counts' a e ≡ count counts a e
  there a e n =
      ⊎_elim (λ (p : a ≡ r.a). beside a e p (λ q. n (p, q)))
      (λ (p : a ≡ r.a → ⊥). ap (λ (l : List ℕ). get_or l e 0) (get_or-set_other counts r.a a line [] p))
      (cases_eq a r.a)

  place : (a e : ℕ) → ((a ≡ r.a) × (e ≡ r.b)) ⊎ ((a ≡ r.a) × (e ≡ r.b) → ⊥)
  place a e =
      ⊎_elim (λ (p : a ≡ r.a). ⊎_elim (λ (q : e ≡ r.b). inl (p, q)) (λ (q : e ≡ r.b → ⊥). inr (λ h. q h.1)) (cases_eq e r.b))
      (λ (p : a ≡ r.a → ⊥). inr (λ h. p h.0)) (cases_eq a r.a)

  -- no count falls
  higher : (a e : ℕ) → count counts a e ≤ count counts' a e
  higher a e = ⊎_elim (λ (q : (a ≡ r.a) × (e ≡ r.b)). omega (arith, here a e q.0 q.1)) (λ (q : (a ≡ r.a) × (e ≡ r.b) → ⊥). omega (arith, there a e q)) (place a e)

  -- a count that is as it was is that of a row
  old : (a e : ℕ) → e < 64 → count counts' a e ≡ count counts a e → 0 < count counts' a e → needing a e (count counts' a e) ∈ (rows ++ r ∷ [])
  old a e l s m = subst (λ (n : ℕ). needing a e n ∈ (rows ++ r ∷ [])) (sym s) (Contains-append_left rows (r ∷ []) (needing a e (count counts a e)) (t.only a e l (omega (arith, s, m))))

  pub needed_more : Needed (set sets r.a v) counts' (rows ++ r ∷ [])
  needed_more =
      record {
        some = λ a e l m. ⊎_elim (λ (k : Member (get_or sets a 0) e). omega (arith, higher a e, t.some a e l k))
            (λ (k : (a ≡ r.a) × (e ≡ r.b)). omega (arith, here a e k.0 k.1))
            (member_more sets r.a r.b v w j a e m);
        only = λ a e l m. ⊎_elim
            (λ (q : (a ≡ r.a) × (e ≡ r.b)).
            let s = here a e q.0 q.1 in
            ⊎_elim (λ (h : count counts a e < r.n).
            let is : count counts' a e ≡ r.n = omega (arith, s) in
            subst (λ (y : Row). y ∈ (rows ++ r ∷ [])) (sym (row_is r 70 a e (count counts' a e) x (sym q.0) (sym q.1) (sym is))) (Contains-push rows r))
            (λ (h : r.n ≤ count counts a e). old a e l (omega (arith, s)) m) (cases_lt (count counts a e) r.n))
            (λ (q : (a ≡ r.a) × (e ≡ r.b) → ⊥). old a e l (there a e q) m)
            (place a e);
        all = λ a e n m. ⊎_elim
            (λ (k : needing a e n ∈ rows). let q = t.all a e n k in (member_kept sets r.a r.b v w j a e q.0, omega (arith, higher a e, q.1)))
            (λ (k : r ≡ needing a e n).
            let ka : a ≡ r.a = ap (λ (q : Row). q.a) (sym k) in
            let kb : e ≡ r.b = ap (λ (q : Row). q.b) (sym k) in
            let kn : n ≡ r.n = ap (λ (q : Row). q.n) (sym k) in
            (member_new sets r.a r.b v w j a e ka kb, omega (arith, here a e ka kb)))
            (Contains-push_cases rows r (needing a e n) m);
      }

-- a web with one more row
module _ (w : Descriptions) (rows : List Row) (r : Row) (t : Built rows w) where
  abbrev After : Descriptions → Type 0
  After = Built (rows ++ r ∷ [])

  pub built_other : (r.letter ≡ 83 → ⊥) → (r.letter ≡ 68 → ⊥) → (r.letter ≡ 80 → ⊥) → (r.letter ≡ 70 → ⊥) → After w
  built_other s d p f =
      record {
        supers = told_other 83 (supers_of w.classes) rows r s t.supers;
        domains = told_other 68 w.domains rows r d t.domains;
        overs = told_other 80 w.arrows.overs rows r p t.overs;
        needs = needed_other (needs_of w.classes) (counts_of w.classes) rows r f t.needs;
      }

  pub built_domain : (a b d v : ℕ) → a ≡ r.a → b ≡ r.b → r.letter ≡ 68 → r.n ≡ 0 → r.a < length w.domains → Joins (get_or w.domains a d) b v
      → After (record { classes = w.classes; domains = set w.domains a v; arrows = w.arrows })
  built_domain a b d v p q e z l j =
      record {
        supers = told_other 83 (supers_of w.classes) rows r (λ x. omega arith) t.supers;
        domains = told_more 68 w.domains rows r a b d v e z p q l j t.domains;
        overs = told_other 80 w.arrows.overs rows r (λ x. omega arith) t.overs;
        needs = needed_other (needs_of w.classes) (counts_of w.classes) rows r (λ x. omega arith) t.needs;
      }

  pub built_over : (a b d v : ℕ) → a ≡ r.a → b ≡ r.b → r.letter ≡ 80 → r.n ≡ 0 → r.a < length w.arrows.overs → Joins (get_or w.arrows.overs a d) b v
      → After (record { classes = w.classes; domains = w.domains; arrows = record { overs = set w.arrows.overs a v } })
  built_over a b d v p q e z l j =
      record {
        supers = told_other 83 (supers_of w.classes) rows r (λ x. omega arith) t.supers;
        domains = told_other 68 w.domains rows r (λ x. omega arith) t.domains;
        overs = told_more 80 w.arrows.overs rows r a b d v e z p q l j t.overs;
        needs = needed_other (needs_of w.classes) (counts_of w.classes) rows r (λ x. omega arith) t.needs;
      }

  module _ (d c : Class) (l : r.a < length w.classes) where
    abbrev With : ℕ → Descriptions
    With a = record { classes = set w.classes a c; domains = w.domains; arrows = w.arrows }

    -- one more class that a class lies in
    pub built_super : (a b : ℕ) → a ≡ r.a → b ≡ r.b → r.letter ≡ 83 → r.n ≡ 0 → Joins (get_or w.classes a d).supers b c.supers
        → c.needs ≡ (get_or w.classes a d).needs → c.counts ≡ (get_or w.classes a d).counts → After (With a)
    built_super a b p q e z j x y =
        let f : Class → ℕ = λ (k : Class). k.supers in
        let h : Joins (get_or (supers_of w.classes) a 0) b c.supers = subst (λ (m : ℕ). Joins m b c.supers) (sym (get_or-map f w.classes a d 0 (omega arith))) j in
        record {
          supers = subst (λ (s : List ℕ). Told 83 s (rows ++ r ∷ [])) (sym (map-set f w.classes a c)) (told_more 83 (supers_of w.classes) rows r a b 0 c.supers e z p q (omega (arith, length-map w.classes f)) h t.supers);
          domains = told_other 68 w.domains rows r (λ x. omega arith) t.domains;
          overs = told_other 80 w.arrows.overs rows r (λ x. omega arith) t.overs;
          needs = subst (λ (s : List ℕ). Needed s (counts_of (set w.classes a c)) (rows ++ r ∷ [])) (sym (map-set_same (λ (k : Class). k.needs) w.classes a c d x))
              (subst (λ (s : List (List ℕ)). Needed (needs_of w.classes) s (rows ++ r ∷ [])) (sym (map-set_same (λ (k : Class). k.counts) w.classes a c d y))
              (needed_other (needs_of w.classes) (counts_of w.classes) rows r (λ x. omega arith) t.needs));
        }

    -- one more need of a class
    abbrev Need : ℕ → ℕ → Type 0
    Need a b = Joins (get_or w.classes a d).needs b c.needs → Raised (get_or w.classes a d).counts b r.n c.counts → c.supers ≡ (get_or w.classes a d).supers → After (With a)

    need : r.letter ≡ 70 → 1 ≤ r.n → Need r.a r.b
    need e o j u x =
        let f : Class → ℕ = λ (k : Class). k.needs in
        let g : Class → List ℕ = λ (k : Class). k.counts in
        let h : Joins (get_or (needs_of w.classes) r.a 0) r.b c.needs = subst (λ (m : ℕ). Joins m r.b c.needs) (sym (get_or-map f w.classes r.a d 0 l)) j in
        let v : Raised (get_or (counts_of w.classes) r.a []) r.b r.n c.counts = subst (λ (m : List ℕ). Raised m r.b r.n c.counts) (sym (get_or-map g w.classes r.a d [] l)) u in
        record {
          supers = subst (λ (s : List ℕ). Told 83 s (rows ++ r ∷ [])) (sym (map-set_same (λ (k : Class). k.supers) w.classes r.a c d x)) (told_other 83 (supers_of w.classes) rows r (λ y. omega arith) t.supers);
          domains = told_other 68 w.domains rows r (λ y. omega arith) t.domains;
          overs = told_other 80 w.arrows.overs rows r (λ y. omega arith) t.overs;
          needs = subst (λ (s : List ℕ). Needed s (counts_of (set w.classes r.a c)) (rows ++ r ∷ [])) (sym (map-set f w.classes r.a c))
              (subst (λ (s : List (List ℕ)). Needed (set (needs_of w.classes) r.a c.needs) s (rows ++ r ∷ [])) (sym (map-set g w.classes r.a c))
              (needed_more (needs_of w.classes) (counts_of w.classes) rows r c.needs c.counts e (omega (arith, length-map w.classes f)) (omega (arith, length-map w.classes g)) o h v t.needs));
        }

    pub built_need : (a b : ℕ) → a ≡ r.a → b ≡ r.b → r.letter ≡ 70 → 1 ≤ r.n → Need a b
    built_need a b p q e o = subst (λ (i : ℕ). Need i b) (sym p) (subst (λ (i : ℕ). Need r.a i) (sym q) (need e o))

-- what a sound row of a letter keeps to
pub fits_at : (r : Row) (l : ℕ) → r.letter ≡ l → Sound 64 32 r → Fits 64 32 r (shape_of l)
fits_at r l e s = subst (λ (x : ℕ). Fits 64 32 r (shape_of x)) e s

-- zeros hold nothing
pub zeros_at : (n a : ℕ) → ◌≡◌ {A = ℕ} (get_or (replicate n 0) a 0) 0
zeros_at zero a = refl
zeros_at (suc n) zero = refl
zeros_at (suc n) (suc a) = zeros_at n a

pub told_none : (l n : ℕ) → Told l (replicate n 0) []
told_none l n =
    record {
      only = λ a b m. absurd (member_zero _ b (zeros_at n a) m);
      all = λ a b m. absurd (not_in_empty m);
    }

lines_at : (n m a e : ℕ) → count (replicate n (replicate m 0)) a e ≡ 0
lines_at zero m a e = refl
lines_at (suc n) m zero e = zeros_at m e
lines_at (suc n) m (suc a) e = lines_at n m a e

pub needed_none : (n : ℕ) → Needed (replicate n 0) (replicate 64 (replicate 64 0)) []
needed_none n =
    record {
      some = λ a e l x. absurd (member_zero _ e (zeros_at n a) x);
      only = λ a e l x. absurd (omega (arith, lines_at 64 64 a e));
      all = λ a e k x. absurd (not_in_empty x);
    }
