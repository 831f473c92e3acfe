-- The points of the web of descriptions, in a list.
use Rattle.std.proofs.Common.{◌≡◌, ℕ, zero, suc, ◌*◌, ◌<◌, ◌≤◌, ◌⊎◌, List, [], ◌∷◌, ◌++◌, sym, ap, subst, inl, inr, arith}
use Rattle.std.proofs.lemmas.List.Elements.{Contains-append_left, Contains-append_right}
use native.Mathlib.Decide.{map_dec, dec_le, dec_lt}
use Rattle.schema.specs.Rows.{◌∈◌}
use Rattle.schema.specs.Webs.{Description, cls, mark}
use Rattle.schema.proofs.Members.{here, there}
use Rattle.schema.proofs.theory.Ends.{order}
use Rattle.schema.proofs.theory.Deciding.{both?}

-- classes below c, marks (e, m) with e below 2p and m from 1 to 31, one above the highest cap
abbrev pub Point : ℕ → ℕ → Description → Type 0
Point c p (cls a) = a < c
Point c p (mark e m) = (e < 2 * p) × (1 ≤ m) × (m ≤ 31)

-- whether a description is a point
pub point? : (c p : ℕ) (d : Description) → Dec (Point c p d)
point? c p (cls a) = dec_lt a c
point? c p (mark e m) =
    map_dec {A = (e < 2 * p) × ((1 ≤ m) × (m ≤ 31))} (λ t. (t.0, t.1.0, t.1.1)) (λ t. (t.0, (t.1, t.2)))
    (both? (dec_lt e (2 * p)) (λ _. both? (dec_le 1 m) (λ _. dec_le m 31)))

-- the classes below n
abbrev classes : ℕ → List Description
classes zero = []
classes (suc n) = cls n ∷ classes n

-- the marks of end e from 1 to n
abbrev marks_of : ℕ → ℕ → List Description
marks_of e zero = []
marks_of e (suc n) = mark e (suc n) ∷ marks_of e n

-- the marks of the ends below n
abbrev marks : ℕ → List Description
marks zero = []
marks (suc e) = marks_of e 31 ++ marks e

-- each class below n is listed
in_classes : (n a : ℕ) → a < n → cls a ∈ classes n
in_classes zero a h = absurd (omega arith)
in_classes (suc n) a h = on (order a n (omega arith)) (λ l. in_classes n a l)
  where
    on : (a ≡ n) ⊎ (a < n) → (a < n → cls a ∈ classes n) → cls a ∈ classes (suc n)
    on (inl e) f = here (classes n) (ap cls (sym e))
    on (inr l) f = there (classes n) (f l)

-- each mark of e from 1 to n is listed
in_marks_of : (e n m : ℕ) → 1 ≤ m → m ≤ n → mark e m ∈ marks_of e n
in_marks_of e zero m o h = absurd (omega arith)
in_marks_of e (suc n) m o h = on (order m (suc n) h) (λ l. in_marks_of e n m o l)
  where
    on : (m ≡ suc n) ⊎ (m < suc n) → (m ≤ n → mark e m ∈ marks_of e n) → mark e m ∈ marks_of e (suc n)
    on (inl q) f = here (marks_of e n) (ap (mark e) (sym q))
    on (inr l) f = there (marks_of e n) (f (omega arith))

-- each mark of an end below n is listed
in_marks : (n e m : ℕ) → e < n → 1 ≤ m → m ≤ 31 → mark e m ∈ marks n
in_marks zero e m h o u = absurd (omega arith)
in_marks (suc n) e m h o u = on (order e n (omega arith)) (λ l. in_marks n e m l o u)
  where
    on : (e ≡ n) ⊎ (e < n) → (e < n → mark e m ∈ marks n) → mark e m ∈ (marks_of n 31 ++ marks n)
    on (inl q) f =
        subst (λ x. mark x m ∈ (marks_of n 31 ++ marks n)) (sym q) (Contains-append_left (marks_of n 31) (marks n) (mark n m) (in_marks_of n 31 m o u))
    on (inr l) f = Contains-append_right (marks_of n 31) (marks n) (mark e m) (f l)

-- all points
abbrev pub points_of : ℕ → ℕ → List Description
points_of c p = classes c ++ marks (2 * p)

-- each point is listed
pub points_in : (c p : ℕ) (d : Description) → Point c p d → d ∈ points_of c p
points_in c p (cls a) h = Contains-append_left (classes c) (marks (2 * p)) (cls a) (in_classes c a h)
points_in c p (mark e m) h = Contains-append_right (classes c) (marks (2 * p)) (mark e m) (in_marks (2 * p) e m h.0 h.1 h.2)
