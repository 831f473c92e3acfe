-- Numbers that rise: where one stands, and that they still rise with one more or one less.
use Rattle.std.proofs.Common.{◌≡◌, ℕ, zero, suc, ◌<◌, ◌≤◌, Bool, true, false, cond, ◌&&◌, eqb, ltb, List, [], ◌∷◌, length, Ok, Err, get_or, sym, refl, ap, ◌∙◌, subst, ⊎_elim, suc-le-suc, zero-le, le_of_suc-le-suc, not-suc-le-zero, arith}
use borrow.Author.Tests.{clash}
use Rattle.std.specs.List.{insert, remove}
use Rattle.std.specs.List.Sorted.{IsBinarySearchResult, IsPartitionPoint, IsPartitionedBy}
use Rattle.std.specs.Ordering.{nat_cmp}
use Rattle.std.proofs.lemmas.List.Sorted.{searched, IsPartitionedBy-ltb, IsNonDecreasingBy-from_default}
use Rattle.std.proofs.lemmas.Bool.{ltb-true, ltb-false, lt-ltb, le-ltb, eq-eqb, ne_eqb, and_parts, and_from, or_from, or_left, or_right, or_parts, both_ways, cases_Bool, cases_order}
use Rattle.pile.specs.Standing.{among, above, rises, adds, drops, smaller}

-- a number that is not above the lowest is not among them
pub above_not : (i x : ℕ) (xs : List ℕ) → i ≤ x → above x xs ≡ true → among i xs ≡ false
above_not i x [] h a = refl
above_not i x (y ∷ ys) h a =
    let p : (ltb x y ≡ true) × (above x ys ≡ true) = and_parts (ltb x y) (above x ys) a in
    let l : x < y = ltb-true x y p.0 in
    or_from (eqb i y) (among i ys) (ne_eqb i y (λ e. omega arith)) (above_not i x ys h p.1)

-- none is smaller than a number that all are above
pub smaller_none : (n x : ℕ) (xs : List ℕ) → n ≤ x → above x xs ≡ true → smaller n xs ≡ 0
smaller_none n x [] h a = refl
smaller_none n x (y ∷ ys) h a =
    let p : (ltb x y ≡ true) × (above x ys ≡ true) = and_parts (ltb x y) (above x ys) a in
    let l : x < y = ltb-true x y p.0 in
    ⊎_elim
    (λ (e : ltb y n ≡ true). absurd (omega (arith, ltb-true y n e)))
    (λ (e : ltb y n ≡ false). rw e)
    (cases_Bool (ltb y n))

-- each of the numbers is above the lowest
above_at : (x : ℕ) (xs : List ℕ) → above x xs ≡ true → (i : ℕ) → i < length xs → x ≤ get_or xs i 0
above_at x [] a i l = absurd (not-suc-le-zero l)
above_at x (y ∷ ys) a zero l = let m : x < y = ltb-true x y (and_parts (ltb x y) (above x ys) a).0 in omega arith
above_at x (y ∷ ys) a (suc i) l = above_at x ys (and_parts (ltb x y) (above x ys) a).1 i (le_of_suc-le-suc l)

-- none of them is above a later one
ordered : (xs : List ℕ) → rises xs ≡ true → (i j : ℕ) → i ≤ j → j < length xs → get_or xs i 0 ≤ get_or xs j 0
ordered [] r i j h l = absurd (not-suc-le-zero l)
ordered (x ∷ xs) r zero zero h l = omega arith
ordered (x ∷ xs) r zero (suc j) h l = above_at x xs (and_parts (above x xs) (rises xs) r).0 j (le_of_suc-le-suc l)
ordered (x ∷ xs) r (suc i) zero h l = absurd (not-suc-le-zero h)
ordered (x ∷ xs) r (suc i) (suc j) h l = ordered xs (and_parts (above x xs) (rises xs) r).1 i j (le_of_suc-le-suc h) (le_of_suc-le-suc l)

-- the place up to which the numbers are smaller
smaller_up_to : (k i : ℕ) (xs : List ℕ) → i ≤ length xs → ((j : ℕ) → j < i → get_or xs j 0 < k) → ((j : ℕ) → i ≤ j → j < length xs → k ≤ get_or xs j 0) → i ≡ smaller k xs
smaller_up_to k zero [] w b a = refl
smaller_up_to k (suc i) [] w b a = absurd (not-suc-le-zero w)
smaller_up_to k zero (x ∷ xs) w b a = sym (ap (λ (t : Bool). cond t (suc (smaller k xs)) 0) (le-ltb x k (a zero zero-le (suc-le-suc zero-le))))
smaller_up_to k (suc i) (x ∷ xs) w b a =
    let e : i ≡ smaller k xs = smaller_up_to k i xs (le_of_suc-le-suc w) (λ j h. b (suc j) (suc-le-suc h)) (λ j h l. a (suc j) (suc-le-suc h) (suc-le-suc l)) in
    ap suc e ∙ sym (ap (λ (t : Bool). cond t (suc (smaller k xs)) 0) (lt-ltb x k (b zero (suc-le-suc zero-le))))

-- a number that stands at a place is among them, and taking out that place drops it
stands : (k i : ℕ) (xs : List ℕ) → rises xs ≡ true → i < length xs → get_or xs i 0 ≡ k → (among k xs ≡ true) × (remove xs i ≡ drops k xs)
stands k i [] r l e = absurd (not-suc-le-zero l)
stands k zero (x ∷ xs) r l e = (or_left (eqb k x) (among k xs) (eq-eqb k x (sym e)), sym (ap (λ (t : Bool). cond t xs (x ∷ drops k xs)) (eq-eqb x k e)))
stands k (suc i) (x ∷ xs) r l e =
    let p : (above x xs ≡ true) × (rises xs ≡ true) = and_parts (above x xs) (rises xs) r in
    let w : (among k xs ≡ true) × (remove xs i ≡ drops k xs) = stands k i xs p.1 (le_of_suc-le-suc l) e in
    let n : eqb x k ≡ false = ne_eqb x k (λ q. both_ways (among k xs) (above_not k x xs (omega arith) p.0) w.0) in
    (or_right (eqb k x) (among k xs) w.0, ap {B = List ℕ} (λ ys. x ∷ ys) w.1 ∙ sym (ap (λ (t : Bool). cond t xs (x ∷ drops k xs)) n))

-- between the smaller and the larger ones a number is missing, and put in there it is added
missing : (k i : ℕ) (xs : List ℕ) → i ≤ length xs → ((j : ℕ) → j < i → get_or xs j 0 < k) → ((j : ℕ) → i ≤ j → j < length xs → k < get_or xs j 0) → (among k xs ≡ false) × (insert xs i k ≡ adds k xs)
missing k zero [] w b a = (refl, refl)
missing k (suc i) [] w b a = absurd (not-suc-le-zero w)
missing k zero (x ∷ xs) w b a =
    let l : k < x = a zero zero-le (suc-le-suc zero-le) in
    let rest : among k xs ≡ false = (missing k zero xs zero-le (λ j h. absurd (not-suc-le-zero h)) (λ j h m. a (suc j) zero-le (suc-le-suc m))).0 in
    (or_from (eqb k x) (among k xs) (ne_eqb k x (λ e. omega arith)) rest, sym (ap (λ (t : Bool). cond t (x ∷ adds k xs) (k ∷ x ∷ xs)) (le-ltb x k (omega arith))))
missing k (suc i) (x ∷ xs) w b a =
    let l : x < k = b zero (suc-le-suc zero-le) in
    let m : (among k xs ≡ false) × (insert xs i k ≡ adds k xs) = missing k i xs (le_of_suc-le-suc w) (λ j h. b (suc j) (suc-le-suc h)) (λ j h n. a (suc j) (suc-le-suc h) (suc-le-suc n)) in
    (or_from (eqb k x) (among k xs) (ne_eqb k x (λ e. omega arith)) m.0, ap {B = List ℕ} (λ ys. x ∷ ys) m.1 ∙ sym (ap (λ (t : Bool). cond t (x ∷ adds k xs) (k ∷ x ∷ xs)) (lt-ltb x k l)))

-- what a binary search that finds a number tells
pub sought : (k i : ℕ) (xs ys : List ℕ) → rises xs ≡ true → ys ≡ xs → IsBinarySearchResult (λ y. nat_cmp y k) ys (Ok i)
    → (i < length xs) × (among k xs ≡ true) × (remove xs i ≡ drops k xs)
sought k i xs ys up e h =
    let s = searched xs k (Ok i) (subst (λ (zs : List ℕ). IsBinarySearchResult (λ y. nat_cmp y k) zs (Ok i)) e h) (ordered xs up) in
    let t = stands k i xs up s.0 s.1 in
    (s.0, t.0, t.1)

-- and one that does not
pub missed : (k i : ℕ) (xs ys : List ℕ) → rises xs ≡ true → ys ≡ xs → IsBinarySearchResult (λ y. nat_cmp y k) ys (Err i)
    → (i ≤ length xs) × (among k xs ≡ false) × (insert xs i k ≡ adds k xs)
missed k i xs ys up e h =
    let s = searched xs k (Err i) (subst (λ (zs : List ℕ). IsBinarySearchResult (λ y. nat_cmp y k) zs (Err i)) e h) (ordered xs up) in
    let t = missing k i xs s.0 s.1 s.2 in
    (s.0, t.0, t.1)

-- the place that parts the numbers below k from the others
pub parted : (k i : ℕ) (xs : List ℕ) → rises xs ≡ true → i ≤ length xs
    → (IsPartitionedBy (λ y. ltb y k) xs → IsPartitionPoint (λ y. ltb y k ≡ true) (λ y. ltb y k ≡ false) xs i) → i ≡ smaller k xs
parted k i xs up w h =
    let parts = IsPartitionedBy-ltb (λ y. y) xs k (IsNonDecreasingBy-from_default (λ y. y) xs 0 (ordered xs up)) in
    let p = h parts in
    smaller_up_to k i xs w (λ j l. ltb-true (get_or xs j 0) k (p.0 j 0 zero-le l)) (λ j l m. ltb-false (get_or xs j 0) k (p.1 j 0 l m))

-- what is above a number is above a lower one
above_less : (k x : ℕ) (xs : List ℕ) → k ≤ x → above x xs ≡ true → above k xs ≡ true
above_less k x [] h a = refl
above_less k x (y ∷ ys) h a =
    let p : (ltb x y ≡ true) × (above x ys ≡ true) = and_parts (ltb x y) (above x ys) a in
    let l : x < y = ltb-true x y p.0 in
    and_from (ltb k y) (above k ys) (lt-ltb k y (omega arith)) (above_less k x ys h p.1)

-- a higher number keeps them above
above_adds : (x k : ℕ) (xs : List ℕ) → x < k → above x xs ≡ true → above x (adds k xs) ≡ true
above_adds x k [] l a = and_from (ltb x k) true (lt-ltb x k l) refl
above_adds x k (y ∷ ys) l a =
    let p : (ltb x y ≡ true) × (above x ys ≡ true) = and_parts (ltb x y) (above x ys) a in
    ⊎_elim
    (λ (b : ltb y k ≡ true). rw b (and_from (ltb x y) (above x (adds k ys)) p.0 (above_adds x k ys l p.1)))
    (λ (b : ltb y k ≡ false). rw b (and_from (ltb x k) (ltb x y && above x ys) (lt-ltb x k l) a))
    (cases_Bool (ltb y k))

-- one number more, and they still rise
pub rises_adds : (k : ℕ) (xs : List ℕ) → rises xs ≡ true → among k xs ≡ false → rises (adds k xs) ≡ true
rises_adds k [] r n = refl
rises_adds k (x ∷ xs) r n =
    let p : (above x xs ≡ true) × (rises xs ≡ true) = and_parts (above x xs) (rises xs) r in
    let q : (eqb k x ≡ false) × (among k xs ≡ false) = or_parts (eqb k x) (among k xs) n in
    ⊎_elim
    (λ (b : ltb x k ≡ true). rw b (and_from (above x (adds k xs)) (rises (adds k xs)) (above_adds x k xs (ltb-true x k b) p.0) (rises_adds k xs p.1 q.1)))
    (λ (b : ltb x k ≡ false).
    let o : k ≤ x = ltb-false x k b in
    let l : k < x = ⊎_elim (λ (e : k ≡ x). absurd (clash (sym q.0 ∙ eq-eqb k x e))) (⊎_elim (λ (u : k < x). u) (λ (u : x < k). absurd (omega arith))) (cases_order k x) in
    rw b (and_from (ltb k x && above k xs) (above x xs && rises xs) (and_from (ltb k x) (above k xs) (lt-ltb k x l) (above_less k x xs o p.0)) r))
    (cases_Bool (ltb x k))

-- one number less keeps them above
above_drops : (x k : ℕ) (xs : List ℕ) → above x xs ≡ true → rises xs ≡ true → above x (drops k xs) ≡ true
above_drops x k [] a r = refl
above_drops x k (y ∷ ys) a r =
    let p : (ltb x y ≡ true) × (above x ys ≡ true) = and_parts (ltb x y) (above x ys) a in
    let q : (above y ys ≡ true) × (rises ys ≡ true) = and_parts (above y ys) (rises ys) r in
    ⊎_elim
    (λ (b : eqb y k ≡ true). rw b p.1)
    (λ (b : eqb y k ≡ false). rw b (and_from (ltb x y) (above x (drops k ys)) p.0 (above_drops x k ys p.1 q.1)))
    (cases_Bool (eqb y k))

-- one number less, and they still rise
pub rises_drops : (k : ℕ) (xs : List ℕ) → rises xs ≡ true → rises (drops k xs) ≡ true
rises_drops k [] r = refl
rises_drops k (x ∷ xs) r =
    let p : (above x xs ≡ true) × (rises xs ≡ true) = and_parts (above x xs) (rises xs) r in
    ⊎_elim
    (λ (b : eqb x k ≡ true). rw b p.1)
    (λ (b : eqb x k ≡ false). rw b (and_from (above x (drops k xs)) (rises (drops k xs)) (above_drops x k xs p.0 p.1) (rises_drops k xs p.1)))
    (cases_Bool (eqb x k))
