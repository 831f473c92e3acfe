-- The rows that strikes leave are those from which one number after another is taken out, the largest first.
use Rattle.std.proofs.Common.{◌≡◌, ℕ, zero, suc, ◌+◌, ◌-◌, ◌<◌, ◌≤◌, Bool, true, false, cond, ◌||◌, eqb, ltb, leb, List, [], ◌∷◌, length, sym, refl, ap, ◌∙◌, ⊎_elim, zero-le, le_of_suc-le-suc, not-suc-le-zero, arith}
use native.Mathlib.Nat.{sub-zero}
use Rattle.std.specs.List.{slice_get, remove}
use Rattle.std.specs.List.Sorted.{IsPartitionPoint, IsPartitionedBy}
use Rattle.std.proofs.lemmas.List.Edits.{length-remove}
use Rattle.std.proofs.lemmas.Bool.{ltb-true, ltb-false, leb-true, leb-false, eq-eqb, ne_eqb, and_parts, or_from, or_left, cases_Bool, cases_order, cases_lt}
use Rattle.schema.specs.declared.row.Row.{Row}
use Rattle.pile.specs.Standing.{among, above, rises, smaller, shifted}
use Rattle.pile.specs.Strikes.{unstruck}
use Rattle.pile.proofs.Rising.{above_not, smaller_none, parted}

-- nothing is taken from nothing
removed_nil : {X : Type 0} (i : ℕ) → remove {X = X} [] i ≡ []
removed_nil zero = refl
removed_nil (suc i) = refl

-- nothing is taken out past the end
removed_past : {X : Type 0} (xs : List X) (i : ℕ) → length xs ≤ i → remove xs i ≡ xs
removed_past [] i h = removed_nil i
removed_past (x ∷ xs) zero h = absurd (not-suc-le-zero h)
removed_past {X} (x ∷ xs) (suc i) h = ap {B = List X} (λ ys. x ∷ ys) (removed_past xs i (le_of_suc-le-suc h))

-- what stands before the one taken out stays
nth_removed_below : {X : Type 0} (xs : List X) (i k : ℕ) → k < i → slice_get (remove xs i) k ≡ slice_get xs k
nth_removed_below xs zero k h = absurd (not-suc-le-zero h)
nth_removed_below [] (suc i) k h = refl
nth_removed_below (x ∷ xs) (suc i) zero h = refl
nth_removed_below (x ∷ xs) (suc i) (suc k) h = nth_removed_below xs i k (le_of_suc-le-suc h)

-- what stands after it moves up by one
nth_removed_above : {X : Type 0} (xs : List X) (i k : ℕ) → i ≤ k → slice_get (remove xs i) k ≡ slice_get xs (suc k)
nth_removed_above [] zero k h = refl
nth_removed_above [] (suc i) k h = refl
nth_removed_above (x ∷ xs) zero k h = refl
nth_removed_above (x ∷ xs) (suc i) zero h = absurd (not-suc-le-zero h)
nth_removed_above (x ∷ xs) (suc i) (suc k) h = nth_removed_above xs i k (le_of_suc-le-suc h)

-- the rows without those of some numbers
abbrev without : List ℕ → List Row → List Row
without [] rows = rows
without (x ∷ xs) rows = remove (without xs rows) x

-- row k of what is left stood at the shifted place
nth_without : (xs : List ℕ) (rows : List Row) (k : ℕ) → slice_get (without xs rows) k ≡ slice_get rows (shifted k xs)
nth_without [] rows k = refl
nth_without (x ∷ xs) rows k =
    ⊎_elim
    (λ (e : leb x k ≡ true). rw e (nth_removed_above (without xs rows) x k (leb-true x k e) ∙ nth_without xs rows (suc k)))
    (λ (e : leb x k ≡ false). rw e (nth_removed_below (without xs rows) x k (leb-false x k e) ∙ nth_without xs rows k))
    (cases_Bool (leb x k))

-- where nothing is struck, every row is left
keep_all : (i : ℕ) (rows : List Row) → unstruck i [] rows ≡ rows
keep_all i [] = refl
keep_all i (r ∷ rs) = ap {B = List Row} (λ ys. r ∷ ys) (keep_all (suc i) rs)

-- a number below the first row's strikes none
drop_low : (i x : ℕ) (xs : List ℕ) (rows : List Row) → x < i → unstruck i (x ∷ xs) rows ≡ unstruck i xs rows
drop_low i x xs [] h = refl
drop_low i x xs (r ∷ rs) h =
    let e : eqb i x ≡ false = ne_eqb i x (λ p. omega arith) in
    let q : unstruck (suc i) (x ∷ xs) rs ≡ unstruck (suc i) xs rs = drop_low (suc i) x xs rs (omega arith) in
    let f : Bool → List Row → List Row = λ b ys. cond (b || among i xs) ys (r ∷ ys) in
    ap (λ (b : Bool). f b (unstruck (suc i) (x ∷ xs) rs)) e ∙ ap (f false) q

-- the lowest number takes out one row of those that the others leave
remove_first : (i x : ℕ) (xs : List ℕ) (rows : List Row) → i ≤ x → above x xs ≡ true → unstruck i (x ∷ xs) rows ≡ remove (unstruck i xs rows) (x - i)
remove_first i x xs [] h a = sym (removed_nil (x - i))
remove_first i x xs (r ∷ rs) h a =
    let n : among i xs ≡ false = above_not i x xs h a in
    let U : List Row = unstruck (suc i) xs rs in
    let f : Bool → List Row → List Row = λ b ys. cond b ys (r ∷ ys) in
    let g : unstruck i xs (r ∷ rs) ≡ r ∷ U = ap (λ (b : Bool). f b U) n in
    ⊎_elim
    (λ (e : i ≡ x).
    let t : (eqb i x || among i xs) ≡ true = or_left (eqb i x) (among i xs) (eq-eqb i x e) in
    let z : x - i ≡ 0 = omega arith in
    ap (λ (b : Bool). f b (unstruck (suc i) (x ∷ xs) rs)) t
    ∙ drop_low (suc i) x xs rs (omega arith)
    ∙ ap (λ (j : ℕ). remove (r ∷ U) j) (sym z)
    ∙ ap (λ (ys : List Row). remove ys (x - i)) (sym g))
    (⊎_elim
    (λ (l : i < x).
    let t : (eqb i x || among i xs) ≡ false = or_from (eqb i x) (among i xs) (ne_eqb i x (λ e. omega arith)) n in
    let z : x - i ≡ suc (x - suc i) = omega arith in
    ap (λ (b : Bool). f b (unstruck (suc i) (x ∷ xs) rs)) t
    ∙ ap {B = List Row} (λ ys. r ∷ ys) (remove_first (suc i) x xs rs l a)
    ∙ ap (λ (j : ℕ). remove (r ∷ U) j) (sym z)
    ∙ ap (λ (ys : List Row). remove ys (x - i)) (sym g))
    (λ (l : x < i). absurd (omega arith)))
    (cases_order i x)

-- what is left, told in both ways
unstruck_is : (xs : List ℕ) (rows : List Row) → rises xs ≡ true → unstruck 0 xs rows ≡ without xs rows
unstruck_is [] rows h = keep_all 0 rows
unstruck_is (x ∷ xs) rows h =
    let p : (above x xs ≡ true) × (rises xs ≡ true) = and_parts (above x xs) (rises xs) h in
    remove_first 0 x xs rows zero-le p.0
    ∙ ap (λ (j : ℕ). remove (unstruck 0 xs rows) j) (sub-zero x)
    ∙ ap (λ (ys : List Row). remove ys x) (unstruck_is xs rows p.1)

-- the row that is shown at k
pub nth_unstruck : (xs : List ℕ) (rows : List Row) (k : ℕ) → rises xs ≡ true → slice_get (unstruck 0 xs rows) k ≡ slice_get rows (shifted k xs)
nth_unstruck xs rows k h = ap (λ (ys : List Row). slice_get ys k) (unstruck_is xs rows h) ∙ nth_without xs rows k

-- the larger numbers leave the row of a lower one
still_there : (x : ℕ) (xs : List ℕ) (rows : List Row) → above x xs ≡ true → x < length rows → x < length (without xs rows)
still_there x [] rows a h = h
still_there x (y ∷ ys) rows a h =
    let p : (ltb x y ≡ true) × (above x ys ≡ true) = and_parts (ltb x y) (above x ys) a in
    let l : x < y = ltb-true x y p.0 in
    let w : x < length (without ys rows) = still_there x ys rows p.1 h in
    ⊎_elim
    (λ (b : y < length (without ys rows)). omega (arith, length-remove (without ys rows) y b))
    (λ (b : length (without ys rows) ≤ y). rw (removed_past (without ys rows) y b) w)
    (cases_lt y (length (without ys rows)))

-- each number below the length takes out one row
length_without : (xs : List ℕ) (rows : List Row) → rises xs ≡ true → length (without xs rows) + smaller (length rows) xs ≡ length rows
length_without [] rows h = omega arith
length_without (x ∷ xs) rows h =
    let p : (above x xs ≡ true) × (rises xs ≡ true) = and_parts (above x xs) (rises xs) h in
    let q : length (without xs rows) + smaller (length rows) xs ≡ length rows = length_without xs rows p.1 in
    ⊎_elim
    (λ (e : ltb x (length rows) ≡ true).
    let s : x < length (without xs rows) = still_there x xs rows p.0 (ltb-true x (length rows) e) in
    rw e (omega (arith, length-remove (without xs rows) x s)))
    (λ (e : ltb x (length rows) ≡ false).
    let m : smaller (length rows) xs ≡ 0 = smaller_none (length rows) x xs (ltb-false x (length rows) e) p.0 in
    let o : length rows ≤ x = ltb-false x (length rows) e in
    rw (e, removed_past (without xs rows) x (omega arith)) (omega arith))
    (cases_Bool (ltb x (length rows)))

-- how many rows are shown
pub length_unstruck : (xs : List ℕ) (rows : List Row) → rises xs ≡ true → length (unstruck 0 xs rows) + smaller (length rows) xs ≡ length rows
length_unstruck xs rows h = ap (λ (ys : List Row). length ys + smaller (length rows) xs) (unstruck_is xs rows h) ∙ length_without xs rows h

-- the same by the place that a search told of a slice of the numbers
pub length_left : (xs ys : List ℕ) (rows : List Row) (n i : ℕ) → rises xs ≡ true → ys ≡ xs → n ≡ length rows → i ≤ length ys
    → (IsPartitionedBy (λ y. ltb y n) ys → IsPartitionPoint (λ y. ltb y n ≡ true) (λ y. ltb y n ≡ false) ys i) → length (unstruck 0 xs rows) + i ≡ n
length_left xs ys rows n i up same e w h =
    let p : i ≡ smaller n ys = parted n i ys (ap rises same ∙ up) w h in
    let q : smaller n ys ≡ smaller (length rows) xs = ap (smaller n) same ∙ ap (λ (j : ℕ). smaller j xs) e in
    omega (arith, length_unstruck xs rows up)
