-- What a trial layer shows, row by row, and what one row more does to it.
use Rattle.std.proofs.Common.{◌≡◌, ℕ, zero, suc, ◌+◌, ◌-◌, ◌<◌, ◌≤◌, min, List, [], ◌∷◌, ◌++◌, length, take, Ok, Err, Result, sym, refl, ap, ◌∙◌, append_assoc, le_of_suc-le-suc, not-suc-le-zero, arith, length-append, length-take, take_all}
use native.Mathlib.Nat.{suc-sub-suc, sub-zero}
use Rattle.std.specs.List.{slice_get}
use Rattle.std.proofs.lemmas.Option.{slice_get_past}
use Rattle.schema.specs.declared.row.Row.{Row}
use Rattle.schema.specs.declared.faults.EnterFault.{EnterFault}
use Rattle.schema.specs.declared.faults.EnterFault.TheVariants.{Full}
use Rattle.schema.specs.Sheets.{Shown, Entered, with_rows}
use Rattle.pile.specs.Layers.{LayerEntered}
use Rattle.pile.specs.Plain.{Layer, trial, strike, shown_by}
use Rattle.pile.specs.Trials.{trial_shows, shown_length}

-- the first n elements are those of the list
nth_take : {X : Type 0} (n : ℕ) (xs : List X) (k : ℕ) → k < n → slice_get (take n xs) k ≡ slice_get xs k
nth_take zero xs k h = absurd (not-suc-le-zero h)
nth_take (suc n) [] k h = refl
nth_take (suc n) (x ∷ xs) zero h = refl
nth_take (suc n) (x ∷ xs) (suc k) h = nth_take n xs k (le_of_suc-le-suc h)

-- of two lists in a row, the first begins
nth_left : {X : Type 0} (xs ys : List X) (k : ℕ) → k < length xs → slice_get (xs ++ ys) k ≡ slice_get xs k
nth_left [] ys k h = absurd (not-suc-le-zero h)
nth_left (x ∷ xs) ys zero h = refl
nth_left (x ∷ xs) ys (suc k) h = nth_left xs ys k (le_of_suc-le-suc h)

-- and the second follows
nth_right : {X : Type 0} (xs ys : List X) (k : ℕ) → length xs ≤ k → slice_get (xs ++ ys) k ≡ slice_get ys (k - length xs)
nth_right [] ys k h = ap (λ (j : ℕ). slice_get ys j) (sym (sub-zero k))
nth_right (x ∷ xs) ys zero h = absurd (not-suc-le-zero h)
nth_right (x ∷ xs) ys (suc k) h = nth_right xs ys k (le_of_suc-le-suc h) ∙ ap (λ (j : ℕ). slice_get ys j) (sym (suc-sub-suc k (length xs)))

-- there is no row past the most that are shown
pub past_row : {X : Type 0} (n : ℕ) (xs : List X) (k : ℕ) → n ≤ k → slice_get (take n xs) k ≡ slice_get {X = X} [] k
past_row n xs k h = slice_get_past (take n xs) k (let e : length (take n xs) ≡ min n (length xs) = length-take n xs in omega arith)

-- a row of the sheet below
pub below_row : {X : Type 0} (n : ℕ) (xs ys : List X) (k : ℕ) → k < n → k < length xs → slice_get (take n (xs ++ ys)) k ≡ slice_get xs k
below_row n xs ys k h l = nth_take n (xs ++ ys) k h ∙ nth_left xs ys k l

-- a row of the layer's own
pub own_row : {X : Type 0} (n : ℕ) (xs ys : List X) (k : ℕ) → k < n → length xs ≤ k → slice_get (take n (xs ++ ys)) k ≡ slice_get ys (k - length xs)
own_row n xs ys k h l = nth_take n (xs ++ ys) k h ∙ nth_right xs ys k l

-- more rows at the end, where there is room
pub more_rows : {X : Type 0} (n : ℕ) (xs ys zs : List X) → length xs + length ys + length zs ≤ n → take n (xs ++ (ys ++ zs)) ≡ take n (xs ++ ys) ++ zs
more_rows {X} n xs ys zs h =
    let e : length (xs ++ ys) ≡ length xs + length ys = length-append xs ys in
    let f : length (xs ++ (ys ++ zs)) ≡ length xs + (length ys + length zs) = length-append xs (ys ++ zs) ∙ ap (λ (j : ℕ). length xs + j) (length-append ys zs) in
    take_all n (xs ++ (ys ++ zs)) (omega arith)
    ∙ sym (append_assoc xs ys zs)
    ∙ ap (λ (all : List X). all ++ zs) (sym (take_all n (xs ++ ys) (omega arith)))

-- where there is room, the layer has not all of its own rows
pub room_own : (s : Shown) (own : List Row) → length (trial_shows s own).rows < (trial_shows s own).capacity → length own < 32
room_own s own room = omega (arith, shown_length 65535 s.rows own)

-- entering a row: it is shown at the end
pub trial_entered : (s : Shown) (own : List Row) (row : Row) (after : List Row) → after ≡ own ++ row ∷ [] → length (trial_shows s own).rows < (trial_shows s own).capacity
    → trial_shows s after ≡ with_rows (trial_shows s own) ((trial_shows s own).rows ++ row ∷ [])
trial_entered s own row after p room =
    ap (trial_shows s) p ∙ ap (with_rows (trial_shows s own)) (more_rows 65535 s.rows own (row ∷ []) (omega (arith, shown_length 65535 s.rows own)))

-- the same of any layer
pub shown_entered : (l m : Layer) (s : Shown) (row : Row) (r : Result Unit EnterFault) → LayerEntered l s row r m → Entered (shown_by l s) row r (shown_by m s)
shown_entered (trial own) m s row (Ok u) h = (h.0, ap (λ (l : Layer). shown_by l s) h.1 ∙ trial_entered s own row (own ++ row ∷ []) refl h.0)
shown_entered (strike struck) m s row (Ok u) h = absurd (omega (arith, h.0))
shown_entered l m s row (Err Full) h = (h.0, ap (λ (l : Layer). shown_by l s) h.1)
