-- A line taken apart.
use Rattle.std.proofs.Common.{◌≡◌, ℕ, zero, suc, ◌+◌, ◌-◌, ◌≤◌, List, [], ◌∷◌, ◌++◌, length, get_or, take, drop, sym, ap, ◌∙◌, add-zero, arith, drop-cons, length-take, length-drop}
use Rattle.std.proofs.lemmas.List.{drop_all, take_rest}

-- n elements of a list, from place i
abbrev listed : ℕ → ℕ → List ℕ → List ℕ
listed zero i xs = []
listed (suc n) i xs = get_or xs i 0 ∷ listed n (suc i) xs

-- a list is its first elements and the rest
drop_listed : (n i : ℕ) (xs : List ℕ) → i + n ≤ length xs → drop i xs ≡ listed n i xs ++ drop (i + n) xs
drop_listed zero i xs h = ap (λ k. drop k xs) (sym (add-zero i))
drop_listed (suc n) i xs h =
    let e : suc i + n ≡ i + suc n = omega arith in
    drop-cons xs i 0 (omega arith) ∙ ap (λ l. get_or xs i 0 ∷ l) (drop_listed n (suc i) xs (omega arith) ∙ ap (λ k. listed n (suc i) xs ++ drop k xs) e)

-- what comes after the letter and the first group
abbrev rest : List ℕ → List ℕ
rest xs = take (length xs - 5) (drop 5 xs)

-- a line by its letter, its first group, and of the rest two groups and the last byte
pub line_parts : (xs : List ℕ) → length xs ≡ 14
    → xs ≡ get_or xs 0 0 ∷ (listed 4 1 xs ++ (listed 4 0 (rest xs) ++ (listed 4 4 (rest xs) ++ get_or (rest xs) 8 0 ∷ [])))
line_parts xs h =
    let long : length (rest xs) ≡ 9 = omega (arith, length-take (length xs - 5) (drop 5 xs), length-drop 5 xs) in
    let parts = drop_listed 9 0 (rest xs) (omega arith) ∙ ap (λ l. listed 9 0 (rest xs) ++ l) (drop_all 9 (rest xs) (omega arith)) in
    drop_listed 5 0 xs (omega arith) ∙ ap (λ l. listed 5 0 xs ++ l) (sym (take_rest xs 5) ∙ parts)
