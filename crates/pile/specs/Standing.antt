-- Numbers in rising order.
--   among         one of the numbers
--   rises         each number is below the next
--   adds          one number more, in its place
--   drops         one number less
--   smaller       how many of the numbers are below another
--   shifted       a number moved past those of the list
use Rattle.std.specs.Prelude.{ℕ, suc, Bool, true, false, cond, ◌&&◌, ◌||◌, List, [], ◌∷◌, ◌==◌, nat_le, nat_lt}

abbrev pub among : ℕ → List ℕ → Bool
among i [] = false
among i (x ∷ xs) = i == x || among i xs

-- every number of the list is above x
abbrev pub above : ℕ → List ℕ → Bool
above x [] = true
above x (y ∷ ys) = nat_lt x y && above x ys

abbrev pub rises : List ℕ → Bool
rises [] = true
rises (x ∷ xs) = above x xs && rises xs

abbrev pub adds : ℕ → List ℕ → List ℕ
adds k [] = k ∷ []
adds k (x ∷ xs) = cond (nat_lt x k) (x ∷ adds k xs) (k ∷ x ∷ xs)

abbrev pub drops : ℕ → List ℕ → List ℕ
drops k [] = []
drops k (x ∷ xs) = cond (x == k) xs (x ∷ drops k xs)

-- where the numbers rise, the place at which k stands or would stand
abbrev pub smaller : ℕ → List ℕ → ℕ
smaller k [] = 0
smaller k (x ∷ xs) = cond (nat_lt x k) (suc (smaller k xs)) 0

-- where the numbers rise, number k of those that the list leaves out
abbrev pub shifted : ℕ → List ℕ → ℕ
shifted k [] = k
shifted k (x ∷ xs) = shifted (cond (nat_le x k) (suc k) k) xs
