-- A group, column by column.
use Rattle.std.proofs.Common.{◌≡◌, ℕ, zero, suc, ◌-◌, ◌*◌, ◌/◌, ◌^◌, ◌<◌, ◌≤◌, Bool, true, false, eqb, List, ◌++◌, length, get_or, take, drop, sym, refl, ap, ◌∙◌, pow-suc, arith, take-suc, Option, Some, None, Result, ok_or, MatchOption, MatchResult, ◌≢◌}
use Rattle.std.proofs.lemmas.List.{same_from_push, take-append-drop}
use Rattle.std.proofs.lemmas.Bool.{eqb-true, eqb-false}
use Rattle.schema.specs.Texts.{group}
use Rattle.schema.specs.Columns.{mark, Strays, Group}

-- a number without its last k digits
abbrev pub shed : ℕ → ℕ → ℕ
shed zero w = w
shed (suc k) w = shed k w / 10

-- a number with k noughts after it
abbrev pub pad : ℕ → ℕ → ℕ
pad zero v = v
pad (suc k) v = pad k (v * 10)

-- noughts come off again
shed_pad : (k v : ℕ) → shed k (pad k v) ≡ v
shed_pad zero v = refl
shed_pad (suc k) v = let h : shed k (pad k (v * 10)) ≡ v * 10 = shed_pad k (v * 10) in omega arith

-- four columns leave room for a number of as many digits as there are columns
pad_fits : (j v : ℕ) → j ≤ 4 → v < 10 ^ j → pad (4 - j) v ≤ 9999
pad_fits zero v h l = omega arith
pad_fits (suc zero) v h l = omega arith
pad_fits (suc (suc zero)) v h l = omega arith
pad_fits (suc (suc (suc zero))) v h l = omega arith
pad_fits (suc (suc (suc (suc zero)))) v h l = omega arith
pad_fits (suc (suc (suc (suc (suc j))))) v h l = absurd (omega arith)

-- column j of a number's group shows the number without the digits of the columns after it
column_is : (j w : ℕ) → j < 4 → get_or (group w) j 0 ≡ mark (eqb j 3) (shed (3 - j) w)
column_is zero w h = refl
column_is (suc zero) w h = refl
column_is (suc (suc zero)) w h = refl
column_is (suc (suc (suc zero))) w h = refl
column_is (suc (suc (suc (suc j)))) w h = absurd (omega arith)

-- one column further left is one digit less
shed_next : (j w : ℕ) → j < 4 → shed (4 - j) w ≡ shed (3 - j) w / 10
shed_next j w h = let e : 4 - j ≡ suc (3 - j) = omega arith in ap (λ k. shed k w) e

-- a column's byte tells the digit
mark_apart : (last : Bool) (x y : ℕ) → mark last x ≡ mark last y → x / 10 ≡ y / 10 → x ≡ y
mark_apart true x y e h = omega arith
mark_apart false x y e h = grind (arith, eqb-true, eqb-false)

-- a blank shows 0
blank_zero : (x : ℕ) → mark false x ≡ 32 → x ≡ 0
blank_zero x e = grind (arith, eqb-true, eqb-false)

-- a group that begins with a blank tells its number
pub group_same : (x y : ℕ) → y ≤ 999 → group x ≡ group y → x ≡ y
group_same x y few e =
    let column : (j : ℕ) → j < 4 → mark (eqb j 3) (shed (3 - j) x) ≡ mark (eqb j 3) (shed (3 - j) y) =
    λ j h. sym (column_is j x h) ∙ ap (λ l. get_or l j 0) e ∙ column_is j y h in
    let next : (j : ℕ) → j < 4 → shed (4 - j) x ≡ shed (4 - j) y → shed (3 - j) x ≡ shed (3 - j) y =
    λ j h f. mark_apart (eqb j 3) (shed (3 - j) x) (shed (3 - j) y) (column j h) (sym (shed_next j x h) ∙ f ∙ shed_next j y h) in
    let none : shed 3 y ≡ 0 = omega arith in
    let first : shed 3 x ≡ shed 3 y = blank_zero (shed 3 x) (column 0 (omega arith) ∙ ap (mark false) none) ∙ sym none in
    next 3 (omega arith) (next 2 (omega arith) (next 1 (omega arith) first))

-- the first j columns of bytes are those of the numbers that go on from v, and of no others
pub record Begun (bytes : List ℕ) (j v : ℕ) : Type 0 where
  pub small : v < 10 ^ j
  pub only : (w : ℕ) → w ≤ 9999 → take j (group w) ≡ take j bytes → shed (4 - j) w ≡ v
  pub each : (w : ℕ) → w ≤ 9999 → shed (4 - j) w ≡ v → take j (group w) ≡ take j bytes

-- no columns yet
pub begun_none : (bytes : List ℕ) → Begun bytes 0 0
begun_none bytes = record { small = omega arith; only = λ w h e. omega arith; each = λ w h e. refl }

-- the same columns up to one are the same columns before it and the same byte in it
split : (j : ℕ) (xs ys : List ℕ) → j < length xs → j < length ys → take (suc j) xs ≡ take (suc j) ys → (take j xs ≡ take j ys) × (get_or xs j 0 ≡ get_or ys j 0)
split j xs ys hx hy e = same_from_push _ _ _ _ (sym (take-suc xs j 0 hx) ∙ e ∙ take-suc ys j 0 hy)

-- and the other way round
join : (j : ℕ) (xs ys : List ℕ) → j < length xs → j < length ys → take j xs ≡ take j ys → get_or xs j 0 ≡ get_or ys j 0 → take (suc j) xs ≡ take (suc j) ys
join j xs ys hx hy e g = take-suc xs j 0 hx ∙ rw (e, g) (sym (take-suc ys j 0 hy))

module _ {bytes : List ℕ} (long : 4 ≤ length bytes) {j v : ℕ} (here : j < 4) (begun : Begun bytes j v) where
  room : j < length bytes
  room = omega arith

  -- what column j shows of a number whose columns before it are the same
  before : (w : ℕ) → w ≤ 9999 → take (suc j) (group w) ≡ take (suc j) bytes → (shed (3 - j) w / 10 ≡ v) × (get_or bytes j 0 ≡ mark (eqb j 3) (shed (3 - j) w))
  before w h e =
      let s = split j (group w) bytes here room e in
      (sym (shed_next j w here) ∙ begun.only w h s.0, sym s.1 ∙ column_is j w here)

  -- a column that fits
  begun_more : (x : ℕ) → (get_or bytes j 0 ≡ mark (eqb j 3) x) × (x / 10 ≡ v) → Begun bytes (suc j) x
  begun_more x (byte, over) = record {
    small = let s : v < 10 ^ j = begun.small in rw pow-suc (omega arith);
    only = λ w h e. let b = before w h e in let k : 4 - suc j ≡ 3 - j = omega arith in rw k (mark_apart (eqb j 3) (shed (3 - j) w) x (sym b.1 ∙ byte) (b.0 ∙ sym over));
    each = λ w h e. let k : 4 - suc j ≡ 3 - j = omega arith in let f : shed (3 - j) w ≡ x = rw k at e in
        join j (group w) bytes here room (begun.each w h (shed_next j w here ∙ ap (λ n. n / 10) f ∙ over)) (column_is j w here ∙ ap (mark (eqb j 3)) f ∙ sym byte);
  }

  -- a column that does not
  begun_strays : ((x : ℕ) → x / 10 ≡ v → get_or bytes j 0 ≡ mark (eqb j 3) x → ⊥) → Strays Group bytes j
  begun_strays bad =
      let w = pad (4 - j) v in
      let h : w ≤ 9999 = pad_fits j v (omega arith) begun.small in
      record {
        alike = (group w, (w, h, refl), begun.each w h (shed_pad (4 - j) v));
        none = λ l f e. let b = before f.0 f.1 (ap (take (suc j)) (sym f.2) ∙ e) in bad (shed (3 - j) f.0) b.0 b.1;
      }

  -- a column, as it was read
  pub group_step : {E : Type 0} (o : Option ℕ) (e : E) {r : Result ℕ E} → r ≡ ok_or o e
      → MatchOption o ((x : ℕ) → x / 10 ≡ v → get_or bytes j 0 ≢ mark (eqb j 3) x) (λ x. (get_or bytes j 0 ≡ mark (eqb j 3) x) × (x / 10 ≡ v))
      → MatchResult r (Begun bytes (suc j)) (λ f. (f ≡ e) × Strays Group bytes j)
  group_step None e is bad = rw is (refl, begun_strays bad)
  group_step (Some x) e is fits = rw is (begun_more x fits)

-- four columns that fit are the group of a number
pub begun_whole : (bytes : List ℕ) (v : ℕ) → Begun bytes 4 v → (v ≤ 9999) × (bytes ≡ group v ++ drop 4 bytes)
begun_whole bytes v begun =
    let h : v ≤ 9999 = omega (arith, begun.small) in
    let e : group v ≡ take 4 bytes = begun.each v h refl in
    (h, sym (take-append-drop 4 bytes) ∙ ap (λ l. l ++ drop 4 bytes) (sym e))
