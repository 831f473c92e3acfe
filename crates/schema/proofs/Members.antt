-- One of a list.
use Rattle.std.proofs.Common.{◌≡◌, ℕ, zero, suc, ◌+◌, ◌<◌, ◌≤◌, ◌⊎◌, List, [], ◌∷◌, ◌++◌, length, get_or, take, Some, None, sym, ap, ◌∙◌, subst, inl, inr, le_of_suc-le-suc, not-suc-le-zero, arith}
use Rattle.std.proofs.lemmas.List.{take_more}
use Rattle.std.proofs.lemmas.List.Elements.{All-contains, All-from_get_or}
use Rattle.std.proofs.lemmas.Option.{slice_get-get_or, slice_get_within, get_or_from_slice_get}
use Rattle.std.specs.List.{slice_get}
use Rattle.schema.specs.Rows.{◌∈◌}

module _ {A : Type 0} where
  -- the first of a list, where that is x
  pub here : {x y : A} (ys : List A) → y ≡ x → x ∈ (y ∷ ys)
  here ys e = (0, omega arith, e)

  -- one of the others
  pub there : {x y : A} (ys : List A) → x ∈ ys → x ∈ (y ∷ ys)
  there ys (k, l, e) = (suc k, omega arith, e)

  pub not_in_empty : {x : A} → x ∈ [] → ⊥
  not_in_empty (k, l, e) = not-suc-le-zero l

  -- it is the first or one of the others
  pub here_or_there : {x y : A} (ys : List A) → x ∈ (y ∷ ys) → (y ≡ x) ⊎ (x ∈ ys)
  here_or_there ys (zero, l, e) = inl e
  here_or_there ys (suc k, l, e) = inr (k, le_of_suc-le-suc l, e)

  -- what stands at a place, if anything does, is one of the list
  pub nth_∈ : (x : A) (xs : List A) (i : ℕ) → slice_get xs i ≡ Some x → x ∈ xs
  nth_∈ x xs i e = (i, slice_get_within xs i x e, get_or_from_slice_get xs i x x e)

  -- what holds at each place holds of each of the list
  pub every_∈ : (P : A → Type 0) (xs : List A) (d : A) → ((k : ℕ) → k < length xs → P (get_or xs k d)) → (x : A) → x ∈ xs → P x
  every_∈ P xs d f x h = All-contains P xs x (All-from_get_or P xs d f) h

  -- what holds at each place below k holds of each row below k
  pub each_below : (P : A → Type 0) (xs : List A) (k : ℕ) (d : A) → k ≤ length xs → ((j : ℕ) → j < k → P (get_or xs j d)) → (j : ℕ) (x : A) → j < k → slice_get xs j ≡ Some x → P x
  each_below P xs k d h f j x l e =
      let q : Some (get_or xs j d) ≡ Some x = sym (slice_get-get_or xs j d (omega arith)) ∙ e in
      let s : get_or xs j d ≡ x = cc in
      subst P s (f j l)

  -- one more of a list, found by its place
  pub nth_more : (src : List A) (k : ℕ) (x : A) → k < length src → Some x ≡ slice_get src k → take (k + 1) src ≡ take k src ++ x ∷ []
  nth_more src k x l e =
      let q : Some x ≡ Some (get_or src k x) = e ∙ slice_get-get_or src k x l in
      let s : get_or src k x ≡ x = cc in
      take_more src k x l ∙ ap (λ (y : A). take k src ++ y ∷ []) s

  -- there is a row below the number of rows
  pub not_past : (src : List A) (k : ℕ) (x : A) → k < length src → None ≡ slice_get src k → ⊥
  not_past src k x l e =
      let q : None ≡ Some (get_or src k x) = e ∙ slice_get-get_or src k x l in
      let z : ◌≡◌ {A = ℕ} 0 1 = cc in omega arith
