-- Which individuals are neighbours in the one world, and at which ends.
use Rattle.std.proofs.Common.{◌≡◌, ℕ, suc, ◌⊎◌, List, sym, refl, ap, subst, inl, inr, arith}
use Rattle.schema.specs.declared.row.Row.{Row}
use Rattle.schema.specs.Rows.{AllSound}
use Rattle.schema.specs.Rules.{arrow}
use Rattle.schema.specs.Webs.{mark, ArrowApart, clash_arrow, of_arrow, EmptyArrow}
use Rattle.schema.proofs.theory.Ends.{opp, opp_opp, opp_arrow}
use Rattle.schema.proofs.theory.Deciding.{both?, or?}
use Rattle.schema.proofs.theory.Individuals.{Ind, root, twin, child, ind_discrete, depth}
use Rattle.schema.proofs.theory.Living.{Strife, ArrowStrife, GoodTwin, Live, Over, over_opp, over_up, live_good, is_point}
use Rattle.schema.proofs.theory.LivingDecided.{twin?, live?, over?}

-- y came from x by an end over e
abbrev pub Lower : ℕ → ℕ → List Row → Ind → ℕ → Ind → Type 0
Lower c p rows x e (root d u) = ⊥
Lower c p rows x e (twin f h) = ⊥
Lower c p rows x e (child y g j) = (x ≡ y) × (Live c p rows (child y g j) × Over rows g e)

-- y stands opposite to x, at an end over e
abbrev pub Beside : ℕ → List Row → Ind → ℕ → Ind → Type 0
Beside p rows (root d u) e y = ⊥
Beside p rows (twin f h) e y = (y ≡ twin (opp f) (opp h)) × (GoodTwin p rows f h × (Over rows f e ⊎ Over rows h e))
Beside p rows (child x g j) e y = ⊥

-- y is a neighbour of x at e
abbrev pub Next : ℕ → ℕ → List Row → Ind → ℕ → Ind → Type 0
Next c p rows x e y = Lower c p rows x e y ⊎ (Lower c p rows y (opp e) x ⊎ Beside p rows x e y)

module _ (c p : ℕ) (rows : List Row) (sound : AllSound c p rows) where
  -- whether y came from x
  lower? : (x : Ind) (e : ℕ) (y : Ind) → Dec (Lower c p rows x e y)
  lower? x e (root d u) = no (λ z. z)
  lower? x e (twin f h) = no (λ z. z)
  lower? x e (child y g j) =
      both? (ind_discrete x y)
      (λ _.
      both? (live? c p rows sound (child y g j))
      (λ l. over? c p rows sound g e (is_point c p rows sound y (mark g (suc j)) (l.0, l.1.0)).0))

  -- whether y stands opposite to x
  beside? : (x : Ind) (e : ℕ) (y : Ind) → Dec (Beside p rows x e y)
  beside? (root d u) e y = no (λ z. z)
  beside? (twin f h) e y =
      both? (ind_discrete y (twin (opp f) (opp h)))
      (λ _.
      both? (twin? c p rows sound f h)
      (λ g. or? (over? c p rows sound f e g.one_end) (over? c p rows sound h e g.two_end)))
  beside? (child x g j) e y = no (λ z. z)

  -- whether y is a neighbour of x
  pub next? : (x : Ind) (e : ℕ) (y : Ind) → Dec (Next c p rows x e y)
  next? x e y = or? (lower? x e y) (or? (lower? y (opp e) x) (beside? x e y))

  -- the other ends of two good ends are good
  twin_flip : (f h : ℕ) → GoodTwin p rows f h → GoodTwin p rows (opp f) (opp h)
  twin_flip f h g =
      record {
        one_end = omega arith;
        two_end = omega arith;
        one_filled = λ z. g.one_filled (subst (EmptyArrow rows) (opp_arrow f) z);
        two_filled = λ z. g.two_filled (subst (EmptyArrow rows) (opp_arrow h) z);
        arrows_agree =
            λ k.
            g.arrows_agree
            (subst (λ x. ArrowStrife rows x (arrow h)) (opp_arrow f) (subst (λ x. ArrowStrife rows (arrow (opp f)) x) (opp_arrow h) k));
        here_agree = g.there_agree;
        there_agree =
            λ k.
            g.here_agree
            (subst (λ x. Strife rows (mark x 1) (mark h 1)) (opp_opp f)
            (subst (λ x. Strife rows (mark (opp (opp f)) 1) (mark x 1)) (opp_opp h) k));
      }

  -- two that stand opposite do so both ways
  beside_flip : (x : Ind) (e : ℕ) (y : Ind) → Beside p rows x e y → Beside p rows y (opp e) x
  beside_flip (root d u) e y b = absurd b
  beside_flip (twin f h) e y (q, (g, o)) =
      subst (λ z. Beside p rows z (opp e) (twin f h)) (sym q)
      (λ i. twin (sym (opp_opp f) i) (sym (opp_opp h) i), (twin_flip f h g, overs o))
    where
      overs : Over rows f e ⊎ Over rows h e → Over rows (opp f) (opp e) ⊎ Over rows (opp h) (opp e)
      overs (inl a) = inl (over_opp rows f e a)
      overs (inr a) = inr (over_opp rows h e a)
  beside_flip (child x g j) e y b = absurd b

  -- neighbours are neighbours both ways
  pub next_flip : (x : Ind) (e : ℕ) (y : Ind) → Next c p rows x e y → Next c p rows y (opp e) x
  next_flip x e y (inl l) = inr (inl (subst (λ z. Lower c p rows x z y) (sym (opp_opp e)) l))
  next_flip x e y (inr (inl l)) = inl l
  next_flip x e y (inr (inr b)) = inr (inr (beside_flip x e y b))

  -- whoever came by e came by each end that e is over
  lower_up : (x : Ind) (e f : ℕ) (y : Ind) → Over rows e f → Lower c p rows x e y → Lower c p rows x f y
  lower_up x e f (root d u) o l = l
  lower_up x e f (twin g h) o l = l
  lower_up x e f (child y g j) o l = (l.0, (l.1.0, over_up rows g e f l.1.1 o))

  -- whoever stands opposite at e stands so at each end that e is over
  beside_up : (x : Ind) (e f : ℕ) (y : Ind) → Over rows e f → Beside p rows x e y → Beside p rows x f y
  beside_up (root d u) e f y o b = b
  beside_up (twin g h) e f y o (q, (t, s)) = (q, (t, on s))
    where
      on : Over rows g e ⊎ Over rows h e → Over rows g f ⊎ Over rows h f
      on (inl a) = inl (over_up rows g e f a o)
      on (inr a) = inr (over_up rows h e f a o)
  beside_up (child x g j) e f y o b = b

  -- a neighbour at e is one at each end that e is over
  pub next_up : (x : Ind) (e f : ℕ) (y : Ind) → Over rows e f → Next c p rows x e y → Next c p rows x f y
  next_up x e f y o (inl l) = inl (lower_up x e f y o l)
  next_up x e f y o (inr (inl l)) = inr (inl (lower_up y (opp e) (opp f) x (over_opp rows e f o) l))
  next_up x e f y o (inr (inr b)) = inr (inr (beside_up x e f y o b))

  -- the arrow by which a child came is not empty
  child_arrow : (x : Ind) (g j : ℕ) → Live c p rows (child x g j) → EmptyArrow rows (arrow g) → ⊥
  child_arrow x g j l z = (live_good c p rows sound (child x g j) l).one_filled (of_arrow (subst (EmptyArrow rows) (sym (opp_arrow g)) z))

  -- no child came by two arrows that are apart
  lower_apart : (x : Ind) (e f : ℕ) (y : Ind) → ArrowApart rows (arrow e) (arrow f) → Lower c p rows x e y → Lower c p rows x f y → ⊥
  lower_apart x e f (root d u) a l m = l
  lower_apart x e f (twin g h) a l m = l
  lower_apart x e f (child y g j) a l m =
      child_arrow y g j l.1.0 (clash_arrow (arrow e, arrow f, l.1.1.1, m.1.1.1, inl a))

  -- no two stand opposite at two arrows that are apart
  beside_apart : (x : Ind) (e f : ℕ) (y : Ind) → ArrowApart rows (arrow e) (arrow f) → Beside p rows x e y → Beside p rows x f y → ⊥
  beside_apart (root d u) e f y a b k = b
  beside_apart (twin g h) e f y a (q, (t, s)) (q', (t', s')) = on s s'
    where
      on : Over rows g e ⊎ Over rows h e → Over rows g f ⊎ Over rows h f → ⊥
      on (inl o) (inl r) = t.one_filled (clash_arrow (arrow e, arrow f, o.1, r.1, inl a))
      on (inl o) (inr r) = t.arrows_agree (arrow e, arrow f, o.1, r.1, inl a)
      on (inr o) (inl r) = t.arrows_agree (arrow f, arrow e, r.1, o.1, inr a)
      on (inr o) (inr r) = t.two_filled (clash_arrow (arrow e, arrow f, o.1, r.1, inl a))
  beside_apart (child x g j) e f y a b k = b

  -- a child is one deeper
  lower_depth : (x : Ind) (e : ℕ) (y : Ind) → Lower c p rows x e y → depth y ≡ suc (depth x)
  lower_depth x e (root d u) l = absurd l
  lower_depth x e (twin g h) l = absurd l
  lower_depth x e (child y g j) l = ap (λ z. suc (depth z)) (sym l.0)

  -- two that stand opposite are not deep
  beside_depth : (x : Ind) (e : ℕ) (y : Ind) → Beside p rows x e y → (depth x ≡ 0) × (depth y ≡ 0)
  beside_depth (root d u) e y b = absurd b
  beside_depth (twin f h) e y b = (refl, ap depth b.0)
  beside_depth (child x g j) e y b = absurd b

  -- no two are neighbours at two arrows that are apart
  pub next_apart : (x : Ind) (e f : ℕ) (y : Ind) → ArrowApart rows (arrow e) (arrow f) → Next c p rows x e y → Next c p rows x f y → ⊥
  next_apart x e f y a (inl l) (inl m) = lower_apart x e f y a l m
  next_apart x e f y a (inl l) (inr (inl m)) = omega (arith, lower_depth x e y l, lower_depth y (opp f) x m)
  next_apart x e f y a (inl l) (inr (inr b)) = omega (arith, lower_depth x e y l, beside_depth x f y b)
  next_apart x e f y a (inr (inl l)) (inl m) = omega (arith, lower_depth y (opp e) x l, lower_depth x f y m)
  next_apart x e f y a (inr (inl l)) (inr (inl m)) =
      lower_apart y (opp e) (opp f) x
      (subst (λ z. ArrowApart rows z (arrow (opp f))) (sym (opp_arrow e)) (subst (λ z. ArrowApart rows (arrow e) z) (sym (opp_arrow f)) a))
      l
      m
  next_apart x e f y a (inr (inl l)) (inr (inr b)) = omega (arith, lower_depth y (opp e) x l, beside_depth x f y b)
  next_apart x e f y a (inr (inr b)) (inl m) = omega (arith, beside_depth x e y b, lower_depth x f y m)
  next_apart x e f y a (inr (inr b)) (inr (inl m)) = omega (arith, beside_depth x e y b, lower_depth y (opp f) x m)
  next_apart x e f y a (inr (inr b)) (inr (inr k)) = beside_apart x e f y a b k
