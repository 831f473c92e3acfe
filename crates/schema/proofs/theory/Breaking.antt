-- A world that is as the individuals are fills what is not empty and breaks what is not answered yes, by lists of at most 8 numbers.
use Rattle.std.proofs.Common.{ℕ, zero, suc, ◌+◌, ◌*◌, ◌<◌, ◌≤◌, List, length, sym, refl, subst, inl, inr, arith}
use Rattle.search.specs.Leads.{Leads, stay}
use Rattle.schema.specs.declared.row.Row.{Row}
use Rattle.schema.specs.Rows.{Sound, AllSound}
use Rattle.schema.specs.Rules.{Rule, S, X, D, F, K, P, Q, row, arrow}
use Rattle.schema.specs.Worlds.{World, Individual, In, Pair, AtLeast, Breaks, ClassFilled, ArrowFilled}
use Rattle.schema.specs.Webs.{Description, cls, mark, Link, ArrowLink, of_end, EmptyClass, EmptyArrow, Alone}
use Rattle.schema.specs.Questions.{EmptyDescription, Yes, Countable}
use Rattle.schema.proofs.theory.Ends.{opp, tail_arrow, head_end}
use Rattle.schema.proofs.theory.Individuals.{Ind, root, twin, child, code, decode_code, neighbour, neighbour_child}
use Rattle.schema.proofs.theory.Living.{Strife, ArrowStrife, Good, GoodTwin, Is, over_same, good_alone}
use Rattle.schema.proofs.theory.Neighbours.{Next}
use Rattle.schema.proofs.theory.Mirroring.{Mirrors, in_put, in_get, pair_put, pair_get, some_put, one_get, some_get}

-- what is true of the root of one description is what it leads to
root_leads : (c p : ℕ) (rows : List Row) (d u : Description) → Is c p rows (root d d) u → Leads (Link rows) d u
root_leads c p rows d u (l, inl m) = m
root_leads c p rows d u (l, inr m) = m

-- the root of the mark of an arrow's tail
abbrev begin : ℕ → Ind
begin a = root (mark (2 * a) 1) (mark (2 * a) 1)

-- its first child there
abbrev follow : ℕ → Ind
follow a = child (begin a) (2 * a) 0

-- where the arrow is not empty they are neighbours
begin_follow : (c p : ℕ) (rows : List Row) (a : ℕ) → a < p → (EmptyArrow rows a → ⊥) → Next c p rows (begin a) (2 * a) (follow a)
begin_follow c p rows a l h =
    let live : EmptyDescription rows (mark (2 * a) 1) → ⊥ = λ z. h (subst (EmptyArrow rows) (tail_arrow a) (of_end z)) in
    inl (
      refl,
      (
        (good_alone rows c p (mark (2 * a) 1) (omega arith, omega arith, omega arith) live, (inl stay, λ s. s.1)),
        over_same rows (2 * a) (2 * a) refl,
      ),
    )

-- they are neighbours at no arrow but those that it leads to
follow_leads : (c p : ℕ) (rows : List Row) (a b : ℕ) → Next c p rows (begin a) (2 * b) (follow a) → Leads (ArrowLink rows) a b
follow_leads c p rows a b (inl (q, (l, o))) =
    subst (λ x. Leads (ArrowLink rows) x b) (tail_arrow a) (subst (λ x. Leads (ArrowLink rows) (arrow (2 * a)) x) (tail_arrow b) o.1)
follow_leads c p rows a b (inr (inl l)) = absurd l
follow_leads c p rows a b (inr (inr k)) = absurd k

-- the tails of two arrows are good twins where it is not answered yes that the arrows share no pair
good_tails : (p : ℕ) (rows : List Row) (a b : ℕ) → a < p → b < p → (Yes rows (Q a b) → ⊥) → GoodTwin p rows (2 * a) (2 * b)
good_tails p rows a b la lb h =
    record {
      one_end = omega arith;
      two_end = omega arith;
      one_filled = λ z. h (inl (subst (EmptyArrow rows) (tail_arrow a) z));
      two_filled = λ z. h (inr (inl (subst (EmptyArrow rows) (tail_arrow b) z)));
      arrows_agree =
          λ k.
          h
          (inr
          (inr
          (inl (subst (λ x. ArrowStrife rows x b) (tail_arrow a) (subst (λ x. ArrowStrife rows (arrow (2 * a)) x) (tail_arrow b) k)))));
      here_agree = λ k. h (inr (inr (inr (inl k))));
      there_agree =
          λ k.
          h
          (inr
          (inr
          (inr
          (inr
          (subst (λ x. Strife rows (mark x 1) (mark (2 * b + 1) 1)) (head_end a)
          (subst (λ x. Strife rows (mark (opp (2 * a)) 1) (mark x 1)) (head_end b) k))))));
    }

module _ (c p : ℕ) (rows : List Row) (sound : AllSound c p rows) (Let : Individual → Type 0) (world : World)
    (mirrors : Mirrors c p rows Let world) (small : (i : Individual) → length i ≤ 8 → Let i) where
  -- a root is let in
  let_root : (d u : Description) → Let (code (root d u))
  let_root d u = small (code (root d u)) (omega arith)

  -- so is a child of one
  let_child : (d u : Description) (e k : ℕ) → Let (code (child (root d u) e k))
  let_child d u e k = small (code (child (root d u) e k)) (omega arith)

  -- and each neighbour of one
  let_neighbour : (d u : Description) (e k : ℕ) → Let (code (neighbour (root d u) e k))
  let_neighbour d u e k = subst (λ y. Let (code y)) (sym (neighbour_child (root d u) e k (λ s. s.1))) (let_child d u e k)

  -- and a twin
  let_twin : (e f : ℕ) → Let (code (twin e f))
  let_twin e f = small (code (twin e f)) (omega arith)

  -- the root of two descriptions is in each class that is true of it
  put : (d u : Description) (a : ℕ) → Is c p rows (root d u) (cls a) → In world a (code (root d u))
  put d u a h = in_put c p rows sound Let world mirrors a (root d u) (let_root d u) h

  -- it has an end as often as a mark that is true of it says
  often : (d u : Description) (e n : ℕ) → Is c p rows (root d u) (mark e n) → AtLeast world e n (code (root d u))
  often d u e n h = some_put c p rows sound Let world mirrors e n (root d u) (let_root d u) (let_neighbour d u e) h

  -- a class that is not empty has its own root
  member : (a : ℕ) → a < c → (EmptyClass rows a → ⊥) → In world a (code (root (cls a) (cls a)))
  member a l h = put (cls a) (cls a) a (good_alone rows c p (cls a) l h, inl stay)

  -- so it is filled
  pub fills_class : (a : ℕ) → a < c → (EmptyClass rows a → ⊥) → ClassFilled world a
  fills_class a l h = (code (root (cls a) (cls a)), member a l h)

  -- an arrow that is not empty has a pair
  pair : (a : ℕ) → a < p → (EmptyArrow rows a → ⊥) → Pair world a (code (begin a)) (code (follow a))
  pair a l h =
      pair_put c p rows sound Let world mirrors a (begin a) (follow a) (let_root (mark (2 * a) 1) (mark (2 * a) 1))
      (let_child (mark (2 * a) 1) (mark (2 * a) 1) (2 * a) 0)
      (begin_follow c p rows a l h)

  -- so it is filled
  pub fills_arrow : (a : ℕ) → a < p → (EmptyArrow rows a → ⊥) → ArrowFilled world a
  fills_arrow a l h = (code (begin a), code (follow a), pair a l h)

  -- a count is exact at 1, and at an arrow that no other leads to
  counted : (e n : ℕ) (x : Ind) → 1 ≤ n → (2 ≤ n → Alone rows (arrow e)) → AtLeast world e n (code x) → Is c p rows x (mark e n)
  counted e zero x o al s = absurd (omega arith)
  counted e (suc zero) x o al s =
      subst (λ y. Is c p rows y (mark e 1)) (decode_code x) (one_get c p rows sound Let world mirrors e (code x) s).1
  counted e (suc (suc n)) x o al s =
      subst (λ y. Is c p rows y (mark e (suc (suc n)))) (decode_code x)
      (some_get c p rows sound Let world mirrors e (suc n) (code x) (al (omega arith)) s)

  -- two good twins at the tails of two arrows are a pair of both
  twins : (a b : ℕ) → GoodTwin p rows (2 * a) (2 * b) → (q : ℕ) → Next c p rows (twin (2 * a) (2 * b)) (2 * q) (twin (opp (2 * a)) (opp (2 * b)))
      → Pair world q (code (twin (2 * a) (2 * b))) (code (twin (opp (2 * a)) (opp (2 * b))))
  twins a b g q h =
      pair_put c p rows sound Let world mirrors q (twin (2 * a) (2 * b)) (twin (opp (2 * a)) (opp (2 * b))) (let_twin (2 * a) (2 * b))
      (let_twin (opp (2 * a)) (opp (2 * b)))
      h

  -- a rule that can be counted and is not answered yes is broken
  pub breaks_rule : (ρ : Rule) → Sound c p (row ρ) → Countable rows ρ → (Yes rows ρ → ⊥) → Breaks world ρ
  breaks_rule (S a b) r ct h ful =
      let x : Ind = root (cls a) (cls a) in
      h
      (inr
      (root_leads c p rows (cls a) (cls b)
      (in_get c p rows sound Let world mirrors b x (ful (code x) (member a r.0 (λ z. h (inl z)))))))
  breaks_rule (X a b) r ct h ful =
      let g : Good c p rows (cls a) (cls b) =
      record {
        one_point = r.0;
        two_point = r.1;
        one_filled = λ z. h (inl z);
        two_filled = λ z. h (inr (inl z));
        agree = λ k. h (inr (inr k));
      } in
      ful (code (root (cls a) (cls b))) (put (cls a) (cls b) a (g, inl stay)) (put (cls a) (cls b) b (g, inr stay))
  breaks_rule (D e b) r ct h ful =
      let x : Ind = root (mark e 1) (mark e 1) in
      let l : Is c p rows x (mark e 1) = (good_alone rows c p (mark e 1) (r.0, omega arith, omega arith) (λ z. h (inl z)), inl stay) in
      h
      (inr
      (root_leads c p rows (mark e 1) (cls b)
      (in_get c p rows sound Let world mirrors b x (ful (code x) (often (mark e 1) (mark e 1) e 1 l)))))
  breaks_rule (F a e n) r ct h ful =
      let x : Ind = root (cls a) (cls a) in
      h (inr (root_leads c p rows (cls a) (mark e n) (counted e n x r.2 ct (ful (code x) (member a r.0 (λ z. h (inl z)))))))
  breaks_rule (K a e n) r ct h ful =
      let g : Good c p rows (cls a) (mark e (n + 1)) =
      record {
        one_point = r.0;
        two_point = (r.1, omega arith, omega (arith, r.3));
        one_filled = λ z. h (inl z);
        two_filled = λ z. h (inr (inl z));
        agree = λ k. h (inr (inr k));
      } in
      ful (code (root (cls a) (mark e (n + 1)))) (put (cls a) (mark e (n + 1)) a (g, inl stay))
      (often (cls a) (mark e (n + 1)) e (n + 1) (g, inr stay))
  breaks_rule (P a b) r ct h ful =
      let t : Pair world b (code (begin a)) (code (follow a)) =
      ful (code (begin a)) (code (follow a)) (pair a r.0 (λ z. h (inl z))) in
      h (inr (follow_leads c p rows a b (pair_get c p rows sound Let world mirrors b (begin a) (follow a) t)))
  breaks_rule (Q a b) r ct h ful =
      let g : GoodTwin p rows (2 * a) (2 * b) = good_tails p rows a b r.0 r.1 h in
      ful (code (twin (2 * a) (2 * b))) (code (twin (opp (2 * a)) (opp (2 * b))))
      (twins a b g a (inr (inr (refl, (g, inl (over_same rows (2 * a) (2 * a) refl))))))
      (twins a b g b (inr (inr (refl, (g, inr (over_same rows (2 * b) (2 * b) refl))))))
