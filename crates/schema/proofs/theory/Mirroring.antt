-- A world that is as the individuals are, and how it counts them.
use Rattle.std.proofs.Common.{◌≡◌, ℕ, zero, suc, ◌*◌, ◌/◌, ◌%◌, ◌<◌, ◌≤◌, List, [], ◌∷◌, length, sym, refl, ap, ◌∙◌, subst, inl, inr, arith}
use Rattle.schema.specs.declared.row.Row.{Row}
use Rattle.schema.specs.Rows.{◌∈◌, AllSound}
use Rattle.schema.specs.Rules.{arrow}
use Rattle.schema.specs.Worlds.{World, Individual, In, Pair, Meets, AtLeast}
use Rattle.schema.specs.Webs.{cls, mark, Alone}
use Rattle.schema.proofs.Members.{here}
use Rattle.schema.proofs.theory.Ends.{opp, head_end}
use Rattle.schema.proofs.theory.Counting.{reaches, firsts, firsts_length, firsts_from, firsts_distinct}
use Rattle.schema.proofs.theory.Individuals.{Ind, code, decode, decode_code, code_injective, neighbour, neighbour_injective}
use Rattle.schema.proofs.theory.Living.{Is, is_down}
use Rattle.schema.proofs.theory.Neighbours.{Next, next_flip}
use Rattle.schema.proofs.theory.Numbering.{next_mark, neighbour_next, next_numbered}

-- a list that stands for an individual, and is let in
abbrev pub Stands : (Individual → Type 0) → Individual → Type 0
Stands Let i = (code (decode i) ≡ i) × Let i

-- it is one of class a
abbrev pub Inside : ℕ → ℕ → List Row → (Individual → Type 0) → ℕ → Individual → Type 0
Inside c p rows Let a i = Stands Let i × Is c p rows (decode i) (cls a)

-- two are a pair of arrow q
abbrev pub Linked : ℕ → ℕ → List Row → (Individual → Type 0) → ℕ → Individual → Individual → Type 0
Linked c p rows Let q i j = Stands Let i × (Stands Let j × Next c p rows (decode i) (2 * q) (decode j))

-- a world that is as the individuals are, of those that are let in
pub record Mirrors (c p : ℕ) (rows : List Row) (Let : Individual → Type 0) (w : World) : Type 0 where
  pub in_read : (a : ℕ) (i : Individual) → In w a i → Inside c p rows Let a i
  pub in_write : (a : ℕ) (i : Individual) → Inside c p rows Let a i → In w a i
  pub pair_read : (q : ℕ) (i j : Individual) → Pair w q i j → Linked c p rows Let q i j
  pub pair_write : (q : ℕ) (i j : Individual) → Linked c p rows Let q i j → Pair w q i j

-- the list of an individual stands for it
pub stands_code : (x : Ind) → code (decode (code x)) ≡ code x
stands_code x = ap code (decode_code x)

module _ (c p : ℕ) (rows : List Row) (sound : AllSound c p rows) (Let : Individual → Type 0) (world : World)
    (mirrors : Mirrors c p rows Let world) where
  open mirrors use {in_read, in_write, pair_read, pair_write}

  -- an individual of which class a is true is in it
  pub in_put : (a : ℕ) (x : Ind) → Let (code x) → Is c p rows x (cls a) → In world a (code x)
  in_put a x ok h = in_write a (code x) ((stands_code x, ok), subst (λ y. Is c p rows y (cls a)) (sym (decode_code x)) h)

  -- class a is true of an individual that is in it
  pub in_get : (a : ℕ) (x : Ind) → In world a (code x) → Is c p rows x (cls a)
  in_get a x t = subst (λ y. Is c p rows y (cls a)) (decode_code x) (in_read a (code x) t).1

  -- two neighbours at the tail of q are a pair of it
  pub pair_put : (q : ℕ) (x y : Ind) → Let (code x) → Let (code y) → Next c p rows x (2 * q) y → Pair world q (code x) (code y)
  pair_put q x y okx oky h =
      pair_write q (code x) (code y) (
        (stands_code x, okx),
        (
          (stands_code y, oky),
          subst (λ z. Next c p rows z (2 * q) (decode (code y))) (sym (decode_code x))
              (subst (λ z. Next c p rows x (2 * q) z) (sym (decode_code y)) h),
        ),
      )

  -- a pair of q are neighbours at its tail
  pub pair_get : (q : ℕ) (x y : Ind) → Pair world q (code x) (code y) → Next c p rows x (2 * q) y
  pair_get q x y t =
      subst (λ z. Next c p rows z (2 * q) y) (decode_code x)
      (subst (λ z. Next c p rows (decode (code x)) (2 * q) z) (decode_code y) (pair_read q (code x) (code y) t).1.1)

  -- two that meet at an end are neighbours there
  pub meets_read : (e : ℕ) (i j : Individual) → Meets world e i j → Stands Let i × (Stands Let j × Next c p rows (decode i) e (decode j))
  meets_read e i j (q, inl (s, t)) =
      let r = pair_read q i j t in (r.0, (r.1.0, subst (λ z. Next c p rows (decode i) z (decode j)) (sym s) r.1.1))
  meets_read e i j (q, inr (s, t)) =
      let r = pair_read q j i t in (
        r.1.0,
        (
          r.0,
          subst (λ z. Next c p rows (decode i) z (decode j)) (head_end q ∙ sym s)
              (next_flip c p rows sound (decode j) (2 * q) (decode i) r.1.1),
        ),
      )

  -- two neighbours at an end meet there
  meets_put : (e : ℕ) (x y : Ind) → Let (code x) → Let (code y) → Next c p rows x e y → Meets world e (code x) (code y)
  meets_put e x y okx oky h = on (e % 2) refl
    where
      on : (s : ℕ) → e % 2 ≡ s → Meets world e (code x) (code y)
      on zero q =
          let k : e ≡ 2 * (e / 2) = omega arith in
          (e / 2, inl (k, pair_put (e / 2) x y okx oky (subst (λ z. Next c p rows x z y) k h)))
      on (suc s) q =
          let k : opp e ≡ 2 * (e / 2) = omega arith in
          (e / 2, inr (omega arith, pair_put (e / 2) y x oky okx (subst (λ z. Next c p rows y z x) k (next_flip c p rows sound x e y h))))

  -- an individual of which the mark (e, n) is true has e at least n times
  pub some_put : (e n : ℕ) (x : Ind) → Let (code x) → ((k : ℕ) → Let (code (neighbour x e k))) → Is c p rows x (mark e n)
      → AtLeast world e n (code x)
  some_put e n x ok oks h =
      record {
        who = firsts f n;
        many = firsts_length f n;
        different = firsts_distinct f (λ j k q. neighbour_injective x e j k (code_injective (neighbour x e j) (neighbour x e k) q)) n;
        meeting = λ j m. each j (firsts_from f n j m);
      }
    where
      f : ℕ → Individual
      f k = code (neighbour x e k)

      each : (j : Individual) → (k : ℕ) × ((k < n) × (j ≡ f k)) → Meets world e (code x) j
      each j (k, (l, q)) =
          subst (λ z. Meets world e (code x) z) (sym q)
          (meets_put e x (neighbour x e k) ok (oks k)
          (neighbour_next c p rows sound x e k (is_down c p rows sound x e n (suc k) (omega arith) l h)))

  -- of whoever has e at least once the mark (e, 1) is true
  pub one_get : (e : ℕ) (i : Individual) → AtLeast world e 1 i → Stands Let i × Is c p rows (decode i) (mark e 1)
  one_get e i s = head s.who s.many s.meeting
    where
      head : (js : List Individual) → length js ≡ 1 → ((j : Individual) → j ∈ js → Meets world e i j)
          → Stands Let i × Is c p rows (decode i) (mark e 1)
      head [] l m = absurd (omega arith)
      head (j ∷ js) l m =
          let r = meets_read e i j (m j (here js refl)) in (r.0, next_mark c p rows sound (decode i) e (decode j) r.1.1)

  -- and at an arrow that no other leads to any count is exact
  pub some_get : (e n : ℕ) (i : Individual) → Alone rows (arrow e) → AtLeast world e (suc n) i → Is c p rows (decode i) (mark e (suc n))
  some_get e n i al s =
      let r : (k : ℕ) × ((n ≤ k) × Is c p rows (decode i) (mark e (suc k))) =
      reaches (λ k. code (neighbour (decode i) e k)) (λ k. Is c p rows (decode i) (mark e (suc k))) n s.who s.different s.many
      (λ j m. each j (meets_read e i j (s.meeting j m))) in
      is_down c p rows sound (decode i) e (suc r.0) (suc n) (omega arith) (omega (arith, r.1.0)) r.1.1
    where
      each : (j : Individual) → Stands Let i × (Stands Let j × Next c p rows (decode i) e (decode j))
          → (k : ℕ) × ((j ≡ code (neighbour (decode i) e k)) × Is c p rows (decode i) (mark e (suc k)))
      each j (hi, (hj, near)) =
          let r = next_numbered c p rows sound (decode i) e (decode j) al near in
          (r.0, (sym hj.0 ∙ ap code r.1.0, r.1.1))
