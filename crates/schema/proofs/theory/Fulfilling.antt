-- A world that is as the individuals are fulfils the rows.
use Rattle.std.proofs.Common.{◌≡◌, ℕ, suc, ◌+◌, ◌*◌, List, sym, subst, arith}
use Rattle.search.specs.Leads.{Leads}
use Rattle.search.proofs.Trails.{leads_one}
use Rattle.schema.specs.declared.row.Row.{Row}
use Rattle.schema.specs.Rows.{AllSound}
use Rattle.schema.specs.Rules.{S, X, D, F, K, P, Q, arrow}
use Rattle.schema.specs.Worlds.{World, Individual, AtLeast, FulfilsAll}
use Rattle.schema.specs.Webs.{Description, cls, mark, Link, by_S, by_F, by_D, ArrowLink, by_X, by_K, ArrowApart}
use Rattle.schema.proofs.theory.Ends.{tail_arrow}
use Rattle.schema.proofs.theory.Individuals.{code, decode, neighbour}
use Rattle.schema.proofs.theory.Living.{Is, Over, is_leads, is_agree}
use Rattle.schema.proofs.theory.Neighbours.{next_up, next_apart}
use Rattle.schema.proofs.theory.Mirroring.{Mirrors, some_put, one_get, some_get}
use Rattle.schema.proofs.theory.Caps.{Uncapped}

-- the tail of an arrow is over the tail of each arrow that it leads to
pub over_tails : (rows : List Row) (a b : ℕ) → Leads (ArrowLink rows) a b → Over rows (2 * a) (2 * b)
over_tails rows a b l = (
  omega arith,
  subst (λ x. Leads (ArrowLink rows) x (arrow (2 * b))) (sym (tail_arrow a)) (subst (λ x. Leads (ArrowLink rows) a x) (sym (tail_arrow b)) l),
)

module _ (c p : ℕ) (rows : List Row) (sound : AllSound c p rows) (Let : Individual → Type 0) (world : World)
    (mirrors : Mirrors c p rows Let world) where
  open mirrors use {in_read, in_write, pair_read, pair_write}

  -- what is true of an individual stays true along a link
  along : (d u : Description) (i : Individual) → Is c p rows (decode i) d → Link rows d u → Is c p rows (decode i) u
  along d u i h l = is_leads c p rows sound (decode i) d u h (leads_one l)

  -- where every individual is let in and no cap stands on a shared arrow, each row is fulfilled
  pub fulfils_rows : ((i : Individual) → Let i) → Uncapped rows → FulfilsAll world rows
  fulfils_rows every unc (S a b) has = λ i h. let r = in_read a i h in in_write b i (r.0, along (cls a) (cls b) i r.1 (by_S has))
  fulfils_rows every unc (X a b) has =
      λ i h k. is_agree c p rows sound (decode i) (cls a) (cls b) (in_read a i h).1 (in_read b i k).1 (by_X has)
  fulfils_rows every unc (D e b) has =
      λ i h.
      let r = one_get c p rows sound Let world mirrors e i h in
      in_write b i (r.0, along (mark e 1) (cls b) i r.1 (by_D has))
  fulfils_rows every unc (F a e n) has =
      λ i h.
      let r = in_read a i h in
      subst (AtLeast world e n) r.0.0
      (some_put c p rows sound Let world mirrors e n (decode i) (every (code (decode i))) (λ k. every (code (neighbour (decode i) e k)))
      (along (cls a) (mark e n) i r.1 (by_F has)))
  fulfils_rows every unc (K a e n) has =
      λ i h k.
      let q : n + 1 ≡ suc n = omega arith in
      is_agree c p rows sound (decode i) (cls a) (mark e (suc n)) (in_read a i h).1
      (some_get c p rows sound Let world mirrors e n i (unc a e n has) (subst (λ m. AtLeast world e m i) q k))
      (by_K has (omega arith))
  fulfils_rows every unc (P a b) has =
      λ i j h.
      let r = pair_read a i j h in
      pair_write b i j
      (r.0, (r.1.0, next_up c p rows sound (decode i) (2 * a) (2 * b) (decode j) (over_tails rows a b (leads_one has)) r.1.1))
  fulfils_rows every unc (Q a b) has =
      λ i j h k.
      next_apart c p rows sound (decode i) (2 * a) (2 * b) (decode j)
      (subst (λ x. ArrowApart rows x (arrow (2 * b))) (sym (tail_arrow a)) (subst (λ x. ArrowApart rows a x) (sym (tail_arrow b)) has))
      (pair_read a i j h).1.1
      (pair_read b i j k).1.1
