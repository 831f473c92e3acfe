-- Whether an individual lives, and whether a description is true of it.
use Rattle.std.proofs.Common.{ℕ, suc, ◌*◌, ◌<◌, List, arith}
use native.Mathlib.Decide.{map_dec, dec_lt, ℕ_discrete}
use Rattle.schema.specs.declared.row.Row.{Row}
use Rattle.schema.specs.Rows.{AllSound}
use Rattle.schema.specs.Rules.{arrow, side}
use Rattle.schema.specs.Webs.{Description, mark}
use Rattle.schema.proofs.theory.Ends.{opp}
use Rattle.schema.proofs.theory.Deciding.{both?, or?, not?}
use Rattle.schema.proofs.theory.Points.{point?}
use Rattle.schema.proofs.theory.FiniteWebs.{description_leads?, arrow_leads?, description_clash?, arrow_clash?}
use Rattle.schema.proofs.theory.Emptiness.{description_empty?, arrow_empty?}
use Rattle.schema.proofs.theory.Individuals.{Ind, root, twin, child, slot?, one, two}
use Rattle.schema.proofs.theory.Living.{Good, GoodTwin, Under, Live, Is, Over, live_good}

module _ (c p : ℕ) (rows : List Row) (sound : AllSound c p rows) where
  -- whether two descriptions are good
  good? : (d u : Description) → Dec (Good c p rows d u)
  good? d u =
      map_dec
      (λ t.
      record { one_point = t.0.0; two_point = t.0.1; one_filled = t.1.0; two_filled = t.1.1.0; agree = t.1.1.1 })
      (λ g. ((g.one_point, g.two_point), (g.one_filled, (g.two_filled, g.agree))))
      (both? (both? (point? c p d) (λ _. point? c p u))
      (λ q.
      both? (not? (description_empty? c p rows sound d q.0))
      (λ _.
      both? (not? (description_empty? c p rows sound u q.1))
      (λ _. not? (description_clash? c p rows sound d u q.0 q.1)))))

  -- whether two ends are
  pub twin? : (e f : ℕ) → Dec (GoodTwin p rows e f)
  twin? e f =
      map_dec
      (λ t.
      record {
        one_end = t.0.0;
        two_end = t.0.1;
        one_filled = t.1.0;
        two_filled = t.1.1.0;
        arrows_agree = t.1.1.1.0;
        here_agree = t.1.1.1.1.0;
        there_agree = t.1.1.1.1.1;
      })
      (λ g. ((g.one_end, g.two_end), (g.one_filled, (g.two_filled, (g.arrows_agree, (g.here_agree, g.there_agree))))))
      (both? (both? (dec_lt e (2 * p)) (λ _. dec_lt f (2 * p)))
      (λ q.
      let le : arrow e < p = omega (arith, q.0) in
      let lf : arrow f < p = omega (arith, q.1) in
      both? (not? (arrow_empty? c p rows sound (arrow e) le))
      (λ _.
      both? (not? (arrow_empty? c p rows sound (arrow f) lf))
      (λ _.
      both? (not? (arrow_clash? c p rows sound (arrow e) (arrow f) le lf))
      (λ _.
      both? (not? (description_clash? c p rows sound (mark e 1) (mark f 1) (q.0, omega arith, omega arith) (q.1, omega arith, omega arith)))
      (λ _.
      not?
      (description_clash? c p rows sound (mark (opp e) 1) (mark (opp f) 1) (omega (arith, q.0), omega arith, omega arith)
      (omega (arith, q.1), omega arith, omega arith))))))))

  -- whether a description is true of one that lives
  under? : (x : Ind) → Live c p rows x → (d : Description) → Dec (Under rows x d)
  under? x l d =
      let g : Good c p rows (one x) (two x) = live_good c p rows sound x l in
      or? (description_leads? c p rows sound (one x) d g.one_point) (description_leads? c p rows sound (two x) d g.two_point)

  -- whether an individual lives
  pub live? : (x : Ind) → Dec (Live c p rows x)
  live? (root d u) = good? d u
  live? (twin e f) = twin? e f
  live? (child x e j) = both? (live? x) (λ l. both? (under? x l (mark e (suc j))) (λ _. not? (slot? x e j)))

  -- whether a description is true of an individual
  pub is? : (x : Ind) (d : Description) → Dec (Is c p rows x d)
  is? x d = both? (live? x) (λ l. under? x l d)

  -- whether an end is over another
  pub over? : (g e : ℕ) → g < 2 * p → Dec (Over rows g e)
  over? g e h = both? (ℕ_discrete (side g) (side e)) (λ _. arrow_leads? c p rows sound (arrow g) (arrow e) (omega arith))
