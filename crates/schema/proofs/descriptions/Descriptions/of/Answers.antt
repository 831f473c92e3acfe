use Rattle.std.proofs.Common.{ℕ, ◌<◌, List, [], ◌∷◌, ◌++◌, get_or, take, sym, refl, subst, arith}
use Rattle.std.proofs.lemmas.List.{take_more}
use Rattle.std.proofs.lemmas.List.Elements.{Contains-get_or}
use Rattle.schema.specs.declared.row.Row.{Row}
use Rattle.schema.specs.Columns.{blank_row}
use Rattle.schema.specs.Points.{Built}
use Rattle.schema.proofs.Building.{fits_at, zeros_at, told_none, needed_none, built_other, built_super, built_domain, built_over, built_need}
use Rattle.schema.proofs.descriptions.Descriptions.of.Goals as goal
use Rattle.schema.proofs.descriptions.Descriptions.of.Goals.{in-83, in-68, in-80, in-70, in_default}

pub invariant_of-none : goal.invariant_of-none
invariant_of-none c = record { few = λ e. subst (λ (n : ℕ). n < 32) (sym (zeros_at 64 e)) (omega arith) }

pub loop-row-init : goal.loop-row-init
loop-row-init c = record { supers = told_none 83 64; domains = told_none 68 64; overs = told_none 80 32; needs = needed_none 64 }

pub loop-row-preserved : goal.loop-row-preserved
loop-row-preserved c =
    let all = c.rows-row-items.result.now in
    let i = c.loop-row.row-index in
    let r = get_or all i blank_row in
    let sound = c.rows-row-items.ensures.sound r (Contains-get_or all i blank_row c.loop-row-test.true) in
    let rows = take i all in
    let w = c.loop-row.web in
    let t = c.loop-row.invariant in
    let a = c.from-a.result in
    let b = c.from-b.result in
    subst (λ (rs : List Row). Built rs c.match-row.web) (sym (take_more all i blank_row c.loop-row-test.true))
    (elim c.match-row.branch [
      | in-83 v ↦
          let f = fits_at r 83 v.in-83.is sound in
          subst (Built (rows ++ r ∷ [])) (sym v.web-is)
          (built_super w rows r t v.index-web-a.result _ (omega (arith, f.0)) a b c.from-a.ensures c.from-b.ensures v.in-83.is (omega (arith, f.3)) v.insert.ensures refl refl)
      | in-68 v ↦
          let f = fits_at r 68 v.in-68.is sound in
          subst (Built (rows ++ r ∷ [])) (sym v.web-is)
          (built_domain w rows r t a b v.index-web-a-in-68.result v.insert-in-68.new.self c.from-a.ensures c.from-b.ensures v.in-68.is (omega (arith, f.3)) (omega (arith, f.0)) v.insert-in-68.ensures)
      | in-80 v ↦
          let f = fits_at r 80 v.in-80.is sound in
          subst (Built (rows ++ r ∷ [])) (sym v.web-is)
          (built_over w rows r t a b v.index-web-a-in-80.result v.insert-in-80.new.self c.from-a.ensures c.from-b.ensures v.in-80.is (omega (arith, f.3)) (omega (arith, f.0)) v.insert-in-80.ensures)
      | in-70 v ↦
          let f = fits_at r 70 v.in-70.is sound in
          let n = v.need.ensures in
          subst (Built (rows ++ r ∷ [])) (sym v.web-is)
          (built_need w rows r t v.index-web-a-in-70.result v.need.new.self (omega (arith, f.0)) a b c.from-a.ensures c.from-b.ensures v.in-70.is f.2 n.needs n.counts n.supers)
      | in_default v ↦
          subst (Built (rows ++ r ∷ [])) (sym v.web-is)
          (built_other w rows r t (λ x. omega arith) (λ x. omega arith) (λ x. omega arith) (λ x. omega arith))
    ])
