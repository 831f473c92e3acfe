use Rattle.std.proofs.Common.{ℕ, List, [], ◌∷◌, ◌++◌, get_or, take, sym, subst, arith}
use Rattle.std.proofs.lemmas.List.Elements.{Contains-get_or}
use Rattle.std.proofs.lemmas.List.{take_more}
use Rattle.schema.specs.declared.row.Row.{Row}
use Rattle.schema.specs.Checks.{Shared}
use Rattle.schema.specs.Columns.{blank_row}
use Rattle.schema.specs.Masks.{Joins}
use Rattle.schema.proofs.Building.{fits_at}
use Rattle.schema.proofs.Caps.{shared_none, shared_other, shared_more}
use Rattle.schema.proofs.checks.shared_arrows.Goals as goal
use Rattle.schema.proofs.checks.shared_arrows.Goals.{then-row-eq80+then-row, else-row-eq80, else-row-eq80-via-then-row-eq80+else-row, else-row-eq80-via-else-row-eq80}

pub loop-row-init : goal.loop-row-init
loop-row-init c = shared_none

pub insert-requires : goal.insert-requires
insert-requires c =
    let f = fits_at _ 80 c.if-row-eq80.true (c.rows-row-items.ensures.sound _ (Contains-get_or c.rows-row-items.result.now c.loop-row.row-index blank_row c.loop-row-test.true)) in
    omega (arith, f.1)

pub loop-row-preserved : goal.loop-row-preserved
loop-row-preserved c =
    let rows = c.rows-row-items.result.now in
    let i = c.loop-row.row-index in
    let r = get_or rows i blank_row in
    let e = take_more rows i blank_row c.loop-row-test.true in
    subst (λ (rs : List Row). Shared rs c.if-row-eq80.shared) (sym e)
    (elim c.if-row-eq80.branch [
      | then-row-eq80+then-row v ↦
          let f = fits_at r 80 v.if-row-eq80.true (c.rows-row-items.ensures.sound r (Contains-get_or rows i blank_row c.loop-row-test.true)) in
          subst (Shared (take i rows ++ r ∷ [])) (sym v.shared-is)
          (shared_more (take i rows) c.loop-row.shared v.insert.new.self r v.if-row-eq80.true (omega (arith, f.3)) v.if-row.true
          (subst (λ (k : ℕ). Joins c.loop-row.shared k v.insert.new.self) (omega arith) v.insert.ensures) c.loop-row.invariant)
      | else-row-eq80 v ↦
          subst (Shared (take i rows ++ r ∷ [])) (sym v.shared-is)
          (shared_other (take i rows) c.loop-row.shared r
          (elim v.else-row-eq80.branch
          [ else-row-eq80-via-then-row-eq80+else-row u ↦ (λ _. u.if-row.false) | else-row-eq80-via-else-row-eq80 u ↦ (λ x. absurd (u.if-row-eq80.false x)) ])
          c.loop-row.invariant)
    ])
