use Rattle.std.proofs.Common.{◌≡◌, ℕ, ◌/◌, get_or, subst, arith, below_more}
use Rattle.std.proofs.lemmas.List.Elements.{Contains-get_or}
use Rattle.std.proofs.lemmas.Option.{slice_get-get_or}
use Rattle.schema.specs.declared.row.Row.{Row}
use Rattle.schema.specs.Checks.{Shared}
use Rattle.schema.specs.Columns.{blank_row}
use Rattle.schema.specs.Masks.{Member}
use Rattle.schema.specs.Rows.{AllSound}
use Rattle.schema.specs.Rules.{arrow}
use Rattle.schema.specs.Verdicts.{CapsShared, Small, capped}
use Rattle.schema.proofs.Building.{fits_at}
use Rattle.schema.proofs.Caps.{caps, no_caps, no_cap_letter}
use Rattle.schema.proofs.Members.{each_below, every_∈}
use Rattle.schema.proofs.Schemas.{sheet_small}
use Rattle.schema.proofs.checks.check_caps.Goals as goal
use Rattle.schema.proofs.checks.check_caps.Goals.{else-row-eq75-via-then-row-eq75+else-has, else-row-eq75-via-else-row-eq75}

pub has-requires : goal.has-requires
has-requires c =
    let rows = c.rows-rows.result.now in
    let f = fits_at (get_or rows c.loop-k.k blank_row) 75 c.if-row-eq75.true (c.rows-rows.ensures.sound _ (Contains-get_or rows c.loop-k.k blank_row c.loop-k-test.true)) in
    omega (arith, f.1, c.from.ensures)

pub returns-then-has : goal.returns-then-has
returns-then-has c =
    let sheet = c.args.sheet.now in
    let rows = c.rows-rows.result.now in
    let r = get_or rows c.loop-k.k blank_row in
    let here : c.from.result / 2 ≡ arrow r.b = omega (arith, c.from.ensures) in
    let shared : Shared rows c.shared_arrows-shared.result = rw c.rows-rows.ensures.same c.shared_arrows-shared.ensures in
    let small : Small sheet.counts.classes sheet.counts.arrows rows = rw c.rows-rows.ensures.same (sheet_small sheet) in
    let sound : AllSound sheet.counts.classes sheet.counts.arrows rows = rw c.rows-rows.ensures.same sheet.sound in
    rw (← c.rows-rows.ensures.same)
    (capped c.loop-k.k r small sound (slice_get-get_or rows c.loop-k.k blank_row c.loop-k-test.true)
    (caps rows c.shared_arrows-shared.result shared r c.if-row-eq75.true (subst (Member c.shared_arrows-shared.result) here c.if-has.ensures))
    (each_below (λ (q : Row). CapsShared rows q → ⊥) rows c.loop-k.k blank_row (omega arith) c.loop-k.invariant))

pub loop-k-preserved : goal.loop-k-preserved
loop-k-preserved c =
    let rows = c.rows-rows.result.now in
    let s = c.shared_arrows-shared in
    let shared : Shared rows s.result = rw c.rows-rows.ensures.same s.ensures in
    let r = get_or rows c.loop-k.k blank_row in
    below_more _ _ c.loop-k.invariant
    (elim c.else-row-eq75.branch [
      | else-row-eq75-via-then-row-eq75+else-has v ↦
          let here : v.from.result / 2 ≡ arrow r.b = omega (arith, v.from.ensures) in
          no_caps rows s.result shared r (subst (λ (k : ℕ). Member s.result k → ⊥) here v.if-has.ensures)
      | else-row-eq75-via-else-row-eq75 v ↦ no_cap_letter rows s.result shared r v.if-row-eq75.false
    ])

pub returns : goal.returns
returns c =
    let rows = c.rows-rows.result.now in
    rw (← c.rows-rows.ensures.same)
    (every_∈ (λ (q : Row). CapsShared rows q → ⊥) rows blank_row (λ k l. c.loop-k.invariant k (omega arith)))
