use Rattle.std.proofs.Common.{◌⊎◌, List, sym, ◌∙◌, subst, inl, inr}
use Rattle.std.proofs.lemmas.Bool.{true≢false}
use Rattle.schema.specs.declared.row.Row.{Row}
use Rattle.schema.specs.Keys.{descriptions_apart, TornBy}
use Rattle.schema.specs.Questions.{EmptyDescription}
use Rattle.schema.specs.Verdicts.{Tells}
use Rattle.schema.specs.Webs.{Link, Apart, Clashing}
use Rattle.schema.proofs.Finds.{found_as}
use Rattle.schema.proofs.Signs.{tells_yes, tells_no, tells_true, tells_same, tells_second}
use Rattle.schema.proofs.Torn.{torn_clashes, clashes_torn}
use Rattle.schema.proofs.findings.Findings.parted.Goals as goal
use Rattle.schema.proofs.findings.Findings.parted.Goals.{then-is_empty, else-is_empty}

pub returns-then-is_empty-2 : goal.returns-then-is_empty-2
returns-then-is_empty-2 c =
    let from-d = c.marks-first.ensures in
    let from-u = c.marks-second.ensures in
    tells_true c.if-is_empty-2.true
    (elim c.if-is_empty.branch [
      | then-is_empty w ↦ inl (w.if-is_empty.ensures c.args.one from-d.placed from-d.reaches)
      | else-is_empty w ↦ inr (inl (tells_yes (w.is_empty-else-is_empty.ensures c.args.two from-u.placed from-u.reaches) (sym w.value-is ∙ c.if-is_empty-2.true)))
    ])

pub returns-else-is_empty-2 : goal.returns-else-is_empty-2
returns-else-is_empty-2 c =
    let rows = c.args.self.now in
    let d = c.args.one in
    let u = c.args.two in
    let sound = (found_as c.self.view_is c.self.invariant).sound in
    let first = c.marks-first.result in
    let second = c.marks-second.result in
    let from-d = c.marks-first.ensures in
    let from-u = c.marks-second.ensures in
    let torn = subst (λ (rs : List Row). Tells c.torn.result (TornBy descriptions_apart rs first second)) c.self.view_is c.torn.ensures in
    let filled : (EmptyDescription rows d → ⊥) × (EmptyDescription rows u → ⊥) =
    elim c.if-is_empty.branch [
      | then-is_empty w ↦ absurd (true≢false (sym w.if-is_empty.true ∙ sym w.value-is ∙ c.if-is_empty-2.false))
      | else-is_empty w ↦ (
        w.if-is_empty.ensures d from-d.placed from-d.reaches,
        tells_no (w.is_empty-else-is_empty.ensures u from-u.placed from-u.reaches) (sym w.value-is ∙ c.if-is_empty-2.false),
      )
    ] in
    let Clash = Clashing (Link rows) (Apart rows) d u in
    tells_second c.torn.result (EmptyDescription rows u ⊎ Clash) filled.0
    (tells_second c.torn.result Clash filled.1
    (tells_same c.torn.result (torn_clashes rows sound d u first second from-d.reaches from-u.reaches) (clashes_torn rows sound d u first second from-d.reaches from-u.reaches) torn))
