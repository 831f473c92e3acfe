use Rattle.std.proofs.Common.{⊎_elim, List, subst}
use Rattle.schema.specs.declared.row.Row.{Row}
use Rattle.schema.specs.Keys.{descriptions_apart, TornBy}
use Rattle.schema.proofs.Finds.{found_as}
use Rattle.schema.proofs.Emptied.{torn_empties, marked_empties, empty_marked}
use Rattle.schema.proofs.Signs.{tells_same, tells_true}
use Rattle.schema.proofs.findings.Findings.is_empty.Goals as goal

pub returns-then-torn : goal.returns-then-torn
returns-then-torn c d h told =
    let rows = c.args.self.now in
    let marks = c.args.marks.now in
    let found = found_as c.self.view_is c.self.invariant in
    let torn = subst (λ (rs : List Row). TornBy descriptions_apart rs marks marks) c.self.view_is c.if-torn.ensures in
    tells_true c.if-torn.true (torn_empties rows found.sound d marks c.self.inside.empty told found.keys torn)

pub returns-else-torn : goal.returns-else-torn
returns-else-torn c d h told =
    let empty = c.self.inside.empty in
    let rows = c.args.self.now in
    let marks = c.args.marks.now in
    let found = found_as c.self.view_is c.self.invariant in
    let torn = subst (λ (rs : List Row). TornBy descriptions_apart rs marks marks → ⊥) c.self.view_is c.if-torn.ensures in
    tells_same c.marks_empty.result (marked_empties rows found.sound d marks empty told found.keys)
    (λ z. ⊎_elim (λ t. absurd (torn t)) (λ m. m) (empty_marked rows found.sound d marks empty told found.keys h z))
    c.marks_empty.ensures
