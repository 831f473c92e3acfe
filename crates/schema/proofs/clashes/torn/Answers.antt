use Rattle.std.proofs.Common.{sym, subst, rules}
use Rattle.std.proofs.lemmas.Iterator.{cases_from_any, YieldsList-from_slice}
use Rattle.std.proofs.lemmas.Iterator.Adapters.{serves_from_places}
use Rattle.schema.specs.declared.row.Row.{Row}
use Rattle.schema.specs.Rows.{Sound}
use Rattle.schema.specs.Keys.{BothMarked}
use Rattle.schema.specs.Columns.{blank_row}
use Rattle.schema.proofs.Anys.{tells_any}
use Rattle.std.proofs.lemmas.List.Elements.{Contains-get_or}
use Rattle.schema.proofs.Signs.{tells_same}
use Rattle.schema.proofs.clashes.torn.Goals as goal

pub returns : goal.returns
returns g c =
    let rows = c.args.sheet.now.rows.items in
    let Both : Row → Type 0 = λ r. BothMarked g.W.Clashes.apart r c.args.first.now c.args.second.now in
    tells_same c.any.result (λ t. record { by = t.0; stands = t.1; both = t.2 }) (λ t. (t.by, t.stands, t.both))
    (tells_any Both blank_row rows c.any.result
    (cases_from_any _ _ _ Both (λ r. Both r → ⊥) c.any.ensures.ran (YieldsList-from_slice rows (search rules)) (λ x q k. search rules) (λ x q k. search rules)))

-- each row of the sheet is sound
pub any-requires-clause-callable : goal.any-requires-clause-callable
any-requires-clause-callable g c =
    let rows = c.rows.result.now in
    serves_from_places (YieldsList-from_slice rows (search rules)) (λ x q r. search rules)
    (λ x k l e. let s : Sound 64 32 x.now = subst (Sound 64 32) (sym e) (c.rows.ensures.sound _ (Contains-get_or rows k x.now l)) in search rules)
