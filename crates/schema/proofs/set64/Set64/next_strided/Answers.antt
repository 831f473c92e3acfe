use Rattle.std.proofs.Common.{sym, subst}
use Rattle.search.specs.Leads.{NextLink}
use Rattle.schema.specs.Masks.{Strided}
use Rattle.schema.proofs.Strides.{strided_none, strided_some}
use Rattle.schema.proofs.set64.Set64.next_strided.Goals as goal

pub returns-in_err-found : goal.returns-in_err-found
returns-in_err-found g c =
    subst (NextLink c.args.end (Strided c.args.self g.row.STRIDE c.args.offset) c.args.at) (sym c.from_residual.ensures)
    (strided_none g.row.STRIDE c.args.offset c.requires.within c.args.self c.args.at c.args.end c.requires.known c.in_err-found.ensures)

pub returns : goal.returns
returns g c =
    subst (NextLink c.args.end (Strided c.args.self g.row.STRIDE c.args.offset) c.args.at) (sym c.then_some.ensures)
    (strided_some g.row.STRIDE c.args.offset c.requires.within c.args.self c.args.at c.args.end c.requires.known c.in_ok-found.field-0 c.in_ok-found.ensures)
