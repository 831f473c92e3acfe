use Rattle.std.proofs.Common.{◌==◌, ◌∙◌, rules}
use Rattle.std.proofs.lemmas.Iterator.{YieldsList-from_slice}
use Rattle.std.proofs.lemmas.Iterator.Search.{find_from_yields_List}
use borrow.Author.Tests.{tests}
use Rattle.schema.specs.declared.letters.Shape.{Shape}
use Rattle.schema.specs.Rows.{shapes}
use Rattle.schema.proofs.letters.shape_of.Goals as goal

pub returns : goal.returns
returns c =
    c.copied.ensures
    ∙ find_from_yields_List (λ (s : Shape). s.letter == c.args.letter) _ _ c.find.result c.find.ensures.ran (YieldsList-from_slice shapes c.iter.ensures.rest) (λ x b q k. search (rules, tests))
