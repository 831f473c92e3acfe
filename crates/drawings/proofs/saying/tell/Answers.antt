use Rattle.std.proofs.Common.{◌∙◌, sym, refl, ap, arith}
use Rattle.drawings.specs.declared.told.Told.TheVariants.{Refusal}
use Rattle.drawings.proofs.Lines.{evidence}
use Rattle.drawings.proofs.Sayings.{listed_said, refused_said, answered_said, unanswered_said}
use Rattle.drawings.proofs.saying.tell.Goals as goal

pub returns-in-Ok : goal.returns-in-Ok
returns-in-Ok g c = λ d m draws e.
    listed_said (g.S.Sheet.shows c.args.sheet.now) d draws (evidence d m) (sym c.in_default.is ∙ e) _ _ _ c.in-Ok.ensures (omega arith)

pub returns-in-Err : goal.returns-in-Err
returns-in-Err g c = λ d m draws e.
    ap Refusal c.from.ensures
    ∙ refused_said (g.S.Sheet.shows c.args.sheet.now) d draws (evidence d m) (sym c.in_default.is ∙ e) _ _ c.in-Err.fault c.in-Err.ensures refl

pub returns-in-Ok-question : goal.returns-in-Ok-question
returns-in-Ok-question g c = λ d m draws e.
    answered_said (g.S.Sheet.shows c.args.sheet.now) d draws (evidence d m) c.in-Some.row (sym c.in-Some.is ∙ e) c.in-Ok-question.yes
    c.in-Ok-question.ensures

pub returns-in-Err-question : goal.returns-in-Err-question
returns-in-Err-question g c = λ d m draws e.
    ap Refusal c.from-in-Err-question.ensures
    ∙ unanswered_said (g.S.Sheet.shows c.args.sheet.now) d draws (evidence d m) c.in-Some.row (sym c.in-Some.is ∙ e) c.in-Err-question.fault
    c.in-Err-question.ensures
