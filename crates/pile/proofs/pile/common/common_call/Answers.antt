use Rattle.std.proofs.Common.{ℕ, List, subst}
use Rattle.pile.specs.Lives.{Loading, entered, loaded}
use Rattle.pile.specs.Shown.{shows_top}
use Rattle.pile.proofs.Steps.{called_common, part_seen}
use Rattle.pile.proofs.pile.common.common_call.Goals as goal

pub returns-in-Enter : goal.returns-in-Enter
returns-in-Enter g c = called_common _ _ _ _ _ c.in-Enter.is (entered c.put.ensures)

pub returns-in-Load : goal.returns-in-Load
returns-in-Load g c =
    let p = g.P.Part.plain c.args.part.now in
    let q = g.P.Part.plain c.load_part-loaded.new.part in
    called_common _ _ _ _ _ c.in-Load.is (loaded (subst (λ (text : List ℕ). Loading p text c.load_part-loaded.result q) c.as_slice.ensures.value c.load_part-loaded.ensures))

pub returns-in-Look : goal.returns-in-Look
returns-in-Look g c =
    let p = g.P.Part.plain c.args.part.now in
    called_common _ _ _ _ _ c.in-Look.is (part_seen p _ _ _ (shows_top p (g.met.P.Part.agrees c.args.part.now)) c.see.ensures)
