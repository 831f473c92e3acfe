use Rattle.std.proofs.Common.{◌*◌, sym, ◌∙◌, inl, inr}
use Rattle.std.proofs.lemmas.Bool.{true≢false}
use Rattle.schema.specs.Questions.{Parted}
use Rattle.schema.specs.Webs.{mark, ArrowLink, ArrowApart, Clashing}
use Rattle.schema.proofs.Answering.{tails_part, heads_part, heads_left}
use Rattle.schema.proofs.Signs.{tells_yes, tells_no, tells_true, tells_same}
use Rattle.schema.proofs.findings.Findings.arrows_parted.Goals as goal
use Rattle.schema.proofs.findings.Findings.arrows_parted.Goals.{then-arrows_clash, else-arrows_clash}

pub returns-then-parted : goal.returns-then-parted
returns-then-parted c =
    let rows = c.args.self.now in
    let p = c.args.one in
    let q = c.args.two in
    tells_true c.if-parted.true
    (elim c.if-arrows_clash.branch [
      | then-arrows_clash w ↦ inr (inr (inl w.if-arrows_clash.ensures))
      | else-arrows_clash w ↦
          tails_part rows p q
          (rw (← w.mark.ensures, ← w.mark-else-arrows_clash.ensures) (tells_yes w.parted.ensures (sym w.value-is ∙ c.if-parted.true)))
    ])

pub returns-else-parted : goal.returns-else-parted
returns-else-parted c =
    let rows = c.args.self.now in
    let p = c.args.one in
    let q = c.args.two in
    let not : (Clashing (ArrowLink rows) (ArrowApart rows) p q → ⊥) × (Parted rows (mark (2 * p) 1) (mark (2 * q) 1) → ⊥) =
    elim c.if-arrows_clash.branch [
      | then-arrows_clash w ↦ absurd (true≢false (sym w.if-arrows_clash.true ∙ sym w.value-is ∙ c.if-parted.false))
      | else-arrows_clash w ↦ (
        w.if-arrows_clash.ensures,
        rw (← w.mark.ensures, ← w.mark-else-arrows_clash.ensures) (tells_no w.parted.ensures (sym w.value-is ∙ c.if-parted.false)),
      )
    ] in
    tells_same c.parted-else-parted.result (heads_part rows p q) (heads_left rows p q not.0 not.1)
    (rw (← c.mark-else-parted.ensures, ← c.mark-else-parted-2.ensures) c.parted-else-parted.ensures)
