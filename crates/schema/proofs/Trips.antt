-- From a text to a sheet and back, and from a sheet to a text and back.
use Rattle.std.proofs.Common.{◌≡◌, ℕ, ◌<◌, List, length, take, Err, sym, ap, ◌∙◌, subst, arith}
use Rattle.schema.specs.declared.faults.TextFault.{TextFault}
use Rattle.schema.specs.declared.faults.PrintFault.{PrintFault}
use Rattle.schema.specs.declared.faults.PrintFault.TheVariants.{Sheet, ShortBuffer}
use Rattle.schema.specs.Prints.{Prints, Printed, Repeats}
use Rattle.schema.specs.Sheets.{Shown}
use Rattle.schema.specs.Texts.{IsText, TextFaulty}
use Rattle.schema.specs.TextSheets.{TextRead}
use Rattle.schema.proofs.Accepted.{told_faultless, faultless}
use Rattle.schema.proofs.RowLines.{length_text}

-- a text that was read is not printed only for want of room
pub short_reprint : {text : List ℕ} (s : Shown) (before after : List ℕ) (f : PrintFault) → IsText text s.classes s.arrows s.rows
    → Printed s before (Err f) after → (length before < length text) × (after ≡ before)
short_reprint s before after (Sheet f) t h = absurd (told_faultless t h.0)
short_reprint s before after ShortBuffer t h =
    let long = ap length t.bytes ∙ length_text s.classes s.arrows s.rows in (omega (arith, h.2, long), h.3)

-- what a text told is its text again where it is printed, by whatever way the length is answered
pub repeats : {text before after : List ℕ} (s : Shown) (n len : ℕ) → n ≡ len → TextRead text s → Prints s before len after → Repeats text before n after
repeats {text} {before} {after} s n len e t p =
    subst (λ (x : ℕ). Repeats text before x after) (sym e)
    (record {
      accepted = (s.classes, s.arrows, s.rows, t.tells);
      room = p.room;
      long = p.long ∙ sym (ap length t.tells.bytes ∙ length_text s.classes s.arrows s.rows);
      same = p.tells.bytes ∙ sym t.tells.bytes;
      later = p.later;
    })

-- a printed sheet can be read back
pub reads_back : (s : Shown) {text before after : List ℕ} {len : ℕ} {f : TextFault} → text ≡ take len after → Prints s before len after → TextFaulty text f → ⊥
reads_back s {f = f} e w bad = faultless w.tells (subst (λ x. TextFaulty x f) e bad)

-- and then shows the same
pub same_back : (s t : Shown) {text before after : List ℕ} {len : ℕ} → text ≡ take len after → Prints s before len after → TextRead text t
    → t ≡ record { classes = s.classes; arrows = s.arrows; rows = s.rows; capacity = length s.rows }
same_back s t e w r =
    let u = w.only t.classes t.arrows t.rows (subst (λ x. IsText x t.classes t.arrows t.rows) e r.tells) in
    λ i. record { classes = u.0 i; arrows = u.1 i; rows = u.2 i; capacity = (r.full ∙ ap length u.2) i }
