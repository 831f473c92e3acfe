-- From what shows an answer, and what the verdict and the question promise, to what is said.
use Rattle.std.proofs.Common.{◌≡◌, ℕ, zero, suc, ◌+◌, ◌-◌, ◌<◌, true, false, List, map, length, get_or, Option, Some, None, Bool, Ok, Err, Result, sym, refl, ap, ◌∙◌, subst, inl, inr, arith}
use Rattle.std.specs.List.{slice_get}
use Rattle.std.proofs.lemmas.Bool.{cases_lt}
use Rattle.std.proofs.lemmas.Grind.{same_number_lists}
use Rattle.schema.specs.declared.row.Row.{Row}
use Rattle.schema.specs.declared.faults.VerdictFault.{VerdictFault}
use Rattle.schema.specs.declared.faults.VerdictFault.TheVariants.{Check, ShortTable}
use Rattle.schema.specs.declared.faults.QuestionFault.{QuestionFault}
use Rattle.schema.specs.declared.faults.QuestionFault.TheVariants.{Check as Unchecked, UnsoundAsked, Uncounted}
use Rattle.schema.specs.Refusals.{check_notice, verdict_notice, question_notice}
use Rattle.schema.specs.Sheets.{Shown}
use Rattle.schema.specs.Rows.{◌∈◌}
use Rattle.schema.specs.Rules.{Rule, F, row}
use Rattle.schema.specs.Asked.{Uncountable, Replied, Asked}
use Rattle.schema.specs.Truth.{Follows}
use Rattle.schema.specs.Questions.{Yes, Countable}
use Rattle.schema.specs.Verdicts.{Bit, Tells, Listed, Judged, Verdict}
use Rattle.schema.specs.Worlds.{World, Fulfils, FulfilsAll}
use Rattle.schema.proofs.theory.Telling.{row_injective}
use Rattle.drawings.specs.declared.told.Told.{Told}
use Rattle.drawings.specs.declared.told.Told.TheVariants.{Table, Answer, Refusal}
use Rattle.drawings.specs.declared.given.Given.{Given}
use Rattle.drawings.specs.Drawings.{Drawing, drawings, asked_row, Holds, Draws, comes_of, comes_at, SameLine, IsGiven}
use Rattle.drawings.proofs.Evidence.{fulfils, Marks, ClassMark, ArrowMark, Sorted, Judges, sorted, capped, Because, derived, broken, uncountable, Answers, Evidence, unasked, asked}
use Rattle.drawings.proofs.Refusing.{sound_all, only_cap, unrefused}
use Rattle.schema.proofs.Members.{nth_∈}

-- a byte that is 1 for what is empty, and for what is empty in every world, is the shown one
marked : {Empty Everywhere Filled : Type 0} (b c : ℕ) → Marks b Empty Filled → (Filled → Everywhere → ⊥) → Bit c Empty → Bit c Everywhere → c ≡ b
marked zero c filled never here (inl (f, y)) = absurd (never filled y)
marked zero c filled never here (inr (f, y)) = f
marked (suc zero) c empty never (inl (f, y)) everywhere = f
marked (suc zero) c empty never (inr (f, y)) everywhere = absurd (y empty)
marked (suc (suc b)) c h never here everywhere = absurd h

module _ (rules : List Rule) where
  -- the table of the verdict
  table_is : (table : List ℕ) (w : World) → Sorted rules table w → length table ≡ 6 → (before after : List ℕ) (ones : ℕ)
      → Listed 4 2 (map row rules) before ones after → length after ≡ 6 → after ≡ table
  table_is table w s long before after ones v six = same_number_lists after table (six ∙ sym long) byte
    where
      ful : FulfilsAll w (map row rules)
      ful = fulfils w rules s.fulfilled

      class_mark : (k : ℕ) → k < 4 → ClassMark rules table w k
      class_mark zero l = s.classes.0
      class_mark (suc zero) l = s.classes.1
      class_mark (suc (suc zero)) l = s.classes.2
      class_mark (suc (suc (suc zero))) l = s.classes.3
      class_mark (suc (suc (suc (suc k)))) l = absurd (omega arith)

      arrow_mark : (k : ℕ) → k < 2 → ArrowMark rules table w k
      arrow_mark zero l = s.arrows.0
      arrow_mark (suc zero) l = s.arrows.1
      arrow_mark (suc (suc k)) l = absurd (omega arith)

      class : (k : ℕ) → k < 4 → get_or after k 0 ≡ get_or table k 0
      class k l =
          marked (get_or table k 0) (get_or after k 0) (class_mark k l) (λ f e. e w ful f) (v.class_bytes k l) (v.class_everywhere k l)

      arrow : (k : ℕ) → k < 2 → get_or after (4 + k) 0 ≡ get_or table (4 + k) 0
      arrow k l =
          marked (get_or table (4 + k) 0) (get_or after (4 + k) 0) (arrow_mark k l) (λ f e. e w ful f) (v.arrow_bytes k l) (v.arrow_everywhere k l)

      byte : (k : ℕ) → k < length after → get_or after k 0 ≡ get_or table k 0
      byte k l =
          elim (cases_lt k 4) [
            | inl h ↦ class k h
            | inr h ↦ let e : 4 + (k - 4) ≡ k = omega arith in subst (λ i. get_or after i 0 ≡ get_or table i 0) e (arrow (k - 4) (omega arith))
          ]

  -- a verdict that lists
  table_said : (t : Told) → Judges rules t → (before after : List ℕ) (ones : ℕ) → Judged 4 2 (map row rules) before (Ok ones) after → length after ≡ 6 → Table after ≡ t
  table_said t (sorted table w ok long s) before after ones v six = ap Table (table_is table w s long before after ones v six)
  table_said t (capped k h) before after ones v six = absurd (v.passes.uncapped h.caps (nth_∈ h.caps (map row rules) k h.at) h.shared)

  -- a verdict that is refused
  fault_said : (t : Told) → Judges rules t → (before after : List ℕ) (f : VerdictFault) → Judged 4 2 (map row rules) before (Err f) after → length before ≡ 6
      → Refusal (verdict_notice f) ≡ t
  fault_said t (sorted table w ok long s) before after (Check g) v six = absurd (unrefused 4 2 (map row rules) ok g v.0)
  fault_said t (capped k h) before after (Check g) v six =
      ap (λ g. Refusal (check_notice g)) (only_cap 4 2 (map row rules) h.few h.sound k h.caps h.at h.shared h.before g v.0)
  fault_said t j before after ShortTable v six = absurd (omega (arith, v.1))

  module _ (ρ : Rule) where
    -- a rule that cannot be counted is not countable
    discounted : Countable (map row rules) ρ → Uncountable (map row rules) (row ρ) → ⊥
    discounted count (a, e, n, is, l, shared) = shared (subst (Countable (map row rules)) (row_injective ρ (F a e n) is) count l)

    -- a question that is answered
    answer_said : (t : Told) → Answers rules ρ t → (b : Bool) → Replied 4 2 (map row rules) (row ρ) (Ok b) → Answer b ≡ t
    answer_said t h b v = on h.because b (subst (λ σ. Tells b (Yes (map row rules) σ)) same v.told) (subst (λ σ. Tells b (Follows (map row rules) (λ w. Fulfils w σ))) same v.everywhere)
      where
        same : v.rule ≡ ρ
        same = sym (row_injective ρ v.rule v.writes)

        on : {t : Told} → Because rules ρ t → (b : Bool) → Tells b (Yes (map row rules) ρ) → Tells b (Follows (map row rules) (λ w. Fulfils w ρ)) → Answer b ≡ t
        on (derived count y) true told everywhere = refl
        on (derived count y) false told everywhere = absurd (told y)
        on (broken w count f never) true told everywhere = absurd (never (everywhere w (fulfils w rules f)))
        on (broken w count f never) false told everywhere = refl
        on (uncountable u) b told everywhere = absurd (discounted (subst (Countable (map row rules)) same v.countable) u)

    -- a question that is refused
    doubt_said : (t : Told) → Answers rules ρ t → (f : QuestionFault) → Replied 4 2 (map row rules) (row ρ) (Err f) → Refusal (question_notice f) ≡ t
    doubt_said t h (Unchecked g) v = absurd (unrefused 4 2 (map row rules) h.passes g v)
    doubt_said t h (UnsoundAsked field) v = absurd (sound_all 4 2 (row ρ) field h.sound v.1)
    doubt_said t h Uncounted v = on h.because
      where
        on : {t : Told} → Because rules ρ t → Refusal (question_notice Uncounted) ≡ t
        on (derived count y) = absurd (discounted count v.2)
        on (broken w count f never) = absurd (discounted count v.2)
        on (uncountable u) = refl

-- what is so of the counts and rows of a sheet is so of what it holds
held : (Fact : ℕ → ℕ → List Row → Type 0) (s : Shown) (rows : List Row) → Holds s rows → Fact s.classes s.arrows s.rows → Fact 4 2 rows
held Fact s rows h x = rw (h.classes, h.arrows, h.shows) at x

-- of a sheet that shows a drawing for which there is evidence
module _ (s : Shown) (d : Drawing) (draws : Draws d s) (h : Evidence d) where
  -- what the verdict lists
  pub listed_said : None ≡ asked_row d.asked → (before after : List ℕ) (ones : ℕ) → Verdict s before (Ok ones) after → length after ≡ 6 → Table after ≡ d.comes
  listed_said e before after ones v six =
      table_said d.rules d.comes (unasked d h e) before after ones (held (λ c p rows. Judged c p rows before (Ok ones) after) s _ draws v) six

  -- why the verdict is refused
  pub refused_said : None ≡ asked_row d.asked → (before after : List ℕ) (f : VerdictFault) → Verdict s before (Err f) after → length before ≡ 6 → Refusal (verdict_notice f) ≡ d.comes
  refused_said e before after f v six =
      fault_said d.rules d.comes (unasked d h e) before after f (held (λ c p rows. Judged c p rows before (Err f) after) s _ draws v) six

  -- what a question about the sheet answers is an answer about the drawing's rules
  replied : (r : Row) (ρ : Rule) → r ≡ row ρ → (result : Result Bool QuestionFault) → Asked s r result → Replied 4 2 (map row d.rules) (row ρ) result
  replied r ρ e result v = subst (λ q. Replied 4 2 (map row d.rules) q result) e (held (λ c p rows. Replied c p rows r result) s _ draws v)

  -- what a question answers
  pub answered_said : (r : Row) → Some r ≡ asked_row d.asked → (b : Bool) → Asked s r (Ok b) → Answer b ≡ d.comes
  answered_said r e b v = let a = asked d h r e in answer_said d.rules a.0 d.comes a.2 b (replied r a.0 a.1 (Ok b) v)

  -- why a question is refused
  pub unanswered_said : (r : Row) → Some r ≡ asked_row d.asked → (f : QuestionFault) → Asked s r (Err f) → Refusal (question_notice f) ≡ d.comes
  unanswered_said r e f v = let a = asked d h r e in doubt_said d.rules a.0 d.comes a.2 f (replied r a.0 a.1 (Err f) v)

-- what is said of a line's rows is what must come of the line
pub drawn : (s : Shown) (t : Told) (g : Given) (line : ℕ) → IsGiven line (Some g) → Holds s g.rows.now
    → ((d : Drawing) → d ∈ drawings → Draws d s → g.asked ≡ asked_row d.asked → t ≡ d.comes) → Some t ≡ comes_at line
drawn s t g line h holds says = on (slice_get drawings line) refl h
  where
    on : (o : Option Drawing) → slice_get drawings line ≡ o → SameLine o (Some g) → Some t ≡ comes_of o
    on None e h = absurd h
    on (Some d) e h = ap Some (says d (nth_∈ d drawings line e) (subst (Holds s) h.0 holds) h.1)
