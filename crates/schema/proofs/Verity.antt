-- From the bytes of a verdict to the worlds, and what verdicts and questions promise of them.
use Rattle.std.proofs.Common.{◌≡◌, ℕ, ◌+◌, ◌<◌, ◌≤◌, eqb, List, length, get_or, take, drop, count_by, subst, inl, inr, arith}
use Rattle.schema.specs.declared.row.Row.{Row}
use Rattle.schema.specs.Promises.{TrueOf}
use Rattle.schema.specs.Rows.{Sound}
use Rattle.schema.specs.Sheets.{Shown}
use Rattle.schema.specs.Verdicts.{Passes, Bit, Listed}
use Rattle.schema.specs.Webs.{EmptyClass, EmptyArrow}
use Rattle.schema.proofs.Signs.{bit_same}
use Rattle.schema.proofs.theory.Exactness.{all_told, all_shown}

-- a byte that is 0 tells that the fact does not hold
bit_not : {b : ℕ} {A : Type 0} → Bit b A → b ≡ 0 → A → ⊥
bit_not (inl (e, a)) z x = omega arith
bit_not (inr (e, f)) z x = f x

-- the table of forced-empty names is the table of what is empty in every world
pub listed_all : (c p : ℕ) (rows : List Row) (before : List ℕ) (ones : ℕ) (after : List ℕ) → Passes c p rows → c + p ≤ length before
    → ((k : ℕ) → k < c → Bit (get_or after k 0) (EmptyClass rows k)) → ((k : ℕ) → k < p → Bit (get_or after (c + k) 0) (EmptyArrow rows k))
    → drop (c + p) after ≡ drop (c + p) before → ones ≡ count_by (λ b. eqb b 1) (take (c + p) after) → Listed c p rows before ones after
listed_all c p rows before ones after ok room classes arrows later counted =
    let exact = all_told c p rows ok in
    let shown = all_shown c p rows ok in
    record {
      passes = ok;
      room = room;
      class_bytes = classes;
      arrow_bytes = arrows;
      class_everywhere = λ k h. bit_same (get_or after k 0) (exact.class_exact k h).0 (exact.class_exact k h).1 (classes k h);
      arrow_everywhere = λ k h. bit_same (get_or after (c + k) 0) (exact.arrow_exact k h).0 (exact.arrow_exact k h).1 (arrows k h);
      one_world = (
        shown.0,
        shown.1,
        record { classes = λ k h z. shown.1.class_filled k h (bit_not (classes k h) z); arrows = λ k h z. shown.1.arrow_filled k h (bit_not (arrows k h) z) },
      );
      later = later;
      counted = counted;
    }

-- whatever a sheet shows, verdicts and questions tell what is so in all worlds
pub true_of : (s : Shown) → TrueOf s
true_of s = record {
  listed = λ before after ones v. record { classes = v.class_everywhere; arrows = v.arrow_everywhere };
  answered = λ asked answer a. (a.rule, a.writes, a.everywhere);
  one_world =
      λ ok.
      let one = all_shown s.classes s.arrows s.rows ok in (
        one.0,
        record {
          shows = one.1;
          fills =
              λ before after ones v.
              record { classes = λ k l z. one.1.class_filled k l (bit_not (v.class_bytes k l) z); arrows = λ k l z. one.1.arrow_filled k l (bit_not (v.arrow_bytes k l) z) };
          breaks = λ asked a. (a.rule, a.writes, one.1.rule_broken a.rule (subst (Sound s.classes s.arrows) a.writes a.sound) a.countable a.told);
        },
      );
}
