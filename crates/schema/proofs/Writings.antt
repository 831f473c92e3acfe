-- What a report writes, from the writes of its lines.
use Rattle.std.proofs.Common.{◌≡◌, ℕ, ◌+◌, ◌≤◌, List, ◌++◌, length, take, drop, sym, refl, ap, ◌∙◌, subst, zero-le, arith}
use Rattle.std.proofs.lemmas.List.{length-append, take_at, drop_at}
use Rattle.schema.specs.Texts.{line}
use Rattle.schema.specs.Reports.{name_lines, ReportIs, Written}
use Rattle.schema.specs.Printing.{spliced, listing, Begun}
use Rattle.schema.proofs.Splices.{spliced_more, spliced_start}
use Rattle.schema.proofs.Names.{length_names}

-- the counts, the classes and the arrows, each right after the one before
pub list_begun : (cs ps before with-counts with_classes after : List ℕ) (m n end len : ℕ) → length cs ≤ 64 → length ps ≤ 32 → 1358 ≤ length before
    → m ≡ length cs → n ≡ length ps → with-counts ≡ spliced 0 (line 86 m n 0) before
    → with_classes ≡ spliced 14 (name_lines 67 cs) with-counts → end ≡ 14 + length (name_lines 67 cs)
    → after ≡ spliced end (name_lines 65 ps) with_classes → len ≡ end + length (name_lines 65 ps)
    → Begun (listing cs ps) before len after
list_begun cs ps before s t after m n end len few-cs few-ps room is_m is-n e f at g stop =
    let counts = line 86 (length cs) (length ps) 0 in
    let first : s ≡ spliced 0 counts before =
    e ∙ (ap (λ k. spliced 0 (line 86 k n 0) before) is_m ∙ ap (λ k. spliced 0 (line 86 (length cs) k 0) before) is-n) in
    let classes : t ≡ spliced 0 (counts ++ name_lines 67 cs) before =
    f ∙ spliced_more 0 14 counts (name_lines 67 cs) before s zero-le refl first in
    let arrows : after ≡ spliced 0 (listing cs ps) before =
    g ∙ spliced_more 0 end (counts ++ name_lines 67 cs) (name_lines 65 ps) before t zero-le (omega arith) classes in
    let long : length (listing cs ps) ≡ len = omega (arith, length-append (name_lines 67 cs) (name_lines 65 ps)) in
    record {
      whole = sym long;
      short = omega (arith, length_names 67 cs, length_names 65 ps);
      bytes = arrows ∙ (spliced_start (listing cs ps) before ∙ ap (λ n. listing cs ps ++ drop n before) long);
    }

-- what stands in the first bytes, and after them
pub begun_front : {text before after : List ℕ} {len : ℕ} → Begun text before len after → take len after ≡ text
begun_front {text} {before} {after} {len} b = ap (take len) b.bytes ∙ take_at text (drop len before) len (sym b.whole)

pub begun_later : {text before after : List ℕ} {len : ℕ} → Begun text before len after → drop len after ≡ drop len before
begun_later {text} {before} {after} {len} b = ap (drop len) b.bytes ∙ drop_at text (drop len before) len (sym b.whole)

-- a report over the first bytes is written
pub written : {text report before after : List ℕ} {len : ℕ} → ReportIs text report → 1358 ≤ length before → Begun report before len after
    → Written text before len after
written {text} is room b =
    record { room = room; short = b.short; bytes = subst (ReportIs text) (sym (begun_front b)) is; later = begun_later b }
