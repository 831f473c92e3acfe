-- What shows the verdict of each drawing that has no question.
use Rattle.std.proofs.Common.{◌≡◌, ℕ, zero, suc, true, List, [], ◌∷◌, map, ap, ◌∙◌, refl, inl, arith}
use Rattle.search.specs.Leads.{stay, go}
use Rattle.schema.specs.declared.row.Row.{Row}
use Rattle.schema.specs.Rules.{Rule, X, D, F, K, P, Q, row}
use Rattle.schema.specs.Worlds.{World, In, Fulfils}
use Rattle.schema.specs.Webs.{cls, mark, by_F, by_D, by_X, by_K, clash, leads, clash_arrow, of_end, of_arrow, EmptyClass, EmptyArrow}
use Rattle.schema.specs.Questions.{EmptyDescription}
use Rattle.schema.specs.Verdicts.{CapsShared, EachBelow}
use Rattle.drawings.specs.Drawings.{bytes, empty, refused, branching}
use Rattle.drawings.proofs.Evidence.{has, Each, done, ◌▹◌, ClassMarks, ArrowMarks, FirstCap, Judges, sorted, capped}
use Rattle.drawings.proofs.Passing.{fine, passing, passes}
use Rattle.drawings.proofs.Worlds.{everything, no_zero, only_one, by_length, having, endless, no_head, one_class, no_class, having_some, having_few, endless_some, endless_one}

-- a verdict on rules that pass the checks, which are computed
judges : {rules : List Rule} (classes arrows : List ℕ) (w : World) → passing (map row rules) ≡ true → Each (Fulfils w) rules
    → ClassMarks rules (bytes classes arrows) w → ArrowMarks rules (bytes classes arrows) w → Judges rules (empty classes arrows)
judges {rules} classes arrows w h f cs ps =
    sorted (bytes classes arrows) w (passes (map row rules) h) refl record { fulfilled = f; classes = cs; arrows = ps }

-- the same, where one individual is in every class
filled : {rules : List Rule} (arrows : List ℕ) (w : World) → ((k : ℕ) → In w k []) → passing (map row rules) ≡ true → Each (Fulfils w) rules
    → ArrowMarks rules (bytes [] arrows) w → Judges rules (empty [] arrows)
filled arrows w i h f ps = judges [] arrows w h f (([], i 0), ([], i 1), ([], i 2), ([], i 3)) ps

-- no rows force nothing
pub none_line : Judges [] (empty [] [])
none_line = filled [] everything (λ k. tt) refl done (([], [], tt), ([], [], tt))

-- class 0 is apart from itself
pub apart_0 : EmptyClass (map row (X 0 0 ∷ [])) 0
apart_0 = clash (cls 0, cls 0, stay, stay, inl (by_X (has (X 0 0 ∷ []) 0 (X 0 0) refl)))

-- and no other is forced empty
pub apart_line : Judges (X 0 0 ∷ []) (empty (0 ∷ []) [])
apart_line =
    judges (0 ∷ []) [] no_zero refl ((λ i h k. h) ▹ done) (apart_0, ([], tt), ([], tt), ([], tt))
    (([], [], tt), ([], [], tt))

-- each in class 0 has an end twice, and at most once
abbrev over : List Rule
over = F 0 0 2 ∷ K 0 0 1 ∷ []

-- so there is none
over_0 : EmptyClass (map row over) 0
over_0 =
    clash
    (cls 0, mark 0 2, stay, go (by_F (has over 0 (F 0 0 2) refl)) stay, inl (by_K (has over 1 (K 0 0 1) refl) (omega arith)))

-- and no other is forced empty
pub over_line : Judges over (empty (0 ∷ []) [])
over_line =
    judges (0 ∷ []) [] no_zero refl ((λ i h. absurd h) ▹ (λ i h s. h) ▹ done) (over_0, ([], tt), ([], tt), ([], tt))
    (([], [], tt), ([], [], tt))

-- twice, and at most twice
pub twice_line : Judges (F 0 0 2 ∷ K 0 0 2 ∷ []) (empty [] [])
twice_line =
    filled [] (having 2) (λ k. tt) refl (having_some 2 0 0 2 (omega arith) ▹ having_few 2 0 0 2 (omega arith) ▹ done)
    (([], 0 ∷ [], tt), ([], 0 ∷ [], tt))

-- what has the head of arrow 0 is in two classes that are apart
abbrev torn : List Rule
torn = D 1 1 ∷ D 1 2 ∷ X 1 2 ∷ F 0 0 1 ∷ []

-- so nothing has it
torn_head : EmptyDescription (map row torn) (mark 1 1)
torn_head =
    clash (
      cls 1,
      cls 2,
      go (by_D (has torn 0 (D 1 1) refl)) stay,
      go (by_D (has torn 1 (D 1 2) refl)) stay,
      inl (by_X (has torn 2 (X 1 2) refl)),
    )

-- nor does the arrow have a pair
torn_arrow : EmptyArrow (map row torn) 0
torn_arrow = of_end {e = 1} torn_head

-- nor is there what needs its tail
torn_class : EmptyClass (map row torn) 0
torn_class = leads (go (by_F (has torn 3 (F 0 0 1) refl)) stay) (of_arrow {e = 0} torn_arrow)

-- where arrow 0 has no pair and the classes are apart, all of it is fulfilled
torn_fulfilled : Each (Fulfils by_length) torn
torn_fulfilled =
    (λ i s. absurd (no_head i s)) ▹ (λ i s. absurd (no_head i s))
    ▹ (λ i s t. let e : ◌≡◌ {A = ℕ} 1 2 = one_class 1 2 i s t in omega arith) ▹ (λ i s. absurd (no_class i s)) ▹ done

-- and no other is forced empty
pub torn_line : Judges torn (empty (0 ∷ []) (0 ∷ []))
torn_line =
    judges (0 ∷ []) (0 ∷ []) by_length refl torn_fulfilled (torn_class, ([], tt), (0 ∷ [], tt), (0 ∷ 0 ∷ [], tt))
    (torn_arrow, ([], [], tt))

-- a pair of arrow 0 is one of arrow 1, and no pair is of both
abbrev parted : List Rule
parted = P 0 1 ∷ Q 0 1 ∷ []

-- so there is none
parted_0 : EmptyArrow (map row parted) 0
parted_0 = clash_arrow (0, 1, stay, go (has parted 0 (P 0 1) refl) stay, inl (has parted 1 (Q 0 1) refl))

-- but arrow 1 has pairs
pub parted_line : Judges parted (empty [] (0 ∷ []))
parted_line =
    filled (0 ∷ []) only_one (λ k. tt) refl ((λ i j h. absurd h) ▹ (λ i j h k. h) ▹ done) (parted_0, ([], [], tt))

-- row 1 puts a cap on arrow 1, to which arrow 0 leads
abbrev shared : List Rule
shared = P 0 1 ∷ K 0 2 1 ∷ []

-- and row 0 puts none
first_cap : FirstCap shared 1
first_cap =
    let ok = fine (map row shared) refl refl in
    record {
      few = ok.0;
      sound = ok.1;
      caps = row (K 0 2 1);
      at = refl;
      shared = (0, 2, 1, refl, λ alone. let q : ◌≡◌ {A = ℕ} 0 1 = alone 0 (go (has shared 0 (P 0 1) refl) stay) in omega arith);
      before = before;
    }
  where
    before : EachBelow (map row shared) 1 (λ q. CapsShared (map row shared) q → ⊥)
    before zero r l at (a, e, n, is, s) =
        let first : row (P 0 1) ≡ r = cc in
        let letter : ◌≡◌ {A = ℕ} 80 75 = ap (λ (q : Row). q.letter) (first ∙ is) in
        omega arith
    before (suc j) r l at s = absurd (omega arith)

-- so it is refused
pub shared_line : Judges shared (refused 17 1 0)
shared_line = capped 1 first_cap

-- a cap on arrow 0, to which no other leads
pub alone_line : Judges (P 0 1 ∷ K 0 0 1 ∷ []) (empty [] [])
alone_line =
    filled [] (having 1) (λ k. tt) refl ((λ i j h. h) ▹ having_few 1 0 0 1 (omega arith) ▹ done)
    (([], 0 ∷ [], tt), ([], 0 ∷ [], tt))

-- only an endless world fills class 0, and there is one
pub branching_line : Judges branching (empty [] [])
branching_line =
    filled [] endless (λ k. tt) refl (endless_some 0 2 ▹ (λ i h. tt) ▹ endless_one 0 ▹ done)
    (([], 0 ∷ [], tt), ([], 0 ∷ [], tt))
