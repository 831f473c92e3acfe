-- What shows the answer of each drawing that has a question.
use Rattle.std.proofs.Common.{◌≡◌, ℕ, true, List, [], ◌∷◌, map, refl, inl, inr, arith}
use Rattle.search.specs.Leads.{stay, go}
use Rattle.schema.specs.Rules.{Rule, S, X, D, F, P, Q, row}
use Rattle.schema.specs.Webs.{cls, by_F, by_D, down, by_P, by_X}
use Rattle.schema.specs.Questions.{Yes}
use Rattle.schema.specs.Asked.{Uncountable}
use Rattle.drawings.specs.declared.told.Told.{Told}
use Rattle.drawings.specs.Drawings.{yes, no, refused}
use Rattle.drawings.proofs.Evidence.{has, done, ◌▹◌, Because, derived, broken, uncountable, Answers}
use Rattle.drawings.proofs.Passing.{sound, sound_is, alone, passing, passes}
use Rattle.drawings.proofs.Worlds.{no_zero, only_one, having, having_some, having_few}
use Rattle.drawings.proofs.Listing.{apart_0}

-- an answer about rules that pass the checks, which are computed
answers : {rules : List Rule} {ρ : Rule} {t : Told} → passing (map row rules) ≡ true → sound (row ρ) ≡ true → Because rules ρ t → Answers rules ρ t
answers {rules} {ρ} h s b = record { passes = passes (map row rules) h; sound = sound_is (row ρ) s; because = b }

-- each in class 0 has the tail of arrow 0 twice, and arrow 0 leads to arrow 1
abbrev raised : List Rule
raised = F 0 0 2 ∷ P 0 1 ∷ []

-- so it has the tail of arrow 1 once
raised_way : Yes (map row raised) (F 0 2 1)
raised_way =
    inr
    (go (by_F {e = 0} {n = 2} (has raised 0 (F 0 0 2) refl))
    (go (down {m = 2} {k = 1} (omega arith) (omega arith)) (go (by_P {e = 0} {f = 2} (has raised 1 (P 0 1) refl) refl) stay)))

-- and is told so
pub once_line : Answers raised (F 0 2 1) yes
once_line = answers refl refl (derived (λ l. absurd (omega arith)) raised_way)

-- no arrow leads to arrow 0, whose tail some world has only twice
pub thrice_line : Answers raised (F 0 0 3) no
thrice_line =
    answers refl refl
    (broken (having 2) (λ l. alone (map row raised) 0 refl) (having_some 2 0 0 2 (omega arith) ▹ (λ i j h. h) ▹ done)
    (λ f. having_few 2 0 0 2 (omega arith) [] tt (f [] tt)))

-- arrow 0 leads to arrow 1, so that nothing is counted there
raised_count : Uncountable (map row raised) (row (F 0 2 2))
raised_count =
    (0, 2, 2, refl, omega arith, λ alone. let q : ◌≡◌ {A = ℕ} 0 1 = alone 0 (go (has raised 1 (P 0 1) refl) stay) in omega arith)

-- and the question is refused
pub counted_line : Answers raised (F 0 2 2) (refused 20 0 0)
counted_line = answers refl refl (uncountable raised_count)

-- the tails of two arrows are in classes that are apart
abbrev tails : List Rule
tails = D 0 0 ∷ D 2 1 ∷ X 0 1 ∷ []

-- so no pair belongs to both
tails_apart : Yes (map row tails) (Q 0 1)
tails_apart =
    inr
    (inr
    (inr
    (inl
    (cls 0, cls 1, go (by_D (has tails 0 (D 0 0) refl)) stay, go (by_D (has tails 1 (D 2 1) refl)) stay, inl (by_X (has tails 2 (X 0 1) refl))))))

-- and that is told
pub tails_line : Answers tails (Q 0 1) yes
tails_line = answers refl refl (derived tt tails_apart)

-- arrows that are apart do not part their tails
pub arrows_line : Answers (D 0 0 ∷ D 2 1 ∷ Q 0 1 ∷ []) (X 0 1) no
arrows_line =
    answers refl refl (broken only_one tt ((λ i h. tt) ▹ (λ i h. tt) ▹ (λ i j h k. h) ▹ done) (λ f. f [] tt tt))

-- an empty class is within any other
pub below_line : Answers (X 0 0 ∷ []) (S 0 1) yes
below_line = answers refl refl (derived tt (inl apart_0))

-- but no other is within it
pub above_line : Answers (X 0 0 ∷ []) (S 1 0) no
above_line = answers refl refl (broken no_zero tt ((λ i h k. h) ▹ done) (λ f. f [] tt))

-- and it is apart from any other
pub beside_line : Answers (X 0 0 ∷ []) (X 1 0) yes
beside_line = answers refl refl (derived tt (inr (inl apart_0)))
