-- What `any` over a list answers.
use Rattle.std.proofs.Common.{ℕ, ◌<◌, Bool, true, false, List, length, get_or, MatchBool, arith}
use Rattle.std.proofs.lemmas.List.Elements.{Contains-get_or}
use Rattle.std.specs.List.{HoldsAt, AllWithin}
use Rattle.schema.specs.Rows.{◌∈◌}
use Rattle.schema.specs.Verdicts.{Tells}
use Rattle.schema.proofs.Members.{every_∈}

-- it tells whether a fact holds of one of the list
pub tells_any : {A : Type 0} (P : A → Type 0) (d : A) (xs : List A) (r : Bool)
    → MatchBool r ((k : ℕ) × (k < length xs) × HoldsAt P xs k) (AllWithin (λ x. P x → ⊥) xs 0 (length xs))
    → Tells r ((x : A) × (x ∈ xs) × P x)
tells_any P d xs true h = (get_or xs h.0 d, Contains-get_or xs h.0 d h.1, h.2 d)
tells_any P d xs false h = λ t. every_∈ (λ x. P x → ⊥) xs d (λ k l. h k d (omega arith) l) t.0 t.1 t.2
