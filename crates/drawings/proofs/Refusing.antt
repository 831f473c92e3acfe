-- Rows that pass the checks have no fault, and rows with a shared cap have one fault alone.
use Rattle.std.proofs.Common.{◌≡◌, ℕ, ◌<◌, ◌⊎◌, List, Some, ap, subst, inl, inr, arith}
use Rattle.std.specs.List.{slice_get}
use Rattle.std.proofs.lemmas.Bool.{cases_order}
use Rattle.schema.specs.declared.row.Row.{Row}
use Rattle.schema.specs.declared.faults.SheetFault.{SheetFault}
use Rattle.schema.specs.declared.faults.CheckFault.{CheckFault}
use Rattle.schema.specs.declared.faults.CheckFault.TheVariants.{Capped}
use Rattle.schema.specs.Rows.{Sound, Unsound, letter_unsound, a_unsound, b_unsound, n_unsound, AllSound, Fits}
use Rattle.schema.specs.Verdicts.{Small, Passes, CapsShared, EachBelow, SheetFaulty, over_limits, unsound_row, CheckFaulty, sheet_faulty, capped}
use Rattle.schema.proofs.Members.{nth_∈}

module _ (c p : ℕ) where
  -- a sound row has no unsound field
  pub sound_all : (r : Row) (field : ℕ) → Sound c p r → Unsound c p r field → ⊥
  sound_all r field s (letter_unsound e) = subst (Fits c p r) e s
  sound_all r field s (a_unsound t e h) = let f : Fits c p r (Some t) = subst (Fits c p r) e s in omega (arith, f.0)
  sound_all r field s (b_unsound t e a h) = let f : Fits c p r (Some t) = subst (Fits c p r) e s in omega (arith, f.1)
  sound_all r field s (n_unsound t e a b (inl h)) = let f : Fits c p r (Some t) = subst (Fits c p r) e s in omega (arith, f.2)
  sound_all r field s (n_unsound t e a b (inr h)) = let f : Fits c p r (Some t) = subst (Fits c p r) e s in omega (arith, f.3)

  module _ (rows : List Row) (small : Small c p rows) (sound : AllSound c p rows) where
    -- a sheet of few sound rows has no fault
    faultless : (f : SheetFault) → SheetFaulty c p rows f → ⊥
    faultless f (over_limits (inl h)) = omega (arith, small.few_classes)
    faultless f (over_limits (inr (inl h))) = omega (arith, small.few_arrows)
    faultless f (over_limits (inr (inr h))) = omega (arith, small.few_rows)
    faultless f (unsound_row k field r few at before bad) = sound_all r field (sound r (nth_∈ r rows k at)) bad

    -- its first shared cap is its one fault
    pub only_cap : (k : ℕ) (r : Row) → slice_get rows k ≡ Some r → CapsShared rows r → EachBelow rows k (λ q. CapsShared rows q → ⊥)
        → (f : CheckFault) → CheckFaulty c p rows f → f ≡ Capped k
    only_cap k r at shared before f (sheet_faulty g h) = absurd (faultless g h)
    only_cap k r at shared before f (capped j q few fit there too none) = on (cases_order j k)
      where
        on : (j ≡ k) ⊎ ((j < k) ⊎ (k < j)) → Capped j ≡ Capped k
        on (inl e) = ap Capped e
        on (inr (inl l)) = absurd (before j q l there too)
        on (inr (inr l)) = absurd (none k r l at shared)

  -- rows that pass the checks have no fault
  pub unrefused : (rows : List Row) → Passes c p rows → (f : CheckFault) → CheckFaulty c p rows f → ⊥
  unrefused rows ok f (sheet_faulty g h) = faultless rows ok.small ok.sound g h
  unrefused rows ok f (capped k r small sound at shared before) = ok.uncapped r (nth_∈ r rows k at) shared
