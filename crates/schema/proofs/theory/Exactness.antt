-- What is told of a name or an asked rule is told exactly when it follows, and one world shows all that does not.
use Rattle.std.proofs.Common.{ℕ, List}
use Rattle.schema.specs.declared.row.Row.{Row}
use Rattle.schema.specs.Worlds.{World}
use Rattle.schema.specs.Verdicts.{Passes}
use Rattle.schema.specs.Truth.{Shows}
use Rattle.schema.proofs.theory.Statements.{Exact, AlwaysExact}
use Rattle.schema.proofs.theory.Deciding.{stable}
use Rattle.schema.proofs.theory.Emptiness.{arrow_empty?}
use Rattle.schema.proofs.theory.Asking.{class_empty?, yes?}
use Rattle.schema.proofs.theory.Holding.{always_holds}
use Rattle.schema.proofs.theory.OneWorld.{always_shown}

-- what does not follow fails in the one world, and what is told can be decided
pub always_exact : AlwaysExact
always_exact c p rows sound none =
    record {
      class_exact =
          λ k l. (
            λ z w ful. (always_holds rows w ful).class_empty k z,
            λ f. stable (class_empty? c p rows sound k l) (λ n. f world shows.fulfils (shows.class_filled k l n)),
          );
      arrow_exact =
          λ k l. (
            λ z w ful. (always_holds rows w ful).arrow_empty k z,
            λ f. stable (arrow_empty? c p rows sound k l) (λ n. f world shows.fulfils (shows.arrow_filled k l n)),
          );
      rule_exact =
          λ ρ s ct. (
            λ y w ful. (always_holds rows w ful).rule_fulfilled ρ y,
            λ f. stable (yes? c p rows sound ρ s) (λ n. shows.rule_broken ρ s ct n (f world shows.fulfils)),
          );
    }
  where
    world : World
    world = (always_shown c p rows sound none).0

    shows : Shows c p rows world
    shows = (always_shown c p rows sound none).1

-- the same of counts and rows that pass the checks
pub all_told : (c p : ℕ) (rows : List Row) → Passes c p rows → Exact c p rows
all_told c p rows ok = always_exact c p rows ok.sound ok.uncapped

-- one world shows all that is not told
pub all_shown : (c p : ℕ) (rows : List Row) → Passes c p rows → (w : World) × Shows c p rows w
all_shown c p rows ok = always_shown c p rows ok.sound ok.uncapped
