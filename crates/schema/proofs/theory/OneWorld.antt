-- The one world: it fulfils the rows, fills what is not empty, and breaks what is not answered yes.
use Rattle.std.proofs.Common.{ℕ, ◌*◌, List}
use mathlib.Core.List.{List-discrete}
use native.Mathlib.Decide.{ℕ_discrete}
use Rattle.schema.specs.declared.row.Row.{Row}
use Rattle.schema.specs.Rows.{AllSound}
use Rattle.schema.specs.Worlds.{World, Individual}
use Rattle.schema.specs.Webs.{cls}
use Rattle.schema.specs.Truth.{Shows}
use Rattle.schema.proofs.theory.Statements.{AlwaysShown}
use Rattle.schema.proofs.theory.Deciding.{both?, truth, truth_read, truth_write}
use Rattle.schema.proofs.theory.Individuals.{code, decode}
use Rattle.schema.proofs.theory.LivingDecided.{is?}
use Rattle.schema.proofs.theory.Neighbours.{next?}
use Rattle.schema.proofs.theory.Mirroring.{Stands, Inside, Linked, Mirrors}
use Rattle.schema.proofs.theory.Fulfilling.{fulfils_rows}
use Rattle.schema.proofs.theory.Breaking.{fills_class, fills_arrow, breaks_rule}
use Rattle.schema.proofs.theory.Caps.{Uncapped, caps_alone}

-- every individual is let in
abbrev Always : Individual → Type 0
Always i = Unit {0}

-- whether a list stands for an individual
stands? : (i : Individual) → Dec (Stands Always i)
stands? i = both? (List-discrete ℕ_discrete (code (decode i)) i) (λ _. yes tt)

module _ (c p : ℕ) (rows : List Row) (sound : AllSound c p rows) where
  -- whether an individual is in class a
  inside? : (a : ℕ) (i : Individual) → Dec (Inside c p rows Always a i)
  inside? a i = both? (stands? i) (λ _. is? c p rows sound (decode i) (cls a))

  -- whether two are a pair of arrow q
  linked? : (q : ℕ) (i j : Individual) → Dec (Linked c p rows Always q i j)
  linked? q i j = both? (stands? i) (λ _. both? (stands? j) (λ _. next? c p rows sound (decode i) (2 * q) (decode j)))

  -- the world that answers as these decide
  abbrev one_world : World
  one_world = record { within = λ a i. truth (inside? a i); paired = λ q i j. truth (linked? q i j) }

  -- it is as the individuals are
  mirrors : Mirrors c p rows Always one_world
  mirrors =
      record {
        in_read = λ a i t. truth_read (inside? a i) t;
        in_write = λ a i h. truth_write (inside? a i) h;
        pair_read = λ q i j t. truth_read (linked? q i j) t;
        pair_write = λ q i j h. truth_write (linked? q i j) h;
      }

  -- so it shows all that is not told
  world_shows : Uncapped rows → Shows c p rows one_world
  world_shows unc =
      record {
        fulfils = fulfils_rows c p rows sound Always one_world mirrors (λ i. tt) unc;
        class_filled = fills_class c p rows sound Always one_world mirrors (λ i l. tt);
        arrow_filled = fills_arrow c p rows sound Always one_world mirrors (λ i l. tt);
        rule_broken = breaks_rule c p rows sound Always one_world mirrors (λ i l. tt);
      }

-- one world shows all of sound rows with no cap on a shared arrow
pub always_shown : AlwaysShown
always_shown c p rows sound none = (one_world c p rows sound, world_shows c p rows sound ((caps_alone rows).0 none))
