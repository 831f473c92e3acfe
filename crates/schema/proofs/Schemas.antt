-- What a copied sheet carries.
use Rattle.schema.specs.declared.schema.Schema.{Schema}
use Rattle.schema.specs.declared.sound_sheet.SoundSheet.{SoundSheet}
use Rattle.schema.specs.Rows.{AllSound}
use Rattle.schema.specs.Verdicts.{Small, Passes}
use Rattle.schema.proofs.Caps.{sound_more}

-- a sound sheet is within the limits
pub sheet_small : (s : SoundSheet) → Small s.counts.classes s.counts.arrows s.rows.items
sheet_small s = record { few_classes = s.counts.few.0; few_arrows = s.counts.few.1; few_rows = s.room }

-- rows that are sound for the limits too
pub sheet_sound : (s : SoundSheet) → AllSound 64 32 s.rows.items
sheet_sound s = sound_more s.counts.classes s.counts.arrows s.rows.items s.counts.few.0 s.counts.few.1 s.sound

-- a schema passes the checks
pub schema_passes : (s : Schema) → Passes s.sheet.counts.classes s.sheet.counts.arrows s.sheet.rows.items
schema_passes s = record { small = sheet_small s.sheet; sound = s.sheet.sound; uncapped = s.uncapped }
