-- Books.
--   book_shows    what a book shows: its capacity is always 384
--   unset         a book that is not yet set up
--   SetUp         what setting up answers and leaves
--   Amended       what amending a row answers and leaves
use Rattle.std.specs.Prelude.{◌≡◌, ℕ, ◌<◌, ◌≤◌, ◌⊎◌, [], length, Ok, Err, vec_items, Result, slice_set}
use Rattle.std.proofs.Common.{arith}
use Rattle.schema.specs.declared.book.Book.{Book}
use Rattle.schema.specs.declared.faults.SetUpFault.{SetUpFault}
use Rattle.schema.specs.declared.faults.SetUpFault.TheVariants.{TooMany}
use Rattle.schema.specs.declared.faults.AmendFault.{AmendFault}
use Rattle.schema.specs.declared.faults.AmendFault.TheVariants.{NoRow}
use Rattle.schema.specs.declared.row.Row.{Row}
use Rattle.schema.specs.Sheets.{Shown, Bounded, with_rows}

abbrev pub book_shows : Book → Shown
book_shows b = record { classes = b.counts.classes; arrows = b.counts.arrows; rows = vec_items b.rows.list; capacity = 384 }

abbrev pub unset : Shown
unset = record { classes = 0; arrows = 0; rows = []; capacity = 384 }

-- a new sheet with no rows, or else nothing changes
abbrev pub SetUp : Shown → ℕ → ℕ → Result Unit SetUpFault → Shown → Type 0
SetUp s c p (Ok u) t = (c ≤ 64) × (p ≤ 32) × (t ≡ record { classes = c; arrows = p; rows = []; capacity = s.capacity })
SetUp s c p (Err TooMany) t = ((64 < c) ⊎ (32 < p)) × (t ≡ s)

-- row k is replaced where there is one, and otherwise nothing changes
abbrev pub Amended : Shown → ℕ → Row → Result Unit AmendFault → Shown → Type 0
Amended s k row (Ok u) t = (k < length s.rows) × (t ≡ with_rows s (slice_set s.rows k row))
Amended s k row (Err NoRow) t = (length s.rows ≤ k) × (t ≡ s)

-- a book keeps the laws of every sheet
pub book_bounded : (b : Book) → Bounded (book_shows b)
book_bounded b =
    record { few_classes = omega (arith, b.counts.few); few_arrows = omega (arith, b.counts.few); few_rows = omega (arith, b.rows.room, b.rows.list.ok.0); few_places = omega arith }
