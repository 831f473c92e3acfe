-- What shows the answer of each line, in the order of the table.
use Rattle.schema.specs.Rows.{◌∈◌}
use Rattle.drawings.specs.Drawings.{Drawing, drawings}
use Rattle.drawings.proofs.Evidence.{Each, done, ◌▹◌, of_one, Evidence}
use Rattle.drawings.proofs.Listing.{none_line, apart_line, over_line, twice_line, torn_line, parted_line, shared_line, alone_line, branching_line}
use Rattle.drawings.proofs.Asking.{once_line, thrice_line, counted_line, tails_line, arrows_line, below_line, above_line, beside_line}

lines : Each Evidence drawings
lines =
    none_line ▹ apart_line ▹ over_line ▹ twice_line ▹ torn_line ▹ parted_line ▹ shared_line ▹ alone_line ▹ once_line ▹ thrice_line
    ▹ counted_line ▹ tails_line ▹ arrows_line ▹ branching_line ▹ below_line ▹ above_line ▹ beside_line ▹ done

-- so there is evidence of each drawing
pub evidence : (d : Drawing) → d ∈ drawings → Evidence d
evidence = of_one Evidence drawings lines
