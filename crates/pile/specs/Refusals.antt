-- The number of each refusal of a layer; none of them names a place.
use Rattle.schema.specs.declared.faults.Notice.{Notice}
use Rattle.schema.specs.Refusals.{notice}
use Rattle.pile.specs.declared.faults.StrikeFault.{StrikeFault}
use Rattle.pile.specs.declared.faults.StrikeFault.TheVariants.{NoSuchRow, StruckAlready, TooManyStruck}
use Rattle.pile.specs.declared.faults.RestoreFault.{RestoreFault}
use Rattle.pile.specs.declared.faults.RestoreFault.TheVariants.{NotStruck}

abbrev pub strike_notice : StrikeFault → Notice
strike_notice NoSuchRow = notice 4 0 0
strike_notice StruckAlready = notice 5 0 0
strike_notice TooManyStruck = notice 6 0 0

abbrev pub restore_notice : RestoreFault → Notice
restore_notice NotStruck = notice 7 0 0
