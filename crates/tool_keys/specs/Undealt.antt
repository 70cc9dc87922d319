-- Faults of a dealing as ends.
use Rattle.dealer.specs.declared.faults.DealFault.{DealFault}
use Rattle.dealer.specs.declared.faults.DealFault.TheVariants.{TooHigh, TooWide, BadEntropy, SameKeys, NoMemory}
use Rattle.dealer.specs.declared.onto.OntoFault.{OntoFault}
use Rattle.dealer.specs.declared.onto.OntoFault.TheVariants.{Deal, Device}
use Rattle.tool_base.specs.Ending as ending
use Rattle.tool_base.specs.Ending.{Ending}
use Rattle.tool_base.specs.declared.undealt.Undealt.TheVariants.{Height, Width, Entropy, Keys}

abbrev pub end_of_fault : DealFault → Ending
end_of_fault (TooHigh h) = ending.NotDealt (Height h)
end_of_fault TooWide = ending.NotDealt Width
end_of_fault (BadEntropy got want) = ending.NotDealt (Entropy got want)
end_of_fault (SameKeys t u) = ending.NotDealt (Keys t u)
end_of_fault NoMemory = ending.NoMemory

abbrev pub end_of_onto : OntoFault → Ending
end_of_onto (Deal fault) = end_of_fault fault
end_of_onto Device = ending.DeviceFailed
