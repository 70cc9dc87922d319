-- The end of each fault of signing.
use Rattle.aggregator_session.specs.declared.fault.SignFault.{SignFault}
use Rattle.aggregator_session.specs.declared.fault.SignFault.TheVariants as sign
use Rattle.leaf_table.specs.declared.faults.TableFault.{TableFault}
use Rattle.leaf_table.specs.declared.faults.TableFault.TheVariants as table
use Rattle.session_core.specs.declared.faults.SessionFault.{SessionFault}
use Rattle.session_core.specs.declared.faults.SessionFault.TheVariants as session
use Rattle.tool_base.specs.Ending as ending
use Rattle.tool_base.specs.Ending.{Ending}
use Rattle.tool_base.specs.declared.unsigned.Unsigned.TheVariants as unsigned

-- the end if no leaf was leased
abbrev pub end_of_table : TableFault → Ending
end_of_table table.NotACoalition = ending.NotSigned unsigned.NotACoalition
end_of_table table.Device = ending.DeviceFailed
end_of_table (table.Damaged leaf a b) = ending.NotLoaded 6
end_of_table (table.NoLeaf c) = ending.NotSigned (unsigned.NoLeaf c)

-- the end of a session that gave no signature
abbrev pub end_of_session : SessionFault → Ending
end_of_session (session.Missing member round) = ending.NotSigned (unsigned.Missing member round)
end_of_session (session.SpentLeaf leaf member kept) = ending.NotSigned (unsigned.SpentLeaf leaf member)
end_of_session (session.WrongCheck leaf member) = ending.NotSigned (unsigned.WrongCheck leaf member)
end_of_session (session.WrongRoot leaf got want) = ending.NotSigned (unsigned.WrongRoot leaf got want)
end_of_session (session.MemberRefused member code) = ending.NotSigned (unsigned.Refused member code)
end_of_session session.Reference = ending.DeviceFailed
end_of_session session.NoMemory = ending.NoMemory

-- The end if there is no signature. A command's table has no lock whose turns could be used up: that never happens, and
-- is told as want of memory.
abbrev pub end_of_fault : SignFault → Ending
end_of_fault (sign.TooLong got) = ending.TooLong got
end_of_fault sign.Worn = ending.NoMemory
end_of_fault (sign.Table fault) = end_of_table fault
end_of_fault (sign.Lost member round why) = ending.NotSigned (unsigned.Missing member round)
end_of_fault (sign.Stray member round) = ending.NotSigned (unsigned.Stray member round)
end_of_fault (sign.Session fault) = end_of_session fault
end_of_fault sign.NoMemory = ending.NoMemory
