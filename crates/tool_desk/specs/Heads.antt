-- Why the head of a reference was not read, as ends.
use Rattle.std.specs.Prelude.{ℕ, List}
use Rattle.share_files.specs.FaultNumbers.{file_fault_number}
use Rattle.tool_base.specs.Ending as ending
use Rattle.tool_base.specs.Ending.{Ending}
use Rattle.tool_desk.specs.declared.reference.HeadFault.{HeadFault}
use Rattle.tool_desk.specs.declared.reference.HeadFault.TheVariants.{File, Device}

-- internal: the end for each fault of the head, in the file of this name
abbrev pub end_of_head : List ℕ → HeadFault → Ending
end_of_head name (File fault) = ending.Unreadable name (file_fault_number fault)
end_of_head name Device = ending.DeviceFailed
