-- How a connection ended.
use Rattle.std.specs.Prelude.{◌≡◌, ⊤}
use Rattle.round_frames.specs.declared.fault.FrameFault.{FrameFault}
use Rattle.round_frames.specs.declared.fault.FrameFault.TheVariants.{End, Cut, Magic, Kind, TooLong, Shape}
use Rattle.round_frames.specs.declared.fault.FrameFault.TheVariants.{ReadFault, NoMemory}
use Rattle.node_workers.specs.declared.served.ServedEnd.{ServedEnd}
use Rattle.node_workers.specs.declared.served.ServedEnd.TheVariants.{Closed, Frame, WriteFailed, Worn, Full}

-- the end of a connection whose next frame has this fault
abbrev pub end_by : FrameFault → ServedEnd
end_by End = Closed
end_by Cut = Frame Cut
end_by Magic = Frame Magic
end_by (Kind got) = Frame (Kind got)
end_by (TooLong got) = Frame (TooLong got)
end_by Shape = Frame Shape
end_by ReadFault = Frame ReadFault
end_by NoMemory = Frame NoMemory

-- the link failed, in a read or in a write
abbrev pub IsLinkFault : ServedEnd → Type 0
IsLinkFault Closed = ⊥
IsLinkFault (Frame fault) = fault ≡ ReadFault
IsLinkFault WriteFailed = ⊤
IsLinkFault Worn = ⊥
IsLinkFault Full = ⊥
