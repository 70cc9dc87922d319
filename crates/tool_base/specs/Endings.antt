-- The ends of the program's calls as ends.
use Rattle.std.specs.Prelude.{string_bytes}
use Rattle.tool_base.specs.Ending as spec
use Rattle.tool_base.specs.declared.ending.Ending.{Ending}
use Rattle.tool_base.specs.declared.ending.Ending.TheVariants.{Verified, Rehearsed, Dealt, Enrolled, Migrated, Approved}
use Rattle.tool_base.specs.declared.ending.Ending.TheVariants.{Checked, Signed, SignedLevels, Served, Drilled, Shown}
use Rattle.tool_base.specs.declared.ending.Ending.TheVariants.{Usage, StoreFailed, Unreadable, NotDealt, NotSigned}
use Rattle.tool_base.specs.declared.ending.Ending.TheVariants.{DeviceFailed, TooLong, NotLoaded, NoMemory, Exists}
use Rattle.tool_base.specs.declared.ending.Ending.TheVariants.{NetFailed, BookFull}

-- the end, with the bytes of the names in it
abbrev pub ending : Ending → spec.Ending
ending (Verified verdict) = spec.Verified verdict
ending (Checked verdict) = spec.Checked verdict
ending Rehearsed = spec.Rehearsed
ending (Dealt leaves coalitions) = spec.Dealt leaves coalitions
ending (Enrolled number) = spec.Enrolled number
ending (Migrated slots) = spec.Migrated slots
ending (Approved slots) = spec.Approved slots
ending (Signed leaf) = spec.Signed leaf
ending (SignedLevels leaf) = spec.SignedLevels leaf
ending (Served connections frames) = spec.Served connections frames
ending (Drilled summary) = spec.Drilled summary
ending (Shown text) = spec.Shown (string_bytes text)
ending Usage = spec.Usage
ending StoreFailed = spec.StoreFailed
ending (Unreadable name fault) = spec.Unreadable (string_bytes name) fault
ending (NotDealt why) = spec.NotDealt why
ending (NotSigned why) = spec.NotSigned why
ending DeviceFailed = spec.DeviceFailed
ending (TooLong got) = spec.TooLong got
ending (NotLoaded fault) = spec.NotLoaded fault
ending NoMemory = spec.NoMemory
ending (Exists name) = spec.Exists (string_bytes name)
ending NetFailed = spec.NetFailed
ending BookFull = spec.BookFull
