-- And any thread may share it.
use denote.Param.Send.{IsSync, part_keyless}
use Rattle.trustee_core.specs.contracts.note.NoteLog.{the_row}
use Rattle.trustee_core.proofs.note.NoteLog.TheSendSync.Send.{send}

pub sync : IsSync the_row
sync = record { shared = λ d b o κ q. part_keyless the_row send q d b o }
