-- A log of notes owns nothing, so it may go to another thread.
use denote.Param.Send.{IsSend}
use Rattle.trustee_core.specs.contracts.note.NoteLog.{the_row}

pub send : IsSend the_row
send = record { owned = λ d vs. ((λ vss. (tt, ((λ uss. (tt, tt)), tt))), tt); leaving = λ k f vs. tt }
