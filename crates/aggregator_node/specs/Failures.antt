-- Faults of signing, as a client is told them.
use Rattle.std.specs.Prelude.{ℕ}
use Rattle.aggregator_session.specs.declared.fault.SignFault.{SignFault}
use Rattle.aggregator_session.specs.declared.fault.SignFault.TheVariants.{Lost, NoMemory, Session, Stray, Table}
use Rattle.aggregator_session.specs.declared.fault.SignFault.TheVariants.{TooLong}
use Rattle.aggregator_session.specs.declared.fault.SignFault.TheVariants.{Worn}
use Rattle.leaf_table.specs.declared.faults.TableFault.{TableFault}
use Rattle.leaf_table.specs.declared.faults.TableFault.TheVariants.{Damaged, Device, NoLeaf, NotACoalition}
use Rattle.round_frames.specs.declared.outcome.Failure.{Failure}
use Rattle.session_core.specs.declared.faults.SessionFault as session
use Rattle.session_core.specs.declared.faults.SessionFault.TheVariants.{MemberRefused, Missing, Reference, SpentLeaf}
use Rattle.session_core.specs.declared.faults.SessionFault.TheVariants.{WrongCheck, WrongRoot}

-- a failure of this status, with what the status names; the rest is zero
abbrev pub failure : (status member round leaf : ℕ) → Failure
failure status member round leaf = record { status = status; member = member; round = round; leaf = leaf }

-- this project's profile: why no leaf was leased
abbrev pub table_failure : TableFault → Failure
table_failure NotACoalition = failure 18 0 0 0
table_failure Device = failure 10 0 0 0
table_failure (Damaged leaf a b) = failure 13 0 0 0
table_failure (NoLeaf coalition) = failure 9 0 0 0

-- this project's profile: why a session gave no signature. No reply is missing if no member is lost.
abbrev pub session_failure : session.SessionFault → Failure
session_failure (Missing member round) = failure 6 member round 0
session_failure (SpentLeaf leaf member kept) = failure 7 member 0 leaf
session_failure (WrongCheck leaf member) = failure 8 member 0 leaf
session_failure (WrongRoot leaf got want) = failure 8 0 0 leaf
session_failure (MemberRefused member code) = failure 11 member 0 0
session_failure Reference = failure 10 0 0 0
session_failure session.TheVariants.NoMemory = failure 14 0 0 0

-- this project's profile: why there is no signature. No message in a request is too long.
abbrev pub failure_of : SignFault → Failure
failure_of (TooLong got) = failure 12 0 0 0
failure_of Worn = failure 16 0 0 0
failure_of (Table fault) = table_failure fault
failure_of (Lost member round why) = failure 6 member round 0
failure_of (Stray member round) = failure 11 member round 0
failure_of (Session fault) = session_failure fault
failure_of NoMemory = failure 14 0 0 0
