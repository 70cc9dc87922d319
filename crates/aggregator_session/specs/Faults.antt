-- Why there is no signature.
use Rattle.std.specs.Prelude.{◌≡◌, Result, Ok, Err}
use Rattle.aggregator_session.specs.declared.fault.SignFault.{SignFault}
use Rattle.aggregator_session.specs.declared.fault.SignFault.TheVariants.{Lost, NoMemory, Session, Stray, Table}
use Rattle.aggregator_session.specs.declared.fault.SignFault.TheVariants.{TooLong}
use Rattle.aggregator_session.specs.declared.fault.SignFault.TheVariants.{Worn}
use Rattle.aggregator_session.specs.declared.fault.Why.{Why}
use Rattle.aggregator_session.specs.declared.fault.Why.TheVariants.{Ended, Garbled, ReadFailed}
use Rattle.round_frames.specs.declared.fault.FrameFault as frame
use Rattle.round_frames.specs.declared.fault.FrameFault.TheVariants.{End, Cut, Magic, Kind, Shape, ReadFault}
use Rattle.session_core.specs.declared.faults.SessionFault as session
use Rattle.session_core.specs.declared.faults.SessionFault.TheVariants.{Missing, SpentLeaf, WrongCheck, WrongRoot}
use Rattle.session_core.specs.declared.faults.SessionFault.TheVariants.{MemberRefused, Reference}

-- why a member is lost if its next frame has this fault: its link ended, or what it sent has a fault of frames by
-- number
abbrev pub why_of : frame.FrameFault → Why
why_of End = Ended
why_of Cut = Ended
why_of Magic = Garbled 3
why_of (Kind got) = Garbled 4
why_of (frame.TheVariants.TooLong got) = Garbled 5
why_of Shape = Garbled 6
why_of ReadFault = ReadFailed
why_of frame.TheVariants.NoMemory = ReadFailed

-- a member is lost, and this is why
abbrev pub IsLostBy : Why → SignFault → Type 0
IsLostBy why (TooLong got) = ⊥
IsLostBy why Worn = ⊥
IsLostBy why (Table fault) = ⊥
IsLostBy why (Lost member round is) = is ≡ why
IsLostBy why (Stray member round) = ⊥
IsLostBy why (Session fault) = ⊥
IsLostBy why NoMemory = ⊥

-- the same of an answer
abbrev pub LostBy : {V : Type 0} → Why → Result V SignFault → Type 0
LostBy why (Ok value) = ⊥
LostBy why (Err fault) = IsLostBy why fault

-- a fault of a session as one of the call: running out of memory is merged with nothing
abbrev pub sign_fault : session.SessionFault → SignFault
sign_fault session.TheVariants.NoMemory = NoMemory
sign_fault (Missing member round) = Session (Missing member round)
sign_fault (SpentLeaf leaf member kept) = Session (SpentLeaf leaf member kept)
sign_fault (WrongCheck leaf member) = Session (WrongCheck leaf member)
sign_fault (WrongRoot leaf got want) = Session (WrongRoot leaf got want)
sign_fault (MemberRefused member code) = Session (MemberRefused member code)
sign_fault Reference = Session Reference
