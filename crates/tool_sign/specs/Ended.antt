-- The session of a message that is signed with a table of a store, as it stands at its end.
use Rattle.std.specs.Prelude.{◌≡◌, ℕ, List, Option, None, Result}
use Rattle.aggregator_session.specs.declared.fault.SignFault.{SignFault}
use Rattle.aggregator_session.specs.Ended.{last_of}
use Rattle.aggregator_session.specs.Signing.{Signature}
use Rattle.aggregator_session.specs.Tables.{TableSeen}
use Rattle.session_core.specs.State.{State}
use Rattle.tool_base.specs.Ending.{Ending}
use Rattle.tool_base.specs.World.{StoreRun}
use Rattle.tool_sign.specs.Ports.{NetEnds, NetRun, SignedOver, Signing}
use Rattle.tool_sign.specs.Ports as ports
use Rattle.tool_sign.specs.Signs.{TableEnds, TableRun}
use Rattle.tool_sign.specs.Signs as tables

-- how the session stands at its end, if one was begun over the port
abbrev pub last_over : {signing : Signing} → {old new : TableSeen} → {net : NetRun}
    → {outcome : Result Signature SignFault} → SignedOver signing old new net outcome → Option State
last_over over = last_of over.signs

-- the same for the ways in which signing with the table of a name ends
abbrev pub last_in : {signing : Signing} → {table : List ℕ} → {store : StoreRun} → {net : NetRun}
    → {answer : Result Signature Ending} → {touched : List (List ℕ)}
    → TableEnds signing table store net answer touched → Option State
last_in (tables.no_table idle failed) = None
last_in (tables.no_memory touched idle stays) = None
last_in (tables.not_loaded end idle fails stays) = None
last_in (tables.no_port entries idle reads rose never stays) = None
last_in (tables.signed outcome signed) = last_over signed.over

-- signing with the table of this name, and how the session stands at its end
pub record TableTo (signing : Signing) (table : List ℕ) (store : StoreRun) (net : NetRun)
    (answer : Result Signature Ending) (session : Option State) : Type 0 where
  pub run : TableRun signing table store net answer
  pub session_is : session ≡ last_in run.ends

-- internal: the same for the ways in which signing over a net ends
abbrev pub last_over_net : {signing : Signing} → {same : Type 0} → {old new : TableSeen} → {net : NetRun}
    → {answer : Result Signature Ending} → NetEnds signing same old new net answer → Option State
last_over_net (ports.no_memory is idle) = None
last_over_net (ports.no_port is idle rose never) = None
last_over_net (ports.signed outcome over) = last_over over

-- internal: signing over a net, and how the session stands at its end
pub record NetTo (signing : Signing) (same : Type 0) (old new : TableSeen) (net : NetRun)
    (answer : Result Signature Ending) (session : Option State) : Type 0 where
  pub ends : NetEnds signing same old new net answer
  pub session_is : session ≡ last_over_net ends
