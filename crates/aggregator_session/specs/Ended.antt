-- The session of a message that is signed with a leaf, as it stands at its end.
use Rattle.std.specs.Prelude.{◌≡◌, ℕ, List, Option, Some, None, Result}
use Rattle.aggregator_session.specs.Desks.{DeskState}
use Rattle.aggregator_session.specs.Runs.{CellsRead}
use Rattle.aggregator_session.specs.declared.fault.SignFault.{SignFault}
use Rattle.aggregator_session.specs.Signing.{RunsOn, Signature, SignsLeased, ToSign, leased, not_leased, not_started}
use Rattle.aggregator_session.specs.Signing.{ran, too_long}
use Rattle.aggregator_session.specs.Tables.{TableSeen}
use Rattle.session_core.specs.State.{State}
use Rattle.stream_io.specs.Net.{PortState}

-- how the session of this run stands at its end, if it was started
abbrev pub last_on : {desk : DeskState} → {reads : CellsRead} → {leaf : ℕ} → {message : List ℕ} → {port now : PortState}
    → {result : Result (List ℕ) SignFault} → RunsOn desk reads leaf message port now result → Option State
last_on (not_started same) = None
last_on (ran after last result run end) = Some last

-- the same of a message that was to be signed with a leaf of a table
abbrev pub last_of : {sign : ToSign} → {before after : TableSeen} → {port now : PortState}
    → {result : Result Signature SignFault} → SignsLeased sign before port after now result → Option State
last_of (too_long long same) = None
last_of (not_leased after fault short same asks) = None
last_of (leased leaf mid after now result short asks runs spends) = last_on runs

-- a session of this leaf, and how it stands at its end
pub record RunsTo (desk : DeskState) (reads : CellsRead) (leaf : ℕ) (message : List ℕ) (port now : PortState)
    (result : Result (List ℕ) SignFault) (session : Option State) : Type 0 where
  pub runs : RunsOn desk reads leaf message port now result
  pub session_is : session ≡ last_on runs

-- a message that was to be signed with a leaf of these members, and how its session stands at its end
pub record LeasedTo (sign : ToSign) (before : TableSeen) (port : PortState) (after : TableSeen) (now : PortState)
    (result : Result Signature SignFault) (session : Option State) : Type 0 where
  pub signs : SignsLeased sign before port after now result
  pub session_is : session ≡ last_of signs
