-- One message signed with a leaf that is leased for it.
use Rattle.std.specs.Prelude.{◌≡◌, ◌≤◌, ◌<◌, ℕ, List, length, Option, Some, None, Result, Ok, Err, IfErr}
use Rattle.aggregator_session.specs.Desks.{DeskState, desk_state}
use Rattle.aggregator_session.specs.Runs.{CellsRead, HasRun, reads_of}
use Rattle.aggregator_session.specs.declared.desk.Desk.{Desk}
use Rattle.aggregator_session.specs.declared.fault.SignFault.{SignFault}
use Rattle.aggregator_session.specs.declared.fault.SignFault.TheVariants.{Lost, NoMemory, Session, Stray, Table}
use Rattle.aggregator_session.specs.declared.fault.SignFault.TheVariants.{TooLong}
use Rattle.aggregator_session.specs.declared.fault.SignFault.TheVariants.{Worn}
use Rattle.disk_trait.specs.declared.faults.Faults as faults
use Rattle.leaf_table.specs.declared.faults.TableFault.{TableFault}
use Rattle.aggregator_session.specs.Tables.{AsksLeaf, AsksToBurn, TableSeen}
use Rattle.aggregator_session.specs.declared.sign.Signed.{Signed}
use Rattle.lms_bytes.specs.MessageId.{message_id}
use Rattle.lms_bytes.specs.declared.message.MessageId.{MessageId}
use Rattle.reference_value.specs.declared.cells.Cells as cells
use Rattle.session_core.specs.State.{State, started}
use Rattle.session_core.specs.declared.faults.SessionFault as session
use Rattle.session_core.specs.declared.faults.SessionFault.TheVariants.{MemberRefused, Missing, Reference, SpentLeaf}
use Rattle.session_core.specs.declared.faults.SessionFault.TheVariants.{WrongCheck, WrongRoot}
use Rattle.stream_io.specs.Net.{PortState}

-- what is to be signed, and with what: the desk, the reference as it is read, the members and the message
pub record ToSign : Type 0 where
  pub desk : DeskState
  pub reads : CellsRead
  pub members : List ℕ
  pub message : List ℕ

-- the same of a desk and of cells, as they stand before and after
abbrev pub to_sign : {C : Type 0} → cells.Ghosts C → faults.Ghosts C → Desk → C → C → List ℕ → List ℕ → ToSign
to_sign c f desk old new members message =
    record { desk = desk_state desk; reads = reads_of c f old new; members = members; message = message }

-- a signature, and the leaf that signed
pub record Signature : Type 0 where
  pub leaf : ℕ
  pub bytes : List ℕ

-- the signature of an answer
abbrev pub signature_in : Result Signed SignFault → Result Signature SignFault
signature_in (Ok signed) = Ok (record { leaf = signed.leaf; bytes = signed.bytes.items })
signature_in (Err fault) = Err fault

-- what a session of this leaf gave
abbrev pub signed_with : ℕ → Result (List ℕ) SignFault → Result Signature SignFault
signed_with leaf (Ok bytes) = Ok (record { leaf = leaf; bytes = bytes })
signed_with leaf (Err fault) = Err fault

-- the member that has spent the leaf for something else, if this is a session's fault
abbrev pub spender : session.SessionFault → Option ℕ
spender (Missing member round) = None
spender (SpentLeaf leaf member kept) = Some member
spender (WrongCheck leaf member) = None
spender (WrongRoot leaf got want) = None
spender (MemberRefused member code) = None
spender Reference = None
spender session.TheVariants.NoMemory = None

-- the same of a call's fault
abbrev pub spender_in : SignFault → Option ℕ
spender_in (TooLong got) = None
spender_in Worn = None
spender_in (Table fault) = None
spender_in (Lost member round why) = None
spender_in (Stray member round) = None
spender_in (Session fault) = spender fault
spender_in NoMemory = None

-- the same of an outcome
abbrev pub spent_by : Result (List ℕ) SignFault → Option ℕ
spent_by (Ok bytes) = None
spent_by (Err fault) = spender_in fault

-- what follows a session: a leaf that a member has spent is burnt, and otherwise the table is as it was
abbrev pub Spends : TableSeen → ℕ → MessageId → Option ℕ → TableSeen → Type 0
Spends before leaf message None after = after ≡ before
Spends before leaf message (Some member) after = AsksToBurn before leaf message member after

-- a fault that a session of this leaf may end with: it names the leaf, and no reply is missing, since all members were
-- heard or one of them refused
abbrev pub IsJudged : ℕ → session.SessionFault → Type 0
IsJudged leaf (Missing member round) = ⊥
IsJudged leaf (SpentLeaf spent member kept) = spent ≡ leaf
IsJudged leaf (WrongCheck wrong member) = wrong ≡ leaf
IsJudged leaf (WrongRoot wrong got want) = wrong ≡ leaf
IsJudged leaf (MemberRefused member code) = Unit {0}
IsJudged leaf Reference = Unit {0}
IsJudged leaf session.TheVariants.NoMemory = ⊥

-- the same of a call's fault: memory ran out, or a member is lost or strays, or a fault of the session
abbrev pub IsEnd : ℕ → SignFault → Type 0
IsEnd leaf (TooLong got) = ⊥
IsEnd leaf Worn = ⊥
IsEnd leaf (Table fault) = ⊥
IsEnd leaf (Lost member round why) = Unit {0}
IsEnd leaf (Stray member round) = Unit {0}
IsEnd leaf (Session fault) = IsJudged leaf fault
IsEnd leaf NoMemory = Unit {0}

-- A session of this leaf: it had no memory to start, so that nobody was dialled and no cell read, or it was run, and
-- gave a signature or ended with such a fault.
pub data RunsOn (desk : DeskState) (reads : CellsRead) (leaf : ℕ) (message : List ℕ) (port : PortState)
    : PortState → Result (List ℕ) SignFault → Type 0 where
  not_started : reads.now ≡ reads.before → RunsOn desk reads leaf message port port (Err NoMemory)
  ran : (after : PortState) (last : State) (result : Result (List ℕ) SignFault)
      → HasRun desk reads message port after
      (started desk.key desk.plan leaf (message_id message)) last result → IfErr result (IsEnd leaf)
      → RunsOn desk reads leaf message port after result

-- What signing a message with a leaf of these members makes of the table and the port, and its outcome. The message is
-- too long, and nothing happened; or no leaf was leased, and nobody was dialled; or a session was run with the leaf.
pub data SignsLeased (sign : ToSign) (before : TableSeen) (port : PortState)
    : TableSeen → PortState → Result Signature SignFault → Type 0 where
  too_long : 16777216 < length sign.message → sign.reads.now ≡ sign.reads.before
      → SignsLeased sign before port before port (Err (TooLong (length sign.message)))
  not_leased : (after : TableSeen) (fault : TableFault) → length sign.message ≤ 16777216
      → sign.reads.now ≡ sign.reads.before → AsksLeaf before sign.members (message_id sign.message) (Err fault) after
      → SignsLeased sign before port after port (Err (Table fault))
  leased : (leaf : ℕ) (mid after : TableSeen) (now : PortState) (result : Result (List ℕ) SignFault)
      → length sign.message ≤ 16777216 → AsksLeaf before sign.members (message_id sign.message) (Ok leaf) mid
      → RunsOn sign.desk sign.reads leaf sign.message port now result
      → Spends mid leaf (message_id sign.message) (spent_by result) after
      → SignsLeased sign before port after now (signed_with leaf result)
