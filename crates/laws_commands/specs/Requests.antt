-- When all is well for a request of a client: the desk is of a dealing, nothing outside fails, and the members answer.
use Rattle.std.specs.Prelude.{◌≡◌, ◌⊎◌, ◌≤◌, ◌^◌, ◌++◌, ℕ, List, All, Contains, length, None, Some, Result, Ok, Err}
use Rattle.std.specs.Prelude.{IsSomeAnd, IsTrue}
use Rattle.aggregator_session.specs.Desks.{DeskState}
use Rattle.aggregator_session.specs.declared.fault.SignFault.{SignFault}
use Rattle.aggregator_session.specs.declared.fault.SignFault.TheVariants as sign
use Rattle.aggregator_node.specs.Clients.{IsSigned, ReferenceState, Request, Stand}
use Rattle.aggregator_node.specs.Logs.{DiskFailed}
use Rattle.aggregator_node.specs.Signing.{SignsInTurns}
use Rattle.aggregator_node.specs.Signing as signing
use Rattle.aggregator_node.specs.Ports.{Place}
use Rattle.dealer.specs.Files.{public_file, reference_file, tree_file}
use Rattle.leaf_table.specs.Leasing.{IsCoalition, LeaseOf}
use Rattle.leaf_table.specs.declared.lease.Lease.{Lease}
use Rattle.leaf_table.specs.declared.table.TableName.{TableName}
use Rattle.aggregator_session.specs.Signing.{Signature, ToSign}
use Rattle.lms_bytes.specs.MessageId.{message_id, message_id_bytes}
use Rattle.lms_verify.specs.UndividedKey.{UndividedKey, public_key_of, rfc_signature}
use Rattle.reference_value.specs.Dealing.{Dealing, leaf_randomizer}
use Rattle.session_core.specs.State.{started}
use Rattle.share_files.specs.declared.reference.RefHeader.{RefHeader}
use Rattle.laws_signing.specs.AllIsWell.{IsDealing, IsQuiet}
use Rattle.laws_signing.specs.Answering.{AllGave}
use Rattle.stream_io.specs.Net.{PortState}
use Rattle.stream_io.specs.Talk.{Talk}
use Rattle.tool_base.specs.World.{StoreRun}
use Rattle.tool_aggregate.specs.Desks.{IsDesk, ReadsReference}
use Rattle.tool_desk.specs.Files.{key_name, reference_name, tree_name}
use Rattle.tool_sign.specs.Members.{members_placed}
use Rattle.tool_sign.specs.Tasks.{message_limit}
use Rattle.tool_words.specs.Words.{AggregateWords}
use Rattle.turn_lock.specs.Pass.{Seen}

-- the files of PREFIX are those of the dealing
pub record AreDealtFiles (words : AggregateWords) (store : StoreRun) (d : Dealing) : Type 0 where
  pub key : store.before.file (key_name words.prefix) ≡ Some (public_file d)
  pub tree : store.before.file (tree_name words.prefix) ≡ Some (tree_file d)
  pub reference_is : store.before.file (reference_name words.prefix) ≡ Some (reference_file d)

-- the store tells its content and has the files of a dealing, and the desk of the run is made of them
pub record IsDealtRun (words : AggregateWords) (store : StoreRun) (d : Dealing) (key : UndividedKey)
    (header : RefHeader) (desk : DeskState) : Type 0 where
  pub dealing : IsDealing d key
  pub told : IsTrue store.before.told
  pub files : AreDealtFiles words store d
  pub desk_is : IsDesk words store header desk

-- the same, and the worker of this place reads the reference of these files
pub record IsDealtDesk (words : AggregateWords) (store : StoreRun) (d : Dealing) (key : UndividedKey)
    (header : RefHeader) (desk : DeskState) (place : Place) : Type 0 where
  pub made : IsDealtRun words store d key header desk
  pub reads : ReadsReference words store header place

-- The message is not too long, the members are a coalition and have places among the words, and by the log that the
-- request left, their coalition is not without a leaf for the message.
pub record HasLeafLeft (words : AggregateWords) (d : Dealing) (request : Request) (log : List Lease) : Type 0 where
  pub limit : length request.message ≤ message_limit
  pub number : ℕ
  pub coalition : IsCoalition d.plan request.members number
  pub placed : All (λ member. Contains (members_placed words.places) member) request.members
  pub left : ¬ LeaseOf d.plan log number (message_id_bytes (message_id request.message)) None

-- the table that this pass began with is of the dealing's plan, and tells its content
abbrev pub IsDealtTable : Dealing → Seen Lease TableName → Type 0
IsDealtTable d pass = IsSomeAnd pass.name (λ (name : TableName). (name.plan ≡ d.plan) × IsTrue name.told)

-- The port tells its content, and nothing outside failed: not the table's disk; the reference is steady, or its count
-- did not rise; and no dial failed, so that the port's count did not rise.
pub record NothingFailed (reference : ReferenceState) (old new : Stand) : Type 0 where
  pub port : IsTrue old.port.told
  pub disk : ¬ DiskFailed old.pass new.pass
  pub reference_is : IsTrue reference.steady ⊎ IsQuiet old.faults new.faults
  pub links : IsQuiet old.port.count new.port.count

-- a session was run with this leaf
abbrev pub RanWith : ℕ → {to : ToSign} {old : Seen Lease TableName} {port : PortState} {new : Seen Lease TableName}
    {now : PortState} {outcome : Result Signature SignFault}
    → SignsInTurns to old port new now outcome → Type 0
RanWith leaf (signing.too_long long unread) = ⊥
RanWith leaf (signing.not_leased new fault short unread turn) = ⊥
RanWith leaf (signing.leased own mid new now result short turn runs burning) = leaf ≡ own

-- the links that were dialled for the request gave the masks of its members, for the leaf of its session
abbrev pub HaveGiven : Dealing → UndividedKey → {desk : DeskState} {reference : ReferenceState} {old new : Stand}
    {request : Request} → IsSigned desk reference old new request → Type 0
HaveGiven d key {old = old} {new = new} {request = request} signed = (leaf : ℕ) (talks : List Talk)
    → RanWith leaf signed.signs → new.port.talks ≡ old.port.talks ++ talks
    → AllGave d (started (public_key_of key) d.plan leaf (message_id request.message)) request.message request.members
    talks

-- all is well for a request that was signed
pub record IsWell (words : AggregateWords) (d : Dealing) (key : UndividedKey) {desk : DeskState}
    {reference : ReferenceState} {old new : Stand} {request : Request}
    (signed : IsSigned desk reference old new request) : Type 0 where
  pub leaf : HasLeafLeft words d request new.pass.log
  pub failed : NothingFailed reference old new
  pub given : HaveGiven d key signed

-- the undivided key's signature with some leaf, the dealer's randomizer and the message; or memory ran out
pub data IsAnswer (d : Dealing) (key : UndividedKey) (message : List ℕ) : Result Signature SignFault → Type 0 where
  signed : (leaf : ℕ) → IsAnswer d key message
      (Ok (record { leaf = leaf; bytes = rfc_signature key leaf (leaf_randomizer d leaf) message }))
  no_memory : IsAnswer d key message (Err sign.NoMemory)

-- the outcome of a request for which all is well: such an answer, or the pass is worn
pub data IsComplete (d : Dealing) (key : UndividedKey) (message : List ℕ) (pass : Seen Lease TableName)
    (outcome : Result Signature SignFault) : Type 0 where
  answer : IsAnswer d key message outcome → IsComplete d key message pass outcome
  worn : outcome ≡ Err sign.Worn → 2 ^ 62 ≤ pass.greatest → IsComplete d key message pass outcome
