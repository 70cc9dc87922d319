-- One message signed over a table under a lock.
use Rattle.std.specs.Prelude.{◌≡◌, ◌≤◌, ◌<◌, ℕ, List, length, Option, None, Some, Result, Ok, Err}
use Rattle.aggregator_session.specs.declared.fault.SignFault.{SignFault}
use Rattle.aggregator_session.specs.declared.fault.SignFault.TheVariants.{Table, TooLong, Worn}
use Rattle.aggregator_node.specs.Turns.{NotTurned, Turned}
use Rattle.leaf_table.specs.declared.faults.TableFault.{TableFault}
use Rattle.leaf_table.specs.declared.lease.Lease.{Lease}
use Rattle.leaf_table.specs.declared.table.TableName.{TableName}
use Rattle.aggregator_session.specs.Signing.{RunsOn, Signature, ToSign, signed_with, spent_by}
use Rattle.aggregator_session.specs.Tables.{AsksLeaf, AsksToBurn, TableSeen}
use Rattle.lms_bytes.specs.MessageId.{message_id}
use Rattle.lms_bytes.specs.declared.message.MessageId.{MessageId}
use Rattle.stream_io.specs.Net.{PortState}
use Rattle.turn_lock.specs.Pass.{Seen}

-- the answer of a lease
abbrev pub lease_answer : Result ℕ TableFault → Result ℕ SignFault
lease_answer (Ok leaf) = Ok leaf
lease_answer (Err fault) = Err (Table fault)

-- one turn for a lease: the pass got none, or a leaf of these members was asked for in it
pub data LeaseTurn (members : List ℕ) (message : MessageId) (old new : Seen Lease TableName)
    : Result ℕ SignFault → Type 0 where
  no_turn : NotTurned old new → LeaseTurn members message old new (Err Worn)
  asked : (before after : TableSeen) (answer : Result ℕ TableFault) → Turned old new before after
      → AsksLeaf before members message answer after → LeaseTurn members message old new (lease_answer answer)

-- what follows a session: if a member has spent the leaf, it was to be burnt in one turn, or the pass got none;
-- otherwise the pass is as it was
pub data Burning (old new : Seen Lease TableName) (leaf : ℕ) (message : MessageId) : Option ℕ → Type 0 where
  not_spent : new ≡ old → Burning old new leaf message None
  no_turn : (member : ℕ) → NotTurned old new → Burning old new leaf message (Some member)
  asked : (member : ℕ) (before after : TableSeen) → Turned old new before after
      → AsksToBurn before leaf message member after → Burning old new leaf message (Some member)

-- What signing a message with a leaf of these members does to a pass and to the port, and its outcome: the message is
-- too long, and nothing happened; or no leaf was leased in the turn for it, and nobody was dialled; or a session was
-- run with the leaf, outside a turn.
pub data SignsInTurns (sign : ToSign) (old : Seen Lease TableName) (port : PortState)
    : Seen Lease TableName → PortState → Result Signature SignFault → Type 0 where
  too_long : 16777216 < length sign.message → sign.reads.now ≡ sign.reads.before
      → SignsInTurns sign old port old port (Err (TooLong (length sign.message)))
  not_leased : (new : Seen Lease TableName) (fault : SignFault) → length sign.message ≤ 16777216
      → sign.reads.now ≡ sign.reads.before → LeaseTurn sign.members (message_id sign.message) old new (Err fault)
      → SignsInTurns sign old port new port (Err fault)
  leased : (leaf : ℕ) (mid new : Seen Lease TableName) (now : PortState) (result : Result (List ℕ) SignFault)
      → length sign.message ≤ 16777216 → LeaseTurn sign.members (message_id sign.message) old mid (Ok leaf)
      → RunsOn sign.desk sign.reads leaf sign.message port now result
      → Burning mid new leaf (message_id sign.message) (spent_by result)
      → SignsInTurns sign old port new now (signed_with leaf result)
