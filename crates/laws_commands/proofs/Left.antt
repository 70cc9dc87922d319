-- What the leases of requests leave in the file of a table.
use Rattle.aggregator_session.specs.Desks.{DeskState}
use Rattle.std.proofs.Common.{◌≡◌, ◌<◌, ◌^◌, ℕ, List, [], ◌∷◌, length, inl, inr, refl, sym, subst, append-nil, arith}
use Rattle.laws_commands.specs.Uses.{LeafIsLeft, Uses}
use Rattle.laws_commands.proofs.Ids.{same-id, used-short}
use Rattle.laws_commands.proofs.Leased.{LeasedIn, same-message, stands-leased, used-leased}
use Rattle.aggregator_node.specs.Clients.{Request}
use Rattle.coalition_map.specs.Coalitions.{PlanNumbers}
use Rattle.leaf_table.specs.Entries.{OneLease, map_of}
use Rattle.leaf_table.specs.Leasing.{WasLeasedFor}
use Rattle.leaf_table.specs.Runs.{KeepsOneLease}
use Rattle.leaf_table.specs.Slots.{use_of_slot}
use Rattle.leaf_table.specs.State.{StandsFor, TableState, lease_of}
use Rattle.leaf_table.specs.declared.lease.Lease.{Lease}
use Rattle.lms_bytes.specs.MessageId.{message_id, message_id_bytes}
use Rattle.share_files.specs.declared.reference.RefHeader.{RefHeader}
use Rattle.slot_file.specs.Layout.{slot_at}
use Rattle.slot_file.specs.declared.header.Header.{Header}
use Rattle.tool_base.specs.Ending.{Ending}
use Rattle.tool_base.specs.World.{StoreRun}
use Rattle.tool_aggregate.specs.Serving.{ServedTable}
use Rattle.tool_sign.specs.Leases.{AllLeave, IsLeasedIn}
use Rattle.tool_sign.specs.Ports.{NetRun}
use Rattle.tool_sign.specs.Tables.{LeavesTable, table_header}
use Rattle.tool_words.specs.Words.{AggregateWords}

module _ (plan : PlanNumbers) (state : TableState) (message : List ℕ) (leaf : ℕ) (many : length state.slots ≡ 2 ^ plan.h) (leased : LeasedIn plan state.entries message leaf) where
  within : leaf < length state.slots
  within = subst (λ (n : ℕ). leaf < n) (sym many) leased.within

  -- in the entries
  pub leased-entries : OneLease state.entries → WasLeasedFor message (map_of state.entries leaf)
  leased-entries legal =
      subst (λ (e : List Lease). WasLeasedFor message (map_of e leaf)) (append-nil state.entries)
      (stands-leased plan state.entries [] message leaf (subst OneLease (sym (append-nil state.entries)) legal) leased)

  -- in every file that stands for them, with or without an entry in doubt
  pub leased-file : KeepsOneLease state → (file : List ℕ) → StandsFor file state → WasLeasedFor message (use_of_slot (slot_at 1 leaf file))
  leased-file keeps file (inl has) = subst (WasLeasedFor message) (sym (has leaf within)) (leased-entries (keeps _ (inl refl)))
  leased-file keeps file (inr made) =
      subst (WasLeasedFor message) (sym (made.2 leaf within))
      (stands-leased plan state.entries (lease_of made.0 ∷ []) message leaf (keeps _ (inr (made.0, made.1, refl))) leased)

-- what holds of every file that stands for the table holds of its file and of all images
all-leave : (store : StoreRun) (name : List ℕ) (header : Header) (plan : PlanNumbers) (state : TableState) (Is : List ℕ → Type 0) → LeavesTable store name header plan state
    → ((file : List ℕ) → StandsFor file state → Is file) → AllLeave store name Is
all-leave store name header plan state Is leaves every = record {
  file = λ told file is.
      let own = leaves.is_read told in
      let same : leaves.file ≡ file = cc in
      every file (subst (λ (f : List ℕ). StandsFor f state) same (leaves.stands told).stands);
  images = λ told honest image may. every image (leaves.images told honest image may).stands;
}

module _ (words : AggregateWords) (store : StoreRun) (net : NetRun) (header : RefHeader) (desk : DeskState) (end : Ending) (run : ServedTable words store net header desk end) where
  used : (request : Request) (leaf : ℕ) → Uses run.serves.over.served request leaf
      → LeasedIn desk.plan run.serves.new.state.entries (message_id_bytes (message_id request.message)) leaf
  used request leaf uses = used-leased run.serves.over.served request leaf uses

  -- by the entries alone, each leaf is for one message
  legal : OneLease run.serves.new.state.entries
  legal = run.serves.left.one_lease _ (inl refl)

  pub use-left : (request : Request) (leaf : ℕ) → Uses run.serves.over.served request leaf
      → LeafIsLeft store words.table run.serves.new (message_id request.message) leaf
  use-left request leaf uses =
      let state = run.serves.new.state in
      let many = run.serves.left.many in
      let leased = used request leaf uses in
      record {
        stands = leased-entries desk.plan state _ leaf many leased legal;
        files = all-leave store words.table (table_header desk.key) desk.plan state (IsLeasedIn leaf (message_id request.message)) run.serves.left
            (leased-file desk.plan state _ leaf many leased run.serves.left.one_lease);
      }

  pub uses-apart : (one other : Request) (leaf : ℕ) → Uses run.serves.over.served one leaf → Uses run.serves.over.served other leaf
      → message_id one.message ≡ message_id other.message
  uses-apart one other leaf a b =
      let short = used-short run.serves.over.served one leaf a in
      let few = used-short run.serves.over.served other leaf b in
      same-id (message_id one.message) (message_id other.message) (omega (arith, short)) (omega (arith, few))
      (same-message desk.plan run.serves.new.state.entries _ _ leaf legal (used one leaf a) (used other leaf b))
