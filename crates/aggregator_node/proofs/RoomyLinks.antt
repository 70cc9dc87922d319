-- No client's link fails if all are steady and have room.
use Rattle.std.proofs.Common.{◌≡◌, ◌⊎◌, ◌≤◌, ◌∙◌, ◌*◌, ℕ, List, [], ◌∷◌, Option, Some, All, IsTrue, inl, inr, refl, ap, map, subst, sym, arith}
use Rattle.std.proofs.lemmas.List.Elements.{All-nil, All-cons, All-head, All-tail}
use Rattle.aggregator_node.specs.Clients.{ReferenceState, longest_reply}
use Rattle.aggregator_node.specs.Ports.{IsPortRun, Place, PortRun, ServedClients}
use Rattle.aggregator_node.specs.Connections.{Connection, WorkerParts, ServesLink, Works, left, next}
use Rattle.aggregator_node.specs.Roomy.{HasRoomyLinks, NoLinkFails, TakesAll}
use Rattle.aggregator_session.specs.Desks.{DeskState}
use Rattle.aggregator_session.specs.Tables.{TableSeen}
use Rattle.leaf_table.specs.declared.lease.Lease.{Lease}
use Rattle.leaf_table.specs.declared.table.TableName.{TableName}
use Rattle.round_frames.specs.declared.fault.FrameFault.TheVariants.{ReadFault}
use Rattle.stream_io.specs.Net.{IsNewPort, NetState, PortState}
use Rattle.node_workers.specs.Ends.{IsLinkFault}
use Rattle.node_workers.specs.declared.served.ServedEnd.{ServedEnd}
use Rattle.node_workers.specs.declared.served.ServedEnd.TheVariants.{Closed, Frame, Full, Worn, WriteFailed}
use Rattle.stream_io.specs.declared.totals.Totals.{Totals}

which-fault : (ended : ServedEnd) → IsLinkFault ended → (ended ≡ Frame ReadFault) ⊎ (ended ≡ WriteFailed)
which-fault Closed failed = absurd failed
which-fault (Frame fault) failed = inl (ap Frame failed)
which-fault WriteFailed failed = inr refl
which-fault Worn failed = absurd failed
which-fault Full failed = absurd failed

at-most : (a b c : ℕ) → a ≤ b → b ≤ c → a ≤ c
at-most a b c first second = omega (arith, first, second)

abbrev Sound : Connection → Type 0
Sound one = IsLinkFault one.served.ended → ⊥

module _ (desk : DeskState) (reference : ReferenceState) where
  sound-one : (old new : WorkerParts) (one : Connection) → IsTrue old.port.steady → TakesAll desk.key.params old.port.room → ServesLink desk reference old new one → Sound one
  sound-one old new one steady takes is failed =
      let firm = is.accepted.link.steady steady in
      elim (which-fault one.served.ended failed) [
        | inl unread ↦ is.ends.answers firm unread
        | inr unwritten ↦
            is.ends.writes firm (at-most (65536 * longest_reply desk.key.params) old.port.room one.link.room takes is.accepted.link.room) unwritten
      ]

  sound-all : (old new : WorkerParts) (served : List Connection) → IsTrue old.port.steady → TakesAll desk.key.params old.port.room → Works desk reference old served new → All Sound served
  sound-all old new served steady takes (left from port leaves) = All-nil Sound
  sound-all old new served steady takes (next from mid last one others serves rest) =
      All-cons Sound one others (sound-one old mid one steady takes serves)
      (sound-all mid last others (serves.onward.steady ∙ steady)
      (at-most (65536 * longest_reply desk.key.params) old.port.room mid.port.room takes serves.onward.room) rest)

abbrev place_before : PortRun → Place
place_before run = run.before

module _ (desk : DeskState) (asked : ℕ) (name : Option TableName) (log last : List Lease) where
  sound-runs : (runs : List PortRun) → All (HasRoomyLinks desk.key.params) (map place_before runs) → All (IsPortRun desk asked name log last) runs → NoLinkFails runs
  sound-runs [] roomy are = All-nil (λ (run : PortRun). All Sound run.served)
  sound-runs (run ∷ runs) roomy are =
      let room = All-head (HasRoomyLinks desk.key.params) run.before (map place_before runs) roomy in
      All-cons (λ (run : PortRun). All Sound run.served) run runs
      (sound-all desk run.before.reference _ _ run.served room.0 room.1 (All-head (IsPortRun desk asked name log last) run runs are).works)
      (sound-runs runs (All-tail (HasRoomyLinks desk.key.params) run.before (map place_before runs) roomy) (All-tail (IsPortRun desk asked name log last) run runs are))

pub no-link-fails : (desk : DeskState) (asked : ℕ) (old new : TableSeen) (before after : List Place) (totals : Totals)
    → (all : ServedClients desk asked old new before after totals) → All (HasRoomyLinks desk.key.params) before → NoLinkFails all.runs
no-link-fails desk asked old new before after totals all roomy =
    sound-runs desk asked (Some old.name) old.state.entries new.state.entries all.runs (subst (All (HasRoomyLinks desk.key.params)) (sym all.before) roomy) all.are

abbrev port_of : Place → PortState
port_of one = one.port

-- new ports of a steady net with room have roomy links
roomy-places : (desk : DeskState) (net : NetState) (place : Option (List ℕ)) (places : List Place) → IsTrue net.steady → TakesAll desk.key.params net.room
    → All (IsNewPort net place) (map port_of places) → All (HasRoomyLinks desk.key.params) places
roomy-places desk net place [] steady takes made = All-nil (HasRoomyLinks desk.key.params)
roomy-places desk net place (one ∷ places) steady takes made =
    let new = All-head (IsNewPort net place) one.port (map port_of places) made in
    All-cons (HasRoomyLinks desk.key.params) one places
    (new.steady steady, at-most (65536 * longest_reply desk.key.params) net.room one.port.room takes new.room)
    (roomy-places desk net place places steady takes (All-tail (IsNewPort net place) one.port (map port_of places) made))

pub net-sound : (desk : DeskState) (asked : ℕ) (old new : TableSeen) (before after : List Place) (totals : Totals) (net : NetState) (place : Option (List ℕ))
    → (all : ServedClients desk asked old new before after totals) → IsTrue net.steady → TakesAll desk.key.params net.room
    → All (IsNewPort net place) (map (λ (one : Place). one.port) before) → NoLinkFails all.runs
net-sound desk asked old new before after totals net place all steady takes made =
    no-link-fails desk asked old new before after totals all (roomy-places desk net place before steady takes made)
