-- No link fails if all are steady and have room.
use Rattle.std.proofs.Common.{◌∙◌, ℕ, List, [], ◌∷◌, Option, All, IsTrue, map, subst, sym, arith}
use Rattle.std.proofs.Math.Nat.{mul-le-mul_right}
use Rattle.std.proofs.lemmas.List.Elements.{All-nil, All-cons, All-head, All-tail}
use Rattle.opening_journal.specs.declared.entry.Entry.{Entry}
use Rattle.share_files.specs.declared.share.Share.{Share}
use Rattle.stream_io.specs.Net.{IsNewPort, NetState, PortState}
use Rattle.node_workers.specs.Ends.{IsLinkFault}
use Rattle.trustee_node.specs.Ports.{HasRoomyLinks, IsPortRun, NoLinkFails, PortRun, PortsRun, ServedPorts, TakesAll}
use Rattle.trustee_node.specs.Replies.{longest_reply}
use Rattle.trustee_node.specs.Trustees.{TrusteeState}
use Rattle.trustee_node.specs.Workers.{Connection, IsConnection}
use Rattle.stream_io.specs.declared.totals.Totals.{Totals}

module _ (share : Share) where
  sound-one : (port : PortState) (one : Connection) → HasRoomyLinks share.params port → IsConnection share port one → IsLinkFault one.served.ended → ⊥
  sound-one port one roomy is failed =
      let less = (is.fails (is.accepted.steady (is.since.steady ∙ roomy.0)) failed).1 in
      let product = mul-le-mul_right (longest_reply share.params) is.most in
      let later = is.since.room in
      let takes = is.accepted.room in
      let small = is.small in
      let all = roomy.1 in
      omega (arith, less, product, later, takes, small, all)

  sound-all : (port : PortState) (served : List Connection) → HasRoomyLinks share.params port → All (IsConnection share port) served
      → All (λ (one : Connection). IsLinkFault one.served.ended → ⊥) served
  sound-all port [] roomy are = All-nil (λ (one : Connection). IsLinkFault one.served.ended → ⊥)
  sound-all port (one ∷ served) roomy are =
      All-cons (λ (one : Connection). IsLinkFault one.served.ended → ⊥) one served
      (sound-one port one roomy (All-head (IsConnection share port) one served are))
      (sound-all port served roomy (All-tail (IsConnection share port) one served are))

  module _ (ids : Option (List (List ℕ))) (asked : ℕ) (log last : List Entry) where
    sound-runs : (runs : List PortRun) → All (HasRoomyLinks share.params) (map (λ (run : PortRun). run.before) runs)
        → All (IsPortRun share ids asked log last) runs → NoLinkFails runs
    sound-runs [] roomy are = All-nil (λ (run : PortRun). All (λ (one : Connection). IsLinkFault one.served.ended → ⊥) run.served)
    sound-runs (run ∷ runs) roomy are =
        let ports = map (λ (r : PortRun). r.before) runs in
        All-cons (λ (run : PortRun). All (λ (one : Connection). IsLinkFault one.served.ended → ⊥) run.served) run runs
        (sound-all run.before run.served (All-head (HasRoomyLinks share.params) run.before ports roomy) (All-head (IsPortRun share ids asked log last) run runs are).are)
        (sound-runs runs (All-tail (HasRoomyLinks share.params) run.before ports roomy) (All-tail (IsPortRun share ids asked log last) run runs are))

pub no-link-fails : (share : Share) (ids : Option (List (List ℕ))) (asked : ℕ) (old new : TrusteeState) (ports : PortsRun) (totals : Totals)
    → (all : ServedPorts share ids asked old new ports totals) → All (HasRoomyLinks share.params) ports.before → NoLinkFails all.runs
no-link-fails share ids asked old new ports totals all roomy =
    sound-runs share ids asked old.entries new.entries all.runs (subst (All (HasRoomyLinks share.params)) (sym all.before) roomy) all.are

-- new ports of a steady net with room have roomy links
pub roomy-ports : (share : Share) (net : NetState) (place : Option (List ℕ)) (ports : List PortState) → IsTrue net.steady → TakesAll share.params net.room
    → All (IsNewPort net place) ports → All (HasRoomyLinks share.params) ports
roomy-ports share net place ports steady room made k d below =
    let port = made k d below in
    (port.steady steady, let later = port.room in omega (arith, room, later))
