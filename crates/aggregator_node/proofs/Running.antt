-- Workers that were run.
use Rattle.std.proofs.Common.{◌≡◌, ℕ, List, Option, Some, IfSome, All, length, refl, sym, ap, ◌∙◌, subst}
use Rattle.std.proofs.lemmas.List.{length-map}
use Rattle.aggregator_node.specs.Gathered.{Gathered}
use Rattle.aggregator_node.specs.Ports.{Place, PortRun}
use Rattle.aggregator_node.specs.Workers.{IsReady}
use Rattle.leaf_table.specs.declared.lease.Lease.{Lease}
use Rattle.leaf_table.specs.declared.table.TableName.{TableName}
use Rattle.aggregator_session.specs.Desks.{DeskState, ReadsFor}
use Rattle.aggregator_session.specs.declared.desk.Desk.{Desk}
use Rattle.reference_value.specs.declared.cells.Cells as cells
use Rattle.node_workers.specs.Starting.{fresh_workers}
use Rattle.stream_io.specs.declared.totals.Totals.{Totals}
use Rattle.node_workers.specs.declared.worker.Worker.{Worker}
use Rattle.node_workers.proofs.Starting.{fresh-each}
use Rattle.turn_lock.specs.Lock.{Lock}
use Rattle.turn_lock.specs.Pass.{Seen, first_pass}

-- the workers that were made for these ports and cells
pub ready-begun : {P T X L : Type 0} (c : cells.Ghosts X) (desk : Desk) (lock : Lock Lease TableName) (name : TableName) (ports : List P) (owns : List X)
    (items slice : List (Worker P T X L Lease TableName)) → lock.name ≡ Some name → name.plan ≡ desk.plan.now → All (ReadsFor c desk) owns
    → items ≡ fresh_workers (first_pass lock) ports owns → slice ≡ items → All (λ worker. IsReady c lock desk worker.pass worker.own) slice
ready-begun c desk lock name ports owns items slice is same reads made value =
    let named : IfSome lock.name (λ n. n.plan ≡ desk.plan.now) = subst (λ (o : Option TableName). IfSome o (λ n. n.plan ≡ desk.plan.now)) (sym is) same in
    subst (All (λ worker. IsReady c lock desk worker.pass worker.own)) (sym (value ∙ made))
    (fresh-each (first_pass lock) (ReadsFor c desk) (λ worker. IsReady c lock desk worker.pass worker.own) (λ port own of. record { idle = (refl, refl, named); reads = of }) ports owns reads)

pub joined-all : (desk : DeskState) (asked : ℕ) (lock : Lock Lease TableName) (pass : Seen Lease TableName) (olds news : List Place) (totals : Totals)
    → Gathered desk asked lock pass olds news totals → pass.joined ≡ length olds
joined-all desk asked lock pass olds news totals all = all.done.joined ∙ sym (length-map all.runs (λ (run : PortRun). run.before)) ∙ ap length all.before
