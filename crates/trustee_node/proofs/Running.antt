-- Workers that were run.
use Rattle.std.proofs.Common.{◌≡◌, ℕ, List, Option, Some, IfSome, All, length, refl, sym, ap, ◌∙◌, subst}
use Rattle.std.proofs.lemmas.List.{length-map}
use Rattle.share_files.specs.declared.share.Share.{Share}
use Rattle.stream_io.specs.Net.{PortState}
use Rattle.trustee_core.specs.declared.kept.TrusteeName.{TrusteeName}
use Rattle.trustee_core.specs.declared.note.Note.{Note}
use Rattle.trustee_node.specs.Turns.{IsIdle}
use Rattle.trustee_node.specs.Connections.{ClockState}
use Rattle.trustee_node.specs.Gathered.{Gathered}
use Rattle.trustee_node.specs.Ports.{PortRun, ports_run}
use Rattle.node_workers.specs.Starting.{fresh_workers}
use Rattle.stream_io.specs.declared.totals.Totals.{Totals}
use Rattle.node_workers.specs.declared.worker.Worker.{Worker}
use Rattle.node_workers.proofs.Starting.{fresh-each}
use Rattle.turn_lock.specs.Lock.{Lock}
use Rattle.turn_lock.specs.Pass.{Seen, first_pass}

-- the workers that were made for these ports and clocks
pub idle-begun : {P T C L : Type 0} (share : Share) (lock : Lock Note TrusteeName) (name : TrusteeName) (ports : List P) (clocks : List C) (items slice : List (Worker P T C L Note TrusteeName))
    → lock.name ≡ Some name → name.share ≡ share → items ≡ fresh_workers (first_pass lock) ports clocks → slice ≡ items → All (λ worker. IsIdle lock share worker.pass) slice
idle-begun share lock name ports clocks items slice is same made value =
    let named : IfSome lock.name (λ n. n.share ≡ share) = subst (λ (o : Option TrusteeName). IfSome o (λ n. n.share ≡ share)) (sym is) same in
    subst (All (λ worker. IsIdle lock share worker.pass)) (sym (value ∙ made))
    (fresh-each (first_pass lock) (λ _. lock.name ≡ Some name) (λ worker. IsIdle lock share worker.pass) (λ port clock _. (refl, refl, named)) ports clocks (λ _ _ _. is))

pub joined-all : (share : Share) (ids : Option (List (List ℕ))) (asked : ℕ) (lock : Lock Note TrusteeName) (pass : Seen Note TrusteeName) (olds news : List PortState) (clocks : List ClockState) (totals : Totals)
    → Gathered share ids asked lock pass (ports_run olds news clocks) totals → pass.joined ≡ length olds
joined-all share ids asked lock pass olds news clocks totals all =
    all.joined ∙ sym (length-map all.runs (λ (run : PortRun). run.before)) ∙ ap length all.before
