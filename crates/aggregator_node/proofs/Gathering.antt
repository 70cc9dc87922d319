-- Workers that are done and whose passes are joined.
use Rattle.aggregator_session.specs.Desks.{DeskState}
use Rattle.std.proofs.Common.{◌≡◌, ◌+◌, ◌-◌, ◌^◌, ◌<◌, ◌≤◌, ℕ, false, true≢false, min, Option, List, [], ◌∷◌, ◌++◌, All, length, take, drop, get_or, refl, sym, ap, ◌∙◌, subst, arith, append-nil, length-append}
use Rattle.std.proofs.lemmas.List.{map-append}
use Rattle.std.proofs.lemmas.List.Elements.{All-cons, All-head, All-nil, All-push, All-tail}
use Rattle.std.proofs.lemmas.List.Sums.{sum_by-append}
use mathlib.Core.List.{IsPrefix}
use Rattle.aggregator_node.specs.Clients.{IsExact, ReferenceState, Request}
use Rattle.aggregator_node.specs.Gathered.{Gathered, HasDone, IsDone}
use Rattle.aggregator_node.specs.Ports.{IsPortRun, Place, PortRun, places_of, requests_in}
use Rattle.aggregator_node.specs.Connections.{WorkerParts, Works, frames_of, left, next, requests_of}
use Rattle.aggregator_node.specs.Workers.{WorkEnds, Worked, WorkerState, accept_failed, no_further, pass_worn, served_all, worker_state}
use Rattle.aggregator_node.proofs.Requests.{Goes, goes-none, goes-then}
use Rattle.aggregator_node.proofs.Serving.{serves-go}
use Rattle.aggregator_node.proofs.Standing.{place_of, places-push}
use Rattle.aggregator_node.proofs.Summing.{done-join}
use Rattle.aggregator_node.specs.Connections.{Connection}
use Rattle.leaf_table.specs.declared.lease.Lease.{Lease}
use Rattle.leaf_table.specs.declared.table.TableName.{TableName}
use Rattle.stream_io.specs.Net.{PortState}
use Rattle.disk_trait.specs.declared.faults.Faults as faults
use Rattle.reference_value.specs.declared.cells.Cells as cells
use Rattle.node_workers.specs.declared.worker.Worker.{Worker}
use Rattle.node_workers.specs.Joined.{Joined}
use Rattle.node_workers.specs.Starting.{fresh_workers}
use Rattle.node_workers.proofs.Hosting.{Hosted, host_first, host_next, hosted-after}
use Rattle.node_workers.proofs.Prefixes.{prefix-same, prefix-then}
use Rattle.node_workers.specs.Ports.{PortEnds, failed, full, none_waits}
use Rattle.stream_io.specs.declared.totals.Totals.{Totals}
use Rattle.node_workers.proofs.Logs.{begins-left, begins-right}
use Rattle.turn_lock.specs.Lock.{Lock}
use Rattle.turn_lock.specs.Pass.{Joins, Seen, first_pass}

-- what a worker's connections did to its pass and to the count of its reference
pub works-go : (desk : DeskState) (reference : ReferenceState) (old new : WorkerParts) (served : List Connection) → Works desk reference old served new
    → Goes desk reference old.pass new.pass old.faults new.faults (requests_of served)
works-go desk reference old new served (left at port leaves) = goes-none desk reference old.pass old.faults
works-go desk reference old new served (next at mid last one others serves rest) =
    goes-then desk reference old.pass mid.pass new.pass old.faults mid.faults new.faults one.requests (requests_of others)
    (serves-go desk reference _ _ one.requests one.served.frames one.served.ended serves.serves) (works-go desk reference mid new others rest)

-- the place of a worker that is done
abbrev after : WorkerState → Place
after worker = record { port = worker.parts.port; reference = worker.reference; faults = worker.parts.faults }

-- the worker of a place, before it is run
abbrev begun : Lock Lease TableName → Place → WorkerState
begun lock place = record {
  parts = record { pass = first_pass lock; port = place.port; faults = place.faults };
  reference = place.reference;
  connections = 0;
  frames = 0;
  worn = false;
  failed = false;
}

module _ (desk : DeskState) (asked : ℕ) where
  -- a longer last log
  run-longer : (name : Option TableName) (log mid last : List Lease) (run : PortRun) → IsPrefix mid last → IsPortRun desk asked name log mid run → IsPortRun desk asked name log last run
  run-longer name log mid last run p is = record {
    first = is.first;
    done = is.done;
    named = is.named;
    begins = is.begins;
    stands = prefix-then is.done.log mid last is.stands p;
    works = is.works;
    same = is.same;
    onward = is.onward;
    most = is.most;
    ends = is.ends;
  }

  runs-longer : (name : Option TableName) (log mid last : List Lease) (runs : List PortRun) → IsPrefix mid last → All (IsPortRun desk asked name log mid) runs → All (IsPortRun desk asked name log last) runs
  runs-longer name log mid last [] p are = All-nil (IsPortRun desk asked name log last)
  runs-longer name log mid last (run ∷ runs) p are =
      All-cons (IsPortRun desk asked name log last) run runs (run-longer name log mid last run p (All-head (IsPortRun desk asked name log mid) run runs are))
      (runs-longer name log mid last runs p (All-tail (IsPortRun desk asked name log mid) run runs are))

  module _ (lock : Lock Lease TableName) (place : Place) (worker : WorkerState) (done : IsDone desk asked (begun lock place) worker) where
    abbrev run : PortRun
    run = record { before = place; after = after worker; served = done.worked.served }

    abbrev works : Works desk place.reference (begun lock place).parts done.worked.served worker.parts
    works = done.worked.works

    sound-same : worker.failed ≡ false → worker.parts.port.accept_count ≡ place.port.accept_count
    sound-same sound = done.worked.accepts.same (λ is. absurd (true≢false (sym is ∙ sound)))

    ends-by : worker.parts.pass.greatest < 2 ^ 62 → WorkEnds asked worker → PortEnds asked (length done.worked.served) place.port worker.parts.port
    ends-by small (served_all all sound) = full (sym done.worked.connections ∙ all) (sound-same sound)
    ends-by small (no_further waits sound) = none_waits (λ told. waits (done.worked.onward.told ∙ told)) (sound-same sound)
    ends-by small (accept_failed is unsteady) =
        failed (done.worked.accepts.rose is) unsteady
    ends-by small (pass_worn is sound) = absurd (let large = done.worked.worn is in omega (arith, large, small))

    port-run : worker.parts.pass.greatest < 2 ^ 62 → IsPortRun desk asked lock.name lock.opening_log worker.parts.pass.log run
    port-run small = record {
      first = first_pass lock;
      done = worker.parts.pass;
      named = refl;
      begins = refl;
      stands = prefix-same worker.parts.pass.log;
      works = works;
      same = done.worked.same;
      onward = done.worked.onward;
      most = (let count = done.worked.connections in let most = done.most in omega (arith, count, most));
      ends = ends-by small done.ends;
    }

    goes : Goes desk place.reference (first_pass lock) worker.parts.pass place.faults worker.parts.faults (requests_in (run ∷ []))
    goes =
        subst (λ (l : List Request). Goes desk place.reference (first_pass lock) worker.parts.pass place.faults worker.parts.faults l)
        (sym (append-nil (requests_of done.worked.served))) (works-go desk place.reference (begun lock place).parts worker.parts done.worked.served works)

    done-one : HasDone desk lock worker.parts.pass (run ∷ [])
    done-one =
        let g = goes in
        record {
          draws = (let d = g.steps.draws in omega (arith, d));
          fresh = g.fresh;
          rises = λ small few.
              let covered = g.rises small (All-head (λ (r : PortRun). r.after.faults < 2 ^ 64 - 1) run [] few) in omega (arith, covered);
          steady = λ is exact. g.steady is (All-head (λ (r : PortRun). IsExact desk r.before.reference) run [] exact);
          own = g.own;
          most = (
              let few = done.worked.few in
              let count = done.worked.connections in
              let most = done.most in
              let small = done.small in
              let all = ap length (append-nil (requests_of done.worked.served)) in
              omega (arith, few, count, most, small, all)
              );
          same = g.steps.same;
          joined = g.steps.joined;
        }

  -- the first worker
  pub gathered-one : (lock : Lock Lease TableName) (place : Place) (worker : WorkerState) (totals : Totals) → IsDone desk asked (begun lock place) worker
      → totals.connections ≡ worker.connections → totals.frames ≡ worker.frames
      → Gathered desk asked lock worker.parts.pass (place ∷ []) (after worker ∷ []) totals
  gathered-one lock place worker totals done connections frames =
      let one = run lock place worker done in
      let Is = IsPortRun desk asked lock.name lock.opening_log worker.parts.pass.log in
      record {
        runs = one ∷ [];
        before = refl;
        after = refl;
        are = λ small. All-cons Is one [] (port-run lock place worker done small) (All-nil Is);
        done = done-one lock place worker done;
        totals_are = record {
          connections = (let count = done.worked.connections in let most = done.most in let small = done.small in omega (arith, connections, count, most, small));
          frames = (let count = done.worked.frames in omega (arith, frames, count));
        };
      }

  -- one more worker
  pub gathered-more : (lock : Lock Lease TableName) (old new : Seen Lease TableName) (olds news : List Place) (totals sums : Totals) (place : Place) (worker : WorkerState)
      → Gathered desk asked lock old olds news totals → IsDone desk asked (begun lock place) worker → Joins old worker.parts.pass new
      → sums.connections ≡ min (totals.connections + worker.connections) (2 ^ 32 - 1) → sums.frames ≡ min (totals.frames + worker.frames) (2 ^ 32 - 1)
      → Gathered desk asked lock new (olds ++ place ∷ []) (news ++ after worker ∷ []) sums
  gathered-more lock old new olds news totals sums place worker a done met connections frames =
      let one = run lock place worker done in
      let here = worker.parts.pass in
      let start = lock.opening_log in
      let left_log = subst (IsPrefix old.log) (sym met.log) (begins-left old.log here.log met.one_log) in
      let right_log = subst (IsPrefix here.log) (sym met.log) (begins-right old.log here.log met.one_log) in
      let greatest = met.greatest in
      record {
        runs = a.runs ++ one ∷ [];
        before = map-append (λ (r : PortRun). r.before) a.runs (one ∷ []) ∙ ap (λ (l : List Place). l ++ place ∷ []) a.before;
        after = map-append (λ (r : PortRun). r.after) a.runs (one ∷ []) ∙ ap (λ (l : List Place). l ++ after worker ∷ []) a.after;
        are = λ small.
            All-push (IsPortRun desk asked lock.name start new.log) a.runs one (runs-longer lock.name start old.log new.log a.runs left_log (a.are (omega (arith, small, greatest))))
            (run-longer lock.name start here.log new.log one right_log (port-run lock place worker done (omega (arith, small, greatest))));
        done = done-join desk lock old here new a.runs (one ∷ []) a.done (done-one lock place worker done) met;
        totals_are = record {
          connections = (
              let before = a.totals_are.connections in
              let count = done.worked.connections in
              omega (arith, connections, before, count, sum_by-append (λ (r : PortRun). length r.served) a.runs (one ∷ []))
              );
          frames = (
              let before = a.totals_are.frames in
              let count = done.worked.frames in
              omega (arith, frames, before, count, sum_by-append (λ (r : PortRun). frames_of r.served) a.runs (one ∷ []))
              );
        };
      }

-- the workers of clients, from the ports and the cells that they were given to the pass in which they are joined
module _ {P T X L : Type 0} (state : P → PortState) (c : cells.Ghosts X) (f : faults.Ghosts X) (desk : DeskState) (asked : ℕ) (lock : Lock Lease TableName) where
  abbrev pub IsRun : Worker P T X L Lease TableName → Worker P T X L Lease TableName → Type 0
  IsRun old new = IsDone desk asked (worker_state state c f old) (worker_state state c f new)

  hosted-same : (ports nows : List P) (owns mores : List X) (pass : Seen Lease TableName) (totals : Totals) → Hosted IsRun (first_pass lock) ports owns nows mores pass totals
      → (length ports ≡ length owns) × (length nows ≡ length mores)
  hosted-same ports nows owns mores pass totals (host_first port own worker ran) = (refl, refl)
  hosted-same ports nows owns mores pass totals (host_next fronts ows afters others before sums port own worker new rest ran joins) =
      let same = hosted-same fronts afters ows others before sums rest in
      let one = same.0 in
      let two = same.1 in (
        omega (arith, one, length-append fronts (port ∷ []), length-append ows (own ∷ [])),
        omega (arith, two, length-append afters (worker.port ∷ []), length-append others (worker.own ∷ [])),
      )

  pub gathered-of : (ports nows : List P) (owns mores : List X) (pass : Seen Lease TableName) (totals : Totals) → Hosted IsRun (first_pass lock) ports owns nows mores pass totals
      → Gathered desk asked lock pass (places_of c f state ports owns) (places_of c f state nows mores) totals
  gathered-of ports nows owns mores pass totals (host_first port own worker ran) =
      gathered-one desk asked lock (place_of c f state port own) (worker_state state c f worker) totals ran refl refl
  gathered-of ports nows owns mores pass totals (host_next fronts ows afters others before sums port own worker new rest ran joins) =
      let same = hosted-same fronts afters ows others before sums rest in
      let olds = places-push c f state fronts ows port own same.0 in
      let news = places-push c f state afters others worker.port worker.own same.1 in
      subst (λ (places : List Place). Gathered desk asked lock new places (places_of c f state nows mores) totals) (sym olds)
      (subst (λ (places : List Place). Gathered desk asked lock new (places_of c f state fronts ows ++ place_of c f state port own ∷ []) places totals) (sym news)
      (gathered-more desk asked lock before new (places_of c f state fronts ows) (places_of c f state afters others) sums totals (place_of c f state port own) (worker_state state c f worker)
      (gathered-of fronts afters ows others before sums rest) ran joins refl refl))

  -- the workers that were made for these ports and cells, once they were run and joined
  pub gathered-run : (ports nows : List P) (owns mores : List X) (items slice news : List (Worker P T X L Lease TableName)) (len : ℕ) (pass : Seen Lease TableName) (totals : Totals)
      → items ≡ fresh_workers (first_pass lock) ports owns → length items ≡ length ports → length ports ≡ length owns → slice ≡ items → length news ≡ length slice → len ≡ length items → asked < 2 ^ 32
      → ((i : ℕ) (d : Worker P T X L Lease TableName) → i < length slice → Worked desk (worker_state state c f (get_or slice i d)) (worker_state state c f (get_or news i d)))
      → All (λ worker. worker.connections ≤ asked) news → All (λ worker. WorkEnds asked (worker_state state c f worker)) news
      → Joined (take len (news ++ drop (length news) items)) pass nows mores totals
      → Gathered desk asked lock pass (places_of c f state ports owns) (places_of c f state nows mores) totals
  gathered-run ports nows owns mores items slice news len pass totals made many same value size count small worked most ends joined =
      gathered-of ports nows owns mores pass totals
      (hosted-after IsRun (first_pass lock) ports owns items slice news len pass nows mores totals made many same value size count
      (λ i d lt. record { worked = worked i d lt; small = small; most = most i d (omega (arith, lt, size)); ends = ends i d (omega (arith, lt, size)) }) joined)
