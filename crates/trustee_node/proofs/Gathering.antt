-- Passes that are joined.
use Rattle.std.proofs.Common.{◌≡◌, ◌+◌, ◌-◌, ◌*◌, ◌^◌, ◌≤◌, ◌<◌, ℕ, Bool, false, true≢false, max, min, List, [], ◌∷◌, ◌++◌, Option, All, length, map, take, drop, get_or, refl, sym, ap, ◌∙◌, subst, arith, append-nil, length-append}
use Rattle.std.proofs.lemmas.List.{map-append}
use Rattle.std.proofs.lemmas.List.Elements.{All-cons, All-head, All-nil, All-push, All-tail}
use Rattle.std.proofs.lemmas.Grind.{flat_map-append}
use Rattle.std.proofs.lemmas.List.Sums.{sum_by-append}
use mathlib.Core.List.{IsPrefix}
use Rattle.opening_journal.specs.declared.entry.Entry.{Entry}
use Rattle.share_files.specs.declared.share.Share.{Share}
use Rattle.stream_io.specs.Net.{PortState}
use Rattle.trustee_core.specs.Notes.{entries_in}
use Rattle.trustee_core.specs.declared.kept.TrusteeName.{TrusteeName}
use Rattle.trustee_core.specs.declared.note.Note.{Note}
use Rattle.trustee_node.specs.Turns.{Draws, Faults, HasSteadyDisk, NotedBy, ServedTurns, TellsDisk, Turn, added_by, ended}
use Rattle.trustee_node.specs.Connections.{ClockState, clock_state}
use Rattle.trustee_node.specs.Workers.{Connection, IsConnection, WorkEnds, WorkerState, Worked, accept_failed, frames_of, no_further, pass_worn, served_all, turns_of, worker_state}
use Rattle.trustee_core.proofs.NoteLists.{entries-append}
use Rattle.trustee_node.proofs.Noting.{entries-prefix, noted-join}
use Rattle.trustee_node.proofs.Serving.{served-then, with_code-append}
use Rattle.trustee_node.specs.Gathered.{Gathered, IsDone}
use Rattle.trustee_node.specs.Ports.{IsPortRun, PortRun, PortsRun, ports_run, turns_in}
use Rattle.node_workers.specs.Ports.{PortEnds, failed, full, none_waits}
use Rattle.node_workers.specs.declared.worker.Worker.{Worker}
use Rattle.node_workers.specs.Joined.{Joined}
use Rattle.node_workers.specs.Starting.{fresh_workers}
use Rattle.node_workers.proofs.Hosting.{Hosted, host_first, host_next, hosted-after}
use Rattle.node_workers.proofs.Logs.{begins-left, begins-right}
use Rattle.stream_io.specs.declared.totals.Totals.{Totals}
use Rattle.turn_lock.specs.Lock.{Lock}
use Rattle.turn_lock.specs.Pass.{Joins, Seen, first_pass}

-- the turns of connections
few-turns : (share : Share) (port : PortState) (served : List Connection) → All (IsConnection share port) served → length (turns_of served) ≤ 65536 * length served
few-turns share port [] are = omega arith
few-turns share port (one ∷ served) are =
    let first = (All-head (IsConnection share port) one served are).most in
    let rest = few-turns share port served (All-tail (IsConnection share port) one served are) in
    omega (arith, first, rest, length-append one.turns (turns_of served))

turns-more : (runs : List PortRun) (run : PortRun) → turns_in (runs ++ run ∷ []) ≡ turns_in runs ++ turns_of run.served
turns-more runs run =
    flat_map-append (λ (r : PortRun). turns_of r.served) runs (run ∷ []) ∙ ap (λ (l : List Turn). turns_in runs ++ l) (append-nil (turns_of run.served))

module _ (start old other new : Seen Note TrusteeName) (turns more : List Turn) where
  draws-join : start.draws ≡ 0 → start.greatest ≡ 0 → new.draws ≡ old.draws + other.draws → new.greatest ≡ max old.greatest other.greatest
      → Draws start old turns → Draws start other more → Draws start new (turns ++ more)
  draws-join none first sum most a b = record {
    most = (let p = a.most in let q = b.most in omega (arith, none, sum, length-append turns more));
    least = (let p = a.least in let q = b.least in omega (arith, none, sum, length-append turns more, with_code-append 11 turns more));
    greatest = (let p = a.greatest in omega (arith, first));
    fresh = λ small.
        (let p = a.fresh (omega (arith, most)) in let q = b.fresh (omega (arith, most)) in omega (arith, p, q, with_code-append 11 turns more));
    worn = λ large. absurd (omega (arith, first));
  }

  faults-join : start.rises ≡ 0 → new.rises ≡ old.rises + other.rises → new.floor ≡ max old.floor other.floor → new.name ≡ old.name → new.name ≡ other.name
      → Faults start old turns → Faults start other more → Faults start new (turns ++ more)
  faults-join none sum floor same same_other a b = record {
    rises = λ small.
        (let p = a.rises (omega (arith, floor)) in let q = b.rises (omega (arith, floor)) in omega (arith, p, q, none, sum, with_code-append 6 turns more));
    steady = λ is.
        (let p = a.steady (subst HasSteadyDisk same is) in let q = b.steady (subst HasSteadyDisk same_other is) in omega (arith, p, q, with_code-append 6 turns more));
    first = λ zero. (let p = a.first (omega (arith, floor)) in let q = b.first (omega (arith, floor)) in omega (arith, p, q, with_code-append 7 turns more));
    told = λ is.
        (let p = a.told (subst TellsDisk same is) in let q = b.told (subst TellsDisk same_other is) in omega (arith, p, q, with_code-append 7 turns more));
  }

-- the worker of a port and of a clock, before it is run
abbrev begun : Lock Note TrusteeName → PortState → ClockState → WorkerState
begun lock port clock = record { port = port; pass = first_pass lock; clock = clock; connections = 0; frames = 0; worn = false; failed = false }

module _ (share : Share) (ids : Option (List (List ℕ))) where
  served-longer : (log mid last : List Entry) (turns : List Turn) → ServedTurns share ids log turns mid → IsPrefix mid last → ServedTurns share ids log turns last
  served-longer log mid last turns served p = subst (λ (t : List Turn). ServedTurns share ids log t last) (append-nil turns) (served-then share ids log mid last turns [] served (ended mid last p))

  module _ (asked : ℕ) where
    run-longer : (log mid last : List Entry) (run : PortRun) → IsPrefix mid last → IsPortRun share ids asked log mid run → IsPortRun share ids asked log last run
    run-longer log mid last run p is = record {
      are = is.are;
      turns = served-longer log mid last (turns_of run.served) is.turns p;
      dated = is.dated;
      talks = is.talks;
      waiting = is.waiting;
      onward = is.onward;
      most = is.most;
      ends = is.ends;
    }

    runs-longer : (log mid last : List Entry) (runs : List PortRun) → IsPrefix mid last → All (IsPortRun share ids asked log mid) runs → All (IsPortRun share ids asked log last) runs
    runs-longer log mid last [] p are = All-nil (IsPortRun share ids asked log last)
    runs-longer log mid last (run ∷ runs) p are =
        All-cons (IsPortRun share ids asked log last) run runs (run-longer log mid last run p (All-head (IsPortRun share ids asked log mid) run runs are))
        (runs-longer log mid last runs p (All-tail (IsPortRun share ids asked log mid) run runs are))

    module _ (lock : Lock Note TrusteeName) (port : PortState) (clock : ClockState) (worker : WorkerState) (done : IsDone share ids asked (begun lock port clock) worker) where
      abbrev worked : Worked share ids (begun lock port clock) worker
      worked = done.worked

      abbrev run : PortRun
      run = record { before = port; after = worker.port; clock = clock; served = worked.served }

      few : length (turns_of worked.served) ≤ 2 ^ 48
      few =
          let turns = few-turns share port worked.served worked.are in
          let count = worked.connections in
          let most = done.most in
          let small = done.small in
          omega (arith, turns, count, most, small)

      sound-same : worker.failed ≡ false → worker.port.accept_count ≡ port.accept_count
      sound-same sound = worked.accepts.same (λ is. absurd (true≢false (sym is ∙ sound)))

      ends-by : worker.pass.greatest < 2 ^ 62 → WorkEnds asked worker → PortEnds asked (length worked.served) port worker.port
      ends-by small (served_all all sound) = full (sym worked.connections ∙ all) (sound-same sound)
      ends-by small (no_further waits sound) = none_waits (λ told. waits (worked.onward.told ∙ told)) (sound-same sound)
      ends-by small (accept_failed is unsteady) = failed (worked.accepts.rose is) unsteady
      ends-by small (pass_worn is sound) = absurd (let some = worked.worn is in let never = worked.serves.draws.fresh small in omega (arith, some, never))

      port-run : worker.pass.greatest < 2 ^ 62 → IsPortRun share ids asked (entries_in lock.opening_log) (entries_in worker.pass.log) run
      port-run small = record {
        are = worked.are;
        turns = worked.serves.served;
        dated = λ told. (worked.dated told).moments;
        talks = worked.talks;
        waiting = worked.waiting;
        onward = worked.onward;
        most = (let count = worked.connections in let most = done.most in omega (arith, count, most));
        ends = ends-by small done.ends;
      }

    -- the first worker
    pub gathered-one : (lock : Lock Note TrusteeName) (port : PortState) (clock : ClockState) (worker : WorkerState) (totals : Totals)
        → IsDone share ids asked (begun lock port clock) worker → totals.connections ≡ worker.connections → totals.frames ≡ worker.frames
        → Gathered share ids asked lock worker.pass (ports_run (port ∷ []) (worker.port ∷ []) (clock ∷ [])) totals
    gathered-one lock port clock worker totals done connections frames =
        let w = worked lock port clock worker done in
        let one = run lock port clock worker done in
        let turns : turns_of w.served ≡ turns_in (one ∷ []) = sym (append-nil (turns_of w.served)) in
        record {
          runs = one ∷ [];
          before = refl;
          after = refl;
          by_clocks = refl;
          are = λ small. All-cons (IsPortRun share ids asked (entries_in lock.opening_log) (entries_in worker.pass.log)) one [] (port-run lock port clock worker done small)
              (All-nil (IsPortRun share ids asked (entries_in lock.opening_log) (entries_in worker.pass.log)));
          same = w.serves.same;
          draws = subst (Draws (first_pass lock) worker.pass) turns w.serves.draws;
          faults = subst (Faults (first_pass lock) worker.pass) turns w.serves.faults;
          own = λ zero. w.serves.own zero ∙ ap added_by turns;
          notes = subst (NotedBy share ids (first_pass lock) worker.pass) turns w.serves.notes;
          most = (let short = few lock port clock worker done in let all = ap length turns in omega (arith, short, all));
          joined = w.serves.joined;
          totals_are = record {
            connections = (let count = w.connections in let most = done.most in let small = done.small in omega (arith, connections, count, most, small));
            frames = (let count = w.frames in omega (arith, frames, count));
          };
        }

    -- one more worker
    pub gathered-more : (lock : Lock Note TrusteeName) (old new : Seen Note TrusteeName) (olds news : List PortState) (clocks : List ClockState) (totals sums : Totals)
        (port : PortState) (clock : ClockState) (worker : WorkerState)
        → Gathered share ids asked lock old (ports_run olds news clocks) totals → IsDone share ids asked (begun lock port clock) worker → Joins old worker.pass new
        → sums.connections ≡ min (totals.connections + worker.connections) (2 ^ 32 - 1) → sums.frames ≡ min (totals.frames + worker.frames) (2 ^ 32 - 1)
        → Gathered share ids asked lock new (ports_run (olds ++ port ∷ []) (news ++ worker.port ∷ []) (clocks ++ clock ∷ [])) sums
    gathered-more lock old new olds news clocks totals sums port clock worker a done met connections frames =
        let w = worked lock port clock worker done in
        let one = run lock port clock worker done in
        let start = first_pass lock in
        let served = turns_of w.served in
        let turns : turns_in a.runs ++ served ≡ turns_in (a.runs ++ one ∷ []) = sym (turns-more a.runs one) in
        let left = subst (IsPrefix old.log) (sym met.log) (begins-left old.log worker.pass.log met.one_log) in
        let right = subst (IsPrefix worker.pass.log) (sym met.log) (begins-right old.log worker.pass.log met.one_log) in
        let floor = met.floor in
        let greatest = met.greatest in
        let name : new.name ≡ worker.pass.name = met.same.name ∙ a.same.name ∙ sym w.serves.same.name in
        record {
          runs = a.runs ++ one ∷ [];
          before = map-append (λ (r : PortRun). r.before) a.runs (one ∷ []) ∙ ap (λ (l : List PortState). l ++ port ∷ []) a.before;
          after = map-append (λ (r : PortRun). r.after) a.runs (one ∷ []) ∙ ap (λ (l : List PortState). l ++ worker.port ∷ []) a.after;
          by_clocks = map-append (λ (r : PortRun). r.clock) a.runs (one ∷ []) ∙ ap (λ (l : List ClockState). l ++ clock ∷ []) a.by_clocks;
          are = λ small.
              All-push (IsPortRun share ids asked (entries_in lock.opening_log) (entries_in new.log)) a.runs one
              (runs-longer (entries_in lock.opening_log) (entries_in old.log) (entries_in new.log) a.runs (entries-prefix old.log new.log left) (a.are (omega (arith, small, greatest))))
              (run-longer (entries_in lock.opening_log) (entries_in worker.pass.log) (entries_in new.log) one (entries-prefix worker.pass.log new.log right) (port-run lock port clock worker done (omega (arith, small, greatest))));
          same = record { lock = met.same.lock ∙ a.same.lock; name = met.same.name ∙ a.same.name };
          draws = subst (Draws start new) turns (draws-join start old worker.pass new (turns_in a.runs) served refl refl met.draws met.greatest a.draws w.serves.draws);
          faults = subst (Faults start new) turns (faults-join start old worker.pass new (turns_in a.runs) served refl met.rises met.floor met.same.name name a.faults w.serves.faults);
          own = λ zero.
              let before : entries_in old.own ≡ added_by (turns_in a.runs) = a.own (omega (arith, zero, floor)) in
              let here : entries_in worker.pass.own ≡ added_by served = w.serves.own (omega (arith, zero, floor)) in
              ap entries_in met.own ∙ entries-append old.own worker.pass.own ∙ (λ i. before i ++ here i) ∙ sym (flat_map-append (λ (t : Turn). t.added) (turns_in a.runs) served) ∙ ap added_by turns;
          notes = subst (NotedBy share ids start new) turns (noted-join share ids start old worker.pass new (turns_in a.runs) served refl met.own left right a.notes w.serves.notes);
          most = (
              let short = few lock port clock worker done in
              let before = a.most in
              let all = ap length turns in
              omega (arith, short, before, all, length-append (turns_in a.runs) served, length-append a.runs (one ∷ []))
              );
          joined = (let p = met.joined in let q = a.joined in let r = w.serves.joined in omega (arith, p, q, r, length-append a.runs (one ∷ [])));
          totals_are = record {
            connections = (
                let before = a.totals_are.connections in
                let count = w.connections in
                omega (arith, connections, before, count, sum_by-append (λ (r : PortRun). length r.served) a.runs (one ∷ []))
                );
            frames = (
                let before = a.totals_are.frames in
                let count = w.frames in
                omega (arith, frames, before, count, sum_by-append (λ (r : PortRun). frames_of r.served) a.runs (one ∷ []))
                );
          };
        }

-- the workers of a trustee, from the ports and the clocks that they were given to the pass in which they are joined
module _ {P T C L : Type 0} (state : P → PortState) (told : C → Bool) (answers : C → ℕ → ℕ) (share : Share) (ids : Option (List (List ℕ))) (asked : ℕ) (lock : Lock Note TrusteeName) where
  abbrev pub IsRun : Worker P T C L Note TrusteeName → Worker P T C L Note TrusteeName → Type 0
  IsRun old new = IsDone share ids asked (worker_state state told answers old) (worker_state state told answers new)

  pub gathered-of : (ports nows : List P) (clocks laters : List C) (pass : Seen Note TrusteeName) (totals : Totals) → Hosted IsRun (first_pass lock) ports clocks nows laters pass totals
      → Gathered share ids asked lock pass (ports_run (map state ports) (map state nows) (map (clock_state told answers) clocks)) totals
  gathered-of ports nows clocks laters pass totals (host_first port clock worker ran) =
      gathered-one share ids asked lock (state port) (clock_state told answers clock) (worker_state state told answers worker) totals ran refl refl
  gathered-of ports nows clocks laters pass totals (host_next fronts dates afters others before sums port clock worker new rest ran joins) =
      let olds : map state (fronts ++ port ∷ []) ≡ map state fronts ++ state port ∷ [] = map-append state fronts (port ∷ []) in
      let news : map state (afters ++ worker.port ∷ []) ≡ map state afters ++ state worker.port ∷ [] = map-append state afters (worker.port ∷ []) in
      let dated : map (clock_state told answers) (dates ++ clock ∷ []) ≡ map (clock_state told answers) dates ++ clock_state told answers clock ∷ [] = map-append (clock_state told answers) dates (clock ∷ []) in
      subst (λ (run : PortsRun). Gathered share ids asked lock new run totals) (λ i. ports_run (sym olds i) (sym news i) (sym dated i))
      (gathered-more share ids asked lock before new (map state fronts) (map state afters) (map (clock_state told answers) dates) sums totals (state port) (clock_state told answers clock) (worker_state state told answers worker)
      (gathered-of fronts afters dates others before sums rest) ran joins refl refl)

  -- the workers that were made for these ports and clocks, once they were run and joined
  pub gathered-run : (ports nows : List P) (clocks laters : List C) (items slice news : List (Worker P T C L Note TrusteeName)) (len : ℕ) (pass : Seen Note TrusteeName) (totals : Totals)
      → items ≡ fresh_workers (first_pass lock) ports clocks → length items ≡ length ports → length ports ≡ length clocks → slice ≡ items → length news ≡ length slice → len ≡ length items → asked < 2 ^ 32
      → ((i : ℕ) (d : Worker P T C L Note TrusteeName) → i < length slice → Worked share ids (worker_state state told answers (get_or slice i d)) (worker_state state told answers (get_or news i d)))
      → All (λ worker. worker.connections ≤ asked) news → All (λ worker. WorkEnds asked (worker_state state told answers worker)) news
      → Joined (take len (news ++ drop (length news) items)) pass nows laters totals
      → Gathered share ids asked lock pass (ports_run (map state ports) (map state nows) (map (clock_state told answers) clocks)) totals
  gathered-run ports nows clocks laters items slice news len pass totals made many same value size count small worked most ends joined =
      gathered-of ports nows clocks laters pass totals
      (hosted-after IsRun (first_pass lock) ports clocks items slice news len pass nows laters totals made many same value size count
      (λ i d lt. record { worked = worked i d lt; small = small; most = most i d (omega (arith, lt, size)); ends = ends i d (omega (arith, lt, size)) }) joined)
