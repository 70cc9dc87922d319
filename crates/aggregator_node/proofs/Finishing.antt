-- The lock is ended.
use Rattle.std.proofs.Common.{◌≡◌, ◌+◌, ◌*◌, ◌^◌, ◌≤◌, ◌<◌, ℕ, List, Option, Some, All, length, sym, ap, ◌∙◌, subst, arith}
use Rattle.std.specs.Prelude.{count_by}
use Rattle.std.proofs.lemmas.List.{length-map}
use Rattle.aggregator_node.specs.Turns.{HasSteadyDisk}
use Rattle.aggregator_node.specs.Gathered.{Gathered}
use Rattle.aggregator_node.specs.Ports.{IsPortRun, Place, PortRun, ServedClients, requests_in}
use Rattle.leaf_table.specs.declared.lease.Lease.{Lease}
use Rattle.leaf_table.specs.declared.table.TableName.{TableName}
use Rattle.aggregator_session.specs.Desks.{DeskState}
use Rattle.aggregator_session.specs.Tables.{TableOnward, TableSeen}
use Rattle.stream_io.specs.declared.totals.Totals.{Totals}
use Rattle.node_workers.proofs.Logs.{small-ticket}
use Rattle.turn_lock.specs.Lock.{Lock}
use Rattle.turn_lock.specs.Pass.{IsWhole, Seen}

-- what a lock was made with
pub record OpenedBy (lock : Lock Lease TableName) (old : TableSeen) : Type 0 where
  pub log : lock.opening_log ≡ old.state.entries
  pub number : lock.opening_number ≡ old.faults
  pub name : lock.name ≡ Some old.name
  pub first : lock.first_ticket ≡ 0

-- what its end tells
pub record ClosedBy (lock : Lock Lease TableName) (pass : Seen Lease TableName) (new : TableSeen) : Type 0 where
  pub log : new.state.entries ≡ pass.log
  pub number : new.faults ≡ pass.floor
  pub name : Some new.name ≡ pass.name
  pub whole : IsWhole lock pass

same-name : (name other : TableName) → Some name ≡ Some other → name ≡ other
same-name name other is = cc

never-falls : (old new floor first rises : ℕ) → new ≡ floor → floor ≡ first + rises → first ≡ old → old ≤ new
never-falls old new floor first rises is rose begun = omega arith

module _ (desk : DeskState) (asked : ℕ) (lock : Lock Lease TableName) (old new : TableSeen) (pass : Seen Lease TableName) (olds news : List Place) (totals : Totals)
    (opened : OpenedBy lock old) (closed : ClosedBy lock pass new) where
  -- with so few requests, no worn ticket is drawn
  small : Gathered desk asked lock pass olds news totals → length olds ≤ 64 → pass.greatest < 2 ^ 62
  small all few =
      let most = all.done.most in
      let drawn = all.done.draws in
      let count : length all.runs ≡ length olds = sym (length-map all.runs (λ (run : PortRun). run.before)) ∙ ap length all.before in
      small-ticket lock pass (2 * length (requests_in all.runs)) closed.whole opened.first drawn
      (omega (arith, most, count, few))

  pub ends-served : Gathered desk asked lock pass olds news totals → length olds ≤ 64 → ServedClients desk asked old new olds news totals
  ends-served all few =
      let fresh = small all few in
      let number = closed.number in
      let rose = closed.whole.rises in
      let first = opened.number in
      record {
        runs = all.runs;
        before = all.before;
        after = all.after;
        are = subst (λ (name : Option TableName). All (IsPortRun desk asked name old.state.entries new.state.entries) all.runs) opened.name
            (subst (λ (l : List Lease). All (IsPortRun desk asked lock.name l new.state.entries) all.runs) opened.log
            (subst (λ (l : List Lease). All (IsPortRun desk asked lock.name lock.opening_log l) all.runs) (sym closed.log) (all.are fresh)));
        failures = record {
          rises = λ below counts. (let rises = all.done.rises (omega (arith, below, number)) counts in omega (arith, rises, number, rose, first));
          steady = λ is told exact. all.done.steady (subst HasSteadyDisk closed.name (is, told)) exact;
          worn = all.done.fresh fresh;
        };
        adds = λ zero test.
            let own = all.done.own (sym number ∙ zero) in
            ap (count_by test) closed.log ∙ closed.whole.entries test
            ∙ (λ i. count_by test (opened.log i) + count_by test (own i));
        totals_are = all.totals_are;
      }

  pub onward : Gathered desk asked lock pass olds news totals → TableOnward old new
  onward all = record {
    name = same-name new.name old.name (closed.name ∙ all.done.same.name ∙ opened.name);
    faults = never-falls old.faults new.faults pass.floor lock.opening_number pass.rises closed.number closed.whole.rises opened.number;
  }

-- as many passes as ports
pub passes-fit : {count many : ℕ} → count ≡ many → (1 ≤ many) × (many ≤ 64) → (1 ≤ count) × (count ≤ 4096)
passes-fit is some = (let least = some.0 in omega (arith, is, least), let most = some.1 in omega (arith, is, most))

-- the workers have room, and so have the ports and the cells that come back
pub room-for : {count many room : ℕ} → count ≡ many → room ≡ count → many ≤ room
room-for is exact = omega (arith, is, exact)

pub room-again : {count many old new : ℕ} → count ≡ many → new ≡ old → many ≤ old → count ≤ new
room-again is same fits = omega (arith, is, same, fits)

pub still : (old new : TableSeen) → new ≡ old → TableOnward old new
still old new is = record { name = ap (λ (t : TableSeen). t.name) is; faults = (let n = ap (λ (t : TableSeen). t.faults) is in omega (arith, n)) }
