use Rattle.std.proofs.Common.{◌≡◌, ◌≤◌, ◌∙◌, ℕ, length, refl, sym, ap, subst}
use Rattle.aggregator_node.specs.Gathered.{Gathered}
use Rattle.aggregator_node.specs.Ports.{places_of}
use Rattle.aggregator_node.proofs.Finishing.{ClosedBy, OpenedBy, ends-served, onward, passes-fit, room-again, room-for, still}
use Rattle.aggregator_node.proofs.Gathering.{gathered-run}
use Rattle.aggregator_node.proofs.Running.{joined-all, ready-begun}
use Rattle.aggregator_node.proofs.Standing.{places-many}
use Rattle.aggregator_session.specs.Desks.{desk_state}
use Rattle.node_workers.specs.Workers.{IsFree}
use Rattle.node_workers.proofs.Lists.{written-all}
use Rattle.aggregator_session.specs.Tables.{name_of, table_seen}
use Rattle.aggregator_node.proofs.service.serve_clients.Goals as goal

pub run_workers-requires-clause-ready : goal.run_workers-requires-clause-ready
run_workers-requires-clause-ready g c κs within =
    let made = c.make_workers-workers in
    ready-begun g.X.Cells c.args.desk.now c.in-Ok-new.made.0 (name_of c.args.table) c.args.ports.now.items c.args.cells.now.items made.result.items c.as_mut_slice.result.now
    c.in-Ok-new.ensures.opening.2 c.requires.plan c.requires.cells made.ensures.workers c.as_mut_slice.ensures.value

pub gather-pass-requires-clause-free : goal.gather-pass-requires-clause-free
gather-pass-requires-clause-free g c κs within =
    let workers = c.make_workers-workers.result in
    written-all (λ worker. IsFree c.in-Ok-new.made.0 worker.pass) workers.items c.as_mut_slice.result.now c.run_workers.new.workers workers.len c.as_mut_slice.ensures.value
    c.run_workers.auto.workers workers.ok.0 (λ k d lt. let is = (c.run_workers.ensures.ready k d lt).idle in (is.0, is.1))

pub close-requires-clause-all : goal.close-requires-clause-all
close-requires-clause-all g c =
    let ports = c.args.ports.now in
    let cells = c.args.cells.now in
    let same : length ports.items ≡ length cells.items = sym ports.ok.0 ∙ sym c.requires.many ∙ cells.ok.0 in
    let made = c.make_workers-workers in
    let e = c.run_workers.ensures in
    joined-all (desk_state c.args.desk.now) c.args.connections c.in-Ok-new.made.0 c.gather-pass.result.0 _ _ c.gather-pass.result.1
    (gathered-run g.P.Port.state g.X.Cells g.X.Faults (desk_state c.args.desk.now) c.args.connections c.in-Ok-new.made.0
    ports.items c.gather-pass.new.ports.items cells.items c.gather-pass.new.own.items made.result.items c.as_mut_slice.result.now c.run_workers.new.workers made.result.len
    c.gather-pass.result.0 c.gather-pass.result.1 made.ensures.workers (sym made.result.ok.0 ∙ made.ensures.count ∙ ports.ok.0)
    same c.as_mut_slice.ensures.value c.run_workers.auto.workers made.result.ok.0 c.ranges.connections.fits
    e.worked e.most e.ends c.gather-pass.ensures.joined)
    ∙ places-many g.X.Cells g.X.Faults g.P.Port.state ports.items cells.items same ∙ sym ports.ok.0 ∙ sym c.len-count.ensures ∙ sym c.in-Ok-new.ensures.numbers.1

-- what the workers left, the lock as it was made, and the lock as it was ended
record Left (g : _) (c : goal.After-close g) : Type 0 where
  gathered : Gathered (desk_state c.args.desk.now) c.args.connections c.in-Ok-new.made.0 c.gather-pass.result.0
      (places_of g.X.Cells g.X.Faults g.P.Port.state c.args.ports.now.items c.args.cells.now.items)
      (places_of g.X.Cells g.X.Faults g.P.Port.state c.gather-pass.new.ports.items c.gather-pass.new.own.items) c.gather-pass.result.1
  opened : OpenedBy c.in-Ok-new.made.0 (table_seen c.args.table)
  closed : ClosedBy c.in-Ok-new.made.0 c.gather-pass.result.0 (table_seen c.close.result)

left : (g : _) (c : goal.After-close g) → Left g c
left g c =
    let ports = c.args.ports.now in
    let cells = c.args.cells.now in
    let same : length ports.items ≡ length cells.items = sym ports.ok.0 ∙ sym c.requires.many ∙ cells.ok.0 in
    let made = c.make_workers-workers in
    let e = c.run_workers.ensures in
    let opening = c.in-Ok-new.ensures.opening in
    let end = c.close.ensures in
    record {
      gathered = gathered-run g.P.Port.state g.X.Cells g.X.Faults (desk_state c.args.desk.now) c.args.connections c.in-Ok-new.made.0
          ports.items c.gather-pass.new.ports.items cells.items c.gather-pass.new.own.items made.result.items c.as_mut_slice.result.now c.run_workers.new.workers made.result.len
          c.gather-pass.result.0 c.gather-pass.result.1 made.ensures.workers (sym made.result.ok.0 ∙ made.ensures.count ∙ ports.ok.0)
          same c.as_mut_slice.ensures.value c.run_workers.auto.workers made.result.ok.0 c.ranges.connections.fits
          e.worked e.most e.ends c.gather-pass.ensures.joined;
      opened = record { log = opening.0; number = opening.1; name = opening.2; first = c.in-Ok-new.ensures.numbers.0 };
      closed = record { log = end.log; number = end.number; name = end.named; whole = end.whole };
    }

pub returns-clause-served : goal.returns-clause-served
returns-clause-served g c =
    let ports = c.args.ports.now in
    let cells = c.args.cells.now in
    let all = left g c in
    let many = places-many g.X.Cells g.X.Faults g.P.Port.state ports.items cells.items (sym ports.ok.0 ∙ sym c.requires.many ∙ cells.ok.0) in
    ends-served (desk_state c.args.desk.now) c.args.connections c.in-Ok-new.made.0 (table_seen c.args.table) (table_seen c.close.result) c.gather-pass.result.0 _ _ c.gather-pass.result.1
    all.opened all.closed all.gathered (subst (λ (n : ℕ). n ≤ 64) (ports.ok.0 ∙ sym many) c.requires.ports.1)

pub returns-clause-onward : goal.returns-clause-onward
returns-clause-onward g c =
    let all = left g c in
    onward (desk_state c.args.desk.now) c.args.connections c.in-Ok-new.made.0 (table_seen c.args.table) (table_seen c.close.result) c.gather-pass.result.0 _ _ c.gather-pass.result.1
    all.opened all.closed all.gathered

pub new-requires-clause-passes : goal.new-requires-clause-passes
new-requires-clause-passes g c = passes-fit c.len-count.ensures c.requires.ports

pub close-requires-clause-lock : goal.close-requires-clause-lock
close-requires-clause-lock g c = c.gather-pass.ensures.pass.0

pub close-requires-clause-idle : goal.close-requires-clause-idle
close-requires-clause-idle g c = c.gather-pass.ensures.pass.1

pub returns-clause-count : goal.returns-clause-count
returns-clause-count g c =
    let count = c.gather-pass.ensures.count in
    let made = c.make_workers-workers.ensures.count in
    (count.0 ∙ made, count.1 ∙ made ∙ sym c.requires.many)

pub returns-in_default-clause-refused : goal.returns-in_default-clause-refused
returns-in_default-clause-refused g c = (refl, refl, refl)

pub returns-in_default-clause-count : goal.returns-in_default-clause-count
returns-in_default-clause-count g c = (refl, refl)

pub returns-in-Err-clause-count : goal.returns-in-Err-clause-count
returns-in-Err-clause-count g c = (refl, refl)

pub returns-in_default-clause-onward : goal.returns-in_default-clause-onward
returns-in_default-clause-onward g c = still (table_seen c.args.table) (table_seen c.args.table) refl

pub destroy_empty-requires : goal.destroy_empty-requires
destroy_empty-requires g c = c.in-Ok.ensures.len

pub returns-in-Err-clause-refused : goal.returns-in-Err-clause-refused
returns-in-Err-clause-refused g c = (c.in-Err.ensures.refused, refl, refl)

pub returns-in-Err-clause-onward : goal.returns-in-Err-clause-onward
returns-in-Err-clause-onward g c = still (table_seen c.args.table) (table_seen c.in-Err.table) (ap (λ table. table_seen table) c.in-Err.ensures.refused)

pub make_workers-workers-requires-clause-many : goal.make_workers-workers-requires-clause-many
make_workers-workers-requires-clause-many g c κs within = (c.requires.many, c.in-Ok-new.ensures.count ∙ c.len-count.ensures)

pub make_workers-workers-requires-clause-first : goal.make_workers-workers-requires-clause-first
make_workers-workers-requires-clause-first g c κs within = c.in-Ok-new.ensures.passes

pub make_workers-workers-requires-clause-room : goal.make_workers-workers-requires-clause-room
make_workers-workers-requires-clause-room g c κs within =
    let room = c.in-Ok.ensures in
    (room.items, room.len, room-for c.len-count.ensures room.exact)

pub gather-pass-requires-clause-some : goal.gather-pass-requires-clause-some
gather-pass-requires-clause-some g c κs within = subst (λ (n : ℕ). 1 ≤ n) (sym c.make_workers-workers.ensures.count) c.requires.ports.0

pub gather-pass-requires-clause-ports : goal.gather-pass-requires-clause-ports
gather-pass-requires-clause-ports g c κs within =
    let made = c.make_workers-workers.ensures in
    (made.taken.0.0, made.taken.0.1, room-again made.count made.home.0 c.args.ports.now.ok.1)

pub gather-pass-requires-clause-own : goal.gather-pass-requires-clause-own
gather-pass-requires-clause-own g c κs within =
    let made = c.make_workers-workers.ensures in
    (made.taken.1.0, made.taken.1.1, room-again (made.count ∙ sym c.requires.many) made.home.1 c.args.cells.now.ok.1)
