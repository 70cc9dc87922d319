use Rattle.std.proofs.Common.{[], ◌∷◌, ◌++◌, List, Some, sym, ap, ◌∙◌, subst}
use Rattle.std.proofs.lemmas.List.Elements.{All-pop}
use Rattle.node_workers.specs.Joined.{Joined}
use Rattle.node_workers.specs.Workers.{IsFree}
use Rattle.node_workers.proofs.Counting.{all-in, count-more, count-one, one-fewer, room-first, room-more, room-next, room-one, some-never}
use Rattle.node_workers.proofs.Joining.{joined-as, joined-then, split-more}
use Rattle.node_workers.proofs.Lists.{none-of}
use Rattle.node_workers.proofs.end.gather.Goals as goal

pub loop-worker-init : goal.loop-worker-init
loop-worker-init g c =
    let popped = All-pop (λ worker. IsFree c.args.lock.now worker.pass) c.args.workers.items c.pop.new.self.items (Some c.in-Some.last) c.in-Some.ensures.items c.requires.free in
    let b = c.take_apart-pass.ensures in
    let r = c.requires.ports in
    let s = c.requires.own in
    record {
      done = c.in-Some.last ∷ [];
      split = c.in-Some.ensures.items;
      joined = joined-as c.in-Some.last b.pass (b.port ∙ ap (λ (l : List _). l ++ c.in-Some.last.port ∷ []) r.0) (b.own ∙ ap (λ (l : List _). l ++ c.in-Some.last.own ∷ []) s.0) b.totals;
      free = popped.0;
      pass = subst (λ pass. IsFree c.args.lock.now pass) (sym b.pass) popped.1;
      count = count-one _ b.ports.0 r.1 c.in-Some.ensures.cases;
      counts = count-one _ b.owns.0 s.1 c.in-Some.ensures.cases;
      room = room-one _ b.ports.0 r.1 c.in-Some.ensures.cases r.2 b.ports.1;
      space = room-one _ b.owns.0 s.1 c.in-Some.ensures.cases s.2 b.owns.1;
    }

pub loop-worker-preserved : goal.loop-worker-preserved
loop-worker-preserved g c =
    let v = c.loop-worker.invariant in
    let one = c.in-Some-pop.ensures in
    let popped = All-pop (λ worker. IsFree c.args.lock.now worker.pass) c.loop-worker.workers.items c.pop-in-loop-worker.new.self.items (Some c.in-Some-pop.worker) one.items v.free in
    let e = c.take_in.ensures in
    record {
      done = c.in-Some-pop.worker ∷ v.done;
      split = split-more _ _ v.done c.pop-in-loop-worker.new.self.items c.in-Some-pop.worker v.split one.items;
      joined = joined-then c.in-Some-pop.worker v.joined e.joins e.port e.own e.totals;
      free = popped.0;
      pass = e.pass;
      count = count-more _ _ v.count e.ports.0 one.cases;
      counts = count-more _ _ v.counts e.owns.0 one.cases;
      room = room-more _ _ v.room e.ports.0 one.cases e.ports.1;
      space = room-more _ _ v.space e.owns.0 one.cases e.owns.1;
    }

pub returns-clause-joined : goal.returns-clause-joined
returns-clause-joined g c =
    let v = c.loop-worker.invariant in
    let none = none-of c.loop-worker.workers.items (sym c.loop-worker.workers.ok.0 ∙ c.in_default-pop.ensures.cases.0) in
    let all = v.split ∙ ap (λ (l : List _). l ++ v.done) none in
    subst (λ (l : List _). Joined l c.loop-worker.pass c.loop-worker.ports.items c.loop-worker.own.items c.loop-worker.totals) (sym all) v.joined

pub unreachable-requires : goal.unreachable-requires
unreachable-requires g c = some-never c.requires.some c.in_default.ensures.cases.0

pub take_apart-pass-requires-clause-room : goal.take_apart-pass-requires-clause-room
take_apart-pass-requires-clause-room g c κs within =
    let some = c.requires.some in
    (room-first c.requires.ports.1 c.requires.ports.2 some, room-first c.requires.own.1 c.requires.own.2 some)

pub take_in-requires-clause-free : goal.take_in-requires-clause-free
take_in-requires-clause-free g c κs within =
    let v = c.loop-worker.invariant in
    let popped = All-pop (λ worker. IsFree c.args.lock.now worker.pass) c.loop-worker.workers.items c.pop-in-loop-worker.new.self.items (Some c.in-Some-pop.worker) c.in-Some-pop.ensures.items v.free in
    (v.pass, popped.1)

pub take_in-requires-clause-room : goal.take_in-requires-clause-room
take_in-requires-clause-room g c κs within =
    let v = c.loop-worker.invariant in
    let one = c.in-Some-pop.ensures.cases in
    (room-next _ v.room one, room-next _ v.space one)

pub destroy_empty-requires : goal.destroy_empty-requires
destroy_empty-requires g c = c.in_default-pop.ensures.cases.1

pub returns-clause-pass : goal.returns-clause-pass
returns-clause-pass g c = c.loop-worker.invariant.pass

pub returns-clause-count : goal.returns-clause-count
returns-clause-count g c =
    let v = c.loop-worker.invariant in
    let none = c.in_default-pop.ensures.cases.0 in
    (all-in v.count none, all-in v.counts none)

pub loop-worker-smaller : goal.loop-worker-smaller
loop-worker-smaller g c = one-fewer c.loop-worker.workers.items c.pop-in-loop-worker.new.self.items c.in-Some-pop.worker c.in-Some-pop.ensures.items
