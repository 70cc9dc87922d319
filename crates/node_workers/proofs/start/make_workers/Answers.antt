use Rattle.std.proofs.Common.{◌≡◌, [], ◌∷◌, ◌++◌, List, Some, length, refl, sym, ap, ◌∙◌, arith, append_assoc, append-nil}
use Rattle.std.proofs.lemmas.List.Elements.{All-pop}
use Rattle.node_workers.specs.Starting.{fresh_worker, fresh_workers}
use Rattle.node_workers.proofs.Lists.{none-of}
use Rattle.node_workers.proofs.Starting.{fresh-last}
use Rattle.turn_lock.specs.Pass.{first_pass}
use Rattle.node_workers.proofs.start.make_workers.Goals as goal

pub loop-port-init : goal.loop-port-init
loop-port-init g c = record {
  workers = ap (λ (l : List _). l ++ fresh_workers (first_pass c.args.lock.now) c.args.ports.now.items c.args.own.now.items) (sym c.requires.room.0);
  first = c.requires.first;
  many = c.requires.many.0;
  passes = c.requires.many.1;
  count = (let e = c.requires.room.1 in omega (arith, e));
  room = c.requires.room.2;
  home = refl;
  back = refl;
}

pub loop-port-preserved : goal.loop-port-preserved
loop-port-preserved g c =
    let v = c.loop-port.invariant in
    let start = first_pass c.args.lock.now in
    let popped = All-pop (λ pass. pass ≡ start) c.loop-port.passes.items c.pop-in-Some-2.new.self.items (Some c.in-Some-pop-2.pass) c.in-Some-pop-2.ensures.items v.first in
    let ports = c.pop.new.self.items in
    let own = c.pop-in-Some.new.self.items in
    let same : length ports ≡ length own =
    let a = c.pop.new.self.ok.0 in
    let b = c.pop-in-Some.new.self.ok.0 in
    let m = v.many in
    let p = c.in-Some.ensures.len in
    let q = c.in-Some-pop.ensures.len in
    omega (arith, a, b, m, p, q) in
    let split : fresh_workers start c.loop-port.ports.items c.loop-port.own.items ≡ fresh_worker start c.in-Some.port c.in-Some-pop.one ∷ fresh_workers start ports own =
    (λ i. fresh_workers start (c.in-Some.ensures.items i) (c.in-Some-pop.ensures.items i)) ∙ fresh-last start ports own c.in-Some.port c.in-Some-pop.one same in
    record {
      workers = v.workers ∙ ap (λ (l : List _). c.loop-port.workers.items ++ l) split
          ∙ sym (append_assoc c.loop-port.workers.items (fresh_worker start c.in-Some.port c.in-Some-pop.one ∷ []) (fresh_workers start ports own))
          ∙ ap (λ (l : List _). l ++ fresh_workers start ports own)
          (ap (λ pass. c.loop-port.workers.items ++ fresh_worker pass c.in-Some.port c.in-Some-pop.one ∷ []) (sym popped.1) ∙ sym c.push_reserved.ensures.items);
      first = popped.0;
      many = (let e = v.many in let p = c.in-Some.ensures.len in let q = c.in-Some-pop.ensures.len in omega (arith, e, p, q));
      passes = (let e = v.passes in let p = c.in-Some.ensures.len in let q = c.in-Some-pop-2.ensures.len in omega (arith, e, p, q));
      count = (let e = v.count in let p = c.in-Some.ensures.len in let q = c.push_reserved.ensures.len in omega (arith, e, p, q));
      room = (let e = v.room in let p = c.push_reserved.ensures.capacity in omega (arith, e, p));
      home = (let e = v.home in let p = c.in-Some.ensures.capacity in omega (arith, e, p));
      back = (let e = v.back in let p = c.in-Some-pop.ensures.capacity in omega (arith, e, p));
    }

pub returns-clause-workers : goal.returns-clause-workers
unfolding fresh_workers
returns-clause-workers g c =
    let start = first_pass c.args.lock.now in
    let empty = c.in_default.ensures.cases.0 in
    let none = none-of c.loop-port.ports.items (let n = c.loop-port.ports.ok.0 in omega (arith, n, empty)) in
    sym (c.loop-port.invariant.workers ∙ ap (λ (l : List _). c.loop-port.workers.items ++ fresh_workers start l c.loop-port.own.items) none ∙ append-nil c.loop-port.workers.items)

pub returns-clause-count : goal.returns-clause-count
returns-clause-count g c = (let n = c.loop-port.invariant.count in let e = c.in_default.ensures.cases.0 in omega (arith, n, e))

pub returns-clause-taken : goal.returns-clause-taken
returns-clause-taken g c =
    let empty = c.in_default.ensures.cases.1 in
    let zero = c.in_default.ensures.cases.0 in
    let many = c.loop-port.invariant.many in (
      (none-of c.pop.new.self.items (let n = c.pop.new.self.ok.0 in omega (arith, n, empty)), empty),
      (none-of c.loop-port.own.items (let n = c.loop-port.own.ok.0 in omega (arith, n, many, zero)), omega (arith, many, zero)),
    )

pub returns-clause-home : goal.returns-clause-home
returns-clause-home g c =
    (let h = c.loop-port.invariant.home in let e = c.in_default.ensures.capacity in omega (arith, h, e), c.loop-port.invariant.back)
