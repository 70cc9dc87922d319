use Rattle.std.specs.Prelude.{IsSome}
use Rattle.std.proofs.Common.{List, ℕ, Option, ◌≡◌, ◌+◌, ◌≤◌, true, false, length, refl, sym, ap, subst, ◌∙◌}
use Rattle.std.proofs.lemmas.List.{length-set}
use Rattle.std.proofs.lemmas.List.Elements.{All-set}
use Rattle.std.proofs.lemmas.Result.{err_from_is_err_and}
use Rattle.aggregator_session.proofs.Frames.{asked-as, frames-of}
use Rattle.aggregator_session.proofs.Rounds.{ok-is, second-done, second-ends, second-more, second-refuses}
use Rattle.std.proofs.Math.Nat.{le_refl, le_trans}
use Rattle.aggregator_session.proofs.Numbers.{holds-behind, inside}
use Rattle.aggregator_session.proofs.Digests.{same-digest}
use Rattle.aggregator_session.proofs.Sessions.{cells-ok, err-as, exact-stays}
use Rattle.aggregator_session.proofs.Standing.{member-of, stands-as}
use Rattle.aggregator_session.proofs.Tasks.{lost-as, rose-later, same-none, same-then}
use Rattle.reference_value.proofs.Staying.{stays-then}
use Rattle.aggregator_session.proofs.session.ask_again.Goals as goal

pub returns-in_err-ask_once_more-clause-run : goal.returns-in_err-ask_once_more-clause-run
returns-in_err-ask_once_more-clause-run g c =
    let v = c.members.invariant in
    let talk = g.L.Stream.talk in
    let p = err_from_is_err_and c.from_residual.result c.from_residual.ensures.1 in
    rw (p.1, p.2) (second-ends talk (frames-of (g.R.Cells.told c.args.cells.now) (g.R.Cells.leaves c.args.cells.now) c.args.session.now c.args.task.now.message.now) c.args.task.now.members.now _ c.members.session c.members.i
    c.members.links.items c.members-test.true v.many v.run 0 c.index_mut.result.now c.ask_once_more.new.link _ c.ask_once_more.new.session c.index_mut.ensures.value refl
    c.ask_once_more.result c.in_err-ask_once_more.field-0.0 (asked-as _ _ _ _ _ v.stays.told v.stays.leaves c.ask_once_more.ensures.asked) v.same c.in_err-ask_once_more.was)

pub returns-then-not-branch-clause-run : goal.returns-then-not-branch-clause-run
returns-then-not-branch-clause-run g c =
    let v = c.members.invariant in
    let talk = g.L.Stream.talk in
    second-refuses talk (frames-of (g.R.Cells.told c.args.cells.now) (g.R.Cells.leaves c.args.cells.now) c.args.session.now c.args.task.now.message.now) c.args.task.now.members.now _ c.members.session c.members.i
    c.members.links.items c.members-test.true v.many v.run 0 c.index_mut.result.now c.ask_once_more.new.link _ c.ask_once_more.new.session c.index_mut.ensures.value refl
    c.ask_once_more.result (asked-as _ _ _ _ _ v.stays.told v.stays.leaves c.ask_once_more.ensures.asked) v.same (ok-is _ _ false c.in_ok-ask_once_more.was c.if-not-branch.true)

pub members-preserved : goal.members-preserved
members-preserved g c =
    let v = c.members.invariant in
    let talk = g.L.Stream.talk in
    let a = c.ask_once_more.ensures in
    let is_steady = λ (link : _). g.L.Faults.steady link ≡ true in
    let is_wide = λ (link : _). 92 + length c.args.task.now.message.now ≤ g.L.Sink.room link in
    record {
      run = second-more talk (frames-of (g.R.Cells.told c.args.cells.now) (g.R.Cells.leaves c.args.cells.now) c.args.session.now c.args.task.now.message.now) c.args.task.now.members.now _ c.members.session c.members.i
          c.members.links.items c.members-test.true v.many v.run 0 c.index_mut.result.now c.ask_once_more.new.link _ c.ask_once_more.new.session c.index_mut.ensures.value refl
          c.ask_once_more.result (asked-as _ _ _ _ _ v.stays.told v.stays.leaves a.asked) v.same (ok-is _ _ true c.in_ok-ask_once_more.was c.if-not-branch.false);
      many = length-set c.members.links.items c.members.i c.ask_once_more.new.link ∙ v.many;
      steady = λ all.
          let before = v.steady all in
          All-set is_steady c.members.links.items c.members.i c.ask_once_more.new.link
          (a.steady ∙ (ap (λ (l : _). g.L.Faults.steady l) c.index_mut.ensures.value ∙ before c.members.i c.index_mut.result.now (inside _ _ _ v.many c.members-test.true))) before;
      rooms = λ all. holds-behind is_wide c.members.links.items c.members.i c.ask_once_more.new.link (v.rooms all);
      same = same-then _ _ _ v.same a.same;
      count = le_trans v.count a.count;
      stays = stays-then v.stays a.cells.stays;
    }

pub returns-clause-run : goal.returns-clause-run
returns-clause-run g c =
    let v = c.members.invariant in
    second-done g.L.Stream.talk (frames-of (g.R.Cells.told c.args.cells.now) (g.R.Cells.leaves c.args.cells.now) c.args.session.now c.args.task.now.message.now) c.args.task.now.members.now _ c.members.session c.members.i
    c.members.links.items c.members-test.false v.many v.run

pub returns-in_err-ask_once_more-clause-links : goal.returns-in_err-ask_once_more-clause-links
returns-in_err-ask_once_more-clause-links g c =
    let v = c.members.invariant in
    let p = err_from_is_err_and c.from_residual.result c.from_residual.ensures.1 in
    let is_wide = λ (link : _). 92 + length c.args.task.now.message.now ≤ g.L.Sink.room link in
    let value = c.index_mut.ensures.value in
    let lt = inside _ _ _ v.many c.members-test.true in
    let links = c.ask_once_more.ensures.links in
    record {
      dialled = λ lost. links.dialled (lost-as _ _ _ _ _ p.1 p.2 c.in_err-ask_once_more.was lost);
      reads = λ all lost. links.reads (ap (λ (l : _). g.L.Faults.steady l) value ∙ v.steady all c.members.i c.index_mut.result.now lt)
          (lost-as _ _ _ _ _ p.1 p.2 c.in_err-ask_once_more.was lost);
      writes = λ all wide lost. links.writes (ap (λ (l : _). g.L.Faults.steady l) value ∙ v.steady all c.members.i c.index_mut.result.now lt)
          (subst is_wide (sym value) (v.rooms wide c.members.i c.index_mut.result.now (le_refl _) lt))
          (lost-as _ _ _ _ _ p.1 p.2 c.in_err-ask_once_more.was lost);
    }

pub ask_once_more-requires-clause-task : goal.ask_once_more-requires-clause-task
ask_once_more-requires-clause-task g c =
    let v = c.members.invariant in
    let all = c.requires.task in
    record {
      stands = stands-as _ c.args.session.now c.members.session _ _ _ _ _ _ v.stays.set v.stays.plan c.members.auto.room v.same all.stands;
      round = subst (λ (o : Option (List ℕ)). IsSome o) (sym v.same.c) all.round;
      digest_is = all.digest_is ∙ same-digest _ _ _ v.same;
    }

pub ask_once_more-requires-clause-member : goal.ask_once_more-requires-clause-member
ask_once_more-requires-clause-member g c =
    member-of c.args.session.now c.members.session c.args.task.now.members.now c.members.i _ c.requires.task.stands.all c.members.invariant.same c.members-test.true

pub returns-in_err-ask_once_more-clause-same : goal.returns-in_err-ask_once_more-clause-same
returns-in_err-ask_once_more-clause-same g c = same-then _ _ _ c.members.invariant.same c.ask_once_more.ensures.same

pub returns-then-not-branch-clause-same : goal.returns-then-not-branch-clause-same
returns-then-not-branch-clause-same g c = same-then _ _ _ c.members.invariant.same c.ask_once_more.ensures.same

pub returns-in_err-ask_once_more-clause-cells : goal.returns-in_err-ask_once_more-clause-cells
returns-in_err-ask_once_more-clause-cells g c =
    let v = c.members.invariant in
    let p = err_from_is_err_and c.from_residual.result c.from_residual.ensures.1 in
    let a = c.ask_once_more.ensures.cells in
    record {
      rises = λ is. rose-later _ _ _ v.count (a.rises (err-as _ _ _ _ _ p.1 p.2 c.in_err-ask_once_more.was is));
      succeeds = λ exact is. a.succeeds (exact-stays v.stays exact) (err-as _ _ _ _ _ p.1 p.2 c.in_err-ask_once_more.was is);
      stays = stays-then v.stays a.stays;
    }

pub returns-then-not-branch-clause-cells : goal.returns-then-not-branch-clause-cells
returns-then-not-branch-clause-cells g c =
    cells-ok _ (stays-then c.members.invariant.stays c.ask_once_more.ensures.cells.stays)

pub returns-clause-cells : goal.returns-clause-cells
returns-clause-cells g c = cells-ok _ c.members.invariant.stays

pub members-init : goal.members-init
members-init g c = record {
  run = λ news last end run. run;
  many = sym c.args.links.now.ok.0 ∙ c.requires.links;
  steady = λ all. all;
  rooms = λ all k d low lt. all k d lt;
  same = same-none _ _ refl;
  count = le_refl _;
  stays = record { set = refl; plan = refl; told = refl; steady = refl; leaves = λ told. refl };
}

pub returns-then-not-branch-clause-links : goal.returns-then-not-branch-clause-links
returns-then-not-branch-clause-links g c = record { dialled = λ lost. lost; reads = λ all lost. lost; writes = λ all wide lost. lost }

pub returns-clause-links : goal.returns-clause-links
returns-clause-links g c = record { dialled = λ lost. lost; reads = λ all lost. lost; writes = λ all wide lost. lost }

pub returns-in_err-ask_once_more-clause-count : goal.returns-in_err-ask_once_more-clause-count
returns-in_err-ask_once_more-clause-count g c = le_trans c.members.invariant.count c.ask_once_more.ensures.count

pub returns-then-not-branch-clause-count : goal.returns-then-not-branch-clause-count
returns-then-not-branch-clause-count g c = le_trans c.members.invariant.count c.ask_once_more.ensures.count

pub returns-clause-count : goal.returns-clause-count
returns-clause-count g c = c.members.invariant.count

pub returns-clause-same : goal.returns-clause-same
returns-clause-same g c = c.members.invariant.same
