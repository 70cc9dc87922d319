use Rattle.std.proofs.Common.{◌+◌, ◌++◌, ◌≤◌, ℕ, List, true, false, length, map, refl, sym, ap, subst, ◌∙◌, inl, inr}
use Rattle.std.proofs.lemmas.Result.{err_from_is_err_and}
use Rattle.aggregator_session.proofs.Adding.{asked-more, asked-none}
use Rattle.std.proofs.Math.Nat.{le_refl, le_trans}
use Rattle.aggregator_session.proofs.Numbers.{all-dialled, one-over, space-left}
use Rattle.aggregator_session.proofs.Refusing.{called-refused}
use Rattle.aggregator_session.proofs.Rounds.{first-done, first-ends, first-more, first-refuses, ok-is}
use Rattle.aggregator_session.proofs.Standing.{member-of, stands-first}
use Rattle.aggregator_session.proofs.Tasks.{called-as, dials-none, dials-then, frame-same, lost-as, ok-not, once-as, once-of, rises-later, rose-later, same-none, same-then}
use Rattle.aggregator_session.specs.Runs.{First, first_frame}
use Rattle.aggregator_session.specs.Tasks.{AreAsked}
use Rattle.aggregator_session.proofs.session.dial_all.Goals as goal

pub returns-in_err-dial_member-clause-run : goal.returns-in_err-dial_member-clause-run
returns-in_err-dial_member-clause-run g c =
    let v = c.members.invariant in
    let p = err_from_is_err_and c.from_residual.result c.from_residual.ensures.1 in
    let frame = first_frame c.args.session.now in
    rw (p.1, p.2) (first-ends c.args.task.now.desk.now.addresses.now frame (g.P.Port.state c.args.port.now) c.args.session.now c.args.task.now.members.now
    (g.P.Port.state c.members.port) c.members.session c.members.i 0 _ _ (g.P.Port.state c.dial_member.new.port) c.dial_member.new.session c.dial_member.result
    c.members-test.true v.run (called-as _ _ (frame-same _ _ v.same) c.dial_member.ensures.called) c.in_err-dial_member.field-0.0 c.in_err-dial_member.was)

pub returns-in_err-dial_member-clause-links : goal.returns-in_err-dial_member-clause-links
returns-in_err-dial_member-clause-links g c =
    let v = c.members.invariant in
    asked-more g.P.Link.Faults.steady g.P.Link.Sink.room _ _ _ _ v.port.onward v.links c.dial_member.ensures.links

pub returns-then-not-branch-clause-links : goal.returns-then-not-branch-clause-links
returns-then-not-branch-clause-links g c =
    let v = c.members.invariant in
    asked-more g.P.Link.Faults.steady g.P.Link.Sink.room _ _ _ _ v.port.onward v.links c.dial_member.ensures.links

pub returns-then-not-branch-clause-run : goal.returns-then-not-branch-clause-run
returns-then-not-branch-clause-run g c =
    let v = c.members.invariant in
    first-refuses c.args.task.now.desk.now.addresses.now (first_frame c.args.session.now) (g.P.Port.state c.args.port.now) c.args.session.now c.args.task.now.members.now
    (g.P.Port.state c.members.port) c.members.session c.members.i 0 _ _ (g.P.Port.state c.dial_member.new.port) c.dial_member.new.session c.dial_member.result
    c.members-test.true v.run (called-as _ _ (frame-same _ _ v.same) c.dial_member.ensures.called) (ok-is _ _ false c.in_ok-dial_member.was c.if-not-branch.true)

pub returns-then-not-branch-clause-whole : goal.returns-then-not-branch-clause-whole
returns-then-not-branch-clause-whole g c = inr (λ all.
    let v = c.members.invariant in
    let h = c.dial_member.ensures.called in
    called-refused _ _ c.members.session _ _ _ _ _ h.answer c.dial_member.result (v.same.c ∙ c.requires.task.round) h.calls h.state h.told (ok-is _ _ false c.in_ok-dial_member.was c.if-not-branch.true) all)

pub returns-clause-run : goal.returns-clause-run
returns-clause-run g c =
    let v = c.members.invariant in
    first-done c.args.task.now.desk.now.addresses.now (first_frame c.args.session.now) (g.P.Port.state c.args.port.now) c.args.session.now c.args.task.now.members.now
    (g.P.Port.state c.members.port) c.members.session c.members.i _ c.members-test.false v.run

pub members-preserved : goal.members-preserved
members-preserved g c =
    let v = c.members.invariant in
    let d = c.dial_member.ensures in
    record {
      run = first-more c.args.task.now.desk.now.addresses.now (first_frame c.args.session.now) (g.P.Port.state c.args.port.now) c.args.session.now c.args.task.now.members.now
          (g.P.Port.state c.members.port) c.members.session c.members.i 0 _ _ (g.P.Port.state c.dial_member.new.port) c.dial_member.new.session c.dial_member.result
          c.members-test.true v.run (called-as _ _ (frame-same _ _ v.same) d.called) (ok-is _ _ true c.in_ok-dial_member.was c.if-not-branch.false);
      many = c.in_ok-dial_member.ensures.room.1 ∙ ap (λ (n : ℕ). n + 1) v.many;
      room = subst (λ (n : ℕ). length c.args.task.now.members.now ≤ n) (sym d.room.0) v.room;
      links = asked-more g.P.Link.Faults.steady g.P.Link.Sink.room _ _ _ _ v.port.onward v.links d.links;
      port = dials-then _ _ _ v.port d.dials.only;
      undialled = le_trans (d.dials.once.same (ok-not _ _ _ c.in_ok-dial_member.was)) v.undialled;
      same = same-then _ _ _ v.same d.called.same;
      cells = d.cells ∙ v.cells;
    }

pub returns-in_err-dial_member-clause-dials : goal.returns-in_err-dial_member-clause-dials
returns-in_err-dial_member-clause-dials g c =
    let v = c.members.invariant in
    let p = err_from_is_err_and c.from_residual.result c.from_residual.ensures.1 in
    let d = c.dial_member.ensures.dials in
    record {
      dialled = λ lost. rose-later _ _ _ v.port.onward.count (d.dialled (lost-as _ _ _ _ _ p.1 p.2 c.in_err-dial_member.was lost));
      once = rises-later _ _ _ v.undialled (once-as _ _ _ _ _ _ c.in_err-dial_member.was (sym p.2) p.1 d.once);
      reads = λ steady lost. d.reads (v.port.onward.steady ∙ steady) (lost-as _ _ _ _ _ p.1 p.2 c.in_err-dial_member.was lost);
      writes = λ steady fits lost. d.writes (v.port.onward.steady ∙ steady) (le_trans fits v.port.onward.room) (lost-as _ _ _ _ _ p.1 p.2 c.in_err-dial_member.was lost);
      only = dials-then _ _ _ v.port d.only;
    }

pub returns-then-not-branch-clause-dials : goal.returns-then-not-branch-clause-dials
returns-then-not-branch-clause-dials g c =
    let v = c.members.invariant in
    let d = c.dial_member.ensures.dials in
    record {
      dialled = λ lost. absurd lost;
      once = rises-later _ _ _ v.undialled (once-of _ _ _ _ _ c.in_ok-dial_member.was d.once);
      reads = λ steady lost. lost;
      writes = λ steady fits lost. lost;
      only = dials-then _ _ _ v.port d.only;
    }

pub returns-clause-dials : goal.returns-clause-dials
returns-clause-dials g c =
    let v = c.members.invariant in
    record {
      dialled = λ lost. absurd lost;
      once = record { once = one-over _ _ v.undialled; same = λ _. v.undialled };
      reads = λ steady lost. lost;
      writes = λ steady fits lost. lost;
      only = v.port;
    }

pub dial_member-requires-clause-task : goal.dial_member-requires-clause-task
dial_member-requires-clause-task g c κs within =
    let v = c.members.invariant in
    stands-first _ c.args.session.now c.members.session _ _ _ _ _ _ (ap g.R.Cells.set v.cells) (ap g.R.Cells.plan v.cells) c.members.auto.room v.same c.requires.task

pub dial_member-requires-clause-member : goal.dial_member-requires-clause-member
dial_member-requires-clause-member g c κs within =
    member-of c.args.session.now c.members.session c.args.task.now.members.now c.members.i _ c.requires.task.stands.all c.members.invariant.same c.members-test.true

pub returns-in_err-dial_member-clause-same : goal.returns-in_err-dial_member-clause-same
returns-in_err-dial_member-clause-same g c = same-then _ _ _ c.members.invariant.same c.dial_member.ensures.called.same

pub returns-in_err-dial_member-clause-cells : goal.returns-in_err-dial_member-clause-cells
returns-in_err-dial_member-clause-cells g c = c.dial_member.ensures.cells ∙ c.members.invariant.cells

pub returns-then-not-branch-clause-same : goal.returns-then-not-branch-clause-same
returns-then-not-branch-clause-same g c = same-then _ _ _ c.members.invariant.same c.dial_member.ensures.called.same

pub returns-then-not-branch-clause-cells : goal.returns-then-not-branch-clause-cells
returns-then-not-branch-clause-cells g c = c.dial_member.ensures.cells ∙ c.members.invariant.cells

pub members-init : goal.members-init
members-init g c =
    let talk = g.P.Link.Stream.talk in
    let port = g.P.Port.state c.args.port.now in
    let none = c.requires.room.0 in
    record {
      run = λ rest last end run.
          subst (λ (l : List _). First c.args.task.now.desk.now.addresses.now (first_frame c.args.session.now) port c.args.session.now c.args.task.now.members.now (map talk l ++ rest) last end) (sym none) run;
      many = c.args.links.now.ok.0 ∙ ap (λ (l : List _). length l) none;
      room = c.requires.room.1;
      links = subst (λ (l : List _). AreAsked g.P.Link.Faults.steady g.P.Link.Sink.room port l) (sym none) (asked-none g.P.Link.Faults.steady g.P.Link.Sink.room port);
      port = dials-none port;
      undialled = le_refl _;
      same = same-none _ _ refl;
      cells = refl;
    }

pub returns-in_err-dial_member-clause-whole : goal.returns-in_err-dial_member-clause-whole
returns-in_err-dial_member-clause-whole g c =
    let p = err_from_is_err_and c.from_residual.result c.from_residual.ensures.1 in
    rw p.1 tt

pub returns-clause-whole : goal.returns-clause-whole
returns-clause-whole g c =
    let v = c.members.invariant in
    inl (all-dialled _ c.members.i _ v.many c.members-test.false c.members.auto.i-end)

pub returns-clause-links : goal.returns-clause-links
returns-clause-links g c = c.members.invariant.links

pub returns-clause-same : goal.returns-clause-same
returns-clause-same g c = c.members.invariant.same

pub returns-clause-cells : goal.returns-clause-cells
returns-clause-cells g c = c.members.invariant.cells

pub dial_member-requires-clause-space : goal.dial_member-requires-clause-space
dial_member-requires-clause-space g c κs within =
    let v = c.members.invariant in
    space-left _ c.members.i _ _ v.many c.members-test.true v.room
