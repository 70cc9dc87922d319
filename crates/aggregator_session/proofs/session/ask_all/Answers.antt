use Rattle.std.specs.Prelude.{IfSome, IsSome}
use Rattle.std.proofs.Common.{◌≡◌, Option, length, ℕ, List, [], Result, Err, sym, ap, subst, ◌∙◌, inl, inr}
use Rattle.std.specs.declared.alloc.Global.{Global}
use Rattle.std.specs.declared.vec.Vec.{Vec}
use Rattle.std.proofs.lemmas.Bool.{false≢true}
use Rattle.std.proofs.lemmas.List.{length-map}
use Rattle.std.proofs.lemmas.Result.{err_from_is_err_and}
use Rattle.session_core.specs.State.{State}
use Rattle.session_core.specs.declared.faults.SessionFault.TheVariants.{Reference}
use Rattle.aggregator_session.proofs.Standing.{round-turned, same-asked, same-turned, stands-again, stands-as}
use Rattle.aggregator_session.specs.Desks.{DeskState}
use Rattle.aggregator_session.specs.Runs.{CellsRead, SameSession, SignRun, bytes_in, judged_in_one, judged_in_two, lost_in_one, lost_in_two, signed}
use Rattle.aggregator_session.specs.declared.fault.SignFault.{SignFault}
use Rattle.stream_io.specs.Net.{PortState}
use Rattle.stream_io.specs.Talk.{Talk}
use Rattle.std.proofs.Math.Nat.{le_refl, le_trans}
use Rattle.aggregator_session.proofs.Numbers.{count-on, first-fits, ok-err, second-fits}
use Rattle.aggregator_session.proofs.Tasks.{dials-on, judged-none, lost-as, once-as, once-of, rose-later}
use Rattle.aggregator_session.proofs.Sessions.{cells-ok, count-as, err-as, exact-as, exact-stays, fails-as, fails-reference, first-as, first-not, none-of, opens-by, run-as, same-err, second-end, sign-reference, stays-same, stops-later, stops-reference, whole-as}
use Rattle.reference_value.proofs.Staying.{stays-as, stays-then}
use Rattle.lms_bytes.specs.declared.public_key.PublicKey.{PublicKey}
use Rattle.session_core.specs.Verdicts.{digest_of, joined_bytes}
use Rattle.session_core.specs.Dealing.{IsAnswered}
use Rattle.aggregator_session.proofs.Digests.{same-digest}
use Rattle.aggregator_session.proofs.session.ask_all.Goals as goal

-- a run that ends with a fault, told as the call's answer
module _ {desk : DeskState} {reads : CellsRead} {message : List ℕ} {port : PortState} {s last : State} {talks : List Talk} where
  run-err : (result : Result (Vec ℕ Global) SignFault) (other fault : SignFault) → result ≡ Err other → other ≡ fault → SignRun desk reads message port s talks last (Err fault)
      → SignRun desk reads message port s talks last (bytes_in result)
  run-err result other fault is same run =
      subst (λ (r : Result (Vec ℕ Global) SignFault). SignRun desk reads message port s talks last (bytes_in r)) (sym is)
      (subst (λ (f : SignFault). SignRun desk reads message port s talks last (Err f)) (sym same) run)

pub returns-in_err-dial_all-clause-run : goal.returns-in_err-dial_all-clause-run
returns-in_err-dial_all-clause-run g c =
    let p = err_from_is_err_and c.from_residual.result c.from_residual.ensures.1 in
    run-err c.from_residual.result p.0 _ p.1 p.2 (lost_in_one _ c.dial_all.new.session c.in_err-dial_all.field-0.0
    (first-as _ _ _ c.args.session.now _ _ _ _ _ _ c.requires.task.stands.all c.in_err-dial_all.was c.dial_all.ensures.run))

pub returns-in_err-turn-clause-run : goal.returns-in_err-turn-clause-run
returns-in_err-turn-clause-run g c =
    let p = err_from_is_err_and c.from_residual-in_err-turn.result c.from_residual-in_err-turn.ensures.1 in
    let count = g.R.Faults.count in
    let same = ap count c.dial_all.ensures.cells in
    run-err c.from_residual-in_err-turn.result p.0 _ p.1 p.2 (run-as c.dial_all.new.session c.turn.new.self c.in_err-turn.ensures.same
    (judged_in_one _ c.dial_all.new.session c.in_err-turn.field-0.0
    (first-as _ _ _ c.args.session.now _ _ _ _ _ _ c.requires.task.stands.all c.in_ok-dial_all.was c.dial_all.ensures.run)
    (stops-later _ [] _ _ _ _ (count-as _ _ same) c.in_err-turn.ensures.cause)))

pub returns-in_err-ask_again-clause-run : goal.returns-in_err-ask_again-clause-run
returns-in_err-ask_again-clause-run g c =
    let p = err_from_is_err_and c.from_residual-in_err-ask_again.result c.from_residual-in_err-ask_again.ensures.1 in
    let d = c.dial_all.ensures in
    let t = c.in_ok-turn.ensures in
    let many = length-map c.dial_all.new.links.items g.P.Link.Stream.talk ∙ sym c.dial_all.new.links.ok.0 in
    let stays = stays-as d.cells t.onward.stays in
    run-err c.from_residual-in_err-ask_again.result p.0 _ p.1 p.2 (lost_in_two _ _ c.turn.new.self c.ask_again.new.session c.in_err-ask_again.field-0.0
    (opens-by g.R.Cells d.cells c.args.session.now c.dial_all.new.session c.turn.new.self c.requires.task.stands.all
    d.run c.in_ok-dial_all.was c.in_ok-dial_all.ensures.whole many t.turns)
    (second-end _ _ _ _ _ _ _ _ stays.told stays.leaves c.requires.task.stands.all c.in_err-ask_again.was c.ask_again.ensures.run))

pub finish_with-requires-clause-digest : goal.finish_with-requires-clause-digest
finish_with-requires-clause-digest g c =
    let a = c.ask_again.ensures in
    let digest = c.digest-digest.ensures.digest ∙ same-digest c.turn.new.self c.ask_again.new.session c.args.task.now.message.now a.same in
    (c.args.task.now.message.now, digest)

pub returns-in_err-finish_with-clause-run : goal.returns-in_err-finish_with-clause-run
returns-in_err-finish_with-clause-run g c =
    let p = err_from_is_err_and c.from_residual-in_err-finish_with.result c.from_residual-in_err-finish_with.ensures.1 in
    let d = c.dial_all.ensures in
    let t = c.in_ok-turn.ensures in
    let a = c.ask_again.ensures in
    let many = length-map c.dial_all.new.links.items g.P.Link.Stream.talk ∙ sym c.dial_all.new.links.ok.0 in
    let stays = stays-as d.cells t.onward.stays in
    let later = stays-then stays a.cells.stays in
    let count = g.R.Faults.count in
    let le = le_trans (count-on _ _ _ (ap count d.cells) t.onward.count) a.count in
    let digest = c.digest-digest.ensures.digest ∙ same-digest c.turn.new.self c.ask_again.new.session c.args.task.now.message.now a.same in
    run-err c.from_residual-in_err-finish_with.result p.0 _ p.1 p.2 (judged_in_two _ _ c.turn.new.self c.ask_again.new.session c.in_err-finish_with.field-0.0
    (opens-by g.R.Cells d.cells c.args.session.now c.dial_all.new.session c.turn.new.self c.requires.task.stands.all
    d.run c.in_ok-dial_all.was c.in_ok-dial_all.ensures.whole many t.turns)
    (second-end _ _ _ _ _ _ _ _ stays.told stays.leaves c.requires.task.stands.all c.in_ok-ask_again.was a.run)
    (fails-as _ c.args.task.now.message.now c.args.task.now.desk.now.tree.now _ _ _ _ _ _ _ _ later.told later.leaves le (c.in_err-finish_with.ensures.finishes c.args.task.now.message.now digest).joins.cause))

pub returns-clause-run : goal.returns-clause-run
returns-clause-run g c =
    let d = c.dial_all.ensures in
    let t = c.in_ok-turn.ensures in
    let a = c.ask_again.ensures in
    let f = c.in_ok-finish_with.ensures in
    let many = length-map c.dial_all.new.links.items g.P.Link.Stream.talk ∙ sym c.dial_all.new.links.ok.0 in
    let stays = stays-as d.cells t.onward.stays in
    let later = stays-then stays a.cells.stays in
    let message = c.args.task.now.message.now in
    let tree = c.args.task.now.desk.now.tree.now in
    let kept = c.ask_again.new.session in
    let digest = c.digest-digest.ensures.digest ∙ same-digest c.turn.new.self c.ask_again.new.session c.args.task.now.message.now a.same in
    let done = f.finishes message digest in
    signed _ _ c.turn.new.self kept _
    (opens-by g.R.Cells d.cells c.args.session.now c.dial_all.new.session c.turn.new.self c.requires.task.stands.all
    d.run c.in_ok-dial_all.was c.in_ok-dial_all.ensures.whole many t.turns)
    (second-end _ _ _ _ _ _ _ _ stays.told stays.leaves c.requires.task.stands.all c.in_ok-ask_again.was a.run)
    (record {
      faultless = none-of _ (λ fault some. let no = (c.finish_with.ensures.finishes message digest).joins.fault fault some in ok-err _ _ _ c.in_ok-finish_with.was no);
      accepted = done.joins.accepted;
      joined = λ told. done.joins.joined (later.told ∙ told) ∙ ap (λ (l : List ℕ). joined_bytes kept l tree message) (later.leaves told);
      dealt = λ told d key answered. done.dealt d key (later.told ∙ told)
          (subst (λ (l : List ℕ). IsAnswered d key kept (digest_of kept message) l tree) (sym (later.leaves told)) answered);
    })

pub returns-in_err-dial_all-clause-cells : goal.returns-in_err-dial_all-clause-cells
returns-in_err-dial_all-clause-cells g c =
    let p = err_from_is_err_and c.from_residual.result c.from_residual.ensures.1 in
    let d = c.dial_all.ensures in
    record {
      rises = λ is. absurd (first-not _ _ _ _ _ _ _ _ Reference d.run (err-as _ _ _ _ _ p.1 p.2 c.in_err-dial_all.was is));
      succeeds = λ exact is. first-not _ _ _ _ _ _ _ _ Reference d.run (err-as _ _ _ _ _ p.1 p.2 c.in_err-dial_all.was is);
      stays = stays-same d.cells;
    }

pub returns-in_err-turn-clause-cells : goal.returns-in_err-turn-clause-cells
returns-in_err-turn-clause-cells g c =
    let p = err_from_is_err_and c.from_residual-in_err-turn.result c.from_residual-in_err-turn.ensures.1 in
    let d = c.dial_all.ensures in
    let t = c.in_err-turn.ensures in
    let count = g.R.Faults.count in
    record {
      rises = λ is.
          let both = stops-reference _ [] _ _ _ t.cause (same-err _ _ _ _ p.1 p.2 is) in
          rose-later _ _ _ (count-as _ _ (ap count d.cells)) both.1;
      succeeds = λ exact is.
          let both = stops-reference _ [] _ _ _ t.cause (same-err _ _ _ _ p.1 p.2 is) in
          let e = exact-as d.cells exact in
          let set = ap g.R.Cells.set d.cells ∙ (c.requires.task.stands.set ∙ ap (λ (k : PublicKey). k.params) (sym d.same.key)) in
          let plan = ap g.R.Cells.plan d.cells ∙ (c.requires.task.stands.plan ∙ sym d.same.plan) in
          false≢true (t.succeeds (record { steady = e.steady; told = e.told; whole = whole-as _ _ _ _ _ e.whole set plan }) both.0);
      stays = stays-as d.cells t.onward.stays;
    }

pub returns-in_err-ask_again-clause-cells : goal.returns-in_err-ask_again-clause-cells
returns-in_err-ask_again-clause-cells g c =
    let p = err_from_is_err_and c.from_residual-in_err-ask_again.result c.from_residual-in_err-ask_again.ensures.1 in
    let d = c.dial_all.ensures in
    let t = c.in_ok-turn.ensures.onward in
    let a = c.ask_again.ensures.cells in
    let stays = stays-as d.cells t.stays in
    let count = g.R.Faults.count in
    record {
      rises = λ is.
          rose-later _ _ _ (count-on _ _ _ (ap count d.cells) t.count)
          (a.rises (err-as _ _ _ _ _ p.1 p.2 c.in_err-ask_again.was is));
      succeeds = λ exact is. a.succeeds (exact-stays stays exact) (err-as _ _ _ _ _ p.1 p.2 c.in_err-ask_again.was is);
      stays = stays-then stays a.stays;
    }

pub returns-in_err-finish_with-clause-cells : goal.returns-in_err-finish_with-clause-cells
returns-in_err-finish_with-clause-cells g c =
    let p = err_from_is_err_and c.from_residual-in_err-finish_with.result c.from_residual-in_err-finish_with.ensures.1 in
    let d = c.dial_all.ensures in
    let t = c.in_ok-turn.ensures in
    let a = c.ask_again.ensures in
    let f = c.in_err-finish_with.ensures in
    let count = g.R.Faults.count in
    let le = le_trans (count-on _ _ _ (ap count d.cells) t.onward.count) a.count in
    let digest = c.digest-digest.ensures.digest ∙ same-digest c.turn.new.self c.ask_again.new.session c.args.task.now.message.now a.same in
    let joins = (f.finishes c.args.task.now.message.now digest).joins in
    let stays = stays-then (stays-as d.cells t.onward.stays) a.cells.stays in
    record {
      rises = λ is.
          let both = fails-reference _ c.args.task.now.message.now _ _ _ _ _ joins.cause (same-err _ _ _ _ p.1 p.2 is) in
          rose-later _ _ _ le both.1;
      succeeds = λ exact is.
          let e = exact-stays stays exact in
          let key = a.same.key ∙ (ap (λ (x : State). x.key) t.turns.turned.same ∙ d.same.key) in
          let plans = a.same.plan ∙ (ap (λ (x : State). x.plan) t.turns.turned.same ∙ d.same.plan) in
          let set = stays.set ∙ (c.requires.task.stands.set ∙ ap (λ (k : PublicKey). k.params) (sym key)) in
          let plan = stays.plan ∙ (c.requires.task.stands.plan ∙ sym plans) in
          let reference = same-err _ _ _ _ p.1 p.2 is in
          let both = fails-reference _ c.args.task.now.message.now _ _ _ _ _ joins.cause reference in
          joins.read (record { steady = e.steady; told = e.told; whole = whole-as _ _ _ _ _ e.whole set plan }) both.0 (sign-reference _ reference);
      stays = stays-then stays f.onward.stays;
    }

pub returns-clause-cells : goal.returns-clause-cells
returns-clause-cells g c =
    let stays = stays-as c.dial_all.ensures.cells c.in_ok-turn.ensures.onward.stays in
    cells-ok _ (stays-then (stays-then stays c.ask_again.ensures.cells.stays) c.in_ok-finish_with.ensures.onward.stays)

pub returns-clause-count : goal.returns-clause-count
returns-clause-count g c =
    let turned = count-on _ _ _ (ap g.R.Faults.count c.dial_all.ensures.cells) c.in_ok-turn.ensures.onward.count in
    le_trans (le_trans turned c.ask_again.ensures.count) c.in_ok-finish_with.ensures.onward.count

pub returns-in_err-dial_all-clause-dials : goal.returns-in_err-dial_all-clause-dials
returns-in_err-dial_all-clause-dials g c =
    let p = err_from_is_err_and c.from_residual.result c.from_residual.ensures.1 in
    let d = c.dial_all.ensures.dials in
    record {
      dialled = λ lost. d.dialled (lost-as _ _ _ _ _ p.1 p.2 c.in_err-dial_all.was lost);
      once = once-as _ _ _ _ _ _ c.in_err-dial_all.was (sym p.2) p.1 d.once;
      reads = λ steady lost. d.reads steady (lost-as _ _ _ _ _ p.1 p.2 c.in_err-dial_all.was lost);
      writes = λ steady fits lost. d.writes steady (first-fits _ _ fits) (lost-as _ _ _ _ _ p.1 p.2 c.in_err-dial_all.was lost);
      only = d.only;
    }

pub returns-in_err-turn-clause-dials : goal.returns-in_err-turn-clause-dials
returns-in_err-turn-clause-dials g c =
    let p = err_from_is_err_and c.from_residual-in_err-turn.result c.from_residual-in_err-turn.ensures.1 in
    dials-on _ _ _ _ _ _ _ c.in_ok-dial_all.was (λ why lost. judged-none why _ _ c.in_err-turn.field-0.0 p.1 p.2 lost) c.dial_all.ensures.dials

pub returns-in_err-ask_again-clause-dials : goal.returns-in_err-ask_again-clause-dials
returns-in_err-ask_again-clause-dials g c =
    let p = err_from_is_err_and c.from_residual-in_err-ask_again.result c.from_residual-in_err-ask_again.ensures.1 in
    let d = c.dial_all.ensures in
    let a = c.ask_again.ensures.links in
    record {
      dialled = λ lost. absurd (a.dialled (lost-as _ _ _ _ _ p.1 p.2 c.in_err-ask_again.was lost));
      once = once-of _ _ _ _ _ c.in_ok-dial_all.was d.dials.once;
      reads = λ steady lost. a.reads (d.links.steady steady) (lost-as _ _ _ _ _ p.1 p.2 c.in_err-ask_again.was lost);
      writes = λ steady fits lost. a.writes (d.links.steady steady)
          (λ k d lt. second-fits _ _ _ (c.dial_all.ensures.links.rooms k d lt) fits)
          (lost-as _ _ _ _ _ p.1 p.2 c.in_err-ask_again.was lost);
      only = d.dials.only;
    }

pub returns-in_err-finish_with-clause-dials : goal.returns-in_err-finish_with-clause-dials
returns-in_err-finish_with-clause-dials g c =
    let p = err_from_is_err_and c.from_residual-in_err-finish_with.result c.from_residual-in_err-finish_with.ensures.1 in
    dials-on _ _ _ _ _ _ _ c.in_ok-dial_all.was (λ why lost. judged-none why _ _ c.in_err-finish_with.field-0.0 p.1 p.2 lost) c.dial_all.ensures.dials

pub returns-clause-dials : goal.returns-clause-dials
returns-clause-dials g c =
    let d = c.dial_all.ensures.dials in
    record {
      dialled = λ lost. absurd lost;
      once = once-of _ _ _ _ _ c.in_ok-dial_all.was d.once;
      reads = λ steady lost. lost;
      writes = λ steady fits lost. lost;
      only = d.only;
    }

pub turn-requires-clause-round : goal.turn-requires-clause-round
turn-requires-clause-round g c = c.dial_all.ensures.same.c ∙ c.requires.task.round

pub turn-requires-clause-set : goal.turn-requires-clause-set
turn-requires-clause-set g c =
    let d = c.dial_all.ensures in
    ap g.R.Cells.set d.cells ∙ (c.requires.task.stands.set ∙ ap (λ (k : PublicKey). k.params) (sym d.same.key))

pub turn-requires-clause-plan : goal.turn-requires-clause-plan
turn-requires-clause-plan g c =
    let d = c.dial_all.ensures in
    ap g.R.Cells.plan d.cells ∙ (c.requires.task.stands.plan ∙ sym d.same.plan)

pub ask_again-requires-clause-task : goal.ask_again-requires-clause-task
ask_again-requires-clause-task g c =
    let d = c.dial_all.ensures in
    let t = c.in_ok-turn.ensures in
    let stays = stays-as d.cells t.onward.stays in
    stands-again _ _ _ _ _ _ t.turns.turned _ c.digest-digest.ensures.digest
    (stands-as _ c.args.session.now c.dial_all.new.session _ _ _ _ _ _ stays.set stays.plan c.dial_all.auto.room d.same c.requires.task.stands)

pub ask_again-requires-clause-links : goal.ask_again-requires-clause-links
ask_again-requires-clause-links g c = elim c.in_ok-dial_all.ensures.whole [
  | inl is ↦ is
  | inr not ↦ absurd (not c.in_ok-turn.ensures.turns.turned.masks)
]

pub finish_with-requires-clause-cells : goal.finish_with-requires-clause-cells
finish_with-requires-clause-cells g c =
    let d = c.dial_all.ensures in
    let a = c.ask_again.ensures in
    let stays = stays-then (stays-as d.cells c.in_ok-turn.ensures.onward.stays) a.cells.stays in
    let same = same-turned _ _ _ _ d.same c.in_ok-turn.ensures.turns.turned a.same in
    (stays.set ∙ (c.requires.task.stands.set ∙ ap (λ (k : PublicKey). k.params) (sym same.key)), stays.plan ∙ (c.requires.task.stands.plan ∙ sym same.plan))

pub returns-in_err-dial_all-clause-same : goal.returns-in_err-dial_all-clause-same
returns-in_err-dial_all-clause-same g c = same-asked _ _ c.dial_all.ensures.same

pub returns-in_err-turn-clause-same : goal.returns-in_err-turn-clause-same
returns-in_err-turn-clause-same g c =
    subst (λ (s : State). SameSession c.args.session.now s) (sym c.in_err-turn.ensures.same) (same-asked _ _ c.dial_all.ensures.same)

pub returns-in_err-ask_again-clause-same : goal.returns-in_err-ask_again-clause-same
returns-in_err-ask_again-clause-same g c = same-turned _ _ _ _ c.dial_all.ensures.same c.in_ok-turn.ensures.turns.turned c.ask_again.ensures.same

pub returns-in_err-finish_with-clause-same : goal.returns-in_err-finish_with-clause-same
returns-in_err-finish_with-clause-same g c = same-turned _ _ _ _ c.dial_all.ensures.same c.in_ok-turn.ensures.turns.turned c.ask_again.ensures.same

pub returns-clause-same : goal.returns-clause-same
returns-clause-same g c = same-turned _ _ _ _ c.dial_all.ensures.same c.in_ok-turn.ensures.turns.turned c.ask_again.ensures.same

pub dial_all-requires-clause-room : goal.dial_all-requires-clause-room
dial_all-requires-clause-room g c κs within = (c.requires.none, c.requires.space)

pub finish_with-requires-clause-round : goal.finish_with-requires-clause-round
finish_with-requires-clause-round g c =
    subst (λ (o : Option (List ℕ)). IsSome o) (sym c.ask_again.ensures.same.c)
    (round-turned _ _ c.in_ok-turn.ensures.turns.turned)

pub returns-in_err-dial_all-clause-count : goal.returns-in_err-dial_all-clause-count
returns-in_err-dial_all-clause-count g c =
    let count = g.R.Faults.count in
    count-on _ _ _ (ap count c.dial_all.ensures.cells) (le_refl (count c.dial_all.new.cells))

pub returns-in_err-turn-clause-count : goal.returns-in_err-turn-clause-count
returns-in_err-turn-clause-count g c = count-on _ _ _ (ap g.R.Faults.count c.dial_all.ensures.cells) c.in_err-turn.ensures.onward.count

pub returns-in_err-ask_again-clause-count : goal.returns-in_err-ask_again-clause-count
returns-in_err-ask_again-clause-count g c =
    le_trans (count-on _ _ _ (ap g.R.Faults.count c.dial_all.ensures.cells) c.in_ok-turn.ensures.onward.count) c.ask_again.ensures.count

pub returns-in_err-finish_with-clause-count : goal.returns-in_err-finish_with-clause-count
returns-in_err-finish_with-clause-count g c =
    let turned = count-on _ _ _ (ap g.R.Faults.count c.dial_all.ensures.cells) c.in_ok-turn.ensures.onward.count in
    le_trans (le_trans turned c.ask_again.ensures.count) c.in_err-finish_with.ensures.onward.count
