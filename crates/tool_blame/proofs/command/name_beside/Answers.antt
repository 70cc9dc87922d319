use Rattle.tool_base.specs.Endings.{ending}
use Rattle.aggregator_session.specs.Signing.{Signature}
use Rattle.std.proofs.Common.{Option, Result, refl, subst}
use Rattle.session_core.specs.State.{State}
use Rattle.share_blame.specs.Commits.{pages_of}
use Rattle.tool_base.specs.Ending.{Ending}
use Rattle.tool_desk.specs.Views.{view_state}
use Rattle.tool_sign.specs.Sessions.{answer_by}
use Rattle.hss_levels.proofs.Sets.{same-set}
use Rattle.tool_blame.proofs.Lasts.{begun_if, session_fits, session_whole}
use Rattle.tool_blame.specs.Beside.{begun, leaves_through, not_begun}
use Rattle.tool_blame.specs.Names.{TellsEnd}
use Rattle.tool_blame.proofs.command.name_beside.Goals as goal

pub returns-in-Err : goal.returns-in-Err
returns-in-Err g c = not_begun (ending c.in-Err.end) c.in-Err.ensures.refused c.in-Err.ensures.unchanged refl

pub returns : goal.returns
returns g c =
    let view = view_state g.V.Pages g.V.Faults in
    let tasked = c.in-Ok.ensures in
    let task = c.in-Ok.task in
    let to = c.sign_task-view.ensures.run in
    let commits = view (pages_of c.args.commits.now) in
    let reads = leaves_through commits (view (pages_of c.told_outcome-outcome.new.commits)) in
    let answer : Result Signature Ending = answer_by c.sign_task-view.result.1.outcome in
    let told : Result Signature Ending = answer_by c.told_outcome-outcome.result in
    begun told (record {
      read = c.read_task.new.store;
      unchanged = tasked.unchanged;
      sizes = tasked.sizes;
      message = task.message.items;
      members = task.members;
      addresses = task.addresses.items;
      goes = tasked.task;
      answer = answer;
      run = to.run;
      tells = subst (λ (session : Option State). TellsEnd reads commits.steady task.message.items session answer told) to.session_is
          (rw c.deref.ensures.value at c.told_outcome-outcome.ensures.tells);
    })

pub told_outcome-outcome-requires-clause-session : goal.told_outcome-outcome-requires-clause-session
told_outcome-outcome-requires-clause-session g c =
    let to = c.sign_task-view.ensures.run in
    let header = c.args.header.now in
    let one = c.in-Ok.ensures.task.one_key.reference_is in
    session_fits _ _ _ _ _ _ to.run.ends c.sign_task-view.result.1.session to.session_is header c.args.commits.now c.requires.fits
    (same-set header.params c.args.files.now.key.params one.lms one.ots) refl

pub told_outcome-outcome-requires-clause-whole : goal.told_outcome-outcome-requires-clause-whole
told_outcome-outcome-requires-clause-whole g c =
    let to = c.sign_task-view.ensures.run in
    let header = c.args.header.now in
    let one = c.in-Ok.ensures.task.one_key.reference_is in
    session_whole _ _ _ _ _ _ to.run.ends c.sign_task-view.result.1.session to.session_is header _ _ (λ told. (c.requires.whole told).whole)
    (same-set header.params c.args.files.now.key.params one.lms one.ots) refl

pub told_outcome-outcome-requires-clause-begun : goal.told_outcome-outcome-requires-clause-begun
told_outcome-outcome-requires-clause-begun g c =
    let to = c.sign_task-view.ensures.run in
    begun_if _ _ _ _ c.sign_task-view.result.1.outcome _ to.run.ends c.sign_task-view.result.1.session to.session_is
