use Rattle.std.proofs.Common.{refl}
use Rattle.std.proofs.lemmas.Bool.{false≢true}
use Rattle.std.proofs.lemmas.Result.{err_from_is_err_and}
use Rattle.round_frames.specs.Asks.{ask_frame}
use Rattle.aggregator_session.proofs.Standing.{may-ask}
use Rattle.aggregator_session.proofs.Frames.{longest, second-frame}
use Rattle.std.proofs.Math.Nat.{le_trans}
use Rattle.aggregator_session.proofs.Sessions.{whole-as}
use Rattle.aggregator_session.specs.Runs.{asked, not_read}
use Rattle.aggregator_session.proofs.session.ask_once_more.Goals as goal

pub returns-in_err-ask-clause-asked : goal.returns-in_err-ask-clause-asked
returns-in_err-ask-clause-asked g c =
    let p = err_from_is_err_and c.from_residual.result c.from_residual.ensures.1 in
    rw (p.1, p.2) (not_read refl refl)

pub returns-clause-asked : goal.returns-clause-asked
returns-clause-asked g c =
    let a = c.in_ok-ask.ensures in
    let message = c.args.task.now.message.now in
    asked (ask_frame c.in_ok-ask.ask message) c.ask_member.result
    (second-frame (g.R.Cells.told c.args.cells.now) (g.R.Cells.leaves c.args.cells.now) c.args.session.now c.args.digest.now message c.args.member c.in_ok-ask.ask c.requires.task.digest_is a.ask a.tag)
    c.ask_member.ensures.asked

pub returns-clause-links : goal.returns-clause-links
returns-clause-links g c =
    let most = longest c.args.task.now.desk.now.key.now.params c.in_ok-ask.ask c.args.task.now.message.now in
    let links = c.ask_member.ensures.links in
    record {
      dialled = links.dialled;
      reads = links.reads;
      writes = λ steady fits lost. links.writes steady (le_trans most fits) lost;
    }

pub ask_member-requires : goal.ask_member-requires
ask_member-requires g c = record { ask = may-ask _ _ _ _ _ _ _ c.requires.task.stands c.in_ok-ask.ensures.ask }

pub returns-in_err-ask-clause-cells : goal.returns-in_err-ask-clause-cells
returns-in_err-ask-clause-cells g c =
    let a = c.in_err-ask.ensures in
    let st = c.requires.task.stands in
    record {
      rises = λ is. a.cause.failed;
      succeeds = λ exact is.
          false≢true (a.succeeds exact.steady exact.told (whole-as _ _ _ _ _ exact.whole st.set st.plan));
      stays = a.stays;
    }

pub returns-in_err-ask-clause-links : goal.returns-in_err-ask-clause-links
returns-in_err-ask-clause-links g c =
    let p = err_from_is_err_and c.from_residual.result c.from_residual.ensures.1 in
    rw (p.1, p.2) (record { dialled = λ lost. lost; reads = λ steady lost. lost; writes = λ steady fits lost. lost })

pub returns-in_err-ask-clause-count : goal.returns-in_err-ask-clause-count
returns-in_err-ask-clause-count g c = c.in_err-ask.ensures.cause.later

pub returns-clause-cells : goal.returns-clause-cells
returns-clause-cells g c = record {
  rises = λ is. absurd (c.ask_member.ensures.reference is);
  succeeds = λ exact is. c.ask_member.ensures.reference is;
  stays = c.in_ok-ask.ensures.stays;
}

pub returns-clause-count : goal.returns-clause-count
returns-clause-count g c = c.in_ok-ask.ensures.cause.later
