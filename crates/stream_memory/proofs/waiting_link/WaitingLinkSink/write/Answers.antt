use Rattle.std.proofs.Common.{ap, is_none, refl, ◌&&◌}
use Rattle.stream_memory.proofs.Links.{passed-on, vain-cause}
use Rattle.stream_memory.proofs.Talks.{vain_wrote}
use Rattle.stream_memory.proofs.waiting_link.WaitingLinkSink.write.Goals as goal

pub returns-in_err-count-clause-cause : goal.returns-in_err-count-clause-cause
returns-in_err-count-clause-cause g c =
    vain-cause _ _ c.args.self.now.vain _ (passed-on _ _ _ _ c.from_residual.ensures.0 c.in_err-count.ensures.cause)

pub returns-clause-cause : goal.returns-clause-cause
returns-clause-cause g c =
    rw (c.count_written.ensures.link, c.count_written.ensures.vain)
    (vain-cause _ _ c.args.self.now.vain _ c.in_ok-count.ensures.cause)

pub returns-in_err-count-clause-only : goal.returns-in_err-count-clause-only
returns-in_err-count-clause-only g c = vain_wrote _ _ c.args.self.now.vain c.in_err-count.ensures.only

pub returns-in_err-count-clause-steady : goal.returns-in_err-count-clause-steady
returns-in_err-count-clause-steady g c = ap (λ b. b && is_none c.args.self.now.hold) c.in_err-count.ensures.steady

pub returns-clause-only : goal.returns-clause-only
returns-clause-only g c =
    rw (c.count_written.ensures.link, c.count_written.ensures.vain) (vain_wrote _ _ c.args.self.now.vain c.in_ok-count.ensures.only)

pub returns-clause-succeeds : goal.returns-clause-succeeds
returns-clause-succeeds g c = λ steady fits. refl
