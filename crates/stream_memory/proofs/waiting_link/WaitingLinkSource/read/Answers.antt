use Rattle.std.proofs.Common.{ap, is_none, refl, ◌&&◌}
use Rattle.stream_memory.proofs.Links.{first_true, last_true, passed-on, vain-cause}
use Rattle.stream_memory.proofs.Outcomes.{never_ok}
use Rattle.stream_memory.proofs.Talks.{in_vain_cause, in_vain_read, nothing_read, vain_read}
use Rattle.stream_memory.proofs.waiting_link.WaitingLinkSource.read.Goals as goal

pub returns-in_err-count-clause-cause : goal.returns-in_err-count-clause-cause
returns-in_err-count-clause-cause g c =
    vain-cause _ _ c.args.self.now.vain _ (passed-on _ _ _ _ c.from_residual.ensures.0 c.in_err-count.ensures.cause)

pub returns-clause-cause : goal.returns-clause-cause
returns-clause-cause g c = vain-cause _ _ c.args.self.now.vain _ c.in_ok-count.ensures.cause

pub returns-in_err-count-clause-only : goal.returns-in_err-count-clause-only
returns-in_err-count-clause-only g c = vain_read _ _ c.args.self.now.vain c.in_err-count.ensures.only

pub returns-in_err-count-clause-succeeds : goal.returns-in_err-count-clause-succeeds
returns-in_err-count-clause-succeeds g c = λ steady. absurd (never_ok (c.in_err-count.ensures.succeeds (first_true _ _ steady)))

pub returns-in_err-count-clause-steady : goal.returns-in_err-count-clause-steady
returns-in_err-count-clause-steady g c = ap (λ b. b && is_none c.args.self.now.hold) c.in_err-count.ensures.steady

pub returns-clause-only : goal.returns-clause-only
returns-clause-only g c = vain_read _ _ c.args.self.now.vain c.in_ok-count.ensures.only

pub returns-clause-succeeds : goal.returns-clause-succeeds
returns-clause-succeeds g c = λ steady. refl

pub returns-clause-steady : goal.returns-clause-steady
returns-clause-steady g c = ap (λ b. b && is_none c.args.self.now.hold) c.in_ok-count.ensures.steady

-- if the wait was in vain
pub returns-in_default-clause-read : goal.returns-in_default-clause-read
returns-in_default-clause-read g c = rw c.fail.ensures.link (nothing_read _ _ _ c.fail.ensures.vain _ _ _)

pub returns-in_default-clause-only : goal.returns-in_default-clause-only
returns-in_default-clause-only g c = rw c.fail.ensures.link (in_vain_read _ _ _ c.fail.ensures.vain)

pub returns-in_default-clause-cause : goal.returns-in_default-clause-cause
returns-in_default-clause-cause g c =
    rw c.fail.ensures.link (in_vain_cause (g.L.Stream.talk c.args.self.now.link) c.args.self.now.vain _ c.fail.ensures.vain _)

pub returns-in_default-clause-succeeds : goal.returns-in_default-clause-succeeds
returns-in_default-clause-succeeds g c = λ steady. absurd (never_ok (c.in_default.ensures.steady (last_true _ _ steady)))

pub returns-in_default-clause-steady : goal.returns-in_default-clause-steady
returns-in_default-clause-steady g c = rw (c.fail.ensures.link, c.fail.ensures.hold) refl
