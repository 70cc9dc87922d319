use Rattle.std.proofs.Common.{inr}
use Rattle.std.proofs.lemmas.Result.{err_from_is_err_and}
use Rattle.tool_base.specs.Grammars.{not_read}
use Rattle.tool_base.proofs.Sharing.{share_is_read, share_refused}
use Rattle.tool_base.proofs.shares.read_share_file.Goals as goal

pub returns-in_err-bytes-clause-refused : goal.returns-in_err-bytes-clause-refused
returns-in_err-bytes-clause-refused g c =
    let p = err_from_is_err_and c.from_residual.result c.from_residual.ensures.1 in
    λ first last part. rw (p.1, p.2) (inr (not_read _ (c.in_err-bytes.ensures.refused first last part)))

pub returns-clause-refused : goal.returns-clause-refused
returns-clause-refused g c =
    λ first last part. share_refused _ _ c.deref.result.now c.in-Err.fault c.number.result _
    (rw c.deref.ensures.value (c.in_ok-bytes.ensures.bytes first last part)) c.in-Err.ensures.refused c.number.ensures c.unreadable.ensures

pub returns-in-Ok-clause-share : goal.returns-in-Ok-clause-share
returns-in-Ok-clause-share g c =
    λ first last part. share_is_read _ _ c.deref.result.now c.in-Ok.share
    (rw c.deref.ensures.value (c.in_ok-bytes.ensures.bytes first last part)) c.in-Ok.ensures.share c.in-Ok.ensures.dealt

pub returns-in_err-bytes-clause-share : goal.returns-in_err-bytes-clause-share
returns-in_err-bytes-clause-share g c =
    let p = err_from_is_err_and c.from_residual.result c.from_residual.ensures.1 in
    λ first last part. rw p.1 tt

pub returns-in_err-bytes-clause-unchanged : goal.returns-in_err-bytes-clause-unchanged
returns-in_err-bytes-clause-unchanged g c = c.in_err-bytes.ensures.unchanged

pub returns-in-Ok-clause-unchanged : goal.returns-in-Ok-clause-unchanged
returns-in-Ok-clause-unchanged g c = c.in_ok-bytes.ensures.unchanged

pub returns-clause-unchanged : goal.returns-clause-unchanged
returns-clause-unchanged g c = c.in_ok-bytes.ensures.unchanged
