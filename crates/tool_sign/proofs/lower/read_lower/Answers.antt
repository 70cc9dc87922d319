use Rattle.std.proofs.lemmas.Result.{err_from_is_err_and}
use Rattle.tool_base.proofs.Runs.{unchanged_on, onward_on, part_of}
use Rattle.tool_sign.specs.Lower.{no_key, no_message, no_signature}
use Rattle.tool_sign.proofs.lower.read_lower.Goals as goal

pub returns-in_err-key-clause-refused : goal.returns-in_err-key-clause-refused
returns-in_err-key-clause-refused g c =
    let p = err_from_is_err_and c.from_residual.result c.from_residual.ensures.1 in
    λ first last part. rw (p.1, p.2) (no_key _ (c.in_err-key.ensures.refused first last part))

pub returns-in_err-signature-clause-refused : goal.returns-in_err-signature-clause-refused
returns-in_err-signature-clause-refused g c =
    let p = err_from_is_err_and c.from_residual-in_err-signature.result c.from_residual-in_err-signature.ensures.1 in
    let one = c.in_ok-key.ensures in
    let two = c.in_err-signature.ensures in
    λ first last part.
    rw (p.1, p.2) (no_signature c.in_ok-key.key _ (one.key first last (part_of _ _ _ _ part.earlier (onward_on _ _ _ two.unchanged.onward part.later)))
    (two.refused first last (part_of _ _ _ _ (unchanged_on _ _ _ part.earlier one.unchanged) part.later)))

pub returns-in_err-signature-clause-unchanged : goal.returns-in_err-signature-clause-unchanged
returns-in_err-signature-clause-unchanged g c = unchanged_on _ _ _ c.in_ok-key.ensures.unchanged c.in_err-signature.ensures.unchanged

pub returns-in_err-message-clause-refused : goal.returns-in_err-message-clause-refused
returns-in_err-message-clause-refused g c =
    let p = err_from_is_err_and c.from_residual-in_err-message.result c.from_residual-in_err-message.ensures.1 in
    let one = c.in_ok-key.ensures in
    let two = c.in_ok-signature.ensures in
    let three = c.in_err-message.ensures in
    λ first last part.
    let later = onward_on _ _ _ three.unchanged.onward part.later in
    let earlier = unchanged_on _ _ _ part.earlier one.unchanged in
    rw (p.1, p.2) (no_message c.in_ok-key.key c.in_ok-signature.signature.items _ (one.key first last (part_of _ _ _ _ part.earlier (onward_on _ _ _ two.unchanged.onward later)))
    (two.bytes first last (part_of _ _ _ _ earlier later))
    (three.refused first last (part_of _ _ _ _ (unchanged_on _ _ _ earlier two.unchanged) part.later)))

pub returns-in_err-message-clause-unchanged : goal.returns-in_err-message-clause-unchanged
returns-in_err-message-clause-unchanged g c = unchanged_on _ _ _ c.in_ok-key.ensures.unchanged (unchanged_on _ _ _ c.in_ok-signature.ensures.unchanged c.in_err-message.ensures.unchanged)

pub returns-clause-lower : goal.returns-clause-lower
returns-clause-lower g c =
    let one = c.in_ok-key.ensures in
    let two = c.in_ok-signature.ensures in
    let three = c.in_ok-message.ensures in
    λ first last part.
    let later = onward_on _ _ _ three.unchanged.onward part.later in
    let earlier = unchanged_on _ _ _ part.earlier one.unchanged in
    record {
      key = one.key first last (part_of _ _ _ _ part.earlier (onward_on _ _ _ two.unchanged.onward later));
      signature = two.bytes first last (part_of _ _ _ _ earlier later);
      message = three.bytes first last (part_of _ _ _ _ (unchanged_on _ _ _ earlier two.unchanged) part.later);
    }

pub returns-clause-unchanged : goal.returns-clause-unchanged
returns-clause-unchanged g c = unchanged_on _ _ _ c.in_ok-key.ensures.unchanged (unchanged_on _ _ _ c.in_ok-signature.ensures.unchanged c.in_ok-message.ensures.unchanged)
