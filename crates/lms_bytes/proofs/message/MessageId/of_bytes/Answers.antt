use Rattle.std.proofs.Common.{◌≡◌, ◌∙◌, ap, rules}
use Rattle.lms_bytes.specs.MessageId.{message_id_bytes, message_id_of}
use Rattle.lms_bytes.specs.declared.message.MessageId.{MessageId}
use Rattle.lms_bytes.proofs.MessageIds.{bytes-of}
use Rattle.lms_bytes.proofs.message.MessageId.of_bytes.Goals as goal

pub returns-clause-bytes : goal.returns-clause-bytes
returns-clause-bytes c =
    let made : MessageId = record { length = c.from_be_bytes.result; hash = c.copy_from_slice-2.new.self } in
    let is : made ≡ message_id_of c.args.bytes.now = search rules in
    ap message_id_bytes is ∙ bytes-of c.args.bytes.now c.told-bytes (λ i. c.fits-bytes i)
