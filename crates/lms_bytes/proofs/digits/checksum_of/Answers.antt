use Rattle.lms_bytes.proofs.Shortfall.{shifted}
use Rattle.lms_bytes.proofs.digits.checksum_of.Goals as goal

pub returns : goal.returns
returns c =
    rw (c.shortfall_of-sum.ensures, c.bytes.ensures.bytes, c.requires) (shifted _ _ _ _ c.args.params.now.checksum_fits)
