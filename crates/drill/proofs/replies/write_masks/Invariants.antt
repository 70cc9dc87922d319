use Rattle.std.proofs.Common.{◌≡◌, ◌*◌, take}
use Rattle.lms_bytes.specs.Bytes.{joined}
use Rattle.trustee_core.specs.Grants.{ask_of, mask_of}
use Rattle.drill.proofs.replies.write_masks.Given as goal

-- the masks before this one are written
abbrev pub invariant-masks : goal.invariant-masks
invariant-masks l = take (l.share.params.n * l.i) l.out ≡ joined (mask_of l.share (ask_of l.grant)) l.i
