use Rattle.std.proofs.Common.{◌≡◌, ◌<◌, [], ◌++◌, length, arith, append-nil}
use Rattle.mask_prf.proofs.Blocks.{hmac-long}
use Rattle.mask_prf.proofs.calls.hmac_any.Goals as goal

pub returns-then-key-gt-BLOCK : goal.returns-then-key-gt-BLOCK
returns-then-key-gt-BLOCK c =
    let long : 64 < length c.args.key.now = omega arith in
    let text : c.args.text.now ++ [] ≡ c.args.text.now = append-nil c.args.text.now in
    rw (hmac-long c.args.key.now c.args.text.now long, ← c.digest-hashed.ensures) (rw text at c.hmac.ensures)
