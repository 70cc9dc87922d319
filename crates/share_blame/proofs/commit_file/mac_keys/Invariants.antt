use Rattle.std.proofs.Common.{◌≡◌, map, take}
use Rattle.share_files.specs.declared.share.Share.{Share}
use Rattle.share_blame.proofs.commit_file.mac_keys.Given as goal

abbrev pub invariant-shares : goal.invariant-shares
invariant-shares l = l.keys.items ≡ map (λ (share : Share). share.key) (take l.i l.shares)
