use Rattle.std.proofs.Common.{◌≡◌, map, take}
use Rattle.share_files.specs.Share.{share_bytes}
use Rattle.dealer.proofs.files.files_of_shares.Given as goal

-- the files of the shares so far
abbrev pub invariant-shares : goal.invariant-shares
invariant-shares l = map (λ file. file.items) l.files.items ≡ map share_bytes (take l.share-index l.shares)
