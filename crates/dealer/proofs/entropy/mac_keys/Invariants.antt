use Rattle.std.proofs.Common.{◌≡◌, take}
use Rattle.dealer.proofs.entropy.mac_keys.Given as goal

abbrev pub invariant-keys : goal.invariant-keys
invariant-keys l = l.macs.items ≡ take l.i l.keys
