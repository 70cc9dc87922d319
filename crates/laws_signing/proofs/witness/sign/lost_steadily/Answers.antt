use Rattle.std.proofs.Common.{◌≡◌, true}
use Rattle.laws_signing.proofs.witness.sign.lost_steadily.Goals as goal

pub returns : goal.returns
returns c = λ is.
    let lost : c.is_missing.result ≡ true = cc in
    (c.in_ok-store.store, c.is_missing.new.store, c.in_ok-net.net, c.is_missing.new.net, c.is_missing.ensures lost)
