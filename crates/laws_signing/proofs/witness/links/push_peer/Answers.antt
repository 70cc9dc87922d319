use Rattle.std.proofs.Common.{refl}
use Rattle.laws_signing.proofs.Rooms.{more-dialled}
use Rattle.laws_signing.proofs.witness.links.push_peer.Goals as goal

pub returns : goal.returns
returns c = λ roomy. more-dialled c.args.room c.args.script.now _ roomy refl (c.in_ok-place.place, c.in_ok-link.link) refl c.in_ok-push.ensures.items c.in_ok-link.ensures.steady c.in_ok-link.ensures.room
