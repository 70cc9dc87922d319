use Rattle.laws_signing.proofs.Serving.{steady-served}
use Rattle.laws_signing.proofs.witness.trustee.is_served.Goals as goal

pub returns : goal.returns
returns g c = λ yes.
    let end = c.is_end.ensures c.if-not-is_end.false in
    (c.new-time.result, steady-served end.0 end.1 _ _ _ _ _ c.serve_trustee-end.ensures end.2 c.requires.store c.requires.net (c.first_gave.ensures yes))
