use Rattle.std.proofs.Common.{refl}
use Rattle.dealer.specs.Entropy.{dealing_of}
use Rattle.tests_scheme.proofs.dealings.commitments_tests.digest_of_file.Goals as goal

pub commitments-requires : goal.commitments-requires
commitments-requires g c =
    let is = rw c.expect-dealt.ensures at c.deal.ensures.dealt in
    (dealing_of c.scheme_of-plan.result.0 c.scheme_of-plan.result.1 _, record { dealt_is = is; plan_is = refl; height = c.scheme_of-plan.ensures })
