use Rattle.std.proofs.Common.{IsTrue, ap, drop}
use Rattle.share_blame.specs.Commits.{pages_of}
use Rattle.share_blame.proofs.Naming.{second-decides}
use Rattle.share_blame.proofs.blame.is_blamed.Goals as goal

pub returns-clause-blamed : goal.returns-clause-blamed
returns-clause-blamed g c = λ told.
    let one = c.in_ok-first_differs.ensures.differs told in
    let not = c.if-branch.false in
    let stays = c.first_differs.ensures.looks.stays in
    let still : IsTrue (g.V.Pages.told (pages_of c.first_differs.new.commits)) = rw stays.kind.told told in
    let leaves = ap (drop 32) (stays.same told) in
    second-decides _ c.args.session.now c.args.digest.now c.args.t c.second_differs.result (λ f. let yes = one.1 f in cc)
    (rw leaves at (c.second_differs.ensures.differs still))
