use Rattle.std.proofs.Common.{◌≡◌, IsTrue}
use Rattle.share_blame.specs.Blamed.{IsBlamed}
use Rattle.share_blame.specs.Commits.{AreOf, PagesStay, leaves_on, pages_of}
use Rattle.share_blame.proofs.Naming.{AreNamed, IsBelow}
use Rattle.share_blame.proofs.blame.blamed.Given as goal

-- the trustees before this one that are blamed have their bits
abbrev pub invariant-trustees : goal.invariant-trustees
invariant-trustees g l = record {
  of : AreOf l.session.key.params l.session.plan l.commits;
  stays : PagesStay g.V.Pages g.V.Faults (pages_of l.initial.commits) (pages_of l.commits);
  count : g.V.Faults.count (pages_of l.commits) ≡ g.V.Faults.count (pages_of l.initial.commits);
  below : IsBelow l.t l.bits;
  named : IsTrue (g.V.Pages.told (pages_of l.initial.commits))
      → AreNamed (IsBlamed (leaves_on g.V.Pages (pages_of l.initial.commits)) l.session l.digest) l.t l.bits;
}
