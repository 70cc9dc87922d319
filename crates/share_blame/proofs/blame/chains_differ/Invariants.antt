use Rattle.std.proofs.Common.{◌≡◌, ◌<◌, ℕ, IsTrue}
use Rattle.share_blame.specs.Blamed.{ChainDiffers}
use Rattle.share_blame.specs.Commits.{AreOf, PagesStay, leaves_on, pages_of, plan_of, set_of}
use Rattle.share_blame.proofs.blame.chains_differ.Given as goal

-- the chains before this one do not differ
abbrev pub invariant-chains : goal.invariant-chains
invariant-chains g l = record {
  of : AreOf (set_of l.initial.commits) (plan_of l.initial.commits) l.commits;
  stays : PagesStay g.V.Pages g.V.Faults (pages_of l.initial.commits) (pages_of l.commits);
  count : g.V.Faults.count (pages_of l.commits) ≡ g.V.Faults.count (pages_of l.initial.commits);
  none : IsTrue (g.V.Pages.told (pages_of l.initial.commits)) → (i : ℕ) → i < l.i
      → ChainDiffers (set_of l.initial.commits) (plan_of l.initial.commits) (leaves_on g.V.Pages (pages_of l.initial.commits)) l.q l.digest l.masks l.t i → ⊥;
}
