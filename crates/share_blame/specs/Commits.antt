-- Commitments on pages, and the state in which reads leave the pages.
use Rattle.std.specs.Prelude.{◌≡◌, ℕ, List, IsTrue, IsOk, Result, drop, length}
use Rattle.coalition_map.specs.Coalitions.{PlanNumbers}
use Rattle.disk_trait.specs.Disks.{SameKind}
use Rattle.disk_trait.specs.Faults.{HasCause}
use Rattle.disk_trait.specs.declared.disk.Pages as pages
use Rattle.disk_trait.specs.declared.faults.Faults as faults
use Rattle.lms_bytes.specs.declared.params.Params.{Params}
use Rattle.session_core.specs.State.{IsSession, State}
use Rattle.mask_prf.specs.Lengths.{all_commits_length}
use Rattle.share_blame.specs.declared.commits.Commits.{Commits}

-- the pages that commitments are read from
abbrev pub pages_of : {V : Type 0} → Commits V → V
pages_of commits = commits.pages

-- the parameter set and the plan of commitments
abbrev pub set_of : {V : Type 0} → Commits V → Params
set_of commits = commits.places.params

abbrev pub plan_of : {V : Type 0} → Commits V → PlanNumbers
plan_of commits = commits.places.plan

-- commitments are of this set and plan
pub record AreOf {V : Type 0} (params : Params) (numbers : PlanNumbers) (commits : Commits V) : Type 0 where
  pub set : set_of commits ≡ params
  pub plan : plan_of commits ≡ numbers

-- internal: commitments are of a session's set and plan, and q is its leaf
pub record AreOfSession {V : Type 0} (s : State) (q : ℕ) (commits : Commits V) : Type 0 where
  pub are : AreOf s.key.params s.plan commits
  pub session : IsSession s
  pub leaf : q ≡ s.leaf

-- what the pages give, if they are told, and their kind are as they were
pub record PagesStay {V : Type 0} (p : pages.Ghosts V) (f : faults.Ghosts V) (old new : V) : Type 0 where
  pub same : IsTrue (p.told old) → p.reads new ≡ p.reads old
  pub kind : SameKind p.told p.honest f.steady p.room old new

-- the leaves of the commitment file on pages that are told
abbrev pub leaves_on : {V : Type 0} → pages.Ghosts V → V → List ℕ
leaves_on p pages = drop 32 (p.reads pages)

-- Commitments of this set and plan were read: they are still of that set and plan, and their pages are as they were.
-- The call fails only if the count of faults rose, and not if the pages are steady and tell all commitments of the
-- plan.
pub record Looks {V X E : Type 0} (p : pages.Ghosts V) (f : faults.Ghosts V) (params : Params)
    (numbers : PlanNumbers) (old new : Commits V) (result : Result X E) : Type 0 where
  pub succeeds : IsTrue (f.steady (pages_of old)) → IsTrue (p.told (pages_of old))
      → length (leaves_on p (pages_of old)) ≡ all_commits_length params numbers → IsOk result
  pub cause : HasCause (f.count (pages_of old)) (f.count (pages_of new)) result
  pub stays : PagesStay p f (pages_of old) (pages_of new)
  pub same : AreOf params numbers new
