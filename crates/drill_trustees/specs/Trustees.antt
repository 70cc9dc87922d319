-- internal: What three trustees of a drill keep for leaves.
use Rattle.std.specs.Prelude.{◌≡◌, ◌≢◌, ◌⊎◌, ◌<◌, ◌≤◌, ◌-◌, ◌==◌, ℕ, List, length, slice_index_or, if◌then◌else◌}
use Rattle.disk_trait.specs.MemDisk.{MemState}
use Rattle.lms_bytes.specs.declared.ask.Ask.{Ask}
use Rattle.opening_journal.specs.Entries.{IsFree, LeafState}
use Rattle.share_files.specs.declared.share.Share.{Share}
use Rattle.trustee_core.specs.Grants.{ask_of}
use Rattle.drill_trustees.specs.Members.{HasJournal, leaf_in, state_after, state_before}
use Rattle.drill_trustees.specs.declared.member.Answer.{Answer}
use Rattle.drill_trustees.specs.declared.member.Answer.TheVariants.{Granted, Refused, Stopped}
use Rattle.drill_trustees.specs.declared.member.Member.{Member}
use Rattle.drill_trustees.specs.declared.trustees.Others.{Others}
use Rattle.drill_trustees.specs.declared.trustees.Trustees.{Trustees}

-- trustee t
abbrev pub member_at : Trustees → ℕ → Member
member_at trustees t = if t == 1 then trustees.one else (if t == 2 then trustees.two else trustees.three)

abbrev pub share_at : Trustees → ℕ → Share
share_at trustees t = (member_at trustees t).share

-- what trustee t keeps for leaf q
abbrev pub leaf_at : Trustees → ℕ → ℕ → LeafState
leaf_at trustees t q = leaf_in (member_at trustees t) q

-- all three, with the one that is missing
abbrev pub put_back : Others → Member → Trustees
put_back others member =
    if others.missing == 1 then record { one = member; two = others.first; three = others.second } else
    (if others.missing == 2 then record { one = others.first; two = member; three = others.second } else
    record { one = others.first; two = others.second; three = member })

-- t is the number of a trustee
pub record IsTrustee (t : ℕ) : Type 0 where
  pub low : 1 ≤ t
  pub high : t ≤ 3

abbrev pub SameShares : Trustees → Trustees → Type 0
SameShares old new = (t : ℕ) → IsTrustee t → share_at new t ≡ share_at old t

-- all leaves are as they were
abbrev pub SameAt : Trustees → Trustees → Type 0
SameAt old new = (t q : ℕ) → IsTrustee t → q < 32 → leaf_at new t q ≡ leaf_at old t q

-- trustee t keeps this for leaf q, and all else is as it was
pub record SetsAt (old new : Trustees) (t q : ℕ) (state : LeafState) : Type 0 where
  pub here : leaf_at new t q ≡ state
  pub leaves : (other : ℕ) → other < 32 → other ≢ q → leaf_at new t other ≡ leaf_at old t other
  pub others : (u other : ℕ) → IsTrustee u → u ≢ t → leaf_at new u other ≡ leaf_at old u other

-- what an ask that may be put does to the leaves if the disk may stop: it is not refused
abbrev pub CutAt : Trustees → Trustees → ℕ → Ask → Answer → Type 0
CutAt old new t ask (Granted grant) = (ask_of grant ≡ ask) × SetsAt old new t ask.leaf (state_after ask)
CutAt old new t ask Refused = ⊥
CutAt old new t ask Stopped =
    SetsAt old new t ask.leaf (state_before ask) ⊎ SetsAt old new t ask.leaf (state_after ask)

-- trustee t has the share of number t, counted from 1, and all leaves are free
pub record AreNew (given : List Share) (trustees : Trustees) : Type 0 where
  pub shares : (t : ℕ) (none : Share) → IsTrustee t → share_at trustees t ≡ slice_index_or given (t - 1) none
  pub free : (t q : ℕ) → IsTrustee t → q < 32 → leaf_at trustees t q ≡ IsFree

-- there are three disks, and each holds the journal of the trustee of its number, counted from 1
pub record AreJournals (trustees : Trustees) (disks : List MemState) : Type 0 where
  pub count : length disks ≡ 3
  pub each : (t : ℕ) (none : MemState) → IsTrustee t
      → HasJournal (member_at trustees t) (slice_index_or disks (t - 1) none)
