-- What signing one message shows in a pass: its log, its draws, its own rises and its own entries.
use Rattle.std.specs.Prelude.{◌≡◌, ◌⊎◌, ◌+◌, ◌-◌, ◌^◌, ◌<◌, ◌≤◌, ℕ, List, [], ◌∷◌, ◌++◌, Option, None, Some}
use Rattle.std.specs.Prelude.{Result, Err, IfSome, Contains, is_some, if◌then◌else◌}
use mathlib.Core.List.{IsPrefix}
use Rattle.aggregator_session.specs.declared.fault.SignFault.{SignFault}
use Rattle.aggregator_session.specs.declared.fault.SignFault.TheVariants.{Table, TooLong, Worn}
use Rattle.aggregator_node.specs.Turns.{HasSteadyDisk, NotTurned, TellsDisk}
use Rattle.coalition_map.specs.Coalitions.{PlanNumbers, coalitions}
use Rattle.leaf_table.specs.Entries.{IsBurnt, IsFree, IsLeased, map_of}
use Rattle.leaf_table.specs.Leasing.{IsCoalition, LeaseOf}
use Rattle.leaf_table.specs.declared.faults.TableFault.{TableFault}
use Rattle.leaf_table.specs.declared.faults.TableFault.TheVariants.{Damaged, Device, NoLeaf, NotACoalition}
use Rattle.leaf_table.specs.declared.lease.Lease.{Lease}
use Rattle.leaf_table.specs.declared.lease.Lease.TheVariants.{Burnt, Leased}
use Rattle.leaf_table.specs.declared.table.TableName.{TableName}
use Rattle.aggregator_session.specs.Signing.{Signature, signed_with, spent_by}
use Rattle.lms_bytes.specs.MessageId.{message_id_bytes}
use Rattle.lms_bytes.specs.declared.message.MessageId.{MessageId}
use Rattle.turn_lock.specs.Pass.{Seen}

-- the disk failed: the pass's own rises grew, or its floor is at the end of a count, and the disk is not steady
abbrev pub DiskFailed : (old new : Seen Lease TableName) → Type 0
DiskFailed old new = (new.floor < 2 ^ 64 - 1 → old.rises < new.rises) × (HasSteadyDisk new.name → ⊥)

-- a slot was found damaged: not before the first fault, and not on a disk that tells its content
abbrev pub SlotDamaged : (new : Seen Lease TableName) → Type 0
SlotDamaged new = (new.floor ≡ 0 → ⊥) × (TellsDisk new.name → ⊥)

-- why no leaf was leased
abbrev pub Refuses : PlanNumbers → List ℕ → MessageId → (old new : Seen Lease TableName) → TableFault → Type 0
Refuses plan members message old new NotACoalition = Contains (coalitions plan.n plan.k) members → ⊥
Refuses plan members message old new (NoLeaf c) =
    IsPrefix old.log new.log × IsCoalition plan members c × LeaseOf plan new.log c (message_id_bytes message) None
Refuses plan members message old new Device = DiskFailed old new
Refuses plan members message old new (Damaged leaf a b) = SlotDamaged new

-- The lease of a leaf in the log: it is `LeaseOf` on the entries that were met, which go on from the log before. The
-- entry of a new lease comes right after them.
pub record LeaseShows (plan : PlanNumbers) (members : List ℕ) (message : MessageId) (old log : List Lease) (leaf : ℕ)
    (added : List Lease) : Type 0 where
  pub c : ℕ
  pub met : List Lease
  pub begins : IsPrefix old met
  pub coalition : IsCoalition plan members c
  pub lease : LeaseOf plan met c (message_id_bytes message) (Some leaf)
  pub entry : ((map_of met leaf ≡ IsLeased (message_id_bytes message)) × (added ≡ []))
      ⊎ ((map_of met leaf ≡ IsFree) × (added ≡ Leased leaf message ∷ []))
  pub stands : IsPrefix (met ++ added) log

-- what comes of burning a spent leaf: it is burnt in the log, or the disk failed, or a slot was damaged, or the pass is
-- worn
pub data BurningShows (old new : Seen Lease TableName) (leaf : ℕ) : Type 0 where
  burnt : map_of new.log leaf ≡ IsBurnt → BurningShows old new leaf
  failed : DiskFailed old new → BurningShows old new leaf
  damaged : SlotDamaged new → BurningShows old new leaf
  worn : 2 ^ 62 ≤ new.greatest → BurningShows old new leaf

-- the burning of a leaf that this member, if any, has spent: no entry, or one
abbrev pub IsBurning : Option ℕ → ℕ → List Lease → Type 0
IsBurning None leaf entries = entries ≡ []
IsBurning (Some member) leaf entries = (entries ≡ []) ⊎ (entries ≡ Burnt leaf ∷ [])

-- What signing a message with these members shows in a pass, by its outcome, and the entries that it added. A ticket is
-- drawn for the lease, and a second one exactly if a member has spent the leaf. What is added are the entries of the
-- lease and of the burning alone.
pub data Shows (plan : PlanNumbers) (members : List ℕ) (message : MessageId) (old new : Seen Lease TableName)
    : Result Signature SignFault → List Lease → Type 0 where
  too_long : (got : ℕ) → new ≡ old → Shows plan members message old new (Err (TooLong got)) []
  no_turn : NotTurned old new → Shows plan members message old new (Err Worn) []
  refused : (why : TableFault) → Refuses plan members message old new why → new.draws ≡ old.draws + 1
      → Shows plan members message old new (Err (Table why)) []
  leased : (leaf : ℕ) (added burning : List Lease) (result : Result (List ℕ) SignFault)
      → LeaseShows plan members message old.log new.log leaf added
      → new.draws ≡ old.draws + (if is_some (spent_by result) then 2 else 1)
      → IfSome (spent_by result) (λ member. BurningShows old new leaf) → IsBurning (spent_by result) leaf burning
      → Shows plan members message old new (signed_with leaf result) (added ++ burning)

-- the same with what was added, which before the first fault is all that the pass has added of its own
pub record Shown (plan : PlanNumbers) (members : List ℕ) (message : MessageId) (old new : Seen Lease TableName)
    (outcome : Result Signature SignFault) : Type 0 where
  pub added : List Lease
  pub shows : Shows plan members message old new outcome added
  pub own : new.floor ≡ 0 → new.own ≡ old.own ++ added
