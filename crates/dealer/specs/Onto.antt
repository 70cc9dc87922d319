-- A dealing whose reference is written onto a disk, part by part. The gate of its file stays shut.
use Rattle.std.specs.Prelude.{◌≡◌, ℕ, ◌*◌, ◌/◌, ◌^◌, ◌<◌, ◌≤◌, ◌==◌, ◌⊎◌, if◌then◌else◌, min, List, ◌∷◌, ◌++◌, drop}
use Rattle.std.specs.Prelude.{length, true, IsTrue}
use Rattle.coalition_map.specs.Coalitions.{PlanNumbers}
use Rattle.disk_trait.specs.Gate as gate
use Rattle.disk_trait.specs.Images.{Only}
use Rattle.disk_trait.specs.declared.disk.Pages as pages
use Rattle.lms_bytes.specs.Bytes.{joined}
use Rattle.lms_bytes.specs.declared.params.Params.{Params}
use Rattle.mask_prf.specs.Lengths.{leaf_length}
use Rattle.reference_value.specs.Dealing.{Dealing, leaf_part}
use Rattle.share_files.specs.Reference.{reference_head_of}
use Rattle.dealer.specs.Dealt.{AreShares, dealt_root, dealt_tree}
use Rattle.dealer.specs.Entropy.{dealing_of}
use Rattle.dealer.specs.Faults.{HasFault, IsDealable}
use Rattle.dealer.specs.Files.{reference_file}
use Rattle.dealer.specs.Told.{told_parts}
use Rattle.dealer.specs.declared.faults.DealFault.{DealFault}
use Rattle.dealer.specs.declared.faults.DealFault.TheVariants.{NoMemory}
use Rattle.dealer.specs.declared.onto.DealtKey.{DealtKey}
use Rattle.dealer.specs.declared.onto.OntoFault.{OntoFault}
use Rattle.dealer.specs.declared.onto.OntoFault.TheVariants.{Deal, Device}

-- no reader takes this file for a reference: it has no head of 32 bytes, or does not begin as "TLRF" does
abbrev pub IsUnready : List ℕ → Type 0
IsUnready = gate.IsUnready 0x54 32

-- a file with its gate, which is its first byte, shut
abbrev pub shut : List ℕ → List ℕ
shut file = 0 ∷ drop 1 file

-- the head of the reference, so
abbrev pub shut_head : Dealing → List ℕ
shut_head d = shut (reference_head_of d.params d.plan d.id)

-- this is what the dealing gives besides the reference
pub record IsKeyDealt (d : Dealing) (key : DealtKey) : Type 0 where
  pub params : key.public.params ≡ d.params
  pub id : key.public.id ≡ d.id
  pub root_is : key.public.root ≡ dealt_root d
  pub tree : key.tree ≡ dealt_tree d
  pub shares : AreShares d key.shares.items
  pub some : 0 < length key.shares.items

-- how many leaves make up a part: 512, or 32 with digits of 8 bits, or all if there are fewer
abbrev pub part_leaves : Params → ℕ
part_leaves params = min (if params.w == 8 then 32 else 512) (2 ^ params.h)

-- how long a part is
abbrev pub part_length : Params → PlanNumbers → ℕ
part_length params plan = leaf_length params plan.k * part_leaves params

-- what an object is once it was told of the first k parts, and of all
abbrev pub told_first : {P : Type 0} → (P → ℕ → ℕ → P) → Params → ℕ → P → P
told_first told params k it = told_parts told (part_leaves params) (2 ^ params.h) k it

abbrev pub told_all : {P : Type 0} → (P → ℕ → ℕ → P) → Params → P → P
told_all told params it = told_first told params (2 ^ params.h / part_leaves params) it

-- a file that begins with these bytes, and has no more than so many others
abbrev pub BeginsWith : List ℕ → ℕ → List ℕ → Type 0
BeginsWith front most file = (rest : List ℕ) × (file ≡ front ++ rest) × (length rest ≤ most)

module _ {D P : Type 0} (p : pages.Ghosts D) (told : P → ℕ → ℕ → P) (d : Dealing) where
  -- the disk reads the reference with its gate shut, all of it is stable, and each part was told of
  pub record IsWritten (old new : D) (before after : P) : Type 0 where
    pub reads : IsTrue (p.told old) → p.reads new ≡ shut (reference_file d)
    pub stable : IsTrue (p.told old) → IsTrue (p.honest old) → Only (shut (reference_file d)) (p.may_leave new)
    pub told_of : after ≡ told_all told d.params before

  -- The disk failed. The first k parts were told of, and it reads them behind these bytes, with at most one part more.
  pub record StopsBehind (front : List ℕ) (k : ℕ) (old new : D) (before after : P) : Type 0 where
    pub most : k * part_leaves d.params ≤ 2 ^ d.params.h
    pub told_of : after ≡ told_first told d.params k before
    pub reads : IsTrue (p.told old) → BeginsWith (front ++ joined (leaf_part d) (k * part_leaves d.params))
        (part_length d.params d.plan) (p.reads new)

  -- the disk failed within the head, and nothing was told of
  pub record StopsInHead (old new : D) (before after : P) : Type 0 where
    pub told_of : after ≡ before
    pub reads : IsTrue (p.told old) → length (p.reads new) ≤ 32

  -- it failed there, or behind so many parts
  abbrev pub Stops : D → D → P → P → Type 0
  Stops old new before after =
      StopsInHead old new before after ⊎ ((k : ℕ) × StopsBehind (shut_head d) k old new before after)

  -- internal: memory ran out behind the last call, or the disk failed
  abbrev pub FailsToBuild : D → D → P → P → OntoFault → Type 0
  FailsToBuild old new before after fault = ((fault ≡ Deal NoMemory) × IsWritten old new before after)
      ⊎ ((fault ≡ Device) × Stops old new before after)

-- there is a dealing, and its reference is written
pub record IsDealtOnto {D P : Type 0} (p : pages.Ghosts D) (told : P → ℕ → ℕ → P) (params : Params)
    (plan : PlanNumbers) (entropy : List ℕ) (old new : D) (before after : P) (key : DealtKey) : Type 0 where
  pub dealable : IsDealable true params plan entropy
  pub dealt : IsKeyDealt (dealing_of params plan entropy) key
  pub written : IsWritten p told (dealing_of params plan entropy) old new before after

-- Why there is none, and what is left of the disk: nothing is called if the entropy is refused, and memory runs out
-- before the first call or behind the last one.
pub data FailsOnto {D P : Type 0} (p : pages.Ghosts D) (told : P → ℕ → ℕ → P) (params : Params) (plan : PlanNumbers)
    (entropy : List ℕ) (old new : D) (before after : P) : OntoFault → Type 0 where
  refused : (fault : DealFault) → HasFault true params plan entropy fault → new ≡ old → after ≡ before
      → FailsOnto p told params plan entropy old new before after (Deal fault)
  no_memory : IsDealable true params plan entropy → new ≡ old → after ≡ before
      → FailsOnto p told params plan entropy old new before after (Deal NoMemory)
  no_memory_behind : IsDealable true params plan entropy
      → IsWritten p told (dealing_of params plan entropy) old new before after
      → FailsOnto p told params plan entropy old new before after (Deal NoMemory)
  device : IsDealable true params plan entropy → Stops p told (dealing_of params plan entropy) old new before after
      → FailsOnto p told params plan entropy old new before after Device

-- the disk reads this dealing's reference with its gate shut, and no crash leaves a file that is taken for one
pub record HoldsShut {D : Type 0} (p : pages.Ghosts D) (d : Dealing) (disk : D) : Type 0 where
  pub reads : IsTrue (p.told disk) → p.reads disk ≡ shut (reference_file d)
  pub images : IsTrue (p.told disk) → IsTrue (p.honest disk) → (image : List ℕ) → p.may_leave disk image
      → IsUnready image
