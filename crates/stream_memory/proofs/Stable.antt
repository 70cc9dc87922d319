-- Disks in memory that are all stable, and what writes and syncs leave unchanged.
use Rattle.std.proofs.Common.{◌≡◌, ℕ, Bool, true, false, Result, Ok, Err, OnOk, List, length, replicate, if◌then◌else◌}
use Rattle.std.proofs.Common.{refl, sym, subst, arith}
use Rattle.std.proofs.lemmas.List.{ext_get_or, get_or-replicate}
use Rattle.disk_trait.specs.Images.{Only}
use Rattle.disk_trait.specs.MemDisk.{MemState, IsImage, MayLeave, changed, is_steady, with_named, with_stable, with_written}
use Rattle.disk_trait.specs.declared.disk.DiskFault.{DiskFault}
use Rattle.disk_trait.specs.MemDiskLaws.{leaves_bytes}

-- bytes none of which is pending are all that a crash leaves
pub only_stable : (bytes : List ℕ) → Only bytes (IsImage bytes bytes (replicate (length bytes) false))
only_stable bytes image is =
    let size : length image ≡ length bytes = omega (arith, is.no_shorter, is.no_longer) in
    ext_get_or 0 image bytes size (λ k below. is.others k below (get_or-replicate (length bytes) k false true (omega arith)))

-- a call that fails or not
abbrev pub outcome : Bool → Result (Unit {0}) DiskFault
outcome fails = if fails then Err (record {}) else Ok tt

module _ (disk : MemState) where
  -- after a sync, which failed or not
  abbrev pub after_sync : Bool → MemState
  after_sync fails = if fails then changed true disk else with_stable disk

  pub sync-stable : (fails : Bool) → OnOk (outcome fails) (Only disk.bytes (MayLeave (after_sync fails)))
  sync-stable true = tt
  sync-stable false = only_stable disk.bytes

  -- a sync adds no image
  pub sync-images : (fails : Bool) (image : List ℕ) → MayLeave (after_sync fails) image → MayLeave disk image
  sync-images true image is = is
  sync-images false image is = subst (MayLeave disk) (sym (only_stable disk.bytes image is)) (leaves_bytes disk refl refl)

  -- after a write, which failed or not
  abbrev pub after_write : ℕ → List ℕ → Bool → MemState
  after_write at bytes fails = if fails then with_named disk at (length bytes) else with_written disk at bytes

  pub write-steady : (at : ℕ) (bytes : List ℕ) (fails : Bool) → is_steady (after_write at bytes fails) ≡ is_steady disk
  write-steady at bytes true = refl
  write-steady at bytes false = refl

  pub write-room : (at : ℕ) (bytes : List ℕ) (fails : Bool) → (after_write at bytes fails).capacity ≡ disk.capacity
  write-room at bytes true = refl
  write-room at bytes false = refl
