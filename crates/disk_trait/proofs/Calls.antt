-- What the outcomes of calls of a disk in memory say for its trait.
use Rattle.std.proofs.Common.{◌≡◌, ◌==◌, ◌&&◌, ◌||◌, ℕ, ◌+◌, ◌-◌, ◌^◌, ◌≤◌, nat_le, leb-true, le-leb, Bool, true, false, not, List, length, Option, None, Some, is_none, Result, Ok, Err, IsOk, OnOk, OnErr, if◌then◌else◌, refl, arith, sym, subst}
use Rattle.std.proofs.lemmas.Bool.{false≢true}
use Rattle.std.proofs.lemmas.Bool.Decides.{nat_tests}
use Rattle.std.proofs.lemmas.List.{ext_get_or, get_or-replicate}
use Rattle.disk_trait.specs.Faults.{HasCause, Rose}
use Rattle.disk_trait.specs.Images.{written, Torn, Only}
use Rattle.disk_trait.specs.MemDisk.{MemState, MayLeave, counted, changed, is_call, is_from, is_steady, sync_fails, with_named, with_written, with_stable, write_fails}
use Rattle.disk_trait.specs.MemDiskLaws.{leaves_bytes}
use Rattle.disk_trait.specs.declared.disk.DiskFault.{DiskFault}

pub counted_rises : (n : ℕ) → Rose n (counted n)
counted_rises n = grind (arith, nat_tests)

pub counted_later : (n : ℕ) → n ≤ counted n
counted_later n = grind (arith, nat_tests)

-- a call that fails or not
abbrev pub outcome : Bool → Result (Unit {0}) DiskFault
outcome fails = if fails then Err (record {}) else Ok tt

-- a disk on which no call is listed and no bound is set fails no call for any cause other than its arguments
quiet : (fails stops : Option ℕ) (unbounded : Bool) (calls bound changes : ℕ) → (is_none fails && is_none stops && unbounded) ≡ true
    → (is_call fails calls || is_from stops calls || (not unbounded && nat_le bound changes)) ≡ false
quiet None None true calls bound changes steady = refl
quiet None None false calls bound changes steady = absurd (false≢true steady)
quiet None (Some from) unbounded calls bound changes steady = absurd (false≢true steady)
quiet (Some call) stops unbounded calls bound changes steady = absurd (false≢true steady)

sync-quiet : (disk : MemState) → is_steady disk ≡ true → sync_fails disk ≡ false
sync-quiet disk steady = quiet disk.fails disk.stops (disk.bound == 2 ^ 64 - 1) disk.calls disk.bound disk.changes steady

well : IsOk (outcome false)
well = refl

pub sync-succeeds : (disk : MemState) → is_steady disk ≡ true → IsOk (outcome (sync_fails disk))
sync-succeeds disk steady = rw (sync-quiet disk steady) well

-- for a write that succeeds both tests of its range held
ranged : (refused begins ends : Bool) (A B : Type 0) → (begins ≡ true → A) → (ends ≡ true → B) → OnOk (outcome (refused || not (begins && ends))) (A × B)
ranged true begins ends A B one two = tt
ranged false false ends A B one two = tt
ranged false true false A B one two = tt
ranged false true true A B one two = (one refl, two refl)

first-of : (fails : Bool) (A B : Type 0) → OnOk (outcome fails) (A × B) → OnOk (outcome fails) A
first-of true A B both = tt
first-of false A B both = both.0

second-of : (fails : Bool) (A B : Type 0) → OnOk (outcome fails) (A × B) → OnOk (outcome fails) B
second-of true A B both = tt
second-of false A B both = both.1

module _ (disk : MemState) (at n : ℕ) where
  fits-both : OnOk (outcome (write_fails disk at n)) ((at ≤ length disk.bytes) × (at + n ≤ disk.capacity))
  fits-both =
      ranged (sync_fails disk) (nat_le at (length disk.bytes)) (nat_le (at + n) disk.capacity) (at ≤ length disk.bytes) (at + n ≤ disk.capacity)
      (leb-true at (length disk.bytes)) (leb-true (at + n) disk.capacity)

  pub write-within : OnOk (outcome (write_fails disk at n)) (at ≤ length disk.bytes)
  write-within = first-of (write_fails disk at n) (at ≤ length disk.bytes) (at + n ≤ disk.capacity) fits-both

  pub write-fits : OnOk (outcome (write_fails disk at n)) (at + n ≤ disk.capacity)
  write-fits = second-of (write_fails disk at n) (at ≤ length disk.bytes) (at + n ≤ disk.capacity) fits-both

  pub write-succeeds : is_steady disk ≡ true → at ≤ length disk.bytes → at + n ≤ disk.capacity → IsOk (outcome (write_fails disk at n))
  write-succeeds steady begins ends =
      rw (sync-quiet disk steady, le-leb at (length disk.bytes) begins, le-leb (at + n) disk.capacity ends) well

torn_same : (at n : ℕ) (bytes : List ℕ) → Torn at n bytes bytes
torn_same at n bytes = record { before = refl; after = refl; no_shorter = omega arith; no_longer = omega arith }

module _ (disk : MemState) (at : ℕ) (bytes : List ℕ) where
  abbrev pub after_write : Bool → MemState
  after_write fails = if fails then with_named disk at (length bytes) else with_written disk at bytes

  pub write-bytes : (fails : Bool) → OnOk (outcome fails) ((after_write fails).bytes ≡ written disk.bytes at bytes)
  write-bytes true = tt
  write-bytes false = refl

  pub write-room : (fails : Bool) → (after_write fails).capacity ≡ disk.capacity
  write-room true = refl
  write-room false = refl

  pub write-torn : (fails : Bool) → OnErr (outcome fails) (Torn at (length bytes) disk.bytes (after_write fails).bytes)
  write-torn true = torn_same at (length bytes) disk.bytes
  write-torn false = tt

  pub write-cause : (fails : Bool) → HasCause disk.faults (after_write fails).faults (outcome fails)
  write-cause true = record { later = counted_later disk.faults; succeeded = tt; failed = counted_rises disk.faults }
  write-cause false = record { later = omega arith; succeeded = refl; failed = tt }

  pub write-steady : (fails : Bool) → is_steady (after_write fails) ≡ is_steady disk
  write-steady true = refl
  write-steady false = refl

module _ (disk : MemState) where
  abbrev pub after_sync : Bool → MemState
  after_sync fails = if fails then changed true disk else with_stable disk

  only_bytes : (image : List ℕ) → MayLeave (with_stable disk) image → image ≡ disk.bytes
  only_bytes image is =
      let size : length image ≡ length disk.bytes = omega (arith, is.no_shorter, is.no_longer) in
      ext_get_or 0 image disk.bytes size (λ k below. is.others k below (get_or-replicate (length disk.bytes) k false true (omega arith)))

  pub sync-stable : (fails : Bool) → OnOk (outcome fails) (Only disk.bytes (MayLeave (after_sync fails)))
  sync-stable true = tt
  sync-stable false = only_bytes

  pub sync-images : (fails : Bool) (image : List ℕ) → MayLeave (after_sync fails) image → MayLeave disk image
  sync-images true image is = is
  sync-images false image is = subst (MayLeave disk) (sym (only_bytes image is)) (leaves_bytes disk refl refl)

  pub sync-cause : (fails : Bool) → HasCause disk.faults (after_sync fails).faults (outcome fails)
  sync-cause true = record { later = counted_later disk.faults; succeeded = tt; failed = counted_rises disk.faults }
  sync-cause false = record { later = omega arith; succeeded = refl; failed = tt }

  pub sync-bytes : (fails : Bool) → (after_sync fails).bytes ≡ disk.bytes
  sync-bytes true = refl
  sync-bytes false = refl

  pub sync-steady : (fails : Bool) → is_steady (after_sync fails) ≡ is_steady disk
  sync-steady true = refl
  sync-steady false = refl

  pub sync-room : (fails : Bool) → (after_sync fails).capacity ≡ disk.capacity
  sync-room true = refl
  sync-room false = refl
