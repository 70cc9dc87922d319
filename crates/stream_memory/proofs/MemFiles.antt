-- What writes do to a disk and a file in memory.
use Rattle.std.proofs.Common.{◌≡◌, ◌+◌, ◌-◌, ◌≤◌, ℕ, Bool, true, false, OnOk, OnErr, List, length, drop, max, refl}
use Rattle.std.proofs.Common.{ap, sym, ◌∙◌, arith, drop-drop, IsOk, Option, Some, None, is_none, not, nat_le, ◌&&◌, ◌||◌, ◌==◌, ◌^◌, Result, Ok, Err}
use Rattle.disk_trait.specs.declared.disk.DiskFault.{DiskFault}
use Rattle.std.proofs.lemmas.Bool.Decides.{nat_tests}
use Rattle.std.proofs.lemmas.List.{places}
use Rattle.disk_trait.specs.Images.{written, Torn, Follows}
use Rattle.disk_trait.specs.MemDisk.{MemState, has_room, is_call, is_from, is_steady, sync_fails, write_fails}
use Rattle.stream_memory.specs.MemFiles.{room_of}
use Rattle.stream_memory.proofs.Links.{first_true}
use Rattle.stream_memory.proofs.Stable.{after_write, outcome}

-- no call of a steady disk is listed to fail, and none is one too many
calls_ok : (fails stops : Option ℕ) (calls : ℕ) (unbounded spent : Bool) → (is_none fails && is_none stops && unbounded) ≡ true
    → ((is_call fails calls || is_from stops calls) || (not unbounded && spent)) ≡ false
calls_ok None None calls true spent is = refl
calls_ok None None calls false spent is = let never : false ≡ true = is in cc
calls_ok None (Some stop) calls unbounded spent is = let never : false ≡ true = first_true false unbounded is in cc
calls_ok (Some call) stops calls unbounded spent is =
    let never : false ≡ true = first_true false (is_none stops) (first_true (false && is_none stops) unbounded is) in
    cc

pub sync-ok : (disk : MemState) → is_steady disk ≡ true → sync_fails disk ≡ false
sync-ok disk steady = calls_ok disk.fails disk.stops disk.calls (disk.bound == 2 ^ 64 - 1) (nat_le disk.bound disk.changes) steady

room_ok : (at size length capacity : ℕ) → at ≤ length → at + size ≤ capacity → (nat_le at length && nat_le (at + size) capacity) ≡ true
room_ok at size length capacity within fits = grind (arith, nat_tests)

module _ (disk : MemState) (at : ℕ) (bytes : List ℕ) where
  pub write-succeeds : is_steady disk ≡ true → at ≤ length disk.bytes → at + length bytes ≤ disk.capacity
      → IsOk (outcome (write_fails disk at (length bytes)))
  write-succeeds steady within fits =
      let ok : write_fails disk at (length bytes) ≡ false =
      ap (λ b. b || not (has_room disk at (length bytes))) (sync-ok disk steady)
      ∙ ap not (room_ok at (length bytes) (length disk.bytes) disk.capacity within fits) in
      rw ok refl

  pub write-bytes : (fails : Bool) → OnOk (outcome fails) ((after_write disk at bytes fails).bytes ≡ written disk.bytes at bytes)
  write-bytes true = tt
  write-bytes false = refl

  pub write-same : (fails : Bool) → OnErr (outcome fails) ((after_write disk at bytes fails).bytes ≡ disk.bytes)
  write-same true = refl
  write-same false = tt

  fits : write_fails disk at (length bytes) ≡ false → (at ≤ length disk.bytes) × (at + length bytes ≤ disk.capacity)
  fits is = (grind (arith, nat_tests, is), grind (arith, nat_tests, is))

  pub write-within : (fails : Bool) → write_fails disk at (length bytes) ≡ fails
      → OnOk (outcome fails) (at ≤ length disk.bytes)
  write-within true is = tt
  write-within false is = (fits is).0

  pub write-fits : (fails : Bool) → write_fails disk at (length bytes) ≡ fails
      → OnOk (outcome fails) (at + length bytes ≤ disk.capacity)
  write-fits true is = tt
  write-fits false is = (fits is).1

  pub write-torn : (fails : Bool)
      → OnErr (outcome fails) (Torn at (length bytes) disk.bytes (after_write disk at bytes fails).bytes)
  write-torn true = record { before = refl; after = refl; no_shorter = omega arith; no_longer = omega arith }
  write-torn false = tt

  longer : at ≤ length disk.bytes → length (written disk.bytes at bytes) ≡ max (length disk.bytes) (at + length bytes)
  longer within = grind (arith, places)

  pub write-room_of : (fails : Bool) → write_fails disk at (length bytes) ≡ fails
      → room_of (after_write disk at bytes fails) ≡ room_of disk
  write-room_of true is = refl
  write-room_of false is =
      let f = fits is in
      let l = longer f.0 in
      let e = f.1 in
      omega arith

-- a range that lies in another
pub torn-more : (at m n : ℕ) (x y : List ℕ) → m ≤ n → Torn at m x y → Torn at n x y
torn-more at m n x y few torn =
    let ends : at + m + (n - m) ≡ at + n = omega arith in
    record {
      before = torn.before;
      after = ap (λ e. drop e y) (sym ends) ∙ sym (drop-drop (n - m) (at + m) y) ∙ ap (drop (n - m)) torn.after
          ∙ drop-drop (n - m) (at + m) x ∙ ap (λ e. drop e x) ends;
      no_shorter = torn.no_shorter;
      no_longer = (let e = torn.no_longer in omega arith);
    }

pub follows-more : (at m n : ℕ) (old new : List ℕ → Type 0) → m ≤ n → Follows (Torn at m) old new → Follows (Torn at n) old new
follows-more at m n old new few follows image is =
    let x = follows image is in
    (x.0, x.1, torn-more at m n x.0 image few x.2)

-- what is unchanged is torn nowhere
pub torn_nowhere : {T : Type 0} (result : Result T DiskFault) (at n : ℕ) (x y : List ℕ) → OnErr result (y ≡ x) → OnErr result (Torn at n x y)
torn_nowhere (Ok value) at n x y same = tt
torn_nowhere (Err fault) at n x y same = rw same (record { before = refl; after = refl; no_shorter = omega arith; no_longer = omega arith })

-- the same number of bytes and the same capacity make the same room
pub same_room : (old new : MemState) → new.capacity ≡ old.capacity → new.bytes ≡ old.bytes → room_of new ≡ room_of old
same_room old new capacity bytes = rw (capacity, bytes) refl
