-- What a command that works on disks leaves of a store.
use Rattle.std.specs.Prelude.{◌≡◌, ◌↔◌, ℕ, false, List, IsTrue, All}
use Rattle.std.specs.Str.{bytes_eq}
use Rattle.disk_trait.specs.Faults.{Rose}
use Rattle.stream_io.specs.Store.{StoreState}
use Rattle.tool_base.specs.Ending.{Ending}
use Rattle.tool_base.specs.World.{IsBack, StoreRun}

-- the name is none of these
abbrev pub IsUntouched : List (List ℕ) → List ℕ → Type 0
IsUntouched touched name = All (λ one. bytes_eq name one ≡ false) touched

-- No count fell, and all that was handed out is back. Every name but these stands for what it stood for, and a crash
-- may leave of it what it might have left before.
pub record Keeps (touched : List (List ℕ)) (old new : StoreState) : Type 0 where
  pub back : IsBack old new
  pub file : IsTrue old.told → (name : List ℕ) → IsUntouched touched name → new.file name ≡ old.file name
  pub leaves : IsTrue old.told → (name image : List ℕ) → IsUntouched touched name
      → new.leaves name image ↔ old.leaves name image

-- An end of a command that touched these names: one that the command's rules allow, and the store keeps all else.
pub record EndsTouching (ends : Ending → List (List ℕ) → Type 0) (store : StoreRun) (end : Ending) : Type 0 where
  pub touched : List (List ℕ)
  pub cause : ends end touched
  pub keeps : Keeps touched store.before store.after

-- a call of a disk or of a view failed
abbrev pub DeviceRose : StoreRun → Type 0
DeviceRose store = Rose store.before.disk_count store.after.disk_count
