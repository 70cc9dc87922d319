-- Files whose header's gate is closed.
use Rattle.std.proofs.Common.{◌≡◌, ◌≢◌, ℕ, List, refl, arith, subst}
use Rattle.disk_trait.proofs.Gates as gates
use Rattle.disk_trait.specs.Gate as gate
use Rattle.disk_trait.specs.Gate.{IsShut}
use Rattle.disk_trait.specs.declared.disk.Pages as pages
use Rattle.slot_file.specs.Fresh.{AreUnready, IsUnready}
use Rattle.slot_file.specs.Layout.{header_block}
use Rattle.slot_file.specs.declared.header.Header.{Header}

open_not_shut : ◌≢◌ {A = ℕ} 0xA7 0
open_not_shut is = absurd (omega (arith, is))

pub shut_unready : (file : List ℕ) → IsShut file → IsUnready file
shut_unready file shut = gates.shut_unready 0xA7 128 file open_not_shut shut

-- with a head of 128 bytes
pub unready-header : {D : Type 0} (p : pages.Ghosts D) (head : ℕ) (old new : D) → head ≡ 128
    → ((byte : ℕ) → byte ≢ 0 → gate.AreUnready p byte head old new) → AreUnready p old new
unready-header p head old new size are = subst (λ (n : ℕ). gate.AreUnready p 0xA7 n old new) size (are 0xA7 open_not_shut)

pub header_block-shut : (header : Header) → IsShut (header_block 0 header)
unfolding header_block
header_block-shut header = refl
