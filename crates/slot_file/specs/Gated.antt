-- A body that is written and made stable before a gate of one byte is.
use Rattle.std.specs.Prelude.{◌⊎◌, ◌==◌, ℕ, List, [], ◌∷◌, ◌++◌, length, if◌then◌else◌}
use Rattle.disk_trait.specs.Images.{written, Torn}
use Rattle.slot_file.specs.Layout.{moment_bytes}

-- the body or a part of it, or the whole body and any gate
abbrev pub Gated : ℕ → List ℕ → ℕ → List ℕ → List ℕ → Type 0
Gated at body gate_at old new = Torn at (length body) old new ⊎ Torn gate_at 1 (written old at body) new

-- the whole body and the gate
abbrev pub gated : ℕ → List ℕ → ℕ → ℕ → List ℕ → List ℕ
gated at body gate_at gate old = written (written old at body) gate_at (gate ∷ [])

-- the second body of a slot: the moment comes after body B in slots of 160 bytes
unfoldable pub second_body : ℕ → List ℕ → ℕ → List ℕ
second_body version body moment = if version == 2 then body ++ moment_bytes moment else body
