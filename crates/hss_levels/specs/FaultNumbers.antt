-- The numbers by which users know the faults of HSS keys: the places of their tests in the order of the tests, counted
-- from 1.
use Rattle.std.specs.Prelude.{ℕ, ◌+◌}
use Rattle.lms_bytes.specs.FaultNumbers.{key_fault_number}
use Rattle.hss_levels.specs.declared.faults.HssKeyFault.{HssKeyFault}
use Rattle.hss_levels.specs.declared.faults.HssKeyFault.TheVariants.{Short, Levels, Key}

abbrev pub hss_key_fault_number : HssKeyFault → ℕ
hss_key_fault_number Short = 1
hss_key_fault_number (Levels got) = 2
hss_key_fault_number (Key fault) = 2 + key_fault_number fault
