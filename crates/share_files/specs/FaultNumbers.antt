-- The numbers by which users know faults.
use Rattle.std.specs.Prelude.{ℕ}
use Rattle.share_files.specs.declared.faults.FileFault.{FileFault}
use Rattle.share_files.specs.declared.faults.FileFault.TheVariants.{Magic, Version, Code, Plan, Length, Number}
use Rattle.share_files.specs.declared.faults.FileFault.TheVariants.{OtherKey}

abbrev pub file_fault_number : FileFault → ℕ
file_fault_number Magic = 1
file_fault_number (Version got) = 2
file_fault_number (Code lms ots) = 3
file_fault_number Plan = 4
file_fault_number (Length got want) = 5
file_fault_number (Number got) = 6
file_fault_number (OtherKey got) = 7
