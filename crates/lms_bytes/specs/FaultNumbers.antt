-- The numbers by which users know faults: the places of their tests in the order of the tests, counted from 1.
use Rattle.std.specs.Prelude.{ℕ}
use Rattle.lms_bytes.specs.declared.faults.KeyFault.{KeyFault}
use Rattle.lms_bytes.specs.declared.faults.KeyFault.TheVariants as key
use Rattle.lms_bytes.specs.declared.faults.SigFault.{SigFault}
use Rattle.lms_bytes.specs.declared.faults.SigFault.TheVariants as signature

abbrev pub key_fault_number : KeyFault → ℕ
key_fault_number key.Short = 1
key_fault_number (key.UnknownLms code) = 2
key_fault_number (key.UnknownOts code) = 3
key_fault_number key.MixedWidths = 4
key_fault_number (key.Length got want) = 5

abbrev pub signature_fault_number : SigFault → ℕ
signature_fault_number signature.Short = 1
signature_fault_number (signature.OtsCode got) = 2
signature_fault_number (signature.TooShort got) = 3
signature_fault_number (signature.LmsCode got) = 4
signature_fault_number (signature.Leaf q) = 5
signature_fault_number (signature.Length got want) = 6
