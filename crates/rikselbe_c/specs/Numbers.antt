-- The numbers that C sees. The top level is level 0, and an LMS key has no other.
use Rattle.std.specs.Prelude.{ℕ, ◌+◌, ◌*◌}
use Rattle.lms_bytes.specs.FaultNumbers.{key_fault_number, signature_fault_number}
use Rattle.lms_bytes.specs.declared.faults.KeyFault.{KeyFault}
use Rattle.lms_bytes.specs.declared.faults.SigFault.{SigFault}
use Rattle.lms_verify.specs.declared.verification.Verdict.{Verdict}
use Rattle.lms_verify.specs.declared.verification.Verdict.TheVariants as lms
use Rattle.hss_levels.specs.declared.faults.HssFault.{HssFault}
use Rattle.hss_levels.specs.declared.faults.HssFault.TheVariants as fault
use Rattle.hss_levels.specs.declared.faults.HssKeyFault.{HssKeyFault}
use Rattle.hss_levels.specs.declared.faults.HssKeyFault.TheVariants as key
use Rattle.hss_levels.specs.declared.verification.HssVerdict.{HssVerdict}
use Rattle.hss_levels.specs.declared.verification.HssVerdict.TheVariants as hss

-- the bytes are no LMS key of this level: 0x11 to 0x15 at level 0
abbrev pub key_number : ℕ → KeyFault → ℕ
key_number level fault = 256 * level + (16 + key_fault_number fault)

-- the bytes are no LMS signature of this level: 0x21 to 0x26 at level 0
abbrev pub signature_number : ℕ → SigFault → ℕ
signature_number level fault = 256 * level + (32 + signature_fault_number fault)

-- the bytes are no LMS key
abbrev pub lms_key_number : KeyFault → ℕ
lms_key_number fault = key_number 0 fault

-- of a verdict under an LMS key
abbrev pub lms_number : Verdict → ℕ
lms_number (lms.Accepted leaf) = 0
lms_number (lms.Malformed fault) = signature_number 0 fault
lms_number (lms.OtherRoot got want) = 1

-- the leaf that signed, or what stood there before
abbrev pub leaf_of : Verdict → ℕ → ℕ
leaf_of (lms.Accepted leaf) old = leaf
leaf_of (lms.Malformed fault) old = old
leaf_of (lms.OtherRoot got want) old = old

-- the bytes are no HSS key
abbrev pub hss_key_number : HssKeyFault → ℕ
hss_key_number key.Short = 49
hss_key_number (key.Levels got) = 50
hss_key_number (key.Key fault) = key_number 0 fault

-- the bytes are no HSS signature under the key
abbrev pub hss_fault_number : HssFault → ℕ
hss_fault_number fault.Short = 51
hss_fault_number (fault.Levels got) = 52
hss_fault_number (fault.Sig level fault) = signature_number level fault
hss_fault_number (fault.Pub level fault) = key_number level fault

-- of a verdict under an HSS key
abbrev pub hss_number : HssVerdict → ℕ
hss_number (hss.Accepted levels) = 0
hss_number (hss.Malformed fault) = hss_fault_number fault
hss_number (hss.OtherRoot level got want) = 256 * level + 1

-- the verdict under an HSS key whose last level has this verdict, with nothing to refuse above it
abbrev pub at_last_level : ℕ → Verdict → HssVerdict
at_last_level level (lms.Accepted leaf) = hss.Accepted (level + 1)
at_last_level level (lms.Malformed of) = hss.Malformed (fault.Sig level of)
at_last_level level (lms.OtherRoot got want) = hss.OtherRoot level got want
