-- What a verdict says.
use Rattle.std.specs.Prelude.{◌≡◌, ◌≢◌, ℕ, List, Some, if◌then◌else◌}
use Rattle.std.specs.Str.{bytes_eq}
use Rattle.lms_bytes.specs.Signature.{signature_fault}
use Rattle.lms_bytes.specs.declared.public_key.PublicKey.{PublicKey}
use Rattle.lms_verify.specs.Accepts.{AcceptsAt, LeadsTo}
use Rattle.lms_verify.specs.declared.verification.Verdict.{Verdict}
use Rattle.lms_verify.specs.declared.verification.Verdict.TheVariants.{Accepted, Malformed, OtherRoot}

-- the verdict is true of the three strings: accepted, or no signature by the first test that fails, or one that leads
-- to another root than the key's
abbrev pub IsVerdict : PublicKey → List ℕ → List ℕ → Verdict → Type 0
IsVerdict key message signature (Accepted leaf) = AcceptsAt key message signature leaf
IsVerdict key message signature (Malformed fault) = signature_fault key.params signature ≡ Some fault
IsVerdict key message signature (OtherRoot got want) =
    ((q : ℕ) × LeadsTo key message signature q got) × (got ≢ key.root) × (want ≡ key.root)

-- the verdict on a signature of this leaf that leads to this root
abbrev pub verdict_by : PublicKey → ℕ → List ℕ → Verdict
verdict_by key leaf got = if bytes_eq got key.root then Accepted leaf else OtherRoot got key.root
