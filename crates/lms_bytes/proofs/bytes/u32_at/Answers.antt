use Rattle.std.proofs.Common.{◌≡◌, ℕ, ◌<◌, get_or, arith}
use Rattle.lms_bytes.specs.Bytes.{str_to_u32}
use Rattle.lms_bytes.proofs.Parts.{u32str-str_to_u32}
use Rattle.lms_bytes.proofs.bytes.u32_at.Goals as goal

pub returns-clause-bytes : goal.returns-clause-bytes
returns-clause-bytes c =
    let below : (i : ℕ) → get_or c.args.bytes.now i 0 < 256 = λ i. omega (arith, c.type_inv.bytes i) in
    let number : c.read_u32.result ≡ str_to_u32 c.part.result.now = omega (arith, c.read_u32.ensures) in
    u32str-str_to_u32 c.args.bytes.now c.args.place _ c.requires below (rw c.part.ensures.bytes at number)
