use Rattle.std.proofs.Common.{◌≡◌, ◌∙◌, ◌^◌, ◌<◌, List, ℕ, Ok, ap, sym, refl, drop, arith}
use Rattle.std.proofs.lemmas.Nat.{from_be_bytes-to_be_bytes_4}
use Rattle.lms_bytes.specs.Bytes.{bytes_at, str_to_u32}
use Rattle.lms_bytes.specs.PublicKey.{public_bytes}
use Rattle.hss_levels.proofs.Accepting.{rest-of}
use Rattle.hss_levels.proofs.Sets.{key-of-bytes, same-hss-key}
use Rattle.hss_levels.proofs.key_layout.read_hss_key.Goals as goal

pub returns-in-Ok-clause-read : goal.returns-in-Ok-clause-read
returns-in-Ok-clause-read c = λ key parts.
    let most = key.last in
    let levels : c.u32_at-levels.result ≡ key.levels =
    c.u32_at-levels.ensures.number ∙ (ap (λ (s : List ℕ). str_to_u32 (bytes_at s 0 4)) parts ∙ from_be_bytes-to_be_bytes_4 key.levels (omega arith)) in
    let top : public_bytes c.in-Ok.top ≡ public_bytes key.top = sym c.in-Ok.ensures.key ∙ (rest-of c.args.bytes.now 4 ∙ ap (drop 4) parts) in
    ap Ok (same-hss-key _ key levels (key-of-bytes c.in-Ok.top key.top top))
