use Rattle.std.proofs.Common.{◌≡◌, ◌++◌, refl, ◌∙◌, ap, length, replicate, rules}
use Rattle.opening_journal.proofs.BodyBytes.{put-back}
use Rattle.opening_journal.proofs.bodies.pair_bytes.Goals as goal

pub returns : goal.returns
returns c =
    let c_is = c.copy_from_slice.ensures.after ∙ c.filled.ensures in
    let digest_is = c.copy_from_slice-2.ensures.after ∙ c.filled-2.ensures in
    let size : length c.copy_from_slice-2.new.self ≡ 32 = ap length c.copy_from_slice-2.ensures.after ∙ search rules in
    put-back 32 32 c.copy_from_slice.new.self (replicate 32 0) c.copy_from_slice-2.new.self c.copy_from_slice.ensures.len refl size
    ∙ (λ i. c_is i ++ digest_is i)
