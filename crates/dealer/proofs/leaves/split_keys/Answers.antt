use Rattle.std.proofs.Common.{◌≡◌, ◌*◌, ◌^◌, ◌∙◌, ℕ, List, length, ap, refl, arith}
use Rattle.lms_bytes.specs.Bytes.{bytes_at}
use Rattle.reference_value.proofs.Parts.{part-within}
use Rattle.dealer.proofs.Mapped.{all_more, mapped_more}
use Rattle.dealer.proofs.leaves.split_keys.Goals as goal

pub overflow_mul-n : goal.overflow_mul-n
overflow_mul-n c =
    let n = c.args.params.now.n in
    let within = part-within n n c.leaves.q (2 ^ c.args.params.now.h) (length c.args.keys.now) refl c.requires (omega arith) in
    omega (arith, within)

pub part-requires : goal.part-requires
part-requires c =
    let n = c.args.params.now.n in
    part-within n n c.leaves.q (2 ^ c.args.params.now.h) (length c.args.keys.now) refl c.requires (omega arith)

pub leaves-preserved : goal.leaves-preserved
leaves-preserved c =
    let n = c.args.params.now.n in
    let q = c.leaves.q in
    let key : ℕ → List ℕ = λ q. bytes_at c.args.keys.now (n * q) n in
    let value : c.of.result ≡ key q = c.of.ensures ∙ c.part.ensures.bytes in
    let size : length c.of.result ≡ n = ap length c.of.ensures ∙ c.part.ensures.length in
    record {
      keys = mapped_more key 0 q q c.leaves.values.items _ _ (omega arith) c.leaves.invariant.keys value c.in_ok-push.ensures.items;
      length = all_more (λ key. length key ≡ n) c.leaves.values.items _ c.of.result c.leaves.invariant.length size c.in_ok-push.ensures.items;
    }
