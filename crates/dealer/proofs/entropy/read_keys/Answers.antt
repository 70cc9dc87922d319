use Rattle.std.proofs.Common.{◌≡◌, ◌+◌, ◌-◌, ◌∙◌, length, ap, arith}
use Rattle.std.proofs.lemmas.Result.{err_from_is_err_and}
use Rattle.std.proofs.lemmas.List.FromFn.{length-map-range_with_len}
use Rattle.dealer.specs.Entropy.{trustee_key}
use Rattle.dealer.proofs.Mapped.{all_more, mapped_more}
use Rattle.dealer.proofs.entropy.read_keys.Goals as goal

pub trustees-preserved : goal.trustees-preserved
trustees-preserved c =
    let next : c.trustees.t + 1 - 1 ≡ c.trustees.t - 1 + 1 = omega arith in
    let copied = c.copy_from_slice.ensures.after in
    record {
      keys = rw next (mapped_more (trustee_key c.args.entropy.now) 1 (c.trustees.t - 1) c.trustees.t c.trustees.keys.items _ _ (omega arith)
          c.trustees.invariant.keys (copied ∙ c.key_at.ensures.key) c.in_ok-push.ensures.items);
      lengths = all_more (λ key. length key ≡ 32) c.trustees.keys.items _ _ c.trustees.invariant.lengths (ap length copied ∙ c.key_at.ensures.length)
          c.in_ok-push.ensures.items;
    }

pub returns-clause-count : goal.returns-clause-count
returns-clause-count c =
    let all : c.trustees.t - 1 ≡ c.args.trustees = omega arith in
    ap length c.trustees.invariant.keys ∙ (length-map-range_with_len (trustee_key c.args.entropy.now) 1 (c.trustees.t - 1) ∙ all)

pub returns-in_err-keys-clause-count : goal.returns-in_err-keys-clause-count
returns-in_err-keys-clause-count c = rw (err_from_is_err_and c.from_residual.result c.from_residual.ensures.1).1 tt

pub returns-in_err-keys-clause-keys : goal.returns-in_err-keys-clause-keys
returns-in_err-keys-clause-keys c = rw (err_from_is_err_and c.from_residual.result c.from_residual.ensures.1).1 tt

pub returns-in_err-keys-clause-lengths : goal.returns-in_err-keys-clause-lengths
returns-in_err-keys-clause-lengths c = rw (err_from_is_err_and c.from_residual.result c.from_residual.ensures.1).1 tt

pub returns-in_err-push-clause-count : goal.returns-in_err-push-clause-count
returns-in_err-push-clause-count c = rw (err_from_is_err_and c.from_residual-in_err-push.result c.from_residual-in_err-push.ensures.1).1 tt

pub returns-in_err-push-clause-keys : goal.returns-in_err-push-clause-keys
returns-in_err-push-clause-keys c = rw (err_from_is_err_and c.from_residual-in_err-push.result c.from_residual-in_err-push.ensures.1).1 tt

pub returns-in_err-push-clause-lengths : goal.returns-in_err-push-clause-lengths
returns-in_err-push-clause-lengths c = rw (err_from_is_err_and c.from_residual-in_err-push.result c.from_residual-in_err-push.ensures.1).1 tt
