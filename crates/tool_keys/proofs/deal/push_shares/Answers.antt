use Rattle.std.proofs.Common.{refl, arith}
use Rattle.std.proofs.lemmas.List.{length_push}
use Rattle.tool_base.specs.OutputOf.{output_of}
use Rattle.tool_keys.proofs.Naming.{named_none, pushed}
use Rattle.tool_keys.proofs.deal.push_shares.Goals as goal

pub shares-init : goal.shares-init
shares-init c = (refl, named_none _ _)

pub shares-preserved : goal.shares-preserved
shares-preserved c =
    let at = c.shares.invariant.0 in (
      omega (arith, length_push c.shares.yielded c.in-Some.share),
      pushed c.args.prefix.now output_of (λ share. share.items) c.shares.outputs.items _ _ c.shares.yielded c.in-Some.share _ c.shares.t at
          c.in_ok-push.ensures.items c.shares.invariant.1 (rw c.in_ok-format.ensures.ok refl),
    )
