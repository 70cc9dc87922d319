use Rattle.std.proofs.Common.{[]}
use Rattle.tool_base.specs.OutputOf.{output_of}
use Rattle.tool_base.proofs.Runs.{unchanged_none}
use Rattle.tool_base.proofs.Writing.{names_of, none_left}
use Rattle.tool_words.specs.Rows.{deal_words}
use Rattle.tool_keys.specs.Large.{dealing_in, fails}
use Rattle.tool_keys.proofs.LargeTold.{failed_told, published_told}
use Rattle.tool_keys.proofs.Names.{key_differ}
use Rattle.tool_keys.proofs.large.deal_and_publish.Goals as goal

pub publish-requires-clause-differ : goal.publish-requires-clause-differ
publish-requires-clause-differ g c =
    let d = dealing_in c.args.asked.now in
    λ lives order.
    rw (c.deref.ensures.value, ← names_of output_of c.in-Ok.outputs.items, c.in-Ok.ensures.outputs) (key_differ c.args.words.now.prefix.now d c.requires.asked.sound.threshold.n_within)

pub publish-requires-clause-new : goal.publish-requires-clause-new
publish-requires-clause-new g c =
    λ lives order.
    rw (c.deref.ensures.value, ← names_of output_of c.in-Ok.outputs.items, c.in-Ok.ensures.outputs) c.requires.new

pub returns-in-Ok-clause-told : goal.returns-in-Ok-clause-told
returns-in-Ok-clause-told g c =
    let ends = c.publish.ensures.published c.args.store.now (unchanged_none _) in
    published_told g.P.Progress.told (deal_words c.args.words.now) c.args.asked.now.params _ _ _ _ _ _ _ _ _ _ c.requires.large c.requires.asked.set ends.cause c.in-Ok.ensures.told

pub returns-in-Err-clause-ended : goal.returns-in-Err-clause-ended
returns-in-Err-clause-ended g c = λ first unchanged. record {
  written = [];
  cause = fails _ c.in-Err.ensures.refused;
  left = none_left _ _ unchanged;
}

pub returns-in-Err-clause-told : goal.returns-in-Err-clause-told
returns-in-Err-clause-told g c =
    failed_told g.P.Progress.told (deal_words c.args.words.now) c.args.asked.now.params _ _ _ _ _ c.requires.large c.requires.asked.set c.in-Err.ensures.refused c.in-Err.ensures.told
