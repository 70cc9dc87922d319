use Rattle.std.proofs.Common.{subst, sym}
use Rattle.tool_base.specs.Endings.{ending}
use Rattle.tool_base.specs.World.{from_to}
use Rattle.tool_words.specs.Rows.{deal_words}
use Rattle.tool_keys.specs.Runs.{DealRunBy}
use Rattle.tool_keys.proofs.deal.deal_files.Goals as goal

pub returns-then-words-clause-ended : goal.returns-then-words-clause-ended
returns-then-words-clause-ended g c =
    subst (λ large. DealRunBy large (deal_words c.args.words.now) (from_to (g.S.Store.state c.args.store.now) (g.S.Store.state c.deal_large.new.store)) (ending c.deal_large.result))
    (sym c.if-words.true) c.deal_large.ensures.ended

pub returns-else-words-clause-ended : goal.returns-else-words-clause-ended
returns-else-words-clause-ended g c =
    subst (λ large. DealRunBy large (deal_words c.args.words.now) (from_to (g.S.Store.state c.args.store.now) (g.S.Store.state c.deal_small.new.store)) (ending c.deal_small.result))
    (sym c.if-words.false) c.deal_small.ensures.ended
