use Rattle.trustee_node.specs.Replies.{outcome_in}
use Rattle.trustee_node.proofs.Heads.{is-head}
use Rattle.trustee_node.proofs.reply.head_of.Goals as goal

pub returns-clause-written : goal.returns-clause-written
returns-clause-written c =
    rw (c.member.ensures, c.round_of.ensures, c.randomizer_of.ensures, c.params.ensures, c.code.ensures) (is-head c.args.share.now c.args.ask.now (outcome_in c.args.answer.now) c.requires)
