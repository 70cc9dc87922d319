use Rattle.tool_words.specs.Rows.{sign_words}
use Rattle.laws_signing.proofs.Runs.{lost-run}
use Rattle.laws_signing.proofs.witness.sign.is_missing.Goals as goal

pub returns : goal.returns
returns c = λ is.
    let loss = c.is_loss.ensures is in
    lost-run (sign_words c.args.words.now) _ _ _ c.sign-end.ensures loss.0 loss.1 loss.2 c.requires.store c.requires.net
