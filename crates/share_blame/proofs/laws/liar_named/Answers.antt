use Rattle.share_blame.proofs.Liars.{accused, astray, named, named-alone}
use Rattle.share_blame.proofs.laws.liar_named.Goals as goal

pub returns-clause-accused : goal.returns-clause-accused
returns-clause-accused c = accused

pub returns-clause-named : goal.returns-clause-named
returns-clause-named c = named

pub returns-clause-alone : goal.returns-clause-alone
returns-clause-alone c = named-alone

pub returns-clause-astray : goal.returns-clause-astray
returns-clause-astray c = astray
