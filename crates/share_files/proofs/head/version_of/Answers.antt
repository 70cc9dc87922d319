use Rattle.std.proofs.Common.{arith}
use Rattle.std.proofs.lemmas.Bool.Decides.{nat_tests}
use Rattle.share_files.proofs.Dealt.{version_of-codes}
use Rattle.share_files.proofs.head.version_of.Goals.{then-params-lt10, else-params-lt10+then-params-eq10, else-params-lt10+else-params-eq10}
use Rattle.share_files.proofs.head.version_of.Goals as goal

pub returns-then-params-lt8-clause-version : goal.returns-then-params-lt8-clause-version
returns-then-params-lt8-clause-version c = rw (version_of-codes c.args.params.now) (grind (arith, nat_tests))

pub returns-else-params-lt8-clause-version : goal.returns-else-params-lt8-clause-version
returns-else-params-lt8-clause-version c = rw (version_of-codes c.args.params.now) (grind (arith, nat_tests))
