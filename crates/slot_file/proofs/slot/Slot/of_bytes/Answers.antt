use Rattle.std.proofs.Common.{rules}
use Rattle.std.proofs.lemmas.Bool.Decides.{nat_tests}
use Rattle.slot_file.specs.Layout.{moment_of, slot_of}
use Rattle.slot_file.proofs.slot.Slot.of_bytes.Goals as goal

pub returns-then-b-2 : goal.returns-then-b-2
unfolding slot_of moment_of
returns-then-b-2 c = search (nat_tests, rules)

pub returns-then-version-eq2 : goal.returns-then-version-eq2
unfolding slot_of moment_of
returns-then-version-eq2 c = search (nat_tests, rules)

pub returns-else-version-eq2 : goal.returns-else-version-eq2
unfolding slot_of moment_of
returns-else-version-eq2 c = search (nat_tests, rules)
