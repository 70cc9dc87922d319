-- The numbers by which an aggregator knows refusals, in the order of the tests, from 1 on.
use Rattle.std.specs.Prelude.{ℕ}
use Rattle.opening_journal.specs.declared.faults.JournalFault.TheVariants as journal
use Rattle.trustee_core.specs.declared.refusal.Refusal.{Refusal}
use Rattle.trustee_core.specs.declared.refusal.Refusal.TheVariants.{ForeignKey, NoSuchLeaf, NotMember, TooLong}
use Rattle.trustee_core.specs.declared.refusal.Refusal.TheVariants.{BadCheck, Journal}

abbrev pub refusal_code : Refusal → ℕ
refusal_code ForeignKey = 1
refusal_code NoSuchLeaf = 2
refusal_code NotMember = 3
refusal_code (TooLong got) = 4
refusal_code BadCheck = 5
refusal_code (Journal journal.Device) = 6
refusal_code (Journal (journal.Damaged leaf a b)) = 7
refusal_code (Journal journal.NotBound) = 8
refusal_code (Journal (journal.Spent kept)) = 9
refusal_code (Journal (journal.OtherDigest c digest)) = 10
