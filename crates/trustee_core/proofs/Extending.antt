-- Decisions add to the end of the list.
use Rattle.std.proofs.Common.{◌≡◌, ◌≢◌, ℕ, List, [], ◌∷◌, ◌++◌, Option, None, Some, Result, Ok, length, inl, inr}
use Rattle.std.proofs.Common.{refl, sym, ap, arith, length-append}
use Rattle.std.proofs.lemmas.List.{append-nil}
use Rattle.lms_bytes.specs.declared.ask.Ask.{Ask}
use Rattle.lms_bytes.specs.declared.message.MessageId.{MessageId}
use Rattle.opening_journal.specs.Entries.{JournalState}
use Rattle.opening_journal.specs.Opening.{Binds, Opens, SettlesTo, damaged, kept, made, not_bound, other_digest, spent, unsettled, unwritten}
use Rattle.opening_journal.specs.declared.entry.Entry.{Entry}
use Rattle.opening_journal.specs.declared.faults.Entered.{Entered}
use Rattle.opening_journal.specs.declared.faults.Entered.TheVariants.{New}
use Rattle.opening_journal.specs.declared.faults.JournalFault.{JournalFault}
use Rattle.share_files.specs.declared.share.Share.{Share}
use Rattle.trustee_core.specs.Decisions.{Answer, Decides, first, second, tested}
use Rattle.trustee_core.specs.Growth.{Extends}

-- an ask of round one has no pair, and one of round two has one
pub no-pair : {T : Type 0} {pair : Option T} {value : T} → pair ≡ None → pair ≡ Some value → ⊥
no-pair none some = absurd (cc)

pub same-pair : {T : Type 0} {pair : Option T} {value other : T} → pair ≡ Some value → pair ≡ Some other → value ≡ other
same-pair mine some = cc

nothing-added : (before : JournalState) (entries : List Entry) → SettlesTo before entries → Extends before entries
nothing-added before entries settles = record { settled = entries; added = []; settles = settles; entries_are = sym (append-nil entries); few = omega arith }

one-added : (before : JournalState) (entries : List Entry) (entry : Entry) → SettlesTo before entries → Extends before (entries ++ entry ∷ [])
one-added before entries entry settles = record { settled = entries; added = entry ∷ []; settles = settles; entries_are = refl; few = omega arith }

as-before : (before : JournalState) → Extends before before.entries
as-before before = nothing-added before before.entries (inl refl)

module _ (before : JournalState) (leaf : ℕ) (message : MessageId) where
  binds-extends : (result : Result Entered JournalFault) (after : JournalState) → Binds before leaf message result after → Extends before after.entries
  binds-extends result after (made entries settles free) = one-added before entries _ settles
  binds-extends result after (kept entries settles answers) = nothing-added before entries settles
  binds-extends result after (spent entries other settles answers differs) = nothing-added before entries settles
  binds-extends result after (unsettled some) = as-before before
  binds-extends result after (unwritten entries settles free) = nothing-added before entries settles
  binds-extends result after (damaged entry a b is neither) = as-before before

  module _ (c digest : List ℕ) (moment : ℕ) where
    opens-extends : (result : Result Entered JournalFault) (after : JournalState) → Opens before leaf message c digest moment result after → Extends before after.entries
    opens-extends result after (made entries settles is) = one-added before entries _ settles
    opens-extends result after (kept entries then settles is) = nothing-added before entries settles
    opens-extends result after (not_bound entries settles free) = nothing-added before entries settles
    opens-extends result after (spent entries other settles answers differs) = nothing-added before entries settles
    opens-extends result after (other_digest entries x y then settles is differs) = nothing-added before entries settles
    opens-extends result after (unsettled some) = as-before before
    opens-extends result after (unwritten entries settles is) = nothing-added before entries settles
    opens-extends result after (damaged entry a b is neither) = as-before before

pub decides-extends : (share : Share) (before after : JournalState) (ask : Ask) (moment : ℕ) (answer : Answer) → Decides share before ask moment answer after → Extends before after.entries
decides-extends share before after ask moment answer (tested why fails) = as-before before
decides-extends share before after ask moment answer (first result new for_leaf none does) = binds-extends before ask.leaf ask.message result new does
decides-extends share before after ask moment answer (second result new pair for_leaf some tag does) = opens-extends before ask.leaf ask.message pair.c pair.digest moment result new does

-- a new entry makes the list longer
longer : (before : JournalState) (entries : List Entry) (entry : Entry) → SettlesTo before entries → entries ++ entry ∷ [] ≢ before.entries
longer before entries entry settles same = elim settles [
  | inl is ↦ absurd (omega (arith, ap length same, ap length is, length-append entries (entry ∷ [])))
  | inr grown ↦
      absurd (omega (arith, ap length same, ap length grown.2, length-append entries (entry ∷ []), length-append before.entries (grown.0 ∷ [])))
]

module _ (before : JournalState) (leaf : ℕ) (message : MessageId) where
  pub binds-adds : (result : Result Entered JournalFault) (after : JournalState) → Binds before leaf message result after → result ≡ Ok New → after.entries ≢ before.entries
  binds-adds result after (made entries settles free) is = longer before entries _ settles
  binds-adds result after (kept entries settles answers) is = absurd (cc)
  binds-adds result after (spent entries other settles answers differs) is = absurd (cc)
  binds-adds result after (unsettled some) is = absurd (cc)
  binds-adds result after (unwritten entries settles free) is = absurd (cc)
  binds-adds result after (damaged entry a b is_in neither) is = absurd (cc)

  pub opens-adds : (c digest : List ℕ) (moment : ℕ) (result : Result Entered JournalFault) (after : JournalState) → Opens before leaf message c digest moment result after → result ≡ Ok New → after.entries ≢ before.entries
  opens-adds c digest moment result after (made entries settles bound) is = longer before entries _ settles
  opens-adds c digest moment result after (kept entries then settles opened) is = absurd (cc)
  opens-adds c digest moment result after (not_bound entries settles free) is = absurd (cc)
  opens-adds c digest moment result after (spent entries other settles answers differs) is = absurd (cc)
  opens-adds c digest moment result after (other_digest entries x y then settles opened differs) is = absurd (cc)
  opens-adds c digest moment result after (unsettled some) is = absurd (cc)
  opens-adds c digest moment result after (unwritten entries settles bound) is = absurd (cc)
  opens-adds c digest moment result after (damaged entry a b is_in neither) is = absurd (cc)
