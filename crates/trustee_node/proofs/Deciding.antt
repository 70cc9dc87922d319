-- What a decision met and added.
use Rattle.std.proofs.Common.{◌≡◌, ◌≢◌, ◌⊎◌, ℕ, List, [], ◌∷◌, ◌++◌, Option, None, Some, IfSome, is_some, Result, refl, sym, ◌∙◌, ap, subst, inl, inr, append-nil}
use Rattle.std.proofs.lemmas.Bool.{false≢true}
use mathlib.Core.List.{IsPrefix}
use Rattle.trustee_core.specs.Approvals.{BookAnswer, BookDecides, Decided, IsDenied, decided, denied}
use Rattle.lms_bytes.specs.declared.ask.Ask.{Ask}
use Rattle.lms_bytes.specs.declared.ask.Second.{Second}
use Rattle.opening_journal.specs.Entries.{JournalState}
use Rattle.opening_journal.specs.Opening.{Binds, Opens, SettlesTo, damaged, kept, made, not_bound, other_digest, settled_with, spent, unsettled, unwritten}
use Rattle.opening_journal.specs.declared.entry.Entry.{Entry}
use Rattle.opening_journal.specs.declared.entry.Entry.TheVariants.{Bound, Opened}
use Rattle.opening_journal.specs.declared.faults.Entered.{Entered}
use Rattle.opening_journal.specs.declared.faults.JournalFault.{JournalFault}
use Rattle.opening_journal.specs.declared.faults.JournalFault.TheVariants as journal
use Rattle.share_files.specs.declared.share.Share.{Share}
use Rattle.trustee_core.specs.Decisions.{Answer, Decides, FailsTest, HasTag, IsForLeaf, Refused, answer_of, bad_check, first, foreign_key, no_such_leaf, not_member, second, tested, too_long}
use Rattle.trustee_core.specs.declared.refusal.Refusal.{Refusal}
use Rattle.trustee_core.specs.declared.refusal.Refusal.TheVariants.{Journal}
use Rattle.trustee_node.specs.Turns.{Answers, InTurn, ReachesJournal, device, is_code, step, torn}
use Rattle.node_workers.proofs.Prefixes.{prefix-is}

-- what a decision met, in entries that go on from those before, and what it added to them
pub record Met (share : Share) (ids : Option (List (List ℕ))) (before : JournalState) (ask : Ask) (moment : ℕ) (answer : BookAnswer) (after : JournalState) : Type 0 where
  pub seen : List Entry
  pub added : List Entry
  pub begins : IsPrefix before.entries seen
  pub sure : before.doubt ≡ None → seen ≡ before.entries
  pub answers : Answers share ids seen ask moment (InTurn answer) added
  pub entries : after.entries ≡ seen ++ added
  pub sound : before.doubt ≡ None → is_code 7 (InTurn answer) ≡ 0

settles-begins : (before : JournalState) (entries : List Entry) → SettlesTo before entries → IsPrefix before.entries entries
settles-begins before entries settles = elim settles [
  | inl as_before ↦ prefix-is before.entries entries (sym as_before)
  | inr more ↦ (more.0 ∷ [], sym more.2)
]

settles-sure : (before : JournalState) (entries : List Entry) → SettlesTo before entries → before.doubt ≡ None → entries ≡ before.entries
settles-sure before entries settles none = elim settles [
  | inl as_before ↦ as_before
  | inr more ↦ absurd (let is = more.1 in cc)
]

no-doubt-is : (before : JournalState) (entry : Entry) → before.doubt ≡ None → before.doubt ≡ Some entry → ⊥
no-doubt-is before entry none some = false≢true (ap is_some (sym none ∙ some))

tests-sound : (share : Share) (ask : Ask) (why : Refusal) → FailsTest share ask why → is_code 7 (InTurn (Decided (Refused why))) ≡ 0
tests-sound share ask why (foreign_key differs) = refl
tests-sound share ask why (no_such_leaf key beyond) = refl
tests-sound share ask why (not_member key leaf out) = refl
tests-sound share ask why (too_long key leaf member long) = refl
tests-sound share ask why (bad_check pair own some differs) = refl

-- a test that fails does not say that the disk failed
tests-other : (share : Share) (ask : Ask) (why : Refusal) → FailsTest share ask why → Decided (Refused why) ≢ Decided (Refused (Journal journal.Device))
tests-other share ask why (foreign_key differs) = λ device. absurd (cc)
tests-other share ask why (no_such_leaf key beyond) = λ device. absurd (cc)
tests-other share ask why (not_member key leaf out) = λ device. absurd (cc)
tests-other share ask why (too_long key leaf member long) = λ device. absurd (cc)
tests-other share ask why (bad_check pair own some differs) = λ device. absurd (cc)

module _ (share : Share) (ids : Option (List (List ℕ))) (before : JournalState) (ask : Ask) (moment : ℕ) where
  met : (seen added : List Entry) (answer : BookAnswer) (after : JournalState) → SettlesTo before seen
      → Answers share ids seen ask moment (InTurn answer) added → after.entries ≡ seen ++ added
      → (before.doubt ≡ None → is_code 7 (InTurn answer) ≡ 0) → Met share ids before ask moment answer after
  met seen added answer after settles answers entries sound = record {
    seen = seen;
    added = added;
    begins = settles-begins before seen settles;
    sure = settles-sure before seen settles;
    answers = answers;
    entries = entries;
    sound = sound;
  }

  met-none : (seen : List Entry) (answer : BookAnswer) (after : JournalState) → SettlesTo before seen
      → BookDecides share ids (settled_with seen) ask moment answer (settled_with seen) → after.entries ≡ seen
      → (before.doubt ≡ None → is_code 7 (InTurn answer) ≡ 0) → Met share ids before ask moment answer after
  met-none seen answer after settles decides entries sound =
      met seen [] answer after settles
      (step answer [] (subst (λ (e : List Entry). BookDecides share ids (settled_with seen) ask moment answer (settled_with e)) (sym (append-nil seen)) decides))
      (entries ∙ sym (append-nil seen)) sound

  met-same : (answer : BookAnswer) → Answers share ids before.entries ask moment (InTurn answer) []
      → (before.doubt ≡ None → is_code 7 (InTurn answer) ≡ 0) → Met share ids before ask moment answer before
  met-same answer answers sound = met before.entries [] answer before (inl refl) answers (sym (append-nil before.entries)) sound

  module _ (approved : IsDenied ids ask → ⊥) (own : IsForLeaf share ask) where
    reaches-first : ask.second ≡ None → ReachesJournal share ids ask
    reaches-first none = record { approved = approved; own = own; tag = subst (λ (o : Option Second). IfSome o (HasTag share ask)) (sym none) tt }

    reaches-second : (pair : Second) → ask.second ≡ Some pair → HasTag share ask pair → ReachesJournal share ids ask
    reaches-second pair some tag = record { approved = approved; own = own; tag = subst (λ (o : Option Second). IfSome o (HasTag share ask)) (sym some) tag }

    module _ (none : ask.second ≡ None) where
      binds-met : (result : Result Entered JournalFault) (after : JournalState) → Binds before ask.leaf ask.message result after
          → Met share ids before ask moment (Decided (answer_of result)) after
      binds-met result after (made entries settles free) =
          met entries (Bound ask.leaf ask.message ∷ []) _ after settles
          (step _ _ (decided _ _ approved (first _ _ own none (made entries (inl refl) free)))) refl (λ _. refl)
      binds-met result after (kept entries settles answers) =
          met-none entries _ after settles (decided _ _ approved (first _ _ own none (kept entries (inl refl) answers))) refl (λ _. refl)
      binds-met result after (spent entries other settles answers differs) =
          met-none entries _ after settles (decided _ _ approved (first _ _ own none (spent entries other (inl refl) answers differs))) refl (λ _. refl)
      binds-met result after (unsettled some) = met-same _ (device (reaches-first none)) (λ _. refl)
      binds-met result after (unwritten entries settles free) =
          met entries [] _ after settles (device (reaches-first none)) (sym (append-nil entries)) (λ _. refl)
      binds-met result after (damaged entry a b is neither) =
          met-same _ (torn _ a b (reaches-first none)) (λ no. absurd (no-doubt-is before entry no is))

    module _ (pair : Second) (some : ask.second ≡ Some pair) (tag : HasTag share ask pair) where
      opens-met : (result : Result Entered JournalFault) (after : JournalState)
          → Opens before ask.leaf ask.message pair.c pair.digest moment result after
          → Met share ids before ask moment (Decided (answer_of result)) after
      opens-met result after (made entries settles is) =
          met entries (Opened ask.leaf ask.message pair.c pair.digest moment ∷ []) _ after settles
          (step _ _ (decided _ _ approved (second _ _ pair own some tag (made entries (inl refl) is)))) refl (λ _. refl)
      opens-met result after (kept entries then settles is) =
          met-none entries _ after settles (decided _ _ approved (second _ _ pair own some tag (kept entries then (inl refl) is))) refl (λ _. refl)
      opens-met result after (not_bound entries settles free) =
          met-none entries _ after settles (decided _ _ approved (second _ _ pair own some tag (not_bound entries (inl refl) free))) refl (λ _. refl)
      opens-met result after (spent entries other settles answers differs) =
          met-none entries _ after settles (decided _ _ approved (second _ _ pair own some tag (spent entries other (inl refl) answers differs))) refl (λ _. refl)
      opens-met result after (other_digest entries x y then settles is differs) =
          met-none entries _ after settles (decided _ _ approved (second _ _ pair own some tag (other_digest entries x y then (inl refl) is differs))) refl (λ _. refl)
      opens-met result after (unsettled is_some) = met-same _ (device (reaches-second pair some tag)) (λ _. refl)
      opens-met result after (unwritten entries settles is) =
          met entries [] _ after settles (device (reaches-second pair some tag)) (sym (append-nil entries)) (λ _. refl)
      opens-met result after (damaged entry a b is neither) =
          met-same _ (torn _ a b (reaches-second pair some tag)) (λ no. absurd (no-doubt-is before entry no is))

  -- the ask goes to the journal, or nothing changes and the answer does not say that the disk failed
  abbrev ReachesOr : BookAnswer → JournalState → Type 0
  ReachesOr answer after = ReachesJournal share ids ask ⊎ ((after ≡ before) × (answer ≢ Decided (Refused (Journal journal.Device))))

  decides-reaches : (IsDenied ids ask → ⊥) → (answer : Answer) (after : JournalState) → Decides share before ask moment answer after → ReachesOr (Decided answer) after
  decides-reaches approved answer after (tested why fails) = inr (refl, tests-other share ask why fails)
  decides-reaches approved answer after (first result new own none does) = inl (reaches-first approved own none)
  decides-reaches approved answer after (second result new pair own some tag does) = inl (reaches-second approved own pair some tag)

  pub book-reaches : (answer : BookAnswer) (after : JournalState) → BookDecides share ids before ask moment answer after → ReachesOr answer after
  book-reaches answer after (denied is) = inr (refl, λ device. absurd (cc))
  book-reaches answer after (decided given new approved decides) = decides-reaches approved given new decides

  decides-met : (IsDenied ids ask → ⊥) → (answer : Answer) (after : JournalState) → Decides share before ask moment answer after
      → Met share ids before ask moment (Decided answer) after
  decides-met approved answer after (tested why fails) =
      met-none before.entries _ after (inl refl) (decided _ _ approved (tested why fails)) refl (λ _. tests-sound share ask why fails)
  decides-met approved answer after (first result new own none does) = binds-met approved own none result new does
  decides-met approved answer after (second result new pair own some tag does) = opens-met approved own pair some tag result new does

  pub book-met : (answer : BookAnswer) (after : JournalState) → BookDecides share ids before ask moment answer after
      → Met share ids before ask moment answer after
  book-met answer after (denied is) = met-none before.entries _ after (inl refl) (denied is) refl (λ _. refl)
  book-met answer after (decided given new approved decides) = decides-met approved given new decides
