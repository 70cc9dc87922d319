-- What a decision notes.
use Rattle.std.proofs.Common.{◌≡◌, ◌⊎◌, ℕ, List, [], ◌∷◌, ◌++◌, Option, None, Some, All, Result, Ok, Err, length, drop, inl, inr, refl, sym, ap, ◌∙◌, subst, append_assoc}
use Rattle.std.specs.Prelude.{Contains}
use Rattle.std.proofs.Math.Seq.{drop-append_seam}
use Rattle.std.proofs.lemmas.List.{append-nil}
use Rattle.std.proofs.lemmas.List.Elements.{All-append, All-cons, All-map, All-nil, Contains-append_right, Contains-push}
use Rattle.lms_bytes.specs.declared.ask.Ask.{Ask}
use Rattle.lms_bytes.specs.declared.ask.Second.{Second}
use Rattle.opening_journal.specs.Entries.{JournalState}
use Rattle.opening_journal.specs.Opening.{Binds, Opens, SettlesTo, damaged, kept, made, not_bound, other_digest, spent, unsettled, unwritten}
use Rattle.opening_journal.specs.declared.entry.Entry.{Entry}
use Rattle.opening_journal.specs.declared.entry.Entry.TheVariants.{Bound, Opened}
use Rattle.opening_journal.specs.declared.faults.Entered.{Entered}
use Rattle.opening_journal.specs.declared.faults.JournalFault.{JournalFault}
use Rattle.opening_journal.specs.declared.faults.JournalFault.TheVariants as fault
use Rattle.trustee_core.specs.Decisions.{answer_of}
use Rattle.trustee_core.specs.Notes.{HasNote, MayNote, Notes, entries_in, entry_by, entry_of, own_doubted, own_made, turned_out}
use Rattle.trustee_core.specs.Notes.{made as made_of}
use Rattle.trustee_core.specs.declared.note.Note.{Note}
use Rattle.trustee_core.specs.declared.note.Note.TheVariants.{Made, Doubted}
use Rattle.trustee_core.proofs.NoteLists.{contained, entries-append, entries-made, has-contained, has-left}

-- the entry that the journal's answer leaves in doubt
abbrev pub left_in_doubt : Result Entered JournalFault → Entry → List Note
left_in_doubt (Ok entered) entry = []
left_in_doubt (Err fault.Device) entry = Doubted entry ∷ []
left_in_doubt (Err (fault.Damaged leaf a b)) entry = []
left_in_doubt (Err fault.NotBound) entry = []
left_in_doubt (Err (fault.Spent message)) entry = []
left_in_doubt (Err (fault.OtherDigest c digest)) entry = []

-- the notes after a call of the journal, which leaves these entries
abbrev pub noted : List Note → List Entry → Ask → ℕ → Result Entered JournalFault → List Note
noted notes entries ask moment result =
    notes ++ (made_of (drop (length (entries_in notes)) entries) ++ left_in_doubt result (entry_of ask moment))

entries-left : (result : Result Entered JournalFault) (entry : Entry) → entries_in (left_in_doubt result entry) ≡ []
entries-left (Ok entered) entry = refl
entries-left (Err fault.Device) entry = refl
entries-left (Err (fault.Damaged leaf a b)) entry = refl
entries-left (Err fault.NotBound) entry = refl
entries-left (Err (fault.Spent message)) entry = refl
entries-left (Err (fault.OtherDigest c digest)) entry = refl

module _ (notes : List Note) (ask : Ask) (moment : ℕ) where
  abbrev May : Result Entered JournalFault → Note → Type 0
  May result note = MayNote notes ask moment (answer_of result) note

  left-may : (result : Result Entered JournalFault) → All (May result) (left_in_doubt result (entry_of ask moment))
  left-may (Ok entered) = All-nil (May (Ok entered))
  left-may (Err fault.Device) = All-cons (May (Err fault.Device)) (Doubted (entry_of ask moment)) [] (own_doubted refl) (All-nil (May (Err fault.Device)))
  left-may (Err (fault.Damaged leaf a b)) = All-nil (May (Err (fault.Damaged leaf a b)))
  left-may (Err fault.NotBound) = All-nil (May (Err fault.NotBound))
  left-may (Err (fault.Spent message)) = All-nil (May (Err (fault.Spent message)))
  left-may (Err (fault.OtherDigest c digest)) = All-nil (May (Err (fault.OtherDigest c digest)))

  -- what came of the list of entries
  pub record Came (before : JournalState) (result : Result Entered JournalFault) (after : JournalState) : Type 0 where
    pub more : List Entry
    pub entries : after.entries ≡ before.entries ++ more
    pub each : All (λ (entry : Entry). May result (Made entry)) more
    pub doubt : (entry : Entry) → after.doubt ≡ Some entry
        → (before.doubt ≡ Some entry) ⊎ ((result ≡ Err fault.Device) × (entry ≡ entry_of ask moment))

  module _ (before : JournalState) (has : (entry : Entry) → before.doubt ≡ Some entry → HasNote notes (Doubted entry)) where
    came-none : (result : Result Entered JournalFault) → Came before result before
    came-none result = record {
      more = [];
      entries = sym (append-nil before.entries);
      each = All-nil (λ (entry : Entry). May result (Made entry));
      doubt = λ entry is. inl is;
    }

    came-settled : (result : Result Entered JournalFault) (entries : List Entry) → SettlesTo before entries → Came before result (record { entries = entries; doubt = None })
    came-settled result entries (inl is) = record {
      more = [];
      entries = is ∙ sym (append-nil before.entries);
      each = All-nil (λ (entry : Entry). May result (Made entry));
      doubt = λ entry some. absurd (cc);
    }
    came-settled result entries (inr one) = record {
      more = one.0 ∷ [];
      entries = one.2;
      each = All-cons (λ (entry : Entry). May result (Made entry)) one.0 [] (turned_out one.0 (contained notes (Doubted one.0) (has one.0 one.1))) (All-nil (λ (entry : Entry). May result (Made entry)));
      doubt = λ entry some. absurd (cc);
    }

    came-made : (result : Result Entered JournalFault) (entries : List Entry) (own : Entry) → SettlesTo before entries → own ≡ entry_of ask moment → Came before result (record { entries = entries ++ own ∷ []; doubt = None })
    came-made result entries own settles is =
        let settled = came-settled result entries settles in
        let Each : Entry → Type 0 = λ entry. May result (Made entry) in
        record {
          more = settled.more ++ own ∷ [];
          entries = ap (λ (e : List Entry). e ++ own ∷ []) settled.entries ∙ append_assoc before.entries settled.more (own ∷ []);
          each = All-append Each settled.more (own ∷ []) settled.each (All-cons Each own [] (subst Each (sym is) own_made) (All-nil Each));
          doubt = λ entry some. absurd (cc);
        }

    came-unwritten : (entries : List Entry) (own : Entry) → SettlesTo before entries → own ≡ entry_of ask moment → Came before (Err fault.Device) (record { entries = entries; doubt = Some own })
    came-unwritten entries own settles is =
        let settled = came-settled (Err fault.Device) entries settles in
        record {
          more = settled.more;
          entries = settled.entries;
          each = settled.each;
          doubt = λ entry some. (let this : own ≡ entry = cc in inr (refl, sym this ∙ is));
        }

    binds-came : (result : Result Entered JournalFault) (after : JournalState) → ask.second ≡ None → Binds before ask.leaf ask.message result after → Came before result after
    binds-came result after none (made entries settles free) = came-made result entries (Bound ask.leaf ask.message) settles (ap (λ (o : Option Second). entry_by o ask moment) (sym none))
    binds-came result after none (kept entries settles answers) = came-settled result entries settles
    binds-came result after none (spent entries other settles answers differs) = came-settled result entries settles
    binds-came result after none (unsettled some) = came-none result
    binds-came result after none (unwritten entries settles free) = came-unwritten entries (Bound ask.leaf ask.message) settles (ap (λ (o : Option Second). entry_by o ask moment) (sym none))
    binds-came result after none (damaged entry a b is neither) = came-none result

    opens-came : (pair : Second) (result : Result Entered JournalFault) (after : JournalState) → ask.second ≡ Some pair → Opens before ask.leaf ask.message pair.c pair.digest moment result after → Came before result after
    opens-came pair result after some (made entries settles is) = came-made result entries (Opened ask.leaf ask.message pair.c pair.digest moment) settles (ap (λ (o : Option Second). entry_by o ask moment) (sym some))
    opens-came pair result after some (kept entries then settles is) = came-settled result entries settles
    opens-came pair result after some (not_bound entries settles free) = came-settled result entries settles
    opens-came pair result after some (spent entries other settles answers differs) = came-settled result entries settles
    opens-came pair result after some (other_digest entries x y then settles is differs) = came-settled result entries settles
    opens-came pair result after some (unsettled unknown) = came-none result
    opens-came pair result after some (unwritten entries settles is) = came-unwritten entries (Opened ask.leaf ask.message pair.c pair.digest moment) settles (ap (λ (o : Option Second). entry_by o ask moment) (sym some))
    opens-came pair result after some (damaged entry a b is neither) = came-none result

    module _ (same : entries_in notes ≡ before.entries) (result : Result Entered JournalFault) (after : JournalState) (came : Came before result after) where
      -- the entries after those that were there
      behind : drop (length (entries_in notes)) after.entries ≡ came.more
      behind =
          ap (λ (e : List Entry). drop (length (entries_in notes)) e) (came.entries ∙ ap (λ (e : List Entry). e ++ came.more) (sym same))
          ∙ drop-append_seam (entries_in notes) came.more

      abbrev left : List Note
      left = left_in_doubt result (entry_of ask moment)

      noted-is : noted notes after.entries ask moment result ≡ notes ++ (made_of came.more ++ left)
      noted-is = ap (λ (e : List Entry). notes ++ (made_of e ++ left)) behind

      notes-came : Notes ask moment (answer_of result) notes (noted notes after.entries ask moment result)
      notes-came = record {
        added = made_of came.more ++ left;
        are = noted-is;
        each = All-append (May result) (made_of came.more) left (All-map (May result) (λ (entry : Entry). Made entry) came.more came.each) (left-may result);
      }

      made-came : entries_in (noted notes after.entries ask moment result) ≡ after.entries
      made-came =
          ap entries_in noted-is ∙ entries-append notes (made_of came.more ++ left)
          ∙ (λ i. same i ++ (entries-append (made_of came.more) left ∙ (λ j. entries-made came.more j ++ entries-left result (entry_of ask moment) j) ∙ append-nil came.more) i)
          ∙ sym came.entries

      left-has : (entry : Entry) → result ≡ Err fault.Device → entry ≡ entry_of ask moment → HasNote (notes ++ (made_of came.more ++ left)) (Doubted entry)
      left-has entry device is =
          has-contained (notes ++ (made_of came.more ++ left)) (Doubted entry)
          (Contains-append_right notes (made_of came.more ++ left) (Doubted entry)
          (subst (λ (r : Result Entered JournalFault). Contains (made_of came.more ++ left_in_doubt r (entry_of ask moment)) (Doubted entry)) (sym device)
          (subst (λ (e : Entry). Contains (made_of came.more ++ Doubted (entry_of ask moment) ∷ []) (Doubted e)) (sym is)
          (Contains-push (made_of came.more) (Doubted (entry_of ask moment))))))

      doubt-came : (entry : Entry) → after.doubt ≡ Some entry → HasNote (noted notes after.entries ask moment result) (Doubted entry)
      doubt-came entry some =
          subst (λ (n : List Note). HasNote n (Doubted entry)) (sym noted-is)
          (elim (came.doubt entry some) [
            | inl old ↦ has-left notes (made_of came.more ++ left) (Doubted entry) (has entry old)
            | inr own ↦ left-has entry own.0 own.1
          ])

-- and so of both rounds
came : (notes : List Note) (ask : Ask) (moment : ℕ) (before : JournalState) → ((entry : Entry) → before.doubt ≡ Some entry → HasNote notes (Doubted entry))
    → (result : Result Entered JournalFault) (after : JournalState) (pair : Option Second) → ask.second ≡ pair
    → (ask.second ≡ None → Binds before ask.leaf ask.message result after)
    → ((pair : Second) → ask.second ≡ Some pair → Opens before ask.leaf ask.message pair.c pair.digest moment result after)
    → Came notes ask moment before result after
came notes ask moment before has result after None is binds opens = binds-came notes ask moment before has result after is (binds is)
came notes ask moment before has result after (Some pair) is binds opens = opens-came notes ask moment before has pair result after is (opens pair is)

-- the notes after a call of the journal: they have what it has, and each new one may be noted
pub record AreNoted (old new : List Note) (ask : Ask) (moment : ℕ) (result : Result Entered JournalFault) (after : JournalState) : Type 0 where
  pub made : entries_in new ≡ after.entries
  pub doubt : (entry : Entry) → after.doubt ≡ Some entry → HasNote new (Doubted entry)
  pub notes : Notes ask moment (answer_of result) old new

pub are-noted : (old new : List Note) (ask : Ask) (moment : ℕ) (result : Result Entered JournalFault) (before after : JournalState)
    → ((entry : Entry) → before.doubt ≡ Some entry → HasNote old (Doubted entry)) → entries_in old ≡ before.entries
    → (ask.second ≡ None → Binds before ask.leaf ask.message result after)
    → ((pair : Second) → ask.second ≡ Some pair → Opens before ask.leaf ask.message pair.c pair.digest moment result after)
    → new ≡ noted old after.entries ask moment result → AreNoted old new ask moment result after
are-noted old new ask moment result before after has same binds opens is =
    let it = came old ask moment before has result after ask.second refl binds opens in
    record {
      made = ap entries_in is ∙ made-came old ask moment before has same result after it;
      doubt = λ entry some. subst (λ (n : List Note). HasNote n (Doubted entry)) (sym is) (doubt-came old ask moment before has same result after it entry some);
      notes = subst (Notes ask moment (answer_of result) old) (sym is) (notes-came old ask moment before has same result after it);
    }
