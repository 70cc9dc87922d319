-- What turns note.
use Rattle.std.proofs.Common.{◌≡◌, ◌≢◌, ◌+◌, ℕ, Bool, false, cond, Option, List, [], ◌∷◌, ◌++◌, All, inl, inr, refl, sym, ap, ◌∙◌, subst, arith, append_assoc, append-nil}
use Rattle.std.specs.Prelude.{Contains, count_by}
use Rattle.std.proofs.lemmas.List.Elements.{All-append, All-cons, All-contains, All-nil, All-weaker, Contains-append_cases, Contains-append_left, Contains-append_right, Contains-push}
use Rattle.std.proofs.lemmas.List.Sums.{sum_by-cons}
use mathlib.Core.List.{IsPrefix}
use Rattle.lms_bytes.specs.declared.ask.Ask.{Ask}
use Rattle.opening_journal.specs.declared.entry.Entry.{Entry}
use Rattle.opening_journal.specs.declared.faults.JournalFault.TheVariants as journal
use Rattle.share_files.specs.declared.share.Share.{Share}
use Rattle.trustee_core.specs.Decisions.{Answer, Refused}
use Rattle.trustee_core.specs.Notes.{MayNote, entries_in, entry_of, own_doubted, own_made}
use Rattle.trustee_core.specs.Notes.{turned_out as came_out}
use Rattle.trustee_core.specs.declared.kept.TrusteeName.{TrusteeName}
use Rattle.trustee_core.specs.declared.note.Note.{Note}
use Rattle.trustee_core.specs.declared.note.Note.TheVariants.{Made, Doubted}
use Rattle.trustee_core.specs.declared.refusal.Refusal.TheVariants as refusal
use Rattle.trustee_core.proofs.NoteLists.{entries-append}
use Rattle.turn_lock.specs.Pass.{Seen}
use Rattle.trustee_node.specs.Turns.{IsAsked, IsNoteOf, NotedBy, ReachesJournal, Turn, asked_doubted, asked_made, turned_out}
use Rattle.node_workers.proofs.Prefixes.{prefix-same, prefix-then}

pub entries-prefix : (xs ys : List Note) → IsPrefix xs ys → IsPrefix (entries_in xs) (entries_in ys)
entries-prefix xs ys p = (entries_in p.0, sym (entries-append xs p.0) ∙ ap entries_in p.1)

contains-later : (xs ys : List Note) (note : Note) → IsPrefix xs ys → Contains xs note → Contains ys note
contains-later xs ys note p at = subst (λ (l : List Note). Contains l note) p.1 (Contains-append_left xs p.0 note at)

-- what turns noted
module _ (share : Share) (ids : Option (List (List ℕ))) where
  asked-left : (turns more : List Turn) (entry : Entry) → IsAsked share ids turns entry → IsAsked share ids (turns ++ more) entry
  asked-left turns more entry at = record {
    turn = at.turn;
    is_one = Contains-append_left turns more at.turn at.is_one;
    reaches = at.reaches;
    entry_is = at.entry_is;
  }

  asked-right : (turns more : List Turn) (entry : Entry) → IsAsked share ids more entry → IsAsked share ids (turns ++ more) entry
  asked-right turns more entry at = record {
    turn = at.turn;
    is_one = Contains-append_right turns more at.turn at.is_one;
    reaches = at.reaches;
    entry_is = at.entry_is;
  }

  -- the ask of the only turn
  asked-here : (turn : Turn) → ReachesJournal share ids turn.ask → IsAsked share ids (turn ∷ []) (entry_of turn.ask turn.moment)
  asked-here turn reaches = record { turn = turn; is_one = Contains-push [] turn; reaches = reaches; entry_is = refl }

  -- what one turn noted whose ask went to the journal, in a log that goes on from what it met
  pub note-of : (turn : Turn) (notes log : List Note) → ReachesJournal share ids turn.ask → IsPrefix notes log
      → (answer : Answer) (note : Note) → MayNote notes turn.ask turn.moment answer note → IsNoteOf share ids log (turn ∷ []) note
  note-of turn notes log reaches p answer note own_made = asked_made (entry_of turn.ask turn.moment) (asked-here turn reaches)
  note-of turn notes log reaches p answer note (own_doubted is) = asked_doubted (entry_of turn.ask turn.moment) (asked-here turn reaches)
  note-of turn notes log reaches p answer note (came_out entry at) = turned_out entry (contains-later notes log (Doubted entry) p at)

  note-left : (log last : List Note) (turns more : List Turn) → IsPrefix log last → (note : Note) → IsNoteOf share ids log turns note → IsNoteOf share ids last (turns ++ more) note
  note-left log last turns more p note (asked_made entry at) = asked_made entry (asked-left turns more entry at)
  note-left log last turns more p note (asked_doubted entry at) = asked_doubted entry (asked-left turns more entry at)
  note-left log last turns more p note (turned_out entry at) = turned_out entry (contains-later log last (Doubted entry) p at)

  note-right : (log last : List Note) (turns more : List Turn) → IsPrefix log last → (note : Note) → IsNoteOf share ids log more note → IsNoteOf share ids last (turns ++ more) note
  note-right log last turns more p note (asked_made entry at) = asked_made entry (asked-right turns more entry at)
  note-right log last turns more p note (asked_doubted entry at) = asked_doubted entry (asked-right turns more entry at)
  note-right log last turns more p note (turned_out entry at) = turned_out entry (contains-later log last (Doubted entry) p at)

  both-notes : (left right last : List Note) (turns more : List Turn) (noted later : List Note) → IsPrefix left last → IsPrefix right last
      → All (IsNoteOf share ids left turns) noted → All (IsNoteOf share ids right more) later → All (IsNoteOf share ids last (turns ++ more)) (noted ++ later)
  both-notes left right last turns more noted later p q a b =
      let Is = IsNoteOf share ids last (turns ++ more) in
      All-append Is noted later
      (All-weaker (IsNoteOf share ids left turns) Is (λ note is. note-left left last turns more p note is) noted a)
      (All-weaker (IsNoteOf share ids right more) Is (λ note is. note-right right last turns more q note is) later b)

  pub noted-none : (pass : Seen Note TrusteeName) → NotedBy share ids pass pass []
  noted-none pass = record { noted = []; are = sym (append-nil pass.own); each = All-nil (IsNoteOf share ids pass.log []); log = prefix-same pass.log }

  pub noted-then : (old mid new : Seen Note TrusteeName) (turns more : List Turn) → NotedBy share ids old mid turns → NotedBy share ids mid new more → NotedBy share ids old new (turns ++ more)
  noted-then old mid new turns more a b = record {
    noted = a.noted ++ b.noted;
    are = b.are ∙ ap (λ (n : List Note). n ++ b.noted) a.are ∙ append_assoc old.own a.noted b.noted;
    each = both-notes mid.log new.log new.log turns more a.noted b.noted b.log (prefix-same new.log) a.each b.each;
    log = prefix-then old.log mid.log new.log a.log b.log;
  }

  -- passes that are joined
  pub noted-join : (start old other new : Seen Note TrusteeName) (turns more : List Turn) → start.own ≡ [] → new.own ≡ old.own ++ other.own
      → IsPrefix old.log new.log → IsPrefix other.log new.log → NotedBy share ids start old turns → NotedBy share ids start other more → NotedBy share ids start new (turns ++ more)
  noted-join start old other new turns more none sum left right a b =
      let first : old.own ≡ a.noted = a.are ∙ ap (λ (n : List Note). n ++ a.noted) none in
      let second : other.own ≡ b.noted = b.are ∙ ap (λ (n : List Note). n ++ b.noted) none in
      record {
        noted = a.noted ++ b.noted;
        are = sum ∙ (λ i. first i ++ second i) ∙ ap (λ (n : List Note). n ++ (a.noted ++ b.noted)) (sym none);
        each = both-notes old.log other.log new.log turns more a.noted b.noted left right a.each b.each;
        log = prefix-then start.log old.log new.log a.log left;
      }

-- the only item of a list
one-is : {A : Type 0} (x y : A) → Contains (x ∷ []) y → y ≡ x
one-is x y at = All-contains (λ (z : _). z ≡ x) (x ∷ []) y (All-cons (λ (z : _). z ≡ x) x [] refl (All-nil (λ (z : _). z ≡ x))) at

-- an entry that was made stands in the notes as made, and the other way round
pub contains-made : (notes : List Note) (entry : Entry) → Contains (entries_in notes) entry → Contains notes (Made entry)
contains-made [] entry at = absurd (none-in entry at)
  where
    none-in : (entry : Entry) → Contains [] entry → ⊥
    none-in entry at = All-contains (λ (e : Entry). ⊥) [] entry (All-nil (λ (e : Entry). ⊥)) at
contains-made (Made first ∷ notes) entry at = elim (Contains-append_cases (first ∷ []) (entries_in notes) entry at) [
  | inl here ↦
      Contains-append_left (Made first ∷ []) notes (Made entry)
      (subst (λ (e : Entry). Contains (Made first ∷ []) (Made e)) (sym (one-is first entry here)) (Contains-push [] (Made first)))
  | inr later ↦ Contains-append_right (Made first ∷ []) notes (Made entry) (contains-made notes entry later)
]
contains-made (Doubted first ∷ notes) entry at = Contains-append_right (Doubted first ∷ []) notes (Made entry) (contains-made notes entry at)

pub made-contained : (notes : List Note) (entry : Entry) → Contains notes (Made entry) → Contains (entries_in notes) entry
made-contained [] entry at = absurd (none-in (Made entry) at)
  where
    none-in : (note : Note) → Contains [] note → ⊥
    none-in note at = All-contains (λ (n : Note). ⊥) [] note (All-nil (λ (n : Note). ⊥)) at
made-contained (Made first ∷ notes) entry at = elim (Contains-append_cases (Made first ∷ []) notes (Made entry) at) [
  | inl here ↦
      let is = one-is (Made first) (Made entry) here in
      let same : first ≡ entry = cc in
      Contains-append_left (first ∷ []) (entries_in notes) entry (subst (λ (e : Entry). Contains (first ∷ []) e) same (Contains-push [] first))
  | inr later ↦ Contains-append_right (first ∷ []) (entries_in notes) entry (made-contained notes entry later)
]
made-contained (Doubted first ∷ notes) entry at = elim (Contains-append_cases (Doubted first ∷ []) notes (Made entry) at) [
  | inl here ↦ (let is = one-is (Doubted first) (Made entry) here in absurd (cc))
  | inr later ↦ made-contained notes entry later
]

-- What one turn noted that made no entry and was not answered that the disk failed: only what the log has in doubt. For
-- an ask that did not go to the journal.
pub note-still : (share : Share) (ids : Option (List (List ℕ))) (turns : List Turn) (notes log added : List Note) (ask : Ask) (moment : ℕ) (answer : Answer)
    → entries_in added ≡ [] → answer ≢ Refused (refusal.Journal journal.Device) → IsPrefix notes log
    → (note : Note) → Contains added note → MayNote notes ask moment answer note → IsNoteOf share ids log turns note
note-still share ids turns notes log added ask moment answer none other p note at own_made =
    absurd (none-in (entry_of ask moment) (subst (λ (l : List Entry). Contains l (entry_of ask moment)) none (made-contained added (entry_of ask moment) at)))
  where
    none-in : (entry : Entry) → Contains [] entry → ⊥
    none-in entry at = All-contains (λ (e : Entry). ⊥) [] entry (All-nil (λ (e : Entry). ⊥)) at
note-still share ids turns notes log added ask moment answer none other p note at (own_doubted is) = absurd (other is)
note-still share ids turns notes log added ask moment answer none other p note at (came_out entry doubted) = turned_out entry (contains-later notes log (Doubted entry) p doubted)

-- an entry as it is counted among notes
made_and : (Entry → Bool) → Note → Bool
made_and test (Made entry) = test entry
made_and test (Doubted entry) = false

count-cons : {A : Type 0} (test : A → Bool) (x : A) (xs : List A) → count_by test (x ∷ xs) ≡ cond (test x) 1 0 + count_by test xs
count-cons test x xs = sum_by-cons (λ (y : _). cond (test y) 1 0) x xs

zero-and : (n : ℕ) → 0 + n ≡ n
zero-and n = omega arith

entries-count : (test : Entry → Bool) (notes : List Note) → count_by (made_and test) notes ≡ count_by test (entries_in notes)
unfolding made_and
entries-count test [] = refl
entries-count test (Made entry ∷ notes) =
    count-cons (made_and test) (Made entry) notes ∙ ap (λ (n : ℕ). cond (test entry) 1 0 + n) (entries-count test notes)
    ∙ sym (count-cons test entry (entries_in notes))
entries-count test (Doubted entry ∷ notes) =
    count-cons (made_and test) (Doubted entry) notes ∙ zero-and (count_by (made_and test) notes) ∙ entries-count test notes

-- counts of notes are counts of entries too
pub entries-counted : (test : Entry → Bool) (last first own : List Note)
    → ((on : Note → Bool) → count_by on last ≡ count_by on first + count_by on own)
    → count_by test (entries_in last) ≡ count_by test (entries_in first) + count_by test (entries_in own)
entries-counted test last first own counts =
    sym (entries-count test last) ∙ counts (made_and test) ∙ (λ i. entries-count test first i + entries-count test own i)
