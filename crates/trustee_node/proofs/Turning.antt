-- One turn of a pass.
use Rattle.std.proofs.Common.{◌≡◌, ◌≢◌, ◌⊎◌, ◌+◌, ◌-◌, ◌^◌, ◌≤◌, ◌<◌, ℕ, false, List, [], ◌∷◌, ◌++◌, length, drop, get_or, None, Option, Result, Ok, Err, IsTrue, refl, sym, ap, ◌∙◌, subst, arith, inl, inr, append-nil, All}
use Rattle.std.proofs.Math.Seq.{drop-append_seam}
use Rattle.std.proofs.lemmas.List.{append_cancel_left}
use Rattle.std.proofs.lemmas.List.Elements.{All-contains_itself, All-nil, All-weaker}
use Rattle.opening_journal.specs.declared.faults.JournalFault.TheVariants as journal
use mathlib.Core.List.{IsPrefix}
use native.Mathlib.Decide.{dec_le}
use mathlib.Core.Logic.{dite}
use Rattle.trustee_core.specs.Approvals.{BookAnswer, BookDecides, Decided, Denied, IsDenied, as_denial, book_answer_in, decided, denied}
use Rattle.trustee_core.specs.declared.denial.Denial.{Denial}
use Rattle.disk_trait.specs.Faults.{Rose}
use Rattle.disk_trait.specs.declared.disk.Pages as pages
use Rattle.disk_trait.specs.declared.faults.Faults as counting
use Rattle.lms_bytes.specs.declared.ask.Ask.{Ask}
use Rattle.opening_journal.specs.Entries.{JournalState}
use Rattle.opening_journal.specs.Journal.{disk_of, faults_of, state_of}
use Rattle.opening_journal.specs.declared.entry.Entry.{Entry}
use Rattle.opening_journal.proofs.Held.{holds}
use Rattle.share_files.specs.declared.share.Share.{Share}
use Rattle.trustee_core.specs.Decisions.{Answer, Granted, Refused, answer_in}
use Rattle.trustee_core.specs.Notes.{MayNote, Notes, entries_in}
use Rattle.trustee_core.specs.Trustee.{Decided as DecidedOn, journal_of, notes_of, share_of}
use Rattle.trustee_core.specs.declared.grant.Grant.{Grant}
use Rattle.trustee_core.specs.declared.kept.TrusteeName.{TrusteeName}
use Rattle.trustee_core.specs.declared.note.Note.{Note}
use Rattle.trustee_core.specs.declared.refusal.Refusal.{Refusal}
use Rattle.trustee_core.specs.declared.refusal.Refusal.TheVariants as refusal
use Rattle.trustee_core.specs.declared.trustee.Trustee.{Trustee}
use Rattle.turn_lock.specs.Lock.{Lock}
use Rattle.turn_lock.specs.Pass.{DrawsOne, Gives, IsWornOut, SameDone, SameDrawn, SamePass, Seen, Takes}
use Rattle.trustee_node.specs.Turns.{HasSteadyDisk, InTurn, IsNoteOf, NoTurn, Outcome, Serves, TellsDisk, Turn, ended, is_code, next, worn}
use Rattle.trustee_node.proofs.Deciding.{book-met, book-reaches}
use Rattle.trustee_node.proofs.Noting.{entries-prefix, note-of, note-still}
use Rattle.trustee_core.proofs.NoteLists.{entries-append}
use Rattle.node_workers.proofs.Prefixes.{prefix-is, prefix-same, prefix-then}
use Rattle.node_workers.proofs.Onward.{same-then}

module _ {D : Type 0} {p : pages.Ghosts D} {f : counting.Ghosts D} where
  -- what a trustee under a lock is called
  abbrev pub name_of : Trustee D p f → TrusteeName
  name_of trustee = record {
    share = share_of trustee;
    told = p.told (disk_of (journal_of trustee));
    honest = p.honest (disk_of (journal_of trustee));
    steady = f.steady (disk_of (journal_of trustee));
  }

at-most : (x k : ℕ) → x ≡ 0 → x ≤ k
at-most x k is = omega (arith, is)

-- only a refusal by the disk has code 6, and only a refusal for a damaged slot has code 7
six : (why : Refusal) → why ≢ (refusal.Journal journal.Device) → is_code 6 (InTurn (Decided (Refused why))) ≡ 0
six refusal.ForeignKey other = refl
six refusal.NoSuchLeaf other = refl
six refusal.NotMember other = refl
six (refusal.TooLong got) other = refl
six refusal.BadCheck other = refl
six (refusal.Journal journal.Device) other = absurd (other refl)
six (refusal.Journal (journal.Damaged leaf a b)) other = refl
six (refusal.Journal journal.NotBound) other = refl
six (refusal.Journal (journal.Spent kept)) other = refl
six (refusal.Journal (journal.OtherDigest c digest)) other = refl

seven : (why : Refusal) → ((leaf a b : ℕ) → why ≢ refusal.Journal (journal.Damaged leaf a b)) → is_code 7 (InTurn (Decided (Refused why))) ≡ 0
seven refusal.ForeignKey never = refl
seven refusal.NoSuchLeaf never = refl
seven refusal.NotMember never = refl
seven (refusal.TooLong got) never = refl
seven refusal.BadCheck never = refl
seven (refusal.Journal journal.Device) never = refl
seven (refusal.Journal (journal.Damaged leaf a b)) never = absurd (never leaf a b refl)
seven (refusal.Journal journal.NotBound) never = refl
seven (refusal.Journal (journal.Spent kept)) never = refl
seven (refusal.Journal (journal.OtherDigest c digest)) never = refl

six-device : is_code 6 (InTurn (Decided (Refused (refusal.Journal journal.Device)))) ≡ 1
six-device = refl

device-rises : (answer : BookAnswer) (number floor : ℕ) → (answer ≡ Decided (Refused (refusal.Journal journal.Device)) → Rose number floor)
    → number ≤ floor → floor < 2 ^ 64 - 1 → is_code 6 (InTurn answer) ≤ floor - number
device-rises (Denied message) number floor rose le small = at-most (is_code 6 (InTurn (Denied message))) (floor - number) refl
device-rises (Decided Granted) number floor rose le small = at-most (is_code 6 (InTurn (Decided Granted))) (floor - number) refl
device-rises (Decided (Refused (refusal.Journal journal.Device))) number floor rose le small = let r = rose refl in let one = six-device in omega (arith, r, one, le, small)
device-rises (Decided (Refused refusal.ForeignKey)) number floor rose le small = at-most _ (floor - number) (six refusal.ForeignKey (λ is. absurd (cc)))
device-rises (Decided (Refused refusal.NoSuchLeaf)) number floor rose le small = at-most _ (floor - number) (six refusal.NoSuchLeaf (λ is. absurd (cc)))
device-rises (Decided (Refused refusal.NotMember)) number floor rose le small = at-most _ (floor - number) (six refusal.NotMember (λ is. absurd (cc)))
device-rises (Decided (Refused (refusal.TooLong got))) number floor rose le small = at-most _ (floor - number) (six (refusal.TooLong got) (λ is. absurd (cc)))
device-rises (Decided (Refused refusal.BadCheck)) number floor rose le small = at-most _ (floor - number) (six refusal.BadCheck (λ is. absurd (cc)))
device-rises (Decided (Refused (refusal.Journal (journal.Damaged leaf a b)))) number floor rose le small = at-most _ (floor - number) (six (refusal.Journal (journal.Damaged leaf a b)) (λ is. absurd (cc)))
device-rises (Decided (Refused (refusal.Journal journal.NotBound))) number floor rose le small = at-most _ (floor - number) (six (refusal.Journal journal.NotBound) (λ is. absurd (cc)))
device-rises (Decided (Refused (refusal.Journal (journal.Spent kept)))) number floor rose le small = at-most _ (floor - number) (six (refusal.Journal (journal.Spent kept)) (λ is. absurd (cc)))
device-rises (Decided (Refused (refusal.Journal (journal.OtherDigest c digest)))) number floor rose le small = at-most _ (floor - number) (six (refusal.Journal (journal.OtherDigest c digest)) (λ is. absurd (cc)))

-- a decision never comes from a worn pass
eleven-refused : (why : Refusal) → is_code 11 (InTurn (Decided (Refused why))) ≡ 0
eleven-refused refusal.ForeignKey = refl
eleven-refused refusal.NoSuchLeaf = refl
eleven-refused refusal.NotMember = refl
eleven-refused (refusal.TooLong got) = refl
eleven-refused refusal.BadCheck = refl
eleven-refused (refusal.Journal journal.Device) = refl
eleven-refused (refusal.Journal (journal.Damaged leaf a b)) = refl
eleven-refused (refusal.Journal journal.NotBound) = refl
eleven-refused (refusal.Journal (journal.Spent kept)) = refl
eleven-refused (refusal.Journal (journal.OtherDigest c digest)) = refl

pub eleven : (answer : BookAnswer) → is_code 11 (InTurn answer) ≡ 0
eleven (Denied message) = refl
eleven (Decided Granted) = refl
eleven (Decided (Refused why)) = eleven-refused why

-- a decision of a trustee with a book, and the state in which it leaves the trustee
denied-or : (share : Share) (ids : Option (List (List ℕ))) (before : JournalState) (ask : Ask) (moment : ℕ) (answer : BookAnswer) (after : JournalState)
    → BookDecides share ids before ask moment answer after → (IsDenied ids ask × (answer ≡ Denied ask.message)) ⊎ (IsDenied ids ask → ⊥)
denied-or share ids before ask moment answer after (denied is) = inl (is, refl)
denied-or share ids before ask moment answer after (decided given new approved decides) = inr approved

as-core : (core : Result Grant Refusal) → book_answer_in (as_denial core) ≡ Decided (answer_in core)
as-core (Ok grant) = refl
as-core (Err why) = refl

core-device : (core : Result Grant Refusal) → Decided (answer_in core) ≡ Decided (Refused (refusal.Journal journal.Device)) → core ≡ Err (refusal.Journal journal.Device)
core-device (Ok grant) is = absurd (cc)
core-device (Err why) is = let same : why ≡ (refusal.Journal journal.Device) = cc in ap Err same

core-six : (core : Result Grant Refusal) → core ≢ Err (refusal.Journal journal.Device) → is_code 6 (InTurn (Decided (answer_in core))) ≡ 0
core-six (Ok grant) other = refl
core-six (Err why) other = six why (λ is. other (ap Err is))

core-seven : (core : Result Grant Refusal) → ((leaf a b : ℕ) → core ≢ Err (refusal.Journal (journal.Damaged leaf a b))) → is_code 7 (InTurn (Decided (answer_in core))) ≡ 0
core-seven (Ok grant) never = refl
core-seven (Err why) never = seven why (λ leaf a b is. never leaf a b (ap Err is))

module _ {D : Type 0} {p : pages.Ghosts D} {f : counting.Ghosts D} where
  pub record Leaves (old new : Trustee D p f) (answer : BookAnswer) : Type 0 where
    pub name : name_of new ≡ name_of old
    pub count : faults_of (journal_of old) ≤ faults_of (journal_of new)
    pub rose : answer ≡ Decided (Refused (refusal.Journal journal.Device)) → Rose (faults_of (journal_of old)) (faults_of (journal_of new))
    pub steady : IsTrue (f.steady (disk_of (journal_of old))) → IsTrue (p.told (disk_of (journal_of old))) → is_code 6 (InTurn answer) ≡ 0
    pub told : IsTrue (p.told (disk_of (journal_of old))) → is_code 7 (InTurn answer) ≡ 0

  -- nothing is left of a denied ask
  leaves-denied : (old new : Trustee D p f) (answer : BookAnswer) (ask : Ask) → new ≡ old → answer ≡ Denied ask.message → Leaves old new answer
  leaves-denied old new answer ask same is = record {
    name = ap name_of same;
    count = (let e = ap (λ (t : Trustee D p f). faults_of (journal_of t)) same in omega (arith, e));
    rose = λ device. absurd (cc);
    steady = λ _ _. ap (λ (a : BookAnswer). is_code 6 (InTurn a)) is;
    told = λ _. ap (λ (a : BookAnswer). is_code 7 (InTurn a)) is;
  }

  names-same : (old new : Trustee D p f) (core : Result Grant Refusal) → DecidedOn old new core → name_of new ≡ name_of old
  names-same old new core d i = record {
    share = d.share i;
    told = d.stays.disk.told i;
    honest = d.stays.disk.honest i;
    steady = d.stays.disk.steady i;
  }

  leaves-decided : (old new : Trustee D p f) (core : Result Grant Refusal) → DecidedOn old new core → Leaves old new (Decided (answer_in core))
  leaves-decided old new core d = record {
    name = names-same old new core d;
    count = d.stays.disk.count;
    rose = λ device. d.cause.failed (core-device core device);
    steady = λ steady told. core-six core (d.succeeds steady told);
    told = λ told. core-seven core (d.told told);
  }

  pub leaves : (ids : Option (List (List ℕ))) (ask : Ask) (moment : ℕ) (old new : Trustee D p f) (result : Result Grant Denial)
      → BookDecides (share_of old) ids (state_of (journal_of old)) ask moment (book_answer_in result) (state_of (journal_of new))
      → (IsDenied ids ask → new ≡ old)
      → ((IsDenied ids ask → ⊥) → (core : Result Grant Refusal) × (result ≡ as_denial core) × DecidedOn old new core)
      → Leaves old new (book_answer_in result)
  leaves ids ask moment old new result event stays decides =
      elim (denied-or (share_of old) ids (state_of (journal_of old)) ask moment (book_answer_in result) (state_of (journal_of new)) event) [
        | inl out ↦ leaves-denied old new (book_answer_in result) ask (stays out.0) out.1
        | inr approved ↦
            let d = decides approved in
            subst (Leaves old new) (sym (ap book_answer_in d.1 ∙ as-core d.0)) (leaves-decided old new d.0 d.2)
      ]

  -- no entry is in doubt before the first fault
  pub sure : (trustee : Trustee D p f) → faults_of (journal_of trustee) ≡ 0 → (state_of (journal_of trustee)).doubt ≡ None
  sure trustee none = (holds (journal_of trustee)).cause none

-- a note of a decision with this answer
abbrev MayBe : Ask → ℕ → BookAnswer → List Note → Note → Type 0
MayBe ask moment given old note = (answer : Answer) × (given ≡ Decided answer) × MayNote old ask moment answer note

-- what a decision noted that answered this
pub record Noted (ask : Ask) (moment : ℕ) (given : BookAnswer) (old new : List Note) : Type 0 where
  pub added : List Note
  pub are : new ≡ old ++ added
  pub each : All (MayBe ask moment given old) added

noted-none : (ask : Ask) (moment : ℕ) (given : BookAnswer) (old new : List Note) → new ≡ old → Noted ask moment given old new
noted-none ask moment given old new is = record {
  added = [];
  are = is ∙ sym (append-nil old);
  each = All-nil (MayBe ask moment given old);
}

noted-some : (ask : Ask) (moment : ℕ) (given : BookAnswer) (answer : Answer) (old new : List Note) → given ≡ Decided answer → Notes ask moment answer old new → Noted ask moment given old new
noted-some ask moment given answer old new same is = record {
  added = is.added;
  are = is.are;
  each = All-weaker (MayNote old ask moment answer) (MayBe ask moment given old) (λ note may. (answer, same, may)) is.added is.each;
}

module _ {D : Type 0} {p : pages.Ghosts D} {f : counting.Ghosts D} where
  pub noted-of : (ids : Option (List (List ℕ))) (ask : Ask) (moment : ℕ) (old new : Trustee D p f) (result : Result Grant Denial)
      → BookDecides (share_of old) ids (state_of (journal_of old)) ask moment (book_answer_in result) (state_of (journal_of new))
      → (IsDenied ids ask → new ≡ old)
      → ((IsDenied ids ask → ⊥) → (core : Result Grant Refusal) × (result ≡ as_denial core) × DecidedOn old new core)
      → ((answer : Answer) → book_answer_in result ≡ Decided answer → Notes ask moment answer (notes_of old) (notes_of new))
      → Noted ask moment (book_answer_in result) (notes_of old) (notes_of new)
  noted-of ids ask moment old new result event stays decides notes =
      elim (denied-or (share_of old) ids (state_of (journal_of old)) ask moment (book_answer_in result) (state_of (journal_of new)) event) [
        | inl out ↦ noted-none ask moment (book_answer_in result) (notes_of old) (notes_of new) (ap (λ (t : Trustee D p f). notes_of t) (stays out.0))
        | inr approved ↦
            let d = decides approved in
            let same = ap book_answer_in d.1 ∙ as-core d.0 in
            noted-some ask moment (book_answer_in result) (answer_in d.0) (notes_of old) (notes_of new) same (notes (answer_in d.0) same)
      ]

-- a turn was taken at one state of the trustee, with this number, and given at another
pub record Turned (old new : Seen Note TrusteeName) (before after : List Note) (number : ℕ) : Type 0 where
  pub begins : IsPrefix old.log before
  pub log : new.log ≡ after
  pub reaches : old.floor ≤ number
  pub goes_on : number ≤ new.floor
  pub rises : new.rises ≡ old.rises + (new.floor - number)
  pub own : new.own ≡ old.own ++ drop (length before) after
  pub draws : new.draws ≡ old.draws + 1
  pub greatest : old.greatest ≤ new.greatest
  pub fresh : new.greatest < 2 ^ 62
  pub same : SamePass old new
  pub joined : new.joined ≡ old.joined
  pub idle : new.in_turn ≡ false

pub took-gave : (lock : Lock Note TrusteeName) (name : TrusteeName) (old mid new : Seen Note TrusteeName) (before after : List Note) (number last : ℕ)
    → Takes before number name old mid → DrawsOne lock old mid → SameDone old mid → Gives after last mid new → SameDrawn mid new → number ≤ last
    → Turned old new before after number
took-gave lock name old mid new before after number last takes draws done gives drawn goes_on = record {
  begins = takes.begins;
  log = gives.log;
  reaches = takes.reaches;
  goes_on = (let f = gives.floor in omega (arith, f, goes_on));
  rises = (let f = gives.floor in let r = gives.rises in let s = done.rises in let t = takes.floor in omega (arith, f, r, s, t));
  own = gives.own ∙ (λ i. done.own i ++ drop (length (takes.log i)) after);
  draws = (let p = draws.greatest in let q = takes.fresh in let d = draws.draws (omega (arith, p, q)) in let e = drawn.draws in omega (arith, d, e));
  greatest = (let p = draws.greatest in let q = drawn.greatest in omega (arith, p, q));
  fresh = (let p = takes.fresh in let q = drawn.greatest in omega (arith, p, q));
  same = same-then old mid new done.same drawn.same;
  joined = drawn.joined ∙ done.joined;
  idle = gives.turn;
}

-- what was added to the entries that were met
added-after : {A : Type 0} (before seen added : List A) → seen ≡ before → drop (length before) (seen ++ added) ≡ added
added-after before seen added is = ap (λ (b : List _). drop (length b) (seen ++ added)) (sym is) ∙ drop-append_seam seen added

added-notes : (notes later added : List Note) → later ≡ notes ++ added → drop (length notes) later ≡ added
added-notes notes later added is = ap (drop (length notes)) is ∙ drop-append_seam notes added

-- one ask in the fields of a turn
abbrev pub turn_of : Ask → ℕ → List Entry → Outcome → List Entry → Turn
turn_of ask moment seen outcome added = record { ask = ask; moment = moment; seen = seen; outcome = outcome; added = added }

-- notes that come after others and say of no entry that it was made
none-made : (notes later added : List Note) → later ≡ notes ++ added → entries_in later ≡ entries_in notes → entries_in added ≡ []
none-made notes later added are same =
    append_cancel_left (entries_in notes) (entries_in added) [] (sym (entries-append notes added) ∙ sym (ap entries_in are) ∙ same ∙ sym (append-nil (entries_in notes)))

-- what a turn may note
turn-notes : (share : Share) (ids : Option (List (List ℕ))) (turn : Turn) (given : BookAnswer) (before after : JournalState) (notes later log : List Note)
    (noted : Noted turn.ask turn.moment given notes later) → later ≡ log → entries_in notes ≡ before.entries → entries_in later ≡ after.entries
    → BookDecides share ids before turn.ask turn.moment given after → All (IsNoteOf share ids log (turn ∷ [])) noted.added
turn-notes share ids turn given before after notes later log noted is mine theirs decides =
    let begins : IsPrefix notes log = (noted.added, sym noted.are ∙ is) in
    elim (book-reaches share ids before turn.ask turn.moment given after decides) [
      | inl reaches ↦
          All-weaker (MayBe turn.ask turn.moment given notes) (IsNoteOf share ids log (turn ∷ []))
          (λ note may. note-of share ids turn notes log reaches begins may.0 note may.2) noted.added noted.each
      | inr still ↦
          let none = none-made notes later noted.added noted.are (theirs ∙ ap (λ (s : JournalState). s.entries) still.0 ∙ sym mine) in
          λ k d lt.
          let may = noted.each k d lt in
          note-still share ids (turn ∷ []) notes log noted.added turn.ask turn.moment may.0 none
          (λ device. still.1 (may.1 ∙ ap Decided device)) begins (get_or noted.added k d) (All-contains_itself noted.added k d lt) may.2
    ]

-- a turn in which the trustee decided
pub turned : (share : Share) (ids : Option (List (List ℕ))) (old new : Seen Note TrusteeName) (before after : JournalState) (notes later : List Note) (number : ℕ) (ask : Ask) (moment : ℕ) (answer : BookAnswer)
    → Turned old new notes later number → entries_in notes ≡ before.entries → entries_in later ≡ after.entries → Noted ask moment answer notes later → (number ≡ 0 → before.doubt ≡ None)
    → BookDecides share ids before ask moment answer after
    → (answer ≡ Decided (Refused (refusal.Journal journal.Device)) → Rose number new.floor)
    → (HasSteadyDisk new.name → is_code 6 (InTurn answer) ≡ 0)
    → (TellsDisk new.name → is_code 7 (InTurn answer) ≡ 0)
    → (seen : List Entry) × (added : List Entry) × Serves share ids old new (turn_of ask moment seen (InTurn answer) added ∷ [])
turned share ids old new before after notes later number ask moment answer t mine theirs noted sure decides rose steady told =
    let m = book-met share ids before ask moment answer after decides in
    let turn = turn_of ask moment m.seen (InTurn answer) m.added in
    let le = t.goes_on in
    let reaches = t.reaches in
    let log : entries_in new.log ≡ after.entries = ap entries_in t.log ∙ theirs in
    let own : new.own ≡ old.own ++ noted.added = t.own ∙ ap (λ (n : List Note). old.own ++ n) (added-notes notes later noted.added noted.are) in (
      m.seen,
      m.added,
      record {
        served = next (entries_in old.log) (entries_in new.log) turn []
            (prefix-then (entries_in old.log) before.entries m.seen (subst (IsPrefix (entries_in old.log)) mine (entries-prefix old.log notes t.begins)) m.begins) m.answers
            (ended (m.seen ++ m.added) (entries_in new.log) (prefix-is (m.seen ++ m.added) (entries_in new.log) (sym m.entries ∙ sym log)));
        floor = omega (arith, le, reaches);
        own = λ zero.
            let is = m.sure (sure (omega (arith, le, zero))) in
            let grew : before.entries ++ entries_in noted.added ≡ after.entries =
            (λ i. sym mine i ++ entries_in noted.added) ∙ sym (entries-append notes noted.added) ∙ sym (ap entries_in noted.are) ∙ theirs in
            let same : entries_in noted.added ≡ m.added =
            sym (drop-append_seam before.entries (entries_in noted.added)) ∙ ap (drop (length before.entries)) (grew ∙ m.entries) ∙ added-after before.entries m.seen m.added is in
            ap entries_in own ∙ entries-append old.own noted.added ∙ ap (λ (e : List Entry). entries_in old.own ++ e) (same ∙ sym (append-nil m.added));
        notes = record {
          noted = noted.added;
          are = own;
          each = turn-notes share ids turn answer before after notes later new.log noted (sym t.log) mine theirs decides;
          log = prefix-then old.log notes new.log t.begins (noted.added, sym noted.are ∙ sym t.log);
        };
        draws = record {
          most = (let a = t.draws in omega (arith, a));
          least = (let a = t.draws in omega (arith, a));
          greatest = t.greatest;
          fresh = λ _. (let e = eleven answer in omega (arith, e));
          worn = λ large. absurd (let a = t.greatest in let b = t.fresh in omega (arith, a, b, large));
        };
        faults = record {
          rises = λ small. (let a = t.rises in let d = device-rises answer number new.floor rose le small in omega (arith, a, d));
          steady = λ is. (let d = steady is in omega (arith, d));
          first = λ zero. (let d = m.sound (sure (omega (arith, le, zero))) in omega (arith, d));
          told = λ is. (let d = told is in omega (arith, d));
        };
        same = t.same;
        joined = t.joined;
        idle = t.idle;
      },
    )

-- the draws of a pass that was worn, or is worn by this ticket
few-draws : (lock : Lock Note TrusteeName) (old new : Seen Note TrusteeName) → DrawsOne lock old new → (old.draws ≤ new.draws) × (new.draws ≤ old.draws + 1)
few-draws lock old new one = dite (dec_le (2 ^ 62) old.greatest)
    (λ le. let same = ap (λ (p : Seen Note TrusteeName). p.draws) (one.still_worn le) in (omega (arith, same), omega (arith, same)))
    (λ lt. let d = one.draws (omega (arith, lt)) in (omega (arith, d), omega (arith, d)))

-- a turn that a worn pass did not get
pub not-turned : (share : Share) (ids : Option (List (List ℕ))) (lock : Lock Note TrusteeName) (old new : Seen Note TrusteeName) (ask : Ask) (moment : ℕ)
    → IsWornOut old new → DrawsOne lock old new → SameDone old new → Serves share ids old new (turn_of ask moment (entries_in old.log) NoTurn [] ∷ [])
not-turned share ids lock old new ask moment out one done =
    let turn = turn_of ask moment (entries_in old.log) NoTurn [] in
    let few = few-draws lock old new one in
    record {
      served = next (entries_in old.log) (entries_in new.log) turn [] (prefix-same (entries_in old.log)) worn
          (ended (entries_in old.log ++ []) (entries_in new.log)
          (prefix-is (entries_in old.log ++ []) (entries_in new.log) (append-nil (entries_in old.log) ∙ sym (ap entries_in out.log))));
      floor = (let a = out.floor in omega (arith, a));
      own = λ _. ap entries_in done.own ∙ sym (append-nil (entries_in old.own));
      notes = record {
        noted = [];
        are = done.own ∙ sym (append-nil old.own);
        each = All-nil (IsNoteOf share ids new.log (turn ∷ []));
        log = prefix-is old.log new.log (sym out.log);
      };
      draws = record {
        most = (let a = few.1 in omega (arith, a));
        least = (let a = few.0 in omega (arith, a));
        greatest = one.greatest;
        fresh = λ small. absurd (let a = out.worn in omega (arith, a, small));
        worn = λ _. refl;
      };
      faults = record {
        rises = λ _. (let a = done.rises in omega (arith, a));
        steady = λ _. refl;
        first = λ _. refl;
        told = λ _. refl;
      };
      same = done.same;
      joined = done.joined;
      idle = out.turn;
    }
