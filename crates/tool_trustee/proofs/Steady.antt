-- If no call fails, each ask that the entries grant is granted.
use Rattle.std.proofs.Common.{◌≡◌, ◌≢◌, ◌⊎◌, ℕ, List, [], ◌∷◌, ◌++◌, Option, None, Some, Result, Err, All, IfSome, inl, inr, refl, sym, ap, ◌∙◌, subst, arith}
use Rattle.std.proofs.lemmas.List.Elements.{All-append, All-cons, All-nil}
use Rattle.std.proofs.lemmas.List.Sums.{sum_by-cons}
use Rattle.trustee_core.specs.Approvals.{BookAnswer, BookDecides, Decided, decided, denied}
use Rattle.lms_bytes.specs.MessageId.{message_id_bytes}
use Rattle.lms_bytes.specs.declared.ask.Ask.{Ask}
use Rattle.lms_bytes.specs.declared.ask.Second.{Second}
use Rattle.lms_bytes.specs.declared.message.MessageId.{MessageId}
use Rattle.opening_journal.specs.Entries.{IsBound, IsFree, IsOpened, JournalState, LeafState, map_of}
use Rattle.opening_journal.specs.Opening as journal
use Rattle.opening_journal.specs.Opening.{AnswersFor, Binds, Opens, SettlesTo, settled_with}
use Rattle.opening_journal.specs.declared.entry.Entry.{Entry}
use Rattle.opening_journal.specs.declared.faults.Entered.{Entered}
use Rattle.opening_journal.specs.declared.faults.JournalFault.{JournalFault}
use Rattle.opening_journal.specs.declared.faults.JournalFault.TheVariants as fault
use Rattle.share_files.specs.declared.share.Share.{Share}
use Rattle.trustee_core.specs.Decisions as core
use Rattle.trustee_core.specs.Decisions.{Answer, Decides, FailsTest, Granted, HasTag, Refused, answer_of}
use Rattle.trustee_core.specs.declared.refusal.Refusal.{Refusal}
use Rattle.trustee_core.specs.declared.refusal.Refusal.TheVariants.{Journal}
use Rattle.trustee_node.proofs.Serving.{with_code-append}
use Rattle.trustee_node.specs.Turns as turns
use Rattle.trustee_node.specs.Turns.{Answers, InTurn, Outcome, ReachesJournal, ServedTurns, Turn, is_code, with_code}
use Rattle.trustee_node.specs.Workers.{turns_of}
use Rattle.trustee_node.specs.Ports.{IsPortRun, PortRun, turns_in}
use Rattle.std.proofs.lemmas.List.Elements.{All-head, All-tail}
use Rattle.tool_trustee.specs.Steady.{GrantsAll, LeafGrants, MayGrant, first_free, first_kept, second_bound, second_kept}

answers-none : (m : List ℕ) (s : LeafState) → s ≡ IsFree → AnswersFor m s → ⊥
answers-none m _ is journal.bound = absurd (cc)
answers-none m _ is (journal.opened c digest moment) = absurd (cc)

answers-bound : (m o : List ℕ) (s : LeafState) → s ≡ IsBound m → AnswersFor o s → o ≡ m
answers-bound m o _ is journal.bound = cc
answers-bound m o _ is (journal.opened c digest moment) = absurd (cc)

answers-opened : (m c digest o : List ℕ) (moment : ℕ) (s : LeafState) → s ≡ IsOpened m c digest moment → AnswersFor o s → o ≡ m
answers-opened m c digest o moment _ is journal.bound = absurd (cc)
answers-opened m c digest o moment _ is (journal.opened d e then) = cc

answers-one : (m o : List ℕ) (s : LeafState) → AnswersFor m s → AnswersFor o s → o ≡ m
answers-one m o _ journal.bound other = answers-bound m o _ refl other
answers-one m o _ (journal.opened c digest moment) other = answers-opened m c digest o moment _ refl other

module _ (seen : List Entry) where
  settled-is : (entries : List Entry) → SettlesTo (settled_with seen) entries → seen ≡ entries
  settled-is entries (inl same) = sym same
  settled-is entries (inr made) = absurd (let none = made.1 in cc)

  abbrev FirstGrants : ℕ → List ℕ → Type 0
  FirstGrants leaf message = (map_of seen leaf ≡ IsFree) ⊎ AnswersFor message (map_of seen leaf)

  other-not : (leaf : ℕ) (message other : List ℕ) → FirstGrants leaf message → AnswersFor other (map_of seen leaf) → other ≢ message → ⊥
  other-not leaf message other (inl free) answers differs = answers-none other _ free answers
  other-not leaf message other (inr kept) answers differs = differs (answers-one message other _ kept answers)

  first-grants : (leaf : ℕ) (message : MessageId) (result : Result Entered JournalFault) (after : JournalState) → Binds (settled_with seen) leaf message result after
      → FirstGrants leaf (message_id_bytes message) → result ≢ Err fault.Device → answer_of result ≡ Granted
  first-grants leaf message _ _ (journal.made entries to free) may quiet = refl
  first-grants leaf message _ _ (journal.kept entries to answers) may quiet = refl
  first-grants leaf message _ _ (journal.spent entries other to answers differs) may quiet =
      let here = subst (λ (l : List Entry). AnswersFor (message_id_bytes other) (map_of l leaf)) (sym (settled-is entries to)) answers in
      absurd (other-not leaf (message_id_bytes message) (message_id_bytes other) may here differs)
  first-grants leaf message _ _ (journal.unsettled some) may quiet = absurd (quiet refl)
  first-grants leaf message _ _ (journal.unwritten entries to free) may quiet = absurd (quiet refl)
  first-grants leaf message _ _ (journal.damaged entry a b is neither) may quiet = absurd (cc)

  abbrev SecondGrants : ℕ → List ℕ → List ℕ → List ℕ → Type 0
  SecondGrants leaf message c digest = (map_of seen leaf ≡ IsBound message) ⊎ ((moment : ℕ) × (map_of seen leaf ≡ IsOpened message c digest moment))

  second-other : (leaf : ℕ) (message c digest other : List ℕ) → SecondGrants leaf message c digest → AnswersFor other (map_of seen leaf) → other ≢ message → ⊥
  second-other leaf message c digest other (inl bound) answers differs = differs (answers-bound message other _ bound answers)
  second-other leaf message c digest other (inr kept) answers differs = differs (answers-opened message c digest other kept.0 _ kept.1 answers)

  second-free : (leaf : ℕ) (message c digest : List ℕ) → SecondGrants leaf message c digest → map_of seen leaf ≡ IsFree → ⊥
  second-free leaf message c digest (inl bound) free = absurd (cc)
  second-free leaf message c digest (inr kept) free = absurd (let is = kept.1 in cc)

  second-pair : (leaf : ℕ) (message c digest d e : List ℕ) (then : ℕ) → SecondGrants leaf message c digest → map_of seen leaf ≡ IsOpened message d e then → (d ≢ c) ⊎ (e ≢ digest) → ⊥
  second-pair leaf message c digest d e then (inl bound) is differs = absurd (cc)
  second-pair leaf message c digest d e then (inr kept) is (inl differs) = differs (let own = kept.1 in cc)
  second-pair leaf message c digest d e then (inr kept) is (inr differs) = differs (let own = kept.1 in cc)

  second-grants : (leaf : ℕ) (message : MessageId) (c digest : List ℕ) (moment : ℕ) (result : Result Entered JournalFault) (after : JournalState)
      → Opens (settled_with seen) leaf message c digest moment result after → SecondGrants leaf (message_id_bytes message) c digest
      → result ≢ Err fault.Device → answer_of result ≡ Granted
  second-grants leaf message c digest moment _ _ (journal.made entries to bound) may quiet = refl
  second-grants leaf message c digest moment _ _ (journal.kept entries then to kept) may quiet = refl
  second-grants leaf message c digest moment _ _ (journal.not_bound entries to free) may quiet =
      absurd (second-free leaf (message_id_bytes message) c digest may (ap (λ (l : List Entry). map_of l leaf) (settled-is entries to) ∙ free))
  second-grants leaf message c digest moment _ _ (journal.spent entries other to answers differs) may quiet =
      let here = subst (λ (l : List Entry). AnswersFor (message_id_bytes other) (map_of l leaf)) (sym (settled-is entries to)) answers in
      absurd (second-other leaf (message_id_bytes message) c digest (message_id_bytes other) may here differs)
  second-grants leaf message c digest moment _ _ (journal.other_digest entries d e then to is differs) may quiet =
      absurd (second-pair leaf (message_id_bytes message) c digest d e then may (ap (λ (l : List Entry). map_of l leaf) (settled-is entries to) ∙ is) differs)
  second-grants leaf message c digest moment _ _ (journal.unsettled some) may quiet = absurd (quiet refl)
  second-grants leaf message c digest moment _ _ (journal.unwritten entries to bound) may quiet = absurd (quiet refl)
  second-grants leaf message c digest moment _ _ (journal.damaged entry a b is neither) may quiet = absurd (cc)

  module _ (share : Share) (ids : Option (List (List ℕ))) (ask : Ask) (moment : ℕ) where
    passes : (why : Refusal) → ReachesJournal share ids ask → FailsTest share ask why → ⊥
    passes _ reaches (core.foreign_key not) = not reaches.own.key
    passes _ reaches (core.no_such_leaf key past) = let own = reaches.own.leaf in omega (arith, own, past)
    passes _ reaches (core.not_member key leaf not) = not reaches.own.member
    passes _ reaches (core.too_long key leaf member long) = let own = reaches.own.length in omega (arith, own, long)
    passes _ reaches (core.bad_check second own is not) = not (subst (λ (o : Option Second). IfSome o (HasTag share ask)) is reaches.tag)

    may-first : LeafGrants ask (map_of seen ask.leaf) → ask.second ≡ None → FirstGrants ask.leaf (message_id_bytes ask.message)
    may-first (first_free none free) is = inl free
    may-first (first_kept none kept) is = inr kept
    may-first (second_bound pair some bound) is = absurd (cc)
    may-first (second_kept pair then some kept) is = absurd (cc)

    may-second : (pair : Second) → LeafGrants ask (map_of seen ask.leaf) → ask.second ≡ Some pair → SecondGrants ask.leaf (message_id_bytes ask.message) pair.c pair.digest
    may-second pair (first_free none free) is = absurd (cc)
    may-second pair (first_kept none kept) is = absurd (cc)
    may-second pair (second_bound own some bound) is = inl bound
    may-second pair (second_kept own then some kept) is =
        let same : own ≡ pair = cc in
        inr (then, subst (λ (p : Second). map_of seen ask.leaf ≡ IsOpened (message_id_bytes ask.message) p.c p.digest then) same kept)

    no-device : (result : Result Entered JournalFault) → is_code 6 (InTurn (Decided (answer_of result))) ≡ 0 → result ≢ Err fault.Device
    no-device result quiet is =
        let one : is_code 6 (InTurn (Decided (answer_of result))) ≡ 1 = ap (λ (r : Result Entered JournalFault). is_code 6 (InTurn (Decided (answer_of r)))) is in
        omega (arith, quiet, one)

    decided-granted : (answer : Answer) (after : JournalState) → MayGrant share ids seen ask → Decides share (settled_with seen) ask moment answer after
        → is_code 6 (InTurn (Decided answer)) ≡ 0 → answer ≡ Granted
    decided-granted _ _ may (core.tested why fails) quiet = absurd (passes why may.reaches fails)
    decided-granted _ _ may (core.first result after own none binds) quiet =
        first-grants ask.leaf ask.message result after binds (may-first may.leaf none) (no-device result quiet)
    decided-granted _ _ may (core.second result after pair own some tag opens) quiet =
        second-grants ask.leaf ask.message pair.c pair.digest moment result after opens (may-second pair may.leaf some) (no-device result quiet)

    book-granted : (answer : BookAnswer) (after : JournalState) → MayGrant share ids seen ask → BookDecides share ids (settled_with seen) ask moment answer after
        → is_code 6 (InTurn answer) ≡ 0 → answer ≡ Decided Granted
    book-granted _ _ may (denied not) quiet = absurd (may.reaches.approved not)
    book-granted _ _ may (decided answer after approved decides) quiet = ap Decided (decided-granted answer after may decides quiet)

    answer-granted : (outcome : Outcome) (added : List Entry) → Answers share ids seen ask moment outcome added → is_code 6 outcome ≡ 0 → is_code 7 outcome ≡ 0
        → is_code 11 outcome ≡ 0 → MayGrant share ids seen ask → outcome ≡ InTurn (Decided Granted)
    answer-granted _ _ (turns.step answer added decides) six seven eleven may = ap InTurn (book-granted answer (settled_with (seen ++ added)) may decides six)
    answer-granted _ _ (turns.device reaches) six seven eleven may = absurd (let one : is_code 6 (InTurn (Decided (Refused (Journal fault.Device)))) ≡ 1 = refl in omega (arith, six, one))
    answer-granted _ _ (turns.torn leaf a b reaches) six seven eleven may = absurd (let one : 1 ≡ 0 = seven in cc)
    answer-granted _ _ turns.worn six seven eleven may = absurd (let one : 1 ≡ 0 = eleven in cc)

module _ (share : Share) (ids : Option (List (List ℕ))) where
  turns-granted : (log last : List Entry) (all : List Turn) → ServedTurns share ids log all last → with_code 6 all ≡ 0 → with_code 7 all ≡ 0 → with_code 11 all ≡ 0 → GrantsAll share ids all
  turns-granted log last _ (turns.ended at to begins) six seven eleven = All-nil (λ (turn : Turn). MayGrant share ids turn.seen turn.ask → turn.outcome ≡ InTurn (Decided Granted))
  turns-granted log last _ (turns.next at to turn rest begins answers served) six seven eleven =
      let a = sum_by-cons (λ (t : Turn). is_code 6 t.outcome) turn rest in
      let b = sum_by-cons (λ (t : Turn). is_code 7 t.outcome) turn rest in
      let c = sum_by-cons (λ (t : Turn). is_code 11 t.outcome) turn rest in
      All-cons (λ (turn : Turn). MayGrant share ids turn.seen turn.ask → turn.outcome ≡ InTurn (Decided Granted)) turn rest
      (answer-granted turn.seen share ids turn.ask turn.moment turn.outcome turn.added answers (omega (arith, a, six)) (omega (arith, b, seven)) (omega (arith, c, eleven)))
      (turns-granted (turn.seen ++ turn.added) to rest served (omega (arith, a, six)) (omega (arith, b, seven)) (omega (arith, c, eleven)))

  pub ports-granted : (asked : ℕ) (log last : List Entry) (runs : List PortRun) → All (IsPortRun share ids asked log last) runs
      → with_code 6 (turns_in runs) ≡ 0 → with_code 7 (turns_in runs) ≡ 0 → with_code 11 (turns_in runs) ≡ 0 → GrantsAll share ids (turns_in runs)
  ports-granted asked log last [] are six seven eleven = All-nil (λ (turn : Turn). MayGrant share ids turn.seen turn.ask → turn.outcome ≡ InTurn (Decided Granted))
  ports-granted asked log last (run ∷ runs) are six seven eleven =
      let Is = IsPortRun share ids asked log last in
      let own = turns_of run.served in
      let a = with_code-append 6 own (turns_in runs) in
      let b = with_code-append 7 own (turns_in runs) in
      let c = with_code-append 11 own (turns_in runs) in
      All-append (λ (turn : Turn). MayGrant share ids turn.seen turn.ask → turn.outcome ≡ InTurn (Decided Granted)) own (turns_in runs)
      (turns-granted log last own (All-head Is run runs are).turns (omega (arith, a, six)) (omega (arith, b, seven)) (omega (arith, c, eleven)))
      (ports-granted asked log last runs (All-tail Is run runs are) (omega (arith, a, six)) (omega (arith, b, seven)) (omega (arith, c, eleven)))
