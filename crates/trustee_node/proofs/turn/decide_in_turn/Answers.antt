use Rattle.std.proofs.Common.{◌≡◌, [], ℕ, length, List, Option, Some, IfSome, sym, ap, ◌∙◌, subst, arith}
use mathlib.Core.List.{IsPrefix}
use Rattle.trustee_core.specs.Approvals.{BookAnswer, BookDecides, book_answer_in}
use Rattle.lms_bytes.specs.declared.ask.Ask.{Ask}
use Rattle.disk_trait.specs.Faults.{Rose}
use Rattle.opening_journal.specs.Entries.{JournalState}
use Rattle.opening_journal.specs.Journal.{faults_of, state_of}
use Rattle.share_files.specs.declared.share.Share.{Share}
use Rattle.trustee_core.specs.Notes.{entries_in}
use Rattle.trustee_core.specs.Trustee.{journal_of, notes_of, share_of}
use Rattle.trustee_core.specs.declared.note.Note.{Note}
use Rattle.trustee_core.proofs.NotesHeld.{entries-held}
use Rattle.trustee_core.specs.declared.kept.TrusteeName.{TrusteeName}
use Rattle.trustee_node.specs.Turns.{HasSteadyDisk, TellsDisk}
use Rattle.trustee_node.proofs.Heads.{sizes-c, sizes-digest}
use Rattle.node_workers.proofs.Onward.{same-then}
use Rattle.trustee_node.proofs.Serving.{idle-again}
use Rattle.trustee_node.proofs.Turning.{leaves, name_of, not-turned, noted-of, sure, took-gave, turned}
use Rattle.trustee_node.proofs.turn.decide_in_turn.Goals as goal

-- the share of the trustee whose turn was taken
same-share : (share : Share) (name : Option TrusteeName) (mine : TrusteeName) → Some mine ≡ name → IfSome name (λ n. n.share ≡ share) → mine.share ≡ share
same-share share name mine named is = subst (λ (o : Option TrusteeName). IfSome o (λ n. n.share ≡ share)) (sym named) is

event-of : (mine share : Share) (ids : Option (List (List ℕ))) (before : JournalState) (ask : Ask) (moment : ℕ) (answer : BookAnswer) (after : JournalState) → mine ≡ share
    → BookDecides mine ids before ask moment answer after → BookDecides share ids before ask moment answer after
event-of mine share ids before ask moment answer after same event = subst (λ (s : Share). BookDecides s ids before ask moment answer after) same event

pub decide_approved-decided-requires-clause-c : goal.decide_approved-decided-requires-clause-c
decide_approved-decided-requires-clause-c g c =
    let share = same-share c.args.share.now c.args.pass.now.name (name_of c.in-Ok.trustee) c.in-Ok.ensures.taken.named c.requires.pass.2 in
    subst (λ (s : Share). IfSome c.args.ask.now.second (λ second. length second.c ≡ s.params.n)) (sym share) (sizes-c c.args.share.now.params c.args.ask.now c.requires.sizes)

pub decide_approved-decided-requires-clause-digest : goal.decide_approved-decided-requires-clause-digest
decide_approved-decided-requires-clause-digest g c =
    let share = same-share c.args.share.now c.args.pass.now.name (name_of c.in-Ok.trustee) c.in-Ok.ensures.taken.named c.requires.pass.2 in
    subst (λ (s : Share). IfSome c.args.ask.now.second (λ second. length second.digest ≡ s.params.n)) (sym share) (sizes-digest c.args.share.now.params c.args.ask.now c.requires.sizes)

pub give-requires-clause-begins : goal.give-requires-clause-begins
give-requires-clause-begins g c =
    let d = c.decide_approved-decided.ensures in
    let later = c.decide_approved-decided.new.trustee in
    let noted = noted-of _ c.args.ask.now c.args.moment c.in-Ok.trustee later c.decide_approved-decided.result d.event d.denied d.decided d.notes in
    subst (λ (l : List Note). IsPrefix l (notes_of later)) (sym c.in-Ok.ensures.taken.log) (noted.added, sym noted.are)

pub give-requires-clause-reaches : goal.give-requires-clause-reaches
give-requires-clause-reaches g c =
    let d = c.decide_approved-decided.ensures in
    let left = leaves _ c.args.ask.now c.args.moment c.in-Ok.trustee c.decide_approved-decided.new.trustee c.decide_approved-decided.result d.event d.denied d.decided in
    let count = left.count in
    let floor = c.in-Ok.ensures.taken.floor in
    omega (arith, count, floor)

pub give-requires-clause-named : goal.give-requires-clause-named
give-requires-clause-named g c =
    let d = c.decide_approved-decided.ensures in
    let left = leaves _ c.args.ask.now c.args.moment c.in-Ok.trustee c.decide_approved-decided.new.trustee c.decide_approved-decided.result d.event d.denied d.decided in
    ap Some left.name ∙ c.in-Ok.ensures.taken.named ∙ sym c.take_turn.ensures.stays.same.name

pub returns-in_default-clause-turn : goal.returns-in_default-clause-turn
returns-in_default-clause-turn g c =
    let old = c.args.pass.now in
    let serves = not-turned c.args.share.now _ c.args.lock.now old c.take_turn.new.pass c.args.ask.now c.args.moment c.in_default.ensures.worn c.take_turn.ensures.draws c.take_turn.ensures.stays in
    record { seen = entries_in old.log; added = []; serves = serves }

pub returns-clause-turn : goal.returns-clause-turn
returns-clause-turn g c =
    let old = c.args.pass.now in
    let mid = c.take_turn.new.pass in
    let new = c.give.new.pass in
    let trustee = c.in-Ok.trustee in
    let later = c.decide_approved-decided.new.trustee in
    let before = state_of (journal_of trustee) in
    let after = state_of (journal_of later) in
    let number = faults_of (journal_of trustee) in
    let last = faults_of (journal_of later) in
    let d = c.decide_approved-decided.ensures in
    let result = c.decide_approved-decided.result in
    let answer = book_answer_in result in
    let left = leaves _ c.args.ask.now c.args.moment trustee later result d.event d.denied d.decided in
    let taken = c.in-Ok.ensures.taken in
    let stays = c.take_turn.ensures.stays in
    let gives = c.give.ensures.gives in
    let drawn = c.give.ensures.stays in
    let share = same-share c.args.share.now old.name (name_of trustee) taken.named c.requires.pass.2 in
    let turn = took-gave c.args.lock.now (name_of trustee) old mid new (notes_of trustee) (notes_of later) number last taken c.take_turn.ensures.draws stays gives drawn left.count in
    let named : new.name ≡ Some (name_of trustee) = drawn.same.name ∙ stays.same.name ∙ sym taken.named in
    let event = event-of (share_of trustee) c.args.share.now _ before c.args.ask.now c.args.moment answer after share d.event in
    let noted = noted-of _ c.args.ask.now c.args.moment trustee later result d.event d.denied d.decided d.notes in
    let t = turned c.args.share.now _ old new before after (notes_of trustee) (notes_of later) number c.args.ask.now c.args.moment answer turn
    (entries-held trustee) (entries-held later) noted (sure trustee) event
    (λ device. subst (Rose number) (sym gives.floor) (left.rose device))
    (λ is. let known = subst HasSteadyDisk named is in left.steady known.0 known.1)
    (λ is. left.told (subst TellsDisk named is)) in
    record { seen = t.0; added = t.1; serves = t.2 }

pub returns-in_default-clause-pass : goal.returns-in_default-clause-pass
returns-in_default-clause-pass g c =
    idle-again c.args.lock.now c.args.share.now c.args.pass.now c.take_turn.new.pass c.requires.pass c.take_turn.ensures.stays.same c.in_default.ensures.worn.turn

pub returns-clause-pass : goal.returns-clause-pass
returns-clause-pass g c =
    let old = c.args.pass.now in
    let mid = c.take_turn.new.pass in
    let new = c.give.new.pass in
    idle-again c.args.lock.now c.args.share.now old new c.requires.pass (same-then old mid new c.take_turn.ensures.stays.same c.give.ensures.stays.same) c.give.ensures.gives.turn
