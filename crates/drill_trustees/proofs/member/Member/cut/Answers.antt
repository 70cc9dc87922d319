use Rattle.std.proofs.Common.{◌≡◌, ◌<◌, ℕ, List, refl, sym, ◌∙◌, ap, subst}
use Rattle.disk_trait.specs.MemDisk.{MemState}
use Rattle.opening_journal.specs.Entries.{map_of, state_in_file}
use Rattle.opening_journal.specs.Journal.{state_of}
use Rattle.opening_journal.specs.Loading.{IsJournalFile}
use Rattle.trustee_core.specs.Trustee.{journal_header}
use Rattle.drill_trustees.specs.Members.{CutSets, leaf_in}
use Rattle.drill_trustees.proofs.Asking.{cut-same, may-same, stopped-before}
use Rattle.drill_trustees.proofs.Journals.{file-of, leaves-of}
use Rattle.drill_trustees.proofs.Results.{if_ok_then}
use Rattle.drill_trustees.proofs.member.Member.cut.Goals as goal

pub load_journal-requires-clause-file : goal.load_journal-requires-clause-file
load_journal-requires-clause-file c =
    let m = c.args.self in
    let e = c.end-disk.ensures in
    let bytes = c.in_ok-stopping.ensures ∙ ap (λ (d : MemState). d.bytes) e.disk in
    subst (λ (b : List ℕ). IsJournalFile (journal_header m.share) 32 b) (sym bytes)
    (file-of m.trustee m.share m.own m.hash_length m.height e.header e.params _ (e.holds.reads refl))

pub returns-in-Some-clause-sets : goal.returns-in-Some-clause-sets
returns-in-Some-clause-sets c = λ may.
    let m = c.args.self in
    let e = c.end-disk.ensures in
    let entries = (state_of c.in-Some.journal).entries in
    let bytes = c.in_ok-stopping.ensures ∙ ap (λ (d : MemState). d.bytes) e.disk in
    let was = leaves-of m.trustee m.share m.own m.hash_length m.height e.header e.params _ m.settled (e.holds.reads refl) in
    let leaves = rw c.in-Some.is at c.in_ok-journal.ensures.leaves in
    let same : (q : ℕ) → q < 32 → leaf_in m q ≡ map_of entries q = λ q within.
    sym (was q within) ∙ ap (λ (b : List ℕ). state_in_file 32 b q) (sym bytes) ∙ sym (leaves q within) in
    let here = may-same m.share (leaf_in m) (map_of entries) c.args.ask.now m.height same may in
    if_ok_then (λ pair. CutSets (map_of entries) (leaf_in pair.0) c.args.ask.now pair.1)
    (λ pair. CutSets (leaf_in m) (leaf_in pair.0) c.args.ask.now pair.1) c.ask_stopping.result
    (λ pair cut. cut-same m.share (leaf_in m) (map_of entries) c.args.ask.now m.height same (leaf_in pair.0) pair.1 cut)
    (c.ask_stopping.ensures.sets here)

pub returns-in_ok-load-in-None-clause-sets : goal.returns-in_ok-load-in-None-clause-sets
returns-in_ok-load-in-None-clause-sets c = λ may.
    let m = c.args.self in
    let e = c.end-disk.ensures in
    let new = c.in_ok-load-in-None.field-0 in
    let was = leaves-of m.trustee m.share m.own m.hash_length m.height e.header e.params _ m.settled (e.holds.reads refl) in
    let same : (q : ℕ) → q < 32 → leaf_in m q ≡ leaf_in new q = λ q within.
    sym (was q within) ∙ ap (λ (d : MemState). state_in_file 32 d.bytes q) (sym e.disk)
    ∙ sym (c.in_ok-load-in-None.ensures.leaves q within) in
    stopped-before m.share (leaf_in m) (leaf_in new) c.args.ask.now m.height same may
