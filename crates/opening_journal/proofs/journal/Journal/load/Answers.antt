use Rattle.std.proofs.Common.{◌≡◌, ◌<◌, ◌^◌, ℕ, length, refl, sym, ◌∙◌, ap, subst}
use Rattle.opening_journal.specs.Loading.{IsJournalFile, LoadRefused, entries_of, entries_of_slot, no_memory}
use Rattle.opening_journal.specs.Opening.{settled_with}
use Rattle.slot_file.proofs.Logs.{has-whole}
use Rattle.opening_journal.proofs.Refused.{refused-load}
use Rattle.slot_file.proofs.Logs.{entries-same}
use Rattle.slot_file.specs.Cache.{state_of}
use Rattle.slot_file.specs.State.{slot_in}
use Rattle.slot_file.specs.Layout.{load_fault, slot_at}
use Rattle.opening_journal.proofs.journal.Journal.load.Goals as goal

pub returns-in-Err-clause-refused : goal.returns-in-Err-clause-refused
returns-in-Err-clause-refused g c = λ told.
    let header = c.args.header.now in
    let file = g.D.Pages.reads c.args.disk in
    let refused = refused-load header c.leaves.result file c.in-Err.fault c.requires.version (c.in-Err.ensures.refused told) in
    subst (λ (count : ℕ). LoadRefused header count file c.journal_load.result) c.leaves.ensures
    (subst (LoadRefused header c.leaves.result file) (sym c.journal_load.ensures) refused)

pub returns-in-Ok-entries_of-clause-loaded : goal.returns-in-Ok-entries_of-clause-loaded
returns-in-Ok-entries_of-clause-loaded g c =
    let header = c.args.header.now in
    let n = c.args.params.now.n in
    let file = g.D.Pages.reads c.args.disk in
    let slots = (state_of c.in-Ok.slots).slots in
    let loaded = c.in-Ok.ensures.loaded in
    let size : length slots ≡ 2 ^ c.args.params.now.h = loaded.size ∙ c.leaves.ensures in
    record {
      file = λ told. subst (λ (count : ℕ). IsJournalFile header count file) size (has-whole 2 header slots file c.requires.version (loaded.file told));
      entries = λ told.
          let here : (leaf : ℕ) → leaf < length slots → slot_in slots leaf ≡ slot_at 2 leaf file =
          λ leaf below. sym ((loaded.file told).shows leaf below) ∙ ap (λ (v : ℕ). slot_at v leaf file) c.requires.version in
          ap settled_with (c.in-Ok-entries_of.ensures.items ∙ entries-same (entries_of_slot n) (length slots) (slot_in slots) (λ leaf. slot_at 2 leaf file) here
          ∙ ap (λ (count : ℕ). entries_of n count (λ leaf. slot_at 2 leaf file)) size);
      named = loaded.named;
      sized = refl;
      unwritten = loaded.unwritten;
      faults = loaded.faults;
    }

pub returns-in-Err-entries_of-clause-refused : goal.returns-in-Err-entries_of-clause-refused
returns-in-Err-entries_of-clause-refused g c = λ told.
    let header = c.args.header.now in
    let file = g.D.Pages.reads c.args.disk in
    let loaded = c.in-Ok.ensures.loaded in
    no_memory (ap (λ (count : ℕ). load_fault header count file) (sym (loaded.size ∙ c.leaves.ensures)) ∙ (loaded.file told).opens)
