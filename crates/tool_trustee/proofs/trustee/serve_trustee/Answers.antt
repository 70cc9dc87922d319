use Rattle.std.proofs.Common.{◌≡◌, ◌^◌, ℕ, List, ◌∷◌, Some, IsTrue, refl, sym, ap, ◌∙◌, subst, arith}
use Rattle.opening_journal.proofs.Held.{holds}
use Rattle.opening_journal.specs.Entries.{HasEntries, JournalState}
use Rattle.opening_journal.specs.Journal.{Keeps, disk_of, faults_of, state_of}
use Rattle.opening_journal.specs.Loading.{LoadRefused}
use Rattle.share_files.specs.declared.share.Share.{Share}
use Rattle.stream_io.specs.Store.{Handed, Taken, handed, pages_state}
use Rattle.tool_base.proofs.Runs.{unchanged_none, unchanged_on, onward_none, onward_on, part_of}
use Rattle.tool_base.specs.Endings.{ending}
use Rattle.tool_base.specs.World.{IsUnchanged, Outside, from_to}
use Rattle.tool_base.specs.Disks.{Stays}
use Rattle.tool_base.specs.Loads.{FailsToLoad}
use Rattle.tool_base.proofs.Outs.{out_here, taken_out}
use Rattle.tool_base.proofs.Takes.{back, round_rise, round_stays, stays, taken_unchanged, whole}
use Rattle.tool_trustee.proofs.Loading.{journal_not_loaded}
use Rattle.tool_trustee.specs.Journals.{IsJournal}
use Rattle.tool_trustee.specs.Trustee.{IsTrustee, handed_of}
use Rattle.tool_trustee.proofs.Asked.{no_doubts}
use Rattle.tool_trustee.proofs.Booking.{handed_same}
use Rattle.tool_trustee.proofs.Lasts.{has_entries, leaves_journal, run_unread, run_untaken}
use Rattle.tool_trustee.proofs.Wholes.{ends_whole, run_refused}
use Rattle.tool_words.specs.Rows.{trustee_words}
use Rattle.trustee_core.specs.Trustee.{journal_header, journal_of, notes_of, share_of}
use Rattle.trustee_core.specs.declared.kept.TrusteeName.{TrusteeName}
use Rattle.trustee_node.specs.Trustees.{trustee_state}
use Rattle.tool_trustee.proofs.trustee.serve_trustee.Goals as goal

pub returns-in-Err : goal.returns-in-Err
returns-in-Err g c =
    let state = g.S.Store.state in
    let first = c.args.store.now in
    let last = c.read_keeper.new.store in
    let unchanged = c.in-Err.ensures.unchanged in
    run_unread (trustee_words c.args.words.now) (state first) (state last) _ _ unchanged _
    (c.in-Err.ensures.refused first last (part_of _ _ _ _ (unchanged_none _) (onward_none _)))

pub returns-in-Err-take_disk : goal.returns-in-Err-take_disk
returns-in-Err-take_disk g c =
    let state = g.S.Store.state in
    let first = c.args.store.now in
    let last = c.take_disk.new.self in
    let read = c.in-Ok.ensures in
    let take = c.in-Err-take_disk.ensures in
    let is = c.in-Err-take_disk.is in
    let later : IsUnchanged (state c.read_keeper.new.store) (state last) = record { same = take.refused; onward = take.onward } in
    run_untaken (trustee_words c.args.words.now) (state first) (state last) _ _ (unchanged_on _ _ _ read.unchanged later) c.in-Ok.share c.in-Err-take_disk.fault _ c.end_of_call.ensures
    (read.share first last (part_of _ _ _ _ (unchanged_none _) take.onward))
    (λ failed. let rose = take.cause.rose (cc) in let begins = read.unchanged.onward.count in omega (arith, rose, begins))
    (λ failed told steady. rw (← read.unchanged.same.names.file) (take.absent (rw read.unchanged.onward.told told) (rw read.unchanged.onward.steady steady) (cc)))

pub returns-in-Err-load_journal : goal.returns-in-Err-load_journal
returns-in-Err-load_journal g c =
    let state = g.S.Store.state in
    let disks = g.S.Disk in
    let pages = pages_state disks.Pages.told disks.Pages.honest disks.Faults.steady disks.Faults.count disks.Pages.room disks.Pages.reads disks.Pages.may_leave in
    let first = state c.args.store.now in
    let last = state c.return_disk.new.self in
    let name = c.args.words.now.journal.now in
    let share = c.in-Ok.share in
    let read = c.in-Ok.ensures in
    let disk = pages c.in-Ok-take_disk.disk in
    let now = pages c.in-Err-load_journal.disk in
    let load = c.in-Err-load_journal.ensures in
    let out = c.in-Ok-take_disk.ensures in
    let taken = taken_unchanged first _ _ name disk read.unchanged out.taken in
    let goes = onward_on _ _ _ read.unchanged.onward out.onward in
    let step = c.return_disk.ensures.returned in
    let comes = c.return_disk.ensures.onward in
    let kind = load.unwritten.stays in
    let refused : IsTrue disk.told → LoadRefused (journal_header share) (2 ^ share.params.h) disk.reads c.in-Err-load_journal.fault =
    load.refused in
    let fails : FailsToLoad (journal_header share) (2 ^ share.params.h) (from_to first last) name (ending c.end_of_journal.result) =
    subst (FailsToLoad (journal_header share) (2 ^ share.params.h) (from_to first last) name) (sym c.end_of_journal.ensures)
    (journal_not_loaded first _ last name disk now taken goes step comes kind.told kind.honest kind.steady (journal_header share) (2 ^ share.params.h) refl c.in-Err-load_journal.fault refused load.succeeds load.cause) in
    run_refused (trustee_words c.args.words.now) first last _ _ share _ (read.share c.args.store.now c.return_disk.new.self (part_of _ _ _ _ (unchanged_none _) (onward_on _ _ _ out.onward comes)))
    fails (stays first _ last name disk now taken goes step comes kind.told kind.honest kind.steady load.unwritten.same load.unwritten.images)
    now (back first _ last name disk now taken goes step comes kind.told kind.honest kind.steady)

pub return_disk-requires-2 : goal.return_disk-requires-2
return_disk-requires-2 g c =
    let state = g.S.Store.state in
    let disks = g.S.Disk in
    let pages = pages_state disks.Pages.told disks.Pages.honest disks.Faults.steady disks.Faults.count disks.Pages.room disks.Pages.reads disks.Pages.may_leave in
    let name = c.args.words.now.journal.now in
    let disk = pages c.in-Ok-take_disk.disk in
    let now = pages c.end.result in
    let out = c.in-Ok-take_disk.ensures in
    let served = c.serve_with_book-trustee.ensures in
    let loaded = c.in-Ok-load_journal.ensures.loaded in
    let kind = loaded.unwritten.stays in
    let journal_is = c.of_keeper-trustee.ensures.journal in
    let named = served.name in
    let end_is = c.end.ensures.disk in
    let told : now.told ≡ disk.told = ap disks.Pages.told end_is ∙ ap (λ (n : TrusteeName). n.told) named ∙ ap (λ j. disks.Pages.told (disk_of j)) journal_is ∙ kind.told in
    let honest : now.honest ≡ disk.honest = ap disks.Pages.honest end_is ∙ ap (λ (n : TrusteeName). n.honest) named ∙ ap (λ j. disks.Pages.honest (disk_of j)) journal_is ∙ kind.honest in
    let steady : now.steady ≡ disk.steady = ap disks.Faults.steady end_is ∙ ap (λ (n : TrusteeName). n.steady) named ∙ ap (λ j. disks.Faults.steady (disk_of j)) journal_is ∙ kind.steady in
    let same : handed disk ≡ handed now = cc in
    let keeps = served.ended.keeps in
    record {
      out = λ is_told.
          let before : IsTrue (state c.take_disk.new.self).told = rw (← keeps.back.onward.told) is_told in
          keeps.back.out before name ∙ out_here _ _ name disk (taken_out _ _ name disk out.taken out.onward) before ∙ ap Some same;
    }

pub returns : goal.returns
returns g c =
    let state = g.S.Store.state in
    let disks = g.S.Disk in
    let pages = pages_state disks.Pages.told disks.Pages.honest disks.Faults.steady disks.Faults.count disks.Pages.room disks.Pages.reads disks.Pages.may_leave in
    let words = trustee_words c.args.words.now in
    let first = state c.args.store.now in
    let out_state = state c.take_disk.new.self in
    let served_state = state c.serve_with_book-trustee.new.store in
    let last = state c.return_disk-2.new.self in
    let name = c.args.words.now.journal.now in
    let share = c.in-Ok.share in
    let read = c.in-Ok.ensures in
    let disk = pages c.in-Ok-take_disk.disk in
    let now = pages c.end.result in
    let out = c.in-Ok-take_disk.ensures in
    let served = c.serve_with_book-trustee.ensures in
    let loaded = c.in-Ok-load_journal.ensures.loaded in
    let kind = loaded.unwritten.stays in
    let journal_is = c.of_keeper-trustee.ensures.journal in
    let named = served.name in
    let ended = c.end.ensures in
    let end_is = ended.disk in
    let keeps = served.ended.keeps in
    let touched = served.ended.touched in
    let taken : Taken first name disk out_state = taken_unchanged first _ _ name disk read.unchanged out.taken in
    let goes = onward_on _ _ _ read.unchanged.onward out.onward in
    let step = c.return_disk-2.ensures.returned in
    let comes = c.return_disk-2.ensures.onward in
    let told : now.told ≡ disk.told = ap disks.Pages.told end_is ∙ ap (λ (n : TrusteeName). n.told) named ∙ ap (λ j. disks.Pages.told (disk_of j)) journal_is ∙ kind.told in
    let honest : now.honest ≡ disk.honest = ap disks.Pages.honest end_is ∙ ap (λ (n : TrusteeName). n.honest) named ∙ ap (λ j. disks.Pages.honest (disk_of j)) journal_is ∙ kind.honest in
    let steady : now.steady ≡ disk.steady = ap disks.Faults.steady end_is ∙ ap (λ (n : TrusteeName). n.steady) named ∙ ap (λ j. disks.Faults.steady (disk_of j)) journal_is ∙ kind.steady in
    let round = whole first out_state served_state last name touched disk now taken goes keeps step comes told honest steady in
    let later = onward_on _ _ _ out.onward (onward_on _ _ _ keeps.back.onward comes) in
    let trustee = c.of_keeper-trustee.result in
    let done = c.serve_with_book-trustee.result.0 in
    let share_is : share_of done ≡ share = ap (λ (n : TrusteeName). n.share) named ∙ c.of_keeper-trustee.ensures.share in
    let journal = c.in-Ok-load_journal.journal in
    let count = 2 ^ share.params.h in
    let old = trustee_state trustee in
    let new = trustee_state done in
    let same = done ≡ trustee in
    let is_journal : IsTrue disk.told → IsJournal share old.entries disk.reads = λ t. record {
      loads = loaded.file t;
      entries_are = ap (λ j. (state_of j).entries) journal_is ∙ ap (λ (j : JournalState). j.entries) (loaded.entries t);
      has = subst (HasEntries share.params.n count disk.reads) (ap (λ j. (state_of j).entries) (sym journal_is))
          (has_entries share journal loaded.named loaded.sized (holds journal) disk.reads (ap (λ (j : JournalState). j.doubt) (loaded.entries t))
          (subst (Keeps journal) (loaded.unwritten.same t) ((holds journal).reads (subst (λ b. IsTrue b) (sym kind.told) t))));
    } in
    let before : Outside = record { store = first; net = g.N.Net.state c.args.net.now; time = g.T.Clocks.state c.args.time.now } in
    let after : Outside = record { store = last; net = g.N.Net.state c.serve_with_book-trustee.new.net; time = g.T.Clocks.state c.serve_with_book-trustee.new.time } in
    let trustee_is : IsTrustee words before after share old.entries = record {
      share_is = read.share c.args.store.now c.return_disk-2.new.self (part_of _ _ _ _ (unchanged_none _) later);
      journal_is = record { file = disk.reads; is_read = taken.reads; is = λ t. is_journal (taken.given.told t) };
    } in
    let fresh : old.faults ≡ 0 = ap (λ j. faults_of j) journal_is ∙ loaded.faults ∙ taken.given.fresh in
    let told_first : old.name.told ≡ disk.told = ap (λ j. disks.Pages.told (disk_of j)) journal_is ∙ kind.told in
    let honest_first : old.name.honest ≡ disk.honest = ap (λ j. disks.Pages.honest (disk_of j)) journal_is ∙ kind.honest in
    let steady_first : old.name.steady ≡ disk.steady = ap (λ j. disks.Faults.steady (disk_of j)) journal_is ∙ kind.steady in
    let handed_first : handed disk ≡ handed_of old.name = cc in
    let reads_same : same → IsTrue disk.told → now.reads ≡ disk.reads = λ is t.
    ap disks.Pages.reads end_is ∙ ap (λ x. disks.Pages.reads (disk_of (journal_of x))) is ∙ ap (λ j. disks.Pages.reads (disk_of j)) journal_is ∙ loaded.unwritten.same t in
    let images_same : same → IsTrue disk.honest → (image : List ℕ) → now.may_leave image → disk.may_leave image = λ is h image may.
    loaded.unwritten.images h image (subst (λ j. disks.Pages.may_leave (disk_of j) image) journal_is
    (subst (λ x. disks.Pages.may_leave (disk_of (journal_of x)) image) is (subst (λ d. disks.Pages.may_leave d image) end_is may))) in
    let stays_journal : same → Stays (from_to first last) name = λ is.
    round_stays first out_state served_state last name touched disk now taken goes keeps step comes told honest steady (reads_same is) (images_same is) in
    let left = leaves_journal share (journal_of done) (ended.header ∙ ap journal_header share_is) (ended.params ∙ ap (λ (s : Share). s.params) share_is) ended.holds
    first last name c.end.result end_is (λ t. subst (λ b. IsTrue b) (sym told) (taken.given.told t))
    (λ t h. subst (λ b. IsTrue b) (sym honest) (subst (λ (x : Handed). IsTrue x.honest) (taken.kind t) h)) round.file round.leaves in
    let counted : now.count ≡ new.faults = ap disks.Faults.count end_is in
    let rises = round_rise first out_state served_state last name touched disk now taken goes keeps step comes told honest steady in
    record {
      touched = name ∷ touched;
      ends = ends_whole words first out_state served_state last _ _ _ _ _ touched disk now taken goes keeps step comes told honest steady
          share old new (state_of (journal_of done)).doubt same trustee_is stays_journal fresh (λ t. subst (λ b. IsTrue b) (sym told_first) (taken.given.told t)) (λ s. subst (λ b. IsTrue b) (sym steady_first) (taken.given.steady s)) named (λ t. taken.kind t ∙ handed_first) left ended.holds.cause
          (no_doubts (notes_of trustee) (state_of journal) c.of_keeper-trustee.ensures.notes ((holds journal).cause (loaded.faults ∙ taken.given.fresh))) refl
          (omega (arith, rises, counted)) _ touched served.ended.cause;
      keeps = round.keeps;
      net = served.net;
      time = served.time;
    }

pub return_disk-requires : goal.return_disk-requires
return_disk-requires g c =
    let disks = g.S.Disk in
    let pages = pages_state disks.Pages.told disks.Pages.honest disks.Faults.steady disks.Faults.count disks.Pages.room disks.Pages.reads disks.Pages.may_leave in
    let name = c.args.words.now.journal.now in
    let disk = pages c.in-Ok-take_disk.disk in
    let now = pages c.in-Err-load_journal.disk in
    let out = c.in-Ok-take_disk.ensures in
    let kind = c.in-Err-load_journal.ensures.unwritten.stays in
    let same : handed disk ≡ handed now = handed_same disk now kind.told kind.honest kind.steady in
    record { out = λ is_told. out_here _ _ name disk (taken_out _ _ name disk out.taken out.onward) is_told ∙ ap Some same }

pub of_keeper-trustee-requires : goal.of_keeper-trustee-requires
of_keeper-trustee-requires g c = record {
  header = c.in-Ok-load_journal.ensures.loaded.named;
  params = c.in-Ok-load_journal.ensures.loaded.sized;
}
