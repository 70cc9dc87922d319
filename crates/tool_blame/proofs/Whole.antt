-- The whole command, from what its steps say.
use Rattle.std.proofs.Common.{◌≡◌, ℕ, Bool, false, List, [], ◌∷◌, drop, Option, None, Result, Ok, Err, IsTrue, refl, sym, ◌∙◌, subst, arith}
use Rattle.aggregator_session.specs.Runs.{CellsRead}
use Rattle.aggregator_session.specs.declared.desk.Address.{Address}
use Rattle.aggregator_session.specs.Signing.{Signature}
use Rattle.session_core.specs.State.{State}
use Rattle.share_blame.specs.Loads.{commits_fault}
use Rattle.share_files.specs.declared.reference.RefHeader.{RefHeader}
use Rattle.stream_io.specs.Net.{NetState}
use Rattle.stream_io.specs.Store.{PagesState, StoreOnward, StoreState, ViewEnded, Viewed, has_name}
use Rattle.tool_base.proofs.Nets.{net_none}
use Rattle.tool_base.proofs.Runs.{unchanged_none, onward_none, onward_on, part_of}
use Rattle.tool_base.specs.Ending.{Ending}
use Rattle.tool_base.specs.Endings as endings
use Rattle.tool_base.specs.Outputs.{IsNew, IsNotNew}
use Rattle.tool_base.specs.Touched.{Keeps}
use Rattle.tool_base.specs.World.{Bytes, Failed, InAnyRun, IsBack, IsUnchanged, IsNetBack, file_limit, from_to}
use Rattle.tool_base.specs.declared.ending.Ending as declared
use Rattle.tool_desk.specs.Files.{reference_name}
use Rattle.tool_desk.specs.Reference.{IsReferenceOf}
use Rattle.tool_desk.specs.declared.files.KeyFiles.{KeyFiles}
use Rattle.tool_base.proofs.Outs.{keeps_unchanged}
use Rattle.tool_blame.specs.Beside.{EndsBeside, SessionBeside, ViewsBeside, leaves_through, signing_through}
use Rattle.tool_blame.specs.Beside as sides
use Rattle.tool_blame.specs.Blame.{EndsNaming, BlameRun, FailsToBegin, NamingRun}
use Rattle.tool_blame.specs.Blame as blame
use Rattle.tool_blame.specs.Commits.{AreCommitsViewed, AreNoCommits, FailsCommits, GoesWithReference, ReadsCommits, commits_name}
use Rattle.tool_blame.specs.Commits as commits
use Rattle.tool_blame.specs.Names.{TellsEnd}
use Rattle.tool_blame.specs.Names as names
use Rattle.tool_sign.proofs.Views.{EndsWider, SameButViews, back_view, device_in, fails_in, out_view, read_in, reads_as_in}
use Rattle.tool_sign.proofs.Whole.{Signed, is_task, still_new, table_unwritten, table_written, task_later, whole_ends, whole_keeps}
use Rattle.tool_sign.proofs.Writes.{as-signed, is_written, keeps_unwritten, keeps_written, not_written}
use Rattle.tool_sign.specs.Ended.{last_in}
use Rattle.tool_sign.specs.Ports.{NetRun, Signing, over_net}
use Rattle.tool_sign.specs.Sessions.{SessionEnds}
use Rattle.tool_sign.specs.Sessions as sessions
use Rattle.tool_sign.specs.Sign.{session_words}
use Rattle.tool_sign.specs.Signs.{SignedTable, TableEnds}
use Rattle.tool_sign.specs.Signs as signs
use Rattle.tool_sign.specs.Tasks.{GoesWith, HasFiles, LacksTask, SessionWords, message_in, message_limit}
use Rattle.tool_sign.specs.Tasks as tasks
use Rattle.tool_sign.specs.Writes.{WriteEnds}
use Rattle.tool_sign.specs.Writes as writes
use Rattle.tool_words.specs.Words.{SignWords}

-- the name of the signature was not found to be new
pub run_taken : {S : Type 0} (state : S → StoreState) (words : SignWords) (first last : S) (net : NetState) (end : Ending) → IsUnchanged (state first) (state last)
    → InAnyRun state first last (λ run. IsNotNew run words.out end) → BlameRun words (from_to (state first) (state last)) (over_net net net) end
run_taken state words first last net end unchanged fails = record {
  touched = [];
  ends = blame.not_new end (fails first last (part_of _ _ _ _ (unchanged_none _) (onward_none _))) refl;
  keeps = keeps_unchanged [] _ _ unchanged;
  ports = net_none net;
}

-- the session by what is told about it
pub record NamingTold (words : SignWords) (a d : StoreState) (net : NetRun) (told : Result Signature Ending) : Type 0 where
  pub touched : List (List ℕ)
  pub ends : EndsNaming words (from_to a d) net told touched
  pub keeps : Keeps touched a d
  pub ports : IsNetBack net.before net.after

-- nothing was begun
pub unbegun : (words : SignWords) (a e : StoreState) (net : NetState) (end : declared.Ending) → Keeps [] a e
    → FailsToBegin (session_words words) (from_to a e) (message_in (from_to a e) words.message) (endings.ending end) → NamingRun words a e (over_net net net) (Err end)
unbegun words a e net end keeps fails = record {
  touched = [];
  ends = blame.not_begun (endings.ending end) fails refl;
  keeps = keeps;
  ports = net_none net;
}

both_views : (a b c : StoreState) → SameButViews a b → SameButViews b c → SameButViews a c
both_views a b c one two = record {
  names = record {
    file = two.names.file ∙ one.names.file;
    leaves = λ other image. let x = one.names.leaves other image in let y = two.names.leaves other image in (λ z. x.0 (y.0 z), λ z. y.1 (x.1 z));
    out = two.names.out ∙ one.names.out;
  };
  onward = onward_on a b c one.onward two.onward;
}

unchanged_views : (a b : StoreState) → IsUnchanged a b → SameButViews a b
unchanged_views a b unchanged = record { names = unchanged.same.names; onward = unchanged.onward }

-- a message that was obtained while views were out was obtained, however the run goes on
goes_in : (a b c d : StoreState) → SameButViews a b → (words : SessionWords) (name : List ℕ) (files : KeyFiles) (header : RefHeader) (message members : List ℕ) (addresses : List Address)
    → GoesWith words (message_in (from_to b c) name) files header message members addresses → GoesWith words (message_in (from_to a d) name) files header message members addresses
goes_in a b c d on words name files header message members addresses goes = record {
  message_is = (goes.message_is.0, λ told. rw (← on.names.file) (goes.message_is.1 (rw on.onward.told told)));
  one_key = goes.one_key;
  members_are = goes.members_are;
  coalition = goes.coalition;
  addresses_are = goes.addresses_are;
}

-- from a state with all views in to another one with all views in
module _ (a b c d : StoreState) (goes : SameButViews a b) (same : b.disk_count ≡ a.disk_count) (comes : SameButViews c d) where
  no_commits_in : (name : List ℕ) (header : RefHeader) (end : Ending) → FailsCommits (from_to b c) name header end → FailsCommits (from_to a d) name header end
  no_commits_in name header _ (commits.no_view r) = commits.no_view (read_in a b c d goes same comes file_limit name Failed r)
  no_commits_in name header _ (commits.not_in_grammar fault reads) = commits.not_in_grammar fault (reads_as_in a b c d goes same comes name (AreNoCommits header fault) reads)
  no_commits_in name header _ (commits.device fails) = commits.device (device_in a b c d goes same comes fails)
  no_commits_in name header _ commits.no_memory = commits.no_memory

  commits_in : (name : List ℕ) (header : RefHeader) → AreCommitsViewed (from_to b c) name header → AreCommitsViewed (from_to a d) name header
  commits_in name header viewed = record { reads = reads_as_in a b c d goes same comes name (GoesWithReference header) viewed.reads }

  module _ (words : SessionWords) (name : List ℕ) (files : KeyFiles) (header : RefHeader) where
    lacks_in : (end : Ending) → LacksTask words (message_in (from_to b c) name) files header end → LacksTask words (message_in (from_to a d) name) files header end
    lacks_in _ tasks.no_memory = tasks.no_memory
    lacks_in _ (tasks.no_message end fails) = tasks.no_message end (fails_in a b c d goes same comes message_limit name end fails)
    lacks_in _ (tasks.other_key message end read other) = tasks.other_key message end (read_in a b c d goes same comes message_limit name (Bytes message) read) other
    lacks_in _ (tasks.no_coalition message read one never) = tasks.no_coalition message (read_in a b c d goes same comes message_limit name (Bytes message) read) one never

-- from the state before the view of the reference to that after it
module _ (words : SignWords) (files : KeyFiles) (header : RefHeader) (a x b : StoreState) (view : PagesState) (unchanged : IsUnchanged a x)
    (viewed : Viewed x (reference_name words.prefix) view b) (out : StoreOnward x b) where
  goes_b : SameButViews a b
  goes_b = out_view a x b (reference_name words.prefix) view unchanged viewed out

  count_b : b.disk_count ≡ a.disk_count
  count_b = viewed.disk_count ∙ unchanged.same.loans.disk_count

  -- there were no commitments
  pub run_without : (v d : StoreState) (ended : ViewEnded v view d) (comes : StoreOnward v d) (net : NetState) (end : declared.Ending) → Keeps [] b v → HasFiles (session_words words) (from_to a d) files header
      → FailsCommits (from_to b v) (commits_name words.prefix) header (endings.ending end) → NamingRun words a d (over_net net net) (Err end)
  run_without v d ended comes net end keeps has fails =
      unbegun words a d net end (whole_keeps files header a x b b (reference_name words.prefix) view unchanged viewed out (unchanged_none b) v d view ended comes [] keeps)
      (blame.no_commits files header (endings.ending end) has (no_commits_in a b v d goes_b count_b (back_view v d view ended comes) (commits_name words.prefix) header (endings.ending end) fails))

  -- and on to the state after the view of the commitments, and to the one once the message was read
  module _ (v p : StoreState) (beside : PagesState) (besides : Viewed b (commits_name words.prefix) beside v) (on : StoreOnward b v) (task : IsUnchanged v p) where
    goes_v : SameButViews a v
    goes_v = both_views a b v goes_b (out_view b b v (commits_name words.prefix) beside (unchanged_none b) besides on)

    count_v : v.disk_count ≡ a.disk_count
    count_v = besides.disk_count ∙ count_b

    -- back, first with the view of the commitments
    module _ (c e d : StoreState) (beside_now now : PagesState) (first : ViewEnded c beside_now e) (back : StoreOnward c e) (ended : ViewEnded e now d) (comes : StoreOnward e d) where
      both_back : SameButViews c d
      both_back = both_views c e d (back_view c e beside_now first back) (back_view e d now ended comes)

      all_keep : (touched : List (List ℕ)) → Keeps touched p c → Keeps touched a d
      all_keep touched keeps =
          whole_keeps files header a x b b (reference_name words.prefix) view unchanged viewed out (unchanged_none b) e d now ended comes touched
          (whole_keeps files header b b v p (commits_name words.prefix) beside (unchanged_none b) besides on task c e beside_now first back touched keeps)

      all_end : (s : Signing) (table : List ℕ) (net : NetRun) (answer : Result Signature Ending) (touched : List (List ℕ)) (ends : TableEnds s table (from_to p c) net answer touched)
          → EndsWider s table (from_to a d) net answer touched (last_in ends)
      all_end s table net answer touched ends =
          let inner = whole_ends files header b b v p (commits_name words.prefix) beside (unchanged_none b) besides on task c e beside_now first back s table net answer touched ends in
          let outer = whole_ends files header a x b b (reference_name words.prefix) view unchanged viewed out (unchanged_none b) e d now ended comes s table net answer touched inner.ends in
          record { ends = outer.ends; last_is = outer.last_is ∙ inner.last_is }

      all_goes : (message members : List ℕ) (addresses : List Address) → GoesWith (session_words words) (message_in (from_to v p) words.message) files header message members addresses
          → GoesWith (session_words words) (message_in (from_to a d) words.message) files header message members addresses
      all_goes message members addresses goes = goes_in a v p d goes_v (session_words words) words.message files header message members addresses goes

      -- the commitments are those of the words
      reads_commits : (IsTrue beside.told → commits_fault header beside.reads ≡ None) → StoreOnward p c
          → ReadsCommits (session_words words) (from_to a d) header (record { told = beside.told; leaves = drop 32 beside.reads; before = beside.count; now = beside_now.count }) beside.steady
      reads_commits faultless works = record {
        told = λ told. besides.given.told (rw goes_b.onward.told told);
        steady_is = λ steady. besides.given.steady (rw goes_b.onward.steady steady);
        leaves = record {
          file = beside.reads;
          is_read = λ told. rw (← goes_b.names.file) (besides.reads (rw goes_b.onward.told told));
          is = λ told. record { goes = faultless (besides.given.told (rw goes_b.onward.told told)); leaves_are = refl };
        };
        fresh = besides.given.fresh;
        rise =
            let one = count_v in
            let two = task.onward.disk_count in
            let three = works.disk_count in
            let four = first.disk_count in
            let five = comes.disk_count in
            omega (arith, one, two, three, four, five);
      }

  -- and back once the message was not obtained, or once a session ended
  module _ {S : Type 0} (state : S → StoreState) (old new : S) (e d : StoreState) (beside beside_now now : PagesState) (besides : Viewed b (commits_name words.prefix) beside (state old)) (on : StoreOnward b (state old))
      (first : ViewEnded (state new) beside_now e) (back : StoreOnward (state new) e) (ended : ViewEnded e now d) (comes : StoreOnward e d) (net : NetRun)
      (has : StoreOnward (state old) (state new) → HasFiles (session_words words) (from_to a d) files header) where
    abbrev v : StoreState
    v = state old

    abbrev c : StoreState
    c = state new

    abbrev views : ViewsBeside
    views = record { reference = view; reference_now = now; commits = beside; commits_now = beside_now }

    both_ends : SameButViews c d
    both_ends = both_views c e d (back_view c e beside_now first back) (back_view e d now ended comes)

    lacking : AreCommitsViewed (from_to b v) (commits_name words.prefix) header → (end : Ending)
        → LacksTask (session_words words) (message_in (from_to v c) words.message) files header end → IsUnchanged v c → net.after ≡ net.before → NamingTold words a d net (Err end)
    lacking are end lacks task idle = record {
      touched = [];
      ends = blame.not_begun end
          (blame.no_task files header end (has task.onward)
          (commits_in a b v d goes_b count_b (both_views v c d (unchanged_views v c task) both_ends) (commits_name words.prefix) header are)
          (lacks_in a v c d (goes_v v c beside besides on task) (count_v v c beside besides on task) both_ends (session_words words) words.message files header end lacks))
          idle;
      keeps = all_keep v c beside besides on task c e d beside_now now first back ended comes [] (keeps_unchanged [] c c (unchanged_none c));
      ports = rw idle (net_none net.before);
    }

    module _ (reads : IsTrue view.told → IsReferenceOf header view.reads) (faultless : IsTrue beside.told → commits_fault header beside.reads ≡ None) where
      told_by : (told : Result Signature Ending) → SessionBeside state words files header views old new net told → NamingTold words a d net told
      told_by told s =
          let task = s.unchanged in
          let works = s.run.keeps.back.onward in
          let signing : Signing = signing_through files header view now s.message s.members s.addresses in
          let ends = all_end v (state s.read) beside besides on task c e d beside_now now first back ended comes signing words.table net s.answer s.run.touched s.run.ends in
          let goes = all_goes v (state s.read) beside besides on task c e d beside_now now first back ended comes s.message s.members s.addresses s.goes in
          let within = onward_on _ _ _ on (onward_on _ _ _ task.onward (onward_on _ _ _ works back)) in
          let commits = reads_commits v (state s.read) beside besides on task c e d beside_now now first back ended comes faultless works in
          let task_is = is_task (session_words words) files header s.sizes a x b view unchanged viewed reads (message_in (from_to a d) words.message) b e d now s.message s.members s.addresses
          out (unchanged_none b) within ended (has (onward_on _ _ _ task.onward works)) goes in
          record {
            touched = s.run.touched;
            ends = blame.ended signing (leaves_through beside beside_now) beside.steady s.answer told s.run.touched task_is ends.ends commits
                (subst (λ (session : Option State). TellsEnd (leaves_through beside beside_now) beside.steady s.message session s.answer told) (sym ends.last_is) s.tells);
            keeps = all_keep v (state s.read) beside besides on task c e d beside_now now first back ended comes s.run.touched s.run.keeps;
            ports = s.run.ports;
          }

      pub run_beside : AreCommitsViewed (from_to b v) (commits_name words.prefix) header → (told : Result Signature Ending) → EndsBeside state words files header views old new net told
          → NamingTold words a d net told
      run_beside are _ (sides.not_begun end lacks task idle) = lacking are end lacks task idle
      run_beside are _ (sides.begun told s) = told_by told s

-- if the answer that is told is a signature, so was the answer itself
pub tells_ok : (reads : CellsRead) (steady : Bool) (message : List ℕ) (session : Option State) (answer told : Result Signature Ending) (signature : Signature) → TellsEnd reads steady message session answer told
    → told ≡ Ok signature → answer ≡ Ok signature
tells_ok reads steady message session _ _ signature (names.as_signed same) is = is
tells_ok reads steady message session _ _ signature (names.as_ended end other) is = is
tells_ok reads steady message session _ _ signature (names.by_names end told last status some ends) is = absurd (cc)

-- after the session
module _ (words : SignWords) (a d : StoreState) (net : NetRun) where
  -- what was signed, with what table, and beside which commitments
  pub record Beside (signature : Signature) (touched : List (List ℕ)) : Type 0 where
    pub by : Signed words a d net (from_to a d) signature touched
    pub reads : CellsRead
    pub steady : Bool
    pub commits : ReadsCommits (session_words words) (from_to a d) by.task.header reads steady

  signed_beside : (told : Result Signature Ending) (touched : List (List ℕ)) (signature : Signature) → EndsNaming words (from_to a d) net told touched → told ≡ Ok signature → Beside signature touched
  signed_beside _ _ signature (blame.not_begun end fails same) is = absurd (cc)
  signed_beside told touched signature (blame.ended s reads steady answer _ _ task ends commits tells) is =
      let both = as-signed s words.table a d net answer touched signature ends (tells_ok reads steady s.message (last_in ends) answer told signature tells is) in
      record {
        by = record { signing = s; task = task; table = both.0; touches = both.1 };
        reads = reads;
        steady = steady;
        commits = commits;
      }

  as_session : (signature : Signature) (touched : List (List ℕ)) → Beside signature touched → SessionEnds (session_words words) (from_to a d) (message_in (from_to a d) words.message) net (Ok signature) touched
  as_session signature touched beside =
      subst (SessionEnds (session_words words) (from_to a d) (message_in (from_to a d) words.message) net (Ok signature)) (sym beside.by.touches)
      (sessions.ended beside.by.signing (Ok signature) (words.table ∷ []) beside.by.task (signs.signed (Ok signature) beside.by.table))

  -- the name of the signature is still new
  pub new_still : (touched : List (List ℕ)) (signature : Signature) → IsNew (from_to a d) words.out → Keeps touched a d → EndsNaming words (from_to a d) net (Ok signature) touched
      → IsTrue d.told → has_name d words.out ≡ false
  new_still touched signature is_new keeps ends =
      still_new words a d net touched signature (Ok signature) is_new keeps (as_session signature touched (signed_beside (Ok signature) touched signature ends refl)) refl

  pub run_unsigned : (touched : List (List ℕ)) (end : Ending) → IsNew (from_to a d) words.out → Keeps touched a d → IsNetBack net.before net.after
      → EndsNaming words (from_to a d) net (Err end) touched → BlameRun words (from_to a d) net end
  run_unsigned touched end is_new keeps ports ends = record { touched = touched; ends = blame.not_signed end touched is_new ends; keeps = keeps; ports = ports }

  module _ (e : StoreState) (touched : List (List ℕ)) (signature : Signature) (is_new : IsNew (from_to a d) words.out) (keeps : Keeps touched a d) (ports : IsNetBack net.before net.after)
      (back : IsBack d e) (beside : Beside signature touched) where
    commits_later : ReadsCommits (session_words words) (from_to a e) beside.by.task.header beside.reads beside.steady
    commits_later = record {
      told = beside.commits.told;
      steady_is = beside.commits.steady_is;
      leaves = record { file = beside.commits.leaves.file; is_read = beside.commits.leaves.is_read; is = beside.commits.leaves.is };
      fresh = beside.commits.fresh;
      rise = let rise = beside.commits.rise in let later = back.onward.disk_count in omega (arith, rise, later);
    }

    ends_later : SignedTable beside.by.signing words.table (from_to a e) net (Ok signature) → EndsNaming words (from_to a e) net (Ok signature) touched
    ends_later table = subst (EndsNaming words (from_to a e) net (Ok signature)) (sym beside.by.touches)
        (blame.ended beside.by.signing beside.reads beside.steady (Ok signature) (Ok signature) (words.table ∷ [])
        (task_later (session_words words) a d e back.onward (message_in (from_to a d) words.message) (message_in (from_to a e) words.message) (λ message is. is) beside.by.signing beside.by.task)
        (signs.signed (Ok signature) table) commits_later (names.as_signed signature))

    run_written : (end : Ending) → WriteEnds (from_to d e) words.out signature.leaf signature.bytes end → BlameRun words (from_to a e) net end
    run_written _ (writes.written left) = record {
      touched = words.out ∷ touched;
      ends = blame.signed signature touched is_new (ends_later (table_written words a d net e touched signature is_new keeps ports back beside.by left))
          (is_written a d e touched keeps words.out signature.bytes back left);
      keeps = keeps_written a d e touched keeps words.out signature.bytes back left;
      ports = ports;
    }
    run_written _ (writes.not_written end left cause) = record {
      touched = touched;
      ends = blame.not_written signature end touched is_new (ends_later (table_unwritten words a d net e touched signature is_new keeps ports back beside.by left))
          (not_written a d e touched keeps words.out signature.bytes back end cause);
      keeps = keeps_unwritten a d e touched keeps words.out signature.bytes back left;
      ports = ports;
    }

  pub run_signed : (e : StoreState) (touched : List (List ℕ)) (signature : Signature) (end : Ending) → IsNew (from_to a d) words.out → Keeps touched a d → IsNetBack net.before net.after
      → EndsNaming words (from_to a d) net (Ok signature) touched → IsBack d e → WriteEnds (from_to d e) words.out signature.leaf signature.bytes end → BlameRun words (from_to a e) net end
  run_signed e touched signature end is_new keeps ports ends back wrote =
      run_written e touched signature is_new keeps ports back (signed_beside (Ok signature) touched signature ends refl) end wrote
