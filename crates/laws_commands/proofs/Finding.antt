-- What each command has found by the time it ends, over a store that tells its content.
use Rattle.std.proofs.Common.{◌≡◌, ℕ, Bool, true, false, List, [], ◌∷◌, Option, Some, Result, Ok, Err, IsTrue, is_some, refl, ap, subst}
use Rattle.std.proofs.lemmas.List.Elements.{All-cons, All-nil}
use Rattle.aggregator_session.specs.Desks.{DeskState}
use Rattle.aggregator_session.specs.Runs.{CellsRead}
use Rattle.aggregator_session.specs.Signing.{Signature}
use Rattle.lms_bytes.specs.PublicKey.{public_bytes}
use Rattle.session_core.specs.State.{State}
use Rattle.share_files.specs.declared.reference.RefHeader.{RefHeader}
use Rattle.share_files.specs.declared.share.Share.{Share}
use Rattle.tool_aggregate.specs.Aggregate.{AggregateEnds}
use Rattle.tool_aggregate.specs.Aggregate as aggregate
use Rattle.tool_aggregate.specs.Desks.{FailsDesk, IsDesk}
use Rattle.tool_aggregate.specs.Desks as desks
use Rattle.tool_aggregate.specs.Serving.{ServedTable}
use Rattle.tool_base.specs.Ending as ending
use Rattle.tool_base.specs.Ending.{Ending}
use Rattle.tool_base.specs.Outputs.{Output}
use Rattle.tool_base.specs.World.{Outside, StoreRun, from_to}
use Rattle.tool_blame.specs.Blame.{BlameEnds, FailsToBegin, NamingEnds}
use Rattle.tool_blame.specs.Blame as blame
use Rattle.tool_blame.specs.Commits.{FailsCommits, ReadsCommits, commits_name}
use Rattle.tool_blame.specs.Commits as commits
use Rattle.tool_blame.specs.Names.{TellsEnd, as_ended, as_signed, by_names}
use Rattle.tool_desk.specs.Files.{key_name, reference_name, tree_name}
use Rattle.tool_desk.specs.Views.{FailsReferences}
use Rattle.tool_desk.specs.Views as views
use Rattle.tool_desk.specs.declared.files.KeyFiles.{KeyFiles}
use Rattle.tool_journals.specs.Approve.{ApproveEnds}
use Rattle.tool_journals.specs.Approve as approve
use Rattle.slot_file.specs.declared.header.Header.{Header}
use Rattle.tool_base.specs.Contents.{FailsToFind}
use Rattle.tool_base.specs.Contents as contents
use Rattle.tool_journals.specs.Enrol.{EnrolEnds, FailsToEnrol, IsEnrolled}
use Rattle.tool_journals.specs.Enrol as enrol
use Rattle.tool_journals.specs.Migrate.{MigrateEnds}
use Rattle.tool_journals.specs.Migrate as migrate
use Rattle.tool_journals.specs.Taking.{IsNotTaken, no_memory_to_take, take_failed}
use Rattle.tool_sign.specs.HssSign.{HssSignEnds}
use Rattle.tool_sign.specs.HssSign as levels
use Rattle.tool_sign.specs.Lower.{FailsLower}
use Rattle.tool_sign.specs.Lower as lowers
use Rattle.laws_commands.proofs.Found.{AreThere, Found, IsThere, UpTo, grammar-found, keys-found, lacks-found, last-found, list-1, list-2, list-3, list-4, load-found, new-found, nothing, other-found, reference-found, session-all, session-found, signature-found, table-found, unwritten-found, up-to-here, up-to-later, upto-found, whole}
use Rattle.tool_keys.specs.Deal.{DealEnds}
use Rattle.tool_keys.specs.Large as large
use Rattle.tool_keys.specs.Large.{LargeEnds}
use Rattle.tool_keys.specs.Runs.{DealRunBy}
use Rattle.tool_keys.specs.HssCheck.{HssCheckEnds}
use Rattle.tool_keys.specs.Rehearse.{RehearseEnds}
use Rattle.laws_commands.specs.Steady.{before_table, book_of, names_found, names_needed, up_to}
use Rattle.tool_keys.specs.Steps as steps
use Rattle.tool_run.specs.ToolRun.{CommandRun}
use Rattle.tool_keys.specs.Verify.{VerifyEnds}
use Rattle.tool_show.specs.Show.{ShowEnds}
use Rattle.tool_show.specs.Show as show
use Rattle.tool_sign.specs.Ports.{NetRun, Signing}
use Rattle.tool_sign.specs.Sessions.{SessionEnds}
use Rattle.tool_sign.specs.Sign.{SignEnds}
use Rattle.tool_sign.specs.Sign as sign
use Rattle.tool_sign.specs.Tasks.{IsTask, SessionWords, message_in, message_limit, message_of}
use Rattle.tool_trustee.specs.Journals.{HasBook}
use Rattle.tool_trustee.specs.Journals as journals
use Rattle.tool_trustee.specs.Trustee.{TrusteeEnds, store_of}
use Rattle.tool_trustee.specs.Trustee as trustee
use Rattle.tool_words.specs.Words.{Row, Verify, Rehearse, Deal, Enrol, Migrate, Approve, Trustee, Sign, Aggregate, Drill, HssCheck, HssSign, Blame, Show, AggregateWords, DealWords, HssSignWords, SignWords, TrusteeWords}

abbrev err_of : Ending → Result Signature Ending
err_of end = Err end

abbrev ok_of : Signature → Result Signature Ending
ok_of signature = Ok signature

module _ (run : StoreRun) (told : IsTrue run.before.told) where
  abbrev Is : List ℕ → Type 0
  Is = IsThere run.before

  verify-found : (key message signature : List ℕ) (end : Ending) (written : List Output) → VerifyEnds run key message signature end written → Found run told (Verify key message signature) end
  verify-found key message signature _ _ (steps.refused end fails) =
      grammar-found run told (Verify key message signature) _ key end (list-1 run.before key) (up-to-here run.before key (message ∷ signature ∷ [])) fails
  verify-found key message signature _ _ (steps.given public _ _ read (steps.refused end fails)) =
      upto-found run told (Verify key message signature) _ message end (λ has. list-1 run.before key (ap is_some (read.1 told))) fails
  verify-found key message signature _ _ (steps.given public _ _ read (steps.given text _ _ had (steps.refused end fails))) =
      upto-found run told (Verify key message signature) _ signature end (λ has. list-1 run.before key (ap is_some (read.1 told))) fails
  verify-found key message signature _ _ (steps.given public _ _ read (steps.given text _ _ had (steps.given bytes _ _ got (steps.verdict_told says is)))) =
      list-3 run.before key message signature (ap is_some (read.1 told)) (ap is_some (had.1 told)) (ap is_some (got.1 told))

  rehearse-found : (entropy message key_out signature_out : List ℕ) (end : Ending) (written : List Output) → RehearseEnds run entropy message key_out signature_out end written
      → Found run told (Rehearse entropy message key_out signature_out) end
  rehearse-found entropy message key_out signature_out _ _ (steps.not_new end first) =
      let row = Rehearse entropy message key_out signature_out in new-found run told row first.name end (nothing run told row) first.cause
  rehearse-found entropy message key_out signature_out _ _ (steps.all_new _ _ new (steps.refused end fails)) =
      upto-found run told (Rehearse entropy message key_out signature_out) _ entropy end (list-1 run.before entropy) fails
  rehearse-found entropy message key_out signature_out _ _ (steps.all_new _ _ new (steps.given bytes _ _ read (steps.refused end fails))) =
      upto-found run told (Rehearse entropy message key_out signature_out) _ message end (λ has. list-1 run.before entropy (ap is_some (read.1 told))) fails
  rehearse-found entropy message key_out signature_out _ _ (steps.all_new _ _ new (steps.given bytes _ _ read (steps.given text end written had rest))) =
      whole run.before (Rehearse entropy message key_out signature_out) (list-2 run.before entropy message (ap is_some (read.1 told)) (ap is_some (had.1 told))) end

  deal-found : (words : DealWords) (end : Ending) (written : List Output) → DealEnds run words end written → Found run told (Deal words) end
  deal-found words _ _ (steps.refused end fails) = upto-found run told (Deal words) _ words.entropy end (list-1 run.before words.entropy) fails
  deal-found words _ _ (steps.given entropy end written read rest) = whole run.before (Deal words) (list-1 run.before words.entropy (ap is_some (read.1 told))) end

  large-found : (words : DealWords) (end : Ending) (written : List Output) (touched : List (List ℕ)) → LargeEnds run words end written touched → Found run told (Deal words) end
  large-found words _ _ _ (large.not_read end fails) = upto-found run told (Deal words) _ words.entropy end (list-1 run.before words.entropy) fails
  large-found words _ _ _ (large.not_dealt entropy end read fails) = whole run.before (Deal words) (list-1 run.before words.entropy (ap is_some (read.1 told))) end
  large-found words _ _ _ (large.not_new params entropy end read set plan dealable fails) = whole run.before (Deal words) (list-1 run.before words.entropy (ap is_some (read.1 told))) end
  large-found words _ _ _ (large.not_made d done end asked fails) = whole run.before (Deal words) (list-1 run.before words.entropy (ap is_some (asked.read.1 told))) end
  large-found words _ _ _ (large.begun d done end written asked rest) = whole run.before (Deal words) (list-1 run.before words.entropy (ap is_some (asked.read.1 told))) end

  run-found : (words : DealWords) (large : Bool) (end : Ending) → DealRunBy large words run end → Found run told (Deal words) end
  run-found words true end ran = large-found words end ran.written ran.touched ran.cause
  run-found words false end ran = deal-found words end ran.written ran.cause

  find-found : (row : Row) (name : List ℕ) (end : Ending) → FailsToFind run name end → Found run told row end
  find-found row name _ (contents.failed r) = nothing run told row
  find-found row name _ (contents.device fails) = nothing run told row
  find-found row name _ contents.no_memory = nothing run told row

  unenrolled-found : (file journal : List ℕ) (end : Ending) → FailsToEnrol run file end → Found run told (Enrol file journal) end
  unenrolled-found file journal _ (enrol.not_found end fails) = find-found (Enrol file journal) file end fails
  unenrolled-found file journal _ (enrol.not_in_grammar bytes fault read is) = up-to-here run.before file [] (ap is_some (read.1 told))
  unenrolled-found file journal _ (enrol.too_long got read reads) = list-1 run.before file (ap is_some (reads.is_read told))
  unenrolled-found file journal _ (enrol.no_reference got fault read reads) = up-to-here run.before file [] (ap is_some (reads.is_read told))

  enrolled-there : (file : List ℕ) (header : Header) (count : ℕ) → IsEnrolled run file header count → Is file
  enrolled-there file _ _ (enrol.whole bytes header count read go) = ap is_some (read.1 told)
  enrolled-there file _ _ (enrol.long got reference read dealt reads) = ap is_some (reads.is_read told)

  enrol-found : (file journal : List ℕ) (end : Ending) (touched : List (List ℕ)) → EnrolEnds run file journal end touched → Found run told (Enrol file journal) end
  enrol-found file journal _ _ (enrol.not_read end fails) = unenrolled-found file journal end fails
  enrol-found file journal _ _ (enrol.not_made header count end touched is fails) = whole run.before (Enrol file journal) (list-1 run.before file (enrolled-there file header count is)) end
  enrol-found file journal _ _ (enrol.enrolled header count is made) = list-1 run.before file (enrolled-there file header count is)

  untaken-found : (row : Row) (name : List ℕ) (end : Ending) → IsNotTaken run name end → Found run told row end
  untaken-found row name _ (take_failed rose absent) = nothing run told row
  untaken-found row name _ no_memory_to_take = nothing run told row

  migrate-found : (share journal new : List ℕ) (end : Ending) (touched : List (List ℕ)) → MigrateEnds run share journal new end touched → Found run told (Migrate share journal new) end
  migrate-found share journal new _ _ (migrate.no_share end fails) =
      grammar-found run told (Migrate share journal new) _ share end (list-1 run.before share) (up-to-here run.before share (journal ∷ [])) fails
  migrate-found share journal new _ _ (migrate.not_new found end read fails) =
      new-found run told (Migrate share journal new) new end (list-1 run.before share (ap is_some (read.read.1 told))) fails
  migrate-found share journal new _ _ (migrate.not_taken found end read is_new fails) = untaken-found (Migrate share journal new) journal end fails
  migrate-found share journal new _ _ (migrate.taken found file end touched read is_new still ends) =
      whole run.before (Migrate share journal new) (list-2 run.before share journal (ap is_some (read.read.1 told)) (ap is_some (still.before told))) end

  approve-found : (share book message : List ℕ) (end : Ending) (touched : List (List ℕ)) → ApproveEnds run share book message end touched → Found run told (Approve share book message) end
  approve-found share book message _ _ (approve.no_share end fails) =
      grammar-found run told (Approve share book message) _ share end (list-1 run.before share) (up-to-here run.before share (message ∷ [])) fails
  approve-found share book message _ _ (approve.no_message found end read fails) =
      upto-found run told (Approve share book message) _ message end (λ has. list-1 run.before share (ap is_some (read.read.1 told))) fails
  approve-found share book message _ _ (approve.no_book found id end touched read had fails) =
      whole run.before (Approve share book message) (list-2 run.before share message (ap is_some (read.read.1 told)) (ap is_some (had.read.1 told))) end
  approve-found share book message _ _ (approve.in_book found id bytes after end read had was is adds) =
      whole run.before (Approve share book message) (list-2 run.before share message (ap is_some (read.read.1 told)) (ap is_some (had.read.1 told))) end
  approve-found share book message _ _ (approve.in_new_book found id bytes after end read had new blank owners is adds) =
      whole run.before (Approve share book message) (list-2 run.before share message (ap is_some (read.read.1 told)) (ap is_some (had.read.1 told))) end

  check-found : (key message signature : List ℕ) (end : Ending) (written : List Output) → HssCheckEnds run key message signature end written → Found run told (HssCheck key message signature) end
  check-found key message signature _ _ (steps.refused end fails) =
      grammar-found run told (HssCheck key message signature) _ key end (list-1 run.before key) (up-to-here run.before key (message ∷ signature ∷ [])) fails
  check-found key message signature _ _ (steps.given public _ _ read (steps.refused end fails)) =
      upto-found run told (HssCheck key message signature) _ message end (λ has. list-1 run.before key (ap is_some (read.1 told))) fails
  check-found key message signature _ _ (steps.given public _ _ read (steps.given text _ _ had (steps.refused end fails))) =
      upto-found run told (HssCheck key message signature) _ signature end (λ has. list-1 run.before key (ap is_some (read.1 told))) fails
  check-found key message signature _ _ (steps.given public _ _ read (steps.given text _ _ had (steps.given bytes _ _ got (steps.verdict_told says is)))) =
      list-3 run.before key message signature (ap is_some (read.1 told)) (ap is_some (had.1 told)) (ap is_some (got.1 told))

  show-found : (file : List ℕ) (leaves : Bool) (end : Ending) → ShowEnds run file leaves end → Found run told (Show file leaves) end
  show-found file leaves _ (show.not_read end fails) = find-found (Show file leaves) file end fails
  show-found file leaves _ show.no_memory = nothing run told (Show file leaves)
  show-found file leaves _ (show.not_shown bytes end read fails) = whole run.before (Show file leaves) (list-1 run.before file (ap is_some (read.1 told))) end
  show-found file leaves _ (show.shown bytes text read is) = list-1 run.before file (ap is_some (read.1 told))
  show-found file leaves _ (show.too_long got read reads) = list-1 run.before file (ap is_some (reads.is_read told))
  show-found file leaves _ (show.long_not_shown got fault read reads) = up-to-here run.before file [] (ap is_some (reads.is_read told))
  show-found file leaves _ (show.long_shown got text read reads) = list-1 run.before file (ap is_some (reads.is_read told))

  -- ---- commands that sign
  module _ (words : SignWords) where
    sign-list : (key : Is (key_name words.prefix)) (tree : Is (tree_name words.prefix)) (reference : Is (reference_name words.prefix)) → Is words.message → Is words.table
        → AreThere run.before (names_needed (Sign words))
    sign-list key tree reference message table =
        All-cons Is (key_name words.prefix) (tree_name words.prefix ∷ reference_name words.prefix ∷ words.message ∷ words.table ∷ []) key
        (list-4 run.before (tree_name words.prefix) (reference_name words.prefix) words.message words.table tree reference message table)

    upkey : Is (key_name words.prefix) → UpTo run told (Sign words) (key_name words.prefix)
    upkey = up-to-here run.before (key_name words.prefix) (tree_name words.prefix ∷ reference_name words.prefix ∷ words.message ∷ words.table ∷ [])

    uptree : Is (key_name words.prefix) → Is (tree_name words.prefix) → UpTo run told (Sign words) (tree_name words.prefix)
    uptree key tree = up-to-later run.before (tree_name words.prefix) (key_name words.prefix) (tree_name words.prefix ∷ reference_name words.prefix ∷ words.message ∷ words.table ∷ []) key
        (up-to-here run.before (tree_name words.prefix) (reference_name words.prefix ∷ words.message ∷ words.table ∷ []) tree)

    upref : Is (key_name words.prefix) → Is (tree_name words.prefix) → Is (reference_name words.prefix) → UpTo run told (Sign words) (reference_name words.prefix)
    upref key tree reference =
        up-to-later run.before (reference_name words.prefix) (key_name words.prefix) (tree_name words.prefix ∷ reference_name words.prefix ∷ words.message ∷ words.table ∷ []) key
        (up-to-later run.before (reference_name words.prefix) (tree_name words.prefix) (reference_name words.prefix ∷ words.message ∷ words.table ∷ []) tree
        (up-to-here run.before (reference_name words.prefix) (words.message ∷ words.table ∷ []) reference))

    unheard : Is (key_name words.prefix) → (end : Ending) → (message_in run words.message).fails end → Found run told (Sign words) end
    unheard key end fails = upto-found run told (Sign words) message_limit words.message end (λ has. list-1 run.before (key_name words.prefix) key) fails

    sign-found : (net : NetRun) (end : Ending) (touched : List (List ℕ)) → SignEnds words run net end touched → Found run told (Sign words) end
    sign-found net _ _ (sign.not_new end fails same) = new-found run told (Sign words) words.out end (nothing run told (Sign words)) fails
    sign-found net _ _ (sign.not_signed end touched new ends) =
        session-found run told (Sign words) (sign.session_words words) (message_in run words.message) (Is words.message) (λ message is. ap is_some (is.1 told)) unheard
        (list-1 run.before (key_name words.prefix)) upkey uptree upref
        (λ key tree reference message. list-4 run.before (key_name words.prefix) (tree_name words.prefix) (reference_name words.prefix) words.message key tree reference message)
        sign-list net (Err end) touched end ends (ap err_of refl)
    sign-found net _ _ (sign.not_written signature end touched new ends cause) = unwritten-found run told (Sign words) [] words.out end cause
    sign-found net _ _ (sign.signed signature touched new ends written) =
        session-all run told (Sign words) (sign.session_words words) (message_in run words.message) (Is words.message) (λ message is. ap is_some (is.1 told)) unheard
        (list-1 run.before (key_name words.prefix)) upkey uptree upref
        (λ key tree reference message. list-4 run.before (key_name words.prefix) (tree_name words.prefix) (reference_name words.prefix) words.message key tree reference message)
        sign-list net (Ok signature) touched signature ends (ap ok_of refl)

  module _ (words : HssSignWords) where
    abbrev dealt : List (List ℕ)
    dealt = key_name words.prefix ∷ tree_name words.prefix ∷ reference_name words.prefix ∷ words.table ∷ []

    lower-found : (end : Ending) → FailsLower words run end → Found run told (HssSign words) end
    lower-found _ (lowers.no_key end fails) =
        grammar-found run told (HssSign words) _ words.low_key end (list-1 run.before words.low_key) (up-to-here run.before words.low_key (words.low_signature ∷ words.message ∷ dealt)) fails
    lower-found _ (lowers.no_signature public end has fails) =
        upto-found run told (HssSign words) _ words.low_signature end (λ is. list-1 run.before words.low_key (ap is_some (has.1 told))) fails
    lower-found _ (lowers.no_message public bytes end has its fails) =
        upto-found run told (HssSign words) _ words.message end (λ is. list-1 run.before words.low_key (ap is_some (has.1 told))) fails

    module _ (low : Is words.low_key) (signature : Is words.low_signature) (text : Is words.message) where
      behind : (name : List ℕ) → AreThere run.before (up_to name dealt) → UpTo run told (HssSign words) name
      behind name all = up-to-later run.before name words.low_key (words.low_signature ∷ words.message ∷ dealt) low
          (up-to-later run.before name words.low_signature (words.message ∷ dealt) signature (up-to-later run.before name words.message dealt text all))

      levels-upkey : Is (key_name words.prefix) → UpTo run told (HssSign words) (key_name words.prefix)
      levels-upkey key = behind (key_name words.prefix) (up-to-here run.before (key_name words.prefix) (tree_name words.prefix ∷ reference_name words.prefix ∷ words.table ∷ []) key)

      levels-uptree : Is (key_name words.prefix) → Is (tree_name words.prefix) → UpTo run told (HssSign words) (tree_name words.prefix)
      levels-uptree key tree = behind (tree_name words.prefix)
          (up-to-later run.before (tree_name words.prefix) (key_name words.prefix) (tree_name words.prefix ∷ reference_name words.prefix ∷ words.table ∷ []) key
          (up-to-here run.before (tree_name words.prefix) (reference_name words.prefix ∷ words.table ∷ []) tree))

      levels-upref : Is (key_name words.prefix) → Is (tree_name words.prefix) → Is (reference_name words.prefix) → UpTo run told (HssSign words) (reference_name words.prefix)
      levels-upref key tree reference = behind (reference_name words.prefix)
          (up-to-later run.before (reference_name words.prefix) (key_name words.prefix) (tree_name words.prefix ∷ reference_name words.prefix ∷ words.table ∷ []) key
          (up-to-later run.before (reference_name words.prefix) (tree_name words.prefix) (reference_name words.prefix ∷ words.table ∷ []) tree
          (up-to-here run.before (reference_name words.prefix) (words.table ∷ []) reference)))

      levels-table : Is (key_name words.prefix) → Is (tree_name words.prefix) → Is (reference_name words.prefix) → Is words.message → AreThere run.before (before_table (HssSign words))
      levels-table key tree reference same =
          let rest : List (List ℕ) = key_name words.prefix ∷ tree_name words.prefix ∷ reference_name words.prefix ∷ [] in
          All-cons Is words.low_key (words.low_signature ∷ words.message ∷ rest) low (All-cons Is words.low_signature (words.message ∷ rest) signature
          (list-4 run.before words.message (key_name words.prefix) (tree_name words.prefix) (reference_name words.prefix) text key tree reference))

      levels-list : Is (key_name words.prefix) → Is (tree_name words.prefix) → Is (reference_name words.prefix) → Is words.message → Is words.table
          → AreThere run.before (names_needed (HssSign words))
      levels-list key tree reference same table =
          All-cons Is words.low_key (words.low_signature ∷ words.message ∷ dealt) low (All-cons Is words.low_signature (words.message ∷ dealt) signature
          (All-cons Is words.message dealt text
          (list-4 run.before (key_name words.prefix) (tree_name words.prefix) (reference_name words.prefix) words.table key tree reference table)))

      levels-session : (bytes : List ℕ) (net : NetRun) (end : Ending) (touched : List (List ℕ)) → SessionEnds (levels.session_words words) run (message_of bytes) net (Err end) touched
          → Found run told (HssSign words) end
      levels-session bytes net end touched ends =
          session-found run told (HssSign words) (levels.session_words words) (message_of bytes) (Is words.message) (λ message is. text) (λ key one never. absurd never)
          (λ key. list-1 run.before words.low_key low) levels-upkey levels-uptree levels-upref levels-table levels-list net (Err end) touched end ends (ap err_of refl)

    levels-found : (net : NetRun) (end : Ending) (touched : List (List ℕ)) → HssSignEnds words run net end touched → Found run told (HssSign words) end
    levels-found net _ _ (levels.not_new end fails same) = new-found run told (HssSign words) fails.name end (nothing run told (HssSign words)) fails.cause
    levels-found net _ _ (levels.no_lower end new fails same) = lower-found end fails
    levels-found net _ _ (levels.not_accepted lower says new has verdict status same) =
        list-3 run.before words.low_key words.low_signature words.message (ap is_some (has.key.1 told)) (ap is_some (has.signature.1 told)) (ap is_some (has.message.1 told))
    levels-found net _ _ (levels.not_signed lower end touched ready ends) =
        levels-session (ap is_some (ready.read.key.1 told)) (ap is_some (ready.read.signature.1 told)) (ap is_some (ready.read.message.1 told))
        (public_bytes lower.key) net end touched ends
    levels-found net _ _ (levels.no_memory_to_join lower top made touched ready by) = nothing run told (HssSign words)
    levels-found net _ _ (levels.stopped lower top made touched written end ready by stops are) = unwritten-found run told (HssSign words) written stops.output.name end stops.cause
    levels-found net _ _ (levels.signed lower top made touched ready by are accepted) =
        let has = by.task.has in
        signature-found run told (HssSign words) by.signing words.table net
        (levels-list (ap is_some (ready.read.key.1 told)) (ap is_some (ready.read.signature.1 told)) (ap is_some (ready.read.message.1 told))
        (ap is_some (has.files_are.key.1 told)) (ap is_some (has.files_are.tree.read.1 told)) (ap is_some (has.reference_is.reads.is_read told)) (ap is_some (ready.read.message.1 told)))
        (Ok made) touched made by.ends (ap ok_of refl)

  module _ (words : SignWords) where
    abbrev asked : SessionWords
    asked = sign.session_words words

    abbrev behind_reference : List (List ℕ)
    behind_reference = commits_name words.prefix ∷ words.message ∷ words.table ∷ []

    blame-list : Is (key_name words.prefix) → Is (tree_name words.prefix) → Is (reference_name words.prefix) → Is (commits_name words.prefix) → Is words.message → Is words.table
        → AreThere run.before (names_needed (Blame words))
    blame-list key tree reference commitments message table =
        All-cons Is (key_name words.prefix) (tree_name words.prefix ∷ reference_name words.prefix ∷ behind_reference) key
        (All-cons Is (tree_name words.prefix) (reference_name words.prefix ∷ behind_reference) tree
        (list-4 run.before (reference_name words.prefix) (commits_name words.prefix) words.message words.table reference commitments message table))

    blame-upkey : Is (key_name words.prefix) → UpTo run told (Blame words) (key_name words.prefix)
    blame-upkey = up-to-here run.before (key_name words.prefix) (tree_name words.prefix ∷ reference_name words.prefix ∷ behind_reference)

    blame-uptree : Is (key_name words.prefix) → Is (tree_name words.prefix) → UpTo run told (Blame words) (tree_name words.prefix)
    blame-uptree key tree = up-to-later run.before (tree_name words.prefix) (key_name words.prefix) (tree_name words.prefix ∷ reference_name words.prefix ∷ behind_reference) key
        (up-to-here run.before (tree_name words.prefix) (reference_name words.prefix ∷ behind_reference) tree)

    blame-upref : Is (key_name words.prefix) → Is (tree_name words.prefix) → Is (reference_name words.prefix) → UpTo run told (Blame words) (reference_name words.prefix)
    blame-upref key tree reference =
        up-to-later run.before (reference_name words.prefix) (key_name words.prefix) (tree_name words.prefix ∷ reference_name words.prefix ∷ behind_reference) key
        (up-to-later run.before (reference_name words.prefix) (tree_name words.prefix) (reference_name words.prefix ∷ behind_reference) tree
        (up-to-here run.before (reference_name words.prefix) behind_reference reference))

    blame-upcommits : Is (key_name words.prefix) → Is (tree_name words.prefix) → Is (reference_name words.prefix) → Is (commits_name words.prefix)
        → UpTo run told (Blame words) (commits_name words.prefix)
    blame-upcommits key tree reference commitments =
        up-to-later run.before (commits_name words.prefix) (key_name words.prefix) (tree_name words.prefix ∷ reference_name words.prefix ∷ behind_reference) key
        (up-to-later run.before (commits_name words.prefix) (tree_name words.prefix) (reference_name words.prefix ∷ behind_reference) tree
        (up-to-later run.before (commits_name words.prefix) (reference_name words.prefix) behind_reference reference
        (up-to-here run.before (commits_name words.prefix) (words.message ∷ words.table ∷ []) commitments)))

    commits-found : (header : RefHeader) (end : Ending) → (Is (commits_name words.prefix) → UpTo run told (Blame words) (commits_name words.prefix))
        → FailsCommits run (commits_name words.prefix) header end → Found run told (Blame words) end
    commits-found header _ upto (commits.no_view read) = nothing run told (Blame words)
    commits-found header _ upto (commits.not_in_grammar f is) = upto (ap is_some (is.is_read told))
    commits-found header _ upto (commits.device fails) = nothing run told (Blame words)
    commits-found header _ upto commits.no_memory = nothing run told (Blame words)

    begin-found : (end : Ending) → FailsToBegin asked run (message_in run words.message) end → Found run told (Blame words) end
    begin-found _ (blame.no_key_files end fails) =
        keys-found run told (Blame words) words.prefix end (list-1 run.before (key_name words.prefix)) blame-upkey blame-uptree fails
    begin-found _ (blame.no_reference keys end are fails) =
        reference-found run told (Blame words) (reference_name words.prefix) end (blame-upref (ap is_some (are.key.1 told)) (ap is_some (are.tree.read.1 told))) fails
    begin-found _ (blame.no_commits keys header end has fails) =
        commits-found header end (blame-upcommits (ap is_some (has.files_are.key.1 told)) (ap is_some (has.files_are.tree.read.1 told)) (ap is_some (has.reference_is.reads.is_read told))) fails
    begin-found _ (blame.no_task keys header end has viewed fails) =
        let key : Is (key_name words.prefix) = ap is_some (has.files_are.key.1 told) in
        let tree : Is (tree_name words.prefix) = ap is_some (has.files_are.tree.read.1 told) in
        let reference : Is (reference_name words.prefix) = ap is_some (has.reference_is.reads.is_read told) in
        let commitments : Is (commits_name words.prefix) = ap is_some (viewed.reads.is_read told) in
        lacks-found run told (Blame words) asked (message_in run words.message) keys header end
        (λ one lacks. upto-found run told (Blame words) message_limit words.message one (λ is. list-1 run.before (key_name words.prefix) key) lacks)
        (blame-uptree key tree) (blame-upref key tree reference)
        (λ message is. All-cons Is (key_name words.prefix) (tree_name words.prefix ∷ reference_name words.prefix ∷ commits_name words.prefix ∷ words.message ∷ []) key
        (list-4 run.before (tree_name words.prefix) (reference_name words.prefix) (commits_name words.prefix) words.message tree reference commitments (ap is_some (is.1 told))))
        fails

    told-found : (reads : CellsRead) (view : Bool) (text : List ℕ) (session : Option State) (answer as_told : Result Signature Ending) (end : Ending)
        → TellsEnd reads view text session answer as_told → ((one : Ending) → answer ≡ Err one → Found run told (Blame words) one)
        → ((last : State) → session ≡ Some last → AreThere run.before (names_needed (Blame words))) → as_told ≡ Err end → Found run told (Blame words) end
    told-found reads view text session _ _ end (as_signed signature) ends lasts is = absurd (cc)
    told-found reads view text session _ _ end (as_ended one other) ends lasts is = ends end is
    told-found reads view text session _ _ end (by_names one given last masks at names) ends lasts is = whole run.before (Blame words) (lasts last at) end

    told-signed : (reads : CellsRead) (view : Bool) (text : List ℕ) (session : Option State) (answer as_told : Result Signature Ending) (signature : Signature)
        → TellsEnd reads view text session answer as_told → as_told ≡ Ok signature → answer ≡ Ok signature
    told-signed reads view text session _ _ signature (as_signed same) is = is
    told-signed reads view text session _ _ signature (as_ended one other) is = absurd (cc)
    told-signed reads view text session _ _ signature (by_names one given last masks at names) is = absurd (cc)

    blame-all : (s : Signing) (reads : CellsRead) (view : Bool) (task : IsTask asked run (message_in run words.message) s) → ReadsCommits asked run task.header reads view
        → Is words.table → AreThere run.before (names_needed (Blame words))
    blame-all s reads view task commits-read table =
        blame-list (ap is_some (task.has.files_are.key.1 told)) (ap is_some (task.has.files_are.tree.read.1 told)) (ap is_some (task.has.reference_is.reads.is_read told))
        (ap is_some (commits-read.leaves.is_read told)) (ap is_some (task.goes.message_is.1 told)) table

    naming-found : (net : NetRun) (answer : Result Signature Ending) (touched : List (List ℕ)) (end : Ending) → NamingEnds asked run (message_in run words.message) net answer touched
        → answer ≡ Err end → Found run told (Blame words) end
    naming-found net _ _ end (blame.not_begun one fails same) is =
        let e : one ≡ end = cc in subst (Found run told (Blame words)) e (begin-found one fails)
    naming-found net _ _ end (blame.ended s reads view answer given touched task ends commits-read tells) is =
        let all = blame-all s reads view task commits-read in
        told-found reads view s.message _ answer given end tells
        (λ one of. table-found run told (Blame words) s words.table net all answer touched one ends of)
        (λ last at. last-found run told (Blame words) s words.table net all answer touched last ends at) is

    naming-signed : (net : NetRun) (answer : Result Signature Ending) (touched : List (List ℕ)) (signature : Signature) → NamingEnds asked run (message_in run words.message) net answer touched
        → answer ≡ Ok signature → AreThere run.before (names_needed (Blame words))
    naming-signed net _ _ signature (blame.not_begun one fails same) is = absurd (cc)
    naming-signed net _ _ signature (blame.ended s reads view answer given touched task ends commits-read tells) is =
        signature-found run told (Blame words) s words.table net (blame-all s reads view task commits-read) answer touched signature ends
        (told-signed reads view s.message _ answer given signature tells is)

    blame-found : (net : NetRun) (end : Ending) (touched : List (List ℕ)) → BlameEnds words run net end touched → Found run told (Blame words) end
    blame-found net _ _ (blame.not_new end fails same) = new-found run told (Blame words) words.out end (nothing run told (Blame words)) fails
    blame-found net _ _ (blame.not_signed end touched new ends) = naming-found net (Err end) touched end ends (ap err_of refl)
    blame-found net _ _ (blame.not_written signature end touched new ends cause) = unwritten-found run told (Blame words) [] words.out end cause
    blame-found net _ _ (blame.signed signature touched new ends written) = naming-signed net (Ok signature) touched signature ends (ap ok_of refl)

  -- ---- commands that serve
  module _ (words : AggregateWords) where
    clients-upkey : Is (key_name words.prefix) → UpTo run told (Aggregate words) (key_name words.prefix)
    clients-upkey = up-to-here run.before (key_name words.prefix) (tree_name words.prefix ∷ reference_name words.prefix ∷ words.table ∷ [])

    clients-uptree : Is (key_name words.prefix) → Is (tree_name words.prefix) → UpTo run told (Aggregate words) (tree_name words.prefix)
    clients-uptree key tree = up-to-later run.before (tree_name words.prefix) (key_name words.prefix) (tree_name words.prefix ∷ reference_name words.prefix ∷ words.table ∷ []) key
        (up-to-here run.before (tree_name words.prefix) (reference_name words.prefix ∷ words.table ∷ []) tree)

    clients-upref : Is (key_name words.prefix) → Is (tree_name words.prefix) → Is (reference_name words.prefix) → UpTo run told (Aggregate words) (reference_name words.prefix)
    clients-upref key tree reference =
        up-to-later run.before (reference_name words.prefix) (key_name words.prefix) (tree_name words.prefix ∷ reference_name words.prefix ∷ words.table ∷ []) key
        (up-to-later run.before (reference_name words.prefix) (tree_name words.prefix) (reference_name words.prefix ∷ words.table ∷ []) tree
        (up-to-here run.before (reference_name words.prefix) (words.table ∷ []) reference))

    references-found : (keys : KeyFiles) (end : Ending) → Is (key_name words.prefix) → Is (tree_name words.prefix) → FailsReferences run words.prefix keys end
        → Found run told (Aggregate words) end
    references-found keys _ key tree (views.not_viewed end fails) =
        reference-found run told (Aggregate words) (reference_name words.prefix) end (clients-upref key tree) fails
    references-found keys _ key tree (views.other_key header end viewed other) =
        other-found run told (Aggregate words) words.prefix keys header end (clients-uptree key tree) (clients-upref key tree (ap is_some (viewed.reads.is_read told))) other
    references-found keys _ key tree (views.not_one_file one other differ first second) = clients-upref key tree (ap is_some (first.is_read told))

    desk-found : (end : Ending) → FailsDesk words run end → Found run told (Aggregate words) end
    desk-found _ desks.no_memory = nothing run told (Aggregate words)
    desk-found _ (desks.no_key_files end fails) =
        keys-found run told (Aggregate words) words.prefix end (list-1 run.before (key_name words.prefix)) clients-upkey clients-uptree fails
    desk-found _ (desks.no_references keys end are fails) = references-found keys end (ap is_some (are.key.1 told)) (ap is_some (are.tree.read.1 told)) fails

    clients-all : (header : RefHeader) (desk : DeskState) → IsDesk words run header desk → Is words.table → AreThere run.before (names_needed (Aggregate words))
    clients-all header desk is table =
        list-4 run.before (key_name words.prefix) (tree_name words.prefix) (reference_name words.prefix) words.table
        (ap is_some (is.files_are.key.1 told)) (ap is_some (is.files_are.tree.read.1 told)) (ap is_some (is.reference_is.reads.is_read told)) table

    clients-found : (net : NetRun) (header : RefHeader) (desk : DeskState) (end : Ending) (touched : List (List ℕ)) → IsDesk words run header desk
        → aggregate.TableEnds words run net desk (ServedTable words run net header desk) end touched → Found run told (Aggregate words) end
    clients-found net header desk _ _ is (aggregate.no_memory touched heard stays) = nothing run told (Aggregate words)
    clients-found net header desk _ _ is (aggregate.no_table read heard) = nothing run told (Aggregate words)
    clients-found net header desk _ _ is (aggregate.not_loaded end fails heard stays) =
        load-found run told (Aggregate words) _ _ words.table end (clients-all header desk is) fails
    clients-found net header desk _ _ is (aggregate.no_ports entries reads heard rose never stays) = clients-all header desk is (ap is_some (reads.is_read told))
    clients-found net header desk _ _ is (aggregate.served end serves) =
        whole run.before (Aggregate words) (clients-all header desk is (ap is_some (serves.serves.table_is.is_read told))) end

    aggregate-found : (net : NetRun) (end : Ending) (touched : List (List ℕ)) → AggregateEnds words run net end touched → Found run told (Aggregate words) end
    aggregate-found net _ _ (aggregate.no_desk end fails same) = desk-found end fails
    aggregate-found net _ _ (aggregate.ended header desk end touched is ends) = clients-found net header desk end touched is ends

  book-found : (share : Share) (book : Option (List ℕ)) (ids : Option (List (List ℕ))) → HasBook run share book ids → AreThere run.before (book_of book)
  book-found share _ _ journals.no_book = All-nil Is
  book-found share _ _ (journals.book name ids is) = list-1 run.before name (ap is_some (is.is_read told))

module _ (words : TrusteeWords) (before after : Outside) (told : IsTrue before.store.told) where
  abbrev run_of : StoreRun
  run_of = store_of before after

  trustee-all : (share : Share) (ids : Option (List (List ℕ))) → IsThere before.store words.share → IsThere before.store words.journal → HasBook run_of share words.book ids
      → AreThere before.store (names_needed (Trustee words))
  trustee-all share ids one two has =
      All-cons (IsThere before.store) words.share (words.journal ∷ book_of words.book) one
      (All-cons (IsThere before.store) words.journal (book_of words.book) two (book-found run_of told share words.book ids has))

  trustee-found : (end : Ending) (touched : List (List ℕ)) → TrusteeEnds words before after end touched → Found run_of told (Trustee words) end
  trustee-found _ _ (trustee.no_memory touched heard stays) = nothing run_of told (Trustee words)
  trustee-found _ _ (trustee.no_share end fails heard) =
      grammar-found run_of told (Trustee words) _ words.share end (list-1 before.store words.share) (up-to-here before.store words.share (words.journal ∷ book_of words.book)) fails
  trustee-found _ _ (trustee.no_journal share is read heard) = nothing run_of told (Trustee words)
  trustee-found _ _ (trustee.journal_not_loaded share end is fails stays heard) =
      load-found run_of told (Trustee words) _ _ words.journal end (list-2 before.store words.share words.journal (ap is_some (is.read.1 told))) fails
  trustee-found _ _ (trustee.no_book share entries name is lost heard stays) = nothing run_of told (Trustee words)
  trustee-found _ _ (trustee.book_not_loaded share entries name end is named fails heard stays still) =
      load-found run_of told (Trustee words) _ _ name end
      (λ has. list-2 before.store words.share words.journal (ap is_some (is.share_is.read.1 told)) (ap is_some (is.journal_is.is_read told))) fails
  trustee-found _ _ (trustee.no_ports share entries ids touched is has heard rose never stays) =
      trustee-all share ids (ap is_some (is.share_is.read.1 told)) (ap is_some (is.journal_is.is_read told)) has
  trustee-found _ _ (trustee.served end books served stays) =
      let is = served.trustee_is in
      whole before.store (Trustee words) (trustee-all served.share served.ids (ap is_some (is.share_is.read.1 told)) (ap is_some (is.journal_is.is_read told)) served.book) end

-- ---- any command
module _ (before after : Outside) (told : IsTrue before.store.told) where
  abbrev store_run : StoreRun
  store_run = from_to before.store after.store

  pub command-found : (row : Row) (end : Ending) → CommandRun row before after end → AreThere before.store (names_found row end)
  command-found (Verify key message signature) end ran = verify-found store_run told key message signature end ran.run.written ran.run.cause
  command-found (Rehearse entropy message key_out signature_out) end ran = rehearse-found store_run told entropy message key_out signature_out end ran.run.written ran.run.cause
  command-found (Deal words) end ran = run-found store_run told words words.large end ran.run
  command-found (Enrol file journal) end ran = enrol-found store_run told file journal end ran.run.touched ran.run.cause
  command-found (Migrate share journal new) end ran = migrate-found store_run told share journal new end ran.run.touched ran.run.cause
  command-found (Approve share book message) end ran = approve-found store_run told share book message end ran.run.touched ran.run.cause
  command-found (Trustee words) end ran = trustee-found words before after told end ran.touched ran.ends
  command-found (Sign words) end ran = sign-found store_run told words _ end ran.touched ran.ends
  command-found (Blame words) end ran = blame-found store_run told words _ end ran.touched ran.ends
  command-found (HssCheck key message signature) end ran = check-found store_run told key message signature end ran.run.written ran.run.cause
  command-found (HssSign words) end ran = levels-found store_run told words _ end ran.touched ran.ends
  command-found (Aggregate words) end ran = aggregate-found store_run told words _ end ran.touched ran.ends
  command-found (Drill number sessions events) end ran = whole before.store (Drill number sessions events) (All-nil (IsThere before.store)) end
  command-found (Show file leaves) end ran = show-found store_run told file leaves end ran.run.cause.0
