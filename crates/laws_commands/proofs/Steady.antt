-- How a call ends over objects that do not fail except for their arguments.
use Rattle.std.proofs.Common.{◌≡◌, ◌⊎◌, ◌≤◌, Bool, true, false, ℕ, suc, List, [], ◌∷◌, All, Contains, IsSome, Option, None, Some, IsTrue, length, inl, inr, refl, sym, ◌∙◌, subst, arith}
use Rattle.std.proofs.lemmas.List.Elements.{All-nil}
use Rattle.dealer.specs.declared.faults.DealFault.{DealFault}
use Rattle.reference_value.specs.Dealing.{Dealing}
use Rattle.dealer.specs.declared.faults.DealFault.TheVariants.{BadEntropy, NoMemory, SameKeys, TooHigh, TooWide}
use Rattle.hss_levels.specs.Verdict.{IsHssVerdict}
use Rattle.hss_levels.specs.declared.hss_key.HssKey.{HssKey}
use Rattle.hss_levels.specs.declared.verification.HssVerdict.TheVariants as levels
use Rattle.lms_bytes.specs.declared.public_key.PublicKey.{PublicKey}
use Rattle.lms_verify.specs.Verdict.{IsVerdict}
use Rattle.lms_verify.specs.declared.verification.Verdict.TheVariants.{Accepted, Malformed, OtherRoot}
use Rattle.share_files.specs.declared.share.Share.{Share}
use Rattle.slot_file.specs.declared.header.Header.{Header}
use Rattle.stream_io.specs.Net.{NetState}
use Rattle.tool_base.specs.Ending as ending
use Rattle.tool_base.specs.Ending.{Ending, line_of, status_of}
use Rattle.tool_base.specs.Grammars.{FailsGrammar}
use Rattle.tool_base.specs.Outputs.{IsNotNew, IsNotWritten, Output}
use Rattle.tool_base.specs.Reads.{FailsUpTo}
use Rattle.tool_keys.specs.Undealt.{end_of_fault}
use Rattle.tool_base.specs.declared.unsigned.Unsigned.TheVariants as unsigned
use Rattle.tool_base.specs.World.{Outside, OutputRun, StoreRun, World, from_to}
use Rattle.tool_blame.proofs.Steady.{blame-steady}
use Rattle.tool_blame.specs.Commits.{commits_name}
use Rattle.tool_aggregate.proofs.Steady.{aggregate-steady}
use Rattle.tool_desk.specs.Files.{key_name, reference_name, tree_name}
use Rattle.tool_base.specs.Disks.{DeviceFails}
use Rattle.tool_base.specs.Loads.{FailsToLoad}
use Rattle.tool_journals.specs.Adding.{AddEnds, FileRun}
use Rattle.tool_journals.specs.Adding as adding
use Rattle.tool_journals.specs.Approve.{ApproveEnds, IsNotOpened}
use Rattle.tool_journals.specs.Approve as approve
use Rattle.tool_journals.specs.Blanks.{IsNotMade}
use Rattle.tool_journals.specs.Blanks as blanks
use Rattle.tool_base.specs.Contents.{FailsToFind}
use Rattle.tool_base.specs.Contents as contents
use Rattle.tool_journals.specs.Enrol.{EnrolEnds, FailsToEnrol}
use Rattle.tool_journals.specs.Enrol as enrol
use Rattle.tool_journals.specs.Migrate.{CopyEnds, MigrateEnds}
use Rattle.tool_journals.specs.Migrate as migrate
use Rattle.tool_journals.specs.Taking.{IsNotTaken, no_memory_to_take, take_failed}
use Rattle.tool_sign.proofs.HssSteady.{levels-steady}
use Rattle.tool_keys.specs.Deal.{DealEnds, IsNotDealt}
use Rattle.tool_keys.specs.Large as large
use Rattle.tool_keys.specs.Large.{LargeEnds, LargeRest}
use Rattle.tool_keys.specs.Runs.{DealRunBy}
use Rattle.tool_keys.specs.Deal as deal
use Rattle.tool_run.specs.Drill.{DrillEnds, drilled, no_memory}
use Rattle.tool_keys.specs.HssCheck.{HssCheckEnds}
use Rattle.tool_keys.specs.Rehearse.{IsNotRehearsed, RehearseEnds}
use Rattle.tool_keys.specs.Rehearse as rehearse
use Rattle.laws_commands.proofs.Finding.{command-found}
use Rattle.laws_commands.proofs.Offering.{command-offered}
use Rattle.laws_commands.proofs.Losing.{command-loses}
use Rattle.laws_commands.proofs.Serving.{Laws, command-serves}
use Rattle.laws_commands.specs.Serving.{ServesAll}
use Rattle.tool_run.specs.Worlds.{IsSteadyWorld}
use Rattle.laws_commands.specs.Steady.{HasCauses, IsUnoffered, Lacks, book_of, names_found, names_read, no_file, one_file, place_of}
use Rattle.tool_run.specs.ToolRun.{CommandRun, IsAnswered, IsPrinted, ToolRun, WordsRun}
use Rattle.tool_keys.specs.Verify.{VerifyEnds}
use Rattle.tool_keys.specs.Steps.{Tells, TextThen, Writes}
use Rattle.tool_keys.specs.Steps as steps
use Rattle.tool_show.specs.Show.{IsNotShown, ShowEnds}
use Rattle.tool_show.specs.Show as show
use Rattle.tool_trustee.specs.Trustee.{TrusteeEnds, store_of}
use Rattle.tool_trustee.specs.Trustee as trustee
use Rattle.tool_sign.proofs.Steady.{EndsSteady, grammar-steady, lacking, load-steady, new-steady, plain, sign-steady, unheard, unwritten-steady, upto-steady}
use Rattle.tool_words.specs.Words.{Row, Verify, Rehearse, Deal, Enrol, Migrate, Approve, Trustee, Sign, Aggregate, Drill, HssCheck, HssSign, Blame, Show, DealWords, TrusteeWords, command_of}

-- a name by its place in a list of names
first : (x : List ℕ) (xs : List (List ℕ)) → Contains (x ∷ xs) x
first x xs = (0, omega arith, refl)

later : (x y : List ℕ) (xs : List (List ℕ)) → Contains xs x → Contains (y ∷ xs) x
later x y xs has = let within = has.1 in (suc has.0, omega (arith, within), has.2)

second : (a x : List ℕ) (xs : List (List ℕ)) → Contains (a ∷ x ∷ xs) x
second a x xs = later x a (x ∷ xs) (first x xs)

third : (a b x : List ℕ) (xs : List (List ℕ)) → Contains (a ∷ b ∷ x ∷ xs) x
third a b x xs = later x a (b ∷ x ∷ xs) (second b x xs)

fourth : (a b c x : List ℕ) (xs : List (List ℕ)) → Contains (a ∷ b ∷ c ∷ x ∷ xs) x
fourth a b c x xs = later x a (b ∷ c ∷ x ∷ xs) (third b c x xs)

fifth : (a b c d x : List ℕ) (xs : List (List ℕ)) → Contains (a ∷ b ∷ c ∷ d ∷ x ∷ xs) x
fifth a b c d x xs = later x a (b ∷ c ∷ d ∷ x ∷ xs) (fourth b c d x xs)

sixth : (a b c d e x : List ℕ) (xs : List (List ℕ)) → Contains (a ∷ b ∷ c ∷ d ∷ e ∷ x ∷ xs) x
sixth a b c d e x xs = later x a (b ∷ c ∷ d ∷ e ∷ x ∷ xs) (fifth b c d e x xs)

seventh : (a b c d e f x : List ℕ) (xs : List (List ℕ)) → Contains (a ∷ b ∷ c ∷ d ∷ e ∷ f ∷ x ∷ xs) x
seventh a b c d e f x xs = later x a (b ∷ c ∷ d ∷ e ∷ f ∷ x ∷ xs) (sixth b c d e f x xs)

module _ (store : StoreRun) (net : NetState) (told : IsTrue store.before.told) (steady : IsTrue store.before.steady) (row : Row) where
  abbrev pub Ends : Ending → Type 0
  Ends = EndsSteady (Lacks store.before row) (IsUnoffered net row)

  abbrev Named : List ℕ → Type 0
  Named name = Contains (names_read row) name

  lack : (name : List ℕ) → Named name → store.before.file name ≡ None → Lacks store.before row
  lack name named none = no_file name named none

  other : (end : Ending) → (end ≡ ending.StoreFailed → ⊥) → (end ≡ ending.DeviceFailed → ⊥) → (end ≡ ending.NetFailed → ⊥) → Ends end
  other = plain (Lacks store.before row) (IsUnoffered net row)

  lacks : (name : List ℕ) → Named name → store.before.file name ≡ None → Ends ending.StoreFailed
  lacks name named none = lacking (Lacks store.before row) (IsUnoffered net row) (lack name named none)

  fault-ends : (f : DealFault) → Ends (end_of_fault f)
  fault-ends (TooHigh h) = other _ (λ is. cc) (λ is. cc) (λ is. cc)
  fault-ends TooWide = other _ (λ is. cc) (λ is. cc) (λ is. cc)
  fault-ends (BadEntropy got want) = other _ (λ is. cc) (λ is. cc) (λ is. cc)
  fault-ends (SameKeys t u) = other _ (λ is. cc) (λ is. cc) (λ is. cc)
  fault-ends NoMemory = other _ (λ is. cc) (λ is. cc) (λ is. cc)

  upto-ends : (limit : ℕ) (name : List ℕ) (end : Ending) → Named name → FailsUpTo limit store name end → Ends end
  upto-ends limit name end named fails = upto-steady (Lacks store.before row) (IsUnoffered net row) store told steady limit name end (lack name named) fails

  grammar-ends : (f : List ℕ → Option ℕ) (name : List ℕ) (end : Ending) → Named name → FailsGrammar f store name end → Ends end
  grammar-ends f name end named fails = grammar-steady (Lacks store.before row) (IsUnoffered net row) store told steady f name end (lack name named) fails

  new-ends : (name : List ℕ) (end : Ending) → IsNotNew store name end → Ends end
  new-ends name end fails = new-steady (Lacks store.before row) (IsUnoffered net row) store told steady name end fails

  unwritten-ends : (written : List Output) (name : List ℕ) (end : Ending) → IsNotWritten store written name end → Ends end
  unwritten-ends written name end fails = unwritten-steady (Lacks store.before row) (IsUnoffered net row) store told steady written name end fails

  load-ends : (header : Header) (count : ℕ) (name : List ℕ) (end : Ending) → FailsToLoad header count store name end → Ends end
  load-ends header count name end fails = load-steady (Lacks store.before row) (IsUnoffered net row) store told steady header count name end fails

  no_device : DeviceFails store → ⊥
  no_device fails = fails.unsteady told steady

  unrehearsed-ends : (bytes : List ℕ) (end : Ending) → IsNotRehearsed bytes end → Ends end
  unrehearsed-ends bytes _ (rehearse.faulty fault has) = fault-ends fault
  unrehearsed-ends bytes _ rehearse.no_memory = other _ (λ is. cc) (λ is. cc) (λ is. cc)

  -- the outputs are written, and the last end is this
  writes-ends : (outputs written : List Output) (done end : Ending) → Ends done → Writes store outputs done end written → Ends end
  writes-ends outputs _ done _ last (steps.stopped end written stops) = unwritten-ends written stops.output.name end stops.cause
  writes-ends outputs _ done _ last steps.all_written = last

  rehearse-ends : (entropy message key_out signature_out : List ℕ) (end : Ending) (written : List Output) → Named entropy → Named message
      → RehearseEnds store entropy message key_out signature_out end written → Ends end
  rehearse-ends entropy message key_out signature_out _ _ e m (steps.not_new end first) = new-ends first.name end first.cause
  rehearse-ends entropy message key_out signature_out _ _ e m (steps.all_new _ _ new (steps.refused end fails)) = upto-ends _ entropy end e fails
  rehearse-ends entropy message key_out signature_out _ _ e m (steps.all_new _ _ new (steps.given bytes _ _ read (steps.refused end fails))) = upto-ends _ message end m fails
  rehearse-ends entropy message key_out signature_out _ _ e m (steps.all_new _ _ new (steps.given bytes _ _ read (steps.given text _ _ had (steps.refused end fails)))) = unrehearsed-ends bytes end fails
  rehearse-ends entropy message key_out signature_out _ _ e m (steps.all_new _ _ new (steps.given bytes _ _ read (steps.given text _ _ had (steps.given outputs end written made writes)))) =
      writes-ends outputs written ending.Rehearsed end (other _ (λ is. cc) (λ is. cc) (λ is. cc)) writes

  undealt-ends : (words : DealWords) (entropy : List ℕ) (end : Ending) → IsNotDealt words entropy end → Ends end
  undealt-ends words entropy _ (deal.no_set fault is) = other _ (λ is. cc) (λ is. cc) (λ is. cc)
  undealt-ends words entropy _ (deal.no_threshold params set never) = other _ (λ is. cc) (λ is. cc) (λ is. cc)
  undealt-ends words entropy _ (deal.too_many_coalitions params set threshold many) = other _ (λ is. cc) (λ is. cc) (λ is. cc)
  undealt-ends words entropy _ (deal.faulty params fault set plan has) = fault-ends fault
  undealt-ends words entropy _ (deal.too_large params commit set plan dealable large) = other _ (λ is. cc) (λ is. cc) (λ is. cc)
  undealt-ends words entropy _ deal.no_memory = other _ (λ is. cc) (λ is. cc) (λ is. cc)

  deal-ends : (words : DealWords) (end : Ending) (written : List Output) → Named words.entropy → DealEnds store words end written → Ends end
  deal-ends words _ _ e (steps.refused end fails) = upto-ends _ words.entropy end e fails
  deal-ends words _ _ e (steps.given entropy _ _ read (steps.refused end fails)) = undealt-ends words entropy end fails
  deal-ends words _ _ e (steps.given entropy _ _ read (steps.given dealt _ _ is (steps.not_new end first))) = new-ends first.name end first.cause
  deal-ends words _ _ e (steps.given entropy _ _ read (steps.given dealt _ _ is (steps.all_new end written new writes))) =
      writes-ends dealt.0 written dealt.1 end (subst Ends (sym is.done_is) (other _ (λ is. cc) (λ is. cc) (λ is. cc))) writes

  rest-ends : (words : DealWords) (d : Dealing) (done end : Ending) (written : List Output) → Ends done → LargeRest store words d done end written → Ends end
  rest-ends words d done _ _ last (large.stopped fails is) = absurd (no_device fails)
  rest-ends words d done _ _ last (large.no_memory is) = other _ (λ is. cc) (λ is. cc) (λ is. cc)
  rest-ends words d done _ _ last (large.not_written end written stop is) = unwritten-ends written stop.output.name end stop.cause
  rest-ends words d done _ _ last (large.not_opened fails is) = absurd (no_device fails)
  rest-ends words d done _ _ last (large.dealt is) = last

  large-ends : (words : DealWords) (end : Ending) (written : List Output) (touched : List (List ℕ)) → Named words.entropy → LargeEnds store words end written touched → Ends end
  large-ends words _ _ _ e (large.not_read end fails) = upto-ends _ words.entropy end e fails
  large-ends words _ _ _ e (large.not_dealt entropy end read fails) = undealt-ends words entropy end fails
  large-ends words _ _ _ e (large.not_new params entropy end read set plan dealable first) = new-ends first.name end first.cause
  large-ends words _ _ _ e (large.not_made d done end asked fails) = unwritten-ends [] _ end fails
  large-ends words _ _ _ e (large.begun d done end written asked rest) =
      rest-ends words d done end written (subst Ends (sym asked.done_is) (other _ (λ is. cc) (λ is. cc) (λ is. cc))) rest

  run-ends : (words : DealWords) (large : Bool) (end : Ending) → Named words.entropy → DealRunBy large words store end → Ends end
  run-ends words true end e run = large-ends words end run.written run.touched e run.cause
  run-ends words false end e run = deal-ends words end run.written e run.cause

  unmade-ends : (name : List ℕ) (header : Header) (count : ℕ) (end : Ending) (touched : List (List ℕ)) → IsNotMade store name header count end touched → Ends end
  unmade-ends name header count _ _ (blanks.not_new end fails) = new-ends name end fails
  unmade-ends name header count _ _ (blanks.device new fails half) = absurd (no_device fails)
  unmade-ends name header count _ _ (blanks.not_empty new untold) = other _ (λ is. cc) (λ is. cc) (λ is. cc)

  find-ends : (name : List ℕ) (end : Ending) → Named name → FailsToFind store name end → Ends end
  find-ends name _ named (contents.failed r) = lacks name named (r.1 told steady)
  find-ends name _ named (contents.device fails) = absurd (no_device fails)
  find-ends name _ named contents.no_memory = other _ (λ is. cc) (λ is. cc) (λ is. cc)

  unenrolled-ends : (file : List ℕ) (end : Ending) → Named file → FailsToEnrol store file end → Ends end
  unenrolled-ends file _ f (enrol.not_found end fails) = find-ends file end f fails
  unenrolled-ends file _ f (enrol.not_in_grammar bytes fault read is) = other _ (λ is. cc) (λ is. cc) (λ is. cc)
  unenrolled-ends file _ f (enrol.too_long got read reads) = other _ (λ is. cc) (λ is. cc) (λ is. cc)
  unenrolled-ends file _ f (enrol.no_reference got fault read reads) = other _ (λ is. cc) (λ is. cc) (λ is. cc)

  enrol-ends : (file journal : List ℕ) (end : Ending) (touched : List (List ℕ)) → Named file → EnrolEnds store file journal end touched → Ends end
  enrol-ends file journal _ _ f (enrol.not_read end fails) = unenrolled-ends file end f fails
  enrol-ends file journal _ _ f (enrol.not_made header count end touched is fails) = unmade-ends journal header count end touched fails
  enrol-ends file journal _ _ f (enrol.enrolled header count is made) = other _ (λ is. cc) (λ is. cc) (λ is. cc)

  untaken-ends : (name : List ℕ) (end : Ending) → Named name → IsNotTaken store name end → Ends end
  untaken-ends name _ named (take_failed rose absent) = lacks name named (absent told steady)
  untaken-ends name _ named no_memory_to_take = other _ (λ is. cc) (λ is. cc) (λ is. cc)

  copy-ends : (share : Share) (new file : List ℕ) (end : Ending) (touched : List (List ℕ)) → CopyEnds (DeviceFails store) store share new file end touched → Ends end
  copy-ends share new file _ _ (migrate.not_read fails) = absurd (no_device fails)
  copy-ends share new file _ _ (migrate.not_opened fault why) = other _ (λ is. cc) (λ is. cc) (λ is. cc)
  copy-ends share new file _ _ (migrate.not_made end opens fails) = unwritten-ends [] new end fails
  copy-ends share new file _ _ (migrate.not_empty untold) = other _ (λ is. cc) (λ is. cc) (λ is. cc)
  copy-ends share new file _ _ (migrate.damaged slot a b opens first shut) = other _ (λ is. cc) (λ is. cc) (λ is. cc)
  copy-ends share new file _ _ (migrate.device opens fails half) = absurd (no_device fails)
  copy-ends share new file _ _ (migrate.migrated taken opens many copied) = other _ (λ is. cc) (λ is. cc) (λ is. cc)

  migrate-ends : (share journal new : List ℕ) (end : Ending) (touched : List (List ℕ)) → Named share → Named journal → MigrateEnds store share journal new end touched → Ends end
  migrate-ends share journal new _ _ s j (migrate.no_share end fails) = grammar-ends _ share end s fails
  migrate-ends share journal new _ _ s j (migrate.not_new found end read fails) = new-ends new end fails
  migrate-ends share journal new _ _ s j (migrate.not_taken found end read is_new fails) = untaken-ends journal end j fails
  migrate-ends share journal new _ _ s j (migrate.taken found file end touched read is_new still ends) = copy-ends found new file end touched ends

  unopened-ends : (book : List ℕ) (header : Header) (end : Ending) (touched : List (List ℕ)) → Named book → IsNotOpened store book header end touched → Ends end
  unopened-ends book header _ _ b (approve.look_failed failed) = absurd (failed.unsteady steady)
  unopened-ends book header _ _ b approve.no_memory_to_look = other _ (λ is. cc) (λ is. cc) (λ is. cc)
  unopened-ends book header _ _ b (approve.not_taken end has fails) = untaken-ends book end b fails
  unopened-ends book header _ _ b (approve.not_made end touched new fails) = unmade-ends book header 1024 end touched fails

  add-ends : (file : FileRun) (header : Header) (id : List ℕ) (end : Ending) → AddEnds (DeviceFails store) file header id end → Ends end
  add-ends file header id _ (adding.not_read fails still) = absurd (no_device fails)
  add-ends file header id _ (adding.not_opened fault why still) = other _ (λ is. cc) (λ is. cc) (λ is. cc)
  add-ends file header id _ (adding.no_memory_to_load opens still) = other _ (λ is. cc) (λ is. cc) (λ is. cc)
  add-ends file header id _ (adding.damaged slot a b opens first still) = other _ (λ is. cc) (λ is. cc) (λ is. cc)
  add-ends file header id _ (adding.device slots after has adds fails stands) = absurd (no_device fails)
  add-ends file header id _ (adding.full slots after has adds stands) = other _ (λ is. cc) (λ is. cc) (λ is. cc)
  add-ends file header id _ (adding.approved slots entered after has adds lists stands) = other _ (λ is. cc) (λ is. cc) (λ is. cc)

  approve-ends : (share book message : List ℕ) (end : Ending) (touched : List (List ℕ)) → Named share → Named book → Named message
      → ApproveEnds store share book message end touched → Ends end
  approve-ends share book message _ _ s b m (approve.no_share end fails) = grammar-ends _ share end s fails
  approve-ends share book message _ _ s b m (approve.no_message found end read fails) = upto-ends _ message end m fails
  approve-ends share book message _ _ s b m (approve.no_book found id end touched read had fails) = unopened-ends book _ end touched b fails
  approve-ends share book message _ _ s b m (approve.in_book found id bytes after end read had was is adds) = add-ends _ _ id end adds
  approve-ends share book message _ _ s b m (approve.in_new_book found id bytes after end read had new blank owners is adds) = add-ends _ _ id end adds

  -- two files are read, one after the other
  both-ends : (one two : List ℕ) (Rest : List ℕ → List ℕ → Ending → List Output → Type 0) (end : Ending) (written : List Output) → Named one → Named two
      → ((a b : List ℕ) (end : Ending) (written : List Output) → Rest a b end written → Ends end)
      → TextThen store one (λ a. TextThen store two (λ b. Rest a b)) end written → Ends end
  both-ends one two Rest _ _ n m rest (steps.refused end fails) = upto-ends _ one end n fails
  both-ends one two Rest _ _ n m rest (steps.given a _ _ read (steps.refused end fails)) = upto-ends _ two end m fails
  both-ends one two Rest _ _ n m rest (steps.given a _ _ read (steps.given b end written had last)) = rest a b end written last

  verified-ends : (public : PublicKey) (text bytes : List ℕ) (end : Ending) (written : List Output) → Tells ending.Verified (IsVerdict public text bytes) end written → Ends end
  verified-ends public text bytes _ _ (steps.verdict_told says is) = other _ (λ is. cc) (λ is. cc) (λ is. cc)

  checked-ends : (public : HssKey) (text bytes : List ℕ) (end : Ending) (written : List Output) → Tells ending.Checked (IsHssVerdict public text bytes) end written → Ends end
  checked-ends public text bytes _ _ (steps.verdict_told says is) = other _ (λ is. cc) (λ is. cc) (λ is. cc)

  verify-ends : (key message signature : List ℕ) (end : Ending) (written : List Output) → Named key → Named message → Named signature
      → VerifyEnds store key message signature end written → Ends end
  verify-ends key message signature _ _ k m s (steps.refused end fails) = grammar-ends _ key end k fails
  verify-ends key message signature _ _ k m s (steps.given public end written read rest) =
      both-ends message signature (λ text bytes. Tells ending.Verified (IsVerdict public text bytes)) end written m s (λ text bytes end written says. verified-ends public text bytes end written says) rest

  check-ends : (key message signature : List ℕ) (end : Ending) (written : List Output) → Named key → Named message → Named signature
      → HssCheckEnds store key message signature end written → Ends end
  check-ends key message signature _ _ k m s (steps.refused end fails) = grammar-ends _ key end k fails
  check-ends key message signature _ _ k m s (steps.given public end written read rest) =
      both-ends message signature (λ text bytes. Tells ending.Checked (IsHssVerdict public text bytes)) end written m s (λ text bytes end written says. checked-ends public text bytes end written says) rest

  unshown-ends : (file bytes : List ℕ) (end : Ending) → IsNotShown file bytes end → Ends end
  unshown-ends file bytes _ (show.unreadable fault has) = other _ (λ is. cc) (λ is. cc) (λ is. cc)
  unshown-ends file bytes _ (show.not_loaded fault kind why) = other _ (λ is. cc) (λ is. cc) (λ is. cc)

  show-ends : (file : List ℕ) (leaves : Bool) (end : Ending) → Named file → ShowEnds store file leaves end → Ends end
  show-ends file leaves _ f (show.not_read end fails) = find-ends file end f fails
  show-ends file leaves _ f show.no_memory = other _ (λ is. cc) (λ is. cc) (λ is. cc)
  show-ends file leaves _ f (show.not_shown bytes end read fails) = unshown-ends file bytes end fails
  show-ends file leaves _ f (show.shown bytes text read is) = other _ (λ is. cc) (λ is. cc) (λ is. cc)
  show-ends file leaves _ f (show.too_long got read reads) = other _ (λ is. cc) (λ is. cc) (λ is. cc)
  show-ends file leaves _ f (show.long_not_shown got fault read reads) = other _ (λ is. cc) (λ is. cc) (λ is. cc)
  show-ends file leaves _ f (show.long_shown got text read reads) = other _ (λ is. cc) (λ is. cc) (λ is. cc)

  drill-ends : (number sessions events : ℕ) (end : Ending) → DrillEnds number sessions events end → Ends end
  drill-ends number sessions events _ no_memory = other _ (λ is. cc) (λ is. cc) (λ is. cc)
  drill-ends number sessions events _ (drilled summary is) = other _ (λ is. cc) (λ is. cc) (λ is. cc)

-- ---- a trustee
module _ (words : TrusteeWords) (before after : Outside) (told : IsTrue before.store.told) (steady : IsTrue before.store.steady)
    (net_told : IsTrue before.net.told) (net_steady : IsTrue before.net.steady) where
  abbrev run : StoreRun
  run = store_of before after

  abbrev TrusteeSteady : Ending → Type 0
  TrusteeSteady = EndsSteady (Lacks before.store (Trustee words)) (IsUnoffered before.net (Trustee words))

  named_share : Contains (names_read (Trustee words)) words.share
  named_share = first words.share (words.journal ∷ book_of words.book)

  named_journal : Contains (names_read (Trustee words)) words.journal
  named_journal = second words.share words.journal (book_of words.book)

  named_book : (name : List ℕ) → words.book ≡ Some name → Contains (names_read (Trustee words)) name
  named_book name is = subst (λ (book : Option (List ℕ)). Contains (words.share ∷ words.journal ∷ book_of book) name) (sym is) (third words.share words.journal name [])

  trustee-ends : (end : Ending) (touched : List (List ℕ)) → TrusteeEnds words before after end touched → TrusteeSteady end
  trustee-ends _ _ (trustee.no_memory touched heard stays) = other run before.net told steady (Trustee words) _ (λ is. cc) (λ is. cc) (λ is. cc)
  trustee-ends _ _ (trustee.no_share end fails heard) = grammar-ends run before.net told steady (Trustee words) _ words.share end named_share fails
  trustee-ends _ _ (trustee.no_journal share is read heard) = lacks run before.net told steady (Trustee words) words.journal named_journal (read.1 told steady)
  trustee-ends _ _ (trustee.journal_not_loaded share end is fails stays heard) = load-ends run before.net told steady (Trustee words) _ _ words.journal end fails
  trustee-ends _ _ (trustee.no_book share entries name is lost heard stays) = elim (lost.absent told steady) [
    | inl same ↦ lacking (Lacks before.store (Trustee words)) (IsUnoffered before.net (Trustee words)) (one_file words name refl lost.named same)
    | inr none ↦ lacks run before.net told steady (Trustee words) name (named_book name lost.named) none
  ]
  trustee-ends _ _ (trustee.book_not_loaded share entries name end is named fails heard stays still) = load-ends run before.net told steady (Trustee words) _ _ name end fails
  trustee-ends _ _ (trustee.no_ports share entries ids touched is has heard rose never stays) =
      unheard (Lacks before.store (Trustee words)) (IsUnoffered before.net (Trustee words)) (record { place = words.place; is = refl; none = never net_told net_steady })
  trustee-ends _ _ (trustee.served end books served stays) = elim served.net.ends [
    | inl all ↦ subst TrusteeSteady (sym all.1) (other run before.net told steady (Trustee words) _ (λ is. cc) (λ is. cc) (λ is. cc))
    | inr some ↦ absurd (some.0 (served.net.hears net_steady))
  ]

-- ---- any command
module _ (before after : Outside) (told : IsTrue before.store.told) (steady : IsTrue before.store.steady) (net_told : IsTrue before.net.told) (net_steady : IsTrue before.net.steady) where
  abbrev store : StoreRun
  store = from_to before.store after.store

  -- the ends of a command
  pub record Steady (row : Row) (end : Ending) : Type 0 where
    pub store : end ≡ ending.StoreFailed → Lacks before.store row
    pub device : end ≡ ending.DeviceFailed → ⊥
    pub net : end ≡ ending.NetFailed → IsUnoffered before.net row

  pub of-row : (row : Row) (end : Ending) → EndsSteady (Lacks before.store row) (IsUnoffered before.net row) end → Steady row end
  of-row row end ends = record { store = ends.store; device = ends.device; net = ends.net }

  pub command-steady : (row : Row) (end : Ending) → CommandRun row before after end → Steady row end
  command-steady (Verify key message signature) end ran = of-row (Verify key message signature) end (verify-ends store before.net told steady (Verify key message signature) key message signature end ran.run.written (first key (message ∷ signature ∷ [])) (second key message (signature ∷ [])) (third key message signature []) ran.run.cause)
  command-steady (Rehearse entropy message key_out signature_out) end ran = of-row (Rehearse entropy message key_out signature_out) end (rehearse-ends store before.net told steady (Rehearse entropy message key_out signature_out) entropy message key_out signature_out end ran.run.written (first entropy (message ∷ [])) (second entropy message []) ran.run.cause)
  command-steady (Deal words) end ran = of-row (Deal words) end (run-ends store before.net told steady (Deal words) words words.large end (first words.entropy []) ran.run)
  command-steady (Enrol file journal) end ran = of-row (Enrol file journal) end (enrol-ends store before.net told steady (Enrol file journal) file journal end ran.run.touched (first file []) ran.run.cause)
  command-steady (Migrate share journal new) end ran = of-row (Migrate share journal new) end (migrate-ends store before.net told steady (Migrate share journal new) share journal new end ran.run.touched (first share (journal ∷ [])) (second share journal []) ran.run.cause)
  command-steady (Approve share book message) end ran = of-row (Approve share book message) end (approve-ends store before.net told steady (Approve share book message) share book message end ran.run.touched (first share (message ∷ book ∷ [])) (third share message book []) (second share message (book ∷ [])) ran.run.cause)
  command-steady (Trustee words) end ran = of-row (Trustee words) end (trustee-ends words before after told steady net_told net_steady end ran.touched ran.ends)
  command-steady (Sign words) end ran =
      let row = Sign words in
      of-row row end (sign-steady (Lacks before.store row) (IsUnoffered before.net row) words store _ told steady net_told net_steady
      (lack store before.net told steady row (key_name words.prefix) (first (key_name words.prefix) (tree_name words.prefix ∷ reference_name words.prefix ∷ words.message ∷ words.table ∷ [])))
      (lack store before.net told steady row (tree_name words.prefix) (second (key_name words.prefix) (tree_name words.prefix) (reference_name words.prefix ∷ words.message ∷ words.table ∷ [])))
      (lack store before.net told steady row (reference_name words.prefix) (third (key_name words.prefix) (tree_name words.prefix) (reference_name words.prefix) (words.message ∷ words.table ∷ [])))
      (lack store before.net told steady row words.message (fourth (key_name words.prefix) (tree_name words.prefix) (reference_name words.prefix) words.message (words.table ∷ [])))
      (lack store before.net told steady row words.table (fifth (key_name words.prefix) (tree_name words.prefix) (reference_name words.prefix) words.message words.table [])) end ran)
  command-steady (HssCheck key message signature) end ran = of-row (HssCheck key message signature) end (check-ends store before.net told steady (HssCheck key message signature) key message signature end ran.run.written (first key (message ∷ signature ∷ [])) (second key message (signature ∷ [])) (third key message signature []) ran.run.cause)
  command-steady (HssSign words) end ran =
      let row = HssSign words in
      of-row row end (levels-steady (Lacks before.store row) (IsUnoffered before.net row) words store _ told steady net_told net_steady
      (lack store before.net told steady row words.low_key (first words.low_key (words.low_signature ∷ words.message ∷ key_name words.prefix ∷ tree_name words.prefix ∷ reference_name words.prefix ∷ words.table ∷ [])))
      (lack store before.net told steady row words.low_signature (second words.low_key words.low_signature (words.message ∷ key_name words.prefix ∷ tree_name words.prefix ∷ reference_name words.prefix ∷ words.table ∷ [])))
      (lack store before.net told steady row words.message (third words.low_key words.low_signature words.message (key_name words.prefix ∷ tree_name words.prefix ∷ reference_name words.prefix ∷ words.table ∷ [])))
      (lack store before.net told steady row (key_name words.prefix) (fourth words.low_key words.low_signature words.message (key_name words.prefix) (tree_name words.prefix ∷ reference_name words.prefix ∷ words.table ∷ [])))
      (lack store before.net told steady row (tree_name words.prefix) (fifth words.low_key words.low_signature words.message (key_name words.prefix) (tree_name words.prefix) (reference_name words.prefix ∷ words.table ∷ [])))
      (lack store before.net told steady row (reference_name words.prefix) (sixth words.low_key words.low_signature words.message (key_name words.prefix) (tree_name words.prefix) (reference_name words.prefix) (words.table ∷ [])))
      (lack store before.net told steady row words.table (seventh words.low_key words.low_signature words.message (key_name words.prefix) (tree_name words.prefix) (reference_name words.prefix) words.table [])) end ran)
  command-steady (Aggregate words) end ran =
      let row = Aggregate words in
      of-row row end (aggregate-steady (Lacks before.store row) (IsUnoffered before.net row) words store _ told steady net_told net_steady
      (lack store before.net told steady row (key_name words.prefix) (first (key_name words.prefix) (tree_name words.prefix ∷ reference_name words.prefix ∷ words.table ∷ [])))
      (lack store before.net told steady row (tree_name words.prefix) (second (key_name words.prefix) (tree_name words.prefix) (reference_name words.prefix ∷ words.table ∷ [])))
      (lack store before.net told steady row (reference_name words.prefix) (third (key_name words.prefix) (tree_name words.prefix) (reference_name words.prefix) (words.table ∷ [])))
      (lack store before.net told steady row words.table (fourth (key_name words.prefix) (tree_name words.prefix) (reference_name words.prefix) words.table []))
      (λ none. record { place = words.place; is = refl; none = none }) end ran)
  command-steady (Drill number sessions events) end ran = of-row (Drill number sessions events) end (drill-ends store before.net told steady (Drill number sessions events) number sessions events end ran.run.cause.0)
  command-steady (Show file leaves) end ran = of-row (Show file leaves) end (show-ends store before.net told steady (Show file leaves) file leaves end (first file []) ran.run.cause.0)
  command-steady (Blame words) end ran =
      let row = Blame words in
      of-row row end (blame-steady (Lacks before.store row) (IsUnoffered before.net row) words store _ told steady net_told net_steady
      (lack store before.net told steady row (key_name words.prefix) (first (key_name words.prefix) (tree_name words.prefix ∷ reference_name words.prefix ∷ commits_name words.prefix ∷ words.message ∷ words.table ∷ [])))
      (lack store before.net told steady row (tree_name words.prefix) (second (key_name words.prefix) (tree_name words.prefix) (reference_name words.prefix ∷ commits_name words.prefix ∷ words.message ∷ words.table ∷ [])))
      (lack store before.net told steady row (reference_name words.prefix) (third (key_name words.prefix) (tree_name words.prefix) (reference_name words.prefix) (commits_name words.prefix ∷ words.message ∷ words.table ∷ [])))
      (lack store before.net told steady row (commits_name words.prefix) (fourth (key_name words.prefix) (tree_name words.prefix) (reference_name words.prefix) (commits_name words.prefix) (words.message ∷ words.table ∷ [])))
      (lack store before.net told steady row words.message (fifth (key_name words.prefix) (tree_name words.prefix) (reference_name words.prefix) (commits_name words.prefix) words.message (words.table ∷ [])))
      (lack store before.net told steady row words.table (sixth (key_name words.prefix) (tree_name words.prefix) (reference_name words.prefix) (commits_name words.prefix) words.message words.table [])) end ran)

-- ---- the status
-- the ends that the statuses 3, 10 and 17 stand for
record IsOneOf (end : Ending) : Type 0 where
  pub store : status_of end ≡ 3 → end ≡ ending.StoreFailed
  pub device : status_of end ≡ 10 → end ≡ ending.DeviceFailed
  pub net : status_of end ≡ 17 → end ≡ ending.NetFailed

none_of : (end : Ending) (n : ℕ) → status_of end ≡ n → (n ≡ 3 → ⊥) → (n ≡ 10 → ⊥) → (n ≡ 17 → ⊥) → IsOneOf end
none_of end n is store device net = record { store = λ e. absurd (store (sym is ∙ e)); device = λ e. absurd (device (sym is ∙ e)); net = λ e. absurd (net (sym is ∙ e)) }

one_of : (end : Ending) → IsOneOf end
one_of (ending.Verified (Accepted leaf)) = none_of _ 0 refl (λ is. omega (arith, is)) (λ is. omega (arith, is)) (λ is. omega (arith, is))
one_of (ending.Verified (Malformed fault)) = none_of _ 1 refl (λ is. omega (arith, is)) (λ is. omega (arith, is)) (λ is. omega (arith, is))
one_of (ending.Verified (OtherRoot got want)) = none_of _ 1 refl (λ is. omega (arith, is)) (λ is. omega (arith, is)) (λ is. omega (arith, is))
one_of (ending.Checked (levels.Accepted count)) = none_of _ 0 refl (λ is. omega (arith, is)) (λ is. omega (arith, is)) (λ is. omega (arith, is))
one_of (ending.Checked (levels.Malformed fault)) = none_of _ 1 refl (λ is. omega (arith, is)) (λ is. omega (arith, is)) (λ is. omega (arith, is))
one_of (ending.Checked (levels.OtherRoot level got want)) = none_of _ 1 refl (λ is. omega (arith, is)) (λ is. omega (arith, is)) (λ is. omega (arith, is))
one_of ending.Rehearsed = none_of _ 0 refl (λ is. omega (arith, is)) (λ is. omega (arith, is)) (λ is. omega (arith, is))
one_of (ending.Dealt leaves coalitions) = none_of _ 0 refl (λ is. omega (arith, is)) (λ is. omega (arith, is)) (λ is. omega (arith, is))
one_of (ending.Enrolled number) = none_of _ 0 refl (λ is. omega (arith, is)) (λ is. omega (arith, is)) (λ is. omega (arith, is))
one_of (ending.Migrated slots) = none_of _ 0 refl (λ is. omega (arith, is)) (λ is. omega (arith, is)) (λ is. omega (arith, is))
one_of (ending.Approved slots) = none_of _ 0 refl (λ is. omega (arith, is)) (λ is. omega (arith, is)) (λ is. omega (arith, is))
one_of (ending.Signed leaf) = none_of _ 0 refl (λ is. omega (arith, is)) (λ is. omega (arith, is)) (λ is. omega (arith, is))
one_of (ending.SignedLevels leaf) = none_of _ 0 refl (λ is. omega (arith, is)) (λ is. omega (arith, is)) (λ is. omega (arith, is))
one_of (ending.Served connections frames) = none_of _ 0 refl (λ is. omega (arith, is)) (λ is. omega (arith, is)) (λ is. omega (arith, is))
one_of (ending.Drilled summary) = none_of _ 0 refl (λ is. omega (arith, is)) (λ is. omega (arith, is)) (λ is. omega (arith, is))
one_of (ending.Shown text) = none_of _ 0 refl (λ is. omega (arith, is)) (λ is. omega (arith, is)) (λ is. omega (arith, is))
one_of ending.Usage = none_of _ 2 refl (λ is. omega (arith, is)) (λ is. omega (arith, is)) (λ is. omega (arith, is))
one_of ending.StoreFailed = record { store = λ is. refl; device = λ is. absurd (omega (arith, is)); net = λ is. absurd (omega (arith, is)) }
one_of (ending.Unreadable name fault) = none_of _ 4 refl (λ is. omega (arith, is)) (λ is. omega (arith, is)) (λ is. omega (arith, is))
one_of (ending.NotDealt why) = none_of _ 5 refl (λ is. omega (arith, is)) (λ is. omega (arith, is)) (λ is. omega (arith, is))
one_of (ending.NotSigned (unsigned.Missing member round)) = none_of _ 6 refl (λ is. omega (arith, is)) (λ is. omega (arith, is)) (λ is. omega (arith, is))
one_of (ending.NotSigned (unsigned.SpentLeaf leaf member)) = none_of _ 7 refl (λ is. omega (arith, is)) (λ is. omega (arith, is)) (λ is. omega (arith, is))
one_of (ending.NotSigned (unsigned.WrongCheck leaf member)) = none_of _ 8 refl (λ is. omega (arith, is)) (λ is. omega (arith, is)) (λ is. omega (arith, is))
one_of (ending.NotSigned (unsigned.WrongRoot leaf got want)) = none_of _ 8 refl (λ is. omega (arith, is)) (λ is. omega (arith, is)) (λ is. omega (arith, is))
one_of (ending.NotSigned (unsigned.Blamed members)) = none_of _ 8 refl (λ is. omega (arith, is)) (λ is. omega (arith, is)) (λ is. omega (arith, is))
one_of (ending.NotSigned (unsigned.NoLeaf coalition)) = none_of _ 9 refl (λ is. omega (arith, is)) (λ is. omega (arith, is)) (λ is. omega (arith, is))
one_of (ending.NotSigned (unsigned.Refused member code)) = none_of _ 11 refl (λ is. omega (arith, is)) (λ is. omega (arith, is)) (λ is. omega (arith, is))
one_of (ending.NotSigned (unsigned.Stray member round)) = none_of _ 11 refl (λ is. omega (arith, is)) (λ is. omega (arith, is)) (λ is. omega (arith, is))
one_of (ending.NotSigned unsigned.NotACoalition) = none_of _ 18 refl (λ is. omega (arith, is)) (λ is. omega (arith, is)) (λ is. omega (arith, is))
one_of ending.DeviceFailed = record { store = λ is. absurd (omega (arith, is)); device = λ is. refl; net = λ is. absurd (omega (arith, is)) }
one_of (ending.TooLong got) = none_of _ 12 refl (λ is. omega (arith, is)) (λ is. omega (arith, is)) (λ is. omega (arith, is))
one_of (ending.NotLoaded fault) = none_of _ 13 refl (λ is. omega (arith, is)) (λ is. omega (arith, is)) (λ is. omega (arith, is))
one_of ending.NoMemory = none_of _ 14 refl (λ is. omega (arith, is)) (λ is. omega (arith, is)) (λ is. omega (arith, is))
one_of (ending.Exists name) = none_of _ 15 refl (λ is. omega (arith, is)) (λ is. omega (arith, is)) (λ is. omega (arith, is))
one_of ending.NetFailed = record { store = λ is. absurd (omega (arith, is)); device = λ is. absurd (omega (arith, is)); net = λ is. refl }
one_of ending.BookFull = none_of _ 19 refl (λ is. omega (arith, is)) (λ is. omega (arith, is)) (λ is. omega (arith, is))

-- the line was printed whole, since there was room
printed : (output : OutputRun) (shown : Ending) (status : ℕ) → IsTrue output.steady → length (line_of shown) ≤ output.room → IsAnswered output shown status
    → IsPrinted output (line_of shown) × (status ≡ status_of shown)
printed output shown status steady room (inl whole) = whole
printed output shown status steady room (inr cut) = let less = cut.0.no_room steady in absurd (omega (arith, less, room))

module _ (words : List (List ℕ)) (row : Row) (world : World) (status : ℕ) where
  abbrev Serves : Ending → Type 0
  Serves came = (place : List ℕ) (connections frames : ℕ) → place_of row ≡ Some place → came ≡ ending.Served connections frames → ServesAll world.before world.after row came

  -- an end that the command came to, or memory that ran out, whose line was printed
  by_end : (run : ToolRun words world status) (firm : IsSteadyWorld run) (end came : Ending) → (end ≡ ending.NoMemory) ⊎ (end ≡ came) → CommandRun row world.before world.after came
      → IsPrinted world.output (line_of end) × (status ≡ status_of end)
      → Steady world.before world.after firm.store_told firm.store_steady firm.net_told firm.net_steady row end
      → All (λ name. IsSome (world.before.store.file name)) (names_found row end)
      → ((place : List ℕ) (connections frames : ℕ) → place_of row ≡ Some place → end ≡ ending.Served connections frames → IsTrue (world.before.net.offers place))
      → Serves came → HasCauses world row status
  by_end of firm end came end_is ran said steady found offered serves =
      let ends = one_of end in
      record {
        end = end;
        came = came;
        end_is = end_is;
        ran = ran;
        is_printed = said.0;
        status_is = said.1;
        lacks = λ e. steady.store (ends.store (sym said.1 ∙ e));
        no_device = λ e. steady.device (ends.device (sym said.1 ∙ e));
        unoffered = λ e. steady.net (ends.net (sym said.1 ∙ e));
        found = found;
        offered = offered;
        serves = serves;
        peer = λ member round room missed. command-loses world.before world.after firm.net_steady room member round row came ran missed;
      }

  pub steady-run : command_of words ≡ Some row → (ran : ToolRun words world status) → IsSteadyWorld ran → Laws world.before world.after → HasCauses world row status
  steady-run is ran steady laws =
      let ended : CommandRun row world.before world.after ran.end = subst (λ (command : Option Row). WordsRun command world.before world.after ran.end) is ran.ended in
      let so = ran.answered in
      let serves : Serves ran.end =
      λ place connections frames at served.
      command-serves world.before world.after steady.store_told steady.store_steady steady.net_steady laws connections frames row ran.end ended place at served in
      elim so.is [
        | inl none ↦
            let unchanged = of-row world.before world.after steady.store_told steady.store_steady steady.net_told steady.net_steady row ending.NoMemory
            (plain (Lacks world.before.store row) (IsUnoffered world.before.net row) ending.NoMemory (λ is. cc) (λ is. cc) (λ is. cc)) in
            by_end ran steady so.shown ran.end (inl none) ended
            (printed world.output so.shown status steady.output_steady steady.room so.answered)
            (subst (Steady world.before world.after steady.store_told steady.store_steady steady.net_told steady.net_steady row) (sym none) unchanged)
            (subst (λ (end : Ending). All (λ name. IsSome (world.before.store.file name)) (names_found row end)) (sym none) (All-nil (λ name. IsSome (world.before.store.file name))))
            (λ place connections frames at served. absurd (cc)) serves
        | inr same ↦
            let came : CommandRun row world.before world.after so.shown = subst (CommandRun row world.before world.after) (sym same) ended in
            by_end ran steady so.shown ran.end (inr same) ended
            (printed world.output so.shown status steady.output_steady steady.room so.answered)
            (command-steady world.before world.after steady.store_told steady.store_steady steady.net_told steady.net_steady row so.shown came)
            (command-found world.before world.after steady.store_told row so.shown came)
            (λ place connections frames at served.
            command-offered world.before world.after connections frames steady.net_told row so.shown came place at served) serves
      ]
