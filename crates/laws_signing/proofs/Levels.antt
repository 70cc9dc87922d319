-- If all is well, `hss sign` ends with the key and the signature of two levels, or for want of memory.
use Rattle.std.proofs.Common.{◌≡◌, ◌⊎◌, ◌++◌, ◌≤◌, ℕ, false, List, [], ◌∷◌, None, Result, Ok, Err, IsTrue, length, option_map, refl, sym, ap, subst, ◌∙◌, inl, inr, arith}
use Rattle.aggregator_session.specs.Signing.{Signature}
use Rattle.lms_bytes.specs.FaultNumbers.{key_fault_number}
use Rattle.lms_bytes.specs.PublicKey.{public_bytes}
use Rattle.lms_bytes.specs.declared.public_key.PublicKey.{PublicKey}
use Rattle.lms_verify.specs.UndividedKey.{UndividedKey, public_key_of, rfc_signature}
use Rattle.lms_verify.specs.Verdict.{IsVerdict}
use Rattle.lms_verify.specs.declared.verification.Verdict.{Verdict}
use Rattle.reference_value.specs.Dealing.{Dealing, leaf_randomizer}
use Rattle.share_files.specs.declared.reference.RefHeader.{RefHeader}
use Rattle.stream_io.specs.Store.{has_name}
use Rattle.tool_base.specs.Ending as ending
use Rattle.tool_base.specs.Ending.{Ending, status_of}
use Rattle.tool_base.specs.World.{StoreRun, file_limit}
use Rattle.tool_desk.specs.Key.{key_file_fault}
use Rattle.tool_desk.specs.declared.files.KeyFiles.{KeyFiles}
use Rattle.tool_sign.specs.HssSign.{AreWritten, HssSignEnds, HssSigningRun, SignsLower, no_lower, no_memory_to_join, not_accepted, not_new, not_signed, session_words, signed, stopped, two_levels}
use Rattle.tool_sign.specs.Lower.{FailsLower, IsLower, Lower, no_key, no_message, no_signature}
use Rattle.tool_sign.specs.Ports.{NetRun, Signing}
use Rattle.tool_sign.specs.Sessions.{SessionEnds, ended}
use Rattle.tool_sign.specs.Sessions as sessions
use Rattle.tool_sign.specs.Tasks.{FailsTask, IsTask, LacksTask, message_in, message_limit, message_of}
use Rattle.tool_sign.specs.Tasks as tasks
use Rattle.tool_words.specs.Words.{HssSignWords}
use Rattle.laws_signing.specs.LevelsAreWell.{LevelsAreWell, signing_lower}
use Rattle.laws_signing.proofs.Completeness.{session-signed, session-unsigned}
use Rattle.laws_signing.proofs.Ends.{key-is}
use Rattle.laws_signing.proofs.FilesRead.{grammar-well, new-well, reads-well, same-file, written-well}
use Rattle.tool_base.proofs.Parses.{key-passes, one-key}
use Rattle.hss_levels.proofs.Sets.{same-key}
use Rattle.tool_base.proofs.Verdicts.{is-accepted}

module _ (words : HssSignWords) (store : StoreRun) (net : NetRun) (d : Dealing) (key : UndividedKey) (lower : Lower) (leaf : ℕ) (well : LevelsAreWell words store net d key lower leaf) where
  abbrev told : IsTrue store.before.told
  told = well.upper.fails.store_told

  abbrev message : List ℕ
  message = public_bytes lower.key

  abbrev signature : List ℕ
  signature = rfc_signature key leaf (leaf_randomizer d leaf) message

  abbrev Complete : Ending → Type 0
  Complete end = (end ≡ ending.NoMemory) ⊎ ((end ≡ ending.SignedLevels leaf) × AreWritten store (two_levels words (public_key_of key) signature lower))

  -- what was read is what is there
  same-lower : (read : Lower) → IsLower words store read → read ≡ lower
  same-lower read is =
      let bytes = same-file store words.low_key (public_bytes read.key) message (is.key.1 told) well.upper.files.message_is in
      let parts = one-key read.key lower.key bytes in
      let keys : read.key ≡ lower.key = same-key read.key lower.key parts.params parts.id parts.root_is in
      let signatures : read.signature ≡ lower.signature = same-file store words.low_signature read.signature lower.signature (is.signature.1 told) well.has.signature_is in
      let messages : read.message ≡ lower.message = same-file store words.message read.message lower.message (is.message.1 told) well.has.message_is in
      let f : PublicKey → List ℕ → List ℕ → Lower = λ k s m. record { key = k; signature = s; message = m } in
      ap (λ (k : PublicKey). f k read.signature read.message) keys ∙ ap (λ (s : List ℕ). f lower.key s read.message) signatures ∙ ap (λ (m : List ℕ). f lower.key lower.signature m) messages

  -- the bytes of the lower key are the message in its file
  module _ (read : Lower) (is : IsLower words store read) where
    is-in : (bytes : List ℕ) → (message_of (public_bytes read.key)).is bytes → (message_in store words.low_key).is bytes
    is-in bytes same =
        let here : bytes ≡ message = same ∙ same-file store words.low_key (public_bytes read.key) message (is.key.1 told) well.upper.files.message_is in
        (subst (λ (b : List ℕ). length b ≤ message_limit) (sym here) well.upper.files.limit, λ known. rw same (is.key.1 known))

    task-in : (signing : Signing) → IsTask (session_words words) store (message_of (public_bytes read.key)) signing → IsTask (session_words words) store (message_in store words.low_key) signing
    task-in signing task = record {
      files = task.files;
      header = task.header;
      has = task.has;
      goes = record {
        message_is = is-in signing.message task.goes.message_is;
        one_key = task.goes.one_key;
        members_are = task.goes.members_are;
        coalition = task.goes.coalition;
        addresses_are = task.goes.addresses_are;
      };
      desk = task.desk;
      reads = task.reads;
    }

    lacks-in : (files : KeyFiles) (header : RefHeader) (end : Ending) → LacksTask (session_words words) (message_of (public_bytes read.key)) files header end
        → LacksTask (session_words words) (message_in store words.low_key) files header end
    lacks-in files header _ tasks.no_memory = tasks.no_memory
    lacks-in files header _ (tasks.no_message end never) = absurd never
    lacks-in files header _ (tasks.other_key bytes end had other) = tasks.other_key bytes end (is-in bytes had) other
    lacks-in files header _ (tasks.no_coalition bytes had one never) = tasks.no_coalition bytes (is-in bytes had) one never

    fails-in : (end : Ending) → FailsTask (session_words words) store (message_of (public_bytes read.key)) end → FailsTask (session_words words) store (message_in store words.low_key) end
    fails-in _ (tasks.no_key_files end fails) = tasks.no_key_files end fails
    fails-in _ (tasks.no_reference files end has fails) = tasks.no_reference files end has fails
    fails-in _ (tasks.no_task files header end has lacks) = tasks.no_task files header end has (lacks-in files header end lacks)

    ends-in : (answer : Result Signature Ending) (touched : List (List ℕ)) → SessionEnds (session_words words) store (message_of (public_bytes read.key)) net answer touched
        → SessionEnds (session_words words) store (message_in store words.low_key) net answer touched
    ends-in _ _ (sessions.no_task end fails same) = sessions.no_task end (fails-in end fails) same
    ends-in _ _ (sessions.ended signing answer touched task ends) = sessions.ended signing answer touched (task-in signing task) ends

    -- what the session signed, and for which key
    by-key : (top : PublicKey) (made : Signature) (touched : List (List ℕ)) → SignsLower words store net read top made touched → (made ≡ record { leaf = leaf; bytes = signature }) × (top ≡ public_key_of key)
    by-key top made touched by =
        let task = task-in by.signing by.task in (
          session-signed (signing_lower words) store net d key message leaf well.upper (Ok made) touched made (sessions.ended by.signing (Ok made) touched task by.ends) refl,
          sym by.key_is ∙ key-is (signing_lower words) store net d key message leaf well.upper by.signing task,
        )

  first-new : (before : List (List ℕ)) (name : List ℕ) (after : List (List ℕ)) → words.key_out ∷ words.signature_out ∷ [] ≡ before ++ (name ∷ after) → has_name store.before name ≡ false
  first-new [] name after is = let same : words.key_out ≡ name = cc in subst (λ (n : List ℕ). has_name store.before n ≡ false) same well.upper.files.out_is_new
  first-new (a ∷ []) name after is = let same : words.signature_out ≡ name = cc in subst (λ (n : List ℕ). has_name store.before n ≡ false) same well.has.out_is_new
  first-new (a ∷ b ∷ []) name after is = absurd (cc)
  first-new (a ∷ b ∷ c ∷ more) name after is = absurd (cc)

  lower-well : (end : Ending) → FailsLower words store end → end ≡ ending.NoMemory
  lower-well _ (no_key end fails) =
      let limit = well.upper.files.limit in
      let small : length message ≤ file_limit = omega arith in
      let passes : key_file_fault message ≡ None = ap (option_map key_fault_number) (key-passes lower.key message refl) in
      grammar-well store told well.upper.fails.store_holds key_file_fault words.low_key message well.upper.files.message_is small passes end fails
  lower-well _ (no_signature read end has fails) =
      reads-well store told well.upper.fails.store_holds file_limit words.low_signature lower.signature well.has.signature_is well.has.signature_fits end fails
  lower-well _ (no_message read bytes end has its fails) =
      reads-well store told well.upper.fails.store_holds file_limit words.message lower.message well.has.message_is well.has.message_fits end fails

  never-refused : (says : Verdict) → IsVerdict lower.key lower.message lower.signature says → status_of (ending.Verified says) ≡ 1 → ⊥
  never-refused says is status =
      let same = is-accepted lower.key lower.message lower.signature well.has.accepted.0 says well.has.accepted.1 is in
      let zero = ap (λ (v : Verdict). status_of (ending.Verified v)) same in
      cc

  ends-complete : (end : Ending) (touched : List (List ℕ)) → HssSignEnds words store net end touched → Complete end
  ends-complete _ _ (not_new end fails same) =
      inl (new-well store told well.upper.fails.store_holds fails.name (first-new fails.before fails.name fails.after fails.is) end fails.cause)
  ends-complete _ _ (no_lower end new fails same) = inl (lower-well end fails)
  ends-complete _ _ (not_accepted read says new is verdict status same) =
      absurd (never-refused says (subst (λ (r : Lower). IsVerdict r.key r.message r.signature says) (same-lower read is) verdict) status)
  ends-complete _ _ (not_signed read end touched ready ends) =
      inl (session-unsigned (signing_lower words) store net d key message leaf well.upper (Err end) touched end (ends-in read ready.read (Err end) touched ends) refl)
  ends-complete _ _ (no_memory_to_join read top made touched ready by) = inl refl
  ends-complete _ _ (stopped read top made touched written end ready by stops are) =
      inl (written-well store told well.upper.fails.store_holds written stops.output.name end stops.cause)
  ends-complete _ _ (signed read top made touched ready by are accepted) =
      let both = by-key read ready.read top made touched by in
      let one = subst (λ (k : PublicKey). AreWritten store (two_levels words k made.bytes read)) both.1 are in
      let two = subst (λ (s : Signature). AreWritten store (two_levels words (public_key_of key) s.bytes read)) both.0 one in
      inr (ap (λ (s : Signature). ending.SignedLevels s.leaf) both.0, subst (λ (r : Lower). AreWritten store (two_levels words (public_key_of key) signature r)) (same-lower read ready.read) two)

pub levels-complete : (words : HssSignWords) (store : StoreRun) (net : NetRun) (end : Ending) (d : Dealing) (key : UndividedKey) (lower : Lower) (leaf : ℕ) → HssSigningRun words store net end
    → LevelsAreWell words store net d key lower leaf
    → (end ≡ ending.NoMemory) ⊎ ((end ≡ ending.SignedLevels leaf)
    × AreWritten store (two_levels words (public_key_of key) (rfc_signature key leaf (leaf_randomizer d leaf) (public_bytes lower.key)) lower))
levels-complete words store net end d key lower leaf run well = ends-complete words store net d key lower leaf well end run.touched run.ends
