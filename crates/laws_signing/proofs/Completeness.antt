-- If all is well, `sign` ends with the undivided key's signature, or for want of memory.
use Rattle.std.proofs.Common.{◌≡◌, ◌⊎◌, ℕ, List, [], Result, Ok, Err, refl, sym, ap, subst, ◌∙◌, inl, inr}
use Rattle.aggregator_session.specs.Signing.{Signature}
use Rattle.lms_verify.specs.UndividedKey.{UndividedKey, rfc_signature}
use Rattle.reference_value.specs.Dealing.{Dealing, leaf_randomizer}
use Rattle.tool_base.specs.Ending as ending
use Rattle.tool_base.specs.Ending.{Ending}
use Rattle.tool_base.specs.World.{StoreRun}
use Rattle.tool_sign.specs.Ports.{NetRun}
use Rattle.tool_sign.specs.Sessions.{SessionEnds, ended, no_task}
use Rattle.tool_sign.specs.Sign.{SignEnds, SigningRun, not_new, not_signed, not_written, session_words, signed}
use Rattle.tool_sign.specs.Tasks.{message_in}
use Rattle.tool_sign.specs.Writes.{IsWritten}
use Rattle.tool_words.specs.Words.{SignWords}
use Rattle.laws_signing.specs.AllIsWell.{AllIsWell}
use Rattle.laws_signing.proofs.Ends.{table-ends, table-made}
use Rattle.laws_signing.proofs.FilesRead.{new-well, written-well}
use Rattle.laws_signing.proofs.Tasks.{task-well}

module _ (words : SignWords) (store : StoreRun) (net : NetRun) (d : Dealing) (key : UndividedKey) (message : List ℕ) (leaf : ℕ) (well : AllIsWell words store net d key message leaf) where
  abbrev signature : List ℕ
  signature = rfc_signature key leaf (leaf_randomizer d leaf) message

  -- the end of a call if all is well
  abbrev Complete : Ending → Type 0
  Complete end = (end ≡ ending.NoMemory) ⊎ ((end ≡ ending.Signed leaf) × IsWritten store words.out signature)

  abbrev unsigned : Ending → Result Signature Ending
  unsigned end = Err end

  abbrev made_of : Signature → Result Signature Ending
  made_of made = Ok made

  -- a session that gave no signature lacked memory
  pub session-unsigned : (answer : Result Signature Ending) (touched : List (List ℕ)) (end : Ending)
      → SessionEnds (session_words words) store (message_in store words.message) net answer touched → answer ≡ unsigned end → end ≡ ending.NoMemory
  session-unsigned _ _ end (no_task e fails same) is =
      let one : e ≡ end = cc in
      sym one ∙ task-well d key well.dealing words store net message well.fails well.files well.leased.number well.leased.coalition e fails
  session-unsigned answer touched end (ended signing _ _ task ends) is = table-ends words store net d key message leaf well signing task answer touched end ends is

  -- one that gave a signature gave the undivided key's
  pub session-signed : (answer : Result Signature Ending) (touched : List (List ℕ)) (made : Signature)
      → SessionEnds (session_words words) store (message_in store words.message) net answer touched → answer ≡ made_of made → made ≡ record { leaf = leaf; bytes = signature }
  session-signed _ _ made (no_task e fails same) is = absurd (cc)
  session-signed answer touched made (ended signing _ _ task ends) is = table-made words store net d key message leaf well signing task answer touched made ends is

  ends-complete : (end : Ending) (touched : List (List ℕ)) → SignEnds words store net end touched → Complete end
  ends-complete _ touched (not_new end fails same) = inl (new-well store well.fails.store_told well.fails.store_holds words.out well.files.out_is_new end fails)
  ends-complete _ touched (not_signed end names new ends) = inl (session-unsigned (Err end) names end ends refl)
  ends-complete _ touched (not_written made end names new ends not) = inl (written-well store well.fails.store_told well.fails.store_holds [] words.out end not)
  ends-complete _ touched (signed made names new ends written) =
      let same = session-signed (Ok made) names made ends refl in
      inr (ap (λ (s : Signature). ending.Signed s.leaf) same, subst (λ (s : Signature). IsWritten store words.out s.bytes) same written)

pub complete : (words : SignWords) (store : StoreRun) (net : NetRun) (end : Ending) (d : Dealing) (key : UndividedKey) (message : List ℕ) (leaf : ℕ) → SigningRun words store net end
    → AllIsWell words store net d key message leaf
    → (end ≡ ending.NoMemory) ⊎ ((end ≡ ending.Signed leaf) × IsWritten store words.out (rfc_signature key leaf (leaf_randomizer d leaf) message))
complete words store net end d key message leaf run well = ends-complete words store net d key message leaf well end run.touched run.ends
