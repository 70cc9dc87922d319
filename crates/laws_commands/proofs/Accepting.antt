-- A signature that is accepted is also verified as accepted.
use Rattle.std.proofs.Common.{◌≡◌, ◌≤◌, ◌⊎◌, ℕ, List, None, Some, length, option_map, refl, sym, ap, ◌∙◌, subst, inl, inr, arith}
use Rattle.lms_bytes.specs.FaultNumbers.{key_fault_number}
use Rattle.lms_bytes.specs.PublicKey.{public_bytes}
use Rattle.lms_bytes.specs.Signature.{HasLayout}
use Rattle.lms_bytes.specs.declared.params.Params.{Params}
use Rattle.lms_bytes.specs.declared.public_key.PublicKey.{PublicKey}
use Rattle.lms_verify.specs.Accepts.{AcceptsAt}
use Rattle.lms_verify.specs.Verdict.{IsVerdict}
use Rattle.lms_verify.specs.declared.verification.Verdict.TheVariants.{Accepted}
use Rattle.merkle_path.specs.Nodes.{candidate_root}
use Rattle.ots_chain.specs.LeafKey.{candidate_leaf_key}
use Rattle.ots_chain.specs.MessageHash.{message_digest}
use Rattle.tool_base.proofs.Parses.{SameKey, key-passes, one-key}
use Rattle.tool_base.proofs.Verdicts.{is-accepted}
use Rattle.stream_io.specs.Store.{StoreState}
use Rattle.tool_base.specs.Ending as ending
use Rattle.tool_base.specs.Ending.{Ending}
use Rattle.tool_base.specs.Grammars.{not_in_grammar, not_read}
use Rattle.tool_base.specs.Outputs.{Output}
use Rattle.tool_base.specs.Reads.{FailsToRead, failed, no_memory, too_long}
use Rattle.tool_base.specs.World.{Bytes, Failed, IsRead, TooLong, file_limit, from_to}
use Rattle.laws_commands.specs.Accepting.{IsAcceptable}
use Rattle.tool_keys.specs.Steps.{given, refused, verdict_told}
use Rattle.tool_keys.specs.Verify.{VerifyEnds}

-- under a key with the same parts the same is accepted
same-accepts : (a b : PublicKey) (text bytes : List ℕ) (leaf : ℕ) → SameKey a b → AcceptsAt a text bytes leaf → AcceptsAt b text bytes leaf
same-accepts a b text bytes leaf same leads =
    let f : Params → List ℕ → List ℕ =
    λ params id. candidate_root params id leaf (candidate_leaf_key params id leaf (message_digest params id leaf leads.c text) leads.y) leads.path in
    let moved : f a.params a.id ≡ f b.params b.id = ap (λ (p : Params). f p a.id) same.params ∙ ap (λ (i : List ℕ). f b.params i) same.id in
    record {
      c = leads.c;
      y = leads.y;
      path = leads.path;
      layout = subst (λ (p : Params). HasLayout p bytes leaf leads.c leads.y leads.path) same.params leads.layout;
      root_is = sym moved ∙ leads.root_is ∙ same.root_is;
    }

module _ (a e : StoreState) (key message signature : List ℕ) (leaf : ℕ) (has : IsAcceptable a key message signature leaf) where
  not-failed : (name file : List ℕ) → a.file name ≡ Some file → IsRead (from_to a e) name Failed → ⊥
  not-failed name file is read = let none = read.1 has.told has.steady in cc

  not-long : (name file : List ℕ) (got : ℕ) → a.file name ≡ Some file → length file ≤ file_limit → IsRead (from_to a e) name (TooLong got) → ⊥
  not-long name file got is fits read =
      let both : Some (length file) ≡ Some got = ap (option_map length) (sym is) ∙ read.1 has.told in
      let size : length file ≡ got = cc in
      let past = read.0 in
      omega (arith, size, fits, past)

  same-file : (name file got : List ℕ) → a.file name ≡ Some file → IsRead (from_to a e) name (Bytes got) → got ≡ file
  same-file name file got is read = let both : Some got ≡ Some file = sym (read.1 has.told) ∙ is in cc

  -- a file that is there and short enough is unread only because memory ran out
  wants-memory : (name file : List ℕ) (end : Ending) → a.file name ≡ Some file → length file ≤ file_limit → FailsToRead (from_to a e) name end → end ≡ ending.NoMemory
  wants-memory name file _ is fits (failed r) = absurd (not-failed name file is r)
  wants-memory name file _ is fits (too_long got r) = absurd (not-long name file got is fits r)
  wants-memory name file _ is fits no_memory = refl

  pub said : (end : Ending) (written : List Output) → VerifyEnds (from_to a e) key message signature end written
      → (end ≡ ending.NoMemory) ⊎ (end ≡ ending.Verified (Accepted leaf))
  said _ _ (refused end (not_read _ fails)) = inl (wants-memory key (public_bytes has.public) end has.key_is has.key_fits fails)
  said _ _ (refused _ (not_in_grammar bytes number r is)) =
      let none = key-passes has.public bytes (same-file key (public_bytes has.public) bytes has.key_is r) in
      let never : None ≡ Some number = sym (ap (option_map key_fault_number) none) ∙ is in
      absurd (cc)
  said _ _ (given public _ _ k (refused end fails)) = inl (wants-memory message has.text end has.message_is has.message_fits fails)
  said _ _ (given public _ _ k (given text _ _ m (refused end fails))) = inl (wants-memory signature has.bytes end has.signature_is has.signature_fits fails)
  said _ _ (given public _ _ k (given text _ _ m (given bytes _ _ s (verdict_told says is)))) =
      let same = one-key has.public public (sym (same-file key (public_bytes has.public) (public_bytes public) has.key_is k)) in
      let accepts = same-accepts has.public public has.text has.bytes leaf same has.accepted in
      let as_text = subst (λ (t : List ℕ). IsVerdict public t bytes says) (same-file message has.text text has.message_is m) is in
      let as_bytes = subst (λ (b : List ℕ). IsVerdict public has.text b says) (same-file signature has.bytes bytes has.signature_is s) as_text in
      inr (ap ending.Verified (is-accepted public has.text has.bytes leaf says accepts as_bytes))
