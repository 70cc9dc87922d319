-- The digest that a session asks with.
use Rattle.std.proofs.Common.{◌≡◌, ℕ, List, Option, Some, None, replicate, ap, sym, ◌∙◌}
use Rattle.lms_bytes.specs.declared.public_key.PublicKey.{PublicKey}
use Rattle.ots_chain.specs.MessageHash.{message_digest}
use Rattle.session_core.specs.State.{SameAsk, State}
use Rattle.session_core.specs.Verdicts.{digest_of}

abbrev digest_in : List ℕ → PublicKey → ℕ → Option (List ℕ) → List ℕ
digest_in message key leaf c = message_digest key.params key.id leaf (elim c [ None ↦ replicate key.params.n 0 | Some r ↦ r ]) message

-- no reply changes it
pub same-digest : (old new : State) (message : List ℕ) → SameAsk old new → digest_of old message ≡ digest_of new message
same-digest old new message same =
    ap (λ (k : PublicKey). digest_in message k old.leaf old.c) (sym same.key)
    ∙ ap (λ (n : ℕ). digest_in message new.key n old.c) (sym same.leaf)
    ∙ ap (digest_in message new.key new.leaf) (sym same.c)
