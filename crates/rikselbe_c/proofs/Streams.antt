-- Verifications in the making.
use Rattle.std.proofs.Common.{◌≡◌, ℕ, List, refl, sym, ◌∙◌}
use Rattle.lms_bytes.specs.Signature.{HasLayout}
use Rattle.lms_bytes.specs.declared.public_key.PublicKey.{PublicKey}
use Rattle.lms_verify.specs.Accepts.{LeadsTo}
use Rattle.merkle_path.specs.Nodes.{candidate_root}
use Rattle.ots_chain.specs.LeafKey.{candidate_leaf_key}
use Rattle.ots_chain.specs.MessageHash.{message_digest}

-- where a signature leads, step by step
pub leads : (key : PublicKey) (message signature : List ℕ) (q : ℕ) (c y path digest leaf_key got : List ℕ) → HasLayout key.params signature q c y path
    → digest ≡ message_digest key.params key.id q c message → leaf_key ≡ candidate_leaf_key key.params key.id q digest y
    → got ≡ candidate_root key.params key.id q leaf_key path → LeadsTo key message signature q got
leads key message signature q c y path digest leaf_key got layout digest_is leaf_key_is got_is = record {
  c = c;
  y = y;
  path = path;
  layout = layout;
  root_is = sym (got_is ∙ rw (leaf_key_is, digest_is) refl);
}
