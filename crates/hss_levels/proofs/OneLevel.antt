-- Keys of one level, and signatures of two.
use Rattle.std.proofs.Common.{◌≡◌, ◌↔◌, ℕ, ◌+◌, ◌<◌, ◌≤◌, List, [], ◌∷◌, ◌++◌, length, drop, refl, sym, ap, ◌∙◌, append_assoc, append-nil, arith}
use Rattle.std.specs.List.{AllByRecursion}
use Rattle.lms_bytes.specs.Bytes.{u32str}
use Rattle.lms_bytes.specs.PublicKey.{public_bytes}
use Rattle.lms_bytes.specs.declared.public_key.PublicKey.{PublicKey}
use Rattle.hss_levels.specs.HssAccepts.{HssAccepts, hss_signature_bytes}
use Rattle.hss_levels.specs.Levels.{Accepts, IsSigned, SignedKey, levels_of, signed_keys_bytes}
use Rattle.hss_levels.specs.TwoLevels.{two_level_key, two_level_signature}
use Rattle.hss_levels.proofs.Accepting.{same-front}
use Rattle.hss_levels.proofs.Sets.{key-of-bytes}

-- what one level accepts
one-accepted : (key : PublicKey) (message signature : List ℕ) (top : PublicKey) (keys : List SignedKey) (last : List ℕ)
    → length keys + 1 ≤ 8 → u32str 1 ++ public_bytes key ≡ u32str (length keys + 1) ++ public_bytes top
    → u32str 0 ++ signature ≡ hss_signature_bytes keys last → AllByRecursion IsSigned (levels_of top keys message last) → Accepts key message signature
one-accepted key message signature top [] last few key_is signature_is signed =
    let equal = key-of-bytes key top (ap (drop 4) key_is) in
    let same : signature ≡ last = ap (drop 4) signature_is in
    rw (equal, same) signed.0
one-accepted key message signature top (first ∷ more) last few key_is signature_is signed =
    let front = same-front 1 _ (public_bytes key) (public_bytes top) (omega arith) (omega arith) key_is in
    let number = front.number in
    absurd (omega arith)

pub one-level : (key : PublicKey) (message signature : List ℕ)
    → HssAccepts (u32str 1 ++ public_bytes key) message (u32str 0 ++ signature) ↔ Accepts key message signature
one-level key message signature = (
  λ a. one-accepted key message signature a.top a.keys a.last a.levels a.key_is a.signature_is a.signed,
  λ a. record { top = key; keys = []; last = signature; levels = omega arith; key_is = refl; signature_is = refl; signed = (a, tt) },
)

pub two-levels : (top : PublicKey) (top_signature : List ℕ) (low : PublicKey) (low_signature message : List ℕ)
    → Accepts top (public_bytes low) top_signature → Accepts low message low_signature
    → HssAccepts (two_level_key top) message (two_level_signature top_signature low low_signature)
two-levels top top_signature low low_signature message above below = record {
  top = top;
  keys = (record { signature = top_signature; key = low }) ∷ [];
  last = low_signature;
  levels = omega arith;
  key_is = refl;
  signature_is =
      rw (append-nil (top_signature ++ public_bytes low)) (ap (λ (s : List ℕ). s ++ low_signature) (append_assoc (u32str 1) top_signature (public_bytes low)));
  signed = (above, (below, tt));
}
