-- Whole signatures that are accepted, refused or neither.
use Rattle.std.proofs.Common.{◌≡◌, ◌≢◌, ℕ, suc, zero, ◌+◌, ◌-◌, ◌<◌, ◌≤◌, ◌^◌, List, [], ◌∷◌, ◌++◌, length, take, drop, Option, Some, None, refl, sym, ap, ◌∙◌, append_assoc, append-nil, arith, take_all, take-append-drop, length-drop}
use Rattle.std.specs.List.{AllByRecursion}
use Rattle.std.proofs.lemmas.Nat.{from_be_bytes-to_be_bytes_4}
use Rattle.lms_bytes.specs.Bytes.{bytes_at, str_to_u32, u32str}
use Rattle.lms_bytes.specs.PublicKey.{public_bytes}
use Rattle.lms_bytes.specs.declared.public_key.PublicKey.{PublicKey}
use Rattle.lms_bytes.proofs.Layouts.{key_lies}
use Rattle.hss_levels.specs.HssAccepts.{HssAccepts, hss_signature_bytes}
use Rattle.hss_levels.specs.HssKey.{hss_key_bytes}
use Rattle.hss_levels.specs.Levels.{Accepts, IsSigned, Level, SignedKey, levels_of, signed_keys_bytes}
use Rattle.hss_levels.specs.Parts.{ArePartsOf, IsHssFault, PartsFault, levels, part, short}
use Rattle.hss_levels.specs.Verdict.{IsHssVerdict, IsLevelsVerdict}
use Rattle.hss_levels.specs.declared.faults.HssFault.{HssFault}
use Rattle.hss_levels.specs.declared.faults.HssFault.TheVariants.{Short, Levels}
use Rattle.hss_levels.specs.declared.hss_key.HssKey.{HssKey}
use Rattle.hss_levels.specs.declared.verification.HssVerdict.{HssVerdict}
use Rattle.hss_levels.specs.declared.verification.HssVerdict.TheVariants.{Accepted, Malformed, OtherRoot}
use Rattle.hss_levels.proofs.Sets.{key-of-bytes}
use Rattle.hss_levels.proofs.Verdicts.{all-signed, length-levels, signed-read}

-- a number in front of a string, and the string after it
pub record SameFront (a b : ℕ) (x y : List ℕ) : Type 0 where
  pub number : a ≡ b
  pub rest : x ≡ y

pub same-front : (a b : ℕ) (x y : List ℕ) → a < 2 ^ 32 → b < 2 ^ 32 → u32str a ++ x ≡ u32str b ++ y → SameFront a b x y
same-front a b x y fits fits' same =
    let numbers : u32str a ≡ u32str b = ap (take 4) same in
    record {
      number = sym (from_be_bytes-to_be_bytes_4 a fits) ∙ (ap str_to_u32 numbers ∙ from_be_bytes-to_be_bytes_4 b fits');
      rest = ap (drop 4) same;
    }

-- the rest of a slice
pub rest-of : (s : List ℕ) (n : ℕ) → take (length s - n) (drop n s) ≡ drop n s
rest-of s n = let size = length-drop n s in take_all (length s - n) (drop n s) (omega arith)

pub fault-short : (key : HssKey) (signature : List ℕ) (fault : HssFault) → length signature < 4 → IsHssFault key signature fault → Short ≡ fault
fault-short key signature fault few (short _) = refl
fault-short key signature fault few (levels enough other) = absurd (omega arith)
fault-short key signature fault few (part keys of enough count same first) = absurd (omega arith)

pub fault-levels : (key : HssKey) (signature : List ℕ) (fault : HssFault) → 4 ≤ length signature
    → str_to_u32 (bytes_at signature 0 4) + 1 ≢ key.levels → IsHssFault key signature fault → Levels (str_to_u32 (bytes_at signature 0 4)) ≡ fault
fault-levels key signature fault enough other (short few) = absurd (omega arith)
fault-levels key signature fault enough other (levels _ _) = refl
fault-levels key signature fault enough other (part keys of _ count same first) = absurd (other (rw count same))

pub fault-part : (key : HssKey) (signature : List ℕ) (keys : ℕ) (fault : HssFault) → 4 ≤ length signature → str_to_u32 (bytes_at signature 0 4) ≡ keys
    → keys + 1 ≡ key.levels → IsHssFault key signature fault → PartsFault key.top 0 keys (drop 4 signature) fault
fault-part key signature keys fault enough count same (short few) = absurd (omega arith)
fault-part key signature keys fault enough count same (levels _ other) = absurd (other (rw count same))
fault-part key signature keys fault enough count same (part keys' of _ count' same' first) =
    let equal : keys' ≡ keys = sym count' ∙ count in rw equal at first

-- the parts of an accepted signature
pub record Parts (key : HssKey) (message signature : List ℕ) : Type 0 where
  pub keys : List SignedKey
  pub last : List ℕ
  pub are : (below : ℕ) → below + 1 ≡ key.levels → ArePartsOf key.top below (drop 4 signature) keys last
  pub number : str_to_u32 (bytes_at signature 0 4) + 1 ≡ key.levels
  pub enough : 4 ≤ length signature
  pub count : length keys + 1 ≡ key.levels
  pub signed : AllByRecursion IsSigned (levels_of key.top keys message last)

pub parts-of : (key : HssKey) (message signature : List ℕ) → HssAccepts (hss_key_bytes key) message signature → Parts key message signature
parts-of key message signature accepts =
    let keys = accepts.keys in
    let last = accepts.last in
    let small = accepts.levels in
    let most = key.last in
    let front = same-front key.levels (length keys + 1) (public_bytes key.top) (public_bytes accepts.top) (omega arith) (omega arith) accepts.key_is in
    let top : accepts.top ≡ key.top = sym (key-of-bytes key.top accepts.top front.rest) in
    let moved : signature ≡ u32str (length keys) ++ (signed_keys_bytes keys ++ last) = accepts.signature_is ∙ append_assoc (u32str (length keys)) (signed_keys_bytes keys) last in
    let rest : drop 4 signature ≡ signed_keys_bytes keys ++ last = ap (drop 4) moved in
    let number : str_to_u32 (bytes_at signature 0 4) ≡ length keys =
    ap (λ (s : List ℕ). str_to_u32 (bytes_at s 0 4)) moved ∙ from_be_bytes-to_be_bytes_4 (length keys) (omega arith) in
    let signed : AllByRecursion IsSigned (levels_of key.top keys message last) = rw top at accepts.signed in
    let levels_are = front.number in
    record {
      keys = keys;
      last = last;
      are = λ below same. record { count = omega arith; parts_are = rest; read = signed-read key.top keys message last signed };
      number = rw number (sym levels_are);
      enough = rw moved (omega arith);
      count = sym levels_are;
      signed = signed;
    }

-- a signature from its number and its parts
whole : (signature : List ℕ) (key : PublicKey) (below : ℕ) (keys : List SignedKey) (last : List ℕ) → u32str below ≡ bytes_at signature 0 4
    → ArePartsOf key below (drop 4 signature) keys last → signature ≡ hss_signature_bytes keys last
whole signature key below keys last number are =
    let counted : length keys ≡ below = are.count in
    sym (take-append-drop 4 signature)
    ∙ (ap (λ (s : List ℕ). s ++ drop 4 signature) (sym number)
    ∙ (ap (λ (s : List ℕ). u32str below ++ s) are.parts_are
    ∙ (sym (append_assoc (u32str below) (signed_keys_bytes keys) last) ∙ ap (λ (k : ℕ). u32str k ++ signed_keys_bytes keys ++ last) (sym counted))))

-- the verdict on the levels is the verdict on the signature
pub verdict-of : (key : HssKey) (message signature : List ℕ) (below : ℕ) (keys : List SignedKey) (last : List ℕ) (says : HssVerdict)
    → below + 1 ≡ key.levels → u32str below ≡ bytes_at signature 0 4 → ArePartsOf key.top below (drop 4 signature) keys last
    → IsLevelsVerdict 0 (levels_of key.top keys message last) says → IsHssVerdict key message signature says
verdict-of key message signature below keys last (Accepted count) same number are true_of =
    let counted = are.count in
    let most = key.last in
    let levels = length-levels key.top keys message last in
    let shown = true_of.0 in
    let levels_are : key.levels ≡ length keys + 1 = omega arith in (
      omega arith,
      record {
        top = key.top;
        keys = keys;
        last = last;
        levels = omega arith;
        key_is = ap (λ (k : ℕ). u32str k ++ public_bytes key.top) levels_are;
        signature_is = whole signature key.top below keys last number are;
        signed = true_of.1;
      },
    )
verdict-of key message signature below keys last (Malformed fault) same number are true_of = absurd true_of
verdict-of key message signature below keys last (OtherRoot at got want) same number are true_of =
    let counted = are.count in
    let place = true_of.1 in
    let at_is : true_of.0 ≡ at = omega arith in
    record {
      keys = keys;
      last = last;
      count = omega arith;
      signature_is = whole signature key.top below keys last number are;
      read = are.read;
      elsewhere = rw at_is at true_of.2;
    }

-- the verdict on an accepted signature
pub accepted-verdict : (key : HssKey) (message signature : List ℕ) (below : ℕ) (says : HssVerdict) → below + 1 ≡ key.levels
    → ((keys : List SignedKey) (last : List ℕ) → ArePartsOf key.top below (drop 4 signature) keys last
    → IsLevelsVerdict 0 (levels_of key.top keys message last) says)
    → HssAccepts (hss_key_bytes key) message signature → says ≡ Accepted key.levels
accepted-verdict key message signature below says same verdict accepts =
    let parts = parts-of key message signature accepts in
    let all = all-signed (levels_of key.top parts.keys message parts.last) says parts.signed (verdict parts.keys parts.last (parts.are below same)) in
    all ∙ ap Accepted (length-levels key.top parts.keys message parts.last ∙ parts.count)
