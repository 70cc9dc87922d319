-- Verifications in the making, under HSS keys.
use Rattle.std.proofs.Common.{◌≡◌, ℕ, suc, ◌+◌, ◌*◌, ◌-◌, ◌<◌, ◌≤◌, List, [], ◌∷◌, ◌++◌, length, take, drop, Some, None, inl, inr, refl, sym, ap, ◌∙◌, subst, append_assoc, length-append, take-append-drop, arith}
use Rattle.std.specs.List.{AllByRecursion}
use Rattle.std.proofs.lemmas.List.{append_cancel_left, drop_at}
use Rattle.std.proofs.lemmas.Nat.{from_be_bytes-to_be_bytes_4}
use Rattle.lms_bytes.specs.Bytes.{bytes_at, str_to_u32, u32str}
use Rattle.lms_bytes.specs.PublicKey.{public_bytes, public_fault}
use Rattle.lms_bytes.specs.Signature.{signature_fault}
use Rattle.lms_bytes.specs.declared.public_key.PublicKey.{PublicKey}
use Rattle.lms_verify.specs.Verdict.{IsVerdict}
use Rattle.lms_verify.specs.declared.verification.Verdict.{Verdict}
use Rattle.lms_verify.specs.declared.verification.Verdict.TheVariants as lms
use Rattle.hss_levels.specs.HssAccepts.{HssAccepts, hss_signature_bytes}
use Rattle.hss_levels.specs.HssKey.{hss_key_bytes, hss_key_fault}
use Rattle.hss_levels.specs.Levels.{IsSigned, Level, SignedKey, levels_of, signed_keys_bytes}
use Rattle.hss_levels.specs.Parts.{AllRead, ArePartsOf, IsHssFault, PartsFault}
use Rattle.hss_levels.specs.Parts as fault
use Rattle.hss_levels.specs.Verdict.{IsHssVerdict, IsLevelsVerdict, IsOtherRoot, LeadsElsewhere}
use Rattle.hss_levels.specs.declared.faults.HssFault.{HssFault}
use Rattle.hss_levels.specs.declared.faults.HssKeyFault.{HssKeyFault}
use Rattle.hss_levels.specs.declared.hss_key.HssKey.{HssKey}
use Rattle.hss_levels.specs.declared.verification.HssVerdict.{HssVerdict}
use Rattle.hss_levels.specs.declared.verification.HssVerdict.TheVariants as hss
use Rattle.hss_levels.proofs.Accepting.{accepted-verdict, parts-of, same-front, verdict-of}
use Rattle.hss_levels.proofs.Reading.{fault-key, fault-last, faultless, front}
use Rattle.hss_levels.proofs.Sets.{key-of-bytes}
use Rattle.hss_levels.proofs.Verdicts.{length-levels, signed-read, step-signed}
use Rattle.rikselbe_c.specs.Answers.{HssAnswer, IsHssVerified, no_key, verdict}
use Rattle.rikselbe_c.specs.HssStream.{AreSigned, HasLevels, last_key}
use Rattle.rikselbe_c.specs.Numbers.{at_last_level, hss_key_number, hss_number}
use Rattle.rikselbe_c.proofs.Answering.{hss-fault-other, hss-zero, one-verdict, public-passes}

-- a signed key from its parts
same-signed : (a b : SignedKey) → a.signature ≡ b.signature → a.key ≡ b.key → a ≡ b
same-signed a b signature key =
    let first : a ≡ record { signature = b.signature; key = a.key } = ap (λ (s : List ℕ). let made : SignedKey = record { signature = s; key = a.key } in made) signature in
    let second : record { signature = b.signature; key = a.key } ≡ b = ap (λ (k : PublicKey). let made : SignedKey = record { signature = b.signature; key = k } in made) key in
    first ∙ second

-- a string has one row of signed keys and one last signature
pub one-parts : (key : PublicKey) (below : ℕ) (parts : List ℕ) (keys keys' : List SignedKey) (last last' : List ℕ) → ArePartsOf key below parts keys last
    → ArePartsOf key below parts keys' last' → (keys ≡ keys') × (last ≡ last')
one-parts key below parts [] [] last last' a b = (refl, sym a.parts_are ∙ b.parts_are)
one-parts key below parts [] (t ∷ ts) last last' a b = let none = a.count in let some = b.count in absurd (omega arith)
one-parts key below parts (s ∷ ks) [] last last' a b = let none = b.count in let some = a.count in absurd (omega arith)
one-parts key below parts (s ∷ ks) (t ∷ ts) last last' a b =
    let behind = signed_keys_bytes ks ++ last in
    let behind' = signed_keys_bytes ts ++ last' in
    let f = front key parts s behind a.read.0 (a.parts_are ∙ append_assoc (s.signature ++ public_bytes s.key) (signed_keys_bytes ks) last) in
    let g = front key parts t behind' b.read.0 (b.parts_are ∙ append_assoc (t.signature ++ public_bytes t.key) (signed_keys_bytes ts) last') in
    let same_key = key-of-bytes s.key t.key (sym f.message ∙ g.message) in
    let same = same-signed s t (sym f.signature ∙ g.signature) same_key in
    let rests : public_bytes s.key ++ behind ≡ public_bytes s.key ++ behind' = sym f.rest ∙ (g.rest ∙ ap (λ (k : PublicKey). public_bytes k ++ behind') (sym same_key)) in
    let rest = append_cancel_left (public_bytes s.key) behind behind' rests in
    let count = a.count in
    let count' = b.count in
    let more = one-parts s.key (length ks) behind ks ts last last' (record { count = refl; parts_are = refl; read = a.read.1 })
    (record { count = omega arith; parts_are = rest; read = subst (λ (k : PublicKey). AllRead k ts last') (sym same_key) b.read.1 }) in
    (ap (λ (u : SignedKey). u ∷ ks) same ∙ ap (λ (us : List SignedKey). t ∷ us) more.0, more.1)

-- if all parts read, none is at fault
no-fault : (key : PublicKey) (level below : ℕ) (parts : List ℕ) (of : HssFault) (keys : List SignedKey) (last : List ℕ) → ArePartsOf key below parts keys last
    → PartsFault key level below parts of → ⊥
no-fault key level below parts of [] last a found =
    let last_found = fault-last key level below parts of found (sym a.count) in
    let read : signature_fault key.params parts ≡ None = ap (λ (t : List ℕ). signature_fault key.params t) a.parts_are ∙ a.read in
    let apart : Some last_found.of ≡ None = sym last_found.found ∙ read in
    cc
no-fault key level below parts of (s ∷ ks) last a found =
    let count = a.count in
    let behind = signed_keys_bytes ks ++ last in
    let f = front key parts s behind a.read.0 (a.parts_are ∙ append_assoc (s.signature ++ public_bytes s.key) (signed_keys_bytes ks) last) in
    elim (fault-key key level (length ks) below parts of found (omega arith)) [
      | inl first ↦ faultless key level parts of (ap (λ (t : List ℕ). signature_fault key.params t) f.signature ∙ a.read.0) (ap public_fault f.message ∙ public-passes s.key (public_bytes s.key) refl) first
      | inr more ↦
          let g = front key parts more.signed more.behind more.read more.parts_are in
          let same_key = key-of-bytes more.signed.key s.key (sym g.message ∙ f.message) in
          let rests : public_bytes s.key ++ more.behind ≡ public_bytes s.key ++ behind = ap (λ (k : PublicKey). public_bytes k ++ more.behind) (sym same_key) ∙ (sym g.rest ∙ f.rest) in
          let rest = append_cancel_left (public_bytes s.key) more.behind behind rests in
          no-fault s.key (level + 1) (length ks) behind of ks last (record { count = refl; parts_are = refl; read = a.read.1 })
          (subst (λ (t : List ℕ). PartsFault s.key (level + 1) (length ks) t of) rest (subst (λ (k : PublicKey). PartsFault k (level + 1) (length ks) more.behind of) same_key more.fault_is))
    ]

-- what is accepted, for any message, is not at fault
no-hss-fault : (key : HssKey) (message signature : List ℕ) (of : HssFault) → HssAccepts (hss_key_bytes key) message signature → IsHssFault key signature of → ⊥
no-hss-fault key message signature of accepts (fault.short few) = let parts = parts-of key message signature accepts in let enough = parts.enough in omega arith
no-hss-fault key message signature of accepts (fault.levels _ other) = let parts = parts-of key message signature accepts in other parts.number
no-hss-fault key message signature of accepts (fault.part keys _ _ _ same first) =
    let parts = parts-of key message signature accepts in
    no-fault key.top 0 keys (drop 4 signature) of parts.keys parts.last (parts.are keys same) first

-- the last signature reads under the last key
pub read-last : (key : PublicKey) (keys : List SignedKey) (last : List ℕ) → AllRead key keys last → signature_fault (last_key key keys).params last ≡ None
read-last key [] last read = read
read-last key (s ∷ ks) last read = read-last s.key ks last read.1

-- the levels above the last, if all levels are signed
pub signed-above : (key : PublicKey) (keys : List SignedKey) (message last : List ℕ) → AllByRecursion IsSigned (levels_of key keys message last)
    → AreSigned key keys
signed-above key [] message last signed = tt
signed-above key (s ∷ ks) message last signed = (signed.0, signed-above s.key ks message last signed.1)

first-is : (a b : Level) (more more' : List Level) → a ∷ more ≡ b ∷ more' → a ≡ b
first-is a b more more' same = ap (λ (l : List Level). elim l [ [] ↦ a | x ∷ xs ↦ x ]) same

rest-is : (a b : Level) (more more' : List Level) → a ∷ more ≡ b ∷ more' → more ≡ more'
rest-is a b more more' same = ap (λ (l : List Level). elim l [ [] ↦ more | x ∷ xs ↦ xs ]) same

-- the same, if all levels but the last are signed
pub signed-front : (key : PublicKey) (keys : List SignedKey) (message last : List ℕ) (above : List Level) (at : Level) (below : List Level)
    → levels_of key keys message last ≡ above ++ (at ∷ below) → length above ≡ length keys → AllByRecursion IsSigned above → AreSigned key keys
signed-front key [] message last above at below are number signed = tt
signed-front key (s ∷ ks) message last [] at below are number signed = absurd (omega (arith, number))
signed-front key (s ∷ ks) message last (l ∷ ls) at below are number signed =
    let here = first-is _ l _ (ls ++ (at ∷ below)) are in
    let more = rest-is _ l _ (ls ++ (at ∷ below)) are in
    (subst IsSigned (sym here) signed.0, signed-front s.key ks message last ls at below more (omega (arith, number)) signed.1)

-- the verdict on the last level is the verdict on all, if the levels above are signed
pub levels-verdict : (key : PublicKey) (keys : List SignedKey) (level : ℕ) (message last : List ℕ) (says : HssVerdict) → AreSigned key keys
    → IsLevelsVerdict (level + length keys) (levels_of (last_key key keys) [] message last) says → IsLevelsVerdict level (levels_of key keys message last) says
levels-verdict key [] level message last says signed on_last =
    let here : level + 0 ≡ level = omega arith in
    subst (λ (n : ℕ). IsLevelsVerdict n (levels_of key [] message last) says) here on_last
levels-verdict key (s ∷ ks) level message last says signed on_last =
    let next : level + suc (length ks) ≡ level + 1 + length ks = omega arith in
    let rest = levels-verdict s.key ks (level + 1) message last says signed.1
    (subst (λ (n : ℕ). IsLevelsVerdict n (levels_of (last_key s.key ks) [] message last) says) next on_last) in
    step-signed key level message (s ∷ ks) last says s ks s.signature (public_bytes s.key) s.key signed.0.0 refl refl refl refl signed.0.1 rest

-- a verdict on the last level
pub last-verdict : (key : PublicKey) (level : ℕ) (message last : List ℕ) (says : Verdict) → signature_fault key.params last ≡ None
    → IsVerdict key message last says → IsLevelsVerdict level (levels_of key [] message last) (at_last_level level says)
last-verdict key level message last (lms.Accepted leaf) read true_of = (omega arith, ((leaf, true_of), tt))
last-verdict key level message last (lms.Malformed fault) read true_of =
    let apart : Some fault ≡ None = sym true_of ∙ read in
    absurd (cc)
last-verdict key level message last (lms.OtherRoot got want) read true_of = (
  0,
  omega arith,
  record {
    above = [];
    at = record { key = key; message = message; signature = last };
    below = [];
    levels_are = refl;
    number = refl;
    signed = tt;
    other = true_of;
  },
)

-- a verdict says the same of the key and the signature as of all levels
pub verified : (top : HssKey) (key message signature : List ℕ) (levels : HasLevels top signature) (says : Verdict) (number : ℕ) → key ≡ hss_key_bytes top
    → IsVerdict (last_key top.top levels.keys) message levels.last says → number ≡ hss_number (at_last_level (length levels.keys) says)
    → IsHssVerified key message signature number
verified top key message signature levels says number key_is true_of number_is =
    let all : HssVerdict = at_last_level (length levels.keys) says in
    let read = read-last top.top levels.keys levels.last levels.parts.read in
    let from_top : length levels.keys ≡ 0 + length levels.keys = omega arith in
    let on_levels : IsLevelsVerdict 0 (levels_of top.top levels.keys message levels.last) all =
    levels-verdict top.top levels.keys 0 message levels.last all levels.signed
    (subst (λ (n : ℕ). IsLevelsVerdict n (levels_of (last_key top.top levels.keys) [] message levels.last) all) from_top
    (last-verdict (last_key top.top levels.keys) (length levels.keys) message levels.last says read true_of)) in
    let on_bytes : IsHssVerdict top message signature all =
    verdict-of top message signature (length levels.keys) levels.keys levels.last all levels.count levels.number levels.parts on_levels in
    let Under = λ (k : List ℕ). HssAccepts k message signature in
    record {
      answer = subst (HssAnswer key message signature) (sym number_is) (verdict top all key_is on_bytes);
      accepted = λ accepts. number_is ∙ ap hss_number (accepted-verdict top message signature (length levels.keys) all levels.count
          (λ keys last are.
          let same = one-parts top.top (length levels.keys) (drop 4 signature) levels.keys keys levels.last last levels.parts are in
          subst (λ (ks : List SignedKey). IsLevelsVerdict 0 (levels_of top.top ks message last) all) same.0
          (subst (λ (l : List ℕ). IsLevelsVerdict 0 (levels_of top.top levels.keys message l) all) same.1 on_levels))
          (subst Under key_is accepts));
      only = λ zero. subst Under (sym key_is) (hss-zero top message signature all on_bytes (sym number_is ∙ zero));
    }

-- the levels of a signature that has these
has-levels : (key : HssKey) (signature : List ℕ) (keys : List SignedKey) (last : List ℕ) → length keys + 1 ≡ key.levels
    → signature ≡ hss_signature_bytes keys last → AllRead key.top keys last → AreSigned key.top keys → HasLevels key signature
has-levels key signature keys last count signature_is read signed =
    let moved : signature ≡ u32str (length keys) ++ (signed_keys_bytes keys ++ last) = signature_is ∙ append_assoc (u32str (length keys)) (signed_keys_bytes keys) last in
    let number : take 4 signature ≡ u32str (length keys) = ap (take 4) moved in
    let rest : drop 4 signature ≡ signed_keys_bytes keys ++ last = ap (drop 4) moved in
    record {
      keys = keys;
      last = last;
      count = count;
      number = sym number;
      parts = record { count = refl; parts_are = rest; read = read };
      signed = signed;
    }

pub levels-accepted : (key : HssKey) (message signature : List ℕ) → HssAccepts (hss_key_bytes key) message signature → HasLevels key signature
levels-accepted key message signature accepts =
    let keys = accepts.keys in
    let few = accepts.levels in
    let most = key.last in
    let same = same-front key.levels (length keys + 1) (public_bytes key.top) (public_bytes accepts.top) (omega arith) (omega arith) accepts.key_is in
    let top : accepts.top ≡ key.top = sym (key-of-bytes key.top accepts.top same.rest) in
    let signed : AllByRecursion IsSigned (levels_of key.top keys message accepts.last) =
    subst (λ (k : PublicKey). AllByRecursion IsSigned (levels_of k keys message accepts.last)) top accepts.signed in
    has-levels key signature keys accepts.last (sym same.number) accepts.signature_is (signed-read key.top keys message accepts.last signed)
    (signed-above key.top keys message accepts.last signed)

-- the level that leads elsewhere is one of the levels
pub level-inside : (key : HssKey) (message signature : List ℕ) (level : ℕ) (got want : List ℕ) → IsOtherRoot key message signature level got want
    → level + 1 ≤ key.levels
level-inside key message signature level got want other =
    let there = other.elsewhere in
    let count = other.count in
    let number = there.number in
    let all = sym (length-levels key.top other.keys message other.last) ∙ (ap length there.levels_are ∙ length-append there.above (there.at ∷ there.below)) in
    omega (arith, count, number, all)

pub levels-other : (key : HssKey) (message signature : List ℕ) (level : ℕ) (got want : List ℕ) → level + 1 ≡ key.levels
    → IsOtherRoot key message signature level got want → HasLevels key signature
levels-other key message signature level got want at_last other =
    let there = other.elsewhere in
    let count = other.count in
    let number = there.number in
    has-levels key signature other.keys other.last other.count other.signature_is other.read
    (signed-front key.top other.keys message other.last there.above there.at there.below there.levels_are (omega (arith, count, number, at_last)) there.signed)

-- a signature that is at fault, whatever the message is
pub malformed : (top : HssKey) (key message signature : List ℕ) (of : HssFault) (number : ℕ) → key ≡ hss_key_bytes top → IsHssFault top signature of
    → number ≡ hss_number (hss.Malformed of) → IsHssVerified key message signature number
malformed top key message signature of number key_is found number_is = record {
  answer = subst (HssAnswer key message signature) (sym number_is) (verdict top (hss.Malformed of) key_is found);
  accepted = λ accepts. absurd (no-hss-fault top message signature of (subst (λ (k : List ℕ). HssAccepts k message signature) key_is accepts) found);
  only = λ zero. absurd (hss-fault-other of (sym number_is ∙ zero));
}

-- the levels above the last do not depend on the message
pub record Moved (key : PublicKey) (keys : List SignedKey) (message last : List ℕ) (above : List Level) (at : Level) : Type 0 where
  pub below : List Level
  pub are : levels_of key keys message last ≡ above ++ (at ∷ below)

moved-levels : (key : PublicKey) (keys : List SignedKey) (message other last : List ℕ) (above : List Level) (at : Level) (below : List Level)
    → levels_of key keys message last ≡ above ++ (at ∷ below) → length above < length keys → Moved key keys other last above at
moved-levels key [] message other last above at below are few = absurd (omega (arith, few))
moved-levels key (s ∷ ks) message other last [] at below are few =
    let here = first-is _ at _ below are in
    record { below = levels_of s.key ks other last; are = ap (λ (l : Level). l ∷ levels_of s.key ks other last) here }
moved-levels key (s ∷ ks) message other last (l ∷ ls) at below are few =
    let here = first-is _ l _ (ls ++ (at ∷ below)) are in
    let more = moved-levels s.key ks message other last ls at below (rest-is _ l _ (ls ++ (at ∷ below)) are) (omega (arith, few)) in
    record {
      below = more.below;
      are = ap (λ (f : Level). f ∷ levels_of s.key ks other last) here ∙ ap (λ (t : List Level). l ∷ t) more.are;
    }

-- a signature with a level above the last that leads elsewhere, whatever the message is
pub other-above : (top : HssKey) (key first message signature : List ℕ) (level : ℕ) (got want : List ℕ) (number : ℕ) → key ≡ hss_key_bytes top
    → level + 1 < top.levels → IsOtherRoot top first signature level got want → number ≡ hss_number (hss.OtherRoot level got want)
    → IsHssVerified key message signature number
other-above top key first message signature level got want number key_is above_last other number_is =
    let there = other.elsewhere in
    let count = other.count in
    let at_level = there.number in
    let moved = moved-levels top.top other.keys first message other.last there.above there.at there.below there.levels_are (omega (arith, count, at_level, above_last)) in
    let elsewhere : LeadsElsewhere (levels_of top.top other.keys message other.last) level got want =
    record { above = there.above; at = there.at; below = moved.below; levels_are = moved.are; number = there.number; signed = there.signed; other = there.other } in
    let on_bytes : IsOtherRoot top message signature level got want =
    record { keys = other.keys; last = other.last; count = other.count; signature_is = other.signature_is; read = other.read; elsewhere = elsewhere } in
    let rest : drop 4 signature ≡ signed_keys_bytes other.keys ++ other.last =
    ap (drop 4) (other.signature_is ∙ append_assoc (u32str (length other.keys)) (signed_keys_bytes other.keys) other.last) in
    let parts : ArePartsOf top.top (length other.keys) (drop 4 signature) other.keys other.last = record { count = refl; parts_are = rest; read = other.read } in
    let all : HssVerdict = hss.OtherRoot level got want in
    let on_levels : IsLevelsVerdict 0 (levels_of top.top other.keys message other.last) all = (level, omega arith, elsewhere) in
    let Under = λ (k : List ℕ). HssAccepts k message signature in
    record {
      answer = subst (HssAnswer key message signature) (sym number_is) (verdict top all key_is on_bytes);
      accepted = λ accepts.
          let none : all ≡ hss.Accepted top.levels = accepted-verdict top message signature (length other.keys) all other.count
          (λ keys last are.
          let same = one-parts top.top (length other.keys) (drop 4 signature) other.keys keys other.last last parts are in
          subst (λ (ks : List SignedKey). IsLevelsVerdict 0 (levels_of top.top ks message last) all) same.0
          (subst (λ (l : List ℕ). IsLevelsVerdict 0 (levels_of top.top other.keys message l) all) same.1 on_levels))
          (subst Under key_is accepts) in
          absurd (cc);
      only = λ zero. subst Under (sym key_is) (hss-zero top message signature all on_bytes (sym number_is ∙ zero));
    }

-- the end of a string, from its length
pub end-of : (front end : List ℕ) → drop (length (front ++ end) - length end) (front ++ end) ≡ end
end-of front end =
    let size = length-append front end in
    let place : length (front ++ end) - length end ≡ length front = omega (arith, size) in
    rw place (drop_at front end (length front) refl)

pub last-of-levels : (top : HssKey) (signature : List ℕ) (levels : HasLevels top signature) → drop (length signature - length levels.last) signature ≡ levels.last
last-of-levels top signature levels =
    let whole : signature ≡ (take 4 signature ++ signed_keys_bytes levels.keys) ++ levels.last =
    sym (take-append-drop 4 signature) ∙ (ap (λ (t : List ℕ). take 4 signature ++ t) levels.parts.parts_are
    ∙ sym (append_assoc (take 4 signature) (signed_keys_bytes levels.keys) levels.last)) in
    subst (λ (s : List ℕ). drop (length s - length levels.last) s ≡ levels.last) (sym whole) (end-of (take 4 signature ++ signed_keys_bytes levels.keys) levels.last)

-- no more bytes than there are
pub last-fits : (top : HssKey) (signature : List ℕ) (levels : HasLevels top signature) → length levels.last ≤ length signature
last-fits top signature levels =
    let whole : signature ≡ (take 4 signature ++ signed_keys_bytes levels.keys) ++ levels.last =
    sym (take-append-drop 4 signature) ∙ (ap (λ (t : List ℕ). take 4 signature ++ t) levels.parts.parts_are
    ∙ sym (append_assoc (take 4 signature) (signed_keys_bytes levels.keys) levels.last)) in
    let size = ap length whole ∙ length-append (take 4 signature ++ signed_keys_bytes levels.keys) levels.last in
    omega (arith, size)

-- a string whose first levels are signed, up to one that leads elsewhere, has only one level of that kind
one-level : (levels : List Level) (level level' : ℕ) (got want got' want' : List ℕ) (above above' : List Level) (at at' : Level) (below below' : List Level)
    → levels ≡ above ++ (at ∷ below) → levels ≡ above' ++ (at' ∷ below') → length above ≡ level → length above' ≡ level'
    → AllByRecursion IsSigned above → AllByRecursion IsSigned above' → (IsSigned at → ⊥) → (IsSigned at' → ⊥) → level ≡ level'
one-level levels level level' got want got' want' [] [] at at' below below' are are' number number' signed signed' other other' = sym number ∙ number'
one-level levels level level' got want got' want' [] (l ∷ ls) at at' below below' are are' number number' signed signed' other other' =
    let same = first-is at l below (ls ++ (at' ∷ below')) (sym are ∙ are') in
    absurd (other (subst IsSigned (sym same) signed'.0))
one-level levels level level' got want got' want' (l ∷ ls) [] at at' below below' are are' number number' signed signed' other other' =
    let same = first-is l at' (ls ++ (at ∷ below)) below' (sym are ∙ are') in
    absurd (other' (subst IsSigned same signed.0))
one-level levels level level' got want got' want' (l ∷ ls) (k ∷ ks) at at' below below' are are' number number' signed signed' other other' =
    let rest = rest-is l k (ls ++ (at ∷ below)) (ks ++ (at' ∷ below')) (sym are ∙ are') in
    let more = one-level (ls ++ (at ∷ below)) (length ls) (length ks) got want got' want' ls ks at at' below below' refl rest refl refl signed.1 signed'.1 other other' in
    sym number ∙ (ap suc more ∙ number')

-- a level that leads elsewhere is not signed
not-signed : (at : Level) (got want : List ℕ) → IsVerdict at.key at.message at.signature (lms.OtherRoot got want) → IsSigned at → ⊥
not-signed at got want other signed =
    let one = one-verdict at.key at.message at.signature signed.0 (lms.OtherRoot got want) signed.1 other in
    cc

-- the parts of a signature with a level that leads elsewhere
other-levels : (top : HssKey) (message signature : List ℕ) (level : ℕ) (got want : List ℕ) (other : IsOtherRoot top message signature level got want)
    → ArePartsOf top.top (length other.keys) (drop 4 signature) other.keys other.last
other-levels top message signature level got want other =
    let moved = other.signature_is ∙ append_assoc (u32str (length other.keys)) (signed_keys_bytes other.keys) other.last in
    record { count = refl; parts_are = ap (drop 4) moved; read = other.read }

other-fault : (top : HssKey) (signature : List ℕ) (below : ℕ) (keys : List SignedKey) (last : List ℕ) (of : HssFault) → 4 ≤ length signature
    → str_to_u32 (bytes_at signature 0 4) ≡ below → below + 1 ≡ top.levels → ArePartsOf top.top below (drop 4 signature) keys last → IsHssFault top signature of → ⊥
other-fault top signature below keys last of enough number count parts (fault.short few) = omega arith
other-fault top signature below keys last of enough number count parts (fault.levels _ other) = other (rw number count)
other-fault top signature below keys last of enough number count parts (fault.part found _ _ is _ first) =
    let same : found ≡ below = sym is ∙ number in
    no-fault top.top 0 below (drop 4 signature) of keys last parts (subst (λ (n : ℕ). PartsFault top.top 0 n (drop 4 signature) of) same first)

-- if a level leads elsewhere, all parts read
no-other-fault : (top : HssKey) (message signature : List ℕ) (level : ℕ) (got want : List ℕ) (of : HssFault) → IsOtherRoot top message signature level got want
    → IsHssFault top signature of → ⊥
no-other-fault top message signature level got want of other found =
    let moved = other.signature_is ∙ append_assoc (u32str (length other.keys)) (signed_keys_bytes other.keys) other.last in
    let few = top.last in
    let count = other.count in
    let number : str_to_u32 (bytes_at signature 0 4) ≡ length other.keys =
    ap (λ (s : List ℕ). str_to_u32 (bytes_at s 0 4)) moved ∙ from_be_bytes-to_be_bytes_4 (length other.keys) (omega arith) in
    other-fault top signature (length other.keys) other.keys other.last of (rw moved (omega arith)) number count (other-levels top message signature level got want other) found

-- it has no other verdict
pub one-other : (top : HssKey) (message signature : List ℕ) (level : ℕ) (got want : List ℕ) (says : HssVerdict) → IsOtherRoot top message signature level got want
    → IsHssVerdict top message signature says → hss_number (hss.OtherRoot level got want) ≡ hss_number says
one-other top message signature level got want (hss.Accepted levels) other true_of =
    let parts = other-levels top message signature level got want other in
    let all : HssVerdict = hss.OtherRoot level got want in
    let on_levels : IsLevelsVerdict 0 (levels_of top.top other.keys message other.last) all = (level, omega arith, other.elsewhere) in
    let none : all ≡ hss.Accepted top.levels = accepted-verdict top message signature (length other.keys) all other.count
    (λ keys last are.
    let same = one-parts top.top (length other.keys) (drop 4 signature) other.keys keys other.last last parts are in
    subst (λ (ks : List SignedKey). IsLevelsVerdict 0 (levels_of top.top ks message last) all) same.0
    (subst (λ (l : List ℕ). IsLevelsVerdict 0 (levels_of top.top other.keys message l) all) same.1 on_levels)) true_of.1 in
    absurd (cc)
one-other top message signature level got want (hss.Malformed of) other true_of = absurd (no-other-fault top message signature level got want of other true_of)
one-other top message signature level got want (hss.OtherRoot level' got' want') other other' =
    let parts = other-levels top message signature level got want other in
    let parts' = other-levels top message signature level' got' want' other' in
    let count = other.count in
    let count' = other'.count in
    let same_count : length other'.keys ≡ length other.keys = omega arith in
    let same = one-parts top.top (length other.keys) (drop 4 signature) other.keys other'.keys other.last other'.last parts
    (subst (λ (n : ℕ). ArePartsOf top.top n (drop 4 signature) other'.keys other'.last) same_count parts') in
    let there = other.elsewhere in
    let there' = other'.elsewhere in
    let levels_are : levels_of top.top other.keys message other.last ≡ levels_of top.top other'.keys message other'.last =
    ap (λ (ks : List SignedKey). levels_of top.top ks message other.last) same.0 ∙ ap (λ (l : List ℕ). levels_of top.top other'.keys message l) same.1 in
    let one = one-level (levels_of top.top other.keys message other.last) level level' got want got' want' there.above there'.above there.at there'.at there.below there'.below
    there.levels_are (levels_are ∙ there'.levels_are) there.number there'.number there.signed there'.signed
    (not-signed there.at got want there.other) (not-signed there'.at got' want' there'.other) in
    ap (λ (n : ℕ). 256 * n + 1) one

-- the answer under the key that was read is the answer of its verdict
pub one-hss : (top : HssKey) (key message signature : List ℕ) (number : ℕ) (says : HssVerdict) → key ≡ hss_key_bytes top → hss_key_fault key ≡ None
    → ((other : HssKey) → key ≡ hss_key_bytes other → other ≡ top) → IsHssVerdict top message signature says
    → (HssAccepts (hss_key_bytes top) message signature → says ≡ hss.Accepted top.levels) → ((of : HssFault) → IsHssFault top signature of → says ≡ hss.Malformed of)
    → HssAnswer key message signature number → number ≡ hss_number says
one-hss top key message signature number says key_is faultless one true_of accepted malformed (no_key of found) =
    let apart : Some of ≡ None = sym found ∙ faultless in
    absurd (cc)
one-hss top key message signature number says key_is faultless one true_of accepted malformed (verdict public (hss.Accepted levels) is there) =
    sym (ap hss_number (accepted (subst (λ (k : HssKey). HssAccepts (hss_key_bytes k) message signature) (one public is) there.1)))
one-hss top key message signature number says key_is faultless one true_of accepted malformed (verdict public (hss.Malformed of) is there) =
    sym (ap hss_number (malformed of (subst (λ (k : HssKey). IsHssFault k signature of) (one public is) there)))
one-hss top key message signature number says key_is faultless one true_of accepted malformed (verdict public (hss.OtherRoot level got want) is there) =
    one-other top message signature level got want says (subst (λ (k : HssKey). IsOtherRoot k message signature level got want) (one public is) there) true_of

pub one-hss-no-key : (key message signature : List ℕ) (number : ℕ) (of : HssKeyFault) → hss_key_fault key ≡ Some of
    → ((public : HssKey) → key ≡ hss_key_bytes public → ⊥) → HssAnswer key message signature number → number ≡ hss_key_number of
one-hss-no-key key message signature number of found none (no_key of' found') =
    let same : Some of' ≡ Some of = sym found' ∙ found in
    let equal : of' ≡ of = cc in
    ap hss_key_number equal
one-hss-no-key key message signature number of found none (verdict public says is there) = absurd (none public is)
