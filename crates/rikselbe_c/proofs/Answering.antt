-- What the numbers of verdicts say.
use Rattle.std.proofs.Common.{◌≡◌, ◌≢◌, ◌+◌, ℕ, List, length, Some, None, suc, zero, true, false, nat_lt, ◌==◌, refl, sym, ap, ◌∙◌, arith, subst}
use Rattle.std.specs.Prelude.{if◌then◌else◌}
use Rattle.std.proofs.lemmas.Bool.Decides.{nat_tests}
use Rattle.lms_bytes.specs.Bytes.{bytes_at, str_to_u32}
use Rattle.lms_bytes.specs.PublicKey.{public_bytes, public_fault, public_length}
use Rattle.lms_bytes.specs.declared.faults.KeyFault.{KeyFault}
use Rattle.lms_bytes.specs.declared.faults.KeyFault.TheVariants.{Length}
use Rattle.lms_bytes.specs.declared.faults.SigFault.{SigFault}
use Rattle.lms_bytes.specs.declared.public_key.PublicKey.{PublicKey}
use Rattle.lms_bytes.proofs.Layouts.{codes_accepted, key_lies, layout_passes, one_layout}
use Rattle.lms_verify.specs.Accepts.{AcceptsAt, LeadsTo, root_of_parts}
use Rattle.lms_verify.specs.Verdict.{IsVerdict}
use Rattle.lms_verify.specs.declared.verification.Verdict.{Verdict}
use Rattle.lms_verify.specs.declared.verification.Verdict.TheVariants as lms
use Rattle.hss_levels.specs.HssAccepts.{HssAccepts}
use Rattle.hss_levels.specs.HssKey.{hss_key_bytes, hss_key_fault}
use Rattle.hss_levels.specs.Verdict.{IsHssVerdict}
use Rattle.hss_levels.specs.declared.faults.HssFault.{HssFault}
use Rattle.hss_levels.specs.declared.faults.HssFault.TheVariants as fault
use Rattle.hss_levels.specs.declared.faults.HssKeyFault.{HssKeyFault}
use Rattle.hss_levels.specs.declared.faults.HssKeyFault.TheVariants as key
use Rattle.hss_levels.specs.declared.hss_key.HssKey.{HssKey}
use Rattle.hss_levels.specs.declared.verification.HssVerdict.{HssVerdict}
use Rattle.hss_levels.specs.declared.verification.HssVerdict.TheVariants as hss
use Rattle.hss_levels.proofs.Sets.{key-of-bytes}
use Rattle.rikselbe_c.specs.Answers.{HssAnswer, IsHssVerified, IsLmsVerified, LmsAccepts, LmsAnswer, no_key, verdict}
use Rattle.rikselbe_c.specs.Numbers.{hss_fault_number, hss_key_number, hss_number, leaf_of, lms_key_number, lms_number}

-- a signature that is accepted is accepted under the key that was read
pub under-key : (public : PublicKey) (key message signature : List ℕ) (q : ℕ) → key ≡ public_bytes public → LmsAccepts key message signature q
    → AcceptsAt public message signature q
under-key public key message signature q is accepts =
    let same : accepts.public ≡ public = key-of-bytes accepts.public public (sym accepts.key_is ∙ is) in
    subst (λ (k : PublicKey). AcceptsAt k message signature q) same accepts.accepted

-- what is a key passes every test
pub public-passes : (key : PublicKey) (bytes : List ℕ) → bytes ≡ public_bytes key → public_fault bytes ≡ None
unfolding public_fault
public-passes key bytes is =
    let lies = key_lies key bytes is in
    let len = lies.len in
    let long : nat_lt (length bytes) 8 ≡ false = grind (arith, nat_tests) in
    let exact : length bytes == 24 + key.params.n ≡ true = grind (arith, nat_tests) in
    let set : public_length key.params.lms ≡ 24 + key.params.n = rw (key.params.lms_is, public_length) refl in
    let want : public_length (str_to_u32 (bytes_at bytes 0 4)) ≡ 24 + key.params.n = ap public_length lies.lms_at ∙ set in
    rw (long, lies.lms_at, lies.ots_at, codes_accepted key.params)
    (subst (λ (w : ℕ). (if length bytes == w then None else Some (Length (length bytes) w)) ≡ None) (sym want) (rw exact refl))

-- a signature leads to one root
one-root : (public : PublicKey) (message signature : List ℕ) (q q' : ℕ) (root root' : List ℕ) → LeadsTo public message signature q root
    → LeadsTo public message signature q' root' → (q ≡ q') × (root ≡ root')
one-root public message signature q q' root root' a b =
    let same = one_layout public.params signature q q' a.c a.y a.path b.c b.y b.path a.layout b.layout in
    let moved : root_of_parts public message q a.c a.y a.path ≡ root_of_parts public message q' b.c b.y b.path =
    rw (same.leaf, same.c_same, same.y_same, same.path_same) refl in
    (same.leaf, sym a.root_is ∙ (moved ∙ b.root_is))

-- an accepted signature has no other verdict
pub one-verdict : (public : PublicKey) (message signature : List ℕ) (q : ℕ) (says : Verdict) → AcceptsAt public message signature q
    → IsVerdict public message signature says → says ≡ lms.Accepted q
one-verdict public message signature q (lms.Accepted leaf) accepts true_of = ap lms.Accepted (one-root public message signature leaf q _ _ true_of accepts).0
one-verdict public message signature q (lms.Malformed fault) accepts true_of =
    let passes = layout_passes public.params signature q accepts.c accepts.y accepts.path accepts.layout in
    let apart : Some fault ≡ None = sym true_of ∙ passes in
    absurd (cc)
one-verdict public message signature q (lms.OtherRoot got want) accepts true_of =
    absurd (true_of.1 (one-root public message signature true_of.0.0 q _ _ true_of.0.1 accepts).1)

-- 0 is the number of acceptance and of nothing else
lms-zero : (public : PublicKey) (key message signature : List ℕ) (says : Verdict) (old : ℕ) → key ≡ public_bytes public
    → IsVerdict public message signature says → lms_number says ≡ 0 → LmsAccepts key message signature (leaf_of says old)
lms-zero public key message signature (lms.Accepted leaf) old is true_of is_zero = record { public = public; key_is = is; accepted = true_of }
lms-zero public key message signature (lms.Malformed fault) old is true_of is_zero = absurd (omega arith)
lms-zero public key message signature (lms.OtherRoot got want) old is true_of is_zero = absurd (omega arith)

lms-other : (says : Verdict) (old : ℕ) → lms_number says ≢ 0 → leaf_of says old ≡ old
lms-other (lms.Accepted leaf) old other = absurd (other refl)
lms-other (lms.Malformed fault) old other = refl
lms-other (lms.OtherRoot got want) old other = refl

-- number and leaf of a verdict
pub verified : (public : PublicKey) (key message signature : List ℕ) (says : Verdict) (old result new : ℕ) → key ≡ public_bytes public
    → IsVerdict public message signature says → result ≡ lms_number says → new ≡ leaf_of says old → IsLmsVerified key message signature old result new
verified public key message signature says old result new is true_of number leaf = record {
  answer = subst (LmsAnswer key message signature) (sym number) (verdict public says is true_of);
  accepted = λ q accepts.
      let one = one-verdict public message signature q says (under-key public key message signature q is accepts) true_of in
      (number ∙ ap lms_number one, leaf ∙ ap (λ (v : Verdict). leaf_of v old) one);
  only = λ is_zero. subst (LmsAccepts key message signature) (sym leaf) (lms-zero public key message signature says old is true_of (sym number ∙ is_zero));
  refused = λ other. leaf ∙ lms-other says old (λ is_zero. other (number ∙ is_zero));
}

-- number and leaf of bytes that are no key
pub verified-no-key : (key message signature : List ℕ) (fault : KeyFault) (old result new : ℕ) → public_fault key ≡ Some fault
    → ((public : PublicKey) → key ≡ public_bytes public → ⊥) → result ≡ lms_key_number fault → new ≡ old → IsLmsVerified key message signature old result new
verified-no-key key message signature fault old result new refused none number leaf = record {
  answer = subst (LmsAnswer key message signature) (sym number) (no_key fault refused);
  accepted = λ q accepts. absurd (none accepts.public accepts.key_is);
  only = λ is_zero. absurd (omega (arith, number, is_zero));
  refused = λ _. leaf;
}

pub hss-key-other : (fault : HssKeyFault) → hss_key_number fault ≢ 0
hss-key-other key.Short = λ is_zero. omega arith
hss-key-other (key.Levels got) = λ is_zero. omega arith
hss-key-other (key.Key fault) = λ is_zero. omega arith

pub hss-fault-other : (of : HssFault) → hss_fault_number of ≢ 0
hss-fault-other fault.Short = λ is_zero. omega arith
hss-fault-other (fault.Levels got) = λ is_zero. omega arith
hss-fault-other (fault.Sig level of) = λ is_zero. omega arith
hss-fault-other (fault.Pub level of) = λ is_zero. omega arith

pub hss-zero : (public : HssKey) (message signature : List ℕ) (says : HssVerdict) → IsHssVerdict public message signature says → hss_number says ≡ 0
    → HssAccepts (hss_key_bytes public) message signature
hss-zero public message signature (hss.Accepted levels) true_of is_zero = true_of.1
hss-zero public message signature (hss.Malformed fault) true_of is_zero = absurd (hss-fault-other fault is_zero)
hss-zero public message signature (hss.OtherRoot level got want) true_of is_zero = absurd (omega arith)

-- the key of an accepted signature
pub key-of : (bytes message signature : List ℕ) → HssAccepts bytes message signature → (key : HssKey) × (bytes ≡ hss_key_bytes key)
key-of bytes message signature accepts =
    (record { levels = length accepts.keys + 1; top = accepts.top; first = omega arith; last = accepts.levels }, accepts.key_is)

-- the number of bytes that are no HSS key
pub hss-verified-no-key : (key message signature : List ℕ) (fault : HssKeyFault) (number : ℕ) → hss_key_fault key ≡ Some fault
    → ((public : HssKey) → key ≡ hss_key_bytes public → ⊥) → number ≡ hss_key_number fault → IsHssVerified key message signature number
hss-verified-no-key key message signature fault number refused none number_is = record {
  answer = subst (HssAnswer key message signature) (sym number_is) (no_key fault refused);
  accepted = λ accepts. let found = key-of key message signature accepts in absurd (none found.0 found.1);
  only = λ is_zero. absurd (hss-key-other fault (sym number_is ∙ is_zero));
}

-- two verdicts on the same bytes have one number
one-number : (public : PublicKey) (message signature : List ℕ) (says says' : Verdict) → IsVerdict public message signature says
    → IsVerdict public message signature says' → lms_number says ≡ lms_number says'
one-number public message signature (lms.Accepted q) says' here there = sym (ap lms_number (one-verdict public message signature q says' here there))
one-number public message signature (lms.Malformed of) (lms.Accepted q) here there =
    ap lms_number (one-verdict public message signature q (lms.Malformed of) there here)
one-number public message signature (lms.Malformed of) (lms.Malformed of') here there =
    let same : Some of ≡ Some of' = sym here ∙ there in
    let equal : of ≡ of' = cc in
    ap (λ (f : SigFault). lms_number (lms.Malformed f)) equal
one-number public message signature (lms.Malformed of) (lms.OtherRoot got want) here there =
    let lies = there.0.1 in
    let apart : Some of ≡ None = sym here ∙ layout_passes public.params signature there.0.0 lies.c lies.y lies.path lies.layout in
    absurd (cc)
one-number public message signature (lms.OtherRoot got want) (lms.Accepted q) here there =
    ap lms_number (one-verdict public message signature q (lms.OtherRoot got want) there here)
one-number public message signature (lms.OtherRoot got want) (lms.Malformed of) here there =
    let lies = here.0.1 in
    let apart : Some of ≡ None = sym there ∙ layout_passes public.params signature here.0.0 lies.c lies.y lies.path lies.layout in
    absurd (cc)
one-number public message signature (lms.OtherRoot got want) (lms.OtherRoot got' want') here there = refl

one-lms-answer : (key message signature : List ℕ) (a b : ℕ) → LmsAnswer key message signature a → LmsAnswer key message signature b → a ≡ b
one-lms-answer key message signature a b (no_key of here) (no_key of' there) =
    let same : Some of ≡ Some of' = sym here ∙ there in
    let equal : of ≡ of' = cc in
    ap lms_key_number equal
one-lms-answer key message signature a b (no_key of here) (verdict public says is true_of) =
    let apart : Some of ≡ None = sym here ∙ public-passes public key is in
    absurd (cc)
one-lms-answer key message signature a b (verdict public says is true_of) (no_key of there) =
    let apart : Some of ≡ None = sym there ∙ public-passes public key is in
    absurd (cc)
one-lms-answer key message signature a b (verdict public says is true_of) (verdict public' says' is' true_of') =
    let same = key-of-bytes public' public (sym is' ∙ is) in
    one-number public message signature says says' true_of (subst (λ (k : PublicKey). IsVerdict k message signature says') same true_of')

one-leaf : (key message signature : List ℕ) (old number new new' : ℕ) → IsLmsVerified key message signature old number new
    → IsLmsVerified key message signature old number new' → new ≡ new'
one-leaf key message signature old zero new new' a b = sym (b.accepted new (a.only refl)).1
one-leaf key message signature old (suc number) new new' a b = a.refused (λ is_zero. omega (arith, is_zero)) ∙ sym (b.refused (λ is_zero. omega (arith, is_zero)))

-- there is one answer
pub one-lms : (key message signature : List ℕ) (old number number' new new' : ℕ) → IsLmsVerified key message signature old number new
    → IsLmsVerified key message signature old number' new' → (number ≡ number') × (new ≡ new')
one-lms key message signature old number number' new new' a b =
    let same = one-lms-answer key message signature number number' a.answer b.answer in
    (same, one-leaf key message signature old number' new new' (subst (λ (n : ℕ). IsLmsVerified key message signature old n new) same a) b)
