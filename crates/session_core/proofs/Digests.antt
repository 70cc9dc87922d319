-- The digest of a message under a session's randomizer.
use Rattle.std.proofs.Common.{◌≡◌, ℕ, Bool, IsTrue, List, None, length, inr, ◌∙◌, ap, subst}
use Rattle.lms_bytes.specs.Signature.{signature_bytes}
use Rattle.lms_bytes.proofs.Layouts.{one_layout}
use Rattle.lms_bytes.proofs.Lengths.{length-hash}
use Rattle.lms_verify.specs.Accepts.{AcceptsAt, IsDigestOf, LeadsTo}
use Rattle.lms_verify.specs.Verdict.{IsVerdict}
use Rattle.lms_verify.specs.declared.verification.Verdict.TheVariants.{OtherRoot}
use Rattle.merkle_path.specs.Tree.{TreeNodes, path_at}
use Rattle.ots_chain.specs.MessageHash.{message_digest}
use Rattle.session_core.specs.Judging.{round_fault}
use Rattle.session_core.specs.State.{State, asked_c}
use Rattle.session_core.specs.Verdicts.{FinishFails, IsDigest, LaysOut, LeadsAstray, digest_of, joined_bytes, joined_values}
use Rattle.session_core.specs.declared.faults.SessionFault.{SessionFault}
use Rattle.session_core.specs.declared.faults.SessionFault.TheVariants.{WrongRoot}

pub digest-length : (s : State) (digest : List ℕ) → IsDigest s digest → length digest ≡ s.key.params.n
digest-length s digest is = ap length is.1 ∙ length-hash s.key.params _

-- a signature of the session's leaf and randomizer is no other signature
pub digest-laid : (s : State) (message bytes digest : List ℕ) → LaysOut s.key.params bytes s.leaf (asked_c s) → digest ≡ digest_of s message
    → IsDigestOf s.key message bytes digest
digest-laid s message bytes digest laid is q c y path layout =
    let params = s.key.params in
    let id = s.key.id in
    let same = one_layout params bytes s.leaf q (asked_c s) laid.y laid.path c y path laid.layout layout in
    is ∙ ap (λ (n : ℕ). message_digest params id n (asked_c s) message) same.leaf ∙ ap (λ (r : List ℕ). message_digest params id q r message) same.c_same

-- what is accepted is accepted for the session's leaf
pub leaf-accepted : (s : State) (message bytes : List ℕ) (leaf : ℕ) → LaysOut s.key.params bytes s.leaf (asked_c s) → AcceptsAt s.key message bytes leaf
    → AcceptsAt s.key message bytes s.leaf
leaf-accepted s message bytes leaf laid a =
    let same = one_layout s.key.params bytes leaf s.leaf a.c a.y a.path (asked_c s) laid.y laid.path a.layout laid.layout in
    subst (AcceptsAt s.key message bytes) same.leaf a

pub leaf-astray : (s : State) (message bytes got want : List ℕ) → LaysOut s.key.params bytes s.leaf (asked_c s) → IsVerdict s.key message bytes (OtherRoot got want)
    → LeadsAstray s message bytes (WrongRoot s.leaf got want)
leaf-astray s message bytes got want laid v =
    let leads = v.0.1 in
    let same = one_layout s.key.params bytes v.0.0 s.leaf leads.c leads.y leads.path (asked_c s) laid.y laid.path leads.layout laid.layout in
    record {
      got = got;
      fault_is = ap (WrongRoot s.leaf got) v.2;
      leads = subst (λ (q : ℕ). LeadsTo s.key message bytes q got) same.leaf leads;
      other = v.1;
    }

-- what was laid out is the session's signature
pub joined-is : (s : State) (leaves : List ℕ) (tree : TreeNodes) (message c values bytes digest : List ℕ)
    → bytes ≡ signature_bytes s.key.params s.leaf c values (path_at tree s.leaf) → c ≡ asked_c s → values ≡ joined_values s leaves digest
    → digest ≡ digest_of s message → bytes ≡ joined_bytes s leaves tree message
joined-is s leaves tree message c values bytes digest laid is_c are is =
    let path = path_at tree s.leaf in
    laid ∙ ap (λ (r : List ℕ). signature_bytes s.key.params s.leaf r values path) is_c
    ∙ ap (λ (v : List ℕ). signature_bytes s.key.params s.leaf (asked_c s) v path) (are ∙ ap (joined_values s leaves) is)

-- why a signature that was joined is not given
pub astray-fails : (s : State) (message : List ℕ) (told : Bool) (bytes joined : List ℕ) (before now : ℕ) (fault : SessionFault)
    → round_fault s (digest_of s message) ≡ None → (IsTrue told → bytes ≡ joined) → LeadsAstray s message bytes fault
    → FinishFails s message told joined before now fault
astray-fails s message told bytes joined before now fault none same a = inr (inr (inr (record {
  faultless = none;
  got = a.got;
  fault_is = a.fault_is;
  other = a.other;
  leads = λ shown. subst (λ (b : List ℕ). LeadsTo s.key message b s.leaf a.got) (same shown) a.leads;
})))
