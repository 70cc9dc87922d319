use Rattle.std.proofs.Common.{◌≡◌, ℕ, List, ◌∙◌, subst, sym}
use Rattle.lms_bytes.proofs.Layouts.{layout_passes}
use Rattle.lms_verify.specs.Accepts.{AcceptsAt}
use Rattle.session_core.specs.SessionInside.{seen}
use Rattle.session_core.specs.State.{State, asked_c}
use Rattle.session_core.specs.Verdicts.{IsDigest, LaysOut, LeadsAstray, digest_of}
use Rattle.session_core.specs.declared.faults.SessionFault.{SessionFault}
use Rattle.session_core.proofs.Digests.{digest-laid, digest-length, leaf-accepted, leaf-astray}
use Rattle.session_core.proofs.session.Session.if_accepted.Goals as goal

-- the same under another name of the session and of the bytes
laid-at : (s now : State) (bytes items : List ℕ) → s ≡ now → bytes ≡ items → LaysOut now.key.params items now.leaf (asked_c now) → LaysOut s.key.params bytes s.leaf (asked_c s)
laid-at s now bytes items e f laid =
    subst (λ (b : List ℕ). LaysOut s.key.params b s.leaf (asked_c s)) (sym f) (subst (λ (x : State). LaysOut x.key.params items x.leaf (asked_c x)) (sym e) laid)

some-at : (s now : State) (digest : List ℕ) → s ≡ now → IsDigest now digest → IsDigest s digest
some-at s now digest e some = subst (λ (x : State). IsDigest x digest) (sym e) some

accepted-at : (s now : State) (bytes items digest : List ℕ) → s ≡ now → bytes ≡ items
    → ((message : List ℕ) → digest ≡ digest_of s message → AcceptsAt s.key message bytes s.leaf)
    → (message : List ℕ) → digest ≡ digest_of now message → AcceptsAt now.key message items now.leaf
accepted-at s now bytes items digest e f a =
    subst (λ (x : State). (message : List ℕ) → digest ≡ digest_of x message → AcceptsAt x.key message items x.leaf) e
    (λ message is. subst (λ (b : List ℕ). AcceptsAt s.key message b s.leaf) f (a message is))

astray-at : (s now : State) (bytes items digest : List ℕ) (fault : SessionFault) → s ≡ now → bytes ≡ items
    → ((message : List ℕ) → digest ≡ digest_of s message → LeadsAstray s message bytes fault)
    → (message : List ℕ) → digest ≡ digest_of now message → LeadsAstray now message items fault
astray-at s now bytes items digest fault e f a =
    subst (λ (x : State). (message : List ℕ) → digest ≡ digest_of x message → LeadsAstray x message items fault) e
    (λ message is. subst (λ (b : List ℕ). LeadsAstray s message b fault) f (a message is))

pub verify_digest-requires : goal.verify_digest-requires
verify_digest-requires c =
    let s = seen c.self.inside in
    let some = some-at s c.args.self.now c.args.digest.now c.self.view_is c.requires.digest in
    record { digest = digest-length s c.args.digest.now some }

pub returns-in-Accepted-clause-accepted : goal.returns-in-Accepted-clause-accepted
returns-in-Accepted-clause-accepted c =
    let s = seen c.self.inside in
    let bytes = c.deref.result.now in
    let laid = laid-at s c.args.self.now bytes c.args.bytes.items c.self.view_is c.deref.ensures.value c.requires.laid in
    accepted-at s c.args.self.now bytes c.args.bytes.items c.args.digest.now c.self.view_is c.deref.ensures.value
    (λ message is. leaf-accepted s message bytes c.in-Accepted.leaf laid (c.in-Accepted.ensures.verdict message (digest-laid s message bytes c.args.digest.now laid is)))

pub returns-in-OtherRoot-clause-refused : goal.returns-in-OtherRoot-clause-refused
returns-in-OtherRoot-clause-refused c =
    let s = seen c.self.inside in
    let bytes = c.deref.result.now in
    let laid = laid-at s c.args.self.now bytes c.args.bytes.items c.self.view_is c.deref.ensures.value c.requires.laid in
    astray-at s c.args.self.now bytes c.args.bytes.items c.args.digest.now _ c.self.view_is c.deref.ensures.value
    (λ message is. leaf-astray s message bytes c.in-OtherRoot.got c.in-OtherRoot.want laid
    (c.in-OtherRoot.ensures.verdict message (digest-laid s message bytes c.args.digest.now laid is)))

pub unreachable-requires : goal.unreachable-requires
unreachable-requires c =
    let s = seen c.self.inside in
    let bytes = c.deref.result.now in
    let laid = laid-at s c.args.self.now bytes c.args.bytes.items c.self.view_is c.deref.ensures.value c.requires.laid in
    let some = some-at s c.args.self.now c.args.digest.now c.self.view_is c.requires.digest in
    let none = layout_passes s.key.params bytes s.leaf (asked_c s) laid.y laid.path laid.layout in
    let clash = sym none ∙ c.in-Malformed.ensures.verdict some.0 (digest-laid s some.0 bytes c.args.digest.now laid some.1) in
    cc
