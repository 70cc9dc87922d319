-- A signature that is accepted is verified so.
use Rattle.std.proofs.Common.{◌≡◌, ℕ, List, sym, ap, ◌∙◌}
use Rattle.lms_bytes.proofs.Layouts.{layout_passes, one_layout}
use Rattle.lms_bytes.specs.declared.public_key.PublicKey.{PublicKey}
use Rattle.lms_verify.specs.Accepts.{AcceptsAt, LeadsTo, root_of_parts}
use Rattle.lms_verify.specs.Verdict.{IsVerdict}
use Rattle.lms_verify.specs.declared.verification.Verdict.{Verdict}
use Rattle.lms_verify.specs.declared.verification.Verdict.TheVariants.{Accepted, Malformed, OtherRoot}

one-root : (key : PublicKey) (text bytes : List ℕ) (p q : ℕ) (got want : List ℕ) → LeadsTo key text bytes p got → LeadsTo key text bytes q want → got ≡ want
one-root key text bytes p q got want a b =
    let parts = one_layout key.params bytes p q a.c a.y a.path b.c b.y b.path a.layout b.layout in
    let f = root_of_parts key text in
    sym a.root_is ∙ ap (λ (n : ℕ). f n a.c a.y a.path) parts.leaf ∙ ap (λ (c : List ℕ). f q c a.y a.path) parts.c_same
    ∙ ap (λ (y : List ℕ). f q b.c y a.path) parts.y_same ∙ ap (λ (l : List ℕ). f q b.c b.y l) parts.path_same ∙ b.root_is

pub is-accepted : (key : PublicKey) (text bytes : List ℕ) (leaf : ℕ) (says : Verdict) → AcceptsAt key text bytes leaf → IsVerdict key text bytes says → says ≡ Accepted leaf
is-accepted key text bytes leaf (Accepted q) accepts is =
    let parts = one_layout key.params bytes q leaf is.c is.y is.path accepts.c accepts.y accepts.path is.layout accepts.layout in
    ap Accepted parts.leaf
is-accepted key text bytes leaf (Malformed fault) accepts is =
    absurd (let none = layout_passes key.params bytes leaf accepts.c accepts.y accepts.path accepts.layout in cc)
is-accepted key text bytes leaf (OtherRoot got want) accepts is =
    absurd (is.1 (one-root key text bytes is.0.0 leaf got key.root is.0.1 accepts))
