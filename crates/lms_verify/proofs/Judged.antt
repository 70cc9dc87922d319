-- What the candidate root of a signature says about it.
use Rattle.std.proofs.Common.{◌≡◌, ◌∙◌, ℕ, List, Bool, true, false, refl, sym, if◌then◌else◌}
use Rattle.std.proofs.lemmas.Slice.Eq.{bytes_eq-Decides}
use Rattle.std.specs.Str.{bytes_eq}
use Rattle.lms_bytes.specs.Signature.{HasLayout}
use Rattle.lms_bytes.specs.declared.public_key.PublicKey.{PublicKey}
use Rattle.lms_verify.specs.Accepts.{LeadsTo, root_of_parts}
use Rattle.lms_verify.specs.Verdict.{IsVerdict, verdict_by}
use Rattle.lms_verify.specs.declared.verification.Verdict.{Verdict}
use Rattle.lms_verify.specs.declared.verification.Verdict.TheVariants.{Accepted, OtherRoot}

judged-by : (key : PublicKey) (message signature : List ℕ) (q : ℕ) (got : List ℕ) (same : Bool) → bytes_eq got key.root ≡ same
    → LeadsTo key message signature q got → IsVerdict key message signature (if same then Accepted q else OtherRoot got key.root)
judged-by key message signature q got true is leads =
    let root = (bytes_eq-Decides got key.root).0 is in
    record { c = leads.c; y = leads.y; path = leads.path; layout = leads.layout; root_is = leads.root_is ∙ root }
judged-by key message signature q got false is leads =
    ((q, leads), (λ root. let equal = (bytes_eq-Decides got key.root).1 root in cc), refl)

-- the verdict on a signature of this layout is true
pub is-judged : (key : PublicKey) (message signature : List ℕ) (q : ℕ) (c y path : List ℕ) → HasLayout key.params signature q c y path
    → IsVerdict key message signature (verdict_by key q (root_of_parts key message q c y path))
is-judged key message signature q c y path layout =
    let got = root_of_parts key message q c y path in
    judged-by key message signature q got (bytes_eq got key.root) refl (record { c = c; y = y; path = path; layout = layout; root_is = refl })

-- a root that is the key's is accepted
pub is-accepted-by : (key : PublicKey) (q : ℕ) (got : List ℕ) → got ≡ key.root → verdict_by key q got ≡ Accepted q
is-accepted-by key q got root = let equal = (bytes_eq-Decides got key.root).1 root in rw equal refl
