-- What is true of levels is found level by level.
use Rattle.std.proofs.Common.{◌≡◌, ◌≢◌, ℕ, suc, zero, ◌+◌, ◌-◌, ◌<◌, ◌≤◌, List, [], ◌∷◌, ◌++◌, length, Option, Some, None, refl, sym, ap, ◌∙◌, append_assoc, arith}
use Rattle.std.specs.List.{AllByRecursion}
use Rattle.lms_bytes.specs.PublicKey.{public_bytes}
use Rattle.lms_bytes.specs.Signature.{signature_fault}
use Rattle.lms_bytes.specs.declared.public_key.PublicKey.{PublicKey}
use Rattle.lms_bytes.proofs.Layouts.{layout_passes, one_layout}
use Rattle.lms_verify.specs.Accepts.{AcceptsAt, root_of_parts}
use Rattle.lms_verify.specs.Verdict.{IsVerdict}
use Rattle.lms_verify.specs.declared.verification.Verdict.TheVariants as lms
use Rattle.hss_levels.specs.Levels.{Accepts, IsSigned, Level, SignedKey, levels_of}
use Rattle.hss_levels.specs.Parts.{AllRead, ArePartsOf}
use Rattle.hss_levels.specs.Verdict.{IsLevelsVerdict, LeadsElsewhere}
use Rattle.hss_levels.specs.declared.verification.HssVerdict.{HssVerdict}
use Rattle.hss_levels.specs.declared.verification.HssVerdict.TheVariants.{Accepted, Malformed, OtherRoot}
use Rattle.hss_levels.proofs.Levels.{alone}

-- the first of some levels leads elsewhere
elsewhere-first : (at : Level) (below : List Level) (got want : List ℕ) → IsVerdict at.key at.message at.signature (lms.OtherRoot got want)
    → LeadsElsewhere (at ∷ below) 0 got want
elsewhere-first at below got want other =
    record { above = []; at = at; below = below; levels_are = refl; number = refl; signed = tt; other = other }

pub other-first : (key : PublicKey) (level : ℕ) (message : List ℕ) (signed : SignedKey) (more : List SignedKey) (last got want : List ℕ)
    → IsVerdict key (public_bytes signed.key) signed.signature (lms.OtherRoot got want)
    → IsLevelsVerdict level (levels_of key (signed ∷ more) message last) (OtherRoot level got want)
other-first key level message signed more last got want other =
    (0, omega arith, elsewhere-first (record { key = key; message = public_bytes signed.key; signature = signed.signature }) (levels_of signed.key more message last) got want other)

pub other-last : (key : PublicKey) (level below : ℕ) (message parts : List ℕ) (keys : List SignedKey) (last got want : List ℕ)
    → below ≡ 0 → ArePartsOf key below parts keys last → IsVerdict key message parts (lms.OtherRoot got want)
    → IsLevelsVerdict level (levels_of key keys message last) (OtherRoot level got want)
other-last key level below message parts keys last got want none are other =
    let only = alone key below parts keys last none are in
    let there = elsewhere-first (record { key = key; message = message; signature = parts }) [] got want other in
    rw (only.keys_are, ← only.parts_are) (0, omega arith, there)

-- a signed level on top of levels
pub verdict-cons : (key : PublicKey) (level : ℕ) (message : List ℕ) (signed : SignedKey) (more : List SignedKey) (last : List ℕ) (says : HssVerdict)
    → Accepts key (public_bytes signed.key) signed.signature → IsLevelsVerdict (level + 1) (levels_of signed.key more message last) says
    → IsLevelsVerdict level (levels_of key (signed ∷ more) message last) says
verdict-cons key level message signed more last (Accepted count) accepts rest =
    let counted = rest.0 in
    (omega arith, (accepts, rest.1))
verdict-cons key level message signed more last (Malformed fault) accepts rest = rest
verdict-cons key level message signed more last (OtherRoot at got want) accepts rest =
    let top : Level = record { key = key; message = public_bytes signed.key; signature = signed.signature } in
    let there = rest.2 in
    let number = there.number in
    let place = rest.1 in (
      suc rest.0,
      omega arith,
      record {
        above = top ∷ there.above;
        at = there.at;
        below = there.below;
        levels_are = ap (λ (levels : List Level). top ∷ levels) there.levels_are;
        number = omega arith;
        signed = (accepts, there.signed);
        other = there.other;
      },
    )

-- the verdict if the signature of the key at the front was accepted
pub step-signed : (key : PublicKey) (level : ℕ) (message : List ℕ) (keys : List SignedKey) (last : List ℕ) (says : HssVerdict) (signed : SignedKey)
    (more : List SignedKey) (signature text : List ℕ) (low : PublicKey) (q : ℕ) → keys ≡ signed ∷ more → signature ≡ signed.signature → low ≡ signed.key
    → text ≡ public_bytes low → AcceptsAt key text signature q → IsLevelsVerdict (level + 1) (levels_of low more message last) says
    → IsLevelsVerdict level (levels_of key keys message last) says
step-signed key level message keys last says signed more signature text low q keys_are signature_is low_is text_is accepted rest =
    let text_at : text ≡ public_bytes signed.key = text_is ∙ ap public_bytes low_is in
    let accepts : AcceptsAt key (public_bytes signed.key) signed.signature q = rw (text_at, signature_is) at accepted in
    let below : IsLevelsVerdict (level + 1) (levels_of signed.key more message last) says = rw low_is at rest in
    rw keys_are (verdict-cons key level message signed more last says (q, accepts) below)

-- the verdict if it led to another root
pub step-other : (key : PublicKey) (level : ℕ) (message : List ℕ) (keys : List SignedKey) (last got want : List ℕ) (signed : SignedKey)
    (more : List SignedKey) (signature text : List ℕ) (low : PublicKey) → keys ≡ signed ∷ more → signature ≡ signed.signature → low ≡ signed.key
    → text ≡ public_bytes low → IsVerdict key text signature (lms.OtherRoot got want)
    → IsLevelsVerdict level (levels_of key keys message last) (OtherRoot level got want)
step-other key level message keys last got want signed more signature text low keys_are signature_is low_is text_is other =
    let text_at : text ≡ public_bytes signed.key = text_is ∙ ap public_bytes low_is in
    let there : IsVerdict key (public_bytes signed.key) signed.signature (lms.OtherRoot got want) = rw (text_at, signature_is) at other in
    rw keys_are (other-first key level message signed more last got want there)

-- a signature that is accepted leads to no other root
one-root : (level : Level) (got want : List ℕ) → IsSigned level → IsVerdict level.key level.message level.signature (lms.OtherRoot got want) → ⊥
one-root level got want signed other =
    let left = signed.1 in
    let right = other.0.1 in
    let same = one_layout level.key.params level.signature _ _ _ _ _ _ _ _ left.layout right.layout in
    let equal : root_of_parts level.key level.message signed.0 left.c left.y left.path ≡ root_of_parts level.key level.message other.0.0 right.c right.y right.path =
    rw (same.leaf, same.c_same, same.y_same, same.path_same) refl in
    other.1 (sym right.root_is ∙ (sym equal ∙ left.root_is))

signed-at : (above : List Level) (at : Level) (below : List Level) → AllByRecursion IsSigned (above ++ (at ∷ below)) → IsSigned at
signed-at [] at below all = all.0
signed-at (first ∷ above) at below all = signed-at above at below all.1

-- the verdict on levels that are all signed
pub all-signed : (levels : List Level) (says : HssVerdict) → AllByRecursion IsSigned levels → IsLevelsVerdict 0 levels says → says ≡ Accepted (length levels)
all-signed levels (Accepted count) signed true_of = let counted = true_of.0 in let same : count ≡ length levels = omega arith in ap Accepted same
all-signed levels (Malformed fault) signed true_of = absurd true_of
all-signed levels (OtherRoot at got want) signed true_of =
    let there = true_of.2 in
    absurd (one-root there.at got want (signed-at there.above there.at there.below (rw there.levels_are at signed)) there.other)

-- what is accepted reads
accepted-reads : (key : PublicKey) (message signature : List ℕ) → Accepts key message signature → signature_fault key.params signature ≡ None
accepted-reads key message signature accepts = layout_passes key.params signature accepts.0 _ _ _ accepts.1.layout

pub signed-read : (key : PublicKey) (keys : List SignedKey) (message last : List ℕ) → AllByRecursion IsSigned (levels_of key keys message last)
    → AllRead key keys last
signed-read key [] message last signed = accepted-reads key message last signed.0
signed-read key (first ∷ below) message last signed =
    (accepted-reads key (public_bytes first.key) first.signature signed.0, signed-read first.key below message last signed.1)

pub length-levels : (key : PublicKey) (keys : List SignedKey) (message last : List ℕ) → length (levels_of key keys message last) ≡ length keys + 1
length-levels key [] message last = omega arith
length-levels key (first ∷ below) message last = let rest = length-levels first.key below message last in omega arith
