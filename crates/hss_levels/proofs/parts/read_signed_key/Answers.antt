use Rattle.std.proofs.Common.{◌≡◌, ◌++◌, ◌∙◌, List, ℕ, None, Some, take-append-drop, drop, refl, sym, ap}
use Rattle.std.proofs.lemmas.List.{append_cancel_left}
use Rattle.lms_bytes.specs.PublicKey.{public_bytes, public_fault}
use Rattle.lms_bytes.specs.Signature.{signature_fault, signature_length}
use Rattle.hss_levels.specs.Parts.{behind_signature, key_behind, key_front, signature, signature_front}
use Rattle.hss_levels.proofs.Reading.{front, faultless, refused-key, refused-signature}
use Rattle.hss_levels.proofs.Sets.{one-key}
use Rattle.hss_levels.proofs.parts.read_signed_key.Goals as goal

pub returns-in-Err-clause-found : goal.returns-in-Err-clause-found
returns-in-Err-clause-found c = λ signed behind read parts.
    let f = front c.args.key.now c.args.parts.now signed behind read parts in
    let is = rw c.signature_length.ensures at c.split_front.ensures.front in
    let fails = c.in-Err.ensures.refused in
    let front = f.signature in
    cc

pub returns-in-Err-clause-fault : goal.returns-in-Err-clause-fault
returns-in-Err-clause-fault c =
    let is = rw c.signature_length.ensures at c.split_front.ensures.front in
    signature c.in-Err.fault (rw is at c.in-Err.ensures.refused)

pub returns-in-Err-clause-refused : goal.returns-in-Err-clause-refused
returns-in-Err-clause-refused c = λ fault found.
    let is = rw c.signature_length.ensures at c.split_front.ensures.front in
    rw (refused-signature c.args.key.now c.args.level c.args.parts.now c.in-Err.fault fault (rw is at c.in-Err.ensures.refused) found) refl

pub returns-in-Ok-clause-found : goal.returns-in-Ok-clause-found
returns-in-Ok-clause-found c = λ signed behind read parts.
    let f = front c.args.key.now c.args.parts.now signed behind read parts in
    let is = rw c.signature_length.ensures at c.split_front.ensures.front in
    let rest = rw c.signature_length.ensures at c.split_front.ensures.behind in
    let message = c.split_key.ensures.front ∙ ap key_front rest in
    let same = one-key signed.key c.in-Ok.key (c.in-Ok.ensures.read signed.key (message ∙ f.message)) in
    let all : public_bytes signed.key ++ c.split_key.result.1.now ≡ public_bytes signed.key ++ behind =
    ap (λ (t : List ℕ). t ++ c.split_key.result.1.now) (sym (message ∙ f.message)) ∙ (sym c.split_key.ensures.all ∙ (rest ∙ f.rest)) in
    (is ∙ f.signature, same, append_cancel_left (public_bytes signed.key) _ _ all)

pub returns-in-Ok-clause-refused : goal.returns-in-Ok-clause-refused
returns-in-Ok-clause-refused c = λ fault found.
    let is = rw c.signature_length.ensures at c.split_front.ensures.front in
    let rest = rw c.signature_length.ensures at c.split_front.ensures.behind in
    let message = c.split_key.ensures.front ∙ ap key_front rest in
    absurd (faultless c.args.key.now c.args.level c.args.parts.now fault (rw is at c.in_default.ensures.faultless) (rw message at c.in-Ok.ensures.faultless) found)

pub returns-in-Err-read_public-clause-found : goal.returns-in-Err-read_public-clause-found
returns-in-Err-read_public-clause-found c = λ signed behind read parts.
    let f = front c.args.key.now c.args.parts.now signed behind read parts in
    let rest = rw c.signature_length.ensures at c.split_front.ensures.behind in
    let message = c.split_key.ensures.front ∙ ap key_front rest in
    c.in-Err-read_public.ensures.read signed.key (message ∙ f.message)

pub returns-in-Err-read_public-clause-fault : goal.returns-in-Err-read_public-clause-fault
returns-in-Err-read_public-clause-fault c =
    let is = rw c.signature_length.ensures at c.split_front.ensures.front in
    let rest = rw c.signature_length.ensures at c.split_front.ensures.behind in
    let message = c.split_key.ensures.front ∙ ap key_front rest in
    key_behind c.in-Err-read_public.fault (rw is at c.in_default.ensures.faultless) (rw message at c.in-Err-read_public.ensures.refused)

pub returns-in-Err-read_public-clause-refused : goal.returns-in-Err-read_public-clause-refused
returns-in-Err-read_public-clause-refused c = λ fault found.
    let is = rw c.signature_length.ensures at c.split_front.ensures.front in
    let rest = rw c.signature_length.ensures at c.split_front.ensures.behind in
    let message = c.split_key.ensures.front ∙ ap key_front rest in
    rw (refused-key c.args.key.now c.args.level c.args.parts.now c.in-Err-read_public.fault fault (rw is at c.in_default.ensures.faultless) (rw message at c.in-Err-read_public.ensures.refused) found) refl
