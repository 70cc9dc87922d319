use Rattle.std.proofs.Common.{◌≡◌, ◌+◌, ◌-◌, ◌∙◌, ◌∷◌, ◌++◌, List, ℕ, arith, refl, sym, ap, subst}
use Rattle.lms_bytes.specs.PublicKey.{public_bytes}
use Rattle.lms_bytes.specs.declared.public_key.PublicKey.{PublicKey}
use Rattle.hss_levels.specs.Levels.{SignedKey, levels_of}
use Rattle.hss_levels.specs.Parts.{ArePartsOf}
use Rattle.hss_levels.specs.Verdict.{IsLevelsVerdict}
use Rattle.hss_levels.proofs.Levels.{first-of}
use Rattle.hss_levels.proofs.Verdicts.{other-last, step-other, step-signed}
use Rattle.hss_levels.proofs.verification.+verify_levels.Goals as goal

pub returns-in-OtherRoot : goal.returns-in-OtherRoot
returns-in-OtherRoot n c = λ keys last are.
    other-last _ c.args.level c.args.below c.args.message.now _ keys last _ _ c.if-below-eq0.true are c.in-OtherRoot.ensures.verdict

pub returns-in-Err : goal.returns-in-Err
returns-in-Err n c = λ keys last are.
    let first = first-of _ _ _ keys last c.if-below-eq0.false are in
    absurd (c.in-Err.ensures.found first.signed _ first.read first.parts_are)

pub returns-in-Accepted-verify : goal.returns-in-Accepted-verify
returns-in-Accepted-verify n c = λ keys last are.
    let first = first-of _ _ _ keys last c.if-below-eq0.false are in
    let view = c.in-Ok.ensures.found first.signed _ first.read first.parts_are in
    let rest = c.verify_levels.ensures first.more last (rw (view.1, view.2) first.rest) in
    step-signed c.args.key.now c.args.level c.args.message.now keys last c.verify_levels.result first.signed first.more _ _ c.in-Ok.signed.key _ first.keys_are view.0
    view.1 c.in-Ok.ensures.message c.in-Accepted-verify.ensures.verdict rest

pub returns-in-OtherRoot-verify : goal.returns-in-OtherRoot-verify
returns-in-OtherRoot-verify n c = λ keys last are.
    let first = first-of _ _ _ keys last c.if-below-eq0.false are in
    let view = c.in-Ok.ensures.found first.signed _ first.read first.parts_are in
    step-other c.args.key.now c.args.level c.args.message.now keys last _ _ first.signed first.more _ _ c.in-Ok.signed.key first.keys_are view.0 view.1
    c.in-Ok.ensures.message c.in-OtherRoot-verify.ensures.verdict
