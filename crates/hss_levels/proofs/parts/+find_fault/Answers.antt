use Rattle.std.proofs.Common.{◌≡◌, ◌+◌, ◌-◌, ◌∙◌, ◌∷◌, ◌++◌, List, ℕ, None, Some, arith, refl, sym, ap, inl, inr}
use Rattle.lms_bytes.specs.PublicKey.{public_bytes}
use Rattle.hss_levels.specs.Levels.{SignedKey, signed_keys_bytes}
use Rattle.hss_levels.specs.Parts.{ArePartsOf, PartsFault}
use Rattle.hss_levels.specs.declared.faults.HssFault.{HssFault}
use Rattle.hss_levels.proofs.Levels.{alone, fault-further, fault-of-first, fault-of-last, first-of, if-none, if-some, parts-cons}
use Rattle.hss_levels.proofs.Reading.{fault-key, fault-last}
use Rattle.hss_levels.proofs.parts.+find_fault.Goals as goal

pub returns-in-Ok-clause-found : goal.returns-in-Ok-clause-found
returns-in-Ok-clause-found n c = λ fault found.
    let last = fault-last _ _ _ _ _ found c.if-below-eq0.true in
    let fails = last.found in
    let read = c.in-Ok.ensures.faultless in
    absurd (cc)

pub returns-in-Err-clause-fault : goal.returns-in-Err-clause-fault
returns-in-Err-clause-fault n c = fault-of-last _ _ _ _ _ c.if-below-eq0.true c.in-Err.ensures.refused

pub returns-in-Err-clause-found : goal.returns-in-Err-clause-found
returns-in-Err-clause-found n c = λ fault found.
    let last = fault-last _ _ _ _ _ found c.if-below-eq0.true in
    let same : Some c.in-Err.fault ≡ Some last.of = sym c.in-Err.ensures.refused ∙ last.found in
    let equal : c.in-Err.fault ≡ last.of = cc in
    let is = last.is in
    cc

pub returns-in-Ok-read_signed_key-clause-fault : goal.returns-in-Ok-read_signed_key-clause-fault
returns-in-Ok-read_signed_key-clause-fault n c =
    let view = c.in-Ok-read_signed_key.signed in
    let signed : SignedKey = record { signature = view.signature.now; key = view.key } in
    if-some (PartsFault view.key (c.args.level + 1) (c.args.below - 1) view.behind.now) (PartsFault c.args.key.now c.args.level c.args.below c.args.parts.now) c.find_fault.result
    (λ fault found. fault-further _ _ _ _ fault signed view.behind.now c.if-below-eq0.false c.in-Ok-read_signed_key.ensures.read c.in-Ok-read_signed_key.ensures.parts found)
    c.find_fault.ensures.fault

pub returns-in-Ok-read_signed_key-clause-found : goal.returns-in-Ok-read_signed_key-clause-found
returns-in-Ok-read_signed_key-clause-found n c = λ fault found.
    let less : c.args.below ≡ c.args.below - 1 + 1 = omega (arith, c.if-below-eq0.false) in
    elim (fault-key _ _ (c.args.below - 1) _ _ fault found less) [
      | inl first ↦ let refused = c.in-Ok-read_signed_key.ensures.refused fault first in absurd (cc)
      | inr rest ↦
          let view = c.in-Ok-read_signed_key.ensures.found rest.signed rest.behind rest.read rest.parts_are in
          c.find_fault.ensures.found fault (rw (view.1, view.2) rest.fault_is)
    ]

pub returns-in-Ok-read_signed_key-clause-parts : goal.returns-in-Ok-read_signed_key-clause-parts
returns-in-Ok-read_signed_key-clause-parts n c =
    let view = c.in-Ok-read_signed_key.signed in
    let signed : SignedKey = record { signature = view.signature.now; key = view.key } in
    if-none c.find_fault.result
    (λ found. (signed ∷ found.0, found.1, parts-cons _ _ _ signed view.behind.now found.0 found.1 c.if-below-eq0.false c.in-Ok-read_signed_key.ensures.read c.in-Ok-read_signed_key.ensures.parts found.2))
    c.find_fault.ensures.parts

pub returns-in-Ok-read_signed_key-clause-faultless : goal.returns-in-Ok-read_signed_key-clause-faultless
returns-in-Ok-read_signed_key-clause-faultless n c = λ keys last are.
    let first = first-of _ _ _ keys last c.if-below-eq0.false are in
    let view = c.in-Ok-read_signed_key.ensures.found first.signed _ first.read first.parts_are in
    c.find_fault.ensures.faultless first.more last (rw (view.1, view.2) first.rest)

pub returns-in-Err-read_signed_key-clause-fault : goal.returns-in-Err-read_signed_key-clause-fault
returns-in-Err-read_signed_key-clause-fault n c = fault-of-first _ _ _ _ _ c.if-below-eq0.false c.in-Err-read_signed_key.ensures.fault

pub returns-in-Err-read_signed_key-clause-found : goal.returns-in-Err-read_signed_key-clause-found
returns-in-Err-read_signed_key-clause-found n c = λ fault found.
    let less : c.args.below ≡ c.args.below - 1 + 1 = omega (arith, c.if-below-eq0.false) in
    elim (fault-key _ _ (c.args.below - 1) _ _ fault found less) [
      | inl first ↦ let refused = c.in-Err-read_signed_key.ensures.refused fault first in cc
      | inr rest ↦ absurd (c.in-Err-read_signed_key.ensures.found rest.signed rest.behind rest.read rest.parts_are)
    ]

pub returns-in-Err-read_signed_key-clause-faultless : goal.returns-in-Err-read_signed_key-clause-faultless
returns-in-Err-read_signed_key-clause-faultless n c = λ keys last are.
    let first = first-of _ _ _ keys last c.if-below-eq0.false are in
    absurd (c.in-Err-read_signed_key.ensures.found first.signed _ first.read first.parts_are)
