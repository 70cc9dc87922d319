use Rattle.std.proofs.Common.{◌≡◌, ◌∙◌, [], Some, inl, inr, refl, sym}
use Rattle.std.proofs.lemmas.Result.{err_from_is_err_and}
use Rattle.reference_value.specs.Dealing.{leaf_randomizer, reference}
use Rattle.session_core.specs.State.{IsSession}
use Rattle.session_core.specs.Verdicts.{joined_c}
use Rattle.session_core.proofs.Dealt.{randomizer-is}
use Rattle.session_core.proofs.Judged.{faultless-first, round-one-fault}
use Rattle.session_core.proofs.session.Session.turn.Goals as goal

pub returns-in-Some-clause-fault : goal.returns-in-Some-clause-fault
returns-in-Some-clause-fault g c = λ fault e.
    let same = round-one-fault c.args.self.now [] c.asked_c-zeros.result c.requires.round in
    let found : Some c.in-Some.fault ≡ Some fault = sym c.in-Some.is ∙ (c.round_fault.ensures ∙ (sym same ∙ e)) in
    cc

pub returns-in-Some-clause-cause : goal.returns-in-Some-clause-cause
returns-in-Some-clause-cause g c =
    inl (round-one-fault c.args.self.now [] c.asked_c-zeros.result c.requires.round ∙ (sym c.round_fault.ensures ∙ c.in-Some.is))

pub returns-in-Some-clause-succeeds : goal.returns-in-Some-clause-succeeds
returns-in-Some-clause-succeeds g c = λ all none.
    let same = round-one-fault c.args.self.now [] c.asked_c-zeros.result c.requires.round in
    let found = sym c.in-Some.is ∙ (c.round_fault.ensures ∙ (sym same ∙ none)) in
    absurd (cc)

pub join_c-requires-clause-masks : goal.join_c-requires-clause-masks
join_c-requires-clause-masks g c =
    faultless-first c.args.self.now c.asked_c-zeros.result c.requires.round (sym c.round_fault.ensures ∙ c.in_default.is)

pub returns-in_err-c-clause-fault : goal.returns-in_err-c-clause-fault
returns-in_err-c-clause-fault g c = λ fault e.
    let same = round-one-fault c.args.self.now [] c.asked_c-zeros.result c.requires.round in
    let none = sym c.in_default.is ∙ (c.round_fault.ensures ∙ (sym same ∙ e)) in
    absurd (cc)

pub returns-in_err-c-clause-cause : goal.returns-in_err-c-clause-cause
returns-in_err-c-clause-cause g c =
    let same = round-one-fault c.args.self.now [] c.asked_c-zeros.result c.requires.round in
    let p = err_from_is_err_and c.from_residual.result c.from_residual.ensures.1 in
    rw (p.1, p.2) (inr (record {
      faultless = same ∙ (sym c.round_fault.ensures ∙ c.in_default.is);
      reference = c.in_err-c.ensures.cause.0;
      rose = c.in_err-c.ensures.cause.1;
    }))

pub returns-clause-fault : goal.returns-clause-fault
returns-clause-fault g c = λ fault e.
    let same = round-one-fault c.args.self.now [] c.asked_c-zeros.result c.requires.round in
    let none = sym c.in_default.is ∙ (c.round_fault.ensures ∙ (sym same ∙ e)) in
    absurd (cc)

pub returns-clause-turns : goal.returns-clause-turns
returns-clause-turns g c =
    let session : IsSession c.args.self.now = rw (← c.self.view_is) c.self.invariant in
    record {
      turned = record {
        masks = faultless-first c.args.self.now c.asked_c-zeros.result c.requires.round (sym c.round_fault.ensures ∙ c.in_default.is);
        c = c.in_ok-c.c;
        c_length = c.in_ok-c.ensures.length;
        same = rw (← c.self.view_is) refl;
      };
      joined = λ told. rw (← c.in_ok-c.ensures.c told, ← c.self.view_is) refl;
      dealt = λ d key told leaves of masks.
          let at : joined_c c.args.self.now (reference d) ≡ leaf_randomizer d c.args.self.now.leaf = randomizer-is d key c.args.self.now session of masks in
          let is : c.in_ok-c.c ≡ leaf_randomizer d c.args.self.now.leaf = rw leaves at (c.in_ok-c.ensures.c told) ∙ at in
          rw (← is, ← c.self.view_is) refl;
    }
