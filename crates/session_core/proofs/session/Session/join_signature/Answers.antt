use Rattle.std.proofs.Common.{◌≡◌, IsTrue, None, Some, ◌∙◌, ap, inl, inr, sym}
use Rattle.session_core.specs.Judging.{round_fault}
use Rattle.session_core.specs.Verdicts.{digest_of, joined_bytes}
use Rattle.session_core.proofs.Digests.{digest-length, joined-is}
use Rattle.session_core.proofs.Judged.{faultless-later}
use Rattle.session_core.proofs.Outcome.{judged-joins}
use Rattle.session_core.proofs.session.Session.join_signature.Goals as goal

pub round_fault-requires : goal.round_fault-requires
round_fault-requires g c = digest-length c.args.self.now c.args.digest.now c.requires.digest

pub join_values-requires-clause-digest : goal.join_values-requires-clause-digest
join_values-requires-clause-digest g c = digest-length c.args.self.now c.args.digest.now c.requires.digest

pub join_values-requires-clause-masks : goal.join_values-requires-clause-masks
join_values-requires-clause-masks g c =
    faultless-later c.args.self.now c.args.digest.now c.requires.round (sym c.round_fault.ensures ∙ c.in_default.is)

pub returns-in-Some-clause-joins : goal.returns-in-Some-clause-joins
returns-in-Some-clause-joins g c = λ message is.
    let s = c.args.self.now in
    let found : round_fault s (digest_of s message) ≡ Some c.in-Some.fault =
    ap (round_fault s) (sym is) ∙ (sym c.round_fault.ensures ∙ c.in-Some.is) in
    record {
      accepted = tt;
      joined = λ told. tt;
      fault = λ fault e. let same : Some c.in-Some.fault ≡ Some fault = sym found ∙ e in cc;
      cause = inr (inl found);
      read = λ all none. let clash = sym found ∙ none in absurd (cc);
    }

pub returns-clause-joins : goal.returns-clause-joins
returns-clause-joins g c = λ message is.
    let s = c.args.self.now in
    let told = g.R.Cells.told c.args.cells.now in
    let leaves = g.R.Cells.leaves c.args.cells.now in
    let tree = c.args.tree.now in
    let bytes = c.in_ok-bytes.bytes.items in
    let none : round_fault s (digest_of s message) ≡ None = ap (round_fault s) (sym is) ∙ (sym c.round_fault.ensures ∙ c.in_default.is) in
    let same : IsTrue told → bytes ≡ joined_bytes s leaves tree message = λ shown.
    joined-is s leaves tree message c.asked_c-c.result c.deref.result.now bytes c.args.digest.now c.in_ok-bytes.ensures.bytes c.asked_c-c.ensures.c
    (c.deref.ensures.value ∙ c.in_ok-values.ensures.values shown) is in
    judged-joins _ _ _ _ s tree message c.if_accepted.result bytes none same (c.if_accepted.ensures.accepted message is)
    c.if_accepted.ensures.same (c.if_accepted.ensures.refused message is)
