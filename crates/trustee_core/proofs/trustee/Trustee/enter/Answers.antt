use borrow.Author.Rules.{lives}
use Rattle.std.proofs.Common.{◌∙◌}
use Rattle.opening_journal.specs.Journal.{state_of}
use Rattle.trustee_core.proofs.Noting.{are-noted, noted}
use Rattle.trustee_core.proofs.trustee.Trustee.enter.Goals as goal

pub of-self-requires : goal.of-self-requires
of-self-requires g c κs within = search (lives, within) depth 60 fits 20000

pub invariant_of-self-clause-made : goal.invariant_of-self-clause-made
invariant_of-self-clause-made g c =
    let old = c.args.self.now in
    let does = c.enter_journal-result.ensures in
    let is = c.of-self.ensures ∙ (λ i. noted (c.of.ensures i).notes (state_of (c.of-2.ensures i)).entries (c.of-3.ensures i) c.args.moment (c.of-4.ensures i)) in
    (are-noted old.log.notes _ c.args.ask.now c.args.moment _ (state_of old.journal) _ old.doubted old.made does.binds does.opens is).made

pub invariant_of-self-clause-doubted : goal.invariant_of-self-clause-doubted
invariant_of-self-clause-doubted g c =
    let old = c.args.self.now in
    let does = c.enter_journal-result.ensures in
    let is = c.of-self.ensures ∙ (λ i. noted (c.of.ensures i).notes (state_of (c.of-2.ensures i)).entries (c.of-3.ensures i) c.args.moment (c.of-4.ensures i)) in
    (are-noted old.log.notes _ c.args.ask.now c.args.moment _ (state_of old.journal) _ old.doubted old.made does.binds does.opens is).doubt

pub returns-clause-notes : goal.returns-clause-notes
returns-clause-notes g c =
    let old = c.args.self.now in
    let does = c.enter_journal-result.ensures in
    let is = c.of-self.ensures ∙ (λ i. noted (c.of.ensures i).notes (state_of (c.of-2.ensures i)).entries (c.of-3.ensures i) c.args.moment (c.of-4.ensures i)) in
    (are-noted old.log.notes _ c.args.ask.now c.args.moment _ (state_of old.journal) _ old.doubted old.made does.binds does.opens is).notes
