use Rattle.std.proofs.Common.{refl, sym, ap, ◌∙◌, length, List, ℕ}
use Rattle.mask_prf.specs.Lengths.{leaves_length}
use Rattle.drill.proofs.Stepping.{turn-goes}
use Rattle.drill.proofs.Turning.{first-masks-kept, no-fault, of-dealing}
use Rattle.drill.proofs.steps.turn.Goals as goal

pub returns-in-Ok-clause-goes : goal.returns-in-Ok-clause-goes
returns-in-Ok-clause-goes c = λ own map leaves course all.
    let desk = c.args.desk.now in
    let read = c.new-cells.ensures.leaves ∙ c.deref.ensures.value ∙ own.dealt_is.reference_is in
    let turned = c.in-Ok.ensures.turns.dealt own.dealing own.key refl read (of-dealing desk own c.args.i map leaves c.args.session course all)
    (first-masks-kept desk own c.args.i map leaves c.args.session course all c.requires.round) in
    turn-goes desk own c.args.i map leaves c.args.session course all c.requires.round c.turn.new.self turned

pub returns-in-Err-clause-goes : goal.returns-in-Err-clause-goes
returns-in-Err-clause-goes c = λ own map leaves course all.
    let desk = c.args.desk.now in
    let of = c.requires.of in
    let size = ap (λ (l : List ℕ). length l) (c.new-cells.ensures.leaves ∙ c.deref.ensures.value) ∙ desk.exact ∙ sym (λ j. leaves_length (of.key_is j).params (of.plan_is j)) in
    let fine = c.in-Err.ensures.succeeds (record { steady = refl; told = refl; whole = size }) (no-fault desk own c.args.i map leaves c.args.session course all _) in
    absurd (cc)
