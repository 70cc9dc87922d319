use Rattle.std.proofs.Common.{List, ℕ, length, refl, sym, ap, subst, ◌∙◌}
use Rattle.mask_prf.specs.Lengths.{leaves_length}
use Rattle.session_core.specs.Dealing.{IsAnswered}
use Rattle.session_core.specs.Verdicts.{digest_of}
use Rattle.drill.specs.Courses.{GoesTo, steps_in}
use Rattle.drill.specs.declared.seat.Seat.TheVariants.{Signed}
use Rattle.drill.proofs.Stepping.{ends, finish-goes, some-of}
use Rattle.drill.proofs.Turning.{answered, no-fault}
use Rattle.drill.proofs.steps.finish.Goals as goal

pub returns-clause-goes : goal.returns-clause-goes
returns-clause-goes c = λ own map leaves course all.
    let desk = c.args.desk.now in
    let i = c.args.i in
    let s = c.args.session.now in
    let m = c.args.message.now in
    let of = c.requires.of in
    let read = c.new-cells.ensures.leaves ∙ c.deref.ensures.value in
    let random = some-of s.c c.requires.round in
    let size = ap (λ (l : List ℕ). length l) read ∙ desk.exact ∙ sym (λ j. leaves_length (of.key_is j).params (of.plan_is j)) in
    let fine = no-fault desk own i map leaves s course all (digest_of s m) in
    let given : IsAnswered own.dealing own.key s (digest_of s m) c.new-cells.result.leaves.now desk.dealt.tree =
    subst (λ (l : List ℕ). IsAnswered own.dealing own.key s (digest_of s m) l desk.dealt.tree) (sym read)
    (subst (λ (x : List ℕ). IsAnswered own.dealing own.key s (digest_of s x) desk.dealt.reference.items desk.dealt.tree) (sym c.requires.message) (answered desk own i map leaves s course all random.0 random.1)) in
    let goes = finish-goes desk own i map leaves s course all random.0 random.1 in
    let ended = c.ended.ensures in
    ends _ (GoesTo desk own.dealing i map leaves (steps_in s)) 0 0 c.leaf.result c.finish-signed.result c.ended.result ended.signed ended.memory
    (c.finish-signed.ensures.finishes.dealt own.dealing own.key refl given)
    (c.finish-signed.ensures.finishes.joins.read (record { steady = refl; told = refl; whole = size }) fine)
    (subst (λ (q : ℕ). GoesTo desk own.dealing i map leaves (steps_in s) (Signed q)) (sym c.leaf.ensures.leaf) goes)
