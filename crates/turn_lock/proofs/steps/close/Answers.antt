use Rattle.std.proofs.Common.{◌≡◌, Some, sym, ◌∙◌}
use Rattle.turn_lock.proofs.Moves.{closes}
use Rattle.turn_lock.proofs.steps.close.Goals as goal

pub unreachable-requires : goal.unreachable-requires
unreachable-requires g c =
    let e = closes _ _ _ _ _ _ _ _ c.close_with-closed.ensures.values.2 c.requires.all.0 c.requires.idle c.requires.all.1 _ c.take-slot.ensures.value in
    c.in_default.not-Some e.value e.is

pub returns-clause-log : goal.returns-clause-log
returns-clause-log g c =
    let e = closes _ _ _ _ _ _ _ _ c.close_with-closed.ensures.values.2 c.requires.all.0 c.requires.idle c.requires.all.1 _ c.take-slot.ensures.value in
    let is : Some c.in-Some.value ≡ Some e.value = sym c.in-Some.is ∙ e.is in let same : c.in-Some.value ≡ e.value = cc in rw same e.log

pub returns-clause-number : goal.returns-clause-number
returns-clause-number g c =
    let e = closes _ _ _ _ _ _ _ _ c.close_with-closed.ensures.values.2 c.requires.all.0 c.requires.idle c.requires.all.1 _ c.take-slot.ensures.value in
    let is : Some c.in-Some.value ≡ Some e.value = sym c.in-Some.is ∙ e.is in let same : c.in-Some.value ≡ e.value = cc in rw same e.floor

pub returns-clause-named : goal.returns-clause-named
returns-clause-named g c =
    let e = closes _ _ _ _ _ _ _ _ c.close_with-closed.ensures.values.2 c.requires.all.0 c.requires.idle c.requires.all.1 _ c.take-slot.ensures.value in
    let is : Some c.in-Some.value ≡ Some e.value = sym c.in-Some.is ∙ e.is in let same : c.in-Some.value ≡ e.value = cc in rw same e.named

pub returns-clause-all : goal.returns-clause-all
returns-clause-all g c =
    (closes _ _ _ _ _ _ _ _ c.close_with-closed.ensures.values.2 c.requires.all.0 c.requires.idle c.requires.all.1 _ c.take-slot.ensures.value).knows
