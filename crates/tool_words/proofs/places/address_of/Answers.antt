use Rattle.std.proofs.Common.{None, Some, arith, sym}
use Rattle.tool_words.proofs.Addresses.{address_is, placeless_at, without_equals}
use Rattle.tool_words.proofs.places.address_of.Goals as goal

pub returns-in_err-number-clause-value : goal.returns-in_err-number-clause-value
returns-in_err-number-clause-value c =
    rw c.from_residual.ensures (without_equals _ (c.in_err-number.ensures.byte (omega arith) (λ w o h. h)))

pub returns-then-is_empty-clause-value : goal.returns-then-is_empty-clause-value
returns-then-is_empty-clause-value c =
    let parts = c.in_ok-number.ensures.byte (omega arith) (λ w o h. h) in
    placeless_at c.args.word.now c.in_ok-number.place.now parts.1 (sym c.if-is_empty.ensures)

pub returns-in_err-number_within-clause-value : goal.returns-in_err-number_within-clause-value
returns-in_err-number_within-clause-value c =
    let parts = c.in_ok-number.ensures.byte (omega arith) (λ w o h. h) in
    rw c.from_residual-in_err-number_within.ensures
    (address_is c.args.word.now c.in_ok-number.number.now c.in_ok-number.place.now None parts.0 parts.1
    (sym c.if-is_empty.ensures) c.in_err-number_within.ensures.number)

pub returns-clause-value : goal.returns-clause-value
returns-clause-value c =
    let parts = c.in_ok-number.ensures.byte (omega arith) (λ w o h. h) in
    address_is c.args.word.now c.in_ok-number.number.now c.in_ok-number.place.now (Some c.in_ok-number_within.field-0)
    parts.0 parts.1 (sym c.if-is_empty.ensures) c.in_ok-number_within.ensures.number
