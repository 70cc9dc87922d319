use Rattle.std.proofs.Common.{◌∙◌, IsTrue, sym}
use Rattle.approval_book.specs.Listed.{is_listed, settled, unsettled}
use Rattle.approval_book.proofs.Listings.{is_old, settles-sure}
use Rattle.approval_book.proofs.book.Book.add.Goals as goal

pub returns-in-Err-clause-event : goal.returns-in-Err-clause-event
returns-in-Err-clause-event g c = unsettled _ _ c.in-Err.ensures.event

pub returns-then-lists-clause-event : goal.returns-then-lists-clause-event
returns-then-lists-clause-event g c =
    let event = c.in_default.ensures.event in
    let listed : IsTrue (is_listed c.settle.new.self.slots.cached c.to_bytes-id.result) =
    sym (c.settle.new.self.listed c.to_bytes-id.result) ∙ sym c.lists.ensures ∙ c.if-lists.true in
    rw (← c.to_bytes-id.ensures) (settled _ _ _ event (is_old _ _ (settles-sure _ _ event) listed))

pub returns-clause-event : goal.returns-clause-event
returns-clause-event g c = rw (← c.to_bytes-id.ensures) (settled _ _ _ c.in_default.ensures.event c.put.ensures.event)
