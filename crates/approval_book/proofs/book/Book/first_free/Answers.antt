use Rattle.std.proofs.Common.{◌∙◌, sym, arith}
use Rattle.approval_book.proofs.Fronts.{least-behind, least-found}
use Rattle.approval_book.proofs.Listings.{free-in}
use Rattle.approval_book.proofs.book.Book.first_free.Goals as goal

pub returns-in-Some-clause-place : goal.returns-in-Some-clause-place
returns-in-Some-clause-place g c =
    sym (least-found _ c.front-front.result.now c.front-front.ensures c.in-Some.place (sym c.first_free.ensures ∙ c.in-Some.is))

pub returns-in-Some-clause-free : goal.returns-in-Some-clause-free
returns-in-Some-clause-free g c =
    free-in _ _ (least-found _ c.front-front.result.now c.front-front.ensures c.in-Some.place (sym c.first_free.ensures ∙ c.in-Some.is))

pub returns-in-None-clause-place : goal.returns-in-None-clause-place
returns-in-None-clause-place g c =
    sym (least-behind _ c.front-front.result.now c.front-front.ensures (sym c.first_free.ensures ∙ c.in-None.is) (omega (arith, c.if-front.true, c.args.self.now.count)))
