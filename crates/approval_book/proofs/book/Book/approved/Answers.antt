use Rattle.std.proofs.Common.{◌∙◌, sym}
use Rattle.trustee_core.proofs.ApprovedIds.{contains-in, in-contains}
use Rattle.approval_book.proofs.book.Book.approved.Goals as goal

pub returns : goal.returns
returns g c id = (
  (λ has. sym (c.args.self.now.listed id) ∙ contains-in _ id has),
  (λ found. in-contains _ id (c.args.self.now.listed id ∙ found)),
)
