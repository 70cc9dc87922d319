use Rattle.std.proofs.Common.{◌≡◌, ◌∙◌, sym, true}
use Rattle.std.proofs.lemmas.Result.{err_from_is_err_and}
use Rattle.laws_signing.proofs.Serving.{err≢ok, over-files}
use Rattle.laws_signing.specs.Witness.{file_in}
use Rattle.laws_signing.proofs.witness.trustee.served_steadily.Goals as goal

pub returns-in_err-store : goal.returns-in_err-store
returns-in_err-store g c = λ is.
    let p = err_from_is_err_and c.from_residual.result c.from_residual.ensures.1 in
    absurd (err≢ok (sym p.1 ∙ is))

pub returns-in_err-net : goal.returns-in_err-net
returns-in_err-net g c = λ is.
    let p = err_from_is_err_and c.from_residual-in_err-net.result c.from_residual-in_err-net.ensures.1 in
    absurd (err≢ok (sym p.1 ∙ is))

pub returns : goal.returns
returns g c = λ is.
    let yes : c.is_served.result ≡ true = cc in
    let made = c.is_served.ensures yes in (
      c.in_ok-store.store,
      c.is_served.new.store,
      c.in_ok-net.net,
      c.is_served.new.net,
      made.0,
      over-files _ _ _ _ (file_in c.args.files.items) (λ name. c.in_ok-store.ensures.begun.file name) made.1,
    )
