use Rattle.std.proofs.Common.{◌++◌, subst}
use Rattle.lms_bytes.specs.IdHash.{HasTaken as IdTaken}
use Rattle.ots_chain.specs.MessageHash.{HasTaken}
use Rattle.round_frames.proofs.message.take_piece.Goals as goal

pub returns-clause-hashed : goal.returns-clause-hashed
returns-clause-hashed g c told xs = record {
  id = λ taken. subst (λ ys. IdTaken c.update.new.self (xs ++ ys)) (c.in_ok-fill.ensures.bytes told) (c.update.ensures.taken xs taken);
  digest = λ params key q r taken.
      subst (λ ys. HasTaken c.update-2.new.self params key q r (xs ++ ys)) (c.in_ok-fill.ensures.bytes told) (c.update-2.ensures params key q r xs taken);
}

pub returns-clause-some : goal.returns-clause-some
returns-clause-some g c params key q r xs taken = (_, c.update-2.ensures params key q r xs taken)

pub returns-clause-takes : goal.returns-clause-takes
returns-clause-takes g c =
    record {
      only = c.in_ok-fill.ensures.only;
      cause = c.in_ok-fill.ensures.cause;
      answers = c.in_ok-fill.ensures.answers;
      steady = c.in_ok-fill.ensures.steady;
    }
