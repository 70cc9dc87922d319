use Rattle.laws_commands.proofs.Coming.{request-comes}
use Rattle.laws_commands.proofs.Left.{use-left, uses-apart}
use Rattle.laws_commands.proofs.clients.leases_left.Goals as goal

pub returns : goal.returns
returns g c = λ words net header desk end run. record {
  comes = λ request. request-comes run.serves.over.served request;
  left = λ request leaf. use-left words _ net header desk end run request leaf;
  apart = λ one other leaf. uses-apart words _ net header desk end run one other leaf;
}
