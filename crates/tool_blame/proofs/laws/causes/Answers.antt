use Rattle.tool_blame.proofs.Causes.{device-rose, net-rose, store-rose}
use Rattle.tool_blame.proofs.laws.causes.Goals as goal

pub returns : goal.returns
returns g c = record {
  store = λ words net run. store-rose words _ net run;
  device = λ words net run. device-rose words _ net run;
  net = λ words net run. net-rose words _ net run;
}
