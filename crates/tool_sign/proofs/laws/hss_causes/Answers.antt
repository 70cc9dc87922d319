use Rattle.tool_sign.proofs.HssCauses.{device-rose, loses-member, loses-peer, net-rose, store-rose}
use Rattle.tool_sign.proofs.laws.hss_causes.Goals as goal

pub returns-clause-failed : goal.returns-clause-failed
returns-clause-failed g c = record {
  store = λ words net run. store-rose words _ net run;
  device = λ words net run. device-rose words _ net run;
  net = λ words net run. net-rose words _ net run;
}

pub returns-clause-lost : goal.returns-clause-lost
returns-clause-lost g c = λ member round words net run. record {
  lost = loses-member words _ net member round run;
  peer = λ steady room. loses-peer words _ net member round steady room run;
}
