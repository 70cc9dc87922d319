use Rattle.session_core.specs.State.{IsSession}
use Rattle.session_core.proofs.Dealt.{answered-faultless, signature-accepted, signature-is}
use Rattle.session_core.proofs.Outcome.{outcome}
use Rattle.session_core.proofs.session.Session.finish_with.Goals as goal

pub returns-clause-finishes : goal.returns-clause-finishes
returns-clause-finishes g c = λ message is.
    let s = c.args.self.now in
    let j = c.join_signature.ensures.joins message is in
    record {
      joins = j;
      dealt = λ d key told answered.
          let session : IsSession s = c.join_signature.ensures.session in
          outcome (λ v. v.items) c.join_signature.result s message _ _ _ _ _ (j.joined told) j.cause
          (signature-is d key s _ _ message session answered) (answered-faultless d key s _ _ _ answered)
          (signature-accepted d key s _ _ message session answered) told;
    }
