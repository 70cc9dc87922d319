use Rattle.std.proofs.Common.{IsTrue, arith, subst, sym}
use Rattle.stream_io.specs.Talk.{Took}
use Rattle.stream_host.specs.Buffered.{buffered_talk}
use Rattle.stream_host.proofs.Ahead.{served, still}
use Rattle.stream_host.proofs.buffered.Buffered.serve.Goals as goal

pub returns-clause-took : goal.returns-clause-took
returns-clause-took g c told =
    let e = c.copy.ensures.size in
    let s = c.self.inside in
    let left = c.copy.new.self in
    let talk = g.L.Stream.talk in
    subst (λ v. Took (buffered_talk (talk v.link) v.ahead v.behind) (buffered_talk (talk s.link) left s.behind) c.copy.result) c.self.view_is
    (served (talk s.link) s.ahead left s.behind c.copy.result (omega arith) c.copy.ensures.rest
    (c.self.invariant (subst (λ v. IsTrue (talk v.link).told) (sym c.self.view_is) told)))

pub invariant_of-self : goal.invariant_of-self
invariant_of-self g c = λ told.
    let e = c.copy.ensures.size in
    still _ _ c.self.inside.ahead _ c.copy.result (c.self.invariant told) c.copy.ensures.rest (omega arith)
