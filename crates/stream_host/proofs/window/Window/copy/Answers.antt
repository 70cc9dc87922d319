use Rattle.std.proofs.Common.{◌+◌, ◌≤◌, drop, ap, ◌∙◌, arith}
use Rattle.stream_host.proofs.Windows.{rest}
use Rattle.stream_host.proofs.window.Window.copy.Goals as goal

pub returns-clause-rest : goal.returns-clause-rest
returns-clause-rest c =
    let b = c.self.inside in
    let n = c.min-count.result in
    let few : b.place + n ≤ b.end = (let e = c.min-count.ensures in let i = c.self.invariant.0 in omega arith) in
    rest b.place b.end n b.bytes few ∙ ap (drop n) c.self.view_is
