use Rattle.std.proofs.Common.{◌≡◌, arith}
use Rattle.stream_host.specs.RawPorts.{none, worn}
use Rattle.stream_host.proofs.Taking.{one-more, gives-link, gives-up}
use Rattle.stream_host.proofs.raw_port.next_link.Goals as goal

pub loop-init : goal.loop-init
loop-init g c = none _

pub returns-in-Break-clause-link : goal.returns-in-Break-clause-link
returns-in-Break-clause-link g c = gives-link _ _ _ c.loop.counter _ _ _ _ _ _ c.loop-test.true c.loop.invariant (rw c.in-Break.is at c.try_once.ensures)

pub returns-in-Break-clause-none : goal.returns-in-Break-clause-none
returns-in-Break-clause-none g c is = gives-up _ _ _ c.loop.counter _ _ _ _ _ _ c.loop-test.true c.loop.invariant (rw c.in-Break.is at c.try_once.ensures) is

pub loop-preserved : goal.loop-preserved
loop-preserved g c = one-more _ _ _ c.loop.counter _ _ _ _ _ c.loop.invariant (rw c.in-Continue.is at c.try_once.ensures)

pub returns-clause-none : goal.returns-clause-none
returns-clause-none g c is = (let all : c.loop.counter ≡ 65536 = omega arith in worn _ _ (rw all at c.loop.invariant) c.tell.ensures)
