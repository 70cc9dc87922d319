use Rattle.std.proofs.Common.{◌≡◌}
use Rattle.stream_host.specs.RawPorts.{link, again, late, ended}
use Rattle.stream_host.proofs.raw_port.try_once.Goals as goal

pub returns-in-Ok : goal.returns-in-Ok
returns-in-Ok g c = link _ _ (rw c.in-Ok.is at c.accept_once.ensures)

pub returns-in-Err-Once : goal.returns-in-Err-Once
returns-in-Err-Once g c =
    again _ (rw (c.in-Err-Once.is, c.in-Err-Once.field-0-is) at c.accept_once.ensures)

pub returns-in-Err-Short : goal.returns-in-Err-Short
returns-in-Err-Short g c = rw c.wait.ensures.told
    (late _ _ (rw (c.in-Err-Short.is, c.in-Err-Short.field-0-is) at c.accept_once.ensures) c.wait.ensures.waits)

pub returns-in-Err-Broken : goal.returns-in-Err-Broken
returns-in-Err-Broken g c =
    ended _ _ (rw (c.in-Err-Broken.is, c.in-Err-Broken.field-0-is) at c.accept_once.ensures) c.tell.ensures
