use Rattle.tool_keys.proofs.OnDisk.{behind_disk, fails_disk, parts_told, shut_disk}
use Rattle.tool_keys.proofs.large.deal_on_disk.Goals as goal

pub returns-in-Err-clause-refused : goal.returns-in-Err-clause-refused
returns-in-Err-clause-refused g c =
    let one = rw c.deref.ensures.value at c.in-Err.ensures in
    rw c.end_of_onto.ensures (fails_disk g.D.Pages g.D.Faults.steady g.D.Faults.count g.P.Progress.told _ _ _ _ _ _ _ c.requires.dealable
    one.stays.told one.stays.honest one.unready c.in-Err.fault one.cause c.requires.empty)

pub returns-in-Err-clause-told : goal.returns-in-Err-clause-told
returns-in-Err-clause-told g c =
    let one = rw c.deref.ensures.value at c.in-Err.ensures in
    rw c.end_of_onto.ensures (parts_told g.D.Pages g.D.Faults.steady g.D.Faults.count g.P.Progress.told _ _ _ _ _ _ _ c.requires.dealable c.in-Err.fault one.cause)

pub returns-in-Ok-key_outputs-clause-shut : goal.returns-in-Ok-key_outputs-clause-shut
returns-in-Ok-key_outputs-clause-shut g c =
    let one = rw c.deref.ensures.value at c.in-Ok.ensures in
    shut_disk g.D.Pages g.D.Faults.steady g.D.Faults.count g.P.Progress.told _ _ _ _ _ _ _ c.requires.dealable
    one.stays.told one.stays.honest one.unready one.dealt.written

pub returns-in-Err-key_outputs-clause-refused : goal.returns-in-Err-key_outputs-clause-refused
returns-in-Err-key_outputs-clause-refused g c =
    let one = rw c.deref.ensures.value at c.in-Ok.ensures in
    behind_disk g.D.Pages g.D.Faults.steady g.D.Faults.count g.P.Progress.told _ _ _ _ _ _ _ c.requires.dealable
    one.stays.told one.stays.honest one.unready one.dealt.written
