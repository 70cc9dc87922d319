use Rattle.tool_show.proofs.bytes_shown.read_reference_head.Goals as goal

pub returns-in-Ok-clause-layout : goal.returns-in-Ok-clause-layout
returns-in-Ok-clause-layout c = (c.in-Ok.view.leaves.now, c.in-Ok.ensures.layout)
