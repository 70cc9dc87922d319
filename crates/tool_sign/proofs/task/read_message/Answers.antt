use Rattle.tool_base.proofs.Runs.{unchanged_none, onward_none, part_of}
use Rattle.tool_sign.proofs.task.read_message.Goals as goal

pub returns-in-InFile-clause-bytes : goal.returns-in-InFile-clause-bytes
returns-in-InFile-clause-bytes g c =
    rw c.in-InFile.is (c.read_file.ensures.bytes c.args.store.now c.read_file.new.store (part_of _ _ _ _ (unchanged_none _) (onward_none _)))

pub returns-in-InFile-clause-refused : goal.returns-in-InFile-clause-refused
returns-in-InFile-clause-refused g c =
    rw c.in-InFile.is (c.read_file.ensures.refused c.args.store.now c.read_file.new.store (part_of _ _ _ _ (unchanged_none _) (onward_none _)))
