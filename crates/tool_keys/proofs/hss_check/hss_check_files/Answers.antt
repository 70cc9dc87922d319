use Rattle.tool_base.proofs.Runs.{unchanged_none, unchanged_on, onward_none, part_of}
use Rattle.tool_base.specs.Endings.{ending}
use Rattle.tool_keys.proofs.Stepping.{step_then}
use Rattle.tool_keys.proofs.hss_check.hss_check_files.Goals as goal

pub returns-clause-ended : goal.returns-clause-ended
returns-clause-ended g c =
    let read = c.read_hss_key_file-read.ensures in
    let rest = c.verify_under.ensures in
    let whole = part_of _ _ _ _ (unchanged_none _) rest.unchanged.onward in
    step_then _ _ _ _ ending c.read_hss_key_file-read.result _ (read.refused _ _ whole) (read.key _ _ whole) rest.not_read rest.told
    (λ key told. told _ _ (part_of _ _ _ _ read.unchanged (onward_none _)))

pub returns-clause-unchanged : goal.returns-clause-unchanged
returns-clause-unchanged g c = unchanged_on _ _ _ c.read_hss_key_file-read.ensures.unchanged c.verify_under.ensures.unchanged
