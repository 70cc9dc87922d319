use Rattle.std.proofs.Common.{◌≡◌, Some, map, string_bytes, refl}
use Rattle.tool_words.specs.Rows.{row}
use Rattle.tool_words.specs.Words.{command_of}
use Rattle.tool_words.proofs.Commands.{outputs_differ}
use Rattle.tool_base.proofs.Runs.{back_unchanged, unchanged_none}
use Rattle.tool_run.proofs.Running.{usage_run}
use Rattle.tool_run.proofs.tool.run_words.Goals as goal

pub returns-in-None-clause-ended : goal.returns-in-None-clause-ended
returns-in-None-clause-ended g c = rw (← c.command_of.ensures, c.in-None.is) (usage_run _ _ _)

pub returns-in-None-clause-back : goal.returns-in-None-clause-back
returns-in-None-clause-back g c = back_unchanged _ _ (unchanged_none _)

pub run_command-requires-clause-differ : goal.run_command-requires-clause-differ
run_command-requires-clause-differ g c =
    let is : command_of (map string_bytes c.args.words.now) ≡ Some (row c.in-Some.command) = rw (← c.command_of.ensures, c.in-Some.is) refl in
    λ lives order. outputs_differ _ _ is

pub returns-in-None-clause-told : goal.returns-in-None-clause-told
returns-in-None-clause-told g c = rw (← c.command_of.ensures, c.in-None.is) refl
