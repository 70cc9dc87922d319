use Rattle.tool_run.proofs.Telling.{tells-answered}
use Rattle.tool_run.proofs.tool.run_in_turns.Goals as goal

pub returns-clause-told : goal.returns-clause-told
returns-clause-told g c = tells-answered _ _ _ _ _ _ _ c.finish.ensures c.run_words-end.ensures.told
