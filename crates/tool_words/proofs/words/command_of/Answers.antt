use Rattle.tool_words.specs.Words.{command_of}
use Rattle.tool_words.proofs.Options.{list_any-map}
use Rattle.tool_words.proofs.words.command_of.Goals as goal

pub returns-then-has_option : goal.returns-then-has_option
unfolding command_of
returns-then-has_option c = rw list_any-map (rw (← c.has_option.ensures, c.if-has_option.true))

pub returns-in-Ok : goal.returns-in-Ok
unfolding command_of
returns-in-Ok c = rw list_any-map (rw (← c.has_option.ensures, c.if-has_option.false) c.row_of.ensures)

pub returns : goal.returns
unfolding command_of
returns c = rw list_any-map (rw (← c.has_option.ensures, c.if-has_option.false) c.row_of-in-Err.ensures)
