-- The result of a call that takes views, put together.
use Rattle.std.proofs.Common.{[], Ok, Err}
use Rattle.stream_io.specs.Store.{StoreOnward, StoreState}
use Rattle.tool_base.specs.Ending.{Ending}
use Rattle.tool_base.specs.Endings as endings
use Rattle.tool_base.specs.Touched.{Keeps}
use Rattle.tool_base.specs.World.{InAnyRun, IsUnchanged, StoreRun}
use Rattle.tool_base.specs.declared.ending.Ending as declared
use Rattle.tool_desk.specs.Views.{TakesViews}
use Rattle.tool_desk.proofs.Outs.{kept_none, out_unchanged}

module _ {S T : Type 0} (state : S → StoreState) (old new : S) (Found : StoreRun → T → Type 0) (Fails : StoreRun → Ending → Type 0) where
  -- it hands something out
  pub takes : (got : T) → InAnyRun state old new (λ run. Found run got) → StoreOnward (state old) (state new) → TakesViews state old new (Ok got) Found Fails
  takes got found onward = record { found = found; refused = λ first last part. tt; keeps = tt; onward = onward }

  -- it refuses, and all is back
  pub refuses : (end : declared.Ending) → InAnyRun state old new (λ run. Fails run (endings.ending end)) → Keeps [] (state old) (state new) → TakesViews state old new (Err end) Found Fails
  refuses end why keeps = record { found = λ first last part. tt; refused = why; keeps = keeps; onward = keeps.back.onward }

  -- it refuses when nothing changed
  pub refuses_unchanged : (end : declared.Ending) → InAnyRun state old new (λ run. Fails run (endings.ending end)) → IsUnchanged (state old) (state new) → TakesViews state old new (Err end) Found Fails
  refuses_unchanged end why unchanged = refuses end why (kept_none _ _ (out_unchanged _ _ unchanged))
