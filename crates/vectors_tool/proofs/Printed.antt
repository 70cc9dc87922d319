-- A run over objects in memory whose line was printed whole.
use Rattle.std.proofs.Common.{◌≡◌, ◌≤◌, ◌++◌, ◌∙◌, ◌&&◌, ℕ, Bool, true, List, [], length, map, Option, None, Some, IsSome, IsTrue, ap, inl, inr, refl, sym, subst, arith}
use Rattle.std.specs.List.{list_all}
use Rattle.stream_memory.specs.Calls.{is_empty}
use Rattle.std.specs.declared.alloc.Global.{Global}
use Rattle.std.specs.declared.string.String.{String}
use Rattle.std.specs.declared.vec.Vec.{Vec}
use Rattle.stream_memory.specs.MemStore.{Begun, file_disk}
use Rattle.tool_base.specs.Ending.{Ending, line_of}
use Rattle.tool_base.specs.World.{OutputRun, World}
use Rattle.tool_run.specs.ToolRun.{IsAnswered, ToolRun}
use Rattle.vectors_tool.specs.Witness.{SteadyRun}
use Rattle.tool_words.specs.Words.{Row, command_of}

-- a sink that is empty and has never failed, and what is known of it after a call that did not fail
pub record IsQuiet (output : OutputRun) : Type 0 where
  pub steady : IsTrue output.steady
  pub told : IsTrue output.before.told
  pub empty : output.before.written ≡ []
  pub none : output.before.count ≡ 0
  pub quiet : output.after.count ≡ 0
  pub within : length output.after.written ≤ output.room

-- there was room for a line that was printed whole
room-for : (output : OutputRun) (end : Ending) (status : ℕ) → IsQuiet output → IsAnswered output end status → length (line_of end) ≤ output.room
room-for output end status is (inl whole) =
    let same : length output.after.written ≡ length (line_of end) = ap length (whole.0.grown is.told ∙ ap (λ (w : List ℕ). w ++ line_of end) is.empty) in
    let within = is.within in
    omega (arith, within, same)
room-for output end status is (inr cut) =
    let rose = cut.0.rose in
    let none = is.none in
    let quiet = is.quiet in
    absurd (omega (arith, rose, none, quiet))

-- a net of no scripts, no call of which is listed to fail
pub steady-scripts : {X : Type 0} (is : X → Bool) (scripts : List X) (failing : List ℕ) → scripts ≡ [] → failing ≡ [] → (is_empty failing && list_all is scripts) ≡ true
steady-scripts is scripts failing none quiet =
    subst (λ f. (is_empty f && list_all is scripts) ≡ true) (sym quiet) (subst (λ xs. (is_empty [] && list_all is xs) ≡ true) (sym none) refl)

row-of : (command : Option Row) → IsSome command → (row : Row) × (command ≡ Some row)
row-of None is = absurd (cc)
row-of (Some row) is = (row, refl)

module _ (words : List (List ℕ)) (files : List (String Global × Vec ℕ Global)) (world : World) (status : ℕ) where
  pub steady-of : IsSome (command_of words) → Begun (map file_disk files) world.before.store → IsTrue world.before.store.steady → IsTrue world.before.net.told → IsTrue world.before.net.steady
      → IsQuiet world.output → ToolRun words world status → SteadyRun words files world status
  steady-of command begun steady net_told net_steady quiet run =
      let row = row-of (command_of words) command in
      record {
        row = row.0;
        is_command = row.1;
        begun = begun;
        run = run;
        steady = record {
          store_told = begun.told;
          store_steady = steady;
          net_told = net_told;
          net_steady = net_steady;
          output_steady = quiet.steady;
          room = room-for world.output run.answered.shown status quiet run.answered.answered;
        };
      }
