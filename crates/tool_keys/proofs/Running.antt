-- Runs in two parts.
use Rattle.std.proofs.Common.{◌∙◌, refl}
use Rattle.stream_io.specs.Store.{StoreState}
use Rattle.tool_base.specs.World.{IsBack, IsUnchanged}
use Rattle.tool_base.proofs.Runs.{onward_on}

-- a part of a run in which nothing was changed, and what came of the rest
pub back_after : (a b c : StoreState) → IsUnchanged a b → IsBack b c → IsBack a c
back_after a b c unchanged back = record {
  onward = onward_on a b c unchanged.onward back.onward;
  out = λ told name. back.out (rw unchanged.onward.told told) name ∙ rw unchanged.same.names.out refl;
  views = λ told. back.views (rw unchanged.onward.told told) ∙ unchanged.same.loans.views;
}
