use Rattle.std.proofs.Common.{◌≡◌, ◌∙◌, inr, map, sym}
use Rattle.std.proofs.lemmas.Result.{IfErr-weaker}
use Rattle.std.specs.String.{string_bytes}
use Rattle.tool_base.specs.OutputOf.{output_of}
use Rattle.tool_base.proofs.Writing.{names_of}
use Rattle.tool_keys.specs.Naming.{all_names}
use Rattle.tool_keys.proofs.deal.test_names.Goals as goal

pub returns-clause-new : goal.returns-clause-new
returns-clause-new g c = λ first last part.
    let names : map (λ output. string_bytes output.name) c.in-Ok.outputs.items ≡ all_names c.args.prefix.now c.args.n =
    sym (names_of output_of c.in-Ok.outputs.items) ∙ c.in-Ok.ensures in
    rw (c.deref.ensures.value, names) at (c.test_all_new.ensures.new first last part)

pub returns-clause-refused : goal.returns-clause-refused
returns-clause-refused g c = λ first last part.
    let names : map (λ output. string_bytes output.name) c.in-Ok.outputs.items ≡ all_names c.args.prefix.now c.args.n =
    sym (names_of output_of c.in-Ok.outputs.items) ∙ c.in-Ok.ensures in
    IfErr-weaker c.test_all_new.result _ _ (λ end is. inr is) (rw (c.deref.ensures.value, names) at (c.test_all_new.ensures.refused first last part))
