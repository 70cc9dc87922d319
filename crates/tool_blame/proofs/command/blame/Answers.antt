use Rattle.tool_base.proofs.Runs.{unchanged_none, onward_none, part_of}
use Rattle.tool_base.specs.Endings.{ending}
use Rattle.tool_sign.specs.Sessions.{signature_by}
use Rattle.tool_words.specs.Rows.{sign_words}
use Rattle.tool_blame.proofs.Whole.{new_still, run_signed, run_taken, run_unsigned}
use Rattle.tool_blame.proofs.command.blame.Goals as goal

pub returns-in-Err : goal.returns-in-Err
returns-in-Err g c = run_taken g.S.Store.state (sign_words c.args.words.now) c.args.store.now c.test_new.new.store _ _ c.in-Err.ensures.unchanged c.in-Err.ensures.refused

pub returns-in-Err-sign_or_name : goal.returns-in-Err-sign_or_name
returns-in-Err-sign_or_name g c =
    let tested = c.in_default.ensures in
    let run = c.in-Err-sign_or_name.ensures c.args.store.now tested.unchanged in
    let is_new = tested.new c.args.store.now c.test_new.new.store (part_of _ _ _ _ (unchanged_none _) (onward_none _)) in
    run_unsigned (sign_words c.args.words.now) (g.S.Store.state c.args.store.now) _ _ run.touched (ending c.in-Err-sign_or_name.end) is_new run.keeps run.ports run.ends

pub write_signature-requires-clause-new : goal.write_signature-requires-clause-new
write_signature-requires-clause-new g c =
    let tested = c.in_default.ensures in
    let run = c.in-Ok.ensures c.args.store.now tested.unchanged in
    let is_new = tested.new c.args.store.now c.test_new.new.store (part_of _ _ _ _ (unchanged_none _) (onward_none _)) in
    λ lives outlives. new_still (sign_words c.args.words.now) (g.S.Store.state c.args.store.now) _ _ run.touched (signature_by c.in-Ok.by) is_new run.keeps run.ends

pub returns-in-Ok : goal.returns-in-Ok
returns-in-Ok g c =
    let tested = c.in_default.ensures in
    let run = c.in-Ok.ensures c.args.store.now tested.unchanged in
    let written = c.write_signature.ensures in
    let is_new = tested.new c.args.store.now c.test_new.new.store (part_of _ _ _ _ (unchanged_none _) (onward_none _)) in
    run_signed (sign_words c.args.words.now) (g.S.Store.state c.args.store.now) _ _ _ run.touched (signature_by c.in-Ok.by) _ is_new run.keeps run.ports run.ends written.back written.ends
