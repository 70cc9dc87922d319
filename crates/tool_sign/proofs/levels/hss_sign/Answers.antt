use Rattle.tool_base.proofs.Runs.{unchanged_none, onward_on}
use Rattle.tool_sign.proofs.HssWhole.{new_behind, run_signed, run_unsigned, top_accepts}
use Rattle.tool_sign.specs.Lower.{lower_of}
use Rattle.tool_sign.specs.Ports.{NetRun, over_net}
use Rattle.tool_sign.specs.Sessions.{signature_by}
use Rattle.tool_words.specs.Rows.{hss_sign_words}
use Rattle.tool_sign.proofs.levels.hss_sign.Goals as goal

pub write_levels-requires-clause-new : goal.write_levels-requires-clause-new
write_levels-requires-clause-new g c =
    let state = g.S.Store.state in
    let first = c.args.store.now in
    let last = c.sign_lower.new.store in
    let begun = c.in-Ok.ensures in
    let by = c.in-Ok-sign_lower.by in
    let run = c.in-Ok-sign_lower.ensures first begun.unchanged in
    let alone = c.in-Ok-sign_lower.ensures c.accepted_lower.new.store (unchanged_none _) in
    let net : NetRun = over_net (g.N.Net.state c.args.net.now) (g.N.Net.state c.sign_lower.new.net) in
    λ lives order.
    new_behind (hss_sign_words c.args.words.now) (state first) (state last) net (lower_of c.in-Ok.lower) by.key (signature_by by) run.touched run.keeps run.signed
    (begun.ready last alone.keeps.back.onward).new

pub write_levels-requires-clause-accepted : goal.write_levels-requires-clause-accepted
write_levels-requires-clause-accepted g c =
    let state = g.S.Store.state in
    let first = c.args.store.now in
    let last = c.sign_lower.new.store in
    let by = c.in-Ok-sign_lower.by in
    let run = c.in-Ok-sign_lower.ensures first c.in-Ok.ensures.unchanged in
    let net : NetRun = over_net (g.N.Net.state c.args.net.now) (g.N.Net.state c.sign_lower.new.net) in
    λ lives order.
    top_accepts (hss_sign_words c.args.words.now) (state first) (state last) net (lower_of c.in-Ok.lower) by.key (signature_by by) run.touched run.signed

pub returns-in-Ok-sign_lower : goal.returns-in-Ok-sign_lower
returns-in-Ok-sign_lower g c =
    let state = g.S.Store.state in
    let first = c.args.store.now in
    let last = c.sign_lower.new.store in
    let very_last = c.write_levels.new.store in
    let begun = c.in-Ok.ensures in
    let by = c.in-Ok-sign_lower.by in
    let run = c.in-Ok-sign_lower.ensures first begun.unchanged in
    let alone = c.in-Ok-sign_lower.ensures c.accepted_lower.new.store (unchanged_none _) in
    let written = c.write_levels.ensures in
    let net : NetRun = over_net (g.N.Net.state c.args.net.now) (g.N.Net.state c.sign_lower.new.net) in
    let ready = begun.ready very_last (onward_on _ _ _ alone.keeps.back.onward written.back.onward) in
    run_signed (hss_sign_words c.args.words.now) (state first) (state last) net (lower_of c.in-Ok.lower) by.key (signature_by by) run.touched (state very_last)
    run.keeps run.ports written.back ready run.signed _ c.requires written.ends

pub returns : goal.returns
returns g c =
    let state = g.S.Store.state in
    let first = c.args.store.now in
    let last = c.sign_lower.new.store in
    let begun = c.in-Ok.ensures in
    let run = c.in-Err-sign_lower.ensures first begun.unchanged in
    let alone = c.in-Err-sign_lower.ensures c.accepted_lower.new.store (unchanged_none _) in
    let net : NetRun = over_net (g.N.Net.state c.args.net.now) (g.N.Net.state c.sign_lower.new.net) in
    run_unsigned (hss_sign_words c.args.words.now) (state first) (state last) net (lower_of c.in-Ok.lower) run.touched _ run.keeps run.ports
    (begun.ready last alone.keeps.back.onward) run.ends
