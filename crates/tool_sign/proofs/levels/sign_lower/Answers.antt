use Rattle.std.proofs.Common.{List, ℕ, [], subst}
use Rattle.lms_bytes.specs.PublicKey.{public_bytes}
use Rattle.tool_base.specs.Grammars.{not_read}
use Rattle.tool_base.specs.Reads.{no_memory}
use Rattle.tool_desk.specs.Files.{no_key}
use Rattle.tool_base.proofs.Outs.{keeps_unchanged}
use Rattle.tool_sign.specs.HssSign.{session_words}
use Rattle.tool_sign.proofs.Whole.{unbegun}
use Rattle.tool_sign.specs.Ports.{NetRun, over_net}
use Rattle.tool_sign.specs.Sessions.{SessionRun}
use Rattle.tool_sign.specs.Tasks.{message_of, no_key_files}
use Rattle.tool_words.specs.Rows.{hss_sign_words}
use Rattle.tool_sign.proofs.levels.sign_lower.Goals as goal

pub returns-in-Err : goal.returns-in-Err
returns-in-Err g c = λ first unchanged.
    unbegun (session_words (hss_sign_words c.args.words.now)) (λ store. message_of (public_bytes c.args.lower.now)) _ _ _ _ (keeps_unchanged [] _ _ unchanged)
    (no_key_files _ (no_key _ (not_read _ no_memory)))

pub returns : goal.returns
returns g c = λ first unchanged.
    let words = session_words (hss_sign_words c.args.words.now) in
    let net : NetRun = over_net (g.N.Net.state c.args.net.now) (g.N.Net.state c.sign_message.new.net) in
    subst (λ (bytes : List ℕ). SessionRun words (λ store. message_of bytes) (g.S.Store.state first) (g.S.Store.state c.sign_message.new.store) net c.sign_message.result) c.in-Ok.ensures
    (c.sign_message.ensures first unchanged)
