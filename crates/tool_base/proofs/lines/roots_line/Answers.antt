use Rattle.std.proofs.Common.{◌≡◌, ◌∙◌, ap, string_bytes}
use Rattle.hex.specs.Hex.{encode_lower}
use Rattle.tool_base.proofs.lines.roots_line.Goals as goal

pub returns : goal.returns
returns c =
    let one : string_bytes c.in_ok-got.got ≡ encode_lower c.args.got.now = c.in_ok-got.ensures ∙ ap encode_lower c.bytes.ensures.bytes in
    let two : string_bytes c.in_ok-want.want ≡ encode_lower c.args.want.now = c.in_ok-want.ensures ∙ ap encode_lower c.bytes-2.ensures.bytes in
    rw (← one, ← two) c.format.ensures.ok
