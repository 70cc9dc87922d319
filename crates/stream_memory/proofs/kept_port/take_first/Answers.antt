use Rattle.std.proofs.Common.{sym, ap, ◌∙◌, ◌&&◌, min}
use Rattle.std.specs.List.{list_all, remove}
use Rattle.stream_memory.specs.Ports.{is_steady_waiting, least, room_of_waiting}
use Rattle.stream_memory.proofs.Removed.{all-removed, least-removed}
use Rattle.stream_memory.proofs.kept_port.take_first.Goals as goal

pub returns-clause-steady : goal.returns-clause-steady
returns-clause-steady c =
    let old = c.args.waiting.now.items in
    let removed = c.remove.ensures in
    all-removed is_steady_waiting old 0 c.remove.result c.requires
    ∙ ap (λ link. is_steady_waiting link && list_all is_steady_waiting (remove old 0)) (sym removed.value)
    ∙ ap (λ rest. is_steady_waiting c.remove.result && list_all is_steady_waiting rest) (sym removed.items)

pub returns-clause-room : goal.returns-clause-room
returns-clause-room c =
    let old = c.args.waiting.now.items in
    let removed = c.remove.ensures in
    least-removed room_of_waiting old 0 c.remove.result c.requires
    ∙ ap (λ link. min (room_of_waiting link) (least room_of_waiting (remove old 0))) (sym removed.value)
    ∙ ap (λ rest. min (room_of_waiting c.remove.result) (least room_of_waiting rest)) (sym removed.items)
