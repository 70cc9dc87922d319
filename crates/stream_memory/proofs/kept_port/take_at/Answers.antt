use Rattle.std.proofs.Common.{◌∙◌, ◌&&◌, min, sym, ap, position}
use Rattle.std.proofs.lemmas.List.Quantifiers.{position-Some}
use Rattle.std.proofs.lemmas.List.Folds.{list_any_at}
use Rattle.std.proofs.lemmas.Slice.Eq.{bytes_eq-Decides}
use Rattle.std.specs.List.{list_all, list_any, remove}
use Rattle.stream_memory.specs.Ports.{is_at, is_steady_entry, least, room_of_entry}
use Rattle.stream_memory.proofs.Removed.{all-removed, any-removed, elsewhere, least-removed, none-passes}
use Rattle.stream_memory.proofs.kept_port.take_at.Goals as goal

pub returns-in_err-found-clause-none : goal.returns-in_err-found-clause-none
returns-in_err-found-clause-none c =
    rw c.from_residual.ensures (none-passes (is_at c.args.place.now) c.args.dialled.now.items
    (ap (position (is_at c.args.place.now)) (sym c.deref.ensures.value) ∙ sym c.find.ensures ∙ c.in_err-found.was))

pub returns-clause-name : goal.returns-clause-name
returns-clause-name c =
    let found = position-Some (is_at c.args.place.now) c.args.dialled.now.items c.in_ok-found.found c.remove.result
    (ap (position (is_at c.args.place.now)) (sym c.deref.ensures.value) ∙ sym c.find.ensures ∙ c.in_ok-found.was) in
    (bytes_eq-Decides _ _).0 (ap (is_at c.args.place.now) c.remove.ensures.value ∙ found.1)

pub returns-clause-there : goal.returns-clause-there
returns-clause-there c =
    let found = position-Some (is_at c.args.place.now) c.args.dialled.now.items c.in_ok-found.found c.remove.result
    (ap (position (is_at c.args.place.now)) (sym c.deref.ensures.value) ∙ sym c.find.ensures ∙ c.in_ok-found.was) in
    list_any_at (is_at c.args.place.now) c.args.dialled.now.items c.in_ok-found.found c.remove.result found.0 found.1

pub returns-clause-others : goal.returns-clause-others
returns-clause-others c other away =
    let found = position-Some (is_at c.args.place.now) c.args.dialled.now.items c.in_ok-found.found c.remove.result
    (ap (position (is_at c.args.place.now)) (sym c.deref.ensures.value) ∙ sym c.find.ensures ∙ c.in_ok-found.was) in
    ap (list_any (is_at other)) c.remove.ensures.items
    ∙ any-removed (is_at other) c.args.dialled.now.items c.in_ok-found.found c.remove.result found.0 (elsewhere _ _ other found.1 away)

pub returns-clause-steady : goal.returns-clause-steady
returns-clause-steady c =
    let found = position-Some (is_at c.args.place.now) c.args.dialled.now.items c.in_ok-found.found c.remove.result
    (ap (position (is_at c.args.place.now)) (sym c.deref.ensures.value) ∙ sym c.find.ensures ∙ c.in_ok-found.was) in
    all-removed is_steady_entry c.args.dialled.now.items c.in_ok-found.found c.remove.result found.0
    ∙ ap (λ e. is_steady_entry e && list_all is_steady_entry (remove c.args.dialled.now.items c.in_ok-found.found)) (sym c.remove.ensures.value)
    ∙ ap (λ l. is_steady_entry c.remove.result && list_all is_steady_entry l) (sym c.remove.ensures.items)

pub returns-clause-room : goal.returns-clause-room
returns-clause-room c =
    let found = position-Some (is_at c.args.place.now) c.args.dialled.now.items c.in_ok-found.found c.remove.result
    (ap (position (is_at c.args.place.now)) (sym c.deref.ensures.value) ∙ sym c.find.ensures ∙ c.in_ok-found.was) in
    least-removed room_of_entry c.args.dialled.now.items c.in_ok-found.found c.remove.result found.0
    ∙ ap (λ e. min (room_of_entry e) (least room_of_entry (remove c.args.dialled.now.items c.in_ok-found.found))) (sym c.remove.ensures.value)
    ∙ ap (λ l. min (room_of_entry c.remove.result) (least room_of_entry l)) (sym c.remove.ensures.items)
