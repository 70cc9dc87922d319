use Rattle.std.proofs.Common.{◌≡◌, ◌∙◌, None}
use Rattle.tool_show.specs.SlotKinds.{slot_kind}
use Rattle.tool_show.specs.Shown as shown
use Rattle.tool_show.proofs.Showing.{key_shown, kindless}
use Rattle.tool_show.proofs.bytes_shown.show_unmarked.Goals as goal

pub returns-in-Ok-clause-shown : goal.returns-in-Ok-clause-shown
returns-in-Ok-clause-shown c =
    let listed = c.in-Ok.ensures.listed in
    shown.slots _ (rw listed.kind_is at c.requires) listed

pub returns-in_ok-line-in-Some-clause-shown : goal.returns-in_ok-line-in-Some-clause-shown
returns-in_ok-line-in-Some-clause-shown c =
    let none : slot_kind c.args.bytes.items ≡ None = rw c.in-Err-NotASlotFile.field-0-is at c.in-Err-NotASlotFile.ensures.refused in
    let kind = rw none at c.requires in
    rw c.in_ok-line-in-Some.ensures
    (key_shown _ _ c.in-Some.key (kind ∙ rw (← c.deref.ensures.value) c.in-Some.ensures.kind) (rw (← c.deref.ensures.value) c.in-Some.ensures.bytes))

pub returns-in-None-clause-refused : goal.returns-in-None-clause-refused
returns-in-None-clause-refused c =
    let none : slot_kind c.args.bytes.items ≡ None = rw c.in-Err-NotASlotFile.field-0-is at c.in-Err-NotASlotFile.ensures.refused in
    let kind = rw none at c.requires in
    kindless _ (kind ∙ rw (← c.deref.ensures.value) c.in-None.ensures.kind)
