use Rattle.std.proofs.Common.{◌≡◌, ◌∙◌, sym, ap, length, arith}
use Rattle.slot_file.proofs.Lists.{Reaches, length-filled, longer-reaches, set-reached, stays-free}
use Rattle.slot_file.proofs.slot_list.SlotList.set.Goals.{then-slot-len+else-is_free, else-slot-len}
use Rattle.slot_file.proofs.slot_list.SlotList.set.Goals as goal

pub returns-then-is_free : goal.returns-then-is_free
returns-then-is_free c =
    stays-free c.self.inside.count c.args.slot c.args.self.now c.self.inside.front.items c.args.value (sym c.self.view_is) (omega arith) (sym c.is_free.ensures ∙ c.if-is_free.true)

pub returns : goal.returns
returns c =
    let inside = c.if-slot-len.self-inside in
    let old = c.self.inside in
    let slots = c.args.self.now in
    let all : length slots ≡ old.count = sym (ap length c.self.view_is) ∙ length-filled old.count old.front.items c.self.invariant.0 in
    let reached : Reaches slots inside.count inside.front.items c.args.slot = elim c.if-slot-len.branch [
      | then-slot-len+else-is_free w ↦
          rw w.self-inside-is (longer-reaches slots old.front.items _ old.count c.args.slot _ (sym c.self.view_is) (rw w.unwrap.ensures at w.resize.ensures.items) old.front.ok.0 (omega arith) (omega (arith, c.requires, all)))
      | else-slot-len w ↦ rw w.self-inside-is (record { is = sym c.self.view_is; within = omega arith })
    ] in
    set-reached c.args.value reached
