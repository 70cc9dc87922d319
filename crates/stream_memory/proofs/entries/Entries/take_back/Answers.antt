use Rattle.std.proofs.Common.{ap, sym, ◌∙◌, is_some}
use Rattle.stream_memory.specs.declared.entries.Slot.TheVariants.{Here}
use Rattle.stream_memory.proofs.Added.{changed, is_placed, returned, same_readers}
use Rattle.stream_memory.proofs.entries.Entries.take_back.Goals as goal

pub unwrap-place-requires : goal.unwrap-place-requires
unwrap-place-requires c =
    rw c.place_of.ensures (is_placed c.args.self.now.list.items c.args.name.now ∙ ap is_some c.requires)

pub returns-clause-slots : goal.returns-clause-slots
returns-clause-slots c =
    changed c.args.self.now.list.items c.args.name.now c.unwrap-place.result c.index_mut.result.now
    (sym c.unwrap-place.ensures ∙ c.place_of.ensures) c.index_mut.ensures.value (Here c.args.disk)

pub returns-clause-steady : goal.returns-clause-steady
returns-clause-steady c =
    returned c.args.self.now.list.items c.args.name.now c.unwrap-place.result c.index_mut.result.now
    (sym c.unwrap-place.ensures ∙ c.place_of.ensures) c.index_mut.ensures.value c.args.disk c.requires

pub returns-clause-readers : goal.returns-clause-readers
returns-clause-readers c =
    same_readers c.args.self.now.list.items c.args.name.now c.unwrap-place.result c.index_mut.result.now
    (sym c.unwrap-place.ensures ∙ c.place_of.ensures) c.index_mut.ensures.value (Here c.args.disk)
