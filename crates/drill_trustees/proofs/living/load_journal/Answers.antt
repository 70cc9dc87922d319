use Rattle.std.proofs.Common.{◌<◌, ◌^◌, ℕ, refl, ap, ◌∙◌}
use Rattle.opening_journal.specs.Entries.{state_in_file}
use Rattle.drill_trustees.proofs.Journals.{loaded-leaves, no-damage, no-slots}
use Rattle.drill_trustees.proofs.living.load_journal.Goals as goal

pub returns-in-Ok-clause-leaves : goal.returns-in-Ok-clause-leaves
returns-in-Ok-clause-leaves c = λ q within.
    let share = c.args.share.now in
    let deep : q < 2 ^ share.params.h = rw c.requires.height within in
    loaded-leaves c.header_of.result share.params c.args.disk c.in-Ok.journal refl c.in-Ok.ensures.loaded q deep
    ∙ ap (λ (n : ℕ). state_in_file n c.args.disk.bytes q) c.requires.hash_length

pub unreachable-requires : goal.unreachable-requires
unreachable-requires c =
    no-slots c.args.share.now c.requires.height c.args.disk.bytes c.requires.file c.header_of.result
    c.header_of.ensures c.in-Err.fault (c.in-Err.ensures.refused refl) c.in-Slots.is

pub unreachable-requires-in-Damaged : goal.unreachable-requires-in-Damaged
unreachable-requires-in-Damaged c =
    no-damage c.args.share.now c.requires.height c.args.disk.bytes c.requires.file c.header_of.result
    c.header_of.ensures c.in-Err.fault (c.in-Err.ensures.refused refl) c.in-Damaged.is
