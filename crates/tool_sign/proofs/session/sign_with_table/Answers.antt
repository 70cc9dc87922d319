use Rattle.std.proofs.Common.{◌^◌, refl}
use Rattle.tool_base.specs.Endings.{ending}
use Rattle.tool_sign.proofs.Signs.{no_room_to, no_table_to, out_again, refused_to, signed_to}
use Rattle.tool_sign.proofs.Tables.{table_refused}
use Rattle.tool_sign.specs.Ports.{over_net, signing_of}
use Rattle.tool_sign.specs.Signs.{answer_in}
use Rattle.tool_sign.specs.Tables.{table_header}
use Rattle.tool_sign.proofs.session.sign_with_table.Goals as goal

pub returns-in-Err-Failed-clause-run : goal.returns-in-Err-Failed-clause-run
returns-in-Err-Failed-clause-run g c =
    let is = c.in-Err-Failed.is in
    let fault = c.in-Err-Failed.field-0-is in
    let take = c.in-Err-Failed.ensures in
    no_table_to (signing_of g.R.Cells g.R.Faults c.args.desk.now c.args.cells.now c.args.cells.now c.args.members c.args.message.now) c.args.table.now
    (g.S.Store.state c.args.store.now) (g.S.Store.state c.take_disk.new.self) (g.N.Net.state c.args.net.now) c.not_begun.result.outcome c.not_begun.result.session
    c.not_begun.ensures.0 c.not_begun.ensures.1 refl take.refused take.onward (take.cause.rose (cc), λ told steady. take.absent told steady (cc))

pub returns-in-Err-NoMemory-clause-run : goal.returns-in-Err-NoMemory-clause-run
returns-in-Err-NoMemory-clause-run g c =
    no_room_to (signing_of g.R.Cells g.R.Faults c.args.desk.now c.args.cells.now c.args.cells.now c.args.members c.args.message.now) c.args.table.now
    (g.S.Store.state c.args.store.now) (g.S.Store.state c.take_disk.new.self) (g.N.Net.state c.args.net.now) c.not_begun-in-Err-NoMemory.result.outcome c.not_begun-in-Err-NoMemory.result.session
    c.not_begun-in-Err-NoMemory.ensures.0 c.not_begun-in-Err-NoMemory.ensures.1 refl c.in-Err-NoMemory.ensures.refused c.in-Err-NoMemory.ensures.onward

pub returns-in-Err-clause-run : goal.returns-in-Err-clause-run
returns-in-Err-clause-run g c =
    let state = g.S.Store.state in
    let disks = g.S.Disk in
    let load = c.in-Err.ensures in
    let out = c.in-Ok.ensures in
    refused_to (signing_of g.R.Cells g.R.Faults c.args.desk.now c.args.cells.now c.args.cells.now c.args.members c.args.message.now) c.args.table.now
    (state c.args.store.now) (state c.return_disk.new.self) (g.N.Net.state c.args.net.now) c.not_begun-in-Err.result.outcome c.not_begun-in-Err.result.session
    c.end_of_slots.result c.not_begun-in-Err.ensures.0 c.not_begun-in-Err.ensures.1 refl
    (table_refused disks.Pages disks.Faults (state c.args.store.now) (state c.take_disk.new.self) (state c.return_disk.new.self) c.args.table.now c.in-Ok.disk c.in-Err.disk
    out.taken out.onward c.return_disk.ensures.returned c.return_disk.ensures.onward c.table_header-header.result (table_header c.args.desk.now.key.now) (2 ^ c.args.desk.now.plan.now.h)
    c.in-Err.fault (ending c.end_of_slots.result) c.table_header-header.ensures c.end_of_slots.ensures load.refused load.unwritten load.succeeds load.cause)

pub returns-clause-run : goal.returns-clause-run
returns-clause-run g c =
    let state = g.S.Store.state in
    let disks = g.S.Disk in
    let out = c.in-Ok.ensures in
    let signed = c.sign_over_net-ended.ensures in
    signed_to disks.Pages disks.Faults (state c.args.store.now) (state c.take_disk.new.self) (state c.return_disk-2.new.self) c.args.table.now c.table_header-header.result c.in-Ok.disk c.end.result
    c.in-Ok-load.leaves c.sign_over_net-ended.new.table
    (signing_of g.R.Cells g.R.Faults c.args.desk.now c.args.cells.now c.sign_over_net-ended.new.cells c.args.members c.args.message.now)
    (over_net (g.N.Net.state c.args.net.now) (g.N.Net.state c.sign_over_net-ended.new.net)) (answer_in c.sign_over_net-ended.result.outcome) c.sign_over_net-ended.result.session
    c.table_header-header.ensures c.in-Ok-load.ensures.loaded signed.table c.end.ensures.disk c.end.ensures.holds
    out.taken out.onward c.return_disk-2.ensures.returned c.return_disk-2.ensures.onward signed.ends signed.net

pub return_disk-requires-2 : goal.return_disk-requires-2
return_disk-requires-2 g c =
    let state = g.S.Store.state in
    let disks = g.S.Disk in
    let out = c.in-Ok.ensures in
    record {
      out = λ is_told. out_again disks.Pages disks.Faults (state c.args.store.now) (state c.take_disk.new.self) (state c.take_disk.new.self) c.args.table.now c.table_header-header.result c.in-Ok.disk
          c.end.result c.in-Ok-load.leaves c.sign_over_net-ended.new.table c.args.desk.now.plan.now c.in-Ok-load.ensures.loaded c.sign_over_net-ended.ensures.table c.end.ensures.disk
          out.taken out.onward is_told;
    }
