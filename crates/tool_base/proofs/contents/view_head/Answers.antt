use Rattle.std.proofs.Common.{Err, ap, refl, sym, arith}
use Rattle.std.proofs.lemmas.Bool.{false≢true}
use Rattle.stream_io.specs.Store.{pages_state}
use Rattle.tool_base.specs.Contents.{HasHead, device, failed, no_memory}
use Rattle.tool_base.specs.World.{Failed, file_limit}
use Rattle.tool_base.proofs.Runs.{read_part}
use Rattle.tool_base.proofs.Viewing.{device_part, reads_as, reads_part}
use Rattle.tool_base.proofs.contents.view_head.Goals as goal

pub returns-in-Err-Failed-clause-refused : goal.returns-in-Err-Failed-clause-refused
returns-in-Err-Failed-clause-refused g c =
    let is = c.in-Err-Failed.field-0-is in
    let view = c.in-Err-Failed.ensures in
    λ first last part. failed (read_part _ _ _ _ part file_limit c.args.name.now Failed (view.cause.rose (ap Err is), λ told steady. view.absent told steady (ap Err is)))

pub returns-in-Err-NoMemory-clause-refused : goal.returns-in-Err-NoMemory-clause-refused
returns-in-Err-NoMemory-clause-refused g c = λ first last part. no_memory

pub returns-in-Ok-read-clause-head : goal.returns-in-Ok-read-clause-head
returns-in-Ok-read-clause-head g c =
    let state = g.S.Store.state in
    let views = g.S.View in
    let pages = pages_state views.Pages.told views.Pages.honest views.Faults.steady views.Faults.count views.Pages.room views.Pages.reads views.Pages.may_leave in
    let view = pages c.in-Ok.view in
    let Is = HasHead c.read_at-read.new.out in
    λ first last part. reads_part _ _ _ _ part _ Is
    (reads_as (state c.args.store.now) _ c.args.name.now view view c.in-Ok.ensures.viewed refl refl (λ told. refl) _ Is (λ told. sym (c.in-Ok-read.ensures.bytes told)))

pub returns-in-Err-clause-refused : goal.returns-in-Err-clause-refused
returns-in-Err-clause-refused g c =
    let state = g.S.Store.state in
    let viewed = c.in-Ok.ensures.viewed in
    λ first last part. device (device_part (state first) (state c.args.store.now) (state c.end_view.new.self) (state last) part (record {
      rose = let whole = c.end_view.ensures.ended.disk_count in let same = viewed.disk_count in let fresh = viewed.given.fresh in
          let rose = c.in-Err.ensures.cause.failed in omega (arith, whole, same, fresh, rose);
      unsteady = λ told steady. false≢true (c.in-Err.ensures.succeeds (viewed.given.steady steady) (viewed.given.told told) (c.requires.long told _ (viewed.reads told)));
    }))
