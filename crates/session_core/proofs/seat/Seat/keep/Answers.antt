use Rattle.std.proofs.Common.{◌≡◌, length, arith}
use Rattle.session_core.proofs.Keeping.{kept, written_back}
use Rattle.session_core.proofs.seat.Seat.keep.Goals as goal

pub returns : goal.returns
returns c =
    let size : length c.put.new.out ≡ length c.self.inside.buffer.items = omega arith in
    let full : c.self.inside.buffer.len ≡ length c.self.inside.buffer.items = omega arith in
    let back = written_back c.put.new.out c.self.inside.buffer.items c.self.inside.buffer.len size full in
    kept c.self.inside c.args.self.now c.args.code c.args.body.now _ c.self.view_is (rw back c.put.ensures.bytes) (rw back size)
