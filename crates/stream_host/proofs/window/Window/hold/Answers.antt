use Rattle.std.proofs.Common.{◌≡◌, ◌+◌, take, drop, ◌-◌, ap, ◌∙◌, ◌++◌, arith, length}
use borrow.Rule.Slice.PartMut.{put_mid}
use Rattle.stream_host.proofs.Windows.{more}
use Rattle.stream_host.proofs.window.Window.hold.Goals as goal

pub returns : goal.returns
returns c =
    let b = c.self.inside in
    let k = length c.args.piece.now in
    let same : b.end + k - b.end ≡ k = omega arith in
    let piece : c.copy_from_slice.new.self ≡ c.args.piece.now = c.copy_from_slice.ensures.after in
    ap (λ t. take (b.end + k - b.place) (drop b.place (put_mid b.end t b.bytes c.copy_from_slice.new.self))) same
    ∙ more b.place b.end k b.bytes c.copy_from_slice.new.self c.self.invariant.0 (let t = c.self.told in let i = c.self.invariant.1 in omega arith) (ap length piece)
    ∙ ap (λ t. t ++ c.copy_from_slice.new.self) c.self.view_is ∙ ap (λ t. c.args.self.now ++ t) piece
