use Rattle.std.proofs.Common.{◌≡◌, ◌≤◌, IsTrue, length, refl, ap, subst, arith}
use Rattle.disk_trait.specs.Disks.{SameKind}
use Rattle.disk_trait.specs.Images.{Follows, Torn, written}
use Rattle.stream_host.proofs.file_disk.FileDisk.write_within.Goals as goal

pub returns-in_err-write_pieces-clause-within : goal.returns-in_err-write_pieces-clause-within
returns-in_err-write_pieces-clause-within g c =
    let known = ap (λ v. v.known_length) c.self.view_is in
    let below = c.requires in
    subst (λ v. IsTrue (g.F.RawFile.told v.file) → c.args.at ≤ length (g.F.RawFile.reads v.file)) c.self.view_is
    (λ told. let k = c.self.invariant.known told in omega arith)

pub returns-in_err-write_pieces-clause-stays : goal.returns-in_err-write_pieces-clause-stays
returns-in_err-write_pieces-clause-stays g c =
    subst (λ v. SameKind g.F.RawFile.told g.F.RawFile.honest g.F.Faults.steady g.F.RawFile.room v.file c.write_pieces.new.file)
    c.self.view_is c.write_pieces.ensures.stays

pub returns-clause-within : goal.returns-clause-within
returns-clause-within g c =
    let known = ap (λ v. v.known_length) c.self.view_is in
    let below = c.requires in
    subst (λ v. IsTrue (g.F.RawFile.told v.file) → c.args.at ≤ length (g.F.RawFile.reads v.file)) c.self.view_is
    (λ told. let k = c.self.invariant.known told in omega arith)

pub returns-clause-stays : goal.returns-clause-stays
returns-clause-stays g c =
    subst (λ v. SameKind g.F.RawFile.told g.F.RawFile.honest g.F.Faults.steady g.F.RawFile.room v.file c.write_pieces.new.file)
    c.self.view_is c.write_pieces.ensures.stays

pub returns-in_err-write_pieces-clause-images : goal.returns-in_err-write_pieces-clause-images
returns-in_err-write_pieces-clause-images g c =
    let known = ap (λ v. v.known_length) c.self.view_is in
    let below = c.requires in
    subst (λ v. IsTrue (g.F.RawFile.honest v.file) → IsTrue (g.F.RawFile.told v.file)
    → Follows (Torn c.args.at (length c.args.bytes.now)) (g.F.RawFile.may_leave v.file) (g.F.RawFile.may_leave c.write_pieces.new.file))
    c.self.view_is (λ honest told. let k = c.self.invariant.known told in c.write_pieces.ensures.images honest told (omega arith))

pub returns-clause-bytes : goal.returns-clause-bytes
returns-clause-bytes g c =
    let known = ap (λ v. v.known_length) c.self.view_is in
    let below = c.requires in
    subst (λ v. IsTrue (g.F.RawFile.told v.file)
    → g.F.RawFile.reads c.write_pieces.new.file ≡ written (g.F.RawFile.reads v.file) c.args.at c.args.bytes.now)
    c.self.view_is (λ told. let k = c.self.invariant.known told in c.in_ok-write_pieces.ensures.bytes told (omega arith))

pub returns-clause-torn : goal.returns-clause-torn
returns-clause-torn g c told = tt

pub returns-clause-images : goal.returns-clause-images
returns-clause-images g c =
    let known = ap (λ v. v.known_length) c.self.view_is in
    let below = c.requires in
    subst (λ v. IsTrue (g.F.RawFile.honest v.file) → IsTrue (g.F.RawFile.told v.file)
    → Follows (Torn c.args.at (length c.args.bytes.now)) (g.F.RawFile.may_leave v.file) (g.F.RawFile.may_leave c.write_pieces.new.file))
    c.self.view_is (λ honest told. let k = c.self.invariant.known told in c.write_pieces.ensures.images honest told (omega arith))

pub returns-clause-succeeds : goal.returns-clause-succeeds
returns-clause-succeeds g c steady told room fits = refl
