use Rattle.std.proofs.Common.{◌≤◌, ◌∙◌, arith, length, sym, take_all}
use Rattle.dealer.proofs.Mapped.{over_all}
use Rattle.dealer.proofs.files.public_file.Goals as goal

pub write_public-requires : goal.write_public-requires
write_public-requires c = omega (arith, c.deref_mut.ensures.len, c.in_ok-file.ensures.len)

pub returns : goal.returns
returns c =
    let size = c.write_public.auto.out ∙ c.deref_mut.ensures.len in
    let whole : length c.write_public.new.out ≤ c.write_public.result = omega (arith, size, c.in_ok-file.ensures.len, c.write_public.ensures.length) in
    over_all c.in_ok-file.file.len c.write_public.new.out c.in_ok-file.file.items _ size
    (sym (take_all c.write_public.result c.write_public.new.out whole) ∙ c.write_public.ensures.bytes)
