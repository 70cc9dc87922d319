use Rattle.std.proofs.Common.{◌∙◌, refl}
use Rattle.dealer.proofs.Mapped.{length_over, over_all}
use Rattle.dealer.proofs.signing.path_of.Goals as goal

pub returns-clause-length : goal.returns-clause-length
returns-clause-length c =
    let size = c.write_path.auto.out ∙ c.deref_mut.ensures.len in
    length_over c.in_ok-path.path.len c.write_path.new.out c.in_ok-path.path.items size ∙ c.in_ok-path.ensures.len

pub returns-clause-path : goal.returns-clause-path
returns-clause-path c =
    let size = c.write_path.auto.out ∙ c.deref_mut.ensures.len in
    over_all c.in_ok-path.path.len c.write_path.new.out c.in_ok-path.path.items _ size c.write_path.ensures

pub write_path-requires-clause-leaf : goal.write_path-requires-clause-leaf
write_path-requires-clause-leaf c = rw c.requires.height c.requires.leaf

pub write_path-requires-clause-room : goal.write_path-requires-clause-room
write_path-requires-clause-room c = c.deref_mut.ensures.len ∙ (c.in_ok-path.ensures.len ∙ rw (c.requires.hash_length, c.requires.height) refl)
