use Rattle.std.proofs.Common.{◌≡◌, ◌++◌, ◌∙◌, take, drop, length, ap, arith, length-append}
use Rattle.std.proofs.lemmas.List.{take_at}
use Rattle.dealer.proofs.Mapped.{length_over}
use Rattle.dealer.proofs.leaves.room_for_commits.Goals as goal

-- the head, and what follows it
pub returns-clause-head : goal.returns-clause-head
returns-clause-head c =
    let head = c.copy_from_slice.new.self in
    let rest = c.split_at_mut-head.result.1.now in
    let len = c.in_ok-file.file.len in
    let front : length head ≡ 32 = c.copy_from_slice.ensures.len ∙ c.split_at_mut-head.ensures.front_len in
    let size : length (head ++ rest) ≡ len = omega (arith, length-append head rest, front, c.split_at_mut-head.ensures.back_len, c.deref_mut.ensures.len) in
    ap (take 32) (take_at (head ++ rest) (drop (length (head ++ rest)) c.in_ok-file.file.items) len size) ∙ (take_at head rest 32 front ∙ (c.copy_from_slice.ensures.after ∙ c.head_of_commits.ensures))

pub returns-clause-length : goal.returns-clause-length
returns-clause-length c =
    let head = c.copy_from_slice.new.self in
    let rest = c.split_at_mut-head.result.1.now in
    let len = c.in_ok-file.file.len in
    let size : length (head ++ rest) ≡ len =
    omega (arith, length-append head rest, c.copy_from_slice.ensures.len, c.split_at_mut-head.ensures.front_len, c.split_at_mut-head.ensures.back_len, c.deref_mut.ensures.len) in
    length_over len (head ++ rest) c.in_ok-file.file.items size ∙ (c.in_ok-file.ensures.len ∙ rw c.k.ensures.value at c.length_of_commits.ensures)

pub split_at_mut-head-requires : goal.split_at_mut-head-requires
split_at_mut-head-requires c = omega (arith, c.deref_mut.ensures.len, c.in_ok-file.ensures.len, c.length_of_commits.ensures)
