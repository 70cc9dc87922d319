use Rattle.std.proofs.Common.{◌*◌, ◌∙◌, ap}
use Rattle.std.proofs.lemmas.Result.{err_from_is_err_and}
use Rattle.dealer.proofs.Mapped.{over_all}
use Rattle.drill.proofs.replies.masks_of.Goals as goal

pub write_masks-requires-clause-digest : goal.write_masks-requires-clause-digest
write_masks-requires-clause-digest c = c.requires

pub write_masks-requires-clause-room : goal.write_masks-requires-clause-room
write_masks-requires-clause-room c = c.deref_mut.ensures.len ∙ (c.in_ok-masks.ensures.len ∙ ap (λ count. c.args.share.now.params.n * count) c.mask_count-count.ensures)

pub returns-in_err-masks : goal.returns-in_err-masks
returns-in_err-masks c = rw (err_from_is_err_and c.from_residual.result c.from_residual.ensures.1).1 tt

pub returns : goal.returns
returns c = over_all c.in_ok-masks.masks.len c.write_masks.new.out c.in_ok-masks.masks.items _ (c.write_masks.auto.out ∙ c.deref_mut.ensures.len) c.write_masks.ensures
