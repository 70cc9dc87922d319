use Rattle.std.proofs.Common.{◌∙◌, ℕ, ap, sym, arith}
use Rattle.slot_file.specs.Loading.{no_memory}
use Rattle.slot_file.specs.Layout.{load_fault}
use Rattle.approval_book.proofs.Fronts.{front-listed, front-taken}
use Rattle.approval_book.proofs.book.Book.load.Goals as goal

pub returns-in-Err-listed_in-clause-refused : goal.returns-in-Err-listed_in-clause-refused
returns-in-Err-listed_in-clause-refused g c told =
    let loaded = c.in-Ok.ensures.loaded in
    let file = loaded.file told in
    no_memory (sym (ap (λ (n : ℕ). load_fault c.args.header.now n (g.D.Pages.reads c.args.disk)) loaded.size) ∙ file.opens)

pub invariant_of-result : goal.invariant_of-result
invariant_of-result g c =
    let loaded = c.in-Ok.ensures.loaded in
    let slots = c.in-Ok.slots.cached in
    let front = c.front.result.now in
    let listed = c.in-Ok-listed_in.ensures in
    record {
      version = ap (λ h. h.version) loaded.named ∙ c.requires;
      count = loaded.size;
      listed = λ id. listed.listed id ∙ sym (front-listed slots front c.front.ensures id);
      few = omega (arith, listed.few, front-taken slots front c.front.ensures);
      room = listed.room;
      adding = λ put some. absurd (cc);
    }
