use Rattle.std.proofs.Common.{◌∙◌, Bool, nat_eq, ◌||◌, ap, sym, arith}
use Rattle.std.specs.Cmp.Lexicographic.{pointwise}
use Rattle.approval_book.proofs.Listings.{made_half, was_made}
use Rattle.approval_book.proofs.book.Book.settle.Goals as goal

pub id_in_doubt-requires : goal.id_in_doubt-requires
id_in_doubt-requires g c =
    made_half _ _ _ _ c.in-Ok-Made.field-0-is c.in-Ok-Made.ensures.event c.doubt-doubt.ensures c.args.self.now.adding

pub insert-requires : goal.insert-requires
insert-requires g c =
    let made =
    was_made _ _ _ _ _ c.in-Ok-Made.field-0-is c.in-Ok-Made.ensures.event c.doubt-doubt.ensures c.id_in_doubt.ensures
    c.args.self.now.adding in
    omega (arith, made.room, c.args.self.now.few, c.args.self.now.room, c.args.self.now.count)

pub invariant_of-self : goal.invariant_of-self
invariant_of-self g c =
    let made =
    was_made _ _ _ _ _ c.in-Ok-Made.field-0-is c.in-Ok-Made.ensures.event c.doubt-doubt.ensures c.id_in_doubt.ensures
    c.args.self.now.adding in
    record {
      version = ap (λ h. h.version) c.settle.ensures.stays.header ∙ c.args.self.now.version;
      count = c.settle.ensures.stays.count ∙ c.args.self.now.count;
      listed = λ other.
          c.insert.ensures.listed other
          ∙ ap (λ (b : Bool). pointwise nat_eq other c.id_in_doubt.result || b) (c.args.self.now.listed other)
          ∙ sym (made.listed other);
      few = omega (arith, made.taken, c.insert.ensures.length, c.args.self.now.few);
      room = omega (arith, c.insert.ensures.room, c.args.self.now.room);
      adding = λ put is. let none = made.sure in cc;
    }
