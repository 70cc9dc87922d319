use Rattle.std.proofs.Common.{◌≡◌, ◌∙◌, ◌+◌, Bool, nat_eq, ap, sym, arith, ◌||◌}
use Rattle.approval_book.specs.Listed.{full, device, new}
use Rattle.approval_book.proofs.Listings.{free-in, is_listed-put, no_doubt, settled-is, taken_count-less, taken_count-put}
use Rattle.slot_file.specs.State.{CacheState}
use Rattle.slot_file.specs.Copies.{taken_count}
use Rattle.std.specs.Cmp.Lexicographic.{pointwise}
use Rattle.approval_book.proofs.book.Book.put.Goals as goal

pub returns-in_default-clause-event : goal.returns-in_default-clause-event
returns-in_default-clause-event g c =
    rw (settled-is c.args.self.now.slots.cached _ c.requires.settled)
    (full c.requires.absent (sym c.first_free.ensures.place ∙ c.in_default.is))

pub returns-in-Err-clause-event : goal.returns-in-Err-clause-event
returns-in-Err-clause-event g c =
    rw c.in-Err.ensures.event (device _ c.requires.absent (sym c.first_free.ensures.place ∙ c.in-Some.is))

pub insert-requires : goal.insert-requires
insert-requires g c =
    let here = free-in c.args.self.now.slots.cached c.in-Some.place (sym c.first_free.ensures.place ∙ c.in-Some.is) in
    let less = taken_count-less _ _ here c.args.id in
    omega (arith, less, c.args.self.now.few, c.args.self.now.room, c.args.self.now.count)

pub invariant_of-self-2 : goal.invariant_of-self-2
invariant_of-self-2 g c =
    let here = free-in c.args.self.now.slots.cached c.in-Some.place (sym c.first_free.ensures.place ∙ c.in-Some.is) in
    let event = c.in_default-put_a.ensures.event in
    let slots = ap (λ (s : CacheState). s.slots) event in
    record {
      version = ap (λ h. h.version) c.put_a.ensures.stays.header ∙ c.args.self.now.version;
      count = c.put_a.ensures.stays.count ∙ c.args.self.now.count;
      listed = λ other.
          c.insert.ensures.listed other
          ∙ ap (λ (b : Bool). pointwise nat_eq other c.args.id || b) (c.args.self.now.listed other)
          ∙ sym (rw slots (is_listed-put _ _ here c.args.id other));
      few =
          let more = taken_count-put _ _ here c.args.id in
          let same : taken_count c.put_a.new.self.cached ≡ taken_count c.args.self.now.slots.cached + 1 = rw slots more in
          omega (arith, same, c.insert.ensures.length, c.args.self.now.few);
      room = omega (arith, c.insert.ensures.room, c.args.self.now.room);
      adding = λ put is. absurd (no_doubt _ _ event put is);
    }

pub returns-clause-event : goal.returns-clause-event
returns-clause-event g c =
    rw c.in_default-put_a.ensures.event (new _ c.requires.absent (sym c.first_free.ensures.place ∙ c.in-Some.is))
