use Rattle.std.proofs.Common.{◌≡◌, ℕ, ◌-◌, List, [], ◌∷◌, ◌++◌, sym, ap, ap₂, ◌∙◌, arith}
use Rattle.std.specs.Prelude.{All, Option}
use Rattle.std.proofs.lemmas.List.Elements.{All-append, All-cons, All-nil}
use Rattle.atomic_table.specs.Table.{Me}
use Rattle.turn_lock.specs.Known.{starting, rest_of, lock_of}
use Rattle.turn_lock.specs.Pass.{first_pass}
use Rattle.turn_lock.specs.declared.view.Known.{Known}
use Rattle.turn_lock.specs.declared.view.Opening.{Opening}
use Rattle.turn_lock.proofs.lock.deal.Goals as goal

-- the first seat, except for how many passes are joined in it
still_starting : {T E N : Type 0} (o : Opening E N) (m m' : Me (Option T) (Known E N)) → m ≡ (record (starting o) { parts = m.0.parts }, [])
    → m' ≡ (rest_of m.0, m.1) → m' ≡ (record (starting o) { parts = m.0.parts - 1 }, [])
still_starting {T} {E} {N} o m m' before split = split ∙ ap (λ (x : Me (Option T) (Known E N)). (rest_of x.0, x.1)) before

its_parts : {T E N : Type 0} (o : Opening E N) (m m' : Me (Option T) (Known E N)) → m ≡ (record (starting o) { parts = m.0.parts }, [])
    → m' ≡ (rest_of m.0, m.1) → m' ≡ (record (starting o) { parts = m'.0.parts }, [])
its_parts {T} {E} {N} o m m' before split =
    let count : m'.0.parts ≡ m.0.parts - 1 = ap (λ (x : Me (Option T) (Known E N)). x.0.parts) split in
    still_starting o m m' before split ∙ ap (λ (n : ℕ). (record (starting o) { parts = n }, [])) (sym count)

all_more : {X : Type 0} (P : X → Type 0) (old new : List X) (x : X) → All P old → P x → new ≡ old ++ x ∷ [] → All P new
all_more P old new x before this pushed = rw pushed (All-append P old (x ∷ []) before (All-cons P x [] this (All-nil P)))

pub loop-preserved : goal.loop-preserved
loop-preserved g c =
    let inv = c.loop.invariant in
    let moved = c.split-one.ensures in
    let pushed = c.push_reserved.ensures in
    let parts = ap (λ m. m.0.parts) moved.left in
    let opening = ap (λ m. m.0.opening) moved.right ∙ ap (λ m. m.0.opening) inv.left in
    record {
      table = moved.table.0 ∙ inv.table;
      left = its_parts c.args.seat.me.0.opening c.loop.seat.me c.split-one.new.seat.me inv.left moved.left;
      parts = omega (arith, parts, inv.parts, c.loop-test.true);
      count = omega (arith, pushed.len, inv.count);
      room = rw pushed.capacity inv.room;
      dealt = all_more (λ p. p ≡ first_pass (lock_of c.args.seat.table_id c.args.seat.me.0.opening)) c.loop.passes.items c.push_reserved.new.self.items c.first.result inv.dealt
          (c.first.ensures ∙ ap₂ (λ id o. first_pass (lock_of id o)) (moved.table.1 ∙ inv.table) opening) pushed.items;
    }
