use Rattle.std.proofs.Common.{◌≡◌, ◌≢◌, Bool, ◌∙◌, ◌^◌, ◌<◌, true, false, Some, refl, sym, ap, subst}
use Rattle.slot_file.specs.Cache.{state_of}
use Rattle.slot_file.specs.Copies.{is_free}
use Rattle.slot_file.specs.State.{slot_in}
use Rattle.slot_file.specs.declared.slot.Slot.{Slot}
use Rattle.slot_file.specs.declared.slot.Slot.TheVariants.{Free, Half, Full, Damaged}
use Rattle.leaf_table.proofs.Walking.{Seeks, left_of, less, passes, seeks, stops}
use Rattle.leaf_table.proofs.index.next_free.Goals as goal

is-free : (x : Slot) → is_free x ≡ true → x ≡ Free
is-free Free is = refl
is-free (Half a) is = absurd (cc)
is-free (Full a b moment) is = absurd (cc)
is-free (Damaged a b) is = absurd (cc)

not-free : (x : Slot) → is_free x ≡ false → x ≢ Free
not-free x is free = let itself : is_free x ≡ true = ap is_free free in cc

-- by the test of what a call gave
free-by : (x y : Slot) (test : Bool) → y ≡ x → test ≡ is_free y → test ≡ true → x ≡ Free
free-by x y test same is free = is-free x (ap is_free (sym same) ∙ sym is ∙ free)

taken-by : (x y : Slot) (test : Bool) → y ≡ x → test ≡ is_free y → test ≡ false → x ≢ Free
taken-by x y test same is taken = not-free x (ap is_free (sym same) ∙ sym is ∙ taken)

pub leaves-init : goal.leaves-init
leaves-init g c =
    let e = c.next_leaf-next.ensures in
    seeks c.args.plan.now (state_of c.args.slots.now).slots c.args.c c.args.after c.next_leaf-next.result c.requires.passed e.leaf e.least e.none

pub leaves-preserved : goal.leaves-preserved
leaves-preserved g c =
    let plan = c.args.plan.now in
    let slots = (state_of c.args.slots.now).slots in
    let leaf = c.in-Some.leaf in
    let e = c.next_leaf-next-in-Some.ensures in
    let taken : slot_in slots leaf ≢ Free = taken-by (slot_in slots leaf) c.slot.result.now c.is_free.result c.slot.ensures c.is_free.ensures c.if-is_free.false in
    let at : Seeks plan slots c.args.c (Some leaf) = subst (Seeks plan slots c.args.c) c.in-Some.is c.leaves.invariant in
    seeks plan slots c.args.c (Some leaf) c.next_leaf-next-in-Some.result (passes plan slots c.args.c leaf at taken) e.leaf e.least e.none

pub returns-then-is_free : goal.returns-then-is_free
returns-then-is_free g c =
    let plan = c.args.plan.now in
    let slots = (state_of c.args.slots.now).slots in
    let leaf = c.in-Some.leaf in
    stops plan slots c.args.c leaf (subst (Seeks plan slots c.args.c) c.in-Some.is c.leaves.invariant)
    (free-by (slot_in slots leaf) c.slot.result.now c.is_free.result c.slot.ensures c.is_free.ensures c.if-is_free.true)

pub returns : goal.returns
returns g c = subst (Seeks c.args.plan.now (state_of c.args.slots.now).slots c.args.c) c.in_default.is c.leaves.invariant

pub leaves-smaller : goal.leaves-smaller
leaves-smaller g c =
    let plan = c.args.plan.now in
    let slots = (state_of c.args.slots.now).slots in
    let leaf = c.in-Some.leaf in
    let next = c.next_leaf-next-in-Some.result in
    let at : Seeks plan slots c.args.c (Some leaf) = subst (Seeks plan slots c.args.c) c.in-Some.is c.leaves.invariant in
    subst (λ now. left_of (2 ^ plan.h) next < left_of (2 ^ plan.h) now) (sym c.in-Some.is)
    (less plan slots c.args.c leaf next at.0.leaf c.next_leaf-next-in-Some.ensures.leaf)
