use Rattle.std.proofs.Common.{◌≡◌, ◌^◌, ◌≤◌, ◌*◌, ◌%◌, ℕ, Option, None, Some, refl, sym, ◌∙◌, ap, subst, arith}
use Rattle.std.proofs.lemmas.Nat.{one_shl}
use Rattle.disk_trait.specs.Faults.{RisesAt}
use Rattle.slot_file.specs.Loading.{LoadRefused, no_memory}
use Rattle.slot_file.specs.Cache.{state_of}
use Rattle.slot_file.specs.Layout.{load_fault}
use Rattle.slot_file.specs.State.{slot_in}
use Rattle.slot_file.specs.declared.doubted.Doubted.{Doubted}
use Rattle.slot_file.specs.declared.faults.CacheLoad.TheVariants as CacheLoad
use Rattle.slot_file.specs.declared.header.Header.{Header}
use Rattle.leaf_table.specs.Loading.{entries_of}
use Rattle.leaf_table.proofs.table.Table.load.Goals as goal

-- how many slots a table of this height has
shifted : (h height : ℕ) → h ≡ height → height ≤ 25 → (1 * 2 ^ h) % 2 ^ 32 ≡ 2 ^ height
shifted h height is within = one_shl h 32 (omega (arith, is, within)) ∙ ap (λ (k : ℕ). 2 ^ k) is

-- want of memory is not the disk's fault
none_rose : (before now : ℕ) → now ≡ before → RisesAt before now CacheLoad.NoMemory CacheLoad.Device
none_rose before now same = record { later = omega (arith, same); failed = λ is. absurd (cc); others = λ other. same }

none_doubted : (doubt : Option Doubted) (doubted : Doubted) → doubt ≡ None → doubt ≡ Some doubted → ⊥
none_doubted doubt doubted none is = absurd (cc)

pub returns-in_default-clause-refused : goal.returns-in_default-clause-refused
returns-in_default-clause-refused g c = λ told.
    let loaded = c.in-Ok.ensures.loaded in
    let same = loaded.size ∙ shifted c.h.result c.args.plan.now.h c.h.ensures.value c.h.ensures.plan.h_within in
    no_memory (ap (λ (count : ℕ). load_fault c.args.header.now count (g.D.Pages.reads c.args.disk)) (sym same) ∙ (loaded.file told).opens)

pub returns-in-Err-clause-refused : goal.returns-in-Err-clause-refused
returns-in-Err-clause-refused g c = λ told.
    subst (λ (count : ℕ). LoadRefused c.args.header.now count (g.D.Pages.reads c.args.disk) c.in-Err.refused.1)
    (shifted c.h.result c.args.plan.now.h c.h.ensures.value c.h.ensures.plan.h_within) (c.in-Err.ensures.refused told)

pub returns-in-Err-clause-unwritten : goal.returns-in-Err-clause-unwritten
returns-in-Err-clause-unwritten g c = c.in-Err.ensures.unwritten

pub returns-in-Err-clause-succeeds : goal.returns-in-Err-clause-succeeds
returns-in-Err-clause-succeeds g c = c.in-Err.ensures.succeeds

pub returns-in-Err-clause-cause : goal.returns-in-Err-clause-cause
returns-in-Err-clause-cause g c = c.in-Err.ensures.cause

pub returns-in_default-clause-unwritten : goal.returns-in_default-clause-unwritten
returns-in_default-clause-unwritten g c = rw c.end.ensures.disk c.in-Ok.ensures.loaded.unwritten

pub returns-in_default-clause-cause : goal.returns-in_default-clause-cause
returns-in_default-clause-cause g c = none_rose _ _ (ap g.D.Faults.count c.end.ensures.disk ∙ c.in-Ok.ensures.loaded.faults)

pub returns-in-Ok-Ok-clause-loaded : goal.returns-in-Ok-Ok-clause-loaded
returns-in-Ok-Ok-clause-loaded g c =
    let loaded = c.in-Ok.ensures.loaded in
    let size = loaded.size ∙ shifted c.h.result c.args.plan.now.h c.h.ensures.value c.h.ensures.plan.h_within in
    record {
      file = loaded.file;
      entries = c.in-Ok-Ok.ensures.items ∙ ap (λ (n : ℕ). entries_of n (slot_in (state_of c.in-Ok.slots).slots)) size;
      settled = loaded.settled;
      named = loaded.named;
      plan_is = refl;
      unwritten = loaded.unwritten;
      faults = loaded.faults;
    }

pub overflow_shl-h : goal.overflow_shl-h
overflow_shl-h g c = omega (arith, c.h.ensures.value, c.h.ensures.plan.h_within)

pub of_slots-index-requires : goal.of_slots-index-requires
of_slots-index-requires g c = c.in-Ok.ensures.loaded.size ∙ shifted c.h.result c.args.plan.now.h c.h.ensures.value c.h.ensures.plan.h_within

pub invariant_of-result : goal.invariant_of-result
invariant_of-result g c =
    let loaded = c.in-Ok.ensures.loaded in
    let listed = c.in-Ok-Ok.ensures in
    let no : (doubted : Doubted) → (state_of c.in-Ok.slots).doubt ≡ Some doubted → ⊥ = λ doubted is. none_doubted _ doubted loaded.settled is in
    record {
      version = ap (λ (h : Header). h.version) loaded.named ∙ c.requires;
      count = loaded.size ∙ shifted c.h.result c.args.plan.now.h c.h.ensures.value c.h.ensures.plan.h_within;
      sound = record {
        slots = listed.have;
        legal = listed.legal;
        within = λ doubted is. absurd (no doubted is);
        next = λ doubted is. absurd (no doubted is);
        makes = λ doubted is. absurd (no doubted is);
      };
      room = listed.room;
      indexed = rw c.in-Ok-Ok.is-1 at c.of_slots-index.ensures;
    }
