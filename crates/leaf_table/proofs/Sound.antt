-- The entries beside the slots, through puts and settling.
use Rattle.std.proofs.Common.{◌≡◌, ℕ, ◌+◌, ◌<◌, List, [], ◌∷◌, ◌++◌, Some, true, length, set, refl, sym, ◌∙◌, ap, subst, inl, inr, arith}
use Rattle.std.proofs.lemmas.Bool.{cases_eq}
use Rattle.std.proofs.lemmas.List.{get_or-set_same, get_or-set_other, length-set}
use Rattle.std.proofs.lemmas.List.Sums.{sum_by-set}
use Rattle.leaf_table.specs.Entries.{Follows, leaf_of, map_of, may_follow, use_after}
use Rattle.leaf_table.specs.Slots.{lease_of_slot, may_become, use_of_slot}
use Rattle.slot_file.specs.Logs.{room_in, room_of}
use Rattle.leaf_table.specs.State.{IsSound, TableState, lease_of, with_doubt, with_lease}
use Rattle.leaf_table.specs.declared.lease.Lease.{Lease}
use Rattle.leaf_table.specs.declared.lease.Lease.TheVariants.{Leased, Burnt}
use Rattle.slot_file.proofs.Logs.{legal-more}
use Rattle.leaf_table.proofs.Maps.{map_of-other, map_of-same}
use Rattle.slot_file.specs.State.{slot_in}
use Rattle.slot_file.specs.declared.doubted.Doubted.{Doubted}
use Rattle.slot_file.specs.declared.slot.Slot.{Slot}
use Rattle.slot_file.specs.declared.slot.Slot.TheVariants.{Free, Half, Full, Damaged}

-- an entry by which a slot became another may follow
pub may-follow : (lease : Lease) (before slot : Slot) → may_become before slot ≡ true → use_after lease ≡ use_of_slot slot
    → may_follow lease (use_of_slot before) ≡ true
may-follow (Leased leaf message) Free (Half a) may makes = refl
may-follow (Leased leaf message) (Half a) (Full b c moment) may makes = absurd (cc)
may-follow (Burnt leaf) Free (Half a) may makes = absurd (cc)
may-follow (Burnt leaf) (Half a) (Full b c moment) may makes = refl
may-follow lease Free Free may makes = absurd (cc)
may-follow lease Free (Full b c moment) may makes = absurd (cc)
may-follow lease Free (Damaged b c) may makes = absurd (cc)
may-follow lease (Half a) Free may makes = absurd (cc)
may-follow lease (Half a) (Half b) may makes = absurd (cc)
may-follow lease (Half a) (Damaged b c) may makes = absurd (cc)
may-follow lease (Full a b moment) slot may makes = absurd (cc)
may-follow lease (Damaged a b) slot may makes = absurd (cc)

-- and takes one place
room-step : (before slot : Slot) → may_become before slot ≡ true → room_of before ≡ room_of slot + 1
room-step Free (Half a) may = refl
room-step (Half a) (Full b c moment) may = refl
room-step Free Free may = absurd (cc)
room-step Free (Full b c moment) may = absurd (cc)
room-step Free (Damaged b c) may = absurd (cc)
room-step (Half a) Free may = absurd (cc)
room-step (Half a) (Half b) may = absurd (cc)
room-step (Half a) (Damaged b c) may = absurd (cc)
room-step (Full a b moment) slot may = absurd (cc)
room-step (Damaged a b) slot may = absurd (cc)

pub leaf_of-lease : (leaf : ℕ) (slot : Slot) → leaf_of (lease_of_slot leaf slot) ≡ leaf
leaf_of-lease leaf Free = refl
leaf_of-lease leaf (Half a) = refl
leaf_of-lease leaf (Full a b moment) = refl
leaf_of-lease leaf (Damaged a b) = refl

pub room-put : (slots : List Slot) (leaf : ℕ) (slot : Slot) → leaf < length slots → may_become (slot_in slots leaf) slot ≡ true
    → room_in (set slots leaf slot) + 1 ≡ room_in slots
room-put slots leaf slot within may = omega (arith, sum_by-set room_of slots leaf slot Free within, room-step (slot_in slots leaf) slot may)

module _ (state : TableState) (lease : Lease) (leaf : ℕ) (slot : Slot) (within : leaf < length state.slots) (sound : IsSound state)
    (may : may_become (slot_in state.slots leaf) slot ≡ true) (is_leaf : leaf_of lease ≡ leaf) (makes : use_after lease ≡ use_of_slot slot) where
  abbrev made : List Slot
  made = set state.slots leaf slot

  follows : may_follow lease (map_of state.entries (leaf_of lease)) ≡ true
  follows =
      ap (λ (k : ℕ). may_follow lease (map_of state.entries k)) is_leaf ∙ ap (may_follow lease) (sym (sound.slots leaf within))
      ∙ may-follow lease (slot_in state.slots leaf) slot may makes

  pub have-made : (other : ℕ) → other < length made → use_of_slot (slot_in made other) ≡ map_of (state.entries ++ lease ∷ []) other
  have-made other below = elim (cases_eq other leaf) [
    | inl same ↦
        ap (λ (k : ℕ). use_of_slot (slot_in made k)) same ∙ ap use_of_slot (get_or-set_same state.slots leaf slot Free within)
        ∙ sym makes ∙ sym (map_of-same state.entries lease other (same ∙ sym is_leaf))
    | inr differs ↦
        ap use_of_slot (get_or-set_other state.slots leaf other slot Free differs)
        ∙ sound.slots other (omega (arith, below, length-set state.slots leaf slot))
        ∙ sym (map_of-other state.entries lease other (λ is. differs (is ∙ is_leaf)))
  ]

  pub sound-made : IsSound (with_lease state lease leaf slot)
  sound-made = record {
    slots = have-made;
    legal = legal-more Follows state.entries lease sound.legal follows;
    within = λ doubted is. absurd (cc);
    next = λ doubted is. absurd (cc);
    makes = λ doubted is. absurd (cc);
  }

pub sound-doubt : (state : TableState) (leaf : ℕ) (slot : Slot) → leaf < length state.slots → IsSound state
    → may_become (slot_in state.slots leaf) slot ≡ true → use_after (lease_of_slot leaf slot) ≡ use_of_slot slot → IsSound (with_doubt state leaf slot)
sound-doubt state leaf slot within sound may makes =
    let put : Doubted = record { slot = leaf; after = slot } in
    let same : (doubted : Doubted) → Some put ≡ Some doubted → put ≡ doubted = λ doubted is. cc in
    record {
      slots = sound.slots;
      legal = sound.legal;
      within = λ doubted is. subst (λ (d : Doubted). d.slot < length state.slots) (same doubted is) within;
      next = λ doubted is. subst (λ (d : Doubted). may_become (slot_in state.slots d.slot) d.after ≡ true) (same doubted is) may;
      makes = λ doubted is. subst (λ (d : Doubted). use_after (lease_of d) ≡ use_of_slot d.after) (same doubted is) makes;
    }
