-- Places as ports and cells.
use Rattle.std.proofs.Common.{◌≡◌, List, [], ◌∷◌, length, map, refl, ap, arith}
use Rattle.aggregator_node.specs.Ports.{Place, places_of, reference_state}
use Rattle.disk_trait.specs.declared.faults.Faults as faults
use Rattle.reference_value.specs.declared.cells.Cells as cells
use Rattle.stream_io.specs.Net.{PortState}
use Rattle.tool_aggregate.specs.Serving.{HaveCells, cells_run, ports_of}

module _ {X P : Type 0} (c : cells.Ghosts X) (f : faults.Ghosts X) (state : P → PortState) where
  pub ports_are : (ports : List P) (own : List X) → length own ≡ length ports → ports_of (places_of c f state ports own) ≡ map state ports
  ports_are [] [] same = refl
  ports_are [] (x ∷ own) same = absurd (omega (arith, same))
  ports_are (p ∷ ports) [] same = absurd (omega (arith, same))
  ports_are (p ∷ ports) (x ∷ own) same = ap (λ l. state p ∷ l) (ports_are ports own (omega (arith, same)))

  references_are : (ports : List P) (own : List X) → length own ≡ length ports → map (λ (place : Place). place.reference) (places_of c f state ports own) ≡ map (reference_state c f) own
  references_are [] [] same = refl
  references_are [] (x ∷ own) same = absurd (omega (arith, same))
  references_are (p ∷ ports) [] same = absurd (omega (arith, same))
  references_are (p ∷ ports) (x ∷ own) same = ap (λ l. reference_state c f x ∷ l) (references_are ports own (omega (arith, same)))

  counts_are : (ports : List P) (own : List X) → length own ≡ length ports → map (λ (place : Place). place.faults) (places_of c f state ports own) ≡ map f.count own
  counts_are [] [] same = refl
  counts_are [] (x ∷ own) same = absurd (omega (arith, same))
  counts_are (p ∷ ports) [] same = absurd (omega (arith, same))
  counts_are (p ∷ ports) (x ∷ own) same = ap (λ l. f.count x ∷ l) (counts_are ports own (omega (arith, same)))

  pub have_cells : (ports_old ports_new : List P) (own_old own_new : List X) → length own_old ≡ length ports_old → length own_new ≡ length ports_new
      → HaveCells (cells_run c f own_old own_new) (places_of c f state ports_old own_old) (places_of c f state ports_new own_new)
  have_cells ports_old ports_new own_old own_new before after = record {
    references = references_are ports_old own_old before;
    before = counts_are ports_old own_old before;
    after = counts_are ports_new own_new after;
  }
