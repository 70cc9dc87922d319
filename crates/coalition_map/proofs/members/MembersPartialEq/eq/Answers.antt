use Rattle.std.proofs.Common.{◌≡◌, ℕ, ◌^◌, ◌<◌, eqb, sym, ◌∙◌, ap, inl, inr}
use Rattle.std.proofs.lemmas.Bool.{cases_eq, eq-eqb, ne_eqb, false_from_ne_true}
use Rattle.std.proofs.lemmas.Slice.Eq.{bytes_eq-Decides}
use Rattle.std.specs.Cmp.Lexicographic.{pointwise}
use Rattle.coalition_map.specs.Members.{member_numbers}
use Rattle.coalition_map.proofs.MemberLaws.{member_numbers-distinct}
use Rattle.coalition_map.proofs.members.MembersPartialEq.eq.Goals as goal

-- the bits are equal exactly if the lists are
agree : (b d : ℕ) → b < 2 ^ 16 → d < 2 ^ 16 → eqb b d ≡ pointwise eqb (member_numbers b) (member_numbers d)
agree b d hb hd =
    let decides = bytes_eq-Decides (member_numbers b) (member_numbers d) in
    elim (cases_eq b d) [
      | inl e ↦ eq-eqb b d e ∙ sym (decides.1 (ap member_numbers e))
      | inr ne ↦ ne_eqb b d ne ∙ sym (false_from_ne_true _ (λ t. ne (member_numbers-distinct b d hb hd (decides.0 t))))
    ]

pub returns : goal.returns
returns c = rw (← c.self.view_is, ← c.other.view_is) (agree _ _ c.self.invariant c.other.invariant)
