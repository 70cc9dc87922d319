use Rattle.std.proofs.Common.{◌≡◌, ◌≤◌, ◌+◌, ◌-◌, ◌%◌, arith}
use Rattle.std.proofs.lemmas.Bool.{eqb-true, eq-eqb, ltb-true}
use Rattle.coalition_map.proofs.MemberLaws.{has-member, member-has, member-within}
use Rattle.coalition_map.proofs.members.Members.has.Goals as goal

pub returns-then-place-lt16 : goal.returns-then-place-lt16
returns-then-place-lt16 c =
    let place : (c.args.t + 255) % 256 ≡ c.args.t - 1 = omega arith in
    rw (place, ← c.self.view_is) (
      (λ e. has-member c.self.inside.bits c.args.t (omega arith) (omega arith) (eqb-true _ 1 e)),
      (λ h. eq-eqb _ 1 (member-has c.self.inside.bits c.args.t h)),
    )

pub returns-else-place-lt16 : goal.returns-else-place-lt16
returns-else-place-lt16 c =
    rw (← c.self.view_is) (
      (λ e. absurd (omega (arith, ltb-true _ 16 e))),
      (λ h. let within : (1 ≤ c.args.t) × (c.args.t ≤ 16) = member-within c.self.inside.bits c.args.t h in
          absurd (omega (arith, within.0, within.1))),
    )
