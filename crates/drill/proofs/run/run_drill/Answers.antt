use Rattle.std.proofs.Common.{ℕ, List, subst}
use Rattle.dealer.specs.Dealt.{IsDealt}
use Rattle.dealer.specs.Entropy.{dealing_of}
use Rattle.drill.proofs.run.run_drill.Goals as goal

pub returns-clause-summary : goal.returns-clause-summary
returns-clause-summary c =
    let desk = c.in_ok-desk.desk in
    c.run_dealt.ensures.summary c.args.number c.draw_entropy-entropy.ensures.after
    (subst (λ (e : List ℕ). IsDealt (dealing_of desk.dealt.public.params desk.plan e) desk.dealt) c.draw_entropy-entropy.ensures.entropy c.in_ok-desk.ensures)

pub returns-clause-disks : goal.returns-clause-disks
returns-clause-disks c =
    let desk = c.in_ok-desk.desk in
    c.run_dealt.ensures.disks c.args.number c.draw_entropy-entropy.ensures.after
    (subst (λ (e : List ℕ). IsDealt (dealing_of desk.dealt.public.params desk.plan e) desk.dealt) c.draw_entropy-entropy.ensures.entropy c.in_ok-desk.ensures)
