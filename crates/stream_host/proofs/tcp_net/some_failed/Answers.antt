use Rattle.std.proofs.Common.{◌≡◌, MatchBool, length, ℕ, ◌<◌, rules, tests}
use Rattle.std.specs.List.{AllWithin, HoldsAt}
use Rattle.std.proofs.lemmas.Iterator.{cases_from_any, YieldsList-from_slice}
use Rattle.stream_host.proofs.Ports.{found-not-all, none-found}
use Rattle.stream_host.proofs.tcp_net.some_failed.Goals as goal

-- what the search says of the ports
found : (g : _) (c : goal.After-any g) → MatchBool c.any.result ((k : ℕ) × (k < length c.args.ports.now) × HoldsAt (λ port. g.P.Faults.count port ≡ 0 → ⊥) c.args.ports.now k) (AllWithin (λ port. g.P.Faults.count port ≡ 0) c.args.ports.now 0 (length c.args.ports.now))
found g c =
    cases_from_any _ _ _ (λ port. g.P.Faults.count port ≡ 0 → ⊥) (λ port. g.P.Faults.count port ≡ 0) c.any.ensures.ran
    (YieldsList-from_slice c.args.ports.now cc) (λ x q k. search (rules, tests)) (λ x q k. search (rules, tests))

pub returns-clause-some : goal.returns-clause-some
returns-clause-some g c = found-not-all (λ port. g.P.Faults.count port ≡ 0) c.any.result c.args.ports.now (found g c)

pub returns-clause-none : goal.returns-clause-none
returns-clause-none g c = none-found (λ port. g.P.Faults.count port ≡ 0) c.any.result c.args.ports.now (found g c)
