use Rattle.std.proofs.Common.{ℕ, ◌≡◌, ◌+◌, ◌*◌, ◌<◌, ◌≤◌, max, rules, arith}
use Rattle.bench_calls.proofs.turns.meet.Goals as goal

both_bounded : (a b c p q r each : ℕ) → c ≡ a + b → r ≡ p + q → a ≤ p * each → b ≤ q * each → c ≤ r * each
both_bounded a b c p q r each sum joined first second = rw (sum, joined) (omega arith)

both_equal : (a b c p q r each : ℕ) → c ≡ a + b → r ≡ p + q → a ≡ p * each → b ≡ q * each → c ≡ r * each
both_equal a b c p q r each sum joined first second = rw (sum, joined) (omega arith)

max_below : (a b c n : ℕ) → c ≡ max a b → c < n → (a < n) × (b < n)
max_below a b c n is lt = (omega arith, omega arith)

pub returns : goal.returns
returns c =
    let one = c.requires.pass in
    let two = c.requires.other in
    let met = c.meet.ensures.joins in record {
      of = search rules;
      idle = search rules;
      draws = both_bounded _ _ _ _ _ _ c.args.each met.draws met.joined one.draws two.draws;
      rises = both_bounded _ _ _ _ _ _ c.args.each met.rises met.joined one.rises two.rises;
      all = λ tickets floor.
          let t = max_below _ _ _ _ met.greatest tickets in
          let f = max_below _ _ _ _ met.floor floor in
          both_equal _ _ _ _ _ _ c.args.each met.rises met.joined (one.all t.0 f.0) (two.all t.1 f.1);
    }
