-- Workers that are joined, step by step.
use Rattle.std.proofs.Common.{◌≡◌, ◌++◌, List, [], ◌∷◌, sym, ap, ◌∙◌, subst, append_assoc}
use Rattle.node_workers.specs.Joined.{Joined, joined_last, joined_more, numbers_of, with_numbers}
use Rattle.node_workers.specs.declared.worker.Worker.{Worker}
use Rattle.stream_io.specs.declared.totals.Totals.{Totals}
use Rattle.turn_lock.specs.Pass.{Joins, Seen}

pub split-more : {W : Type 0} (all left done others : List W) (worker : W) → all ≡ left ++ done → left ≡ others ++ worker ∷ [] → all ≡ others ++ worker ∷ done
split-more all left done others worker split one =
    split ∙ ap (λ (l : List _). l ++ done) one ∙ append_assoc others (worker ∷ []) done

module _ {P T X L E N : Type 0} where
  pub joined-as : {pass : Seen E N} {ports : List P} {owns : List X} {totals : Totals} (worker : Worker P T X L E N)
      → pass ≡ worker.pass → ports ≡ worker.port ∷ [] → owns ≡ worker.own ∷ [] → totals ≡ numbers_of worker → Joined (worker ∷ []) pass ports owns totals
  joined-as {pass = pass} {ports = ports} {owns = owns} {totals = totals} worker pass_is ports_are owns_are totals_are =
      subst (λ (p : Seen E N). Joined (worker ∷ []) p ports owns totals) (sym pass_is)
      (subst (λ (l : List P). Joined (worker ∷ []) worker.pass l owns totals) (sym ports_are)
      (subst (λ (l : List X). Joined (worker ∷ []) worker.pass (worker.port ∷ []) l totals) (sym owns_are)
      (subst (λ (t : Totals). Joined (worker ∷ []) worker.pass (worker.port ∷ []) (worker.own ∷ []) t) (sym totals_are) (joined_last worker))))

  pub joined-then : {done : List (Worker P T X L E N)} {pass new : Seen E N} {ports nows : List P} {owns mores : List X} {totals sums : Totals} (worker : Worker P T X L E N)
      → Joined done pass ports owns totals → Joins pass worker.pass new → nows ≡ ports ++ worker.port ∷ [] → mores ≡ owns ++ worker.own ∷ [] → sums ≡ with_numbers totals worker
      → Joined (worker ∷ done) new nows mores sums
  joined-then {done = done} {pass = pass} {new = new} {ports = ports} {nows = nows} {owns = owns} {mores = mores} {totals = totals} {sums = sums} worker before joins ports_are owns_are sums_are =
      subst (λ (l : List P). Joined (worker ∷ done) new l mores sums) (sym ports_are)
      (subst (λ (l : List X). Joined (worker ∷ done) new (ports ++ worker.port ∷ []) l sums) (sym owns_are)
      (subst (λ (t : Totals). Joined (worker ∷ done) new (ports ++ worker.port ∷ []) (owns ++ worker.own ∷ []) t) (sym sums_are)
      (joined_more worker done pass new ports owns totals before joins)))
