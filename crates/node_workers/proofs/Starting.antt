-- Workers before they are run.
use Rattle.std.proofs.Common.{◌≡◌, [], ◌∷◌, ◌++◌, List, All, length, refl, ap, arith}
use Rattle.std.proofs.lemmas.List.Elements.{All-head, All-nil, All-push, All-tail}
use Rattle.node_workers.specs.Starting.{fresh_worker, fresh_workers}
use Rattle.node_workers.specs.declared.worker.Worker.{Worker}
use Rattle.turn_lock.specs.Pass.{Seen}

module _ {P T X L E N : Type 0} (pass : Seen E N) where
  -- the worker of the last port is the first one
  pub fresh-last : (ports : List P) (owns : List X) (port : P) (own : X) → length ports ≡ length owns
      → fresh_workers {P = P} {T = T} {X = X} {L = L} pass (ports ++ port ∷ []) (owns ++ own ∷ []) ≡ fresh_worker pass port own ∷ fresh_workers pass ports owns
  unfolding fresh_workers
  fresh-last [] [] port own same = refl
  fresh-last [] (b ∷ owns) port own same = absurd (omega (arith, same))
  fresh-last (a ∷ ports) [] port own same = absurd (omega (arith, same))
  fresh-last (a ∷ ports) (b ∷ owns) port own same =
      ap (λ (l : List (Worker P T X L E N)). l ++ fresh_worker pass a b ∷ []) (fresh-last ports owns port own (omega (arith, same)))

  -- what is true of each new worker, where this is true of what it alone uses
  pub fresh-each : (Of : X → Type 0) (Is : Worker P T X L E N → Type 0) → ((port : P) (own : X) → Of own → Is (fresh_worker pass port own)) → (ports : List P) (owns : List X) → All Of owns
      → All Is (fresh_workers pass ports owns)
  unfolding fresh_workers
  fresh-each Of Is each [] owns of = All-nil Is
  fresh-each Of Is each (port ∷ ports) [] of = All-nil Is
  fresh-each Of Is each (port ∷ ports) (own ∷ owns) of =
      All-push Is (fresh_workers pass ports owns) (fresh_worker pass port own) (fresh-each Of Is each ports owns (All-tail Of own owns of)) (each port own (All-head Of own owns of))
