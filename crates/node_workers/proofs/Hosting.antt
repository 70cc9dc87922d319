-- Workers from the ports that they were made for to the pass in which they are joined.
use Rattle.std.proofs.Common.{◌≡◌, ◌+◌, ◌<◌, ◌++◌, ℕ, suc, List, [], ◌∷◌, length, take, drop, get_or, refl, sym, ap, ◌∙◌, subst, arith, length-append}
use Rattle.node_workers.specs.Joined.{Joined, joined_last, joined_more, numbers_of, with_numbers}
use Rattle.node_workers.specs.Starting.{fresh_worker, fresh_workers}
use Rattle.node_workers.specs.declared.worker.Worker.{Worker}
use Rattle.node_workers.proofs.Lists.{written-whole}
use Rattle.node_workers.proofs.Starting.{fresh-last}
use Rattle.stream_io.specs.declared.totals.Totals.{Totals}
use Rattle.turn_lock.specs.Pass.{Joins, Seen}

-- a list by its last element
record Ended {A : Type 0} (xs : List A) : Type 0 where
  front : List A
  last : A
  is : xs ≡ front ++ last ∷ []

ended : {A : Type 0} (xs : List A) (rest : ℕ) → length xs ≡ rest + 1 → Ended xs
ended [] rest long = absurd (omega (arith, long))
ended (x ∷ []) rest long = record { front = []; last = x; is = refl }
ended (x ∷ y ∷ ys) rest long = let e = ended (y ∷ ys) (length ys) (omega arith) in record { front = x ∷ e.front; last = e.last; is = ap (λ (l : List _). x ∷ l) e.is }

module _ {P T X L E N : Type 0} (Ran : Worker P T X L E N → Worker P T X L E N → Type 0) (start : Seen E N) where
  -- Workers of these ports, each with what stands at the same place and this pass, came to others by this relation. Those
  -- are joined, the one of the first port first.
  pub data Hosted : List P → List X → List P → List X → Seen E N → Totals → Type 0 where
    host_first : (port : P) (own : X) (worker : Worker P T X L E N) → Ran (fresh_worker start port own) worker
        → Hosted (port ∷ []) (own ∷ []) (worker.port ∷ []) (worker.own ∷ []) worker.pass (numbers_of worker)
    host_next : (ports : List P) (owns : List X) (nows : List P) (mores : List X) (pass : Seen E N) (totals : Totals) (port : P) (own : X) (worker : Worker P T X L E N) (new : Seen E N)
        → Hosted ports owns nows mores pass totals → Ran (fresh_worker start port own) worker → Joins pass worker.pass new
        → Hosted (ports ++ port ∷ []) (owns ++ own ∷ []) (nows ++ worker.port ∷ []) (mores ++ worker.own ∷ []) new (with_numbers totals worker)

  -- each worker came to the one at its place
  abbrev AllRan : List (Worker P T X L E N) → List (Worker P T X L E N) → Type 0
  AllRan olds news = (i : ℕ) (d : Worker P T X L E N) → i < length olds → Ran (get_or olds i d) (get_or news i d)

  hosted : (ports : List P) (owns : List X) (news : List (Worker P T X L E N)) (pass : Seen E N) (nows : List P) (mores : List X) (totals : Totals)
      → length ports ≡ length owns → length news ≡ length ports → AllRan (fresh_workers start ports owns) news → Joined news pass nows mores totals
      → Hosted ports owns nows mores pass totals
  unfolding fresh_workers
  hosted [] owns news pass nows mores totals same size ran (joined_last worker) = absurd (omega (arith, size))
  hosted (port ∷ []) [] news pass nows mores totals same size ran (joined_last worker) = absurd (omega (arith, same))
  hosted (port ∷ []) (own ∷ []) news pass nows mores totals same size ran (joined_last worker) = host_first port own worker (ran 0 worker (omega arith))
  hosted (port ∷ []) (own ∷ more ∷ owns) news pass nows mores totals same size ran (joined_last worker) = absurd (omega (arith, same))
  hosted (port ∷ other ∷ ports) owns news pass nows mores totals same size ran (joined_last worker) = absurd (omega (arith, size))
  hosted ports owns news pass nows mores totals same size ran (joined_more worker workers before after backs others sums rest joins) =
      let p = ended ports (length workers) (omega (arith, size)) in
      let o = ended owns (length workers) (omega (arith, same, size)) in
      let fronts : length p.front ≡ length o.front =
      let a = ap length p.is in
      let b = ap length o.is in
      omega (arith, same, a, b, length-append p.front (p.last ∷ []), length-append o.front (o.last ∷ [])) in
      let few : length workers ≡ length p.front = (let a = ap length p.is in omega (arith, size, a, length-append p.front (p.last ∷ []))) in
      let made : fresh_workers start ports owns ≡ fresh_worker start p.last o.last ∷ fresh_workers start p.front o.front =
      (λ i. fresh_workers start (p.is i) (o.is i)) ∙ fresh-last start p.front o.front p.last o.last fronts in
      let each : AllRan (fresh_worker start p.last o.last ∷ fresh_workers start p.front o.front) (worker ∷ workers) = subst (λ (l : List (Worker P T X L E N)). AllRan l (worker ∷ workers)) made ran in
      let one = host_next p.front o.front backs others before sums p.last o.last worker after
      (hosted p.front o.front workers before backs others sums fronts few (λ i d lt. each (suc i) d (omega (arith, lt))) rest)
      (each 0 worker (omega arith)) joins in
      subst (λ (l : List P). Hosted l owns (backs ++ worker.port ∷ []) (others ++ worker.own ∷ []) after (with_numbers sums worker)) (sym p.is)
      (subst (λ (l : List X). Hosted (p.front ++ p.last ∷ []) l (backs ++ worker.port ∷ []) (others ++ worker.own ∷ []) after (with_numbers sums worker)) (sym o.is) one)

  -- the same of workers whose slice was written
  pub hosted-after : (ports : List P) (owns : List X) (items slice news : List (Worker P T X L E N)) (len : ℕ) (pass : Seen E N) (nows : List P) (mores : List X) (totals : Totals)
      → items ≡ fresh_workers start ports owns → length items ≡ length ports → length ports ≡ length owns → slice ≡ items → length news ≡ length slice → len ≡ length items → AllRan slice news
      → Joined (take len (news ++ drop (length news) items)) pass nows mores totals → Hosted ports owns nows mores pass totals
  hosted-after ports owns items slice news len pass nows mores totals made many same value size count ran joined =
      hosted ports owns news pass nows mores totals same
      (size ∙ ap length value ∙ many)
      (subst (λ (l : List (Worker P T X L E N)). AllRan l news) (value ∙ made) ran)
      (subst (λ (l : List (Worker P T X L E N)). Joined l pass nows mores totals) (written-whole items slice news len value size count) joined)
