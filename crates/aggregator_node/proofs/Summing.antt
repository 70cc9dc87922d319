-- Runs after runs, and the passes of their workers joined.
use Rattle.aggregator_session.specs.Desks.{DeskState}
use Rattle.std.proofs.Common.{◌≡◌, ◌+◌, ◌-◌, ◌^◌, ◌<◌, ℕ, List, [], ◌∷◌, ◌++◌, All, length, sym, ap, ◌∙◌, subst, arith, length-append}
use Rattle.std.proofs.lemmas.List.Elements.{All-cons, All-head, All-nil, All-tail}
use Rattle.std.proofs.lemmas.Grind.{flat_map-append}
use Rattle.std.proofs.lemmas.List.Sums.{sum_by-append}
use Rattle.aggregator_node.specs.Clients.{IsExact, Request}
use Rattle.aggregator_node.specs.Turns.{HasSteadyDisk}
use Rattle.aggregator_node.specs.Gathered.{HasDone}
use Rattle.aggregator_node.specs.Ports.{PortRun, requests_in}
use Rattle.aggregator_node.specs.Connections.{added_by, requests_of, with_status}
use Rattle.aggregator_node.proofs.Statuses.{with_status-append}
use Rattle.leaf_table.specs.declared.lease.Lease.{Lease}
use Rattle.leaf_table.specs.declared.table.TableName.{TableName}
use Rattle.turn_lock.specs.Lock.{Lock}
use Rattle.turn_lock.specs.Pass.{Joins, Seen}

-- what is true of all of two lists is true of all of each
all-left : {A : Type 0} (P : A → Type 0) (xs ys : List A) → All P (xs ++ ys) → All P xs
all-left P [] ys all = All-nil P
all-left P (x ∷ xs) ys all = All-cons P x xs (All-head P x (xs ++ ys) all) (all-left P xs ys (All-tail P x (xs ++ ys) all))

all-right : {A : Type 0} (P : A → Type 0) (xs ys : List A) → All P (xs ++ ys) → All P ys
all-right P [] ys all = all
all-right P (x ∷ xs) ys all = all-right P xs ys (All-tail P x (xs ++ ys) all)

pub requests-append : (runs more : List PortRun) → requests_in (runs ++ more) ≡ requests_in runs ++ requests_in more
requests-append runs more = flat_map-append (λ (run : PortRun). requests_of run.served) runs more

status-append : (status : ℕ) (runs more : List PortRun) → with_status status (requests_in (runs ++ more)) ≡ with_status status (requests_in runs) + with_status status (requests_in more)
status-append status runs more = ap (with_status status) (requests-append runs more) ∙ with_status-append status (requests_in runs) (requests_in more)

pub done-join : (desk : DeskState) (lock : Lock Lease TableName) (old other new : Seen Lease TableName) (runs more : List PortRun) → HasDone desk lock old runs
    → HasDone desk lock other more → Joins old other new → HasDone desk lock new (runs ++ more)
done-join desk lock old other new runs more a b met =
    let floor = met.floor in
    let greatest = met.greatest in
    let many = ap length (requests-append runs more) ∙ length-append (requests_in runs) (requests_in more) in
    let name : new.name ≡ other.name = met.same.name ∙ a.same.name ∙ sym b.same.name in
    record {
      draws = (let sum = met.draws in let p = a.draws in let q = b.draws in omega (arith, sum, p, q, many));
      fresh = λ small.
          let p = a.fresh (omega (arith, small, greatest)) in
          let q = b.fresh (omega (arith, small, greatest)) in
          omega (arith, p, q, status-append 16 runs more);
      rises = λ small few.
          let sum = met.rises in
          let Few : PortRun → Type 0 = λ run. run.after.faults < 2 ^ 64 - 1 in
          let p = a.rises (omega (arith, small, floor)) (all-left Few runs more few) in
          let q = b.rises (omega (arith, small, floor)) (all-right Few runs more few) in
          omega (
            arith,
            sum,
            p,
            q,
            status-append 10 runs more,
            sum_by-append (λ (run : PortRun). run.before.faults) runs more,
            sum_by-append (λ (run : PortRun). run.after.faults) runs more,
          );
      steady = λ is exact.
          let Exact : PortRun → Type 0 = λ run. IsExact desk run.before.reference in
          let p = a.steady (subst HasSteadyDisk met.same.name is) (all-left Exact runs more exact) in
          let q = b.steady (subst HasSteadyDisk name is) (all-right Exact runs more exact) in
          omega (arith, p, q, status-append 10 runs more);
      own = λ zero.
          let before : old.own ≡ added_by (requests_in runs) = a.own (omega (arith, zero, floor)) in
          let here : other.own ≡ added_by (requests_in more) = b.own (omega (arith, zero, floor)) in
          met.own ∙ (λ i. before i ++ here i) ∙ sym (flat_map-append (λ (request : Request). request.added) (requests_in runs) (requests_in more))
          ∙ ap added_by (sym (requests-append runs more));
      most = (let p = a.most in let q = b.most in omega (arith, p, q, many, length-append runs more));
      same = record { lock = met.same.lock ∙ a.same.lock; name = met.same.name ∙ a.same.name };
      joined = (let p = met.joined in let q = a.joined in let r = b.joined in omega (arith, p, q, r, length-append runs more));
    }
