use Rattle.std.proofs.Common.{IsTrue, ◌≡◌, ℕ, List, ◌*◌, ◌∙◌, length, sym, ap, refl, arith, mul-zero}
use Rattle.coalition_map.specs.Coalitions.{PlanNumbers}
use Rattle.lms_bytes.specs.Bytes.{xor, bytes_at}
use Rattle.lms_bytes.specs.Digits.{digit_of}
use Rattle.lms_bytes.specs.declared.params.Params.{Params}
use Rattle.reference_value.specs.Joins.{joined_chain, joined_chains}
use Rattle.reference_value.specs.Places.{cell_in}
use Rattle.lms_bytes.proofs.Joined.{joined-none, front-more, front-all, row-fits}
use Rattle.reference_value.proofs.Xor.{length-xor}
use Rattle.reference_value.proofs.joins.join_chains.Goals as goal

pub chains-init : goal.chains-init
chains-init g c =
    let cells = c.args.cells.now in
    let value = joined_chain c.args.params.now (g.R.Cells.plan cells) (g.R.Cells.leaves cells) c.args.q c.args.digest.now c.args.sums.now in
    record {
      stays = record { set = refl; plan = refl; told = refl; steady = refl; leaves = λ _. refl };
      count = refl;
      front = λ _. let none : c.args.params.now.n * 0 ≡ 0 = mul-zero _ in rw (none, joined-none value) refl;
    }

-- the value that is written, and its length
value_is : (n : ℕ) (cell sum part made value written : List ℕ) → length cell ≡ n → length part ≡ n → part ≡ sum → made ≡ part → value ≡ xor cell made → written ≡ value
    → (written ≡ xor cell sum) × (length written ≡ n)
value_is n cell sum part made value written size long a b d e =
    let is : written ≡ xor cell sum = cc in
    let same : length cell ≡ length sum = size ∙ (sym long ∙ ap length a) in
    (is, ap length is ∙ (length-xor cell sum same ∙ size))

pub overflow_mul-place : goal.overflow_mul-place
overflow_mul-place g c =
    let within = row-fits c.args.params.now.n c.chains.i c.args.params.now.p c.chains-test.true in
    omega (arith, within, c.requires.sums)

pub digit-requires-clause-index : goal.digit-requires-clause-index
digit-requires-clause-index g c = c.chains-test.true

pub digit-requires-clause-digest : goal.digit-requires-clause-digest
digit-requires-clause-digest g c = c.requires.digest

pub part-requires : goal.part-requires
part-requires g c =
    let within = row-fits c.args.params.now.n c.chains.i c.args.params.now.p c.chains-test.true in
    omega (arith, within, c.requires.sums)

-- a cell of the same leaves at the same place
same-cell : (set params : Params) (plan plan' : PlanNumbers) (leaves leaves' : List ℕ) (q i j j' : ℕ) (cell : List ℕ) → set ≡ params → plan ≡ plan' → leaves ≡ leaves'
    → j ≡ j' → cell ≡ cell_in set plan leaves q i j → cell ≡ cell_in params plan' leaves' q i j'
same-cell set params plan plan' leaves leaves' q i j j' cell a b e k is = rw (← a, ← b, ← e, ← k) is

pub put-requires : goal.put-requires
put-requires g c =
    let params = c.args.params.now in
    let size : length c.in_ok-cell.cell ≡ params.n = c.in_ok-cell.ensures.length ∙ ap (λ (p : Params). p.n) (c.chains.invariant.stays.set ∙ c.requires.set) in
    let sum = bytes_at c.args.sums.now (params.n * c.chains.i) params.n in
    let v = value_is params.n c.in_ok-cell.cell sum c.part.result.now c.of.result c.xor-value.result c.bytes.result.now size c.part.ensures.length c.part.ensures.bytes c.of.ensures c.xor-value.ensures c.bytes.ensures.bytes in
    let within = row-fits params.n c.chains.i params.p (omega arith) in
    omega (arith, v.1)

pub chains-preserved : goal.chains-preserved
chains-preserved g c =
    let params = c.args.params.now in
    let before = c.chains.invariant in
    let cells = c.args.cells.now in
    let set = before.stays.set ∙ c.requires.set in
    let size : length c.in_ok-cell.cell ≡ params.n = c.in_ok-cell.ensures.length ∙ ap (λ (p : Params). p.n) set in
    let sum = bytes_at c.args.sums.now (params.n * c.chains.i) params.n in
    let v = value_is params.n c.in_ok-cell.cell sum c.part.result.now c.of.result c.xor-value.result c.bytes.result.now size c.part.ensures.length c.part.ensures.bytes c.of.ensures c.xor-value.ensures c.bytes.ensures.bytes in
    let f = joined_chain params (g.R.Cells.plan cells) (g.R.Cells.leaves cells) c.args.q c.args.digest.now c.args.sums.now in
    record {
      stays = record {
        set = c.cell.ensures.stays.set ∙ before.stays.set;
        plan = c.cell.ensures.stays.plan ∙ before.stays.plan;
        told = c.cell.ensures.stays.told ∙ before.stays.told;
        steady = c.cell.ensures.stays.steady ∙ before.stays.steady;
        leaves = λ told. let now : IsTrue (g.R.Cells.told c.chains.cells) = rw before.stays.told told in c.cell.ensures.stays.leaves now ∙ before.stays.leaves told;
      };
      count = c.in_ok-cell.ensures.cause.succeeded ∙ before.count;
      front = λ told.
          let now : IsTrue (g.R.Cells.told c.chains.cells) = rw before.stays.told told in
          let cell : c.in_ok-cell.cell ≡ cell_in params (g.R.Cells.plan cells) (g.R.Cells.leaves cells) c.args.q c.chains.i (digit_of params c.args.digest.now c.chains.i) =
          same-cell (g.R.Cells.set c.chains.cells) params (g.R.Cells.plan c.chains.cells) (g.R.Cells.plan cells) (g.R.Cells.leaves c.chains.cells) (g.R.Cells.leaves cells)
          c.args.q c.chains.i c.digit.result (digit_of params c.args.digest.now c.chains.i) c.in_ok-cell.cell
          set before.stays.plan (before.stays.leaves told) c.digit.ensures (c.in_ok-cell.ensures.value now) in
          front-more f params.n c.chains.i c.chains.out c.put.new.out c.bytes.result.now (v.0 ∙ ap (λ (x : List ℕ). xor x sum) cell)
          v.1 (before.front told) c.put.ensures.front;
    }

pub returns-clause-values : goal.returns-clause-values
unfolding joined_chains
returns-clause-values g c = λ told.
    let params = c.args.params.now in
    let all : c.chains.i ≡ params.p = omega arith in
    front-all (joined_chain params (g.R.Cells.plan c.args.cells.now) (g.R.Cells.leaves c.args.cells.now) c.args.q c.args.digest.now c.args.sums.now) params.n params.p c.chains.out
    (omega arith) (rw all at (c.chains.invariant.front told))
