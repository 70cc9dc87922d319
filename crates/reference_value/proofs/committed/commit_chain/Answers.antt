use Rattle.std.proofs.Common.{◌≡◌, ◌*◌, ◌^◌, ◌∙◌, ℕ, ap, length, refl, arith, mul-zero}
use Rattle.std.proofs.lemmas.Nat.{pow_pos}
use Rattle.lms_bytes.proofs.Joined.{front-all, front-more, joined-none, row-fits}
use Rattle.reference_value.specs.Committing.{cell_commits}
use Rattle.reference_value.proofs.Parts.{length_part, masking-none, masking-more, part-within, put-part, span}
use Rattle.reference_value.proofs.committed.commit_chain.Goals as goal

pub steps-init : goal.steps-init
steps-init c =
    let none : 32 * c.size.result * 0 ≡ 0 = mul-zero _ in
    record { masks = masking-none _ _ _; commits = rw (none, joined-none (cell_commits c.args.leaf.now c.args.i)) refl }

pub overflow_mul-place : goal.overflow_mul-place
overflow_mul-place c =
    let n = c.args.leaf.now.params.now.n in
    let some = pow_pos c.args.leaf.now.params.now.w in
    let within = part-within n n c.steps.j (2 ^ c.args.leaf.now.params.now.w) (length c.steps.out) refl (c.steps.auto.out ∙ c.requires.values) (omega arith) in
    omega (arith, within)

pub overflow_add-value : goal.overflow_add-value
overflow_add-value c =
    let n = c.args.leaf.now.params.now.n in
    let some = pow_pos c.args.leaf.now.params.now.w in
    let within = part-within n n c.steps.j (2 ^ c.args.leaf.now.params.now.w) (length c.steps.out) refl (c.steps.auto.out ∙ c.requires.values) (omega arith) in
    omega (arith, within)

pub slice_bounds-value-end : goal.slice_bounds-value-end
slice_bounds-value-end c =
    let n = c.args.leaf.now.params.now.n in
    let some = pow_pos c.args.leaf.now.params.now.w in
    let within = part-within n n c.steps.j (2 ^ c.args.leaf.now.params.now.w) (length c.steps.out) refl (c.steps.auto.out ∙ c.requires.values) (omega arith) in
    omega (arith, within)

pub overflow_mul-start : goal.overflow_mul-start
overflow_mul-start c =
    let cell = 32 * c.size.result in
    let some = pow_pos c.args.leaf.now.params.now.w in
    let same : cell ≡ 32 * length c.args.leaf.now.members = ap (λ (s : ℕ). 32 * s) c.size.ensures.number in
    let within = part-within cell _ c.steps.j (2 ^ c.args.leaf.now.params.now.w) (length c.steps.commits) same (c.steps.auto.commits ∙ c.requires.room) (omega arith) in
    omega (arith, within)

pub overflow_add-start : goal.overflow_add-start
overflow_add-start c =
    let cell = 32 * c.size.result in
    let some = pow_pos c.args.leaf.now.params.now.w in
    let same : cell ≡ 32 * length c.args.leaf.now.members = ap (λ (s : ℕ). 32 * s) c.size.ensures.number in
    let within = part-within cell _ c.steps.j (2 ^ c.args.leaf.now.params.now.w) (length c.steps.commits) same (c.steps.auto.commits ∙ c.requires.room) (omega arith) in
    omega (arith, within)

pub slice_bounds-mask_and_commit-end : goal.slice_bounds-mask_and_commit-end
slice_bounds-mask_and_commit-end c =
    let cell = 32 * c.size.result in
    let some = pow_pos c.args.leaf.now.params.now.w in
    let same : cell ≡ 32 * length c.args.leaf.now.members = ap (λ (s : ℕ). 32 * s) c.size.ensures.number in
    let within = part-within cell _ c.steps.j (2 ^ c.args.leaf.now.params.now.w) (length c.steps.commits) same (c.steps.auto.commits ∙ c.requires.room) (omega arith) in
    omega (arith, within)

pub mask_and_commit-requires-clause-members : goal.mask_and_commit-requires-clause-members
mask_and_commit-requires-clause-members c = c.requires.members

pub mask_and_commit-requires-clause-value : goal.mask_and_commit-requires-clause-value
mask_and_commit-requires-clause-value c =
    let n = c.args.leaf.now.params.now.n in
    let some = pow_pos c.args.leaf.now.params.now.w in
    let within = part-within n n c.steps.j (2 ^ c.args.leaf.now.params.now.w) (length c.steps.out) refl (c.steps.auto.out ∙ c.requires.values) (omega arith) in
    length_part (n * c.steps.j) n c.steps.out within

pub mask_and_commit-requires-clause-room : goal.mask_and_commit-requires-clause-room
mask_and_commit-requires-clause-room c =
    let cell = 32 * c.size.result in
    let some = pow_pos c.args.leaf.now.params.now.w in
    let same : cell ≡ 32 * length c.args.leaf.now.members = ap (λ (s : ℕ). 32 * s) c.size.ensures.number in
    let within = part-within cell _ c.steps.j (2 ^ c.args.leaf.now.params.now.w) (length c.steps.commits) same (c.steps.auto.commits ∙ c.requires.room) (omega arith) in
    length_part (cell * c.steps.j) cell c.steps.commits within ∙ same

pub steps-preserved : goal.steps-preserved
steps-preserved c =
    let leaf = c.args.leaf.now in
    let n = leaf.params.now.n in
    let j = c.steps.j in
    let digits = 2 ^ leaf.params.now.w in
    let cell = 32 * c.size.result in
    let some = pow_pos leaf.params.now.w in
    let within = row-fits n j digits (omega arith) in
    let value = put-part (n * j) n c.steps.out c.mask_and_commit.new.out (omega arith) c.mask_and_commit.auto.out in
    let inside = row-fits cell j digits (omega arith) in
    let room : length c.steps.commits ≡ cell * digits = rw c.size.ensures.number (omega arith) in
    let commits = put-part (cell * j) cell c.steps.commits c.mask_and_commit.new.commits (omega arith) c.mask_and_commit.auto.commits in
    let part = rw span at c.mask_and_commit.ensures.masked in
    record {
      masks = masking-more _ _ n j _ _ _ c.steps.invariant.masks (λ same. part ∙ rw same refl) value.front value.behind;
      commits = front-more (cell_commits leaf c.args.i) cell j c.steps.commits _ c.mask_and_commit.new.commits c.mask_and_commit.ensures.commits
          commits.size c.steps.invariant.commits (rw commits.size commits.front);
    }

pub returns-clause-masked : goal.returns-clause-masked
returns-clause-masked c =
    let leaf = c.args.leaf.now in
    let some = pow_pos leaf.params.now.w in
    let all : c.steps.j ≡ 2 ^ leaf.params.now.w = omega arith in
    front-all _ leaf.params.now.n (2 ^ leaf.params.now.w) c.steps.out (omega arith) (rw all at c.steps.invariant.masks.front)

pub returns-clause-commits : goal.returns-clause-commits
returns-clause-commits c =
    let leaf = c.args.leaf.now in
    let some = pow_pos leaf.params.now.w in
    let all : c.steps.j ≡ 2 ^ leaf.params.now.w = omega arith in
    front-all _ (32 * c.size.result) (2 ^ leaf.params.now.w) c.steps.commits (rw c.size.ensures.number (omega arith)) (rw all at c.steps.invariant.commits)
