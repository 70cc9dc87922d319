use Rattle.std.proofs.Common.{◌≡◌, ◌*◌, ◌∙◌, length, ap, arith}
use Rattle.reference_value.specs.Dealing.{masked, sum_of_masks}
use Rattle.session_core.specs.SessionInside.{seen}
use Rattle.reference_value.specs.Joins.{joined_chains}
use Rattle.session_core.specs.Verdicts.{AreMasks, bodies_of}
use Rattle.session_core.proofs.Keeping.{written_back}
use Rattle.session_core.proofs.Judged.{masks-length}
use Rattle.session_core.proofs.session.Session.join_values.Goals as goal

pub add_bodies-requires : goal.add_bodies-requires
add_bodies-requires g c =
    let params = c.self.inside.key.params in
    let masks : AreMasks (seen c.self.inside).second = rw (← c.self.view_is) at c.requires.masks in
    let size : length c.deref_mut.result.now ≡ params.n * params.p = omega (arith, c.in_ok-sums.ensures.len) in
    rw (c.deref.ensures.value, size) (masks-length params 2 c.self.inside.second.items c.self.invariant.second.each masks)

pub returns-clause-values : goal.returns-clause-values
returns-clause-values g c = λ told.
    let s = c.self.inside in
    let params = s.key.params in
    let room = c.in_ok-sums.sums in
    let out = c.in_ok-values.values in
    let zeros = c.deref_mut.ensures.value ∙ c.in_ok-sums.ensures.items_if_clones_equal (λ y e. e) in
    let sums : c.deref-2.result.now ≡ sum_of_masks (params.n * params.p) (bodies_of s.second.items) =
    c.deref-2.ensures.value ∙ (written_back c.add_bodies.new.out room.items room.len (omega arith) (omega arith)
    ∙ (c.add_bodies.ensures ∙ (ap (λ z. masked z (bodies_of c.deref.result.now)) zeros ∙ ap (λ x. sum_of_masks (params.n * params.p) (bodies_of x)) c.deref.ensures.value))) in
    let leaves = g.R.Cells.leaves c.args.cells.now in
    let plan : g.R.Cells.plan c.args.cells.now ≡ s.plan = rw (← c.self.view_is) at c.requires.cells.1 in
    rw (written_back c.join_chains.new.out out.items out.len (omega arith) (omega arith), ← c.self.view_is)
    (c.in_ok-join_chains.ensures.values told ∙ (ap (λ x. joined_chains params x leaves s.leaf c.args.digest.now c.deref-2.result.now) plan
    ∙ ap (λ x. joined_chains params s.plan leaves s.leaf c.args.digest.now x) sums))

pub returns-clause-length : goal.returns-clause-length
returns-clause-length g c =
    let out = c.in_ok-values.values in
    rw (written_back c.join_chains.new.out out.items out.len (omega arith) (omega arith), ← c.self.view_is) (omega (arith, c.in_ok-values.ensures.len))
