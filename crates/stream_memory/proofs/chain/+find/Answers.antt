use Rattle.std.proofs.Common.{◌≡◌, ◌+◌, ◌-◌, ◌++◌, ◌∷◌, [], ℕ, zero, suc, List, Some, length, refl, sym, ap, ◌∙◌, arith, length-append}
use Rattle.std.specs.List.{slice_get}
use Rattle.stream_memory.specs.Chain.{node_values, values_of}
use Rattle.stream_memory.specs.declared.chain.Node.{Node, Node', None', Some', out-Node}
use denote.Hole.Carrier.{out}
use Rattle.stream_memory.proofs.chain.+find.Goals as goal
use Rattle.stream_memory.proofs.chain.+find.Goals.{in-Some+in-Err, in-None}

get-front : {T : Type 0} (xs ys : List T) (i : ℕ) (x : T) → slice_get xs i ≡ Some x → slice_get (xs ++ ys) i ≡ Some x
get-front [] ys i x e = cc
get-front (x ∷ xs) ys zero y e = e
get-front (x ∷ xs) ys (suc i) y e = get-front xs ys i y e

get-behind : {T : Type 0} (xs ys : List T) → slice_get (xs ++ ys) (length xs) ≡ slice_get ys 0
get-behind [] ys = refl
get-behind (x ∷ xs) ys = get-behind xs ys

-- the values up to a node are those before it, and its own
split : {T : Type 0} (node : Node T) → node_values node ≡ values_of (out-Node T node).earlier ++ (out-Node T node).value ∷ []
unfolding out-Node out
split (Node' value None') = refl
split (Node' value (Some' p earlier)) = refl

pub returns-in-Ok-clause-found : goal.returns-in-Ok-clause-found
returns-in-Ok-clause-found g t c =
    let before : slice_get (node_values c.in-Some.earlier.value) c.args.index ≡ Some c.in-Ok.value.now =
    ap (λ n. slice_get (node_values n) c.args.index) (sym c.deref.ensures) ∙ c.in-Ok.ensures.found in
    ap (λ l. slice_get l c.args.index) (split c.args.node.now ∙ ap (λ e. values_of e ++ (out-Node _ c.args.node.now).value ∷ []) c.in-Some.is)
    ∙ get-front (node_values c.in-Some.earlier.value) _ c.args.index _ before

-- the number of a node's own value is how many are before it
own-number : {T : Type 0} (node : Node T) (index left : ℕ) → index ≡ length (values_of (out-Node T node).earlier) + left → left ≡ 0
    → slice_get (node_values node) index ≡ Some (out-Node T node).value
own-number node index left n none =
    let front = values_of (out-Node _ node).earlier in
    let same : index ≡ length front = omega arith in
    ap (slice_get (node_values node)) same ∙ ap (λ l. slice_get l (length front)) (split node) ∙ get-behind front ((out-Node _ node).value ∷ [])

-- a number after it passes one value more
passes : {T : Type 0} (node : Node T) (index left : ℕ) → index ≡ length (values_of (out-Node T node).earlier) + left → (left ≡ 0 → ⊥)
    → index ≡ length (node_values node) + (left - 1)
passes node index left n some =
    let size = ap length (split node) ∙ length-append (values_of (out-Node _ node).earlier) ((out-Node _ node).value ∷ []) in omega arith

pub returns-then-left-eq0-clause-found : goal.returns-then-left-eq0-clause-found
returns-then-left-eq0-clause-found g t c =
    own-number c.args.node.now c.args.index c.match-node.left
    (elim c.match-node.branch [
      | in-Some+in-Err w ↦ rw (w.in-Some.is, w.left-is, ← w.deref.ensures) w.in-Err.ensures.passed
      | in-None w ↦ rw (w.in-None.is, w.left-is) (omega arith)
    ]) c.if-left-eq0.true

pub returns-else-left-eq0-clause-passed : goal.returns-else-left-eq0-clause-passed
returns-else-left-eq0-clause-passed g t c =
    passes c.args.node.now c.args.index c.match-node.left
    (elim c.match-node.branch [
      | in-Some+in-Err w ↦ rw (w.in-Some.is, w.left-is, ← w.deref.ensures) w.in-Err.ensures.passed
      | in-None w ↦ rw (w.in-None.is, w.left-is) (omega arith)
    ]) c.if-left-eq0.false
