-- The public value of a leaf in the making, as it takes the ends of chains one after another.
use Rattle.std.proofs.Common.{◌≡◌, ℕ, ◌+◌, List, [], ◌++◌, sym, subst, ◌∙◌, ap}
use Rattle.lms_bytes.specs.Bytes.{joined}
use Rattle.lms_bytes.specs.declared.params.Params.{Params}
use Rattle.lms_bytes.proofs.Joined.{joined-none, joined-more}
use Rattle.ots_chain.specs.LeafKeyHash.{HasEnds}
use Rattle.ots_chain.specs.declared.leaf_key.LeafKeyHash.{LeafKeyHash}

pub ends_none : (state : LeafKeyHash) (params : Params) (id : List ℕ) (q : ℕ) (f : ℕ → List ℕ) → HasEnds state params id q []
    → HasEnds state params id q (joined f 0)
ends_none state params id q f has = subst (HasEnds state params id q) (sym (joined-none f)) has

pub ends_more : (state : LeafKeyHash) (params : Params) (id : List ℕ) (q : ℕ) (end : List ℕ) (f : ℕ → List ℕ) (i : ℕ) → end ≡ f i
    → HasEnds state params id q (joined f i ++ end) → HasEnds state params id q (joined f (i + 1))
ends_more state params id q end f i is has =
    subst (HasEnds state params id q) (ap (λ (t : List ℕ). joined f i ++ t) is ∙ sym (joined-more f i)) has
