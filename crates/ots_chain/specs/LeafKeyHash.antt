-- The public value of a leaf in the making.
use Rattle.std.specs.Prelude.{◌≡◌, ℕ, List}
use Rattle.lms_bytes.specs.declared.params.Params.{Params}
use Rattle.sha2.specs.Hashers.{Holds256}
use Rattle.ots_chain.specs.LeafKey.{leaf_key_text}
use Rattle.ots_chain.specs.declared.leaf_key.LeafKeyHash.{LeafKeyHash}

-- the state has taken these ends of chains, one after the other
pub record HasEnds (state : LeafKeyHash) (params : Params) (id : List ℕ) (q : ℕ) (ends : List ℕ) : Type 0 where
  pub text : Holds256 state.hasher (leaf_key_text id q ends)
  pub hash_length : state.hash_length ≡ params.n
