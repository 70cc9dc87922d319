-- The dealing that entropy stands for.
use Rattle.std.specs.Prelude.{ℕ, ◌+◌, ◌-◌, ◌*◌, List, map}
use Rattle.std.specs.List.{range_with_len}
use Rattle.coalition_map.specs.Coalitions.{PlanNumbers}
use Rattle.lms_bytes.specs.Bytes.{bytes_at}
use Rattle.lms_bytes.specs.declared.params.Params.{Params}
use Rattle.reference_value.specs.Dealing.{Dealing}

-- this project's profile: I, 32 bytes for SEED, the key of the randomizers, and a key of 32 bytes for each trustee
abbrev pub entropy_length : ℕ → ℕ
entropy_length trustees = 80 + 32 * trustees

abbrev pub id_in : List ℕ → List ℕ
id_in entropy = bytes_at entropy 0 16

-- SEED is the first bytes of its place, as many as the hash length
abbrev pub seed_in : ℕ → List ℕ → List ℕ
seed_in n entropy = bytes_at entropy 16 n

abbrev pub random_key_in : List ℕ → List ℕ
random_key_in entropy = bytes_at entropy 48 32

-- the key of trustee t
abbrev pub trustee_key : List ℕ → ℕ → List ℕ
trustee_key entropy t = bytes_at entropy (80 + 32 * (t - 1)) 32

-- what is dealt
abbrev pub dealing_of : Params → PlanNumbers → List ℕ → Dealing
dealing_of params plan entropy = record {
  params = params;
  plan = plan;
  id = id_in entropy;
  seed = seed_in params.n entropy;
  random_key = random_key_in entropy;
  keys = map (trustee_key entropy) (range_with_len 1 plan.n);
}
