-- Commitments that are made again from what a dealing gave.
use Rattle.std.proofs.Common.{◌≡◌, ℕ, ◌+◌, ◌<◌, ◌^◌, List, [], ◌∷◌, ◌++◌, length, map, take, get_or, sym, ap, ap₂, ◌∙◌}
use Rattle.std.proofs.lemmas.List.{length-map, map-append, take_more}
use Rattle.std.proofs.lemmas.List.FromFn.{length-range_with_len}
use Rattle.coalition_map.specs.Coalitions.{PlanNumbers}
use Rattle.dealer.specs.Committed.{commits_file}
use Rattle.dealer.specs.declared.dealing.Dealt.{Dealt}
use Rattle.lms_bytes.specs.Bytes.{joined}
use Rattle.lms_bytes.specs.declared.params.Params.{Params}
use Rattle.reference_value.specs.Commitments.{commitments, leaf_commitments}
use Rattle.reference_value.specs.Dealing.{Dealing, dealing_from}
use Rattle.share_files.specs.Commits.{commits_head, commits_head_of}
use Rattle.share_files.specs.declared.reference.RefHeader.{RefHeader}
use Rattle.share_files.specs.declared.share.Share.{Share}
use Rattle.share_blame.specs.CommitFile.{IsDealtFor, IsOfKeys}

-- the commitments of a leaf depend neither on SEED nor on the key of the randomizers
pub leaf-same : (header : RefHeader) (seed random_key : List ℕ) (keys : List (List ℕ)) (d : Dealing) → IsOfKeys header keys d → (q : ℕ)
    → leaf_commitments (dealing_from header.params header.plan header.id seed random_key keys) q ≡ leaf_commitments d q
unfolding leaf_commitments
leaf-same header seed random_key keys d is q =
    λ i. leaf_commitments (dealing_from (sym is.params i) (sym is.plan i) (sym is.id i) seed random_key (sym is.keys_are i)) q

-- those of all leaves
pub all-leaves : (header : RefHeader) (keys : List (List ℕ)) (d : Dealing) (out : List ℕ) → IsOfKeys header keys d
    → out ≡ joined (leaf_commitments d) (2 ^ header.params.h) → out ≡ commitments d
unfolding commitments
all-leaves header keys d out is all = all ∙ ap (λ (p : Params). joined (leaf_commitments d) (2 ^ p.h)) (sym is.params)

-- the head and what follows it are the file
pub file-is : (header : RefHeader) (keys : List (List ℕ)) (d : Dealing) (head leaves : List ℕ) → IsOfKeys header keys d
    → head ≡ commits_head header → leaves ≡ commitments d → head ++ leaves ≡ commits_file d
file-is header keys d head leaves is front behind =
    ap₂ ◌++◌ (front ∙ (λ i. commits_head_of (sym is.params i) (sym is.plan i) (sym is.id i))) behind

-- the head and the keys of what a dealing gave are those of the dealing
pub of-dealt : (plan : PlanNumbers) (d : Dealing) (dealt : Dealt) (header : RefHeader) → IsDealtFor plan d dealt
    → header.params ≡ dealt.public.params → header.plan ≡ plan → header.id ≡ dealt.public.id
    → IsOfKeys header (map (λ (share : Share). share.key) dealt.shares.items) d
of-dealt plan d dealt header is params plan_is id = record {
  params = sym is.dealt_is.params ∙ sym params;
  plan = is.plan_is ∙ sym plan_is;
  id = sym is.dealt_is.id ∙ sym id;
  keys_are = sym is.dealt_is.shares.keys;
}

-- there is a share for each trustee of the plan
pub count-shares : (plan : PlanNumbers) (d : Dealing) (dealt : Dealt) → IsDealtFor plan d dealt → length dealt.shares.items ≡ plan.n
count-shares plan d dealt is =
    sym (length-map dealt.shares.items (λ (share : Share). share.member))
    ∙ (ap length is.dealt_is.shares.members ∙ (length-range_with_len 1 d.plan.n ∙ ap (λ (p : PlanNumbers). p.n) is.plan_is))

-- the key of one more share
pub one-more : (shares : List Share) (i : ℕ) (share : Share) (old new : List (List ℕ)) (key : List ℕ) → i < length shares
    → old ≡ map (λ (s : Share). s.key) (take i shares) → key ≡ (get_or shares i share).key → new ≡ old ++ key ∷ [] → new ≡ map (λ (s : Share). s.key) (take (i + 1) shares)
one-more shares i share old new key inside before is pushed =
    let keys : List Share → List (List ℕ) = map (λ (s : Share). s.key) in
    let more : keys (take (i + 1) shares) ≡ keys (take i shares) ++ (get_or shares i share).key ∷ [] =
    ap keys (take_more shares i share inside) ∙ map-append (λ (s : Share). s.key) (take i shares) (get_or shares i share ∷ []) in
    pushed ∙ ((λ t. before t ++ is t ∷ []) ∙ sym more)
