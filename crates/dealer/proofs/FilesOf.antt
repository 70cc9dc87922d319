-- The files of a dealing from what it gives.
use Rattle.std.proofs.Common.{◌≡◌, ℕ, zero, suc, ◌+◌, ◌-◌, ◌<◌, length, List, [], ◌∷◌, ◌++◌, map, take, All, refl, sym, ap, ◌∙◌, arith}
use Rattle.std.specs.Prelude.{slice_index_or, Result, Ok, Err, IfOk}
use Rattle.memory.specs.declared.NoMemory.{NoMemory}
use Rattle.std.specs.List.{range_with_len}
use Rattle.std.specs.declared.alloc.Global.{Global}
use Rattle.std.specs.declared.vec.Vec.{Vec}
use Rattle.std.proofs.lemmas.Grind.{take_at_read}
use Rattle.std.proofs.lemmas.List.{map-append}
use Rattle.lms_bytes.specs.PublicKey.{public_bytes}
use Rattle.reference_value.specs.Dealing.{Dealing, key_of}
use Rattle.share_files.specs.Reference.{reference_head_of}
use Rattle.share_files.specs.Share.{share_bytes}
use Rattle.share_files.specs.TreeFile.{tree_head}
use Rattle.share_files.specs.declared.share.Share.{Share}
use Rattle.dealer.specs.Dealt.{AreShares, IsDealt}
use Rattle.dealer.specs.Files.{AreFiles, AreKeyFiles, share_file, share_files}
use Rattle.dealer.specs.Onto.{IsKeyDealt}
use Rattle.dealer.specs.declared.dealing.Dealt.{Dealt}
use Rattle.dealer.specs.declared.files.DealingFiles.{DealingFiles}
use Rattle.dealer.specs.declared.files.KeyFiles.{KeyFiles}
use Rattle.dealer.specs.declared.onto.DealtKey.{DealtKey}
use Rattle.dealer.proofs.Mapped.{at_read}

-- this share is that of trustee t
record IsShareOf (d : Dealing) (t : ℕ) (share : Share) : Type 0 where
  member : share.member ≡ t
  key : share.key ≡ key_of d t
  params : share.params ≡ d.params
  plan : share.plan ≡ d.plan
  id : share.id ≡ d.id

file_of_share : (d : Dealing) (t : ℕ) (share : Share) → IsShareOf d t share → share_bytes share ≡ share_file d t
file_of_share d t share is = rw (is.member, is.key, is.params, is.plan, is.id) refl

-- those of the trustees from `first` on
files_from : (d : Dealing) (shares : List Share) (first n : ℕ) → map (λ share. share.member) shares ≡ range_with_len first n
    → ((i t : ℕ) → t ≡ first + i → key_of d t ≡ slice_index_or (map (λ share. share.key) shares) i [])
    → All (λ share. share.params ≡ d.params) shares → All (λ share. share.plan ≡ d.plan) shares → All (λ share. share.id ≡ d.id) shares
    → map share_bytes shares ≡ map (share_file d) (range_with_len first n)
files_from d [] first zero members keys params plans ids = refl
files_from d [] first (suc n) members keys params plans ids = cc
files_from d (share ∷ shares) first zero members keys params plans ids = cc
files_from d (share ∷ shares) first (suc n) members keys params plans ids =
    let here : 0 < length (share ∷ shares) = omega arith in
    let member : share.member ≡ first = cc in
    let others : map (λ share. share.member) shares ≡ range_with_len (first + 1) n = cc in
    let one : share_bytes share ≡ share_file d first = file_of_share d first share (record {
      member = member;
      key = sym (keys 0 first (omega arith));
      params = params 0 share here;
      plan = plans 0 share here;
      id = ids 0 share here;
    }) in
    let rest : map share_bytes shares ≡ map (share_file d) (range_with_len (first + 1) n) = files_from d shares (first + 1) n others
    (λ i t is. keys (suc i) t (omega (arith, is)))
    (λ k x below. params (suc k) x (omega (arith, below)))
    (λ k x below. plans (suc k) x (omega (arith, below)))
    (λ k x below. ids (suc k) x (omega (arith, below))) in
    cc

files_of_shares : (d : Dealing) (shares : List Share) → AreShares d shares → map share_bytes shares ≡ share_files d
files_of_shares d shares are =
    files_from d shares 1 d.plan.n are.members (λ i t is. ap (λ keys. slice_index_or keys (t - 1) []) (sym are.keys) ∙ ap (λ k. slice_index_or (map (λ share. share.key) shares) k []) (omega (arith, is))) are.params are.plan are.id

-- one more share has its file
pub one_more : (shares : List Share) (i : ℕ) (share : Share) (files now : List (Vec ℕ Global)) (file : Vec ℕ Global) → i < length shares
    → share ≡ slice_index_or shares i share → map (λ file. file.items) files ≡ map share_bytes (take i shares)
    → file.items ≡ share_bytes share → now ≡ files ++ file ∷ [] → map (λ file. file.items) now ≡ map share_bytes (take (i + 1) shares)
one_more shares i share files now file below at before is after =
    let shares_then : take (i + 1) shares ≡ take i shares ++ slice_index_or shares i share ∷ [] = (take_at_read shares i share below).1 in
    ap (map (λ file. file.items)) after ∙ map-append (λ file. file.items) files (file ∷ [])
    ∙ ap (λ t. t ++ file.items ∷ []) before ∙ ap (λ t. map share_bytes (take i shares) ++ t ∷ []) (is ∙ ap share_bytes at)
    ∙ sym (ap (map share_bytes) shares_then ∙ map-append share_bytes (take i shares) (slice_index_or shares i share ∷ []))

-- the files that are written from what a dealing gives
pub are_files : (d : Dealing) (dealt : Dealt) (share : Share) (files : DealingFiles) → IsDealt d dealt
    → 0 < length dealt.shares.items → share ≡ slice_index_or dealt.shares.items 0 share
    → files.public.items ≡ public_bytes dealt.public
    → files.tree.items ≡ tree_head dealt.public.params dealt.public.id ++ dealt.tree.nodes
    → files.reference.items ≡ reference_head_of share.params share.plan share.id ++ dealt.reference.items
    → map (λ file. file.items) files.shares.items ≡ map share_bytes dealt.shares.items
    → AreFiles d files
are_files d dealt share files is some first public tree leaves shares =
    let params : share.params ≡ d.params = at_read (λ share. share.params ≡ d.params) dealt.shares.items 0 share is.shares.params first some in
    let plan : share.plan ≡ d.plan = at_read (λ share. share.plan ≡ d.plan) dealt.shares.items 0 share is.shares.plan first some in
    let id : share.id ≡ d.id = at_read (λ share. share.id ≡ d.id) dealt.shares.items 0 share is.shares.id first some in
    record {
      public_is = public ∙ rw (is.params, is.id, is.root_is) refl;
      tree_is = tree ∙ rw (is.params, is.id, is.tree) refl;
      reference_is = leaves ∙ rw (params, plan, id, is.reference_is) refl;
      shares_are = shares ∙ files_of_shares d dealt.shares.items is.shares;
    }

-- the files besides the reference
pub are_key_files : (d : Dealing) (key : DealtKey) (files : KeyFiles) → IsKeyDealt d key
    → files.public.items ≡ public_bytes key.public
    → files.tree.items ≡ tree_head key.public.params key.public.id ++ key.tree.nodes
    → map (λ file. file.items) files.shares.items ≡ map share_bytes key.shares.items
    → AreKeyFiles d files
are_key_files d key files is public tree shares = record {
  public_is = public ∙ rw (is.params, is.id, is.root_is) refl;
  tree_is = tree ∙ rw (is.params, is.id, is.tree) refl;
  shares_are = shares ∙ files_of_shares d key.shares.items is.shares;
}

-- the same of what may have been refused
pub key_files_of : (d : Dealing) (key : DealtKey) (result : Result KeyFiles NoMemory) → IsKeyDealt d key
    → IfOk result (λ files. files.public.items ≡ public_bytes key.public)
    → IfOk result (λ files. files.tree.items ≡ tree_head key.public.params key.public.id ++ key.tree.nodes)
    → IfOk result (λ files. map (λ file. file.items) files.shares.items ≡ map share_bytes key.shares.items)
    → IfOk result (AreKeyFiles d)
key_files_of d key (Ok files) is public tree shares = are_key_files d key files is public tree shares
key_files_of d key (Err refused) is public tree shares = tt
