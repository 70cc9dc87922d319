-- The files of a dealing with their names.
use Rattle.std.proofs.Common.{◌≡◌, ◌+◌, ℕ, zero, suc, List, [], ◌∷◌, ◌++◌, length, map, None, refl, sym, ap, arith, ◌∙◌}
use Rattle.std.specs.Prelude.{codes}
use Rattle.std.specs.Fmt.{decimal}
use Rattle.std.specs.List.{range_with_len}
use Rattle.std.proofs.lemmas.List.{append_assoc, append-nil, length-map, map-append}
use Rattle.dealer.specs.declared.files.DealingFiles.{DealingFiles}
use Rattle.tool_desk.specs.Files.{key_name, reference_name, tree_name}
use Rattle.tool_keys.specs.Naming.{all_names, named_files, named_shares}
use Rattle.stream_io.specs.declared.store.Readers.TheVariants.{OwnerAlone}
use Rattle.tool_base.specs.Outputs.{Output}

-- the share of trustee t
abbrev pub named_share : List ℕ → ℕ → List ℕ → Output
named_share prefix t share = record { name = prefix ++ (codes ".share" ++ decimal t); bytes = share; readers = OwnerAlone }

pub named_none : (prefix : List ℕ) (front : List Output) → front ≡ front ++ named_shares prefix 1 []
unfolding named_shares
named_none prefix front = sym (append-nil front)

named_more : (prefix : List ℕ) (t : ℕ) (shares : List (List ℕ)) (share : List ℕ)
    → named_shares prefix t (shares ++ (share ∷ [])) ≡ named_shares prefix t shares ++ (named_share prefix (t + length shares) share ∷ [])
unfolding named_shares
named_more prefix t [] share = let at : t + 0 ≡ t = omega arith in rw at refl
named_more prefix t (first ∷ shares) share =
    let at : t + suc (length shares) ≡ t + 1 + length shares = omega arith in
    rw at (ap (λ rest. named_share prefix t first ∷ rest) (named_more prefix (t + 1) shares share))

pub pushed : {O X : Type 0} (prefix : List ℕ) (f : O → Output) (g : X → List ℕ) (before after : List O) (front : List Output) (yielded : List X) (share : X) (o : O) (t : ℕ)
    → t ≡ length yielded + 1 → after ≡ before ++ (o ∷ []) → map f before ≡ front ++ named_shares prefix 1 (map g yielded)
    → f o ≡ named_share prefix t (g share) → map f after ≡ front ++ named_shares prefix 1 (map g (yielded ++ (share ∷ [])))
pushed prefix f g before after front yielded share o t at grown so-far named =
    let number : 1 + length (map g yielded) ≡ t = omega (arith, length-map yielded g) in
    rw (grown, map-append, map-append, so-far, named, named_more, number, append_assoc) refl

-- the shares of all trustees in ascending order
pub named_all : (prefix : List ℕ) (f : ℕ → List ℕ) (t n : ℕ) → named_shares prefix t (map f (range_with_len t n)) ≡ map (λ t. named_share prefix t (f t)) (range_with_len t n)
unfolding named_shares
named_all prefix f t zero = refl
named_all prefix f t (suc n) = ap (λ rest. named_share prefix t (f t) ∷ rest) (named_all prefix f (t + 1) n)

-- the names of the shares from trustee t on
names_of_shares : (prefix : List ℕ) (t : ℕ) (shares : List (List ℕ)) (n : ℕ) → length shares ≡ n
    → map (λ output. output.name) (named_shares prefix t shares) ≡ map (λ t. prefix ++ (codes ".share" ++ decimal t)) (range_with_len t n)
unfolding named_shares
names_of_shares prefix t [] zero is = refl
names_of_shares prefix t [] (suc n) is = cc
names_of_shares prefix t (share ∷ shares) zero is = cc
names_of_shares prefix t (share ∷ shares) (suc n) is =
    let less : length shares ≡ n = omega (arith, is) in
    ap (λ rest. (prefix ++ (codes ".share" ++ decimal t)) ∷ rest) (names_of_shares prefix (t + 1) shares n less)

-- the names of a dealing with this many shares
pub blank_names : (prefix : List ℕ) (files : DealingFiles) (n : ℕ) → length files.shares.items ≡ n
    → map (λ output. output.name) (named_files prefix files None) ≡ all_names prefix n
blank_names prefix files n is =
    let many : length (map (λ share. share.items) files.shares.items) ≡ n = length-map files.shares.items (λ share. share.items) ∙ is in
    ap (λ rest. key_name prefix ∷ tree_name prefix ∷ reference_name prefix ∷ rest)
    (ap (map (λ output. output.name)) (append-nil (named_shares prefix 1 (map (λ share. share.items) files.shares.items)))
    ∙ names_of_shares prefix 1 (map (λ share. share.items) files.shares.items) n many)
