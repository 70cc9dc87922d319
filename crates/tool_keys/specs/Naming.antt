-- The files of a dealing with their names.
use Rattle.std.specs.Prelude.{ℕ, ◌+◌, List, [], ◌∷◌, ◌++◌, Option, codes, map}
use Rattle.std.specs.Fmt.{decimal}
use Rattle.std.specs.List.{range_with_len}
use Rattle.dealer.specs.declared.files.DealingFiles.{DealingFiles}
use Rattle.stream_io.specs.declared.store.Readers.TheVariants.{Anyone, OwnerAlone}
use Rattle.tool_base.specs.Outputs.{Output}
use Rattle.tool_desk.specs.Files.{key_name, reference_name, tree_name}
use Rattle.tool_keys.specs.Deal.{commits_outputs}

-- shares from that of trustee t on, each for its owner alone to read
unfoldable pub named_shares : List ℕ → ℕ → List (List ℕ) → List Output
named_shares prefix t [] = []
named_shares prefix t (share ∷ shares) =
    record { name = prefix ++ (codes ".share" ++ decimal t); bytes = share; readers = OwnerAlone }
    ∷ named_shares prefix (t + 1) shares

-- all files, in the order in which they are written, and the commitment file if there is one
abbrev pub named_files : List ℕ → DealingFiles → Option (List ℕ) → List Output
named_files prefix files commits =
    record { name = key_name prefix; bytes = files.public.items; readers = Anyone }
    ∷ record { name = tree_name prefix; bytes = files.tree.items; readers = Anyone }
    ∷ record { name = reference_name prefix; bytes = files.reference.items; readers = Anyone }
    ∷ (named_shares prefix 1 (map (λ share. share.items) files.shares.items) ++ commits_outputs prefix commits)

-- the names of the files of a dealing to n trustees without commitments, in the order in which they are tested
abbrev pub all_names : List ℕ → ℕ → List (List ℕ)
all_names prefix n = key_name prefix ∷ tree_name prefix ∷ reference_name prefix
    ∷ map (λ t. prefix ++ (codes ".share" ++ decimal t)) (range_with_len 1 n)
