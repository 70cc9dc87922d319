-- Keys and signatures of two levels.
use Rattle.std.specs.Prelude.{ℕ, List, [], ◌∷◌, ◌++◌}
use Rattle.lms_bytes.specs.Bytes.{u32str}
use Rattle.lms_bytes.specs.PublicKey.{public_bytes}
use Rattle.lms_bytes.specs.declared.public_key.PublicKey.{PublicKey}

-- u32str(2) || pub[0] (RFC 8554 section 6.1)
abbrev pub two_level_key : PublicKey → List ℕ
two_level_key top = u32str 2 ++ public_bytes top

-- u32str(1) || sig[0] || pub[1] || sig[1] (RFC 8554 section 6.2)
abbrev pub two_level_signature : List ℕ → PublicKey → List ℕ → List ℕ
two_level_signature top_signature low low_signature = u32str 1 ++ top_signature ++ public_bytes low ++ low_signature
