-- Turns stand in the last log.
use Rattle.std.proofs.Common.{◌≡◌, ◌+◌, ◌≤◌, ℕ, List, ◌++◌, Option, length, take, sym, ap, ◌∙◌, subst, arith, length-append}
use Rattle.std.proofs.Math.Seq.{take-append_seam}
use mathlib.Core.List.{IsPrefix}
use Rattle.opening_journal.specs.declared.entry.Entry.{Entry}
use Rattle.share_files.specs.declared.share.Share.{Share}
use Rattle.trustee_node.specs.Places.{StandInLog}
use Rattle.trustee_node.specs.Turns.{ServedTurns, Turn, ended, next}
use Rattle.node_workers.proofs.Logs.{begins-length}
use Rattle.node_workers.proofs.Prefixes.{prefix-more, prefix-then}

take-begins : {A : Type 0} (xs ys : List A) → IsPrefix xs ys → take (length xs) ys ≡ xs
take-begins xs ys p = ap (take (length xs)) (sym p.1) ∙ take-append_seam xs p.0

module _ (share : Share) (ids : Option (List (List ℕ))) where
  -- the last log goes on from the first one
  pub served-begins : (log last : List Entry) (turns : List Turn) → ServedTurns share ids log turns last → IsPrefix log last
  served-begins log last turns (ended at end p) = p
  served-begins log last turns (next at end turn rest p answers served) =
      prefix-then at turn.seen end p (prefix-then turn.seen (turn.seen ++ turn.added) end (prefix-more turn.seen turn.added) (served-begins (turn.seen ++ turn.added) end rest served))

  pub stand-in-log : (log last : List Entry) (turns : List Turn) (least : ℕ) → least ≤ length log → ServedTurns share ids log turns last → StandInLog last least turns
  stand-in-log log last turns least le (ended at end p) = let a = begins-length at end p in omega (arith, a, le)
  stand-in-log log last turns least le (next at end turn rest p answers served) =
      let whole = served-begins (turn.seen ++ turn.added) end rest served in
      let seen = prefix-then turn.seen (turn.seen ++ turn.added) end (prefix-more turn.seen turn.added) whole in
      let size = length-append turn.seen turn.added in (
        record {
          later = (let a = begins-length at turn.seen p in omega (arith, a, le));
          seen = take-begins turn.seen end seen;
          added = subst (λ (n : ℕ). take n end ≡ turn.seen ++ turn.added) size (take-begins (turn.seen ++ turn.added) end whole);
        },
        stand-in-log (turn.seen ++ turn.added) end rest (length turn.seen + length turn.added) (omega (arith, size)) served,
      )
