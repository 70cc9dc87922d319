use Rattle.std.proofs.Common.{◌≡◌, map, drop, option_map, string_bytes}
use Rattle.tool_words.specs.Words.{with_addresses}
use Rattle.tool_words.proofs.places.fill.Given as goal

abbrev pub invariant-loop-word : goal.invariant-loop-word
invariant-loop-word l =
    with_addresses (map (option_map (λ place. place.now)) l.fn.places) (map string_bytes l.fn.words)
    ≡ with_addresses (map (option_map (λ place. place.now)) l.places) (map string_bytes (drop l.word-index l.fn.words))
