use Rattle.std.proofs.Common.{rules, ◌≡◌, ◌∙◌, ◌+◌, ◌-◌, ◌≤◌, sym, ap, length, drop, take, IsTrue, List, ℕ, arith, take-take}
use Rattle.std.proofs.lemmas.List.{drop-drop, drop-take}
use Rattle.lms_bytes.specs.Bytes.{bytes_at}
use Rattle.reference_value.proofs.paged.Paged.read.Goals as goal

-- bytes within a beginning
within-front : (xs : List ℕ) (place size count : ℕ) → place + size ≤ count → bytes_at (take count xs) place size ≡ bytes_at xs place size
within-front xs place size count within =
    let whole : place + (count - place) ≡ count = omega arith in
    let cut : drop place (take (place + (count - place)) xs) ≡ take (count - place) (drop place xs) = drop-take place (count - place) xs in
    let front : drop place (take count xs) ≡ take (count - place) (drop place xs) = rw whole at cut in
    rw front (take-take size (count - place) (drop place xs) (omega arith))

-- bytes within a piece of the leaves
within-piece : (piece leaves : List ℕ) (first count place size : ℕ) → take count piece ≡ bytes_at leaves first count → first ≤ place
    → place + size ≤ first + count → bytes_at piece (place - first) size ≡ bytes_at leaves place size
within-piece piece leaves first count place size read begins ends =
    let within : place - first + size ≤ count = omega arith in
    let there : first + (place - first) ≡ place = omega arith in
    sym (within-front piece (place - first) size count within)
    ∙ (ap (λ (xs : List ℕ). bytes_at xs (place - first) size) read ∙ (within-front (drop first leaves) (place - first) size count within
    ∙ ap (take size) (drop-drop (place - first) first leaves ∙ ap (λ (k : ℕ). drop k leaves) there)))

-- leaves that are as they were
reread : (now before : List ℕ) (head place size : ℕ) → now ≡ before → bytes_at (drop head now) place size ≡ bytes_at (drop head before) place size
reread now before head place size same = ap (λ (xs : List ℕ). bytes_at (drop head xs) place size) same

pub returns-clause-bytes : goal.returns-clause-bytes
returns-clause-bytes g c = λ told.
    let now = c.if-place-self.self in
    let begins : now.first ≤ c.args.place = search rules in
    let ends : c.args.place + length c.args.out.now ≤ now.first + now.count = search rules in
    let still : IsTrue (g.V.Pages.told now.pages) = search rules in
    let same : g.V.Pages.reads now.pages ≡ g.V.Pages.reads c.args.self.now.pages = search rules in
    c.copy_from_slice.ensures.after ∙ (c.part.ensures.bytes
    ∙ (within-piece now.piece _ now.first now.count c.args.place (length c.args.out.now) (now.read still) begins ends
    ∙ reread _ _ 32 c.args.place (length c.args.out.now) same))
