-- Masks that are written one after another.
use Rattle.std.proofs.Common.{◌≡◌, ◌+◌, ◌<◌, ◌≤◌, ◌⊎◌, inl, inr, ◌++◌, ℕ, zero, suc, List, [], length, take, Option, None, Some, refl, sym, ap, ◌∙◌, subst, arith, add-one, append_assoc, length-append}
use Rattle.std.proofs.Math.Seq.{take-append-add}
use Rattle.std.proofs.lemmas.List.{take-append-le}
use mathlib.Core.List.{IsPrefix}
use mathlib.Core.Logic.{dite}
use native.Mathlib.Decide.{ℕ_discrete}
use Rattle.lms_bytes.specs.Bytes.{joined}
use Rattle.lms_bytes.specs.declared.ask.Ask.{Ask}
use Rattle.lms_bytes.specs.declared.ask.Second.{Second}
use Rattle.lms_bytes.specs.declared.params.Params.{Params}
use Rattle.stream_io.specs.Talk.{Talk, WrotePart}
use Rattle.trustee_core.specs.Grants.{masks_of}
use Rattle.node_workers.proofs.Prefixes.{prefix-same, prefix-more, prefix-then}

pub joined-more : (f : ℕ → List ℕ) (i : ℕ) → joined f (i + 1) ≡ joined f i ++ f i
unfolding joined
joined-more f i = rw add-one refl

pub joined-none : (f : ℕ → List ℕ) → joined f 0 ≡ []
unfolding joined
joined-none f = refl

pub joined-begins : (f : ℕ → List ℕ) (i n : ℕ) → i ≤ n → IsPrefix (joined f i) (joined f n)
unfolding joined
joined-begins f i zero le = let is : 0 ≡ i = omega arith in subst (λ (k : ℕ). IsPrefix (joined f k) (joined f 0)) is (prefix-same (joined f 0))
joined-begins f i (suc n) le = dite (ℕ_discrete i (suc n))
    (λ is. subst (λ (k : ℕ). IsPrefix (joined f i) (joined f k)) is (prefix-same (joined f i)))
    (λ differs. prefix-then (joined f i) (joined f n) (joined f (suc n)) (joined-begins f i n (omega arith)) (prefix-more (joined f n) (f n)))

-- one more mask in the room
pub masks-more : (f : ℕ → List ℕ) (from i filled n : ℕ) (old new mask : List ℕ) → joined f from ++ take filled old ≡ joined f i
    → mask ≡ f i → length mask ≡ n → take (filled + length mask) new ≡ take filled old ++ mask
    → joined f from ++ take (filled + n) new ≡ joined f (i + 1)
masks-more f from i filled n old new mask before is long front =
    ap (λ (k : ℕ). joined f from ++ take (filled + k) new) (sym long) ∙ ap (λ (l : List ℕ). joined f from ++ l) front
    ∙ sym (append_assoc (joined f from) (take filled old) mask) ∙ ap (λ (l : List ℕ). l ++ mask) before
    ∙ ap (λ (l : List ℕ). joined f i ++ l) is ∙ sym (joined-more f i)

-- a beginning of bytes is a beginning of longer ones
pub part-of : (old new : Talk) (xs ys : List ℕ) → IsPrefix xs ys → WrotePart old new xs → WrotePart old new ys
part-of old new xs ys p part = record {
  size = part.size;
  short = (let s = part.short in let e = ap length p.1 in omega (arith, s, e, length-append xs p.0));
  written = part.written ∙ ap (λ (l : List ℕ). old.written ++ l)
      (sym (take-append-le part.size xs p.0 (let s = part.short in omega (arith, s))) ∙ ap (take part.size) p.1);
}

-- a beginning of what follows was written
pub part-behind : (old mid new : Talk) (a b : List ℕ) → mid.written ≡ old.written ++ a → WrotePart mid new b → WrotePart old new (a ++ b)
part-behind old mid new a b before part = record {
  size = length a + part.size;
  short = (let s = part.short in omega (arith, s, length-append a b));
  written = part.written ∙ ap (λ (l : List ℕ). l ++ take part.size b) before ∙ append_assoc old.written a (take part.size b)
      ∙ ap (λ (l : List ℕ). old.written ++ l) (sym (take-append-add a b part.size));
}

-- the head stands in the front of the room and nothing is written, or the head and the masks before `next` are written
abbrev pub Gathered : (ℕ → List ℕ) → Talk → Talk → ℕ → List ℕ → List ℕ → ℕ → Type 0
Gathered f old now front room head next =
    ((next ≡ 0) × (now.written ≡ old.written) × (take front room ≡ head))
    ⊎ ((front ≡ 0) × (now.written ≡ old.written ++ (head ++ joined f next)))

-- the bytes of the front and of more masks, if they are written after what was written
pub gathered-bytes : (f : ℕ → List ℕ) (old mid : Talk) (front : ℕ) (room head more : List ℕ) (next after : ℕ)
    → Gathered f old mid front room head next → joined f next ++ more ≡ joined f after
    → mid.written ++ (take front room ++ more) ≡ old.written ++ (head ++ joined f after)
gathered-bytes f old mid front room head more next after (inl (none, same, is)) on =
    ap (λ (l : List ℕ). l ++ (take front room ++ more)) same
    ∙ ap (λ (l : List ℕ). old.written ++ (l ++ more)) is
    ∙ ap (λ (l : List ℕ). old.written ++ (head ++ l)) (sym (ap (λ (k : ℕ). joined f k ++ more) none ∙ ap (λ (l : List ℕ). l ++ more) (joined-none f)) ∙ on)
gathered-bytes f old mid front room head more next after (inr (none, written)) on =
    ap (λ (k : ℕ). mid.written ++ (take k room ++ more)) none
    ∙ ap (λ (l : List ℕ). l ++ more) written
    ∙ append_assoc old.written (head ++ joined f next) more
    ∙ ap (λ (l : List ℕ). old.written ++ l) (append_assoc head (joined f next) more ∙ ap (λ (l : List ℕ). head ++ l) on)

-- all of it was written
pub gathered-on : (f : ℕ → List ℕ) (old mid new : Talk) (front : ℕ) (room head more : List ℕ) (next after : ℕ)
    → Gathered f old mid front room head next → joined f next ++ more ≡ joined f after
    → new.written ≡ mid.written ++ (take front room ++ more) → new.written ≡ old.written ++ (head ++ joined f after)
gathered-on f old mid new front room head more next after gathered on is =
    is ∙ gathered-bytes f old mid front room head more next after gathered on

-- a beginning of it was written
pub gathered-part : (f : ℕ → List ℕ) (old mid new : Talk) (front : ℕ) (room head more : List ℕ) (next after : ℕ)
    → Gathered f old mid front room head next → joined f next ++ more ≡ joined f after
    → WrotePart mid new (take front room ++ more) → WrotePart old new (head ++ joined f after)
gathered-part f old mid new front room head more next after (inl (none, same, is)) on part =
    let bytes : take front room ++ more ≡ head ++ joined f after = ap (λ (l : List ℕ). l ++ more) is
    ∙ ap (λ (l : List ℕ). head ++ l) (sym (ap (λ (k : ℕ). joined f k ++ more) none ∙ ap (λ (l : List ℕ). l ++ more) (joined-none f)) ∙ on) in
    let moved : WrotePart old new (take front room ++ more) = record {
      size = part.size;
      short = part.short;
      written = part.written ∙ ap (λ (l : List ℕ). l ++ take part.size (take front room ++ more)) same;
    } in
    subst (WrotePart old new) bytes moved
gathered-part f old mid new front room head more next after (inr (none, written)) on part =
    let bare : WrotePart mid new more = subst (λ (k : ℕ). WrotePart mid new (take k room ++ more)) none part in
    let bytes : (head ++ joined f next) ++ more ≡ head ++ joined f after = append_assoc head (joined f next) more ∙ ap (λ (l : List ℕ). head ++ l) on in
    subst (WrotePart old new) bytes (part-behind old mid new (head ++ joined f next) more written bare)

-- if there are masks and the last of them was gathered, all is written
pub gathered-all : (f : ℕ → List ℕ) (old now : Talk) (front : ℕ) (room head : List ℕ) (next : ℕ)
    → Gathered f old now front room head next → 0 < next → now.written ≡ old.written ++ (head ++ joined f next)
gathered-all f old now front room head next (inl (none, same, is)) some = absurd (omega (arith, none, some))
gathered-all f old now front room head next (inr (none, written)) some = written

-- the room left after more masks, if the front and they were written as one piece
pub room-on : (f : ℕ → List ℕ) (first mid last : ℕ) (front head more piece : List ℕ) (next after : ℕ)
    → first + length front ≤ mid + length (head ++ joined f next) → joined f next ++ more ≡ joined f after
    → piece ≡ front ++ more → mid ≤ last + length piece → first ≤ last + length (head ++ joined f after)
room-on f first mid last front head more piece next after before on is took =
    let a = ap length on in
    let b = ap length is in
    omega (arith, before, took, a, b, length-append (joined f next) more, length-append front more, length-append head (joined f next), length-append head (joined f after))

-- if all masks fit, so does the next piece
pub room-there : (f : ℕ → List ℕ) (first mid : ℕ) (front head more piece : List ℕ) (next after count : ℕ)
    → first + length front ≤ mid + length (head ++ joined f next) → joined f next ++ more ≡ joined f after
    → piece ≡ front ++ more → after ≤ count → length (head ++ joined f count) ≤ first → length piece ≤ mid
room-there f first mid front head more piece next after count before on is le fits =
    let p = joined-begins f after count le in
    let a = ap length on in
    let b = ap length is in
    let e = ap length p.1 in
    omega (arith, before, fits, a, b, e, length-append (joined f after) p.0, length-append (joined f next) more, length-append front more, length-append head (joined f next), length-append head (joined f count))

-- the room left after some masks is the room left after all
pub room-all : (f : ℕ → List ℕ) (first last : ℕ) (head : List ℕ) (after count : ℕ)
    → first ≤ last + length (head ++ joined f after) → after ≤ count → first ≤ last + length (head ++ joined f count)
room-all f first last head after count before le =
    let p = joined-begins f after count le in
    let e = ap length p.1 in
    omega (arith, before, e, length-append (joined f after) p.0, length-append head (joined f after), length-append head (joined f count))

-- a set has chains
pub some-chains : (params : Params) → 0 < params.p
some-chains params = let n = params.hash_length in let w = params.digit_width in let d = params.digest_digits in grind (arith, n, w, d)

some-of : (params : Params) (second : Option Second) → 0 < (elim second [ None ↦ 1 | Some second ↦ params.p ])
some-of params None = omega arith
some-of params (Some second) = some-chains params

-- an ask has masks
pub some-masks : (params : Params) (ask : Ask) → 0 < masks_of params ask
some-masks params ask = some-of params ask.second

-- a room that is full has at least one mask
pub some-there : (from i filled n size : ℕ) → from ≤ i → (i ≡ from → filled ≡ 0) → n ≤ 32 → 32 ≤ size → size < filled + n → from < i
some-there from i filled n size later first small room full = dite (ℕ_discrete i from)
    (λ is. absurd (let none = first is in omega (arith, none, small, room, full)))
    (λ differs. omega (arith, later, differs))
