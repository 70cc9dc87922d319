use Rattle.std.proofs.Common.{◌≡◌, ◌+◌, ◌-◌, ◌≤◌, ℕ, List, IsTrue, length, take, drop, ap, sym, ◌∙◌, arith, rules, length-drop, refl, subst}
use Rattle.disk_trait.specs.Images.{written, Torn, Follows}
use Rattle.stream_host.proofs.FilePieces.{follows-then, kind-then, length-written, on-err, torn-then, torn-wide, written-then, written-torn}
use Rattle.stream_host.proofs.pieces.write_pieces.Goals as goal

-- how many bytes are left
left : (done : ℕ) (bytes rest : List ℕ) → rest ≡ drop done bytes → length rest ≡ length bytes - done
left done bytes rest is = ap length is ∙ length-drop done bytes

-- the next piece begins within the file
begins : (before now bytes : List ℕ) (at done place : ℕ) → at ≤ length before → done ≤ length bytes
    → now ≡ written before at (take done bytes) → place ≡ at + done → place ≤ length now
begins before now bytes at done place within few wrote is =
    let e = ap length wrote in
    let l = length-written before bytes at within done few in
    omega arith

-- the range of a piece, as the proofs of wholes have it
torn_piece : (x y : List ℕ) (at done place size n : ℕ) → place ≡ at + done → size ≡ n - done → Torn place size x y
    → Torn (at + done) (n - done) x y
torn_piece x y at done place size n is many torn =
    subst (λ (m : ℕ). Torn (at + done) m x y) many (subst (λ (p : ℕ). Torn p size x y) is torn)

-- what was done is a part of the whole
torn_part : (before now bytes : List ℕ) (at done : ℕ) → at ≤ length before → done ≤ length bytes
    → now ≡ written before at (take done bytes) → Torn at (length bytes) before now
torn_part before now bytes at done within few wrote =
    subst (λ (f : List ℕ). Torn at (length bytes) before f) (sym wrote) (written-torn before bytes at within done few)

follows_piece : (old new : List ℕ → Type 0) (at done place size n : ℕ) → place ≡ at + done → size ≡ n - done
    → Follows (Torn place size) old new → Follows (Torn (at + done) (n - done)) old new
follows_piece old new at done place size n is many follows =
    subst (λ (m : ℕ). Follows (Torn (at + done) m) old new) many
    (subst (λ (p : ℕ). Follows (Torn p size) old new) is follows)

pub pieces-preserved : goal.pieces-preserved
pieces-preserved g c =
    let v = c.pieces.invariant in
    let r = c.in_ok-count.ensures in
    let file = g.F.RawFile in
    let at = c.args.at in
    let done = c.pieces.done in
    let n = c.in_ok-count.count in
    let bytes = c.args.bytes.now in
    let rest = c.after.result.now in
    let before = file.reads c.args.file.now in
    let now = file.reads c.pieces.file in
    let place : c.in-Some.place ≡ at + done = search rules in
    let size = left done bytes rest c.after.ensures in
    let few : done + n ≤ length bytes = (let s = r.written.size in let w = v.within in omega arith) in
    let there : IsTrue (file.told c.args.file.now) → at ≤ length before → c.in-Some.place ≤ length now =
    λ told within. begins before now bytes at done c.in-Some.place within v.within (v.wrote told within) place in
    record {
      within = few;
      stays = kind-then _ _ _ _ _ _ _ v.stays r.stays;
      wrote = λ told within.
          r.written.bytes (v.stays.told ∙ told) (there told within)
          ∙ ap (λ f. written f c.in-Some.place (take n rest)) (v.wrote told within)
          ∙ ap (λ p. written (written before at (take done bytes)) p (take n rest)) place
          ∙ ap (λ b. written (written before at (take done bytes)) (at + done) (take n b)) c.after.ensures
          ∙ written-then before bytes at within done n few;
      images = λ honest told within.
          follows-then at (length bytes) done _ _ _ v.within (v.images honest told within)
          (follows_piece _ _ at done c.in-Some.place (length rest) (length bytes) place size
          (r.images (v.stays.honest ∙ honest) (v.stays.told ∙ told) (there told within)));
      syncs = record {
        grown = λ told fits.
            let within : at ≤ length before = omega arith in
            let e = ap length (v.wrote told within) in
            let l = length-written before bytes at within done v.within in
            r.syncs.grown (v.stays.told ∙ told) (let w = v.within in omega arith) ∙ v.syncs.grown told fits;
        failed = λ told. r.syncs.failed (v.stays.told ∙ told) ∙ v.syncs.failed told;
      };
    }

pub returns-in_err-count-clause-torn : goal.returns-in_err-count-clause-torn
returns-in_err-count-clause-torn g c told within =
    let v = c.pieces.invariant in
    let r = c.in_err-count.ensures in
    let at = c.args.at in
    let done = c.pieces.done in
    let bytes = c.args.bytes.now in
    let rest = c.after.result.now in
    let before = g.F.RawFile.reads c.args.file.now in
    let now = g.F.RawFile.reads c.pieces.file in
    let place : c.in-Some.place ≡ at + done = search rules in
    let there = begins before now bytes at done c.in-Some.place within v.within (v.wrote told within) place in
    let piece = torn_piece _ _ at done c.in-Some.place (length rest) (length bytes) place
    (left done bytes rest c.after.ensures) (r.written.torn (v.stays.told ∙ told) there) in
    let first = torn_part before now bytes at done within v.within (v.wrote told within) in
    on-err c.from_residual.result _ (torn-then at (length bytes) _ _ _ first (torn-wide at (length bytes) done _ _ v.within piece))

pub returns-in_err-count-clause-images : goal.returns-in_err-count-clause-images
returns-in_err-count-clause-images g c honest told within =
    let v = c.pieces.invariant in
    let r = c.in_err-count.ensures in
    let at = c.args.at in
    let done = c.pieces.done in
    let bytes = c.args.bytes.now in
    let rest = c.after.result.now in
    let before = g.F.RawFile.reads c.args.file.now in
    let now = g.F.RawFile.reads c.pieces.file in
    let place : c.in-Some.place ≡ at + done = search rules in
    let there = begins before now bytes at done c.in-Some.place within v.within (v.wrote told within) place in
    follows-then at (length bytes) done _ _ _ v.within (v.images honest told within)
    (follows_piece _ _ at done c.in-Some.place (length rest) (length bytes) place
    (left done bytes rest c.after.ensures) (r.images (v.stays.honest ∙ honest) (v.stays.told ∙ told) there))

pub returns-in_err-count-clause-syncs : goal.returns-in_err-count-clause-syncs
returns-in_err-count-clause-syncs g c =
    let v = c.pieces.invariant in
    let r = c.in_err-count.ensures in
    let at = c.args.at in
    let done = c.pieces.done in
    let bytes = c.args.bytes.now in
    let before = g.F.RawFile.reads c.args.file.now in
    let place : c.in-Some.place ≡ at + done = search rules in
    let size = left done bytes c.after.result.now c.after.ensures in
    record {
      grown = λ told fits.
          let within : at ≤ length before = omega arith in
          let e = ap length (v.wrote told within) in
          let l = length-written before bytes at within done v.within in
          r.syncs.grown (v.stays.told ∙ told) (let w = v.within in omega arith) ∙ v.syncs.grown told fits;
      failed = λ told. r.syncs.failed (v.stays.told ∙ told) ∙ v.syncs.failed told;
    }

pub returns-in_err-count-clause-stays : goal.returns-in_err-count-clause-stays
returns-in_err-count-clause-stays g c = kind-then _ _ _ _ _ _ _ c.pieces.invariant.stays c.in_err-count.ensures.stays

-- if the next place is not a number
pub returns-in_default-clause-bytes : goal.returns-in_default-clause-bytes
returns-in_default-clause-bytes g c told within = tt

pub returns-in_default-clause-torn : goal.returns-in_default-clause-torn
returns-in_default-clause-torn g c told within =
    let v = c.pieces.invariant in
    torn_part _ _ c.args.bytes.now c.args.at c.pieces.done within v.within (v.wrote told within)

pub returns-in_default-clause-images : goal.returns-in_default-clause-images
returns-in_default-clause-images g c = c.pieces.invariant.images

pub returns-in_default-clause-syncs : goal.returns-in_default-clause-syncs
returns-in_default-clause-syncs g c = c.pieces.invariant.syncs

pub returns-in_default-clause-stays : goal.returns-in_default-clause-stays
returns-in_default-clause-stays g c = c.pieces.invariant.stays

-- if all is written
pub returns-clause-torn : goal.returns-clause-torn
returns-clause-torn g c told within = tt

pub returns-clause-images : goal.returns-clause-images
returns-clause-images g c = c.pieces.invariant.images

pub returns-clause-syncs : goal.returns-clause-syncs
returns-clause-syncs g c = c.pieces.invariant.syncs

pub returns-clause-succeeds : goal.returns-clause-succeeds
returns-clause-succeeds g c steady told within room fits = refl

pub returns-clause-stays : goal.returns-clause-stays
returns-clause-stays g c = c.pieces.invariant.stays
