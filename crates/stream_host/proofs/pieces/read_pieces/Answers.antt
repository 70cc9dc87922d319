use Rattle.std.proofs.Common.{◌≡◌, ◌+◌, length, drop, ap, ◌∙◌, arith, rules, length-drop, refl}
use Rattle.stream_host.proofs.FilePieces.{kind-then, read-more, untouched-then}
use Rattle.stream_host.proofs.pieces.read_pieces.Goals as goal

pub pieces-preserved : goal.pieces-preserved
pieces-preserved g c =
    let v = c.pieces.invariant in
    let r = c.in_ok-count.ensures in
    let at = c.args.at in
    let before = g.F.RawFile.reads c.args.file.now in
    let place : c.in-Some.place ≡ at + c.pieces.done = search rules in
    record {
      within = (let e = c.read_behind.auto.out in let s = r.size in omega arith);
      size = c.read_behind.auto.out ∙ v.size;
      untouched = untouched-then _ _ _ _ _ _ _ _ _ v.stays.told v.stays.honest v.untouched r.untouched;
      stays = kind-then _ _ _ _ _ _ _ v.stays r.stays;
      there = λ told.
          let few = r.within (v.stays.told ∙ told) in
          let same = ap length (ap (drop c.in-Some.place) (v.untouched.same told)) in
          let was = v.there told in
          let a = length-drop at before in
          let b = length-drop c.in-Some.place before in
          omega arith;
      bytes = λ told.
          read-more before _ _ _ at c.pieces.done c.in_ok-count.count c.in-Some.place (v.untouched.same told) place
          (v.bytes told) (r.bytes (v.stays.told ∙ told));
    }

-- if the next place is not a number
pub returns-in_default-clause-bytes : goal.returns-in_default-clause-bytes
returns-in_default-clause-bytes g c told = tt

pub returns-in_default-clause-within : goal.returns-in_default-clause-within
returns-in_default-clause-within g c told = tt

pub returns-in_default-clause-untouched : goal.returns-in_default-clause-untouched
returns-in_default-clause-untouched g c = c.pieces.invariant.untouched

pub returns-in_default-clause-stays : goal.returns-in_default-clause-stays
returns-in_default-clause-stays g c = c.pieces.invariant.stays

pub returns-in_err-count-clause-untouched : goal.returns-in_err-count-clause-untouched
returns-in_err-count-clause-untouched g c =
    let v = c.pieces.invariant in
    untouched-then _ _ _ _ _ _ _ _ _ v.stays.told v.stays.honest v.untouched c.in_err-count.ensures.untouched

pub returns-in_err-count-clause-stays : goal.returns-in_err-count-clause-stays
returns-in_err-count-clause-stays g c = kind-then _ _ _ _ _ _ _ c.pieces.invariant.stays c.in_err-count.ensures.stays

-- if the file comes to its end
pub returns-then-count-eq0-clause-bytes : goal.returns-then-count-eq0-clause-bytes
returns-then-count-eq0-clause-bytes g c told = tt

pub returns-then-count-eq0-clause-within : goal.returns-then-count-eq0-clause-within
returns-then-count-eq0-clause-within g c told = tt

pub returns-then-count-eq0-clause-untouched : goal.returns-then-count-eq0-clause-untouched
returns-then-count-eq0-clause-untouched g c =
    let v = c.pieces.invariant in
    untouched-then _ _ _ _ _ _ _ _ _ v.stays.told v.stays.honest v.untouched c.in_ok-count.ensures.untouched

pub returns-then-count-eq0-clause-stays : goal.returns-then-count-eq0-clause-stays
returns-then-count-eq0-clause-stays g c = kind-then _ _ _ _ _ _ _ c.pieces.invariant.stays c.in_ok-count.ensures.stays

-- if the room is full
pub returns-clause-succeeds : goal.returns-clause-succeeds
returns-clause-succeeds g c steady told within fits = refl

pub returns-clause-untouched : goal.returns-clause-untouched
returns-clause-untouched g c = c.pieces.invariant.untouched

pub returns-clause-stays : goal.returns-clause-stays
returns-clause-stays g c = c.pieces.invariant.stays
