use Rattle.std.proofs.Common.{◌≡◌, length, inl, inr, refl, subst, arith}
use Rattle.stream_io.specs.Talk.{Took}
use Rattle.round_frames.proofs.fill.fill.Goals as goal

pub returns-in-Ok-clause-passed : goal.returns-in-Ok-clause-passed
returns-in-Ok-clause-passed g c told =
    let talk = g.S.Stream.talk in
    let few = c.if-count-out.true in
    let size = c.in-Ok.ensures.size told in
    let all : c.in-Ok.count ≡ length (talk c.args.source.now).left = omega (arith, few, size) in
    inl (refl, omega (arith, few, size), subst (Took (talk c.args.source.now) (talk c.read_whole.new.source)) all (c.in-Ok.ensures.took told))

pub returns-in-Ok-2-clause-passed : goal.returns-in-Ok-2-clause-passed
returns-in-Ok-2-clause-passed g c told =
    let talk = g.S.Stream.talk in
    let many = c.if-count-out.false in
    let within = c.in-Ok.ensures.within in
    let all : c.in-Ok.count ≡ length c.args.out.now = omega (arith, many, within) in
    subst (Took (talk c.args.source.now) (talk c.read_whole.new.source)) all (c.in-Ok.ensures.took told)

pub returns-in-Err-clause-passed : goal.returns-in-Err-clause-passed
returns-in-Err-clause-passed g c told =
    let took = c.in-Err.ensures.took told in
    inr (record { is = refl; size = took.size; took = took.took })

pub returns-in-Ok-clause-only : goal.returns-in-Ok-clause-only
returns-in-Ok-clause-only g c = c.in-Ok.ensures.only

pub returns-in-Ok-clause-steady : goal.returns-in-Ok-clause-steady
returns-in-Ok-clause-steady g c = c.in-Ok.ensures.steady

pub returns-in-Ok-2-clause-only : goal.returns-in-Ok-2-clause-only
returns-in-Ok-2-clause-only g c = c.in-Ok.ensures.only

pub returns-in-Ok-2-clause-steady : goal.returns-in-Ok-2-clause-steady
returns-in-Ok-2-clause-steady g c = c.in-Ok.ensures.steady

pub returns-in-Err-clause-only : goal.returns-in-Err-clause-only
returns-in-Err-clause-only g c = c.in-Err.ensures.only

pub returns-in-Err-clause-steady : goal.returns-in-Err-clause-steady
returns-in-Err-clause-steady g c = c.in-Err.ensures.steady

pub returns-in-Ok-clause-faults : goal.returns-in-Ok-clause-faults
returns-in-Ok-clause-faults g c = inl refl

pub returns-in-Err-clause-faults : goal.returns-in-Err-clause-faults
returns-in-Err-clause-faults g c = inr refl
