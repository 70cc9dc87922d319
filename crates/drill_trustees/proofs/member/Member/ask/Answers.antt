use Rattle.std.proofs.Common.{refl}
use Rattle.drill_trustees.proofs.Asking.{still-own, still-sets, still-settled, still-steady}
use Rattle.drill_trustees.proofs.member.Member.ask.Goals as goal

pub invariant_of-result : goal.invariant_of-result
invariant_of-result c =
    let m = c.args.self in
    let d = c.decide.ensures in
    record {
      own = still-own m.trustee c.decide.new.self m.share c.args.ask.now c.decide.result m.own m.settled refl m.steady d.event d.decided;
      settled = still-settled m.trustee c.decide.new.self m.share c.args.ask.now c.decide.result m.own m.settled refl m.steady d.event d.decided;
      steady = still-steady m.trustee c.decide.new.self m.share c.args.ask.now c.decide.result m.own m.settled refl m.steady d.event d.decided;
      hash_length = m.hash_length;
      height = m.height;
    }

pub invariant_of-result-in-Err : goal.invariant_of-result-in-Err
invariant_of-result-in-Err c =
    let m = c.args.self in
    let d = c.decide.ensures in
    record {
      own = still-own m.trustee c.decide.new.self m.share c.args.ask.now c.decide.result m.own m.settled refl m.steady d.event d.decided;
      settled = still-settled m.trustee c.decide.new.self m.share c.args.ask.now c.decide.result m.own m.settled refl m.steady d.event d.decided;
      steady = still-steady m.trustee c.decide.new.self m.share c.args.ask.now c.decide.result m.own m.settled refl m.steady d.event d.decided;
      hash_length = m.hash_length;
      height = m.height;
    }

pub returns-in-Ok-clause-sets : goal.returns-in-Ok-clause-sets
returns-in-Ok-clause-sets c = λ may.
    let m = c.args.self in
    let d = c.decide.ensures in
    (still-sets m.trustee c.decide.new.self m.share c.args.ask.now c.decide.result m.own m.settled refl m.steady d.event d.decided may).1

pub returns-in-Err-clause-granted : goal.returns-in-Err-clause-granted
returns-in-Err-clause-granted c = λ may.
    let m = c.args.self in
    let d = c.decide.ensures in
    let sets = still-sets m.trustee c.decide.new.self m.share c.args.ask.now c.decide.result m.own m.settled refl m.steady d.event d.decided may in
    let is = c.in-Err.is in
    let granted = rw is at sets.0 in
    absurd (cc)

pub returns-in-Err-clause-sets : goal.returns-in-Err-clause-sets
returns-in-Err-clause-sets c = λ may.
    let m = c.args.self in
    let d = c.decide.ensures in
    (still-sets m.trustee c.decide.new.self m.share c.args.ask.now c.decide.result m.own m.settled refl m.steady d.event d.decided may).1
