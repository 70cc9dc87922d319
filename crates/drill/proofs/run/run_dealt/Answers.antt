use Rattle.std.proofs.Common.{◌≡◌, ◌<◌, ◌≤◌, ℕ, get_or, All, List, length, refl, sym, ◌∙◌, ap, subst, arith}
use Rattle.coalition_map.specs.Coalitions.{PlanNumbers}
use Rattle.drill.specs.Courses.{AreFinished, HasEnded, HasSigned, uses_of}
use Rattle.drill.specs.Disks.{AreDisks}
use Rattle.drill_trustees.specs.Trustees.{leaf_at}
use Rattle.drill.specs.Counts.{signed_in}
use Rattle.drill.specs.Schedules.{cut_asks, extra_asks, signed_of}
use Rattle.drill.specs.Summaries.{events_in}
use Rattle.drill.specs.declared.seat.Seat.{Seat}
use Rattle.drill.specs.declared.seat.Seat.TheVariants.{Refused}
use Rattle.drill_schedule.specs.Draws.{entropy_of, events_of}
use Rattle.drill_schedule.specs.Events.{is_cut}
use Rattle.drill.proofs.Desks.{own-dealing, own-drawn}
use Rattle.drill_schedule.specs.declared.summary.Summary.{Summary}
use Rattle.drill.proofs.Counted.{held-all, signed-are}
use Rattle.drill.proofs.Following.{ended-replies}
use Rattle.drill.proofs.Finishing.{Signer, all-ended, first-signs, most-is, signer}
use Rattle.drill.proofs.Held.{are-disks}
use Rattle.drill.proofs.run.run_dealt.Goals as goal

pub returns-clause-summary : goal.returns-clause-summary
returns-clause-summary c = λ number state dealt.
    let desk = c.args.desk.now in
    let ends = c.count_ends-signed.ensures in
    let size : length c.deref.result.now ≡ c.args.sessions = ap (λ (l : List Seat). length l) c.deref.ensures.value ∙ c.in_ok-drill-3.ensures.seated.count in
    rw c.in_ok-drilled.ensures.summary (record {
      sessions_are = refl;
      ends = (let within = ends.within in omega arith);
      parts = c.finish_all.ensures.parts;
      cuts_in = subst (λ (k : ℕ). k ≤ events_of is_cut number (events_in c.args.sessions c.args.events)) (sym c.finish_all.ensures.cuts)
          (c.in_ok-drill-2.ensures.counted number state).cuts;
      complete = λ different.
          let own = own-dealing desk.dealt.public.params desk.plan (entropy_of number) number desk.dealt desk.hash_length refl dealt in
          let good = c.in_ok-drill.ensures.good own different in
          let well = c.in_ok-drill-2.ensures.well own number state good c.in_ok-drill.ensures.waiting in
          let extra = extra_asks number c.args.sessions (events_in c.args.sessions c.args.events) in
          let done = c.in_ok-drill-3.ensures.well own extra well.well in
          let all = all-ended desk own.dealing extra c.in_ok-drill-3.drill c.finish_all.new.tally
          (subst (λ (n : ℕ). AreFinished desk own.dealing extra n c.in_ok-drill-3.drill c.finish_all.new.tally) (sym c.in_ok-drill-3.ensures.seated.count) done) in
          let good = done.well.good in
          let most = c.most.ensures in
          let is = c.deref.ensures.value in
          let drill = c.in_ok-drill-3.drill in
          let from = λ (by : Signer drill.seats.items).
          ends.some by.session Refused (subst (λ (l : List Seat). by.session < length l) (sym is) by.within)
          (subst (λ (l : List Seat). HasSigned (get_or l by.session Refused)) (sym is) (by.signed Refused)) in
          record {
            ends = ends.all (subst (λ (l : List Seat). All HasEnded l) (sym is) all) ∙ size;
            signed = ends.signed ∙ ap signed_in is
                ∙ signed-are drill.seats.items all (λ k few. held-all desk own.dealing (uses_of drill.table) (leaf_at drill.trustees) drill.seats.items k few good.seats all (good.leaves k few))
                ∙ ap signed_of c.in_ok-drill-3.ensures.seated.count;
            some = λ some. from (first-signs desk own.dealing drill good all (subst (λ (n : ℕ). 0 < n) (sym c.in_ok-drill-3.ensures.seated.count) some));
            asks = (
                let taken = done.well.taken in
                let replies = ended-replies drill.seats.items all in
                let count : c.count_ends-signed.result.0 ≡ signed_in drill.seats.items = ends.signed ∙ ap signed_in is in
                omega arith);
            parts = done.well.parts;
            cuts_in = subst (λ (k : ℕ). k ≤ cut_asks number c.args.sessions (events_in c.args.sessions c.args.events)) (sym c.finish_all.ensures.cuts) well.cuts;
            most = most-is c.most.result _ (length drill.openings.list.items) (most.single good.openings.single) most.none most.some
                (λ empty. ends.none (subst (λ (l : List Seat). All (λ (seat : Seat). HasSigned seat → ⊥) l) (sym is) (λ k none inside has. let low = good.some k none inside has in omega arith)))
                (λ some. from (signer desk own.dealing drill good all some));
          };
      restarts_are = c.finish_all.ensures.restarts ∙ (c.in_ok-drill-2.ensures.counted number state).restarts;
    })

pub returns-clause-disks : goal.returns-clause-disks
returns-clause-disks c = λ number state dealt different.
    let desk = c.args.desk.now in
    let drill = c.in_ok-drill-3.drill in
    let tally = c.finish_all.new.tally in
    let drilled = c.in_ok-drilled.drilled in
    let own = own-dealing desk.dealt.public.params desk.plan (entropy_of number) number desk.dealt desk.hash_length refl dealt in
    let well = c.in_ok-drill-2.ensures.well own number state (c.in_ok-drill.ensures.good own different) c.in_ok-drill.ensures.waiting in
    let extra = extra_asks number c.args.sessions (events_in c.args.sessions c.args.events) in
    let done = c.in_ok-drill-3.ensures.well own extra well.well in
    let is_for = c.in_ok-drill-3.ensures.seated.is_for in
    let count = c.in_ok-drill-3.ensures.seated.count in
    let dealing = own-drawn desk.dealt.public.params desk.plan (entropy_of number) number desk.dealt desk.hash_length refl dealt desk.lms desk.ots desk.plan_is in
    let ended = all-ended desk own.dealing extra drill tally (subst (λ (n : ℕ). AreFinished desk own.dealing extra n drill tally) (sym count) done) in
    let held = are-disks desk own number drill drilled dealing is_for done.well.good ended
    c.in_ok-drilled.ensures.journals (c.in_ok-drilled.ensures.table done.well.good.table (ap (λ (p : PlanNumbers). p.h) (is_for.table.plan ∙ desk.plan_is)))
    (ap (λ (s : Summary). s.signed) c.in_ok-drilled.ensures.summary ∙ c.count_ends-signed.ensures.signed ∙ ap signed_in c.deref.ensures.value) in
    subst (λ (n : ℕ). AreDisks number n drilled) count held
