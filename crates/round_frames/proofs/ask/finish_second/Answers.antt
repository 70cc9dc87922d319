use Rattle.std.proofs.Common.{◌∙◌, Ok, ap, arith, length, take}
use Rattle.std.proofs.lemmas.Result.{err_from_is_err_and}
use Rattle.round_frames.specs.Asks.{ask_of}
use Rattle.round_frames.proofs.Reading.{all-there, ask-is, part-missing, no-fault}
use Rattle.round_frames.proofs.ask.finish_second.Goals as goal

pub returns-in_err-take_message-clause-told : goal.returns-in_err-take_message-clause-told
returns-in_err-take_message-clause-told g c told =
    let talk = g.S.Stream.talk in
    let p = err_from_is_err_and c.from_residual.result c.from_residual.ensures.1 in
    rw (p.1, p.2) (part-missing (talk c.args.source.now) (talk c.take_message.new.source) c.in_err-take_message.field-0.0 c.args.size c.args.size
    (λ message. Ok (ask_of c.args.params.now c.args.head.now message)) (omega arith) (c.in_err-take_message.ensures.passed told))

pub returns-clause-told : goal.returns-clause-told
returns-clause-told g c told =
    let talk = g.S.Stream.talk in
    let size = c.args.size in
    let rest = (talk c.args.source.now).left in
    let t = c.in_ok-take_message.ensures in
    let params = c.args.params.now in
    let head = c.args.head.now in
    let key = c.copy_from_slice.new.self in
    let leaf = c.u32_at-leaf.result in
    let rand = c.of-c.result in
    all-there (talk c.args.source.now) (talk c.take_message.new.source) _ size (λ message. Ok (ask_of params head message)) (t.passed told)
    (ap (λ ask. Ok ask) (ask-is params head (take size rest) key leaf rand c.copy_from_slice-2.new.self c.finish.result c.finish-2.result
    (c.copy_from_slice.ensures.after ∙ c.part.ensures.bytes) c.u32_at-leaf.ensures.number (c.of-c.ensures ∙ c.part-3.ensures.bytes)
    (c.copy_from_slice-2.ensures.after ∙ c.part-2.ensures.bytes)
    (c.finish.ensures (take size rest) ((t.hashed told).id c.new.ensures.taken))
    (c.finish-2.ensures.digest params key leaf rand (take size rest) ((t.hashed told).digest params key leaf rand c.new-2.ensures))))

pub returns-clause-sizes : goal.returns-clause-sizes
returns-clause-sizes g c =
    let params = c.args.params.now in
    let key = c.copy_from_slice.new.self in
    let leaf = c.u32_at-leaf.result in
    let rand = c.of-c.result in
    let taken = c.in_ok-take_message.ensures.some params key leaf rand c.new-2.ensures in
    (ap length c.of-c.ensures ∙ c.part-3.ensures.length, c.finish-2.ensures.length params key leaf rand taken.0 taken.1)

pub returns-clause-only : goal.returns-clause-only
returns-clause-only g c = c.in_ok-take_message.ensures.takes.only

pub returns-clause-steady : goal.returns-clause-steady
returns-clause-steady g c = c.in_ok-take_message.ensures.takes.steady

pub returns-in_err-take_message-clause-only : goal.returns-in_err-take_message-clause-only
returns-in_err-take_message-clause-only g c = c.in_err-take_message.ensures.takes.only

pub returns-in_err-take_message-clause-steady : goal.returns-in_err-take_message-clause-steady
returns-in_err-take_message-clause-steady g c = c.in_err-take_message.ensures.takes.steady

pub returns-clause-answers : goal.returns-clause-answers
returns-clause-answers g c steady = no-fault _ _

pub returns-clause-no_memory : goal.returns-clause-no_memory
returns-clause-no_memory g c = no-fault _ _
