use Rattle.std.proofs.Common.{List, ℕ, subst, sym, ap, ◌∙◌, arith}
use Rattle.std.proofs.lemmas.List.{length-take}
use Rattle.lms_bytes.specs.declared.params.Params.{Params}
use Rattle.round_frames.specs.Replies.{IsHead, reply_front}
use Rattle.round_frames.specs.Sending.{Sends, sink_state}
use Rattle.trustee_node.proofs.Heads.{has-digest, reply-is}
use Rattle.trustee_node.proofs.Lengths.{reply-most}
use Rattle.trustee_node.proofs.reply.write_reply.Goals as goal

pub write_body-requires-clause-digest : goal.write_body-requires-clause-digest
write_body-requires-clause-digest g c = has-digest c.args.share.now c.args.ask.now c.args.answer.now c.requires.answer c.requires.sizes

pub returns-clause-length : goal.returns-clause-length
returns-clause-length g c =
    let head = c.put_reply_head-front.ensures.bytes ∙ ap (λ (params : Params). reply_front params c.head_of-head.result) c.params.ensures ∙ ap (reply_front c.args.share.now.params) c.head_of-head.ensures.head in
    reply-most c.args.share.now c.args.ask.now c.args.answer.now _ c.write_body.ensures.keeps head
    (let size = c.put_reply_head-front.ensures.size in let few = length-take c.put_reply_head-front.result c.put_reply_head-front.new.out in omega (arith, size, few))

pub returns-clause-sends : goal.returns-clause-sends
returns-clause-sends g c =
    let share = c.args.share.now in
    let answer = c.args.answer.now in
    let state = sink_state g.K.Stream.talk g.K.Faults.steady g.K.Sink.room in
    let head = c.put_reply_head-front.ensures.bytes ∙ ap (λ (params : Params). reply_front params c.head_of-head.result) c.params.ensures ∙ ap (reply_front share.params) c.head_of-head.ensures.head in
    let bytes = reply-is share c.args.ask.now answer _ c.requires.answer head in
    subst (λ (l : List ℕ). Sends l (state c.args.link.now) (state c.write_body.new.link) c.write_body.result) bytes c.write_body.ensures.sends

pub put_reply_head-front-requires-clause-head : goal.put_reply_head-front-requires-clause-head
put_reply_head-front-requires-clause-head g c = subst (λ (params : Params). IsHead params c.head_of-head.result) (sym c.params.ensures) c.head_of-head.ensures.written
