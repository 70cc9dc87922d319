use Rattle.std.proofs.Common.{◌++◌, take, subst}
use Rattle.lms_bytes.specs.declared.ask.Ask.{Ask}
use Rattle.round_frames.specs.Sending.{Sends, sink_state}
use Rattle.share_files.specs.declared.share.Share.{Share}
use Rattle.trustee_core.specs.Grants.{ask_of, granted_by}
use Rattle.trustee_node.specs.Replies.{masks_joined}
use Rattle.trustee_node.proofs.reply.write_granted.Goals as goal

pub returns : goal.returns
returns g c =
    let state = sink_state g.K.Stream.talk g.K.Faults.steady g.K.Sink.room in
    let front = take c.args.front c.args.room.now in
    let masks = c.masks-masks.result in
    record {
      sends = subst (λ (share : Share). Sends (front ++ masks_joined share (ask_of c.args.grant.now)) (state c.args.link.now) (state c.write_masks.new.link) c.write_masks.result)
          c.masks-masks.ensures.share
          (subst (λ (ask : Ask). Sends (front ++ masks_joined (granted_by masks) ask) (state c.args.link.now) (state c.write_masks.new.link) c.write_masks.result)
          c.masks-masks.ensures.ask c.write_masks.ensures.sends);
    }
