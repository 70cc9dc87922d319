-- A port in memory whose links wait may go to another thread.
use denote.Ref.{NamedLft}
use denote.Param.Send.{IsSend, IsSync, recorded_send, sendable, struct_send}
use denote.Struct.Declared.{shape}
use denote.Struct.Struct.{Struct}
use Rattle.std.proofs.Crossing.{crosses}
use Rattle.std.proofs.MapsCrossing.{crosses as texts_cross}
use Rattle.std.specs.contracts.option.Option as option
use Rattle.stream_memory.proofs.chain.Node.TheLaws.TheKnot.{crosses as nodes_cross}
use Rattle.stream_memory.specs.contracts.chain.Chain as chain
use Rattle.stream_memory.specs.contracts.conversation.Conversation as conversation
use Rattle.stream_memory.specs.contracts.kept_port.KeptPort as kept_port
use Rattle.stream_memory.specs.contracts.mem_link.MemLink as mem_link
use Rattle.stream_memory.specs.contracts.mem_port.MemPort as mem_port
use Rattle.stream_memory.specs.contracts.bell.Bell as bell
use Rattle.stream_memory.specs.contracts.hold.Hold as hold
use Rattle.stream_memory.specs.contracts.hold.Ring as ring
use Rattle.stream_memory.specs.contracts.waiting_port.WaitingPort as waiting_port

talk_send : IsSend conversation.the_row
talk_send = Prim.search (sendable, crosses, texts_cross) depth 40

link_send : IsSend mem_link.the_row
link_send = Prim.search (sendable, crosses, nodes_cross, talk_send) depth 40

talks_send : IsSend (chain.the_row conversation.the_row)
talks_send = Prim.search (sendable, crosses, nodes_cross, talk_send) depth 40

kept_send : IsSend kept_port.the_row
kept_send = Prim.search (sendable, crosses, texts_cross, link_send, talks_send) depth 40

mem_port_send : IsSend (mem_port.the_field).row
mem_port_send = Prim.search (sendable, crosses, nodes_cross, kept_send) depth 40

bell_sync : IsSync bell.the_row
bell_sync = Prim.search (sendable, crosses) depth 40

hold_send : (κ : NamedLft) → IsSend (hold.the_row κ)
hold_send κ = Prim.search (sendable, bell_sync) depth 40

ring_send : (κ : NamedLft) → IsSend (ring.the_row κ)
ring_send κ = Prim.search (sendable, bell_sync) depth 40

held_send : (κ : NamedLft) → IsSend (option.the_field (hold.the_row κ)).row
held_send κ = Prim.search (sendable, crosses, hold_send) depth 40

rung_send : (κ : NamedLft) → IsSend (option.the_field (ring.the_row κ)).row
rung_send κ = Prim.search (sendable, crosses, ring_send) depth 40

pub waiting_port_send : (κ : NamedLft) → IsSend (waiting_port.the_row κ)
waiting_port_send κ =
    let type = waiting_port.the_type κ in
    recorded_send (Struct (shape type)) type.D type.to type.to_one
    (struct_send (shape type) (mem_port_send, (held_send κ, (rung_send κ, tt))))
