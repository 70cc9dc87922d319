use Rattle.std.proofs.Common.{List, [], ◌∷◌, ◌++◌, append_assoc, arith, refl, sym, ◌∙◌, ap, subst}
use Rattle.leaf_table.specs.Entries.{Follows, IsLeased, OneLease, map_of, may_follow}
use Rattle.leaf_table.specs.declared.lease.Lease.{Lease}
use Rattle.leaf_table.specs.declared.lease.Lease.TheVariants.{Leased, Burnt}
use Rattle.slot_file.proofs.Logs.{legal-more}
use Rattle.leaf_table.proofs.Maps.{map_of-other, map_of-same}
use Rattle.leaf_table.specs.Slots.{entries_of_slot}
use Rattle.lms_bytes.specs.declared.message.MessageId.{MessageId}
use Rattle.slot_file.specs.declared.slot.Slot.{Slot}
use Rattle.leaf_table.proofs.listing.add_slot.Goals as goal

pub returns-in-Half-clause-shown : goal.returns-in-Half-clause-shown
returns-in-Half-clause-shown c =
    let entry = Leased c.args.leaf c.of_bytes-message.result in
    rw (c.push_reserved.ensures.items, c.in-Half.is) (map_of-same c.args.entries.now.items entry c.args.leaf refl ∙ ap IsLeased c.of_bytes-message.ensures.bytes)

pub returns-in-Half-clause-others : goal.returns-in-Half-clause-others
returns-in-Half-clause-others c = λ other differs. rw c.push_reserved.ensures.items (map_of-other c.args.entries.now.items _ other differs)

pub returns-in-Half-clause-legal : goal.returns-in-Half-clause-legal
returns-in-Half-clause-legal c =
    let entry = Leased c.args.leaf c.of_bytes-message.result in
    subst OneLease (sym c.push_reserved.ensures.items) (legal-more Follows c.args.entries.now.items entry c.requires.legal (ap (may_follow entry) c.requires.free))

pub returns-in-Full-clause-shown : goal.returns-in-Full-clause-shown
returns-in-Full-clause-shown c =
    rw (c.push_reserved-in-Full-2.ensures.items, c.in-Full.is) (map_of-same c.push_reserved-in-Full.new.self.items (Burnt c.args.leaf) c.args.leaf refl)

pub returns-in-Full-clause-others : goal.returns-in-Full-clause-others
returns-in-Full-clause-others c = λ other differs.
    let first = map_of-other c.args.entries.now.items (Leased c.args.leaf c.of_bytes-message-in-Full.result) other differs in
    rw (c.push_reserved-in-Full-2.ensures.items, c.push_reserved-in-Full.ensures.items) (map_of-other _ _ other differs ∙ first)

pub returns-in-Full-clause-legal : goal.returns-in-Full-clause-legal
returns-in-Full-clause-legal c =
    let message = c.of_bytes-message-in-Full in
    let items = c.args.entries.now.items in
    let leased = Leased c.args.leaf message.result in
    let burnt = Burnt c.args.leaf in
    let first = c.push_reserved-in-Full.ensures.items in
    let one = subst OneLease (sym first) (legal-more Follows items leased c.requires.legal (ap (may_follow leased) c.requires.free)) in
    let follows = ap (λ (l : List Lease). may_follow burnt (map_of l c.args.leaf)) first ∙ ap (may_follow burnt) (map_of-same items leased c.args.leaf refl) in
    subst OneLease (sym c.push_reserved-in-Full-2.ensures.items) (legal-more Follows c.push_reserved-in-Full.new.self.items burnt one follows)

pub returns-in-Half-clause-items : goal.returns-in-Half-clause-items
returns-in-Half-clause-items c =
    let items = c.args.entries.now.items in
    let leaf = c.args.leaf in
    c.push_reserved.ensures.items ∙ ap (λ (id : MessageId). items ++ Leased leaf id ∷ []) c.of_bytes-message.ensures.fields
    ∙ ap (λ (slot : Slot). items ++ entries_of_slot leaf slot) (sym c.in-Half.is)

pub returns-in-Full-clause-items : goal.returns-in-Full-clause-items
returns-in-Full-clause-items c =
    let items = c.args.entries.now.items in
    let leaf = c.args.leaf in
    c.push_reserved-in-Full-2.ensures.items ∙ ap (λ (l : List Lease). l ++ Burnt leaf ∷ []) c.push_reserved-in-Full.ensures.items
    ∙ append_assoc items (Leased leaf c.of_bytes-message-in-Full.result ∷ []) (Burnt leaf ∷ [])
    ∙ ap (λ (id : MessageId). items ++ Leased leaf id ∷ Burnt leaf ∷ []) c.of_bytes-message-in-Full.ensures.fields
    ∙ ap (λ (slot : Slot). items ++ entries_of_slot leaf slot) (sym c.in-Full.is)

pub returns-in-Half-clause-room : goal.returns-in-Half-clause-room
returns-in-Half-clause-room c = omega (arith, c.push_reserved.ensures.capacity)

pub returns-in-Full-clause-room : goal.returns-in-Full-clause-room
returns-in-Full-clause-room c = omega (arith, c.push_reserved-in-Full.ensures.capacity, c.push_reserved-in-Full-2.ensures.capacity)

pub push_reserved-requires : goal.push_reserved-requires
push_reserved-requires c = omega (arith, c.requires.room, c.args.entries.now.ok.0)

pub push_reserved-requires-in-Full : goal.push_reserved-requires-in-Full
push_reserved-requires-in-Full c = omega (arith, c.requires.room, c.args.entries.now.ok.0)
