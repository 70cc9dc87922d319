use Rattle.std.proofs.Common.{List, refl, sym, ◌∙◌, ap, subst}
use Rattle.opening_journal.specs.Entries.{Follows, IsBound, IsLegalList, IsOpened, map_of}
use Rattle.opening_journal.specs.declared.entry.Entry.{Entry}
use Rattle.opening_journal.specs.declared.entry.Entry.TheVariants.{Bound, Opened}
use Rattle.slot_file.proofs.Logs.{legal-more}
use Rattle.opening_journal.proofs.Maps.{map_of-other, map_of-same}
use Rattle.opening_journal.proofs.listing.add_slot.Goals as goal

pub returns-in-Half-clause-shown : goal.returns-in-Half-clause-shown
returns-in-Half-clause-shown c =
    let entry = Bound c.args.leaf c.of_bytes-message.result in
    rw (c.push_reserved.ensures.items, c.in-Half.is) (map_of-same c.args.entries.now.items entry c.args.leaf refl ∙ ap IsBound c.of_bytes-message.ensures.bytes)

pub returns-in-Half-clause-others : goal.returns-in-Half-clause-others
returns-in-Half-clause-others c = λ other differs. rw c.push_reserved.ensures.items (map_of-other c.args.entries.now.items _ other differs)

pub returns-in-Half-clause-legal : goal.returns-in-Half-clause-legal
returns-in-Half-clause-legal c =
    let entry = Bound c.args.leaf c.of_bytes-message.result in
    subst IsLegalList (sym c.push_reserved.ensures.items) (legal-more Follows c.args.entries.now.items entry c.requires.legal c.requires.free)

pub returns-in-Full-clause-shown : goal.returns-in-Full-clause-shown
returns-in-Full-clause-shown c =
    let message = c.of_bytes-message-in-Full in
    let entry = Opened c.args.leaf message.result c.value_at.result c.value_at-in-Full.result c.in-Full.moment in
    rw (c.push_reserved-in-Full-2.ensures.items, c.in-Full.is) (map_of-same c.push_reserved-in-Full.new.self.items entry c.args.leaf refl
    ∙ (λ i. IsOpened (message.ensures.bytes i) (c.value_at.ensures i) (c.value_at-in-Full.ensures i) c.in-Full.moment))

pub returns-in-Full-clause-others : goal.returns-in-Full-clause-others
returns-in-Full-clause-others c = λ other differs.
    let first = map_of-other c.args.entries.now.items (Bound c.args.leaf c.of_bytes-message-in-Full.result) other differs in
    rw (c.push_reserved-in-Full-2.ensures.items, c.push_reserved-in-Full.ensures.items) (map_of-other _ _ other differs ∙ first)

pub returns-in-Full-clause-legal : goal.returns-in-Full-clause-legal
returns-in-Full-clause-legal c =
    let message = c.of_bytes-message-in-Full in
    let items = c.args.entries.now.items in
    let bound = Bound c.args.leaf message.result in
    let entry = Opened c.args.leaf message.result c.value_at.result c.value_at-in-Full.result c.in-Full.moment in
    let first = c.push_reserved-in-Full.ensures.items in
    let one = subst IsLegalList (sym first) (legal-more Follows items bound c.requires.legal c.requires.free) in
    let adds = ap (λ (l : List Entry). map_of l c.args.leaf) first ∙ map_of-same items bound c.args.leaf refl in
    subst IsLegalList (sym c.push_reserved-in-Full-2.ensures.items) (legal-more Follows c.push_reserved-in-Full.new.self.items entry one adds)
