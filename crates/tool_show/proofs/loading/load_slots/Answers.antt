use Rattle.std.proofs.Common.{◌∙◌, ℕ, List, IsTrue, ap, subst, refl}
use Rattle.disk_trait.specs.MemDisk.{MemState, is_steady}
use Rattle.slot_file.specs.Loading.{LoadRefused}
use Rattle.slot_file.specs.State.{HasSlots}
use Rattle.slot_file.specs.declared.header.Header.{Header}
use Rattle.slot_file.specs.Layout.{header_in}
use Rattle.tool_show.specs.SlotKinds.{slot_count}
use Rattle.tool_show.proofs.Loaded.{loaded, loads, refused}
use Rattle.tool_show.proofs.loading.load_slots.Goals as goal

pub returns-in-Ok-load-clause-slots : goal.returns-in-Ok-load-clause-slots
returns-in-Ok-load-clause-slots c =
    let head = c.args.head.now in
    let bytes = c.args.bytes.now in
    let slots = c.in-Ok-load.cache.cached in
    let same = ap (λ (d : MemState). d.bytes) c.in-Ok.ensures in
    let call = c.in-Ok-load.ensures.loaded in
    let own = subst (λ (h : Header). HasSlots h slots c.in-Ok.disk.bytes) c.requires.header (call.file refl) in
    loaded head.kind bytes slots (call.size ∙ c.requires.count) (subst (HasSlots (header_in bytes) slots) same own)

pub returns-in-Ok-load-clause-loads : goal.returns-in-Ok-load-clause-loads
returns-in-Ok-load-clause-loads c =
    let head = c.args.head.now in
    let bytes = c.args.bytes.now in
    let slots = c.in-Ok-load.cache.cached in
    let same = ap (λ (d : MemState). d.bytes) c.in-Ok.ensures in
    let call = c.in-Ok-load.ensures.loaded in
    let own = subst (λ (h : Header). HasSlots h slots c.in-Ok.disk.bytes) c.requires.header (call.file refl) in
    loads head.kind bytes slots (call.size ∙ c.requires.count) (subst (HasSlots (header_in bytes) slots) same own)

pub returns-clause-refused : goal.returns-clause-refused
returns-clause-refused c =
    let head = c.args.head.now in
    let bytes = c.args.bytes.now in
    let fault = c.in-Err.fault in
    let header = header_in bytes in
    let same = ap (λ (d : MemState). d.bytes) c.in-Ok.ensures in
    let steady : IsTrue (is_steady c.in-Ok.disk) = ap is_steady c.in-Ok.ensures in
    let call = c.in-Err.ensures in
    let named = subst (λ (h : Header). LoadRefused h head.count c.in-Ok.disk.bytes fault) c.requires.header (call.refused refl) in
    let sized = subst (λ (n : ℕ). LoadRefused header n c.in-Ok.disk.bytes fault) c.requires.count named in
    let own = subst (λ (b : List ℕ). LoadRefused header (slot_count head.kind bytes) b fault) same sized in
    refused head.kind bytes fault own (call.succeeds steady refl)
