-- What a part of a run says of the whole.
use Rattle.std.proofs.Common.{ℕ, List, refl, ◌∙◌, arith}
use Rattle.stream_io.specs.Store.{SameStore, StoreOnward, StoreState, Written}
use Rattle.stream_io.specs.declared.store.Readers.{Readers}
use Rattle.tool_base.specs.Ending.{Ending}
use Rattle.tool_base.specs.Reads.{FailsUpTo, failed, too_long, no_memory}
use Rattle.tool_base.specs.World.{IsBack, IsUnchanged, IsPart, from_to, Reading, Failed, TooLong, Bytes, IsReadUpTo}

-- ---- states, one after another
pub onward_none : (a : StoreState) → StoreOnward a a
onward_none a = record { told = refl; steady = refl; disks = λ name. refl; readers = λ told name who is. is; count = omega arith; disk_count = omega arith }

pub onward_on : (a b c : StoreState) → StoreOnward a b → StoreOnward b c → StoreOnward a c
onward_on a b c one two = record {
  told = two.told ∙ one.told;
  steady = two.steady ∙ one.steady;
  disks = λ name. two.disks name ∙ one.disks name;
  readers = λ told name who is. two.readers (rw one.told told) name who (one.readers told name who is);
  count = let x = one.count in let y = two.count in omega arith;
  disk_count = let x = one.disk_count in let y = two.disk_count in omega arith;
}

pub unchanged_none : (a : StoreState) → IsUnchanged a a
unchanged_none a = record {
  same = record {
    names = record { file = refl; leaves = λ name image. (λ x. x, λ x. x); out = refl };
    loans = record { disk_count = refl; views = refl };
  };
  onward = onward_none a;
}

pub unchanged_on : (a b c : StoreState) → IsUnchanged a b → IsUnchanged b c → IsUnchanged a c
unchanged_on a b c one two = record {
  same = record {
    names = record {
      file = two.same.names.file ∙ one.same.names.file;
      leaves = λ name image. let x = one.same.names.leaves name image in let y = two.same.names.leaves name image in (λ z. x.0 (y.0 z), λ z. y.1 (x.1 z));
      out = two.same.names.out ∙ one.same.names.out;
    };
    loans = record {
      disk_count = two.same.loans.disk_count ∙ one.same.loans.disk_count;
      views = two.same.loans.views ∙ one.same.loans.views;
    };
  };
  onward = onward_on a b c one.onward two.onward;
}

pub back_unchanged : (a b : StoreState) → IsUnchanged a b → IsBack a b
back_unchanged a b unchanged = record {
  onward = unchanged.onward;
  out = λ told name. rw unchanged.same.names.out refl;
  views = λ told. unchanged.same.loans.views;
}

pub back_written : (first now after : StoreState) (name bytes : List ℕ) (who : Readers) → IsBack first now → Written now name bytes who after → StoreOnward now after → IsBack first after
back_written first now after name bytes who back step onward = record {
  onward = onward_on first now after back.onward onward;
  out = λ told other. step.out other ∙ back.out told other;
  views = λ told. step.loans.views ∙ back.views told;
}

pub back_same : (first now after : StoreState) → IsBack first now → SameStore now after → StoreOnward now after → IsBack first after
back_same first now after back same onward = record {
  onward = onward_on first now after back.onward onward;
  out = λ told other. rw same.names.out (back.out told other);
  views = λ told. same.loans.views ∙ back.views told;
}

-- ---- a part of a run, and the whole
pub part_of : (first before after last : StoreState) → IsUnchanged first before → StoreOnward after last → IsPart first before after last
part_of first before after last earlier later = record { earlier = earlier; later = later }

pub read_part : (first before after last : StoreState) → IsPart first before after last → (limit : ℕ) (name : List ℕ) (reading : Reading)
    → IsReadUpTo limit (from_to before after) name reading → IsReadUpTo limit (from_to first last) name reading
read_part first before after last p limit name Failed r = (
  let rose = r.0 in let begins = p.earlier.onward.count in let ends = p.later.count in omega arith,
  λ told steady. rw (← p.earlier.same.names.file) (r.1 (rw p.earlier.onward.told told) (rw p.earlier.onward.steady steady)),
)
read_part first before after last p limit name (TooLong got) r = (r.0, λ told. rw (← p.earlier.same.names.file) (r.1 (rw p.earlier.onward.told told)))
read_part first before after last p limit name (Bytes bytes) r = (r.0, λ told. rw (← p.earlier.same.names.file) (r.1 (rw p.earlier.onward.told told)))

pub fails_part : (first before after last : StoreState) → IsPart first before after last → (limit : ℕ) (name : List ℕ) (end : Ending)
    → FailsUpTo limit (from_to before after) name end → FailsUpTo limit (from_to first last) name end
fails_part first before after last p limit name _ (failed r) = failed (read_part first before after last p limit name Failed r)
fails_part first before after last p limit name _ (too_long got r) = too_long got (read_part first before after last p limit name (TooLong got) r)
fails_part first before after last p limit name _ no_memory = no_memory
