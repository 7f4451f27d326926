-- What an insertion is about to do.
use Rattle.triple_arena_ord.specs.declared.kind.OrdEntryKind.{OrdEntryKind}
use Rattle.triple_arena_ord.specs.declared.kind.OrdEntryKind.TheVariants.{New, Replacing}

-- the pointer to the item
abbrev pub ptr_of : {P : Type 0} → OrdEntryKind P → P
ptr_of (New p) = p
ptr_of (Replacing p) = p
