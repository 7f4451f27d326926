-- What a contract sees of an insertion's entry.
use Rattle.std.specs.Borrow.{GName}
use Rattle.triple_arena.specs.Content.{Content}
use Rattle.triple_arena.specs.declared.arena.entry.ArenaInsertEntry.{ArenaInsertEntry}

module _ {P T S Inx Gen Word Alloc : Type 0} where
  -- the arena as the entry holds it
  abbrev pub entry_arena : ArenaInsertEntry P T S Inx Gen Word Alloc → Content T
  entry_arena e = e.arena.now

  -- the ghost name of the reference to the arena
  abbrev pub entry_lender : ArenaInsertEntry P T S Inx Gen Word Alloc → GName
  entry_lender e = e.arena.ghost_name
