-- What a contract sees of a place for an entry of a `DirectArena`.
use Rattle.std.specs.Prelude.{ℕ}
use Rattle.std.specs.Borrow.{GName}
use Rattle.std.specs.Int.NonZero.{non_zero_usize_get}
use Rattle.triple_arena.specs.DirectContent.{DirectContent}
use Rattle.triple_arena.specs.declared.direct.entry.ArenaDirectInsertEntry.{ArenaDirectInsertEntry}

module _ {P T S Inx Gen Word Alloc : Type 0} where
  -- the arena as the entry holds it
  abbrev pub entry_arena : ArenaDirectInsertEntry P T S Inx Gen Word Alloc → DirectContent T
  entry_arena e = e.arena.now

  -- the ghost name of the reference to the arena
  abbrev pub entry_lender : ArenaDirectInsertEntry P T S Inx Gen Word Alloc → GName
  entry_lender e = e.arena.ghost_name

  -- the index that the entry gets
  abbrev pub entry_index : ArenaDirectInsertEntry P T S Inx Gen Word Alloc → ℕ
  entry_index e = non_zero_usize_get e.index

  -- the generation that it gets, where these are the numbers of generations
  abbrev pub entry_generation : (Gen → ℕ) → ArenaDirectInsertEntry P T S Inx Gen Word Alloc → ℕ
  entry_generation number e = number e.generation
