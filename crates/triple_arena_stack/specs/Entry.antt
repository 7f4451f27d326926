-- What a contract sees of a push entry.
use Rattle.std.specs.Borrow.{GName}
use Rattle.triple_arena_stack.specs.declared.entry.NonZeroInxGenericStackPushEntry.{NonZeroInxGenericStackPushEntry}

module _ {T S : Type 0} where
  -- the stack as the entry holds it
  abbrev pub entry_stack : NonZeroInxGenericStackPushEntry T S → S
  entry_stack e = e.stack.now

  -- the ghost name of the reference to the stack
  abbrev pub entry_lender : NonZeroInxGenericStackPushEntry T S → GName
  entry_lender e = e.stack.ghost_name
