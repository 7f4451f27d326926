-- What becomes of an entry whose item went to an arena over other pointers, and has the index there
-- that it had.
use Rattle.std.specs.Prelude.{ℕ, min}
use Rattle.ticket_book.specs.Tickets.{Entry}

-- the same index, or the greatest one if it is past that, and this generation
abbrev pub entry_over : ℕ → ℕ → Entry → Entry
entry_over greatest generation e =
    record e { index = min greatest e.index; generation = generation }
