-- The neighbors that free slots name, which are those on the list of the free indexes.
use Rattle.std.specs.Prelude.{ℕ, ◌==◌, List, [], ◌∷◌, Option, Some, None, if◌then◌else◌}
use Rattle.linked_lists.specs.LinkedLists.{Ends, first_or}

-- the neighbors of an index on a list, if it is there; the first of the list stands behind `before`
abbrev pub neighbors_behind : Option ℕ → List ℕ → ℕ → Option Ends
neighbors_behind before [] i = None
neighbors_behind before (x ∷ xs) i
    = if x == i then Some (before, first_or xs None) else neighbors_behind (Some x) xs i

abbrev pub neighbors : List ℕ → ℕ → Option Ends
neighbors l i = neighbors_behind None l i
