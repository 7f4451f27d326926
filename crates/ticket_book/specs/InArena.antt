-- The entries of a ticket book in their arena.
use Rattle.std.specs.Prelude.{◌≡◌, ℕ, ◌+◌, ◌<◌, List, map, Option, Some}
use Rattle.std.specs.Ordering.{nat_cmp}
use Rattle.rank_tree.specs.Search.{asked_down}
use Rattle.triple_arena_ord.specs.Ordered.{Ordered, asked_at, ordered_entries, tree_in}
use Rattle.ticket_book.specs.Tickets.{Entry}

-- each entry of a ticket less than this one stands at the index of the ticket's own number
abbrev pub StandByNumber : ℕ → (ℕ → Option (ℕ × Entry)) → Type 0
StandByNumber first at = (i : ℕ) (e : ℕ × Entry) → at i ≡ Some e → e.1.ticket < first
    → i ≡ e.1.ticket

-- the entries along the list
abbrev pub entries_of : Ordered Entry → List Entry
entries_of o = map (λ x. x.1.1) (ordered_entries o)

-- the same beside their indexes
abbrev pub standing_in : Ordered Entry → List (ℕ × Entry)
standing_in o = map (λ x. (x.0, x.1.1)) (ordered_entries o)

-- how many entries the search for a ticket compares with
abbrev pub asked_in : Ordered Entry → ℕ → ℕ
asked_in o ticket = asked_down (asked_at nat_cmp (λ (e : Entry). e.ticket) ticket o)
    (tree_in o)

-- the same beside each entry: for its ticket, and for one behind it
abbrev pub asked_beside : Ordered Entry → List (ℕ × ℕ)
asked_beside o = map (λ (e : Entry). (asked_in o e.ticket, asked_in o (e.ticket + 1)))
    (entries_of o)
