-- What a contract sees of a ticket book.
use Rattle.std.specs.Prelude.{◌≡◌, ℕ, ◌==◌, ◌<◌, min, List, [], ◌∷◌, Option, Some, None, filter}
use Rattle.std.specs.Prelude.{find, not, nat_lt, if◌then◌else◌}
use Rattle.std.specs.List.{AllByRecursion}
use Rattle.std.specs.Option.{option_map}
use Rattle.ticket_book.specs.declared.entry.Kind.{Kind}

-- a living ticket: the kind of its item, and the index and the generation of the pointer to it
pub record Entry : Type 0 where
  pub ticket : ℕ
  pub kind : Kind
  pub index : ℕ
  pub generation : ℕ

-- the entries in the order of their tickets, the same beside the indexes at which they stand, how
-- many fit, the index at which the next one goes in, the first ticket that may stand at another
-- index than its own number, and how many comparisons searches make: for a ticket below all, and
-- beside each entry for its ticket and for one between it and the next
pub record Tickets : Type 0 where
  pub entries : List Entry
  pub standing : List (ℕ × Entry)
  pub capacity : ℕ
  pub next_index : ℕ
  pub first_elsewhere : ℕ
  pub asked_below : ℕ
  pub asked_along : List (ℕ × ℕ)

-- how many comparisons the search for a ticket makes, among entries that have these numbers beside
-- them
abbrev pub asked_among : ℕ → List Entry → List (ℕ × ℕ) → ℕ → ℕ
asked_among below [] counts ticket = below
asked_among below (e ∷ entries) [] ticket = below
asked_among below (e ∷ entries) (count ∷ counts) ticket =
    if nat_lt ticket e.ticket then below
    else if ticket == e.ticket then count.0
    else asked_among count.1 entries counts ticket

-- the entry that stands at an index
abbrev pub entry_at : Tickets → ℕ → Option Entry
entry_at b i = option_map (λ (x : ℕ × Entry). x.1) (find (λ (x : ℕ × Entry). x.0 == i) b.standing)

-- how many comparisons a look at an index takes: one with the entry that stands there
abbrev pub look_count : Option Entry → ℕ
look_count None = 0
look_count (Some e) = 1

-- how many comparisons find the entry of a ticket: below the first that may stand elsewhere, those
-- of a look at the index of its own number, and else those of a search
abbrev pub asked : Tickets → ℕ → ℕ
asked b ticket =
    if nat_lt ticket b.first_elsewhere then look_count (entry_at b ticket)
    else asked_among b.asked_below b.entries b.asked_along ticket

-- the first ticket that may stand elsewhere, once one more has gone in at this index
abbrev pub elsewhere_after : ℕ → ℕ → ℕ → ℕ
elsewhere_after first index ticket = if index == ticket then first else min first ticket

-- the entry of a ticket
abbrev pub lookup : List Entry → ℕ → Option Entry
lookup entries ticket = find (λ (e : Entry). e.ticket == ticket) entries

-- the entry that a ticket gets, with the kind of its item and the pointer to it
abbrev pub new_entry : ℕ → Kind → ℕ → ℕ → Entry
new_entry ticket kind index generation =
    record { ticket = ticket; kind = kind; index = index; generation = generation }

-- the entry of a ticket stands at this index
abbrev pub IsLocated : Tickets → ℕ → ℕ → Type 0
IsLocated b ticket i = (e : Entry) × (entry_at b i ≡ Some e) × (lookup b.entries ticket ≡ Some e)

-- the entries but that of a ticket
abbrev pub without_ticket : ℕ → List Entry → List Entry
without_ticket ticket entries = filter (λ (e : Entry). not (e.ticket == ticket)) entries

-- the tickets of the entries are below this one
abbrev pub AreBelow : List Entry → ℕ → Type 0
AreBelow entries ticket = AllByRecursion (λ (e : Entry). e.ticket < ticket) entries

-- each ticket is below those behind it
abbrev pub TicketsRise : List Entry → Type 0
TicketsRise [] = Unit {0}
TicketsRise (e ∷ entries) = AllByRecursion (λ (f : Entry). e.ticket < f.ticket) entries
    × TicketsRise entries
