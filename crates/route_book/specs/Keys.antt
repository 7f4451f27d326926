-- The order of the places in their arena: by key, and under one key by ticket.
use Rattle.std.specs.Prelude.{ℕ, ◌==◌, Option, Some, if◌then◌else◌, nat_le, nat_lt}
use Rattle.std.specs.Ordering.{nat_cmp, ordering_then}
use Rattle.std.specs.declared.cmp.Ordering.{Ordering}
use Rattle.std.specs.declared.cmp.Ordering.TheVariants.{Less, Greater}
use Rattle.triple_arena_ord.specs.Found.{IsSimilar}
use Rattle.triple_arena_ord.specs.Ordered.{Ordered, IsAscending, asked_at}
use Rattle.route_lines.specs.State.{Place}
use Rattle.route_book.specs.declared.items.PlaceKey.{PlaceKey}

-- how two keys compare
abbrev pub key_cmp : PlaceKey → PlaceKey → Ordering
key_cmp x y = ordering_then (nat_cmp x.key y.key) (nat_cmp x.ticket y.ticket)

-- the key of a place in its arena
abbrev pub key_of : Place → PlaceKey
key_of p = record { key = p.key; ticket = p.ticket }

-- a search for this key among the places gave this
abbrev pub IsFoundFor : {P : Type 0} → (P → ℕ) → (P → ℕ) → PlaceKey → Ordered Place
    → Option (P × Ordering) → Type 0
IsFoundFor index generation wanted places found =
    IsSimilar index generation (asked_at key_cmp key_of wanted places)
    (IsAscending key_cmp key_of places) found places

-- the way past a place whose key is not above a number, and else before it. It leads behind all
-- places of that key
abbrev pub way_past : ℕ → Place → Ordering
way_past key p = if nat_le p.key key then Greater else Less

-- the way past a place whose key is below a number, and else before it. It leads before all places
-- of that key
abbrev pub way_to : ℕ → Place → Ordering
way_to key p = if nat_lt p.key key then Greater else Less

-- what is noted after a place is asked: its ticket, if it has the key
abbrev pub noted_by : ℕ → Option ℕ → Place → Option ℕ
noted_by key noted p = if p.key == key then Some p.ticket else noted

-- the same of a search that goes past them: the ticket of a place whose key is not above the number
abbrev pub noted_past : ℕ → Option ℕ → Place → Option ℕ
noted_past key noted p = if nat_le p.key key then Some p.ticket else noted
