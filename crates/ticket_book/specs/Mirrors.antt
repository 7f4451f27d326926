-- A mirror leads from an old pointer to the new one. What it makes of the pointers of entries.
use Rattle.std.specs.Prelude.{◌≡◌, ℕ, Option, unwrap_or}
use Rattle.std.specs.Option.{option_map}
use Rattle.triple_arena.specs.Entries.{value_if}
use Rattle.ticket_book.specs.declared.entry.Kind.{Kind}
use Rattle.ticket_book.specs.declared.entry.Kind.TheVariants.{Place, Stop, Mark}
use Rattle.ticket_book.specs.Tickets.{Entry}

-- the generation and, under it, another pointer
abbrev pub Mirror : Type 0
Mirror = ℕ → Option (ℕ × (ℕ × ℕ))

-- the pointers of a mirror as numbers
abbrev pub numbers : {P : Type 0} → (P → ℕ) → (P → ℕ) → (ℕ → Option (ℕ × P)) → Mirror
numbers index generation at i = option_map (λ e. (e.0, (index e.1, generation e.1))) (at i)

-- the pointer that a mirror has under this one, or the same one
abbrev pub renewed_pointer : Mirror → ℕ → ℕ → ℕ × ℕ
renewed_pointer m i g = unwrap_or (value_if g (m i)) (i, g)

-- the pointer of an item of a kind, by the mirror of that kind
abbrev pub renewed_under : Mirror → Mirror → Mirror → Kind → ℕ → ℕ → ℕ × ℕ
renewed_under places stops marks Place i g = renewed_pointer places i g
renewed_under places stops marks Stop i g = renewed_pointer stops i g
renewed_under places stops marks Mark i g = renewed_pointer marks i g

abbrev pub renewed_entry : Mirror → Mirror → Mirror → Entry → Entry
renewed_entry places stops marks e =
    record e {
      index = (renewed_under places stops marks e.kind e.index e.generation).0;
      generation = (renewed_under places stops marks e.kind e.index e.generation).1;
    }

-- an entry renewed by mirrors whose pointers have these indexes and generations
abbrev pub renewed_by : {P : Type 0} → (P → ℕ) → (P → ℕ) → (ℕ → Option (ℕ × P))
    → (ℕ → Option (ℕ × P)) → (ℕ → Option (ℕ × P)) → Entry → Entry
renewed_by index generation places stops marks =
    renewed_entry (numbers index generation places) (numbers index generation stops)
    (numbers index generation marks)

-- this is made of each value, whose index and generation stay
abbrev pub AreCast : {V : Type 0} → (V → V) → (ℕ → Option (ℕ × V)) → (ℕ → Option (ℕ × V))
    → Type 0
AreCast cast old new = (j : ℕ) → new j ≡ option_map (λ e. (e.0, cast e.1)) (old j)
