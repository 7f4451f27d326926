-- Entries that were taken over along a list.
use Rattle.std.proofs.Common.{◌≡◌, ◌∙◌, ap, refl, ℕ, ◌<◌, List, [], ◌∷◌, map, arith}
use Rattle.std.specs.List.{AllByRecursion}
use Rattle.triple_arena.specs.Compression.{value_of}
use Rattle.triple_arena_ord.specs.Indexed.{indexed}
use Rattle.triple_arena_ord.specs.Ordered.{Ordered, ordered_entries}
use Rattle.ticket_book.specs.InArena.{entries_of}
use Rattle.ticket_book.specs.Tickets.{Entry, TicketsRise}

module _ (f : Entry → Entry) where
  mapped : (l : List (ℕ × (ℕ × Entry))) → map (λ e. f e.1.1) l ≡ map f (map (λ x. x.1.1) l)
  mapped [] = refl
  mapped (x ∷ l) = ap (λ es. f x.1.1 ∷ es) (mapped l)

  pub taken_over : (old : Ordered Entry) (new : Ordered Entry)
      → ordered_entries new ≡ indexed new
      → map value_of (indexed new) ≡ map (λ e. f e.1.1) (ordered_entries old)
      → entries_of new ≡ map f (entries_of old)
  taken_over old new listed values =
      ap (map (λ x. x.1.1)) listed ∙ values ∙ mapped (ordered_entries old)

  pub rise_over : ((e : Entry) → (f e).ticket ≡ e.ticket) → (l : List Entry)
      → TicketsRise l → TicketsRise (map f l)
  rise_over same [] rise = tt
  rise_over same (e ∷ l) rise = (above l rise.0, rise_over same l rise.1)
    where
      above : (xs : List Entry) → AllByRecursion (λ (h : Entry). e.ticket < h.ticket) xs
          → AllByRecursion (λ (h : Entry). (f e).ticket < h.ticket) (map f xs)
      above [] all = tt
      above (x ∷ xs) all =
          let a = same e in
          let b = same x in
          let less = all.0 in
          (omega (arith, a, b, less), above xs all.1)
