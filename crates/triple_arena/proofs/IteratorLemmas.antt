-- What a step of an iterator leaves.
use Rattle.std.proofs.Common.{◌≡◌, ℕ, ◌+◌, List, ◌∷◌, length, drop, map, slice_get, Option, Some}
use Rattle.std.proofs.Common.{None, option_map, Bor, refl, sym, ap, ◌∙◌}
use Rattle.std.proofs.lemmas.List.{drop_more}
use Rattle.std.proofs.lemmas.Option.{slice_get-map, slice_get_within, slice_get_read}
use Rattle.std.proofs.lemmas.Option.{get_or_from_slice_get}
use Rattle.std.specs.Slice.{IsItemAt}
use Rattle.triple_arena.specs.Iterators.{listed_behind}
use Rattle.triple_arena.specs.LiveEntries.{listed_from}

module _ {T : Type 0} where
  -- what the next slot holds comes first
  next_first : (xs : List (Option (ℕ × T))) (passed : ℕ) (o : Option (ℕ × T))
      → slice_get xs passed ≡ Some o
      → listed_behind passed xs ≡ listed_from (passed + 1) (o ∷ drop (passed + 1) xs)
  next_first xs passed o here =
      ap (listed_from (passed + 1)) (drop_more xs passed None (slice_get_within xs passed o here))
      ∙ ap (λ x. listed_from (passed + 1) (x ∷ drop (passed + 1) xs))
      (get_or_from_slice_get xs passed o None here)

module _ {E T : Type 0} (shown : E → Option (ℕ × T)) (slots : List E) (passed : ℕ) (slot : Bor E)
  where
    -- what the next slot holds
    shown_next : (o : Option (ℕ × T)) → IsItemAt slots passed (Some slot) → o ≡ shown slot.now
        → slice_get (map shown slots) passed ≡ Some o
    shown_next o here holds =
        let read = slice_get_read slots (length slots) passed slot.now refl here.3.0 here.1 in
        slice_get-map shown slots passed ∙ ap (option_map shown) read ∙ ap Some (sym holds)

    -- the entry of the next slot comes first
    pub behind_live : (e : ℕ × T) → IsItemAt slots passed (Some slot) → Some e ≡ shown slot.now
        → listed_behind passed (map shown slots)
        ≡ (passed + 1, e) ∷ listed_behind (passed + 1) (map shown slots)
    behind_live e here holds =
        next_first (map shown slots) passed (Some e) (shown_next (Some e) here holds)

    -- a slot without an entry changes nothing of what is left
    pub behind_free : IsItemAt slots passed (Some slot) → None ≡ shown slot.now
        → listed_behind passed (map shown slots) ≡ listed_behind (passed + 1) (map shown slots)
    behind_free here holds = next_first (map shown slots) passed None (shown_next None here holds)
