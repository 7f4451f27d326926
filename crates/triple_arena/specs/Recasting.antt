-- The values of an arena under a renaming of the items that they hold.
use Rattle.std.specs.Prelude.{ℕ, List, [], ◌∷◌, Option, Some, None, flat_map}
use Rattle.triple_arena_ptr.specs.Recast.{recast_answer, where_ok}
use Rattle.triple_arena.specs.Content.{Content}
use Rattle.triple_arena.specs.Compression.{live_values}
use Rattle.triple_arena.specs.DirectContent.{DirectContent, as_content, of_content}

module _ {I T : Type 0} (items : T → List I) where
  -- the items of the values, in the order of the indexes
  abbrev pub content_items : Content T → List I
  content_items c = flat_map items (live_values c)

  module _ (f : I → Option I) (recasted : T → T) where
    -- the slots with each value recast, up to the first that holds an item without an image
    abbrev pub slots_recasted : List (Option (ℕ × T)) → List (Option (ℕ × T))
    slots_recasted [] = []
    slots_recasted (None ∷ slots) = None ∷ slots_recasted slots
    slots_recasted (Some entry ∷ slots) =
        Some (entry.0, recasted entry.1) ∷ where_ok (recast_answer f (items entry.1))
        (slots_recasted slots) slots

    -- the content with its values recast
    abbrev pub content_recasted : Content T → Content T
    content_recasted c = record c { slots = slots_recasted c.slots }

    -- the same of an arena without a counter and without a list of free indexes
    abbrev pub directly_recasted : DirectContent T → DirectContent T
    directly_recasted d = of_content (content_recasted (as_content d))
