-- What the calls of a map of nodes say of the items.
use Rattle.std.proofs.Common.{◌≡◌, ℕ, List, [], ◌∷◌, ◌++◌, map, refl, ap, ◌∙◌}
use Rattle.std.specs.List.{FoldsTo}
use Rattle.triple_arena.specs.Compression.{Move, entry_before, entry_after, IsMapped}
use Rattle.triple_arena_ord.specs.Copies.{listed_items}

module _ {P N T : Type 0} (item : N → T) where
  -- a call of a map of nodes as a call of a map of their items
  abbrev itemed_move : Move P N → Move P T
  itemed_move move = record
      { from = move.from; value = item move.value; to = move.to; given = item move.given }

  module _ (index generation : P → ℕ) where
    befores : (moves : List (Move P N))
        → map (entry_before index generation) (map itemed_move moves)
        ≡ listed_items item (map (entry_before index generation) moves)
    befores [] = refl
    befores (x ∷ moves) =
        ap (λ l. listed_items item (entry_before index generation x ∷ []) ++ l) (befores moves)

    afters : (moves : List (Move P N)) → map (entry_after index generation) (map itemed_move moves)
        ≡ listed_items item (map (entry_after index generation) moves)
    afters [] = refl
    afters (x ∷ moves) = ap (λ l. listed_items item (entry_after index generation x ∷ []) ++ l)
        (afters moves)

module _ {P N T F G : Type 0} (item : N → T) {index generation : P → ℕ}
    {step : F → P → T → P → T → F → Type 0}
    {noded : G → P → N → P → N → G → Type 0} (state : G → F) where
  -- the items are those that a compression's map gave
  pub items_moved : {g : G} {old new : List (ℕ × (ℕ × N))}
      → ((h : G) (from : P) (l : N) (to : P) (m : N) (k : G) → noded h from l to m k
      → step (state h) from (item l) to (item m) (state k))
      → IsMapped index generation noded g old new
      → IsMapped index generation step (state g) (listed_items item old) (listed_items item new)
  items_moved {g} one m =
      record {
        moves = map (itemed_move item) m.moves;
        last = state m.last;
        calls = by_moves m.moves g m.calls;
        before = befores item index generation m.moves ∙ ap (listed_items item) m.before;
        after = afters item index generation m.moves ∙ ap (listed_items item) m.after;
      }
    where
      by_moves : (moves : List (Move P N)) (h : G)
          → FoldsTo (λ h move k. noded h move.from move.value move.to move.given k) h moves m.last
          → FoldsTo (λ f move k. step f move.from move.value move.to move.given k) (state h)
          (map (itemed_move item) moves) (state m.last)
      by_moves [] h calls = ap state calls
      by_moves (x ∷ moves) h calls = (
        state calls.0,
        one h x.from x.value x.to x.given calls.0 calls.1,
        by_moves moves calls.0 calls.2,
      )
