-- What the calls of a transfer's map of nodes say of the items.
use Rattle.std.proofs.Common.{◌≡◌, ℕ, List, [], ◌∷◌, map, Option, Some, None, refl, sym, ap, ◌∙◌}
use Rattle.std.specs.List.{FoldsTo}
use Rattle.std.proofs.lemmas.List.{length-map}
use Rattle.triple_arena_ptr.specs.declared.invalidation.InvalidationOption.{InvalidationOption}
use Rattle.triple_arena_ptr.specs.InvalidationOption.{value_of, overflowed}
use Rattle.triple_arena.specs.Compression.{listed_under}
use Rattle.triple_arena.specs.Iterators.{with_part}
use Rattle.triple_arena.specs.Transfer.{Transfer, steps_wrap, wrapped, entry_before, entry_after}
use Rattle.triple_arena.specs.Transfer.{IsTransferred}
use Rattle.triple_arena_chain.specs.IterChains.{link_and, links_along}
use Rattle.triple_arena_ord.specs.Ascending.{entries_along}
use Rattle.triple_arena_ord.specs.NodeShape.{IndexNode}
use Rattle.triple_arena_ord.specs.Indexed.{listed_item}
use Rattle.triple_arena_ord.specs.Node.{itemed, items_among}

-- nodes along a list, with their items alone
pub along_items : {U : Type 0} (entry : ℕ → Option (ℕ × IndexNode U)) (w : List ℕ)
    → map listed_item (links_along entry w) ≡ entries_along (items_among entry) w
along_items entry [] = refl
along_items {U} entry (i ∷ w) = by (entry i) refl (along_items entry w)
  where
    by : (o : Option (ℕ × IndexNode U)) → entry i ≡ o
        → map listed_item (links_along entry w) ≡ entries_along (items_among entry) w
        → map listed_item (link_and i (entry i) (links_along entry w))
        ≡ entries_along (items_among entry) (i ∷ w)
    by None is rest = rw is rest
    by (Some e) is rest = rw is (ap (λ l. (i, itemed e) ∷ l) rest)

module _ {Q V U P W T F : Type 0} (old_index old_generation : Q → ℕ) (index generation : P → ℕ)
    (step : F → Q → InvalidationOption U → P → T → F → Type 0) (item : V → U) (given : W → T) where
  -- calls of a map of items that saw the items of these nodes, and gave theirs
  record ItemMoves (f : F) (moves : List (Transfer Q V P W)) (last : F) : Type 0 where
    pub items : List (Transfer Q U P T)
    pub calls : FoldsTo (λ g move h. step g move.from move.item move.to move.given h) f items last
    pub before : map (entry_before old_index old_generation index generation) items
        ≡ map (with_part item) (map (entry_before old_index old_generation index generation) moves)
    pub told : map wrapped items ≡ map wrapped moves
    pub after : map (entry_after old_index old_generation index generation) items
        ≡ map (with_part given) (map (entry_after old_index old_generation index generation) moves)

module _ {Q V U P W T F G : Type 0} {old_index old_generation : Q → ℕ} {index generation : P → ℕ}
    {step : F → Q → InvalidationOption U → P → T → F → Type 0}
    {noded : G → Q → InvalidationOption V → P → W → G → Type 0} (item : V → U) (given : W → T)
    (state : G → F)
    (one : (h : G) (from : Q) (n : InvalidationOption V) (to : P) (m : W) (k : G)
    → noded h from n to m k
    → (u : InvalidationOption U)
    × ((value_of u ≡ item (value_of n)) × ((overflowed u ≡ overflowed n)
    × ((t : T) × ((given m ≡ t) × step (state h) from u to t (state k)))))) where
  item_moves : (moves : List (Transfer Q V P W)) (h last : G)
      → FoldsTo (λ g move k. noded g move.from move.item move.to move.given k) h moves last
      → ItemMoves old_index old_generation index generation step item given (state h) moves
      (state last)
  item_moves [] h last calls =
      record { items = []; calls = ap state calls; before = refl; told = refl; after = refl }
  item_moves (x ∷ moves) h last calls =
      let rest = item_moves moves calls.0 last calls.2 in
      let here = one h x.from x.item x.to x.given calls.0 calls.1 in
      record {
        items = record {
          from = x.from;
          item = here.0;
          to = x.to;
          given = here.1.1.1.0;
        } ∷ rest.items;
        calls = (state calls.0, here.1.1.1.1.1, rest.calls);
        before =
            ap (λ t. listed_under old_index old_generation x.from t ∷ map
            (entry_before old_index old_generation index generation) rest.items) here.1.0
            ∙ ap (λ l. listed_under old_index old_generation x.from (item (value_of x.item)) ∷ l)
            rest.before;
        told = ap (λ b. b ∷ map wrapped rest.items) here.1.1.0 ∙ ap (λ l. wrapped x ∷ l) rest.told;
        after =
            ap (λ t. listed_under index generation x.to t ∷ map
            (entry_after old_index old_generation index generation) rest.items)
            (sym here.1.1.1.1.0)
            ∙ ap (λ l. listed_under index generation x.to (given x.given) ∷ l) rest.after;
      }

  -- the transfer is that of the items
  pub items_transferred : {g : G} {last counter : Option ℕ} {old : List (ℕ × (ℕ × V))}
      {new : List (ℕ × (ℕ × W))}
      → IsTransferred old_index old_generation index generation noded g last counter old new
      → IsTransferred old_index old_generation index generation step (state g) last counter
      (map (with_part item) old) (map (with_part given) new)
  items_transferred {g} {last} {counter} {old} m =
      let items = item_moves m.moves g m.last m.calls in
      record {
        moves = items.items;
        last = state m.last;
        calls = items.calls;
        before = items.before ∙ ap (map (with_part item)) m.before;
        told = items.told ∙ m.told
            ∙ ap (λ n. steps_wrap last n counter) (sym (length-map old (with_part item)));
        after = items.after ∙ ap (map (with_part given)) m.after;
      }
