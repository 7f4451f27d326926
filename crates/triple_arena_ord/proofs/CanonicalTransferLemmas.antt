-- A canonical transfer as a whole: the nodes moved along the list, and the tree written anew.
use Rattle.std.proofs.Common.{◌≡◌, ℕ, ◌+◌, List, map, length, Option, Some, IsSome, option_map, sym}
use Rattle.std.proofs.Common.{ap, subst, ◌∙◌}
use Rattle.std.specs.List.{range_with_len}
use Rattle.std.specs.Prelude.{slice_get}
use Rattle.std.proofs.lemmas.List.FromFn.{length-range_with_len}
use Rattle.triple_arena_ptr.specs.declared.invalidation.InvalidationOption.{InvalidationOption}
use Rattle.triple_arena_stack.specs.Room.{Room}
use Rattle.triple_arena.specs.Compression.{entry_of_listed, generation_of}
use Rattle.triple_arena.specs.Content.{Content, live_count, some_counter}
use Rattle.triple_arena.specs.Transfer.{IsTransferred, IsFilled}
use Rattle.triple_arena_chain.specs.CanonicalTransfer.{IsMovedAlong}
use Rattle.triple_arena_chain.specs.CanonicalTransferLaws.{linear_order, linear_run, linear_moved}
use Rattle.triple_arena_chain.specs.LinkShape.{IndexLink}
use Rattle.linked_lists.specs.LinkedLists.{On, IsLinear}
use Rattle.triple_arena_chain.specs.IterChains.{links_along}
use Rattle.triple_arena_chain.specs.Links.{ends_in, values_in}
use Rattle.triple_arena_chain.specs.Listed.{listed_values}
use Rattle.triple_arena_chain.specs.Values.{room_in as chain_room}
use Rattle.rank_tree.specs.Halving.{IsHalvingOf}
use Rattle.triple_arena_ord.specs.NodeShape.{IndexNode}
use Rattle.triple_arena_ord.specs.Indexed.{listed_item, indexed}
use Rattle.triple_arena_ord.specs.Node.{nodes_in, itemed, rest}
use Rattle.triple_arena_ord.specs.Ordered.{Ordered, IsOrdered, entry_in, size_in, counter_in}
use Rattle.triple_arena_ord.specs.Ordered.{room_in, tree_in, order_in, ordered_entries}
use Rattle.triple_arena_ord.specs.Rebuilt.{IsRebuilt}
use Rattle.triple_arena_ord.proofs.CompressedLemmas.{both, place_same, generations_of}
use Rattle.triple_arena_ord.proofs.IndexedLemmas.{same_items}
use Rattle.triple_arena_ord.proofs.LinkMoveLemmas.{along_items}
use Rattle.triple_arena_ord.proofs.RenamedListLemmas.{on_renamed}
use Rattle.triple_arena_ord.proofs.WrittenListLemmas.{on_order, written}
use Rattle.std.proofs.lemmas.Option.{slice_get-map}

module _ {U T : Type 0} (o : Ordered U)
    (is : IsOrdered o)
    (mid : Content (IndexLink (IndexNode T))) (nodes : List (ℕ × (ℕ × IndexNode U)))
    (m : IsMovedAlong nodes o.chains mid)
    (live : live_count mid ≡ size_in o) where
  -- the new list is the run of all indexes
  order_linear : IsLinear (ends_in mid) (range_with_len 1 (size_in o))
  order_linear = linear_moved nodes o.chains mid (order_in o) is.linear
      (on_order o is) m

  -- so it is the run of the live indexes
  pub run_linear : IsLinear (ends_in mid) (range_with_len 1 (live_count mid))
  run_linear = subst (λ n. IsLinear (ends_in mid) (range_with_len 1 n)) (sym live)
      order_linear

  run_long : length (range_with_len 1 (size_in o)) ≡ live_count mid
  run_long = length-range_with_len 1 (size_in o) ∙ sym live

  run_whole : (k : ℕ) → IsSome (ends_in mid k) → On (range_with_len 1 (size_in o)) k
  run_whole k some =
      subst (λ w. On w k) (linear_run nodes o.chains mid (order_in o)
      is.linear (on_order o is) m)
      (on_renamed (ends_in o.chains) (ends_in mid) m.to (order_in o)
      m.renamed (on_order o is) k some)

  -- the nodes were taken along the list
  pub nodes_are : map listed_item nodes ≡ ordered_entries o
  nodes_are =
      let along = linear_order nodes o.chains mid (order_in o)
      is.linear (on_order o is) m in
      ap (map listed_item) (m.along ∙ ap (links_along (values_in o.chains)) along)
      ∙ along_items (values_in o.chains) (order_in o)

  module _ (g : ℕ) (room : Room) (before : Content (IndexLink (IndexNode T)))
      (old : Ordered T)
      (f : IsFilled values_in live_count some_counter chain_room listed_values (size_in o) g room
      before mid) where
    pub record Transferred (new : Ordered T) : Type 0 where
      pub ordered : IsOrdered new
      pub order : order_in new ≡ range_with_len 1 (size_in o)
      pub tree : IsHalvingOf (range_with_len 1 (size_in o)) (tree_in new)
      pub listed : indexed new ≡ map listed_item (listed_values mid)
      pub filled : IsFilled entry_in size_in counter_in room_in indexed (size_in o) g room old new
      pub slots : length new.chains.slots ≡ size_in o
      pub free : new.chains.free ≡ mid.free

    -- what the rebuild leaves
    pub transferred_by : (new : Ordered T) → rest new.chains ≡ rest mid
        → IsRebuilt (range_with_len 1 (live_count mid)) new.root (nodes_in new.chains)
        → Transferred new
    transferred_by new keeps b =
        let counted = subst (λ n. IsRebuilt (range_with_len 1 n) new.root
        (nodes_in new.chains)) live b in
        let w = written mid (range_with_len 1 (size_in o)) order_linear run_whole run_long
        new keeps counted in
        let r = w.stays in
        let listed : indexed new ≡ map listed_item (listed_values mid) =
        same_items (record { chains = mid; root = new.root }) new r.items in
        let read : (k : ℕ) → slice_get (indexed new) k
        ≡ option_map listed_item (slice_get (listed_values mid) k) =
        λ k. ap (λ l. slice_get l k) listed ∙ slice_get-map listed_item (listed_values mid) k in
        record {
          ordered = w.ordered;
          order = w.order;
          tree = subst (λ l. IsHalvingOf l (tree_in new)) w.order w.tree;
          listed = listed;
          filled = record {
            compact = λ k entry at. place_same (slice_get (listed_values mid) k) (k + 1) entry
                (λ n there. f.compact k n there) (sym (read k) ∙ at);
            entries = λ k.
                r.items (k + 1) ∙ ap (option_map itemed) (f.entries k)
                ∙ both (slice_get (listed_values mid) k)
                ∙ ap (option_map entry_of_listed) (sym (read k));
            generations = ap (map generation_of) listed ∙ generations_of (listed_values mid)
                ∙ f.generations;
            live = r.kept.live ∙ f.live;
            counter = ap Some r.kept.counter ∙ f.counter;
            room = r.kept.room ∙ f.room;
          };
          slots = r.kept.slots ∙ m.slots;
          free = r.kept.free;
        }

-- the calls of a map, where the entries are the same
pub transferred_along : {Q U P T F : Type 0} {old_index old_generation : Q → ℕ}
    {index generation : P → ℕ} {step : F → Q → InvalidationOption U → P → T → F → Type 0} {f : F}
    {last counter : Option ℕ} {from before : List (ℕ × (ℕ × U))} {to after : List (ℕ × (ℕ × T))}
    → from ≡ before → after ≡ to
    → IsTransferred old_index old_generation index generation step f last counter from to
    → IsTransferred old_index old_generation index generation step f last counter before after
transferred_along {Q} {U} {P} {T} {F} {old_index} {old_generation} {index} {generation} {step} {f}
    {last} {counter} {from} {before} {to} {after} same listed m =
    subst (λ l. IsTransferred old_index old_generation index generation step f last counter l after)
    same
    (subst (IsTransferred old_index old_generation index generation step f last counter from)
    (sym listed) m)
