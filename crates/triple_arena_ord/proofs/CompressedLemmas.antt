-- A compression as a whole: the nodes moved, the tree written anew along the renamed list.
use Rattle.std.proofs.Common.{◌≡◌, ℕ, ◌+◌, Bool, List, [], ◌∷◌, length, map, Option, Some, None}
use Rattle.std.proofs.Common.{is_some, IsSome, option_map, refl, sym, ap, subst, ◌∙◌}
use Rattle.std.specs.Prelude.{slice_get}
use Rattle.std.proofs.lemmas.Option.{slice_get-map}
use Rattle.triple_arena.specs.Changes.{IsCompressed}
use Rattle.triple_arena.specs.Compression.{renewed, generation_given, generation_of, value_of}
use Rattle.triple_arena.specs.Compression.{index_of, entry_of_listed, IsMapped}
use Rattle.triple_arena.specs.Content.{Content, entry_at, live_count, some_counter}
use Rattle.triple_arena_chain.specs.LinkShape.{IndexLink}
use Rattle.linked_lists.specs.LinkedLists.{IsLinear, On}
use Rattle.triple_arena_chain.specs.Links.{ends_in, entry_ends, values_in, valued}
use Rattle.triple_arena_chain.specs.Listed.{listed_values}
use Rattle.triple_arena_chain.specs.Renaming.{new_index, IsCompacted}
use Rattle.triple_arena_chain.specs.Values.{room_in as chain_room}
use Rattle.triple_arena_chain.specs.RenamingLaws.{live_below-same}
use Rattle.triple_arena_ord.specs.NodeShape.{IndexNode}
use Rattle.triple_arena_ord.specs.Compressed.{IsCompressedInOrder}
use Rattle.triple_arena_ord.specs.Indexed.{listed_item, indexed}
use Rattle.triple_arena_ord.specs.Node.{nodes_in, itemed, rest}
use Rattle.triple_arena_ord.specs.Ordered.{Ordered, IsOrdered, entry_in, size_in, counter_in}
use Rattle.triple_arena_ord.specs.Ordered.{room_in, order_in}
use Rattle.triple_arena_ord.specs.Rebuilt.{IsRebuilt}
use Rattle.triple_arena_ord.proofs.IndexedLemmas.{same_items}
use Rattle.triple_arena_ord.proofs.RenamedListLemmas.{list_linear, list_long, on_list, rewritten}

map_same : {A B : Type 0} (f h : A → B) → ((a : A) → f a ≡ h a) → (xs : List A)
    → map f xs ≡ map h xs
map_same f h same [] = refl
map_same f h same (x ∷ xs) = ap (λ y. y ∷ map f xs) (same x)
    ∙ ap (λ l. h x ∷ l) (map_same f h same xs)

module _ {T : Type 0} where
  pub generations_of : (l : List (ℕ × (ℕ × IndexNode T)))
      → map generation_of (map listed_item l) ≡ map generation_of l
  generations_of [] = refl
  generations_of (x ∷ l) = ap (λ r. x.1.0 ∷ r) (generations_of l)

  generations_given : (last : Option ℕ) (reset : Bool) (counter : Option ℕ)
      (l : List (ℕ × (ℕ × IndexNode T)))
      → map (λ (e : ℕ × (ℕ × T)). generation_given last reset counter (generation_of e))
      (map listed_item l)
      ≡ map (λ (e : ℕ × (ℕ × IndexNode T)). generation_given last reset counter (generation_of e))
      l
  generations_given last reset counter [] = refl
  generations_given last reset counter (x ∷ l) =
      ap (λ r. generation_given last reset counter x.1.0 ∷ r)
      (generations_given last reset counter l)

  pub both : (o : Option (ℕ × (ℕ × IndexNode T)))
      → option_map itemed (option_map entry_of_listed o)
      ≡ option_map entry_of_listed (option_map listed_item o)
  both None = refl
  both (Some f) = refl

  pub place_same : (o : Option (ℕ × (ℕ × IndexNode T))) (n : ℕ) (entry : ℕ × (ℕ × T))
      → ((f : ℕ × (ℕ × IndexNode T)) → o ≡ Some f → index_of f ≡ n)
      → option_map listed_item o ≡ Some entry → index_of entry ≡ n
  place_same None n entry placed at = absurd (let no : None ≡ Some entry = at in cc)
  place_same (Some f) n entry placed at =
      let one : Some (listed_item f) ≡ Some entry = at in
      let same : listed_item f ≡ entry = cc one in
      sym (ap index_of same) ∙ placed f refl

  given_same : (g : ℕ) (o : Option (ℕ × (ℕ × IndexNode T)))
      → option_map itemed (option_map (λ n. (let e : ℕ × IndexNode T = (g, n) in e))
      (option_map value_of o))
      ≡ option_map (λ t. (let e : ℕ × T = (g, t) in e))
      (option_map value_of (option_map listed_item o))
  given_same g None = refl
  given_same g (Some f) = refl

module _ {T : Type 0} where
  live_alike : (o : Option (ℕ × IndexLink (IndexNode T)))
      → is_some (option_map itemed (option_map valued o))
      ≡ is_some (option_map entry_ends o)
  live_alike None = refl
  live_alike (Some e) = refl

  -- the new index of an entry is that of its link
  new_index_same : (o : Ordered T) (i : ℕ)
      → new_index (ends_in o.chains) i ≡ new_index (entry_in o) i
  new_index_same o i =
      ap (λ n. n + 1) (sym (live_below-same (ends_in o.chains) (entry_in o)
      (λ j. live_alike (entry_at o.chains j)) i))

module _ {T : Type 0} (last : Option ℕ) (reset : Bool) (o : Ordered T)
    (mid : Content (IndexLink (IndexNode T))) (is : IsOrdered o)
    (c : IsCompressed values_in live_count some_counter chain_room last listed_values reset o.chains
    mid)
    (x : IsCompacted last reset (map value_of (listed_values mid)) o.chains mid) where
  -- the list under the new indexes
  abbrev pub moved : List ℕ
  moved = map (new_index (ends_in o.chains)) (order_in o)

  pub moved_linear : IsLinear (ends_in mid) moved
  moved_linear = list_linear o mid (new_index (ends_in o.chains)) is x.renamed c.live

  pub moved_long : length moved ≡ live_count mid
  moved_long = list_long o mid (new_index (ends_in o.chains)) is x.renamed c.live

  pub moved_all : (k : ℕ) → IsSome (ends_in mid k) → On moved k
  moved_all = on_list o mid (new_index (ends_in o.chains)) is x.renamed c.live

  pub record Compressed (new : Ordered T) : Type 0 where
    pub ordered : IsOrdered new
    pub order : order_in new ≡ moved
    pub listed : indexed new ≡ map listed_item (listed_values mid)
    pub compressed : IsCompressed entry_in size_in counter_in room_in last indexed reset o new
    pub exact : IsCompressedInOrder last reset (map value_of (indexed new)) o new

  module _ (new : Ordered T) (listed : indexed new ≡ map listed_item (listed_values mid)) where
    read : (k : ℕ) → slice_get (indexed new) k
        ≡ option_map listed_item (slice_get (listed_values mid) k)
    read k = ap (λ l. slice_get l k) listed ∙ slice_get-map listed_item (listed_values mid) k

    items_given : (k : ℕ) → option_map itemed (values_in mid (k + 1))
        ≡ option_map (λ t. (let e : ℕ × T = (renewed last reset o.chains.counter, t) in e))
        (slice_get (map value_of (indexed new)) k)
    items_given k =
        let g = renewed last reset o.chains.counter in
        ap (option_map itemed)
        (x.values k ∙ ap (option_map (λ n. (let e : ℕ × IndexNode T = (g, n) in e)))
        (slice_get-map value_of (listed_values mid) k))
        ∙ given_same g (slice_get (listed_values mid) k)
        ∙ ap (option_map (λ t. (let e : ℕ × T = (g, t) in e)))
        (ap (option_map value_of) (sym (read k)) ∙ sym (slice_get-map value_of (indexed new) k))

  -- what the rebuild leaves
  pub compressed_by : (new : Ordered T) → rest new.chains ≡ rest mid
      → IsRebuilt moved new.root (nodes_in new.chains) → Compressed new
  compressed_by new keeps b =
      let w = rewritten o mid (new_index (ends_in o.chains)) is x.renamed c.live new
      keeps b in
      let r = w.stays in
      let listed : indexed new ≡ map listed_item (listed_values mid) =
      same_items (record { chains = mid; root = new.root }) new r.items in
      record {
        ordered = w.ordered;
        order = w.order;
        listed = listed;
        compressed = record {
          compact = λ k entry at.
              place_same (slice_get (listed_values mid) k) (k + 1) entry
              (λ f there. c.compact k f there) (sym (read new listed k) ∙ at);
          entries = λ k.
              r.items (k + 1) ∙ ap (option_map itemed) (c.entries k)
              ∙ both (slice_get (listed_values mid) k)
              ∙ ap (option_map entry_of_listed) (sym (read new listed k));
          generations =
              ap (map generation_of) listed
              ∙ generations_of (listed_values mid)
              ∙ c.generations
              ∙ sym (generations_given last reset (counter_in o) (listed_values o.chains));
          live = r.kept.live ∙ c.live;
          counter = ap Some r.kept.counter ∙ c.counter;
          room = r.kept.room ∙ c.room;
        };
        exact = record {
          order = w.order ∙ map_same (new_index (ends_in o.chains)) (new_index (entry_in o))
              (new_index_same o) (order_in o);
          entries = λ k. r.items (k + 1) ∙ items_given new listed k;
          tree = w.tree;
          size = r.kept.live ∙ c.live;
          slots = r.kept.slots ∙ x.slots;
          free = r.kept.free ∙ x.free;
          counter = r.kept.counter ∙ x.counter;
          room = r.kept.room ∙ x.room;
        };
      }

-- the calls of a map, where the entries are the same
pub mapped_by : {P F T : Type 0} {index generation : P → ℕ} {step : F → P → T → P → T → F → Type 0}
    {f : F} {from before to after : List (ℕ × (ℕ × T))}
    → from ≡ before → after ≡ to → IsMapped index generation step f from to
    → IsMapped index generation step f before after
mapped_by {P} {F} {T} {index} {generation} {step} {f} {from} {before} {to} {after} same listed m =
    subst (λ l. IsMapped index generation step f l after) same
    (subst (IsMapped index generation step f from) (sym listed) m)
