-- What a clone leaves: the source's list and tree where it was made, and where it was refused the
-- list as it was, or none.
use Rattle.std.specs.Prelude.{slice_get, Err, IsErrOf}
use Rattle.std.proofs.Common.{◌≡◌, ℕ, ◌∷◌, List, length, map, Bool, Option, Some, None, option_map}
use Rattle.std.proofs.Common.{refl, sym, ap, ◌∙◌, subst, arith, inl, inr}
use Rattle.std.proofs.lemmas.List.{length-append}
use Rattle.std.proofs.lemmas.Option.{slice_get-map}
use Rattle.triple_arena.specs.Content.{Content, entry_at, live_count, some_counter, cleared}
use Rattle.triple_arena.specs.Content.{reallocated}
use Rattle.triple_arena.specs.Copy.{copied, IsUnmadeCopy}
use Rattle.triple_arena.specs.CopyLaws.{entry-copied, live-copied, live_entries-rise}
use Rattle.triple_arena.specs.LiveEntries.{live_entries, entry-listed, live_entries-length}
use Rattle.triple_arena_chain.specs.LinkShape.{IndexLink}
use Rattle.triple_arena_chain.specs.Links.{entry_ends, values_in, valued}
use Rattle.triple_arena_chain.specs.Values.{room_in as chain_room}
use Rattle.rank_tree.specs.Tree.{Tree, leaf, node, walk}
use Rattle.rank_tree.specs.Shape.{root_of}
use Rattle.triple_arena_ord.specs.NodeShape.{IndexNode}
use Rattle.triple_arena_ord.specs.Copies.{copied_into, emptied_to, IsClone}
use Rattle.triple_arena_ord.specs.Indexed.{listed_item}
use Rattle.triple_arena_ord.specs.Node.{nodes_in, view_of, itemed}
use Rattle.triple_arena_ord.specs.Ordered.{Ordered, IsOrdered, entry_in, size_in, counter_in}
use Rattle.triple_arena_ord.specs.Ordered.{room_in, tree_in}
use Rattle.triple_arena_ord.proofs.SameListLemmas.{same_list}

-- the same error of another result
pub error_kept : {A B E : Type 0} (e x : E) → IsErrOf {T = A} (Err e) x → IsErrOf {T = B} (Err e) x
error_kept e x failed = let same : e ≡ x = cc failed in ap Err same

module _ {T : Type 0} where
  -- the item of a node is listed where the node is
  pub listed_as_item : (nodes : List (ℕ × (ℕ × IndexNode T))) (k : ℕ)
      (e : ℕ × (ℕ × IndexNode T)) → slice_get nodes k ≡ Some e
      → slice_get (map listed_item nodes) k ≡ Some (listed_item e)
  listed_as_item nodes k e at = slice_get-map listed_item nodes k ∙ ap (option_map listed_item) at

module _ {T : Type 0} where
  -- a clone that was made
  pub record Cloned (c : Content (IndexLink (IndexNode T))) (source new : Ordered T) : Type 0
    where
      pub ordered : IsOrdered new
      pub clone : IsClone c source new

  pub cloned : (c d : Content (IndexLink (IndexNode T))) (source : Ordered T)
      → d ≡ copied c (counter_in source) (live_entries source.chains)
      → IsOrdered source → Cloned c source (record { chains = d; root = source.root })
  cloned c d source exact is =
      let same = same_list source (copied_into c source) refl nodes
      (λ k. ap (option_map entry_ends) (at k)) live is in
      subst (λ z. Cloned c source (record { chains = z; root = source.root })) (sym exact) (record {
        ordered = same.ordered;
        clone = record {
          exact = refl;
          entries = λ k. ap (λ e. option_map itemed (option_map valued e)) (at k);
          nodes = nodes;
          order = same.order;
        };
      })
    where
      made : Content (IndexLink (IndexNode T))
      made = copied c (counter_in source) (live_entries source.chains)

      at : (k : ℕ) → entry_at made k ≡ entry_at source.chains k
      at k = entry-copied c (counter_in source) (live_entries source.chains)
          (live_entries-rise source.chains) k ∙ sym (entry-listed source.chains k)

      nodes : (k : ℕ) → nodes_in made k ≡ nodes_in source.chains k
      nodes k = ap (λ e. option_map (λ v. view_of v.1) (option_map valued e)) (at k)

      live : live_count made ≡ live_count source.chains
      live = live-copied c (counter_in source) (live_entries source.chains)
          (live_entries-rise source.chains) ∙ live_entries-length source.chains

  -- an arena without an entry has no root
  pub no_root : (o : Ordered T) → IsOrdered o → size_in o ≡ 0 → o.root ≡ None
  no_root o is none = by (tree_in o) is.whole.stands.0 (is.counted ∙ none)
    where
      by : (t : Tree) → o.root ≡ root_of t → length (walk t) ≡ 0 → o.root ≡ None
      by leaf root long = root
      by (node l i k r) root long =
          absurd (let all = length-append (walk l) (i ∷ walk r) in omega (arith, all, long))

  module _ (o : Ordered T) (d : Content (IndexLink (IndexNode T))) (is : IsOrdered o)
    where
      -- the links stayed, and so did the root; where none is left there was none
      pub same_links : d ≡ o.chains → live_count d ≡ 0 → record { chains = d; root = None } ≡ o
      same_links same none =
          ap (λ z. record { chains = z; root = None }) same
          ∙ ap (λ r. record { chains = o.chains; root = r })
          (sym (no_root o is (sym (ap live_count same) ∙ none)))

      module _ (takes_memory : Bool) (last_generation : Option ℕ) (last : ℕ)
          (refused refused' : Type 0) (gives : refused → refused') where
        -- why no copy of the links was made, and what that left of them
        abbrev LinksUnmade : Type 0
        LinksUnmade = IsUnmadeCopy values_in live_count some_counter chain_room takes_memory
            last_generation last
            (λ c. cleared last_generation (reallocated c last)) refused o.chains d

        abbrev Unmade : Ordered T → Type 0
        Unmade new = IsUnmadeCopy entry_in size_in counter_in room_in takes_memory last_generation
            last (emptied_to last_generation last) refused' o new

        -- no link is left
        pub unmade_none : LinksUnmade → live_count d ≡ 0
            → Unmade (record { chains = d; root = None })
        unmade_none (inl memory) none = inl (memory.0, memory.1, same_links memory.2 none)
        unmade_none (inr left) none = inr (
          gives left.0,
          record {
            entries = λ k. ap (option_map itemed) (left.1.entries k);
            live = left.1.live;
            counter = left.1.counter;
            room = left.1.room;
          },
          ap (λ z. record { chains = z; root = None }) left.2,
        )
