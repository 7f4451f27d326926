-- An entry leaves the tree, and then the list.
use Rattle.std.proofs.Common.{◌≡◌, ◌≢◌, ◌==◌, ℕ, ◌+◌, ◌-◌, ◌^◌, ◌<◌, List, [], ◌∷◌, ◌++◌, length}
use Rattle.std.proofs.Common.{append_assoc, length-append, Option, Some, None, IsSome}
use Rattle.std.proofs.Common.{Bool, true, false, if◌then◌else◌, refl, sym, ap, ◌∙◌, subst}
use Rattle.std.proofs.Common.{arith, inl, inr}
use Rattle.std.specs.Option.{option_map}
use Rattle.std.proofs.lemmas.Bool.{cases_eq, eq-eqb, ne_eqb}
use Rattle.triple_arena_ptr.specs.Generation.{next_generation}
use Rattle.triple_arena.specs.Content.{Content, entry_at, live_count, removed as without_entry}
use Rattle.triple_arena.specs.Entries.{without}
use Rattle.triple_arena.specs.RemovalLaws.{free-removed, slots-removed}
use Rattle.triple_arena_chain.specs.LinkShape.{IndexLink}
use Rattle.linked_lists.specs.LinkedLists.{IsLinear}
use Rattle.triple_arena_chain.specs.Links.{ends_in, values_in, valued, IsTakenOut}
use Rattle.linked_lists.specs.Chains.{Linear}
use Rattle.linked_lists.specs.ChainLaws.{chain_where}
use Rattle.rank_tree.specs.declared.side.Side.TheVariants.{Left}
use Rattle.triple_arena_ord.specs.NodeShape.{IndexNode}
use Rattle.rank_tree.specs.NodeView.{NodeView}
use Rattle.triple_arena_ord.specs.Node.{nodes_in, items_in, view_of, itemed, rest}
use Rattle.rank_tree.specs.Tree.{leaf, node, walk, IsRanked}
use Rattle.rank_tree.specs.Shape.{node_view, root_of, top, plug, holder, RepresentsTree, IsDistinct}
use Rattle.rank_tree.specs.Shape.{one, count}
use Rattle.rank_tree.specs.Repair.{Loose, Restored, walk_without}
use Rattle.triple_arena_ord.specs.Ordered.{Ordered, IsOrdered, tree_in, order_in, entry_in}
use Rattle.triple_arena_ord.specs.Removal.{Loses, IsUprooted, IsEntryRemoved}
use Rattle.rank_tree.specs.FrameLaws.{one-same, one-other, Represents-keep, plug-opens, count_split}
use Rattle.rank_tree.specs.DescentLaws.{before, after, plug-walk_is, rest_leaf}
use Rattle.rank_tree.specs.UniqueLaws.{tree_is}
use Rattle.triple_arena_ord.proofs.LeafLemmas.{Located, located}
use Rattle.triple_arena_ord.proofs.RestLemmas.{Rested, rested}

mapped_lives : {A B : Type 0} (f : A → B) (o : Option A) → IsSome (option_map f o) → IsSome o
mapped_lives f None e = absurd (cc)
mapped_lives f (Some a) e = refl

not_none : {A : Type 0} (o : Option A) → o ≡ None → IsSome o → ⊥
not_none None e s = absurd (cc)
not_none (Some x) e s = absurd (cc)

module _ {T : Type 0} where
  -- a node without a right child, and the list round it
  pub record Out (o : Ordered T) (h : ℕ) : Type 0 where
    pub loose : Loose (nodes_in o.chains) o.root h
    pub front : List ℕ
    pub back : List ℕ
    pub was : order_in o ≡ front ++ h ∷ back
    pub is : walk_without loose ≡ front ++ back

  pub out : (o : Ordered T) → IsOrdered o → (h : ℕ) → live_count o.chains < 2 ^ 64
      → IsSome (nodes_in o.chains h)
      → (v : NodeView) → nodes_in o.chains h ≡ Some v → v.right ≡ None → Out o h
  out o is h small lives v at free =
      let found : Located (tree_in o) h =
      located top (tree_in o) h (is.all h lives) in
      let c = found.context in
      let a = found.left in
      let k = found.rank in
      let at_h : nodes_in o.chains h
      ≡ Some (node_view Left (holder c) (root_of a) k (root_of found.right)) =
      (plug-opens (nodes_in o.chains) o.root c (node a h k found.right)
      (subst (RepresentsTree (nodes_in o.chains) o.root) found.is is.whole.stands)).1.0 in
      let same : Some v ≡ Some (node_view Left (holder c) (root_of a) k (root_of found.right)) =
      sym at
      ∙ at_h in
      let below : v ≡ node_view Left (holder c) (root_of a) k (root_of found.right) = cc in
      let none : root_of found.right ≡ None = sym (ap (λ z. z.right) below) ∙ free in
      let tree : tree_in o ≡ plug c (node a h k leaf) = found.is
      ∙ ap (λ t. plug c (node a h k t)) (rest_leaf found.right none) in
      let short : length (walk (tree_in o)) < 2 ^ 64 = rw is.counted small in
      record {
        loose = record {
          context = c;
          side = Left;
          sub = a;
          rank = k;
          distinct = subst IsDistinct tree is.whole.distinct;
          stands = subst (RepresentsTree (nodes_in o.chains) o.root) tree is.whole.stands;
          ranked = subst IsRanked tree is.whole.ranked;
          small = subst (λ t. length (walk t) < 2 ^ 64) tree short;
        };
        front = before c ++ walk a;
        back = after c;
        was = ap walk tree ∙ plug-walk_is c (node a h k leaf)
            ∙ ap (λ z. before c ++ z) (append_assoc (walk a) (h ∷ []) (after c))
            ∙ sym (append_assoc (before c) (walk a) (h ∷ after c));
        is = plug-walk_is c a ∙ sym (append_assoc (before c) (walk a) (after c));
      }

  pub uprooted : (o p : Ordered T) (h : ℕ) (out : Out o h)
      → Restored (nodes_in p.chains) p.root (walk_without out.loose)
      → IsUprooted o p h
  uprooted o p h out restored = record {
    before = out.front;
    after = out.back;
    was = out.was;
    restored = subst (Restored (nodes_in p.chains) p.root) out.is restored;
  }

  item-none : (b : Bool) (o : Option (ℕ × IndexNode T))
      → option_map itemed (if b then None else o) ≡ (if b then None else option_map itemed o)
  item-none true o = refl
  item-none false o = refl

  -- the entry is there until the chain loses it
  pub still : (o : Ordered T) (c1 : Content (IndexLink (IndexNode T))) (h : ℕ)
      → rest c1 ≡ rest o.chains → IsSome (nodes_in o.chains h) → IsSome (entry_at c1 h)
  still o c1 h keeps lives =
      let same = rested o.chains c1 keeps in
      mapped_lives valued (entry_at c1 h)
      (mapped_lives (λ e. view_of e.1) (values_in c1 h) (same.stays h lives))

  pub item_taken : (entry : ℕ × IndexLink (IndexNode T)) (o : Ordered T)
      (c1 : Content (IndexLink (IndexNode T))) (h : ℕ)
      → rest c1 ≡ rest o.chains → Some entry ≡ entry_at c1 h
      → Some (entry.0, entry.1.t.t) ≡ items_in o.chains h
  item_taken entry o c1 h keeps is =
      ap (option_map itemed) (ap (option_map valued) is)
      ∙ (rested o.chains c1 keeps).items h

  module _ (o : Ordered T) (is : IsOrdered o) (h : ℕ) (last : Option ℕ)
      (c1 c2 : Content (IndexLink (IndexNode T))) (root1 : Option ℕ)
      (up : IsUprooted o (record { chains = c1; root = root1 }) h)
      (keeps : rest c1 ≡ rest o.chains) (out : IsTakenOut last h c1 c2) where
    same : Rested o.chains c1
    same = rested o.chains c1 keeps

    other : (j : ℕ) → j ≢ h → nodes_in c2 j ≡ nodes_in c1 j
    other j d = ap (option_map (λ e. view_of e.1)) (out.values j) ∙ rw (ne_eqb j h d) refl

    here : nodes_in c2 h ≡ None
    here = ap (option_map (λ e. view_of e.1)) (out.values h) ∙ rw (eq-eqb h h refl) refl

    counts : (j : ℕ) → count j (tree_in o) ≡ count j up.restored.tree + one j h
    counts j = count_split j (tree_in o) up.restored.tree up.before h up.after up.was
        up.restored.is_walk

    in_new : (j : ℕ) → 0 < count j up.restored.tree → j ≢ h
    in_new j c e =
        let z = counts j in
        let b = is.whole.distinct.once j in
        let y : one j h ≡ 1 = ap (λ z. one z h) e ∙ one-same h in
        absurd (omega arith)

    pub record Taken : Type 0 where
      pub ordered : IsOrdered (record { chains = c2; root = root1 })
      pub order : Loses (order_in o) (order_in (record { chains = c2; root = root1 }))
          h
      pub entries : (k : ℕ) → items_in c2 k ≡ without (items_in o.chains) h k
      pub free : c2.free ≡ (without_entry last o.chains h).free
      pub slots : length c2.slots ≡ length (without_entry last o.chains h).slots

    pub taken : Taken
    taken =
        let p : Ordered T = record { chains = c2; root = root1 } in
        let r = up.restored in
        let stands2 : RepresentsTree (nodes_in c2) root1 r.tree = (
          r.stands.0,
          Represents-keep (nodes_in c1) (nodes_in c2) None r.tree
              (λ j c. other j (in_new j c)) r.stands.1,
        ) in
        let tree : tree_in p ≡ r.tree =
        tree_is (nodes_in c2) root1 r.tree stands2 r.ranked in
        let order : order_in p ≡ up.before ++ up.after = ap walk tree ∙ r.is_walk in
        let linear0 = chain_where (ends_in o.chains) (ends_in c1)
        (Linear (up.before ++ h ∷ up.after)) (λ i on. same.ends i)
        (subst (IsLinear (ends_in o.chains)) up.was is.linear) in
        let linear2 : IsLinear (ends_in c2) (up.before ++ up.after) =
        out.lists.from_linear up.before up.after linear0 in
        let live2 = out.live in
        let l1 : length (order_in o) ≡ length (up.before ++ h ∷ up.after) =
        ap length up.was in
        let l2 = length-append up.before (h ∷ up.after) in
        let l3 = length-append up.before up.after in
        let l4 : length (order_in p) ≡ length (up.before ++ up.after) = ap length order in
        let l5 = is.counted in
        let l6 : live_count c1 ≡ live_count o.chains = same.kept.live in
        record {
          ordered = record {
            whole = record {
              stands = subst (RepresentsTree (nodes_in c2) root1) (sym tree) stands2;
              distinct = subst IsDistinct (sym tree)
                  (record {
                    once = λ j. let z = counts j in let b = is.whole.distinct.once j in
                        omega arith;
                  });
              ranked = subst IsRanked (sym tree) r.ranked;
            };
            linear = subst (IsLinear (ends_in c2)) (sym order) linear2;
            all = λ j lives.
                elim (cases_eq j h) [
                  | inl e ↦ absurd (not_none (nodes_in c2 j)
                      (ap (nodes_in c2) e ∙ here) lives)
                  | inr d ↦
                      let z = is.all j (same.lives j (subst IsSome (other j d) lives)) in
                      let f = counts j in
                      let y = one-other j h d in
                      let t : count j (tree_in p) ≡ count j r.tree = ap (count j) tree in
                      omega arith
                ];
            counted = omega arith;
          };
          order = record { before = up.before; after = up.after; was = up.was; is = order };
          entries = λ k. ap (option_map itemed) (out.values k) ∙ item-none (k == h) (values_in c1 k)
              ∙ ap (λ z. if k == h then None else z) (same.items k);
          free =
              out.free ∙ free-removed last c1 h
              ∙ ap (λ m. if h == m then c1.free else (h ∷ c1.free)) same.kept.slots
              ∙ ap (λ f. if h == length o.chains.slots then f else (h ∷ f)) same.kept.free
              ∙ sym (free-removed last o.chains h);
          slots =
              out.slots ∙ slots-removed last c1 h
              ∙ ap (λ m. if h == m then (h - 1) else m) same.kept.slots
              ∙ sym (slots-removed last o.chains h);
        }

  -- the list is one shorter
  pub removed : (last : Option ℕ) (o p : Ordered T) (h : ℕ) → IsOrdered o
      → IsOrdered p → Loses (order_in o) (order_in p) h
      → ((k : ℕ) → entry_in p k ≡ without (entry_in o) h k)
      → p.chains.counter ≡ next_generation last o.chains.counter
      → p.chains.free ≡ (without_entry last o.chains h).free
      → length p.chains.slots ≡ length (without_entry last o.chains h).slots
      → p.chains.room ≡ o.chains.room
      → IsEntryRemoved last h o p
  removed last o p h is new_is lost entries counter free slots room =
      let l1 : length (order_in o) ≡ length (lost.before ++ h ∷ lost.after) =
      ap length lost.was in
      let l2 : length (order_in p) ≡ length (lost.before ++ lost.after) =
      ap length lost.is in
      let l3 = length-append lost.before (h ∷ lost.after) in
      let l4 = length-append lost.before lost.after in
      let l5 : length (order_in o) ≡ live_count o.chains = is.counted in
      let l6 : length (order_in p) ≡ live_count p.chains = new_is.counted in
      record {
        order = lost;
        entries = entries;
        size = omega arith;
        counter = counter;
        free = free;
        slots = slots;
        room = room;
      }
