-- An item is replaced, and one is put in where its key belongs.
use Rattle.std.specs.List.{AllByRecursion}
use Rattle.std.proofs.Common.{◌≡◌, ℕ, List, [], ◌∷◌, ◌++◌, append_assoc, Option}
use Rattle.std.proofs.Common.{Some, None, Result, refl, sym, ap, ◌∙◌, subst}
use Rattle.std.proofs.Common.{inl, inr}
use Rattle.std.specs.Option.{option_map}
use Rattle.std.proofs.lemmas.Bool.Decides.{eqb_tells}
use Rattle.std.specs.Cmp.{IsTotalOrder}
use Rattle.std.specs.declared.cmp.Ordering.{Ordering}
use Rattle.std.specs.declared.cmp.Ordering.TheVariants.{Less, Equal, Greater}
use Rattle.triple_arena.specs.Content.{Content}
use Rattle.triple_arena_ptr.specs.declared.errors.OrdInsertionError.{OrdInsertionError}
use Rattle.triple_arena_chain.specs.LinkShape.{IndexLink}
use Rattle.linked_lists.specs.LinkedLists.{Off, Apart}
use Rattle.linked_lists.specs.LinkedListLaws.{Off-not_on}
use Rattle.triple_arena_chain.specs.Links.{ends_in, values_in, with_value_in}
use Rattle.triple_arena_chain.specs.LinkLaws.{values-with_value_in, ends-with_value_in}
use Rattle.triple_arena_chain.specs.LinkLaws.{kept-with_value_in}
use Rattle.linked_lists.specs.UniquenessLaws.{linear_apart}
use Rattle.triple_arena_ord.specs.NodeShape.{IndexNode}
use Rattle.rank_tree.specs.NodeView.{NodeView}
use Rattle.triple_arena_ord.specs.Node.{nodes_in, view_of, itemed}
use Rattle.rank_tree.specs.Search.{MayPrecede, IsParted, IsAnswer}
use Rattle.triple_arena_ord.specs.Ordered.{Ordered, IsOrdered, tree_in, order_in, asked_of}
use Rattle.triple_arena_ord.specs.Ordered.{asked_at}
use Rattle.triple_arena_ord.specs.Placing.{IsPlaceByKey}
use Rattle.triple_arena_ord.specs.Inserted.{Replaces, StandsAt, IsRenewed, IsReplaced, IsInsertedAt}
use Rattle.triple_arena_ord.specs.Inserted.{IsPlacedByKey, IsKeyInserted}
use Rattle.rank_tree.specs.DescentLaws.{all-append, all-map, parted-after, parted-before}
use Rattle.triple_arena_ord.proofs.PlacingLemmas.{placed_by_key}
use Rattle.triple_arena_ord.proofs.SeekLemmas.{parts_at, absent}
use Rattle.triple_arena_ord.proofs.SameListLemmas.{Reordered, same_list}

-- an index stands at one place of a list that has each index once
pub split_same : (xs : List ℕ) (h : ℕ) (ys us vs : List ℕ) → Apart (xs ++ h ∷ ys)
    → xs ++ h ∷ ys ≡ us ++ h ∷ vs → (xs ≡ us) × (ys ≡ vs)
split_same [] h ys [] vs apart e = let z : ys ≡ vs = cc in (refl, z)
split_same [] h ys (u ∷ us) vs apart e =
    let tail : ys ≡ us ++ h ∷ vs = cc in
    absurd (Off-not_on us vs h (subst (λ z. Off z h) tail apart.0))
split_same (x ∷ xs) h ys [] vs apart e =
    let head : x ≡ h = cc in
    absurd (Off-not_on xs ys h (subst (λ z. Off (xs ++ h ∷ ys) z) head apart.0))
split_same (x ∷ xs) h ys (u ∷ us) vs apart e =
    let head : x ≡ u = cc in
    let tail : xs ++ h ∷ ys ≡ us ++ h ∷ vs = cc in
    let rest = split_same xs h ys us vs apart.1 tail in
    (ap (λ z. z ∷ xs) head ∙ ap (λ z. u ∷ z) rest.0, rest.1)

module _ {T : Type 0} where
  abbrev node_at : ℕ × IndexNode T → NodeView
  node_at entry = view_of entry.1

  pub renewed : (c : Content (IndexLink (IndexNode T))) (i g : ℕ) (u v : IndexNode T)
      → values_in c i ≡ Some (g, u) → view_of v ≡ view_of u
      → IsRenewed i g v.t u.t c (with_value_in c i v)
  renewed c i g u v at same = record {
    was = ap (option_map itemed) at;
    items = λ k. ap (option_map itemed) (values-with_value_in c i v k) ∙ elim (eqb_tells k i) [
      | inl e ↦ rw (e.0, at) refl
      | inr d ↦ rw d.0 refl
    ];
    nodes = λ k. ap (option_map node_at) (values-with_value_in c i v k) ∙ elim (eqb_tells k i) [
      | inl e ↦ rw (e.0, at)
          (ap Some same ∙ sym (ap (nodes_in c) e.1 ∙ ap (option_map node_at) at))
      | inr d ↦ rw d.0 refl
    ];
    ends = ends-with_value_in c i v;
    kept = kept-with_value_in c i v;
  }

  same_node : (e : Option (ℕ × IndexNode T)) (g : ℕ) (u w : IndexNode T) → e ≡ Some (g, u)
      → option_map (λ e. e.1) e ≡ Some w → e ≡ Some (g, w)
  same_node e g u w at is =
      let q : Some u ≡ Some w = sym (ap (option_map (λ e. e.1)) at) ∙ is in
      let z : u ≡ w = cc q in
      at ∙ ap (λ z. Some (g, z)) z

  -- another item in the node that was read
  pub renewed_at : (c : Content (IndexLink (IndexNode T))) (i g : ℕ) (u w : IndexNode T)
      (t d old : T) (p_index p_gen : ℕ)
      → values_in c i ≡ Some (g, u) → option_map (λ e. e.1) (values_in c i) ≡ Some w → old ≡ w.t
      → d ≡ t → p_index ≡ i → p_gen ≡ g
      → IsRenewed p_index p_gen t old c (with_value_in c i (record w { t = d }))
  renewed_at c i g u w t d old p_index p_gen at is old_is d_is index_is gen_is =
      rw (old_is, d_is, index_is, gen_is)
      (renewed c i g w (record w { t = t }) (same_node (values_in c i) g u w at is) refl)

  pub renewed_ordered : (o p : Ordered T) (i g : ℕ) (t u : T) → p.root ≡ o.root
      → IsRenewed i g t u o.chains p.chains
      → IsOrdered o → Reordered o p
  renewed_ordered o p i g t u root r is = same_list o p root r.nodes r.ends r.kept.live is

  pub replaced : (o inside p : Ordered T) → inside ≡ o → (i g : ℕ) (t u : T)
      → p.root ≡ inside.root
      → IsRenewed i g t u inside.chains p.chains → IsOrdered inside
      → IsReplaced i g t u o p
  replaced o inside p same i g t u root r is =
      let q = renewed_ordered inside p i g t u root r is in
      subst (λ z. IsReplaced i g t u z p) same
      (record {
        was = r.was;
        order = q.order;
        entries = r.items;
        root = root;
        nodes = r.nodes;
        kept = r.kept;
      })

  module _ {K : Type 0} (cmp : K → K → Ordering) (key : T → K) (total : IsTotalOrder cmp) where
    -- where a search ended is where the key belongs
    pub by_key : (o p : Ordered T) (k : K) (n : ℕ) (place : Option (ℕ × Ordering))
        → IsOrdered o → IsPlaceByKey cmp key k o place
        → StandsAt place (order_in o) (order_in p) n
        → IsPlacedByKey cmp key k n o p
    by_key o p k n None is found s =
        record { before = []; after = []; was = s.0; is = s.1; greater = λ a. tt; less = λ a. tt }
    by_key o p k n (Some a) is found s = by a.1 refl s
      where
        f : ℕ → Ordering
        f = asked_at cmp key k o

        h : ℕ
        h = a.0

        apart : Apart (order_in o)
        apart = linear_apart (ends_in o.chains) None (order_in o) is.linear

        by : (d : Ordering) → a.1 ≡ d
            → StandsAt (Some (h, d)) (order_in o) (order_in p) n
            → IsPlacedByKey cmp key k n o p
        by Less e s =
            let at : ◌≡◌ {A = Option (ℕ × Ordering)} (Some a) (Some (h, Less)) =
            ap (λ d. Some (h, d)) e in
            let here : f h ≡ Less = found.way h Less at in
            record {
              before = s.before;
              after = h ∷ s.after;
              was = s.was;
              is = s.is;
              greater = λ ascending.
                  let places = found.places ascending h Less at in
                  let split = split_same s.before h s.after places.before places.after
                  (subst Apart s.was apart) (sym s.was ∙ places.is) in
                  subst (AllByRecursion (λ j. f j ≡ Greater)) (sym split.0) (places.less refl);
              less = λ ascending.
                  let parted = subst (IsParted f) s.was
                  (parts_at cmp key k total o is ascending) in (
                    here,
                    all-map (λ y. MayPrecede (f h) (f y)) (λ y. f y ≡ Less) (λ y z. z.less here)
                        s.after (parted-after f s.before h s.after parted),
                  );
            }
        by Equal e s = absurd s
        by Greater e s =
            let at : ◌≡◌ {A = Option (ℕ × Ordering)} (Some a) (Some (h, Greater)) =
            ap (λ d. Some (h, d)) e in
            let here : f h ≡ Greater = found.way h Greater at in
            record {
              before = s.before ++ h ∷ [];
              after = s.after;
              was = s.was ∙ sym (append_assoc s.before (h ∷ []) s.after);
              is = s.is ∙ sym (append_assoc s.before (h ∷ []) (n ∷ s.after));
              greater = λ ascending.
                  let parted = subst (IsParted f) s.was
                  (parts_at cmp key k total o is ascending) in
                  all-append (λ y. f y ≡ Greater) s.before (h ∷ [])
                  (all-map (λ y. MayPrecede (f y) (f h)) (λ y. f y ≡ Greater)
                  (λ y z. z.greater here) s.before
                  (parted-before f s.before h s.after parted)) (here, tt);
              less = λ ascending.
                  let places = found.places ascending h Greater at in
                  let split = split_same s.before h s.after places.before places.after
                  (subst Apart s.was apart) (sym s.was ∙ places.is) in
                  subst (AllByRecursion (λ j. f j ≡ Less)) (sym split.1) (places.greater refl);
            }

    module _ {P : Type 0} (index generation : P → ℕ) (allows : Option OrdInsertionError → Type 0)
      where
        -- an insertion where the search for its key ended
        pub inserted_by_key : (o p : Ordered T) (t : T) (k : K) → k ≡ key t
            → (place : Option (ℕ × Ordering))
            → (result : Result (P × Option T) OrdInsertionError) → IsOrdered o
            → IsOrdered p → IsAnswer (asked_at cmp key k o) (tree_in o) place
            → IsInsertedAt index generation allows place t result o p
            → IsKeyInserted cmp key index generation allows t result o p
        inserted_by_key o p t k k_is place result is new_is found put =
            let answer : IsAnswer (asked_at cmp key (key t) o) (tree_in o) place =
            subst (λ z. IsAnswer (asked_at cmp key z o) (tree_in o) place) k_is found in
            let at = placed_by_key cmp key (key t) o total is place answer in
            record {
              replaced = λ q u e.
                  let r = put.replaced q u e in
                  (sym (ap (asked_of cmp key (key t)) r.1.was) ∙ at.way (index q) Equal r.0, r.1);
              added = λ q e. let r = put.added q e in
                  (by_key o p (key t) (index q) place is at r.0, r.1);
              fits = put.fits;
              refused = λ error e. (put.refused error e).1;
              same = put.same;
              absent = λ error e ascending j.
                  absent cmp key (key t) total o is place answer
                  (λ i d at same. (put.refused error e).0 (subst Replaces (sym at) same))
                  ascending j;
            }
