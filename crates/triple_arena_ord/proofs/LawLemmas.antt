-- What laws say of the list.
use Rattle.std.proofs.Common.{◌≡◌, ◌≢◌, ℕ, List, ◌∷◌, ◌++◌, Some, IsSome, sym, ap, ◌∙◌, subst}
use Rattle.std.specs.Cmp.{IsTotalOrder}
use Rattle.std.specs.Ordering.{ordering_reverse}
use Rattle.std.specs.declared.cmp.Ordering.{Ordering}
use Rattle.std.specs.declared.cmp.Ordering.TheVariants.{Less, Equal, Greater}
use Rattle.linked_lists.specs.LinkedLists.{On}
use Rattle.rank_tree.specs.Search.{MayPrecede, IsParted}
use Rattle.triple_arena_ord.specs.Ordered.{Ordered, IsOrdered, IsAscending, tree_in, order_in}
use Rattle.triple_arena_ord.specs.Ordered.{NoneGreater, NoneLess, entry_in, asked_of, asked_at}
use Rattle.rank_tree.specs.DescentLaws.{before, after, all-map, parted-after, parted-before}
use Rattle.rank_tree.specs.DescentLaws.{plug-walk_is}
use Rattle.triple_arena_ord.proofs.LeafLemmas.{Located, located}
use Rattle.triple_arena_ord.proofs.LiveLemmas.{entry_counted}
use Rattle.triple_arena_ord.proofs.SeekLemmas.{parts_at}
use Rattle.rank_tree.specs.Shape.{top}
use Rattle.rank_tree.specs.Tree.{node, walk}
use Rattle.std.proofs.Common.{append_assoc}

-- nothing compares with itself but as equal
equal_to_itself : {K : Type 0} (cmp : K → K → Ordering) → IsTotalOrder cmp → (k : K)
    → cmp k k ≡ Equal
equal_to_itself cmp total k = by (cmp k k) (total.antisymm k k)
  where
    by : (a : Ordering) → a ≡ ordering_reverse a → a ≡ Equal
    by Less e = absurd (cc)
    by Equal e = cc
    by Greater e = absurd (cc)

module _ {T : Type 0} where
  pub stands : (o : Ordered T) → IsOrdered o → (i : ℕ) → IsSome (entry_in o i)
      → On (order_in o) i
  stands o is i live =
      let found : Located (tree_in o) i =
      located top (tree_in o) i (entry_counted o is i live) in
      let c = found.context in
      record {
        front = before c ++ walk found.left;
        back = walk found.right ++ after c;
        is = ap walk found.is ∙ plug-walk_is c (node found.left i found.rank found.right)
            ∙ ap (λ w. before c ++ w)
            (append_assoc (walk found.left) (i ∷ walk found.right) (after c))
            ∙ sym (append_assoc (before c) (walk found.left) (i ∷ walk found.right ++ after c));
      }

  module _ {K : Type 0} (cmp : K → K → Ordering) (key : T → K) (total : IsTotalOrder cmp) where
    asked_here : (o : Ordered T) (i : ℕ) (entry : ℕ × T) → entry_in o i ≡ Some entry
        → asked_at cmp key (key entry.1) o i ≡ Equal
    asked_here o i entry at = ap (asked_of cmp key (key entry.1)) at
        ∙ equal_to_itself cmp total (key entry.1)

    parted : (o : Ordered T) → IsOrdered o → IsAscending cmp key o
        → (front back : List ℕ) (i : ℕ) (entry : ℕ × T)
        → order_in o ≡ front ++ i ∷ back
        → IsParted (asked_at cmp key (key entry.1) o) (front ++ i ∷ back)
    parted o ordered ascending front back i entry is =
        subst (IsParted (asked_at cmp key (key entry.1) o)) is
        (parts_at cmp key (key entry.1) total o ordered ascending)

    pub not_greater_before : (o : Ordered T) → IsOrdered o → IsAscending cmp key o
        → (front back : List ℕ) (i : ℕ) (entry : ℕ × T)
        → order_in o ≡ front ++ i ∷ back → entry_in o i ≡ Some entry
        → NoneGreater cmp key (key entry.1) o front
    not_greater_before o ordered ascending front back i entry is at =
        let f = asked_at cmp key (key entry.1) o in
        let here : f i ≡ Equal = asked_here o i entry at in
        all-map (λ j. MayPrecede (f j) (f i)) (λ j. f j ≢ Less)
        (λ j b less. let e : f i ≡ Less = b.less less in let no : Equal ≡ Less = sym here
        ∙ e in absurd (cc))
        front (parted-before f front i back (parted o ordered ascending front back i entry is))

    pub not_less_after : (o : Ordered T) → IsOrdered o → IsAscending cmp key o
        → (front back : List ℕ) (i : ℕ) (entry : ℕ × T)
        → order_in o ≡ front ++ i ∷ back → entry_in o i ≡ Some entry
        → NoneLess cmp key (key entry.1) o back
    not_less_after o ordered ascending front back i entry is at =
        let f = asked_at cmp key (key entry.1) o in
        let here : f i ≡ Equal = asked_here o i entry at in
        all-map (λ j. MayPrecede (f i) (f j)) (λ j. f j ≢ Greater)
        (λ j b greater. let e : f i ≡ Greater = b.greater greater in let no : Equal ≡ Greater =
        sym here ∙ e in absurd (cc))
        back (parted-after f front i back (parted o ordered ascending front back i entry is))
