-- The place for a key is where the search for it ends.
use Rattle.std.proofs.Common.{◌≡◌, ℕ, Option, Some, None, IsSome, IfSome, refl, sym, ap, ◌∙◌}
use Rattle.std.specs.Cmp.{IsTotalOrder}
use Rattle.std.specs.declared.cmp.Ordering.{Ordering}
use Rattle.rank_tree.specs.Tree.{size}
use Rattle.rank_tree.specs.Search.{IsAnswer}
use Rattle.triple_arena_ord.specs.Ordered.{Ordered, IsOrdered, tree_in, entry_in, size_in, asked_at}
use Rattle.triple_arena_ord.specs.Placing.{IsPlaceByKey}
use Rattle.triple_arena_ord.specs.Found.{place_by}
use Rattle.rank_tree.specs.ClimbLaws.{size-walk}
use Rattle.triple_arena_ord.proofs.FoundLemmas.{root_size, none_counted}
use Rattle.triple_arena_ord.proofs.LiveLemmas.{counted_entry}
use Rattle.triple_arena_ord.proofs.NameLemmas.{if_answered}
use Rattle.triple_arena_ord.proofs.SeekLemmas.{parts_at}

module _ {T K : Type 0} (cmp : K → K → Ordering) (key : T → K) (k : K) (o : Ordered T) where
  pub placed_by_key : IsTotalOrder cmp → IsOrdered o → (place : Option (ℕ × Ordering))
      → IsAnswer (asked_at cmp key k o) (tree_in o) place
      → IsPlaceByKey cmp key k o place
  placed_by_key total is place answer = record {
    none = (
      λ e. sym sized ∙ root_size (tree_in o) (answer.empty e),
      λ e. nothing place refl (sized ∙ e),
    );
    live = λ i d e. counted_entry o is i (answer.lives i d e);
    way = answer.asked;
    places = λ ascending i d e. answer.parted i d e
        (parts_at cmp key k total o is ascending);
  }
    where
      sized : size (tree_in o) ≡ size_in o
      sized = size-walk (tree_in o) ∙ is.counted

      nothing : (s : Option (ℕ × Ordering)) → place ≡ s → size (tree_in o) ≡ 0 → place ≡ None
      nothing None u z = u
      nothing (Some x) u z = absurd (none_counted (tree_in o) z x.0 (answer.lives x.0 x.1 u))

module _ {I T K : Type 0} (number : I → ℕ) (cmp : K → K → Ordering) (key : T → K) (k : K)
    (o : Ordered T) (r : Option (I × Ordering)) where
  abbrev numbered : Option (ℕ × Ordering)
  numbered = place_by number r

  unplaced : r ≡ None → numbered ≡ None
  unplaced e = ap (place_by number) e

  pub key_live : IsPlaceByKey cmp key k o numbered
      → IfSome r (λ a. IsSome (entry_in o (number a.0)))
  key_live place = if_answered number (λ i d. IsSome (entry_in o i)) r place.live

  pub key_empty : IsPlaceByKey cmp key k o numbered → r ≡ None → size_in o ≡ 0
  key_empty place e = place.none.0 (unplaced e)
