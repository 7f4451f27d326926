-- The links under new indexes, and the tree written anew along the list that they make.
use Rattle.std.proofs.Common.{◌≡◌, ℕ, List, [], ◌∷◌, length, map, IsSome, refl, sym, subst, ◌∙◌}
use Rattle.std.proofs.Common.{inl, inr}
use Rattle.std.proofs.lemmas.List.{length-map}
use Rattle.std.proofs.lemmas.Bool.Decides.{eqb_tells}
use Rattle.triple_arena.specs.Content.{Content, live_count}
use Rattle.triple_arena_chain.specs.LinkShape.{IndexLink}
use Rattle.linked_lists.specs.LinkedLists.{Ends, On, IsLinear}
use Rattle.linked_lists.specs.ChainLaws.{On-first, On-back, On-either, on_differs}
use Rattle.linked_lists.specs.Chains.{Linear}
use Rattle.triple_arena_chain.specs.Links.{ends_in}
use Rattle.triple_arena_chain.specs.Renaming.{FollowsRenaming}
use Rattle.std.specs.Prelude.{Option}
use Rattle.triple_arena_ord.specs.NodeShape.{IndexNode}
use Rattle.triple_arena_ord.specs.Node.{nodes_in, rest}
use Rattle.triple_arena_ord.specs.Ordered.{Ordered, IsOrdered, size_in, order_in}
use Rattle.triple_arena_ord.specs.Rebuilt.{IsRebuilt}
use Rattle.triple_arena_ord.proofs.WrittenListLemmas.{on_order, IsWritten, written}

on_mapped : (to : ℕ → ℕ) (xs : List ℕ) (i : ℕ) → On xs i → On (map to xs) (to i)
on_mapped to [] i on = absurd (on_differs [] i i on tt refl)
on_mapped to (x ∷ xs) i on =
    elim (On-either (x ∷ []) xs i on) [
      | inl here ↦ elim (eqb_tells x i) [
        | inl same ↦ subst (λ k. On (to x ∷ map to xs) (to k)) same.1 (On-first (to x) (map to xs))
        | inr other ↦ absurd
            (on_differs (x ∷ []) i i here (other.1, tt) refl)
      ]
      | inr there ↦ On-back (to x ∷ []) (map to xs) (to i) (on_mapped to xs i there)
    ]

-- each live index is on a list that is renamed, if it was on it before
pub on_renamed : (e f : ℕ → Option Ends) (to : ℕ → ℕ) (w : List ℕ) → FollowsRenaming to e f
    → ((i : ℕ) → IsSome (e i) → On w i)
    → (k : ℕ) → IsSome (f k) → On (map to w) k
on_renamed e f to w follows whole k some =
    let from = follows.onto k some in
    subst (On (map to w)) from.2 (on_mapped to w from.0 (whole from.0 from.1))

module _ {T : Type 0} (o : Ordered T)
    (mid : Content (IndexLink (IndexNode T))) (to : ℕ → ℕ) (is : IsOrdered o)
    (follows : FollowsRenaming to (ends_in o.chains) (ends_in mid))
    (live : live_count mid ≡ size_in o) where
  pub list_linear : IsLinear (ends_in mid) (map to (order_in o))
  list_linear = follows.lists (Linear (order_in o)) is.linear

  pub list_long : length (map to (order_in o)) ≡ live_count mid
  list_long = length-map (order_in o) to ∙ is.counted ∙ sym live

  -- each live index is on it
  pub on_list : (k : ℕ) → IsSome (ends_in mid k) → On (map to (order_in o)) k
  on_list k some = on_renamed (ends_in o.chains) (ends_in mid) to (order_in o)
      follows (on_order o is) k some

  -- what the rebuild leaves
  pub rewritten : (new : Ordered T) → rest new.chains ≡ rest mid
      → IsRebuilt (map to (order_in o)) new.root (nodes_in new.chains)
      → IsWritten mid (map to (order_in o)) list_linear on_list list_long new
  rewritten new keeps b =
      written mid (map to (order_in o)) list_linear on_list list_long new keeps b
