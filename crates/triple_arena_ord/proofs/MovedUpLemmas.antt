-- What leaves the tree for a node: the node itself, or the next one, which takes its place.
use Rattle.std.proofs.Common.{◌≡◌, ℕ, ◌^◌, ◌<◌, Option, Some, None, IsSome, refl, sym, ◌∙◌, subst}
use Rattle.std.specs.Prelude.{unwrap_or}
use Rattle.std.specs.Option.{option_map}
use Rattle.rank_tree.specs.NodeView.{NodeView}
use Rattle.rank_tree.specs.Repair.{Loose}
use Rattle.triple_arena.specs.Content.{live_count}
use Rattle.linked_lists.specs.LinkedLists.{next_at}
use Rattle.triple_arena_chain.specs.Links.{ends_in}
use Rattle.triple_arena_ord.specs.Node.{nodes_in}
use Rattle.triple_arena_ord.specs.Ordered.{Ordered, IsOrdered}
use Rattle.triple_arena_ord.proofs.SuccessorLemmas.{Over, successor, over_at}
use Rattle.triple_arena_ord.proofs.UprootingLemmas.{Out, out}

module _ {T : Type 0} where
  -- the index that leaves, and what moves up
  abbrev pub Way : Ordered T → ℕ → ℕ → Option ℕ → Type 0
  Way o h leaves None = (leaves ≡ h) × Out o h
  Way o h leaves (Some n) = (leaves ≡ n) × Over o h n

  pub way_loose : (o : Ordered T) (h leaves : ℕ) (moved : Option ℕ) → Way o h leaves moved
      → Loose (nodes_in o.chains) o.root leaves
  way_loose o h leaves None way =
      subst (Loose (nodes_in o.chains) o.root) (sym way.0) way.1.loose
  way_loose o h leaves (Some n) way =
      subst (Loose (nodes_in o.chains) o.root) (sym way.0) way.1.loose

module _ {I T : Type 0} (number : I → ℕ) where
  pub way_up : (o : Ordered T) → IsOrdered o → (gone : I) → live_count o.chains < 2 ^ 64
      → IsSome (nodes_in o.chains (number gone))
      → (v : NodeView) → nodes_in o.chains (number gone) ≡ Some v
      → (right moved next : Option I) → option_map number right ≡ v.right
      → (right ≡ None → moved ≡ None) → (IsSome right → moved ≡ next)
      → next_at (ends_in o.chains) (number gone) ≡ option_map number next
      → Way o (number gone) (number (unwrap_or moved gone)) (option_map number moved)
  way_up o is gone small lives v at None moved next right none some after =
      rw (none refl) (refl, out o is (number gone) small lives v at (sym right))
  way_up o is gone small lives v at (Some x) moved next right none some after =
      by next (some refl) after
    where
      by : (next : Option I) → moved ≡ next
          → next_at (ends_in o.chains) (number gone) ≡ option_map number next
          → Way o (number gone) (number (unwrap_or moved gone)) (option_map number moved)
      by None up after =
          let s = successor o is (number gone) small lives v at (number x) (sym right) in
          absurd (let no : Some s.index ≡ None = sym s.next ∙ after in cc)
      by (Some y) up after =
          let s = successor o is (number gone) small lives v at (number x) (sym right) in
          rw up (refl, over_at o (number gone) (number y) s after)
