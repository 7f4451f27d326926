-- A write of a node, as the tree sees it.
use Rattle.std.proofs.Common.{◌≡◌, ℕ, Option, Some, None, IsSome, refl, sym, ap, ◌∙◌, subst}
use Rattle.std.specs.Option.{option_map}
use Rattle.std.proofs.lemmas.Bool.{eq-eqb, ne_eqb}
use Rattle.triple_arena.specs.Content.{Content}
use Rattle.triple_arena_chain.specs.LinkShape.{IndexLink}
use Rattle.triple_arena_chain.specs.Links.{values_in, with_value_in}
use Rattle.triple_arena_chain.specs.LinkLaws.{values-with_value_in}
use Rattle.triple_arena_ord.specs.NodeShape.{IndexNode}
use Rattle.triple_arena_ord.specs.Node.{nodes_in, view_of}
use Rattle.rank_tree.specs.NodeView.{NodeView}
use Rattle.rank_tree.specs.Store.{Written}

seen : (v w : NodeView) → ◌≡◌ {A = Option NodeView} (Some v) (Some w) → v ≡ w
seen v w h = cc

module _ {T : Type 0} where
  abbrev node_view : ℕ × IndexNode T → NodeView
  node_view entry = view_of entry.1

  abbrev renewed : IndexNode T → ℕ × IndexNode T → ℕ × IndexNode T
  renewed v entry = (entry.0, v)

  written_here : (v : IndexNode T) (o : Option (ℕ × IndexNode T)) → IsSome (option_map node_view o)
      → option_map node_view (option_map (renewed v) o) ≡ Some (view_of v)
  written_here v None h = absurd (cc)
  written_here v (Some e) h = refl

  pub written : (c : Content (IndexLink (IndexNode T))) (i : ℕ) (v : IndexNode T)
      → IsSome (nodes_in c i)
      → Written (nodes_in c) (nodes_in (with_value_in c i v)) i (view_of v)
  written c i v lives = record {
    here = ap (option_map node_view) (values-with_value_in c i v i)
        ∙ rw (eq-eqb i i refl) (written_here v (values_in c i) lives);
    elsewhere = λ j other. ap (option_map node_view) (values-with_value_in c i v j)
        ∙ rw (ne_eqb j i other) refl;
  }

  there : (u : IndexNode T) (o : Option (ℕ × IndexNode T)) → option_map (λ e. e.1) o ≡ Some u
      → option_map node_view o ≡ Some (view_of u)
  there u None h = absurd (cc)
  there u (Some e) h = let z : e.1 ≡ u = cc in ap (λ n. Some (view_of n)) z

  -- a write of one field
  pub written_in : (c : Content (IndexLink (IndexNode T))) (i : ℕ) (u v : IndexNode T)
      (k : NodeView → NodeView)
      → IsSome (nodes_in c i) → option_map (λ e. e.1) (values_in c i) ≡ Some u
      → view_of v ≡ k (view_of u)
      → (w : NodeView) → nodes_in c i ≡ Some w
      → Written (nodes_in c) (nodes_in (with_value_in c i v)) i (k w)
  written_in c i u v k lives is same w at =
      let it : view_of u ≡ w =
      seen (view_of u) w (sym (there u (values_in c i) is) ∙ at) in
      subst (Written (nodes_in c) (nodes_in (with_value_in c i v)) i) (same ∙ ap k it)
      (written c i v lives)
