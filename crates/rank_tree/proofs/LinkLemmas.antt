-- What led to a node leads to another.
use Rattle.std.proofs.Common.{◌≡◌, ◌≢◌, ℕ, Option, Some, refl, sym, ap, ◌∙◌}
use Rattle.rank_tree.specs.NodeView.{NodeView}
use Rattle.rank_tree.specs.Store.{Store, Written, Relinked, with_child}
use Rattle.rank_tree.specs.declared.side.Side.{Side}
use Rattle.rank_tree.specs.declared.side.Side.TheVariants.{Left, Right}

seen : (v w : NodeView) → ◌≡◌ {A = Option NodeView} (Some v) (Some w) → v ≡ w
seen v w h = cc

numbered : (i j : ℕ) → ◌≡◌ {A = Option ℕ} (Some i) (Some j) → i ≡ j
numbered i j h = cc

-- the holder's child on the side of what left it
pub relinked : (n m : Store) (root holder : Option ℕ) (i from : ℕ) (to : Option ℕ) (k : NodeView)
    (s : Side) → holder ≡ Some i → n i ≡ Some k
    → (k.left ≡ Some from → s ≡ Left) → (k.left ≢ Some from → s ≡ Right)
    → ((v : NodeView) → n i ≡ Some v → Written n m i (with_child s to v))
    → Relinked n m root root holder from to
relinked n m root holder i from to k s at is on_left on_right w = record {
  at_top = λ none. absurd (cc);
  below = λ j e. refl;
  on_left = λ j v e there hand.
      let same : i ≡ j = numbered i j (sym at ∙ e) in
      let here : n i ≡ Some v = ap n same ∙ there in
      let it : k ≡ v = seen k v (sym is ∙ here) in
      sym (ap m same) ∙ (w v here).here
      ∙ ap (λ z. Some (with_child z to v)) (on_left (ap (λ z. z.left) it ∙ hand));
  on_right = λ j v e there hand.
      let same : i ≡ j = numbered i j (sym at ∙ e) in
      let here : n i ≡ Some v = ap n same ∙ there in
      let it : k ≡ v = seen k v (sym is ∙ here) in
      sym (ap m same) ∙ (w v here).here
      ∙ ap (λ z. Some (with_child z to v))
      (on_right (λ u. hand (sym (ap (λ z. z.left) it) ∙ u)));
  elsewhere = λ j other. (w k is).elsewhere j (λ same. other (at ∙ ap Some (sym same)));
}
