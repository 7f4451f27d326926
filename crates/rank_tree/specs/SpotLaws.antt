-- What the code of a turn reads.
use Rattle.std.proofs.Common.{◌≡◌, ◌≢◌, ℕ, min, max, Option, Some, None, refl, sym, ap, ◌∙◌, subst}
use Rattle.std.proofs.Common.{arith, rules, inl, inr, ◌⊎◌}
use Rattle.std.specs.Option.{IsSome, IfSome}
use Rattle.std.proofs.lemmas.Bool.{cases_eq, false≢true}
use Rattle.rank_tree.specs.NodeView.{NodeView}
use Rattle.rank_tree.specs.declared.side.Side.{Side}
use Rattle.rank_tree.specs.declared.side.Side.TheVariants.{Left, Right}
use Rattle.rank_tree.specs.Store.{Store, other_side, child_of, rank_or_link, rank_or_zero, Written}
use Rattle.rank_tree.specs.Store.{Reparented, Relinked, with_parent, with_child, with_rank}
use Rattle.rank_tree.specs.Tree.{Tree, leaf, node, walk, rank_of}
use Rattle.rank_tree.specs.Shape.{make, node_view, root_of, Context, top, under, holder, Represents}
use Rattle.rank_tree.specs.Shape.{Hangs, RepresentsTree}
use Rattle.rank_tree.specs.Repair.{Spot, turned, KeptOff}
use Rattle.rank_tree.specs.FrameLaws.{one-same, make-count, make-root, make-opens, plug-count}
use Rattle.rank_tree.specs.FrameLaws.{plug-opens, root-counted}
use Rattle.rank_tree.specs.TurnLaws.{turned_stands, turned_kept}

pub is_some : {A : Type 0} (o : Option A) (v : A) → o ≡ Some v → IsSome o
is_some o v e = rw e (search rules)

pub if_some : {A : Type 0} (o : Option A) (P : A → Type 0) → ((x : A) → o ≡ Some x → P x)
    → IfSome o P
if_some None P f = search rules
if_some (Some x) P f = f x refl

-- a write ends no slot
pub write-lives : (n m : Store) (i : ℕ) (v : NodeView) → Written n m i v → (j : ℕ) → IsSome (n j)
    → IsSome (m j)
write-lives n m i v w j h = elim (cases_eq j i) [
  | inl e ↦ rw e (is_some (m i) v w.here)
  | inr d ↦ rw (w.elsewhere j d) h
]

some_or_none : (o : Option ℕ) (j : ℕ) → (o ≡ Some j) ⊎ (o ≢ Some j)
some_or_none None j = inr (λ e. cc)
some_or_none (Some i) j
    = elim (cases_eq i j) [ inl e ↦ inl (ap (λ z. Some z) e) | inr d ↦ inr (λ e. d (cc)) ]

some_lives : (n m : Store) (o : Option NodeView) (f : NodeView → NodeView) (j : ℕ) → n j ≡ o
    → ((v : NodeView) → n j ≡ Some v → m j ≡ Some (f v)) → IsSome o → IsSome (m j)
some_lives n m None f j e g h = absurd (false≢true h)
some_lives n m (Some v) f j e g h = is_some (m j) (f v) (g v e)

pub reparent-lives : (n m : Store) (link p : Option ℕ) → Reparented n m link p → (j : ℕ)
    → IsSome (n j) → IsSome (m j)
reparent-lives n m link p w j h = elim (some_or_none link j) [
  | inl e ↦ some_lives n m (n j) (with_parent p) j refl (λ v q. w.here j v e q) h
  | inr d ↦ rw (w.elsewhere j d) h
]

pub root-lives : (n : Store) (p : Option ℕ) (t : Tree) (i : ℕ) → Represents n p t
    → root_of t ≡ Some i → IsSome (n i)
root-lives n p leaf i h e = cc
root-lives n p (node l x k r) i h e = let f : x ≡ i = cc in rw (← f) (is_some (n x) _ h.0)

pub holder-lives : (n : Store) (root : Option ℕ) (c : Context) (link : Option ℕ) (i : ℕ)
    → Hangs n root c link → holder c ≡ Some i → IsSome (n i)
holder-lives n root top link i h e = cc
holder-lives n root (under c s x k far) link i h e = let f : x ≡ i =
    cc in rw (← f) (is_some (n x) _ h.0)

pub record Spotted (n : Store) (root : Option ℕ) (low : ℕ) (spot : Spot n root low) : Type 0 where
  pub at_low : n low ≡ Some
      (node_view spot.side (Some spot.high) (root_of spot.outer) spot.low_rank (root_of spot.inner))
  pub at_high : n spot.high
      ≡ Some (node_view spot.side (holder spot.context) (Some low) spot.high_rank
      (root_of spot.far))
  pub outer_lives : (i : ℕ) → root_of spot.outer ≡ Some i → IsSome (n i)
  pub inner_lives : (i : ℕ) → root_of spot.inner ≡ Some i → IsSome (n i)
  pub holder_lives : (i : ℕ) → holder spot.context ≡ Some i → IsSome (n i)
  pub outer_stands : Represents n (Some low) spot.outer
  pub inner_stands : Represents n (Some low) spot.inner
  pub far_stands : Represents n (Some spot.high) spot.far
  pub far_other : root_of spot.far ≢ Some low

pub spotted : (n : Store) (root : Option ℕ) (low : ℕ) (spot : Spot n root low)
    → Spotted n root low spot
spotted n root low spot =
    let below = make spot.side spot.outer low spot.low_rank spot.inner in
    let whole = make spot.side below spot.high spot.high_rank spot.far in
    let e0 = plug-opens n root spot.context whole spot.stands in
    let e1 = make-opens spot.side n (holder spot.context) below spot.high spot.high_rank
    spot.far e0.1 in
    let e2 = make-opens spot.side n (Some spot.high) spot.outer low spot.low_rank spot.inner e1.1 in
    let root_is = make-root spot.side spot.outer low spot.low_rank spot.inner in
    record {
      at_low = e2.0;
      at_high = e1.0 ∙ ap (λ z. Some
          (node_view spot.side (holder spot.context) z spot.high_rank (root_of spot.far))) root_is;
      outer_lives = λ i e. root-lives n (Some low) spot.outer i e2.1 e;
      inner_lives = λ i e. root-lives n (Some low) spot.inner i e2.2 e;
      holder_lives = λ i e. holder-lives n root spot.context _ i e0.0 e;
      outer_stands = e2.1;
      inner_stands = e2.2;
      far_stands = e1.2;
      far_other = λ e.
          let o = spot.distinct.once low in
          let p = plug-count spot.context low whole in
          let q = make-count spot.side low below spot.high spot.high_rank spot.far in
          let r = make-count spot.side low spot.outer low spot.low_rank spot.inner in
          let f = one-same low in let g = root-counted spot.far low e in absurd (omega arith);
    }

-- the link to a tree tells its rank
pub rank_link : (n : Store) (p : Option ℕ) (t : Tree) → Represents n p t
    → rank_or_link n (root_of t) ≡ rank_of t
rank_link n p leaf h = refl
rank_link n p (node l i k r) h = ap rank_or_zero h.0

pub node_ranked : (s : Side) (p a : Option ℕ) (k j : ℕ) (b : Option ℕ)
    → with_rank j (node_view s p a k b) ≡ node_view s p a j b
node_ranked Left p a k j b = refl
node_ranked Right p a k j b = refl

pub node_parent : (s : Side) (p a : Option ℕ) (k : ℕ) (b : Option ℕ)
    → (node_view s p a k b).parent ≡ p
node_parent Left p a k b = refl
node_parent Right p a k b = refl

node_near : (s : Side) (p a : Option ℕ) (k : ℕ) (b : Option ℕ)
    → child_of s (node_view s p a k b) ≡ a
node_near Left p a k b = refl
node_near Right p a k b = refl

node_other : (s : Side) (p a : Option ℕ) (k : ℕ) (b : Option ℕ)
    → child_of (other_side s) (node_view s p a k b) ≡ b
node_other Left p a k b = refl
node_other Right p a k b = refl

abbrev placed : Option ℕ → ℕ → NodeView → NodeView
placed p k v = record v { parent = p; rank = k }

node_near_with : (s : Side) (p a : Option ℕ) (k : ℕ) (b z q : Option ℕ) (j : ℕ)
    → placed q j (with_child s z (node_view s p a k b)) ≡ node_view s q z j b
node_near_with Left p a k b z q j = refl
node_near_with Right p a k b z q j = refl

node_far_with : (s : Side) (p a : Option ℕ) (k : ℕ) (b z q : Option ℕ) (j : ℕ)
    → placed q j (with_child (other_side s) z (node_view s p a k b)) ≡ node_view s q a j z
node_far_with Left p a k b z q j = refl
node_far_with Right p a k b z q j = refl

-- which side the code finds
side_found : (s t : Side) (p : Option ℕ) (x k : ℕ) (b : Option ℕ) → b ≢ Some x
    → ((node_view s p (Some x) k b).left ≡ Some x → t ≡ Left)
    → ((node_view s p (Some x) k b).left ≢ Some x → t ≡ Right) → t ≡ s
side_found Left t p x k b d f g = f refl
side_found Right t p x k b d f g = g d

written_same : (n m : Store) (i j : ℕ) (v w : NodeView) → i ≡ j → v ≡ w → Written n m i v
    → Written n m j w
written_same n m i j v w e f h = subst (λ z. Written n m z w) e (subst (λ z. Written n m i z) f h)

reparented_same : (n m : Store) (l k : Option ℕ) (i j : ℕ) → l ≡ k → i ≡ j
    → Reparented n m l (Some i) → Reparented n m k (Some j)
reparented_same n m l k i j e f h = subst (λ z. Reparented n m k (Some z)) f
    (subst (λ z. Reparented n m z (Some i)) e h)

relinked_same : (n m : Store) (r q : Option ℕ) (l k : Option ℕ) (i j : ℕ) (to : Option ℕ) → l ≡ k
    → i ≡ j → Relinked n m r q l i to → Relinked n m r q k j to
relinked_same n m r q l k i j to e f h = subst (λ z. Relinked n m r q k z to) f
    (subst (λ z. Relinked n m r q z i to) e h)

-- the code of a turn, over what it read
pub turn_works : (n n1 n2 n3 n4 : Store) (root new_root : Option ℕ) (low jx jy : ℕ)
    (below above : NodeView) (high : ℕ) (t : Side) (middle : Option ℕ) (lowered raised : NodeView)
    → n low ≡ Some below → below.parent ≡ Some high → n high ≡ Some above
    → ((spot : Spot n root low) → t ≡ spot.side)
    → middle ≡ child_of (other_side t) below
    → lowered ≡ with_child t middle above
    → raised ≡ with_child (other_side t) (Some high) below
    → Written n n1 high (record lowered { parent = Some low; rank = jy })
    → Reparented n1 n2 middle (Some high)
    → Written n2 n3 low (record raised { parent = above.parent; rank = jx })
    → Relinked n3 n4 root new_root above.parent high (Some low)
    → (spot : Spot n root low) → RepresentsTree n4 new_root (turned spot jx jy)
    × KeptOff (walk (turned spot jx jy)) n n4
turn_works n n1 n2 n3 n4 root new_root low jx jy below above high t middle lowered raised eb eh ea
    side em el er w1 w2 w3 w4 spot =
    let f = spotted n root low spot in
    let s = spot.side in
    let below_is : below ≡ node_view s (Some spot.high) (root_of spot.outer) spot.low_rank
    (root_of spot.inner) = cc f.at_low in
    let high_is : high ≡ spot.high =
    cc (
      ap (λ v. v.parent) below_is,
      node_parent s (Some spot.high) (root_of spot.outer) spot.low_rank (root_of spot.inner),
    ) in
    let above_is : above ≡ node_view s (holder spot.context) (Some low) spot.high_rank
    (root_of spot.far) = cc (f.at_high, ap n high_is) in
    let parent_is : above.parent ≡ holder spot.context =
    ap (λ v. v.parent) above_is ∙ node_parent s (holder spot.context) (Some low) spot.high_rank
    (root_of spot.far) in
    let side_is : t ≡ s = side spot in
    let middle_is : middle ≡ root_of spot.inner =
    em ∙ ap (λ z. child_of (other_side z) below) side_is ∙ ap
    (λ v. child_of (other_side s) v) below_is ∙ node_other s (Some spot.high)
    (root_of spot.outer) spot.low_rank (root_of spot.inner) in
    let lowered_is : lowered
    ≡ with_child s (root_of spot.inner)
    (node_view s (holder spot.context) (Some low) spot.high_rank (root_of spot.far)) = cc in
    let raised_is : raised ≡ with_child (other_side s) (Some spot.high)
    (node_view s (Some spot.high) (root_of spot.outer) spot.low_rank (root_of spot.inner)) = cc in
    let v1 : record lowered { parent = Some low; rank = jy }
    ≡ node_view s (Some low) (root_of spot.inner) jy (root_of spot.far) =
    ap (placed (Some low) jy) lowered_is ∙ node_near_with s _ _ _ _ _ _ _ in
    let v3 : record raised { parent = above.parent; rank = jx }
    ≡ node_view s (holder spot.context) (root_of spot.outer) jx (Some spot.high) =
    ap (placed above.parent jx) raised_is ∙ node_far_with s _ _ _ _ _ _ _ ∙ ap
    (λ p. node_view s p (root_of spot.outer) jx (Some spot.high)) parent_is in
    let at_high = written_same n n1 high spot.high _ _ high_is v1 w1 in
    let moved = reparented_same n1 n2 middle (root_of spot.inner) high spot.high middle_is
    high_is w2 in
    let at_low = written_same n2 n3 low low _ _ refl v3 w3 in
    let hung = relinked_same n3 n4 root new_root above.parent (holder spot.context) high spot.high
    (Some low) parent_is high_is w4 in (
      turned_stands n n1 n2 n3 n4 root new_root spot.context s spot.outer low spot.low_rank
          spot.inner spot.high spot.high_rank spot.far jx jy
          at_high moved at_low hung spot.distinct spot.stands,
      turned_kept n n1 n2 n3 n4 root new_root spot.context s spot.outer low spot.inner spot.high
          spot.far jx jy _ _ at_high moved at_low hung,
    )

-- what the code of a turn asks for
pub spot_low : (n : Store) (root : Option ℕ) (low : ℕ) → Spot n root low → IsSome (n low)
spot_low n root low spot = is_some (n low) _ (spotted n root low spot).at_low

pub spot_parent : (n : Store) (root : Option ℕ) (low : ℕ) (below : NodeView) → n low ≡ Some below
    → (spot : Spot n root low) → below.parent ≡ Some spot.high
spot_parent n root low below e spot =
    let f = spotted n root low spot in
    let is : below ≡ node_view spot.side (Some spot.high) (root_of spot.outer) spot.low_rank
    (root_of spot.inner) = cc f.at_low in
    ap (λ v. v.parent) is ∙ node_parent spot.side (Some spot.high)
    (root_of spot.outer) spot.low_rank (root_of spot.inner)

pub spot_high : (n : Store) (root : Option ℕ) (low : ℕ) (below : NodeView) (high : ℕ)
    → n low ≡ Some below → below.parent ≡ Some high → Spot n root low → IsSome (n high)
spot_high n root low below high e p spot =
    let f = spotted n root low spot in
    let is : high ≡ spot.high = cc (spot_parent n root low below e spot) in
    rw is (is_some (n spot.high) _ f.at_high)

pub spot_child_of : (s z : Side) (p a : Option ℕ) (k : ℕ) (b : Option ℕ) (i : ℕ)
    → child_of z (node_view s p a k b) ≡ Some i → (a ≡ Some i) ⊎ (b ≡ Some i)
spot_child_of Left Left p a k b i e = inl e
spot_child_of Left Right p a k b i e = inr e
spot_child_of Right Left p a k b i e = inr e
spot_child_of Right Right p a k b i e = inl e

pub spot_child : (n : Store) (root : Option ℕ) (low : ℕ) (below : NodeView) (z : Side)
    → n low ≡ Some below → Spot n root low → (i : ℕ) → child_of z below ≡ Some i → IsSome (n i)
spot_child n root low below z e spot i g =
    let f = spotted n root low spot in
    let is : below ≡ node_view spot.side (Some spot.high) (root_of spot.outer) spot.low_rank
    (root_of spot.inner) = cc f.at_low in
    elim (spot_child_of spot.side z (Some spot.high) (root_of spot.outer) spot.low_rank
    (root_of spot.inner) i (subst (λ v. child_of z v ≡ Some i) is g)) [
      | inl h ↦ f.outer_lives i h
      | inr h ↦ f.inner_lives i h
    ]

pub spot_holder : (n : Store) (root : Option ℕ) (low : ℕ) (below above : NodeView) (high : ℕ)
    → n low ≡ Some below → below.parent ≡ Some high → n high ≡ Some above
    → Spot n root low → (i : ℕ) → above.parent ≡ Some i → IsSome (n i)
spot_holder n root low below above high e p g spot i h =
    let f = spotted n root low spot in
    let high_is : high ≡ spot.high = cc (spot_parent n root low below e spot) in
    let above_is : above ≡ node_view spot.side (holder spot.context) (Some low) spot.high_rank
    (root_of spot.far) = cc (f.at_high, ap n high_is) in
    let parent_is : above.parent ≡ holder spot.context =
    ap (λ v. v.parent) above_is ∙ node_parent spot.side (holder spot.context)
    (Some low) spot.high_rank (root_of spot.far) in
    f.holder_lives i (sym parent_is ∙ h)

pub node_rank : (s : Side) (p a : Option ℕ) (k : ℕ) (b : Option ℕ) → (node_view s p a k b).rank ≡ k
node_rank Left p a k b = refl
node_rank Right p a k b = refl

-- what `rank_at` answers at a tree
pub rank_read : (n : Store) (p : Option ℕ) (t : Tree) (link : Option ℕ) (r : ℕ) → link ≡ root_of t
    → Represents n p t
    → ((i : ℕ) → link ≡ Some i → IfSome (n i) (λ v. r ≡ v.rank)) → (link ≡ None → r ≡ 0)
    → r ≡ rank_of t
rank_read n p leaf link r e h f g = g e
rank_read n p (node a i k b) link r e h f g = subst (λ o. IfSome o (λ v. r ≡ v.rank)) h.0 (f i e)

-- the ranks of the children of a node, as they were read on the left and on the right
pub record BothRanks (l r a b : ℕ) : Type 0 where
  pub lower : min l r ≡ min a b
  pub higher : max l r ≡ max a b

pub both_ranks : (s : Side) (n : Store) (p : Option ℕ) (t : Tree) (i k : ℕ) (far : Tree)
    (v : NodeView)
    (l r : ℕ) → n i ≡ Some v
    → ((j : ℕ) → v.left ≡ Some j → IfSome (n j) (λ x. l ≡ x.rank)) → (v.left ≡ None → l ≡ 0)
    → ((j : ℕ) → v.right ≡ Some j → IfSome (n j) (λ x. r ≡ x.rank)) → (v.right ≡ None → r ≡ 0)
    → Represents n p (make s t i k far) → BothRanks l r (rank_of t) (rank_of far)
both_ranks Left n p t i k far v l r e ls ln rs rn h =
    let is : v ≡ node_view Left p (root_of t) k (root_of far) = cc h.0 in
    let f = rank_read n (Some i) t v.left l (ap (λ x. x.left) is) h.1 ls ln in
    let g = rank_read n (Some i) far v.right r (ap (λ x. x.right) is) h.2 rs rn in
    record { lower = omega arith; higher = omega arith }
both_ranks Right n p t i k far v l r e ls ln rs rn h =
    let is : v ≡ node_view Right p (root_of t) k (root_of far) = cc h.0 in
    let f = rank_read n (Some i) far v.left l (ap (λ x. x.left) is) h.1 ls ln in
    let g = rank_read n (Some i) t v.right r (ap (λ x. x.right) is) h.2 rs rn in
    record { lower = omega arith; higher = omega arith }

-- what the code reads round a node and its parent
pub record Reads (n : Store) (root : Option ℕ) (low : ℕ) (spot : Spot n root low)
    (below above : NodeView) (high : ℕ) (t : Side) : Type 0 where
  pub high_is : high ≡ spot.high
  pub side_is : t ≡ spot.side
  pub low_rank_is : below.rank ≡ spot.low_rank
  pub high_rank_is : above.rank ≡ spot.high_rank
  pub outer_is : child_of t below ≡ root_of spot.outer
  pub inner_is : child_of (other_side t) below ≡ root_of spot.inner
  pub far_is : child_of (other_side t) above ≡ root_of spot.far
  pub holder_is : above.parent ≡ holder spot.context

pub reads : (n : Store) (root : Option ℕ) (low : ℕ) (spot : Spot n root low)
    (below above : NodeView)
    (high : ℕ) (t : Side)
    → n low ≡ Some below → below.parent ≡ Some high → n high ≡ Some above
    → (above.left ≡ Some low → t ≡ Left) → (above.left ≢ Some low → t ≡ Right)
    → Reads n root low spot below above high t
reads n root low spot below above high t eb eh ea left right =
    let f = spotted n root low spot in
    let s = spot.side in
    let below_is : below ≡ node_view s (Some spot.high) (root_of spot.outer) spot.low_rank
    (root_of spot.inner) = cc f.at_low in
    let high_is : high ≡ spot.high =
    cc (
      ap (λ v. v.parent) below_is,
      node_parent s (Some spot.high) (root_of spot.outer) spot.low_rank (root_of spot.inner),
    ) in
    let above_is : above ≡ node_view s (holder spot.context) (Some low) spot.high_rank
    (root_of spot.far) = cc (f.at_high, ap n high_is) in
    let side_is : t ≡ s = side_found s t (holder spot.context) low spot.high_rank
    (root_of spot.far) f.far_other (subst (λ v. v.left ≡ Some low → t ≡ Left) above_is left)
    (subst (λ v. v.left ≢ Some low → t ≡ Right) above_is right) in
    record {
      high_is = high_is;
      side_is = side_is;
      low_rank_is = ap (λ v. v.rank) below_is ∙ node_rank s _ _ _ _;
      high_rank_is = ap (λ v. v.rank) above_is ∙ node_rank s _ _ _ _;
      outer_is = ap (λ z. child_of z below) side_is ∙ ap (λ v. child_of s v) below_is ∙ node_near s
          (Some spot.high) (root_of spot.outer) spot.low_rank (root_of spot.inner);
      inner_is = ap (λ z. child_of (other_side z) below) side_is ∙ ap
          (λ v. child_of (other_side s) v) below_is ∙ node_other s (Some spot.high)
          (root_of spot.outer) spot.low_rank (root_of spot.inner);
      far_is = ap (λ z. child_of (other_side z) above) side_is ∙ ap
          (λ v. child_of (other_side s) v) above_is ∙ node_other s (holder spot.context)
          (Some low) spot.high_rank (root_of spot.far);
      holder_is = ap (λ v. v.parent) above_is ∙ node_parent s (holder spot.context)
          (Some low) spot.high_rank (root_of spot.far);
    }

pub spot_far : (n : Store) (root : Option ℕ) (low : ℕ) (spot : Spot n root low)
    (below above : NodeView)
    (high : ℕ) (t : Side)
    → Reads n root low spot below above high t → (i : ℕ) → child_of (other_side t) above ≡ Some i
    → IsSome (n i)
spot_far n root low spot below above high t r i e = root-lives n (Some spot.high) spot.far i
    (spotted n root low spot).far_stands (sym r.far_is ∙ e)
