-- The climb after an insertion.
use Rattle.std.proofs.Common.{◌≡◌, ℕ, ◌+◌, ◌-◌, ◌^◌, ◌<◌, ◌≤◌, min, List, length, ◌∷◌, Option, Some}
use Rattle.std.proofs.Common.{None, refl, sym, ap, ◌∙◌, subst, arith, inl, inr, length-append}
use Rattle.std.specs.Option.{IsSome, IfSome}
use Rattle.rank_tree.specs.NodeView.{NodeView}
use Rattle.rank_tree.specs.declared.side.Side.{Side}
use Rattle.rank_tree.specs.declared.side.Side.TheVariants.{Left, Right}
use Rattle.rank_tree.specs.Store.{Store, other_side, child_of, Written, with_rank, rank_in}
use Rattle.rank_tree.specs.Store.{rank_or_zero}
use Rattle.rank_tree.specs.Tree.{Tree, leaf, node, walk, size, rank_of, IsRanked, Fits}
use Rattle.rank_tree.specs.Shape.{make, near_of, node_view, root_of, Context, top, under, plug}
use Rattle.rank_tree.specs.Shape.{holder, Hangs, RepresentsTree, one, count, count_round}
use Rattle.rank_tree.specs.Shape.{IsDistinct}
use Rattle.rank_tree.specs.Repair.{Spot, IsRankedRound, Restored, Grown, Leaning, KeptOff}
use Rattle.rank_tree.specs.BoundLaws.{small_rank}
use Rattle.rank_tree.specs.FrameLaws.{one-same, Represents-keep, Hangs-keep, make-count, make-root}
use Rattle.rank_tree.specs.FrameLaws.{make-rank, make-opens, make-closes, plug-count, plug-opens}
use Rattle.rank_tree.specs.FrameLaws.{plug-closes, plug-walk, IsDistinct-walk, write-elsewhere}
use Rattle.rank_tree.specs.FrameLaws.{write_kept}
use Rattle.rank_tree.specs.SpotLaws.{is_some, root-lives, node_rank, node_ranked, both_ranks}
use Rattle.rank_tree.specs.SpotLaws.{spot_child_of, spotted}
use Rattle.rank_tree.specs.TurningLaws.{make-ranked, make-ranked-opens, restored}

-- one node gets another rank
pub ranked-write : (n m : Store) (root : Option ℕ) (c : Context) (s : Side) (t : Tree) (y k j : ℕ)
    (far : Tree)
    → Written n m y (node_view s (holder c) (root_of t) j (root_of far))
    → IsDistinct (plug c (make s t y k far))
    → RepresentsTree n root (plug c (make s t y k far))
    → RepresentsTree m root (plug c (make s t y j far))
ranked-write n m root c s t y k j far w distinct h =
    let once : (i : ℕ) → count_round i c + (count i t + one i y + count i far) ≤ 1 = λ i.
    let o = distinct.once i in let p = plug-count c i (make s t y k far) in let q =
    make-count s i t y k far in omega arith in
    let f = one-same y in
    let same : (i : ℕ) → one i y ≡ 0 → m i ≡ n i = λ i z. write-elsewhere n m y _ w i z in
    let e0 = plug-opens n root c (make s t y k far) h in
    let e1 = make-opens s n (holder c) t y k far e0.1 in
    let round = Hangs-keep n m root c (root_of (make s t y k far))
    (λ i z. let o = once i in same i (omega arith)) e0.0 in
    plug-closes m root c (make s t y j far)
    (subst (λ z. Hangs m root c z) (make-root s t y k far ∙ sym (make-root s t y j far)) round)
    (make-closes s m (holder c) t y j far w.here
    (Represents-keep n m (Some y) t (λ i z. let o = once i in same i (omega arith)) e1.1)
    (Represents-keep n m (Some y) far (λ i z. let o = once i in same i (omega arith)) e1.2))

pub same-walk-rank : (s : Side) (t : Tree) (y k j : ℕ) (far : Tree)
    → walk (make s t y k far) ≡ walk (make s t y j far)
same-walk-rank Left t y k j far = refl
same-walk-rank Right t y k j far = refl

pub as_make : (s : Side) (l : Tree) (i k : ℕ) (r : Tree)
    → node l i k r ≡ make s (near_of s l r) i k (near_of (other_side s) l r)
as_make Left l i k r = refl
as_make Right l i k r = refl

pub as_node : (s : Side) (a : Tree) (i k : ℕ) (b : Tree)
    → make s a i k b ≡ node (near_of s a b) i k (near_of (other_side s) a b)
as_node Left a i k b = refl
as_node Right a i k b = refl

pub near_ranks : (s : Side) (a b : Tree)
    → rank_of (near_of s a b) + rank_of (near_of (other_side s) a b) ≡ rank_of a + rank_of b
near_ranks Left a b = refl
near_ranks Right a b = omega arith

-- a context with a parent
pub record OpenedRound (c : Context) (i : ℕ) : Type 0 where
  pub above : Context
  pub side : Side
  pub rank : ℕ
  pub far : Tree
  pub is : c ≡ under above side i rank far

pub open_round : (c : Context) (i : ℕ) → holder c ≡ Some i → OpenedRound c i
open_round top i e = absurd (cc)
open_round (under c s x k far) i e = let f : x ≡ i =
    cc in record { above = c; side = s; rank = k; far = far; is = ap (λ z. under c s z k far) f }

pub open_top : (c : Context) → holder c ≡ None → c ≡ top
open_top top e = refl
open_top (under c s x k far) e = absurd (cc)

pub size-walk : (t : Tree) → size t ≡ length (walk t)
size-walk leaf = refl
size-walk (node l i k r) = let p = size-walk l in let q =
    size-walk r in omega (arith, length-append (walk l) (i ∷ walk r))

pub size-make : (s : Side) (a : Tree) (i k : ℕ) (b : Tree)
    → size (make s a i k b) ≡ size a + size b + 1
size-make Left a i k b = refl
size-make Right a i k b = omega arith

size-plug : (c : Context) (t : Tree) → size t ≤ size (plug c t)
size-plug top t = omega arith
size-plug (under c s i k far) t = let p = size-plug c (make s t i k far) in let q =
    size-make s t i k far in omega arith

pub plug-small : (c : Context) (t : Tree) (w : List ℕ) → IsRanked t → walk (plug c t) ≡ w
    → length w < 2 ^ 64 → rank_of t ≤ 127
plug-small c t w h e s
    = small_rank t h (let p = size-plug c t in let q = size-walk (plug c t) in let r =
    ap length e in omega arith)

-- a grown subtree below a parent, seen from its side
pub record Climbing (n : Store) (root : Option ℕ) (low : ℕ) (w : List ℕ) (high : ℕ) : Type 0 where
  pub context : Context
  pub side : Side
  pub outer : Tree
  pub rank : ℕ
  pub inner : Tree
  pub high_rank : ℕ
  pub far : Tree
  pub hole : ℕ
  pub one_more : rank ≡ hole + 1
  pub leaning : 2 ≤ rank → rank_of outer + rank_of inner + 3 ≡ rank + rank
  pub distinct : IsDistinct
      (plug context (make side (make side outer low rank inner) high high_rank far))
  pub stands : RepresentsTree n root
      (plug context (make side (make side outer low rank inner) high high_rank far))
  pub fits : Fits (rank_of outer) rank (rank_of inner)
  pub outer_ranked : IsRanked outer
  pub inner_ranked : IsRanked inner
  pub high_fits : Fits hole high_rank (rank_of far)
  pub far_ranked : IsRanked far
  pub round : IsRankedRound context high_rank
  pub is_walk : walk (plug context (make side (make side outer low rank inner) high high_rank far))
      ≡ w
  pub small : length w < 2 ^ 64

pub grown_node : (n : Store) (root : Option ℕ) (low : ℕ) (w : List ℕ) (h : Grown n root low w)
    → n low ≡ Some (node_view Left (holder h.context) (root_of h.left) h.rank (root_of h.right))
grown_node n root low w h
    = (plug-opens n root h.context (node h.left low h.rank h.right) h.stands).1.0

pub grown_under : (n : Store) (root : Option ℕ) (low high : ℕ) (below : NodeView) (w : List ℕ)
    → n low ≡ Some below → below.parent ≡ Some high → Grown n root low w
    → Climbing n root low w high
grown_under n root low high below w eb eh h =
    let below_is : below ≡ node_view Left (holder h.context) (root_of h.left) h.rank
    (root_of h.right) =
    cc (grown_node n root low w h) in
    let v = open_round h.context high (ap (λ v. v.parent) (sym below_is) ∙ eh) in
    let s = v.side in
    let t = make s (near_of s h.left h.right) low h.rank (near_of (other_side s) h.left h.right) in
    let t_is : node h.left low h.rank h.right ≡ t = as_make s h.left low h.rank h.right in
    let whole_is : plug h.context (node h.left low h.rank h.right)
    ≡ plug v.above (make s t high v.rank v.far) =
    ap (λ c. plug c (node h.left low h.rank h.right)) v.is ∙ ap
    (λ z. plug v.above (make s z high v.rank v.far)) t_is in
    let parts = make-ranked-opens s (near_of s h.left h.right) low h.rank
    (near_of (other_side s) h.left h.right) (subst IsRanked t_is h.ranked) in
    let round : IsRankedRound (under v.above s high v.rank v.far) h.hole =
    subst (λ c. IsRankedRound c h.hole) v.is h.round in
    let sum = near_ranks s h.left h.right in
    let leaning = h.leaning in
    record {
      context = v.above;
      side = s;
      outer = near_of s h.left h.right;
      rank = h.rank;
      inner = near_of (other_side s) h.left h.right;
      high_rank = v.rank;
      far = v.far;
      hole = h.hole;
      one_more = h.one_more;
      leaning = λ z. sum_is _ _ _ sum (h.leaning z);
      distinct = subst IsDistinct whole_is h.distinct;
      stands = subst (RepresentsTree n root) whole_is h.stands;
      fits = parts.fits;
      outer_ranked = parts.near;
      inner_ranked = parts.far;
      high_fits = round.0;
      far_ranked = round.1;
      round = round.2;
      is_walk = ap walk (sym whole_is) ∙ h.is_walk;
      small = h.small;
    }
  where
    sum_is : (a b c : ℕ) → a ≡ b → b + 3 ≡ c → a + 3 ≡ c
    sum_is a b c e f = omega arith

abbrev pub climb_spot : (n : Store) (root : Option ℕ) (low high : ℕ) (w : List ℕ)
    → Climbing n root low w high → Spot n root low
climb_spot n root low high w h =
    record {
      context = h.context;
      side = h.side;
      outer = h.outer;
      low_rank = h.rank;
      inner = h.inner;
      high = high;
      high_rank = h.high_rank;
      far = h.far;
      distinct = h.distinct;
      stands = h.stands;
    }

-- at the root
pub grown_ends : (n : Store) (root : Option ℕ) (low : ℕ) (below : NodeView) (w : List ℕ)
    → n low ≡ Some below → below.parent ≡ None → Grown n root low w → Restored n root w
grown_ends n root low below w eb eh h =
    let below_is : below ≡ node_view Left (holder h.context) (root_of h.left) h.rank
    (root_of h.right) =
    cc (grown_node n root low w h) in
    let is : h.context ≡ top = open_top h.context (ap (λ v. v.parent) (sym below_is) ∙ eh) in
    record {
      tree = node h.left low h.rank h.right;
      stands = subst (λ c. RepresentsTree n root (plug c (node h.left low h.rank h.right)))
          is h.stands;
      ranked = h.ranked;
      is_walk = ap (λ c. walk (plug c (node h.left low h.rank h.right))) (sym is) ∙ h.is_walk;
    }

-- the parent is high enough
pub climb_ends : (n : Store) (root : Option ℕ) (low high : ℕ) (w : List ℕ)
    (h : Climbing n root low w high) → h.rank < h.high_rank → Restored n root w
climb_ends n root low high w h less =
    let t = make h.side h.outer low h.rank h.inner in
    let rank_is = make-rank h.side h.outer low h.rank h.inner in
    let f = h.high_fits in
    let fits : Fits (rank_of t) h.high_rank (rank_of h.far) = record {
      above_left = omega arith;
      near_left = omega arith;
      above_right = omega arith;
      near_right = omega arith;
      childless = omega arith;
    } in
    restored n root h.context (make h.side t high h.high_rank h.far)
    (make h.side t high h.high_rank h.far) w h.stands
    (subst (λ z. IsRankedRound h.context z)
    (sym (make-rank h.side t high h.high_rank h.far)) h.round)
    (make-ranked h.side t high h.high_rank h.far fits
    (make-ranked h.side h.outer low h.rank h.inner h.fits h.outer_ranked h.inner_ranked)
    h.far_ranked)
    refl h.is_walk

-- the parent has the same rank, and the sibling two less
pub climb_leans : (n : Store) (root : Option ℕ) (low high : ℕ) (w : List ℕ)
    (h : Climbing n root low w high) → h.high_rank ≤ h.rank → rank_of h.far + 1 < h.rank
    → Leaning n root low w
climb_leans n root low high w h same less =
    let f = h.high_fits in
    let is : h.high_rank ≡ h.rank = omega (arith, h.one_more) in
    record {
      context = h.context;
      side = h.side;
      outer = h.outer;
      inner = h.inner;
      high = high;
      rank = h.rank;
      far = h.far;
      distinct = subst (λ k. IsDistinct
          (plug h.context (make h.side (make h.side h.outer low h.rank h.inner) high k h.far)))
          is h.distinct;
      stands = subst (λ k. RepresentsTree n root
          (plug h.context (make h.side (make h.side h.outer low h.rank h.inner) high k h.far)))
          is h.stands;
      fits = h.fits;
      outer_ranked = h.outer_ranked;
      inner_ranked = h.inner_ranked;
      far_ranked = h.far_ranked;
      two_less = omega arith;
      leaning = h.leaning (omega arith);
      round = subst (λ k. IsRankedRound h.context k) is h.round;
      is_walk = subst (λ k. walk
          (plug h.context (make h.side (make h.side h.outer low h.rank h.inner) high k h.far)) ≡ w)
          is h.is_walk;
    }

-- the parent has the same rank, and the sibling one less: the parent rises
pub climb_up : (n m : Store) (root : Option ℕ) (low high : ℕ) (w : List ℕ)
    (h : Climbing n root low w high) → h.high_rank ≤ h.rank → h.rank ≤ rank_of h.far + 1
    → Written n m high (node_view h.side (holder h.context) (Some low) (h.high_rank + 1)
    (root_of h.far))
    → Grown m root high w
climb_up n m root low high w h same less written =
    let f = h.high_fits in
    let t = make h.side h.outer low h.rank h.inner in
    let rank_is = make-rank h.side h.outer low h.rank h.inner in
    let one_more = h.one_more in
    let s = h.side in
    let new = make s t high (h.high_rank + 1) h.far in
    let new_is : new ≡ node (near_of s t h.far) high (h.high_rank + 1)
    (near_of (other_side s) t h.far) = as_node s t high (h.high_rank + 1) h.far in
    let fits : Fits (rank_of t) (h.high_rank + 1) (rank_of h.far) = record {
      above_left = omega arith;
      near_left = omega arith;
      above_right = omega arith;
      near_right = omega arith;
      childless = omega arith;
    } in
    let sum = near_ranks s t h.far in
    let new_walk = plug-walk h.context (make s t high h.high_rank h.far) new
    (same-walk-rank s t high h.high_rank (h.high_rank + 1) h.far) in
    let link : Some low ≡ root_of t = sym (make-root s h.outer low h.rank h.inner) in
    record {
      context = h.context;
      left = near_of s t h.far;
      rank = h.high_rank + 1;
      right = near_of (other_side s) t h.far;
      hole = h.high_rank;
      one_more = refl;
      leaning = λ z. omega arith;
      distinct = subst (λ z. IsDistinct (plug h.context z)) new_is
          (IsDistinct-walk _ _ new_walk h.distinct);
      stands = subst (λ z. RepresentsTree m root (plug h.context z)) new_is
          (ranked-write n m root h.context s t high h.high_rank (h.high_rank + 1) h.far
          (subst (λ z. Written n m high
          (node_view s (holder h.context) z (h.high_rank + 1) (root_of h.far))) link written)
          h.distinct h.stands);
      ranked = subst IsRanked new_is
          (make-ranked s t high (h.high_rank + 1) h.far fits
          (make-ranked s h.outer low h.rank h.inner h.fits h.outer_ranked h.inner_ranked)
          h.far_ranked);
      round = h.round;
      is_walk = ap (λ z. walk (plug h.context z)) (sym new_is) ∙ sym new_walk ∙ h.is_walk;
      small = h.small;
    }

-- and nothing beside the tree is changed
pub climb_kept : (n m : Store) (root : Option ℕ) (low high : ℕ) (v : NodeView) (w : List ℕ)
    → Climbing n root low w high → Written n m high v → KeptOff w n m
climb_kept n m root low high v w h written =
    let t = make h.side (make h.side h.outer low h.rank h.inner) high h.high_rank h.far in
    let p = plug-count h.context high t in
    let q = make-count h.side high (make h.side h.outer low h.rank h.inner) high
    h.high_rank h.far in
    let f = one-same high in
    write_kept n m high v (plug h.context t) w written (omega arith) h.is_walk

-- the parent's node, which is no higher than the subtree that has grown to this rank
pub record IsLevel (n : Store) (root : Option ℕ) (low : ℕ) (w : List ℕ) (high : ℕ)
    (h : Climbing n root low w high) (above : NodeView) (rank : ℕ) : Type 0 where
  pub at_high : n high ≡ Some above
  pub rank_is : rank ≡ h.rank
  pub no_higher : h.high_rank ≤ h.rank

-- a subtree that has grown to this rank, below a parent that is no higher
pub record GrownTo (n : Store) (above : NodeView) (rank : ℕ) : Type 0 where
  pub root : Option ℕ
  pub low : ℕ
  pub w : List ℕ
  pub high : ℕ
  pub climbing : Climbing n root low w high
  pub level : IsLevel n root low w high climbing above rank

-- the parent's node
pub climb_node : (n : Store) (root : Option ℕ) (low high : ℕ) (above : NodeView)
    → n high ≡ Some above → (w : List ℕ) (h : Climbing n root low w high)
    → above ≡ node_view h.side (holder h.context) (Some low) h.high_rank (root_of h.far)
climb_node n root low high above e w h =
    let f = spotted n root low (climb_spot n root low high w h) in cc f.at_high

pub climb_ranks : (n : Store) (root : Option ℕ) (low high : ℕ) (below above : NodeView) → n low
    ≡ Some below → n high ≡ Some above
    → (w : List ℕ) (h : Climbing n root low w high) → (below.rank ≡ h.rank) × (above.rank
    ≡ h.high_rank)
climb_ranks n root low high below above eb ea w h =
    let f = spotted n root low (climb_spot n root low high w h) in
    let b : below ≡ node_view h.side (Some high) (root_of h.outer) h.rank
    (root_of h.inner) = cc f.at_low in
    let a : above ≡ node_view h.side (holder h.context) (Some low) h.high_rank
    (root_of h.far) = cc f.at_high in
    (ap (λ v. v.rank) b ∙ node_rank h.side _ _ _ _, ap (λ v. v.rank) a ∙ node_rank h.side _ _ _ _)

-- the lower of the two ranks that the code reads
pub level_lower : (n : Store) (root : Option ℕ) (low high : ℕ) (above : NodeView) (l r rank : ℕ)
    → ((j : ℕ) → above.left ≡ Some j → IfSome (n j) (λ x. l ≡ x.rank)) → (above.left ≡ None → l ≡ 0)
    → ((j : ℕ) → above.right ≡ Some j → IfSome (n j) (λ x. r ≡ x.rank))
    → (above.right ≡ None → r ≡ 0)
    → (w : List ℕ) (h : Climbing n root low w high) → IsLevel n root low w high h above rank
    → min l r ≡ min rank (rank_of h.far)
level_lower n root low high above l r rank ls ln rs rn w h level =
    let t = make h.side h.outer low h.rank h.inner in
    let parts = plug-opens n root h.context (make h.side t high h.high_rank h.far) h.stands in
    let low_is = make-rank h.side h.outer low h.rank h.inner in
    let rank_is = level.rank_is in
    let read = both_ranks h.side n (holder h.context) t high h.high_rank h.far above l r
    level.at_high ls ln rs rn parts.1 in
    omega arith

some_node : (t : Tree) → IsRanked t → (root_of t ≡ None → ⊥) → 0 < rank_of t
some_node leaf h there = absurd (there refl)
some_node (node l i k r) h there = let f = h.0 in omega arith

pub none_rank : (t : Tree) → root_of t ≡ None → rank_of t ≡ 0
none_rank leaf e = refl
none_rank (node l i k r) e = absurd (cc)

-- the child beside the one that has grown
sibling_none : (s z : Side) (p : Option ℕ) (low k : ℕ) (far : Tree)
    → child_of z (node_view s p (Some low) k (root_of far)) ≡ None → rank_of far ≡ 0
sibling_none Left Left p low k far e = absurd (cc)
sibling_none Left Right p low k far e = none_rank far e
sibling_none Right Left p low k far e = none_rank far e
sibling_none Right Right p low k far e = absurd (cc)

sibling_some : (s : Side) (p : Option ℕ) (low k : ℕ) (far : Tree) → IsRanked far
    → (child_of Left (node_view s p (Some low) k (root_of far)) ≡ None → ⊥)
    → (child_of Right (node_view s p (Some low) k (root_of far)) ≡ None → ⊥) → 0 < rank_of far
sibling_some Left p low k far h left right = some_node far h right
sibling_some Right p low k far h left right = some_node far h left

module _ (n : Store) (root : Option ℕ) (low high : ℕ) (above : NodeView) (rank : ℕ) (w : List ℕ)
    (h : Climbing n root low w high) (level : IsLevel n root low w high h above rank) where
  level_node : above ≡ node_view h.side (holder h.context) (Some low) h.high_rank (root_of h.far)
  level_node = climb_node n root low high above level.at_high w h

  -- at rank 2 a child that is absent is two lower
  pub level_none : (z : Side) → rank ≡ 2 → child_of z above ≡ None → rank_of h.far + 1 < rank
  level_none z two none =
      let e = sibling_none h.side z (holder h.context) low h.high_rank h.far
      (ap (child_of z) (sym level_node) ∙ none) in
      omega arith

  -- and if none is, the one that has not grown is one lower
  pub level_some : rank ≡ 2 → (child_of Left above ≡ None → ⊥)
      → (child_of Right above ≡ None → ⊥) → rank_of h.far + 1 < rank → ⊥
  level_some two left right less =
      let e = sibling_some h.side (holder h.context) low h.high_rank h.far h.far_ranked
      (λ none. left (ap (child_of Left) level_node ∙ none))
      (λ none. right (ap (child_of Right) level_node ∙ none)) in
      omega arith

pub climb_write : (n m : Store) (root : Option ℕ) (low high : ℕ) (above : NodeView) → n high
    ≡ Some above
    → Written n m high (with_rank (above.rank + 1) above)
    → (w : List ℕ) (h : Climbing n root low w high)
    → Written n m high (node_view h.side (holder h.context) (Some low) (h.high_rank + 1)
    (root_of h.far))
climb_write n m root low high above e written w h =
    let v = node_view h.side (holder h.context) (Some low) h.high_rank (root_of h.far) in
    let node_is : above ≡ v = climb_node n root low high above e w h in
    let rank_is : above.rank ≡ h.high_rank = ap (λ x. x.rank) node_is ∙ node_rank h.side _ _ _ _ in
    let is : with_rank (above.rank + 1) above
    ≡ node_view h.side (holder h.context) (Some low) (h.high_rank + 1) (root_of h.far) =
    ap (λ k. with_rank (k + 1) above) rank_is ∙ ap (λ x. with_rank (h.high_rank + 1) x) node_is
    ∙ node_ranked h.side (holder h.context) (Some low) h.high_rank (h.high_rank + 1)
    (root_of h.far) in
    subst (λ x. Written n m high x) is written

-- the parent's rank rises by one at most
pub climb_small : (n : Store) (root : Option ℕ) (low high : ℕ) (w : List ℕ)
    (h : Climbing n root low w high) → h.rank ≤ 127
climb_small n root low high w h =
    let t = make h.side h.outer low h.rank h.inner in
    let r = make-rank h.side h.outer low h.rank h.inner in
    let b = plug-small (under h.context h.side high h.high_rank h.far) t w
    (make-ranked h.side h.outer low h.rank h.inner h.fits h.outer_ranked h.inner_ranked)
    h.is_walk h.small in
    omega arith

pub children_live : (n : Store) (root : Option ℕ) (low high : ℕ) (above : NodeView) (z : Side)
    → n high ≡ Some above → (w : List ℕ) → Climbing n root low w high
    → (i : ℕ) → child_of z above ≡ Some i → IsSome (n i)
children_live n root low high above z e w h i c =
    let f = spotted n root low (climb_spot n root low high w h) in
    let is = climb_node n root low high above e w h in
    elim (spot_child_of h.side z (holder h.context) (Some low) h.high_rank (root_of h.far) i
    (subst (λ v. child_of z v ≡ Some i) is c)) [
      | inl u ↦ let same : low ≡ i = cc in rw (← same) (is_some (n low) _ f.at_low)
      | inr u ↦ root-lives n (Some high) h.far i f.far_stands u
    ]

pub grown_lives : (n : Store) (root : Option ℕ) (low : ℕ) (w : List ℕ) → Grown n root low w
    → IsSome (n low)
grown_lives n root low w h = is_some (n low) _ (grown_node n root low w h)

pub parent_lives : (n : Store) (root : Option ℕ) (low high : ℕ) (w : List ℕ)
    → Climbing n root low w high → IsSome (n high)
parent_lives n root low high w h
    = is_some (n high) _ (spotted n root low (climb_spot n root low high w h)).at_high

pub rank_in_at : (n : Store) (i : ℕ) (v : NodeView) → n i ≡ Some v → rank_in n i ≡ v.rank
rank_in_at n i v e = ap rank_or_zero e

pub climb_falls : (n m : Store) (low high : ℕ) (below above : NodeView) → n low ≡ Some below
    → Written n m high (with_rank (above.rank + 1) above)
    → below.rank ≤ above.rank → below.rank ≤ 127 → 255 - rank_in m high < 255 - rank_in n low
climb_falls n m low high below above eb written le small =
    let p = rank_in_at n low below eb in
    let q = rank_in_at m high (with_rank (above.rank + 1) above) written.here in
    omega arith
