-- The steps of a repair after a removal.
use Rattle.std.proofs.Common.{◌≡◌, ◌≢◌, ℕ, ◌+◌, ◌-◌, ◌^◌, ◌<◌, ◌≤◌, List, length, Option, Some}
use Rattle.std.proofs.Common.{None, refl, sym, ap, ◌∙◌, subst, arith, inl, inr}
use Rattle.std.proofs.Common.{max, Bool, false, IsTrue, ◌↔◌}
use Rattle.std.proofs.lemmas.Bool.{cases_lt, false≢true}
use Rattle.std.specs.Option.{IsSome, IfSome}
use Rattle.rank_tree.specs.NodeView.{NodeView}
use Rattle.rank_tree.specs.declared.side.Side.{Side}
use Rattle.rank_tree.specs.declared.side.Side.TheVariants.{Left, Right}
use Rattle.rank_tree.specs.Store.{Store, other_side, child_of, Written, with_rank, rank_in}
use Rattle.rank_tree.specs.Store.{rank_or_zero, ahead}
use Rattle.rank_tree.specs.Tree.{Tree, leaf, node, walk, rank_of, IsRanked, Fits}
use Rattle.rank_tree.specs.Shape.{make, near_of, node_view, root_of, Context, top, under, plug}
use Rattle.rank_tree.specs.Shape.{holder, Represents, Hangs, RepresentsTree, IsDistinct, one, count}
use Rattle.rank_tree.specs.Repair.{Spot, IsRankedRound, Restored, Broken, Nearly, Pending, Short}
use Rattle.rank_tree.specs.Repair.{KeptOff, IsFitAbove}
use Rattle.rank_tree.specs.FrameLaws.{one-same, make-count, plug-count, make-rank, make-root}
use Rattle.rank_tree.specs.FrameLaws.{make-walk, make-closes, plug-opens, plug-walk}
use Rattle.rank_tree.specs.FrameLaws.{IsDistinct-walk, write_kept, both_kept}
use Rattle.rank_tree.specs.SpotLaws.{is_some, if_some, root-lives, spotted, node_rank, node_ranked}
use Rattle.rank_tree.specs.SpotLaws.{node_parent, rank_read, both_ranks, write-lives}
use Rattle.rank_tree.specs.TurningLaws.{make-ranked, make-ranked-opens, plug-ranked, open_tree}
use Rattle.rank_tree.specs.TurningLaws.{root-some}
use Rattle.rank_tree.specs.ClimbLaws.{ranked-write, same-walk-rank, as_make, as_node}
use Rattle.rank_tree.specs.ClimbLaws.{near_ranks, plug-small, none_rank}

-- what holds of both children holds of the one that a side names
near_holds : (P : Tree → Type 0) (s : Side) (a b : Tree) → P a → P b → P (near_of s a b)
near_holds P Left a b p q = p
near_holds P Right a b p q = q

-- and the other way round
near_tells : (P : Tree → Type 0) (s : Side) (a b : Tree) → P (near_of s a b)
    → P (near_of (other_side s) a b) → P a × P b
near_tells P Left a b p q = (p, q)
near_tells P Right a b p q = (q, p)

near_nearly : (s : Side) (a b : Tree) (k : ℕ) → Nearly (rank_of a) k (rank_of b)
    → Nearly (rank_of (near_of s a b)) k (rank_of (near_of (other_side s) a b))
near_nearly Left a b k f = f
near_nearly Right a b k f = omega arith

near_first : (s : Side) (a b : Tree) → a ≡ near_of s (near_of s a b) (near_of (other_side s) a b)
near_first Left a b = refl
near_first Right a b = refl

near_second : (s : Side) (a b : Tree)
    → b ≡ near_of (other_side s) (near_of s a b) (near_of (other_side s) a b)
near_second Left a b = refl
near_second Right a b = refl

-- a subtree has lost one rank, and is the child that may be too low
pub pending_up : (m : Store) (root : Option ℕ) (c : Context) (t : Tree) (k : ℕ) (w : List ℕ)
    → IsDistinct (plug c t)
    → RepresentsTree m root (plug c t) → IsRanked t → rank_of t + 1 ≡ k → IsRankedRound c k
    → walk (plug c t) ≡ w → length w < 2 ^ 64
    → Pending m root (holder c) (root_of t) w
pending_up m root top t k w d h r e round q small
    = record { tree = t; stands = h; ranked = r; is_walk = q }
pending_up m root (under c s i j far) t k w d h r e round q small =
    let f = round.0 in
    let is = as_node s t i j far in
    let o : Nearly (rank_of t) j (rank_of far) = omega arith in
    record {
      context = c;
      left = near_of s t far;
      rank = j;
      right = near_of (other_side s) t far;
      distinct = subst (λ z. IsDistinct (plug c z)) is d;
      stands = subst (λ z. RepresentsTree m root (plug c z)) is h;
      left_ranked = near_holds IsRanked s t far r round.1;
      right_ranked = near_holds IsRanked (other_side s) t far r round.1;
      nearly = near_nearly s t far j o;
      side = s;
      near_is = ap root_of (near_first s t far);
      far_near = subst (λ z. j ≤ rank_of z + 2) (near_second s t far) f.near_right;
      round = round.2;
      is_walk = ap (λ z. walk (plug c z)) (sym is) ∙ q;
      small = small;
    }

pub broken_node : (n : Store) (root : Option ℕ) (high : ℕ) (near : Option ℕ) (w : List ℕ)
    (h : Broken n root high near w)
    → n high ≡ Some (node_view Left (holder h.context) (root_of h.left) h.rank (root_of h.right))
broken_node n root high near w h
    = (plug-opens n root h.context (node h.left high h.rank h.right) h.stands).1.0

pub broken_lives : (n : Store) (root : Option ℕ) (high : ℕ) (near : Option ℕ) (w : List ℕ)
    → Broken n root high near w
    → IsSome (n high)
broken_lives n root high near w h = is_some (n high) _ (broken_node n root high near w h)

link_lives : (n : Store) (p : Option ℕ) (t : Tree) (link : Option ℕ) → link ≡ root_of t
    → Represents n p t
    → IfSome link (λ i. IsSome (n i))
link_lives n p t link e h
    = if_some link (λ i. IsSome (n i)) (λ i u. root-lives n p t i h (sym e ∙ u))

-- what the code reads of the broken node
pub record BrokenReads (n : Store) (root : Option ℕ) (high : ℕ) (near : Option ℕ) (w : List ℕ)
    (h : Broken n root high near w) (above : NodeView) : Type 0 where
  pub node_is : above ≡ node_view Left (holder h.context) (root_of h.left) h.rank (root_of h.right)
  pub left_is : above.left ≡ root_of h.left
  pub right_is : above.right ≡ root_of h.right
  pub rank_is : above.rank ≡ h.rank
  pub holder_is : above.parent ≡ holder h.context
  pub left_stands : Represents n (Some high) h.left
  pub right_stands : Represents n (Some high) h.right
  pub left_lives : IfSome above.left (λ i. IsSome (n i))
  pub right_lives : IfSome above.right (λ i. IsSome (n i))
  pub left_small : rank_of h.left ≤ 127
  pub right_small : rank_of h.right ≤ 127

pub broken_reads : (n : Store) (root : Option ℕ) (high : ℕ) (above : NodeView) → n high ≡ Some above
    → (near : Option ℕ) (w : List ℕ) (h : Broken n root high near w)
    → BrokenReads n root high near w h above
broken_reads n root high above e near w h =
    let o = plug-opens n root h.context (node h.left high h.rank h.right) h.stands in
    let is : above ≡ node_view Left (holder h.context) (root_of h.left) h.rank (root_of h.right) =
    cc (broken_node n root high near w h) in
    let left_is : above.left ≡ root_of h.left = ap (λ v. v.left) is in
    let right_is : above.right ≡ root_of h.right = ap (λ v. v.right) is in
    record {
      node_is = is;
      left_is = left_is;
      right_is = right_is;
      rank_is = ap (λ v. v.rank) is;
      holder_is = ap (λ v. v.parent) is;
      left_stands = o.1.1;
      right_stands = o.1.2;
      left_lives = link_lives n (Some high) h.left above.left left_is o.1.1;
      right_lives = link_lives n (Some high) h.right above.right right_is o.1.2;
      left_small = plug-small (under h.context Left high h.rank h.right) h.left w h.left_ranked
          h.is_walk h.small;
      right_small = plug-small (under h.context Right high h.rank h.left) h.right w h.right_ranked
          h.is_walk h.small;
    }

-- a node's rule fails: a child is too low, or a node without children too high
abbrev pub IsUnfit : ℕ → ℕ → ℕ → Type 0
IsUnfit a k b = k ≤ a + 2 → k ≤ b + 2 → a + b + 2 ≤ k

zero_root : (t : Tree) → IsRanked t → rank_of t ≡ 0 → root_of t ≡ None
zero_root leaf h e = refl
zero_root (node l i k r) h e = let f = h.0 in absurd (omega arith)

module _ (n : Store) (root : Option ℕ) (high : ℕ) (above : NodeView) (e : n high ≡ Some above)
    (near : Option ℕ) (w : List ℕ) (h : Broken n root high near w) where
  abbrev pub near_tree : Tree
  near_tree = near_of h.side h.left h.right

  near_stands : Represents n (Some high) near_tree
  near_stands =
      let r = broken_reads n root high above e near w h in
      near_holds (Represents n (Some high)) h.side h.left h.right r.left_stands r.right_stands

  -- the near child, as the code reads it
  pub near_lives : IfSome near (λ i. IsSome (n i))
  near_lives = link_lives n (Some high) near_tree near h.near_is near_stands

  pub near_small : rank_of near_tree ≤ 127
  near_small =
      let r = broken_reads n root high above e near w h in
      near_holds (λ t. rank_of t ≤ 127) h.side h.left h.right r.left_small r.right_small

  module _ (k : ℕ) (some : (i : ℕ) → near ≡ Some i → IfSome (n i) (λ v. k ≡ v.rank))
      (none : near ≡ None → k ≡ 0) where
    pub near_rank : k ≡ rank_of near_tree
    near_rank = rank_read n (Some high) near_tree near k h.near_is near_stands some none

    -- the node's rule holds after all, since the far child keeps it
    pub broken_ends : IsFitAbove above k → Restored n root w
    broken_ends fit =
        let r = broken_reads n root high above e near w h in
        let f = h.nearly in
        let near_is = near_rank in
        let rank_is = r.rank_is in
        let both = near_tells (λ t. h.rank ≤ rank_of t + 2) h.side h.left h.right
        (omega arith) h.far_near in
        let childless : h.rank ≤ rank_of h.left + rank_of h.right + 1 =
        elim (cases_lt (rank_of h.left + rank_of h.right + 1) h.rank) [
          | inl less ↦ absurd (fit.1 (omega arith)
              (r.left_is ∙ zero_root h.left h.left_ranked (omega arith))
              (r.right_is ∙ zero_root h.right h.right_ranked (omega arith)))
          | inr more ↦ omega arith
        ] in
        let fits : Fits (rank_of h.left) h.rank (rank_of h.right) = omega arith in
        record {
          tree = plug h.context (node h.left high h.rank h.right);
          stands = h.stands;
          ranked = plug-ranked h.context (node h.left high h.rank h.right) h.round
              (fits, h.left_ranked, h.right_ranked);
          is_walk = h.is_walk;
        }

    -- or it does not
    pub broken_unfit : (b : Bool) → (IsTrue b ↔ IsFitAbove above k) → b ≡ false
        → IsUnfit (rank_of h.left) h.rank (rank_of h.right)
    broken_unfit b tested denied p q =
        let r = broken_reads n root high above e near w h in
        let near_is = near_rank in
        let rank_is = r.rank_is in
        let low = near_holds (λ t. h.rank ≤ rank_of t + 2) h.side h.left h.right p q in
        elim (cases_lt (rank_of h.left + rank_of h.right + 1) h.rank) [
          | inl less ↦ omega arith
          | inr more ↦ absurd (false≢true (sym denied ∙ tested.1 (
            omega arith,
            λ two left right.
                let a = none_rank h.left (sym r.left_is ∙ left) in
                let b = none_rank h.right (sym r.right_is ∙ right) in
                omega arith,
          )))
        ]

-- the parent of a broken node is higher, and what is written below leaves it alone
pub round_rises : (n : Store) (root : Option ℕ) (c : Context) (link : Option ℕ) (k : ℕ)
    → IsRankedRound c k → Hangs n root c link
    → IfSome (holder c) (λ i. k < rank_in n i)
round_rises n root top link k r h = tt
round_rises n root (under c Left i j far) link k r h = let f = r.0 in let e =
    ap rank_or_zero h.0 in omega arith
round_rises n root (under c Right i j far) link k r h = let f = r.0 in let e =
    ap rank_or_zero h.0 in omega arith

-- the node loses one rank
pub record Lowered (m : Store) (root : Option ℕ) (high : ℕ) (old : Store) (parent : Option ℕ)
    (w : List ℕ) : Type 0 where
  pub pending : Pending m root parent (Some high) w
  pub rises : IfSome parent (λ i. rank_in old high < rank_in m i)
  pub kept : KeptOff w old m

-- a node whose children are both two lower may lose one
pub broken_lower : (n m : Store) (root : Option ℕ) (high : ℕ) (above : NodeView)
    → n high ≡ Some above
    → Written n m high (with_rank (above.rank - 1) above)
    → (near : Option ℕ) (w : List ℕ) (h : Broken n root high near w)
    → rank_of h.left + 2 ≤ h.rank → rank_of h.right + 2 ≤ h.rank
    → Lowered m root high n above.parent w
broken_lower n m root high above e written near w h p q =
    let r = broken_reads n root high above e near w h in
    let f = h.nearly in
    let old = node h.left high h.rank h.right in
    let new = node h.left high (h.rank - 1) h.right in
    let value : with_rank (above.rank - 1) above
    ≡ node_view Left (holder h.context) (root_of h.left)
    (h.rank - 1) (root_of h.right) =
    ap (λ k. with_rank (k - 1) above) r.rank_is ∙ ap (with_rank (h.rank - 1)) r.node_is in
    let stands = ranked-write n m root h.context Left h.left high h.rank (h.rank - 1) h.right
    (subst (λ v. Written n m high v) value written) h.distinct h.stands in
    let same = plug-walk h.context old new refl in
    let distinct = IsDistinct-walk (plug h.context old) (plug h.context new) same h.distinct in
    let fits : Fits (rank_of h.left) (h.rank - 1) (rank_of h.right) = omega arith in
    let o = plug-opens m root h.context new stands in
    let old_rank : rank_in n high ≡ h.rank = ap rank_or_zero (broken_node n root high near w h) in
    let pending = pending_up m root h.context new h.rank w distinct stands
    (fits, h.left_ranked, h.right_ranked) (omega arith) h.round
    (sym same ∙ h.is_walk) h.small in
    let rises = round_rises m root h.context (Some high) h.rank h.round o.0 in
    record {
      pending = subst (λ l. Pending m root l (Some high) w) (sym r.holder_is) pending;
      rises =
          subst (λ l. IfSome l (λ i. rank_in n high < rank_in m i)) (sym r.holder_is)
          (subst (λ k. IfSome (holder h.context) (λ i. k < rank_in m i)) (sym old_rank) rises);
      kept = let p = plug-count h.context high old in let q =
          one-same high in write_kept n m high _ (plug h.context old) w written
          (omega arith) h.is_walk;
    }

-- the sibling of the lower child
pub record Sibling (n : Store) (root : Option ℕ) (low : ℕ) (w : List ℕ) (high : ℕ) : Type 0 where
  pub spot : Spot n root low
  pub high_is : spot.high ≡ high
  pub fits : Fits (rank_of spot.outer) spot.low_rank (rank_of spot.inner)
  pub outer_ranked : IsRanked spot.outer
  pub inner_ranked : IsRanked spot.inner
  pub far_ranked : IsRanked spot.far
  pub one_less : spot.low_rank + 1 ≡ spot.high_rank
  pub three_less : rank_of spot.far + 3 ≡ spot.high_rank
  pub round : IsRankedRound spot.context spot.high_rank
  pub is_walk : walk (plug spot.context
      (make spot.side (make spot.side spot.outer low spot.low_rank spot.inner)
      spot.high spot.high_rank spot.far)) ≡ w
  pub small : length w < 2 ^ 64

-- a turn comes, where a child of the sibling is one below it
pub sibling_short : (n : Store) (root : Option ℕ) (low high : ℕ) (w : List ℕ)
    (h : Sibling n root low w high)
    → h.spot.low_rank + h.spot.low_rank ≤ rank_of h.spot.outer + rank_of h.spot.inner + 3
    → Short n root low w
sibling_short n root low high w h tall = record {
  spot = h.spot;
  fits = h.fits;
  outer_ranked = h.outer_ranked;
  inner_ranked = h.inner_ranked;
  far_ranked = h.far_ranked;
  one_less = h.one_less;
  three_less = h.three_less;
  tall = tall;
  round = h.round;
  is_walk = h.is_walk;
}

Left≢Right : Left ≡ Right → ⊥
Left≢Right e = cc

-- the side that the code takes is that of the higher child
higher_side : (z : Side) (a b : Tree) → (rank_of a < rank_of b → z ≡ Right)
    → (rank_of b ≤ rank_of a → z ≡ Left)
    → rank_of (near_of z a b) ≡ max (rank_of a) (rank_of b)
higher_side Left a b f g = elim (cases_lt (rank_of a) (rank_of b)) [
  | inl h ↦ absurd (Left≢Right (f h))
  | inr h ↦ omega arith
]
higher_side Right a b f g = elim (cases_lt (rank_of a) (rank_of b)) [
  | inl h ↦ omega arith
  | inr h ↦ absurd (Left≢Right (sym (g h)))
]

three_less_of : (a k b m n : ℕ) → Nearly a k b → IsUnfit a k b → k < max a b + 2 → m ≡ max a b
    → m + n ≡ a + b → n + 3 ≡ k
three_less_of a k b m n f g h e u = elim (cases_lt (a + 2) k) [
  | inl p ↦ omega arith
  | inr p ↦ elim (cases_lt (b + 2) k) [
    | inl q ↦ omega arith
    | inr q ↦ let r = g p q in omega arith
  ]
]

child_near : (z : Side) (p : Option ℕ) (a b : Tree) (k : ℕ)
    → child_of z (node_view Left p (root_of a) k (root_of b)) ≡ root_of (near_of z a b)
child_near Left p a b k = refl
child_near Right p a b k = refl

-- the higher child, and what holds of the ranks
pub record Higher (n : Store) (root : Option ℕ) (high : ℕ) (near : Option ℕ) (w : List ℕ)
    (h : Broken n root high near w) (z : Side)
    (link : Option ℕ) : Type 0 where
  pub link_is : link ≡ root_of (near_of z h.left h.right)
  pub one_less : rank_of (near_of z h.left h.right) + 1 ≡ h.rank
  pub three_less : rank_of (near_of (other_side z) h.left h.right) + 3 ≡ h.rank

pub broken_higher : (n : Store) (root : Option ℕ) (high : ℕ) (above : NodeView) (z : Side)
    → n high ≡ Some above
    → (near : Option ℕ) (w : List ℕ) (h : Broken n root high near w)
    → (rank_of h.left < rank_of h.right → z ≡ Right) → (rank_of h.right ≤ rank_of h.left → z ≡ Left)
    → IsUnfit (rank_of h.left) h.rank (rank_of h.right)
    → h.rank < max (rank_of h.left) (rank_of h.right) + 2
    → Higher n root high near w h z (child_of z above)
broken_higher n root high above z e near w h right left not_fits tight =
    let r = broken_reads n root high above e near w h in
    let o = near_nearly z h.left h.right h.rank h.nearly in
    let more = higher_side z h.left h.right right left in
    let sum = near_ranks z h.left h.right in
    let f = h.nearly in
    record {
      link_is = ap (child_of z) r.node_is ∙ child_near z (holder h.context) h.left h.right h.rank;
      one_less = omega arith;
      three_less = three_less_of (rank_of h.left) h.rank
          (rank_of h.right) _ _ h.nearly not_fits tight more sum;
    }

pub broken_sibling : (n : Store) (root : Option ℕ) (high low : ℕ) (z : Side) (link : Option ℕ)
    (near : Option ℕ) (w : List ℕ) (h : Broken n root high near w)
    → Higher n root high near w h z link → link ≡ Some low → Sibling n root low w high
broken_sibling n root high low z link near w h up e =
    let near = near_of z h.left h.right in
    let far = near_of (other_side z) h.left h.right in
    let v = open_tree z near low (sym up.link_is ∙ e) in
    let is : node h.left high h.rank h.right
    ≡ make z (make z v.near low v.rank v.far) high h.rank far =
    as_make z h.left high h.rank h.right ∙ ap (λ t. make z t high h.rank far) v.is in
    let near_is = subst IsRanked v.is
    (near_holds IsRanked z h.left h.right h.left_ranked h.right_ranked) in
    let parts = make-ranked-opens z v.near low v.rank v.far near_is in
    let rank_is : rank_of near ≡ v.rank = ap rank_of v.is ∙ make-rank z v.near low v.rank v.far in
    let one_less = up.one_less in
    record {
      spot = record {
        context = h.context;
        side = z;
        outer = v.near;
        low_rank = v.rank;
        inner = v.far;
        high = high;
        high_rank = h.rank;
        far = far;
        distinct = subst (λ t. IsDistinct (plug h.context t)) is h.distinct;
        stands = subst (λ t. RepresentsTree n root (plug h.context t)) is h.stands;
      };
      high_is = refl;
      fits = parts.fits;
      outer_ranked = parts.near;
      inner_ranked = parts.far;
      far_ranked = near_holds IsRanked (other_side z) h.left h.right h.left_ranked h.right_ranked;
      one_less = omega arith;
      three_less = up.three_less;
      round = h.round;
      is_walk = ap (λ t. walk (plug h.context t)) (sym is) ∙ h.is_walk;
      small = h.small;
    }

-- it is there
pub higher_some : (n : Store) (root : Option ℕ) (high : ℕ) (z : Side) (link near : Option ℕ)
    (w : List ℕ) (h : Broken n root high near w)
    → Higher n root high near w h z link → link ≡ None → ⊥
higher_some n root high z link near w h up none =
    let one_less = up.one_less in
    let three_less = up.three_less in
    root-some (near_of z h.left h.right) (omega arith) (sym up.link_is ∙ none)

-- the sibling and the node lose one rank each
pub sibling_lower : (n m m' : Store) (root : Option ℕ) (low high j k : ℕ) (w : List ℕ)
    (h : Sibling n root low w high)
    → h.spot.low_rank ≡ rank_of h.spot.outer + 2 → h.spot.low_rank ≡ rank_of h.spot.inner + 2
    → j ≡ h.spot.low_rank - 1 → k ≡ h.spot.high_rank - 1
    → Written n m low (node_view h.spot.side (Some h.spot.high) (root_of h.spot.outer) j
    (root_of h.spot.inner))
    → Written m m' h.spot.high
    (node_view h.spot.side (holder h.spot.context) (Some low) k (root_of h.spot.far))
    → Lowered m' root h.spot.high n (holder h.spot.context) w
sibling_lower n m m' root low high j k w h p q ej ek written written' =
    let x = h.spot in
    let c = x.context in
    let s = x.side in
    let f = h.fits in
    let one_less = h.one_less in
    let three_less = h.three_less in
    let old_low = make s x.outer low x.low_rank x.inner in
    let new_low = make s x.outer low j x.inner in
    let old = make s old_low x.high x.high_rank x.far in
    let between = make s new_low x.high x.high_rank x.far in
    let new = make s new_low x.high k x.far in
    let same = make-walk s old_low new_low x.high x.high_rank x.far
    (same-walk-rank s x.outer low x.low_rank j x.inner) in
    let same_whole = plug-walk c old between same in
    let half = ranked-write n m root (under c s x.high x.high_rank x.far) s x.outer low x.low_rank j
    x.inner written x.distinct x.stands in
    let half_distinct = IsDistinct-walk (plug c old) (plug c between) same_whole x.distinct in
    let link : Some low ≡ root_of new_low = sym (make-root s x.outer low j x.inner) in
    let high_written = subst (λ l. Written m m' x.high (node_view s (holder c) l k (root_of x.far)))
    link written' in
    let done = ranked-write m m' root c s new_low x.high x.high_rank k x.far high_written
    half_distinct half in
    let new_walk = plug-walk c between new (same-walk-rank s new_low x.high x.high_rank k x.far) in
    let low_fits : Fits (rank_of x.outer) j (rank_of x.inner) = omega arith in
    let low_rank = make-rank s x.outer low j x.inner in
    let fits : Fits (rank_of new_low) k (rank_of x.far) = omega arith in
    let new_rank = make-rank s new_low x.high k x.far in
    let low_ranked = make-ranked s x.outer low j x.inner low_fits h.outer_ranked h.inner_ranked in
    let ranked = make-ranked s new_low x.high k x.far fits low_ranked h.far_ranked in
    let o = plug-opens m' root c new done in
    let f2 = spotted n root low x in
    let old_rank : rank_in n x.high ≡ x.high_rank =
    ap rank_or_zero f2.at_high ∙ node_rank s _ _ _ _ in
    record {
      pending =
          subst (λ l. Pending m' root (holder c) l w) (make-root s new_low x.high k x.far)
          (pending_up m' root c new x.high_rank w (IsDistinct-walk _ _ new_walk half_distinct) done
          ranked (omega arith) h.round
          (sym new_walk ∙ sym same_whole ∙ h.is_walk) h.small);
      rises =
          subst (λ z. IfSome (holder c) (λ i. z < rank_in m' i)) (sym old_rank)
          (round_rises m' root c (root_of new) x.high_rank h.round o.0);
      kept =
          let at_low : 0 < count low (plug c old) =
          let f = plug-count c low old in let g =
          make-count s low old_low x.high x.high_rank x.far in
          let i = make-count s low x.outer low x.low_rank x.inner in let l =
          one-same low in omega arith in
          let at_high : 0 < count x.high (plug c old) =
          let f = plug-count c x.high old in let g =
          make-count s x.high old_low x.high x.high_rank x.far in let l =
          one-same x.high in omega arith in
          both_kept w n m m' (write_kept n m low _ (plug c old) w written at_low h.is_walk)
          (write_kept m m' x.high _ (plug c old) w written' at_high h.is_walk);
    }

pub spot_apart : (n : Store) (root : Option ℕ) (low : ℕ) (spot : Spot n root low) → spot.high ≢ low
spot_apart n root low spot e =
    let below = make spot.side spot.outer low spot.low_rank spot.inner in
    let o = spot.distinct.once low in
    let p = plug-count spot.context low (make spot.side below spot.high spot.high_rank spot.far) in
    let q = make-count spot.side low below spot.high spot.high_rank spot.far in
    let r = make-count spot.side low spot.outer low spot.low_rank spot.inner in
    let f = one-same low in
    let g : one low spot.high ≡ 1 = rw e (one-same low) in
    omega arith

-- the repair goes up
pub mend_falls : (n m : Store) (high : ℕ) (link next : Option ℕ) → link ≡ Some high
    → IfSome next (λ i. rank_in n high < rank_in m i) → rank_in n high < 256
    → ahead m next < ahead n link
mend_falls n m high link None e h small = rw e (omega arith)
mend_falls n m high link (Some i) e h small = rw e (omega arith)

pub broken_small : (n : Store) (root : Option ℕ) (high : ℕ) (near : Option ℕ) (w : List ℕ)
    → Broken n root high near w
    → rank_in n high < 256
broken_small n root high near w h =
    let r = broken_reads n root high _ (broken_node n root high near w h) near w h in
    let e = ap rank_or_zero (broken_node n root high near w h) in
    let f = h.nearly in
    omega arith

-- what the code of a step reads
pub record MendReads (n : Store) (root : Option ℕ) (high : ℕ) (near : Option ℕ) (w : List ℕ)
    (h : Broken n root high near w) (above : NodeView)
    (l r : ℕ) : Type 0 where
  pub rank_is : above.rank ≡ h.rank
  pub left_is : l ≡ rank_of h.left
  pub right_is : r ≡ rank_of h.right
  pub left_small : rank_of h.left ≤ 127
  pub right_small : rank_of h.right ≤ 127

pub mend_reads : (n : Store) (root : Option ℕ) (high : ℕ) (above : NodeView) (l r : ℕ)
    → n high ≡ Some above
    → ((i : ℕ) → above.left ≡ Some i → IfSome (n i) (λ v. l ≡ v.rank)) → (above.left ≡ None → l ≡ 0)
    → ((i : ℕ) → above.right ≡ Some i → IfSome (n i) (λ v. r ≡ v.rank))
    → (above.right ≡ None → r ≡ 0)
    → (near : Option ℕ) (w : List ℕ) (h : Broken n root high near w)
    → MendReads n root high near w h above l r
mend_reads n root high above l r e ls ln rs rn near w h =
    let b = broken_reads n root high above e near w h in
    record {
      rank_is = b.rank_is;
      left_is = rank_read n (Some high) h.left above.left l b.left_is b.left_stands ls ln;
      right_is = rank_read n (Some high) h.right above.right r b.right_is b.right_stands rs rn;
      left_small = b.left_small;
      right_small = b.right_small;
    }

pub mend_higher : (n : Store) (root : Option ℕ) (high : ℕ) (above : NodeView) (l r : ℕ) (z : Side)
    (link near : Option ℕ) (w : List ℕ) (h : Broken n root high near w)
    → MendReads n root high near w h above l r → n high ≡ Some above
    → IsUnfit (rank_of h.left) h.rank (rank_of h.right)
    → above.rank < max l r + 2 → (l < r → z ≡ Right) → (r ≤ l → z ≡ Left)
    → link ≡ child_of z above → Higher n root high near w h z link
mend_higher n root high above l r z link near w h m e not_fits tight right left is =
    subst (Higher n root high near w h z) (sym is)
    (broken_higher n root high above z e near w h (λ p. right (omega arith))
    (λ p. left (omega arith)) not_fits (omega arith))

-- what the code reads of the sibling: its rank, and those of its children
pub record SiblingReads (n : Store) (root : Option ℕ) (low high : ℕ) (w : List ℕ)
    (h : Sibling n root low w high) (below : NodeView) (l r : ℕ) : Type 0 where
  pub rank_is : below.rank ≡ h.spot.low_rank
  pub higher_is : max l r ≡ max (rank_of h.spot.outer) (rank_of h.spot.inner)

pub sibling_reads : (n : Store) (root : Option ℕ) (low high : ℕ) (below : NodeView) (l r : ℕ)
    → n low ≡ Some below
    → ((i : ℕ) → below.left ≡ Some i → IfSome (n i) (λ v. l ≡ v.rank)) → (below.left ≡ None → l ≡ 0)
    → ((i : ℕ) → below.right ≡ Some i → IfSome (n i) (λ v. r ≡ v.rank)) → (below.right ≡ None
    → r ≡ 0)
    → (w : List ℕ) (h : Sibling n root low w high) → SiblingReads n root low high w h below l r
sibling_reads n root low high below l r e ls ln rs rn w h =
    let x = h.spot in
    let s = x.side in
    let f = spotted n root low x in
    let is : below ≡ node_view s (Some x.high) (root_of x.outer) x.low_rank
    (root_of x.inner) = cc f.at_low in
    let stands = make-closes s n (Some x.high) x.outer low x.low_rank x.inner f.at_low
    f.outer_stands
    f.inner_stands in
    record {
      rank_is = ap (λ v. v.rank) is ∙ node_rank s _ _ _ _;
      higher_is = (both_ranks s n (Some x.high) x.outer low x.low_rank x.inner below l r e ls ln
          rs rn
          stands).higher;
    }

-- both lose one rank
pub mend_lower : (n m m' : Store) (root : Option ℕ) (low high j k : ℕ) (above : NodeView)
    (w : List ℕ)
    (h : Sibling n root low w high)
    → n high ≡ Some above → h.spot.low_rank ≡ rank_of h.spot.outer + 2
    → h.spot.low_rank ≡ rank_of h.spot.inner + 2
    → j ≡ h.spot.low_rank - 1 → k ≡ above.rank - 1
    → ((v : NodeView) → n low ≡ Some v → Written n m low (with_rank j v))
    → ((v : NodeView) → m high ≡ Some v → Written m m' high (with_rank k v))
    → Lowered m' root high n above.parent w
mend_lower n m m' root low high j k above w h e p q ej ek one_written two_written =
    let x = h.spot in
    let s = x.side in
    let f = spotted n root low x in
    let old_low = one_written _ f.at_low in
    let low_written = subst (λ v. Written n m low v)
    (node_ranked s (Some x.high) (root_of x.outer) x.low_rank j (root_of x.inner)) old_low in
    let node_at : ℕ → NodeView = λ r. node_view s (holder x.context) (Some low) r (root_of x.far) in
    let at_high : m x.high ≡ Some (node_at x.high_rank) =
    old_low.elsewhere x.high (spot_apart n root low x) ∙ f.at_high in
    let old_high = two_written _
    (subst (λ i. m i ≡ Some (node_at x.high_rank)) h.high_is at_high) in
    let new_high = subst (λ v. Written m m' high v)
    (node_ranked s (holder x.context) (Some low) x.high_rank k (root_of x.far)) old_high in
    let high_written = subst (λ i. Written m m' i (node_at k)) (sym h.high_is) new_high in
    let above_is : above ≡ node_at x.high_rank = cc (f.at_high, ap n h.high_is) in
    let high_rank_is : above.rank ≡ x.high_rank = ap (λ v. v.rank) above_is ∙ node_rank s _ _ _ _ in
    let done = sibling_lower n m m' root low high j k w h p q ej
    (ek ∙ ap (λ z. z - 1) high_rank_is) low_written high_written in
    let parent_is : above.parent ≡ holder x.context =
    ap (λ v. v.parent) above_is ∙ node_parent s (holder x.context) (Some low) x.high_rank
    (root_of x.far) in
    subst (λ i. Lowered m' root i n above.parent w) h.high_is
    (subst (λ o. Lowered m' root x.high n o w) (sym parent_is) done)

-- a write of a rank where a node stands leaves each node standing
sets_some : (n m : Store) (i k : ℕ) (o : Option NodeView) → n i ≡ o → IsSome o
    → ((v : NodeView) → n i ≡ Some v → Written n m i (with_rank k v)) → (j : ℕ) → IsSome (n j)
    → IsSome (m j)
sets_some n m i k None e h w j l = absurd (false≢true h)
sets_some n m i k (Some v) e h w j l = write-lives n m i (with_rank k v) (w v e) j l

pub sets_lives : (n m : Store) (i k : ℕ) → IsSome (n i)
    → ((v : NodeView) → n i ≡ Some v → Written n m i (with_rank k v))
    → (j : ℕ) → IsSome (n j) → IsSome (m j)
sets_lives n m i k h w j l = sets_some n m i k (n i) refl h w j l
