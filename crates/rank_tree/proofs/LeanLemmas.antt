-- The turns that end a repair after an insertion.
use Rattle.std.proofs.Common.{◌≡◌, ◌≢◌, ℕ, ◌+◌, ◌-◌, ◌<◌, ◌≤◌, List, Option, Some, None, ap, ◌∙◌}
use Rattle.std.proofs.Common.{arith}
use Rattle.std.specs.Option.{IfSome}
use Rattle.rank_tree.specs.NodeView.{NodeView}
use Rattle.rank_tree.specs.declared.side.Side.{Side}
use Rattle.rank_tree.specs.declared.side.Side.TheVariants.{Left, Right}
use Rattle.rank_tree.specs.Store.{Store, other_side, child_of}
use Rattle.rank_tree.specs.Tree.{rank_of}
use Rattle.rank_tree.specs.Shape.{root_of}
use Rattle.rank_tree.specs.Repair.{Spot, Restored, Leaning}
use Rattle.rank_tree.specs.SpotLaws.{reads, spotted, rank_read}
use Rattle.rank_tree.specs.TurningLaws.{Turns, TurnsTwice, Ready, turn_once, turn_twice}

abbrev pub lean_spot : (n : Store) (root : Option ℕ) (low : ℕ) (w : List ℕ) → Leaning n root low w
    → Spot n root low
lean_spot n root low w h = record {
  context = h.context;
  side = h.side;
  outer = h.outer;
  low_rank = h.rank;
  inner = h.inner;
  high = h.high;
  high_rank = h.rank;
  far = h.far;
  distinct = h.distinct;
  stands = h.stands;
}

lean_ready : (n : Store) (root : Option ℕ) (low : ℕ) (w : List ℕ) (h : Leaning n root low w)
    → Ready n root low w (lean_spot n root low w h)
lean_ready n root low w h = record {
  outer_ranked = h.outer_ranked;
  inner_ranked = h.inner_ranked;
  far_ranked = h.far_ranked;
  round = h.round;
  is_walk = h.is_walk;
}

-- `low` turns up
pub lean_once : (n : Store) (root : Option ℕ) (low j k : ℕ) (w : List ℕ) (h : Leaning n root low w)
    → rank_of h.inner + 1 < h.rank
    → j ≡ h.rank → k ≡ h.rank - 1 → Turns n root low j k w (λ m r. Restored m r w)
lean_once n root low j k w h less ej ek =
    let f = h.fits in
    let two_less = h.two_less in
    let leaning = h.leaning in
    turn_once n root low j k w (lean_spot n root low w h) (lean_ready n root low w h) ej
    (omega arith) (omega arith)

-- its inner child turns up, twice
pub lean_twice : (n : Store) (root : Option ℕ) (low middle j k : ℕ) (w : List ℕ)
    (h : Leaning n root low w)
    → root_of h.inner ≡ Some middle → h.rank ≤ rank_of h.inner + 1 → j ≡ h.rank → k ≡ h.rank - 1
    → TurnsTwice n root middle j k w
lean_twice n root low middle j k w h is more ej ek =
    let f = h.fits in
    let two_less = h.two_less in
    let leaning = h.leaning in
    turn_twice n root low middle j k w (lean_spot n root low w h) (lean_ready n root low w h) is ej
    (λ a b p. (omega arith, omega arith)) (omega arith)

-- what the code of `lean` reads
pub record LeanReads (n : Store) (root : Option ℕ) (low : ℕ) (w : List ℕ) (h : Leaning n root low w)
    (rank : ℕ) (inner : Option ℕ)
    (inner_rank : ℕ) : Type 0 where
  pub rank_is : rank ≡ h.rank
  pub inner_is : inner ≡ root_of h.inner
  pub inner_rank_is : inner_rank ≡ rank_of h.inner

pub lean_reads : (n : Store) (root : Option ℕ) (low : ℕ) (below above : NodeView) (high : ℕ)
    (t z : Side) (inner : Option ℕ) (inner_rank : ℕ)
    → n low ≡ Some below → below.parent ≡ Some high → n high ≡ Some above
    → (above.left ≡ Some low → t ≡ Left) → (above.left ≢ Some low → t ≡ Right)
    → z ≡ other_side t → inner ≡ child_of z below
    → ((i : ℕ) → inner ≡ Some i → IfSome (n i) (λ v. inner_rank ≡ v.rank))
    → (inner ≡ None → inner_rank ≡ 0)
    → (w : List ℕ) (h : Leaning n root low w) → LeanReads n root low w h below.rank inner inner_rank
lean_reads n root low below above high t z inner inner_rank eb eh ea left right ez ei
    some none w h =
    let spot = lean_spot n root low w h in
    let r = reads n root low spot below above high t eb eh ea left right in
    let f = spotted n root low spot in
    let inner_is : inner ≡ root_of h.inner = ei ∙ ap (λ y. child_of y below) ez ∙ r.inner_is in
    record {
      rank_is = r.low_rank_is;
      inner_is = inner_is;
      inner_rank_is = rank_read n (Some low) h.inner inner inner_rank inner_is
          f.inner_stands some none;
    }
