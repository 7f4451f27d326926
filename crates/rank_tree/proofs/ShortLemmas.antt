-- The turns that end a repair after a removal.
use Rattle.std.proofs.Common.{◌≡◌, ℕ, ◌+◌, ◌-◌, ◌<◌, ◌≤◌, List, Option, Some, arith}
use Rattle.rank_tree.specs.Store.{Store}
use Rattle.rank_tree.specs.Tree.{rank_of}
use Rattle.rank_tree.specs.Shape.{root_of}
use Rattle.rank_tree.specs.Repair.{Restored, Short}
use Rattle.rank_tree.specs.TurningLaws.{Turns, TurnsTwice, Ready, turn_once, turn_twice}

pub short_ready : (n : Store) (root : Option ℕ) (low : ℕ) (w : List ℕ) (h : Short n root low w)
    → Ready n root low w h.spot
short_ready n root low w h = record {
  outer_ranked = h.outer_ranked;
  inner_ranked = h.inner_ranked;
  far_ranked = h.far_ranked;
  round = h.round;
  is_walk = h.is_walk;
}

pub short_once : (n : Store) (root : Option ℕ) (low j k : ℕ) (w : List ℕ) (h : Short n root low w)
    → h.spot.low_rank ≤ rank_of h.spot.outer + 1 → j ≡ h.spot.high_rank
    → k ≡ rank_of h.spot.inner + 1
    → Turns n root low j k w (λ m r. Restored m r w)
short_once n root low j k w h near ej ek =
    let f = h.fits in
    let one_less = h.one_less in
    let three_less = h.three_less in
    turn_once n root low j k w h.spot (short_ready n root low w h) ej (omega arith)
    (omega arith)

pub short_twice : (n : Store) (root : Option ℕ) (low middle j k : ℕ) (w : List ℕ)
    (h : Short n root low w) → root_of h.spot.inner ≡ Some middle
    → rank_of h.spot.outer + 1 < h.spot.low_rank → j ≡ h.spot.high_rank → k ≡ h.spot.high_rank - 2
    → TurnsTwice n root middle j k w
short_twice n root low middle j k w h is low_outer ej ek =
    let f = h.fits in
    let one_less = h.one_less in
    let three_less = h.three_less in
    let tall = h.tall in
    turn_twice n root low middle j k w h.spot (short_ready n root low w h) is ej
    (λ a b p. (omega arith, omega arith)) (omega arith)
