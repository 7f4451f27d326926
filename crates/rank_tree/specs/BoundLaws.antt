-- How many nodes a ranked tree has at least.
use Rattle.std.proofs.Common.{◌≡◌, ℕ, suc, zero, ◌+◌, ◌*◌, ◌^◌, ◌<◌, ◌≤◌, arith, inl, inr}
use Rattle.std.proofs.Common.{lit≤, lit<, add-one}
use Rattle.std.proofs.lemmas.Bool.{cases_eq, cases_lt}
use Rattle.std.proofs.Math.Nat.{mul-le-mul, mul-le-mul_left, pow-suc, pow-le-pow_right}
use Rattle.rank_tree.specs.Tree.{Tree, leaf, node, Fits, IsRanked, rank_of, size, height}

-- a ranked tree of rank k and more has at least this many nodes, and one: 1, 2, 3, then twice what
-- two ranks less have
abbrev least : ℕ → ℕ
least zero = 1
least (suc zero) = 2
least (suc (suc zero)) = 3
least (suc (suc (suc k))) = 2 * least (suc k)

least-up : (k : ℕ) → least k ≤ least (suc k)
least-up zero = omega arith
least-up (suc zero) = omega arith
least-up (suc (suc zero)) = omega arith
least-up (suc (suc (suc k))) = let h = least-up (suc k) in omega arith

pow-four : (k : ℕ) → 2 ^ (suc (suc (suc k)) + 1) ≡ 4 * 2 ^ (suc k + 1)
pow-four k = simp (add-one, pow-suc) (omega arith)

-- where a ≤ b ≤ a + 1
least-near : (a b : ℕ) → a ≤ b → b ≤ a + 1 → least a ≤ least b
least-near a b p q = elim (cases_eq a b) [
  | inl e ↦ rw e (omega arith)
  | inr n ↦ let e : b ≡ suc a = omega arith in rw e (least-up a)
]

-- a child's share
least-child : (a s k : ℕ) → least a ≤ s + 1 → a < k + 3 → k + 3 ≤ a + 2 → least (suc k) ≤ s + 1
least-child a s k h p q = let g = least-near (suc k) a (omega arith) (omega arith) in omega arith

least-one : (a s : ℕ) → least a ≤ s + 1 → 1 ≤ a → a ≤ 1 → 1 ≤ s
least-one a s h p q = let e : 1 ≡ a = omega arith in let g = rw (← e) at h in omega arith

least-node : (a b k s t : ℕ) → Fits a k b → least a ≤ s + 1 → least b ≤ t + 1
    → least k ≤ s + t + 1 + 1
least-node a b zero s t f p q = omega arith
least-node a b (suc zero) s t f p q = omega arith
least-node a b (suc (suc zero)) s t f p q = elim (cases_lt 0 a) [
  | inl h ↦ let g = least-one a s p (omega arith) (omega arith) in omega arith
  | inr h ↦ let g = least-one b t q (omega arith) (omega arith) in omega arith
]
least-node a b (suc (suc (suc k))) s t f p q =
    let g = least-child a s k p (omega arith) (omega arith) in
    let h = least-child b t k q (omega arith) (omega arith) in
    omega arith

least-size : (t : Tree) → IsRanked t → least (rank_of t) ≤ size t + 1
least-size leaf w = omega arith
least-size (node l i k r) w = least-node (rank_of l) (rank_of r) k (size l) (size r) w.0
    (least-size l w.1) (least-size r w.2)

square-double : (x : ℕ) → (2 * x) * (2 * x) ≡ 4 * (x * x)
square-double x = grind arith

least-square : (k : ℕ) → 1 ≤ k → 2 ^ (k + 1) ≤ least k * least k
least-square zero h = absurd (omega arith)
least-square (suc zero) h = lit≤ tt
least-square (suc (suc zero)) h = lit≤ tt
least-square (suc (suc (suc k))) h =
    let g : 2 ^ (suc k + 1) ≤ least (suc k) * least (suc k) = least-square (suc k) (omega arith) in
    let e : 2 ^ (suc (suc (suc k)) + 1) ≡ 4 * 2 ^ (suc k + 1) = pow-four k in
    rw (e, square-double (least (suc k))) (mul-le-mul_left 4 g)

pub size_bound : (t : Tree) → IsRanked t → 0 < size t
    → 2 ^ (rank_of t + 1) ≤ (size t + 1) * (size t + 1)
size_bound leaf w h = absurd (omega arith)
size_bound (node l i k r) w h =
    let f = w.0 in
    let g = least-size (node l i k r) w in
    let s = least-square k (omega arith) in
    let m = mul-le-mul g g in
    omega (arith, s, m)

pub height-le-rank : (t : Tree) → IsRanked t → height t ≤ rank_of t
height-le-rank leaf w = omega arith
height-le-rank (node l i k r) w =
    let f = w.0 in let p = height-le-rank l w.1 in let q = height-le-rank r w.2 in
    omega arith

pub small_rank : (t : Tree) → IsRanked t → size t < 2 ^ 64 → rank_of t ≤ 127
small_rank leaf w h = omega arith
small_rank (node l i k r) w h =
    let t : Tree = node l i k r in
    let b : 2 ^ (k + 1) ≤ (size t + 1) * (size t + 1) = size_bound (node l i k r) w (omega arith) in
    let g : size t + 1 ≤ 2 ^ 64 = omega arith in
    let p : (size t + 1) * (size t + 1) ≤ 2 ^ 64 * 2 ^ 64 = mul-le-mul g g in
    elim (cases_lt 127 k) [
      | inl q ↦ let m : 2 ^ 129 ≤ 2 ^ (k + 1) =
          pow-le-pow_right {n = 2} (lit< tt) {i = 129} {j = k + 1} (omega arith) in
          absurd (omega arith)
      | inr q ↦ q
    ]
