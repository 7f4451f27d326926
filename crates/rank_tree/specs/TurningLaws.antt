-- One turn or two that restore the rules.
use Rattle.std.proofs.Common.{◌≡◌, ℕ, ◌≤◌, List, Option, Some, None, refl, sym, ap, ◌∙◌, subst}
use Rattle.std.proofs.Common.{arith}
use Rattle.rank_tree.specs.declared.side.Side.{Side}
use Rattle.rank_tree.specs.declared.side.Side.TheVariants.{Left, Right}
use Rattle.rank_tree.specs.Store.{Store, other_side}
use Rattle.rank_tree.specs.Tree.{Tree, leaf, node, walk, rank_of, IsRanked, Fits}
use Rattle.rank_tree.specs.Shape.{make, root_of, Context, top, under, plug, RepresentsTree}
use Rattle.rank_tree.specs.Shape.{IsDistinct}
use Rattle.rank_tree.specs.Repair.{Spot, turned, IsRankedRound, Restored, KeptOff}
use Rattle.rank_tree.specs.FrameLaws.{make-rank, make-walk, plug-walk, IsDistinct-walk}
use Rattle.rank_tree.specs.TurnLaws.{turn-walk}

-- the rules of a node, seen from a side
pub make-ranked : (s : Side) (a : Tree) (i k : ℕ) (b : Tree) → Fits (rank_of a) k (rank_of b)
    → IsRanked a → IsRanked b
    → IsRanked (make s a i k b)
make-ranked Left a i k b f p q = (f, p, q)
make-ranked Right a i k b f p q = (omega arith, q, p)

pub plug-ranked : (c : Context) (t : Tree) → IsRankedRound c (rank_of t) → IsRanked t
    → IsRanked (plug c t)
plug-ranked top t r h = h
plug-ranked (under c s i k far) t r h =
    plug-ranked c (make s t i k far)
    (subst (λ z. IsRankedRound c z) (sym (make-rank s t i k far)) r.2)
    (make-ranked s t i k far r.0 h r.1)

-- what is in a hole is exchanged for what has the same walk and the same rank
pub restored : (n : Store) (root : Option ℕ) (c : Context) (t : Tree) (old : Tree) (w : List ℕ)
    → RepresentsTree n root (plug c t)
    → IsRankedRound c (rank_of t) → IsRanked t → walk t ≡ walk old → walk (plug c old) ≡ w
    → Restored n root w
restored n root c t old w h r k e q = record {
  tree = plug c t;
  stands = h;
  ranked = plug-ranked c t r k;
  is_walk = plug-walk c t old e ∙ q;
}

-- what a turn in a tree with a given walk asks for, and what it leaves
pub record Turns (n : Store) (root : Option ℕ) (low j k : ℕ) (w : List ℕ) (After : Store → Option ℕ
    → Type 0) : Type 0 where
  pub spot : Spot n root low
  pub is_walk : walk (turned spot j k) ≡ w
  pub after : (m : Store) (new_root : Option ℕ) → RepresentsTree m new_root (turned spot j k)
      → After m new_root

-- one node turns up twice, and the rules hold
abbrev pub TurnsTwice : Store → Option ℕ → ℕ → ℕ → ℕ → List ℕ → Type 0
TurnsTwice n root middle j k w
    = Turns n root middle j k w (λ m r. Turns m r middle j k w (λ m' r'. Restored m' r' w))

pub turns_kept : (n m : Store) (root : Option ℕ) (low j k : ℕ) (w : List ℕ)
    (After : Store → Option ℕ → Type 0) (t : Turns n root low j k w After)
    → KeptOff (walk (turned t.spot j k)) n m → KeptOff w n m
turns_kept n m root low j k w After t h = subst (λ v. KeptOff v n m) t.is_walk h

pub flip : (s : Side) (a : Tree) (i k : ℕ) (b : Tree) → make (other_side s) a i k b ≡ make s b i k a
flip Left a i k b = refl
flip Right a i k b = refl

-- a subtree with a root, seen from a side
pub record Opened (s : Side) (t : Tree) (i : ℕ) : Type 0 where
  pub near : Tree
  pub rank : ℕ
  pub far : Tree
  pub is : t ≡ make s near i rank far

pub open_tree : (s : Side) (t : Tree) (i : ℕ) → root_of t ≡ Some i → Opened s t i
open_tree s leaf i e = absurd (cc)
open_tree Left (node l x k r) i e = let f : x ≡ i =
    cc in record { near = l; rank = k; far = r; is = ap (λ z. node l z k r) f }
open_tree Right (node l x k r) i e = let f : x ≡ i =
    cc in record { near = r; rank = k; far = l; is = ap (λ z. node l z k r) f }

pub record RankedParts (a : Tree) (k : ℕ) (b : Tree) : Type 0 where
  pub fits : Fits (rank_of a) k (rank_of b)
  pub near : IsRanked a
  pub far : IsRanked b

pub make-ranked-opens : (s : Side) (a : Tree) (i k : ℕ) (b : Tree) → IsRanked (make s a i k b)
    → RankedParts a k b
make-ranked-opens Left a i k b h = record { fits = h.0; near = h.1; far = h.2 }
make-ranked-opens Right a i k b h
    = record { fits = let f = h.0 in omega arith; near = h.2; far = h.1 }

pub turned-distinct : (n : Store) (root : Option ℕ) (low : ℕ) (spot : Spot n root low) (j k : ℕ)
    → IsDistinct (turned spot j k)
turned-distinct n root low spot j k =
    let walks = turn-walk spot.side spot.outer low spot.low_rank spot.inner spot.high spot.high_rank
    spot.far j k in
    IsDistinct-walk _ (turned spot j k) (plug-walk spot.context _ _ walks) spot.distinct

pub root-some : (t : Tree) → 1 ≤ rank_of t → root_of t ≡ None → ⊥
root-some leaf h e = omega arith
root-some (node l i k r) h e = cc

-- a spot whose three subtrees keep the rules, as does what is round it
pub record Ready (n : Store) (root : Option ℕ) (low : ℕ) (w : List ℕ) (spot : Spot n root low)
    : Type 0 where
  pub outer_ranked : IsRanked spot.outer
  pub inner_ranked : IsRanked spot.inner
  pub far_ranked : IsRanked spot.far
  pub round : IsRankedRound spot.context spot.high_rank
  pub is_walk : walk (plug spot.context
      (make spot.side (make spot.side spot.outer low spot.low_rank spot.inner) spot.high
      spot.high_rank spot.far)) ≡ w

pub turn_once : (n : Store) (root : Option ℕ) (low j k : ℕ) (w : List ℕ) (h : Spot n root low)
    → Ready n root low w h → j ≡ h.high_rank
    → Fits (rank_of h.inner) k (rank_of h.far) → Fits (rank_of h.outer) j k
    → Turns n root low j k w (λ m r. Restored m r w)
turn_once n root low j k w h ready ej low_fits high_fits = record {
  spot = h;
  is_walk = plug-walk h.context _ _
      (sym (turn-walk h.side h.outer low h.low_rank h.inner h.high h.high_rank h.far j k)) ∙
      ready.is_walk;
  after = λ m r stands.
      let lowered = make h.side h.inner h.high k h.far in
      let rank_is = make-rank h.side h.inner h.high k h.far in
      restored m r h.context (make h.side h.outer low j lowered)
      (make h.side (make h.side h.outer low h.low_rank h.inner) h.high h.high_rank
      h.far) w stands
      (subst (λ z. IsRankedRound h.context z)
      (sym ej ∙ sym (make-rank h.side h.outer low j lowered)) ready.round)
      (make-ranked h.side h.outer low j lowered
      (subst (λ z. Fits (rank_of h.outer) j z) (sym rank_is) high_fits) ready.outer_ranked
      (make-ranked h.side h.inner h.high k h.far low_fits ready.inner_ranked ready.far_ranked))
      (sym (turn-walk h.side h.outer low h.low_rank h.inner h.high h.high_rank h.far j k))
      ready.is_walk;
}

pub turn_twice : (n : Store) (root : Option ℕ) (low middle j k : ℕ) (w : List ℕ)
    (h : Spot n root low) → Ready n root low w h → root_of h.inner ≡ Some middle → j ≡ h.high_rank
    → ((a b : ℕ) → Fits a (rank_of h.inner) b → Fits b k (rank_of h.outer)
    × Fits a k (rank_of h.far)) → Fits k j k
    → TurnsTwice n root middle j k w
turn_twice n root low middle j k w h ready is ej low_fits high_fits =
    let c = h.context in
    let s = h.side in
    let o = other_side h.side in
    let v = open_tree o h.inner middle is in
    let old_is : make s h.outer low h.low_rank h.inner
    ≡ make o (make o v.near middle v.rank v.far) low h.low_rank h.outer =
    sym (flip s h.inner low h.low_rank h.outer) ∙ ap (λ t. make o t low h.low_rank h.outer) v.is in
    let first : Spot n root middle = record {
      context = under c s h.high h.high_rank h.far;
      side = o;
      outer = v.near;
      low_rank = v.rank;
      inner = v.far;
      high = low;
      high_rank = h.low_rank;
      far = h.outer;
      distinct = subst (λ t. IsDistinct (plug c (make s t h.high h.high_rank h.far)))
          old_is h.distinct;
      stands = subst (λ t. RepresentsTree n root (plug c (make s t h.high h.high_rank h.far)))
          old_is h.stands;
    } in
    let lowered = make o v.far low k h.outer in
    let other = make s v.near h.high k h.far in
    let half_is : make o v.near middle j lowered ≡ make s lowered middle j v.near =
    flip s v.near middle j lowered in
    let half_walk : walk (make o v.near middle j lowered)
    ≡ walk (make s h.outer low h.low_rank h.inner) =
    sym (turn-walk o v.near middle v.rank v.far low h.low_rank h.outer j k) ∙ ap walk
    (sym old_is) in
    let last_walk : walk (make s lowered middle j other)
    ≡ walk (make s (make s h.outer low h.low_rank h.inner) h.high h.high_rank h.far) =
    sym (turn-walk s lowered middle j v.near h.high h.high_rank h.far j k) ∙ make-walk s _ _ h.high
    h.high_rank h.far (ap walk (sym half_is) ∙ half_walk) in
    record {
      spot = first;
      is_walk = plug-walk (under c s h.high h.high_rank h.far) _ _ half_walk ∙ ready.is_walk;
      after = λ m r stands. record {
        spot = record {
          context = c;
          side = s;
          outer = lowered;
          low_rank = j;
          inner = v.near;
          high = h.high;
          high_rank = h.high_rank;
          far = h.far;
          distinct = subst (λ t. IsDistinct (plug c (make s t h.high h.high_rank h.far))) half_is
              (turned-distinct n root middle first j k);
          stands = subst (λ t. RepresentsTree m r (plug c (make s t h.high h.high_rank h.far)))
              half_is stands;
        };
        is_walk = plug-walk c _ _ last_walk ∙ ready.is_walk;
        after = λ m' r' stands'.
            let parts = make-ranked-opens o v.near middle v.rank v.far
            (subst IsRanked v.is ready.inner_ranked) in
            let rank_is : v.rank ≡ rank_of h.inner =
            sym (ap rank_of v.is ∙ make-rank o v.near middle v.rank v.far) in
            let both = low_fits (rank_of v.near) (rank_of v.far)
            (subst (λ z. Fits (rank_of v.near) z (rank_of v.far)) rank_is parts.fits) in
            let fits : Fits (rank_of lowered) j (rank_of other) =
            subst (λ z. Fits z j (rank_of other)) (sym (make-rank o v.far low k h.outer))
            (subst (λ z. Fits k j z) (sym (make-rank s v.near h.high k h.far)) high_fits) in
            restored m' r' c (make s lowered middle j other)
            (make s (make s h.outer low h.low_rank h.inner) h.high h.high_rank h.far) w stands'
            (subst (λ z. IsRankedRound c z) (sym ej ∙ sym (make-rank s lowered middle j other))
            ready.round)
            (make-ranked s lowered middle j other fits
            (make-ranked o v.far low k h.outer both.0 parts.far ready.outer_ranked)
            (make-ranked s v.near h.high k h.far both.1 parts.near ready.far_ranked))
            last_walk ready.is_walk;
      };
    }
