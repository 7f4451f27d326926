-- A tree that is written anew along a list: the parts of the list, and the tree of the whole.
use Rattle.std.proofs.Common.{◌≡◌, ℕ, zero, suc, ◌+◌, ◌-◌, ◌^◌, ◌/◌, ◌<◌, ◌≤◌, List, []}
use Rattle.std.proofs.Common.{◌∷◌, ◌++◌, length, Option, Some, None, IsSome, IfSome, is_some}
use Rattle.std.proofs.Common.{true≢false, refl, sym, ap, subst, ◌∙◌, arith, inl, inr, length-append}
use Rattle.std.specs.Option.{option_map}
use Rattle.std.specs.Prelude.{min}
use Rattle.std.proofs.lemmas.Bool.Decides.{eqb_tells}
use Rattle.triple_arena.specs.Content.{Content, entry_at}
use Rattle.triple_arena_chain.specs.LinkShape.{IndexLink}
use Rattle.linked_lists.specs.LinkedLists.{Ends, next_in, next_at, first_or, IsSegment, Off, Apart}
use Rattle.linked_lists.specs.LinkedLists.{IsLinear}
use Rattle.linked_lists.specs.LinkedListLaws.{first_or-append, segment-front, segment-back}
use Rattle.linked_lists.specs.LinkedListLaws.{off_or_on, Off-front, Off-back, Apart-both}
use Rattle.linked_lists.specs.ChainLaws.{Apart-front, Apart-back, Apart-split, segment-where}
use Rattle.linked_lists.specs.UniquenessLaws.{linear_apart}
use Rattle.triple_arena_chain.specs.Links.{ends_in, entry_ends, valued}
use Rattle.rank_tree.specs.Store.{Store, Written, Reparented}
use Rattle.rank_tree.specs.Tree.{Tree, leaf, node, walk}
use Rattle.rank_tree.specs.Shape.{root_of, one, count, IsDistinct, Represents}
use Rattle.rank_tree.specs.Halving.{part_rank, IsTopRank, IsBuilt}
use Rattle.rank_tree.specs.FrameLaws.{one-same, one-other}
use Rattle.rank_tree.specs.ClimbLaws.{size-walk}
use Rattle.rank_tree.specs.BuildLaws.{built_over}
use Rattle.triple_arena_ord.specs.NodeShape.{IndexNode}
use Rattle.triple_arena_ord.specs.Node.{nodes_in, view_of, rest}
use Rattle.triple_arena_ord.proofs.RestLemmas.{rested}
use Rattle.triple_arena_ord.specs.Rebuilt.{IsAhead, IsRebuilt}

-- a list cut at a place
record Cut (w : List ℕ) (n : ℕ) : Type 0 where
  v : List ℕ
  i : ℕ
  u : List ℕ
  whole : w ≡ v ++ i ∷ u
  long : length v ≡ n

cut : (w : List ℕ) (n : ℕ) → n < length w → Cut w n
cut [] n less = absurd (omega (arith, less))
cut (x ∷ w) zero less = record { v = []; i = x; u = w; whole = refl; long = refl }
cut (x ∷ w) (suc n) less =
    let rest = cut w n (omega (arith, less)) in
    record {
      v = x ∷ rest.v;
      i = rest.i;
      u = rest.u;
      whole = ap (λ l. x ∷ l) rest.whole;
      long = ap suc rest.long;
    }

-- the left part, the root and the right part of a list
pub record Parts (e : ℕ → Option Ends) (cursor : Option ℕ) (count : ℕ) (w : List ℕ)
    (after : Option ℕ) : Type 0 where
  pub v : List ℕ
  pub i : ℕ
  pub u : List ℕ
  pub whole : w ≡ v ++ i ∷ u
  pub left : IsAhead e cursor (count / 2) v
  pub left_after : left.after ≡ Some i
  pub right : IsAhead e (next_at e i) (count - count / 2 - 1) u
  pub right_after : right.after ≡ after
  pub live : IsSome (e i)
  pub half : length v ≡ count / 2
  pub sizes : length v + length u + 1 ≡ count
  pub apart : Apart (v ++ i ∷ u)

pub parts : (e : ℕ → Option Ends) (cursor : Option ℕ) (count : ℕ) (w : List ℕ)
    → (a : IsAhead e cursor count w) → 1 ≤ count → Parts e cursor count w a.after
parts e cursor count w a some =
    let long = a.long in
    let c = cut w (count / 2) (omega (arith, long, some)) in
    let s = subst (λ l. IsSegment e a.before l a.after) c.whole a.stands in
    let apart = subst Apart c.whole a.apart in
    let back = segment-back e a.before a.after c.v (c.i ∷ c.u) s in
    let sum = length-append c.v (c.i ∷ c.u) in
    let all = ap length c.whole in
    let half = c.long in
    record {
      v = c.v;
      i = c.i;
      u = c.u;
      whole = c.whole;
      left = record {
        before = a.before;
        after = Some c.i;
        stands = segment-front e a.before a.after c.v (c.i ∷ c.u) s;
        first = a.first ∙ ap (λ l. first_or l a.after) c.whole
            ∙ first_or-append c.v (c.i ∷ c.u) a.after;
        apart = Apart-front c.v (c.i ∷ c.u) apart;
        long = c.long;
      };
      left_after = refl;
      right = record {
        before = Some c.i;
        after = a.after;
        stands = back.1;
        first = ap next_in back.0;
        apart = (Apart-back c.v (c.i ∷ c.u) apart).1;
        long = omega (arith, sum, all, long, half);
      };
      right_after = refl;
      live = ap is_some back.0;
      half = c.long;
      sizes = omega (arith, sum, all, long);
      apart = apart;
    }

pub empty_ahead : (e : ℕ → Option Ends) (cursor : Option ℕ) (w : List ℕ)
    → (a : IsAhead e cursor 0 w) → (w ≡ []) × (cursor ≡ a.after)
empty_ahead e cursor [] a = (refl, a.first)
empty_ahead e cursor (x ∷ w) a = absurd (let long = a.long in omega (arith, long))

-- what is off the walk does not count
pub off_uncounted : (t : Tree) (j : ℕ) → Off (walk t) j → count j t ≡ 0
off_uncounted leaf j off = refl
off_uncounted (node l i k r) j off =
    let p = off_uncounted l j (Off-front (walk l) (i ∷ walk r) j off) in
    let rest = Off-back (walk l) (i ∷ walk r) j off in
    let q = off_uncounted r j rest.1 in
    let o = one-other j i (λ same. rest.0 (sym same)) in
    omega (arith, p, q, o)

distinct_at : (t : Tree) → Apart (walk t) → (j : ℕ) → count j t ≤ 1
distinct_at leaf apart j = omega arith
distinct_at (node l i k r) apart j =
    let p = distinct_at l (Apart-front (walk l) (i ∷ walk r) apart) j in
    let q = distinct_at r (Apart-back (walk l) (i ∷ walk r) apart).1 j in
    let sides = Apart-split (walk l) (walk r) i apart in
    elim (eqb_tells j i) [
      | inl same ↦
          let left = off_uncounted l j (subst (Off (walk l)) (sym same.1) sides.0) in
          let right = off_uncounted r j (subst (Off (walk r)) (sym same.1) sides.1) in
          let here : one j i ≡ 1 = subst (λ n. one j n ≡ 1) same.1 (one-same j) in
          omega (arith, left, right, here)
      | inr other ↦
          let here = one-other j i other.1 in
          elim (off_or_on (walk l) j) [
            | inl off ↦ let left = off_uncounted l j off in omega (arith, left, here, q)
            | inr on ↦
                elim (off_or_on (walk r) j) [
                  | inl off ↦ let right = off_uncounted r j off in omega (arith, right, here, p)
                  | inr too ↦ absurd (Apart-both (walk l) (i ∷ walk r) j apart on
                      (record {
                        front = i ∷ too.front;
                        back = too.back;
                        is = ap (λ l. i ∷ l) too.is;
                      }))
                ]
          ]
    ]

pub distinct_walk : (t : Tree) (w : List ℕ) → walk t ≡ w → Apart w → IsDistinct t
distinct_walk t w is apart = record { once = distinct_at t (subst Apart (sym is) apart) }

-- the root of what was built is there
pub root_lives : (k : ℕ) (w : List ℕ) (root : Option ℕ) (n m : Store) → IsBuilt k w root n m
    → (i : ℕ) → root ≡ Some i → IsSome (m i)
root_lives k w root n m b i is = by b.tree b.represents (sym b.root_is ∙ is)
  where
    by : (t : Tree) → Represents m None t → root_of t ≡ Some i → IsSome (m i)
    by leaf r at = absurd (let none : None ≡ Some i = at in cc)
    by (node l x rank rr) r at = let same : x ≡ i = cc in
        subst (λ y. IsSome (m y)) same (ap is_some r.0)

module _ {T : Type 0} where
  pub live_node : (c : Content (IndexLink (IndexNode T))) (k : ℕ) → IsSome (ends_in c k)
      → IsSome (nodes_in c k)
  live_node c k some = by (entry_at c k) some
    where
      by : (o : Option (ℕ × IndexLink (IndexNode T)))
          → IsSome (option_map entry_ends o)
          → IsSome (option_map (λ e. view_of e.1) (option_map valued o))
      by None h = absurd (true≢false (sym h))
      by (Some e) h = refl

-- a part is built
pub part_built : (e : ℕ → Option Ends) (cursor : Option ℕ) (m top rank i : ℕ) (w : List ℕ)
    (after : Option ℕ) (left right : Option ℕ) (n0 n1 n2 n3 n4 n5 : Store)
    → (p : Parts e cursor m w after) → i ≡ p.i → IsBuilt (top - 1) p.v left n0 n1
    → IsBuilt (top - 1) p.u right n1 n2
    → Reparented n2 n3 left (Some i) → Reparented n3 n4 right (Some i) → rank ≡ part_rank top m
    → Written n4 n5 i (record { parent = None; left = left; right = right; rank = rank })
    → IsBuilt top w (Some i) n0 n5
part_built e cursor m top rank i w after left right n0 n1 n2 n3 n4 n5 p is a b up_left up_right
    rank_is written =
    let top_written : Written n4 n5 i
    (record { parent = None; left = left; right = right; rank = part_rank top m }) =
    subst (λ k. Written n4 n5 i (record { parent = None; left = left; right = right; rank = k }))
    rank_is written in
    let walks : walk (node a.tree i (part_rank top m) b.tree) ≡ p.v ++ p.i ∷ p.u =
    ap (λ l. l ++ i ∷ walk b.tree) a.is_walk ∙ ap (λ l. p.v ++ i ∷ l) b.is_walk
    ∙ ap (λ x. p.v ++ x ∷ p.u) is in
    let whole : p.v ++ i ∷ p.u ≡ w = ap (λ x. p.v ++ x ∷ p.u) is ∙ sym p.whole in
    subst (λ l. IsBuilt top l (Some i) n0 n5) whole
    (built_over top m i p.v p.u left right n0 n1 n2 n3 n4 n5 a b up_left up_right top_written p.half
    p.sizes
    (distinct_walk (node a.tree i (part_rank top m) b.tree) (p.v ++ p.i ∷ p.u) walks p.apart))

-- the whole list
pub whole_ahead : (e : ℕ → Option Ends) (first : Option ℕ) (n : ℕ) (w : List ℕ) → IsLinear e w
    → length w ≡ n → first ≡ first_or w None → IsAhead e first n w
whole_ahead e first n w linear long is =
    record {
      before = None;
      after = None;
      stands = linear;
      first = is;
      apart = linear_apart e None w linear;
      long = long;
    }

pub rebuilt_by : (w : List ℕ) (root : Option ℕ) (n m : Store) (k : ℕ) → IsTopRank (length w) k
    → IsBuilt k w root n m → IsRebuilt w root m
rebuilt_by w root n m k top b =
    record {
      tree = b.tree;
      hangs = (b.root_is, b.represents);
      halving = record {
        is_walk = b.is_walk;
        top = k;
        top_rank = subst (λ s. IsTopRank s k) (sym (size-walk b.tree ∙ ap length b.is_walk)) top;
        halves = b.halves;
      };
    }

pub lives_if : {I : Type 0} (number : I → ℕ) (o : Option I) (m : Store)
    → ((i : ℕ) → option_map number o ≡ Some i → IsSome (m i))
    → IfSome o (λ x. IsSome (m (number x)))
lives_if number None m each = tt
lives_if number (Some x) m each = each (number x) refl

module _ {T : Type 0} where
  -- the right part, after the left one was written
  pub right_ahead : (old mid : Content (IndexLink (IndexNode T))) (cursor next : Option ℕ)
      (m i : ℕ) (w : List ℕ) (after : Option ℕ)
      → rest mid ≡ rest old → (p : Parts (ends_in old) cursor m w after) → i ≡ p.i
      → next ≡ next_at (ends_in mid) i
      → (b : IsAhead (ends_in mid) next (m - m / 2 - 1) p.u) × (b.after ≡ after)
  right_ahead old mid cursor next m i w after keeps p is goes =
      let r = rested old mid keeps in
      let from : next_at (ends_in old) p.i ≡ next = ap next_in (sym (r.ends p.i))
      ∙ ap (next_at (ends_in mid)) (sym is) ∙ sym goes in (
        record {
          before = p.right.before;
          after = p.right.after;
          stands = segment-where (ends_in old) (ends_in mid) p.right.before
              p.right.after p.u (λ k on. r.ends k) p.right.stands;
          first = sym from ∙ p.right.first;
          apart = p.right.apart;
          long = p.right.long;
        },
        p.right_after,
      )

  pub stays_there : (old new : Content (IndexLink (IndexNode T))) (k : ℕ) → rest new ≡ rest old
      → IsSome (nodes_in old k) → IsSome (nodes_in new k)
  stays_there old new k keeps some = (rested old new keeps).stays k some

module _ where
  abbrev pub most : ℕ
  most = 2 ^ 64 - 1

  -- the doubling up to a count
  pub record IsDoubled (count exponent reach : ℕ) : Type 0 where
    pub reached : reach ≡ min (2 ^ exponent) (2 ^ 64 - 1)
    pub some : 1 ≤ reach
    pub less : (s : ℕ) → s < exponent → 2 ^ s + 1 < count

  pub doubled_none : (count : ℕ) → IsDoubled count 0 1
  doubled_none count = record
      { reached = refl; some = omega arith; less = λ s below. absurd (omega (arith, below)) }
