-- What the calls of a playlist make of its lists.
use Rattle.std.proofs.Common.{◌≡◌, ℕ, List, ◌∷◌, ◌++◌, Option, Some, None, IsSome, IfSome, Result}
use Rattle.std.proofs.Common.{Ok, Err, IsOk, IfOk, OnErr, option_map, refl, sym, ap, subst, ◌∙◌}
use Rattle.std.proofs.Common.{◌+◌, ◌%◌, ◌^◌, ◌<◌, length, map, arith, true≢false, inl, inr}
use Rattle.std.specs.List.{sum}
use Rattle.std.proofs.lemmas.List.Sums.{sum_by-cons}
use Rattle.std.proofs.lemmas.Bool.Decides.{eqb_tells}
use Rattle.triple_arena.specs.Entries.{value_if, with_entry}
use Rattle.triple_arena_chain.specs.Walks.{ChainWalk, ChainSteps, left_over, IsEnding}
use Rattle.triple_arena_chain.specs.WalkLaws.{left-after, left-none}
use Rattle.example_chain.specs.Playlists.{length_of, length_at}
use Rattle.triple_arena.specs.Content.{Content}
use Rattle.triple_arena_chain.specs.declared.kind.InsertKind.TheVariants.{NextTo}
use Rattle.triple_arena_chain.specs.LinkShape.{IndexLink}
use Rattle.triple_arena_chain.specs.declared.gap.Gap.{Gap}
use Rattle.linked_lists.specs.LinkedLists.{Off, IsLinear, IsRing}
use Rattle.linked_lists.specs.InsertionListLaws.{linear-put_after, ring-put_after}
use Rattle.linked_lists.specs.InsertionListLaws.{others-put_after}
use Rattle.triple_arena_chain.specs.KindLaws.{put-next_to}
use Rattle.triple_arena_chain.specs.Links.{ends_in, values_in, gap_among, IsChained, IsLinkInserted}
use Rattle.linked_lists.specs.Chains.{Chain, members, IsChainOf}

module _ {T : Type 0} (c d : Content (IndexLink T)) (i g : ℕ) (t : T) where
  -- what the gap tells where there is one
  pub told : {X : Type 0} (o : Option (Gap ℕ)) → IsSome o
      → IfSome o (λ gap. IsLinkInserted gap i g t c d)
      → ((gap : Gap ℕ) → IsLinkInserted gap i g t c d → X) → X
  told None there inserted tell = absurd (true≢false (sym there))
  told (Some gap) there inserted tell = tell gap inserted

module _ {P E I T : Type 0} (index generation : P → ℕ) (number : I → ℕ)
    (c d : Content (IndexLink T)) (p : P) (t : T) where
  -- what an insertion directly after `p` makes of the lists
  pub record Added (r : Result P E) : Type 0 where
    pub song : IfOk r (λ q. (j : ℕ)
        → values_in d j ≡ with_entry (values_in c) (index q) (generation q, t) j)
    pub linear : IfOk r (λ q. (before after : List ℕ)
        → IsLinear (ends_in c) (before ++ index p ∷ after)
        → IsLinear (ends_in d) (before ++ (index p ∷ index q ∷ after)))
    pub ring : IfOk r (λ q. (after : List ℕ) → IsRing (ends_in c) (index p ∷ after)
        → IsRing (ends_in d) (index p ∷ index q ∷ after))
    pub others : (l : Chain) → IsChainOf (ends_in c) l → Off (members l) (index p)
        → IsChainOf (ends_in d) l
    pub counter : d.counter ≡ c.counter

  pub added : (r : Result P E) → IsChained c
      → (IsOk r → IsSome (gap_among index generation number c (NextTo p)))
      → IfOk r (λ q. IfSome (gap_among index generation number c (NextTo p))
      (λ gap. IsLinkInserted gap (index q) (generation q) t c d))
      → OnErr r (d ≡ c) → Added r
  added (Err e) chained there inserted same =
      record {
        song = tt;
        linear = tt;
        ring = tt;
        others = λ l chain off. subst (λ x. IsChainOf (ends_in x) l) (sym same) chain;
        counter = ap (λ x. x.counter) same;
      }
  added (Ok q) chained there inserted same =
      let old = ends_in c in
      let new = ends_in d in
      let put = put-next_to index generation number c d p (index q) (generation q) t (there refl)
      inserted in
      record {
        song = told c d (index q) (generation q) t
            (gap_among index generation number c (NextTo p)) (there refl) inserted
            (λ gap at. at.values);
        linear = linear-put_after old new (index p) (index q) put;
        ring = ring-put_after old new (index p) (index q) put;
        others = others-put_after old new (index p) (index q) put chained.agreed;
        counter = told c d (index q) (generation q) t
            (gap_among index generation number c (NextTo p)) (there refl) inserted
            (λ gap at. at.counter);
      }

seen : (g v : ℕ) (o : Option (ℕ × ℕ)) → value_if g o ≡ Some v → length_of o ≡ v
seen g v None is = absurd (let no : None ≡ Some v = is in cc)
seen g v (Some e) is =
    elim (eqb_tells e.0 g) [
      | inl same ↦ let value : Some e.1 ≡ Some v = rw same.0 at is in cc
      | inr differs ↦ absurd (let no : None ≡ Some v = rw differs.0 at is in cc)
    ]

-- a song with this generation has a length
pub has_length : {T : Type 0} (g : ℕ) (o : Option (ℕ × T)) → option_map (λ e. e.0) o ≡ Some g
    → value_if g o ≡ None → ⊥
has_length g None is none = let no : None ≡ Some g = is in absurd (cc)
has_length g (Some e) is none =
    let at : e.0 ≡ g = cc in
    elim (eqb_tells e.0 g) [
      | inl same ↦ absurd (let no : Some e.1 ≡ None = rw same.0 at none in cc)
      | inr differs ↦ absurd (differs.1 at)
    ]

-- what is added goes on with the rest
pub adds : (t v left s k : ℕ) → s ≡ v + left → (t + s) % 2 ^ 64 ≡ k % 2 ^ 64
    → ((t + v) % 2 ^ 64 + left) % 2 ^ 64 ≡ k % 2 ^ 64
adds t v left s k is whole = omega (arith, is, whole)

pub ends_at : (t s k : ℕ) → s ≡ 0 → (t + s) % 2 ^ 64 ≡ k % 2 ^ 64 → t < 2 ^ 64 → t ≡ k % 2 ^ 64
ends_at t s k none whole fits = omega (arith, none, whole, fits)

module _ (c : Content (IndexLink ℕ)) (w on : ChainWalk) where
  -- a song that was heard
  pub record Heard (v : ℕ) : Type 0 where
    pub ends : IsEnding c on
    pub less : length (left_over c on) < length (left_over c w)
    pub sums : sum (map (length_at c) (left_over c w))
        ≡ v + sum (map (length_at c) (left_over c on))

  pub heard : (i g v : ℕ) → IsEnding c w
      → ChainSteps (ends_in c) (values_in c) w (Some (i, g)) on
      → value_if g (values_in c i) ≡ Some v → Heard v
  heard i g v ends step value =
      let next = left-after c w (i, g) on ends step in
      let left = next.0 in
      let long = ap length left in
      record {
        ends = next.1;
        less = omega (arith, long);
        sums =
            ap (λ l. sum (map (length_at c) l)) left
            ∙ sum_by-cons (λ x. x) (length_at c i) (map (length_at c) (left_over c on))
            ∙ ap (λ x. x + sum (map (length_at c) (left_over c on)))
            (seen g v (values_in c i) value);
      }

  -- and none is left where none is given
  pub all_heard : IsEnding c w → ChainSteps (ends_in c) (values_in c) w None on
      → sum (map (length_at c) (left_over c w)) ≡ 0
  all_heard ends step = ap (λ l. sum (map (length_at c) l)) (left-none c w on ends step)
