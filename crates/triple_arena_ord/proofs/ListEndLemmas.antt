-- The ends of a list, found on a pass over the live indexes: each has no neighbor on its side.
use Rattle.std.proofs.Common.{◌≡◌, ◌≢◌, ℕ, ◌+◌, ◌<◌, ◌≤◌, List, [], ◌∷◌, Option, Some, None, IsSome}
use Rattle.std.proofs.Common.{is_some, option_map, false, refl, sym, ap, subst, ◌∙◌, arith, inl}
use Rattle.std.proofs.Common.{inr}
use Rattle.std.proofs.lemmas.Bool.Decides.{eqb_tells, leb_tells}
use Rattle.triple_arena.specs.Content.{Content, entry_at}
use Rattle.triple_arena.specs.Walk.{Walk, IsAhead, IsFirstLive}
use Rattle.triple_arena_chain.specs.LinkShape.{IndexLink}
use Rattle.linked_lists.specs.LinkedLists.{Ends, first_or, last_or, On, IsSegment, IsLinear}
use Rattle.linked_lists.specs.ChainLaws.{On-either, on_differs}
use Rattle.triple_arena_chain.specs.Links.{ends_in, entry_ends, values_in, valued}
use Rattle.triple_arena_ord.specs.Compressed.{end_noted}

module _ (e : ℕ → Option Ends) (side : Ends → Option ℕ) where
  -- the end is one that was passed and has no neighbor on its side; where there is none, nothing
  -- that was passed is an end
  pub record IsNoted (low : ℕ) (end : Option ℕ) : Type 0 where
    pub found : (i : ℕ) → end ≡ Some i → (v : Ends) × (e i ≡ Some v) × (side v ≡ None)
    pub passed : (j : ℕ) (v : Ends) → j < low → e j ≡ Some v → side v ≡ None → IsSome end

  pub noted_none : (low : ℕ) → low ≡ 1 → e 0 ≡ None → IsNoted low None
  noted_none low is zeroth =
      record {
        found = λ i at. absurd (let no : None ≡ Some i = at in cc);
        passed = λ j v below at alone.
            let least : j ≡ 0 = omega (arith, is, below) in
            absurd (let no : Some v ≡ None = sym at ∙ ap e least ∙ zeroth in cc);
      }

  pub noted_one : (low i : ℕ) (end : Option ℕ) (v : Ends) → IsNoted low end
      → ((j : ℕ) → low ≤ j → j < i → e j ≡ None) → e i ≡ Some v
      → IsNoted (i + 1) (end_noted end (side v) i)
  noted_one low i end v n none at = by (side v) refl
    where
      between : (j : ℕ) → j < i + 1 → j ≢ i → j < i
      between j below other =
          elim (leb_tells i j) [
            | inl reach ↦
                absurd (other (omega (arith, below, reach.1)))
            | inr under ↦ under.1
          ]

      earlier : (j : ℕ) (u : Ends) → j < i → e j ≡ Some u → side u ≡ None → IsSome end
      earlier j u below there alone =
          elim (leb_tells low j) [
            | inl above ↦ absurd (let no : Some u ≡ None = sym there ∙ none j above.1 below in cc)
            | inr under ↦ n.passed j u under.1 there alone
          ]

      by : (o : Option ℕ) → side v ≡ o → IsNoted (i + 1) (end_noted end o i)
      by None is =
          record {
            found = λ k same. let here : i ≡ k = cc in (v, subst (λ k. e k ≡ Some v) here at, is);
            passed = λ j u below there alone. refl;
          }
      by (Some k) is =
          record {
            found = n.found;
            passed = λ j u below there alone.
                elim (eqb_tells j i) [
                  | inl same ↦
                      let one : Some u ≡ Some v = sym there ∙ ap e same.1 ∙ at in
                      let equal : u ≡ v = cc one in
                      absurd (let no : Some k ≡ None = sym is ∙ ap side (sym equal) ∙ alone in cc)
                  | inr other ↦ earlier j u (between j below other.1) there alone
                ];
          }

  -- where the pass is over
  pub record IsAnEnd (end : Option ℕ) : Type 0 where
    pub found : (i : ℕ) → end ≡ Some i → (v : Ends) × (e i ≡ Some v) × (side v ≡ None)
    pub some : (j : ℕ) (v : Ends) → e j ≡ Some v → side v ≡ None → IsSome end

  pub noted_all : (low high : ℕ) (end : Option ℕ) → IsNoted low end
      → ((j : ℕ) → IsSome (e j) → j ≤ high) → ((j : ℕ) → low ≤ j → j ≤ high → e j ≡ None)
      → IsAnEnd end
  noted_all low high end n reaches over =
      record {
        found = n.found;
        some = λ j v at alone.
            elim (leb_tells low j) [
              | inl above ↦ absurd (let no : Some v ≡ None = sym at
                  ∙ over j above.1 (reaches j (ap is_some at)) in cc)
              | inr under ↦ n.passed j v under.1 at alone
            ];
      }

module _ (e : ℕ → Option Ends) where
  same_ends : (i : ℕ) (u v : Ends) → e i ≡ Some u → e i ≡ Some v → u ≡ v
  same_ends i u v one other = let is : Some u ≡ Some v = sym one ∙ other in cc is

  -- each index behind another one has a previous one
  behind : (y i : ℕ) (xs : List ℕ) (v : Ends) → IsSegment e (Some y) xs None → On xs i
      → e i ≡ Some v
      → v.0 ≡ None → ⊥
  behind y i [] v s on at alone = on_differs [] i i on tt refl
  behind y i (x ∷ xs) v s on at alone =
      elim (eqb_tells x i) [
        | inl same ↦
            let is = same_ends i v _ at
            (subst (λ k. e k ≡ Some (Some y, first_or xs None)) same.1 s.0) in
            let no : Some y ≡ None = sym (ap (λ (u : Ends). u.0) is) ∙ alone in cc
        | inr other ↦
            elim (On-either (x ∷ []) xs i on) [
              | inl here ↦ on_differs (x ∷ []) i i here (other.1, tt) refl
              | inr there ↦ behind x i xs v s.1 there at alone
            ]
      ]

  -- the only one without a next is the last one
  at_last : (b : Option ℕ) (i x : ℕ) (xs : List ℕ) (v : Ends) → IsSegment e b (x ∷ xs) None
      → On (x ∷ xs) i → e i ≡ Some v → v.1 ≡ None
      → last_or None (x ∷ xs) ≡ Some i
  at_last b i x [] v s on at alone =
      elim (eqb_tells x i) [
        | inl same ↦ ap Some same.1
        | inr other ↦
            absurd (on_differs (x ∷ []) i i on (other.1, tt) refl)
      ]
  at_last b i x (y ∷ ys) v s on at alone =
      elim (eqb_tells x i) [
        | inl same ↦
            let is = same_ends i v _ at (subst (λ k. e k ≡ Some (b, Some y)) same.1 s.0) in
            absurd (let no : Some y ≡ None = sym (ap (λ (u : Ends). u.1) is) ∙ alone in cc)
        | inr other ↦
            elim (On-either (x ∷ []) (y ∷ ys) i on) [
              | inl here ↦ absurd (on_differs (x ∷ []) i i here (other.1, tt) refl)
              | inr there ↦ at_last (Some x) i y ys v s.1 there at alone
            ]
      ]

  no_next : (b : Option ℕ) (x : ℕ) (xs : List ℕ) → IsSegment e b (x ∷ xs) None
      → (l : ℕ) × (v : Ends) × (e l ≡ Some v) × (v.1 ≡ None)
  no_next b x [] s = (x, (b, None), s.0, refl)
  no_next b x (y ∷ ys) s = no_next (Some x) y ys s.1

  -- where a list has each live index, what has no previous one is its first
  pub first_found : (w : List ℕ) (end : Option ℕ) → IsAnEnd e (λ v. v.0) end → IsLinear e w
      → ((k : ℕ) → IsSome (e k) → On w k) → end ≡ first_or w None
  first_found w None n linear all = by w linear
    where
      by : (w : List ℕ) → IsLinear e w → None ≡ first_or w None
      by [] s = refl
      by (x ∷ xs) s = absurd (let no = n.some x (None, first_or xs None) s.0 refl in cc)
  first_found w (Some i) n linear all =
      let there = n.found i refl in
      by w linear (all i (ap is_some there.1)) there.0 there.1 there.2
    where
      by : (w : List ℕ) → IsLinear e w → On w i → (v : Ends) → e i ≡ Some v → v.0 ≡ None
          → Some i ≡ first_or w None
      by [] s on v at alone = absurd (on_differs [] i i on tt refl)
      by (x ∷ xs) s on v at alone =
          elim (On-either (x ∷ []) xs i on) [
            | inl here ↦ elim (eqb_tells x i) [
              | inl same ↦ ap Some (sym same.1)
              | inr other ↦
                  absurd (on_differs (x ∷ []) i i here (other.1, tt) refl)
            ]
            | inr there ↦ absurd (behind x i xs v s.1 there at alone)
          ]

  -- and what has no next one is its last
  pub last_found : (w : List ℕ) (end : Option ℕ) → IsAnEnd e (λ v. v.1) end → IsLinear e w
      → ((k : ℕ) → IsSome (e k) → On w k) → end ≡ last_or None w
  last_found w None n linear all = by w linear
    where
      by : (w : List ℕ) → IsLinear e w → None ≡ last_or None w
      by [] s = refl
      by (x ∷ xs) s = absurd (let z = no_next None x xs s in let no = n.some z.0 z.1 z.2 z.3 in cc)
  last_found w (Some i) n linear all =
      let there = n.found i refl in
      by w linear (all i (ap is_some there.1)) there.0 there.1 there.2
    where
      by : (w : List ℕ) → IsLinear e w → On w i → (v : Ends) → e i ≡ Some v → v.1 ≡ None
          → Some i ≡ last_or None w
      by [] s on v at alone = absurd (on_differs [] i i on tt refl)
      by (x ∷ xs) s on v at alone = sym (at_last None i x xs v s on at alone)

module _ {T : Type 0} (c : Content (IndexLink T)) (side : Ends → Option ℕ)
  where
    unlinked : (o : Option (ℕ × IndexLink T)) → option_map valued o ≡ None
        → option_map entry_ends o ≡ None
    unlinked None h = refl
    unlinked (Some l) h = absurd (cc)

    linked : (o : Option (ℕ × IndexLink T)) → IsSome (option_map entry_ends o)
        → IsSome (option_map valued o)
    linked None h = absurd (cc)
    linked (Some l) h = refl

    -- the pass comes to the first live index ahead
    pub noted_step : (w after : Walk) (i g k : ℕ) (end new : Option ℕ) (v : Ends)
        → IsNoted (ends_in c) side w.low end → w.falls ≡ false
        → IsFirstLive (values_in c) w i g → after.low ≡ i + 1 → k ≡ i → ends_in c k ≡ Some v
        → new ≡ end_noted end (side v) k
        → IsNoted (ends_in c) side after.low new
    noted_step w after i g k end new v n rises first low is at made =
        subst (λ l. IsNoted (ends_in c) side l new) (sym low)
        (subst (IsNoted (ends_in c) side (i + 1))
        (sym (made ∙ ap (end_noted end (side v)) is))
        (noted_one (ends_in c) side w.low i end v n none
        (ap (ends_in c) (sym is) ∙ at)))
      where
        none : (j : ℕ) → w.low ≤ j → j < i → ends_in c j ≡ None
        none j above below = unlinked (entry_at c j)
            (first.first j (above, omega (arith, below, first.ahead.1)) (rw rises below))

    -- the pass finds nothing ahead
    pub noted_whole : (w : Walk) (end : Option ℕ) → IsNoted (ends_in c) side w.low end
        → ((j : ℕ) → IsSome (values_in c j) → j ≤ w.high)
        → ((j : ℕ) → IsAhead w j → values_in c j ≡ None) → IsAnEnd (ends_in c) side end
    noted_whole w end n reaches over =
        noted_all (ends_in c) side w.low w.high end n
        (λ j some. reaches j (linked (entry_at c j) some))
        (λ j above below. unlinked (entry_at c j) (over j (above, below)))
