-- Each kind of insertion asks for a gap where one more index may stand.
use Rattle.std.proofs.Common.{◌≡◌, ℕ, Option, Some, None, IsSome, refl, sym, ap, subst, ◌∙◌, inl}
use Rattle.std.proofs.Common.{inr}
use Rattle.std.proofs.lemmas.Bool.Decides.{eqb_tells}
use Rattle.triple_arena.specs.Content.{Content}
use Rattle.triple_arena_chain.specs.LinkShape.{IndexLink}
use Rattle.triple_arena_chain.specs.Links.{ends_in, ends_found, gap_among, IsChained}
use Rattle.triple_arena_chain.specs.declared.kind.InsertKind.{InsertKind}
use Rattle.triple_arena_chain.specs.declared.kind.InsertKind.TheVariants.{Disconnected}
use Rattle.triple_arena_chain.specs.declared.kind.InsertKind.TheVariants.{SingleLinkCyclic}
use Rattle.triple_arena_chain.specs.declared.kind.InsertKind.TheVariants.{ChainEnd, ChainEndInx}
use Rattle.triple_arena_chain.specs.declared.kind.InsertKind.TheVariants.{ChainStart, ChainStartInx}
use Rattle.triple_arena_chain.specs.declared.kind.InsertKind.TheVariants.{NextTo, NextToInx, PrevTo}
use Rattle.triple_arena_chain.specs.declared.kind.InsertKind.TheVariants.{PrevToInx, AtInterlink}
use Rattle.triple_arena_chain.specs.declared.kind.InsertKind.TheVariants.{AtInterlinkInx, Bridge}
use Rattle.triple_arena_chain.specs.declared.kind.InsertKind.TheVariants.{BridgeInx}
use Rattle.triple_arena_chain.specs.declared.gap.Gap.{Gap}
use Rattle.triple_arena_chain.specs.declared.gap.Gap.TheVariants.{Between, OwnRing}
use Rattle.linked_lists.specs.LinkedLists.{Ends, IsAgreed, IsBetween, next_at, prev_at}
use Rattle.triple_arena_chain.specs.Gaps.{IsGap}
use Rattle.linked_lists.specs.LinkedLists.{next_in, prev_in}
use Rattle.triple_arena_chain.specs.KindLaws.{found}
use Rattle.triple_arena_chain.specs.Kinds.{at_end, at_start, after_link, before_link, at_interlink}
use Rattle.triple_arena_chain.specs.Kinds.{at_bridge, gap_of}

IsSome-prev : (o : Option Ends) (p : ℕ) → prev_in o ≡ Some p → IsSome o
IsSome-prev None p h = absurd (let no : None ≡ Some p = h in cc)
IsSome-prev (Some v) p h = refl

IsSome-next : (o : Option Ends) (p : ℕ) → next_in o ≡ Some p → IsSome o
IsSome-next None p h = absurd (let no : None ≡ Some p = h in cc)
IsSome-next (Some v) p h = refl

module _ (e : ℕ → Option Ends) (agreed : IsAgreed e) where
  -- directly after a link
  pub gap_after : (i : ℕ) (v : Ends) → e i ≡ Some v → IsBetween e (Some i, v.1)
  gap_after i v at =
      record {
        before =
            λ p same.
            let i_is : i ≡ p = cc in
            (rw (← i_is, at) refl, inr (ap (next_at e) (sym i_is) ∙ ap next_in at));
        after =
            λ q same.
            let back : prev_at e q ≡ Some i = agreed.forward i q (ap next_in at ∙ same) in
            (IsSome-prev (e q) i back, inr back);
      }

  -- directly before a link
  pub gap_before : (i : ℕ) (v : Ends) → e i ≡ Some v → IsBetween e (v.0, Some i)
  gap_before i v at =
      record {
        before =
            λ p same.
            let on : next_at e p ≡ Some i = agreed.backward p i (ap prev_in at ∙ same) in
            (IsSome-next (e p) i on, inr on);
        after =
            λ q same.
            let i_is : i ≡ q = cc in
            (rw (← i_is, at) refl, inr (ap (prev_at e) (sym i_is) ∙ ap prev_in at));
      }

  -- after an end, and before a start
  gap_bridge : (i j : ℕ) (v w : Ends) → e i ≡ Some v → v.1 ≡ None → e j ≡ Some w → w.0 ≡ None
      → IsBetween e (Some i, Some j)
  gap_bridge i j v w at_i end at_j start =
      record {
        before =
            λ p same.
            let i_is : i ≡ p = cc in
            (rw (← i_is, at_i) refl, inl (ap (next_at e) (sym i_is) ∙ ap next_in at_i ∙ end));
        after =
            λ q same.
            let j_is : j ≡ q = cc in
            (rw (← j_is, at_j) refl, inl (ap (prev_at e) (sym j_is) ∙ ap prev_in at_j ∙ start));
      }

  gap_alone : IsBetween e (None, None)
  gap_alone =
      record {
        before = λ p same. absurd (let no : None ≡ Some p = same in cc);
        after = λ p same. absurd (let no : None ≡ Some p = same in cc);
      }

  -- what is asked for is a gap, where the links are those of these interlinks
  IsGap-is : (found gap : Gap ℕ) → (let o : Option (Gap ℕ) = Some found in o) ≡ Some gap
      → IsGap e found → IsGap e gap
  IsGap-is found gap is there = let same : found ≡ gap = cc in subst (IsGap e) same there

  none_is : (gap : Gap ℕ) → (let o : Option (Gap ℕ) = None in o) ≡ Some gap
      → IsGap e gap
  none_is gap is = absurd (cc)

  by_end : (i : ℕ) (o : Option Ends) (gap : Gap ℕ) → ((v : Ends) → o ≡ Some v → e i ≡ Some v)
      → at_end i o ≡ Some gap → IsGap e gap
  by_end i None gap at is = none_is gap is
  by_end i (Some v) gap at is = by v.1 refl is
    where
      by : (n : Option ℕ) → v.1 ≡ n → at_end i (Some (v.0, n)) ≡ Some gap → IsGap e gap
      by None next h = IsGap-is (Between (Some i) None) gap h
          (subst (λ n. IsBetween e (Some i, n)) next (gap_after i v (at v refl)))
      by (Some n) next h = none_is gap h

  by_start : (i : ℕ) (o : Option Ends) (gap : Gap ℕ) → ((v : Ends) → o ≡ Some v → e i ≡ Some v)
      → at_start i o ≡ Some gap → IsGap e gap
  by_start i None gap at is = none_is gap is
  by_start i (Some v) gap at is = by v.0 refl is
    where
      by : (n : Option ℕ) → v.0 ≡ n → at_start i (Some (n, v.1)) ≡ Some gap → IsGap e gap
      by None prev h = IsGap-is (Between None (Some i)) gap h
          (subst (λ n. IsBetween e (n, Some i)) prev (gap_before i v (at v refl)))
      by (Some n) prev h = none_is gap h

  by_after : (i : ℕ) (o : Option Ends) (gap : Gap ℕ) → ((v : Ends) → o ≡ Some v → e i ≡ Some v)
      → after_link i o ≡ Some gap → IsGap e gap
  by_after i None gap at is = none_is gap is
  by_after i (Some v) gap at is =
      IsGap-is (Between (Some i) v.1) gap is (gap_after i v (at v refl))

  by_before : (i : ℕ) (o : Option Ends) (gap : Gap ℕ) → ((v : Ends) → o ≡ Some v → e i ≡ Some v)
      → before_link i o ≡ Some gap → IsGap e gap
  by_before i None gap at is = none_is gap is
  by_before i (Some v) gap at is =
      IsGap-is (Between v.0 (Some i)) gap is (gap_before i v (at v refl))

  by_interlink : (i j : ℕ) (o o' : Option Ends) (gap : Gap ℕ)
      → ((v : Ends) → o ≡ Some v → e i ≡ Some v)
      → at_interlink i j o o' ≡ Some gap → IsGap e gap
  by_interlink i j None o' gap at is = none_is gap is
  by_interlink i j (Some v) None gap at is = none_is gap is
  by_interlink i j (Some v) (Some w) gap at is = by v.1 refl is
    where
      by : (n : Option ℕ) → v.1 ≡ n → at_interlink i j (Some (v.0, n)) (Some w) ≡ Some gap
          → IsGap e gap
      by None next h = none_is gap h
      by (Some n) next h =
          elim (eqb_tells n j) [
            | inl same ↦
                IsGap-is (Between (Some i) (Some j)) gap (rw same.0 at h)
                (subst (λ n. IsBetween e (Some i, n)) (next ∙ ap Some same.1)
                (gap_after i v (at v refl)))
            | inr differs ↦ none_is gap (rw differs.0 at h)
          ]

  by_bridge : (i j : ℕ) (o o' : Option Ends) (gap : Gap ℕ)
      → ((v : Ends) → o ≡ Some v → e i ≡ Some v)
      → ((v : Ends) → o' ≡ Some v → e j ≡ Some v) → at_bridge i j o o' ≡ Some gap
      → IsGap e gap
  by_bridge i j None o' gap at at' is = none_is gap is
  by_bridge i j (Some v) None gap at at' is = none_is gap is
  by_bridge i j (Some v) (Some w) gap at at' is = by v.1 w.0 refl refl is
    where
      by : (n m : Option ℕ) → v.1 ≡ n → w.0 ≡ m
          → at_bridge i j (Some (v.0, n)) (Some (m, w.1)) ≡ Some gap → IsGap e gap
      by None None next prev h =
          IsGap-is (Between (Some i) (Some j)) gap h
          (gap_bridge i j v w (at v refl) next (at' w refl) prev)
      by None (Some m) next prev h = none_is gap h
      by (Some n) m next prev h = none_is gap h

  pub places : {P I : Type 0} (index : P → ℕ) (number : I → ℕ) (ends_of : P → Option Ends)
      (kind : InsertKind P I) (gap : Gap ℕ)
      → ((p : P) (v : Ends) → ends_of p ≡ Some v → e (index p) ≡ Some v)
      → gap_of index number ends_of e kind ≡ Some gap → IsGap e gap
  places index number ends_of Disconnected gap at is =
      IsGap-is (Between None None) gap is gap_alone
  places index number ends_of SingleLinkCyclic gap at is = IsGap-is OwnRing gap is tt
  places index number ends_of (ChainEnd p) gap at is =
      by_end (index p) (ends_of p) gap (at p) is
  places index number ends_of (ChainEndInx i) gap at is =
      by_end (number i) (e (number i)) gap (λ v h. h) is
  places index number ends_of (ChainStart p) gap at is =
      by_start (index p) (ends_of p) gap (at p) is
  places index number ends_of (ChainStartInx i) gap at is =
      by_start (number i) (e (number i)) gap (λ v h. h) is
  places index number ends_of (NextTo p) gap at is =
      by_after (index p) (ends_of p) gap (at p) is
  places index number ends_of (NextToInx i) gap at is =
      by_after (number i) (e (number i)) gap (λ v h. h) is
  places index number ends_of (PrevTo p) gap at is =
      by_before (index p) (ends_of p) gap (at p) is
  places index number ends_of (PrevToInx i) gap at is =
      by_before (number i) (e (number i)) gap (λ v h. h) is
  places index number ends_of (AtInterlink p q) gap at is =
      by_interlink (index p) (index q) (ends_of p) (ends_of q) gap (at p) is
  places index number ends_of (AtInterlinkInx i j) gap at is =
      by_interlink (number i) (number j) (e (number i)) (e (number j)) gap (λ v h. h) is
  places index number ends_of (Bridge p q) gap at is =
      by_bridge (index p) (index q) (ends_of p) (ends_of q) gap (at p) (at q) is
  places index number ends_of (BridgeInx i j) gap at is =
      by_bridge (number i) (number j) (e (number i)) (e (number j)) gap (λ v h. h) (λ v h. h) is

module _ {P I T : Type 0} (index generation : P → ℕ) (number : I → ℕ) where
  pub asked_is_gap : (c : Content (IndexLink T)) (kind : InsertKind P I) (gap : Gap ℕ)
      → IsChained c
      → gap_among index generation number c kind ≡ Some gap → IsGap (ends_in c) gap
  asked_is_gap c kind gap chained is =
      places (ends_in c) chained.agreed index number
      (λ p. ends_found c (index p) (generation p)) kind gap
      (λ p v h. found c (index p) (generation p) v h) is
