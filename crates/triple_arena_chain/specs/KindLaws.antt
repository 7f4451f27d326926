-- What a kind of insertion asks for, in the words of lists.
use Rattle.std.proofs.Common.{◌≡◌, ℕ, false, true, Option, Some, None, IsSome, IfSome, option_map}
use Rattle.std.proofs.Common.{true≢false, refl, sym, ap, subst, inl, inr}
use Rattle.std.proofs.lemmas.Bool.Decides.{eqb_tells}
use Rattle.triple_arena.specs.Entries.{value_if}
use Rattle.triple_arena.specs.Content.{Content, entry_at}
use Rattle.triple_arena_chain.specs.declared.kind.InsertKind.TheVariants.{Disconnected}
use Rattle.triple_arena_chain.specs.declared.kind.InsertKind.TheVariants.{SingleLinkCyclic}
use Rattle.triple_arena_chain.specs.declared.kind.InsertKind.TheVariants.{ChainEnd, ChainStart}
use Rattle.triple_arena_chain.specs.declared.kind.InsertKind.TheVariants.{NextTo, PrevTo}
use Rattle.triple_arena_chain.specs.declared.kind.InsertKind.TheVariants.{AtInterlink, Bridge}
use Rattle.triple_arena_chain.specs.LinkShape.{IndexLink}
use Rattle.linked_lists.specs.LinkedLists.{Ends, next_in, prev_in, next_at, prev_at}
use Rattle.triple_arena_chain.specs.Kinds.{at_end, at_start, after_link, before_link, at_interlink}
use Rattle.triple_arena_chain.specs.Kinds.{at_bridge}
use Rattle.triple_arena_chain.specs.Links.{link_ends, ends_in, ends_found, gap_among}
use Rattle.triple_arena_chain.specs.Links.{IsLinkInserted}
use Rattle.linked_lists.specs.Chains.{IsPutIn, IsOwnRing}
use Rattle.triple_arena_chain.specs.declared.gap.Gap.{Gap}
use Rattle.triple_arena_chain.specs.declared.gap.Gap.TheVariants.{Between}

-- the gaps that are asked for, where the links are as they have to be
end_gap : (i : ℕ) (o : Option Ends) → IsSome (at_end i o)
    → at_end i o ≡ Some (Between (Some i) None)
end_gap i None there = absurd (true≢false (sym there))
end_gap i (Some v) there = by v.1 there
  where
    by : (n : Option ℕ) → IsSome (at_end i (Some (v.0, n)))
        → at_end i (Some (v.0, n)) ≡ Some (Between (Some i) None)
    by None some = refl
    by (Some n) some = absurd (true≢false (sym some))

start_gap : (i : ℕ) (o : Option Ends) → IsSome (at_start i o)
    → at_start i o ≡ Some (Between None (Some i))
start_gap i None there = absurd (true≢false (sym there))
start_gap i (Some v) there = by v.0 there
  where
    by : (n : Option ℕ) → IsSome (at_start i (Some (n, v.1)))
        → at_start i (Some (n, v.1)) ≡ Some (Between None (Some i))
    by None some = refl
    by (Some n) some = absurd (true≢false (sym some))

interlink_gap : (i j : ℕ) (o o' : Option Ends) → IsSome (at_interlink i j o o')
    → at_interlink i j o o' ≡ Some (Between (Some i) (Some j))
interlink_gap i j None o' there = absurd (true≢false (sym there))
interlink_gap i j (Some v) None there = absurd (true≢false (sym there))
interlink_gap i j (Some v) (Some w) there = by v.1 there
  where
    by : (n : Option ℕ) → IsSome (at_interlink i j (Some (v.0, n)) (Some w))
        → at_interlink i j (Some (v.0, n)) (Some w) ≡ Some (Between (Some i) (Some j))
    by None some = absurd (true≢false (sym some))
    by (Some n) some =
        elim (eqb_tells n j) [
          | inl same ↦ rw same.0 refl
          | inr differs ↦ absurd (let no : false ≡ true = rw differs.0 at some in cc)
        ]

bridge_gap : (i j : ℕ) (o o' : Option Ends) → IsSome (at_bridge i j o o')
    → at_bridge i j o o' ≡ Some (Between (Some i) (Some j))
bridge_gap i j None o' there = absurd (true≢false (sym there))
bridge_gap i j (Some v) None there = absurd (true≢false (sym there))
bridge_gap i j (Some v) (Some w) there = by v.1 w.0 there
  where
    by : (n m : Option ℕ) → IsSome (at_bridge i j (Some (v.0, n)) (Some (m, w.1)))
        → at_bridge i j (Some (v.0, n)) (Some (m, w.1)) ≡ Some (Between (Some i) (Some j))
    by None None some = refl
    by None (Some m) some = absurd (true≢false (sym some))
    by (Some n) m some = absurd (true≢false (sym some))

module _ {T : Type 0} where
  -- what a pointer finds is what is at its index
  pub found : (c : Content (IndexLink T)) (i g : ℕ) (v : Ends) → ends_found c i g ≡ Some v
      → ends_in c i ≡ Some v
  found c i g v h = by (entry_at c i) refl h
    where
      by : (o : Option (ℕ × IndexLink T)) → entry_at c i ≡ o
          → option_map link_ends (value_if g o) ≡ Some v → ends_in c i ≡ Some v
      by None at is = absurd (let no : None ≡ Some v = is in cc)
      by (Some e) at is =
          elim (eqb_tells e.0 g) [
            | inl same ↦ rw at (let it : Some (link_ends e.1) ≡ Some v =
                rw same.0 at is in it)
            | inr differs ↦ absurd (let no : None ≡ Some v = rw differs.0 at is in cc)
          ]

module _ {P I T : Type 0} (index generation : P → ℕ) (number : I → ℕ) where
  -- an insertion directly after a link
  pub put-next_to : (c d : Content (IndexLink T)) (p : P) (i g : ℕ) (t : T)
      → IsSome (gap_among index generation number c (NextTo p))
      → IfSome (gap_among index generation number c (NextTo p))
      (λ gap. IsLinkInserted gap i g t c d)
      → IsPutIn (Some (index p), next_at (ends_in c) (index p)) i (ends_in c)
      (ends_in d)
  put-next_to c d p i g t there inserted = by (ends_found c (index p) (generation p))
      (λ v is. found c (index p) (generation p) v is) there inserted
    where
      by : (o : Option Ends) → ((v : Ends) → o ≡ Some v → ends_in c (index p) ≡ Some v)
          → IsSome (after_link (index p) o)
          → IfSome (after_link (index p) o) (λ gap. IsLinkInserted gap i g t c d)
          → IsPutIn (Some (index p), next_at (ends_in c) (index p)) i (ends_in c)
          (ends_in d)
      by None at there inserted = absurd (true≢false (sym there))
      by (Some v) at there inserted =
          subst (λ o. IsPutIn (Some (index p), o) i (ends_in c) (ends_in d))
          (sym (ap next_in (at v refl))) inserted.lists

  at_gap : (c d : Content (IndexLink T)) (i g : ℕ) (t : T) (o : Option (Gap ℕ))
      (gap : Gap ℕ) → o ≡ Some gap
      → IfSome o (λ gap. IsLinkInserted gap i g t c d) → IsLinkInserted gap i g t c d
  at_gap c d i g t o gap is inserted =
      let there : IfSome (Some gap) (λ gap. IsLinkInserted gap i g t c d) =
      subst (λ x. IfSome x (λ gap. IsLinkInserted gap i g t c d)) is inserted in there

  -- a link for itself
  pub put-disconnected : (c d : Content (IndexLink T)) (i g : ℕ) (t : T)
      → IsSome (gap_among index generation number c Disconnected)
      → IfSome (gap_among index generation number c Disconnected)
      (λ gap. IsLinkInserted gap i g t c d)
      → IsPutIn (None, None) i (ends_in c) (ends_in d)
  put-disconnected c d i g t there inserted =
      inserted.lists

  -- a ring of one
  pub put-own_ring : (c d : Content (IndexLink T)) (i g : ℕ) (t : T)
      → IsSome (gap_among index generation number c SingleLinkCyclic)
      → IfSome (gap_among index generation number c SingleLinkCyclic)
      (λ gap. IsLinkInserted gap i g t c d)
      → IsOwnRing i (ends_in c) (ends_in d)
  put-own_ring c d i g t there inserted =
      inserted.lists

  -- an insertion behind the end of a chain
  pub put-chain_end : (c d : Content (IndexLink T)) (p : P) (i g : ℕ) (t : T)
      → IsSome (gap_among index generation number c (ChainEnd p))
      → IfSome (gap_among index generation number c (ChainEnd p))
      (λ gap. IsLinkInserted gap i g t c d)
      → IsPutIn (Some (index p), None) i (ends_in c) (ends_in d)
  put-chain_end c d p i g t there inserted =
      (at_gap c d i g t (at_end (index p) (ends_found c (index p) (generation p)))
      (Between (Some (index p)) None)
      (end_gap (index p) (ends_found c (index p) (generation p)) there) inserted).lists

  -- in front of its start
  pub put-chain_start : (c d : Content (IndexLink T)) (p : P) (i g : ℕ) (t : T)
      → IsSome (gap_among index generation number c (ChainStart p))
      → IfSome (gap_among index generation number c (ChainStart p))
      (λ gap. IsLinkInserted gap i g t c d)
      → IsPutIn (None, Some (index p)) i (ends_in c) (ends_in d)
  put-chain_start c d p i g t there inserted =
      (at_gap c d i g t (at_start (index p) (ends_found c (index p) (generation p)))
      (Between None (Some (index p)))
      (start_gap (index p) (ends_found c (index p) (generation p)) there) inserted).lists

  -- between a link and its next
  pub put-at_interlink : (c d : Content (IndexLink T)) (p q : P) (i g : ℕ) (t : T)
      → IsSome (gap_among index generation number c (AtInterlink p q))
      → IfSome (gap_among index generation number c (AtInterlink p q))
      (λ gap. IsLinkInserted gap i g t c d)
      → IsPutIn (Some (index p), Some (index q)) i (ends_in c) (ends_in d)
  put-at_interlink c d p q i g t there inserted =
      (at_gap c d i g t (at_interlink (index p) (index q)
      (ends_found c (index p) (generation p)) (ends_found c (index q) (generation q)))
      (Between (Some (index p)) (Some (index q)))
      (interlink_gap (index p) (index q) (ends_found c (index p) (generation p))
      (ends_found c (index q) (generation q)) there)
      inserted).lists

  -- between an end and a start
  pub put-bridge : (c d : Content (IndexLink T)) (p q : P) (i g : ℕ) (t : T)
      → IsSome (gap_among index generation number c (Bridge p q))
      → IfSome (gap_among index generation number c (Bridge p q))
      (λ gap. IsLinkInserted gap i g t c d)
      → IsPutIn (Some (index p), Some (index q)) i (ends_in c) (ends_in d)
  put-bridge c d p q i g t there inserted =
      (at_gap c d i g t (at_bridge (index p) (index q)
      (ends_found c (index p) (generation p)) (ends_found c (index q) (generation q)))
      (Between (Some (index p)) (Some (index q)))
      (bridge_gap (index p) (index q) (ends_found c (index p) (generation p))
      (ends_found c (index q) (generation q)) there) inserted).lists

  -- directly before a link
  pub put-prev_to : (c d : Content (IndexLink T)) (p : P) (i g : ℕ) (t : T)
      → IsSome (gap_among index generation number c (PrevTo p))
      → IfSome (gap_among index generation number c (PrevTo p))
      (λ gap. IsLinkInserted gap i g t c d)
      → IsPutIn (prev_at (ends_in c) (index p), Some (index p)) i (ends_in c)
      (ends_in d)
  put-prev_to c d p i g t there inserted = by (ends_found c (index p) (generation p))
      (λ v is. found c (index p) (generation p) v is) there inserted
    where
      by : (o : Option Ends) → ((v : Ends) → o ≡ Some v → ends_in c (index p) ≡ Some v)
          → IsSome (before_link (index p) o)
          → IfSome (before_link (index p) o) (λ gap. IsLinkInserted gap i g t c d)
          → IsPutIn (prev_at (ends_in c) (index p), Some (index p)) i (ends_in c)
          (ends_in d)
      by None at there inserted = absurd (true≢false (sym there))
      by (Some v) at there inserted =
          subst (λ o. IsPutIn (o, Some (index p)) i (ends_in c) (ends_in d))
          (sym (ap prev_in (at v refl))) inserted.lists
