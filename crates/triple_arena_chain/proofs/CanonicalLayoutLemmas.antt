-- A canonical compression as a whole: the links go to the first indexes, and then each chain to
-- successive ones.
use Rattle.std.proofs.Common.{◌≡◌, ℕ, zero, suc, ◌+◌, Bool, length, map, Option, Some, None, IsSome}
use Rattle.std.proofs.Common.{is_some, option_map, true≢false, refl, sym, ap, subst, ◌∙◌, arith}
use Rattle.std.specs.Prelude.{slice_get}
use Rattle.std.proofs.lemmas.Option.{slice_get-map}
use Rattle.triple_arena.specs.Compression.{renewed, value_of}
use Rattle.triple_arena.specs.Content.{Content, live_count}
use Rattle.triple_arena.specs.LiveEntries.{live_entries}
use Rattle.triple_arena_chain.specs.LinkShape.{IndexLink}
use Rattle.linked_lists.specs.LinkedLists.{Ends, next_in, prev_in, IsAgreed, On}
use Rattle.linked_lists.specs.AllChainsLaws.{all_live}
use Rattle.linked_lists.specs.ChainLaws.{live_next_in, live_prev_in}
use Rattle.triple_arena_chain.specs.Links.{valued, values_in, entry_ends, ends_in, IsChained}
use Rattle.triple_arena_chain.specs.Listed.{listed_value, listed_values}
use Rattle.triple_arena_chain.specs.Renaming.{live_below, new_index, ends_renamed, FollowsRenaming}
use Rattle.triple_arena_chain.specs.Renaming.{IsCompacted}
use Rattle.triple_arena_chain.specs.CanonicalLayout.{IsLaidOut, IsAlike, IsAllGathered, IsCanonical}
use Rattle.triple_arena_chain.proofs.PassLemmas.{live_ends}
use Rattle.triple_arena_chain.proofs.RenamingLemmas.{slot_at, slots_ranked, live_below_full}
use Rattle.triple_arena_chain.proofs.RenamingLemmas.{listed-ranked}
use Rattle.triple_arena_chain.proofs.RunLemmas.{run-on, run-within}
use Rattle.triple_arena_chain.proofs.GatherLemmas.{some_moved}
use Rattle.triple_arena_chain.specs.CanonicalLayoutLaws.{laid_same}
use Rattle.triple_arena_chain.proofs.GatheredLemmas.{renamed_after}

module _ (e : ℕ → Option Ends) where
  -- in the canonical layout each live index has its own number
  laid_rank : (n i : ℕ) → e 0 ≡ None → IsLaidOut e n → IsSome (e i) → new_index e i ≡ i
  laid_rank n i none laid some =
      let at = run-within 1 n i (subst (λ l. On l i) laid.runs (laid.are.whole i some)) in
      let low = at.0 in
      live_below_full e i none
      (λ j up down. all_live e laid.chains j laid.are.chains
      (subst (λ l. On l j) (sym laid.runs) (run-on 1 n j up (omega (arith, down, at.1))))) low

  -- where no live index changes its name the interlinks stay
  renamed_same : (f : ℕ → ℕ) (e' : ℕ → Option Ends) → IsAgreed e → FollowsRenaming f e e'
      → ((i : ℕ) → IsSome (e i) → f i ≡ i) → (i : ℕ) → e' i ≡ e i
  renamed_same f e' agreed r fixed i = by (e i) refl
    where
      keeps : (o : Option ℕ) → ((p : ℕ) → o ≡ Some p → f p ≡ p) → option_map f o ≡ o
      keeps None each = refl
      keeps (Some p) each = ap Some (each p refl)

      gone : (o : Option Ends) → (IsSome o → ⊥) → o ≡ None
      gone None never = refl
      gone (Some v) never = absurd (never refl)

      by : (o : Option Ends) → e i ≡ o → e' i ≡ e i
      by None is =
          gone (e' i)
          (λ some.
          let n = r.onto i some in
          let same : n.0 ≡ i = sym (fixed n.0 n.1) ∙ n.2 in
          true≢false (sym n.1 ∙ ap (λ k. is_some (e k)) same ∙ ap is_some is))
          ∙ sym is
      by (Some v) is =
          let some : IsSome (e i) = ap is_some is in
          ap e' (sym (fixed i some)) ∙ r.ends i some ∙ ap (option_map (ends_renamed f)) is
          ∙ ap (λ a. Some (a, option_map f v.1))
          (keeps v.0 (λ p goes. fixed p
          (live_next_in (e p) i (agreed.backward p i (ap prev_in is ∙ goes)))))
          ∙ ap (λ b. Some (v.0, b))
          (keeps v.1 (λ p goes. fixed p
          (live_prev_in (e p) i (agreed.forward i p (ap next_in is ∙ goes)))))
          ∙ sym is

module _ {T : Type 0} (last : Option ℕ) (reset : Bool)
    (old mid : Content (IndexLink T)) (chained : IsChained old)
    (c : IsCompacted last reset (map value_of (listed_values old)) old mid) where
  -- each link has the counter as its generation
  pub compacted_alike : IsAlike mid
  compacted_alike zero e at = absurd (cc)
  compacted_alike (suc k) e at =
      let next : suc k ≡ k + 1 = omega arith in
      by (slice_get (map value_of (listed_values old)) k)
      (sym (c.values k) ∙ ap (values_in mid) (sym next) ∙ at) ∙ sym c.counter
    where
      by : (o : Option T) → option_map (λ t. (renewed last reset old.counter, t)) o ≡ Some e
          → e.0 ≡ renewed last reset old.counter
      by None is = absurd (cc)
      by (Some t) is = let same : (renewed last reset old.counter, t) ≡ e = cc in
          ap (λ (x : ℕ × T). x.0) (sym same)

  abbrev new : ℕ → ℕ
  new = new_index (ends_in old)

  values_compacted : (i : ℕ) → IsSome (ends_in old i)
      → values_in mid (new_index (ends_in old) i)
      ≡ option_map (λ e. (renewed last reset old.counter, e.1)) (values_in old i)
  values_compacted zero some = absurd (true≢false (sym some))
  values_compacted (suc k) some = by (slot_at old.slots k) refl
    where
      by : (o : Option (ℕ × IndexLink T)) → slot_at old.slots k ≡ o
          → values_in mid (new_index (ends_in old) (suc k))
          ≡ option_map (λ e. (renewed last reset old.counter, e.1)) (values_in old (suc k))
      by None is = absurd (true≢false
          (sym some ∙ ap (λ o. is_some (option_map entry_ends o)) is))
      by (Some e) is =
          let there = listed-ranked 1 k old.slots e is in
          let listed : slice_get (map value_of (listed_values old))
          (live_below (ends_in old) (suc k)) ≡ Some e.1.t =
          ap (slice_get (map value_of (listed_values old)))
          (slots_ranked (ends_in old) old (λ j. sym (live_ends old j)) k)
          ∙ slice_get-map value_of (listed_values old) (live_below (slot_at old.slots) k)
          ∙ ap (option_map value_of)
          (slice_get-map listed_value (live_entries old) (live_below (slot_at old.slots) k))
          ∙ ap (λ o. option_map value_of (option_map listed_value o)) there in
          c.values (live_below (ends_in old) (suc k))
          ∙ ap (option_map (λ t. (renewed last reset old.counter, t))) listed
          ∙ sym (ap (λ o. option_map
          (λ (x : ℕ × T). (let y : ℕ × T = (renewed last reset old.counter, x.1) in y))
          (option_map valued o)) is)

  -- each chain stands at successive indexes
  pub is_canonical : (now : Content (IndexLink T)) → IsAllGathered mid now
      → IsCanonical last reset old now
  is_canonical now g =
      record {
        to = λ i. g.to (new_index (ends_in old) i);
        renamed = renamed_after g.to (new_index (ends_in old)) (ends_in old)
            (ends_in mid) (ends_in now) c.renamed g.moved.renamed;
        values = λ i some.
            g.moved.values (new_index (ends_in old) i)
            (some_moved (new_index (ends_in old)) (ends_in old)
            (ends_in mid) c.renamed i some)
            ∙ values_compacted i some;
        laid_out = subst (IsLaidOut (ends_in now)) c.slots g.laid_out;
        stays = λ laid i some.
            let keeps = λ (j : ℕ) (there : IsSome (ends_in old j)). laid_rank
            (ends_in old) (live_count old) j refl laid there in
            let same = renamed_same (ends_in old) (new_index (ends_in old))
            (ends_in mid) chained.agreed c.renamed keeps in
            g.stays (live_count old)
            (laid_same (ends_in old) (ends_in mid) (live_count old) same laid)
            (new_index (ends_in old) i) ∙ keeps i some;
        live =
            let counted = g.moved.chained.formed.counted in
            let none = ap length (g.moved.kept.free ∙ c.free) in
            let slots = g.moved.kept.slots ∙ c.slots in
            omega (arith, counted, none, slots);
        slots = g.moved.kept.slots ∙ c.slots;
        free = g.moved.kept.free ∙ c.free;
        counter = g.moved.kept.counter ∙ c.counter;
        room = g.moved.kept.room ∙ c.room;
      }

-- where the layout is canonical already no index changes
pub canonical_twice : {T : Type 0} (last : Option ℕ) (reset again : Bool)
    (old mid new : Content (IndexLink T))
    → IsCanonical last reset old mid → (second : IsCanonical last again mid new)
    → (i : ℕ) → IsSome (ends_in mid i) → second.to i ≡ i
canonical_twice last reset again old mid new first second i some =
    second.stays (subst (IsLaidOut (ends_in mid)) (sym first.live) first.laid_out) i some
