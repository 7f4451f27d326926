-- A compression of links where no index is free: each link stays where it is.
use Rattle.std.proofs.Common.{◌≡◌, ℕ, zero, suc, ◌+◌, Bool, true, not, true≢false, List, [], ◌∷◌}
use Rattle.std.proofs.Common.{map, Option, Some, None, is_some, IsSome, option_map, refl, sym, ap}
use Rattle.std.proofs.Common.{◌∙◌, arith}
use Rattle.std.specs.Prelude.{slice_get}
use Rattle.std.specs.List.{AllZip}
use Rattle.triple_arena.specs.Changes.{IsCompressed}
use Rattle.triple_arena.specs.Compression.{renewed, value_of, entry_of_listed, compacted}
use Rattle.triple_arena.specs.Content.{Content, entry_at, live_count, some_counter, IsWellFormed}
use Rattle.triple_arena.specs.LiveEntries.{live_entries}
use Rattle.triple_arena_chain.specs.LinkShape.{IndexLink}
use Rattle.linked_lists.specs.LinkedLists.{Ends, next_in, next_at}
use Rattle.linked_lists.specs.LinkedListLaws.{IsAgreed-same}
use Rattle.linked_lists.specs.ChainLaws.{live_prev_in}
use Rattle.triple_arena_chain.specs.Links.{entry_ends, ends_in, IsChained}
use Rattle.triple_arena_chain.specs.Values.{room_in}
use Rattle.triple_arena_chain.specs.Renaming.{live_below, new_index, FollowsRenaming, IsLeftInPlace}
use Rattle.triple_arena_chain.proofs.PassLemmas.{live_ends}
use Rattle.triple_arena_chain.proofs.RenamingLemmas.{slot_at, slots_ranked, live_below_full}
use Rattle.triple_arena_chain.proofs.RenamingLemmas.{listed-ranked, listed-onto, renamed_by}
use Rattle.triple_arena_chain.proofs.CompactingLemmas.{zip_forth, zip_back, entry_placed, AreListed}
use Rattle.triple_arena_chain.proofs.GatheredLemmas.{full_live, within_slots}

-- where there is no first free index, none is free
pub none_free : {I : Type 0} (number : I → ℕ) (root : Option I) (free : List ℕ) (is : Bool)
    → option_map number root ≡ slice_get free 0
    → is_some root ≡ not is → is ≡ true → free ≡ []
none_free number root [] is first told so = refl
none_free number None (x ∷ xs) is first told so = absurd (let no : None ≡ Some x = first in cc)
none_free number (Some i) (x ∷ xs) is first told so = absurd (true≢false (told ∙ ap not so))

module _ {T : Type 0} (last : Option ℕ) (reset : Bool)
    (c0 c3 : Content (IndexLink T)) where
  pub record AreRenewed : Type 0 where
    pub chained : IsChained c0
    pub full : c0.free ≡ []
    pub links : AllZip IsLeftInPlace (live_entries c0) (live_entries c3)
    pub compressed : IsCompressed entry_at live_count some_counter room_in last live_entries reset
        c0 c3
    pub exact : c3 ≡ compacted (renewed last reset c0.counter) (map value_of (live_entries c3)) c0

  module _ (m : AreRenewed) where
    abbrev e0 : ℕ → Option Ends
    e0 = ends_in c0

    pub renewed_listed : AreListed last reset c0 c0 c3 c3
    renewed_listed =
        record {
          before = λ j. refl;
          kept_before = record {
            live = refl;
            slots = refl;
            free = refl;
            counter = refl;
            room = refl;
          };
          compressed = m.compressed;
          exact = m.exact;
          after = λ k. refl;
          kept_after = record {
            live = refl;
            slots = refl;
            free = refl;
            counter = refl;
            room = refl;
          };
        }

    -- each live index has its own number
    fixed : (i : ℕ) → IsSome (e0 i) → new_index e0 i ≡ i
    fixed zero some = absurd (true≢false (sym some))
    fixed (suc k) some =
        let within = within_slots c0 (suc k) some in
        live_below_full e0 (suc k) refl
        (λ j low high. full_live c0 j m.chained.formed m.full low
        (omega (arith, within, high))) (omega arith)

    ranked : (k : ℕ) → live_below e0 (suc k) ≡ live_below (slot_at c0.slots) k
    ranked k = slots_ranked e0 c0 (λ j. sym (live_ends c0 j)) k

    -- a link stays where it is
    stays : (k : ℕ) (e : ℕ × IndexLink T) → slot_at c0.slots k ≡ Some e
        → ends_in c3 (suc k) ≡ Some (entry_ends e)
    stays k e is =
        let own = fixed (suc k) (ap (λ o. is_some (option_map entry_ends o)) is) in
        let rank = ranked k in
        let here : live_below (slot_at c0.slots) k ≡ k = omega (arith, own, rank) in
        let there = listed-ranked 1 k c0.slots e is in
        let z = zip_forth IsLeftInPlace (live_entries c0) (live_entries c3) m.links
        (live_below (slot_at c0.slots) k) (1 + k, e) there in
        let next : suc k ≡ k + 1 = omega arith in
        let placed = entry_placed last reset c0 c3 m.compressed k z.0
        (ap (slice_get (live_entries c3)) (sym here) ∙ z.1) in
        ap (ends_in c3) next
        ∙ ap (option_map entry_ends) placed
        ∙ ap (λ o. Some (o, z.0.1.1.next)) z.2.0
        ∙ ap (λ o. Some (e.1.prev, o)) z.2.1

    -- and there is no other one
    from : (k : ℕ) (f : ℕ × (ℕ × IndexLink T)) → slice_get (live_entries c3) k ≡ Some f
        → IsSome (slot_at c0.slots k)
    from k f is =
        let z = zip_back IsLeftInPlace (live_entries c0) (live_entries c3) m.links k f is in
        let o = listed-onto 1 k c0.slots z.0 z.1 in
        let own = fixed (suc o.0) (ap (λ s. is_some (option_map entry_ends s)) o.1) in
        let rank = ranked o.0 in
        let same : k ≡ o.0 = omega (arith, own, rank, o.2) in
        ap (λ n. is_some (slot_at c0.slots n)) same ∙ ap is_some o.1

    same : (k : ℕ) → ends_in c3 k ≡ ends_in c0 k
    same zero = refl
    same (suc k) = by (slot_at c0.slots k) refl
      where
        none : (o : Option (ℕ × (ℕ × IndexLink T))) → slice_get (live_entries c3) k ≡ o
            → slot_at c0.slots k ≡ None
            → option_map entry_ends (option_map entry_of_listed o) ≡ None
        none None is gone = refl
        none (Some f) is gone = absurd (true≢false (sym (from k f is) ∙ ap is_some gone))

        by : (o : Option (ℕ × IndexLink T)) → slot_at c0.slots k ≡ o
            → ends_in c3 (suc k) ≡ ends_in c0 (suc k)
        by None is =
            let next : suc k ≡ k + 1 = omega arith in
            ap (ends_in c3) next
            ∙ ap (option_map entry_ends) (m.compressed.entries k)
            ∙ none (slice_get (live_entries c3) k) refl is
            ∙ sym (ap (option_map entry_ends) is)
        by (Some e) is = stays k e is ∙ sym (ap (option_map entry_ends) is)

    keeps : (o : Option ℕ) → ((p : ℕ) → o ≡ Some p → IsSome (e0 p))
        → o ≡ option_map (new_index e0) o
    keeps None each = refl
    keeps (Some p) each = ap Some (sym (fixed p (each p refl)))

    -- the interlinks follow the renaming, which renames nothing
    pub unmoved_links : FollowsRenaming (new_index e0) e0 (ends_in c3)
    unmoved_links =
        renamed_by (new_index e0) e0 (ends_in c3) m.chained.agreed
        (record {
          live = λ i some. ap (λ k. is_some (ends_in c3 k)) (fixed i some)
              ∙ ap is_some (same i) ∙ some;
          nexts = λ i some.
              ap (next_at (ends_in c3)) (fixed i some) ∙ ap next_in (same i)
              ∙ keeps (next_at e0 i)
              (λ p goes. live_prev_in (e0 p) i (m.chained.agreed.forward i p goes));
          onto = λ k some.
              let there : IsSome (e0 k) = sym (ap is_some (same k)) ∙ some in
              (k, there, fixed k there);
        })
        (λ i j some some' is. sym (fixed i some) ∙ is ∙ fixed j some')
        (IsAgreed-same e0 (ends_in c3) same m.chained.agreed)

    pub unmoved_chained : IsWellFormed c3 → IsChained c3
    unmoved_chained formed =
        record {
          formed = formed;
          agreed = IsAgreed-same e0 (ends_in c3) same m.chained.agreed;
        }
