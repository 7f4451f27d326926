-- A compression of links as a whole: numbers in the previous indexes, the nexts forwarded, the
-- links moved, the nexts joined.
use Rattle.std.proofs.Common.{◌≡◌, ℕ, zero, suc, ◌+◌, Bool, true≢false, List, [], ◌∷◌, length, map}
use Rattle.std.proofs.Common.{Option, Some, None, is_some, IsSome, option_map, refl, sym, ap, subst}
use Rattle.std.proofs.Common.{◌∙◌, arith}
use Rattle.std.specs.Prelude.{slice_get}
use Rattle.std.specs.List.{AllZip}
use Rattle.std.proofs.lemmas.Option.{slice_get-map}
use Rattle.std.proofs.lemmas.List.{length-map}
use Rattle.triple_arena.specs.Changes.{IsCompressed}
use Rattle.triple_arena.specs.CompactedLaws.{entry-compacted, slots-compacted}
use Rattle.triple_arena.specs.Compression.{renewed, generation_given, generation_of, value_of}
use Rattle.triple_arena.specs.Compression.{index_of, entry_of_listed, compacted}
use Rattle.triple_arena.specs.Content.{Content, entry_at, live_count, some_counter}
use Rattle.triple_arena.specs.LiveEntries.{live_entries, live_entries-length}
use Rattle.triple_arena_chain.specs.LinkShape.{IndexLink}
use Rattle.linked_lists.specs.LinkedLists.{Ends, next_in, prev_in, next_at, prev_at, IsAgreed}
use Rattle.linked_lists.specs.ChainLaws.{live_prev_in}
use Rattle.triple_arena_chain.specs.Links.{valued, values_in, entry_ends, ends_in, IsKept}
use Rattle.triple_arena_chain.specs.Links.{IsChained, IsRelinked}
use Rattle.triple_arena_chain.specs.Listed.{listed_value, listed_values}
use Rattle.triple_arena_chain.specs.Values.{room_in}
use Rattle.triple_arena_chain.specs.Renaming.{live_below, new_index, numbered, prev_of, forwarded}
use Rattle.triple_arena_chain.specs.Renaming.{FollowsRenaming, IsLeftWithNext, IsCompacted}
use Rattle.triple_arena_chain.proofs.ListedLemmas.{values_listed}
use Rattle.triple_arena_chain.specs.LinkLaws.{kept_on}
use Rattle.triple_arena_chain.proofs.PassLemmas.{live_as, live_ends}
use Rattle.triple_arena_chain.proofs.RenamingLemmas.{AreNextsRenamed, IsApart, slot_at}
use Rattle.triple_arena_chain.proofs.RenamingLemmas.{slots_ranked, live_below-apart, listed-ranked}
use Rattle.triple_arena_chain.proofs.RenamingLemmas.{listed-onto, nexts_live, nexts_apart}
use Rattle.triple_arena_chain.proofs.RenamingLemmas.{renamed_by}

module _ {X Y : Type 0} (R : X → Y → Type 0) where
  -- what is related one by one is related at each place
  pub zip_forth : (xs : List X) (ys : List Y) → AllZip R xs ys → (k : ℕ) (x : X)
      → slice_get xs k ≡ Some x → (y : Y) × (slice_get ys k ≡ Some y) × R x y
  zip_forth [] ys zip k x at = absurd (cc)
  zip_forth (a ∷ xs) [] zip k x at = absurd zip
  zip_forth (a ∷ xs) (b ∷ ys) zip zero x at = let same : a ≡ x = cc in
      (b, refl, subst (λ z. R z b) same zip.0)
  zip_forth (a ∷ xs) (b ∷ ys) zip (suc k) x at = zip_forth xs ys zip.1 k x at

  pub zip_back : (xs : List X) (ys : List Y) → AllZip R xs ys → (k : ℕ) (y : Y)
      → slice_get ys k ≡ Some y → (x : X) × (slice_get xs k ≡ Some x) × R x y
  zip_back xs [] zip k y at = absurd (cc)
  zip_back [] (b ∷ ys) zip k y at = absurd zip
  zip_back (a ∷ xs) (b ∷ ys) zip zero y at = let same : b ≡ y = cc in
      (a, refl, subst (R a) same zip.0)
  zip_back (a ∷ xs) (b ∷ ys) zip (suc k) y at = zip_back xs ys zip.1 k y at

next_numbered : (n : ℕ) (o : Option Ends)
    → next_in (option_map (λ (v : Ends). (let w : Ends = (Some n, v.1) in w)) o) ≡ next_in o
next_numbered n None = refl
next_numbered n (Some v) = refl

prev_numbered : (n : ℕ) (o : Option Ends) → IsSome o
    → prev_in (option_map (λ (v : Ends). (let w : Ends = (Some n, v.1) in w)) o) ≡ Some n
prev_numbered n None some = absurd (true≢false (sym some))
prev_numbered n (Some v) some = refl

next_forwarded : (e : ℕ → Option Ends) (o : Option Ends)
    → next_in (option_map (λ (v : Ends). (let w : Ends = (v.0, prev_of e v.1) in w)) o)
    ≡ prev_of e (next_in o)
next_forwarded e None = refl
next_forwarded e (Some v) = refl

-- what is named as a next is live, once the links have their numbers
pub numbered_live : {T : Type 0} (c0 c1 : Content (IndexLink T))
    → IsChained c0
    → IsRelinked (numbered (ends_in c0)) c0 c1 → (p q : ℕ)
    → next_at (ends_in c1) p ≡ Some q → IsSome (ends_in c1 q)
numbered_live c0 c1 chained first p q goes =
    let own : next_at (ends_in c0) p ≡ Some q =
    sym (ap next_in (first.ends p)
    ∙ next_numbered (new_index (ends_in c0) p) (ends_in c0 p)) ∙ goes in
    live_ends c1 q ∙ live_as c0 c1 first.values q ∙ sym (live_ends c0 q)
    ∙ live_prev_in (ends_in c0 q) p (chained.agreed.forward p q own)

module _ {T : Type 0} (last : Option ℕ) (reset : Bool) (c2 c3 : Content (IndexLink T))
    (compressed : IsCompressed entry_at live_count some_counter room_in last live_entries reset c2
    c3) where
  -- what is listed stands at its place
  pub entry_placed : (n : ℕ) (f : ℕ × (ℕ × IndexLink T)) → slice_get (live_entries c3) n ≡ Some f
      → entry_at c3 (n + 1) ≡ Some f.1
  entry_placed n f is = compressed.entries n ∙ ap (option_map entry_of_listed) is

module _ {T : Type 0} (last : Option ℕ) (reset : Bool) (c0 c2 c3 c4 : Content (IndexLink T))
  where
    -- links that are compressed, where what is done before and after changes interlinks alone
    pub record AreListed : Type 0 where
      pub before : (j : ℕ) → values_in c2 j ≡ values_in c0 j
      pub kept_before : IsKept c0 c2
      pub compressed : IsCompressed entry_at live_count some_counter room_in last live_entries reset
          c2 c3
      pub exact : c3 ≡ compacted (renewed last reset c2.counter) (map value_of (live_entries c3)) c2
      pub after : (k : ℕ) → values_in c4 k ≡ values_in c3 k
      pub kept_after : IsKept c3 c4

    module _ (m : AreListed) where
      pub listed_old : listed_values c2 ≡ listed_values c0
      listed_old = values_listed c0 c2 m.before

      pub listed_new : listed_values c4 ≡ listed_values c3
      listed_new = values_listed c3 c4 m.after

      read_new : (k : ℕ) → slice_get (listed_values c4) k
          ≡ option_map listed_value (slice_get (live_entries c3) k)
      read_new k = ap (λ l. slice_get l k) listed_new
          ∙ slice_get-map listed_value (live_entries c3) k

      counters : c2.counter ≡ c0.counter
      counters = m.kept_before.counter

      pub compacted_values : (k : ℕ)
          → values_in c4 (k + 1)
          ≡ option_map (λ t. (let e : ℕ × T = (renewed last reset c0.counter, t) in e))
          (slice_get (map value_of (listed_values c4)) k)
      compacted_values k =
          m.after (k + 1)
          ∙ ap (option_map valued) (m.compressed.entries k)
          ∙ given (slice_get (live_entries c3) k) refl
          ∙ ap (option_map (λ t. (let e : ℕ × T = (renewed last reset c0.counter, t) in e)))
          (ap (option_map value_of) (sym (read_new k))
          ∙ sym (slice_get-map value_of (listed_values c4) k))
        where
          given : (o : Option (ℕ × (ℕ × IndexLink T))) → slice_get (live_entries c3) k ≡ o
              → option_map valued (option_map entry_of_listed o)
              ≡ option_map (λ t. (let e : ℕ × T = (renewed last reset c0.counter, t) in e))
              (option_map value_of (option_map listed_value o))
          given None is = refl
          given (Some f) is =
              let g = renewed last reset c2.counter in
              let at : Some f.1 ≡ Some (g, f.1.1) =
              sym (entry_placed last reset c2 c3 m.compressed k f is)
              ∙ ap (λ d. entry_at d (k + 1)) m.exact
              ∙ entry-compacted g (map value_of (live_entries c3)) c2 k
              ∙ ap (option_map (λ l. (let e : ℕ × IndexLink T = (g, l) in e)))
              (slice_get-map value_of (live_entries c3) k ∙ ap (option_map value_of) is) in
              ap (λ (o : Option (ℕ × IndexLink T)). option_map valued o) at
              ∙ ap (λ n. Some (renewed last reset n, f.1.1.t)) counters

      pub is_compacted : FollowsRenaming (new_index (ends_in c0)) (ends_in c0) (ends_in c4)
          → IsCompacted last reset (map value_of (listed_values c4)) c0 c4
      is_compacted renamed =
          record {
            renamed = renamed;
            values = compacted_values;
            slots = m.kept_after.slots
                ∙ ap (λ d. length d.slots) m.exact
                ∙ slots-compacted (renewed last reset c2.counter) (map value_of (live_entries c3))
                c2
                ∙ length-map (live_entries c3) value_of
                ∙ live_entries-length c3
                ∙ m.compressed.live
                ∙ m.kept_before.live;
            free = m.kept_after.free ∙ ap (λ d. d.free) m.exact;
            counter = m.kept_after.counter ∙ ap (λ d. d.counter) m.exact
                ∙ ap (renewed last reset) counters;
            room = m.kept_after.room ∙ ap (λ d. d.room) m.exact ∙ m.kept_before.room;
          }

      generations_of : (l : List (ℕ × (ℕ × IndexLink T)))
          → map generation_of (map listed_value l) ≡ map generation_of l
      generations_of [] = refl
      generations_of (x ∷ l) = ap (λ r. x.1.0 ∷ r) (generations_of l)

      generations_given : (counter : Option ℕ) (l : List (ℕ × (ℕ × IndexLink T)))
          → map (λ (e : ℕ × (ℕ × T)). generation_given last reset counter (generation_of e))
          (map listed_value l)
          ≡ map (λ (e : ℕ × (ℕ × IndexLink T)). generation_given last reset counter
          (generation_of e)) l
      generations_given counter [] = refl
      generations_given counter (x ∷ l) =
          ap (λ r. generation_given last reset counter x.1.0 ∷ r) (generations_given counter l)

      pub is_compressed : IsCompressed values_in live_count some_counter room_in last listed_values
          reset c0 c4
      is_compressed =
          record {
            compact = λ k entry at. compact k entry (slice_get (live_entries c3) k) refl
                (sym (read_new k) ∙ at);
            entries = λ k.
                m.after (k + 1) ∙ ap (option_map valued) (m.compressed.entries k)
                ∙ both (slice_get (live_entries c3) k)
                ∙ ap (option_map entry_of_listed) (sym (read_new k));
            generations =
                ap (map generation_of) listed_new
                ∙ generations_of (live_entries c3)
                ∙ m.compressed.generations
                ∙ ap (λ n. map (λ (e : ℕ × (ℕ × IndexLink T)). generation_given last reset
                (Some n)
                (generation_of e)) (live_entries c2)) counters
                ∙ sym (generations_given (Some c0.counter) (live_entries c2))
                ∙ ap (map (λ (e : ℕ × (ℕ × T)). generation_given last reset (Some c0.counter)
                (generation_of e))) listed_old;
            live = m.kept_after.live ∙ m.compressed.live ∙ m.kept_before.live;
            counter = ap Some m.kept_after.counter ∙ m.compressed.counter
                ∙ ap (λ n. Some (renewed last reset n)) counters;
            room = m.kept_after.room ∙ m.compressed.room ∙ m.kept_before.room;
          }
        where
          both : (o : Option (ℕ × (ℕ × IndexLink T)))
              → option_map valued (option_map entry_of_listed o)
              ≡ option_map entry_of_listed (option_map listed_value o)
          both None = refl
          both (Some f) = refl

          compact : (k : ℕ) (entry : ℕ × (ℕ × T)) (o : Option (ℕ × (ℕ × IndexLink T)))
              → slice_get (live_entries c3) k ≡ o
              → option_map listed_value o ≡ Some entry → index_of entry ≡ k + 1
          compact k entry None is at = absurd (cc)
          compact k entry (Some f) is at =
              let same : listed_value f ≡ entry = cc in ap index_of (sym same)
              ∙ m.compressed.compact k f is

module _ {T : Type 0} (last : Option ℕ) (reset : Bool)
    (c0 c1 c2 c3 : Content (IndexLink T)) where
  -- the passes up to the one that moves the links
  pub record AreMoved : Type 0 where
    pub chained : IsChained c0
    pub first : IsRelinked (numbered (ends_in c0)) c0 c1
    pub second : IsRelinked (forwarded (ends_in c1)) c1 c2
    pub links : AllZip IsLeftWithNext (live_entries c2) (live_entries c3)
    pub compressed : IsCompressed entry_at live_count some_counter room_in last live_entries reset
        c2 c3
    pub exact : c3 ≡ compacted (renewed last reset c2.counter) (map value_of (live_entries c3)) c2

  abbrev pub to : ℕ → ℕ
  to = new_index (ends_in c0)

  module _ (m : AreMoved) where
    abbrev e0 : ℕ → Option Ends
    e0 = ends_in c0

    values02 : (j : ℕ) → values_in c2 j ≡ values_in c0 j
    values02 j = m.second.values j ∙ m.first.values j

    kept02 : IsKept c0 c2
    kept02 = kept_on c0 c1 c2 m.first.kept m.second.kept

    live_same : (j : ℕ) → is_some (entry_at c2 j) ≡ is_some (e0 j)
    live_same j = live_as c0 c2 values02 j ∙ sym (live_ends c0 j)

    -- the nexts under the new indexes, before the links are moved
    nexts2 : (i : ℕ) → next_at (ends_in c2) i ≡ option_map to (next_at e0 i)
    nexts2 i =
        ap next_in (m.second.ends i)
        ∙ next_forwarded (ends_in c1) (ends_in c1 i)
        ∙ ap (prev_of (ends_in c1))
        (ap next_in (m.first.ends i) ∙ next_numbered (to i) (e0 i))
        ∙ by_next (next_at e0 i) refl
      where
        by_next : (o : Option ℕ) → next_at e0 i ≡ o
            → prev_of (ends_in c1) o ≡ option_map to o
        by_next None is = refl
        by_next (Some j) is =
            ap prev_in (m.first.ends j)
            ∙ prev_numbered (to j) (e0 j)
            (live_prev_in (e0 j) i (m.chained.agreed.forward i j is))

    -- the link that a live index becomes
    record Moved (i : ℕ) : Type 0 where
      link : ℕ × (ℕ × IndexLink T)
      listed : slice_get (live_entries c3) (live_below e0 i) ≡ Some link
      alone : link.1.1.prev ≡ None
      goes : link.1.1.next ≡ next_at (ends_in c2) i

    rank_slots : (k : ℕ) → live_below e0 (suc k) ≡ live_below (slot_at c2.slots) k
    rank_slots k = slots_ranked e0 c2 live_same k

    moved_link : (i : ℕ) → IsSome (e0 i) → Moved i
    moved_link zero some = absurd (true≢false (sym some))
    moved_link (suc k) some = by_slot (slot_at c2.slots k) refl
      where
        by_slot : (o : Option (ℕ × IndexLink T)) → slot_at c2.slots k ≡ o → Moved (suc k)
        by_slot None is = absurd (true≢false (sym some ∙ sym (live_same (suc k)) ∙ ap is_some is))
        by_slot (Some e) is =
            let there = listed-ranked 1 k c2.slots e is in
            let z = zip_forth IsLeftWithNext (live_entries c2) (live_entries c3) m.links
            (live_below (slot_at c2.slots) k) (1 + k, e) there in
            record {
              link = z.0;
              listed = ap (slice_get (live_entries c3)) (rank_slots k) ∙ z.1;
              alone = z.2.0;
              goes = z.2.1
                  ∙ sym (ap (λ o. next_in (option_map entry_ends o)) is);
            }

    moved_ends : (i : ℕ) → IsSome (e0 i)
        → ends_in c3 (to i) ≡ Some (None, option_map to (next_at e0 i))
    moved_ends i some =
        let l = moved_link i some in
        let here : Option Ends = Some (None, l.link.1.1.next) in
        ap (option_map entry_ends)
        (entry_placed last reset c2 c3 m.compressed (live_below e0 i) l.link l.listed)
        ∙ ap (λ o. Some (o, l.link.1.1.next)) l.alone
        ∙ ap (λ o. Some (None, o)) (l.goes ∙ nexts2 i)

    pub moved : AreNextsRenamed to e0 (ends_in c3)
    moved =
        record {
          live = λ i some. ap is_some (moved_ends i some);
          nexts = λ i some. ap next_in (moved_ends i some);
          onto = onto;
        }
      where
        by_link : (n : ℕ) (o : Option (ℕ × (ℕ × IndexLink T))) → slice_get (live_entries c3) n ≡ o
            → IsSome (ends_in c3 (n + 1))
            → (i : ℕ) × IsSome (e0 i) × (to i ≡ suc n)
        by_link n None is some =
            absurd (true≢false (sym some
            ∙ ap (λ o. is_some (option_map entry_ends o))
            (m.compressed.entries n ∙ ap (option_map entry_of_listed) is)))
        by_link n (Some f) is some =
            let z = zip_back IsLeftWithNext (live_entries c2) (live_entries c3) m.links n f is in
            let o = listed-onto 1 n c2.slots z.0 z.1 in
            let ranked = rank_slots o.0 in
            (suc o.0, sym (live_same (suc o.0)) ∙ ap is_some o.1, omega (arith, ranked, o.2))

        onto : (k : ℕ) → IsSome (ends_in c3 k) → (i : ℕ) × IsSome (e0 i) × (to i ≡ k)
        onto zero some = absurd (true≢false (sym some))
        onto (suc n) some =
            let next : suc n ≡ n + 1 = omega arith in
            by_link n (slice_get (live_entries c3) n) refl
            (subst (λ k. IsSome (ends_in c3 k)) next some)

    pub apart : IsApart to e0 (ends_in c3)
    apart i j live live' same = live_below-apart e0 i j live live' (omega (arith, same))

    -- what the last pass asks for
    pub alone : (k : ℕ) → prev_at (ends_in c3) k ≡ None
    alone k = by_ends (ends_in c3 k) refl
      where
        by_ends : (o : Option Ends) → ends_in c3 k ≡ o → prev_in o ≡ None
        by_ends None is = refl
        by_ends (Some v) is =
            let from = moved.onto k (ap is_some is) in
            ap prev_in (sym is ∙ ap (ends_in c3) (sym from.2) ∙ moved_ends from.0 from.1)

    pub live : (p q : ℕ) → next_at (ends_in c3) p ≡ Some q → IsSome (ends_in c3 q)
    live p q goes = nexts_live to e0 (ends_in c3) m.chained.agreed moved p q goes

    pub nexts_one : (p q r : ℕ) → next_at (ends_in c3) p ≡ Some r
        → next_at (ends_in c3) q ≡ Some r → p ≡ q
    nexts_one p q r goes goes' =
        nexts_apart to e0 (ends_in c3) m.chained.agreed moved apart p q r goes goes'

    module _ (c4 : Content (IndexLink T))
        (nexts : (k : ℕ) → next_at (ends_in c4) k ≡ next_at (ends_in c3) k)
        (agreed : IsAgreed (ends_in c4)) (values : (k : ℕ) → values_in c4 k ≡ values_in c3 k)
        (kept : IsKept c3 c4) where
      pub are_listed : AreListed last reset c0 c2 c3 c4
      are_listed =
          record {
            before = values02;
            kept_before = kept02;
            compressed = m.compressed;
            exact = m.exact;
            after = values;
            kept_after = kept;
          }

      live34 : (k : ℕ) → is_some (ends_in c4 k) ≡ is_some (ends_in c3 k)
      live34 k = live_ends c4 k ∙ live_as c3 c4 values k ∙ sym (live_ends c3 k)

      pub renamed_links : FollowsRenaming to e0 (ends_in c4)
      renamed_links =
          renamed_by to e0 (ends_in c4) m.chained.agreed
          (record {
            live = λ i some. live34 (to i) ∙ moved.live i some;
            nexts = λ i some. nexts (to i) ∙ moved.nexts i some;
            onto = λ k some. moved.onto k (sym (live34 k) ∙ some);
          })
          apart agreed
