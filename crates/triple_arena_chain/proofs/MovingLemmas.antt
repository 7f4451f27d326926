-- A canonical transfer: the chains that are moved, and the one in hand.
use Rattle.std.proofs.Common.{◌≡◌, ◌≢◌, ℕ, ◌+◌, ◌<◌, ◌≤◌, List, [], ◌∷◌, ◌++◌, length, map}
use Rattle.std.proofs.Common.{count_by, false, Option, Some, None, IsSome, is_some, option_map}
use Rattle.std.proofs.Common.{true≢false, refl, sym, ap, subst, ◌∙◌, arith, inl, inr, ◌⊎◌}
use Rattle.std.proofs.Common.{append_assoc, append-nil}
use Rattle.std.proofs.lemmas.Bool.Decides.{eqb_tells, leb_tells}
use Rattle.std.proofs.lemmas.List.{length_push}
use Rattle.triple_arena_ptr.specs.declared.invalidation.InvalidationOption.{InvalidationOption}
use Rattle.triple_arena_ptr.specs.Generation.{next_generation, next_wraps}
use Rattle.triple_arena_ptr.specs.InvalidationOption.{value_of, overflowed}
use Rattle.triple_arena_stack.specs.Room.{Room}
use Rattle.triple_arena.specs.Changes.{IsRemoved}
use Rattle.triple_arena.specs.RemovalLaws.{live-vacated}
use Rattle.triple_arena.specs.LiveEntries.{listed_from}
use Rattle.triple_arena.specs.Walk.{Walk, IsAhead, IsFirstLive}
use Rattle.triple_arena.specs.Content.{AllVacant, Content, entry_at, live_count, some_counter}
use Rattle.triple_arena.specs.Content.{arena_capacity, inserted, IsWellFormed}
use Rattle.triple_arena_chain.specs.LinkShape.{IndexLink}
use Rattle.linked_lists.specs.LinkedLists.{Ends, next_in, prev_in, next_at, prev_at, IsAgreed}
use Rattle.linked_lists.specs.LinkedLists.{first_or, last_or, Off, On, Apart, reprev, with_prev}
use Rattle.linked_lists.specs.LinkedListLaws.{off_or_on, last_or-append}
use Rattle.linked_lists.specs.ChainLaws.{On-back, On-split, Apart-split, Apart-append}
use Rattle.linked_lists.specs.ChainLaws.{on_differs, off_or_not, of_live, holds_next}
use Rattle.linked_lists.specs.Chains.{Chain, members, all_members, IsChainOf}
use Rattle.triple_arena_chain.specs.LinkLaws.{values-with_prev_of}
use Rattle.triple_arena_chain.specs.Links.{valued, values_in, entry_ends, ends_in, with_prev_of}
use Rattle.triple_arena_chain.specs.Links.{IsChained}
use Rattle.triple_arena_chain.specs.Listed.{listed_value, listed_values}
use Rattle.triple_arena_chain.specs.Renaming.{ends_renamed}
use Rattle.triple_arena_chain.specs.Values.{room_in}
use Rattle.triple_arena_chain.specs.CanonicalLayout.{IsHead}
use Rattle.triple_arena_chain.proofs.GatheredLemmas.{all_append}
use Rattle.triple_arena_chain.proofs.ListedLemmas.{values_listed}
use Rattle.triple_arena_chain.proofs.PassLemmas.{none_of, live_ends}
use Rattle.triple_arena_chain.proofs.WalkLemmas.{bounded}
use Rattle.linked_lists.specs.PositionLaws.{place_in, place_front, place_here}
use Rattle.linked_lists.specs.PositionLaws.{place_within, place_apart}
use Rattle.triple_arena_chain.proofs.MovedLinkLemmas.{AreTaken, AreCalled, ArePlaced, taken_none}
use Rattle.triple_arena_chain.proofs.MovedLinkLemmas.{called_none, placed_none, taken_more}
use Rattle.triple_arena_chain.proofs.MovedLinkLemmas.{called_more, called_same, placed_more}
use Rattle.triple_arena_chain.proofs.MovedLinkLemmas.{placed_closed, listed_dense}
use Rattle.triple_arena_chain.proofs.MovedChainLemmas.{AreDone, done_none, IsInHand, closing}
use Rattle.triple_arena_chain.proofs.MovedChainLemmas.{done_next, done_prev, done_more, left_agreed}
use Rattle.triple_arena_chain.proofs.MovedChainLemmas.{in_hand, hand_begun, hand_start, hand_live}
use Rattle.triple_arena_chain.proofs.MovedChainLemmas.{opened_at, next_inside, last_next}
use Rattle.triple_arena_chain.proofs.MovedChainLemmas.{open_start, ring_start, chain_at}

-- two neighbors under names that are the same
pub renamed_alike : (f g : ℕ → ℕ) (v : Option Ends) → ((p : ℕ) → prev_in v ≡ Some p → f p ≡ g p)
    → ((q : ℕ) → next_in v ≡ Some q → f q ≡ g q)
    → option_map (ends_renamed f) v ≡ option_map (ends_renamed g) v
renamed_alike f g None before after = refl
renamed_alike f g (Some v) before after =
    ap (λ a. Some (a, option_map f v.1)) (by v.0 before)
    ∙ ap (λ b. Some (option_map g v.0, b)) (by v.1 after)
  where
    by : (o : Option ℕ) → ((p : ℕ) → o ≡ Some p → f p ≡ g p) → option_map f o ≡ option_map g o
    by None same = refl
    by (Some p) same = ap Some (same p refl)

no_prev : (o : Option Ends) → prev_in o ≡ None → reprev None o ≡ o
no_prev None is = refl
no_prev (Some v) is = ap (λ a. Some (a, v.1)) (sym is)

-- what is live after a removal was live before
pub still_live : {U : Type 0} (last : Option ℕ) (i : ℕ) (now new : Content (IndexLink U))
    → IsRemoved entry_at live_count some_counter room_in last i now new
    → (j : ℕ) → IsSome (entry_at new j) → IsSome (entry_at now j)
still_live last i now new removed j some =
    elim (eqb_tells j i) [
      | inl same ↦ absurd (let gone : entry_at new j ≡ None = removed.entries j
          ∙ rw same.0 refl in true≢false (sym some ∙ ap is_some gone))
      | inr other ↦ let stays : entry_at new j ≡ entry_at now j = removed.entries j
          ∙ rw other.0 refl in sym (ap is_some stays) ∙ some
    ]

module _ {Q U P T F : Type 0} (old_index old_generation : Q → ℕ) (index generation : P → ℕ)
    (step : F → Q → InvalidationOption U → P → T → F → Type 0) (f : F) (last : Option ℕ)
    (old : Content (IndexLink U)) (g : ℕ) (room : Room) where
  -- the interlinks of the source, as they were
  abbrev held : ℕ → Option Ends
  held = ends_in old

  -- these links were moved, in this order
  pub record AreMoved (order : List ℕ) (to : ℕ → ℕ) (wanted : ℕ → Option Ends) (f' : F)
      (from : Content (IndexLink U)) (into : Content (IndexLink T)) : Type 0 where
    pub taken : AreTaken last old order from
    pub called : AreCalled old_index old_generation index generation step f last old order f'
        from.counter into
    pub placed : ArePlaced g room order to wanted into

  -- the chains of the indexes below this one were moved
  pub record AreChainsMoved (low : ℕ) (f' : F) (from : Content (IndexLink U))
      (into : Content (IndexLink T)) : Type 0 where
    pub done : List Chain
    pub are : AreDone held low done
    pub moved : AreMoved (all_members done) (place_in (all_members done)) held f' from into

  -- of the chain in hand, which begins at `start` and has the least index `k` that is left, the
  -- links before `at` were moved
  pub record IsOnWay (k start at first : ℕ) (prev : Option ℕ) (f' : F)
      (from : Content (IndexLink U)) (into : Content (IndexLink T)) : Type 0 where
    pub low : ℕ
    pub done : List Chain
    pub are : AreDone held low done
    pub chain : Chain
    pub hand : IsInHand held done start k chain
    pub above : low ≤ k
    pub before : (i : ℕ) → i < k → IsSome (held i) → On (all_members done) i
    pub front : List ℕ
    pub back : List ℕ
    pub split : members chain ≡ front ++ at ∷ back
    pub moved : AreMoved (all_members done ++ front) (place_in (all_members done ++ members chain))
        (with_prev held start None) f' from into
    pub prev_is : prev ≡ option_map (place_in (all_members done ++ members chain))
        (last_or None front)
    pub first_is : first ≡ length (all_members done) + 1

  -- the link before `next` was moved too, to `place`: the way goes on there, or the chain is moved,
  -- a ring once its first link
  -- has its previous one
  pub record IsLinkMoved (k start first place : ℕ) (next : Option ℕ) (f' : F)
      (from : Content (IndexLink U)) (into : Content (IndexLink T)) : Type 0 where
    pub further : (j : ℕ) (into' : Content (IndexLink T))
        → (next ≡ Some j) × (j ≢ start) × (into' ≡ into)
        → IsOnWay k start j first (Some place) f' from into'
    pub over : (into' : Content (IndexLink T)) (x y : ℕ) → x ≡ first → y ≡ place
        → ((next ≡ None) × (into' ≡ into))
        ⊎ ((next ≡ Some start) × (into' ≡ with_prev_of into (Some x) (Some y)))
        → AreChainsMoved (k + 1) f' from into'

  -- the same links under other names that are the same for them
  moved_as : (order order' : List ℕ) (to to' : ℕ → ℕ) (wanted wanted' : ℕ → Option Ends) (f' : F)
      (from : Content (IndexLink U)) (into : Content (IndexLink T))
      → order' ≡ order → ((i : ℕ) → On order i → to' i ≡ to i)
      → ((i : ℕ) → On order i
      → option_map (ends_renamed to') (wanted' i) ≡ option_map (ends_renamed to) (wanted i))
      → AreMoved order to wanted f' from into → AreMoved order' to' wanted' f' from into
  moved_as order order' to to' wanted wanted' f' from into same named linked m =
      subst (λ l. AreMoved l to' wanted' f' from into) (sym same)
      record {
        taken = m.taken;
        called = m.called;
        placed = record {
          slots = m.placed.slots;
          live = m.placed.live;
          free = m.placed.free;
          counter = m.placed.counter;
          own = m.placed.own;
          formed = m.placed.formed;
          compact = m.placed.compact;
          generations = m.placed.generations;
          ends = λ i on. ap (ends_in into) (named i on) ∙ m.placed.ends i on
              ∙ sym (linked i on);
        };
      }

  module _ (chained : IsChained old) where
    agreed : IsAgreed held
    agreed = chained.agreed

    -- the links that are left between chains
    gone_ends : (order : List ℕ) (from : Content (IndexLink U)) → AreTaken last old order from
        → (j : ℕ) → On order j → ends_in from j ≡ None
    gone_ends order from t j on = ap (option_map entry_ends) (t.gone j on)

    stay_ends : (order : List ℕ) (from : Content (IndexLink U)) → AreTaken last old order from
        → (j : ℕ) → Off order j → ends_in from j ≡ held j
    stay_ends order from t j off = ap (option_map entry_ends) (t.stay j off)

    pub left_chained : (low : ℕ) (f' : F) (from : Content (IndexLink U))
        (into : Content (IndexLink T)) → AreChainsMoved low f' from into
        → IsChained from
    left_chained low f' from into m =
        record {
          formed = m.moved.taken.formed;
          agreed =
              left_agreed held (ends_in from) low m.done m.are
              (gone_ends (all_members m.done) from m.moved.taken)
              (stay_ends (all_members m.done) from m.moved.taken) agreed;
        }

    -- at first no chain is moved
    pub chains_none : (low : ℕ) (into : Content (IndexLink T)) → low ≡ 1 → into.slots ≡ []
        → into.free ≡ [] → into.counter ≡ g → into.room ≡ room
        → AreChainsMoved low f old into
    chains_none low into is none free counter own =
        let live : live_count into ≡ 0 = ap (count_by is_some) none in
        let slots = ap length none in
        let unused = ap length free in
        let listed : listed_values into ≡ [] = ap (λ s. map listed_value (listed_from 1 s)) none in
        record {
          done = [];
          are = subst (λ n. AreDone held n []) (sym is) (done_none held refl);
          moved = record {
            taken = taken_none last old chained.formed;
            called = called_none old_index old_generation index generation step f last old into
                listed;
            placed =
                placed_none g room (place_in []) held into none free counter own live listed
                (record {
                  free = subst (AllVacant into) (sym free) tt;
                  counted = omega (arith, live, slots, unused);
                  fits = omega (arith, slots);
                });
          };
        }

    -- no index before the first that is left is live
    pub none_before : (low : ℕ) (f' : F) (from : Content (IndexLink U))
        (into : Content (IndexLink T)) (w : Walk) → AreChainsMoved low f' from into → w.low ≡ low
        → (j : ℕ) → (IsAhead w j → entry_at from j ≡ None) → j ≤ w.high → entry_at from j ≡ None
    none_before low f' from into w m from_low j ahead within =
        elim (leb_tells low j) [
          | inl up ↦ ahead (omega (arith, from_low, up.1), within)
          | inr down ↦
              elim (off_or_on (all_members m.done) j) [
                | inl off ↦ m.moved.taken.stay j off
                    ∙ none_of (entry_at old j)
                    (λ some. on_differs (all_members m.done) j j
                    (m.are.below j down.1 (live_ends old j ∙ some)) off refl)
                | inr on ↦ m.moved.taken.gone j on
              ]
        ]

    whole_apart : (done : List Chain) (low k start : ℕ) (c : Chain) → AreDone held low done
        → IsInHand held done start k c → Apart (all_members done ++ members c)
    whole_apart done low k start c d h =
        Apart-append (all_members done) (members c) d.once h.apart
        (λ i on. off_or_not (members c) i
        (λ there. on_differs (all_members done) i i on (h.fresh i there) refl))

    -- a chain is taken in hand
    pub way_begun : (low k start first : ℕ) (f' : F) (from : Content (IndexLink U))
        (into : Content (IndexLink T)) → AreChainsMoved low f' from into → low ≤ k
        → IsSome (ends_in from k) → ((j : ℕ) → j < k → ends_in from j ≡ None)
        → ((c : Chain) → IsChainOf (ends_in from) c → On (members c) k
        → On (members c) start) → IsHead (ends_in from) start
        → (IsHead (ends_in from) k → start ≡ k) → first ≡ live_count into + 1
        → IsOnWay k start start first None f' from into
    way_begun low k start first f' from into m above live lowest same head own count =
        let d = m.are in
        let e' = ends_in from in
        let gone = gone_ends (all_members m.done) from m.moved.taken in
        let stay = stay_ends (all_members m.done) from m.moved.taken in
        let c =
        in_hand held e' low m.done d gone stay k start (length from.slots + 1)
        (left_agreed held e' low m.done d gone stay agreed) (bounded from)
        live lowest same head own in
        let h = c.1 in
        let begun = hand_begun held m.done start k c.0 h in
        let on_start = hand_start held m.done start k c.0 h in
        record {
          low = low;
          done = m.done;
          are = d;
          chain = c.0;
          hand = h;
          above = above;
          before = λ i less some.
              elim (off_or_on (all_members m.done) i) [
                | inl off ↦ absurd (true≢false
                    (sym some ∙ ap is_some (sym (stay i off) ∙ lowest i less)))
                | inr on ↦ on
              ];
          front = [];
          back = begun.0;
          split = begun.1;
          moved =
              moved_as (all_members m.done) (all_members m.done ++ [])
              (place_in (all_members m.done)) (place_in (all_members m.done ++ members c.0))
              held
              (with_prev held start None) f' from into (append-nil (all_members m.done))
              (λ i on. place_front (all_members m.done) (members c.0) i on)
              (λ i on.
              let other : i ≢ start =
              λ is. on_differs (all_members m.done) i i on
              (h.fresh i (subst (On (members c.0)) (sym is) on_start)) refl in
              let unopened : with_prev held start None i ≡ held i =
              elim (eqb_tells i start)
              [ inl is ↦ absurd (other is.1) | inr differs ↦ rw differs.0 refl ] in
              ap (option_map (ends_renamed (place_in (all_members m.done ++ members c.0)))) unopened
              ∙ renamed_alike (place_in (all_members m.done ++ members c.0))
              (place_in (all_members m.done)) (held i)
              (λ p comes. place_front (all_members m.done) (members c.0) p
              (done_prev held m.done i p d.chains on comes))
              (λ q goes. place_front (all_members m.done) (members c.0) q
              (done_next held m.done i q d.chains on goes)))
              m.moved;
          prev_is = refl;
          first_is = count ∙ ap (λ n. n + 1) m.moved.placed.live;
        }

    -- a chain is taken in hand at the first link that is left
    pub way_taken : (w : Walk) (i gen k start first : ℕ) (f' : F) (from : Content (IndexLink U))
        (into : Content (IndexLink T)) → AreChainsMoved w.low f' from into
        → IsFirstLive (entry_at from) w i gen → w.falls ≡ false → k ≡ i
        → ((c : Chain) → IsChainOf (ends_in from) c → On (members c) k
        → On (members c) start) → IsHead (ends_in from) start
        → (IsHead (ends_in from) k → start ≡ k) → first ≡ live_count into + 1
        → IsOnWay k start start first None f' from into
    way_taken w i gen k start first f' from into m found rises is same head own count =
        way_begun w.low k start first f' from into m (omega (arith, found.ahead.0, is))
        (live_ends from k
        ∙ subst (λ n. IsSome (entry_at from n)) (sym is)
        (some_found (entry_at from i) found.live))
        (λ j less.
        let below : j < i = omega (arith, less, is) in
        ap (option_map entry_ends)
        (none_before w.low f' from into w m refl j (λ ahead. found.first j ahead (rw rises below))
        (omega (arith, below, found.ahead.1))))
        same head own count
      where
        some_found : (o : Option (ℕ × IndexLink U)) → option_map (λ e. e.0) o ≡ Some gen
            → IsSome o
        some_found None is = absurd (let none : None ≡ Some gen = is in cc)
        some_found (Some e) is = refl

    -- once no link is found, none is left
    pub none_at_all : (w : Walk) (f' : F) (from : Content (IndexLink U))
        (into : Content (IndexLink T)) → AreChainsMoved w.low f' from into
        → ((j : ℕ) → IsAhead w j → entry_at from j ≡ None)
        → ((j : ℕ) → IsSome (entry_at from j) → j ≤ w.high) → (j : ℕ) → entry_at from j ≡ None
    none_at_all w f' from into m finds reaches j =
        elim (leb_tells j w.high) [
          | inl within ↦ none_before w.low f' from into w m refl j (finds j) within.1
          | inr past ↦ none_of (entry_at from j)
              (λ some. let within = reaches j some in omega (arith, within, past.1))
        ]

    module _ (k start at first : ℕ) (prev : Option ℕ) (f' : F) (from : Content (IndexLink U))
        (into : Content (IndexLink T)) (w : IsOnWay k start at first prev f' from into) where
      -- the links that were moved, and the names of all up to the end of the chain
      abbrev order : List ℕ
      order = all_members w.done ++ w.front

      abbrev to : ℕ → ℕ
      to = place_in (all_members w.done ++ members w.chain)

      split_whole : all_members w.done ++ members w.chain ≡ order ++ at ∷ w.back
      split_whole = ap (λ l. all_members w.done ++ l) w.split
          ∙ sym (append_assoc (all_members w.done) w.front (at ∷ w.back))

      apart_whole : Apart (order ++ at ∷ w.back)
      apart_whole = subst Apart split_whole (whole_apart w.done w.low k start w.chain w.are w.hand)

      at_off : Off order at
      at_off = (Apart-split order w.back at apart_whole).0

      at_on : On (members w.chain) at
      at_on = subst (λ l. On l at) (sym w.split) (On-split w.front w.back at)

      to_at : to at ≡ length order + 1
      to_at = ap (λ l. place_in l at) split_whole ∙ place_here order w.back at at_off

      to_before : (j : ℕ) → On order j → to j ≤ length order
      to_before j on =
          let same = ap (λ l. place_in l j) split_whole ∙ place_front order (at ∷ w.back) j on in
          let within = place_within order j on in
          omega (arith, same, within)

      to_start : first ≡ to start
      to_start =
          let begun = hand_begun held w.done start k w.chain w.hand in
          let off = w.hand.fresh start (hand_start held w.done start k w.chain w.hand) in
          w.first_is ∙ sym (ap (λ l. place_in (all_members w.done ++ l) start) begun.1
          ∙ place_here (all_members w.done) begun.0 start off)

      -- the link in hand is there, as it was
      pub at_entry : entry_at from at ≡ entry_at old at
      at_entry = w.moved.taken.stay at at_off

      pub at_live : IsSome (entry_at from at)
      at_live = ap is_some at_entry ∙ sym (live_ends old at)
          ∙ hand_live held w.done start k w.chain w.hand at at_on

      next_is : next_at held at ≡ first_or w.back (closing w.chain)
      next_is = ap next_in (chain_at held w.chain w.front w.back at w.hand.is_chain w.split)

      -- it leads to the link that is next in the chain
      pub way_on : (j : ℕ) → next_at held at ≡ Some j → j ≢ start
          → (back : List ℕ) × (w.back ≡ j ∷ back)
      way_on j goes other = by w.back w.split next_is
        where
          by : (back : List ℕ) → members w.chain ≡ w.front ++ at ∷ back
              → next_at held at ≡ first_or back (closing w.chain)
              → (rest : List ℕ) × (back ≡ j ∷ rest)
          by [] split is =
              elim (last_next held w.done start k w.chain w.hand w.front at split) [
                | inl ends ↦ absurd (let no : None ≡ Some j = sym ends ∙ goes in cc)
                | inr round ↦ absurd (let no : Some start ≡ Some j = sym round
                    ∙ goes in let same : start ≡ j = cc in other (sym same))
              ]
          by (b ∷ rest) split is = let both : Some b ≡ Some j = sym is
              ∙ goes in (rest, let same : b ≡ j = cc in ap (λ x. x ∷ rest) same)

      -- or it is the last one
      pub way_ends : next_at held at ≡ None → w.back ≡ []
      way_ends ends = by w.back next_is
        where
          by : (back : List ℕ) → next_at held at ≡ first_or back (closing w.chain) → back ≡ []
          by [] is = refl
          by (b ∷ rest) is = absurd (let no : None ≡ Some b = sym ends ∙ is in cc)

      pub way_closes : next_at held at ≡ Some start → w.back ≡ []
      way_closes round = by w.back w.split next_is
        where
          by : (back : List ℕ) → members w.chain ≡ w.front ++ at ∷ back
              → next_at held at ≡ first_or back (closing w.chain) → back ≡ []
          by [] split is = refl
          by (b ∷ rest) split is =
              let both : Some b ≡ Some start = sym is ∙ round in
              let same : b ≡ start = cc in
              absurd (next_inside held w.done start k w.chain w.hand w.front rest at b split same)

      -- the new index of the next link
      pub to_next : (j : ℕ) → next_at held at ≡ Some j → j ≢ start → to j ≡ length order + 1 + 1
      to_next j goes other =
          let b = way_on j goes other in
          let whole : all_members w.done ++ members w.chain ≡ (order ++ at ∷ []) ++ j ∷ b.0 =
          split_whole ∙ ap (λ l. order ++ at ∷ l) b.1
          ∙ sym (append_assoc order (at ∷ []) (j ∷ b.0)) in
          let off = (Apart-split (order ++ at ∷ []) b.0 j
          (subst Apart whole (whole_apart w.done w.low k start w.chain w.are w.hand))).0 in
          let long = length_push order at in
          let here = ap (λ l. place_in l j) whole ∙ place_here (order ++ at ∷ []) b.0 j off in
          omega (arith, here, long)

      -- so many were moved, and one more fits
      pub way_fits : live_count into + 1 ≤ live_count old
      way_fits =
          let one = live-vacated from at at_live in
          let all = w.moved.taken.live in
          let placed = w.moved.placed.live in
          omega (arith, one, all, placed)

      -- and so does the next one
      next_fits : (j : ℕ) (from' : Content (IndexLink U)) → next_at held at ≡ Some j → j ≢ start
          → AreTaken last old (order ++ at ∷ []) from'
          → live_count into + 1 + 1 ≤ live_count old
      next_fits j from' goes other t =
          let b = way_on j goes other in
          let whole : all_members w.done ++ members w.chain ≡ (order ++ at ∷ []) ++ j ∷ b.0 =
          split_whole ∙ ap (λ l. order ++ at ∷ l) b.1
          ∙ sym (append_assoc order (at ∷ []) (j ∷ b.0)) in
          let off = (Apart-split (order ++ at ∷ []) b.0 j
          (subst Apart whole (whole_apart w.done w.low k start w.chain w.are w.hand))).0 in
          let on : On (members w.chain) j =
          holds_next held w.chain at j w.hand.is_chain at_on goes in
          let live : IsSome (entry_at from' j) = ap is_some (t.stay j off)
          ∙ sym (live_ends old j)
          ∙ hand_live held w.done start k w.chain w.hand j on in
          let one = live-vacated from' j live in
          let long = length_push order at in
          let all = t.live in
          let placed = w.moved.placed.live in
          omega (arith, one, long, all, placed)

      -- the next of a link, under the new indexes
      next_given : (o : Option ℕ) (o' : Option ℕ) (x : ℕ) (placed bound : ℕ)
          (from' : Content (IndexLink U)) → o ≡ next_at held at
          → x ≡ first
          → placed ≡ live_count into + 1 → live_count old ≤ bound
          → AreTaken last old (order ++ at ∷ []) from' → (o ≡ None → o' ≡ None)
          → (o ≡ Some start → o' ≡ Some x)
          → ((j : ℕ) → o ≡ Some j → j ≢ start → placed + 1 ≤ bound
          → o' ≡ Some (placed + 1))
          → o' ≡ option_map to (next_at held at)
      next_given None o' x placed bound from' is x_is count fits t end round on =
          (end refl) ∙ ap (option_map to) is
      next_given (Some j) o' x placed bound from' is x_is count fits t end round on =
          elim (eqb_tells j start) [
            | inl same ↦ (round (ap Some same.1))
                ∙ ap Some (x_is ∙ to_start ∙ ap to (sym same.1)) ∙ ap (option_map to) is
            | inr other ↦
                let goes : next_at held at ≡ Some j = sym is in
                let room_for = next_fits j from' goes other.1 t in
                let place = to_next j goes other.1 in
                let live = w.moved.placed.live in
                on j refl other.1 (omega (arith, room_for, count, fits))
                ∙ ap Some (omega (arith, place, count, live))
                ∙ ap (option_map to) is
          ]

      -- one link more was moved
      pub way_more : (f'' : F) (from' : Content (IndexLink U)) (into' : Content (IndexLink T))
          (p : Q) (item : InvalidationOption U) (q : P) (t : T) (l : IndexLink T)
          → IsRemoved entry_at live_count some_counter room_in last at from from'
          → IsWellFormed from'
          → values_in from at ≡ Some (old_generation p, value_of item) → old_index p ≡ at
          → overflowed item ≡ next_wraps last from.counter
          → index q ≡ live_count into + 1 → generation q ≡ g → step f' p item q t f''
          → live_count into < arena_capacity into
          → into' ≡ inserted into l → l.t ≡ t → l.prev ≡ prev
          → l.next ≡ option_map to (next_at held at)
          → AreMoved (order ++ at ∷ []) to (with_prev held start None) f'' from' into'
      way_more f'' from' into' p item q t l removed formed found has_index wraps at_index
          at_generation ran fits is value prev_same next_same =
          let m = w.moved in
          let stepped : from'.counter ≡ next_generation last from.counter =
          (let both : Some from'.counter ≡ Some (next_generation last from.counter) =
          removed.counter in cc) in
          let count : 1 + length into.slots ≡ index q =
          (let slots = m.placed.slots in let live = m.placed.live in
          omega (arith, slots, live, at_index)) in
          let before : l.prev ≡ option_map to (last_or None w.front) = prev_same
          ∙ w.prev_is in
          let after : l.next ≡ option_map to (first_or w.back (closing w.chain)) =
          next_same ∙ ap (option_map to) next_is in
          let opened : option_map (ends_renamed to) (with_prev held start None at)
          ≡ Some (
            option_map to (last_or None w.front),
            option_map to (first_or w.back (closing w.chain)),
          ) =
          ap (option_map (ends_renamed to))
          (opened_at held w.done start k w.chain w.hand w.front w.back at w.split) in
          let linked : Some (l.prev, l.next)
          ≡ option_map (ends_renamed to) (with_prev held start None at) =
          ap (λ o. Some (o, l.next)) before
          ∙ ap (λ o. Some (option_map to (last_or None w.front), o)) after ∙ sym opened in
          let listed : listed_values into'
          ≡ listed_values into ++ (index q, (generation q, t)) ∷ [] =
          ap listed_values is
          ∙ listed_dense into l m.placed.free
          ∙ ap (λ n. listed_values into ++ (n, (into.counter, l.t)) ∷ []) count
          ∙ ap (λ n. listed_values into ++ (index q, (n, l.t)) ∷ [])
          (m.placed.counter ∙ sym at_generation)
          ∙ ap (λ v. listed_values into ++ (index q, (generation q, v)) ∷ []) value in
          record {
            taken = taken_more last old order at from from' m.taken removed formed;
            called =
                called_more old_index old_generation index generation step f last old order at f'
                f'' from.counter from'.counter into into' p item q t m.called
                (sym (ap (option_map valued) at_entry) ∙ found) has_index wraps stepped ran listed;
            placed = placed_more g room order at to (with_prev held start None) into into' l
                m.placed fits is to_before to_at linked;
          }

      -- the way goes on
      pub way_further : (j place : ℕ) (f'' : F) (from' : Content (IndexLink U))
          (into' : Content (IndexLink T)) → next_at held at ≡ Some j → j ≢ start
          → place ≡ live_count into + 1
          → AreMoved (order ++ at ∷ []) to (with_prev held start None) f'' from' into'
          → IsOnWay k start j first (Some place) f'' from' into'
      way_further j place f'' from' into' goes other count m =
          let b = way_on j goes other in
          record {
            low = w.low;
            done = w.done;
            are = w.are;
            chain = w.chain;
            hand = w.hand;
            above = w.above;
            before = w.before;
            front = w.front ++ at ∷ [];
            back = b.0;
            split = w.split ∙ ap (λ l. w.front ++ at ∷ l) b.1
                ∙ sym (append_assoc w.front (at ∷ []) (j ∷ b.0));
            moved = subst (λ l. AreMoved l to (with_prev held start None) f'' from' into')
                (append_assoc (all_members w.done) w.front (at ∷ [])) m;
            prev_is =
                ap Some (count ∙ ap (λ n. n + 1) w.moved.placed.live ∙ sym to_at)
                ∙ ap (option_map to) (sym (last_or-append None w.front (at ∷ [])));
            first_is = w.first_is;
          }

      order_done : w.back ≡ [] → order ++ at ∷ [] ≡ all_members (w.done ++ w.chain ∷ [])
      order_done none =
          ap (λ l. order ++ at ∷ l) (sym none) ∙ sym split_whole ∙ sym (all_append w.done w.chain)

      to_done : (i : ℕ) → place_in (all_members (w.done ++ w.chain ∷ [])) i ≡ to i
      to_done i = ap (λ l. place_in l i) (all_append w.done w.chain)

      chains_more : (f'' : F) (from' : Content (IndexLink U)) (into' : Content (IndexLink T))
          → w.back ≡ []
          → AreMoved (order ++ at ∷ []) to held f'' from' into'
          → AreChainsMoved (k + 1) f'' from' into'
      chains_more f'' from' into' none m =
          record {
            done = w.done ++ w.chain ∷ [];
            are = done_more held w.low k start w.done w.chain w.are w.hand w.above w.before;
            moved =
                moved_as (order ++ at ∷ []) (all_members (w.done ++ w.chain ∷ [])) to
                (place_in (all_members (w.done ++ w.chain ∷ []))) held held f'' from' into'
                (sym (order_done none)) (λ i on. to_done i)
                (λ i on. renamed_alike (place_in (all_members (w.done ++ w.chain ∷ []))) to (held i)
                (λ p _. to_done p) (λ q _. to_done q)) m;
          }

      -- a linear chain is moved
      pub chain_ends : (f'' : F) (from' : Content (IndexLink U)) (into' : Content (IndexLink T))
          → next_at held at ≡ None
          → AreMoved (order ++ at ∷ []) to (with_prev held start None) f'' from' into'
          → AreChainsMoved (k + 1) f'' from' into'
      chain_ends f'' from' into' ends m =
          let none = way_ends ends in
          chains_more f'' from' into' none
          (moved_as (order ++ at ∷ []) (order ++ at ∷ []) to to (with_prev held start None) held f''
          from' into' refl (λ i on. refl)
          (λ i on. ap (option_map (ends_renamed to)) (sym (unopened i))) m)
        where
          opens : (back : List ℕ) → back ≡ [] → next_at held at ≡ first_or back (closing w.chain)
              → closing w.chain ≡ None
          opens back none is = sym (is ∙ ap (λ l. first_or l (closing w.chain)) none) ∙ ends

          first_prev : prev_at held start ≡ None
          first_prev = open_start held w.done start k w.chain w.hand
              (opens w.back (way_ends ends) next_is)

          unopened : (i : ℕ) → with_prev held start None i ≡ held i
          unopened i =
              elim (eqb_tells i start) [
                | inl hit ↦ rw hit.0 (no_prev (held i) (ap (prev_at held) hit.1 ∙ first_prev))
                | inr other ↦ rw other.0 refl
              ]

      -- a ring is moved, and its first link has its previous one
      pub chain_closes : (f'' : F) (from' : Content (IndexLink U))
          (into' into'' : Content (IndexLink T)) (x y : ℕ) → next_at held at ≡ Some start
          → x ≡ first → y ≡ live_count into + 1
          → into'' ≡ with_prev_of into' (Some x) (Some y)
          → AreMoved (order ++ at ∷ []) to (with_prev held start None) f'' from' into'
          → AreChainsMoved (k + 1) f'' from' into''
      chain_closes f'' from' into' into'' x y round x_is y_is is m =
          let none = way_closes round in
          chains_more f'' from' into'' none
          record {
            taken = m.taken;
            called = called_same old_index old_generation index generation step f last old
                (order ++ at ∷ []) f'' from'.counter into' into''
                (ap listed_values is ∙ values_listed into'
                (with_prev_of into' (Some x) (Some y))
                (values-with_prev_of into' (Some x) (Some y))) m.called;
            placed =
                placed_closed g room (order ++ at ∷ []) start to held (Some at) into' into''
                x y m.placed is on_start
                (λ i j on on' same. place_apart (all_members w.done ++ members w.chain) i j
                (subst (λ l. On l i) whole on) (subst (λ l. On l j) whole on') same)
                (x_is ∙ to_start) (ap Some (y_is ∙ ap (λ n. n + 1) w.moved.placed.live ∙ sym to_at))
                (next_at held start)
                (of_live (held start) (hand_live held w.done start k w.chain w.hand start start_on)
                ∙ ap (λ o. Some (o, next_at held start)) first_prev);
          }
        where
          whole : order ++ at ∷ [] ≡ all_members w.done ++ members w.chain
          whole = order_done (way_closes round) ∙ all_append w.done w.chain

          start_on : On (members w.chain) start
          start_on = hand_start held w.done start k w.chain w.hand

          on_start : On (order ++ at ∷ []) start
          on_start = subst (λ l. On l start) (sym whole)
              (On-back (all_members w.done) (members w.chain) start start_on)

          first_prev : prev_at held start ≡ Some at
          first_prev =
              let none = way_closes round in
              ring_start held w.done start k w.chain w.hand w.front at
              (w.split ∙ ap (λ l. w.front ++ at ∷ l) none)
              (sym (next_is ∙ ap (λ l. first_or l (closing w.chain)) none) ∙ round)

      -- a link is moved
      pub link_moved : (f'' : F) (from' : Content (IndexLink U)) (into' : Content (IndexLink T))
          (p : Q) (item : InvalidationOption U) (o : Option ℕ) (q : P) (t : T)
          (before : Option ℕ) (o' : Option ℕ) (x : ℕ) (placed place bound : ℕ)
          → IsRemoved entry_at live_count some_counter room_in last at from from'
          → IsWellFormed from'
          → values_in from at ≡ Some (old_generation p, value_of item) → old_index p ≡ at
          → overflowed item ≡ next_wraps last from.counter
          → o ≡ next_at (ends_in from) at
          → placed ≡ live_count into → place ≡ placed + 1 → index q ≡ place → generation q ≡ g
          → step f' p item q t f''
          → live_count old ≤ arena_capacity into → live_count old ≤ bound
          → (live_count into < arena_capacity into
          → into' ≡ inserted into (record { prev = before; next = o'; t = t }))
          → before ≡ prev → x ≡ first
          → (o ≡ None → o' ≡ None) → (o ≡ Some start → o' ≡ Some x)
          → ((j : ℕ) → o ≡ Some j → j ≢ start → placed + 1 + 1 ≤ bound
          → o' ≡ Some (placed + 1 + 1))
          → IsLinkMoved k start first place o f'' from' into'
      link_moved f'' from' into' p item o q t before o' x placed place bound removed formed found
          has_index wraps goes count place_is at_index at_generation ran fits bounds is
          prev_same x_is end round on =
          let same : o ≡ next_at held at = goes
          ∙ ap (λ e. next_in (option_map entry_ends e)) at_entry in
          let one = way_fits in
          let moved =
          way_more f'' from' into' p item q t (record { prev = before; next = o'; t = t }) removed
          formed found has_index wraps
          (omega (arith, count, place_is, at_index)) at_generation ran (omega (arith, one, fits))
          (is (omega (arith, one, fits))) refl prev_same
          (next_given o o' x (placed + 1) bound from' same x_is (omega (arith, count)) bounds
          (taken_more last old order at from from' w.moved.taken removed formed) end round on)
          in
          let count_is : place ≡ live_count into + 1 = omega (arith, count, place_is) in
          record {
            further = λ j into'' t. subst (IsOnWay k start j first (Some place) f'' from') (sym t.2)
                (way_further j place f'' from' into' (sym same ∙ t.0) t.1 count_is moved);
            over = λ into'' y z y_is z_is how.
                elim how [
                  | inl t ↦ subst (AreChainsMoved (k + 1) f'' from') (sym t.1)
                      (chain_ends f'' from' into' (sym same ∙ t.0) moved)
                  | inr t ↦ chain_closes f'' from' into' into'' y z (sym same ∙ t.0) y_is
                      (z_is ∙ count_is) t.1 moved
                ];
          }
