-- A hint that is at hand among the places is at hand among the indexes of their arena.
use Rattle.std.proofs.Common.{◌≡◌, ◌∙◌, sym, ap, subst, refl, Bool, true, false, ◌==◌, ◌||◌, ℕ}
use Rattle.std.proofs.Common.{zero, suc, ◌+◌, ◌-◌, ◌<◌, ◌≤◌, List, [], ◌∷◌, ◌++◌, length, Option}
use Rattle.std.proofs.Common.{Some, None, IsSome, Ok, nat_lt, inl, inr, arith}
use Rattle.std.specs.Prelude.{◌⊎◌, slice_get}
use Rattle.std.specs.List.{AllByRecursion}
use Rattle.std.specs.declared.cmp.Ordering.{Ordering}
use Rattle.std.specs.declared.cmp.Ordering.TheVariants.{Less, Greater}
use Rattle.std.proofs.lemmas.Bool.{and_parts, ltb-true, lt-ltb, le-ltb, ne_eqb}
use Rattle.std.proofs.lemmas.Bool.Decides.{eqb_tells, leb_tells}
use Rattle.triple_arena.specs.Content.{Content}
use Rattle.triple_arena.specs.Entries.{value_if}
use Rattle.linked_lists.specs.LinkedLists.{first_or, last_or}
use Rattle.triple_arena_chain.specs.LinkShape.{IndexLink}
use Rattle.triple_arena_ord.specs.Near.{IsNear, IsAtHand}
use Rattle.triple_arena_ord.specs.Ordered.{Ordered, IsOrdered, IsAscending, asked_at, entry_in}
use Rattle.triple_arena_ord.specs.Ordered.{order_in, size_in}
use Rattle.ticket_book.specs.declared.entry.Kind.TheVariants.{Place as OfPlace}
use Rattle.ticket_book.specs.Tickets.{Entry}
use Rattle.ticket_book.specs.AlongLaws.{along, along_some}
use Rattle.rank_tree.specs.Comparisons.{most_comparisons}
use Rattle.route_lines.specs.Calls.{place_holder}
use Rattle.route_lines.specs.Searches.{places_before, is_near, is_at_hand, most_from, most_near}
use Rattle.route_lines.specs.Sound.{PlacesRise}
use Rattle.route_lines.specs.State.{State, Rooms, Place, place_of, is_full_of_places}
use Rattle.route_book.specs.Book.{in_order, IsBook}
use Rattle.route_book.specs.Item.{StopView, MarkView}
use Rattle.route_book.specs.Keys.{key_cmp, key_of}
use Rattle.route_book.specs.declared.items.PlaceKey.{PlaceKey}
use Rattle.route_book.proofs.HoldLemmas.{booked_once}
use Rattle.route_book.proofs.KeyLemmas.{GoesPast, above_behind, ascending}
use Rattle.route_book.proofs.KeyLemmas.{live_along, newest_past, past_above, past_from}
use Rattle.route_book.proofs.NeighborLemmas.{held_place}
use Rattle.route_book.proofs.OptionLemmas.{found_has, stands_at}

-- ---- positions in a list

first_stands : (low rest : List ℕ) (j : ℕ) → slice_get (low ++ j ∷ rest) (length low) ≡ Some j
first_stands [] rest j = refl
first_stands (x ∷ low) rest j = first_stands low rest j

last_stands : (low high : List ℕ) (j : ℕ) → last_or None low ≡ Some j
    → (k : ℕ) × ((length low ≡ suc k) × (slice_get (low ++ high) k ≡ Some j))
last_stands [] high j is = absurd (let no : ◌≡◌ {A = Option ℕ} None (Some j) = is in cc)
last_stands (x ∷ []) high j is = (zero, (refl, is))
last_stands (x ∷ y ∷ low) high j is = let rest = last_stands (y ∷ low) high j is in
    (suc rest.0, (ap suc rest.1.0, rest.1.1))

near_at : (i j : ℕ) → is_near i j ≡ true → (i < j + 7) × (j < i + 7)
near_at i j is = let both = and_parts (nat_lt i (j + 7)) (nat_lt j (i + 7)) is in
    (ltb-true i (j + 7) both.0, ltb-true j (i + 7) both.1)

-- a position is near, unless there is none
near_if : (b : Bool) (i j : ℕ) → b ≡ false → (b || is_near i j) ≡ true → is_near i j ≡ true
near_if b i j none is = subst (λ c. (c || is_near i j) ≡ true) none is

-- ---- a list of live indexes beside its places

module _ (at : ℕ → Option (ℕ × Place)) where
  abbrev Live : List ℕ → Type 0
  Live w = AllByRecursion (λ j. IsSome (at j)) w

  live_at : (j : ℕ) → IsSome (at j) → (e : ℕ × Place) × (at j ≡ Some e)
  live_at j some = by (at j) refl some
    where
      by : (o : Option (ℕ × Place)) → at j ≡ o → IsSome (at j) → (e : ℕ × Place) × (at j ≡ Some e)
      by None is some = absurd (let no : ◌≡◌ {A = Bool} false true = subst IsSome is some in cc)
      by (Some e) is some = (e, is)

  along_live : (j : ℕ) (w : List ℕ) (all : Live (j ∷ w))
      → along at (j ∷ w) ≡ (live_at j all.0).0.1 ∷ along at w
  along_live j w all = let e = live_at j all.0 in along_some at j w e.0 e.1

  length_along : (w : List ℕ) → Live w → length (along at w) ≡ length w
  length_along [] all = refl
  length_along (j ∷ w) all = ap length (along_live j w all) ∙ ap suc (length_along w all.1)

  live_behind : (low high : List ℕ) → Live (low ++ high) → Live high
  live_behind [] high all = all
  live_behind (j ∷ low) high all = live_behind low high all.1

  -- where the place with a ticket stands
  record StandsWith (t : ℕ) (w : List ℕ) : Type 0 where
    pub index : ℕ
    pub entry : ℕ × Place
    pub there : slice_get w (places_before (λ p. p.ticket == t) (along at w)) ≡ Some index
    pub is : at index ≡ Some entry
    pub ticket : entry.1.ticket ≡ t

  stands_with : (t : ℕ) (w : List ℕ) → Live w → (p : Place) → place_of (along at w) t ≡ Some p
      → StandsWith t w
  stands_with t [] all p found =
      absurd (let no : ◌≡◌ {A = Option Place} None (Some p) = found in cc)
  stands_with t (j ∷ w) all p found =
      let e = live_at j all.0 in
      elim (eqb_tells e.0.1.ticket t) [
        | inl same ↦
            let first : slice_get (j ∷ w) (places_before (λ q. q.ticket == t) (e.0.1 ∷ along at w))
            ≡ Some j = rw same.0 refl in
            record {
              index = j;
              entry = e.0;
              there =
                  ap (λ l. slice_get (j ∷ w) (places_before (λ q. q.ticket == t) l))
                  (along_live j w all) ∙ first;
              is = e.1;
              ticket = same.1;
            }
        | inr other ↦
            let skip : place_of (e.0.1 ∷ along at w) t ≡ place_of (along at w) t =
            rw other.0 refl in
            let rest = stands_with t w all.1 p
            (sym skip ∙ sym (ap (λ l. place_of l t) (along_live j w all)) ∙ found) in
            let later : slice_get (j ∷ w) (places_before (λ q. q.ticket == t) (e.0.1 ∷ along at w))
            ≡ slice_get w (places_before (λ q. q.ticket == t) (along at w)) = rw other.0 refl in
            record {
              index = rest.index;
              entry = rest.entry;
              there = ap (λ l. slice_get (j ∷ w) (places_before (λ q. q.ticket == t) l))
                  (along_live j w all) ∙ later ∙ rest.there;
              is = rest.is;
              ticket = rest.ticket;
            }
      ]

  module _ (key : ℕ) (ask : ℕ → Ordering) (past : GoesPast key ask at) where
    greater_at : (j : ℕ) (e : ℕ × Place) → at j ≡ Some e → e.1.key ≤ key → ask j ≡ Greater
    greater_at j e is from = past j e.0 e.1 is ∙ past_from key e.1 from

    less_at : (j : ℕ) (e : ℕ × Place) → at j ≡ Some e → key < e.1.key → ask j ≡ Less
    less_at j e is above = past j e.0 e.1 is ∙ past_above key e.1 above

    -- the first index whose key is above this one
    record IsFrom (high : List ℕ) : Type 0 where
      pub first : ℕ
      pub behind : List ℕ
      pub entry : ℕ × Place
      pub is : high ≡ first ∷ behind
      pub stands : at first ≡ Some entry
      pub above : key < entry.1.key

    -- the list, parted before it
    record IsCut (w : List ℕ) : Type 0 where
      pub low : List ℕ
      pub high : List ℕ
      pub is : w ≡ low ++ high
      pub greater : AllByRecursion (λ j. ask j ≡ Greater) low
      pub up_to : places_before (λ p. nat_lt key p.key) (along at w) ≡ length low
      pub behind : (high ≡ []) ⊎ IsFrom high

    parted : (w : List ℕ) → Live w → IsCut w
    parted [] all = record
        { low = []; high = []; is = refl; greater = tt; up_to = refl; behind = inl refl }
    parted (j ∷ w) all =
        let e = live_at j all.0 in
        elim (leb_tells e.0.1.key key) [
          | inl from ↦
              let rest = parted w all.1 in
              record {
                low = j ∷ rest.low;
                high = rest.high;
                is = ap (λ l. j ∷ l) rest.is;
                greater = (greater_at j e.0 e.1 from.1, rest.greater);
                up_to = rw (along_live j w all, le-ltb key e.0.1.key from.1) (ap suc rest.up_to);
                behind = rest.behind;
              }
          | inr above ↦
              record {
                low = [];
                high = j ∷ w;
                is = refl;
                greater = tt;
                up_to = rw (along_live j w all, lt-ltb key e.0.1.key above.1) refl;
                behind = inr (record {
                  first = j;
                  behind = w;
                  entry = e.0;
                  is = refl;
                  stands = e.1;
                  above = above.1;
                });
              }
        ]

    less_above : (w : List ℕ) → Live w → AllByRecursion (λ (p : Place). key < p.key) (along at w)
        → AllByRecursion (λ j. ask j ≡ Less) w
    less_above [] all above = tt
    less_above (j ∷ w) all above =
        let e = live_at j all.0 in
        let both = subst (AllByRecursion (λ (p : Place). key < p.key)) (along_live j w all) above in
        (less_at j e.0 e.1 both.0, less_above w all.1 both.1)

    rise_behind : (low high : List ℕ) → Live (low ++ high) → PlacesRise (along at (low ++ high))
        → PlacesRise (along at high)
    rise_behind [] high all rise = rise
    rise_behind (j ∷ low) high all rise =
        rise_behind low high all.1 (subst PlacesRise (along_live j (low ++ high) all) rise).1

    module _ (w : List ℕ) (all : Live w) (rise : PlacesRise (along at w)) (from i : ℕ)
        (stands : slice_get w from ≡ Some i) (hand : is_at_hand key (along at w) from ≡ true) where
      abbrev part : IsCut w
      part = parted w all

      abbrev up_to : ℕ
      up_to = places_before (λ p. nat_lt key p.key) (along at w)

      halves : (((up_to == 0) || is_near from (up_to - 1)) ≡ true)
          × (((up_to == length (along at w)) || is_near from up_to) ≡ true)
      halves = and_parts _ _ hand

      live : Live (part.low ++ part.high)
      live = subst Live part.is all

      -- a neighbor of the gap
      low_near : (j : ℕ) → last_or None part.low ≡ Some j → IsNear 7 w i j
      low_near j is =
          let s = last_stands part.low part.high j is in
          let count : up_to ≡ suc s.0 = part.up_to ∙ s.1.0 in
          let counted = subst (λ n. ((n == 0) || is_near from (n - 1)) ≡ true) count halves.0 in
          let some : (suc s.0 == 0) ≡ false = ne_eqb (suc s.0) 0 (λ same. omega (arith, same)) in
          let last : suc s.0 - 1 ≡ s.0 = omega arith in
          let near : is_near from s.0 ≡ true =
          subst (λ n. is_near from n ≡ true) last
          (near_if (suc s.0 == 0) from (suc s.0 - 1) some counted) in
          let apart = near_at from s.0 near in
          record {
            from = from;
            to = s.0;
            starts = stands;
            ends = subst (λ l. slice_get l s.0 ≡ Some j) (sym part.is) s.1.1;
            ahead = apart.1;
            behind = apart.0;
          }

      -- the first index whose key is above this one
      high_near : (f : IsFrom part.high) → IsNear 7 w i f.first
      high_near f =
          let is : w ≡ part.low ++ f.first ∷ f.behind = part.is ∙ ap (λ l. part.low ++ l) f.is in
          let long : length w ≡ length part.low + suc (length f.behind) = ap length is
          ∙ length_with part.low f.first f.behind in
          let all_long = length_along w all in
          let count = part.up_to in
          let inside : (up_to == length (along at w)) ≡ false =
          ne_eqb up_to (length (along at w))
          (λ same. omega (arith, same, long, all_long, count)) in
          let near : is_near from (length part.low) ≡ true =
          subst (λ n. is_near from n ≡ true) part.up_to (near_if _ from up_to inside halves.1)
          in
          let apart = near_at from (length part.low) near in
          record {
            from = from;
            to = length part.low;
            starts = stands;
            ends = subst (λ l. slice_get l (length part.low) ≡ Some f.first) (sym is)
                (first_stands part.low f.behind f.first);
            ahead = apart.1;
            behind = apart.0;
          }
        where
          length_with : (low : List ℕ) (j : ℕ) (rest : List ℕ)
              → length (low ++ j ∷ rest) ≡ length low + suc (length rest)
          length_with [] j rest = omega arith
          length_with (x ∷ low) j rest = let more = length_with low j rest in omega (arith, more)

      gap : AllByRecursion (λ j. ask j ≡ Less) part.high
          → ((j : ℕ) → first_or part.high None ≡ Some j → IsNear 7 w i j) → IsAtHand 7 ask w i
      gap less first = inr (record {
        low = part.low;
        high = part.high;
        is = part.is;
        greater = part.greater;
        less = less;
        last = low_near;
        first = first;
      })

      none_above : part.high ≡ [] → IsAtHand 7 ask w i
      none_above none =
          gap (subst (AllByRecursion (λ j. ask j ≡ Less)) (sym none) tt)
          (λ j is. absurd (let no : ◌≡◌ {A = Option ℕ} None (Some j) =
          sym (ap (λ l. first_or l None) none) ∙ is in cc))

      some_above : IsFrom part.high → IsAtHand 7 ask w i
      some_above f =
          let live_high = live_behind part.low part.high live in
          let rises = subst (λ l. PlacesRise (along at l)) f.is
          (rise_behind part.low part.high live
          (subst (λ l. PlacesRise (along at l)) part.is rise)) in
          let split = along_some at f.first f.behind f.entry f.stands in
          let above : AllByRecursion (λ (p : Place). key < p.key) (along at part.high) =
          subst (λ l. AllByRecursion (λ (p : Place). key < p.key) (along at l)) (sym f.is)
          (subst (AllByRecursion (λ (p : Place). key < p.key)) (sym split)
          (above_behind [] (along at f.behind) f.entry.1 key (subst PlacesRise split rises)
          f.above)) in
          gap (less_above part.high live_high above)
          (λ j is. subst (IsNear 7 w i) (first_is (sym (ap (λ l. first_or l None) f.is) ∙ is))
          (high_near f))
        where
          first_is : {x y : ℕ} → ◌≡◌ {A = Option ℕ} (Some x) (Some y) → x ≡ y
          first_is e = cc

      at_hand : IsAtHand 7 ask w i
      at_hand = elim part.behind [
        | inl none ↦ none_above none
        | inr f ↦ some_above f
      ]

    -- how many comparisons a search may take that begins at the place with a ticket
    pub near_bound : (w : List ℕ) → Live w → PlacesRise (along at w) → (t i g : ℕ) (p : Place)
        → at i ≡ Some (g, p) → p.ticket ≡ t
        → ((j k : ℕ) (q : Place) → at j ≡ Some (k, q) → q.ticket ≡ t → j ≡ i)
        → place_of (along at w) t ≡ Some p → (old new : ℕ)
        → new ≤ old + (7 + most_comparisons (length (along at w)))
        → (IsAtHand 7 ask w i → new ≤ old + 7) → new ≤ old + most_from (along at w) key t
    near_bound w all rise t i g p is ticket own found old new bound near =
        by (is_at_hand key (along at w) from) refl
      where
        s : StandsWith t w
        s = stands_with t w all p found

        from : ℕ
        from = places_before (λ q. q.ticket == t) (along at w)

        same : s.index ≡ i
        same = own s.index s.entry.0 s.entry.1 s.is s.ticket

        by : (b : Bool) → is_at_hand key (along at w) from ≡ b
            → new ≤ old + most_from (along at w) key t
        by true is = rw is (near
            (subst (IsAtHand 7 ask w) same (at_hand w all rise from s.index s.there is)))
        by false is = rw is (omega (arith, bound))

-- ---- a store

module _ (rooms : Rooms) (last : ℕ) (s : State)
    (places : Ordered Place) (stops : Content (IndexLink StopView)) (marks : Content MarkView)
    (book : List Entry) (b : IsBook rooms last s places stops marks book)
    (ordered : IsOrdered places)
    (k : PlaceKey) (newest : (j n : ℕ) (q : Place) → entry_in places j ≡ Some (n, q)
    → q.ticket < k.ticket) (near i g : ℕ) (p : Place)
    (value : value_if g (entry_in places i) ≡ Some p) (held : place_holder s near ≡ Ok p) where
  stands : entry_in places i ≡ Some (g, p)
  stands = stands_at (entry_in places) i g p value

  has : p.ticket ≡ near
  has = found_has (λ (q : Place). q.ticket) near s.places p (held_place s near p held)

  rise : PlacesRise (in_order places)
  rise = subst PlacesRise b.held.in_order b.places_rise

  -- a search for a key that begins at the place with a ticket makes no more comparisons with keys
  -- than it may
  pub hint_bound : is_full_of_places s ≡ false → (old new : ℕ)
      → new ≤ old + (7 + most_comparisons (size_in places))
      → (IsAscending key_cmp key_of places → IsSome (entry_in places i)
      → IsAtHand 7 (asked_at key_cmp key_of k places) (order_in places) i → new ≤ old + 7)
      → new ≤ old + most_near s k.key near
  hint_bound free old new bound close =
      rw (held, free) (subst (λ l. new ≤ old + most_from l k.key near) (sym b.held.in_order)
      (near_bound (entry_in places) k.key (asked_at key_cmp key_of k places)
      (newest_past places k newest) (order_in places)
      (live_along places None (order_in places) ordered.linear) rise near i g p
      stands has
      (λ j k q is same. booked_once (λ (r : Place). r.ticket) OfPlace (entry_in places) book
      b.held.places_in j i k g q p is stands (same ∙ sym has))
      (ap (λ l. place_of l near) (sym b.held.in_order) ∙ held_place s near p held) old new
      (subst (λ n. new ≤ old + (7 + most_comparisons n))
      (sym b.within.place_count ∙ ap length b.held.in_order) bound)
      (close (ascending _ rise) (subst IsSome (sym stands) refl))))
