-- What the searches of an arena find in its list.
use Rattle.std.proofs.Common.{◌≡◌, ◌≢◌, ◌∙◌, sym, ap, subst, refl, Bool, true, false, ℕ, ◌<◌, ◌≤◌}
use Rattle.std.proofs.Common.{List, [], ◌∷◌, ◌++◌, Option, Some, None, IsSome, option_map, arith}
use Rattle.std.proofs.Common.{IfSome, inl, inr}
use Rattle.std.proofs.Common.{◌==◌}
use Rattle.std.proofs.Common.{append_assoc, nat_lt, nat_le, reverse}
use Rattle.std.proofs.lemmas.List.{reverse-append}
use Rattle.std.specs.List.{AllByRecursion}
use Rattle.std.specs.Cmp.{ranked, nat_cmp_is}
use Rattle.std.specs.Int.NonZero.{non_zero_u32_get}
use Rattle.std.specs.Ordering.{nat_cmp}
use Rattle.std.specs.declared.cmp.Ordering.{Ordering}
use Rattle.std.specs.declared.cmp.Ordering.TheVariants.{Less, Equal, Greater}
use Rattle.std.proofs.lemmas.Bool.Decides.{eqb_tells}
use Rattle.std.proofs.lemmas.Bool.{eq-eqb, ne_eqb, lt-ltb, le-ltb}
use Rattle.triple_arena.specs.Entries.{generation_at}
use Rattle.linked_lists.specs.LinkedLists.{first_or, last_or}
use Rattle.linked_lists.specs.LinkedListLaws.{last_or-append}
use Rattle.linked_lists.specs.UniquenessLaws.{Ended, none, some_last, ended}
use Rattle.triple_arena_ord.specs.Bounds.{IsBound, first_entry}
use Rattle.triple_arena_ord.specs.Found.{IsFound, IsSimilar, Answers}
use Rattle.triple_arena_ord.specs.Ordered.{IsAscending, asked_at, entry_in, order_in}
use Rattle.triple_arena_ord.specs.OrderedWalks.{IsEnd, IsFrom, OrderedSteps, OrderedWalk, left_over}
use Rattle.triple_arena_ord.specs.OrderedWalks.{entries_left, from_index, walk_at}
use Rattle.rank_tree.specs.Search.{EndsAt}
use Rattle.ord_map_c.specs.Entries.{Entry, Pair, KeysRise, key_of, pointer_of, with_key, from_key}
use Rattle.ord_map_c.specs.Entries.{past_key, below_key, first_of, last_of, entry, pair}
use Rattle.ord_map_c.specs.State.{Arena, IsMap, StandsUnder, listed, nearest_in, beside_in}
use Rattle.ord_map_c.specs.State.{rest_in}
use Rattle.ord_map_c.proofs.AlongLemmas.{AllStand, along, along_some, along_none, along_split}
use Rattle.ord_map_c.proofs.AlongLemmas.{above_along, below_along, ascends, key_in}
use Rattle.ord_map_c.proofs.AlongLemmas.{along_stands, pair_is, some_same, standing}
use Rattle.ord_map_c.proofs.ListLemmas.{Above, Below, back_kept, below_gap, past_gap, none_with}
use Rattle.ord_map_c.proofs.ListLemmas.{with_at, le-leb, lt-leb, above_in, last_behind}
use Rattle.ord_map_c.proofs.ListLemmas.{below_at, past_at, from_at}

-- no entry compares as equal: none has the key
none_along : (at : ℕ → Option (ℕ × Pair)) (key : ℕ)
    → ((i : ℕ) → IsSome (at i)
    → Rattle.triple_arena_ord.specs.Ordered.asked_of nat_cmp key_in key (at i) ≢ Equal)
    → (w : List ℕ) → with_key (along at w) key ≡ None
none_along at key other [] = refl
none_along at key other (i ∷ w) = by (at i) refl (other i) (none_along at key other w)
  where
    by : (o : Option (ℕ × Pair)) → at i ≡ o
        → (IsSome (at i)
        → Rattle.triple_arena_ord.specs.Ordered.asked_of nat_cmp key_in key (at i) ≢ Equal)
        → with_key (along at w) key ≡ None → with_key (along at (i ∷ w)) key ≡ None
    by None is differs rest = ap (λ l. with_key l key) (along_none at i w is) ∙ rest
    by (Some e) is differs rest =
        let apart : e.1.k ≢ key =
        λ same. differs (rw is refl) (rw is (sym (nat_cmp_is key e.1.k Equal (sym same)))) in
        ap (λ l. with_key l key) (along_some at i w e is) ∙ rw (ne_eqb e.1.k key apart) rest

-- the entry at an index that has this generation
pub record Live (o : Arena) (i g : ℕ) : Type 0 where
  pub pair : Pair
  pub is : entry_in o i ≡ Some (g, pair)

pub live_at : (o : Arena) (i g : ℕ) → generation_at (entry_in o) i ≡ Some g → Live o i g
live_at o i g = by (entry_in o i) refl
  where
    by : (e : Option (ℕ × Pair)) → entry_in o i ≡ e → option_map (λ (x : ℕ × Pair). x.0) e ≡ Some g
        → Live o i g
    by None is never = absurd (cc)
    by (Some x) is same = record {
      pair = x.1;
      is = (let own : x.0 ≡ g = cc in is ∙ ap (λ (n : ℕ). (let z : Option (ℕ × Pair) =
          Some (n, x.1) in z)) own);
    }

module _ (o : Arena) (key i g : ℕ) (t : Pair) (is : entry_in o i ≡ Some (g, t)) where
  pub asked_is : (d : Ordering) → asked_at nat_cmp key_in key o i ≡ d → nat_cmp key t.k ≡ d
  asked_is d way =
      sym (ap (Rattle.triple_arena_ord.specs.Ordered.asked_of nat_cmp key_in key) is) ∙ way

module _ {P : Type 0} (index generation : P → ℕ) (o : Arena) (key : ℕ) (map : IsMap o)
    (law : AllStand) where
  -- an entry that compares as equal has the key
  answered : (p : P) → Answers index generation (asked_at nat_cmp key_in key o) o p Equal
      → Some (index p, generation p) ≡ option_map pointer_of (with_key (listed o) key)
  answered p found =
      let at = live_at o (index p) (generation p) found.live in
      let same : key ≡ at.pair.k =
      ranked key at.pair.k Equal
      (sym (asked_is o key (index p) (generation p) at.pair at.is Equal found.way)) in
      let there = standing o map.ordered law (index p) (generation p, at.pair) at.is in
      let has : with_key (listed o) at.pair.k ≡ Some (index p, (generation p, at.pair)) =
      ap (λ l. with_key l at.pair.k) there.is
      ∙ with_at there.low there.high (index p, (generation p, at.pair))
      (subst KeysRise there.is map.rise) in
      sym (ap (option_map pointer_of) (ap (with_key (listed o)) same ∙ has))

  pub found_is : (result : Option P)
      → IsFound index generation (asked_at nat_cmp key_in key o)
      (IsAscending nat_cmp key_in o) result o
      → option_map {U = ℕ × ℕ} (λ p. (index p, generation p)) result
      ≡ option_map pointer_of (with_key (listed o) key)
  found_is None found = sym (ap (option_map pointer_of)
      (none_along (entry_in o) key (found.none (ascends o map.rise) refl)
      (order_in o)))
  found_is (Some p) found = answered p (found.some p refl)

  -- ---- bounds

  firsts : (l : List Entry) → first_entry l ≡ option_map pointer_of (first_of l)
  firsts [] = refl
  firsts (e ∷ l) = refl

  pub lower_is : (result : Option P)
      → IsBound index generation (λ t. nat_cmp key (key_in t) ≡ Greater) result o
      → option_map {U = ℕ × ℕ} (λ p. (index p, generation p)) result
      ≡ option_map pointer_of (first_of (from_key (listed o) key))
  lower_is result bound =
      let rest : from_key (listed o) key ≡ bound.high =
      ap (λ l. from_key l key) bound.is
      ∙ back_kept (λ (e : Entry). nat_le key (key_of e)) bound.low bound.high
      (out bound.low bound.all_before) (within bound.high bound.none_before) in
      bound.first ∙ firsts bound.high ∙ ap (λ l. option_map pointer_of (first_of l)) (sym rest)
    where
      out : (l : List Entry) → AllByRecursion (λ (e : Entry). nat_cmp key (key_of e) ≡ Greater) l
          → AllByRecursion (λ (e : Entry). nat_le key (key_of e) ≡ false) l
      out [] all = tt
      out (x ∷ l) all =
          (lt-leb key (key_of x) (ranked key (key_of x) Greater (sym all.0)), out l all.1)

      within : (l : List Entry)
          → AllByRecursion (λ (e : Entry). nat_cmp key (key_of e) ≡ Greater → ⊥) l
          → AllByRecursion (λ (e : Entry). nat_le key (key_of e) ≡ true) l
      within [] all = tt
      within (x ∷ l) all = (
        le-leb key (key_of x) (by (nat_cmp key (key_of x)) refl all.0),
        within l all.1,
      )
        where
          by : (d : Ordering) → d ≡ nat_cmp key (key_of x) → (nat_cmp key (key_of x) ≡ Greater → ⊥)
              → key ≤ key_of x
          by Less is never = (let less = ranked key (key_of x) Less is in omega (arith, less))
          by Equal is never = (let same = ranked key (key_of x) Equal is in omega (arith, same))
          by Greater is never = absurd (never (sym is))

  pub upper_is : (result : Option P)
      → IsBound index generation (λ t. nat_cmp key (key_in t) ≢ Less) result o
      → option_map {U = ℕ × ℕ} (λ p. (index p, generation p)) result
      ≡ option_map pointer_of (first_of (past_key (listed o) key))
  upper_is result bound =
      let rest : past_key (listed o) key ≡ bound.high =
      ap (λ l. past_key l key) bound.is
      ∙ back_kept (λ (e : Entry). nat_lt key (key_of e)) bound.low bound.high
      (out bound.low bound.all_before) (within bound.high bound.none_before) in
      bound.first ∙ firsts bound.high ∙ ap (λ l. option_map pointer_of (first_of l)) (sym rest)
    where
      out : (l : List Entry) → AllByRecursion (λ (e : Entry). nat_cmp key (key_of e) ≢ Less) l
          → AllByRecursion (λ (e : Entry). nat_lt key (key_of e) ≡ false) l
      out [] all = tt
      out (x ∷ l) all = (
        le-ltb key (key_of x) (by (nat_cmp key (key_of x)) refl all.0),
        out l all.1,
      )
        where
          by : (d : Ordering) → d ≡ nat_cmp key (key_of x) → nat_cmp key (key_of x) ≢ Less
              → key_of x ≤ key
          by Less is never = absurd (never (sym is))
          by Equal is never = (let same = ranked key (key_of x) Equal is in omega (arith, same))
          by Greater is never = (let more = ranked key (key_of x) Greater is in omega (arith, more))

      within : (l : List Entry)
          → AllByRecursion (λ (e : Entry). nat_cmp key (key_of e) ≢ Less → ⊥) l
          → AllByRecursion (λ (e : Entry). nat_lt key (key_of e) ≡ true) l
      within [] all = tt
      within (x ∷ l) all = (
        lt-ltb key (key_of x) (by (nat_cmp key (key_of x)) refl all.0),
        within l all.1,
      )
        where
          by : (d : Ordering) → d ≡ nat_cmp key (key_of x)
              → (nat_cmp key (key_of x) ≢ Less → ⊥) → key < key_of x
          by Less is never = ranked key (key_of x) Less is
          by Equal is never = absurd (never
              (λ less. (let no : Equal ≡ Less = is ∙ less in cc)))
          by Greater is never = absurd (never
              (λ less. (let no : Greater ≡ Less = is ∙ less in cc)))

  -- ---- the nearest

  -- what is said of the entry that is nearest
  pub record IsNearest (p : P) (d : Ordering) : Type 0 where
    pub entry : Some (index p, generation p)
        ≡ option_map pointer_of (nearest_in d (listed o) key)
    pub equal : d ≡ Equal → IsSome (with_key (listed o) key)
    pub other : d ≢ Equal → with_key (listed o) key ≡ None

  pub has_key : (p : P) (d : Ordering) → IsNearest p d → IsSome (with_key (listed o) key)
      → d ≡ Equal
  has_key p Less near some = absurd
      (let none = near.other (λ same. (let no : Less ≡ Equal = same in cc)) in
      let no : ◌≡◌ {A = Bool} false true = subst IsSome none some in cc)
  has_key p Equal near some = refl
  has_key p Greater near some = absurd
      (let none = near.other (λ same. (let no : Greater ≡ Equal = same in cc)) in
      let no : ◌≡◌ {A = Bool} false true = subst IsSome none some in cc)

  pub near_lives : (p : P) (d : Ordering) → IsNearest p d → listed o ≡ [] → ⊥
  near_lives p d near is = by d (near.entry
      ∙ ap (λ l. option_map pointer_of (nearest_in d l key)) is)
    where
      by : (d : Ordering) → Some (index p, generation p)
          ≡ option_map pointer_of (nearest_in d [] key) → ⊥
      by Less never = absurd (cc)
      by Equal never = absurd (cc)
      by Greater never = absurd (cc)

  module _ (p : P) (t : Pair) (is : entry_in o (index p) ≡ Some (generation p, t))
      (places : (d : Ordering) → asked_at nat_cmp key_in key o (index p) ≡ d
      → EndsAt (asked_at nat_cmp key_in key o) (order_in o) (index p) d) where
    abbrev own : Entry
    own = (index p, (generation p, t))

    near_less : asked_at nat_cmp key_in key o (index p) ≡ Less → IsNearest p Less
    near_less way =
        let place = places Less way in
        let low = along (entry_in o) place.before in
        let high = along (entry_in o) place.after in
        let list : listed o ≡ low ++ own ∷ high =
        ap (along (entry_in o)) place.is
        ∙ along_split (entry_in o) place.before place.after (index p) (generation p, t) is in
        let less : key < t.k = ranked key t.k Less
        (sym (asked_is o key (index p) (generation p) t is Less way)) in
        let below : Below key low = below_along (entry_in o) key place.before
        (place.less refl) in
        let above : Above key (own ∷ high) = (
          less,
          still high (above_in low high own (subst KeysRise list map.rise)) less,
        ) in
        record {
          entry = sym (ap (λ l. option_map pointer_of (first_of (past_key l key))) list
              ∙ ap (λ l. option_map pointer_of (first_of l))
              (past_gap low (own ∷ high) key below above));
          equal = λ same. absurd (let no : Less ≡ Equal = same in cc);
          other = λ _. ap (λ l. with_key l key) list
              ∙ none_with low (own ∷ high) key below above;
        }
      where
        still : (l : List Entry) → Above t.k l → key < t.k → Above key l
        still [] all less = tt
        still (x ∷ l) all less = (let more = all.0 in omega (arith, more, less), still l all.1 less)

    near_greater : asked_at nat_cmp key_in key o (index p) ≡ Greater → IsNearest p Greater
    near_greater way =
        let place = places Greater way in
        let low = along (entry_in o) place.before in
        let high = along (entry_in o) place.after in
        let list : listed o ≡ low ++ own ∷ high =
        ap (along (entry_in o)) place.is
        ∙ along_split (entry_in o) place.before place.after (index p) (generation p, t) is in
        let list' : listed o ≡ (low ++ own ∷ []) ++ high =
        list ∙ sym (append_assoc low (own ∷ []) high) in
        let more : t.k < key = ranked key t.k Greater
        (sym (asked_is o key (index p) (generation p) t is Greater way)) in
        let below : Below key (low ++ own ∷ []) =
        upto low (Rattle.ord_map_c.proofs.ListLemmas.below_in low high own
        (subst KeysRise list map.rise)) more in
        let above : Above key high = above_along (entry_in o) key place.after
        (place.greater refl) in
        record {
          entry = sym (ap (λ l. option_map pointer_of (last_of (below_key l key))) list'
              ∙ ap (λ l. option_map pointer_of (last_of l))
              (below_gap (low ++ own ∷ []) high key below above)
              ∙ ap (option_map pointer_of) (last_behind low own));
          equal = λ same. absurd (let no : Greater ≡ Equal = same in cc);
          other = λ _. ap (λ l. with_key l key) list'
              ∙ none_with (low ++ own ∷ []) high key below above;
        }
      where
        upto : (l : List Entry) → Below t.k l → t.k < key → Below key (l ++ own ∷ [])
        upto [] all more = (more, tt)
        upto (x ∷ l) all more = (let less = all.0 in omega (arith, less, more), upto l all.1 more)

  near_equal : (p : P) → Answers index generation (asked_at nat_cmp key_in key o) o p Equal
      → IsNearest p Equal
  near_equal p found = record {
    entry = answered p found;
    equal = λ _. some (with_key (listed o) key) (answered p found);
    other = λ differs. absurd (differs refl);
  }
    where
      some : (e : Option Entry) → Some (index p, generation p) ≡ option_map pointer_of e → IsSome e
      some None never = absurd (cc)
      some (Some e) same = refl

  pub nearest_is : (result : Option (P × Ordering))
      → IsSimilar index generation (asked_at nat_cmp key_in key o)
      (IsAscending nat_cmp key_in o) result o
      → (p : P) (d : Ordering) → result ≡ Some (p, d) → IsNearest p d
  nearest_is result similar p d is =
      let found = similar.some p d is in
      let at = live_at o (index p) (generation p) found.live in
      by d found (λ e way. subst (EndsAt (asked_at nat_cmp key_in key o)
      (order_in o) (index p)) (sym found.way ∙ way)
      (similar.places (ascends o map.rise) p d is))
    where
      by : (d : Ordering) → Answers index generation (asked_at nat_cmp key_in key o) o p d
          → ((e : Ordering) → asked_at nat_cmp key_in key o (index p) ≡ e
          → EndsAt (asked_at nat_cmp key_in key o) (order_in o) (index p) e)
          → IsNearest p d
      by Less found places =
          let at = live_at o (index p) (generation p) found.live in
          near_less p at.pair at.is places found.way
      by Equal found places = near_equal p found
      by Greater found places =
          let at = live_at o (index p) (generation p) found.live in
          near_greater p at.pair at.is places found.way

  -- ---- the ends

  pub first_is : (result : Option P)
      → IsEnd index generation (first_or (order_in o) None) result o
      → option_map {U = ℕ × ℕ} (λ p. (index p, generation p)) result
      ≡ option_map pointer_of (first_of (listed o))
  first_is result end = by (order_in o) refl result end.at end.live
    where
      by : (w : List ℕ) → order_in o ≡ w → (r : Option P)
          → option_map index r ≡ first_or w None
          → Rattle.std.specs.Prelude.IfSome r
          (λ p. generation_at (entry_in o) (index p) ≡ Some (generation p))
          → option_map {U = ℕ × ℕ} (λ p. (index p, generation p)) r
          ≡ option_map pointer_of (first_of (listed o))
      by [] is None at live = sym (ap (λ w. option_map pointer_of
          (first_of (along (entry_in o) w))) is)
      by [] is (Some p) at live = absurd (cc)
      by (i ∷ w) is None at live = absurd (cc)
      by (i ∷ w) is (Some p) at live =
          let same : index p ≡ i = cc in
          let there = live_at o (index p) (generation p) live in
          let list : listed o ≡ (index p, (generation p, there.pair)) ∷ along (entry_in o) w =
          ap (along (entry_in o)) is ∙ ap (λ j. along (entry_in o) (j ∷ w)) (sym same)
          ∙ along_some (entry_in o) (index p) w (generation p, there.pair) there.is in
          sym (ap (λ l. option_map pointer_of (first_of l)) list)

  pub last_is : (result : Option P)
      → IsEnd index generation (last_or None (order_in o)) result o
      → option_map {U = ℕ × ℕ} (λ p. (index p, generation p)) result
      ≡ option_map pointer_of (last_of (listed o))
  last_is result end = by (ended (order_in o)) result end.at end.live
    where
      by : Ended (order_in o) → (r : Option P)
          → option_map index r ≡ last_or None (order_in o)
          → Rattle.std.specs.Prelude.IfSome r
          (λ p. generation_at (entry_in o) (index p) ≡ Some (generation p))
          → option_map {U = ℕ × ℕ} (λ p. (index p, generation p)) r
          ≡ option_map pointer_of (last_of (listed o))
      by (none is) None at live = sym (ap (λ w. option_map pointer_of
          (last_of (along (entry_in o) w))) is)
      by (none is) (Some p) at live =
          absurd (let no : Some (index p) ≡ None = at ∙ ap (last_or None) is in cc)
      by (some_last ys y is) None at live =
          absurd (let no : None ≡ Some y = at ∙ ap (last_or None) is
          ∙ last_or-append None ys (y ∷ []) in cc)
      by (some_last ys y is) (Some p) at live =
          let both : Some (index p) ≡ Some y = at ∙ ap (last_or None) is
          ∙ last_or-append None ys (y ∷ []) in
          let same : index p ≡ y = cc in
          let there = live_at o (index p) (generation p) live in
          let own : Entry = (index p, (generation p, there.pair)) in
          let list : listed o ≡ along (entry_in o) ys ++ own ∷ [] =
          ap (along (entry_in o)) is
          ∙ ap (λ j. along (entry_in o) (ys ++ j ∷ [])) (sym same)
          ∙ along_split (entry_in o) ys [] (index p) (generation p, there.pair) there.is in
          sym (ap (λ l. option_map pointer_of (last_of l)) list
          ∙ ap (option_map pointer_of) (last_behind (along (entry_in o) ys) own))

  -- ---- the neighbors

  stepped : (before after : OrderedWalk) (given : Option P) (i : ℕ) (rest : List ℕ)
      → OrderedSteps o before
      (option_map {U = ℕ × ℕ} (λ p. (index p, generation p)) given) after
      → left_over o before ≡ i ∷ rest
      → left_over o after ≡ rest
  stepped before after None i rest over is =
      absurd (let none : i ∷ rest ≡ [] = sym is ∙ over.left in cc)
  stepped before after (Some p) i rest given is =
      (let both : i ∷ rest ≡ index p ∷ left_over o after =
      sym is ∙ given.left in cc)

  first_along : (before after : OrderedWalk) (given : Option P) (w : List ℕ)
      → OrderedSteps o before
      (option_map {U = ℕ × ℕ} (λ p. (index p, generation p)) given) after
      → left_over o before ≡ w
      → option_map {U = ℕ × ℕ} (λ p. (index p, generation p)) given
      ≡ option_map pointer_of (first_of (along (entry_in o) w))
  first_along before after None w over is =
      ap (λ v. option_map pointer_of (first_of (along (entry_in o) v))) (sym over.left ∙ is)
  first_along before after (Some p) w given is =
      let there = live_at o (index p) (generation p) given.live in
      let list : along (entry_in o) w ≡ (index p, (generation p, there.pair))
      ∷ along (entry_in o) (left_over o after) =
      ap (along (entry_in o)) (sym is ∙ given.left)
      ∙ along_some (entry_in o) (index p) (left_over o after)
      (generation p, there.pair) there.is in
      sym (ap (λ l. option_map pointer_of (first_of l)) list)

  last_along : (before after : OrderedWalk) (given : Option P) (w : List ℕ)
      → OrderedSteps o before
      (option_map {U = ℕ × ℕ} (λ p. (index p, generation p)) given) after
      → left_over o before ≡ reverse w
      → option_map {U = ℕ × ℕ} (λ p. (index p, generation p)) given
      ≡ option_map pointer_of (last_of (along (entry_in o) w))
  last_along before after given w step is = by (ended w) given step
    where
      by : Ended w → (r : Option P)
          → OrderedSteps o before
          (option_map {U = ℕ × ℕ} (λ p. (index p, generation p)) r) after
          → option_map {U = ℕ × ℕ} (λ p. (index p, generation p)) r
          ≡ option_map pointer_of (last_of (along (entry_in o) w))
      by (none empty) None over =
          sym (ap (λ v. option_map pointer_of (last_of (along (entry_in o) v))) empty)
      by (none empty) (Some p) gives =
          absurd (let no : index p ∷ left_over o after ≡ [] =
          sym gives.left ∙ is ∙ ap reverse empty in cc)
      by (some_last ys y there) None over =
          absurd (let no : y ∷ reverse ys ≡ [] =
          sym (reverse-append ys (y ∷ [])) ∙ ap reverse (sym there) ∙ sym is ∙ over.left in cc)
      by (some_last ys y there) (Some p) gives =
          let both : y ∷ reverse ys ≡ index p ∷ left_over o after =
          sym (reverse-append ys (y ∷ [])) ∙ ap reverse (sym there) ∙ sym is ∙ gives.left in
          let same : index p ≡ y = cc in
          let at = live_at o (index p) (generation p) gives.live in
          let own : Entry = (index p, (generation p, at.pair)) in
          let list : along (entry_in o) w ≡ along (entry_in o) ys ++ own ∷ [] =
          ap (along (entry_in o)) there
          ∙ ap (λ j. along (entry_in o) (ys ++ j ∷ [])) (sym same)
          ∙ along_split (entry_in o) ys [] (index p) (generation p, at.pair) at.is in
          sym (ap (λ l. option_map pointer_of (last_of l)) list
          ∙ ap (option_map pointer_of) (last_behind (along (entry_in o) ys) own))

  pub beside_is : (i g : ℕ) (t : Pair) → entry_in o i ≡ Some (g, t) → (back : Bool)
      → (start then end : OrderedWalk) (passed given : Option P)
      → IsFrom (order_in o) i back (left_over o start)
      → OrderedSteps o start
      (option_map {U = ℕ × ℕ} (λ p. (index p, generation p)) passed) then
      → OrderedSteps o then
      (option_map {U = ℕ × ℕ} (λ p. (index p, generation p)) given) end
      → option_map {U = ℕ × ℕ} (λ p. (index p, generation p)) given
      ≡ option_map pointer_of (beside_in back (listed o) t.k)
  beside_is i g t is back start then end passed given from one two =
      by back (stepped start then passed i _ one from.left_is)
    where
      list : listed o ≡ along (entry_in o) from.before
          ++ (i, (g, t)) ∷ along (entry_in o) from.after
      list = ap (along (entry_in o)) from.is
          ∙ along_split (entry_in o) from.before from.after i (g, t) is

      by : (b : Bool)
          → left_over o then
          ≡ (Rattle.std.specs.Prelude.if◌then◌else◌ b (reverse from.before) from.after)
          → option_map {U = ℕ × ℕ} (λ p. (index p, generation p)) given
          ≡ option_map pointer_of (beside_in b (listed o) t.k)
      by true left =
          last_along then end given from.before two left
          ∙ sym (ap (λ l. option_map pointer_of (last_of l))
          (ap (λ l. below_key l t.k) list
          ∙ below_at (along (entry_in o) from.before) (along (entry_in o) from.after) (i, (g, t))
          (subst KeysRise list map.rise)))
      by false left =
          first_along then end given from.after two left
          ∙ sym (ap (λ l. option_map pointer_of (first_of l))
          (ap (λ l. past_key l t.k) list
          ∙ past_at (along (entry_in o) from.before) (along (entry_in o) from.after) (i, (g, t))
          (subst KeysRise list map.rise)))

  -- ---- what is left to a walk

  pub all_left : (p : P) → Some (index p) ≡ first_or (order_in o) None
      → (r : Option OrderedWalk) → IfSome r (λ a. a ≡ walk_at (index p) false)
      → IfSome r (λ w. entries_left o w ≡ listed o)
  all_left p at None from = tt
  all_left p at (Some a) from = by (order_in o) refl at
    where
      by : (w : List ℕ) → order_in o ≡ w → Some (index p) ≡ first_or w None
          → entries_left o a ≡ listed o
      by [] is here = absurd (cc)
      by (i ∷ w) is here =
          let same : i ≡ index p = cc in
          let whole : from_index (i ∷ w) (index p) ≡ i ∷ w =
          rw (eq-eqb i (index p) same) refl in
          ap (entries_left o) from
          ∙ ap (λ v. along (entry_in o) (from_index v (index p))) is
          ∙ ap (along (entry_in o)) whole ∙ sym (ap (along (entry_in o)) is)

  pub rest_left : (i g : ℕ) (t : Pair) → entry_in o i ≡ Some (g, t) → (r : Option OrderedWalk)
      → IfSome r (λ a. IsFrom (order_in o) i false
      (left_over o a))
      → IfSome r (λ w. entries_left o w ≡ from_key (listed o) t.k)
  rest_left i g t is None from = tt
  rest_left i g t is (Some a) from =
      let low = along (entry_in o) from.before in
      let high = along (entry_in o) from.after in
      let list : listed o ≡ low ++ (i, (g, t)) ∷ high =
      ap (along (entry_in o)) from.is
      ∙ along_split (entry_in o) from.before from.after i (g, t) is in
      ap (along (entry_in o)) from.left_is ∙ along_some (entry_in o) i from.after (g, t) is
      ∙ sym (ap (λ l. from_key l t.k) list
      ∙ from_at low high (i, (g, t)) (subst KeysRise list map.rise))

  pub rest_is : (i g : ℕ) (t : Pair) → 0 < i → entry_in o i ≡ Some (g, t)
      → rest_in o i g ≡ from_key (listed o) t.k
  rest_is i g t up is =
      rw (ne_eqb i 0 (λ same. omega (arith, same, up)), is, eq-eqb g g refl) refl

  -- ---- an entry that is found by its key

  -- an entry that is found in a list stands there
  has_stood : (l : List Entry) (e : Entry) → with_key l key ≡ Some e
      → (low : List Entry) × (high : List Entry) × (l ≡ low ++ e ∷ high) × (key_of e ≡ key)
  has_stood [] e is = absurd (cc)
  has_stood (x ∷ l) e is = elim (eqb_tells (key_of x) key) [
    | inl same ↦
        let both : Some x ≡ Some e = sym (at same.0) ∙ is in
        let own : x ≡ e = cc in
        ([], l, ap (λ z. z ∷ l) own, ap key_of (sym own) ∙ same.1)
    | inr other ↦
        let rest = has_stood l e (sym (behind other.0) ∙ is) in
        (x ∷ rest.0, rest.1, ap (λ z. x ∷ z) rest.2, rest.3)
  ]
    where
      at : (key_of x == key) ≡ true → with_key (x ∷ l) key ≡ Some x
      at same = rw same refl

      behind : (key_of x == key) ≡ false → with_key (x ∷ l) key ≡ with_key l key
      behind other = rw other refl

  pub stands_under : (i g : ℕ) → Some (i, g) ≡ option_map pointer_of (with_key (listed o) key)
      → StandsUnder o key i g
  stands_under i g is = by (with_key (listed o) key) refl is
    where
      by : (e : Option Entry) → with_key (listed o) key ≡ e
          → Some (i, g) ≡ option_map pointer_of e → StandsUnder o key i g
      by None there never = absurd (cc)
      by (Some e) there same =
          let both = some_same (i, g) (pointer_of e) same in
          let index : e.0 ≡ i = sym (ap (λ (p : ℕ × ℕ). p.0) both) in
          let generation' : e.1.0 ≡ g = sym (ap (λ (p : ℕ × ℕ). p.1) both) in
          let stood = has_stood (listed o) e there in
          let own : e.1.1 ≡ pair key e.1.1.v = pair_is e.1.1 key e.1.1.v stood.3 refl in
          let whole : e ≡ entry i g key e.1.1.v =
          ap (λ n. (let z : Entry = (n, (e.1.0, e.1.1)) in z)) index
          ∙ ap (λ n. (let z : Entry = (i, (n, e.1.1)) in z)) generation'
          ∙ ap (λ t. (let z : Entry = (i, (g, t)) in z)) own in
          record {
            value = e.1.1.v;
            in_list = there ∙ ap Some whole;
            in_arena = subst (λ (z : Entry). entry_in o z.0 ≡ Some z.1) whole
                (along_stands (entry_in o) (order_in o) stood.0 stood.1 e
                stood.2);
          }
