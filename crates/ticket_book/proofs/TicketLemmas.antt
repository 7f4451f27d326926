-- Tickets that rise, and the entries along the list of an arena.
use Rattle.std.proofs.Common.{◌≡◌, ◌≢◌, ◌∙◌, sym, ap, subst, refl, ℕ, zero, suc}
use Rattle.std.proofs.Common.{◌+◌, ◌<◌, List, [], ◌∷◌, ◌++◌, map, Option, Some, None, IsSome}
use Rattle.std.proofs.Common.{option_map, arith, append_assoc}
use Rattle.std.specs.List.{AllByRecursion}
use Rattle.std.specs.List.Sorted.{IsSorted}
use Rattle.std.specs.Cmp.{ranked, nat_cmp_is}
use Rattle.std.specs.Ordering.{nat_cmp, is_lt}
use Rattle.std.specs.declared.cmp.Ordering.TheVariants.{Equal, Greater}
use Rattle.std.proofs.lemmas.Bool.{eq-eqb, ne_eqb}
use Rattle.rank_tree.specs.declared.side.Side.TheVariants.{Right}
use Rattle.triple_arena.specs.Content.{entry_at}
use Rattle.linked_lists.specs.LinkedLists.{Ends, IsSegment, On, first_or, last_or, next_in}
use Rattle.triple_arena_chain.specs.Links.{ends_in}
use Rattle.triple_arena_chain.specs.LinkShape.{IndexLink}
use Rattle.triple_arena_ord.specs.NodeShape.{IndexNode}
use Rattle.triple_arena_ord.specs.Found.{Answers}
use Rattle.triple_arena_ord.specs.Inserted.{IsAdded, StandsAt}
use Rattle.triple_arena_ord.specs.Ordered.{Ordered, IsOrdered, StandsBeside, entry_in, order_in}
use Rattle.triple_arena_ord.specs.Ordered.{asked_of, asked_at}
use Rattle.ticket_book.specs.AlongLaws.{along, along-append, along_none, along_some, along_with}
use Rattle.ticket_book.specs.InArena.{entries_of}
use Rattle.ticket_book.specs.Tickets.{Entry, TicketsRise, lookup}

pub some_same : {X : Type 0} (x y : X) → Some x ≡ Some y → x ≡ y
some_same x y e = cc

-- ---- a list of entries

-- an entry is found under its ticket
lookup_at : (front back : List Entry) (e : Entry) → TicketsRise (front ++ e ∷ back)
    → lookup (front ++ e ∷ back) e.ticket ≡ Some e
lookup_at [] back e rise = rw (eq-eqb e.ticket e.ticket refl) refl
lookup_at (a ∷ front) back e rise =
    let less = below front rise.0 in
    rw (ne_eqb a.ticket e.ticket (λ same. omega (arith, same, less)))
    (lookup_at front back e rise.1)
  where
    below : (xs : List Entry) → AllByRecursion (λ (f : Entry). a.ticket < f.ticket) (xs ++ e ∷ back)
        → a.ticket < e.ticket
    below [] all = all.0
    below (x ∷ xs) all = below xs all.1

-- a ticket above all others goes behind them
pub TicketsRise-added : (entries : List Entry) (e : Entry) → TicketsRise entries
    → AllByRecursion (λ (f : Entry). f.ticket < e.ticket) entries → TicketsRise (entries ++ e ∷ [])
TicketsRise-added [] e rise above = (tt, tt)
TicketsRise-added (a ∷ entries) e rise above =
    (joined entries rise.0, TicketsRise-added entries e rise.1 above.1)
  where
    joined : (xs : List Entry) → AllByRecursion (λ (f : Entry). a.ticket < f.ticket) xs
        → AllByRecursion (λ (f : Entry). a.ticket < f.ticket) (xs ++ e ∷ [])
    joined [] all = (above.0, tt)
    joined (x ∷ xs) all = (all.0, joined xs all.1)

-- tickets that rise ascend
pub ascending : (l : List (ℕ × (ℕ × Entry))) → TicketsRise (map (λ x. x.1.1) l)
    → IsSorted (λ (x y : ℕ × (ℕ × Entry)). nat_cmp x.1.1.ticket y.1.1.ticket) l
ascending [] rise k d low high = absurd (omega (arith, high))
ascending (x ∷ []) rise k d low high = absurd (omega (arith, high))
ascending (x ∷ y ∷ l) rise zero d low high =
    ap is_lt (sym (nat_cmp_is y.1.1.ticket x.1.1.ticket Greater rise.0.0))
ascending (x ∷ y ∷ l) rise (suc k) d low high =
    let next : suc k + 1 ≡ suc (k + 1) = omega arith in
    rw next (ascending (y ∷ l) rise.1 k d (omega arith) (omega (arith, high)))

-- ---- the entries along a list of indexes

-- no entry compares as equal: none is found
none_along : (at : ℕ → Option (ℕ × Entry)) (t : ℕ)
    → ((i : ℕ) → IsSome (at i) → asked_of nat_cmp (λ (e : Entry). e.ticket) t (at i) ≢ Equal)
    → (w : List ℕ) → lookup (along at w) t ≡ None
none_along at t other [] = refl
none_along at t other (i ∷ w) = by (at i) refl (other i) (none_along at t other w)
  where
    by : (o : Option (ℕ × Entry)) → at i ≡ o
        → (IsSome (at i) → asked_of nat_cmp (λ (e : Entry). e.ticket) t (at i) ≢ Equal)
        → lookup (along at w) t ≡ None → lookup (along at (i ∷ w)) t ≡ None
    by None is differs rest = ap (λ l. lookup l t) (along_none at i w is) ∙ rest
    by (Some e) is differs rest =
        let apart : e.1.ticket ≢ t =
        λ same. differs (rw is refl) (rw is (sym (nat_cmp_is t e.1.ticket Equal (sym same)))) in
        ap (λ l. lookup l t) (along_some at i w e is) ∙ rw (ne_eqb e.1.ticket t apart) rest

-- ---- the list of an arena

module _ (ends : ℕ → Option Ends) where
  stands_at : (b : Option ℕ) (xs : List ℕ) (h : ℕ) (after : List ℕ)
      → IsSegment ends b (xs ++ h ∷ after) None
      → (prev : Option ℕ) × (ends h ≡ Some (prev, first_or after None))
  stands_at b [] h after stands = (b, stands.0)
  stands_at b (x ∷ xs) h after stands = stands_at (Some x) xs h after stands.1

  last_stands : (b : Option ℕ) (x : ℕ) (xs : List ℕ) (h : ℕ) → IsSegment ends b (x ∷ xs) None
      → last_or (Some x) xs ≡ Some h → (prev : Option ℕ) × (ends h ≡ Some (prev, None))
  last_stands b x [] h stands is =
      (b, subst (λ k. ends k ≡ Some (b, None)) (some_same x h is) stands.0)
  last_stands b x (y ∷ xs) h stands is = last_stands (Some x) y xs h stands.1 is

  no_first : (after : List ℕ) → first_or after None ≡ None → after ≡ []
  no_first [] none = refl
  no_first (a ∷ after) none = absurd (let no : Some a ≡ None = none in cc)

  -- nothing follows the last of a list
  none_behind : (xs : List ℕ) (h : ℕ) (after : List ℕ) → IsSegment ends None (xs ++ h ∷ after) None
      → last_or None (xs ++ h ∷ after) ≡ Some h → after ≡ []
  none_behind xs h after stands last =
      let one = stands_at None xs h after stands in
      let other = ended xs stands last in
      no_first after (ap next_in (sym one.1 ∙ other.1))
    where
      ended : (xs : List ℕ) → IsSegment ends None (xs ++ h ∷ after) None
          → last_or None (xs ++ h ∷ after) ≡ Some h
          → (prev : Option ℕ) × (ends h ≡ Some (prev, None))
      ended [] stands last = last_stands None h after h stands last
      ended (x ∷ xs) stands last = last_stands None x (xs ++ h ∷ after) h stands last

-- each live index of an ordered arena is in its list
abbrev pub AllStand : Type 0
AllStand = (o : Ordered Entry) (i : ℕ) → IsOrdered o
    → IsSome (entry_in o i) → On (order_in o) i

-- each index of the list is live
live_along : (o : Ordered Entry) (b : Option ℕ) (w : List ℕ)
    → IsSegment (ends_in o.chains) b w None → AllByRecursion (λ j. IsSome (entry_in o j)) w
live_along o b [] stands = tt
live_along o b (j ∷ w) stands =
    (live (entry_at o.chains j) refl stands.0, live_along o (Some j) w stands.1)
  where
    live : (c : Option (ℕ × IndexLink (IndexNode Entry))) → entry_at o.chains j ≡ c
        → ends_in o.chains j ≡ Some (b, first_or w None) → IsSome (entry_in o j)
    live None is ends = absurd
        (let no : ◌≡◌ {A = Option Ends} None (Some (b, first_or w None)) = sym (rw is refl)
        ∙ ends in cc)
    live (Some c) is ends = rw is refl

-- an entry of the arena is found under its ticket
pub lookup_standing : AllStand → (o : Ordered Entry) (i : ℕ) (e : ℕ × Entry)
    → IsOrdered o → TicketsRise (entries_of o) → entry_in o i ≡ Some e
    → lookup (entries_of o) e.1.ticket ≡ Some e.1
lookup_standing law o i e ordered rise is =
    let at = entry_in o in
    let there = law o i ordered (rw is refl) in
    let split : entries_of o ≡ along at there.front ++ e.1 ∷ along at there.back =
    ap (along at) there.is ∙ along-append at there.front (i ∷ there.back)
    ∙ ap (λ l. along at there.front ++ l) (along_some at i there.back e is) in
    ap (λ l. lookup l e.1.ticket) split
    ∙ lookup_at (along at there.front) (along at there.back) e.1 (subst TicketsRise split rise)

-- a search that found an entry
pub lookup_found : AllStand → {P : Type 0} (index generation : P → ℕ)
    (o : Ordered Entry) (t : ℕ) (p : P)
    → IsOrdered o → TicketsRise (entries_of o)
    → Answers index generation (asked_at nat_cmp (λ (e : Entry). e.ticket) t o) o p Equal
    → (e : Entry) × ((option_map (λ (x : ℕ × Entry). x.1) (entry_in o (index p)) ≡ Some e)
    × (lookup (entries_of o) t ≡ Some e))
lookup_found law index generation o t p ordered rise answers =
    by (entry_in o (index p)) refl answers.live answers.way
  where
    at : ℕ → Option (ℕ × Entry)
    at = entry_in o

    by : (x : Option (ℕ × Entry)) → at (index p) ≡ x
        → option_map (λ (e : ℕ × Entry). e.0) (at (index p)) ≡ Some (generation p)
        → asked_of nat_cmp (λ (e : Entry). e.ticket) t (at (index p)) ≡ Equal
        → (e : Entry) × ((option_map (λ (x : ℕ × Entry). x.1) (at (index p)) ≡ Some e)
        × (lookup (entries_of o) t ≡ Some e))
    by None is live way =
        absurd (let no : ◌≡◌ {A = Option ℕ} None (Some (generation p)) = sym (rw is refl)
        ∙ live in cc)
    by (Some e) is live way =
        let way_there : nat_cmp t e.1.ticket ≡ Equal = sym (rw is refl) ∙ way in
        let same : t ≡ e.1.ticket = ranked t e.1.ticket Equal (sym way_there) in (
          e.1,
          (
            ap (option_map (λ (x : ℕ × Entry). x.1)) is,
            ap (lookup (entries_of o)) same
                ∙ lookup_standing law o (index p) e ordered rise is,
          ),
        )

-- a search that found none
pub lookup_missing : (o : Ordered Entry) (t : ℕ)
    → ((i : ℕ) → IsSome (entry_in o i) → asked_at nat_cmp (λ (e : Entry). e.ticket) t o i ≢ Equal)
    → None ≡ lookup (entries_of o) t
lookup_missing o t other = sym (none_along (entry_in o) t other (order_in o))

module _ (old new : Ordered Entry) (i g : ℕ) (e : Entry) (ordered : IsOrdered old)
    (added : IsAdded i g e old new) where
  added_last : order_in new ≡ order_in old ++ i ∷ []
      → entries_of new ≡ entries_of old ++ e ∷ []
  added_last order =
      let here : entry_in new i ≡ Some (g, e) = added.entries i ∙ rw (eq-eqb i i refl) refl in
      ap (along (entry_in new)) order
      ∙ along-append (entry_in new) (order_in old) (i ∷ [])
      ∙ ap (λ l. l ++ along (entry_in new) (i ∷ []))
      (along_with (entry_in old) (entry_in new) i (g, e) added.vacant added.entries
      (order_in old)
      (live_along old None (order_in old) ordered.linear))
      ∙ ap (λ l. entries_of old ++ l) (along_some (entry_in new) i [] (g, e) here)

  -- an entry behind the last one
  pub added_behind : (h : ℕ)
      → StandsAt (Some (h, Greater)) (order_in old) (order_in new) i
      → last_or None (order_in old) ≡ Some h
      → entries_of new ≡ entries_of old ++ e ∷ []
  added_behind h stands last = added_last (behind stands)
    where
      behind : StandsBeside Right (order_in old) (order_in new) h i
          → order_in new ≡ order_in old ++ i ∷ []
      behind beside =
          let none : beside.after ≡ [] =
          none_behind (ends_in old.chains) beside.before h beside.after
          (subst (λ w. IsSegment (ends_in old.chains) None w None) beside.was ordered.linear)
          (ap (last_or None) (sym beside.was) ∙ last) in
          beside.is ∙ ap (λ after. beside.before ++ h ∷ i ∷ after) none
          ∙ sym (append_assoc beside.before (h ∷ []) (i ∷ []))
          ∙ ap (λ w. w ++ i ∷ [])
          (sym (beside.was ∙ ap (λ after. beside.before ++ h ∷ after) none))

  -- an entry in an empty arena
  pub added_first : StandsAt None (order_in old) (order_in new) i
      → entries_of new ≡ entries_of old ++ e ∷ []
  added_first stands = added_last (stands.1 ∙ ap (λ w. w ++ i ∷ []) (sym stands.0))
