-- What `join`, `cut` and `swap` answer, and what they make of what ties a store's parts.
use Rattle.std.proofs.Common.{◌≡◌, ◌≢◌, ◌↔◌, ◌∙◌, sym, ap, subst, refl, Bool, true, false, ◌||◌}
use Rattle.std.proofs.Common.{◌==◌, ℕ, List, [], ◌∷◌, ◌++◌, length, Option, Some, None, IsSome}
use Rattle.std.proofs.Common.{true≢false, Result, Ok, Err, find, cond}
use Rattle.std.specs.List.{list_any}
use Rattle.std.specs.Option.{option_map, option_or, option_and_then}
use Rattle.std.proofs.lemmas.List.Folds.{find-append}
use Rattle.triple_arena.specs.Entries.{value_if}
use Rattle.triple_arena.specs.Content.{Content, arena_capacity}
use Rattle.triple_arena_stack.specs.Room.{capacity}
use Rattle.triple_arena_chain.specs.LinkShape.{IndexLink}
use Rattle.linked_lists.specs.LinkedLists.{Ends, IsAgreed, next_in, prev_in, next_at, prev_at}
use Rattle.linked_lists.specs.LinkedLists.{linked, unlinked, exchanged}
use Rattle.triple_arena_chain.specs.Kinds.{at_bridge}
use Rattle.linked_lists.specs.ChainLaws.{live_next_in, live_prev_in}
use Rattle.triple_arena_chain.specs.Links.{ends_in, ends_found, values_in, IsKept, IsRelinked}
use Rattle.triple_arena_ord.specs.Ordered.{Ordered}
use Rattle.ticket_book.specs.Tickets.{Entry}
use Rattle.route_lines.specs.Calls.{stop_holder, joined, after_join, parted, after_cut, swapped}
use Rattle.route_lines.specs.Calls.{after_swap, unless_refused}
use Rattle.route_lines.specs.Routes.{has_ticket, has_stop, next_in as next_on, route_of, next_stop}
use Rattle.route_lines.specs.Routes.{previous_stop}
use Rattle.route_lines.specs.Routes as routes_of
use Rattle.route_lines.specs.State.{State, Rooms, Place, Stop, Route, stop_list, stop_of}
use Rattle.route_lines.specs.declared.refusal.Refusal.{Refusal}
use Rattle.route_lines.specs.declared.refusal.Refusal.TheVariants.{No}
use Rattle.route_book.specs.Follows.{ticket_at}
use Rattle.route_book.specs.Item.{StopView, MarkView}
use Rattle.route_book.specs.Holds.{state_stop}
use Rattle.route_book.specs.Book.{Book, found_in, found_of, in_order, IsBook, KeepsItems}
use Rattle.route_book.proofs.FollowLemmas.{lead_joined, lead_parted, lead_exchanged}
use Rattle.route_book.proofs.LinkLemmas.{IsAt, is_at, live_values, distinct, stop_index}
use Rattle.route_book.proofs.LinkLemmas.{held_ticket, relinked_kept, kept_links}
use Rattle.route_book.proofs.PlaceLemmas.{kept_same}
use Rattle.route_book.proofs.StopWalkLemmas.{leads_back}
use Rattle.route_book.proofs.OptionLemmas.{found_has}

-- ---- a ticket that leads on names a stop

any_found : (t : ℕ) (xs : List Stop) → list_any (has_ticket t) xs ≡ true
    → (x : Stop) × (find (has_ticket t) xs ≡ Some x)
any_found t [] any = absurd (true≢false (sym any))
any_found t (x ∷ xs) any = at (x.ticket == t) any (any_found t xs)
  where
    at : (b : Bool) → (b || list_any (has_ticket t) xs) ≡ true
        → (list_any (has_ticket t) xs ≡ true → (y : Stop) × (find (has_ticket t) xs ≡ Some y))
        → (y : Stop) × (cond b (Some x) (find (has_ticket t) xs) ≡ Some y)
    at true e later = (x, refl)
    at false e later = later e

found_first : (t : ℕ) (xs ys : List Stop) (o p : Option Stop) → find (has_ticket t) xs ≡ o
    → find (has_ticket t) ys ≡ p → find (has_ticket t) (xs ++ ys) ≡ option_or o p
found_first t xs ys o p e f = find-append (has_ticket t) xs ys
    ∙ ap (λ q. option_or q (find (has_ticket t) ys)) e ∙ ap (option_or o) f

pub next_known : (routes : List Route) (t u : ℕ) → next_stop routes t ≡ Some u
    → (x : Stop) × (stop_of routes t ≡ Some x)
next_known [] t u e = absurd (let never : ◌≡◌ {A = Option ℕ} None (Some u) = e in cc)
next_known (r ∷ routes) t u e = at (has_stop t r) refl e (next_known routes t u)
  where
    at : (b : Bool) → has_stop t r ≡ b
        → option_and_then (next_on t) (cond b (Some r) (route_of routes t)) ≡ Some u
        → (next_stop routes t ≡ Some u → (x : Stop) × (stop_of routes t ≡ Some x))
        → (x : Stop) × (stop_of (r ∷ routes) t ≡ Some x)
    at true some is later = let x = any_found t r.stops some in
        (x.0, found_first t r.stops (stop_list routes) (Some x.0) (stop_of routes t) x.1 refl)
    at false none is later = let x = later is in either (find (has_ticket t) r.stops) refl x.0 x.1
      where
        either : (o : Option Stop) → find (has_ticket t) r.stops ≡ o → (x : Stop)
            → stop_of routes t ≡ Some x → (y : Stop) × (stop_of (r ∷ routes) t ≡ Some y)
        either None e x f = (x, found_first t r.stops (stop_list routes) None (Some x) e f)
        either (Some y) e x f = (y, found_first t r.stops (stop_list routes) (Some y) (Some x) e f)

-- a call that changes routes alone, or nothing
only_routes : (s : State) (r : Result Unit Refusal) (routes : List Route)
    → unless_refused s r (λ ok. record s { routes = routes })
    ≡ record s { routes = (unless_refused s r (λ ok. record s { routes = routes })).routes }
only_routes s (Ok x) routes = refl
only_routes s (Err e) routes = refl

some_of : {X : Type 0} (o : Option X) → IsSome o → (x : X) × (o ≡ Some x)
some_of None some = absurd (true≢false (sym some))
some_of (Some x) some = (x, refl)

none_of : {X : Type 0} (o : Option X) → (IsSome o → ⊥) → o ≡ None
none_of None none = refl
none_of (Some x) none = absurd (none refl)

-- a mirror still has the arena's room where that stays
pub roomy : {T : Type 0} (c c' : Content T) (m : ℕ) → c'.room ≡ c.room → arena_capacity c ≡ m
    → arena_capacity c' ≡ m
roomy c c' m same fits = subst (λ r. capacity r ≡ m) (sym same) fits

pub still_mirrored : {T : Type 0} (c c' : Content (IndexLink T)) (n : ℕ) → IsKept c c'
    → arena_capacity c ≡ n → arena_capacity c' ≡ n
still_mirrored c c' n kept fits = subst (λ r. capacity r ≡ n) (sym kept.room) fits

-- ---- a stop that a ticket names

module _ (rooms : Rooms) (last : ℕ) (s : State)
    (places : Ordered Place) (stops : Content (IndexLink StopView)) (marks : Content MarkView)
    (book : List Entry) (b : IsBook rooms last s places stops marks book) where
  -- a ticket, the stop that has it, and where it stands
  pub record IsNamed (t i g : ℕ) (v : StopView) : Type 0 where
    pub found : value_if g (values_in stops i) ≡ Some v
    pub held : stop_holder s t ≡ Ok (state_stop (found_in places stops marks) v)

  abbrev τ : StopView → ℕ
  τ x = x.ticket

  module _ (agreed : IsAgreed (ends_in stops)) (t i g : ℕ) (v : StopView)
      (named : IsNamed t i g v) where
    at : IsAt stops i g v
    at = is_at stops i g v named.found

    ticket : v.ticket ≡ t
    ticket = held_ticket s t _ named.held

    next_is : next_stop s.routes t
        ≡ ticket_at τ (values_in stops) (next_at (ends_in stops) i)
    next_is = ap (next_stop s.routes) (sym ticket) ∙ b.held.routes i g v at.here

    next_same : next_in (ends_found stops i g) ≡ next_at (ends_in stops) i
    next_same = ap next_in at.ends

    prev_same : prev_in (ends_found stops i g) ≡ prev_at (ends_in stops) i
    prev_same = ap prev_in at.ends

    next_none : next_in (ends_found stops i g) ≡ None → next_stop s.routes t ≡ None
    next_none none = next_is ∙ ap (ticket_at τ (values_in stops)) (sym next_same ∙ none)

    -- the index that is next is live
    next_some : (n : ℕ) → next_in (ends_found stops i g) ≡ Some n
        → (u : ℕ) × (next_stop s.routes t ≡ Some u)
    next_some n some =
        let is : next_at (ends_in stops) i ≡ Some n = sym next_same ∙ some in
        let e = some_of (values_in stops n)
        (live_values stops n
        (live_prev_in (ends_in stops n) i (agreed.forward i n is))) in (
          e.0.1.ticket,
          next_is ∙ ap (ticket_at τ (values_in stops)) is ∙ ap (option_map (λ x. τ x.1)) e.1,
        )

    module _ (both : (u w : ℕ)
        → (next_stop s.routes u ≡ Some w) ↔ (previous_stop s.routes w ≡ Some u)) where
      previous_is : previous_stop s.routes t
          ≡ ticket_at τ (values_in stops) (prev_at (ends_in stops) i)
      previous_is =
          ap (previous_stop s.routes) (sym ticket)
          ∙ leads_back τ (values_in stops) (ends_in stops) (next_stop s.routes)
          (previous_stop s.routes) b.held.routes agreed
          (distinct s (found_in places stops marks) (in_order places) (ends_in stops)
          book b.held) (live_values stops) both known i g v at.here
        where
          known : (u w : ℕ) → next_stop s.routes u ≡ Some w
              → (j : ℕ) × ((e : ℕ × StopView) × ((values_in stops j ≡ Some e) × (e.1.ticket ≡ u)))
          known u w leads =
              let x = next_known s.routes u w leads in
              let at = stop_index s (found_in places stops marks) (in_order places)
              (ends_in stops) book b.held u x.0 x.1 in (
                at.0,
                (
                  at.1.0,
                  (
                    at.1.1.0,
                    at.1.1.1 ∙ found_has (λ (x : Stop). x.ticket) u (stop_list s.routes) x.0 x.1,
                  ),
                ),
              )

      previous_none : prev_in (ends_found stops i g) ≡ None → previous_stop s.routes t ≡ None
      previous_none none = previous_is ∙ ap (ticket_at τ (values_in stops)) (sym prev_same ∙ none)

      previous_some : (n : ℕ) → prev_in (ends_found stops i g) ≡ Some n
          → (u : ℕ) × (previous_stop s.routes t ≡ Some u)
      previous_some n some =
          let is : prev_at (ends_in stops) i ≡ Some n = sym prev_same ∙ some in
          let e = some_of (values_in stops n)
          (live_values stops n
          (live_next_in (ends_in stops n) i (agreed.backward n i is))) in (
            e.0.1.ticket,
            previous_is ∙ ap (ticket_at τ (values_in stops)) is ∙ ap (option_map (λ x. τ x.1)) e.1,
          )

  -- ---- cut

  module _ (agreed : IsAgreed (ends_in stops)) (t i g : ℕ) (v : StopView)
      (named : IsNamed t i g v) where
    pub parted_ok : IsSome (next_in (ends_found stops i g)) → parted s t ≡ Ok tt
    parted_ok some =
        let n = some_of (next_in (ends_found stops i g)) some in
        let u = next_some agreed t i g v named n.0 n.1 in
        let h = named.held in let e = u.1 in
        rw (h, e) refl

    pub parted_no : (IsSome (next_in (ends_found stops i g)) → ⊥)
        → (parted s t ≡ Err No) × (after_cut s t ≡ s)
    parted_no none =
        let e = next_none agreed t i g v named
        (none_of (next_in (ends_found stops i g)) none) in
        let h = named.held in
        let no_next : parted s t ≡ Err No = rw (h, e) refl in (
          no_next,
          ap (λ r. unless_refused s r
              (λ ok. record s { routes = routes_of.unlinked t s.routes })) no_next,
        )

    pub cut_kept : (stops' : Content (IndexLink StopView))
        → IsSome (next_in (ends_found stops i g))
        → ((q : ℕ) → next_at (ends_in stops) i ≡ Some q
        → IsRelinked (unlinked (ends_in stops) i q) stops stops')
        → next_stop (after_cut s t).routes t ≡ None
        → ((k : ℕ) → k ≢ t → next_stop (after_cut s t).routes k ≡ next_stop s.routes k)
        → ((k : ℕ) → stop_of (after_cut s t).routes k ≡ stop_of s.routes k)
        → length (stop_list (after_cut s t).routes) ≡ length (stop_list s.routes)
        → IsBook rooms last (after_cut s t) places stops' marks book
    cut_kept stops' some relinked own others stay count =
        subst (λ z. IsBook rooms last z places stops' marks book)
        (sym (only_routes s (parted s t) (routes_of.unlinked t s.routes)))
        (relinked_kept rooms last s places stops stops' marks book b re.values re.kept
        (after_cut s t).routes stay count
        (lead_parted τ (values_in stops) (ends_in stops) (ends_in stops')
        (next_stop s.routes) (next_stop (after_cut s t).routes) b.held.routes
        (distinct s (found_in places stops marks) (in_order places) (ends_in stops)
        book b.held) i n.0 g v here.here
        (ap (next_stop (after_cut s t).routes) own_ticket ∙ own)
        (λ k apart. others k (λ is. apart (is ∙ sym own_ticket))) re.ends))
      where
        here : IsAt stops i g v
        here = at agreed t i g v named

        own_ticket : v.ticket ≡ t
        own_ticket = ticket agreed t i g v named

        n : (q : ℕ) × (next_in (ends_found stops i g) ≡ Some q)
        n = some_of (next_in (ends_found stops i g)) some

        re : IsRelinked (unlinked (ends_in stops) i n.0) stops stops'
        re = relinked n.0 (sym (next_same agreed t i g v named) ∙ n.1)

  -- ---- two stops

  module _ (agreed : IsAgreed (ends_in stops)) (t i g : ℕ) (v : StopView)
      (named : IsNamed t i g v) (u j h : ℕ) (w : StopView) (other : IsNamed u j h w) where
    here : IsAt stops i g v
    here = at agreed t i g v named

    there : IsAt stops j h w
    there = at agreed u j h w other

    own_ticket : v.ticket ≡ t
    own_ticket = ticket agreed t i g v named

    other_ticket : w.ticket ≡ u
    other_ticket = ticket agreed u j h w other

    pub swapped_ok : IsSome (next_in (ends_found stops i g))
        → IsSome (next_in (ends_found stops j h)) → swapped s t u ≡ Ok tt
    swapped_ok some more =
        let n = some_of (next_in (ends_found stops i g)) some in
        let m = some_of (next_in (ends_found stops j h)) more in
        let x = next_some agreed t i g v named n.0 n.1 in
        let y = next_some agreed u j h w other m.0 m.1 in
        let one = named.held in let two = other.held in let e = x.1 in let f = y.1 in
        rw (one, two, e, f) refl

    pub swapped_no : (IsSome (next_in (ends_found stops i g))
        × IsSome (next_in (ends_found stops j h)) → ⊥)
        → (swapped s t u ≡ Err No) × (after_swap s t u ≡ s)
    swapped_no none = (
      refused,
      ap
          (λ r. unless_refused s r (λ ok. record s { routes = routes_of.exchanged t u s.routes }))
          refused,
    )
      where
        by : (o : Option ℕ) → next_in (ends_found stops i g) ≡ o → (p : Option ℕ)
            → next_in (ends_found stops j h) ≡ p → swapped s t u ≡ Err No
        by None e p f = let one = named.held in let two = other.held in let k =
            next_none agreed t i g v named e in rw (one, two, k) refl
        by (Some n) e None f =
            let one = named.held in let two = other.held in let x =
            next_some agreed t i g v named n e in let k = x.1 in let m =
            next_none agreed u j h w other f in
            rw (one, two, k, m) refl
        by (Some n) e (Some m) f =
            absurd (none (subst IsSome (sym e) refl, subst IsSome (sym f) refl))

        refused : swapped s t u ≡ Err No
        refused = by (next_in (ends_found stops i g)) refl
            (next_in (ends_found stops j h)) refl

    pub swap_kept : (stops' : Content (IndexLink StopView))
        → IsSome (next_in (ends_found stops i g))
        → IsSome (next_in (ends_found stops j h))
        → ((m n : ℕ) → next_at (ends_in stops) i ≡ Some m
        → next_at (ends_in stops) j ≡ Some n
        → IsRelinked (exchanged (ends_in stops) i j m n) stops stops')
        → next_stop (after_swap s t u).routes t ≡ next_stop s.routes u
        → next_stop (after_swap s t u).routes u ≡ next_stop s.routes t
        → ((k : ℕ) → k ≢ t → k ≢ u → next_stop (after_swap s t u).routes k ≡ next_stop s.routes k)
        → ((k : ℕ) → stop_of (after_swap s t u).routes k ≡ stop_of s.routes k)
        → length (stop_list (after_swap s t u).routes) ≡ length (stop_list s.routes)
        → IsBook rooms last (after_swap s t u) places stops' marks book
    swap_kept stops' some more relinked own second others stay count =
        subst (λ z. IsBook rooms last z places stops' marks book)
        (sym (only_routes s (swapped s t u) (routes_of.exchanged t u s.routes)))
        (relinked_kept rooms last s places stops stops' marks book b re.values re.kept later
        stay count
        (lead_exchanged τ (values_in stops) (ends_in stops) (ends_in stops')
        (next_stop s.routes) (next_stop later) b.held.routes
        (distinct s (found_in places stops marks) (in_order places) (ends_in stops)
        book b.held) i j g h m.0 n.0 v w here.here there.here here.live there.live m_is n_is
        (ap (next_stop later) own_ticket ∙ own ∙ ap (next_stop s.routes) (sym other_ticket))
        (ap (next_stop later) other_ticket ∙ second ∙ ap (next_stop s.routes) (sym own_ticket))
        (λ k apart off. others k (λ is. apart (is ∙ sym own_ticket))
        (λ is. off (is ∙ sym other_ticket))) re.ends))
      where
        later : List Route
        later = (after_swap s t u).routes

        m : (q : ℕ) × (next_in (ends_found stops i g) ≡ Some q)
        m = some_of (next_in (ends_found stops i g)) some

        n : (q : ℕ) × (next_in (ends_found stops j h) ≡ Some q)
        n = some_of (next_in (ends_found stops j h)) more

        m_is : next_at (ends_in stops) i ≡ Some m.0
        m_is = sym (next_same agreed t i g v named) ∙ m.1

        n_is : next_at (ends_in stops) j ≡ Some n.0
        n_is = sym (next_same agreed u j h w other) ∙ n.1

        re : IsRelinked (exchanged (ends_in stops) i j m.0 n.0) stops stops'
        re = relinked m.0 n.0 m_is n_is

    -- ---- join

    module _ (both : (x y : ℕ)
        → (next_stop s.routes x ≡ Some y) ↔ (previous_stop s.routes y ≡ Some x)) where
      -- where there is a bridge between them
      bridged : IsSome (at_bridge i j (ends_found stops i g) (ends_found stops j h))
          → (next_in (ends_found stops i g) ≡ None)
          × (prev_in (ends_found stops j h) ≡ None)
      bridged = by (ends_found stops i g) (ends_found stops j h)
        where
          of : (a d : Option ℕ) (c e : Option ℕ)
              → IsSome (at_bridge i j (Some (c, a)) (Some (d, e))) → (a ≡ None) × (d ≡ None)
          of None None c e some = (refl, refl)
          of None (Some d) c e some = absurd (true≢false (sym some))
          of (Some a) d c e some = absurd (true≢false (sym some))

          by : (o p : Option Ends) → IsSome (at_bridge i j o p)
              → (next_in o ≡ None) × (prev_in p ≡ None)
          by None p some = absurd (true≢false (sym some))
          by (Some e) None some = absurd (true≢false (sym some))
          by (Some e) (Some f) some = of e.1 f.0 e.0 f.1 some

      not_bridged : (IsSome
          (at_bridge i j (ends_found stops i g) (ends_found stops j h)) → ⊥)
          → next_in (ends_found stops i g) ≡ None
          → prev_in (ends_found stops j h) ≡ None → ⊥
      not_bridged none = by (ends_found stops i g) refl (ends_found stops j h) refl
          none
        where
          is_there : {X : Type 0} (o : Option X) → IsSome o → o ≡ None → ⊥
          is_there o some e = true≢false (sym (subst IsSome e some))

          of : (a d : Option ℕ) (c e : Option ℕ)
              → (IsSome (at_bridge i j (Some (c, a)) (Some (d, e))) → ⊥) → a ≡ None → d ≡ None → ⊥
          of None None c e none x y = none refl
          of None (Some d) c e none x y = is_there (Some d) refl y
          of (Some a) d c e none x y = is_there (Some a) refl x

          by : (o : Option Ends) → ends_found stops i g ≡ o → (p : Option Ends)
              → ends_found stops j h ≡ p → (IsSome (at_bridge i j o p) → ⊥)
              → next_in o ≡ None → prev_in p ≡ None → ⊥
          by None e p f none x y =
              is_there (ends_in stops i) (at agreed t i g v named).live
              (sym (at agreed t i g v named).ends ∙ e)
          by (Some c) e None f none x y =
              is_there (ends_in stops j) (at agreed u j h w other).live
              (sym (at agreed u j h w other).ends ∙ f)
          by (Some c) e (Some d) f none x y = of c.1 d.0 c.0 d.1 none x y

      pub joined_ok : IsSome
          (at_bridge i j (ends_found stops i g) (ends_found stops j h))
          → joined s t u ≡ Ok tt
      joined_ok some =
          let free = bridged some in
          let one = named.held in let two = other.held in
          let e = next_none agreed t i g v named free.0 in let f =
          previous_none agreed u j h w other both free.1 in
          rw (one, two, e, f) refl

      pub joined_no : (IsSome
          (at_bridge i j (ends_found stops i g) (ends_found stops j h)) → ⊥)
          → (joined s t u ≡ Err No) × (after_join s t u ≡ s)
      joined_no none = (
        refused,
        ap
            (λ r. unless_refused s r (λ ok. record s { routes = routes_of.linked t u s.routes }))
            refused,
      )
        where
          by : (o : Option ℕ) → next_in (ends_found stops i g) ≡ o → (p : Option ℕ)
              → prev_in (ends_found stops j h) ≡ p → joined s t u ≡ Err No
          by (Some n) e p f = let one = named.held in let two = other.held in let x =
              next_some agreed t i g v named n e in let k = x.1 in rw (one, two, k) refl
          by None e (Some m) f =
              let one = named.held in let two = other.held in let k =
              next_none agreed t i g v named e in let y =
              previous_some agreed u j h w other both m f in let l = y.1 in
              rw (one, two, k, l) refl
          by None e None f = absurd (not_bridged none e f)

          refused : joined s t u ≡ Err No
          refused = by (next_in (ends_found stops i g)) refl
              (prev_in (ends_found stops j h)) refl

    pub join_kept : (stops' : Content (IndexLink StopView))
        → IsRelinked (linked (ends_in stops) i j) stops stops'
        → next_stop (after_join s t u).routes t ≡ Some u
        → ((k : ℕ) → k ≢ t → next_stop (after_join s t u).routes k ≡ next_stop s.routes k)
        → ((k : ℕ) → stop_of (after_join s t u).routes k ≡ stop_of s.routes k)
        → length (stop_list (after_join s t u).routes) ≡ length (stop_list s.routes)
        → IsBook rooms last (after_join s t u) places stops' marks book
    join_kept stops' re own others stay count =
        subst (λ z. IsBook rooms last z places stops' marks book)
        (sym (only_routes s (joined s t u) (routes_of.linked t u s.routes)))
        (relinked_kept rooms last s places stops stops' marks book b re.values re.kept later
        stay count
        (lead_joined τ (values_in stops) (ends_in stops) (ends_in stops')
        (next_stop s.routes) (next_stop later) b.held.routes
        (distinct s (found_in places stops marks) (in_order places) (ends_in stops)
        book b.held) i j g h v w here.here there.here here.live
        (ap (next_stop later) own_ticket ∙ own ∙ ap Some (sym other_ticket))
        (λ k apart. others k (λ is. apart (is ∙ sym own_ticket))) re.ends))
      where
        later : List Route
        later = (after_join s t u).routes

  -- ---- the same of the store that the calls see

  module _ (k : Book)
      (view : record { state = s; places = places; stops = stops; marks = marks } ≡ k) where
    abbrev pub NamedIn : Book → ℕ → ℕ → ℕ → Type 0
    NamedIn x t i g = (v : StopView) × (value_if g (values_in x.stops i) ≡ Some v)
        × (stop_holder x.state t ≡ Ok (state_stop (found_of x) v))

    pub named_in : (t i g : ℕ) → NamedIn k t i g → (v : StopView) × IsNamed t i g v
    named_in t i g n = let m = subst (λ x. NamedIn x t i g) (sym view) n in
        (m.0, record { found = m.1; held = m.2 })

    -- each item keeps its pointer
    pub relinked_keeps : (s' : State) (stops' : Content (IndexLink StopView))
        (wanted : ℕ → Option Ends) → IsRelinked wanted stops stops'
        → KeepsItems k (record { state = s'; places = places; stops = stops'; marks = marks })
    relinked_keeps s' stops' wanted re =
        subst (λ x. KeepsItems x
        (record { state = s'; places = places; stops = stops'; marks = marks })) view
        (kept_links s s' places stops stops' marks re.values re.kept)

    pub refused_keeps : (stops' : Content (IndexLink StopView)) → stops' ≡ stops
        → KeepsItems k (record { state = s; places = places; stops = stops'; marks = marks })
    refused_keeps stops' same =
        subst (λ x. KeepsItems x
        (record { state = s; places = places; stops = stops'; marks = marks })) view
        (subst (λ c. KeepsItems
        (record { state = s; places = places; stops = stops; marks = marks })
        (record { state = s; places = places; stops = c; marks = marks })) (sym same) stays)
      where
        stays : KeepsItems
            (record { state = s; places = places; stops = stops; marks = marks })
            (record { state = s; places = places; stops = stops; marks = marks })
        stays = kept_same (record { state = s; places = places; stops = stops; marks = marks })

    module _ (agreed : IsAgreed (ends_in stops)) (t i g : ℕ) (from : NamedIn k t i g) where
      abbrev own_view : StopView
      own_view = (named_in t i g from).0

      own_named : IsNamed t i g own_view
      own_named = (named_in t i g from).1

      pub told_parted : IsSome (next_in (ends_found stops i g)) → Ok tt ≡ parted k.state t
      told_parted some = sym (parted_ok agreed t i g own_view own_named some)
          ∙ ap (λ (x : Book). parted x.state t) view

      pub told_whole : (IsSome (next_in (ends_found stops i g)) → ⊥)
          → (Err No ≡ parted k.state t) × (s ≡ after_cut k.state t)
      told_whole none =
          let no_next = parted_no agreed t i g own_view own_named none in (
            sym no_next.0 ∙ ap (λ (x : Book). parted x.state t) view,
            sym no_next.1 ∙ ap (λ (x : Book). after_cut x.state t) view,
          )

      -- the interlinks after a cut
      pub parted_links : (stops' : Content (IndexLink StopView))
          → IsSome (next_in (ends_found stops i g))
          → ((q : ℕ) → next_at (ends_in stops) i ≡ Some q
          → IsRelinked (unlinked (ends_in stops) i q) stops stops')
          → (q : ℕ) × IsRelinked (unlinked (ends_in stops) i q) stops stops'
      parted_links stops' some relinked = let n =
          some_of (next_in (ends_found stops i g)) some in
          (n.0, relinked n.0 (sym (next_same agreed t i g own_view own_named) ∙ n.1))

      pub cut_leaves : (z : State) (stops' : Content (IndexLink StopView)) → z ≡ after_cut s t
          → IsSome (next_in (ends_found stops i g))
          → ((q : ℕ) → next_at (ends_in stops) i ≡ Some q
          → IsRelinked (unlinked (ends_in stops) i q) stops stops')
          → (parted s t ≡ Ok tt → next_stop (after_cut s t).routes t ≡ None)
          → ((x : ℕ) → parted s t ≡ Ok tt → x ≢ t
          → next_stop (after_cut s t).routes x ≡ next_stop s.routes x)
          → ((x : ℕ) → stop_of (after_cut s t).routes x ≡ stop_of s.routes x)
          → length (stop_list (after_cut s t).routes) ≡ length (stop_list s.routes)
          → IsBook rooms last z places stops' marks book
      cut_leaves z stops' is some relinked own others stay count =
          let ok = parted_ok agreed t i g own_view own_named some in
          subst (λ x. IsBook rooms last x places stops' marks book) (sym is)
          (cut_kept agreed t i g own_view own_named stops' some relinked (own ok)
          (λ x apart. others x ok apart) stay count)

      module _ (u j h : ℕ) (by : NamedIn k u j h) where
        abbrev other_view : StopView
        other_view = (named_in u j h by).0

        other_named : IsNamed u j h other_view
        other_named = (named_in u j h by).1

        pub told_swapped : IsSome (next_in (ends_found stops i g))
            × IsSome (next_in (ends_found stops j h)) → Ok tt ≡ swapped k.state t u
        told_swapped some = sym
            (swapped_ok agreed t i g own_view own_named u j h other_view other_named some.0 some.1)
            ∙ ap (λ (x : Book). swapped x.state t u) view

        pub told_unswapped : (IsSome (next_in (ends_found stops i g))
            × IsSome (next_in (ends_found stops j h)) → ⊥)
            → (Err No ≡ swapped k.state t u) × (s ≡ after_swap k.state t u)
        told_unswapped none =
            let no_next = swapped_no agreed t i g own_view own_named u j h other_view other_named
            none in (
              sym no_next.0 ∙ ap (λ (x : Book). swapped x.state t u) view,
              sym no_next.1 ∙ ap (λ (x : Book). after_swap x.state t u) view,
            )

        -- the interlinks after a swap
        pub swapped_links : (stops' : Content (IndexLink StopView))
            → IsSome (next_in (ends_found stops i g))
            × IsSome (next_in (ends_found stops j h))
            → ((m n : ℕ) → next_at (ends_in stops) i ≡ Some m
            → next_at (ends_in stops) j ≡ Some n
            → IsRelinked (exchanged (ends_in stops) i j m n) stops stops')
            → (m : ℕ) × ((n : ℕ) × IsRelinked (exchanged (ends_in stops) i j m n)
            stops stops')
        swapped_links stops' some relinked =
            let m = some_of (next_in (ends_found stops i g)) some.0 in
            let n = some_of (next_in (ends_found stops j h)) some.1 in (
              m.0,
              (
                n.0,
                relinked m.0 n.0 (sym (next_same agreed t i g own_view own_named) ∙ m.1)
                    (sym (next_same agreed u j h other_view other_named) ∙ n.1),
              ),
            )

        pub swap_leaves : (z : State) (stops' : Content (IndexLink StopView))
            → z ≡ after_swap s t u
            → IsSome (next_in (ends_found stops i g))
            × IsSome (next_in (ends_found stops j h))
            → ((m n : ℕ) → next_at (ends_in stops) i ≡ Some m
            → next_at (ends_in stops) j ≡ Some n
            → IsRelinked (exchanged (ends_in stops) i j m n) stops stops')
            → (swapped s t u ≡ Ok tt → next_stop (after_swap s t u).routes t ≡ next_stop s.routes u)
            → (swapped s t u ≡ Ok tt
            → next_stop (after_swap s t u).routes u ≡ next_stop s.routes t)
            → ((x : ℕ) → swapped s t u ≡ Ok tt → x ≢ t → x ≢ u
            → next_stop (after_swap s t u).routes x ≡ next_stop s.routes x)
            → ((x : ℕ) → stop_of (after_swap s t u).routes x ≡ stop_of s.routes x)
            → length (stop_list (after_swap s t u).routes) ≡ length (stop_list s.routes)
            → IsBook rooms last z places stops' marks book
        swap_leaves z stops' is some relinked own second others stay count =
            let ok = swapped_ok agreed t i g own_view own_named u j h other_view other_named some.0
            some.1 in
            subst (λ x. IsBook rooms last x places stops' marks book) (sym is)
            (swap_kept agreed t i g own_view own_named u j h other_view other_named stops' some.0
            some.1 relinked (own ok) (second ok) (λ x apart off. others x ok apart off) stay
            count)

        module _ (both : (x y : ℕ)
            → (next_stop s.routes x ≡ Some y) ↔ (previous_stop s.routes y ≡ Some x)) where
          pub told_joined : IsSome
              (at_bridge i j (ends_found stops i g) (ends_found stops j h))
              → Ok tt ≡ joined k.state t u
          told_joined some = sym
              (joined_ok agreed t i g own_view own_named u j h other_view other_named both some)
              ∙ ap (λ (x : Book). joined x.state t u) view

          pub told_apart : (IsSome
              (at_bridge i j (ends_found stops i g) (ends_found stops j h)) → ⊥)
              → (Err No ≡ joined k.state t u) × (s ≡ after_join k.state t u)
          told_apart none =
              let refused = joined_no agreed t i g own_view own_named u j h other_view other_named
              both none in (
                sym refused.0 ∙ ap (λ (x : Book). joined x.state t u) view,
                sym refused.1 ∙ ap (λ (x : Book). after_join x.state t u) view,
              )

          pub join_leaves : (z : State) (stops' : Content (IndexLink StopView))
              → z ≡ after_join s t u
              → IsSome (at_bridge i j (ends_found stops i g) (ends_found stops j h))
              → IsRelinked (linked (ends_in stops) i j) stops stops'
              → (joined s t u ≡ Ok tt → next_stop (after_join s t u).routes t ≡ Some u)
              → ((x : ℕ) → joined s t u ≡ Ok tt → x ≢ t
              → next_stop (after_join s t u).routes x ≡ next_stop s.routes x)
              → ((x : ℕ) → stop_of (after_join s t u).routes x ≡ stop_of s.routes x)
              → length (stop_list (after_join s t u).routes) ≡ length (stop_list s.routes)
              → IsBook rooms last z places stops' marks book
          join_leaves z stops' is some re own others stay count =
              let ok = joined_ok agreed t i g own_view own_named u j h other_view other_named both
              some in
              subst (λ x. IsBook rooms last x places stops' marks book) (sym is)
              (join_kept agreed t i g own_view own_named u j h other_view other_named stops' re
              (own ok) (λ x apart. others x ok apart) stay count)
