-- A cut undoes a join, and a swap undoes itself.
use Rattle.std.proofs.Common.{◌≡◌, ◌≢◌, ◌∙◌, sym, ap, refl, Bool, true, false, ◌||◌, ◌&&◌, ◌==◌}
use Rattle.std.proofs.Common.{◌⊎◌, inl, inr, ℕ, ◌+◌, ◌≤◌, List, [], ◌∷◌, Option, Some, None, Ok}
use Rattle.std.proofs.Common.{Err, cond, find, is_some, is_none, nat_lt, arith}
use Rattle.std.specs.List.{AllByRecursion}
use Rattle.std.specs.Option.{option_map, option_or, option_and_then, ok_or}
use Rattle.std.proofs.lemmas.Bool.{eq-eqb, eqb-true, eqb-false, ne_eqb}
use Rattle.route_lines.specs.Calls.{stop_holder, allowed, unless_refused, joined, after_join}
use Rattle.route_lines.specs.Calls.{parted, after_cut, swapped, after_swap}
use Rattle.route_lines.specs.Cuts.{before, last_item}
use Rattle.route_lines.specs.Leads.{head_or}
use Rattle.route_lines.specs.Routes.{has_ticket, ticket_of, previous_in, route_of, next_stop}
use Rattle.route_lines.specs.Routes.{previous_stop, linked, unlinked, exchanged}
use Rattle.route_lines.specs.Sound.{total, count_of, AreWritten, IsSound}
use Rattle.route_lines.specs.State.{State, Stop, Route, Mark, Place, place, stop, mark, stop_list}
use Rattle.route_lines.specs.State.{place_of, stop_of, mark_of}
use Rattle.route_lines.specs.declared.refusal.Refusal.TheVariants.{Unknown, Gone}
use Rattle.route_lines.specs.CutLaws.{all_weaker, found_passes, count-any, any-count, found_if_any}
use Rattle.route_lines.specs.CutLaws.{found_counted}
use Rattle.route_lines.proofs.LinkLemmas.{Links, Links-ext, Links-next_stop, next_stop-is}
use Rattle.route_lines.proofs.LinkLemmas.{found_if_counted, relinked, all_both, all_counted}
use Rattle.route_lines.proofs.RelinkLemmas.{is_ticket, leads_to, starts_at, leads_at_most}
use Rattle.route_lines.proofs.RelinkLemmas.{none_leads_to_start, Links-linked, Links-unlinked}
use Rattle.route_lines.proofs.RouteLemmas.{AreWritten-linked, total-linked, all_linked}
use Rattle.route_lines.proofs.RouteLemmas.{AreWritten-unlinked, total-unlinked, all_unlinked}
use Rattle.route_lines.proofs.RouteLemmas.{exchanged_keeps}
use Rattle.route_lines.proofs.SameRoutesLemmas.{Fits, same_routes}
use Rattle.route_lines.specs.CallLaws.{and_then-ok, stop_holder-ok}

-- ---- the place of each stop

pub own_stop : (xs : List Stop) → ((s : ℕ) → count_of (has_ticket s) xs ≤ 1)
    → AllByRecursion (λ t. find (has_ticket t.ticket) xs ≡ Some t) xs
own_stop [] once = tt
own_stop (x ∷ xs) once = (
  rw (eq-eqb x.ticket x.ticket refl) refl,
  all_weaker _ (λ t. find (has_ticket t.ticket) (x ∷ xs) ≡ Some t) xs (λ t h. rw (apart t h.0) h.1)
      (all_both (λ t. 1 ≤ count_of (has_ticket t.ticket) xs)
      (λ t. find (has_ticket t.ticket) xs ≡ Some t) xs (all_counted xs)
      (own_stop xs (λ s. omega (arith, once s)))),
)
  where
    apart : (t : Stop) → 1 ≤ count_of (has_ticket t.ticket) xs → (x.ticket == t.ticket) ≡ false
    apart t some = at (x.ticket == t.ticket) refl
      where
        at : (b : Bool) → (x.ticket == t.ticket) ≡ b → (x.ticket == t.ticket) ≡ false
        at true e = absurd (omega (arith, some, once t.ticket, ap {B = ℕ} (λ c. cond c 1 0) e))
        at false e = e

place_in : List Route → ℕ → Option ℕ
place_in routes s = option_and_then (λ t. t.place) (stop_of routes s)

fits_own : (routes : List Route) → AreWritten routes → Fits (place_in routes) (stop_list routes)
unfolding place_in
fits_own routes written =
    all_weaker (λ t. stop_of routes t.ticket ≡ Some t) (λ t. t.place ≡ place_in routes t.ticket)
    (stop_list routes) (λ t e. sym (ap (option_and_then (λ u. u.place)) e))
    (own_stop (stop_list routes) written.once)

all_any : (P : ℕ → Type 0) (xs : List Stop) → ((n : ℕ) → P n) → AllByRecursion (λ t. P t.ticket) xs
all_any P [] h = tt
all_any P (x ∷ xs) h = (h x.ticket, all_any P xs h)

-- ---- a join and a cut

starts_if_no_previous : (s : ℕ) (r : Route) → previous_in s r ≡ None
    → 1 ≤ count_of (has_ticket s) r.stops → starts_at s r ≡ true
starts_if_no_previous s r none some = at r.is_ring r.stops none some
  where
    last : (xs : List Stop) (o : Option Stop) → ticket_of (option_or (last_item xs) o) ≡ None
        → xs ≡ []
    last [] o e = refl
    last (x ∷ []) o e = cc
    last (x ∷ y ∷ xs) o e = absurd (more y xs (last (y ∷ xs) o e))
      where
        more : (z : Stop) (zs : List Stop) → z ∷ zs ≡ [] → ⊥
        more z zs f = cc

    both : (o p : Option Stop) → ticket_of (option_or o p) ≡ None → ticket_of p ≡ None
    both None p e = e
    both (Some t) p e = cc

    never : (x : Stop) (xs : List Stop) → ticket_of (last_item (x ∷ xs)) ≡ None → ⊥
    never x [] e = cc
    never x (y ∷ xs) e = never y xs e

    head : (x : Stop) (xs : List Stop) → before (has_ticket s) (x ∷ xs) ≡ []
        → (x.ticket == s) ≡ true
    head x xs e = go (x.ticket == s) refl e
      where
        go : (b : Bool) → (x.ticket == s) ≡ b → cond b [] (x ∷ before (has_ticket s) xs) ≡ []
            → (x.ticket == s) ≡ true
        go true is f = is
        go false is f = cc

    at : (b : Bool) (xs : List Stop)
        → ticket_of (option_or (last_item (before (has_ticket s) xs)) (cond b (last_item xs) None))
        ≡ None → 1 ≤ count_of (has_ticket s) xs
        → cond b false (is_ticket (head_or None xs) s) ≡ true
    at b [] e k = absurd (omega (arith, k))
    at true (x ∷ xs) e k =
        absurd (never x xs (both (last_item (before (has_ticket s) (x ∷ xs))) (last_item (x ∷ xs))
        e))
    at false (x ∷ xs) e k = head x xs (last (before (has_ticket s) (x ∷ xs)) None e)

-- none leads to a stop without a previous one
pub none_leads : (s : ℕ) (routes : List Route) → AreWritten routes → previous_stop routes s ≡ None
    → 1 ≤ count_of (has_ticket s) (stop_list routes)
    → count_of (leads_to (next_stop routes) s) (stop_list routes) ≡ 0
none_leads s routes written none some = by (found_if_counted s routes some)
  where
    by : (r : Route) × (route_of routes s ≡ Some r)
        → count_of (leads_to (next_stop routes) s) (stop_list routes) ≡ 0
    by f =
        let own : previous_in s f.0 ≡ None = sym (ap (option_and_then (previous_in s)) f.1)
        ∙ none in
        let has : 1 ≤ count_of (has_ticket s) f.0.stops =
        count-any (has_ticket s) f.0.stops (found_passes _ routes f.0 f.1) in
        omega (
          arith,
          none_leads_to_start (next_stop routes) s routes f.0
              (Links-next_stop routes written.once) f.1 (starts_if_no_previous s f.0 own has),
          written.once s,
        )

pub unlinked-linked : (s u : ℕ) (routes : List Route) → AreWritten routes
    → next_stop routes s ≡ None → previous_stop routes u ≡ None
    → 1 ≤ count_of (has_ticket s) (stop_list routes)
    → 1 ≤ count_of (has_ticket u) (stop_list routes)
    → (unlinked s (linked s u routes) ≡ routes) × (next_stop (linked s u routes) s ≡ Some u)
unlinked-linked s u routes written end start some other =
    (same, next_stop-is joined_next (linked s u routes) s whole.once joins has ∙ leads)
  where
    old : ℕ → Option ℕ
    old = next_stop routes

    joined_next : ℕ → Option ℕ
    joined_next = relinked s (Some u) old

    whole : AreWritten (linked s u routes)
    whole = AreWritten-linked s u routes written

    joins : Links joined_next (linked s u routes)
    joins = Links-linked old s u routes written (Links-next_stop routes written.once) end some other
        (none_leads u routes written start other)

    has : 1 ≤ count_of (has_ticket s) (stop_list (linked s u routes))
    has = omega (arith, some, total-linked (λ t. cond (has_ticket s t) 1 0) s u routes written)

    leads : joined_next s ≡ Some u
    leads = rw (eq-eqb s s refl) refl

    back : (n : ℕ) → relinked s None joined_next n ≡ old n
    back n = at (n == s) refl
      where
        at : (b : Bool) → (n == s) ≡ b → cond b None (cond b (Some u) (old n)) ≡ old n
        at true e = sym (ap old (eqb-true n s e) ∙ end)
        at false e = refl

    cuts : Links old (unlinked s (linked s u routes))
    cuts =
        Links-ext (relinked s None joined_next) old (unlinked s (linked s u routes))
        (all_any (λ n. relinked s None joined_next n ≡ old n)
        (stop_list (unlinked s (linked s u routes))) back)
        (Links-unlinked joined_next s (linked s u routes) whole joins has)

    same : unlinked s (linked s u routes) ≡ routes
    same =
        same_routes old (place_in routes) (unlinked s (linked s u routes)) routes
        (AreWritten-unlinked s (linked s u routes) whole) written cuts
        (Links-next_stop routes written.once)
        (all_unlinked (λ t. t.place ≡ place_in routes t.ticket) s (linked s u routes)
        (all_linked (λ t. t.place ≡ place_in routes t.ticket) s u routes
        (fits_own routes written)))
        (fits_own routes written)
        (λ t. total-unlinked (λ x. cond (has_ticket t x) 1 0) s (linked s u routes) whole
        ∙ total-linked (λ x. cond (has_ticket t x) 1 0) s u routes written)

-- ---- an exchange

total_sum : (w v u : Stop → ℕ) (xs : List Stop) → ((t : Stop) → w t + v t ≤ u t)
    → total w xs + total v xs ≤ total u xs
total_sum w v u [] h = omega arith
total_sum w v u (x ∷ xs) h = omega (arith, h x, total_sum w v u xs h)

-- a stop that another leads to is there
next_counts : (next : ℕ → Option ℕ) (s n : ℕ) (routes : List Route) → Links next routes
    → next s ≡ Some n → count_of (has_ticket s) (stop_list routes)
    ≤ count_of (has_ticket n) (stop_list routes)
next_counts next s n routes links e =
    omega (
      arith,
      leads_at_most next n routes links,
      total_sum (λ t. 0)
          (λ t. cond (has_ticket s t) 1 0) (λ t. cond (leads_to next n t) 1 0) (stop_list routes)
          (λ t. at t (t.ticket == s) refl),
    )
  where
    at : (t : Stop) (b : Bool) → (t.ticket == s) ≡ b
        → 0 + cond b 1 0 ≤ cond (is_ticket (next t.ticket) n) 1 0
    at t true is =
        let there : next t.ticket ≡ Some n = ap next (eqb-true t.ticket s is) ∙ e in
        omega (
          arith,
          ap {B = ℕ} (λ o. cond (is_ticket o n) 1 0) there,
          ap {B = ℕ} (λ b. cond b 1 0) (eq-eqb n n refl),
        )
    at t false is = omega arith

-- two stops do not lead to one
apart_next : (next : ℕ → Option ℕ) (s u x y : ℕ) (routes : List Route) → AreWritten routes
    → Links next routes → s ≢ u → next s ≡ Some x → next u ≡ Some y
    → 1 ≤ count_of (has_ticket s) (stop_list routes)
    → 1 ≤ count_of (has_ticket u) (stop_list routes) → x ≢ y
apart_next next s u x y routes written links apart e f some other same =
    omega (
      arith,
      some,
      other,
      written.once x,
      leads_at_most next x routes links,
      total_sum (λ t. cond (has_ticket s t) 1 0) (λ t. cond (has_ticket u t) 1 0)
          (λ t. cond (leads_to next x t) 1 0)
          (stop_list routes) (λ t. at t (t.ticket == s) (t.ticket == u) refl refl),
    )
  where
    one : (t : Stop) (n : ℕ) → t.ticket ≡ n → next n ≡ Some x
        → 1 ≤ cond (is_ticket (next t.ticket) x) 1 0
    one t n is to = omega (
      arith,
      ap {B = ℕ} (λ o. cond (is_ticket o x) 1 0) (ap next is ∙ to),
      ap {B = ℕ} (λ b. cond b 1 0) (eq-eqb x x refl),
    )

    at : (t : Stop) (b d : Bool) → (t.ticket == s) ≡ b → (t.ticket == u) ≡ d
        → cond b 1 0 + cond d 1 0 ≤ cond (is_ticket (next t.ticket) x) 1 0
    at t true true g h = absurd (apart (sym (eqb-true t.ticket s g) ∙ eqb-true t.ticket u h))
    at t true false g h = omega (arith, one t s (eqb-true t.ticket s g) e)
    at t false true g h =
        omega (arith, one t u (eqb-true t.ticket u h) (f ∙ ap (λ n. Some n) (sym same)))
    at t false false g h = omega arith

-- where one leads to a stop and is led away, none is left that does
none_left : (next other : ℕ → Option ℕ) (s x : ℕ) (routes : List Route) → AreWritten routes
    → Links next routes → next s ≡ Some x → 1 ≤ count_of (has_ticket s) (stop_list routes)
    → ((n : ℕ) → (n ≡ s → is_ticket (other n) x ≡ false)
    × (n ≢ s → (other n ≡ next n) ⊎ (is_ticket (other n) x ≡ false)))
    → count_of (leads_to other x) (stop_list routes) ≡ 0
none_left next other s x routes written links e some away =
    omega (
      arith,
      some,
      written.once x,
      leads_at_most next x routes links,
      total_sum (λ t. cond (leads_to other x t) 1 0) (λ t. cond (has_ticket s t) 1 0)
          (λ t. cond (leads_to next x t) 1 0)
          (stop_list routes) (λ t. at t (t.ticket == s) refl),
    )
  where
    at : (t : Stop) (b : Bool) → (t.ticket == s) ≡ b
        → cond (is_ticket (other t.ticket) x) 1 0 + cond b 1 0
        ≤ cond (is_ticket (next t.ticket) x) 1 0
    at t true is =
        let same : t.ticket ≡ s = eqb-true t.ticket s is in
        omega (
          arith,
          ap {B = ℕ} (λ b. cond b 1 0) ((away t.ticket).0 same),
          ap {B = ℕ} (λ o. cond (is_ticket o x) 1 0) (ap next same ∙ e),
          ap {B = ℕ} (λ b. cond b 1 0) (eq-eqb x x refl),
        )
    at t false is = by ((away t.ticket).1 (eqb-false t.ticket s is))
      where
        by : (other t.ticket ≡ next t.ticket) ⊎ (is_ticket (other t.ticket) x ≡ false)
            → cond (is_ticket (other t.ticket) x) 1 0 + 0 ≤ cond (is_ticket (next t.ticket) x) 1 0
        by (inl g) = omega (arith, ap {B = ℕ} (λ o. cond (is_ticket o x) 1 0) g)
        by (inr g) = omega (arith, ap {B = ℕ} (λ b. cond b 1 0) g)

abbrev pub traded : ℕ → ℕ → ℕ → ℕ → (ℕ → Option ℕ) → ℕ → Option ℕ
traded s x u y next = relinked u (Some x) (relinked s (Some y) next)

-- the steps of an exchange
pub exchange_of : ℕ → ℕ → ℕ → ℕ → List Route → List Route
exchange_of s x u y routes = linked u x (linked s y (unlinked u (unlinked s routes)))

abbrev unlinked_next : ℕ → ℕ → (ℕ → Option ℕ) → ℕ → Option ℕ
unlinked_next s u next = relinked u None (relinked s None next)

pub Links-exchange : (next : ℕ → Option ℕ) (s x u y : ℕ) (routes : List Route) → AreWritten routes
    → Links next routes → s ≢ u → next s ≡ Some x → next u ≡ Some y
    → 1 ≤ count_of (has_ticket s) (stop_list routes)
    → 1 ≤ count_of (has_ticket u) (stop_list routes)
    → Links (traded s x u y next) (exchange_of s x u y routes)
unfolding exchange_of
Links-exchange next s x u y routes written links apart e f some other =
    Links-ext (relinked u (Some x) (relinked s (Some y) led)) (traded s x u y next) four
    (all_any (λ n. relinked u (Some x) (relinked s (Some y) led) n ≡ traded s x u y next n)
    (stop_list four) same)
    (Links-linked (relinked s (Some y) led) u x three third second_last open_end
    (omega (arith, other, kept_three u))
    (omega (arith, some, next_counts next s x routes links e, kept_three x)) free_x)
  where
    led : ℕ → Option ℕ
    led = unlinked_next s u next

    one : List Route
    one = unlinked s routes

    two : List Route
    two = unlinked u one

    three : List Route
    three = linked s y two

    four : List Route
    four = linked u x three

    first : AreWritten one
    first = AreWritten-unlinked s routes written

    second : AreWritten two
    second = AreWritten-unlinked u one first

    third : AreWritten three
    third = AreWritten-linked s y two second

    kept : (weight : Stop → ℕ) → total weight (stop_list two) ≡ total weight (stop_list routes)
    kept weight = total-unlinked weight u one first ∙ total-unlinked weight s routes written

    kept_two : (n : ℕ) → count_of (has_ticket n) (stop_list two)
        ≡ count_of (has_ticket n) (stop_list routes)
    kept_two n = kept (λ t. cond (has_ticket n t) 1 0)

    kept_three : (n : ℕ) → count_of (has_ticket n) (stop_list three)
        ≡ count_of (has_ticket n) (stop_list routes)
    kept_three n = total-linked (λ t. cond (has_ticket n t) 1 0) s y two second ∙ kept_two n

    cut_one : Links (relinked s None next) one
    cut_one = Links-unlinked next s routes written links some

    cut_two : Links led two
    cut_two = Links-unlinked (relinked s None next) u one first cut_one
        (omega (arith, other, total-unlinked (λ t. cond (has_ticket u t) 1 0) s routes written))

    s_apart : (s == u) ≡ false
    s_apart = ne_eqb s u apart

    u_apart : (u == s) ≡ false
    u_apart = ne_eqb u s (λ g. apart (sym g))

    s_ends : led s ≡ None
    s_ends = rw (s_apart, eq-eqb s s refl) refl

    u_ends : led u ≡ None
    u_ends = rw (eq-eqb u u refl) refl

    -- none leads to `y` or to `x` any more
    led_cases : (n : ℕ) → (led n ≡ None) ⊎ (led n ≡ next n)
    led_cases n = go (n == u) (n == s)
      where
        go : (b d : Bool) → (cond b None (cond d None (next n)) ≡ None)
            ⊎ (cond b None (cond d None (next n)) ≡ next n)
        go true d = inl refl
        go false true = inl refl
        go false false = inr refl

    led_away : (m : ℕ) (n : ℕ) → n ≢ m → (led n ≡ next n) ⊎ (is_ticket (led n) y ≡ false)
    led_away m n other_than = go (led_cases n)
      where
        go : (led n ≡ None) ⊎ (led n ≡ next n) → (led n ≡ next n) ⊎ (is_ticket (led n) y ≡ false)
        go (inl g) = inr (ap (λ o. is_ticket o y) g)
        go (inr g) = inl g

    free_y : count_of (leads_to led y) (stop_list two) ≡ 0
    free_y =
        kept (λ t. cond (leads_to led y t) 1 0)
        ∙ none_left next led u y routes written links f other
        (λ n. (
          λ g. ap (λ m. is_ticket (led m) y) g ∙ ap (λ o. is_ticket o y) u_ends,
          led_away u n,
        ))

    join_one : Links (relinked s (Some y) led) three
    join_one = Links-linked led s y two second cut_two s_ends (omega (arith, some, kept_two s))
        (omega (arith, other, next_counts next u y routes links f, kept_two y)) free_y

    second_last : Links (relinked s (Some y) led) three
    second_last = join_one

    open_end : relinked s (Some y) led u ≡ None
    open_end = rw (u_apart, eq-eqb u u refl) refl

    y_not_x : (y == x) ≡ false
    y_not_x = ne_eqb y x (λ g. apart_next next s u x y routes written links apart e f some other
        (sym g))

    led_on : (n : ℕ) → n ≢ s
        → (relinked s (Some y) led n ≡ next n) ⊎ (is_ticket (relinked s (Some y) led n) x ≡ false)
    led_on n other_than = go (n == u) (n == s) refl
      where
        go : (b d : Bool) → (n == s) ≡ d
            → (cond d (Some y) (cond b None (cond d None (next n))) ≡ next n)
            ⊎ (is_ticket (cond d (Some y) (cond b None (cond d None (next n)))) x ≡ false)
        go b true h = absurd (other_than (eqb-true n s h))
        go true false h = inr refl
        go false false h = inl refl

    free_x : count_of (leads_to (relinked s (Some y) led) x) (stop_list three) ≡ 0
    free_x =
        total-linked (λ t. cond (leads_to (relinked s (Some y) led) x t) 1 0) s y two second
        ∙ kept (λ t. cond (leads_to (relinked s (Some y) led) x t) 1 0)
        ∙ none_left next (relinked s (Some y) led) s x routes written links e some
        (λ n. (λ g. rw (eq-eqb n s g) y_not_x, led_on n))

    same : (n : ℕ) → relinked u (Some x) (relinked s (Some y) led) n ≡ traded s x u y next n
    same n = go (n == u) (n == s)
      where
        go : (b d : Bool) → cond b (Some x) (cond d (Some y) (cond b None (cond d None (next n))))
            ≡ cond b (Some x) (cond d (Some y) (next n))
        go true d = refl
        go false true = refl
        go false false = refl

pub exchange_written : (s x u y : ℕ) (routes : List Route) → AreWritten routes
    → AreWritten (exchange_of s x u y routes)
unfolding exchange_of
exchange_written s x u y routes written =
    AreWritten-linked u x (linked s y (unlinked u (unlinked s routes)))
    (AreWritten-linked s y (unlinked u (unlinked s routes))
    (AreWritten-unlinked u (unlinked s routes) (AreWritten-unlinked s routes written)))

pub exchange_total : (weight : Stop → ℕ) (s x u y : ℕ) (routes : List Route) → AreWritten routes
    → total weight (stop_list (exchange_of s x u y routes)) ≡ total weight (stop_list routes)
unfolding exchange_of
exchange_total weight s x u y routes written =
    let one = AreWritten-unlinked s routes written in
    let two = AreWritten-unlinked u (unlinked s routes) one in
    let three = AreWritten-linked s y (unlinked u (unlinked s routes)) two in
    total-linked weight u x (linked s y (unlinked u (unlinked s routes))) three
    ∙ total-linked weight s y (unlinked u (unlinked s routes)) two
    ∙ total-unlinked weight u (unlinked s routes) one
    ∙ total-unlinked weight s routes written

exchange_all : (P : Stop → Type 0) (s x u y : ℕ) (routes : List Route)
    → AllByRecursion P (stop_list routes)
    → AllByRecursion P (stop_list (exchange_of s x u y routes))
unfolding exchange_of
exchange_all P s x u y routes h =
    all_linked P u x (linked s y (unlinked u (unlinked s routes)))
    (all_linked P s y (unlinked u (unlinked s routes))
    (all_unlinked P u (unlinked s routes) (all_unlinked P s routes h)))

-- where both stops lead on, an exchange is those steps, unless it is of a stop with itself
pub exchanged-apart : (s x u y : ℕ) (routes : List Route) → s ≢ u → next_stop routes s ≡ Some x
    → next_stop routes u ≡ Some y → exchanged s u routes ≡ exchange_of s x u y routes
unfolding exchange_of
exchanged-apart s x u y routes apart e f = rw (e, f, ne_eqb s u apart) refl

pub exchanged-same : (s u x y : ℕ) (routes : List Route) → s ≡ u → next_stop routes s ≡ Some x
    → next_stop routes u ≡ Some y → exchanged s u routes ≡ routes
exchanged-same s u x y routes same e f = rw (e, f, eq-eqb s u same) refl

pub exchanged-exchanged : (s u x y : ℕ) (routes : List Route) → AreWritten routes
    → next_stop routes s ≡ Some x → next_stop routes u ≡ Some y
    → 1 ≤ count_of (has_ticket s) (stop_list routes)
    → 1 ≤ count_of (has_ticket u) (stop_list routes)
    → (exchanged s u (exchanged s u routes) ≡ routes)
    × ((v : ℕ) × (next_stop (exchanged s u routes) s ≡ Some v))
    × ((w : ℕ) × (next_stop (exchanged s u routes) u ≡ Some w))
exchanged-exchanged s u x y routes written e f some other = at (s == u) refl
  where
    old : ℕ → Option ℕ
    old = next_stop routes

    Twice : Type 0
    Twice = (exchanged s u (exchanged s u routes) ≡ routes)
        × ((v : ℕ) × (next_stop (exchanged s u routes) s ≡ Some v))
        × ((w : ℕ) × (next_stop (exchanged s u routes) u ≡ Some w))

    at : (b : Bool) → (s == u) ≡ b → Twice
    at true is =
        let once = exchanged-same s u x y routes (eqb-true s u is) e f in (
          ap (exchanged s u) once ∙ once,
          (x, ap (λ rs. next_stop rs s) once ∙ e),
          (y, ap (λ rs. next_stop rs u) once ∙ f),
        )
    at false is = (
      ap (exchanged s u) once ∙ exchanged-apart s y u x new apart leads_s leads_u ∙ back,
      (y, ap (λ rs. next_stop rs s) once ∙ leads_s),
      (x, ap (λ rs. next_stop rs u) once ∙ leads_u),
    )
      where
        apart : s ≢ u
        apart = eqb-false s u is

        new : List Route
        new = exchange_of s x u y routes

        once : exchanged s u routes ≡ new
        once = exchanged-apart s x u y routes apart e f

        whole : AreWritten new
        whole = exchange_written s x u y routes written

        changed : ℕ → Option ℕ
        changed = traded s x u y old

        links : Links changed new
        links = Links-exchange old s x u y routes written (Links-next_stop routes written.once)
            apart e f some other

        counted : (n : ℕ) → count_of (has_ticket n) (stop_list new)
            ≡ count_of (has_ticket n) (stop_list routes)
        counted n = exchange_total (λ t. cond (has_ticket n t) 1 0) s x u y routes written

        s_goes : changed s ≡ Some y
        s_goes = rw (ne_eqb s u apart, eq-eqb s s refl) refl

        u_goes : changed u ≡ Some x
        u_goes = rw (eq-eqb u u refl) refl

        leads_s : next_stop new s ≡ Some y
        leads_s = next_stop-is changed new s whole.once links (omega (arith, some, counted s))
            ∙ s_goes

        leads_u : next_stop new u ≡ Some x
        leads_u = next_stop-is changed new u whole.once links (omega (arith, other, counted u))
            ∙ u_goes

        again : Links (traded s y u x changed) (exchange_of s y u x new)
        again = Links-exchange changed s y u x new whole links apart s_goes u_goes
            (omega (arith, some, counted s)) (omega (arith, other, counted u))

        undone : (n : ℕ) → traded s y u x changed n ≡ old n
        undone n = go (n == u) (n == s) refl refl
          where
            go : (b d : Bool) → (n == u) ≡ b → (n == s) ≡ d
                → cond b (Some y) (cond d (Some x) (cond b (Some x) (cond d (Some y) (old n))))
                ≡ old n
            go true d g h = sym (ap old (eqb-true n u g) ∙ f)
            go false true g h = sym (ap old (eqb-true n s h) ∙ e)
            go false false g h = refl

        back : exchange_of s y u x new ≡ routes
        back =
            same_routes old (place_in routes) (exchange_of s y u x new) routes
            (exchange_written s y u x new whole) written
            (Links-ext (traded s y u x changed) old (exchange_of s y u x new)
            (all_any (λ n. traded s y u x changed n ≡ old n)
            (stop_list (exchange_of s y u x new)) undone) again)
            (Links-next_stop routes written.once)
            (exchange_all (λ t. t.place ≡ place_in routes t.ticket) s y u x new
            (exchange_all (λ t. t.place ≡ place_in routes t.ticket) s x u y routes
            (fits_own routes written)))
            (fits_own routes written)
            (λ n. exchange_total (λ t. cond (has_ticket n t) 1 0) s y u x new whole ∙ counted n)

record IsSameIn (routes others : List Route) : Type 1 where
  written : AreWritten others
  kept : (weight : Stop → ℕ) → total weight (stop_list others) ≡ total weight (stop_list routes)

total-exchanged : (s u : ℕ) (routes : List Route) → AreWritten routes → (weight : Stop → ℕ)
    → total weight (stop_list (exchanged s u routes)) ≡ total weight (stop_list routes)
total-exchanged s u routes written =
    let same = exchanged_keeps (IsSameIn routes) s u routes
    (λ t rs h. record {
      written = AreWritten-unlinked t rs h.written;
      kept = λ weight. total-unlinked weight t rs h.written ∙ h.kept weight;
    })
    (λ t v rs h. record {
      written = AreWritten-linked t v rs h.written;
      kept = λ weight. total-linked weight t v rs h.written ∙ h.kept weight;
    })
    (record { written = written; kept = λ weight. refl }) in
    same.kept

-- ---- states

-- a ticket that names a stop, which stays where the stops stay
pub record NamesStop (s : State) (t : ℕ) : Type 0 where
  pub given : (t == 0) || nat_lt s.last t ≡ false
  pub no_place : place_of s.places t ≡ None
  pub stop_there : (u : Stop) × (stop_of s.routes t ≡ Some u)

pub names_stop : (s : State) (t : ℕ) (u : Stop) → stop_holder s t ≡ Ok u → NamesStop s t
names_stop s t u e = at ((t == 0) || nat_lt s.last t) (place_of s.places t) (stop_of s.routes t)
    (mark_of s.marks t) refl refl refl (stop_holder-ok s t u e)
  where
    at : (b : Bool) (p : Option Place) (o : Option Stop) (m : Option Mark)
        → (t == 0) || nat_lt s.last t ≡ b → place_of s.places t ≡ p → stop_of s.routes t ≡ o
        → cond b (Err Unknown)
        (ok_or (option_or (option_map place p)
        (option_or (option_map stop o) (option_map mark m))) Gone) ≡ Ok (stop u) → NamesStop s t
    at true p o m f g h e = cc
    at false (Some q) o m f g h e = cc
    at false None None None f g h e = cc
    at false None None (Some n) f g h e = cc
    at false None (Some v) m f g h e = record { given = f; no_place = g; stop_there = (v, h) }

named_stop : (s : State) (t : ℕ) → NamesStop s t → (u : Stop) × (stop_holder s t ≡ Ok u)
named_stop s t names =
    (names.stop_there.0, rw (names.given, names.no_place, names.stop_there.1) refl)

unfoldable pub with_routes : State → List Route → State
with_routes s routes = record s { routes = routes }

names_with : (s : State) (t : ℕ) (routes : List Route) → NamesStop s t
    → count_of (has_ticket t) (stop_list routes) ≡ count_of (has_ticket t) (stop_list s.routes)
    → NamesStop (with_routes s routes) t
unfolding with_routes
names_with s t routes names same = record {
  given = names.given;
  no_place = names.no_place;
  stop_there = found_if_any (has_ticket t) (stop_list routes)
      (any-count (has_ticket t) (stop_list routes)
      (omega (
        arith,
        same,
        found_counted (has_ticket t) (stop_list s.routes) names.stop_there.0 names.stop_there.1,
      )));
}

pub allowed-ok : (b : Bool) → allowed b ≡ Ok tt → b ≡ true
allowed-ok true e = refl
allowed-ok false e = cc

both_true : (a b : Bool) → (a && b) ≡ true → (a ≡ true) × (b ≡ true)
both_true true b e = (refl, e)
both_true false b e = cc

none_if : (o : Option ℕ) → is_none o ≡ true → o ≡ None
none_if None e = refl
none_if (Some n) e = cc

pub some_if : (o : Option ℕ) → is_some o ≡ true → (n : ℕ) × (o ≡ Some n)
some_if (Some n) e = (n, refl)
some_if None e = cc

-- what is known where `join`, `cut` and `swap` answer `ok`
pub joined-ok : (s : State) (t u : ℕ) → joined s t u ≡ Ok tt
    → NamesStop s t × NamesStop s u × (next_stop s.routes t ≡ None)
    × (previous_stop s.routes u ≡ None)
joined-ok s t u e =
    let first = and_then-ok (stop_holder s t) _ tt e in
    let second = and_then-ok (stop_holder s u) _ tt first.2 in
    let tests = both_true (is_none (next_stop s.routes t)) (is_none (previous_stop s.routes u))
    (allowed-ok _ second.2) in (
      names_stop s t first.0 first.1,
      names_stop s u second.0 second.1,
      none_if _ tests.0,
      none_if _ tests.1,
    )

parted-from : (s : State) (t n : ℕ) → NamesStop s t → next_stop s.routes t ≡ Some n
    → parted s t ≡ Ok tt
parted-from s t n names e = rw ((named_stop s t names).1, e) refl

pub swapped-ok : (s : State) (t u : ℕ) → swapped s t u ≡ Ok tt
    → NamesStop s t × NamesStop s u × ((n : ℕ) × (next_stop s.routes t ≡ Some n))
    × ((m : ℕ) × (next_stop s.routes u ≡ Some m))
swapped-ok s t u e =
    let first = and_then-ok (stop_holder s t) _ tt e in
    let second = and_then-ok (stop_holder s u) _ tt first.2 in
    let tests = both_true (is_some (next_stop s.routes t)) (is_some (next_stop s.routes u))
    (allowed-ok _ second.2) in (
      names_stop s t first.0 first.1,
      names_stop s u second.0 second.1,
      some_if _ tests.0,
      some_if _ tests.1,
    )

swapped-from : (s : State) (t u n m : ℕ) → NamesStop s t → NamesStop s u
    → next_stop s.routes t ≡ Some n → next_stop s.routes u ≡ Some m → swapped s t u ≡ Ok tt
swapped-from s t u n m names named e f =
    rw ((named_stop s t names).1, (named_stop s u named).1, e, f) refl

pub after_join-ok : (s : State) (t u : ℕ) → joined s t u ≡ Ok tt
    → after_join s t u ≡ with_routes s (linked t u s.routes)
unfolding with_routes
after_join-ok s t u e =
    ap (λ r. unless_refused s r (λ ok. record s { routes = linked t u s.routes })) e

pub after_cut-ok : (s : State) (t : ℕ) → parted s t ≡ Ok tt
    → after_cut s t ≡ with_routes s (unlinked t s.routes)
unfolding with_routes
after_cut-ok s t e = ap (λ r. unless_refused s r (λ ok. record s { routes = unlinked t s.routes }))
    e

pub after_swap-ok : (s : State) (t u : ℕ) → swapped s t u ≡ Ok tt
    → after_swap s t u ≡ with_routes s (exchanged t u s.routes)
unfolding with_routes
after_swap-ok s t u e =
    ap (λ r. unless_refused s r (λ ok. record s { routes = exchanged t u s.routes })) e

pub cut_undoes_join : (s : State) (t u : ℕ) → IsSound s → joined s t u ≡ Ok tt
    → after_cut (after_join s t u) t ≡ s
unfolding with_routes
cut_undoes_join s t u sound e =
    let ok = joined-ok s t u e in
    let t_in = found_counted (has_ticket t) (stop_list s.routes) ok.0.stop_there.0 ok.0.stop_there.1
    in
    let u_in = found_counted (has_ticket u) (stop_list s.routes) ok.1.stop_there.0 ok.1.stop_there.1
    in
    let undone = unlinked-linked t u s.routes sound.routes ok.2 ok.3 t_in u_in in
    let names = names_with s t (linked t u s.routes) ok.0
    (total-linked (λ x. cond (has_ticket t x) 1 0) t u s.routes sound.routes) in
    ap (λ r. after_cut r t) (after_join-ok s t u e)
    ∙ after_cut-ok (with_routes s (linked t u s.routes)) t
    (parted-from (with_routes s (linked t u s.routes)) t u names undone.1)
    ∙ ap (λ rs. with_routes s rs) undone.0

pub swap_undoes_swap : (s : State) (t u : ℕ) → IsSound s → swapped s t u ≡ Ok tt
    → after_swap (after_swap s t u) t u ≡ s
unfolding with_routes
swap_undoes_swap s t u sound e =
    let ok = swapped-ok s t u e in
    let t_in = found_counted (has_ticket t) (stop_list s.routes) ok.0.stop_there.0 ok.0.stop_there.1
    in
    let u_in = found_counted (has_ticket u) (stop_list s.routes) ok.1.stop_there.0 ok.1.stop_there.1
    in
    let undone = exchanged-exchanged t u ok.2.0 ok.3.0 s.routes sound.routes ok.2.1 ok.3.1 t_in u_in
    in
    let kept = total-exchanged t u s.routes sound.routes in
    let names = names_with s t (exchanged t u s.routes) ok.0 (kept (λ x. cond (has_ticket t x) 1 0))
    in
    let named = names_with s u (exchanged t u s.routes) ok.1 (kept (λ x. cond (has_ticket u x) 1 0))
    in
    ap (λ r. after_swap r t u) (after_swap-ok s t u e)
    ∙ after_swap-ok (with_routes s (exchanged t u s.routes)) t u
    (swapped-from (with_routes s (exchanged t u s.routes)) t u undone.1.0 undone.2.0 names named
    undone.1.1 undone.2.1)
    ∙ ap (λ rs. with_routes s rs) undone.0
