-- The routes of a state: which stop follows which, and what is made of routes as stops are put in,
-- joined and cut apart.
use Rattle.std.specs.Prelude.{ℕ, ◌==◌, ◌∷◌, ◌++◌, Bool, true, false, List, [], Option, Some, None}
use Rattle.std.specs.Prelude.{if◌then◌else◌, nat_lt, min, length, map, find, filter, not, reverse}
use Rattle.std.specs.Prelude.{option_and_then}
use Rattle.std.specs.List.{list_any}
use Rattle.std.specs.Option.{option_map, option_or, option_map_or}
use Rattle.route_lines.specs.Cuts.{before, onward, up_to, behind, first_item, last_item}
use Rattle.route_lines.specs.State.{Stop, Route}

-- ---- one route

abbrev pub has_ticket : ℕ → Stop → Bool
has_ticket s t = t.ticket == s

-- the stops as a ring is walked from the one with the ticket
abbrev pub round : ℕ → List Stop → List Stop
round s stops = onward (has_ticket s) stops ++ before (has_ticket s) stops

-- the smallest of a ticket and those of the stops
abbrev pub smallest : ℕ → List Stop → ℕ
smallest s [] = s
smallest s (t ∷ stops) = min t.ticket (smallest s stops)

abbrev pub from_smallest : List Stop → List Stop
from_smallest [] = []
from_smallest (t ∷ stops) = round (smallest t.ticket stops) (t ∷ stops)

-- a route from its start to its end, and one that closes: it is written from its smallest ticket
abbrev pub linear : List Stop → Route
linear stops = record { is_ring = false; stops = stops }

abbrev pub ring : List Stop → Route
ring stops = record { is_ring = true; stops = from_smallest stops }

abbrev pub has_stop : ℕ → Route → Bool
has_stop s r = list_any (has_ticket s) r.stops

abbrev pub ticket_of : Option Stop → Option ℕ
ticket_of stop = option_map (λ t. t.ticket) stop

-- the stop that follows a stop, and the one before it: in a ring the first stop follows the last
-- one
abbrev pub next_in : ℕ → Route → Option ℕ
next_in s r = ticket_of
    (option_or (first_item (behind (has_ticket s) r.stops))
    (if r.is_ring then first_item r.stops else None))

abbrev pub previous_in : ℕ → Route → Option ℕ
previous_in s r = ticket_of
    (option_or (last_item (before (has_ticket s) r.stops))
    (if r.is_ring then last_item r.stops else None))

-- the stops as they are walked from a stop: once round a ring, or to the end and then backwards
-- from the stop before it
abbrev pub walk_in : ℕ → Route → List Stop
walk_in s r = if r.is_ring then round s r.stops else onward (has_ticket s) r.stops
    ++ reverse (before (has_ticket s) r.stops)

-- ---- all routes

-- the route that a stop is on, its stops, and the other routes
abbrev pub route_of : List Route → ℕ → Option Route
route_of routes s = find (has_stop s) routes

abbrev pub stops_with : ℕ → List Route → List Stop
stops_with s routes = option_map_or (λ r. r.stops) (route_of routes s) []

abbrev pub without : ℕ → List Route → List Route
without s routes = filter (λ r. not (has_stop s r)) routes

-- the ticket of a route's first stop
abbrev pub first_ticket : Route → ℕ
first_ticket r = option_map_or (λ t. t.ticket) (first_item r.stops) 0

-- the routes with one more, in the order of their first tickets
abbrev pub insert_route : Route → List Route → List Route
insert_route new [] = new ∷ []
insert_route new (r ∷ routes) = if nat_lt (first_ticket new) (first_ticket r) then new ∷ r
    ∷ routes else r ∷ insert_route new routes

-- a list of no stops is no route
abbrev pub put_route : Route → List Route → List Route
put_route new routes = if length new.stops == 0 then routes else insert_route new routes

abbrev pub next_stop : List Route → ℕ → Option ℕ
next_stop routes s = option_and_then (next_in s) (route_of routes s)

abbrev pub previous_stop : List Route → ℕ → Option ℕ
previous_stop routes s = option_and_then (previous_in s) (route_of routes s)

-- a stop more, directly behind `s`
abbrev pub put_behind : ℕ → Stop → List Route → List Route
put_behind s new routes =
    map (λ r. if has_stop s r then record r
    { stops = up_to (has_ticket s) r.stops ++ new ∷ behind (has_ticket s) r.stops }
    else r) routes

-- the route that ends with `s` goes on with the one that starts with `u`; where they are one route
-- it becomes a ring
abbrev pub linked : ℕ → ℕ → List Route → List Route
linked s u routes =
    let front = stops_with s routes in
    let others = without s routes in
    if list_any (has_ticket u) front
    then put_route (ring front) others
    else put_route (linear (front ++ stops_with u others)) (without u others)

-- `s` is parted from the stop that follows it: a linear route is split behind `s`, a ring becomes a
-- linear route that ends with `s`
abbrev pub unlinked : ℕ → List Route → List Route
unlinked s routes = from (route_of routes s)
  where
    from : Option Route → List Route
    from None = routes
    from (Some r) =
        let front = up_to (has_ticket s) r.stops in
        let back = behind (has_ticket s) r.stops in
        if r.is_ring
        then put_route (linear (back ++ front)) (without s routes)
        else put_route (linear front) (put_route (linear back) (without s routes))

-- a stop less: its route without it, a ring written anew
abbrev pub taken_out : ℕ → List Route → List Route
taken_out s routes = from (route_of routes s)
  where
    from : Option Route → List Route
    from None = routes
    from (Some r) =
        let rest = filter (λ t. not (has_ticket s t)) r.stops in
        put_route (if r.is_ring then ring rest else linear rest) (without s routes)

-- where a stop leads once `s`, which led to `after`, is taken out: past it
abbrev pub past : ℕ → Option ℕ → Option ℕ → Option ℕ
past s after None = None
past s after (Some n) = if n == s then after else Some n

-- `s` and `u` exchange the stops that follow them
abbrev pub exchanged : ℕ → ℕ → List Route → List Route
exchanged s u routes = from (next_stop routes s) (next_stop routes u)
  where
    from : Option ℕ → Option ℕ → List Route
    from (Some s') (Some u') = if s == u then routes else linked u s'
        (linked s u' (unlinked u (unlinked s routes)))
    from (Some s') None = routes
    from None o = routes

-- the stops as they are walked from a stop
abbrev pub walk_from : ℕ → List Route → List Stop
walk_from s routes = option_map_or (walk_in s) (route_of routes s) []
