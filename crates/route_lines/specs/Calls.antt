-- What each call on a store answers, and the state after it.
use Rattle.std.specs.Prelude.{ℕ, ◌+◌, ◌==◌, ◌&&◌, ◌∷◌, ◌++◌, Bool, List, [], Option, None, Some}
use Rattle.std.specs.Prelude.{Result, Ok, Err, if◌then◌else◌, nat_lt, nat_le, map, filter, not}
use Rattle.std.specs.Prelude.{find, reverse, is_some, is_none}
use Rattle.std.specs.Option.{option_map}
use Rattle.std.specs.Borrow.{Bor}
use Rattle.route_lines.specs.Cuts.{before, behind, first_item, last_item}
use Rattle.route_lines.specs.Routes.{linear, next_stop, previous_stop, put_behind, linked, unlinked}
use Rattle.route_lines.specs.Routes.{taken_out, exchanged, walk_from}
use Rattle.route_lines.specs.State.{State, Place, Stop, Route, Mark, Item, place, stop, mark}
use Rattle.route_lines.specs.State.{with_key, holder, is_full_of_places, is_full_of_stops}
use Rattle.route_lines.specs.State.{is_full_of_marks}
use Rattle.route_lines.specs.declared.shown.Shown.{Shown}
use Rattle.route_lines.specs.declared.shown.Shown.TheVariants.{Place as ShownPlace}
use Rattle.route_lines.specs.declared.shown.Shown.TheVariants.{Stop as ShownStop, Mark as ShownMark}
use Rattle.route_lines.specs.declared.refusal.Refusal.{Refusal}
use Rattle.route_lines.specs.declared.refusal.Refusal.TheVariants.{Kind, No, Full}

-- ---- refusals, which come in the order of the tests

-- the place, and the stop, that a ticket has to name
abbrev pub place_holder : State → ℕ → Result Place Refusal
place_holder s ticket = from (holder s ticket)
  where
    from : Result Item Refusal → Result Place Refusal
    from (Ok (place p)) = Ok p
    from (Ok (stop t)) = Err Kind
    from (Ok (mark m)) = Err Kind
    from (Err refusal) = Err refusal

abbrev pub stop_holder : State → ℕ → Result Stop Refusal
stop_holder s ticket = from (holder s ticket)
  where
    from : Result Item Refusal → Result Stop Refusal
    from (Ok (place p)) = Err Kind
    from (Ok (stop t)) = Ok t
    from (Ok (mark m)) = Err Kind
    from (Err refusal) = Err refusal

-- a further test, where nothing is refused yet
abbrev pub and_then : {X Y : Type 0} → Result X Refusal → (X → Result Y Refusal) → Result Y Refusal
and_then (Ok x) test = test x
and_then (Err refusal) test = Err refusal

-- the next ticket, unless there is no room
abbrev pub next_ticket : State → Bool → Result ℕ Refusal
next_ticket s is_full = if is_full then Err Full else Ok (s.last + 1)

abbrev pub allowed : Bool → Result Unit Refusal
allowed is = if is then Ok tt else Err No

-- a refused call changes nothing
abbrev pub unless_refused : {X : Type 0} → State → Result X Refusal → (X → State) → State
unless_refused s (Ok x) after = after x
unless_refused s (Err refusal) after = s

-- ---- places

-- the places with one more, in the order of the keys: behind all with the same key
abbrev pub put : Place → List Place → List Place
put new [] = new ∷ []
put new (p ∷ places) = if nat_lt new.key p.key then new ∷ p ∷ places else p ∷ put new places

-- the places, where the one that has the ticket has this word
abbrev pub reworded : ℕ → List ℕ → List Place → List Place
reworded ticket word places =
    let reword : Place → Place = λ p. if p.ticket == ticket then record p { word = word } else p in
    map reword places

-- `place`: its ticket is above all others, so the place stands behind all that have its key
abbrev pub placed : State → Result ℕ Refusal
placed s = next_ticket s (is_full_of_places s)

abbrev pub after_place : State → ℕ → List ℕ → State
after_place s key word =
    unless_refused s (placed s) (λ ticket. record s {
      last = ticket;
      places = put (record { ticket = ticket; key = key; word = word }) s.places;
    })

-- `near`: the hint has to name a place, and changes nothing else
abbrev pub placed_near : State → ℕ → Result ℕ Refusal
placed_near s near = and_then (place_holder s near) (λ p. placed s)

abbrev pub after_place_near : State → ℕ → List ℕ → ℕ → State
after_place_near s key word near = unless_refused s (place_holder s near)
    (λ p. after_place s key word)

-- `word`: the word that the place had
abbrev pub worded : State → ℕ → Result (List ℕ) Refusal
worded s ticket = and_then (place_holder s ticket) (λ p. Ok p.word)

abbrev pub after_word : State → ℕ → List ℕ → State
after_word s ticket word =
    unless_refused s (place_holder s ticket)
    (λ p. record s { places = reworded ticket word s.places })

-- `show`
abbrev pub shown : State → ℕ → Result Shown Refusal
shown s ticket = from (holder s ticket)
  where
    from : Result Item Refusal → Result Shown Refusal
    from (Ok (place p)) = Ok (ShownPlace p.key p.word)
    from (Ok (stop t)) = Ok (ShownStop t.place)
    from (Ok (mark m)) = Ok (ShownMark m.place m.stop)
    from (Err refusal) = Err refusal

-- `find`: the first place that has the key, which is the one with the smallest ticket
abbrev pub found : State → ℕ → Option ℕ
found s key = option_map (λ p. p.ticket) (with_key key s.places)

-- `floor`: the last place whose key is not above this one
abbrev pub floor_of : State → ℕ → Option ℕ
floor_of s key = option_map (λ p. p.ticket) (find (λ p. nat_le p.key key) (reverse s.places))

-- `after` and `before`: the places next to a place
abbrev pub place_after : State → ℕ → Result (Option ℕ) Refusal
place_after s ticket =
    and_then (place_holder s ticket)
    (λ p. Ok (option_map (λ q. q.ticket)
    (first_item (behind (λ q. q.ticket == ticket) s.places))))

abbrev pub place_before : State → ℕ → Result (Option ℕ) Refusal
place_before s ticket =
    and_then (place_holder s ticket)
    (λ p. Ok (option_map (λ q. q.ticket)
    (last_item (before (λ q. q.ticket == ticket) s.places))))

-- `places`: what the iterator gives of a place
abbrev pub listed : ℕ × ℕ × Bor (List ℕ) → Place
listed item = record { ticket = item.0; key = item.1; word = item.2.now }

-- ---- routes

-- `start`: a stop alone on a linear route. Its ticket is above all others, so the route is the last
-- one.
abbrev pub started : State → ℕ → Result ℕ Refusal
started s at = and_then (place_holder s at) (λ p. next_ticket s (is_full_of_stops s))

abbrev pub after_start : State → ℕ → State
after_start s at =
    unless_refused s (started s at) (λ ticket. record s {
      last = ticket;
      routes = s.routes ++ linear (record { ticket = ticket; place = Some at } ∷ []) ∷ [];
    })

-- `extend`: a stop directly behind another
abbrev pub extended : State → ℕ → ℕ → Result ℕ Refusal
extended s t at = and_then (stop_holder s t)
    (λ u. and_then (place_holder s at) (λ p. next_ticket s (is_full_of_stops s)))

abbrev pub after_extend : State → ℕ → ℕ → State
after_extend s t at =
    unless_refused s (extended s t at) (λ ticket. record s {
      last = ticket;
      routes = put_behind t (record { ticket = ticket; place = Some at }) s.routes;
    })

-- `join`: `t` needs no stop behind it, and `u` none before it
abbrev pub joined : State → ℕ → ℕ → Result Unit Refusal
joined s t u =
    and_then (stop_holder s t)
    (λ x. and_then (stop_holder s u)
    (λ y. allowed (is_none (next_stop s.routes t) && is_none (previous_stop s.routes u))))

abbrev pub after_join : State → ℕ → ℕ → State
after_join s t u = unless_refused s (joined s t u) (λ ok. record s { routes = linked t u s.routes })

-- `cut`: `t` needs a stop behind it
abbrev pub parted : State → ℕ → Result Unit Refusal
parted s t = and_then (stop_holder s t) (λ x. allowed (is_some (next_stop s.routes t)))

abbrev pub after_cut : State → ℕ → State
after_cut s t = unless_refused s (parted s t) (λ ok. record s { routes = unlinked t s.routes })

-- `swap`: both need a stop behind them
abbrev pub swapped : State → ℕ → ℕ → Result Unit Refusal
swapped s t u =
    and_then (stop_holder s t)
    (λ x. and_then (stop_holder s u)
    (λ y. allowed (is_some (next_stop s.routes t) && is_some (next_stop s.routes u))))

abbrev pub after_swap : State → ℕ → ℕ → State
after_swap s t u = unless_refused s (swapped s t u)
    (λ ok. record s { routes = exchanged t u s.routes })

-- `walk`
abbrev pub walked : State → ℕ → Result (List Stop) Refusal
walked s t = and_then (stop_holder s t) (λ x. Ok (walk_from t s.routes))

-- what the iterator of a walk gives of a stop
abbrev pub listed_stop : ℕ × Option ℕ → Stop
listed_stop item = record { ticket = item.0; place = item.1 }

-- ---- marks

-- `mark`: its ticket is above all others, so it is the last one
abbrev pub marked : State → ℕ → ℕ → Result ℕ Refusal
marked s at t = and_then (place_holder s at)
    (λ p. and_then (stop_holder s t) (λ x. next_ticket s (is_full_of_marks s)))

abbrev pub after_mark : State → ℕ → ℕ → State
after_mark s at t =
    unless_refused s (marked s at t) (λ ticket. record s {
      last = ticket;
      marks = s.marks ++ record { ticket = ticket; place = Some at; stop = Some t } ∷ [];
    })

-- ---- removals

-- a reference, which is gone where it names the ticket
abbrev pub unless_is : ℕ → Option ℕ → Option ℕ
unless_is t None = None
unless_is t (Some u) = if u == t then None else Some u

-- a stop and a mark without the place that has the ticket, and a mark without the stop
abbrev pub clear_stop : ℕ → Stop → Stop
clear_stop t u = record u { place = unless_is t u.place }

abbrev pub clear_mark : ℕ → Mark → Mark
clear_mark t m = record m { place = unless_is t m.place }

abbrev pub clear_mark_stop : ℕ → Mark → Mark
clear_mark_stop t m = record m { stop = unless_is t m.stop }

-- a route of such stops
abbrev pub clear_route : ℕ → Route → Route
clear_route t r = record r { stops = map (clear_stop t) r.stops }

-- the state without a place, a stop or a mark: each reference to it is gone
abbrev pub without_place : State → ℕ → State
without_place s t =
    record s {
      places = filter (λ p. not (p.ticket == t)) s.places;
      routes = map (clear_route t) s.routes;
      marks = map (clear_mark t) s.marks;
    }

abbrev pub without_stop : State → ℕ → State
without_stop s t = record s {
  routes = taken_out t s.routes;
  marks = map (clear_mark_stop t) s.marks;
}

abbrev pub without_mark : State → ℕ → State
without_mark s t = record s { marks = filter (λ m. not (m.ticket == t)) s.marks }

-- `remove`: any living item
abbrev pub removed : State → ℕ → Result Unit Refusal
removed s t = and_then (holder s t) (λ item. Ok tt)

abbrev pub after_removed : State → ℕ → State
after_removed s t = unless_refused s (holder s t) without
  where
    without : Item → State
    without (place p) = without_place s t
    without (stop u) = without_stop s t
    without (mark m) = without_mark s t
