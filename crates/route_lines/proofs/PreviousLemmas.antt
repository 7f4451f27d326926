-- A stop follows another exactly if that one is its previous one.
use Rattle.std.proofs.Common.{◌≡◌, ◌∙◌, sym, ap, subst, refl, Bool, true, false, ◌==◌, ◌⊎◌, inl}
use Rattle.std.proofs.Common.{inr, ℕ, ◌+◌, ◌≤◌, List, [], ◌∷◌, ◌++◌, Option, Some, None, IfSome}
use Rattle.std.proofs.Common.{cond, append_assoc, arith}
use Rattle.std.specs.List.{AllByRecursion}
use Rattle.std.specs.Option.{option_or, option_and_then}
use Rattle.std.proofs.lemmas.Bool.{eq-eqb, eqb-true}
use Rattle.route_lines.specs.Cuts.{before, behind, first_item, last_item}
use Rattle.route_lines.specs.Routes.{has_ticket, has_stop, ticket_of, next_in, previous_in}
use Rattle.route_lines.specs.Routes.{route_of, next_stop, previous_stop}
use Rattle.route_lines.specs.Sound.{count_of, AreWritten}
use Rattle.route_lines.specs.State.{Stop, Route, stop_list}
use Rattle.route_lines.specs.CutLaws.{found_in, found_passes, total-append, count-any}
use Rattle.route_lines.proofs.LinkLemmas.{all_at, counts_within, own_route}

-- ---- along one list

last-more : (xs : List Stop) (x : Stop) → last_item (xs ++ x ∷ []) ≡ Some x
last-more [] x = refl
last-more (y ∷ []) x = refl
last-more (y ∷ z ∷ xs) x = last-more (z ∷ xs) x

-- a list is empty, or something and a last stop
record HasLast (xs : List Stop) : Type 0 where
  front : List Stop
  last : Stop
  is : xs ≡ front ++ last ∷ []

last_split : (xs : List Stop) → (xs ≡ []) ⊎ HasLast xs
last_split [] = inl refl
last_split (x ∷ xs) = inr (at (last_split xs))
  where
    at : (xs ≡ []) ⊎ HasLast xs → HasLast (x ∷ xs)
    at (inl e) = record { front = []; last = x; is = ap (λ ys. x ∷ ys) e }
    at (inr h) = record { front = x ∷ h.front; last = h.last; is = ap (λ ys. x ∷ ys) h.is }

-- a list is cut at a stop that is in it
record IsCutAt (s : ℕ) (xs : List Stop) : Type 0 where
  stop : Stop
  ticket : stop.ticket ≡ s
  is : xs ≡ before (has_ticket s) xs ++ stop ∷ behind (has_ticket s) xs

cut_at : (s : ℕ) (xs : List Stop) → 1 ≤ count_of (has_ticket s) xs → IsCutAt s xs
cut_at s [] some = absurd (omega (arith, some))
cut_at s (x ∷ xs) some = at (x.ticket == s) refl (cut_at s xs)
  where
    at : (b : Bool) → (x.ticket == s) ≡ b → (1 ≤ count_of (has_ticket s) xs → IsCutAt s xs)
        → IsCutAt s (x ∷ xs)
    at true e h = record { stop = x; ticket = eqb-true x.ticket s e; is = rw e refl }
    at false e h =
        let more = h (omega (arith, some, ap {B = ℕ} (λ b. cond b 1 0) e)) in
        record {
          stop = more.stop;
          ticket = more.ticket;
          is = there (x.ticket == s) more.stop e more.is;
        }
      where
        there : (d : Bool) (y : Stop) → d ≡ false
            → xs ≡ before (has_ticket s) xs ++ y ∷ behind (has_ticket s) xs
            → x ∷ xs ≡ cond d [] (x ∷ before (has_ticket s) xs) ++ y ∷ cond d xs
            (behind (has_ticket s) xs)
        there true y f g = cc
        there false y f g = ap (λ ys. x ∷ ys) g

-- what stands before and behind the first stop with a ticket
before-at : (s : ℕ) (p q : List Stop) (y : Stop) → count_of (has_ticket s) p ≡ 0 → y.ticket ≡ s
    → before (has_ticket s) (p ++ y ∷ q) ≡ p
before-at s [] q y none e = rw (eq-eqb y.ticket s e) refl
before-at s (x ∷ p) q y none e = at (x.ticket == s) refl (before-at s p q y (omega (arith, none)) e)
  where
    at : (b : Bool) → (x.ticket == s) ≡ b → before (has_ticket s) (p ++ y ∷ q) ≡ p
        → cond b [] (x ∷ before (has_ticket s) (p ++ y ∷ q)) ≡ x ∷ p
    at true f h = absurd (omega (arith, none, ap {B = ℕ} (λ b. cond b 1 0) f))
    at false f h = ap (λ ys. x ∷ ys) h

behind-at : (s : ℕ) (p q : List Stop) (y : Stop) → count_of (has_ticket s) p ≡ 0 → y.ticket ≡ s
    → behind (has_ticket s) (p ++ y ∷ q) ≡ q
behind-at s [] q y none e = rw (eq-eqb y.ticket s e) refl
behind-at s (x ∷ p) q y none e = at (x.ticket == s) refl (behind-at s p q y (omega (arith, none)) e)
  where
    at : (b : Bool) → (x.ticket == s) ≡ b → behind (has_ticket s) (p ++ y ∷ q) ≡ q
        → cond b (p ++ y ∷ q) (behind (has_ticket s) (p ++ y ∷ q)) ≡ q
    at true f h = absurd (omega (arith, none, ap {B = ℕ} (λ b. cond b 1 0) f))
    at false f h = h

-- the stop there is counted
counted_here : (s : ℕ) (y : Stop) (q : List Stop) → y.ticket ≡ s
    → 1 ≤ count_of (has_ticket s) (y ∷ q)
counted_here s y q e = omega (arith, ap {B = ℕ} (λ b. cond b 1 0) (eq-eqb y.ticket s e))

parts : (s : ℕ) (p q : List Stop)
    → count_of (has_ticket s) (p ++ q) ≡ count_of (has_ticket s) p + count_of (has_ticket s) q
parts s p q = total-append (λ t. cond (has_ticket s t) 1 0) p q

abbrev next_along : Bool → List Stop → ℕ → Option ℕ
next_along b xs s = ticket_of
    (option_or (first_item (behind (has_ticket s) xs)) (cond b (first_item xs) None))

abbrev previous_along : Bool → List Stop → ℕ → Option ℕ
previous_along b xs s =
    ticket_of (option_or (last_item (before (has_ticket s) xs)) (cond b (last_item xs) None))

follows : (b : Bool) (xs : List Stop) (t u : ℕ) → ((s : ℕ) → count_of (has_ticket s) xs ≤ 1)
    → 1 ≤ count_of (has_ticket t) xs → next_along b xs t ≡ Some u → (1 ≤ count_of (has_ticket u) xs)
    × (previous_along b xs u ≡ Some t)
follows b xs t u once some next = by (behind (has_ticket t) xs) refl b next
  where
    cut : IsCutAt t xs
    cut = cut_at t xs some

    x : Stop
    x = cut.stop

    p : List Stop
    p = before (has_ticket t) xs

    by : (q : List Stop) → behind (has_ticket t) xs ≡ q → (d : Bool)
        → ticket_of (option_or (first_item q) (cond d (first_item xs) None)) ≡ Some u
        → (1 ≤ count_of (has_ticket u) xs)
        × (previous_along d xs u ≡ Some t)
    by [] e false f = cc
    by [] e true f =
        let is : xs ≡ p ++ x ∷ [] = cut.is ∙ ap (λ q. p ++ x ∷ q) e in
        let last : last_item xs ≡ Some x = ap last_item is ∙ last-more p x in
        (head xs f, rw last (first xs f ∙ ap (λ n. Some n) cut.ticket))
      where
        head : (ys : List Stop) → ticket_of (first_item ys) ≡ Some u
            → 1 ≤ count_of (has_ticket u) ys
        head [] g = cc
        head (y ∷ ys) g = let same : y.ticket ≡ u = cc in counted_here u y ys same

        first : (ys : List Stop) → ticket_of (first_item ys) ≡ Some u
            → ticket_of (option_or (last_item (before (has_ticket u) ys)) (Some x)) ≡ Some x.ticket
        first [] g = cc
        first (y ∷ ys) g = let same : y.ticket ≡ u = cc in rw (eq-eqb y.ticket u same) refl
    by (v ∷ q) e d f =
        let ticket : v.ticket ≡ u = cc in
        let is : xs ≡ (p ++ x ∷ []) ++ v ∷ q = cut.is ∙ ap (λ ys. p ++ x ∷ ys) e
        ∙ sym (append_assoc p (x ∷ []) (v ∷ q)) in
        let counted : count_of (has_ticket u) xs
        ≡ count_of (has_ticket u) (p ++ x ∷ []) + count_of (has_ticket u) (v ∷ q) =
        ap (count_of (has_ticket u)) is ∙ parts u (p ++ x ∷ []) (v ∷ q) in
        let here = counted_here u v q ticket in
        let none : count_of (has_ticket u) (p ++ x ∷ []) ≡ 0 =
        omega (arith, counted, here, once u) in
        let front : before (has_ticket u) xs ≡ p ++ x ∷ [] = ap (before (has_ticket u)) is
        ∙ before-at u (p ++ x ∷ []) q v none ticket in
        let last : last_item (before (has_ticket u) xs) ≡ Some x = ap last_item front
        ∙ last-more p x in
        (omega (arith, counted, here), rw last (ap (λ n. Some n) cut.ticket))

precedes : (b : Bool) (xs : List Stop) (t u : ℕ) → ((s : ℕ) → count_of (has_ticket s) xs ≤ 1)
    → 1 ≤ count_of (has_ticket u) xs → previous_along b xs u ≡ Some t
    → (1 ≤ count_of (has_ticket t) xs)
    × (next_along b xs t ≡ Some u)
precedes b xs t u once some previous = by (last_split p) b previous
  where
    cut : IsCutAt u xs
    cut = cut_at u xs some

    y : Stop
    y = cut.stop

    p : List Stop
    p = before (has_ticket u) xs

    q : List Stop
    q = behind (has_ticket u) xs

    by : (p ≡ []) ⊎ HasLast p → (d : Bool)
        → ticket_of (option_or (last_item p) (cond d (last_item xs) None)) ≡ Some t
        → (1 ≤ count_of (has_ticket t) xs) × (next_along d xs t ≡ Some u)
    by (inr h) d f =
        let last : last_item p ≡ Some h.last = ap last_item h.is ∙ last-more h.front h.last in
        let given : ticket_of (option_or (Some h.last) (cond d (last_item xs) None)) ≡ Some t =
        sym (ap (λ o. ticket_of (option_or o (cond d (last_item xs) None))) last) ∙ f in
        let ticket : h.last.ticket ≡ t = cc in
        let is : xs ≡ h.front ++ h.last ∷ (y ∷ q) = cut.is ∙ ap (λ ys. ys ++ y ∷ q) h.is
        ∙ append_assoc h.front (h.last ∷ []) (y ∷ q) in
        let counted : count_of (has_ticket t) xs
        ≡ count_of (has_ticket t) h.front + count_of (has_ticket t) (h.last ∷ (y ∷ q)) =
        ap (count_of (has_ticket t)) is
        ∙ parts t h.front (h.last ∷ (y ∷ q)) in
        let here = counted_here t h.last (y ∷ q) ticket in
        let none : count_of (has_ticket t) h.front ≡ 0 = omega (arith, counted, here, once t) in
        let back : behind (has_ticket t) xs ≡ y ∷ q = ap (behind (has_ticket t)) is
        ∙ behind-at t h.front (y ∷ q) h.last none ticket in
        (omega (arith, counted, here), rw back (ap (λ n. Some n) cut.ticket))
    by (inl e) false f = let given : ticket_of (option_or (last_item []) None) ≡ Some t =
        sym (ap (λ ys. ticket_of (option_or (last_item ys) None)) e) ∙ f in cc
    by (inl e) true f = go (last_split xs)
      where
        given : ticket_of (last_item xs) ≡ Some t
        given = sym (ap (λ ys. ticket_of (option_or (last_item ys) (last_item xs))) e) ∙ f

        is : xs ≡ y ∷ q
        is = cut.is ∙ ap (λ ys. ys ++ y ∷ q) e

        go : (xs ≡ []) ⊎ HasLast xs
            → (1 ≤ count_of (has_ticket t) xs) × (next_along true xs t ≡ Some u)
        go (inl g) = let bad : y ∷ q ≡ [] = sym is ∙ g in cc
        go (inr h) =
            let last : last_item xs ≡ Some h.last = ap last_item h.is ∙ last-more h.front h.last in
            let shown : ticket_of (Some h.last) ≡ Some t = sym (ap ticket_of last) ∙ given in
            let ticket : h.last.ticket ≡ t = cc in
            let counted : count_of (has_ticket t) xs
            ≡ count_of (has_ticket t) h.front + count_of (has_ticket t) (h.last ∷ []) =
            ap (count_of (has_ticket t)) h.is ∙ parts t h.front (h.last ∷ []) in
            let here = counted_here t h.last [] ticket in
            let none : count_of (has_ticket t) h.front ≡ 0 = omega (arith, counted, here, once t) in
            let back : behind (has_ticket t) xs ≡ [] = ap (behind (has_ticket t)) h.is
            ∙ behind-at t h.front [] h.last none ticket in
            let first : first_item xs ≡ Some y = ap first_item is in
            (omega (arith, counted, here), rw (back, first) (ap (λ n. Some n) cut.ticket))

-- ---- along all routes

once_in : (s : ℕ) (routes : List Route) (r : Route) → AreWritten routes → route_of routes s ≡ Some r
    → (t : ℕ) → count_of (has_ticket t) r.stops ≤ 1
once_in s routes r written e t =
    let less = subst (λ o. IfSome o
    (λ q. (v : ℕ) → count_of (has_ticket v) q.stops
    ≤ count_of (has_ticket v) (stop_list routes))) e
    (found_in (λ q. (v : ℕ)
    → count_of (has_ticket v) q.stops ≤ count_of (has_ticket v) (stop_list routes)) (has_stop s)
    routes (counts_within routes)) in
    omega (arith, less t, written.once t)

-- a stop of a route that is found has that route
same_route : (s u : ℕ) (routes : List Route) (r : Route) → AreWritten routes
    → route_of routes s ≡ Some r → 1 ≤ count_of (has_ticket u) r.stops → route_of routes u ≡ Some r
same_route s u routes r written e some =
    let own = subst (λ o. IfSome o
    (λ q. AllByRecursion (λ t. route_of routes t.ticket ≡ Some q) q.stops)) e
    (found_in (λ q. AllByRecursion (λ t. route_of routes t.ticket ≡ Some q) q.stops) (has_stop s)
    routes (own_route routes written.once)) in
    all_at (λ n. route_of routes n ≡ Some r) u r.stops own some

pub previous-from_next : (t u : ℕ) (routes : List Route) → AreWritten routes
    → next_stop routes t ≡ Some u → previous_stop routes u ≡ Some t
previous-from_next t u routes written next = by (route_of routes t) refl
  where
    by : (o : Option Route) → route_of routes t ≡ o → previous_stop routes u ≡ Some t
    by None e = let none : next_stop routes t ≡ None = ap (option_and_then (next_in t)) e in cc
    by (Some r) e =
        let there : next_in t r ≡ Some u = sym (ap (option_and_then (next_in t)) e) ∙ next in
        let found = follows r.is_ring r.stops t u (once_in t routes r written e)
        (count-any (has_ticket t) r.stops (found_passes (has_stop t) routes r e)) there in
        ap (option_and_then (previous_in u)) (same_route t u routes r written e found.0) ∙ found.1

pub next-from_previous : (t u : ℕ) (routes : List Route) → AreWritten routes
    → previous_stop routes u ≡ Some t → next_stop routes t ≡ Some u
next-from_previous t u routes written previous = by (route_of routes u) refl
  where
    by : (o : Option Route) → route_of routes u ≡ o → next_stop routes t ≡ Some u
    by None e = let none : previous_stop routes u ≡ None = ap (option_and_then (previous_in u)) e in
        cc
    by (Some r) e =
        let there : previous_in u r ≡ Some t = sym (ap (option_and_then (previous_in u)) e)
        ∙ previous in
        let found = precedes r.is_ring r.stops t u (once_in u routes r written e)
        (count-any (has_ticket u) r.stops (found_passes (has_stop u) routes r e)) there in
        ap (option_and_then (next_in t)) (same_route u t routes r written e found.0) ∙ found.1
