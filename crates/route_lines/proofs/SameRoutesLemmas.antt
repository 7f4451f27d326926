-- Lists of routes that are written as they should be are equal where they have the same stops and
-- lead alike.
use Rattle.std.proofs.Common.{◌≡◌, ◌≢◌, ◌∙◌, sym, ap, subst, refl, Bool, true, false, ◌⊎◌}
use Rattle.std.proofs.Common.{inl, inr, ℕ, ◌<◌, ◌≤◌, List, [], ◌∷◌, ◌++◌, length, Option, Some}
use Rattle.std.proofs.Common.{None, IfSome, cond, append-nil, length-append, arith}
use Rattle.std.specs.List.{AllByRecursion}
use Rattle.std.specs.Option.{option_map_or}
use Rattle.std.proofs.lemmas.Bool.{false≢true, eq-eqb}
use Rattle.route_lines.specs.Cuts.{before, onward, first_item}
use Rattle.route_lines.specs.Leads.{head_or, Leads}
use Rattle.route_lines.specs.Routes.{has_ticket, round, has_stop, route_of, first_ticket}
use Rattle.route_lines.specs.Sound.{RoutesRise, count_of, IsWritten, AreWritten}
use Rattle.route_lines.specs.State.{Stop, Route, stop_list}
use Rattle.route_lines.specs.CutLaws.{before_onward, all_weaker, all_front, all_back, found_in}
use Rattle.route_lines.specs.CutLaws.{found_passes, total-append, count-any}
use Rattle.route_lines.proofs.LinkLemmas.{Leads-back, Leads-round, closing_of, Links, all_at}
use Rattle.route_lines.proofs.LinkLemmas.{all_both, found_if_counted, own_route, counts_within}
use Rattle.route_lines.proofs.RouteLemmas.{first_counts, all_round}
use Rattle.route_lines.proofs.WalkLemmas.{Begins, onward_begins}

-- ---- lists that lead alike

-- the place of each stop is the one that goes with its ticket
abbrev pub Fits : (ℕ → Option ℕ) → List Stop → Type 0
Fits place stops = AllByRecursion (λ t. t.place ≡ place t.ticket) stops

stop_eq : (x y : Stop) → x.ticket ≡ y.ticket → x.place ≡ y.place → x ≡ y
stop_eq x y ticket place =
    let first : x ≡ record { ticket = y.ticket; place = x.place } =
    ap (λ t. record { ticket = t; place = x.place }) ticket in
    first ∙ ap (λ p. record { ticket = y.ticket; place = p }) place

abbrev Away : Option ℕ → List Stop → Type 0
Away closing stops = AllByRecursion (λ t. Some t.ticket ≢ closing) stops

same_heads : (closing : Option ℕ) (next : ℕ → Option ℕ) (x y : Stop) (xs ys : List Stop)
    → Leads next closing (x ∷ xs) → Leads next closing (y ∷ ys) → x.ticket ≡ y.ticket
    → head_or closing xs ≡ head_or closing ys
same_heads closing next x y xs ys h k e = sym h.0 ∙ ap next e ∙ k.0

-- lists that begin alike, and come to their closing at their end alone
same_walk : (next place : ℕ → Option ℕ) (closing : Option ℕ) (xs ys : List Stop)
    → Leads next closing xs → Leads next closing ys → Away closing xs → Away closing ys
    → Fits place xs
    → Fits place ys → head_or closing xs ≡ head_or closing ys → xs ≡ ys
same_walk next place closing [] [] h k a b f g e = refl
same_walk next place closing [] (y ∷ ys) h k a b f g e = absurd (b.0 (sym e))
same_walk next place closing (x ∷ xs) [] h k a b f g e = absurd (a.0 e)
same_walk next place closing (x ∷ xs) (y ∷ ys) h k a b f g e =
    let ticket : x.ticket ≡ y.ticket = cc in
    let stop : x ≡ y = stop_eq x y ticket (f.0 ∙ ap place ticket ∙ sym g.0) in
    let rest : xs ≡ ys = same_walk next place closing xs ys h.1 k.1 a.1 b.1 f.1 g.1
    (same_heads closing next x y xs ys h k ticket) in
    ap (λ z. z ∷ xs) stop ∙ ap (λ zs. y ∷ zs) rest

-- a list that ends, and one that goes on at its first stop, do not begin alike
ends_or_goes_on : (next : ℕ → Option ℕ) (s : ℕ) (xs ys : List Stop) → Leads next None xs
    → Leads next (Some s) ys → Away (Some s) xs → head_or None xs ≡ head_or (Some s) ys → ⊥
ends_or_goes_on next s [] [] h k a e = cc
ends_or_goes_on next s [] (y ∷ ys) h k a e = cc
ends_or_goes_on next s (x ∷ xs) [] h k a e = a.0 e
ends_or_goes_on next s (x ∷ xs) (y ∷ ys) h k a e =
    let ticket : x.ticket ≡ y.ticket = cc in
    ends_or_goes_on next s xs ys h.1 k.1 a.1 (sym h.0 ∙ ap next ticket ∙ k.0)

-- behind the one stop with a ticket there is none with it
away_from_first : (x : Stop) (xs : List Stop) → count_of (has_ticket x.ticket) (x ∷ xs) ≤ 1
    → Away (Some x.ticket) xs
away_from_first x xs once =
    away xs (omega (arith, once, ap {B = ℕ} (λ b. cond b 1 0) (eq-eqb x.ticket x.ticket refl)))
  where
    away : (ys : List Stop) → count_of (has_ticket x.ticket) ys ≡ 0 → Away (Some x.ticket) ys
    away [] none = tt
    away (y ∷ ys) none = (
      λ e. let same : y.ticket ≡ x.ticket = cc in
          omega (arith, none, ap {B = ℕ} (λ b. cond b 1 0) (eq-eqb y.ticket x.ticket same)),
      away ys (omega (arith, none)),
    )

-- ---- one route in two lists of routes

-- what is known of a route
record IsKnown (next place : ℕ → Option ℕ) (r : Route) : Type 0 where
  leads : Leads next (closing_of r) r.stops
  fits : Fits place r.stops
  once : (s : ℕ) → count_of (has_ticket s) r.stops ≤ 1
  written : IsWritten r

begins_first : (r : Route) → IsWritten r → Begins (first_ticket r) r.stops
begins_first r is = at r.stops is.some
  where
    at : (xs : List Stop) → 0 < length xs
        → Begins (option_map_or (λ t. t.ticket) (first_item xs) 0) xs
    at [] some = absurd (omega (arith, some))
    at (x ∷ xs) some = record { first = x; rest = xs; is = refl; ticket = refl }

-- two lists that begin alike, where both end or both go on at their first stop
same_lists : (next place : ℕ → Option ℕ) (s : ℕ) (closing : Option ℕ) (xs ys : List Stop)
    → Begins s xs → Begins s ys → Leads next closing xs → Leads next closing ys → Fits place xs
    → Fits place ys
    → ((t : ℕ) → count_of (has_ticket t) xs ≤ 1) → ((t : ℕ) → count_of (has_ticket t) ys ≤ 1)
    → (closing ≡ None) ⊎ (closing ≡ Some s) → xs ≡ ys
same_lists next place s closing xs ys b d h k f g once other which = b.is ∙ whole ∙ sym d.is
  where
    one : Leads next closing (b.first ∷ b.rest)
    one = subst (Leads next closing) b.is h

    two : Leads next closing (d.first ∷ d.rest)
    two = subst (Leads next closing) d.is k

    fit : Fits place (b.first ∷ b.rest)
    fit = subst (Fits place) b.is f

    fat : Fits place (d.first ∷ d.rest)
    fat = subst (Fits place) d.is g

    ticket : b.first.ticket ≡ d.first.ticket
    ticket = b.ticket ∙ sym d.ticket

    away : (x : Stop) (zs : List Stop) → x.ticket ≡ s → count_of (has_ticket x.ticket) (x ∷ zs) ≤ 1
        → (closing ≡ None) ⊎ (closing ≡ Some s) → Away closing zs
    away x zs e few (inl ends) = none zs
      where
        none : (ws : List Stop) → Away closing ws
        none [] = tt
        none (w ∷ ws) = (λ c. let bad : Some w.ticket ≡ None = c ∙ ends in cc, none ws)
    away x zs e few (inr turns) =
        subst (λ c. Away c zs) (ap (λ n. Some n) e ∙ sym turns) (away_from_first x zs few)

    rest : b.rest ≡ d.rest
    rest =
        same_walk next place closing b.rest d.rest one.1 two.1
        (away b.first b.rest b.ticket
        (subst (λ zs. count_of (has_ticket b.first.ticket) zs ≤ 1) b.is (once b.first.ticket))
        which)
        (away d.first d.rest d.ticket
        (subst (λ zs. count_of (has_ticket d.first.ticket) zs ≤ 1) d.is (other d.first.ticket))
        which)
        fit.1 fat.1 (same_heads closing next b.first d.first b.rest d.rest one two ticket)

    whole : b.first ∷ b.rest ≡ d.first ∷ d.rest
    whole = ap (λ z. z ∷ b.rest)
        (stop_eq b.first d.first ticket (fit.0 ∙ ap place ticket ∙ sym fat.0))
        ∙ ap (λ zs. d.first ∷ zs) rest

never_alike : (next : ℕ → Option ℕ) (s : ℕ) (xs ys : List Stop) → Begins s xs → Begins s ys
    → Leads next None xs → Leads next (Some s) ys → ((t : ℕ) → count_of (has_ticket t) xs ≤ 1) → ⊥
never_alike next s xs ys b d h k once =
    let one = subst (Leads next None) b.is h in
    let two = subst (Leads next (Some s)) d.is k in
    let few = subst (λ zs. count_of (has_ticket b.first.ticket) zs ≤ 1) b.is (once b.first.ticket)
    in
    ends_or_goes_on next s b.rest d.rest one.1 two.1
    (subst (λ n. Away (Some n) b.rest) b.ticket (away_from_first b.first b.rest few))
    (sym one.0 ∙ ap next (b.ticket ∙ sym d.ticket) ∙ two.0)

-- a part of a list with each ticket once has each once
once_back : (xs ys : List Stop) → ((s : ℕ) → count_of (has_ticket s) (xs ++ ys) ≤ 1) → (s : ℕ)
    → count_of (has_ticket s) ys ≤ 1
once_back xs ys once s = omega (arith, once s, total-append (λ t. cond (has_ticket s t) 1 0) xs ys)

once_round : (s : ℕ) (xs : List Stop) → ((t : ℕ) → count_of (has_ticket t) xs ≤ 1) → (t : ℕ)
    → count_of (has_ticket t) (round s xs) ≤ 1
once_round s xs once t =
    omega (
      arith,
      once t,
      total-append (λ u. cond (has_ticket t u) 1 0) (onward (has_ticket s) xs)
          (before (has_ticket s) xs),
      total-append (λ u. cond (has_ticket t u) 1 0) (before (has_ticket s) xs)
          (onward (has_ticket s) xs),
      ap (count_of (has_ticket t)) (before_onward (has_ticket s) xs),
    )

begins_round : (s : ℕ) (xs : List Stop) → 1 ≤ count_of (has_ticket s) xs → Begins s (round s xs)
begins_round s xs some =
    let b = onward_begins s xs some in
    record {
      first = b.first;
      rest = b.rest ++ before (has_ticket s) xs;
      is = ap (λ zs. zs ++ before (has_ticket s) xs) b.is;
      ticket = b.ticket;
    }

head_begins : (s : ℕ) (xs : List Stop) → Begins s xs → head_or None xs ≡ Some s
head_begins s xs b = ap (head_or None) b.is ∙ ap (λ n. Some n) b.ticket

-- two routes that lead alike and share the first stop of one of them: both are linear, or both are
-- rings
record Alike (r q : Route) : Type 0 where
  kind : r.is_ring ≡ q.is_ring
  -- a linear route goes on from there as the other does
  line : r.is_ring ≡ false → r.stops ≡ onward (has_ticket (first_ticket r)) q.stops
  circle : r.is_ring ≡ true → r.stops ≡ q.stops

alike : (next place : ℕ → Option ℕ) (r q : Route) → IsKnown next place r → IsKnown next place q
    → 1 ≤ count_of (has_ticket (first_ticket r)) q.stops → Alike r q
alike next place r q known other has = at r.is_ring q.is_ring refl refl
  where
    s : ℕ
    s = first_ticket r

    begin : Begins s r.stops
    begin = begins_first r known.written

    closes : (b : Bool) (o : Route) → o.is_ring ≡ b
        → closing_of o ≡ cond b (head_or None o.stops) None
    closes b o e = ap (λ c. cond c (head_or None o.stops) None) e

    -- the other route from that stop on
    onward_leads : q.is_ring ≡ false → Leads next None (onward (has_ticket s) q.stops)
    onward_leads e =
        Leads-back next None (before (has_ticket s) q.stops) (onward (has_ticket s) q.stops)
        (subst (Leads next None) (sym (before_onward (has_ticket s) q.stops))
        (subst (λ c. Leads next c q.stops) (closes false q e) other.leads))

    round_leads : q.is_ring ≡ true → Leads next (Some s) (round s q.stops)
    round_leads e =
        subst (λ c. Leads next c (round s q.stops))
        (head_begins s (round s q.stops) (begins_round s q.stops has))
        (Leads-round next s q.stops
        (subst (λ c. Leads next c q.stops) (closes true q e) other.leads))

    own_line : r.is_ring ≡ false → Leads next None r.stops
    own_line e = subst (λ c. Leads next c r.stops) (closes false r e) known.leads

    own_ring : r.is_ring ≡ true → Leads next (Some s) r.stops
    own_ring e = subst (λ c. Leads next c r.stops) (closes true r e ∙ head_begins s r.stops begin)
        known.leads

    onward_once : (t : ℕ) → count_of (has_ticket t) (onward (has_ticket s) q.stops) ≤ 1
    onward_once = once_back (before (has_ticket s) q.stops) (onward (has_ticket s) q.stops)
        (λ t. subst (λ zs. count_of (has_ticket t) zs ≤ 1)
        (sym (before_onward (has_ticket s) q.stops)) (other.once t))

    onward_fits : Fits place (onward (has_ticket s) q.stops)
    onward_fits =
        all_back (λ t. t.place ≡ place t.ticket) (before (has_ticket s) q.stops)
        (onward (has_ticket s) q.stops)
        (subst (Fits place) (sym (before_onward (has_ticket s) q.stops)) other.fits)

    -- in a ring the first ticket of the other route is the same one, since both are the smallest
    from_start : q.is_ring ≡ true → r.is_ring ≡ true → r.stops ≡ round s q.stops → r.stops ≡ q.stops
    from_start e d same = same ∙ go q.stops begins_q refl
      where
        first : first_ticket q ≡ s
        first =
            let low : first_ticket q ≤ s =
            all_at (λ t. first_ticket q ≤ t) s q.stops (other.written.from_smallest e) has in
            let counted : 1 ≤ count_of (has_ticket (first_ticket q)) r.stops =
            subst (λ zs. 1 ≤ count_of (has_ticket (first_ticket q)) zs) (sym same)
            (round_has (first_ticket q) q.stops (first_counts q.stops other.written.some)) in
            let high : s ≤ first_ticket q =
            all_at (λ t. s ≤ t) (first_ticket q) r.stops (known.written.from_smallest d) counted
            in
            omega (arith, low, high)
          where
            round_has : (t : ℕ) (xs : List Stop) → 1 ≤ count_of (has_ticket t) xs
                → 1 ≤ count_of (has_ticket t) (round s xs)
            round_has t xs some =
                omega (
                  arith,
                  some,
                  total-append (λ u. cond (has_ticket t u) 1 0) (onward (has_ticket s) xs)
                      (before (has_ticket s) xs),
                  total-append (λ u. cond (has_ticket t u) 1 0) (before (has_ticket s) xs)
                      (onward (has_ticket s) xs),
                  ap (count_of (has_ticket t)) (before_onward (has_ticket s) xs),
                )

        begins_q : Begins s q.stops
        begins_q = subst (λ n. Begins n q.stops) first (begins_first q other.written)

        go : (xs : List Stop) → Begins s xs → xs ≡ q.stops → round s xs ≡ xs
        go [] b e = cc
        go (x ∷ xs) b e =
            let ticket : x.ticket ≡ s = let f : x ≡ b.first = cc in ap (λ t. t.ticket) f
            ∙ b.ticket in
            rw (eq-eqb x.ticket s ticket) (append-nil (x ∷ xs))

    at : (b d : Bool) → r.is_ring ≡ b → q.is_ring ≡ d → Alike r q
    at false false e f = record {
      kind = e ∙ sym f;
      line = λ g. same_lists next place s None r.stops (onward (has_ticket s) q.stops) begin
          (onward_begins s q.stops has) (own_line e) (onward_leads f) known.fits onward_fits
          known.once
          onward_once (inl refl);
      circle = λ g. absurd (false≢true (sym e ∙ g));
    }
    at false true e f = absurd
        (never_alike next s r.stops (round s q.stops) begin (begins_round s q.stops has)
        (own_line e) (round_leads f) known.once)
    at true false e f = absurd
        (never_alike next s (onward (has_ticket s) q.stops) r.stops (onward_begins s q.stops has)
        begin (onward_leads f) (own_ring e) onward_once)
    at true true e f = record {
      kind = e ∙ sym f;
      line = λ g. absurd (false≢true (sym g ∙ e));
      circle = λ g. from_start f e
          (same_lists next place s (Some s) r.stops (round s q.stops) begin
          (begins_round s q.stops has) (own_ring e) (round_leads f) known.fits
          (all_round (λ t. t.place ≡ place t.ticket) s q.stops other.fits) known.once
          (once_round s q.stops other.once) (inr refl));
    }

-- ---- all routes

route_eq : (r q : Route) → r.is_ring ≡ q.is_ring → r.stops ≡ q.stops → r ≡ q
route_eq r q kind stops =
    let first : r ≡ record { is_ring = q.is_ring; stops = r.stops } =
    ap (λ b. record { is_ring = b; stops = r.stops }) kind in
    first ∙ ap (λ xs. record { is_ring = q.is_ring; stops = xs }) stops

known_each : (next place : ℕ → Option ℕ) (routes : List Route) → Links next routes
    → Fits place (stop_list routes) → AllByRecursion IsWritten routes
    → AllByRecursion (λ r. (s : ℕ) → count_of (has_ticket s) r.stops ≤ 1) routes
    → AllByRecursion (IsKnown next place) routes
known_each next place [] links fits written once = tt
known_each next place (r ∷ routes) links fits written once = (
  record {
    leads = links.0;
    fits = all_front (λ t. t.place ≡ place t.ticket) r.stops (stop_list routes) fits;
    once = once.0;
    written = written.0;
  },
  known_each next place routes links.1
      (all_back (λ t. t.place ≡ place t.ticket) r.stops (stop_list routes) fits) written.1 once.1,
)

-- what is known of a list of routes
record AreKnown (next place : ℕ → Option ℕ) (routes : List Route) : Type 0 where
  written : AreWritten routes
  links : Links next routes
  fits : Fits place (stop_list routes)

known_in : (next place : ℕ → Option ℕ) (routes : List Route) → AreKnown next place routes
    → AllByRecursion (IsKnown next place) routes
known_in next place routes k =
    known_each next place routes k.links k.fits k.written.each
    (all_weaker (λ r. (s : ℕ)
    → count_of (has_ticket s) r.stops ≤ count_of (has_ticket s) (stop_list routes))
    (λ r. (s : ℕ) → count_of (has_ticket s) r.stops ≤ 1) routes
    (λ r less s. omega (arith, less s, k.written.once s)) (counts_within routes))

-- what holds of each route holds of one that is found
of_found : (P : Route → Type 0) (s : ℕ) (routes : List Route) (r : Route) → AllByRecursion P routes
    → route_of routes s ≡ Some r → P r
of_found P s routes r each e = subst (λ o. IfSome o P) e (found_in P (has_stop s) routes each)

has_found : (s : ℕ) (routes : List Route) (r : Route) → route_of routes s ≡ Some r
    → 1 ≤ count_of (has_ticket s) r.stops
has_found s routes r e = count-any (has_ticket s) r.stops (found_passes (has_stop s) routes r e)

-- a linear route that goes on as another does, which goes on as it does, is that one
same_stops : (s u : ℕ) (xs ys : List Stop) → xs ≡ onward (has_ticket s) ys
    → ys ≡ onward (has_ticket u) xs → xs ≡ ys
same_stops s u xs ys e f = by (before (has_ticket s) ys) refl
  where
    whole : before (has_ticket s) ys ++ xs ≡ ys
    whole = ap (λ zs. before (has_ticket s) ys ++ zs) e ∙ before_onward (has_ticket s) ys

    back : before (has_ticket u) xs ++ ys ≡ xs
    back = ap (λ zs. before (has_ticket u) xs ++ zs) f ∙ before_onward (has_ticket u) xs

    by : (zs : List Stop) → before (has_ticket s) ys ≡ zs → xs ≡ ys
    by [] g = ap (λ ws. ws ++ xs) (sym g) ∙ whole
    by (z ∷ zs) g =
        absurd (omega (
          arith,
          ap length whole,
          length-append (before (has_ticket s) ys) xs,
          ap length back,
          length-append (before (has_ticket u) xs) ys,
          ap length g,
        ))

-- each route of one list is found in the other
member : (next place : ℕ → Option ℕ) (routes others : List Route) → AreKnown next place routes
    → AreKnown next place others
    → ((s : ℕ) → count_of (has_ticket s) (stop_list routes)
    ≡ count_of (has_ticket s) (stop_list others))
    → AllByRecursion (λ r. route_of others (first_ticket r) ≡ Some r) routes
member next place routes others k o same =
    all_weaker _ (λ r. route_of others (first_ticket r) ≡ Some r) routes
    (λ r h. one r h.0 h.1.0 h.1.1)
    (all_both _ _ routes (known_in next place routes k)
    (all_both _ _ routes (own_route routes k.written.once) (counts_within routes)))
  where
    one : (r : Route) → IsKnown next place r
        → AllByRecursion (λ t. route_of routes t.ticket ≡ Some r) r.stops
        → ((s : ℕ) → count_of (has_ticket s) r.stops ≤ count_of (has_ticket s) (stop_list routes))
        → route_of others (first_ticket r) ≡ Some r
    one r known own less = by (found_if_counted s others (omega (arith, first, less s, same s)))
      where
        s : ℕ
        s = first_ticket r

        first : 1 ≤ count_of (has_ticket s) r.stops
        first = first_counts r.stops known.written.some

        by : (q : Route) × (route_of others s ≡ Some q) → route_of others s ≡ Some r
        by f = at r.is_ring refl
          where
            q : Route
            q = f.0

            other : IsKnown next place q
            other = of_found (IsKnown next place) s others q (known_in next place others o) f.1

            has : 1 ≤ count_of (has_ticket s) q.stops
            has = has_found s others q f.1

            pair : Alike r q
            pair = alike next place r q known other has

            finish : r.stops ≡ q.stops → route_of others s ≡ Some r
            finish e = f.1 ∙ ap (λ x. Some x) (sym (route_eq r q pair.kind e))

            at : (b : Bool) → r.is_ring ≡ b → route_of others s ≡ Some r
            at true e = finish (pair.circle e)
            at false e = back (found_if_counted u routes
                (omega (
                  arith,
                  start,
                  same u,
                  of_found
                      (λ x. (t : ℕ) → count_of (has_ticket t) x.stops
                      ≤ count_of (has_ticket t) (stop_list others)) s others q
                      (counts_within others)
                      f.1 u,
                )))
              where
                u : ℕ
                u = first_ticket q

                start : 1 ≤ count_of (has_ticket u) q.stops
                start = first_counts q.stops other.written.some

                back : (p : Route) × (route_of routes u ≡ Some p) → route_of others s ≡ Some r
                back g =
                    let p : Route = g.0 in
                    let third : IsKnown next place p =
                    of_found (IsKnown next place) u routes p (known_in next place routes k) g.1
                    in
                    let again : Alike q p =
                    alike next place q p other third (has_found u routes p g.1) in
                    let line : q.stops ≡ onward (has_ticket u) p.stops =
                    again.line (sym pair.kind ∙ e) in
                    let in_p : 1 ≤ count_of (has_ticket s) p.stops =
                    omega (
                      arith,
                      has,
                      ap (count_of (has_ticket s)) line,
                      total-append (λ t. cond (has_ticket s t) 1 0) (before (has_ticket u) p.stops)
                          (onward (has_ticket u) p.stops),
                      ap (count_of (has_ticket s)) (before_onward (has_ticket u) p.stops),
                    ) in
                    let to_p : route_of routes s ≡ Some p =
                    all_at (λ t. route_of routes t ≡ Some p) s p.stops
                    (of_found (λ x. AllByRecursion (λ t. route_of routes t.ticket ≡ Some x) x.stops)
                    u routes p (own_route routes k.written.once) g.1) in_p in
                    let to_r : route_of routes s ≡ Some r =
                    all_at (λ t. route_of routes t ≡ Some r) s r.stops own first in
                    let is : p ≡ r = cc in
                    finish (same_stops s u r.stops q.stops (pair.line e)
                    (line ∙ ap (λ x. onward (has_ticket u) x.stops) is))

-- lists in the order of their first tickets, each of whose routes is found in the other
sorted_same : (routes others : List Route) → RoutesRise routes → RoutesRise others
    → AllByRecursion (λ r. route_of others (first_ticket r) ≡ Some r) routes
    → AllByRecursion (λ q. route_of routes (first_ticket q) ≡ Some q) others → routes ≡ others
sorted_same [] [] h k a b = refl
sorted_same [] (q ∷ others) h k a b = cc
sorted_same (r ∷ routes) [] h k a b = cc
sorted_same (r ∷ routes) (q ∷ others) h k a b =
    let same = first (has_stop (first_ticket r) q) (has_stop (first_ticket q) r) a.0 b.0 in
    let tails : routes ≡ others = sorted_same routes others h.1 k.1
    (all_weaker _ (λ x. route_of others (first_ticket x) ≡ Some x) routes (λ x g. tail q others x
    (λ e. let bad : first_ticket q ≡ first_ticket x = ap first_ticket e in
    omega (arith, bad, ap first_ticket same, g.0)) g.1)
    (all_both (λ x. first_ticket r < first_ticket x) _ routes h.0 a.1))
    (all_weaker _ (λ x. route_of routes (first_ticket x) ≡ Some x) others (λ x g. tail r routes x
    (λ e. let bad : first_ticket r ≡ first_ticket x = ap first_ticket e in
    omega (arith, bad, ap first_ticket same, g.0)) g.1)
    (all_both (λ x. first_ticket q < first_ticket x) _ others k.0 b.1)) in
    ap (λ x. x ∷ routes) same ∙ ap (λ xs. q ∷ xs) tails
  where
    behind : (x : Route) (xs : List Route) (y : Route)
        → AllByRecursion (λ z. first_ticket x < first_ticket z) xs
        → route_of xs (first_ticket y) ≡ Some y → first_ticket x < first_ticket y
    behind x xs y rise e =
        of_found (λ z. first_ticket x < first_ticket z) (first_ticket y) xs y rise e

    first : (b d : Bool) → cond b (Some q) (route_of others (first_ticket r)) ≡ Some r
        → cond d (Some r) (route_of routes (first_ticket q)) ≡ Some q → r ≡ q
    first true d e f = cc
    first false true e f = cc
    first false false e f = absurd (omega (arith, behind q others r k.0 e, behind r routes q h.0 f))

    tail : (x : Route) (xs : List Route) (y : Route) → (x ≡ y → ⊥)
        → route_of (x ∷ xs) (first_ticket y) ≡ Some y → route_of xs (first_ticket y) ≡ Some y
    tail x xs y apart e = go (has_stop (first_ticket y) x) e
      where
        go : (b : Bool) → cond b (Some x) (route_of xs (first_ticket y)) ≡ Some y
            → route_of xs (first_ticket y) ≡ Some y
        go true g = let is : x ≡ y = cc in absurd (apart is)
        go false g = g

pub same_routes : (next place : ℕ → Option ℕ) (routes others : List Route) → AreWritten routes
    → AreWritten others → Links next routes → Links next others → Fits place (stop_list routes)
    → Fits place (stop_list others)
    → ((s : ℕ) → count_of (has_ticket s) (stop_list routes)
    ≡ count_of (has_ticket s) (stop_list others)) → routes ≡ others
same_routes next place routes others written other links leads fits fit same =
    let one : AreKnown next place routes =
    record { written = written; links = links; fits = fits } in
    let two : AreKnown next place others = record { written = other; links = leads; fits = fit } in
    sorted_same routes others written.rise other.rise (member next place routes others one two same)
    (member next place others routes two one (λ s. sym (same s)))
