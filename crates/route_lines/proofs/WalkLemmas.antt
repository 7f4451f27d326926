-- A walk is known by which stop leads to which.
use Rattle.std.proofs.Common.{◌≡◌, ◌≢◌, ◌∙◌, sym, ap, subst, refl, Bool, true, false, ◌==◌, ℕ, ◌+◌}
use Rattle.std.proofs.Common.{◌≤◌, List, [], ◌∷◌, ◌++◌, Option, Some, None, IfSome, cond, find}
use Rattle.std.proofs.Common.{reverse, arith}
use Rattle.std.specs.List.{AllByRecursion}
use Rattle.std.specs.Option.{option_map_or}
use Rattle.std.proofs.lemmas.Bool.{eq-eqb, eqb-true, ne_eqb}
use Rattle.route_lines.specs.Cuts.{before, onward}
use Rattle.route_lines.specs.Leads.{head_or, Leads, AreOnRoutes, IsOpenList, IsRound}
use Rattle.route_lines.specs.Routes.{has_ticket, round, has_stop, next_stop, route_of, walk_in}
use Rattle.route_lines.specs.Routes.{walk_from}
use Rattle.route_lines.specs.Sound.{count_of, AreWritten, IsSound}
use Rattle.route_lines.specs.State.{State, Stop, Route, stop_list, stop_of}
use Rattle.route_lines.specs.CutLaws.{before_onward, all_weaker, all_back, found_in, found_passes}
use Rattle.route_lines.specs.CutLaws.{total-append, count-any, found_counted}
use Rattle.route_lines.proofs.LinkLemmas.{Leads-back, Leads-round, closing_of, Links-next_stop}
use Rattle.route_lines.proofs.LinkLemmas.{all_both, all_counted, found_if_counted, own_route}
use Rattle.route_lines.proofs.RelinkLemmas.{is_ticket, leads_to, starts_if_none_leads, starts_parts}
use Rattle.route_lines.proofs.RouteLemmas.{all_stops_with, all_round, total-round, with_found}

-- ---- lists that lead alike

one_stop : (routes : List Route) (x y : Stop) → stop_of routes x.ticket ≡ Some x
    → stop_of routes y.ticket ≡ Some y → x.ticket ≡ y.ticket → x ≡ y
one_stop routes x y known other same = let both : Some x ≡ Some y = sym known
    ∙ ap (stop_of routes) same ∙ other in cc

own_stops : (xs : List Stop) → ((k : ℕ) → count_of (has_ticket k) xs ≤ 1)
    → AllByRecursion (λ x. find (has_ticket x.ticket) xs ≡ Some x) xs
own_stops [] once = tt
own_stops (y ∷ ys) once = (
  ap (λ b. cond b (Some y) (find (has_ticket y.ticket) ys)) (eq-eqb y.ticket y.ticket refl),
  all_weaker (λ x. (1 ≤ count_of (has_ticket x.ticket) ys)
      × (find (has_ticket x.ticket) ys ≡ Some x))
      (λ x. find (has_ticket x.ticket) (y ∷ ys) ≡ Some x) ys
      (λ x h. ap (λ b. cond b (Some y) (find (has_ticket x.ticket) ys)) (ne_eqb y.ticket x.ticket
      (λ same. omega (
        arith,
        once x.ticket,
        h.0,
        ap {B = ℕ} (λ b. cond b 1 0) (eq-eqb y.ticket x.ticket same),
      ))) ∙ h.1)
      (all_both (λ x. 1 ≤ count_of (has_ticket x.ticket) ys)
      (λ x. find (has_ticket x.ticket) ys ≡ Some x) ys (all_counted ys)
      (own_stops ys (λ k. omega (arith, once k)))),
)

-- two that end are one
one_to_end : (next : ℕ → Option ℕ) (routes : List Route) (xs ys : List Stop) → Leads next None xs
    → Leads next None ys → AreOnRoutes routes xs → AreOnRoutes routes ys
    → head_or None xs ≡ head_or None ys → xs ≡ ys
one_to_end next routes [] [] h k known other e = refl
one_to_end next routes [] (y ∷ ys) h k known other e = cc
one_to_end next routes (x ∷ xs) [] h k known other e = cc
one_to_end next routes (x ∷ xs) (y ∷ ys) h k known other e =
    let ticket : x.ticket ≡ y.ticket = cc in
    let one : x ≡ y = one_stop routes x y known.0 other.0 ticket in
    ap (λ z. z ∷ xs) one ∙ ap (λ zs. y ∷ zs)
    (one_to_end next routes xs ys h.1 k.1 known.1 other.1 (sym h.0 ∙ ap next ticket ∙ k.0))

-- two that close at a ticket that neither has are one
one_round : (next : ℕ → Option ℕ) (routes : List Route) (c : ℕ) (xs ys : List Stop)
    → Leads next (Some c) xs → Leads next (Some c) ys → AreOnRoutes routes xs
    → AreOnRoutes routes ys
    → count_of (has_ticket c) xs ≡ 0 → count_of (has_ticket c) ys ≡ 0
    → head_or (Some c) xs ≡ head_or (Some c) ys → xs ≡ ys
one_round next routes c [] [] h k known other off lacks e = refl
one_round next routes c [] (y ∷ ys) h k known other off lacks e =
    absurd (let same : y.ticket ≡ c = cc in
    omega (arith, lacks, ap {B = ℕ} (λ b. cond b 1 0) (eq-eqb y.ticket c same)))
one_round next routes c (x ∷ xs) [] h k known other off lacks e =
    absurd (let same : x.ticket ≡ c = cc in
    omega (arith, off, ap {B = ℕ} (λ b. cond b 1 0) (eq-eqb x.ticket c same)))
one_round next routes c (x ∷ xs) (y ∷ ys) h k known other off lacks e =
    let ticket : x.ticket ≡ y.ticket = cc in
    let one : x ≡ y = one_stop routes x y known.0 other.0 ticket in
    ap (λ z. z ∷ xs) one ∙ ap (λ zs. y ∷ zs)
    (one_round next routes c xs ys h.1 k.1 known.1 other.1 (omega (arith, off))
    (omega (arith, lacks)) (sym h.0 ∙ ap next ticket ∙ k.0))

-- none that ends leads as one that closes
never_both : (next : ℕ → Option ℕ) (c : ℕ) (xs ys : List Stop) → Leads next None xs
    → Leads next (Some c) ys → count_of (has_ticket c) xs ≡ 0
    → head_or None xs ≡ head_or (Some c) ys → ⊥
never_both next c [] [] h k off e = cc
never_both next c [] (y ∷ ys) h k off e = cc
never_both next c (x ∷ xs) [] h k off e = let same : x.ticket ≡ c = cc in
    omega (arith, off, ap {B = ℕ} (λ b. cond b 1 0) (eq-eqb x.ticket c same))
never_both next c (x ∷ xs) (y ∷ ys) h k off e =
    let ticket : x.ticket ≡ y.ticket = cc in
    never_both next c xs ys h.1 k.1 (omega (arith, off)) (sym h.0 ∙ ap next ticket ∙ k.0)

-- ---- a list cut at a stop

module _ (t : Stop) where
  before_at : (front behind : List Stop) → count_of (has_ticket t.ticket) front ≡ 0
      → before (has_ticket t.ticket) (front ++ t ∷ behind) ≡ front
  before_at [] behind off =
      ap (λ b. cond b [] (t ∷ before (has_ticket t.ticket) behind)) (eq-eqb t.ticket t.ticket refl)
  before_at (x ∷ front) behind off = at (x.ticket == t.ticket) refl (before_at front behind)
    where
      at : (b : Bool) → (x.ticket == t.ticket) ≡ b
          → (count_of (has_ticket t.ticket) front ≡ 0
          → before (has_ticket t.ticket) (front ++ t ∷ behind) ≡ front)
          → cond b [] (x ∷ before (has_ticket t.ticket) (front ++ t ∷ behind)) ≡ x ∷ front
      at true e later = absurd (omega (arith, off, ap {B = ℕ} (λ b. cond b 1 0) e))
      at false e later = ap (λ xs. x ∷ xs)
          (later (omega (arith, off, ap {B = ℕ} (λ b. cond b 1 0) e)))

  onward_at : (front behind : List Stop) → count_of (has_ticket t.ticket) front ≡ 0
      → onward (has_ticket t.ticket) (front ++ t ∷ behind) ≡ t ∷ behind
  onward_at [] behind off =
      ap (λ b. cond b (t ∷ behind) (onward (has_ticket t.ticket) behind))
      (eq-eqb t.ticket t.ticket refl)
  onward_at (x ∷ front) behind off = at (x.ticket == t.ticket) refl (onward_at front behind)
    where
      at : (b : Bool) → (x.ticket == t.ticket) ≡ b
          → (count_of (has_ticket t.ticket) front ≡ 0
          → onward (has_ticket t.ticket) (front ++ t ∷ behind) ≡ t ∷ behind)
          → cond b (x ∷ front ++ t ∷ behind) (onward (has_ticket t.ticket) (front ++ t ∷ behind))
          ≡ t ∷ behind
      at true e later = absurd (omega (arith, off, ap {B = ℕ} (λ b. cond b 1 0) e))
      at false e later = later (omega (arith, off, ap {B = ℕ} (λ b. cond b 1 0) e))

-- a list that begins with the stop that has the ticket
pub record Begins (s : ℕ) (xs : List Stop) : Type 0 where
  pub first : Stop
  pub rest : List Stop
  pub is : xs ≡ first ∷ rest
  pub ticket : first.ticket ≡ s

pub onward_begins : (s : ℕ) (xs : List Stop) → 1 ≤ count_of (has_ticket s) xs
    → Begins s (onward (has_ticket s) xs)
onward_begins s [] some = absurd (omega (arith, some))
onward_begins s (x ∷ xs) some = at (x.ticket == s) refl (onward_begins s xs)
  where
    at : (b : Bool) → (x.ticket == s) ≡ b
        → (1 ≤ count_of (has_ticket s) xs → Begins s (onward (has_ticket s) xs))
        → Begins s (cond b (x ∷ xs) (onward (has_ticket s) xs))
    at true e later = record { first = x; rest = xs; is = refl; ticket = eqb-true x.ticket s e }
    at false e later = later (omega (arith, some, ap {B = ℕ} (λ b. cond b 1 0) e))

-- ---- the route of a stop

record Standing (routes : List Route) (s : ℕ) : Type 0 where
  route : Route
  found : route_of routes s ≡ Some route
  known : AreOnRoutes routes route.stops
  leads : Leads (next_stop routes) (closing_of route) route.stops
  own : AllByRecursion (λ t. route_of routes t.ticket ≡ Some route) route.stops
  once : (k : ℕ) → count_of (has_ticket k) route.stops ≤ 1
  has : 1 ≤ count_of (has_ticket s) route.stops

count_with : (k : ℕ) (s : ℕ) (routes : List Route)
    → count_of (has_ticket k) (option_map_or (λ r. r.stops) (route_of routes s) [])
    ≤ count_of (has_ticket k) (stop_list routes)
count_with k s [] = omega arith
count_with k s (r ∷ routes) = at (has_stop s r) (count_with k s routes)
  where
    parts : count_of (has_ticket k) (stop_list (r ∷ routes))
        ≡ count_of (has_ticket k) r.stops + count_of (has_ticket k) (stop_list routes)
    parts = total-append (λ t. cond (has_ticket k t) 1 0) r.stops (stop_list routes)

    at : (b : Bool) → count_of (has_ticket k) (option_map_or (λ r. r.stops) (route_of routes s) [])
        ≤ count_of (has_ticket k) (stop_list routes)
        → count_of (has_ticket k)
        (option_map_or (λ r. r.stops) (cond b (Some r) (route_of routes s)) [])
        ≤ count_of (has_ticket k) (stop_list (r ∷ routes))
    at true h = omega (arith, parts)
    at false h = omega (arith, parts, h)

standing : (routes : List Route) (s : ℕ) → AreWritten routes
    → 1 ≤ count_of (has_ticket s) (stop_list routes) → Standing routes s
standing routes s written some = of (found_if_counted s routes some)
  where
    of : (r : Route) × (route_of routes s ≡ Some r) → Standing routes s
    of f =
        let same : f.0.stops ≡ option_map_or (λ r. r.stops) (route_of routes s) [] =
        with_found s routes f.0 f.1 in
        record {
          route = f.0;
          found = f.1;
          known = subst (AreOnRoutes routes) (sym same)
              (all_stops_with (λ x. stop_of routes x.ticket ≡ Some x) s routes
              (own_stops (stop_list routes) written.once));
          leads = subst (λ o. IfSome o (λ r. Leads (next_stop routes) (closing_of r) r.stops)) f.1
              (found_in (λ r. Leads (next_stop routes) (closing_of r) r.stops) (has_stop s) routes
              (Links-next_stop routes written.once));
          own = subst (λ o. IfSome o
              (λ r. AllByRecursion (λ t. route_of routes t.ticket ≡ Some r) r.stops)) f.1
              (found_in (λ r. AllByRecursion (λ t. route_of routes t.ticket ≡ Some r) r.stops)
              (has_stop s) routes (own_route routes written.once));
          once = λ k. omega (
            arith,
            ap (count_of (has_ticket k)) same,
            count_with k s routes,
            written.once k,
          );
          has = count-any (has_ticket s) f.0.stops (found_passes (has_stop s) routes f.0 f.1);
        }

none_of : (next : ℕ → Option ℕ) (u : ℕ) (xs : List Stop) → ((k : ℕ) → next k ≢ Some u)
    → count_of (leads_to next u) xs ≡ 0
none_of next u [] never = refl
none_of next u (x ∷ xs) never =
    omega (arith, ap {B = ℕ} (λ b. cond b 1 0) (by (next x.ticket) refl), none_of next u xs never)
  where
    by : (o : Option ℕ) → next x.ticket ≡ o → is_ticket o u ≡ false
    by None e = refl
    by (Some t) e = ne_eqb t u (λ same. never x.ticket (e ∙ ap (λ n. Some n) same))

-- ---- walks

pub walked_both_ways : (s : State) (front behind : List Stop) (t : Stop) → IsSound s
    → IsOpenList s.routes (front ++ t ∷ behind)
    → walk_from t.ticket s.routes ≡ (t ∷ behind) ++ reverse front
walked_both_ways s front behind t sound list = from front refl
  where
    routes : List Route
    routes = s.routes

    Walked : Type 0
    Walked = walk_from t.ticket routes ≡ (t ∷ behind) ++ reverse front

    by : (x : Stop) (rest : List Stop) → front ++ t ∷ behind ≡ x ∷ rest
        → stop_of routes x.ticket ≡ Some x → Walked
    by x rest is here = ap (λ o. option_map_or (walk_in t.ticket) o []) found
        ∙ walked st.route.is_ring begins.0
      where
        st : Standing routes x.ticket
        st = standing routes x.ticket sound.routes
            (found_counted (has_ticket x.ticket) (stop_list routes) x here)

        begins : (st.route.is_ring ≡ false) × (head_or None st.route.stops ≡ Some x.ticket)
        begins = starts_parts x.ticket st.route
            (starts_if_none_leads (next_stop routes) x.ticket st.route st.leads
            (none_of (next_stop routes) x.ticket st.route.stops (λ u. list.first u x rest is))
            st.has)

        open_end : closing_of st.route ≡ None
        open_end = ap (λ b. cond b (head_or None st.route.stops) None) begins.0

        same : front ++ t ∷ behind ≡ st.route.stops
        same =
            one_to_end (next_stop routes) routes (front ++ t ∷ behind) st.route.stops list.leads
            (subst (λ c. Leads (next_stop routes) c st.route.stops) open_end st.leads) list.known
            st.known
            (ap (head_or None) is ∙ sym begins.1)

        found : route_of routes t.ticket ≡ Some st.route
        found = (all_back (λ u. route_of routes u.ticket ≡ Some st.route) front (t ∷ behind)
            (subst (AllByRecursion (λ u. route_of routes u.ticket ≡ Some st.route)) (sym same)
            st.own)).0

        off : count_of (has_ticket t.ticket) front ≡ 0
        off =
            omega (
              arith,
              st.once t.ticket,
              ap (count_of (has_ticket t.ticket)) same,
              total-append (λ u. cond (has_ticket t.ticket u) 1 0) front (t ∷ behind),
              ap {B = ℕ} (λ b. cond b 1 0) (eq-eqb t.ticket t.ticket refl),
            )

        walked : (b : Bool) → b ≡ false
            → cond b (round t.ticket st.route.stops)
            (onward (has_ticket t.ticket) st.route.stops ++ reverse
            (before (has_ticket t.ticket) st.route.stops))
            ≡ (t ∷ behind) ++ reverse front
        walked true e = cc
        walked false e =
            ap (λ xs. xs ++ reverse (before (has_ticket t.ticket) st.route.stops))
            (ap (onward (has_ticket t.ticket)) (sym same) ∙ onward_at t front behind off)
            ∙ ap (λ xs. (t ∷ behind) ++ reverse xs)
            (ap (before (has_ticket t.ticket)) (sym same) ∙ before_at t front behind off)

    from : (xs : List Stop) → front ≡ xs → Walked
    from [] e = by t behind (ap (λ ys. ys ++ t ∷ behind) e)
        (all_back (λ x. stop_of routes x.ticket ≡ Some x) front (t ∷ behind) list.known).0
    from (x ∷ xs) e = by x (xs ++ t ∷ behind) (ap (λ ys. ys ++ t ∷ behind) e)
        (subst (AreOnRoutes routes) (ap (λ ys. ys ++ t ∷ behind) e) list.known).0

pub walked_round : (s : State) (t : Stop) (behind : List Stop) → IsSound s
    → IsRound s.routes t behind → walk_from t.ticket s.routes ≡ t ∷ behind
walked_round s t behind sound list =
    ap (λ o. option_map_or (walk_in t.ticket) o []) st.found ∙ by st.route.is_ring refl
  where
    routes : List Route
    routes = s.routes

    next : ℕ → Option ℕ
    next = next_stop routes

    st : Standing routes t.ticket
    st = standing routes t.ticket sound.routes
        (found_counted (has_ticket t.ticket) (stop_list routes) t list.known.0)

    xs : List Stop
    xs = st.route.stops

    head : Begins t.ticket (onward (has_ticket t.ticket) xs)
    head = onward_begins t.ticket xs st.has

    by : (b : Bool) → st.route.is_ring ≡ b
        → cond b (round t.ticket xs)
        (onward (has_ticket t.ticket) xs ++ reverse (before (has_ticket t.ticket) xs)) ≡ t ∷ behind
    by true e =
        let whole : round t.ticket xs ≡ head.first ∷ head.rest ++ before (has_ticket t.ticket) xs =
        ap (λ ys. ys ++ before (has_ticket t.ticket) xs) head.is in
        let closes : closing_of st.route ≡ head_or None xs =
        ap (λ b. cond b (head_or None xs) None) e in
        let turned = Leads-round next t.ticket xs (subst (λ c. Leads next c xs) closes st.leads) in
        let there : Leads next (Some head.first.ticket)
        (head.first ∷ head.rest ++ before (has_ticket t.ticket) xs) =
        subst (λ ys. Leads next (head_or None ys) ys) whole turned in
        let all = subst (AreOnRoutes routes) whole
        (all_round (λ x. stop_of routes x.ticket ≡ Some x) t.ticket xs st.known) in
        let one : head.first ≡ t = one_stop routes head.first t all.0 list.known.0 head.ticket in
        let counted = ap (count_of (has_ticket t.ticket)) (sym whole)
        ∙ total-round (λ u. cond (has_ticket t.ticket u) 1 0) t.ticket xs in
        let lacks : count_of (has_ticket t.ticket) (head.rest ++ before (has_ticket t.ticket) xs)
        ≡ 0 = omega (
          arith,
          counted,
          st.once t.ticket,
          ap {B = ℕ} (λ b. cond b 1 0) (eq-eqb head.first.ticket t.ticket head.ticket),
        ) in
        let here : Leads next (Some t.ticket)
        (head.first ∷ head.rest ++ before (has_ticket t.ticket) xs) = subst
        (λ k. Leads next (Some k) (head.first ∷ head.rest ++ before (has_ticket t.ticket) xs))
        head.ticket there in
        whole ∙ ap (λ z. z ∷ head.rest ++ before (has_ticket t.ticket) xs) one
        ∙ ap (λ ys. t ∷ ys) (one_round next routes t.ticket
        (head.rest ++ before (has_ticket t.ticket) xs) behind here.1 list.leads.1 all.1
        list.known.1 lacks list.once (sym here.0 ∙ ap next head.ticket ∙ list.leads.0))
    by false e = absurd (
        let open_end : closing_of st.route ≡ None = ap (λ b. cond b (head_or None xs) None) e in
        let all = subst (λ ys. Leads next None ys) (sym (before_onward (has_ticket t.ticket) xs))
        (subst (λ c. Leads next c xs) open_end st.leads) in
        let onwards = subst (Leads next None) head.is
        (Leads-back next None (before (has_ticket t.ticket) xs)
        (onward (has_ticket t.ticket) xs) all) in
        let counted = ap (count_of (has_ticket t.ticket)) (before_onward (has_ticket t.ticket) xs)
        in
        let lacks : count_of (has_ticket t.ticket) head.rest ≡ 0 =
        omega (
          arith,
          counted,
          st.once t.ticket,
          total-append (λ u. cond (has_ticket t.ticket u) 1 0) (before (has_ticket t.ticket) xs)
              (onward (has_ticket t.ticket) xs),
          ap (count_of (has_ticket t.ticket)) head.is,
          ap {B = ℕ} (λ b. cond b 1 0) (eq-eqb head.first.ticket t.ticket head.ticket),
        ) in
        never_both next t.ticket head.rest behind onwards.1 list.leads.1 lacks
        (sym onwards.0 ∙ ap next head.ticket ∙ list.leads.0)
        )
