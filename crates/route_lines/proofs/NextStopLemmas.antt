-- Where stops lead after a join, a cut and a swap.
use Rattle.std.proofs.Common.{◌≡◌, ◌≢◌, ◌∙◌, sym, ap, subst, refl, Bool, true, false, ◌==◌, ◌⊎◌}
use Rattle.std.proofs.Common.{inl, inr, ℕ, ◌<◌, ◌≤◌, List, Option, Some, None, Ok, cond, arith}
use Rattle.std.specs.Option.{option_and_then}
use Rattle.std.proofs.lemmas.Bool.{eq-eqb, eqb-true, eqb-false, ne_eqb, cases_lt}
use Rattle.route_lines.specs.Calls.{stop_holder, joined, after_join, parted, after_cut, swapped}
use Rattle.route_lines.specs.Calls.{after_swap}
use Rattle.route_lines.specs.Routes.{has_ticket, next_in, route_of, next_stop, linked, unlinked}
use Rattle.route_lines.specs.Routes.{exchanged}
use Rattle.route_lines.specs.Sound.{count_of, AreWritten, IsSound}
use Rattle.route_lines.specs.State.{State, Route, stop_list}
use Rattle.route_lines.specs.CutLaws.{found_counted}
use Rattle.route_lines.proofs.LinkLemmas.{Links, Links-next_stop, next_stop-is, found_counts}
use Rattle.route_lines.proofs.LinkLemmas.{relinked}
use Rattle.route_lines.proofs.RelinkLemmas.{Links-linked, Links-unlinked}
use Rattle.route_lines.proofs.RouteLemmas.{AreWritten-linked, total-linked, AreWritten-unlinked}
use Rattle.route_lines.proofs.RouteLemmas.{total-unlinked}
use Rattle.route_lines.specs.CallLaws.{and_then-ok}
use Rattle.route_lines.proofs.UndoLemmas.{none_leads, traded, exchange_of, Links-exchange}
use Rattle.route_lines.proofs.UndoLemmas.{exchange_written, exchange_total, exchanged-apart}
use Rattle.route_lines.proofs.UndoLemmas.{exchanged-same, joined-ok, swapped-ok, after_join-ok}
use Rattle.route_lines.proofs.UndoLemmas.{after_cut-ok, after_swap-ok, names_stop, with_routes}

-- a ticket that no stop has leads nowhere
pub off_leads_nowhere : (s : ℕ) (routes : List Route)
    → count_of (has_ticket s) (stop_list routes) ≡ 0 → next_stop routes s ≡ None
off_leads_nowhere s routes none = by (route_of routes s) refl
  where
    by : (o : Option Route) → route_of routes s ≡ o → next_stop routes s ≡ None
    by None e = ap (option_and_then (next_in s)) e
    by (Some r) e = absurd (omega (arith, none, found_counts s routes r e))

-- where the stops are the same and all lead as `next` says, so does every ticket of theirs, and any
-- other leads nowhere
pub leads_everywhere : (next : ℕ → Option ℕ) (routes others : List Route) → AreWritten others
    → Links next others
    → ((s : ℕ) → count_of (has_ticket s) (stop_list others)
    ≡ count_of (has_ticket s) (stop_list routes))
    → (s : ℕ) → (1 ≤ count_of (has_ticket s) (stop_list routes) → next s ≡ next_stop routes s)
    → next_stop others s ≡ next_stop routes s
leads_everywhere next routes others written links same s here =
    at (cases_lt 0 (count_of (has_ticket s) (stop_list routes)))
  where
    at : (0 < count_of (has_ticket s) (stop_list routes))
        ⊎ (count_of (has_ticket s) (stop_list routes) ≤ 0) → next_stop others s ≡ next_stop routes s
    at (inl some) =
        let more : 1 ≤ count_of (has_ticket s) (stop_list routes) = omega (arith, some) in
        next_stop-is next others s written.once links (omega (arith, more, same s)) ∙ here more
    at (inr none) = off_leads_nowhere s others (omega (arith, none, same s))
        ∙ sym (off_leads_nowhere s routes (omega (arith, none)))

-- ---- a join

pub next-joined : (s : State) (t u : ℕ) → IsSound s → joined s t u ≡ Ok tt
    → (next_stop (after_join s t u).routes t ≡ Some u)
    × ((v : ℕ) → v ≢ t → next_stop (after_join s t u).routes v ≡ next_stop s.routes v)
unfolding with_routes
next-joined s t u sound e =
    let ok = joined-ok s t u e in
    let t_in = found_counted (has_ticket t) (stop_list s.routes) ok.0.stop_there.0 ok.0.stop_there.1
    in
    let u_in = found_counted (has_ticket u) (stop_list s.routes) ok.1.stop_there.0 ok.1.stop_there.1
    in
    let written = sound.routes in
    let whole = AreWritten-linked t u s.routes written in
    let links = Links-linked (next_stop s.routes) t u s.routes written
    (Links-next_stop s.routes written.once) ok.2 t_in u_in
    (none_leads u s.routes written ok.3 u_in) in
    let kept : (v : ℕ) → count_of (has_ticket v) (stop_list (linked t u s.routes))
    ≡ count_of (has_ticket v) (stop_list s.routes) =
    λ v. total-linked (λ x. cond (has_ticket v x) 1 0) t u s.routes
    written in
    let new : (after_join s t u).routes ≡ linked t u s.routes =
    ap (λ r. r.routes) (after_join-ok s t u e) in (
      ap (λ rs. next_stop rs t) new
          ∙ next_stop-is (relinked t (Some u) (next_stop s.routes)) (linked t u s.routes) t
          whole.once links (omega (arith, t_in, kept t)) ∙ here t u,
      λ v apart. ap (λ rs. next_stop rs v) new
          ∙ leads_everywhere (relinked t (Some u) (next_stop s.routes)) s.routes
          (linked t u s.routes) whole links kept v (λ some. there t v apart),
    )
  where
    here : (a b : ℕ) → relinked a (Some b) (next_stop s.routes) a ≡ Some b
    here a b = rw (eq-eqb a a refl) refl

    there : (a v : ℕ) → v ≢ a → relinked a (Some u) (next_stop s.routes) v ≡ next_stop s.routes v
    there a v apart = rw (ne_eqb v a apart) refl

-- ---- a cut

pub next-cut : (s : State) (t : ℕ) → IsSound s → parted s t ≡ Ok tt
    → (next_stop (after_cut s t).routes t ≡ None)
    × ((v : ℕ) → v ≢ t → next_stop (after_cut s t).routes v ≡ next_stop s.routes v)
unfolding with_routes
next-cut s t sound e =
    let first = and_then-ok (stop_holder s t) _ tt e in
    let names = names_stop s t first.0 first.1 in
    let t_in = found_counted (has_ticket t) (stop_list s.routes) names.stop_there.0
    names.stop_there.1 in
    let written = sound.routes in
    let whole = AreWritten-unlinked t s.routes written in
    let links = Links-unlinked (next_stop s.routes) t s.routes written
    (Links-next_stop s.routes written.once) t_in in
    let kept : (v : ℕ) → count_of (has_ticket v) (stop_list (unlinked t s.routes))
    ≡ count_of (has_ticket v) (stop_list s.routes) =
    λ v. total-unlinked (λ x. cond (has_ticket v x) 1 0) t s.routes
    written in
    let new : (after_cut s t).routes ≡ unlinked t s.routes =
    ap (λ r. r.routes) (after_cut-ok s t e) in (
      ap (λ rs. next_stop rs t) new
          ∙ next_stop-is (relinked t None (next_stop s.routes)) (unlinked t s.routes) t whole.once
          links (omega (arith, t_in, kept t)) ∙ here,
      λ v apart. ap (λ rs. next_stop rs v) new
          ∙ leads_everywhere (relinked t None (next_stop s.routes)) s.routes (unlinked t s.routes)
          whole links kept v (λ some. there v apart),
    )
  where
    here : relinked t None (next_stop s.routes) t ≡ None
    here = rw (eq-eqb t t refl) refl

    there : (v : ℕ) → v ≢ t → relinked t None (next_stop s.routes) v ≡ next_stop s.routes v
    there v apart = rw (ne_eqb v t apart) refl

-- ---- a swap

-- what a swap makes of where stops lead
pub record ExchangesNext (t u : ℕ) (routes others : List Route) : Type 0 where
  pub first : next_stop others t ≡ next_stop routes u
  pub second : next_stop others u ≡ next_stop routes t
  pub rest : (v : ℕ) → v ≢ t → v ≢ u → next_stop others v ≡ next_stop routes v

next-exchanged : (t u x y : ℕ) (routes : List Route) → AreWritten routes
    → next_stop routes t ≡ Some x → next_stop routes u ≡ Some y
    → 1 ≤ count_of (has_ticket t) (stop_list routes)
    → 1 ≤ count_of (has_ticket u) (stop_list routes)
    → ExchangesNext t u routes (exchanged t u routes)
next-exchanged t u x y routes written e f some other = at (t == u) refl
  where
    at : (b : Bool) → (t == u) ≡ b → ExchangesNext t u routes (exchanged t u routes)
    at true is =
        let same : t ≡ u = eqb-true t u is in
        subst (ExchangesNext t u routes) (sym (exchanged-same t u x y routes same e f)) (record {
          first = ap (next_stop routes) same;
          second = ap (next_stop routes) (sym same);
          rest = λ v a b. refl;
        })
    at false is =
        let apart : t ≢ u = eqb-false t u is in
        let whole = exchange_written t x u y routes written in
        let links = Links-exchange (next_stop routes) t x u y routes written
        (Links-next_stop routes written.once) apart e f some other in
        let kept : (v : ℕ) → count_of (has_ticket v) (stop_list (exchange_of t x u y routes))
        ≡ count_of (has_ticket v) (stop_list routes) =
        λ v. exchange_total (λ z. cond (has_ticket v z) 1 0) t
        x u y routes written in
        subst (ExchangesNext t u routes) (sym (exchanged-apart t x u y routes apart e f)) (record {
          first = next_stop-is (traded t x u y (next_stop routes)) (exchange_of t x u y routes) t
              whole.once links (omega (arith, some, kept t)) ∙ own_t apart ∙ sym f;
          second = next_stop-is (traded t x u y (next_stop routes)) (exchange_of t x u y routes) u
              whole.once links (omega (arith, other, kept u)) ∙ own_u ∙ sym e;
          rest = λ v a b. leads_everywhere (traded t x u y (next_stop routes)) routes
              (exchange_of t x u y routes) whole links kept v (λ here. own_v v a b);
        })
      where
        own_t : t ≢ u → traded t x u y (next_stop routes) t ≡ Some y
        own_t apart = rw (ne_eqb t u apart, eq-eqb t t refl) refl

        own_u : traded t x u y (next_stop routes) u ≡ Some x
        own_u = rw (eq-eqb u u refl) refl

        own_v : (v : ℕ) → v ≢ t → v ≢ u → traded t x u y (next_stop routes) v ≡ next_stop routes v
        own_v v a b = rw (ne_eqb v u b, ne_eqb v t a) refl

pub next-swapped : (s : State) (t u : ℕ) → IsSound s → swapped s t u ≡ Ok tt
    → ExchangesNext t u s.routes (after_swap s t u).routes
unfolding with_routes
next-swapped s t u sound e =
    let ok = swapped-ok s t u e in
    let t_in = found_counted (has_ticket t) (stop_list s.routes) ok.0.stop_there.0 ok.0.stop_there.1
    in
    let u_in = found_counted (has_ticket u) (stop_list s.routes) ok.1.stop_there.0 ok.1.stop_there.1
    in
    let new : (after_swap s t u).routes ≡ exchanged t u s.routes =
    ap (λ r. r.routes) (after_swap-ok s t u e) in
    subst (ExchangesNext t u s.routes) (sym new)
    (next-exchanged t u ok.2.0 ok.3.0 s.routes sound.routes ok.2.1 ok.3.1 t_in u_in)
