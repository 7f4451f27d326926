-- The stop before another, and the stops of a walk, as the interlinks of their arena have them.
use Rattle.std.proofs.Common.{◌≡◌, ◌≢◌, ◌↔◌, ◌∙◌, sym, ap, subst, refl, ℕ, List, [], ◌∷◌, ◌++◌}
use Rattle.std.proofs.Common.{Option, Some, None, IsSome, cond, is_some, reverse, arith}
use Rattle.std.specs.List.{AllByRecursion}
use Rattle.std.specs.Option.{option_map, option_to_list}
use Rattle.std.proofs.lemmas.Bool.{false≢true, ne_eqb}
use Rattle.std.proofs.lemmas.List.{append-nil, reverse-append}
use Rattle.linked_lists.specs.LinkedLists.{Ends, IsAgreed, next_in, prev_in, next_at, prev_at}
use Rattle.linked_lists.specs.LinkedLists.{first_or, last_or, IsSegment, Off, IsLinear}
use Rattle.linked_lists.specs.ChainLaws.{live_next_in}
use Rattle.triple_arena_chain.specs.Walks.{IsWalkFrom, along as walks_along, around as walks_around}
use Rattle.route_lines.specs.Leads.{head_or, Leads}
use Rattle.route_lines.specs.Routes.{has_ticket, walk_from}
use Rattle.route_lines.specs.Sound.{count_of}
use Rattle.route_lines.specs.State.{Stop, Route, stop_of}
use Rattle.route_book.specs.Follows.{along, ticket_at, LeadAs, AreDistinct}

there : {X : Type 0} (o : Option X) → IsSome o → (x : X) × (o ≡ Some x)
there None some = absurd (false≢true some)
there (Some x) some = (x, refl)

-- ---- the stop before another

module _ {T : Type 0} (ticket : T → ℕ) (stops : ℕ → Option (ℕ × T)) (ends : ℕ → Option Ends)
    (next previous : ℕ → Option ℕ) (lead : LeadAs ticket stops ends next) (agreed : IsAgreed ends)
    (distinct : AreDistinct ticket stops) (live : (i : ℕ) → IsSome (ends i) → IsSome (stops i))
    (both : (t u : ℕ) → (next t ≡ Some u) ↔ (previous u ≡ Some t))
    (known : (t u : ℕ) → next t ≡ Some u
    → (i : ℕ) × ((e : ℕ × T) × ((stops i ≡ Some e) × (ticket e.1 ≡ t)))) where
  pub leads_back : (i g : ℕ) (v : T) → stops i ≡ Some (g, v)
      → previous (ticket v) ≡ ticket_at ticket stops (prev_at ends i)
  leads_back i g v here = by (prev_at ends i) refl
    where
      by : (o : Option ℕ) → prev_at ends i ≡ o → previous (ticket v) ≡ ticket_at ticket stops o
      by (Some j) e =
          let forth = agreed.backward j i e in
          let from = there (stops j) (live j (live_next_in (ends j) i forth)) in
          let leads : next (ticket from.0.1) ≡ Some (ticket v) = lead j from.0.0 from.0.1 from.1
          ∙ ap (ticket_at ticket stops) forth ∙ ap (option_map (λ x. ticket x.1)) here in
          (both (ticket from.0.1) (ticket v)).0 leads
          ∙ sym (ap (option_map (λ x. ticket x.1)) from.1)
      by None e = none (previous (ticket v)) refl
        where
          none : (o : Option ℕ) → previous (ticket v) ≡ o → previous (ticket v) ≡ None
          none None f = f
          none (Some t) f = absurd (led (next_at ends from.0) refl)
            where
              leads : next t ≡ Some (ticket v)
              leads = (both t (ticket v)).1 f

              from : (j : ℕ) × ((x : ℕ × T) × ((stops j ≡ Some x) × (ticket x.1 ≡ t)))
              from = known t (ticket v) leads

              led : (o : Option ℕ) → next_at ends from.0 ≡ o → ⊥
              led None k = let no : None ≡ Some (ticket v) = sym (ap (ticket_at ticket stops) k)
                  ∙ sym (lead from.0 from.1.0.0 from.1.0.1 from.1.1.0) ∙ ap next from.1.1.1
                  ∙ leads in cc
              led (Some k) is = at (stops k) refl
                where
                  tells : option_map (λ x. ticket x.1) (stops k) ≡ Some (ticket v)
                  tells = sym (ap (ticket_at ticket stops) is)
                      ∙ sym (lead from.0 from.1.0.0 from.1.0.1 from.1.1.0) ∙ ap next from.1.1.1
                      ∙ leads

                  at : (x : Option (ℕ × T)) → stops k ≡ x → ⊥
                  at None h = let no : None ≡ Some (ticket v) =
                      sym (ap (option_map (λ x. ticket x.1)) h) ∙ tells in cc
                  at (Some x) h =
                      let named : Some (ticket x.1) ≡ Some (ticket v) =
                      sym (ap (option_map (λ y. ticket y.1)) h) ∙ tells in
                      let same : ticket x.1 ≡ ticket v = cc in
                      let one : k ≡ i = distinct k i x.0 g x.1 v h here same in
                      let back : prev_at ends i ≡ Some from.0 = ap (prev_at ends) (sym one)
                      ∙ agreed.forward from.0 k is in
                      let no : None ≡ Some from.0 = sym e ∙ back in
                      cc

-- ---- along lists of indexes

along-append : (at : ℕ → Option Stop) (xs ys : List ℕ)
    → along at (xs ++ ys) ≡ along at xs ++ along at ys
along-append at [] ys = refl
along-append at (x ∷ xs) ys = one (at x) (along-append at xs ys)
  where
    one : (o : Option Stop) → along at (xs ++ ys) ≡ along at xs ++ along at ys
        → option_to_list o ++ along at (xs ++ ys) ≡ (option_to_list o ++ along at xs) ++ along at ys
    one None e = e
    one (Some t) e = ap (λ zs. t ∷ zs) e

along-reverse : (at : ℕ → Option Stop) (xs : List ℕ) → along at (reverse xs) ≡ reverse (along at xs)
along-reverse at [] = refl
along-reverse at (x ∷ xs) = ap (along at) (reverse-append (x ∷ []) xs)
    ∙ along-append at (reverse xs) (x ∷ []) ∙ one (at x) (along-reverse at xs)
  where
    one : (o : Option Stop) → along at (reverse xs) ≡ reverse (along at xs)
        → along at (reverse xs) ++ (option_to_list o ++ [])
        ≡ reverse (option_to_list o ++ along at xs)
    one None e = append-nil (along at (reverse xs)) ∙ e
    one (Some t) e = ap (λ zs. zs ++ t ∷ []) e ∙ sym (reverse-append (t ∷ []) (along at xs))

-- the ticket of the stop at an index, if there are these
abbrev pub ticket_by : (ℕ → Option Stop) → Option ℕ → Option ℕ
ticket_by at None = None
ticket_by at (Some i) = option_map (λ (t : Stop). t.ticket) (at i)

module _ (at : ℕ → Option Stop) (ends : ℕ → Option Ends) (next previous : ℕ → Option ℕ)
    (routes : List Route) (live : (i : ℕ) → IsSome (ends i) → IsSome (at i))
    (lead : (i : ℕ) (t : Stop) → at i ≡ Some t → next t.ticket ≡ ticket_by at (next_at ends i))
    (back : (i : ℕ) (t : Stop) → at i ≡ Some t → previous t.ticket ≡ ticket_by at (prev_at ends i))
    (both : (t u : ℕ) → next t ≡ Some u → previous u ≡ Some t)
    (known : (i : ℕ) (t : Stop) → at i ≡ Some t → stop_of routes t.ticket ≡ Some t)
    (distinct : (i j : ℕ) (t u : Stop) → at i ≡ Some t → at j ≡ Some u → t.ticket ≡ u.ticket
    → i ≡ j) where
  alive : (i : ℕ) (e : Ends) → ends i ≡ Some e → (t : Stop) × (at i ≡ Some t)
  alive i e is = there (at i) (live i (ap is_some is))

  stands_lead : (b a : Option ℕ) (xs : List ℕ) → IsSegment ends b xs a
      → Leads next (ticket_by at a) (along at xs)
  stands_lead b a [] h = tt
  stands_lead b a (x ∷ xs) h =
      let t = alive x (b, first_or xs a) h.0 in
      subst (λ o. Leads next (ticket_by at a) (option_to_list o ++ along at xs)) (sym t.1) (
        lead x t.0 t.1 ∙ ap (ticket_by at) (ap next_in h.0) ∙ heads xs h.1,
        stands_lead (Some x) a xs h.1,
      )
    where
      heads : (ys : List ℕ) → IsSegment ends (Some x) ys a
          → ticket_by at (first_or ys a) ≡ head_or (ticket_by at a) (along at ys)
      heads [] k = refl
      heads (y ∷ ys) k =
          let t = alive y (Some x, first_or ys a) k.0 in
          ap (option_map (λ (u : Stop). u.ticket)) t.1
          ∙ sym (ap (λ o. head_or (ticket_by at a) (option_to_list o ++ along at ys)) t.1)

  all_known : (xs : List ℕ) → AllByRecursion (λ t. stop_of routes t.ticket ≡ Some t) (along at xs)
  all_known [] = tt
  all_known (x ∷ xs) = one (at x) refl (all_known xs)
    where
      one : (o : Option Stop) → at x ≡ o
          → AllByRecursion (λ t. stop_of routes t.ticket ≡ Some t) (along at xs)
          → AllByRecursion (λ t. stop_of routes t.ticket ≡ Some t) (option_to_list o ++ along at xs)
      one None e h = h
      one (Some t) e h = (known x t e, h)

  -- none leads to the start of a linear chain
  none_before : (xs : List ℕ) → IsLinear ends xs → (u : ℕ) (x : Stop) (rest : List Stop)
      → along at xs ≡ x ∷ rest → next u ≢ Some x.ticket
  none_before [] h u x rest e leads = cc
  none_before (i ∷ is) h u x rest e leads =
      let t = alive i (None, first_or is None) h.0 in
      let begins : t.0 ∷ along at is ≡ x ∷ rest =
      ap (λ o. option_to_list o ++ along at is) (sym t.1) ∙ e in
      let first : Some t.0.ticket ≡ Some x.ticket = ap (head_or None) begins in
      let same : t.0.ticket ≡ x.ticket = cc in
      let none : previous t.0.ticket ≡ None = back i t.0 t.1 ∙ ap (ticket_by at) (ap prev_in h.0) in
      let some : previous t.0.ticket ≡ Some u = both u t.0.ticket (leads ∙ sym first) in
      let no : None ≡ Some u = sym none ∙ some in
      cc

  off_along : (i : ℕ) (t : Stop) → at i ≡ Some t → (xs : List ℕ) → Off xs i
      → count_of (has_ticket t.ticket) (along at xs) ≡ 0
  off_along i t here [] off = refl
  off_along i t here (x ∷ xs) off = one (at x) refl (off_along i t here xs off.1)
    where
      one : (o : Option Stop) → at x ≡ o → count_of (has_ticket t.ticket) (along at xs) ≡ 0
          → count_of (has_ticket t.ticket) (option_to_list o ++ along at xs) ≡ 0
      one None e h = h
      one (Some u) e h = omega (
        arith,
        h,
        ap {B = ℕ} (λ b. cond b 1 0)
            (ne_eqb u.ticket t.ticket (λ same. off.0 (distinct x i u t e here same))),
      )

  module _ (ways : (front behind : List Stop) (t : Stop)
      → AllByRecursion (λ x. stop_of routes x.ticket ≡ Some x) (front ++ t ∷ behind)
      → Leads next None (front ++ t ∷ behind)
      → ((u : ℕ) (x : Stop) (rest : List Stop) → front ++ t ∷ behind ≡ x ∷ rest
      → next u ≢ Some x.ticket) → walk_from t.ticket routes ≡ (t ∷ behind) ++ reverse front)
      (rounds : (t : Stop) (behind : List Stop)
      → AllByRecursion (λ x. stop_of routes x.ticket ≡ Some x) (t ∷ behind)
      → Leads next (Some t.ticket) (t ∷ behind)
      → count_of (has_ticket t.ticket) behind ≡ 0
      → walk_from t.ticket routes ≡ t ∷ behind) where
    -- the stops along a walk of the interlinks are those of the walk
    pub stops_walked : (i : ℕ) (t : Stop) (walk : List ℕ) → at i ≡ Some t → IsWalkFrom ends i walk
        → walk_from t.ticket routes ≡ along at walk
    stops_walked i t walk here (walks_along before after linear is) =
        let own : along at (i ∷ after) ≡ t ∷ along at after =
        ap (λ o. option_to_list o ++ along at after) here in
        let whole : along at (before ++ i ∷ after) ≡ along at before ++ t ∷ along at after =
        along-append at before (i ∷ after) ∙ ap (λ zs. along at before ++ zs) own in
        ways (along at before) (along at after) t
        (subst (AllByRecursion (λ x. stop_of routes x.ticket ≡ Some x)) whole
        (all_known (before ++ i ∷ after)))
        (subst (Leads next None) whole (stands_lead None None (before ++ i ∷ after) linear))
        (λ u x rest e. none_before (before ++ i ∷ after) linear u x rest (whole ∙ e))
        ∙ sym (ap (along at) is
        ∙ ap (λ o. option_to_list o ++ along at (after ++ reverse before)) here
        ∙ ap (λ ys. t ∷ ys) (along-append at after (reverse before)
        ∙ ap (λ ys. along at after ++ ys) (along-reverse at before)))
    stops_walked i t walk here (walks_around after ring is) =
        let whole : along at (i ∷ after) ≡ t ∷ along at after =
        ap (λ o. option_to_list o ++ along at after) here in
        let closes : ticket_by at (Some i) ≡ Some t.ticket =
        ap (option_map (λ (u : Stop). u.ticket)) here in
        rounds t (along at after)
        (subst (AllByRecursion (λ x. stop_of routes x.ticket ≡ Some x)) whole
        (all_known (i ∷ after)))
        (subst (λ c. Leads next c (t ∷ along at after)) closes
        (subst (Leads next (ticket_by at (Some i))) whole
        (stands_lead (last_or None (i ∷ after)) (Some i) (i ∷ after) ring.stands)))
        (off_along i t here after ring.apart.0)
        ∙ sym (ap (along at) is ∙ whole)
