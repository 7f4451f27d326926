-- Where stops lead, and which stop stands under each ticket, once one is taken out.
use Rattle.std.proofs.Common.{◌≡◌, ◌≢◌, ◌∙◌, sym, ap, subst, refl, Bool, true, false, ◌==◌, ◌⊎◌}
use Rattle.std.proofs.Common.{inl, inr, ℕ, ◌+◌, ◌<◌, ◌≤◌, List, [], ◌∷◌, length, Option, Some, None}
use Rattle.std.proofs.Common.{IfSome, cond, not, filter, find, arith}
use Rattle.std.specs.List.{AllByRecursion}
use Rattle.std.proofs.lemmas.Bool.{eq-eqb, eqb-true, ne_eqb, cases_lt}
use Rattle.route_lines.specs.Leads.{head_or, Leads}
use Rattle.route_lines.specs.Routes.{has_ticket, linear, ring, has_stop, route_of, without}
use Rattle.route_lines.specs.Routes.{put_route, next_stop, taken_out, past}
use Rattle.route_lines.specs.Sound.{total, count_of, AreWritten}
use Rattle.route_lines.specs.State.{Stop, Route, stop_list, stop_of}
use Rattle.route_lines.specs.CutLaws.{all_weaker, found_in, found_passes, total-append}
use Rattle.route_lines.specs.CutLaws.{length-total, count-any}
use Rattle.route_lines.proofs.LinkLemmas.{closing_of, Links, Links-put, Links-without}
use Rattle.route_lines.proofs.LinkLemmas.{Links-next_stop, next_stop-is, found_if_counted, all_both}
use Rattle.route_lines.proofs.NextStopLemmas.{off_leads_nowhere}
use Rattle.route_lines.proofs.RelinkLemmas.{Leads-from_smallest}
use Rattle.route_lines.proofs.RemovedLemmas.{total-filter, find-filter}
use Rattle.route_lines.proofs.RouteLemmas.{total-without, with_found}
use Rattle.route_lines.proofs.StayLemmas.{same_found}
use Rattle.route_lines.proofs.TakenOutLemmas.{rest_of_route, weight_under, AreWritten-taken_out}
use Rattle.route_lines.proofs.TakenOutLemmas.{total-taken_out, all_taken_out}
use Rattle.route_lines.proofs.UndoLemmas.{own_stop}

-- ---- along one list

abbrev rest_of : ℕ → List Stop → List Stop
rest_of s xs = filter (λ t. not (has_ticket s t)) xs

module _ (next : ℕ → Option ℕ) (s : ℕ) where
  abbrev led_past : ℕ → Option ℕ
  led_past v = past s (next s) (next v)

  -- another ticket stays where it is led to
  apart_past : (t : Stop) (xs : List Stop) → count_of (has_ticket s) (t ∷ xs) ≡ 0
      → past s (next s) (Some t.ticket) ≡ Some t.ticket
  apart_past t xs lacks = at (t.ticket == s) refl
    where
      at : (b : Bool) → (t.ticket == s) ≡ b → cond b (next s) (Some t.ticket) ≡ Some t.ticket
      at true e = absurd (omega (arith, lacks, ap {B = ℕ} (λ c. cond c 1 0) e))
      at false e = refl

  -- a list that lacks the stop leads as before
  Leads-apart : (closing : Option ℕ) (xs : List Stop) → count_of (has_ticket s) xs ≡ 0
      → past s (next s) closing ≡ closing → Leads next closing xs → Leads led_past closing xs
  Leads-apart closing [] lacks end h = tt
  Leads-apart closing (x ∷ xs) lacks end h = (
    ap (past s (next s)) h.0 ∙ heads xs (omega (arith, lacks)),
    Leads-apart closing xs (omega (arith, lacks)) end h.1,
  )
    where
      heads : (ys : List Stop) → count_of (has_ticket s) ys ≡ 0
          → past s (next s) (head_or closing ys) ≡ head_or closing ys
      heads [] none = end
      heads (y ∷ ys) none = apart_past y ys none

  Links-apart_past : (routes : List Route) → count_of (has_ticket s) (stop_list routes) ≡ 0
      → Links next routes → Links led_past routes
  Links-apart_past [] lacks links = tt
  Links-apart_past (r ∷ routes) lacks links =
      let parts = total-append (λ t. cond (has_ticket s t) 1 0) r.stops (stop_list routes) in
      let none : count_of (has_ticket s) r.stops ≡ 0 = omega (arith, parts, lacks) in (
        Leads-apart (closing_of r) r.stops none (end r.is_ring r.stops none) links.0,
        Links-apart_past routes (omega (arith, parts, lacks)) links.1,
      )
    where
      end : (b : Bool) (xs : List Stop) → count_of (has_ticket s) xs ≡ 0
          → past s (next s) (cond b (head_or None xs) None) ≡ cond b (head_or None xs) None
      end true [] none = refl
      end true (x ∷ xs) none = apart_past x xs none
      end false xs none = refl

  -- what follows the stop follows the one before it
  head_past : (closing : Option ℕ) (xs : List Stop) → count_of (has_ticket s) xs ≤ 1
      → Leads next closing xs
      → past s (next s) (head_or closing xs) ≡ head_or (past s (next s) closing) (rest_of s xs)
  head_past closing [] once h = refl
  head_past closing (x ∷ xs) once h = at (x.ticket == s) refl
    where
      -- where the stop leads to what the list closes at, that stays
      at_end : (o : Option ℕ) → next s ≡ o → o ≡ past s (next s) o
      at_end None e = refl
      at_end (Some n) e = by (n == s)
        where
          by : (b : Bool) → Some n ≡ cond b (next s) (Some n)
          by true = sym e
          by false = refl

      behind : (ys : List Stop) → count_of (has_ticket s) ys ≡ 0 → next s ≡ head_or closing ys
          → head_or closing ys ≡ head_or (past s (next s) closing) (rest_of s ys)
      behind [] none e = at_end closing e
      behind (y ∷ ys) none e = by (y.ticket == s) refl
        where
          by : (b : Bool) → (y.ticket == s) ≡ b
              → Some y.ticket ≡ head_or (past s (next s) closing)
              (cond (not b) (y ∷ rest_of s ys) (rest_of s ys))
          by true f = absurd (omega (arith, none, ap {B = ℕ} (λ c. cond c 1 0) f))
          by false f = refl

      at : (b : Bool) → (x.ticket == s) ≡ b
          → cond b (next s) (Some x.ticket)
          ≡ head_or (past s (next s) closing) (cond (not b) (x ∷ rest_of s xs) (rest_of s xs))
      at true e =
          let leads : next s ≡ head_or closing xs = sym (ap next (eqb-true x.ticket s e)) ∙ h.0 in
          leads ∙ behind xs (omega (arith, once, ap {B = ℕ} (λ c. cond c 1 0) e)) leads
      at false e = refl

  -- a list without the stop leads past it
  Leads-past : (closing : Option ℕ) (xs : List Stop) → count_of (has_ticket s) xs ≤ 1
      → Leads next closing xs → Leads led_past (past s (next s) closing) (rest_of s xs)
  Leads-past closing [] once h = tt
  Leads-past closing (x ∷ xs) once h =
      at (x.ticket == s) (Leads-past closing xs (omega (arith, once)) h.1)
    where
      at : (b : Bool) → Leads led_past (past s (next s) closing) (rest_of s xs)
          → Leads led_past (past s (next s) closing)
          (cond (not b) (x ∷ rest_of s xs) (rest_of s xs))
      at true later = later
      at false later = (
        ap (past s (next s)) h.0 ∙ head_past closing xs (omega (arith, once)) h.1,
        later,
      )

  -- a ring without it closes at its new first stop
  ring-past : (xs : List Stop) → count_of (has_ticket s) xs ≤ 1 → Leads next (head_or None xs) xs
      → Leads led_past (head_or None (rest_of s xs)) (rest_of s xs)
  ring-past [] once h = tt
  ring-past (x ∷ xs) once h =
      at (x.ticket == s) refl (Leads-past (Some x.ticket) xs (omega (arith, once)) h.1)
    where
      at : (b : Bool) → (x.ticket == s) ≡ b
          → Leads led_past (cond b (next s) (Some x.ticket)) (rest_of s xs)
          → Leads led_past (head_or None (cond (not b) (x ∷ rest_of s xs) (rest_of s xs)))
          (cond (not b) (x ∷ rest_of s xs) (rest_of s xs))
      at true e later =
          by xs (omega (arith, once, ap {B = ℕ} (λ c. cond c 1 0) e))
          (sym (ap next (eqb-true x.ticket s e)) ∙ h.0) later
        where
          by : (ys : List Stop) → count_of (has_ticket s) ys ≡ 0
              → next s ≡ head_or (Some x.ticket) ys → Leads led_past (next s) (rest_of s ys)
              → Leads led_past (head_or None (rest_of s ys)) (rest_of s ys)
          by [] none leads k = tt
          by (y ∷ ys) none leads k = go (y.ticket == s) refl k
            where
              go : (b : Bool) → (y.ticket == s) ≡ b
                  → Leads led_past (next s) (cond (not b) (y ∷ rest_of s ys) (rest_of s ys))
                  → Leads led_past (head_or None (cond (not b) (y ∷ rest_of s ys) (rest_of s ys)))
                  (cond (not b) (y ∷ rest_of s ys) (rest_of s ys))
              go true f m = absurd (omega (arith, none, ap {B = ℕ} (λ c. cond c 1 0) f))
              go false f m = subst (λ c. Leads led_past c (y ∷ rest_of s ys)) leads m
      at false e later =
          let first : past s (next s) (next x.ticket) ≡ head_or (Some x.ticket) (rest_of s xs) =
          ap (past s (next s)) h.0 ∙ head_past (Some x.ticket) xs (omega (arith, once)) h.1
          ∙ ap (λ b. head_or (cond b (next s) (Some x.ticket)) (rest_of s xs)) e in
          (first, later)

  -- ---- along all routes

  Links-taken_out : (routes : List Route) → AreWritten routes → Links next routes
      → 1 ≤ count_of (has_ticket s) (stop_list routes) → Links led_past (taken_out s routes)
  Links-taken_out routes written links some = by (found_if_counted s routes some)
    where
      others : List Route
      others = without s routes

      by : (r : Route) × (route_of routes s ≡ Some r) → Links led_past (taken_out s routes)
      by f = rw f.1 (at f.0.is_ring refl)
        where
          xs : List Stop
          xs = f.0.stops

          rest : List Stop
          rest = rest_of_route s f.0

          old : Leads next (closing_of f.0) xs
          old = subst (λ o. IfSome o (λ r. Leads next (closing_of r) r.stops)) f.1
              (found_in (λ r. Leads next (closing_of r) r.stops) (has_stop s) routes links)

          whole : count_of (has_ticket s) (stop_list others) + count_of (has_ticket s) xs
              ≡ count_of (has_ticket s) (stop_list routes)
          whole = omega (
            arith,
            total-without (λ t. cond (has_ticket s t) 1 0) s routes (written.once s),
            ap (count_of (has_ticket s)) (with_found s routes f.0 f.1),
          )

          has : 1 ≤ count_of (has_ticket s) xs
          has = count-any (has_ticket s) xs (found_passes (has_stop s) routes f.0 f.1)

          once : count_of (has_ticket s) xs ≤ 1
          once = omega (arith, whole, written.once s)

          left : Links led_past others
          left = Links-apart_past others (omega (arith, whole, has, written.once s))
              (Links-without next s routes links)

          at : (b : Bool) → f.0.is_ring ≡ b
              → Links led_past (put_route (cond b (ring rest) (linear rest)) others)
          at true e =
              let closing : closing_of f.0 ≡ head_or None xs =
              ap (λ b. cond b (head_or None xs) None) e in
              Links-put led_past (ring rest) others
              (Leads-from_smallest led_past rest
              (ring-past xs once (subst (λ c. Leads next c xs) closing old))) left
          at false e =
              let closing : closing_of f.0 ≡ None = ap (λ b. cond b (head_or None xs) None) e in
              Links-put led_past (linear rest) others
              (Leads-past None xs once (subst (λ c. Leads next c xs) closing old)) left

-- ---- by ticket

-- how many stops under a ticket are those of another
counted_under : (s k : ℕ) (xs : List Stop)
    → total (weight_under s (λ t. cond (has_ticket k t) 1 0)) xs
    ≡ cond (k == s) (count_of (has_ticket k) xs) 0
counted_under s k [] = at (k == s)
  where
    at : (b : Bool) → total (weight_under s (λ t. cond (has_ticket k t) 1 0)) []
        ≡ cond b (count_of (has_ticket k) []) 0
    at true = refl
    at false = refl
counted_under s k (x ∷ xs) =
    at (x.ticket == s) (x.ticket == k) (k == s) refl refl refl (counted_under s k xs)
  where
    under : ℕ
    under = total (weight_under s (λ t. cond (has_ticket k t) 1 0)) xs

    at : (a b c : Bool) → (x.ticket == s) ≡ a → (x.ticket == k) ≡ b → (k == s) ≡ c
        → under ≡ cond c (count_of (has_ticket k) xs) 0
        → cond a (cond b 1 0) 0 + under ≡ cond c (cond b 1 0 + count_of (has_ticket k) xs) 0
    at true true true ea eb ec h = omega (arith, h)
    at true true false ea eb ec h = let same : (k == s) ≡ true =
        eq-eqb k s (sym (eqb-true x.ticket k eb) ∙ eqb-true x.ticket s ea) in cc
    at true false true ea eb ec h = omega (arith, h)
    at true false false ea eb ec h = omega (arith, h)
    at false true true ea eb ec h = let same : (x.ticket == s) ≡ true =
        eq-eqb x.ticket s (eqb-true x.ticket k eb ∙ eqb-true k s ec) in cc
    at false true false ea eb ec h = omega (arith, h)
    at false false true ea eb ec h = omega (arith, h)
    at false false false ea eb ec h = omega (arith, h)

module _ (s : ℕ) (routes : List Route) (written : AreWritten routes) where
  kept : (k : ℕ) → count_of (has_ticket k) (stop_list (taken_out s routes)) + cond (k == s)
      (count_of (has_ticket k) (stop_list routes)) 0 ≡ count_of (has_ticket k) (stop_list routes)
  kept k = omega (
    arith,
    total-taken_out (λ t. cond (has_ticket k t) 1 0) s routes written,
    counted_under s k (stop_list routes),
  )

  pub length-taken_out : length (stop_list (taken_out s routes)) + count_of (has_ticket s)
      (stop_list routes) ≡ length (stop_list routes)
  length-taken_out = omega (
    arith,
    total-taken_out (λ t. 1) s routes written,
    length-total (stop_list (taken_out s routes)),
    length-total (stop_list routes),
  )

  -- every other stop leads past this one
  pub next-taken_out : 1 ≤ count_of (has_ticket s) (stop_list routes) → (k : ℕ) → k ≢ s
      → next_stop (taken_out s routes) k ≡ past s (next_stop routes s) (next_stop routes k)
  next-taken_out some k other = at (cases_lt 0 (count_of (has_ticket k) (stop_list routes)))
    where
      same : count_of (has_ticket k) (stop_list (taken_out s routes))
          ≡ count_of (has_ticket k) (stop_list routes)
      same = omega (
        arith,
        kept k,
        ap {B = ℕ} (λ b. cond b (count_of (has_ticket k) (stop_list routes)) 0) (ne_eqb k s other),
      )

      at : (0 < count_of (has_ticket k) (stop_list routes))
          ⊎ (count_of (has_ticket k) (stop_list routes) ≤ 0)
          → next_stop (taken_out s routes) k ≡ past s (next_stop routes s) (next_stop routes k)
      at (inl on) =
          next_stop-is (led_past (next_stop routes) s) (taken_out s routes) k
          (AreWritten-taken_out s routes written).once
          (Links-taken_out (next_stop routes) s routes written (Links-next_stop routes written.once)
          some) (omega (arith, on, same))
      at (inr off) =
          off_leads_nowhere k (taken_out s routes) (omega (arith, off, same))
          ∙ ap (past s (next_stop routes s)) (sym (off_leads_nowhere k routes (omega (arith, off))))

  -- each other stop stands under its ticket
  pub stop-taken_out : (k : ℕ)
      → stop_of (taken_out s routes) k ≡ cond (k == s) None (stop_of routes k)
  stop-taken_out k = same_found xs ys counts among k
      ∙ find-filter (λ (t : Stop). t.ticket) s k (stop_list routes)
    where
      xs : List Stop
      xs = rest_of s (stop_list routes)

      ys : List Stop
      ys = stop_list (taken_out s routes)

      counts : (n : ℕ) → count_of (has_ticket n) ys ≡ count_of (has_ticket n) xs
      counts n = omega (
        arith,
        total-taken_out (λ t. cond (has_ticket n t) 1 0) s routes written,
        total-filter (λ t. cond (has_ticket n t) 1 0) (has_ticket s) (stop_list routes),
      )

      lacking : (zs : List Stop) → count_of (has_ticket s) zs ≡ 0
          → AllByRecursion (λ t. has_ticket s t ≡ false) zs
      lacking [] none = tt
      lacking (z ∷ zs) none = (at (z.ticket == s) refl, lacking zs (omega (arith, none)))
        where
          at : (b : Bool) → (z.ticket == s) ≡ b → (z.ticket == s) ≡ false
          at true e = absurd (omega (arith, none, ap {B = ℕ} (λ c. cond c 1 0) e))
          at false e = e

      gone : count_of (has_ticket s) ys ≡ 0
      gone = omega (
        arith,
        kept s,
        ap {B = ℕ} (λ b. cond b (count_of (has_ticket s) (stop_list routes)) 0) (eq-eqb s s refl),
      )

      among : AllByRecursion (λ t. find (has_ticket t.ticket) xs ≡ Some t) ys
      among =
          all_weaker _ (λ t. find (has_ticket t.ticket) xs ≡ Some t) ys
          (λ t h. find-filter (λ (u : Stop). u.ticket) s t.ticket (stop_list routes)
          ∙ ap (λ b. cond b None (stop_of routes t.ticket)) h.1 ∙ h.0)
          (all_both (λ t. stop_of routes t.ticket ≡ Some t) (λ t. has_ticket s t ≡ false) ys
          (all_taken_out (λ t. stop_of routes t.ticket ≡ Some t) s routes
          (own_stop (stop_list routes) written.once)) (lacking ys gone))
