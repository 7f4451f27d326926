-- The routes of a state are chains of the interlinks.
use Rattle.std.proofs.Common.{◌≡◌, ◌≢◌, ◌∙◌, sym, ap, subst, refl, Bool, true, false, ℕ, ◌+◌, ◌≤◌}
use Rattle.std.proofs.Common.{List, [], ◌∷◌, ◌++◌, Option, Some, None, IsSome, IfSome, true≢false}
use Rattle.std.proofs.Common.{cond, if◌then◌else◌, arith}
use Rattle.std.specs.List.{AllByRecursion}
use Rattle.std.specs.Option.{option_map, option_to_list}
use Rattle.std.proofs.lemmas.Bool.{eq-eqb}
use Rattle.linked_lists.specs.LinkedLists.{Ends, IsAgreed, next_in, prev_in, next_at, prev_at}
use Rattle.linked_lists.specs.LinkedLists.{first_or, last_or, IsSegment, Off, Apart, IsLinear}
use Rattle.linked_lists.specs.LinkedLists.{IsRing}
use Rattle.linked_lists.specs.ChainLaws.{live_next_in, live_prev_in}
use Rattle.linked_lists.specs.Chains.{Linear, Cyclic, IsChainOf}
use Rattle.route_lines.specs.Cuts.{first_item}
use Rattle.route_lines.specs.Leads.{head_or, Leads, closes_at}
use Rattle.route_lines.specs.Routes.{has_ticket}
use Rattle.route_lines.specs.Sound.{count_of}
use Rattle.route_lines.specs.State.{Stop, Route, stop_list}
use Rattle.route_book.specs.Follows.{along, IsRoute}
use Rattle.route_book.proofs.StopWalkLemmas.{ticket_by}

there : {X : Type 0} (o : Option X) → IsSome o → (x : X) × (o ≡ Some x)
there None some = absurd (true≢false (sym some))
there (Some x) some = (x, refl)

count-append : (k : ℕ) (xs ys : List Stop)
    → count_of (has_ticket k) (xs ++ ys) ≡ count_of (has_ticket k) xs + count_of (has_ticket k) ys
count-append k [] ys = omega arith
count-append k (x ∷ xs) ys = omega (arith, count-append k xs ys)

all_front : (P : Stop → Type 0) (xs ys : List Stop) → AllByRecursion P (xs ++ ys)
    → AllByRecursion P xs
all_front P [] ys h = tt
all_front P (x ∷ xs) ys h = (h.0, all_front P xs ys h.1)

all_back : (P : Stop → Type 0) (xs ys : List Stop) → AllByRecursion P (xs ++ ys)
    → AllByRecursion P ys
all_back P [] ys h = h
all_back P (x ∷ xs) ys h = all_back P xs ys h.1

first_some : (xs : List ℕ) (after : Option ℕ) (j : ℕ) → first_or xs None ≡ Some j
    → first_or xs after ≡ Some j
first_some [] after j e = absurd (let never : ◌≡◌ {A = Option ℕ} None (Some j) = e in cc)
first_some (x ∷ xs) after j e = e

-- the last index of a list leads to what follows the list
last_leads : (ends : ℕ → Option Ends) (b a : Option ℕ) (xs : List ℕ) → IsSegment ends b xs a
    → (l : ℕ)
    → last_or None xs ≡ Some l → next_at ends l ≡ a
last_leads ends b a [] h l e = absurd (let never : ◌≡◌ {A = Option ℕ} None (Some l) = e in cc)
last_leads ends b a (x ∷ []) h l e = let same : x ≡ l = cc in ap (next_at ends) (sym same)
    ∙ ap next_in h.0
last_leads ends b a (x ∷ y ∷ xs) h l e = last_leads ends (Some x) a (y ∷ xs) h.1 l e

last_some : (x : ℕ) (xs : List ℕ) → (l : ℕ) × (last_or None (x ∷ xs) ≡ Some l)
last_some x [] = (x, refl)
last_some x (y ∷ xs) = last_some y xs

module _ (at : ℕ → Option Stop) (ends : ℕ → Option Ends) (next previous : ℕ → Option ℕ)
    (Known : Stop → Type 0) (agreed : IsAgreed ends)
    (live : (i : ℕ) → IsSome (ends i) → IsSome (at i))
    (alive : (i : ℕ) → IsSome (at i) → IsSome (ends i))
    (lead : (i : ℕ) (t : Stop) → at i ≡ Some t → next t.ticket ≡ ticket_by at (next_at ends i))
    (back : (i : ℕ) (t : Stop) → at i ≡ Some t
    → previous t.ticket ≡ ticket_by at (prev_at ends i))
    (distinct : (i j : ℕ) (t u : Stop) → at i ≡ Some t → at j ≡ Some u → t.ticket ≡ u.ticket
    → i ≡ j) (index : (t : Stop) → Known t → (i : ℕ) × (at i ≡ Some t)) where
  -- live indexes with one ticket are one
  one_index : (o p : Option ℕ) → IfSome o (λ i. IsSome (at i)) → IfSome p (λ i. IsSome (at i))
      → ticket_by at o ≡ ticket_by at p → o ≡ p
  one_index None None a b e = refl
  one_index None (Some j) a b e =
      absurd (let x = there (at j) b in let never : ◌≡◌ {A = Option ℕ} None (Some x.0.ticket) = e
      ∙ ap (option_map (λ (t : Stop). t.ticket)) x.1 in cc)
  one_index (Some i) None a b e =
      absurd (let x = there (at i) a in let never : ◌≡◌ {A = Option ℕ} None (Some x.0.ticket) =
      sym e ∙ ap (option_map (λ (t : Stop). t.ticket)) x.1 in cc)
  one_index (Some i) (Some j) a b e =
      let x = there (at i) a in
      let y = there (at j) b in
      let both : Some x.0.ticket ≡ Some y.0.ticket =
      sym (ap (option_map (λ (t : Stop). t.ticket)) x.1) ∙ e
      ∙ ap (option_map (λ (t : Stop). t.ticket)) y.1 in
      let same : x.0.ticket ≡ y.0.ticket = cc in
      ap Some (distinct i j x.0 y.0 x.1 y.1 same)

  next_live : (i : ℕ) → IfSome (next_at ends i) (λ j. IsSome (at j))
  next_live i = by (next_at ends i) refl
    where
      by : (o : Option ℕ) → next_at ends i ≡ o → IfSome o (λ j. IsSome (at j))
      by None e = tt
      by (Some j) e = live j (live_prev_in (ends j) i (agreed.forward i j e))

  prev_live : (i : ℕ) → IfSome (prev_at ends i) (λ j. IsSome (at j))
  prev_live i = by (prev_at ends i) refl
    where
      by : (o : Option ℕ) → prev_at ends i ≡ o → IfSome o (λ j. IsSome (at j))
      by None e = tt
      by (Some j) e = live j (live_next_in (ends j) i (agreed.backward j i e))

  -- the indexes of stops
  chain_of : (ts : List Stop) → AllByRecursion Known ts → List ℕ
  chain_of [] h = []
  chain_of (t ∷ ts) h = (index t h.0).0 ∷ chain_of ts h.1

  along_chain : (ts : List Stop) (h : AllByRecursion Known ts) → ts ≡ along at (chain_of ts h)
  unfolding chain_of
  along_chain [] h = refl
  along_chain (t ∷ ts) h = ap (λ l. t ∷ l) (along_chain ts h.1)
      ∙ sym (ap (λ o. option_to_list o ++ along at (chain_of ts h.1)) (index t h.0).1)

  heads : (after : Option ℕ) (ts : List Stop) (h : AllByRecursion Known ts)
      → head_or (ticket_by at after) ts ≡ ticket_by at (first_or (chain_of ts h) after)
  unfolding chain_of
  heads after [] h = refl
  heads after (t ∷ ts) h = sym (ap (option_map (λ (x : Stop). x.ticket)) (index t h.0).1)

  first_live : (after : Option ℕ) (ts : List Stop) (h : AllByRecursion Known ts)
      → IfSome after (λ j. IsSome (at j))
      → IfSome (first_or (chain_of ts h) after) (λ j. IsSome (at j))
  unfolding chain_of
  first_live after [] h there = there
  first_live after (t ∷ ts) h there = subst IsSome (sym (index t h.0).1) refl

  stand : (before after : Option ℕ) (ts : List Stop) (h : AllByRecursion Known ts)
      → IfSome after (λ j. IsSome (at j)) → Leads next (ticket_by at after) ts
      → ((i : ℕ) → first_or (chain_of ts h) None ≡ Some i → prev_at ends i ≡ before)
      → IsSegment ends before (chain_of ts h) after
  unfolding chain_of
  stand before after [] h there leads first = tt
  stand before after (t ∷ ts) h there leads first = (
    ends_are (ends i) refl (alive i (subst IsSome (sym here) refl)),
    stand (Some i) after ts h.1 there leads.1
        (λ j is. agreed.forward i j (next_is ∙ first_some (chain_of ts h.1) after j is)),
  )
    where
      i : ℕ
      i = (index t h.0).0

      here : at i ≡ Some t
      here = (index t h.0).1

      next_is : next_at ends i ≡ first_or (chain_of ts h.1) after
      next_is = one_index (next_at ends i) (first_or (chain_of ts h.1) after) (next_live i)
          (first_live after ts h.1 there) (sym (lead i t here) ∙ leads.0 ∙ heads after ts h.1)

      ends_are : (o : Option Ends) → ends i ≡ o → IsSome o
          → ends i ≡ Some (before, first_or (chain_of ts h.1) after)
      ends_are None e some = absurd (true≢false (sym some))
      ends_are (Some e) is some =
          let p : e.0 ≡ before = sym (ap prev_in is) ∙ first i refl in
          let n : e.1 ≡ first_or (chain_of ts h.1) after = sym (ap next_in is) ∙ next_is in
          is ∙ ap (λ x. Some (x, e.1)) p ∙ ap (λ x. Some (before, x)) n

  off_chain : (i : ℕ) (x : Stop) → at i ≡ Some x → (ts : List Stop) (h : AllByRecursion Known ts)
      → count_of (has_ticket x.ticket) ts ≡ 0 → Off (chain_of ts h) i
  unfolding chain_of
  off_chain i x here [] h none = tt
  off_chain i x here (t ∷ ts) h none = (apart, off_chain i x here ts h.1 (omega (arith, none)))
    where
      apart : (index t h.0).0 ≢ i
      apart same =
          let both : Some t ≡ Some x = sym (index t h.0).1 ∙ ap at same ∙ here in
          let one : t ≡ x = cc in
          omega (
            arith,
            none,
            ap {B = ℕ} (λ b. cond b 1 0)
                (eq-eqb t.ticket x.ticket (ap (λ (y : Stop). y.ticket) one)),
          )

  apart_chain : (ts : List Stop) (h : AllByRecursion Known ts)
      → ((k : ℕ) → count_of (has_ticket k) ts ≤ 1) → Apart (chain_of ts h)
  unfolding chain_of
  apart_chain [] h once = tt
  apart_chain (t ∷ ts) h once = (
    off_chain (index t h.0).0 t (index t h.0).1 ts h.1
        (omega (
          arith,
          once t.ticket,
          ap {B = ℕ} (λ b. cond b 1 0) (eq-eqb t.ticket t.ticket refl),
        )),
    apart_chain ts h.1 (λ k. omega (arith, once k)),
  )

  line : (ts : List Stop) (h : AllByRecursion Known ts) → Leads next None ts
      → IfSome (first_item ts) (λ t. previous t.ticket ≡ None) → IsLinear ends (chain_of ts h)
  unfolding chain_of
  line ts h leads first = stand None None ts h tt leads (none_first ts h first)
    where
      none_first : (us : List Stop) (k : AllByRecursion Known us)
          → IfSome (first_item us) (λ t. previous t.ticket ≡ None) → (i : ℕ)
          → first_or (chain_of us k) None ≡ Some i → prev_at ends i ≡ None
      none_first [] k none i is = absurd (let never : ◌≡◌ {A = Option ℕ} None (Some i) = is in cc)
      none_first (u ∷ us) k none i is =
          let same : (index u k.0).0 ≡ i = cc in
          let before = one_index (prev_at ends (index u k.0).0) None (prev_live (index u k.0).0) tt
          (sym (back (index u k.0).0 u (index u k.0).1) ∙ none) in
          ap (prev_at ends) (sym same) ∙ before

  round : (ts : List Stop) (h : AllByRecursion Known ts) → Leads next (head_or None ts) ts
      → ((k : ℕ) → count_of (has_ticket k) ts ≤ 1) → IsRing ends (chain_of ts h)
  round ts h leads once = record { stands = by (chain_of ts h) refl; apart = apart_chain ts h once }
    where
      chain : List ℕ
      chain = chain_of ts h

      closing : Leads next (ticket_by at (first_or chain None)) ts
      closing = subst (λ c. Leads next c ts) (heads None ts h) leads

      by : (xs : List ℕ) → chain ≡ xs
          → IsSegment ends (last_or None chain) chain (first_or chain None)
      by [] is = subst (λ ys. IsSegment ends (last_or None ys) ys (first_or ys None)) (sym is) tt
      by (x ∷ xs) is =
          let first : first_or chain None ≡ Some x = ap (λ ys. first_or ys None) is in
          let stood = stand (prev_at ends x) (first_or chain None) ts h (first_live None ts h tt)
          closing
          (λ i e. let both : Some x ≡ Some i = sym first
          ∙ e in let same : x ≡ i = cc in ap (prev_at ends) (sym same)) in
          let last = last_some x xs in
          let ending : last_or None chain ≡ Some last.0 = ap (last_or None) is ∙ last.1 in
          let leads_on : next_at ends last.0 ≡ Some x =
          last_leads ends (prev_at ends x) (first_or chain None) chain stood last.0 ending
          ∙ first in
          subst (λ b. IsSegment ends b chain (first_or chain None))
          (agreed.forward last.0 x leads_on ∙ sym ending) stood

  pub routes_are_chains : (rs : List Route)
      → AllByRecursion (λ r. Leads next (closes_at r) r.stops) rs
      → AllByRecursion (λ r. r.is_ring ≡ false
      → IfSome (first_item r.stops) (λ t. previous t.ticket ≡ None)) rs
      → AllByRecursion Known (stop_list rs) → ((k : ℕ) → count_of (has_ticket k) (stop_list rs) ≤ 1)
      → AllByRecursion (IsRoute at ends) rs
  routes_are_chains [] leads first known once = tt
  routes_are_chains (r ∷ rs) leads first known once = (
    by r.is_ring refl,
    routes_are_chains rs leads.1 first.1 (all_back Known r.stops (stop_list rs) known)
        (λ k. omega (arith, once k, count-append k r.stops (stop_list rs))),
  )
    where
      own : AllByRecursion Known r.stops
      own = all_front Known r.stops (stop_list rs) known

      by : (b : Bool) → r.is_ring ≡ b → IsRoute at ends r
      by true is = record {
        chain = chain_of r.stops own;
        is_chain = subst (λ b. IsChainOf ends
            (if b then Cyclic (chain_of r.stops own) else Linear (chain_of r.stops own))) (sym is)
            (round r.stops own (subst
            (λ b. Leads next (if b then head_or None r.stops else None) r.stops) is leads.0)
            (λ k. omega (arith, once k, count-append k r.stops (stop_list rs))));
        stops = along_chain r.stops own;
      }
      by false is = record {
        chain = chain_of r.stops own;
        is_chain = subst (λ b. IsChainOf ends
            (if b then Cyclic (chain_of r.stops own) else Linear (chain_of r.stops own))) (sym is)
            (line r.stops own (subst
            (λ b. Leads next (if b then head_or None r.stops else None) r.stops) is leads.0)
            (first.0 is));
        stops = along_chain r.stops own;
      }
