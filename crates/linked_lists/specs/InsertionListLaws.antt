-- What an insertion, and a removal before one, make of a chain that a caller knows as a list.
use Rattle.std.proofs.Common.{◌≡◌, ◌≢◌, ℕ, List, [], ◌∷◌, ◌++◌, Option, Some, None, refl, sym, ap}
use Rattle.std.proofs.Common.{subst, ◌∙◌, append_assoc}
use Rattle.linked_lists.specs.LinkedLists.{Ends, next_in, next_at, prev_at, first_or, IsAgreed}
use Rattle.linked_lists.specs.LinkedLists.{Off, Apart, IsLinear, IsRing}
use Rattle.linked_lists.specs.LinkedListLaws.{last_or-append, Off-append, Apart-taken, segment-back}
use Rattle.linked_lists.specs.Chains.{Chain, Linear, members, IsChainOf, IsOffIf, IsAppended}
use Rattle.linked_lists.specs.Chains.{IsSplit, IsPutIn, IsTaken, IsExchanged}
use Rattle.linked_lists.specs.ChainLaws.{turned, off_or_not, on_differs, holds_prev}
use Rattle.linked_lists.specs.ChainLaws.{Apart-split}
use Rattle.linked_lists.specs.UniquenessLaws.{linear_apart}

module _ (old new : ℕ → Option Ends) (p n : ℕ)
    (put : IsPutIn (Some p, next_at old p) n old new) where
  -- directly after `p` in a linear chain
  pub linear-put_after : (before after : List ℕ) → IsLinear old (before ++ p ∷ after)
      → IsLinear new (before ++ (p ∷ n ∷ after))
  linear-put_after before after s =
      let begins : first_or after None ≡ next_at old p =
      sym (ap next_in (segment-back old None None before (p ∷ after) s).0) in
      let whole : IsLinear old ((before ++ p ∷ []) ++ after) =
      subst (IsLinear old) (sym (append_assoc before (p ∷ []) after)) s in
      subst (IsLinear new) (append_assoc before (p ∷ []) (n ∷ after))
      (put.inside (before ++ p ∷ []) after (last_or-append None before (p ∷ [])) begins whole)

  -- and in a ring
  pub ring-put_after : (after : List ℕ) → IsRing old (p ∷ after) → IsRing new (p ∷ n ∷ after)
  ring-put_after [] r = turned new (n ∷ []) p []
      (put.in_ring p [] refl (sym (ap next_in r.stands.0)) r)
  ring-put_after (q ∷ rest) r =
      let r' : IsRing old (q ∷ (rest ++ p ∷ [])) = turned old (p ∷ []) q rest r in
      let put' = put.in_ring q (rest ++ p ∷ []) (last_or-append (Some q) rest (p ∷ []))
      (sym (ap next_in r.stands.0)) r' in
      turned new (n ∷ q ∷ rest) p [] put'

  -- and each other chain is as it was
  pub others-put_after : IsAgreed old → (c : Chain) → IsChainOf old c → Off (members c) p
      → IsChainOf new c
  others-put_after agreed c chain off
      = put.others c chain off (by (next_at old p) (λ q out. agreed.forward p q out))
    where
      by : (o : Option ℕ) → ((q : ℕ) → o ≡ Some q → prev_at old q ≡ Some p) → IsOffIf (members c) o
      by None back = tt
      by (Some q) back = off_or_not (members c) q
          (λ on. on_differs (members c) p p (holds_prev old c q p chain on (back q refl)) off refl)

module _ (old between new : ℕ → Option Ends) (p q n : ℕ) (taken : IsTaken p old between)
    (put : IsPutIn (Some q, next_at between q) n between new) where
  -- what was taken out of a linear chain is in it again, as `n`, directly after `q`
  pub linear-moved : (before after before' after' : List ℕ) → IsLinear old (before ++ p ∷ after)
      → before ++ after ≡ before' ++ q ∷ after'
      → IsLinear new (before' ++ (q ∷ n ∷ after'))
  linear-moved before after before' after' s is =
      linear-put_after between new q n put before' after'
      (subst (IsLinear between) is (taken.from_linear before after s))

module _ (old between new : ℕ → Option Ends) (o p q : ℕ) (first : IsExchanged o p old between)
    (second : IsExchanged q p between new) where
  -- an exchange of the nexts of a link and of the next one, and then of those of the two behind it,
  -- turns these two round
  pub linear-reversed : (before after : List ℕ) → IsLinear old (before ++ (o ∷ p ∷ q ∷ after))
      → IsLinear new (before ++ (o ∷ q ∷ p ∷ after))
  linear-reversed before after s =
      let once = linear_apart old None (before ++ (o ∷ p ∷ q ∷ after)) s in
      let off_o = (Apart-split before (p ∷ q ∷ after) o once).1 in
      let whole : IsLinear old ((before ++ o ∷ []) ++ (p ∷ q ∷ after)) =
      subst (IsLinear old) (sym (append_assoc before (o ∷ []) (p ∷ q ∷ after))) s in
      let off_p = (Apart-split (before ++ o ∷ []) (q ∷ after) p
      (linear_apart old None ((before ++ o ∷ []) ++ (p ∷ q ∷ after)) whole)).1 in
      let cut = (first.first (λ same. off_o.0 (sym same))).cut_out before [] (q ∷ after) s in
      let there : IsLinear between ((before ++ o ∷ []) ++ q ∷ after) =
      subst (IsLinear between) (sym (append_assoc before (o ∷ []) (q ∷ after))) cut.0 in
      let back = (second.first off_p.0).taken_in (before ++ o ∷ []) after [] there cut.1 in
      subst (IsLinear new) (append_assoc before (o ∷ []) (q ∷ p ∷ after)) back

  -- in a ring too
  pub ring-reversed : (after : List ℕ) → IsRing old (o ∷ p ∷ q ∷ after)
      → IsRing new (o ∷ q ∷ p ∷ after)
  ring-reversed after r =
      let o_not_p : o ≢ p = λ same. r.apart.0.0 (sym same) in
      let off_p = r.apart.1.0 in
      let parts = (first.first o_not_p).parted [] (q ∷ after) r in
      let there : IsRing between (q ∷ after ++ o ∷ []) = turned between (o ∷ []) q after parts.0 in
      let off : Off (q ∷ after ++ o ∷ []) p =
      (off_p.0, Off-append after (o ∷ []) p off_p.1 (o_not_p, tt)) in
      turned new (q ∷ p ∷ after) o []
      ((second.first off_p.0).merged (after ++ o ∷ []) [] there parts.1 off)

module _ (old between broken new : ℕ → Option Ends) (o p q : ℕ)
    (first : IsExchanged o p old between) (parted : IsSplit p p between broken)
    (joined : IsAppended q p broken new) where
  -- where the second of the two is the end, the first one, once it was cut out, is appended behind
  -- it
  pub linear-reversed_end : (before after : List ℕ) → next_at between q ≡ None
      → IsLinear old (before ++ (o ∷ p ∷ q ∷ after))
      → IsLinear new (before ++ (o ∷ q ∷ p ∷ after))
  linear-reversed_end before after end s = by after cut.0 there
    where
      once : Apart (before ++ (o ∷ p ∷ q ∷ after))
      once = linear_apart old None (before ++ (o ∷ p ∷ q ∷ after)) s

      cut : IsLinear between (before ++ o ∷ q ∷ after) × IsRing between (p ∷ [])
      cut = (first.first (λ same. (Apart-split before (p ∷ q ∷ after) o once).1.0
          (sym same))).cut_out before [] (q ∷ after) s

      there : Off (before ++ (o ∷ q ∷ after)) p
      there =
          subst (λ l. Off l p) (append_assoc before (o ∷ []) (q ∷ after))
          (Apart-taken (before ++ o ∷ []) (q ∷ after) p
          (subst Apart (sym (append_assoc before (o ∷ []) (p ∷ q ∷ after))) once)).1

      by : (rest : List ℕ) → IsLinear between (before ++ (o ∷ q ∷ rest))
          → Off (before ++ (o ∷ q ∷ rest)) p
          → IsLinear new (before ++ (o ∷ q ∷ p ∷ rest))
      by (x ∷ xs) t off =
          let goes_on = ap next_in (segment-back between None None before (o ∷ q ∷ x ∷ xs) t).1.0 in
          absurd (let no : None ≡ Some x = sym end ∙ goes_on in cc)
      by [] t off =
          let same = append_assoc before (o ∷ []) (q ∷ []) in
          let t' : IsLinear between ((before ++ o ∷ []) ++ q ∷ []) =
          subst (IsLinear between) (sym same) t in
          let off' : Off ((before ++ o ∷ []) ++ q ∷ []) p = subst (λ l. Off l p) (sym same) off in
          let rest = parted.others (Linear ((before ++ o ∷ []) ++ q ∷ [])) t' off' off' in
          subst (IsLinear new) (append_assoc before (o ∷ []) (q ∷ p ∷ []))
          (joined.appended (before ++ o ∷ []) [] rest (parted.opened [] cut.1)
          (λ is. (subst (λ l. Off l p) is off').0 refl))
