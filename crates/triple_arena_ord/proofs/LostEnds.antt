-- The ends of a list without an index.
use Rattle.std.proofs.Common.{◌≡◌, ℕ, List, [], ◌∷◌, ◌++◌, Option, Some, None, refl, sym, ap, ◌∙◌}
use Rattle.std.proofs.Common.{subst}
use Rattle.std.proofs.lemmas.Bool.{eq-eqb, ne_eqb}
use Rattle.linked_lists.specs.LinkedLists.{Ends, Off, Apart, IsLinear, first_or, last_or}
use Rattle.linked_lists.specs.LinkedListLaws.{Off-not_on, last_or-append}
use Rattle.triple_arena_chain.specs.Links.{ends_in}
use Rattle.linked_lists.specs.UniquenessLaws.{linear_apart}
use Rattle.triple_arena_ord.specs.Ordered.{Ordered, IsOrdered, order_in}
use Rattle.triple_arena_ord.specs.Removal.{Loses, ended}
use Rattle.triple_arena_ord.proofs.EndLemmas.{last_far, last_some, after_off}
use Rattle.triple_arena_ord.proofs.GapLemmas.{linear_ends}

first_without : (before : List ℕ) (h : ℕ) (after : List ℕ) → Apart (before ++ h ∷ after)
    → ended (first_or (before ++ h ∷ after) None) h (first_or after None)
    ≡ first_or (before ++ after) None
first_without [] h after apart = rw (eq-eqb h h refl) refl
first_without (x ∷ xs) h after apart =
    rw (ne_eqb x h (λ same. Off-not_on xs after h
    (subst (λ z. Off (xs ++ h ∷ after) z) same apart.0))) refl

last_without : (before : List ℕ) (h : ℕ) (after : List ℕ) → Apart (before ++ h ∷ after)
    → ended (last_or None (before ++ h ∷ after)) h (last_or None before)
    ≡ last_or None (before ++ after)
last_without before h after apart =
    rw (last_or-append None before (h ∷ after), last_or-append None before after)
    (go after (after_off before h after apart))
  where
    go : (after : List ℕ) → Off after h
        → ended (last_or (Some h) after) h (last_or None before)
        ≡ last_or (last_or None before) after
    go [] off = rw (eq-eqb h h refl) refl
    go (y ∷ ys) off =
        let l = last_some y ys in
        rw (l.1, ne_eqb l.0 h (last_far h y ys off l.0 l.1)) refl

module _ {T : Type 0} (o p : Ordered T) (is : IsOrdered o) (h : ℕ)
    (s : Loses (order_in o) (order_in p) h)
    (prev next : Option ℕ) (ends : ends_in o.chains h ≡ Some (prev, next)) where
  apart : Apart (s.before ++ h ∷ s.after)
  apart = subst Apart s.was
      (linear_apart (ends_in o.chains) None (order_in o) is.linear)

  neighbors : ◌≡◌ {A = Ends} (prev, next) (last_or None s.before, first_or s.after None)
  neighbors =
      let e : Some (prev, next) ≡ Some (last_or None s.before, first_or s.after None) =
      sym ends ∙ linear_ends (ends_in o.chains) s.before h s.after
      (subst (IsLinear (ends_in o.chains)) s.was is.linear) in
      cc e

  pub first_lost : (f : Option ℕ) → f ≡ first_or (order_in o) None
      → ended f h next ≡ first_or (order_in p) None
  first_lost f e =
      ap (λ z. ended f h z.1) neighbors
      ∙ ap (λ z. ended z h (first_or s.after None)) (e ∙ ap (λ l. first_or l None) s.was)
      ∙ first_without s.before h s.after apart ∙ sym (ap (λ l. first_or l None) s.is)

  pub last_lost : (f : Option ℕ) → f ≡ last_or None (order_in o)
      → ended f h prev ≡ last_or None (order_in p)
  last_lost f e =
      ap (λ z. ended f h z.0) neighbors
      ∙ ap (λ z. ended z h (last_or None s.before)) (e ∙ ap (last_or None) s.was)
      ∙ last_without s.before h s.after apart ∙ sym (ap (last_or None) s.is)
