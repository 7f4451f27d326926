-- The ends of a list with one more index.
use Rattle.std.proofs.Common.{◌≡◌, ◌≢◌, ℕ, List, [], ◌∷◌, ◌++◌, Option, Some, None, refl, sym, ap}
use Rattle.std.proofs.Common.{◌∙◌, subst}
use Rattle.std.proofs.lemmas.Bool.{eq-eqb, ne_eqb}
use Rattle.linked_lists.specs.LinkedLists.{Off, Apart, first_or, last_or}
use Rattle.linked_lists.specs.LinkedListLaws.{Off-not_on, last_or-append}
use Rattle.triple_arena_chain.specs.Links.{ends_in}
use Rattle.linked_lists.specs.UniquenessLaws.{linear_apart}
use Rattle.rank_tree.specs.declared.side.Side.{Side}
use Rattle.rank_tree.specs.declared.side.Side.TheVariants.{Left, Right}
use Rattle.triple_arena_ord.specs.Ordered.{Ordered, IsOrdered, StandsBeside, beside, end_after}
use Rattle.triple_arena_ord.specs.Ordered.{new_end, order_in}

first_left : (before : List ℕ) (h n : ℕ) (after : List ℕ) → Apart (before ++ h ∷ after)
    → new_end (first_or (before ++ h ∷ after) None) h n ≡ first_or (before ++ n ∷ h ∷ after) None
first_left [] h n after apart = rw (eq-eqb h h refl) refl
first_left (x ∷ xs) h n after apart =
    rw (ne_eqb x h (λ same. Off-not_on xs after h
    (subst (λ z. Off (xs ++ h ∷ after) z) same apart.0))) refl

first_right : (before : List ℕ) (h n : ℕ) (after : List ℕ)
    → first_or (before ++ h ∷ after) None ≡ first_or (before ++ h ∷ n ∷ after) None
first_right [] h n after = refl
first_right (x ∷ xs) h n after = refl

-- the last of a list that begins with an index stands elsewhere than that index
pub last_far : (h y : ℕ) (ys : List ℕ) → Off (y ∷ ys) h → (p : ℕ) → last_or (Some y) ys ≡ Some p
    → p ≢ h
last_far h y [] off p is same = let z : y ≡ p = cc in off.0 (z ∙ same)
last_far h y (x ∷ xs) off p is same = last_far h x xs off.1 p is same

pub last_some : (y : ℕ) (ys : List ℕ) → (p : ℕ) × (last_or (Some y) ys ≡ Some p)
last_some y [] = (y, refl)
last_some y (x ∷ xs) = last_some x xs

pub after_off : (before : List ℕ) (h : ℕ) (after : List ℕ) → Apart (before ++ h ∷ after)
    → Off after h
after_off [] h after apart = apart.0
after_off (x ∷ xs) h after apart = after_off xs h after apart.1

last_right : (before : List ℕ) (h n : ℕ) (after : List ℕ) → Apart (before ++ h ∷ after)
    → new_end (last_or None (before ++ h ∷ after)) h n ≡ last_or None (before ++ h ∷ n ∷ after)
last_right before h n after apart =
    rw (last_or-append None before (h ∷ after), last_or-append None before (h ∷ n ∷ after))
    (go after (after_off before h after apart))
  where
    go : (after : List ℕ) → Off after h
        → new_end (last_or (Some h) after) h n ≡ last_or (Some n) after
    go [] off = rw (eq-eqb h h refl) refl
    go (y ∷ ys) off =
        let l = last_some y ys in
        rw (l.1, ne_eqb l.0 h (last_far h y ys off l.0 l.1)) refl

last_left : (before : List ℕ) (h n : ℕ) (after : List ℕ)
    → last_or None (before ++ h ∷ after) ≡ last_or None (before ++ n ∷ h ∷ after)
last_left before h n after = last_or-append None before (h ∷ after)
    ∙ sym (last_or-append None before (n ∷ h ∷ after))

module _ {T : Type 0} (o p : Ordered T) (is : IsOrdered o) (side : Side)
    (h n : ℕ) (s : StandsBeside side (order_in o) (order_in p) h n) where
  apart : Apart (s.before ++ h ∷ s.after)
  apart = subst Apart s.was
      (linear_apart (ends_in o.chains) None (order_in o) is.linear)

  pub first_moved : (f : Option ℕ) → f ≡ first_or (order_in o) None
      → end_after side Left f h n ≡ first_or (order_in p) None
  first_moved f e = ap (λ z. end_after side Left z h n) (e ∙ ap (λ l. first_or l None) s.was)
      ∙ by side s.is
    where
      by : (side : Side) → order_in p ≡ beside side s.before h n s.after
          → end_after side Left (first_or (s.before ++ h ∷ s.after) None) h n
          ≡ first_or (order_in p) None
      by Left w = first_left s.before h n s.after apart ∙ sym (ap (λ l. first_or l None) w)
      by Right w = first_right s.before h n s.after ∙ sym (ap (λ l. first_or l None) w)

  pub last_moved : (f : Option ℕ) → f ≡ last_or None (order_in o)
      → end_after side Right f h n ≡ last_or None (order_in p)
  last_moved f e = ap (λ z. end_after side Right z h n) (e ∙ ap (last_or None) s.was) ∙ by side s.is
    where
      by : (side : Side) → order_in p ≡ beside side s.before h n s.after
          → end_after side Right (last_or None (s.before ++ h ∷ s.after)) h n
          ≡ last_or None (order_in p)
      by Left w = last_left s.before h n s.after ∙ sym (ap (last_or None) w)
      by Right w = last_right s.before h n s.after apart ∙ sym (ap (last_or None) w)
