-- What one more index makes of the chains.
use Rattle.std.proofs.Common.{◌≡◌, ◌≢◌, ℕ, List, [], ◌∷◌, ◌++◌, Option, Some, None, IsSome, refl}
use Rattle.std.proofs.Common.{sym, ap, subst, ◌∙◌, inl, inr, is_some, true, false, true≢false}
use Rattle.std.proofs.lemmas.Bool.{eq-eqb, ne_eqb}
use Rattle.std.proofs.lemmas.Bool.Decides.{eqb_tells}
use Rattle.linked_lists.specs.LinkedLists.{Ends, next_in, prev_in, next_at, prev_at, with_next_if}
use Rattle.linked_lists.specs.LinkedLists.{added, put_between, IsBetween, IsAgreed, first_or}
use Rattle.linked_lists.specs.LinkedLists.{last_or, Off}
use Rattle.linked_lists.specs.LinkedLists.{On, Apart, IsLinear, IsRing}
use Rattle.linked_lists.specs.LinkedListLaws.{first_or-append, last_or-append, Apart-both}
use Rattle.linked_lists.specs.UniquenessLaws.{Ended, none, some_last, ended, linear_apart}
use Rattle.linked_lists.specs.Chains.{members, IsOffIf, IsPutIn, IsOwnRing}
use Rattle.linked_lists.specs.ChainLaws.{on_differs, off_or_not, first_on, last_on_list}
use Rattle.linked_lists.specs.ChainLaws.{Apart-split, Apart-front, live_in, Follows, follows}
use Rattle.linked_lists.specs.ChainLaws.{Follows-append, Follows-front, Follows-back}
use Rattle.linked_lists.specs.ChainLaws.{Follows-live, starts, linear_same, linear_by}
use Rattle.linked_lists.specs.ChainLaws.{chain_where, ring_by}
use Rattle.linked_lists.specs.GapLaws.{apart, next_new, prev_new, next_before}
use Rattle.linked_lists.specs.GapLaws.{next_other, prev_other}
use Rattle.linked_lists.specs.JoinLaws.{Follows-where, alive-with_next_if}
use Rattle.linked_lists.specs.JoinLaws.{alive-with_prev_if, same-with_next_if}
use Rattle.linked_lists.specs.JoinLaws.{same-with_prev_if}

alive-added : (e : ℕ → Option Ends) (n : ℕ) (v : Ends) (k : ℕ) → IsSome (e k)
    → IsSome (added e n v k)
alive-added e n v k some =
    elim (eqb_tells k n) [ inl same ↦ rw same.0 refl | inr differs ↦ rw differs.0 some ]

module _ (e e' : ℕ → Option Ends) (n : ℕ) (gap : Ends) (agreed' : IsAgreed e') (vacant : e n ≡ None)
    (is_gap : IsBetween e gap)
    (same : (k : ℕ) → e' k ≡ put_between e n gap k) where
  abbrev f : ℕ → Option Ends
  f = added e n gap

  writes_alive : (k : ℕ) → IsSome (f k) → IsSome (e' k)
  writes_alive k some =
      rw same (alive-with_prev_if (with_next_if f gap.0 (Some n)) gap.1 (Some n) k
      (alive-with_next_if f gap.0 (Some n) k some))

  alive : (k : ℕ) → IsSome (e k) → IsSome (e' k)
  alive k some = writes_alive k (alive-added e n gap k some)

  new_live : IsSome (e' n)
  new_live = writes_alive n (rw (eq-eqb n n refl) refl)

  next_same : (k : ℕ) → IsSome (e k) → gap.0 ≢ Some k → next_at e' k ≡ next_at e k
  next_same k some other = ap next_in (same k)
      ∙ next_other e n gap vacant is_gap k (apart e n gap vacant is_gap k some) other

  -- a list that ends at the gap goes on with the new index
  goes_on : (before : List ℕ) (a : Option ℕ) → last_or None before ≡ gap.0 → Follows e before a
      → Apart before → Follows e' before (Some n)
  goes_on before a end g once = by (ended before)
    where
      by : Ended before → Follows e' before (Some n)
      by (none is) = subst (λ l. Follows e' l (Some n)) (sym is) tt
      by (some_last zs z is) =
          let at_z : gap.0 ≡ Some z = sym end ∙ ap (last_or None) is
          ∙ last_or-append None zs (z ∷ []) in
          let off : Off zs z = (Apart-split zs [] z (subst Apart is once)).0 in
          let g' : Follows e (zs ++ z ∷ []) a = subst (λ l. Follows e l a) is g in
          let back = Follows-back e a zs (z ∷ []) g' in
          let front = Follows-front e a zs (z ∷ []) g' in
          let kept = Follows-where e e' alive (Some z) zs
          (λ k on. next_same k (Follows-live e (Some z) zs k front on)
          (λ at_k. on_differs zs z k on off
          (let both : Some z ≡ Some k = sym at_z ∙ at_k in cc)))
          front in
          subst (λ l. Follows e' l (Some n)) (sym is)
          (Follows-append e' (Some n) zs (z ∷ []) kept (
            (alive z back.0.0, ap next_in (same z) ∙ next_before e n gap vacant is_gap z at_z),
            tt,
          ))

  between : (before after : List ℕ) (a : Option ℕ) → last_or None before ≡ gap.0
      → first_or after None ≡ gap.1 → Follows e before a → Apart before
      → Follows e after None → ((k : ℕ) → On before k → On after k → ⊥)
      → ((x : ℕ) → first_or before None ≡ Some x → prev_at e x ≡ None)
      → IsLinear e' (before ++ n ∷ after)
  between before after a end begin g once h two start =
      linear_by e' agreed' (before ++ n ∷ after)
      (Follows-append e' None before (n ∷ after) (goes_on before a end g once) (
        (new_live, ap next_in (same n) ∙ next_new e n gap vacant is_gap ∙ sym begin),
        Follows-where e e' alive None after
            (λ k on. next_same k (Follows-live e None after k h on)
            (λ at_k. two k (last_on_list e before k (end ∙ at_k)) on)) h,
      ))
      (λ x is. by before refl x is)
    where
      by : (xs : List ℕ) → before ≡ xs → (x : ℕ) → first_or (before ++ n ∷ after) None ≡ Some x
          → prev_at e' x ≡ None
      by [] none_is x is =
          let at_n : Some n ≡ Some x = sym (ap (λ l. first_or (l ++ n ∷ after) None) none_is)
          ∙ is in
          let x_is : n ≡ x = cc in
          ap (prev_at e') (sym x_is) ∙ ap prev_in (same n) ∙ prev_new e n gap vacant is_gap
          ∙ sym end ∙ ap (last_or None) none_is
      by (y ∷ ys) some_is x is =
          let first : first_or before None ≡ Some x = ap (λ l. first_or l None) some_is
          ∙ sym (ap (λ l. first_or (l ++ n ∷ after) None) some_is) ∙ is in
          let on = first_on before x first in
          let live = Follows-live e a before x g on in
          ap prev_in (same x)
          ∙ prev_other e n gap vacant is_gap x (apart e n gap vacant is_gap x live)
          (λ at_x. two x on (first_on after x (begin ∙ at_x)))
          ∙ start x first

  round : (q : ℕ) (after : List ℕ) (a : Option ℕ) → last_or (Some q) after ≡ gap.0 → Some q ≡ gap.1
      → Follows e (q ∷ after) a → Apart (q ∷ after)
      → IsRing e' (n ∷ q ∷ after)
  round q after a end begin g once =
      ring_by e' agreed' n (q ∷ after) (
        (new_live, ap next_in (same n) ∙ next_new e n gap vacant is_gap ∙ sym begin),
        goes_on (q ∷ after) a end g once,
      )
      (off_or_not (q ∷ after) n
      (λ on. apart e n gap vacant is_gap n (Follows-live e a (q ∷ after) n g on) refl))

  off_if : (xs : List ℕ) (o : Option ℕ) (k : ℕ) → IsOffIf xs o → On xs k → o ≢ Some k
  off_if xs None k off on is = absurd (let no : None ≡ Some k = is in cc)
  off_if xs (Some i) k off on is = on_differs xs i k on off (let both : i ≡ k = cc in sym both)

  pub is_put_in : IsPutIn gap n e e'
  is_put_in =
      record {
        inside =
            λ before after end begin s.
            let once = linear_apart e None (before ++ after) s in
            let all = follows e None None (before ++ after) s in
            between before after (first_or after None) end begin
            (Follows-front e None before after all) (Apart-front before after once)
            (Follows-back e None before after all)
            (λ k on on'. Apart-both before after k once on on')
            (λ x is. starts e (before ++ after) x s
            (first_or-append before after None ∙ still before (first_or after None) x is));
        bridged =
            λ before after end begin s t differ.
            between before after None end begin (follows e None None before s)
            (linear_apart e None before s) (follows e None None after t)
            (λ k on on'. differ (linear_same e before after k s t on on'))
            (λ x is. starts e before x s is);
        closed = λ q after end begin s. round q after None end begin
            (follows e None None (q ∷ after) s) (linear_apart e None (q ∷ after) s);
        in_ring = λ q after end begin r.
            round q after (Some q) end begin
            (follows e (last_or (Some q) after) (Some q) (q ∷ after) r.stands) r.apart;
        others =
            λ c chain off_before off_after.
            chain_where e e' c
            (λ k on.
            let live = live_in e c k chain on in
            same k ∙ same-with_prev_if (with_next_if f gap.0 (Some n)) gap.1 (Some n) k
            (off_if (members c) gap.1 k off_after on)
            ∙ same-with_next_if f gap.0 (Some n) k (off_if (members c) gap.0 k off_before on)
            ∙ rw (ne_eqb k n (apart e n gap vacant is_gap k live)) refl)
            chain;
      }
    where
      still : (xs : List ℕ) (o : Option ℕ) (x : ℕ) → first_or xs None ≡ Some x
          → first_or xs o ≡ Some x
      still [] o x is = absurd (let no : None ≡ Some x = is in cc)
      still (y ∷ ys) o x is = is

module _ (e e' : ℕ → Option Ends) (n : ℕ) (vacant : e n ≡ None)
    (same : (k : ℕ) → e' k ≡ added e n (Some n, Some n) k) where
  pub is_own_ring : IsOwnRing n e e'
  is_own_ring =
      record {
        alone = record { stands = (same n ∙ rw (eq-eqb n n refl) refl, tt); apart = (tt, tt) };
        others =
            λ c chain.
            chain_where e e' c
            (λ k on. same k ∙ rw (ne_eqb k n (λ at_n. not_live k at_n (live_in e c k chain on)))
            refl) chain;
      }
    where
      not_live : (k : ℕ) → k ≡ n → IsSome (e k) → ⊥
      not_live k at_n some = let no : true ≡ false = sym some
          ∙ ap is_some (ap e at_n ∙ vacant) in true≢false no
