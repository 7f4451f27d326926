-- What an exchange of nexts makes of the chains.
use Rattle.std.proofs.Common.{◌≡◌, ◌≢◌, ℕ, List, [], ◌∷◌, ◌++◌, Option, Some, None, IsSome, refl}
use Rattle.std.proofs.Common.{sym, ap, subst, ◌∙◌, append_assoc}
use Rattle.linked_lists.specs.LinkedLists.{Ends, next_in, prev_in, next_at, prev_at, with_next_if}
use Rattle.linked_lists.specs.LinkedLists.{with_prev_if, exchanged, IsAgreed, first_or, last_or}
use Rattle.linked_lists.specs.LinkedLists.{Off, On, Apart, IsLinear, IsRing}
use Rattle.linked_lists.specs.LinkedListLaws.{first_or-append, Off-append, Off-front, Off-back}
use Rattle.linked_lists.specs.LinkedListLaws.{Apart-both, On-cons}
use Rattle.linked_lists.specs.UniquenessLaws.{linear_apart}
use Rattle.linked_lists.specs.Chains.{members, IsTurned, IsExchanged}
use Rattle.linked_lists.specs.ChainLaws.{On-first, On-front, On-back, On-split, on_differs}
use Rattle.linked_lists.specs.ChainLaws.{off_or_not, Apart-split, Apart-front, Apart-back}
use Rattle.linked_lists.specs.ChainLaws.{live_next_in, Follows, follows, Follows-append}
use Rattle.linked_lists.specs.ChainLaws.{Follows-front, Follows-back, starts, holds_prev}
use Rattle.linked_lists.specs.ChainLaws.{linear_same, ring_or_linear, ring_same, linear_by}
use Rattle.linked_lists.specs.ChainLaws.{chain_where, ring_by, ring_by_first}
use Rattle.linked_lists.specs.GapLaws.{next-with_prev_if, prev-with_next_if, next-miss}
use Rattle.linked_lists.specs.GapLaws.{prev-miss}
use Rattle.linked_lists.specs.ExchangeLaws.{exchanged_self}
use Rattle.linked_lists.specs.JoinLaws.{Follows-where, alive-with_next_if}
use Rattle.linked_lists.specs.JoinLaws.{alive-with_prev_if, same-with_next_if}
use Rattle.linked_lists.specs.JoinLaws.{same-with_prev_if, some_differs, hit_next}

-- two indexes that have exchanged their nexts `s` and `t`
record AreTurned (e e' : ℕ → Option Ends) (p q s t : ℕ) : Type 0 where
  before : IsAgreed e
  after : IsAgreed e'
  differ : p ≢ q
  out_p : next_at e p ≡ Some s
  out_q : next_at e q ≡ Some t
  alive : (k : ℕ) → IsSome (e k) → IsSome (e' k)
  next_p : next_at e' p ≡ Some t
  next_q : next_at e' q ≡ Some s
  next_else : (k : ℕ) → k ≢ p → k ≢ q → next_at e' k ≡ next_at e k
  prev_else : (k : ℕ) → k ≢ s → k ≢ t → prev_at e' k ≡ prev_at e k

turned_back : (e e' : ℕ → Option Ends) (p q s t : ℕ) → AreTurned e e' p q s t
    → AreTurned e e' q p t s
turned_back e e' p q s t w =
    record {
      before = w.before;
      after = w.after;
      differ = λ same. w.differ (sym same);
      out_p = w.out_q;
      out_q = w.out_p;
      alive = w.alive;
      next_p = w.next_q;
      next_q = w.next_p;
      next_else = λ k not_q not_p. w.next_else k not_p not_q;
      prev_else = λ k not_t not_s. w.prev_else k not_s not_t;
    }

module _ (e e' : ℕ → Option Ends) (p q s t : ℕ) (w : AreTurned e e' p q s t) where
  -- a list with neither of the two
  kept : (a : Option ℕ) (xs : List ℕ) → Off xs p → Off xs q → Follows e xs a → Follows e' xs a
  kept a xs off_p off_q f =
      Follows-where e e' w.alive a xs
      (λ k on. w.next_else k (on_differs xs p k on off_p) (on_differs xs q k on off_q)) f

  live_p : IsSome (e' p)
  live_p = w.alive p (live_next_in (e p) s w.out_p)

  live_q : IsSome (e' q)
  live_q = w.alive q (live_next_in (e q) t w.out_q)

  -- a start stays one
  start_stays : (x : ℕ) → prev_at e x ≡ None → prev_at e' x ≡ None
  start_stays x start =
      w.prev_else x
      (λ at_s. let no : None ≡ Some p = sym start ∙ ap (prev_at e) at_s
      ∙ w.before.forward p s w.out_p in absurd (cc))
      (λ at_t. let no : None ≡ Some q = sym start ∙ ap (prev_at e) at_t
      ∙ w.before.forward q t w.out_q in absurd (cc))
      ∙ start

  -- a linear chain up to `p`, and then a list from the next that it has now
  linear_on : (xs ys zs : List ℕ) → IsLinear e (xs ++ p ∷ ys) → Off xs q → Some t ≡ first_or zs None
      → Follows e' zs None → IsLinear e' (xs ++ p ∷ zs)
  linear_on xs ys zs l off_q first f =
      let off_p = (Apart-split xs ys p (linear_apart e None (xs ++ p ∷ ys) l)).0 in
      let front = kept (Some p) xs off_p off_q
      (Follows-front e None xs (p ∷ ys) (follows e None None (xs ++ p ∷ ys) l)) in
      linear_by e' w.after (xs ++ p ∷ zs)
      (Follows-append e' None xs (p ∷ zs) front ((live_p, w.next_p ∙ first), f))
      (λ x is. start_stays x
      (starts e (xs ++ p ∷ ys) x l
      (first_or-append xs (p ∷ ys) None ∙ sym (first_or-append xs (p ∷ zs) None) ∙ is)))

  -- what stood between them, with `q`
  ring_between : (between after : List ℕ) (a : Option ℕ)
      → Some s ≡ first_or (between ++ q ∷ after) a → Apart (between ++ q ∷ after) → Off between p
      → Follows e (between ++ q ∷ after) a → IsRing e' (between ++ q ∷ [])
  ring_between between after a first once off f =
      let off_q = (Apart-split between after q once).0 in
      let front = kept (Some q) between off off_q (Follows-front e a between (q ∷ after) f) in
      let begins : first_or (between ++ q ∷ []) None ≡ Some s =
      first_or-append between (q ∷ []) None ∙ sym (first_or-append between (q ∷ after) a)
      ∙ sym first in
      let here : Apart ((between ++ q ∷ []) ++ after) =
      subst Apart (sym (append_assoc between (q ∷ []) after)) once in
      ring_by_first e' w.after (between ++ q ∷ []) s begins
      (Follows-append e' (Some s) between (q ∷ []) front ((live_q, w.next_q), tt))
      (Apart-front (between ++ q ∷ []) after here)

  tails : (before after before' after' : List ℕ) → IsLinear e (before ++ p ∷ after)
      → IsLinear e (before' ++ q ∷ after')
      → before ++ p ∷ after ≢ before' ++ q ∷ after' → IsLinear e' (before ++ p ∷ after')
  tails before after before' after' l m differ =
      let two : (k : ℕ) → On (before ++ p ∷ after) k → On (before' ++ q ∷ after') k → ⊥ =
      λ k on on'. differ (linear_same e (before ++ p ∷ after) (before' ++ q ∷ after') k l m on on')
      in
      let back = Follows-back e None before' (q ∷ after')
      (follows e None None (before' ++ q ∷ after') m) in
      let off_p : Off after' p = off_or_not after' p
      (λ on. two p (On-split before after p)
      (On-back before' (q ∷ after') p (On-cons q p after' on))) in
      let off_q = (Apart-split before' after' q (linear_apart e None (before' ++ q ∷ after') m)).1
      in
      linear_on before after after' l
      (off_or_not before q (λ on. two q (On-front before (p ∷ after) q on)
      (On-split before' after' q)))
      (sym w.out_q ∙ back.0.1) (kept None after' off_p off_q back.1)

  cut_out : (before between after : List ℕ) → IsLinear e (before ++ (p ∷ between ++ q ∷ after))
      → IsLinear e' (before ++ p ∷ after) × IsRing e' (between ++ q ∷ [])
  cut_out before between after l =
      let rest = between ++ q ∷ after in
      let once = linear_apart e None (before ++ p ∷ rest) l in
      let offs = Apart-split before rest p once in
      let back = Follows-back e None before (p ∷ rest) (follows e None None (before ++ p ∷ rest) l)
      in
      let last = Follows-back e None between (q ∷ after) back.1 in
      let once' : Apart rest = (Apart-back before (p ∷ rest) once).1 in
      let offs' = Apart-split between after q once' in
      let off_q : Off before q = off_or_not before q
      (λ on. Apart-both before (p ∷ rest) q once on
      (record { front = p ∷ between; back = after; is = refl })) in (
        linear_on before rest after l off_q (sym w.out_q ∙ last.0.1)
            (kept None after (Off-back between (q ∷ after) p offs.1).1 offs'.1 last.1),
        ring_between between after None (sym w.out_p ∙ back.0.1) once'
            (Off-front between (q ∷ after) p offs.1) back.1,
      )

  parted : (between after : List ℕ) → IsRing e (p ∷ between ++ q ∷ after)
      → IsRing e' (p ∷ after) × IsRing e' (between ++ q ∷ [])
  parted between after r =
      let rest = between ++ q ∷ after in
      let all = follows e (last_or (Some p) rest) (Some p) (p ∷ rest) r.stands in
      let last = Follows-back e (Some p) between (q ∷ after) all.1 in
      let off_p : Off rest p = r.apart.0 in
      let offs = Apart-split between after q r.apart.1 in
      let after_p : Off after p = (Off-back between (q ∷ after) p off_p).1 in (
        ring_by e' w.after p after
            ((live_p, w.next_p ∙ sym w.out_q ∙ last.0.1), kept (Some p) after after_p offs.1 last.1)
            after_p,
        ring_between between after (Some p) (sym w.out_p ∙ all.0.1) r.apart.1
            (Off-front between (q ∷ after) p off_p) all.1,
      )

  -- the ring of `q` after its first, up to `q`
  round_q : (rest' : List ℕ) → IsRing e (q ∷ rest') → Off rest' p
      → (Some t ≡ first_or rest' (Some q)) × Follows e' rest' (Some q)
  round_q rest' r off_p =
      let all = follows e (last_or (Some q) rest') (Some q) (q ∷ rest') r.stands in
      (sym w.out_q ∙ all.0.1, kept (Some q) rest' off_p r.apart.0 all.1)

  merged : (rest rest' : List ℕ) → IsRing e (p ∷ rest) → IsRing e (q ∷ rest') → Off (p ∷ rest) q
      → IsRing e' (p ∷ rest' ++ q ∷ rest)
  merged rest rest' r r' off =
      let two : (k : ℕ) → On (p ∷ rest) k → On (q ∷ rest') k → ⊥ =
      λ k on on'. on_differs (p ∷ rest) q q
      (ring_same e (p ∷ rest) (q ∷ rest') k q r r' on on' (On-first q rest')) off refl in
      let off_p : Off rest' p =
      off_or_not rest' p (λ on. two p (On-first p rest) (On-cons q p rest' on)) in
      let all = follows e (last_or (Some p) rest) (Some p) (p ∷ rest) r.stands in
      let round = round_q rest' r' off_p in
      let back = kept (Some p) rest r.apart.0 off.1 all.1 in
      ring_by e' w.after p (rest' ++ q ∷ rest) (
        (live_p, w.next_p ∙ round.0 ∙ sym (first_or-append rest' (q ∷ rest) (Some p))),
        Follows-append e' (Some p) rest' (q ∷ rest) round.1
            ((live_q, w.next_q ∙ sym w.out_p ∙ all.0.1), back),
      )
      (Off-append rest' (q ∷ rest) p off_p ((λ same. off.0 (sym same)), r.apart.0))

  taken_in : (before after rest' : List ℕ) → IsLinear e (before ++ p ∷ after) → IsRing e (q ∷ rest')
      → IsLinear e' (before ++ (p ∷ rest' ++ q ∷ after))
  taken_in before after rest' l r =
      let two : (k : ℕ) → On (q ∷ rest') k → On (before ++ p ∷ after) k
      → ⊥ = λ k on on'. ring_or_linear e (q ∷ rest') (before ++ p ∷ after) k r l on on' in
      let off_p : Off rest' p =
      off_or_not rest' p (λ on. two p (On-cons q p rest' on) (On-split before after p)) in
      let off_q : Off (before ++ p ∷ after) q =
      off_or_not (before ++ p ∷ after) q (λ on. two q (On-first q rest') on) in
      let offs = Apart-split before after p (linear_apart e None (before ++ p ∷ after) l) in
      let back = Follows-back e None before (p ∷ after)
      (follows e None None (before ++ p ∷ after) l) in
      let round = round_q rest' r off_p in
      linear_on before after (rest' ++ q ∷ after) l (Off-front before (p ∷ after) q off_q)
      (round.0 ∙ sym (first_or-append rest' (q ∷ after) None))
      (Follows-append e' None rest' (q ∷ after) round.1 (
        (live_q, w.next_q ∙ sym w.out_p ∙ back.0.1),
        kept None after offs.1 (Off-back before (p ∷ after) q off_q).1 back.1,
      ))

  is_turned : IsTurned p q e e'
  is_turned = record {
    tails = tails;
    cut_out = cut_out;
    parted = parted;
    merged = merged;
    taken_in = taken_in;
  }

module _ (e e' : ℕ → Option Ends) (p q s t : ℕ) (agreed : IsAgreed e) (agreed' : IsAgreed e')
    (out_p : next_at e p ≡ Some s) (out_q : next_at e q ≡ Some t)
    (same : (k : ℕ) → e' k ≡ exchanged e p q s t k) where
  abbrev one : ℕ → Option Ends
  one = with_next_if e (Some p) (Some t)

  abbrev two : ℕ → Option Ends
  two = with_next_if one (Some q) (Some s)

  abbrev three : ℕ → Option Ends
  three = with_prev_if two (Some t) (Some p)

  nexts : (k : ℕ) → next_at e' k ≡ next_at two k
  nexts k = ap next_in (same k) ∙ next-with_prev_if three (Some s) (Some q) k
      ∙ next-with_prev_if two (Some t) (Some p) k

  turned : p ≢ q → AreTurned e e' p q s t
  turned differ =
      record {
        before = agreed;
        after = agreed';
        differ = differ;
        out_p = out_p;
        out_q = out_q;
        alive =
            λ k some.
            rw same
            (alive-with_prev_if three (Some s) (Some q) k
            (alive-with_prev_if two (Some t) (Some p) k
            (alive-with_next_if one (Some q) (Some s) k
            (alive-with_next_if e (Some p) (Some t) k some))));
        next_p =
            nexts p ∙ next-miss one (Some q) (Some s) p (some_differs q p differ)
            ∙ hit_next e (Some p) (Some t) p refl (live_next_in (e p) s out_p);
        next_q = nexts q ∙ hit_next one (Some q) (Some s) q refl
            (alive-with_next_if e (Some p) (Some t) q (live_next_in (e q) t out_q));
        next_else =
            λ k not_p not_q.
            nexts k ∙ next-miss one (Some q) (Some s) k (some_differs q k not_q)
            ∙ next-miss e (Some p) (Some t) k (some_differs p k not_p);
        prev_else =
            λ k not_s not_t.
            ap prev_in (same k) ∙ prev-miss three (Some s) (Some q) k (some_differs s k not_s)
            ∙ prev-miss two (Some t) (Some p) k (some_differs t k not_t)
            ∙ prev-with_next_if one (Some q) (Some s) k
            ∙ prev-with_next_if e (Some p) (Some t) k;
      }

  pub is_exchanged : IsExchanged p q e e'
  is_exchanged =
      record {
        first = λ differ. is_turned e e' p q s t (turned differ);
        second = λ differ. is_turned e e' q p t s (turned_back e e' p q s t (turned differ));
        itself =
            λ one_index c chain.
            let both : Some s ≡ Some t = sym out_p ∙ ap (next_at e) one_index ∙ out_q in
            let t_is : t ≡ s = cc in
            chain_where e e' c
            (λ k on.
            same k ∙ ap (λ x. exchanged e p x s t k) (sym one_index)
            ∙ ap (λ x. exchanged e p p s x k) t_is ∙ exchanged_self e p s out_p agreed k)
            chain;
        others =
            λ c chain off_p off_q.
            chain_where e e' c
            (λ k on.
            let not_p = on_differs (members c) p k on off_p in
            let not_q = on_differs (members c) q k on off_q in
            let not_s : k ≢ s = λ at_s. on_differs (members c) p p
            (holds_prev e c k p chain on (ap (prev_at e) at_s ∙ agreed.forward p s out_p)) off_p
            refl in
            let not_t : k ≢ t = λ at_t. on_differs (members c) q q
            (holds_prev e c k q chain on (ap (prev_at e) at_t ∙ agreed.forward q t out_q)) off_q
            refl in
            same k ∙ same-with_prev_if three (Some s) (Some q) k (some_differs s k not_s)
            ∙ same-with_prev_if two (Some t) (Some p) k (some_differs t k not_t)
            ∙ same-with_next_if one (Some q) (Some s) k (some_differs q k not_q)
            ∙ same-with_next_if e (Some p) (Some t) k (some_differs p k not_p))
            chain;
      }
