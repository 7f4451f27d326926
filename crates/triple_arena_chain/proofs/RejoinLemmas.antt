-- The previous indexes of links whose next ones stand, written from the first link to the last.
use Rattle.std.proofs.Common.{◌≡◌, ◌≢◌, ℕ, ◌+◌, ◌<◌, ◌≤◌, Option, Some, None, IsSome, IfSome}
use Rattle.std.proofs.Common.{is_some, true≢false, refl, sym, ap, subst, ◌∙◌, arith}
use Rattle.std.proofs.Common.{inl, inr, ◌⊎◌}
use Rattle.std.proofs.lemmas.Bool.Decides.{eqb_tells, leb_tells}
use Rattle.triple_arena.specs.Content.{Content, entry_at, IsWellFormed}
use Rattle.triple_arena_chain.specs.LinkLaws.{kept_on}
use Rattle.triple_arena_chain.specs.LinkShape.{IndexLink}
use Rattle.linked_lists.specs.LinkedLists.{Ends, next_in, prev_in, next_at, prev_at, with_prev_if}
use Rattle.linked_lists.specs.LinkedLists.{IsAgreed}
use Rattle.linked_lists.specs.ChainLaws.{live_next_in, live_prev_in}
use Rattle.triple_arena_chain.specs.Links.{values_in, ends_in, with_prev_of, IsKept, IsRelinked}
use Rattle.triple_arena_chain.specs.Notes.{IsRejoinable, up_to, before_past}
use Rattle.triple_arena_chain.proofs.ConnectionLemmas.{both_written, both_formed}
use Rattle.triple_arena_chain.proofs.PassLemmas.{live_as, live_ends}
use Rattle.linked_lists.specs.GapLaws.{is_it, next-with_prev_if, prev-hit, prev-miss}

up_to_is : (n : ℕ) (o : Option ℕ) (q : ℕ) → up_to n o ≡ Some q → (o ≡ Some q) × (q ≤ n)
up_to_is n None q is = absurd (cc)
up_to_is n (Some r) q is =
    elim (leb_tells r n) [
      | inl within ↦
          let at : up_to n (Some r) ≡ Some r = rw within.0 refl in
          let same : r ≡ q = let both : Some r ≡ Some q = sym at ∙ is in cc in
          (ap Some same, subst (λ k. k ≤ n) same within.1)
      | inr past ↦
          let at : up_to n (Some r) ≡ None = rw past.0 refl in
          absurd (let no : None ≡ Some q = sym at ∙ is in cc)
    ]

is_up_to : (n q : ℕ) → q ≤ n → up_to n (Some q) ≡ Some q
is_up_to n q within =
    elim (leb_tells q n) [
      | inl low ↦ rw low.0 refl
      | inr past ↦ absurd (let above = past.1 in omega (arith, within, above))
    ]

before_past_is : (n i : ℕ) (o : Option ℕ) (p : ℕ) → before_past n i o ≡ Some p
    → (p ≡ i) × (q : ℕ) × (o ≡ Some q) × (n < q)
before_past_is n i None p is = absurd (cc)
before_past_is n i (Some q) p is =
    elim (leb_tells q n) [
      | inl within ↦
          let at : before_past n i (Some q) ≡ None = rw within.0 refl in
          absurd (let no : None ≡ Some p = sym at ∙ is in cc)
      | inr past ↦
          let at : before_past n i (Some q) ≡ Some i = rw past.0 refl in
          let both : Some i ≡ Some p = sym at ∙ is in
          (cc, q, refl, past.1)
    ]

is_before_past : (n i q : ℕ) → n < q → before_past n i (Some q) ≡ Some i
is_before_past n i q past =
    elim (leb_tells q n) [
      | inl low ↦ absurd (let within = low.1 in omega (arith, within, past))
      | inr above ↦ rw above.0 refl
    ]

module _ {T : Type 0} where
  -- the links up to `count` have their previous indexes from among themselves
  pub record IsRejoined (count : ℕ) (before : Option ℕ) (old now : Content (IndexLink T)) : Type 0
    where
      pub nexts : (k : ℕ) → next_at (ends_in now) k ≡ next_at (ends_in old) k
      pub values : (k : ℕ) → values_in now k ≡ values_in old k
      pub kept : IsKept old now
      pub formed : IsWellFormed now
      pub forward : (p q : ℕ) → p ≤ count → q ≤ count → next_at (ends_in old) p ≡ Some q
          → prev_at (ends_in now) q ≡ Some p
      pub backward : (p q : ℕ) → q ≤ count → prev_at (ends_in now) q ≡ Some p
          → next_at (ends_in old) p ≡ Some q
      pub led : (p : ℕ) → before ≡ Some p
          → (p ≡ count) × (next_at (ends_in old) count ≡ Some (count + 1))
      pub leads : next_at (ends_in old) count ≡ Some (count + 1) → before ≡ Some count

  zeroth : (c : Content (IndexLink T)) (q : ℕ) → q ≤ 0 → (o : Option ℕ)
      → prev_at (ends_in c) q ≡ o → o ≡ None
  zeroth c q low o is = let at : q ≡ 0 = omega (arith, low) in sym is
      ∙ ap (prev_at (ends_in c)) at

  pub rejoined_none : (c : Content (IndexLink T)) → IsWellFormed c → IsRejoined 0 None c c
  rejoined_none c formed =
      record {
        nexts = λ k. refl;
        values = λ k. refl;
        kept = record { live = refl; slots = refl; free = refl; counter = refl; room = refl };
        formed = formed;
        forward = λ p q low low' goes. absurd (
            let at : p ≡ 0 = omega (arith, low) in
            let no : None ≡ Some q = ap (next_at (ends_in c)) (sym at) ∙ goes in
            cc
            );
        backward = λ p q low comes. absurd
            (let no : Some p ≡ None = zeroth c q low (Some p) comes in cc);
        led = λ p is. absurd (let no : None ≡ Some p = is in cc);
        leads = λ goes. absurd (let no : None ≡ Some (0 + 1) = goes in cc);
      }

  -- the link that is given a previous index is live
  pub link_live : (n count i : ℕ) (before : Option ℕ) (old c : Content (IndexLink T))
      → IsRejoinable (ends_in old) n
      → IsRejoined count before old c → count < n → i ≡ count + 1 → IsSome (entry_at c i)
  link_live n count i before old c can r more at =
      live_as old c r.values i ∙ sym (live_ends old i)
      ∙ can.live i (omega (arith, at)) (omega (arith, at, more))

  module _ (n count : ℕ) (before : Option ℕ) (old c c1 c2 : Content (IndexLink T)) (i : ℕ)
      (back : Option ℕ)
      (can : IsRejoinable (ends_in old) n)
      (r : IsRejoined count before old c) (more : count < n)
      (at : i ≡ count + 1)
      (first : c1 ≡ with_prev_of c (Some i) before) where
    e : ℕ → Option Ends
    e = ends_in old

    live_now : (k : ℕ) → is_some (ends_in c k) ≡ is_some (ends_in old k)
    live_now k = live_ends c k ∙ live_as old c r.values k ∙ sym (live_ends old k)

    one : IsRelinked
        (with_prev_if (ends_in c) (Some i) before) c c1
    one = both_written c c1 None None (Some i) before first

    live_one : (k : ℕ) → is_some (ends_in c1 k) ≡ is_some (ends_in old k)
    live_one k = live_ends c1 k ∙ live_as c c1 one.values k ∙ sym (live_ends c k)
        ∙ live_now k

    pub link_there : IsSome (entry_at c1 i)
    link_there = live_as c c1 one.values i
        ∙ link_live n count i before old c can r more at

    pub next_one : (k : ℕ) → next_at (ends_in c1) k ≡ next_at (ends_in old) k
    next_one k =
        ap next_in (one.ends k)
        ∙ next-with_prev_if (ends_in c) (Some i) before k
        ∙ r.nexts k

    module _ (back_is : back
        ≡ up_to (count + 1) (next_at (ends_in old) (count + 1))) where
      pub back_live : IfSome back (λ j. IsSome (entry_at c1 j))
      back_live = by back back_is
        where
          by : (o : Option ℕ) → o
              ≡ up_to (count + 1) (next_at (ends_in old) (count + 1))
              → IfSome o (λ j. IsSome (entry_at c1 j))
          by None is = tt
          by (Some j) is =
              let named = up_to_is (count + 1) (next_at (ends_in old) (count + 1)) j
              (sym is) in
              sym (live_ends c1 j) ∙ live_one j
              ∙ can.named (count + 1) j named.0

      module _ (second : c2 ≡ with_prev_of c1 back (Some i)) where
        two : IsRelinked
            (with_prev_if (ends_in c1) back (Some i)) c1 c2
        two = both_written c1 c2 None None back (Some i) second

        -- the previous index of a link, after both writes
        closed : (k : ℕ) → back ≡ Some k
            → prev_at (ends_in c2) k ≡ Some (count + 1)
        closed k is =
            let named = up_to_is (count + 1) (next_at (ends_in old) (count + 1)) k
            (sym back_is ∙ is) in
            by (ends_in c1 k) refl (live_one k ∙ can.named (count + 1) k named.0)
          where
            by : (o : Option Ends) → ends_in c1 k ≡ o → IsSome (ends_in c1 k)
                → prev_at (ends_in c2) k ≡ Some (count + 1)
            by None found some = absurd (true≢false (sym some ∙ ap is_some found))
            by (Some v) found some =
                ap prev_in (two.ends k)
                ∙ prev-hit (ends_in c1) back (Some i) k v is
                found ∙ ap Some at

        beyond : (k : ℕ) → back ≢ Some k
            → prev_at (ends_in c2) k ≡ prev_at (ends_in c1) k
        beyond k away = ap prev_in (two.ends k)
            ∙ prev-miss (ends_in c1) back (Some i) k away

        here : back ≢ Some (count + 1)
            → prev_at (ends_in c2) (count + 1) ≡ before
        here away = beyond (count + 1) away ∙ by (ends_in c (count + 1)) refl
          where
            by : (o : Option Ends) → ends_in c (count + 1) ≡ o
                → prev_at (ends_in c1) (count + 1) ≡ before
            by None found =
                absurd (true≢false (sym (can.live (count + 1) (omega arith) (omega (arith, more)))
                ∙ sym (live_now (count + 1)) ∙ ap is_some found))
            by (Some v) found =
                ap prev_in (one.ends (count + 1))
                ∙ prev-hit (ends_in c) (Some i) before
                (count + 1) v (ap Some at) found

        stays : (k : ℕ) → back ≢ Some k → k ≢ count + 1
            → prev_at (ends_in c2) k ≡ prev_at (ends_in c) k
        stays k away other =
            beyond k away ∙ ap prev_in (one.ends k)
            ∙ prev-miss (ends_in c) (Some i) before k
            (λ same. other (let it : i ≡ k = cc in sym it ∙ at))

        forward : (p q : ℕ) → p ≤ count + 1 → q ≤ count + 1
            → next_at (ends_in old) p ≡ Some q → prev_at (ends_in c2) q ≡ Some p
        forward p q low low' goes =
            elim (eqb_tells p (count + 1)) [
              | inl same ↦
                  let own : next_at (ends_in old) (count + 1) ≡ Some q =
                  ap (next_at (ends_in old)) (sym same.1) ∙ goes in
                  closed q (back_is ∙ ap (up_to (count + 1)) own ∙ is_up_to (count + 1) q low')
                  ∙ ap Some (sym same.1)
              | inr other ↦
                  let differs = other.1 in
                  let away : back ≢ Some q = λ is.
                  let named = up_to_is (count + 1) (next_at (ends_in old) (count + 1)) q
                  (sym back_is ∙ is) in
                  differs (can.apart p (count + 1) q goes named.0) in
                  elim (eqb_tells q (count + 1)) [
                    | inl last ↦
                        let from : p ≡ count =
                        one_before p q low last.1 differs (can.next p q goes) in
                        let own : next_at (ends_in old) count ≡ Some (count + 1) =
                        ap (next_at (ends_in old)) (sym from) ∙ goes ∙ ap Some last.1 in
                        ap (prev_at (ends_in c2)) last.1
                        ∙ here (λ is. away (is ∙ ap Some (sym last.1))) ∙ r.leads own
                        ∙ ap Some (sym from)
                    | inr before_it ↦
                        let under = before_it.1 in
                        stays q away under ∙ r.forward p q (omega (arith, low, differs))
                        (omega (arith, low', under)) goes
                  ]
            ]
          where
            one_before : (p q : ℕ) → p ≤ count + 1 → q ≡ count + 1 → p ≢ count + 1
                → (q ≡ p + 1) ⊎ (q ≤ p) → p ≡ count
            one_before p q low is other (inl next) = omega (arith, is, next)
            one_before p q low is other (inr back) = absurd (omega (arith, low, is, other, back))

        backward : (p q : ℕ) → q ≤ count + 1 → prev_at (ends_in c2) q ≡ Some p
            → next_at (ends_in old) p ≡ Some q
        backward p q low comes =
            elim (is_it back q) [
              | inl hit ↦
                  let both : Some (count + 1) ≡ Some p = sym (closed q hit) ∙ comes in
                  let same : count + 1 ≡ p = cc in
                  ap (next_at (ends_in old)) (sym same)
                  ∙ (up_to_is (count + 1) (next_at (ends_in old) (count + 1)) q
                  (sym back_is ∙ hit)).0
              | inr miss ↦
                  elim (eqb_tells q (count + 1)) [
                    | inl last ↦
                        let own : before ≡ Some p =
                        sym (here (λ is. miss (is ∙ ap Some (sym last.1))))
                        ∙ ap (prev_at (ends_in c2)) (sym last.1) ∙ comes in
                        let l = r.led p own in
                        ap (next_at (ends_in old)) l.0 ∙ l.1 ∙ ap Some (sym last.1)
                    | inr under ↦
                        let differs = under.1 in
                        r.backward p q (omega (arith, low, differs))
                        (sym (stays q miss differs) ∙ comes)
                  ]
            ]

        pub rejoined_more : (before' : Option ℕ)
            → before'
            ≡ before_past (count + 1) (count + 1) (next_at (ends_in old) (count + 1))
            → IsRejoined (count + 1) before' old c2
        rejoined_more before' is =
            record {
              nexts = λ k.
                  ap next_in (two.ends k)
                  ∙ next-with_prev_if (ends_in c1) back
                  (Some i) k ∙ next_one k;
              values = λ k. two.values k ∙ one.values k ∙ r.values k;
              kept = kept_on old c1 c2 (kept_on old c c1 r.kept one.kept) two.kept;
              formed = both_formed c1 c2 None None back (Some i) second
                  (both_formed c c1 None None (Some i) before first r.formed);
              forward = forward;
              backward = backward;
              led = λ p own.
                  let b = before_past_is (count + 1) (count + 1)
                  (next_at (ends_in old) (count + 1)) p (sym is ∙ own) in
                  (b.0, b.2 ∙ ap Some (one_further b.1 b.3 (can.next (count + 1) b.1 b.2)));
              leads = λ goes.
                  is ∙ ap (before_past (count + 1) (count + 1)) goes
                  ∙ is_before_past (count + 1) (count + 1) (count + 1 + 1) (omega arith);
            }
          where
            one_further : (q : ℕ) → count + 1 < q → (q ≡ count + 1 + 1) ⊎ (q ≤ count + 1)
                → q ≡ count + 1 + 1
            one_further q past (inl next) = next
            one_further q past (inr within) = absurd (omega (arith, past, within))

  -- all have their previous indexes
  pub rejoined_all : (n : ℕ) (before : Option ℕ) (old now : Content (IndexLink T))
      → IsRejoinable (ends_in old) n → IsRejoined n before old now
      → IsAgreed (ends_in now)
  rejoined_all n before old now can r =
      record {
        forward = λ p q goes.
            let own : next_at (ends_in old) p ≡ Some q = sym (r.nexts p) ∙ goes in
            r.forward p q (can.within p (live_next_in (ends_in old p) q own))
            (can.within q (can.named p q own)) own;
        backward = λ p q comes.
            let live : IsSome (ends_in old q) =
            sym (live_ends now q ∙ live_as old now r.values q ∙ sym (live_ends old q))
            ∙ live_prev_in (ends_in now q) p comes in
            r.nexts p ∙ r.backward p q (can.within q live) comes;
      }
