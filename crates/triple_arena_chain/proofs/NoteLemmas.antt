-- Links that are brought to their places, which note where the links went that were there.
use Rattle.std.proofs.Common.{◌≡◌, ◌≢◌, ℕ, zero, suc, ◌+◌, ◌<◌, ◌≤◌, Option, Some, None, IsSome}
use Rattle.std.proofs.Common.{is_some, option_map, true≢false, refl, sym, ap, subst, ◌∙◌, arith}
use Rattle.std.proofs.Common.{inl, inr, ◌⊎◌}
use Rattle.std.proofs.lemmas.Bool.{eq-eqb, ne_eqb}
use Rattle.std.proofs.lemmas.Bool.Decides.{eqb_tells, leb_tells}
use Rattle.triple_arena.specs.Content.{Content, entry_at, IsWellFormed}
use Rattle.triple_arena_chain.specs.LinkLaws.{kept_on}
use Rattle.triple_arena_chain.specs.LinkShape.{IndexLink}
use Rattle.linked_lists.specs.LinkedLists.{Ends, next_in, prev_in, next_at, prev_at, renext}
use Rattle.linked_lists.specs.LinkedLists.{reprev, with_next, with_next_if}
use Rattle.triple_arena_chain.specs.Links.{values_in, ends_in, IsKept}
use Rattle.linked_lists.specs.ChainLaws.{live_next_in, live_prev_in}
use Rattle.triple_arena_chain.specs.Renaming.{ends_renamed}
use Rattle.triple_arena_chain.specs.CanonicalLayout.{swapped_index, under}
use Rattle.triple_arena_chain.specs.Notes.{LeadsTo, IsLed, IsBrought, AreNoted}
use Rattle.linked_lists.specs.AgreedLaws.{next_reprev}
use Rattle.triple_arena_chain.proofs.PassLemmas.{live_as, live_ends, some_valued}
use Rattle.linked_lists.specs.GapLaws.{prev-with_next_if}
use Rattle.triple_arena_chain.proofs.SwapLemmas.{some_under, swap_i, swap_j, swap_other, swap_twice}
use Rattle.triple_arena_chain.proofs.SwapLemmas.{next-renamed}

module _ (e : ℕ → Option Ends) (placed : ℕ) where
  -- past the placed ones no note is followed
  leads_end : (n i k : ℕ) → LeadsTo e placed n i k → placed < i → i ≡ k
  leads_end zero i k l past = l.1
  leads_end (suc n) i k l past = absurd (let within = l.1 in omega (arith, within, past))

  pub led_end : (i k : ℕ) → IsLed e placed i k → placed < i → i ≡ k
  led_end i k l past = leads_end l.steps i k l.leads past

  -- the note of a placed one
  pub record IsNote (i k : ℕ) : Type 0 where
    pub to : ℕ
    pub further : i < to
    pub noted : prev_at e i ≡ Some to
    pub rest : IsLed e placed to k

  leads_on : (n i k : ℕ) → LeadsTo e placed n i k → i ≤ placed → IsNote i k
  leads_on zero i k l within = absurd (let past = l.0 in omega (arith, within, past))
  leads_on (suc n) i k l within =
      record { to = l.0; further = l.2; noted = l.3; rest = record { steps = n; leads = l.4 } }

  pub led_on : (i k : ℕ) → IsLed e placed i k → i ≤ placed → IsNote i k
  led_on i k l within = leads_on l.steps i k l.leads within

pub not_within : (i n : ℕ) → (i ≤ n → ⊥) → n < i
not_within i n never =
    elim (leb_tells i n) [
      | inl within ↦ absurd (never within.1)
      | inr past ↦ past.1
    ]

-- a note is followed
pub led_by : (e : ℕ → Option Ends) (placed i j k : ℕ) → IsLed e placed i k → i ≤ placed
    → prev_at e i ≡ Some j → (i < j) × IsLed e placed j k
led_by e placed i j k l within is =
    let n = led_on e placed i k l within in
    let both : Some n.to ≡ Some j = sym n.noted ∙ is in
    let same : n.to ≡ j = cc in
    (subst (λ t. i < t) same n.further, subst (λ t. IsLed e placed t k) same n.rest)

-- where a note leads on there is one
pub led_some : (e : ℕ → Option Ends) (placed i k : ℕ) → IsLed e placed i k → i ≤ placed
    → prev_at e i ≡ None → ⊥
led_some e placed i k l within none =
    let n = led_on e placed i k l within in
    let no : None ≡ Some n.to = sym none ∙ n.noted in
    cc

pub led_live : {T : Type 0} (c : Content (IndexLink T)) (placed i k : ℕ)
    → IsLed (ends_in c) placed i k → i ≤ placed
    → IsSome (entry_at c i)
led_live c placed i k l within =
    let n = led_on (ends_in c) placed i k l within in
    sym (live_ends c i) ∙ live_prev_in (ends_in c i) n.to n.noted

-- notes that stay lead where they led
leads_same : (e e' : ℕ → Option Ends) (placed : ℕ)
    → ((y : ℕ) → y ≤ placed → prev_at e' y ≡ prev_at e y) → (n i k : ℕ) → LeadsTo e placed n i k
    → LeadsTo e' placed n i k
leads_same e e' placed same zero i k l = l
leads_same e e' placed same (suc n) i k l =
    (l.0, l.1, l.2, same i l.1 ∙ l.3, leads_same e e' placed same n l.0 k l.4)

pub led_same : (e e' : ℕ → Option Ends) (placed : ℕ)
    → ((y : ℕ) → y ≤ placed → prev_at e' y ≡ prev_at e y) → (i k : ℕ) → IsLed e placed i k
    → IsLed e' placed i k
led_same e e' placed same i k l =
    record { steps = l.steps; leads = leads_same e e' placed same l.steps i k l.leads }

-- one place more is taken, and notes where the link went that was there
module _ (e e' : ℕ → Option Ends) (m a : ℕ) (same : (y : ℕ) → y ≤ m → prev_at e' y ≡ prev_at e y)
    (note : prev_at e' (m + 1) ≡ Some a) (up : m < a) where
  leads_more : (n i k : ℕ) → LeadsTo e m n i k → k ≢ a
      → IsLed e' (m + 1) i (swapped_index a (m + 1) k)
  leads_more zero i k l other =
      let past = l.0 in
      let is : i ≡ k = l.1 in
      elim (eqb_tells i (m + 1)) [
        | inl here ↦
            let at : k ≡ m + 1 = sym is ∙ here.1 in
            let differs : m + 1 ≢ a = λ same. other (at ∙ same) in
            let went : a ≡ swapped_index a (m + 1) k = sym (swap_j a (m + 1))
            ∙ ap (swapped_index a (m + 1)) (sym at) in
            record {
              steps = 1;
              leads = (
                a,
                omega (arith, here.1),
                omega (arith, here.1, up, differs),
                ap (prev_at e') here.1 ∙ note,
                (omega (arith, up, differs), went),
              );
            }
        | inr away ↦
            let differs = away.1 in
            let stays : swapped_index a (m + 1) k ≡ k =
            swap_other a (m + 1) k other (λ at. away.1 (is ∙ at)) in
            record { steps = 0; leads = (omega (arith, past, differs), is ∙ sym stays) }
      ]
  leads_more (suc n) i k l other =
      let r = leads_more n l.0 k l.4 other in
      let within = l.1 in
      record {
        steps = suc r.steps;
        leads = (l.0, omega (arith, within), l.2, same i l.1 ∙ l.3, r.leads);
      }

  pub led_more : (i k : ℕ) → IsLed e m i k → k ≢ a → IsLed e' (m + 1) i (swapped_index a (m + 1) k)
  led_more i k l other = leads_more l.steps i k l.leads other

-- an index past the new place was past the old ones
swap_past : (a m k : ℕ) → m < a → m + 1 < k → m < swapped_index a (m + 1) k
swap_past a m k up past =
    elim (eqb_tells k a) [
      | inl same ↦
          let is : swapped_index a (m + 1) k ≡ m + 1 = ap (swapped_index a (m + 1)) same.1
          ∙ swap_i a (m + 1) in
          omega (arith, is)
      | inr other ↦
          let is : swapped_index a (m + 1) k ≡ k =
          swap_other a (m + 1) k other.1 (λ same. omega (arith, same, past)) in
          omega (arith, is, past)
    ]

next_of_renext : (o : Option Ends) (n : Option ℕ) → IsSome o → next_in (renext n o) ≡ n
next_of_renext None n some = absurd (true≢false (sym some))
next_of_renext (Some v) n some = refl

prev_of_reprev : (o : Option Ends) (n : Option ℕ) → IsSome o → prev_in (reprev n o) ≡ n
prev_of_reprev None n some = absurd (true≢false (sym some))
prev_of_reprev (Some v) n some = refl

module _ {T : Type 0} where
  -- no link is at index 0
  pub none_at_zero : (laid : ℕ → Option Ends) (now : Content (IndexLink T))
      → ((k : ℕ) → is_some (ends_in now k) ≡ is_some (laid k))
      → laid 0 ≡ None
  none_at_zero laid now live = by (laid 0) (live 0)
    where
      by : (o : Option Ends) → is_some (ends_in now 0) ≡ is_some o → o ≡ None
      by None is = refl
      by (Some v) is = absurd (true≢false (sym is))

  -- before any link is placed
  pub noted_none : (c : Content (IndexLink T)) → IsWellFormed c
      → AreNoted 0 0 (λ i. i) c (ends_in c) c
  noted_none c formed =
      record {
        live = λ k. refl;
        values = λ x some. refl;
        kept = record { live = refl; slots = refl; free = refl; counter = refl; room = refl };
        formed = formed;
        ahead = λ x some past. refl;
        raw = λ x some is. ap (next_at (ends_in c)) (sym is);
        done = λ k within other. refl;
        led = λ x some past. record { steps = 0; leads = (past, refl) };
      }

  -- one link more is placed
  module _ (m last : ℕ) (before : Option ℕ) (to : ℕ → ℕ) (a : ℕ)
      (old c c' : Content (IndexLink T)) (laid : ℕ → Option Ends)
      (n : AreNoted m last to old laid c)
      (opens : (before ≡ Some last) ⊎ ((before ≡ None) × (last ≡ 0))) (low : last ≤ m) (up : m < a)
      (b : IsBrought before a (m + 1) c c')
      (live : IsSome (ends_in c a)) (zeroth : laid 0 ≡ None)
      (inner : (k q : ℕ) → next_at laid k ≡ Some q → k ≤ m → k ≢ last → q ≤ m)
      (goes : before ≡ Some last → next_at laid last ≡ Some a) where
    abbrev s : ℕ → ℕ
    s = swapped_index a (m + 1)

    abbrev laid' : ℕ → Option Ends
    laid' = under (swapped_index a (m + 1)) laid

    abbrev f : ℕ → Option Ends
    f = with_next_if (ends_in c) before (Some (m + 1))

    -- an index that is not the last one has its interlinks still
    keeps : (k : ℕ) → k ≢ last → f k ≡ ends_in c k
    keeps k other = by opens
      where
        by : (before ≡ Some last) ⊎ ((before ≡ None) × (last ≡ 0)) → f k ≡ ends_in c k
        by (inl is) = ap (λ o. with_next_if (ends_in c) o (Some (m + 1)) k) is
            ∙ rw (ne_eqb k last other) refl
        by (inr is) = ap (λ o. with_next_if (ends_in c) o (Some (m + 1)) k) is.0

    away : (k : ℕ) → k ≢ m + 1 → ends_in c' k ≡ f (s k)
    away k other = b.ends k ∙ rw (ne_eqb k (m + 1) other) refl

    here : ends_in c' (m + 1) ≡ reprev (Some a) (f a)
    here = b.ends (m + 1) ∙ rw (eq-eqb (m + 1) (m + 1) refl) refl
        ∙ ap (λ k. reprev (Some a) (f k)) (swap_j a (m + 1))

    at_a : f a ≡ ends_in c a
    at_a = keeps a (λ is. omega (arith, is, low, up))

    fixed : (k : ℕ) → k ≤ m → s k ≡ k
    fixed k within = swap_other a (m + 1) k (λ is. omega (arith, is, within, up))
        (λ is. omega (arith, is, within))

    note : prev_at (ends_in c') (m + 1) ≡ Some a
    note = ap prev_in here ∙ prev_of_reprev (f a) (Some a) (ap is_some at_a ∙ live)

    prevs : (k : ℕ) → k ≤ m → prev_at (ends_in c') k ≡ prev_at (ends_in c) k
    prevs k within =
        ap prev_in (away k (λ is. omega (arith, is, within))) ∙ ap (prev_at f) (fixed k within)
        ∙ prev-with_next_if (ends_in c) before (Some (m + 1)) k

    -- an index that is past the new place was somewhere past the old ones
    was : (x : ℕ) → m + 1 < s (to x) → m < to x
    was x past =
        let there = swap_past a m (s (to x)) up past in
        let is = swap_twice a (m + 1) (to x) in
        omega (arith, there, is)

    next_laid : (k : ℕ) → k ≤ m → next_at laid' k ≡ option_map s (next_at laid k)
    next_laid k within =
        next-renamed (swapped_index a (m + 1)) (swap_twice a (m + 1)) laid k
        ∙ ap (λ i. option_map s (next_at laid i)) (fixed k within)

    keeps_next : (o : Option ℕ) → ((q : ℕ) → o ≡ Some q → q ≤ m) → option_map s o ≡ o
    keeps_next None each = refl
    keeps_next (Some q) each = ap Some (fixed q (each q refl))

    -- nothing is at index 0
    unlaid : laid' 0 ≡ None
    unlaid = ap (option_map (ends_renamed (swapped_index a (m + 1))))
        (ap laid (fixed 0 (omega arith)) ∙ zeroth)

    done_last : (before ≡ Some last) ⊎ ((before ≡ None) × (last ≡ 0))
        → next_at (ends_in c') last ≡ next_at laid' last
    done_last (inr is) = ap (next_at (ends_in c')) is.1 ∙ sym (ap next_in (unlaid))
        ∙ ap (next_at laid') (sym is.1)
    done_last (inl is) =
        let there : IsSome (ends_in c last) =
        n.live last ∙ live_next_in (laid last) a (goes is) in
        let written : f last ≡ renext (Some (m + 1)) (ends_in c last) =
        ap (λ o. with_next_if (ends_in c) o (Some (m + 1)) last) is
        ∙ rw (eq-eqb last last refl) refl in
        ap next_in (away last (λ at. omega (arith, at, low)))
        ∙ ap (next_at f) (fixed last low) ∙ ap next_in written
        ∙ next_of_renext (ends_in c last) (Some (m + 1)) there
        ∙ sym (next_laid last low ∙ ap (option_map s) (goes is) ∙ ap Some (swap_i a (m + 1)))

    live_at : (k : ℕ) → is_some (ends_in c' k) ≡ is_some (ends_in c (s k))
    live_at k =
        live_ends c' k ∙ sym (some_valued (entry_at c' k)) ∙ ap is_some (b.values k)
        ∙ some_valued (entry_at c (s k)) ∙ sym (live_ends c (s k))

    pub noted_more : AreNoted (m + 1) (m + 1) (λ i. swapped_index a (m + 1) (to i)) old
        (under (swapped_index a (m + 1)) laid) c'
    noted_more =
        record {
          live = λ k. live_at k ∙ n.live (s k)
              ∙ sym (some_under (swapped_index a (m + 1)) (laid (s k)));
          values = λ x some. b.values (s (to x)) ∙ ap (values_in c) (swap_twice a (m + 1) (to x))
              ∙ n.values x some;
          kept = kept_on old c c' n.kept b.kept;
          formed = b.formed;
          ahead = λ x some past.
              let before = was x past in
              away (s (to x)) (λ is. omega (arith, is, past))
              ∙ ap f (swap_twice a (m + 1) (to x))
              ∙ keeps (to x) (λ is. omega (arith, is, before, low))
              ∙ n.ahead x some before;
          raw = λ x some is.
              let at : to x ≡ a = sym (swap_twice a (m + 1) (to x)) ∙ ap s is ∙ swap_j a (m + 1) in
              ap next_in here ∙ next_reprev (f a) (Some a) ∙ ap next_in at_a
              ∙ ap (next_at (ends_in c)) (sym at)
              ∙ ap next_in (n.ahead x some (omega (arith, at, up)));
          done = λ k within other.
              let low_k : k ≤ m = omega (arith, within, other) in
              elim (eqb_tells k last) [
                | inl same ↦ ap (next_at (ends_in c')) same.1 ∙ done_last opens
                    ∙ ap (next_at laid') (sym same.1)
                | inr differs ↦
                    ap next_in (away k other) ∙ ap (next_at f) (fixed k low_k)
                    ∙ ap next_in (keeps k differs.1)
                    ∙ n.done k low_k differs.1
                    ∙ sym (next_laid k low_k
                    ∙ keeps_next (next_at laid k) (λ q is. inner k q is low_k differs.1))
              ];
          led = λ x some past.
              let before = was x past in
              let other : to x ≢ a = λ is.
              let at : s (to x) ≡ m + 1 = ap s is ∙ swap_i a (m + 1) in omega (arith, at, past) in
              led_more (ends_in c) (ends_in c') m a prevs note up x (to x)
              (n.led x some before) other;
        }

  -- the next of the last one is known
  module _ (m last : ℕ) (to : ℕ → ℕ) (old c : Content (IndexLink T)) (laid : ℕ → Option Ends)
      (n : AreNoted m last to old laid c)
      (zeroth : laid 0 ≡ None)
      (names : (x : ℕ) → IsSome (ends_in old x) → IsSome (laid (to x))) where
    no_zero : (x : ℕ) → IsSome (ends_in old x) → to x ≢ 0
    no_zero x some is = true≢false
        (sym (subst (λ k. IsSome (laid k)) is (names x some)) ∙ ap is_some zeroth)

    pub noted_over : next_at (ends_in c) last ≡ next_at laid last
        → AreNoted m 0 to old laid c
    noted_over same =
        record {
          live = n.live;
          values = n.values;
          kept = n.kept;
          formed = n.formed;
          ahead = n.ahead;
          raw = λ x some is. absurd (no_zero x some is);
          done = λ k within other.
              elim (eqb_tells k last) [
                | inl at ↦ ap (next_at (ends_in c)) at.1 ∙ same
                    ∙ ap (next_at laid) (sym at.1)
                | inr differs ↦ n.done k within differs.1
              ];
          led = n.led;
        }

    -- or written
    pub noted_closed : (next : Option ℕ) (c' : Content (IndexLink T)) → next ≡ next_at laid last
        → last ≤ m → IsSome (ends_in c last)
        → ((k : ℕ) → ends_in c' k ≡ with_next (ends_in c) last next k)
        → ((k : ℕ) → values_in c' k ≡ values_in c k)
        → IsKept c c' → IsWellFormed c' → AreNoted m 0 to old laid c'
    noted_closed next c' is low live ends values kept formed =
        record {
          live = λ k. live_ends c' k ∙ live_as c c' values k ∙ sym (live_ends c k)
              ∙ n.live k;
          values = λ x some. values (to x) ∙ n.values x some;
          kept = kept_on old c c' n.kept kept;
          formed = formed;
          ahead = λ x some past.
              ends (to x) ∙ rw (ne_eqb (to x) last (λ at. omega (arith, at, past, low))) refl
              ∙ n.ahead x some past;
          raw = λ x some is. absurd (no_zero x some is);
          done = λ k within other.
              elim (eqb_tells k last) [
                | inl at ↦
                    let written : with_next (ends_in c) last next k
                    ≡ renext next (ends_in c k) = rw at.0 refl in
                    ap next_in (ends k ∙ written)
                    ∙ next_of_renext (ends_in c k) next
                    (subst (λ i. IsSome (ends_in c i)) (sym at.1) live)
                    ∙ is ∙ ap (next_at laid) (sym at.1)
                | inr differs ↦
                    let stays : with_next (ends_in c) last next k ≡ ends_in c k =
                    rw differs.0 refl in
                    ap next_in (ends k ∙ stays) ∙ n.done k within differs.1
              ];
          led = λ x some past.
              led_same (ends_in c) (ends_in c') m
              (λ y within. ap prev_in (ends y)
              ∙ prev-with_next_if (ends_in c) (Some last) next y)
              x (to x) (n.led x some past);
        }
