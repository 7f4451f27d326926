-- Chains that are brought to successive indexes, from before the first one to after the last one.
use Rattle.std.proofs.Common.{◌≡◌, ℕ, zero, suc, ◌+◌, ◌<◌, ◌≤◌, [], length, Option, Some, None}
use Rattle.std.proofs.Common.{IsSome, is_some, true≢false, refl, sym, ap, subst, ◌∙◌, arith, inl}
use Rattle.std.proofs.Common.{inr, ◌⊎◌}
use Rattle.std.proofs.lemmas.Bool.Decides.{eqb_tells, leb_tells}
use Rattle.triple_arena.specs.Content.{Content, IsWellFormed}
use Rattle.triple_arena_chain.specs.LinkShape.{IndexLink}
use Rattle.linked_lists.specs.LinkedLists.{Ends, next_in, next_at, prev_at, IsAgreed}
use Rattle.triple_arena_chain.specs.CanonicalLayoutLaws.{laid_same}
use Rattle.triple_arena_chain.specs.LinkLaws.{kept_on}
use Rattle.linked_lists.specs.ChainLaws.{chain_where, live_prev_in}
use Rattle.triple_arena_chain.specs.Links.{values_in, ends_in, IsKept, IsChained}
use Rattle.triple_arena_chain.specs.Renaming.{renamed}
use Rattle.triple_arena_chain.specs.CanonicalLayout.{IsLaidOut, IsAlike, IsAllGathered}
use Rattle.triple_arena_chain.specs.Notes.{AreLaid, HavePlaces, IsRejoinable}
use Rattle.triple_arena_chain.proofs.GatheredLemmas.{gathered_none, gathered_all, full_live}
use Rattle.triple_arena_chain.proofs.GatheredLemmas.{within_slots}
use Rattle.triple_arena_chain.proofs.NoteLemmas.{none_at_zero, noted_none}
use Rattle.triple_arena_chain.proofs.PassLemmas.{live_as, live_ends}
use Rattle.triple_arena_chain.proofs.RunLemmas.{Leads, further, around, laid_next}
use Rattle.triple_arena_chain.proofs.SwapLemmas.{ends_by_parts}

-- interlinks that agree are told by their nexts
same_prev : (e f : ℕ → Option Ends) → IsAgreed e → IsAgreed f
    → ((k : ℕ) → next_at f k ≡ next_at e k) → (k : ℕ) → prev_at f k ≡ prev_at e k
same_prev e f agreed agreed' nexts k = by (prev_at f k) (prev_at e k) refl refl
  where
    by : (o r : Option ℕ) → prev_at f k ≡ o → prev_at e k ≡ r → prev_at f k ≡ prev_at e k
    by None None is is' = is ∙ sym is'
    by (Some p) r is is' = is ∙ sym (agreed.forward p k (sym (nexts p) ∙ agreed'.backward p k is))
    by None (Some p) is is' =
        absurd (let no : None ≡ Some p = sym is
        ∙ agreed'.forward p k (nexts p ∙ agreed.backward p k is') in cc)

module _ {T : Type 0} where
  -- nothing is placed yet
  pub places_none : (c : Content (IndexLink T)) → IsChained c → IsAlike c → c.free ≡ []
      → HavePlaces 0 c c
  places_none c chained alike full =
      record {
        laid = ends_in c;
        are = record {
          chained = chained;
          full = full;
          alike = alike;
          to = λ i. i;
          gathered = gathered_none (ends_in c) refl chained.agreed;
          noted = noted_none c chained.formed;
        };
      }

  module _ (n : ℕ) (old : Content (IndexLink T)) (laid : ℕ → Option Ends)
      (now : Content (IndexLink T)) (a : AreLaid n old laid now)
      (all : n ≡ length old.slots) where
    slots_now : length now.slots ≡ n
    slots_now = a.noted.kept.slots ∙ sym all

    bound : (k : ℕ) → IsSome (ends_in now k) → k ≤ n
    bound k some = let within = within_slots now k some in let slots = slots_now in
        omega (arith, within, slots)

    positive : (k : ℕ) → IsSome (ends_in now k) → 1 ≤ k
    positive zero some = absurd (true≢false (sym some))
    positive (suc k) some = omega arith

    laid_out : IsLaidOut laid n
    laid_out =
        gathered_all n n a.to (ends_in old) laid a.gathered refl
        (λ i some. let there : IsSome (ends_in now i) = a.noted.live i
        ∙ some in (positive i there, bound i there))

    nexts : (k : ℕ) → next_at (ends_in now) k ≡ next_at laid k
    nexts k =
        elim (leb_tells k n) [
          | inl within ↦
              elim (eqb_tells k 0) [
                | inl none ↦
                    ap (next_at (ends_in now)) none.1
                    ∙ sym (ap next_in (none_at_zero laid now a.noted.live))
                    ∙ ap (next_at laid) (sym none.1)
                | inr some ↦ a.noted.done k within.1 some.1
              ]
          | inr past ↦ beyond k past.1 (ends_in now k) (laid k) refl refl
        ]
      where
        beyond : (k : ℕ) → n < k → (o r : Option Ends) → ends_in now k ≡ o → laid k ≡ r
            → next_in o ≡ next_in r
        beyond k past (Some v) r is is' =
            absurd (let within = bound k (ap is_some is) in omega (arith, within, past))
        beyond k past None None is is' = refl
        beyond k past None (Some v) is is' =
            absurd (let within = bound k (a.noted.live k ∙ ap is_some is') in
            omega (arith, within, past))

    pub rejoinable : IsRejoinable (ends_in now) n
    rejoinable =
        let slots = slots_now in
        record {
          live = λ k low high. full_live now k a.noted.formed (a.noted.kept.free ∙ a.full)
              low (omega (arith, high, slots));
          within = bound;
          next = λ p q goes. leads p q (laid_next laid n p q laid_out (sym (nexts p) ∙ goes));
          named = λ p q goes. a.noted.live q
              ∙ live_prev_in (laid q) p
              (a.gathered.moved.agreed.forward p q (sym (nexts p) ∙ goes));
          apart = λ p q r goes goes'.
              let one = a.gathered.moved.agreed.forward p r (sym (nexts p) ∙ goes) in
              let other = a.gathered.moved.agreed.forward q r (sym (nexts q) ∙ goes') in
              let both : Some p ≡ Some q = sym one ∙ other in
              cc;
        }
      where
        leads : (p q : ℕ) → Leads laid p q → (q ≡ p + 1) ⊎ (q ≤ p)
        leads p q (further is) = inl is
        leads p q (around m ring is) = inr (omega (arith, is))

    -- all links have their previous indexes too
    pub all_gathered : (c : Content (IndexLink T))
        → ((k : ℕ) → next_at (ends_in c) k ≡ next_at (ends_in now) k)
        → IsAgreed (ends_in c) → ((k : ℕ) → values_in c k ≡ values_in now k) → IsKept now c
        → IsWellFormed c → IsAllGathered old c
    all_gathered c same agreed values kept formed =
        record {
          to = a.to;
          moved = record {
            renamed = record {
              ends = λ i some. ends (a.to i) ∙ a.gathered.moved.renamed.ends i some;
              apart = a.gathered.moved.renamed.apart;
              onto = λ k some. a.gathered.moved.renamed.onto k (sym (ap is_some (ends k)) ∙ some);
              lists = λ d chain. chain_where laid (ends_in c) (renamed a.to d)
                  (λ k on. ends k) (a.gathered.moved.renamed.lists d chain);
            };
            values = λ i some. values (a.to i) ∙ a.noted.values i some;
            live = λ i some. a.gathered.moved.live i (sym (ap is_some (ends i)) ∙ some);
            kept = kept_on old now c a.noted.kept kept;
            chained = record { formed = formed; agreed = agreed };
          };
          laid_out = subst (IsLaidOut (ends_in c)) all
              (laid_same laid (ends_in c) n ends laid_out);
          stays = a.gathered.stays;
        }
      where
        live : (k : ℕ) → is_some (ends_in c k) ≡ is_some (laid k)
        live k = live_ends c k ∙ live_as now c values k ∙ sym (live_ends now k)
            ∙ a.noted.live k

        ends : (k : ℕ) → ends_in c k ≡ laid k
        ends k =
            ends_by_parts (ends_in c k) (laid k) (live k) (same k ∙ nexts k)
            (same_prev laid (ends_in c) a.gathered.moved.agreed agreed
            (λ i. same i ∙ nexts i) k)
