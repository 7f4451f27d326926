-- Interlinks that agree make chains of which each live index is in one.
use Rattle.std.proofs.Common.{◌≡◌, ◌≢◌, ℕ, zero, suc, ◌<◌, ◌≤◌, List, [], ◌∷◌, ◌++◌, Option, Some}
use Rattle.std.proofs.Common.{None, IsSome, is_some, true≢false, refl, sym, ap, subst, ◌∙◌, inl}
use Rattle.std.proofs.Common.{inr, arith}
use Rattle.std.proofs.lemmas.Bool.Decides.{eqb_tells, leb_tells}
use Rattle.linked_lists.specs.LinkedLists.{Ends, IsAgreed, Off, On, Apart, Standing, linear, ring}
use Rattle.linked_lists.specs.LinkedListLaws.{off_or_on, stands}
use Rattle.linked_lists.specs.UniquenessLaws.{linear_apart}
use Rattle.linked_lists.specs.Chains.{Chain, Linear, Cyclic, members, IsChainOf, IsWritten}
use Rattle.linked_lists.specs.Chains.{all_members, AreAllChainsOf, AreChains}
use Rattle.linked_lists.specs.ChainLaws.{On-first, On-front, On-back, On-split, On-either}
use Rattle.linked_lists.specs.ChainLaws.{on_differs, off_or_not, Apart-append, live_in, shares}

module _ (e : ℕ → Option Ends) where
  -- the chain of an index of these
  record Within (cs : List Chain) (k : ℕ) : Type 0 where
    chain : Chain
    is_chain : IsChainOf e chain
    on : On (members chain) k
    all : (j : ℕ) → On (members chain) j → On (all_members cs) j

  within : (cs : List Chain) (k : ℕ) → AreAllChainsOf e cs → On (all_members cs) k → Within cs k
  within [] k chains on = absurd (on_differs [] k k on tt refl)
  within (c ∷ cs) k chains on =
      elim (On-either (members c) (all_members cs) k on) [
        | inl here ↦ record {
          chain = c;
          is_chain = chains.0.0;
          on = here;
          all = λ j at. On-front (members c) (all_members cs) j at;
        }
        | inr there ↦
            let w = within cs k chains.1 there in
            record {
              chain = w.chain;
              is_chain = w.is_chain;
              on = w.on;
              all = λ j at. On-back (members c) (all_members cs) j (w.all j at);
            }
      ]

  -- what is in one of these is live
  pub all_live : (cs : List Chain) (k : ℕ) → AreAllChainsOf e cs → On (all_members cs) k
      → IsSome (e k)
  all_live [] k chains on = absurd (on_differs [] k k on tt refl)
  all_live (c ∷ cs) k chains on =
      elim (On-either (members c) (all_members cs) k on) [
        | inl here ↦ live_in e c k chains.0.0 here
        | inr there ↦ all_live cs k chains.1 there
      ]

  -- a chain that has an index which is in none of these has none of theirs
  apart_from : (cs : List Chain) (c : Chain) (n k : ℕ) → AreAllChainsOf e cs
      → Off (all_members cs) n → IsChainOf e c → On (members c) n → On (members c) k
      → Off (all_members cs) k
  apart_from cs c n k chains off is on at =
      off_or_not (all_members cs) k
      (λ too.
      let w = within cs k chains too in
      on_differs (all_members cs) n n
      (w.all n (shares e w.chain c k n w.is_chain is w.on at on)) off refl)

  record AreBelow (n : ℕ) (cs : List Chain) : Type 0 where
    chains : AreAllChainsOf e cs
    once : Apart (all_members cs)
    below : (i : ℕ) → i < n → IsSome (e i) → On (all_members cs) i

  record Next (n : ℕ) (c : Chain) : Type 0 where
    is_chain : IsChainOf e c
    on : On (members c) n
    once : Apart (members c)
    written : ((k : ℕ) → On (members c) k → n ≤ k) → IsWritten c

  next : (n : ℕ) → Standing e n → (c : Chain) × Next n c
  next n (linear before after s) =
      let filled : before ++ n ∷ after ≢ [] =
      λ empty. on_differs [] n n (subst (λ l. On l n) empty (On-split before after n))
      tt refl in (
        Linear (before ++ n ∷ after),
        record {
          is_chain = s;
          on = On-split before after n;
          once = linear_apart e None (before ++ n ∷ after) s;
          written = λ least. filled;
        },
      )
  next n (ring after r) = (
    Cyclic (n ∷ after),
    record {
      is_chain = r;
      on = On-first n after;
      once = r.apart;
      written = λ least. (n, refl, least);
    },
  )

  module _ (agreed : IsAgreed e) (m : ℕ) (bounded : (i : ℕ) → IsSome (e i) → i < m) where
    more : (n : ℕ) (cs : List Chain) → AreBelow n cs → (ds : List Chain) × AreBelow (suc n) ds
    more n cs known = by (e n) refl
      where
        keep : (IsSome (e n) → On (all_members cs) n) → (ds : List Chain) × AreBelow (suc n) ds
        keep here = (
          cs,
          record {
            chains = known.chains;
            once = known.once;
            below = λ i less some.
                elim (eqb_tells i n) [
                  | inl same ↦ subst (On (all_members cs)) (sym same.1)
                      (here (subst (λ k. IsSome (e k)) same.1 some))
                  | inr differs ↦ let other : i ≢ n =
                      differs.1 in known.below i (omega (arith, less, other)) some
                ];
          },
        )

        -- what is live and in none of the chains so far is not below
        least : (k : ℕ) → Off (all_members cs) k → IsSome (e k) → n ≤ k
        least k off live =
            elim (leb_tells n k) [
              | inl more ↦ more.1
              | inr less ↦ absurd (on_differs (all_members cs) k k
                  (known.below k less.1 live) off refl)
            ]

        add : IsSome (e n) → Off (all_members cs) n → (ds : List Chain) × AreBelow (suc n) ds
        add some off =
            let c = next n (stands e agreed m bounded n some) in
            let is = c.1 in
            let others : (k : ℕ) → On (members c.0) k
            → Off (all_members cs) k
            = λ k on. apart_from cs c.0 n k known.chains off is.is_chain is.on on in (
              c.0 ∷ cs,
              record {
                chains = (
                  (
                    is.is_chain,
                    is.written (λ k on. least k (others k on) (live_in e c.0 k is.is_chain on)),
                  ),
                  known.chains,
                );
                once = Apart-append (members c.0) (all_members cs) is.once known.once others;
                below = λ i less live.
                    elim (eqb_tells i n) [
                      | inl same ↦ subst (On (members c.0 ++ all_members cs)) (sym same.1)
                          (On-front (members c.0) (all_members cs) n is.on)
                      | inr differs ↦
                          let other : i ≢ n = differs.1 in
                          On-back (members c.0) (all_members cs) i
                          (known.below i (omega (arith, less, other)) live)
                    ];
              },
            )

        by : (o : Option Ends) → e n ≡ o → (ds : List Chain) × AreBelow (suc n) ds
        by None is = keep (λ some. absurd (true≢false (sym some ∙ ap is_some is)))
        by (Some v) is = elim (off_or_on (all_members cs) n) [
          | inl off ↦ add (ap is_some is) off
          | inr on ↦ keep (λ _. on)
        ]

    up_to : (n : ℕ) → (cs : List Chain) × AreBelow n cs
    up_to zero = (
      [],
      record {
        chains = tt;
        once = tt;
        below = λ i less some. absurd (omega (arith, less));
      },
    )
    up_to (suc n) = let known = up_to n in more n known.0 known.1

    -- the chains of interlinks that agree
    pub all_chains : (cs : List Chain) × AreChains e cs
    all_chains =
        let all = up_to m in (
          all.0,
          record {
            chains = all.1.chains;
            once = all.1.once;
            whole = λ i some. all.1.below i (bounded i some) some;
          },
        )
