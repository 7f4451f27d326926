-- What has the layout of a canonical renumbering.
use Rattle.std.proofs.Common.{◌≡◌, ℕ, List, [], ◌∷◌, Option, is_some, sym, ap, ◌∙◌}
use Rattle.triple_arena_chain.specs.CanonicalLayout.{IsLaidOut}
use Rattle.linked_lists.specs.LinkedLists.{Ends}
use Rattle.linked_lists.specs.ChainLaws.{chain_where}
use Rattle.linked_lists.specs.Chains.{Chain, AreAllChainsOf}

-- interlinks that are the same have the same layout
pub laid_same : (e e' : ℕ → Option Ends) (n : ℕ) → ((i : ℕ) → e' i ≡ e i) → IsLaidOut e n
    → IsLaidOut e' n
laid_same e e' n same laid =
    record {
      chains = laid.chains;
      are = record {
        chains = all laid.chains laid.are.chains;
        once = laid.are.once;
        whole = λ i some. laid.are.whole i (ap is_some (sym (same i)) ∙ some);
      };
      runs = laid.runs;
    }
  where
    all : (cs : List Chain) → AreAllChainsOf e cs → AreAllChainsOf e' cs
    all [] are = tt
    all (c ∷ cs) are = ((chain_where e e' c (λ k on. same k) are.0.0, are.0.1), all cs are.1)
