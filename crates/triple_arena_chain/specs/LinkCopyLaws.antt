-- The interlinks of a chain arena are those of its links as they are listed.
use Rattle.std.specs.Prelude.{Result, Ok, Err, OnOk}
use Rattle.std.proofs.Common.{◌≡◌, ℕ, Option, sym, ap}
use Rattle.std.specs.Option.{option_map}
use Rattle.triple_arena.specs.Content.{Content}
use Rattle.triple_arena.specs.LiveEntries.{live_entries, entry-listed}
use Rattle.linked_lists.specs.LinkedLists.{Ends}
use Rattle.triple_arena_chain.specs.LinkShape.{IndexLink}
use Rattle.triple_arena_chain.specs.LinkCopies.{listed_ends}
use Rattle.triple_arena_chain.specs.Links.{ends_in, entry_ends, prev_next_of}
use Rattle.linked_lists.specs.ChainLaws.{chain_where}
use Rattle.linked_lists.specs.Chains.{Chain, IsChainOf}

module _ {T : Type 0} where
  pub listed_ends-is : (c : Content (IndexLink T)) (i : ℕ)
      → listed_ends prev_next_of (live_entries c) i ≡ ends_in c i
  listed_ends-is c i = sym (ap (option_map entry_ends) (entry-listed c i))

-- what follows if there is an answer
pub on_ok : {A E X Y : Type 0} (r : Result A E) → (X → Y) → OnOk r X → OnOk r Y
on_ok (Ok _) gives x = gives x
on_ok (Err _) gives x = x

-- the same interlinks make the same chains
pub chains_where : (e f : ℕ → Option Ends) → ((k : ℕ) → f k ≡ e k) → (chain : Chain)
    → IsChainOf e chain → IsChainOf f chain
chains_where e f same chain is = chain_where e f chain (λ k on. same k) is
