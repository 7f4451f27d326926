use Rattle.std.specs.Prelude.{◌≡◌, ℕ, ◌+◌, ◌-◌, ◌≤◌, false, IsSome}
use Rattle.std.specs.Option.{option_map}
use Rattle.triple_arena_chain.specs.Links.{ends_in, values_in}
use Rattle.triple_arena_ord.proofs.ListEndLemmas.{IsNoted}
use Rattle.triple_arena_ord.proofs.ord_arena.compression.ends_of_list.Given as goal

-- the ends of what is passed
abbrev pub invariant-loop-p : goal.invariant-loop-p
invariant-loop-p g l =
    record {
      rises : l.advancer.falls ≡ false;
      reaches : (j : ℕ) → IsSome (values_in l.fn.chains j) → j ≤ l.advancer.high;
      first : IsNoted (ends_in l.fn.chains) (λ v. v.0) l.advancer.low
          (option_map g.P.Inx.PtrInxCore.number l.first);
      last : IsNoted (ends_in l.fn.chains) (λ v. v.1) l.advancer.low
          (option_map g.P.Inx.PtrInxCore.number l.last);
    }

abbrev pub decreases-loop-p : goal.decreases-loop-p
decreases-loop-p g l = l.advancer.high + 1 - l.advancer.low
