-- A link as contracts see it: the indexes of its neighbors are numbers.
use Rattle.std.specs.Prelude.{ℕ, Option}
use Rattle.triple_arena_chain.specs.declared.link.IndexLink.{IndexLink as LinkOf}

abbrev pub IndexLink : Type 0 → Type 0
IndexLink T = LinkOf (Option ℕ) T
