-- Caches: entries in the order of their last use, which stand in one ring.
use Rattle.std.specs.Prelude.{◌≡◌, ℕ, List, Option, Some, None, IsSome, IfSome}
use Rattle.std.specs.Option.{option_map}
use Rattle.triple_arena.specs.Content.{Content}
use Rattle.triple_arena.specs.Entries.{generation_at}
use Rattle.triple_arena_chain.specs.LinkShape.{IndexLink}
use Rattle.linked_lists.specs.LinkedLists.{On, IsRing, first_or}
use Rattle.triple_arena_chain.specs.Links.{ends_in, values_in}
use Rattle.triple_arena_chain.specs.declared.kind.InsertKind.{InsertKind}
use Rattle.triple_arena_chain.specs.declared.kind.InsertKind.TheVariants.{SingleLinkCyclic, PrevTo}

-- where an entry goes that is used now: before the one that was used last
abbrev pub kind_for : {P I : Type 0} → Option P → InsertKind P I
kind_for None = SingleLinkCyclic
kind_for (Some latest) = PrevTo latest

module _ {P T : Type 0} (index generation : P → ℕ) where
  -- these are the entries by their last use, the latest first: a ring, read from the latest on
  pub record AreByUse (links : Content (IndexLink T)) (latest : Option P) (uses : List ℕ)
      : Type 0 where
    pub first : option_map index latest ≡ first_or uses None
    pub live : IfSome latest
        (λ p. generation_at (values_in links) (index p) ≡ Some (generation p))
    pub ring : IsRing (ends_in links) uses
    pub all : (i : ℕ) → IsSome (values_in links i) → On uses i

  -- the entries have such an order
  abbrev pub IsCache : Content (IndexLink T) → Option P → Type 0
  IsCache links latest = (uses : List ℕ) × AreByUse links latest uses
