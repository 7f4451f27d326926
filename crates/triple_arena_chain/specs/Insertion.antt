-- What an insertion by a kind does.
use Rattle.std.specs.Prelude.{◌≡◌, ℕ, Bool, Result, IfOk, IfSome, OnOk}
use Rattle.triple_arena_ptr.specs.declared.errors.ChainInsertionError.{ChainInsertionError}
use Rattle.triple_arena_stack.specs.Room.{room_after}
use Rattle.triple_arena.specs.Content.{Content, live_count, arena_capacity}
use Rattle.triple_arena_chain.specs.declared.kind.InsertKind.{InsertKind}
use Rattle.triple_arena_chain.specs.InsertEntry.{IsLinkAnswer, IsLinkRefusal}
use Rattle.triple_arena_chain.specs.LinkShape.{IndexLink}
use Rattle.triple_arena_chain.specs.Links.{gap_among, IsChained, IsLinkInserted}

module _ {P I T : Type 0} (index generation : P → ℕ) (number : I → ℕ) (kind : InsertKind P I)
    (t : T)
    (result : Result P ChainInsertionError) (old new : Content (IndexLink T)) where
  -- a link in the gap that the kind asks for
  abbrev pub IsInItsGap : Type 0
  IsInItsGap = IfOk result (λ p. IfSome (gap_among index generation number old kind)
      (λ gap. IsLinkInserted gap (index p) (generation p) t old new))

  -- an insertion that does not grow
  pub record InsertsWithinCapacity : Type 0 where
    pub answer : IsLinkAnswer (gap_among index generation number old kind) (live_count old)
        (arena_capacity old) result
    pub inserted : IsInItsGap
    pub formed : IsChained new
    pub room : new.room ≡ old.room

  -- one that grows where it is full, over a stack that may take memory
  pub record InsertsReallocating (takes_memory : Bool) : Type 0 where
    pub refusal : IsLinkRefusal (gap_among index generation number old kind) takes_memory
        (live_count old) old.room result
    pub inserted : IsInItsGap
    pub formed : IsChained new
    pub room : OnOk result (new.room ≡ room_after (live_count old) old.room)
