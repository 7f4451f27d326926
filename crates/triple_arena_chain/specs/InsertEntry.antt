-- What an insertion answers where it makes room, and what a contract sees of an insertion's entry.
use Rattle.std.specs.Prelude.{◌≡◌, ◌<◌, ◌≤◌, ◌↔◌, ℕ, Bool, IsTrue, Option, Some, None, IsSome}
use Rattle.std.specs.Prelude.{Result, IsOk, IsErrOf, IfOk}
use Rattle.std.specs.Borrow.{GName}
use Rattle.triple_arena_ptr.specs.declared.errors.ChainInsertionError.{ChainInsertionError}
use Rattle.triple_arena_ptr.specs.declared.errors.ChainInsertionError.TheVariants.{FailedLinkRequirement}
use Rattle.triple_arena_ptr.specs.declared.errors.ChainInsertionError.TheVariants.{NotWithinCapacity}
use Rattle.triple_arena_ptr.specs.declared.errors.ChainInsertionError.TheVariants.{BeyondMaxCapacity}
use Rattle.triple_arena_ptr.specs.declared.errors.ChainInsertionError.TheVariants.{AllocError}
use Rattle.triple_arena_stack.specs.Room.{Room, capacity}
use Rattle.triple_arena.specs.Content.{Content, live_count, arena_capacity, next_index}
use Rattle.triple_arena_chain.specs.declared.chain_arena.insertion.entry.ChainArenaInsertEntry.{ChainArenaInsertEntry}
use Rattle.triple_arena_chain.specs.LinkShape.{IndexLink}
use Rattle.triple_arena_chain.specs.declared.kind.InsertKind.{InsertKind}
use Rattle.triple_arena_chain.specs.declared.gap.Gap.{Gap}
use Rattle.triple_arena_chain.specs.Gaps.{IsGap}
use Rattle.triple_arena_chain.specs.Kinds.{gap_by}
use Rattle.triple_arena_chain.specs.Links.{ends_in, gap_among}

-- which error comes where a link is to stand at the gap that is asked for, if there is one, among
-- so many links within this capacity, and when none does
pub record IsLinkAnswer {A : Type 0} (asked : Option (Gap ℕ)) (len capacity : ℕ)
    (result : Result A ChainInsertionError) : Type 0 where
  pub failed : IsErrOf result FailedLinkRequirement ↔ (asked ≡ None)
  pub succeeds : IsOk result ↔ (IsSome asked × (len < capacity))
  pub full : IsErrOf result NotWithinCapacity ↔ (IsSome asked × (capacity ≤ len))

-- the same where the arena grows in this room
pub record IsLinkRefusal {A : Type 0} (asked : Option (Gap ℕ)) (takes_memory : Bool) (len : ℕ)
    (room : Room) (result : Result A ChainInsertionError) : Type 0 where
  pub failed : IsErrOf result FailedLinkRequirement ↔ (asked ≡ None)
  pub succeeds : IsSome asked → len < capacity room → IsOk result
  pub beyond : IsErrOf result BeyondMaxCapacity ↔ (IsSome asked × (room.limit ≡ Some len))
  pub memory : IsErrOf result AllocError → IsSome asked × IsTrue takes_memory
  pub grows : IsErrOf result NotWithinCapacity → ⊥

module _ {P T S Inx Gen Word Alloc : Type 0} where
  -- the links as the entry holds them
  abbrev pub entry_chains : ChainArenaInsertEntry P T S Inx Gen Word Alloc
      → Content (IndexLink T)
  entry_chains e = e.chains.now

  -- the ghost name of the reference to the links
  abbrev pub entry_lender : ChainArenaInsertEntry P T S Inx Gen Word Alloc → GName
  entry_lender e = e.chains.ghost_name

  -- the gap that the link gets
  abbrev pub entry_gap : (Inx → ℕ) → ChainArenaInsertEntry P T S Inx Gen Word Alloc → Gap ℕ
  entry_gap number e = gap_by number e.gap

  -- there is room, a link may stand at the gap, and the pointer is the next one
  pub record IsReady (number : Inx → ℕ) (index generation : P → ℕ)
      (e : ChainArenaInsertEntry P T S Inx Gen Word Alloc) : Type 0 where
    pub room : live_count (entry_chains e) < arena_capacity (entry_chains e)
    pub gap : IsGap (ends_in (entry_chains e)) (entry_gap number e)
    pub has_index : index e.ptr ≡ next_index (entry_chains e)
    pub has_generation : generation e.ptr ≡ (entry_chains e).counter

  -- room in the gap that a kind asks for, which holds the reference and these links
  pub record IsEntryFor (number : Inx → ℕ) (index generation : P → ℕ) (kind : InsertKind P Inx)
      (lender : GName) (links old : Content (IndexLink T))
      (result : Result (ChainArenaInsertEntry P T S Inx Gen Word Alloc) ChainInsertionError)
      : Type 0 where
    pub same_reference : IfOk result (λ e. entry_lender e ≡ lender)
    pub chains : IfOk result (λ e. entry_chains e ≡ links)
    pub ready : IfOk result (λ e. IsReady number index generation e)
    pub gap : IfOk result (λ e. gap_among index generation number old kind
        ≡ Some (entry_gap number e))
