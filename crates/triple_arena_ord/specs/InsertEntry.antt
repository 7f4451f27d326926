-- What a contract sees of an insertion's entry, and what the calls that make one answer.
use Rattle.std.specs.Prelude.{◌≡◌, ◌≢◌, ◌<◌, ◌↔◌, ℕ, Option, Some, None, IsSome, IfSome, Result, Ok}
use Rattle.std.specs.Prelude.{Err}
use Rattle.std.specs.Borrow.{GName, Bor}
use Rattle.std.specs.declared.cmp.Ordering.{Ordering}
use Rattle.std.specs.declared.cmp.Ordering.TheVariants.{Less, Equal, Greater}
use Rattle.triple_arena_ptr.specs.declared.errors.OrdInsertionError.{OrdInsertionError}
use Rattle.triple_arena_ptr.specs.declared.errors.OrdInsertionError.TheVariants.{FailedOrdRequirement}
use Rattle.triple_arena.specs.Content.{arena_capacity, next_index}
use Rattle.triple_arena.specs.Entries.{generation_at}
use Rattle.triple_arena_ord.specs.declared.kind.OrdEntryKind.{OrdEntryKind}
use Rattle.triple_arena_ord.specs.declared.kind.OrdEntryKind.TheVariants.{New, Replacing}
use Rattle.triple_arena_ord.specs.declared.ord_arena.insertion.entry.SimpleOrdArenaInsertEntry.{SimpleOrdArenaInsertEntry}
use Rattle.triple_arena_ord.specs.Ordered.{Ordered, entry_in, size_in}
use Rattle.triple_arena_ord.specs.Inserted.{Replaces}
use Rattle.triple_arena_ord.specs.declared.kind.InsertKind.{InsertKind}
use Rattle.triple_arena_ord.specs.Found.{place_by}
use Rattle.triple_arena_ord.specs.Placing.{Meets, IsPlaceFor}

-- what an insertion at a place is about to do
abbrev pub kind_at : {P : Type 0} → Option (ℕ × Ordering) → P → OrdEntryKind P
kind_at None p = New p
kind_at {P} (Some place) p = by place.1
  where
    by : Ordering → OrdEntryKind P
    by Less = New p
    by Equal = Replacing p
    by Greater = New p

-- the pointer is that of the entry at this place, or of a new one, for which there is room
pub record IsReadyAt {T : Type 0} (place : Option (ℕ × Ordering)) (i g : ℕ) (o : Ordered T)
    : Type 0 where
  pub live : IfSome place (λ a. IsSome (entry_in o a.0))
  pub empty : place ≡ None → size_in o ≡ 0
  pub replacing : Replaces place → (place ≡ Some (i, Equal))
      × (generation_at (entry_in o) i ≡ Some g)
  pub new : (Replaces place → ⊥) → (size_in o < arena_capacity o.chains)
      × ((i ≡ next_index o.chains) × (g ≡ o.chains.counter))

module _ {P T S Inx Gen Word Alloc : Type 0} where
  -- the arena as the entry holds it
  abbrev pub entry_arena : SimpleOrdArenaInsertEntry P T S Inx Gen Word Alloc → Ordered T
  entry_arena e = e.arena.now

  -- the ghost name of the reference to the arena
  abbrev pub entry_lender : SimpleOrdArenaInsertEntry P T S Inx Gen Word Alloc → GName
  entry_lender e = e.arena.ghost_name

  -- the place of the item
  abbrev pub entry_place : (Inx → ℕ) → SimpleOrdArenaInsertEntry P T S Inx Gen Word Alloc
      → Option (ℕ × Ordering)
  entry_place number e = place_by number e.place

  -- the insertion can be made
  abbrev pub IsReady : (Inx → ℕ) → (P → ℕ) → (P → ℕ)
      → SimpleOrdArenaInsertEntry P T S Inx Gen Word Alloc → Type 0
  IsReady number index generation e = IsReadyAt (entry_place number e) (index e.ptr)
      (generation e.ptr) (entry_arena e)

-- what is answered where an entry is asked for: whether the kind's requirement fails, and else a
-- place that it asks for, and what the room says, if a new entry is needed there
pub record IsOrdAnswer {A : Type 0} (meets : Type 0) (is_place : Option (ℕ × Ordering) → Type 0)
    (place_of : A → Option (ℕ × Ordering))
    (allows : Option OrdInsertionError → Type 0) (result : Result A OrdInsertionError)
    : Type 0 where
  pub failed : (result ≡ Err FailedOrdRequirement) ↔ (meets → ⊥)
  pub place : (a : A) → result ≡ Ok a → is_place (place_of a)
  pub fits : (a : A) → result ≡ Ok a → (Replaces (place_of a) → ⊥) → allows None
  pub refused : (error : OrdInsertionError) → result ≡ Err error → error ≢ FailedOrdRequirement
      → (place : Option (ℕ × Ordering)) × is_place place × (Replaces place → ⊥)
      × allows (Some error)

module _ {I T K : Type 0} (number : I → ℕ) (cmp : K → K → Ordering) (key : T → K) where
  -- what a call that makes an insertion's entry for a kind of insertion answers
  abbrev pub IsAnswerTo : {P S Gen Word Alloc : Type 0} → InsertKind I (Bor K) → Ordered T
      → (Option OrdInsertionError → Type 0)
      → Result (SimpleOrdArenaInsertEntry P T S I Gen Word Alloc) OrdInsertionError → Type 0
  IsAnswerTo kind o allows result = IsOrdAnswer (Meets number kind o)
      (IsPlaceFor number cmp key kind o) (entry_place number) allows result
