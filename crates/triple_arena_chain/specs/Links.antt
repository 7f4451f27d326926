-- The links of a chain arena: what their interlinks are, what their values are, and what a write of
-- either leaves.
use Rattle.std.specs.Prelude.{◌≡◌, ℕ, ◌+◌, max, length, drop, Option, Some, None, IsSome, IfSome}
use Rattle.std.specs.Option.{option_map}
use Rattle.triple_arena.specs.Content.{Content, entry_at, get, live_count, next_index, with_value}
use Rattle.triple_arena.specs.Content.{removed, IsWellFormed}
use Rattle.triple_arena_ptr.specs.Generation.{next_generation}
use Rattle.triple_arena.specs.Entries.{with_entry, without}
use Rattle.triple_arena_chain.specs.LinkShape.{IndexLink}
use Rattle.triple_arena_chain.specs.Kinds.{gap_of, at_bridge}
use Rattle.triple_arena_chain.specs.declared.kind.InsertKind.{InsertKind}
use Rattle.triple_arena_chain.specs.declared.gap.Gap.{Gap}
use Rattle.triple_arena_chain.specs.declared.gap.Gap.TheVariants.{Between, OwnRing}
use Rattle.linked_lists.specs.LinkedLists.{Ends, IsAgreed, taken_out, next_in, prev_in}
use Rattle.linked_lists.specs.LinkedLists.{next_at, prev_at, linked, unlinked, exchanged}
use Rattle.linked_lists.specs.Chains.{IsTaken}
use Rattle.triple_arena_chain.specs.Gaps.{put_in, IsPutAt}

module _ {T : Type 0} where
  -- the previous and the next index of a link
  abbrev pub prev_next_of : IndexLink T → Option ℕ × Option ℕ
  prev_next_of link = (link.prev, link.next)

  -- an entry with the value of its link alone
  abbrev pub valued : ℕ × IndexLink T → ℕ × T
  valued entry = (entry.0, entry.1.t)

  -- the generation and the value at an index
  abbrev pub values_in : Content (IndexLink T) → ℕ → Option (ℕ × T)
  values_in c i = option_map valued (entry_at c i)

  -- the link of this entry, if there is one, as a function leaves it, at its index
  abbrev pub with_link_of : Content (IndexLink T) → ℕ → (IndexLink T → IndexLink T)
      → Option (ℕ × IndexLink T) → Content (IndexLink T)
  with_link_of c i change None = c
  with_link_of c i change (Some entry) = with_value c i (change entry.1)

  -- the link at an index as this function leaves it, if there is one
  abbrev pub with_link : Content (IndexLink T) → ℕ → (IndexLink T → IndexLink T)
      → Content (IndexLink T)
  with_link c i change = with_link_of c i change (entry_at c i)

  -- the links with another value at an index, if there is one
  abbrev pub with_value_in : Content (IndexLink T) → ℕ → T → Content (IndexLink T)
  with_value_in c i t = with_link c i (λ link. record link { t = t })

  -- as many indexes are live, the same are free, and the counter, the number of slots and the room
  -- are the same
  pub record IsKept (old new : Content (IndexLink T)) : Type 0 where
    pub live : live_count new ≡ live_count old
    pub slots : length new.slots ≡ length old.slots
    pub free : new.free ≡ old.free
    pub counter : new.counter ≡ old.counter
    pub room : new.room ≡ old.room

module _ {T : Type 0} where
  -- the previous and the next index of a link
  abbrev pub link_ends : IndexLink T → Ends
  link_ends link = (link.prev, link.next)

  abbrev pub entry_ends : ℕ × IndexLink T → Ends
  entry_ends entry = link_ends entry.1

  -- the interlinks at an index
  abbrev pub ends_in : Content (IndexLink T) → ℕ → Option Ends
  ends_in c i = option_map entry_ends (entry_at c i)

  -- those of the link at an index, where it has this generation
  abbrev pub ends_found : Content (IndexLink T) → ℕ → ℕ → Option Ends
  ends_found c i g = option_map link_ends (get c i g)

  -- the link at an index with another next, if these are there
  abbrev pub with_next_of : Content (IndexLink T) → Option ℕ → Option ℕ → Content (IndexLink T)
  with_next_of c None next = c
  with_next_of c (Some i) next = with_link c i (λ link. record link { next = next })

  -- the link at an index with another previous one, if these are there
  abbrev pub with_prev_of : Content (IndexLink T) → Option ℕ → Option ℕ → Content (IndexLink T)
  with_prev_of c None prev = c
  with_prev_of c (Some i) prev = with_link c i (λ link. record link { prev = prev })

  -- the arena is well-formed, and the interlinks agree both ways
  pub record IsChained (c : Content (IndexLink T)) : Type 0 where
    pub formed : IsWellFormed c
    pub agreed : IsAgreed (ends_in c)

  -- the link for a value at this gap, where its own index is `i`
  abbrev pub link_for : Gap ℕ → ℕ → T → IndexLink T
  link_for (Between before after) i t = record { prev = before; next = after; t = t }
  link_for OwnRing i t = record { prev = Some i; next = Some i; t = t }

  -- the neighbors at this gap are live
  abbrev pub AreNeighborsLive : Content (IndexLink T) → Gap ℕ → Type 0
  AreNeighborsLive c (Between before after) = IfSome before (λ i. IsSome (entry_at c i))
      × IfSome after (λ i. IsSome (entry_at c i))
  AreNeighborsLive c OwnRing = Unit {0}

  -- the neighbors at this gap name what is at `i`
  abbrev pub joined_to : Content (IndexLink T) → Gap ℕ → ℕ → Content (IndexLink T)
  joined_to c (Between before after) i
      = with_prev_of (with_next_of c before (Some i)) after (Some i)
  joined_to c OwnRing i = c

  -- the links with these neighbors for the one at an index, which name it
  abbrev pub placed_between : Content (IndexLink T) → Option ℕ → Option ℕ → ℕ
      → Content (IndexLink T)
  placed_between c prev next i
      = joined_to (with_prev_of (with_next_of c (Some i) next) (Some i) prev) (Between prev next) i

  -- the neighbors of a link name one another over it
  abbrev pub bridged_over : Content (IndexLink T) → IndexLink T → Content (IndexLink T)
  bridged_over c link = with_prev_of (with_next_of c link.prev link.next) link.next link.prev

  -- the links without this one at an index, if there is one, whose neighbors are joined; the
  -- counter steps
  abbrev pub link_removed_of : Option ℕ → Content (IndexLink T) → ℕ → Option (ℕ × IndexLink T)
      → Content (IndexLink T)
  link_removed_of last c i None = c
  link_removed_of last c i (Some entry) = removed last (bridged_over c entry.1) i

  -- the links without the one at an index
  abbrev pub link_removed : Option ℕ → Content (IndexLink T) → ℕ → Content (IndexLink T)
  link_removed last c i = link_removed_of last c i (entry_at c i)

  -- one link more at this gap, under the next index and the counter; all others stay
  pub record IsLinkInserted (gap : Gap ℕ) (i g : ℕ) (t : T) (old new : Content (IndexLink T))
      : Type 0 where
    pub index : i ≡ next_index old
    pub generation : g ≡ old.counter
    pub vacant : entry_at old i ≡ None
    pub ends : (k : ℕ) → ends_in new k ≡ put_in (ends_in old) i gap k
    pub lists : IsPutAt gap i (ends_in old) (ends_in new)
    pub values : (k : ℕ) → values_in new k ≡ with_entry (values_in old) i (g, t) k
    pub live : live_count new ≡ live_count old + 1
    pub counter : new.counter ≡ old.counter
    pub free : new.free ≡ drop 1 old.free
    pub slots : length new.slots ≡ max (length old.slots) (next_index old)

  -- these interlinks, and all else as it was
  pub record IsRelinked (wanted : ℕ → Option Ends) (old new : Content (IndexLink T))
      : Type 0 where
    pub ends : (k : ℕ) → ends_in new k ≡ wanted k
    pub values : (k : ℕ) → values_in new k ≡ values_in old k
    pub kept : IsKept old new

  -- all is as it was
  abbrev pub IsRestored : (old new : Content (IndexLink T)) → Type 0
  IsRestored old new = IsRelinked (ends_in old) old new

  -- `q` is the next of `p`, and all else is as it was
  abbrev pub Connects : ℕ → ℕ → Content (IndexLink T) → Content (IndexLink T) → Type 0
  Connects p q old new = IsRelinked (linked (ends_in old) p q) old new

  -- `p` is parted from its next, and all else is as it was
  abbrev pub BreaksNext : ℕ → Content (IndexLink T) → Content (IndexLink T) → Type 0
  BreaksNext p old new = (q : ℕ) → next_at (ends_in old) p ≡ Some q
      → IsRelinked (unlinked (ends_in old) p q) old new

  -- `p` is parted from its previous link, and all else is as it was
  abbrev pub BreaksPrev : ℕ → Content (IndexLink T) → Content (IndexLink T) → Type 0
  BreaksPrev p old new = (q : ℕ) → prev_at (ends_in old) p ≡ Some q
      → IsRelinked (unlinked (ends_in old) q p) old new

  -- `p` has the next that `q` had, and `q` that of `p`, and all else is as it was
  abbrev pub ExchangesNexts : ℕ → ℕ → Content (IndexLink T) → Content (IndexLink T) → Type 0
  ExchangesNexts p q old new = (s t : ℕ) → next_at (ends_in old) p ≡ Some s
      → next_at (ends_in old) q ≡ Some t → IsRelinked (exchanged (ends_in old) p q s t) old new

  -- the link at this index is gone, and its neighbors are joined; all others stay, and the counter
  -- steps
  pub record IsTakenOut (last : Option ℕ) (i : ℕ) (old new : Content (IndexLink T)) : Type 0 where
    pub ends : (k : ℕ) → ends_in new k ≡ taken_out (ends_in old) i k
    pub lists : IsTaken i (ends_in old) (ends_in new)
    pub values : (k : ℕ) → values_in new k ≡ without (values_in old) i k
    pub live : live_count new + 1 ≡ live_count old
    pub counter : new.counter ≡ next_generation last old.counter
    pub free : new.free ≡ (removed last old i).free
    pub slots : length new.slots ≡ length (removed last old i).slots
    pub room : new.room ≡ old.room

module _ {P I T : Type 0} (index generation : P → ℕ) (number : I → ℕ) where
  -- the gap that a kind asks for among these links, or nothing where they are not as it requires
  abbrev pub gap_among : Content (IndexLink T) → InsertKind P I → Option (Gap ℕ)
  gap_among c kind = gap_of index number (λ p. ends_found c (index p) (generation p))
      (ends_in c) kind

  -- there is a gap as a kind asks for, and the link is stored there
  abbrev pub IsStoredAt : InsertKind P I → ℕ → ℕ → T → Content (IndexLink T)
      → Content (IndexLink T) → Type 0
  IsStoredAt kind i g t old new = IsSome (gap_among old kind)
      × IfSome (gap_among old kind) (λ gap. IsLinkInserted gap i g t old new)

module _ {T : Type 0} where
  -- the interlinks and the value at each index are as they were
  abbrev pub SameLinks : Content (IndexLink T) → Content (IndexLink T) → Type 0
  SameLinks old new = (k : ℕ) → (ends_in new k ≡ ends_in old k)
      × (values_in new k ≡ values_in old k)

module _ {P T : Type 0} (index generation : P → ℕ) where
  -- a pointer finds a link that has a next
  abbrev pub HasNext : Content (IndexLink T) → P → Type 0
  HasNext c p = IsSome (next_in (ends_found c (index p) (generation p)))

  -- two pointers find links that have a next
  abbrev pub HaveNexts : Content (IndexLink T) → P → P → Type 0
  HaveNexts c p q = HasNext c p × HasNext c q

  -- the first pointer finds a link that has no next, the second one a link that has no previous
  -- one
  abbrev pub AreConnectable : Content (IndexLink T) → P → P → Type 0
  AreConnectable c p q
      = IsSome (at_bridge (index p) (index q) (ends_found c (index p) (generation p))
      (ends_found c (index q) (generation q)))

  -- a pointer finds a link that has a previous one
  abbrev pub HasPrev : Content (IndexLink T) → P → Type 0
  HasPrev c p = IsSome (prev_in (ends_found c (index p) (generation p)))
