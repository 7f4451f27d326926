-- Where an insertion puts its link.
use Rattle.std.specs.Prelude.{ℕ, ◌==◌, Option, Some, None, if◌then◌else◌}
use Rattle.std.specs.Option.{option_map}
use Rattle.triple_arena_chain.specs.declared.kind.InsertKind.{InsertKind}
use Rattle.triple_arena_chain.specs.declared.kind.InsertKind.TheVariants.{Disconnected}
use Rattle.triple_arena_chain.specs.declared.kind.InsertKind.TheVariants.{SingleLinkCyclic}
use Rattle.triple_arena_chain.specs.declared.kind.InsertKind.TheVariants.{ChainEnd, ChainEndInx}
use Rattle.triple_arena_chain.specs.declared.kind.InsertKind.TheVariants.{ChainStart, ChainStartInx}
use Rattle.triple_arena_chain.specs.declared.kind.InsertKind.TheVariants.{NextTo, NextToInx, PrevTo}
use Rattle.triple_arena_chain.specs.declared.kind.InsertKind.TheVariants.{PrevToInx, AtInterlink}
use Rattle.triple_arena_chain.specs.declared.kind.InsertKind.TheVariants.{AtInterlinkInx, Bridge}
use Rattle.triple_arena_chain.specs.declared.kind.InsertKind.TheVariants.{BridgeInx}
use Rattle.triple_arena_chain.specs.declared.gap.Gap.{Gap}
use Rattle.triple_arena_chain.specs.declared.gap.Gap.TheVariants.{Between, OwnRing}
use Rattle.linked_lists.specs.LinkedLists.{Ends}

module _ {I : Type 0} (number : I → ℕ) where
  -- the ends of a link by their numbers
  abbrev pub ends_by : Option I × Option I → Ends
  ends_by ends = (option_map number ends.0, option_map number ends.1)

  -- a gap by the numbers of its neighbors
  abbrev pub gap_by : Gap I → Gap ℕ
  gap_by (Between before after) = Between (option_map number before) (option_map number after)
  gap_by OwnRing = OwnRing

-- after a link that has no next
abbrev pub at_end : ℕ → Option Ends → Option (Gap ℕ)
at_end i None = None
at_end i (Some ends) = by_next ends.1
  where
    by_next : Option ℕ → Option (Gap ℕ)
    by_next None = Some (Between (Some i) None)
    by_next (Some _) = None

-- before a link that has no previous one
abbrev pub at_start : ℕ → Option Ends → Option (Gap ℕ)
at_start i None = None
at_start i (Some ends) = by_prev ends.0
  where
    by_prev : Option ℕ → Option (Gap ℕ)
    by_prev None = Some (Between None (Some i))
    by_prev (Some _) = None

-- directly after a link
abbrev pub after_link : ℕ → Option Ends → Option (Gap ℕ)
after_link i ends = option_map (λ e. Between (Some i) e.1) ends

-- directly before a link
abbrev pub before_link : ℕ → Option Ends → Option (Gap ℕ)
before_link i ends = option_map (λ e. Between e.0 (Some i)) ends

-- between two links of which the second is the next of the first
abbrev pub at_interlink : ℕ → ℕ → Option Ends → Option Ends → Option (Gap ℕ)
at_interlink i j None _ = None
at_interlink i j (Some first) None = None
at_interlink i j (Some first) (Some second) = by_next first.1
  where
    by_next : Option ℕ → Option (Gap ℕ)
    by_next None = None
    by_next (Some k) = if k == j then Some (Between (Some i) (Some j)) else None

-- between a link that has no next and one that has no previous one
abbrev pub at_bridge : ℕ → ℕ → Option Ends → Option Ends → Option (Gap ℕ)
at_bridge i j None _ = None
at_bridge i j (Some first) None = None
at_bridge i j (Some first) (Some second) = by_ends first.1 second.0
  where
    by_ends : Option ℕ → Option ℕ → Option (Gap ℕ)
    by_ends None None = Some (Between (Some i) (Some j))
    by_ends None (Some _) = None
    by_ends (Some _) _ = None

module _ {P I : Type 0} (index : P → ℕ) (number : I → ℕ) (ends_of : P → Option Ends)
    (ends_at : ℕ → Option Ends) where
  -- the gap that a kind asks for, or nothing where the links are not as it requires: by the ends
  -- of what a pointer finds, and by those of what is at an index
  abbrev pub gap_of : InsertKind P I → Option (Gap ℕ)
  gap_of Disconnected = Some (Between None None)
  gap_of SingleLinkCyclic = Some OwnRing
  gap_of (ChainEnd p) = at_end (index p) (ends_of p)
  gap_of (ChainEndInx i) = at_end (number i) (ends_at (number i))
  gap_of (ChainStart p) = at_start (index p) (ends_of p)
  gap_of (ChainStartInx i) = at_start (number i) (ends_at (number i))
  gap_of (NextTo p) = after_link (index p) (ends_of p)
  gap_of (NextToInx i) = after_link (number i) (ends_at (number i))
  gap_of (PrevTo p) = before_link (index p) (ends_of p)
  gap_of (PrevToInx i) = before_link (number i) (ends_at (number i))
  gap_of (AtInterlink p q) = at_interlink (index p) (index q) (ends_of p) (ends_of q)
  gap_of (AtInterlinkInx i j) = at_interlink (number i) (number j) (ends_at (number i))
      (ends_at (number j))
  gap_of (Bridge p q) = at_bridge (index p) (index q) (ends_of p) (ends_of q)
  gap_of (BridgeInx i j) = at_bridge (number i) (number j) (ends_at (number i))
      (ends_at (number j))
