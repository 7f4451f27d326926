-- What leaves the interlinks leaves them agreed.
use Rattle.std.specs.Prelude.{OnOk, OnErr, IfSome, IfNone}
use Rattle.std.proofs.Common.{◌≡◌, ℕ, List, Option, Some, None, Result, Ok, Err, sym, ap, subst}
use Rattle.std.proofs.Common.{◌∙◌}
use Rattle.triple_arena.specs.Changes.{IsInvalidated}
use Rattle.triple_arena.specs.Content.{Content, entry_at, live_count, some_counter, with_limit}
use Rattle.triple_arena.specs.Content.{IsWellFormed}
use Rattle.triple_arena.specs.Recasting.{content_recasted}
use Rattle.triple_arena_chain.specs.LinkShape.{IndexLink}
use Rattle.triple_arena_chain.specs.LinkRecasting.{link_items, link_recasted}
use Rattle.triple_arena_chain.specs.Links.{ends_in, IsChained}
use Rattle.linked_lists.specs.LinkedListLaws.{IsAgreed-same}
use Rattle.triple_arena_chain.specs.SameLinksLaws.{ends-same_slots, ends-regenerated}
use Rattle.triple_arena_chain.specs.SameLinksLaws.{ends-with_limit, ends-content_recasted}

module _ {T : Type 0} where
  -- the same interlinks, in an arena that is well-formed
  pub chained-same_ends : {U : Type 0} (c : Content (IndexLink U))
      (d : Content (IndexLink T)) → IsChained c → IsWellFormed d
      → ((k : ℕ) → ends_in d k ≡ ends_in c k) → IsChained d
  chained-same_ends c d chained formed same =
      record {
        formed = formed;
        agreed = IsAgreed-same (ends_in c) (ends_in d) same chained.agreed;
      }

  -- the same slots
  pub chained-same_slots : (c d : Content (IndexLink T)) → IsChained c → IsWellFormed d
      → d.slots ≡ c.slots → IsChained d
  chained-same_slots c d chained formed same =
      chained-same_ends c d chained formed (ends-same_slots c d same)

  -- another limit
  pub chained-with_limit : (greatest : ℕ) (c d : Content (IndexLink T)) (max : ℕ)
      → IsChained c → IsWellFormed d
      → d ≡ with_limit greatest c max → IsChained d
  chained-with_limit greatest c d max chained formed is =
      chained-same_ends c d chained formed
      (λ k. ap (λ e. ends_in e k) is ∙ ends-with_limit greatest c max k)

  -- values recast
  pub chained-recasted : {N : Type 0} (items : T → List N) (f : N → Option N) (recasted : T → T)
      (c d : Content (IndexLink T)) → IsChained c → IsWellFormed d
      → d ≡ content_recasted (link_items items) f (link_recasted recasted) c → IsChained d
  chained-recasted items f recasted c d chained formed is =
      chained-same_ends c d chained formed
      (λ k. ap (λ e. ends_in e k) is ∙ ends-content_recasted items f recasted c k)

  -- a limit that is set, or refused
  pub chained-limited : {A E : Type 0} (greatest : ℕ) (c d : Content (IndexLink T)) (max : ℕ)
      (r : Result A E) → IsChained c → IsWellFormed d
      → OnOk r (d ≡ with_limit greatest c max) → OnErr r (d ≡ c) → IsChained d
  chained-limited greatest c d max (Ok x) chained formed set refused =
      chained-with_limit greatest c d max chained formed set
  chained-limited greatest c d max (Err e) chained formed set refused =
      subst IsChained (sym refused) chained

  -- a pointer that ended, or was not found
  pub invalidated_chained : {A : Type 0} (last : Option ℕ) (given : A → ℕ)
      (c d : Content (IndexLink T)) (i : ℕ) (r : Option A) → IsChained c → IsWellFormed d
      → IfSome r (λ a. IsInvalidated entry_at live_count some_counter (λ s. s.room) last i (given a)
      c d) → IfNone r (d ≡ c) → IsChained d
  invalidated_chained last given c d i None chained formed ended same =
      subst IsChained (sym same) chained
  invalidated_chained last given c d i (Some a) chained formed ended same =
      chained-same_ends c d chained formed
      (ends-regenerated c d i (given a) ended.entries)
