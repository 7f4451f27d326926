-- What leaves the interlinks, and with them every chain: another counter or room, another
-- generation at an index, another limit, and a recast of the values.
use Rattle.std.proofs.Common.{◌≡◌, ℕ, zero, suc, List, [], ◌∷◌, get_or, Option, Some, None, Result}
use Rattle.std.proofs.Common.{Ok, Err, option_map, inl, inr, refl, sym, ap, ◌∙◌}
use Rattle.std.proofs.lemmas.Bool.Decides.{eqb_tells}
use Rattle.triple_arena_ptr.specs.Recast.{recast_answer, where_ok}
use Rattle.triple_arena_ptr.specs.Generation.{next_generation}
use Rattle.triple_arena.specs.Entries.{with_generation_at}
use Rattle.triple_arena.specs.Content.{Content, entry_at, invalidated, with_limit}
use Rattle.triple_arena.specs.ContentLaws.{entry-same_slots}
use Rattle.triple_arena.specs.GenerationLaws.{entry-invalidated}
use Rattle.triple_arena.specs.LimitLaws.{entry-with_limit}
use Rattle.triple_arena.specs.Recasting.{slots_recasted, content_recasted}
use Rattle.triple_arena_chain.specs.LinkShape.{IndexLink}
use Rattle.triple_arena_chain.specs.LinkRecasting.{link_items, link_recasted}
use Rattle.triple_arena_chain.specs.Links.{entry_ends, ends_in}

module _ {T : Type 0} where
  -- the same slots: another counter, another room, other free indexes
  pub ends-same_slots : (c d : Content (IndexLink T)) → d.slots ≡ c.slots → (k : ℕ)
      → ends_in d k ≡ ends_in c k
  ends-same_slots c d same k = ap (option_map entry_ends) (entry-same_slots d c same k)

  -- another generation at an index
  pub ends-regenerated : (c d : Content (IndexLink T)) (i g : ℕ)
      → ((j : ℕ) → entry_at d j ≡ with_generation_at (entry_at c) i g j)
      → (k : ℕ) → ends_in d k ≡ ends_in c k
  ends-regenerated c d i g at k =
      ap (option_map entry_ends) (at k)
      ∙ elim (eqb_tells k i) [
        | inl same ↦ rw same.0 (by_entry (entry_at c i) ∙ ap (ends_in c) (sym same.1))
        | inr other ↦ rw other.0 refl
      ]
    where
      by_entry : (o : Option (ℕ × IndexLink T))
          → option_map entry_ends
          (option_map (λ (e : ℕ × IndexLink T). (let v : ℕ × IndexLink T = (g, e.1) in v)) o)
          ≡ option_map entry_ends o
      by_entry None = refl
      by_entry (Some e) = refl

  -- a pointer that ended
  pub ends-invalidated : (last : Option ℕ) (c : Content (IndexLink T)) (i k : ℕ)
      → ends_in (invalidated last c i) k ≡ ends_in c k
  ends-invalidated last c i k = ends-regenerated c (invalidated last c i) i
      (next_generation last c.counter) (entry-invalidated last c i) k

  -- another limit
  pub ends-with_limit : (greatest : ℕ) (c : Content (IndexLink T)) (max k : ℕ)
      → ends_in (with_limit greatest c max) k ≡ ends_in c k
  ends-with_limit greatest c max k
      = ap (option_map entry_ends) (entry-with_limit greatest c max k)

  module _ {N : Type 0} (items : T → List N) (f : N → Option N) (recasted : T → T) where
    part : (r : Result (Unit {0}) N) (slots : List (Option (ℕ × IndexLink T))) (k : ℕ)
        → option_map entry_ends
        (get_or (slots_recasted (link_items items) f (link_recasted recasted) slots) k None)
        ≡ option_map entry_ends (get_or slots k None)
        → option_map entry_ends
        (get_or (where_ok r (slots_recasted (link_items items) f (link_recasted recasted) slots)
        slots) k None)
        ≡ option_map entry_ends (get_or slots k None)
    part (Ok _) slots k same = same
    part (Err _) slots k same = refl

    slots_linked : (slots : List (Option (ℕ × IndexLink T))) (k : ℕ)
        → option_map entry_ends
        (get_or (slots_recasted (link_items items) f (link_recasted recasted) slots) k None)
        ≡ option_map entry_ends (get_or slots k None)
    slots_linked [] k = refl
    slots_linked (None ∷ slots) zero = refl
    slots_linked (None ∷ slots) (suc k) = slots_linked slots k
    slots_linked (Some entry ∷ slots) zero = refl
    slots_linked (Some entry ∷ slots) (suc k) = part (recast_answer f (items entry.1.t)) slots k
        (slots_linked slots k)

    -- values recast
    pub ends-content_recasted : (c : Content (IndexLink T)) (k : ℕ)
        → ends_in (content_recasted (link_items items) f (link_recasted recasted) c) k
        ≡ ends_in c k
    ends-content_recasted c zero = refl
    ends-content_recasted c (suc k) = slots_linked c.slots k

-- the interlinks stay
pub ruleset same_links = (
  ends-same_slots,
  ends-invalidated,
  ends-with_limit,
  ends-content_recasted,
)
