-- The walk back to the first link of a chain whose links are not placed yet, by the indexes that
-- they had.
use Rattle.std.proofs.Common.{◌≡◌, ◌≢◌, ℕ, ◌+◌, ◌<◌, Option, Some, None, IsSome, option_map, sym}
use Rattle.std.proofs.Common.{ap, subst, ◌∙◌, arith, inl, inr}
use Rattle.std.proofs.lemmas.Bool.Decides.{leb_tells}
use Rattle.triple_arena.specs.Content.{Content}
use Rattle.triple_arena_chain.specs.LinkShape.{IndexLink}
use Rattle.linked_lists.specs.LinkedLists.{Ends, prev_in, next_at, prev_at}
use Rattle.linked_lists.specs.ChainLaws.{live_next_in}
use Rattle.triple_arena_chain.specs.Links.{ends_in}
use Rattle.triple_arena_chain.specs.CanonicalLayout.{IsHead}
use Rattle.triple_arena_chain.specs.Notes.{IsLed, AreLaid, IsStart}
use Rattle.triple_arena_chain.proofs.ChainStartLemmas.{IsBack, back_live, back_more, back_none}
use Rattle.triple_arena_chain.proofs.ChainStartLemmas.{back_past, ring_head}
use Rattle.triple_arena_chain.proofs.GatherLemmas.{prev_moved}
use Rattle.triple_arena_chain.proofs.NoteLemmas.{none_at_zero}

module _ {T : Type 0} (placed : ℕ) (old : Content (IndexLink T))
    (laid : ℕ → Option Ends) (now : Content (IndexLink T))
    (a : AreLaid placed old laid now) where
  pub laid_zero : laid 0 ≡ None
  laid_zero = none_at_zero laid now a.noted.live

  -- the previous link of one that is not placed
  pub record IsBefore (at raw : ℕ) : Type 0 where
    pub live : IsSome (ends_in old raw)
    pub comes : prev_at laid at ≡ Some (a.to raw)
    pub past : placed < a.to raw
    pub led : IsLed (ends_in now) placed raw (a.to raw)

  module _ (at : ℕ) (some : IsSome (laid at)) (ahead : placed < at) where
    -- what is before an unplaced link, under the names that links have now
    prevs : (o : Option ℕ) → prev_at (ends_in now) at ≡ o
        → prev_at laid at ≡ option_map a.to o
    prevs o is =
        let name = a.gathered.moved.renamed.onto at some in
        let unplaced : placed < a.to name.0 = subst (λ k. placed < k) (sym name.2) ahead in
        let own : prev_at (ends_in old) name.0 ≡ o =
        sym (ap prev_in (a.noted.ahead name.0 name.1 unplaced))
        ∙ ap (prev_at (ends_in now)) name.2 ∙ is in
        ap (prev_at laid) (sym name.2)
        ∙ prev_moved a.to (ends_in old) laid a.gathered.moved.renamed name.0 name.1
        ∙ ap (option_map a.to) own

    pub none_before : prev_at (ends_in now) at ≡ None → prev_at laid at ≡ None
    none_before is = prevs None is

    pub before : (raw : ℕ) → prev_at (ends_in now) at ≡ Some raw → IsBefore at raw
    before raw is =
        let name = a.gathered.moved.renamed.onto at some in
        let unplaced : placed < a.to name.0 = subst (λ k. placed < k) (sym name.2) ahead in
        let own : prev_at (ends_in old) name.0 ≡ Some raw =
        sym (ap prev_in (a.noted.ahead name.0 name.1 unplaced))
        ∙ ap (prev_at (ends_in now)) name.2 ∙ is in
        let live : IsSome (ends_in old raw) =
        live_next_in (ends_in old raw) name.0 (a.chained.agreed.backward raw name.0 own)
        in
        let comes = prevs (Some raw) is in
        let goes : next_at laid (a.to raw) ≡ Some at =
        a.gathered.moved.agreed.backward (a.to raw) at comes in
        let past : placed < a.to raw =
        elim (leb_tells (a.to raw) placed) [
          | inl within ↦ absurd
              (let low = a.gathered.closed.on (a.to raw) at goes within.1 in
              omega (arith, low, ahead))
          | inr above ↦ above.1
        ] in
        record { live = live; comes = comes; past = past; led = a.noted.led raw live past }

  -- a walk back that has come to `at`
  module _ (k at steps : ℕ) (b : IsBack laid k at steps) (first : k ≡ placed + 1) where
    pub walk_ahead : placed < at
    walk_ahead = back_past laid a.gathered.moved.agreed k at steps b placed a.gathered.closed
        (omega (arith, first))

    pub walk_live : IsSome (laid at)
    walk_live = back_live laid a.gathered.moved.agreed k at steps b

    pub walk_before : (raw : ℕ) → prev_at (ends_in now) at ≡ Some raw → IsBefore at raw
    walk_before raw is = before at walk_live walk_ahead raw is

    pub walk_more : (raw p : ℕ) → prev_at (ends_in now) at ≡ Some raw → p ≡ a.to raw → p ≢ k
        → IsBack laid k p (steps + 1)
    walk_more raw p is here other =
        back_more laid a.gathered.moved.agreed k at steps b p
        ((walk_before raw is).comes ∙ ap Some (sym here)) other

    -- the walk comes round
    pub start_round : (raw p : ℕ) → prev_at (ends_in now) at ≡ Some raw → p ≡ a.to raw
        → p ≡ k → IsSome (laid k)
        → IsStart placed k (Some raw) a.to old laid
    start_round raw p is here same live =
        let to_k : a.to raw ≡ k = sym here ∙ same in
        let head : IsHead laid k =
        ring_head laid a.gathered.moved.agreed k at steps b
        ((walk_before raw is).comes ∙ ap Some to_k) in
        record {
          live = live;
          head = head;
          past = omega (arith, first);
          own = λ own. first;
          line = λ none. absurd (let no : Some raw ≡ None = none in cc);
          ring = λ x is_x. let it : raw ≡ x = cc in (
            first,
            (
              subst (λ y. IsSome (ends_in old y)) it (walk_before raw is).live,
              ap a.to (sym it) ∙ to_k ∙ first,
            ),
          );
        }

    -- or ends
    pub start_line : prev_at (ends_in now) at ≡ None
        → IsStart placed at None a.to old laid
    start_line is =
        let lone = none_before at walk_live walk_ahead is in
        record {
          live = walk_live;
          head = inl lone;
          past = walk_ahead;
          own = λ own. back_none laid a.gathered.moved.agreed k at steps b lone
              (subst (IsHead laid) (sym first) own) ∙ first;
          line = λ none. lone;
          ring = λ x is_x. absurd (let no : None ≡ Some x = is_x in cc);
        }

module _ {T : Type 0} where
  -- a walk back from `k` has come to `at`, whatever the links were
  abbrev pub IsWalkBack : ℕ → ℕ → ℕ → ℕ → Content (IndexLink T) → Type 0
  IsWalkBack placed k at steps now = (old : Content (IndexLink T)) (laid : ℕ → Option Ends)
      → AreLaid placed old laid now → IsBack laid k at steps
