-- A step of an iterator over a chain.
use Rattle.std.proofs.Common.{◌≡◌, ℕ, suc, zero, ◌+◌, Bool, true, false, List, [], ◌∷◌, length}
use Rattle.std.proofs.Common.{Option, Some, None, refl, sym, ap, subst, ◌∙◌}
use Rattle.triple_arena.specs.Content.{Content, entry_at}
use Rattle.linked_lists.specs.LinkedLists.{Ends, prev_at}
use Rattle.triple_arena_chain.specs.LinkShape.{IndexLink}
use Rattle.triple_arena_chain.specs.IterChains.{link_and, links_along, backwards_at, lent_walk}
use Rattle.triple_arena_chain.specs.IterChains.{settled}
use Rattle.triple_arena_chain.specs.Links.{ends_in}
use Rattle.triple_arena_chain.specs.Walks.{ChainWalk, walk_from, Leaves, past_index, from_index}
use Rattle.triple_arena_chain.specs.Walks.{steps_of, left_over, IsEnding}
use Rattle.triple_arena_chain.specs.WalkLaws.{after_step}

module _ (e : ℕ → Option Ends) where
  -- where a walk backwards began does not matter
  steps_back : (n s t : ℕ) (at : Option ℕ)
      → steps_of e n (record { start = s; at = at; back = true })
      ≡ steps_of e n (record { start = t; at = at; back = true })
  steps_back zero s t at = refl
  steps_back (suc n) s t None = refl
  steps_back (suc n) s t (Some i) = by (e i) (steps_back n s t (prev_at e i))
    where
      by : (o : Option Ends)
          → steps_of e n (record { start = s; at = prev_at e i; back = true })
          ≡ steps_of e n (record { start = t; at = prev_at e i; back = true })
          → from_index e (steps_of e n) (record { start = s; at = Some i; back = true }) i o
          ≡ from_index e (steps_of e n) (record { start = t; at = Some i; back = true }) i o
      by None same = refl
      by (Some v) same = ap (λ l. i ∷ l) same

  leaves_back : (s t : ℕ) (at : Option ℕ) (xs : List ℕ)
      → Leaves e (record { start = s; at = at; back = true }) xs
      → Leaves e (record { start = t; at = at; back = true }) xs
  leaves_back s t at [] left = left
  leaves_back s t at (x ∷ xs) left = (left.0, (left.1.0, leaves_back s t (prev_at e x) xs left.1.1))

  -- two walks give the same, and the second ends
  abbrev Same : ℕ → ChainWalk → ChainWalk → Type 0
  Same n w v = (steps_of e n v ≡ steps_of e n w) × Leaves e v (steps_of e n v)

  over : (n s : ℕ) → Same n (record { start = s; at = None; back = false }) (backwards_at None)
  over zero s = (refl, refl)
  over (suc n) s = (refl, refl)

  settled_by : (n s : ℕ) (at : Option ℕ) (back : Bool)
      → Leaves e (record { start = s; at = at; back = back })
      (steps_of e n (record { start = s; at = at; back = back }))
      → Same n (record { start = s; at = at; back = back })
      (settled (record { start = s; at = at; back = back }))
  settled_by n s at true left =
      let w : ChainWalk = record { start = s; at = at; back = true } in
      let same = steps_back n 0 s at in (
        same,
        subst (Leaves e (backwards_at at)) (sym same) (leaves_back s 0 at (steps_of e n w) left),
      )
  settled_by n s None false left = over n s
  settled_by n s (Some i) false left = (refl, left)

  -- a walk and the settled one give the same
  pub settled_same : (n : ℕ) (w v : ChainWalk) → v ≡ settled w → Leaves e w (steps_of e n w)
      → Same n w v
  settled_same n w v is left = subst (Same n w) (sym is) (settled_by n w.start w.at w.back left)

  -- a walk over lent links begins as any walk does
  pub walk_begins : (start : Option ℕ) (i : ℕ) (p : ℕ)
      → start ≡ Some i → i ≡ p
      → lent_walk e start start ≡ walk_from p
  walk_begins start i p is same =
      ap (λ o. lent_walk e o o) is ∙ ap walk_from same

module _ {T : Type 0} (c : Content (IndexLink T)) where
  after_given : (was w v : ChainWalk) (i g : ℕ) (l : IndexLink T) → IsEnding c was
      → w ≡ was → w.at ≡ Some i
      → Some (g, l) ≡ entry_at c i → v ≡ settled (past_index (ends_in c) w i)
      → (links_along (entry_at c) (left_over c was)
      ≡ (i, (g, l)) ∷ links_along (entry_at c) (left_over c v)) × IsEnding c v
  after_given was w v i g l ends same at here on =
      let n = length c.slots + 1 in
      let e = ends_in c in
      let step = after_step e n w i (subst (IsEnding c) (sym same) ends) at in
      let rest = settled_same e n (past_index e w i) v on step.1 in
      let left : left_over c was ≡ i ∷ left_over c v =
      ap (left_over c) (sym same) ∙ step.0 ∙ ap (λ l. i ∷ l) (sym rest.0) in (
        ap (links_along (entry_at c)) left
            ∙ ap (λ o. link_and i o (links_along (entry_at c) (left_over c v))) (sym here),
        rest.1,
      )

  at_next : (start : Option ℕ) (i : ℕ) → (lent_walk (ends_in c) start (Some i)).at ≡ Some i
  at_next None i = refl
  at_next (Some s) i = refl

  -- the link that is given, and those that are left to a walk which goes on
  pub link_given : (was : ChainWalk) (start at on_start on : Option ℕ) (i g : ℕ) (l : IndexLink T)
      → IsEnding c was
      → lent_walk (ends_in c) start at ≡ was → at ≡ Some i → Some (g, l) ≡ entry_at c i
      → lent_walk (ends_in c) on_start on
      ≡ settled (past_index (ends_in c) (lent_walk (ends_in c) start (Some i)) i)
      → (links_along (entry_at c) (left_over c was)
      ≡ (i, (g, l)) ∷ links_along (entry_at c)
      (left_over c (lent_walk (ends_in c) on_start on)))
      × IsEnding c (lent_walk (ends_in c) on_start on)
  link_given was start at on_start on i g l ends same next here goes =
      let e = ends_in c in
      after_given was (lent_walk e start (Some i)) (lent_walk e on_start on) i g l ends
      (ap (lent_walk e start) (sym next) ∙ same) (at_next start i) here goes
