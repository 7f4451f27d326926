-- Where the chains are runs, a linear chain is one.
use Rattle.std.proofs.Common.{◌≡◌, ℕ, ◌+◌, ◌-◌, Bool, List, [], ◌∷◌, ◌++◌, map, length, Option}
use Rattle.std.proofs.Common.{Some, None, inl, inr, refl, sym, ap, subst, ◌∙◌, append_assoc}
use Rattle.std.proofs.lemmas.List.{length-map}
use Rattle.std.specs.List.{range_with_len}
use Rattle.std.specs.Option.{option_map}
use Rattle.triple_arena.specs.Compression.{renewed}
use Rattle.triple_arena.specs.Content.{Content, live_count}
use Rattle.triple_arena_chain.specs.LinkShape.{IndexLink}
use Rattle.triple_arena_chain.specs.CanonicalLayout.{IsLaidOut, IsCanonical}
use Rattle.linked_lists.specs.LinkedLists.{Ends, On, IsLinear}
use Rattle.linked_lists.specs.LinkedListLaws.{On-cons}
use Rattle.triple_arena_chain.specs.Links.{ends_in, values_in}
use Rattle.linked_lists.specs.ChainLaws.{On-first, On-either, on_differs, live_in, linear_same}
use Rattle.linked_lists.specs.ChainLaws.{ring_or_linear}
use Rattle.linked_lists.specs.Chains.{Chain, Linear, Cyclic, all_members, AreAllChainsOf}
use Rattle.triple_arena_chain.specs.Runs.{value_at, IsRunFrom}
use Rattle.triple_arena_chain.proofs.RunLemmas.{run-split}

not_on_nothing : (k : ℕ) → On [] k → ⊥
not_on_nothing k on = on_differs [] k k on tt refl

-- the one list is a part of the other
IsPart : List ℕ → List ℕ → Type 0
IsPart list all = (before : List ℕ) × (after : List ℕ) × (all ≡ before ++ (list ++ after))

further : (xs list all : List ℕ) → IsPart list all → IsPart list (xs ++ all)
unfolding IsPart
further xs list all part =
    (xs ++ part.0, part.1, ap (λ l. xs ++ l) part.2 ∙ sym (append_assoc xs part.0 (list ++ part.1)))

module _ (e : ℕ → Option Ends) where
  -- among all chains a linear one is a part of the indexes
  part_of_all : (cs : List Chain) (list : List ℕ) (k : ℕ) → AreAllChainsOf e cs → IsLinear e list
      → On list k → On (all_members cs) k
      → IsPart list (all_members cs)
  unfolding IsPart
  part_of_all [] list k are linear here there = absurd (not_on_nothing k there)
  part_of_all (Linear xs ∷ cs) list k are linear here there =
      elim (On-either xs (all_members cs) k there) [
        | inl on ↦ (
          [],
          all_members cs,
          ap (λ l. l ++ all_members cs) (linear_same e xs list k are.0.0 linear on here),
        )
        | inr on ↦ further xs list (all_members cs) (part_of_all cs list k are.1 linear here on)
      ]
  part_of_all (Cyclic xs ∷ cs) list k are linear here there =
      elim (On-either xs (all_members cs) k there) [
        | inl on ↦ absurd (ring_or_linear e xs list k are.0.0 linear on here)
        | inr on ↦ further xs list (all_members cs) (part_of_all cs list k are.1 linear here on)
      ]

  -- where the chains are runs from 1 on, a linear one has successive indexes
  linear_run : (n : ℕ) (list : List ℕ) → IsLaidOut e n → IsLinear e list
      → (first : ℕ) × (list ≡ range_with_len first (length list))
  unfolding IsPart
  linear_run n [] laid linear = (0, refl)
  linear_run n (x ∷ xs) laid linear =
      let list : List ℕ = x ∷ xs in
      let live = live_in e (Linear list) x linear (On-first x xs) in
      let part = part_of_all laid.chains list x laid.are.chains linear (On-first x xs)
      (laid.are.whole x live) in
      let split = run-split part.0 (list ++ part.1) 1 n (sym part.2 ∙ laid.runs) in
      (1 + length part.0, (run-split list part.1 (1 + length part.0) (n - length part.0) split.1).0)

module _ {T : Type 0} where
  value_kept : (renewed : ℕ) (o : Option (ℕ × T))
      → option_map {T = ℕ × T} {U = T} (λ e. e.1)
      (option_map {T = ℕ × T} {U = ℕ × T} (λ e. (renewed, e.1)) o)
      ≡ option_map {T = ℕ × T} {U = T} (λ e. e.1) o
  value_kept renewed None = refl
  value_kept renewed (Some e) = refl

module _ {T : Type 0} where
  values_kept : (to : ℕ → ℕ) (old new : Content (IndexLink T)) (list : List ℕ)
      → ((i : ℕ) → On list i → value_at new (to i) ≡ value_at old i)
      → map (value_at new) (map to list) ≡ map (value_at old) list
  values_kept to old new [] kept = refl
  values_kept to old new (x ∷ xs) kept =
      let first = kept x (On-first x xs) in
      let rest = values_kept to old new xs (λ i on. kept i (On-cons x i xs on)) in
      cc

  -- a list is a run after a canonical compression
  pub canonical_run : (last : Option ℕ) (reset : Bool) (old new : Content (IndexLink T))
      (list : List ℕ) → IsCanonical last reset old new
      → IsLinear (ends_in old) list → (first : ℕ) × IsRunFrom first list old new
  canonical_run last reset old new list canonical linear =
      let to = canonical.to in
      let moved : IsLinear (ends_in new) (map to list) =
      canonical.renamed.lists (Linear list) linear in
      let run = linear_run (ends_in new) (live_count old) (map to list) canonical.laid_out
      moved in
      let many : map to list ≡ range_with_len run.0 (length list) = run.1
      ∙ ap (range_with_len run.0) (length-map list to) in
      let kept : (i : ℕ) → On list i → value_at new (to i) ≡ value_at old i = λ i on.
      ap (option_map (λ e. e.1))
      (canonical.values i (live_in (ends_in old) (Linear list) i linear on))
      ∙ value_kept (renewed last reset old.counter) (values_in old i) in (
        run.0,
        record {
          linear = subst (IsLinear (ends_in new)) many moved;
          values = ap (map (value_at new)) (sym many) ∙ values_kept to old new list kept;
        },
      )
