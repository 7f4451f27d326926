-- The pointers to the neighbors of a link.
use Rattle.std.proofs.Common.{◌≡◌, ℕ, Option, Some, None, IsSome, IfSome, is_some, option_map}
use Rattle.std.proofs.Common.{true≢false, refl, sym, ap, ◌∙◌}
use Rattle.triple_arena.specs.Content.{Content, entry_at, get}
use Rattle.triple_arena_chain.specs.LinkShape.{IndexLink}
use Rattle.linked_lists.specs.LinkedLists.{Ends, prev_in, next_in}
use Rattle.triple_arena_chain.specs.Links.{link_ends, ends_in, ends_found, IsChained}
use Rattle.triple_arena_chain.specs.Values.{ptr_to}
use Rattle.triple_arena_chain.specs.KindLaws.{found}
use Rattle.triple_arena_chain.proofs.ConnectionLemmas.{live_next, live_prev}

abbrev numbers_of : {P : Type 0} → (P → ℕ) → (P → ℕ) → P → ℕ × ℕ
numbers_of index generation p = (index p, generation p)

abbrev first_of : ℕ × ℕ → ℕ
first_of p = p.0

module _ {P T : Type 0} (index generation : P → ℕ) where
  live_before : (c : Content (IndexLink T)) (i : ℕ) (v : Ends) (at : Option ℕ)
      → IsChained c → ends_in c i ≡ Some v
      → v.0 ≡ at → IfSome at (λ j. IsSome (entry_at c j))
  live_before c i v None chained is named = tt
  live_before c i v (Some j) chained is named =
      live_prev c i j chained (ap prev_in is ∙ named)

  live_after : (c : Content (IndexLink T)) (i : ℕ) (v : Ends) (at : Option ℕ) → IsChained c
      → ends_in c i ≡ Some v
      → v.1 ≡ at → IfSome at (λ j. IsSome (entry_at c j))
  live_after c i v None chained is named = tt
  live_after c i v (Some j) chained is named =
      live_next c i j chained (ap next_in is ∙ named)

  -- the pointer to what is live at an index has that index
  same_index : (c : Content (IndexLink T)) (at : Option ℕ) (p : Option P)
      → IfSome at (λ j. IsSome (entry_at c j))
      → option_map (numbers_of index generation) p ≡ ptr_to c at
      → option_map index p ≡ at
  same_index c None None live is = refl
  same_index c None (Some q) live is =
      absurd (let no : Some (numbers_of index generation q) ≡ None = is in cc)
  same_index c (Some j) p live is = by (entry_at c j) refl p live is
    where
      by : (o : Option (ℕ × IndexLink T)) → entry_at c j ≡ o → (p : Option P)
          → IsSome (entry_at c j)
          → option_map (numbers_of index generation) p ≡ ptr_to c (Some j)
          → option_map index p ≡ Some j
      by None at p live is = absurd (true≢false (sym live ∙ ap is_some at))
      by (Some e) at None live is =
          absurd (let no : None ≡ Some (j, e.0) = rw at at is in cc)
      by (Some e) at (Some q) live is =
          ap (option_map first_of)
          (let both : Some (numbers_of index generation q) ≡ Some (j, e.0) = rw at at is in
          both)

  pub interlinks_found : (c : Content (IndexLink T)) (i g : ℕ) (link : IndexLink T)
      (before after prev next : Option P) → IsChained c
      → get c i g ≡ Some link
      → option_map (numbers_of index generation) before ≡ ptr_to c link.prev
      → option_map (numbers_of index generation) after ≡ ptr_to c link.next
      → prev ≡ before → next ≡ after
      → Some (option_map index prev, option_map index next) ≡ ends_found c i g
  interlinks_found c i g link before after prev next chained is first second prev_is next_is =
      let ends : ends_found c i g ≡ Some (link_ends link) =
      ap (option_map link_ends) is in
      let here = found c i g (link_ends link) ends in
      let prevs = same_index c link.prev before
      (live_before c i (link_ends link) link.prev chained here refl) first in
      let nexts = same_index c link.next after
      (live_after c i (link_ends link) link.next chained here refl) second in
      let both : Some (option_map index prev, option_map index next)
      ≡ Some (link_ends link) = rw (prev_is, next_is, prevs, nexts) refl in
      both ∙ sym ends
