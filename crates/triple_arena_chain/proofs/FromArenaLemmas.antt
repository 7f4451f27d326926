-- What a link that is found names, where the interlinks agree.
use Rattle.std.proofs.Common.{◌≡◌, ℕ, Some, option_map, ap, ◌∙◌}
use Rattle.triple_arena.specs.Content.{Content, get}
use Rattle.triple_arena_chain.specs.LinkShape.{IndexLink}
use Rattle.linked_lists.specs.LinkedLists.{IsAgreed, next_at, prev_at, next_in, prev_in}
use Rattle.triple_arena_chain.specs.KindLaws.{found}
use Rattle.triple_arena_chain.specs.Links.{link_ends, ends_in}

module _ {T : Type 0} (c : Content (IndexLink T)) (i g : ℕ) (l : IndexLink T)
    (agreed : IsAgreed (ends_in c)) (at : get c i g ≡ Some l) where
  pub next_goes_back : (q : ℕ) → l.next ≡ Some q
      → prev_at (ends_in c) q ≡ Some i
  next_goes_back q is =
      agreed.forward i q (ap next_in
      (found c i g (link_ends l) (ap (option_map link_ends) at)) ∙ is)

  pub prev_goes_on : (p : ℕ) → l.prev ≡ Some p
      → next_at (ends_in c) p ≡ Some i
  prev_goes_on p is = agreed.backward p i
      (ap prev_in (found c i g (link_ends l) (ap (option_map link_ends) at))
      ∙ is)
