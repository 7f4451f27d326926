-- The first listed entry stands at its index.
use Rattle.std.proofs.Common.{◌≡◌, ℕ, List, [], ◌∷◌, Option, Some, None, IsSome, slice_get, refl}
use Rattle.std.specs.Prelude.{IfSome}
use Rattle.std.proofs.Common.{sym, ap, ◌∙◌}
use Rattle.std.proofs.lemmas.Bool.{eq-eqb}
use Rattle.std.specs.Option.{option_map}
use Rattle.triple_arena.specs.Content.{Content, entry_at, get}
use Rattle.triple_arena.specs.Entries.{look_up, value_if}
use Rattle.triple_arena.specs.IterMut.{with_values}
use Rattle.triple_arena.specs.IterMutLaws.{rewritten}
use Rattle.triple_arena.specs.Iterators.{pointer_of}
use Rattle.triple_arena.specs.LiveEntries.{live_entries, entry-listed}

module _ {T : Type 0} where
  in_front : (l : List (ℕ × (ℕ × T))) (i g : ℕ)
      → option_map pointer_of (slice_get l 0) ≡ Some (i, g)
      → option_map (λ (e : ℕ × T). e.0) (look_up l i) ≡ Some g
  in_front [] i g none = cc
  in_front (e ∷ l) i g one =
      let same : pointer_of e ≡ (i, g) = cc in
      rw (eq-eqb e.0 i (ap (λ (p : ℕ × ℕ). p.0) same)) (ap (λ (p : ℕ × ℕ). Some p.1) same)

  found : (o : Option (ℕ × T)) (g : ℕ) → option_map (λ (e : ℕ × T). e.0) o ≡ Some g
      → IsSome (value_if g o)
  found None g none = cc
  found (Some e) g some =
      let generation : e.0 ≡ g = cc in
      rw (eq-eqb e.0 g generation) refl

  -- a pointer to the first listed entry finds it, also once the values are other ones
  pub first_found : {P : Type 0} (index generation : P → ℕ) (old : Content T) (ws : List (Option T))
      (r : Option P) → option_map (λ p. (index p, generation p)) r
      ≡ option_map pointer_of (slice_get (live_entries old) 0)
      → IfSome r (λ p. IsSome (get (with_values old ws) (index p) (generation p)))
  first_found index generation old ws None first = tt
  first_found index generation old ws (Some p) first =
      let i = index p in
      found (entry_at (with_values old ws) i) (generation p)
      ((rewritten old ws).generations i
      ∙ ap (option_map (λ (e : ℕ × T). e.0)) (entry-listed old i)
      ∙ in_front (live_entries old) i (generation p) (sym first))
