-- What a copy is whose map gives the pointers.
use Rattle.std.proofs.Common.{◌≡◌, ℕ, List, [], ◌∷◌, map, refl, sym, ap, ◌∙◌}
use Rattle.std.specs.Prelude.{Result, Ok}
use Rattle.std.specs.Borrow.{Bor}
use Rattle.triple_arena.specs.Iterators.{pointer_of}
use Rattle.triple_arena.specs.Recaster.{pointer_in, IsRecaster}
use Rattle.triple_arena.specs.Compression.{listed_under}
use Rattle.triple_arena.specs.Copy.{Call, Calls, IsMappedCopy}

module _ {P U E F : Type 0} (index generation : P → ℕ)
    (step : F → P → Bor U → Result P E → F → Type 0) where
  -- each entry holds the pointer that it stands under
  pub holds_itself : {f : F} {old : List (ℕ × (ℕ × U))} {new : List (ℕ × (ℕ × P))}
      → ((g : F) (p : P) (u : Bor U) (t : P) (h : F) → step g p u (Ok t) h → t ≡ p)
      → IsMappedCopy index generation step f old new → IsRecaster index generation old old new
  holds_itself {f} {old} {new} one m =
      let ends = ap (map pointer_of) m.before in
      record {
        from = ap (map pointer_of) (sym m.after) ∙ under m.calls ∙ ends;
        to = ap (map (pointer_in index generation)) (sym m.after) ∙ held m.calls f m.made ∙ ends;
      }
    where
      under : (calls : List (Call P U P))
          → map pointer_of (map
          (λ (call : Call P U P). listed_under index generation call.pointer call.given) calls)
          ≡ map pointer_of (map
          (λ (call : Call P U P). listed_under index generation call.pointer call.lent.now)
          calls)
      under [] = refl
      under (x ∷ calls) = ap (λ l. (index x.pointer, generation x.pointer) ∷ l) (under calls)

      held : (calls : List (Call P U P)) (g : F) → Calls step g calls m.last
          → map (pointer_in index generation)
          (map (λ (call : Call P U P). listed_under index generation call.pointer call.given)
          calls)
          ≡ map pointer_of (map
          (λ (call : Call P U P). listed_under index generation call.pointer call.lent.now)
          calls)
      held [] g made = refl
      held (x ∷ calls) g made =
          let same = one g x.pointer x.lent x.given made.0 made.1 in
          let rest = held calls made.0 made.2 in
          ap (λ p. (index p, generation p) ∷ map (pointer_in index generation)
          (map (λ (call : Call P U P). listed_under index generation call.pointer call.given)
          calls)) same
          ∙ ap (λ l. (index x.pointer, generation x.pointer) ∷ l) rest
