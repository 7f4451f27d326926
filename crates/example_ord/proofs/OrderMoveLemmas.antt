-- A map that gives what it gets moves the orders as they are.
use Rattle.std.proofs.Common.{◌≡◌, ℕ, List, [], ◌∷◌, map, Option, Result, Ok, Err, OnOk, refl, sym}
use Rattle.std.proofs.Common.{ap, ◌∙◌}
use Rattle.std.specs.List.{FoldsTo}
use Rattle.triple_arena_ptr.specs.declared.invalidation.InvalidationOption.{InvalidationOption}
use Rattle.triple_arena_ptr.specs.InvalidationOption.{value_of}
use Rattle.triple_arena.specs.Transfer.{Transfer, entry_before, entry_after, IsTransferred}
use Rattle.triple_arena_ord.specs.declared.pair.OrdPair.{OrdPair}
use Rattle.example_ord.specs.OrderBooks.{listed_order}

module _ {Q P V F : Type 0} {old_index old_generation : Q → ℕ} {index generation : P → ℕ}
    {step : F → Q → InvalidationOption (OrdPair ℕ V) → P → OrdPair ℕ V → F → Type 0}
    {last counter : Option ℕ} where
  pub orders_kept : {f : F} {old new : List (ℕ × (ℕ × OrdPair ℕ V))}
      → ((h k : F) (from : Q) (item : InvalidationOption (OrdPair ℕ V)) (to : P) (t : OrdPair ℕ V)
      → step h from item to t k → t ≡ value_of item)
      → IsTransferred old_index old_generation index generation step f last counter old new
      → map listed_order new ≡ map listed_order old
  orders_kept {f} keeps m = ap (map listed_order) (sym m.after) ∙ by_moves m.moves f m.calls
      ∙ ap (map listed_order) m.before
    where
      by_moves : (moves : List (Transfer Q (OrdPair ℕ V) P (OrdPair ℕ V))) (h : F)
          → FoldsTo (λ g move k. step g move.from move.item move.to move.given k) h moves m.last
          → map listed_order (map (entry_after old_index old_generation index generation) moves)
          ≡ map listed_order (map (entry_before old_index old_generation index generation) moves)
      by_moves [] h calls = refl
      by_moves (x ∷ moves) h calls =
          let same = keeps h calls.0 x.from x.item x.to x.given calls.1 in
          let rest = by_moves moves calls.0 calls.2 in
          rw same (ap (λ l. ((value_of x.item).k, (value_of x.item).v) ∷ l) rest)

-- what two facts on a success make
pub on_success : {A E X Y Z : Type 0} (r : Result A E) → (X → Y → Z) → OnOk r X → OnOk r Y
    → OnOk r Z
on_success (Ok a) so x y = so x y
on_success (Err e) so x y = tt
