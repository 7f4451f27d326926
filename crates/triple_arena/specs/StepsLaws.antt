-- Histories one after another, as one.
use Rattle.std.proofs.Common.{◌≡◌, ℕ, List, [], ◌∷◌, ◌++◌, append_assoc, Option, inl, inr, refl}
use Rattle.std.proofs.Common.{sym, ap, ◌∙◌}
use Rattle.triple_arena_stack.specs.Room.{Room}
use Rattle.triple_arena.specs.Entries.{IsOneOf}
use Rattle.triple_arena.specs.Steps.{AreNew, History, given, all_given, reached, Happens}

-- a pointer that comes last in what has none twice comes nowhere else
pub last_is_new : (l : List (ℕ × ℕ)) (p : ℕ × ℕ) → AreNew (l ++ p ∷ []) → IsOneOf l p → ⊥
last_is_new [] p new one = one
last_is_new (q ∷ l) p new (inl here) = new.0 (at_the_end l q p (sym here))
  where
    at_the_end : (m : List (ℕ × ℕ)) (r s : ℕ × ℕ) → s ≡ r → IsOneOf (m ++ s ∷ []) r
    at_the_end [] r s same = inl same
    at_the_end (x ∷ m) r s same = inr (at_the_end m r s same)
last_is_new (q ∷ l) p new (inr later) = last_is_new l p new.1 later

pub reached-append : {S T : Type 0} (s : S) (h k : History S T)
    → reached s (h ++ k) ≡ reached (reached s h) k
reached-append s [] k = refl
reached-append s (moment ∷ h) k = reached-append moment.1 h k

module _ {S T : Type 0} (listed : S → List (ℕ × (ℕ × T))) where
  pub given-append : (h k : History S T)
      → all_given listed (h ++ k) ≡ all_given listed h ++ all_given listed k
  given-append [] k = refl
  given-append (moment ∷ h) k =
      ap (λ l. given listed moment.0 moment.1 ++ l) (given-append h k)
      ∙ sym (append_assoc (given listed moment.0 moment.1) (all_given listed h)
      (all_given listed k))

module _ {S T : Type 0} (entry_of : S → ℕ → Option (ℕ × T)) (live_of : S → ℕ)
    (counter_of : S → Option ℕ)
    (room_of : S → Room) (listed : S → List (ℕ × (ℕ × T))) (last : Option ℕ) where
  pub happens-append : (s : S) (h k : History S T)
      → Happens entry_of live_of counter_of room_of listed last s h
      → Happens entry_of live_of counter_of room_of listed last (reached s h) k
      → Happens entry_of live_of counter_of room_of listed last s (h ++ k)
  happens-append s [] k first then = then
  happens-append s (moment ∷ h) k first
      then = (first.0, first.1, happens-append moment.1 h k first.2 then)
