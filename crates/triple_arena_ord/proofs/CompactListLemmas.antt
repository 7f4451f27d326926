-- Where the list has the indexes from 1 on, in their order, it has the entries as they go by index.
use Rattle.std.proofs.Common.{◌≡◌, ℕ, suc, ◌+◌, List, [], ◌∷◌, length, Option, Some, refl, sym, ap}
use Rattle.std.proofs.Common.{◌∙◌, arith}
use Rattle.std.specs.Prelude.{slice_get}
use Rattle.std.specs.List.{range_with_len}
use Rattle.std.specs.Option.{option_map}
use Rattle.triple_arena.specs.Compression.{index_of, entry_of_listed}
use Rattle.triple_arena.specs.Transfer.{IsFilled}
use Rattle.triple_arena_stack.specs.Room.{Room}
use Rattle.triple_arena_ord.specs.Ascending.{entries_along}
use Rattle.triple_arena_ord.specs.Indexed.{indexed}
use Rattle.triple_arena_ord.specs.IndexedLaws.{indexed-length}
use Rattle.triple_arena_ord.specs.Ordered.{Ordered, order_in, ordered_entries, entry_in, size_in}
use Rattle.triple_arena_ord.specs.Ordered.{counter_in, room_in}

module _ {T : Type 0} where
  run_along : (entry : ℕ → Option (ℕ × T)) (s : ℕ) (l : List (ℕ × (ℕ × T)))
      → ((k : ℕ) → entry (s + k) ≡ option_map entry_of_listed (slice_get l k))
      → ((k : ℕ) (e : ℕ × (ℕ × T)) → slice_get l k ≡ Some e → index_of e ≡ s + k)
      → entries_along entry (range_with_len s (length l)) ≡ l
  run_along entry s [] at compact = refl
  run_along entry s (e ∷ l) at compact =
      let here : entry (s + 0) ≡ Some (entry_of_listed e) = at 0 in
      let same : s + 0 ≡ s = omega arith in
      let first : index_of e ≡ s = compact 0 e refl ∙ same in
      let rest : entries_along entry (range_with_len (s + 1) (length l)) ≡ l =
      run_along entry (s + 1) l
      (λ k. let next : (s + 1) + k ≡ s + suc k = omega arith in ap entry next ∙ at (suc k))
      (λ k x is. let next : s + suc k ≡ (s + 1) + k = omega arith in compact (suc k) x is ∙ next) in
      let at_first : entry s ≡ Some e.1 = sym (ap entry same) ∙ here in
      rw at_first (ap (λ i. (i, e.1) ∷ entries_along entry (range_with_len (s + 1) (length l)))
      (sym first) ∙ ap (λ r. e ∷ r) rest)

module _ {T : Type 0} where
  pub compact_list : (n g : ℕ) (own : Room) (old new : Ordered T)
      → IsFilled entry_in size_in counter_in room_in indexed n g own old new
      → order_in new ≡ range_with_len 1 n → ordered_entries new ≡ indexed new
  compact_list n g own old new filled order =
      let many : n ≡ length (indexed new) = sym filled.live ∙ sym (indexed-length new) in
      ap (entries_along (entry_in new)) (order ∙ ap (range_with_len 1) many)
      ∙ run_along (entry_in new) 1 (indexed new)
      (λ k. let next : 1 + k ≡ k + 1 = omega arith in ap (entry_in new) next ∙ filled.entries k)
      (λ k e is. let next : k + 1 ≡ 1 + k = omega arith in filled.compact k e is ∙ next)
