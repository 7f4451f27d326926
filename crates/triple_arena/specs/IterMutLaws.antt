-- What a loop that writes values keeps.
use Rattle.std.proofs.Common.{◌≡◌, ℕ, zero, suc, ◌+◌, List, [], ◌∷◌, Option, Some, None}
use Rattle.std.proofs.Common.{is_some, count_by, cond, fold, refl, ap, ◌∙◌}
use Rattle.std.specs.Prelude.{slice_index_or}
use Rattle.std.specs.Option.{option_map}
use Rattle.triple_arena.specs.Changes.{IsRewritten}
use Rattle.triple_arena.specs.Content.{Content, entry_at, live_count, some_counter}
use Rattle.triple_arena.specs.DirectContent.{DirectContent, no_counter}
use Rattle.triple_arena.specs.DirectContent.{entry_at as direct_entry_at}
use Rattle.triple_arena.specs.DirectContent.{live_count as direct_live_count}
use Rattle.triple_arena.specs.Entries.{generation_at}
use Rattle.triple_arena.specs.IterMut.{with_entry_value, with_values, with_direct_values}
use Rattle.triple_arena.specs.LentSlots.{filled, refilled}

module _ {T : Type 0} where
  abbrev Refilled : List (Option (ℕ × T)) → List (Option T) → List (Option (ℕ × T))
  Refilled = refilled with_entry_value

  some-filled : (o : Option (ℕ × T)) (w : Option T)
      → is_some (filled with_entry_value o w) ≡ is_some o
  some-filled o None = refl
  some-filled None (Some w) = refl
  some-filled (Some e) (Some w) = refl

  key-filled : (o : Option (ℕ × T)) (w : Option T)
      → option_map (λ (e : ℕ × T). e.0) (filled with_entry_value o w)
      ≡ option_map (λ (e : ℕ × T). e.0) o
  key-filled o None = refl
  key-filled None (Some w) = refl
  key-filled (Some e) (Some w) = refl

  -- written values leave how many are live
  pub count-refilled : (l : List (Option (ℕ × T))) (ws : List (Option T))
      → count_by is_some (Refilled l ws) ≡ count_by is_some l
  count-refilled l ws = from 0 l ws
    where
      from : (a : ℕ) (l : List (Option (ℕ × T))) (ws : List (Option T))
          → fold (λ n o. n + cond (is_some o) 1 0) a (Refilled l ws)
          ≡ fold (λ n o. n + cond (is_some o) 1 0) a l
      from a [] ws = refl
      from a (o ∷ l) [] = from (a + cond (is_some o) 1 0) l []
      from a (o ∷ l) (w ∷ ws) =
          ap (λ b. fold (λ n o. n + cond (is_some o) 1 0) (a + cond b 1 0) (Refilled l ws))
          (some-filled o w) ∙ from (a + cond (is_some o) 1 0) l ws

  -- and each generation
  key-refilled : (l : List (Option (ℕ × T))) (ws : List (Option T)) (k : ℕ)
      → option_map (λ (e : ℕ × T). e.0) (slice_index_or (Refilled l ws) k None)
      ≡ option_map (λ (e : ℕ × T). e.0) (slice_index_or l k None)
  key-refilled [] ws k = refl
  key-refilled (o ∷ l) [] zero = refl
  key-refilled (o ∷ l) [] (suc k) = key-refilled l [] k
  key-refilled (o ∷ l) (w ∷ ws) zero = key-filled o w
  key-refilled (o ∷ l) (w ∷ ws) (suc k) = key-refilled l ws k

  -- an arena whose values were written is as it was, but for them
  pub rewritten : (c : Content T) (ws : List (Option T))
      → IsRewritten entry_at live_count some_counter (λ c. c.room) c (with_values c ws)
  rewritten c ws = record {
    generations = generations;
    live = count-refilled c.slots ws;
    counter = refl;
    room = refl;
  }
    where
      generations : (i : ℕ) → generation_at (entry_at (with_values c ws)) i
          ≡ generation_at (entry_at c) i
      generations zero = refl
      generations (suc k) = key-refilled c.slots ws k

  -- the same of a direct arena
  pub direct_rewritten : (d : DirectContent T) (ws : List (Option T))
      → IsRewritten direct_entry_at direct_live_count no_counter (λ d. d.room) d
      (with_direct_values d ws)
  direct_rewritten d ws = record {
    generations = generations;
    live = count-refilled d.slots ws;
    counter = refl;
    room = refl;
  }
    where
      generations : (i : ℕ) → generation_at (direct_entry_at (with_direct_values d ws)) i
          ≡ generation_at (direct_entry_at d) i
      generations zero = refl
      generations (suc k) = key-refilled d.slots ws k
