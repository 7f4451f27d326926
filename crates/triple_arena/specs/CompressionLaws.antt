-- What the calls of a compression's map leave, by what one call does. Each law takes the clause
-- `mapped` first.
use Rattle.std.proofs.Common.{◌≡◌, ℕ, List, [], ◌∷◌, map, refl, ap, ◌∙◌}
use Rattle.std.specs.List.{FoldsTo, AllZip}
use Rattle.triple_arena.specs.Compression.{Move, value_of, given_in_turn, entry_before, entry_after}
use Rattle.triple_arena.specs.Compression.{IsMapped}

module _ {P T F : Type 0} {index generation : P → ℕ} {step : F → P → T → P → T → F → Type 0} {f : F}
    {old new : List (ℕ × (ℕ × T))} (m : IsMapped
    index generation step f old new) where
  -- the entries are related one by one as each call relates the one that it was made at and the one
  -- that it left, where calls keep an invariant
  pub entries_related : (I : F → Type 0) (R : ℕ × (ℕ × T) → ℕ × (ℕ × T) → Type 0) → I f
      → ((h : F) (from : P) (t : T) (to : P) (u : T) (k : F) → I h → step h from t to u k
      → R (index from, (generation from, t)) (index to, (generation to, u)) × I k)
      → AllZip R old new
  entries_related I R first one = rw (← m.before, ← m.after) (by_moves m.moves f first m.calls)
    where
      by_moves : (moves : List (Move P T)) (h : F) → I h
          → FoldsTo (λ h move k. step h move.from move.value move.to move.given k) h moves m.last
          → AllZip R (map (entry_before index generation) moves)
          (map (entry_after index generation) moves)
      by_moves [] h kept calls = tt
      by_moves (x ∷ moves) h kept calls =
          let r = one h x.from x.value x.to x.given calls.0 kept calls.1 in
          (r.0, by_moves moves calls.0 r.1 calls.2)

  -- the values are those that a function gives of a state and the old value, in turn, where each
  -- call takes the state on
  pub values_in_turn : {S : Type 0} (state : F → S) (given : S → T → T) (next : S → T → S)
      → ((h : F) (from : P) (t : T) (to : P) (u : T) (k : F) → step h from t to u k
      → (u ≡ given (state h) t) × (state k ≡ next (state h) t))
      → map value_of new ≡ given_in_turn given next (state f) (map value_of old)
  values_in_turn state given next one = rw (← m.before, ← m.after) (by_moves m.moves f m.calls)
    where
      by_moves : (moves : List (Move P T)) (h : F)
          → FoldsTo (λ h move k. step h move.from move.value move.to move.given k) h moves m.last
          → map value_of (map (entry_after index generation) moves)
          ≡ given_in_turn given next (state h)
          (map value_of (map (entry_before index generation) moves))
      by_moves [] h calls = refl
      by_moves (x ∷ moves) h calls =
          let r = one h x.from x.value x.to x.given calls.0 calls.1 in
          let rest = by_moves moves calls.0 calls.2 in
          let olds = map value_of (map (entry_before index generation) moves) in
          rw (r.0) (ap (λ l. given (state h) x.value ∷ l)
          (rest ∙ ap (λ s. given_in_turn given next s olds) r.1))

  -- the values are related one by one as each call relates what it got and what it gave, where
  -- calls leave the map as it is
  pub values_related_same : (R : T → T → Type 0)
      → ((from : P) (t : T) (to : P) (u : T) (k : F) → step f from t to u k → R t u × (k ≡ f))
      → AllZip R (map value_of old) (map value_of new)
  values_related_same R one = rw (← m.before, ← m.after) (by_moves m.moves f refl m.calls)
    where
      by_moves : (moves : List (Move P T)) (h : F) → h ≡ f
          → FoldsTo (λ h move k. step h move.from move.value move.to move.given k) h moves m.last
          → AllZip R (map value_of (map (entry_before index generation) moves))
          (map value_of (map (entry_after index generation) moves))
      by_moves [] h same calls = tt
      by_moves (x ∷ moves) h same calls =
          let r = one x.from x.value x.to x.given calls.0 (rw same at calls.1) in
          (r.0, by_moves moves calls.0 r.1 calls.2)

  -- each value is what a function gives of the old one, where calls leave the map as it is
  pub values_same : (given : T → T)
      → ((from : P) (t : T) (to : P) (u : T) (k : F) → step f from t to u k
      → (u ≡ given t) × (k ≡ f))
      → map value_of new ≡ map given (map value_of old)
  values_same given one = rw (← m.before, ← m.after) (by_moves m.moves f refl m.calls)
    where
      by_moves : (moves : List (Move P T)) (h : F) → h ≡ f
          → FoldsTo (λ h move k. step h move.from move.value move.to move.given k) h moves m.last
          → map value_of (map (entry_after index generation) moves)
          ≡ map given (map value_of (map (entry_before index generation) moves))
      by_moves [] h same calls = refl
      by_moves (x ∷ moves) h same calls =
          let r = one x.from x.value x.to x.given calls.0 (rw same at calls.1) in
          let rest = by_moves moves calls.0 r.1 calls.2 in
          rw (r.0) (ap (λ l. given x.value ∷ l) rest)
