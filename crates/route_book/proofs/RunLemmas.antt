-- The indexes of stops and of marks after a pack.
use Rattle.std.proofs.Common.{◌≡◌, ◌↔◌, ℕ, zero, suc, ◌+◌, ◌<◌, ◌≤◌, List, [], ◌∷◌, length, Option}
use Rattle.std.proofs.Common.{Some, None, IsSome, is_some, option_map, slice_get, true, false, refl}
use Rattle.std.proofs.Common.{sym, ap, subst, ◌∙◌, arith}
use Rattle.triple_arena.specs.Compression.{entry_of_listed}
use Rattle.triple_arena.specs.Content.{Content, entry_at, live_count}
use Rattle.triple_arena.specs.LiveEntries.{live_entries, live_entries-length}
use Rattle.route_book.specs.Item.{MarkView}

slice_some : {X : Type 0} (xs : List X) (k : ℕ) → IsSome (slice_get xs k) → k < length xs
slice_some [] k some = absurd (let no : false ≡ true = some in cc)
slice_some (x ∷ xs) zero some = omega arith
slice_some (x ∷ xs) (suc k) some = let rest = slice_some xs k some in omega (arith, rest)

some_slice : {X : Type 0} (xs : List X) (k : ℕ) → k < length xs → IsSome (slice_get xs k)
some_slice [] k less = absurd (omega (arith, less))
some_slice (x ∷ xs) zero less = refl
some_slice (x ∷ xs) (suc k) less = some_slice xs k (omega (arith, less))

some_mapped : {X Y : Type 0} (f : X → Y) (o : Option X) → is_some (option_map f o) ≡ is_some o
some_mapped f None = refl
some_mapped f (Some x) = refl

-- marks that stood at the indexes from 1 on do so after a recast
pub marks_run : (c d : Content MarkView) (f : ℕ × MarkView → ℕ × MarkView)
    → ((k : ℕ) → entry_at c (k + 1) ≡ option_map entry_of_listed (slice_get (live_entries c) k))
    → ((k : ℕ) → entry_at d k ≡ option_map f (entry_at c k)) → live_count d ≡ live_count c
    → (i : ℕ) → IsSome (entry_at d i) ↔ ((1 ≤ i) × (i ≤ live_count d))
marks_run c d f compact recast live zero = (
  λ some. absurd (let no : false ≡ true =
      sym (ap is_some (recast zero) ∙ some_mapped f (entry_at c zero)) ∙ some in cc),
  λ within. absurd (let low = within.0 in omega (arith, low)),
)
marks_run c d f compact recast live (suc k) =
    let reads : is_some (entry_at d (suc k)) ≡ is_some (slice_get (live_entries c) k) =
    ap is_some (recast (suc k)) ∙ some_mapped f (entry_at c (suc k)) ∙ ap is_some (compact_at k)
    ∙ some_mapped entry_of_listed (slice_get (live_entries c) k) in
    let long = live_entries-length c in (
      λ some. let less = slice_some (live_entries c) k (sym reads ∙ some) in
          (omega arith, omega (arith, less, long, live)),
      λ within. let up = within.1 in reads
          ∙ some_slice (live_entries c) k (omega (arith, up, long, live)),
    )
  where
    compact_at : (k : ℕ) → entry_at c (suc k)
        ≡ option_map entry_of_listed (slice_get (live_entries c) k)
    compact_at k =
        let same : k + 1 ≡ suc k = omega arith in
        subst (λ i. entry_at c i ≡ option_map entry_of_listed (slice_get (live_entries c) k))
        same (compact k)

-- what stood at the indexes from 1 on does so after each entry was mapped
pub run_mapped : {T U : Type 0} (old : ℕ → Option (ℕ × T)) (new : ℕ → Option (ℕ × U)) (n m : ℕ)
    (f : ℕ × T → ℕ × U) → ((k : ℕ) → new k ≡ option_map f (old k)) → m ≡ n
    → ((i : ℕ) → IsSome (old i) ↔ ((1 ≤ i) × (i ≤ n)))
    → (i : ℕ) → IsSome (new i) ↔ ((1 ≤ i) × (i ≤ m))
run_mapped old new n m f each same run i =
    let reads : is_some (new i) ≡ is_some (old i) = ap is_some (each i) ∙ some_mapped f (old i) in (
      λ some. rw same ((run i).0 (sym reads ∙ some)),
      λ within. reads ∙ (run i).1 (within.0, (let high = within.1 in omega (arith, high, same))),
    )
