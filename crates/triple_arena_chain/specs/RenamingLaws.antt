-- The rank of an index among the live ones.
use Rattle.std.proofs.Common.{◌≡◌, ℕ, zero, suc, ◌+◌, if◌then◌else◌, Option, is_some, refl, ap, ◌∙◌}
use Rattle.triple_arena_chain.specs.Renaming.{live_below}

-- it depends on which indexes are live alone
pub live_below-same : {A B : Type 0} (at : ℕ → Option A) (bt : ℕ → Option B)
    → ((j : ℕ) → is_some (bt j) ≡ is_some (at j)) → (i : ℕ) → live_below bt i ≡ live_below at i
live_below-same at bt same zero = refl
live_below-same at bt same (suc i) =
    ap (λ n. n + (if is_some (bt i) then 1 else 0)) (live_below-same at bt same i)
    ∙ ap (λ b. live_below at i + (if b then 1 else 0)) (same i)
