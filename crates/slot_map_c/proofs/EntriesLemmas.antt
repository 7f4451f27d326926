-- The entries past an index, by the steps of a walk.
use Rattle.std.proofs.Common.{◌≡◌, sym, ap, refl, ℕ, zero, suc, ◌+◌, ◌<◌, ◌≤◌, arith, List}
use Rattle.std.proofs.Common.{[], ◌∷◌, get_or, filter, nat_lt, false, inl, inr, Option, Some, None}
use Rattle.std.proofs.Common.{IsSome, is_some, true≢false}
use Rattle.std.specs.Option.{option_map}
use Rattle.std.proofs.lemmas.Bool.{lt-ltb, le-ltb}
use Rattle.std.proofs.lemmas.Bool.Decides.{leb_tells}
use Rattle.triple_arena.specs.Content.{Content, entry_at}
use Rattle.triple_arena.specs.LiveEntries.{listed_from, live_entries}
use Rattle.triple_arena.specs.Walk.{Walk, Steps}
use Rattle.triple_arena.specs.WalkLaws.{step_is, end_all}
use Rattle.slot_map_c.specs.State.{entries_after}

module _ {T : Type 0} where
  abbrev past : ℕ → List (ℕ × (ℕ × T)) → List (ℕ × (ℕ × T))
  past n l = filter (λ e. nat_lt n e.0) l

  -- nothing is listed past the one number up to the other
  skipped : (n i m : ℕ) (xs : List (Option (ℕ × T))) → n ≤ i
      → ((k : ℕ) → n < m + k → m + k ≤ i → get_or xs k None ≡ None)
      → past n (listed_from m xs) ≡ past i (listed_from m xs)
  skipped n i m [] up none = refl
  skipped n i m (None ∷ xs) up none =
      skipped n i (m + 1) xs up (λ k low less. none (suc k) (omega (arith, low))
      (omega (arith, less)))
  skipped n i m (Some e ∷ xs) up none =
      let rest = skipped n i (m + 1) xs up (λ k low less. none (suc k) (omega (arith, low))
      (omega (arith, less))) in
      elim (leb_tells m n) [
        | inl back ↦ rw (le-ltb n m back.1, le-ltb i m (omega (arith, up, back.1))) rest
        | inr more ↦ elim (leb_tells m i) [
          | inl within ↦
              let at = none 0 (omega (arith, more.1)) (omega (arith, within.1)) in
              absurd (true≢false (ap is_some at))
          | inr high ↦ rw (lt-ltb n m more.1, lt-ltb i m high.1) (ap (λ l. (m, e) ∷ l) rest)
        ]
      ]

  -- what stands at a number comes first of all past a smaller one, where none stands between
  listed_first : (n i m k : ℕ) (xs : List (Option (ℕ × T))) (e : ℕ × T) → i ≡ m + k → n < i
      → ((j : ℕ) → n < m + j → m + j < i → get_or xs j None ≡ None) → get_or xs k None ≡ Some e
      → past n (listed_from m xs) ≡ (i, e) ∷ past i (listed_from m xs)
  listed_first n i m k [] e is up none at = absurd (true≢false (ap is_some (sym at)))
  listed_first n i m zero (None ∷ xs) e is up none at = absurd (true≢false (ap is_some (sym at)))
  listed_first n i m zero (Some f ∷ xs) e is up none at =
      let same : f ≡ e = cc in
      let here : m ≡ i = omega (arith, is) in
      let rest = skipped n i (m + 1) xs (omega (arith, up))
      (λ k low less. absurd (omega (arith, less, is))) in
      rw (lt-ltb n m (omega (arith, is, up)), le-ltb i m (omega (arith, is)), here, same)
      (ap (λ l. (i, e) ∷ l) (rw (sym here) rest))
  listed_first n i m (suc k) (None ∷ xs) e is up none at =
      listed_first n i (m + 1) k xs e (omega (arith, is)) up
      (λ j low less. none (suc j) (omega (arith, low)) (omega (arith, less))) at
  listed_first n i m (suc k) (Some f ∷ xs) e is up none at =
      let rest = listed_first n i (m + 1) k xs e (omega (arith, is)) up
      (λ j low less. none (suc j) (omega (arith, low)) (omega (arith, less))) at in
      elim (leb_tells m n) [
        | inl back ↦ rw (le-ltb n m back.1, le-ltb i m (omega (arith, is))) rest
        | inr more ↦
            let none_here = none 0 (omega (arith, more.1)) (omega (arith, is)) in
            absurd (true≢false (ap is_some none_here))
      ]

  -- nothing is listed past a number
  none_listed : (n m : ℕ) (xs : List (Option (ℕ × T)))
      → ((k : ℕ) → n < m + k → get_or xs k None ≡ None) → past n (listed_from m xs) ≡ []
  none_listed n m [] none = refl
  none_listed n m (None ∷ xs) none
      = none_listed n (m + 1) xs (λ k low. none (suc k) (omega (arith, low)))
  none_listed n m (Some e ∷ xs) none =
      let rest = none_listed n (m + 1) xs (λ k low. none (suc k) (omega (arith, low))) in
      elim (leb_tells m n) [
        | inl back ↦ rw (le-ltb n m back.1) rest
        | inr more ↦
            let at = none 0 (omega (arith, more.1)) in
            absurd (true≢false (ap is_some at))
      ]

  -- no entry stands past an index
  pub none_after : (c : Content T) (n : ℕ) → ((j : ℕ) → IsSome (entry_at c j) → j ≤ n)
      → entries_after c n ≡ []
  none_after c n within = none_listed n 1 c.slots (λ k low. free (entry_at c (suc k)) k refl low)
    where
      free : (o : Option (ℕ × T)) (k : ℕ) → entry_at c (suc k) ≡ o → n < 1 + k
          → entry_at c (suc k) ≡ None
      free None k is low = is
      free (Some e) k is low =
          let live : IsSome (entry_at c (suc k)) = rw is refl in
          absurd (let h = within (suc k) live in omega (arith, h, low))

  -- a step of a rising walk over the indexes past n gives the first entry past n
  pub step_after : (c : Content T) (n i g : ℕ) (t : T) (w v : Walk) → w.falls ≡ false
      → w.low ≡ n + 1 → Steps (entry_at c) w (Some (i, g)) v
      → option_map (λ e. e.1) (entry_at c i) ≡ Some t
      → entries_after c n ≡ (i, (g, t)) ∷ entries_after c i
  step_after c n i g t w v rises low step value =
      let s = step_is (entry_at c) w v rises i g step in
      let at = both (entry_at c i) s.live value in
      let up : n < i = omega (arith, s.up, low) in
      by_index i at up (λ j less below. s.between j (omega (arith, low, less)) below)
    where
      both : (o : Option (ℕ × T)) → option_map (λ e. e.0) o ≡ Some g
          → option_map (λ e. e.1) o ≡ Some t → o ≡ Some (g, t)
      both None live value = absurd (true≢false (ap is_some (sym live)))
      both (Some (h, u)) live value =
          let first : h ≡ g = cc in
          let second : u ≡ t = cc in
          rw (first, second) refl

      by_index : (i : ℕ) → entry_at c i ≡ Some (g, t) → n < i
          → ((j : ℕ) → n < j → j < i → entry_at c j ≡ None)
          → entries_after c n ≡ (i, (g, t)) ∷ entries_after c i
      by_index zero at up none = absurd (omega (arith, up))
      by_index (suc k) at up none =
          listed_first n (suc k) 1 k c.slots (g, t) (omega arith) up
          (λ j low less. none (suc j) (omega (arith, low)) (omega (arith, less))) at

  -- its end tells that there is none
  pub end_after : (c : Content T) (n : ℕ) (w v : Walk) → w.falls ≡ false → w.low ≡ n + 1
      → ((j : ℕ) → IsSome (entry_at c j) → j ≤ w.high) → Steps (entry_at c) w None v
      → entries_after c n ≡ []
  end_after c n w v rises low reaches step =
      none_after c n (λ j live. (let h = end_all (entry_at c) w v rises reaches step j live in
      omega (arith, h, low)))

  -- the indexes past 0 are all
  pub all_after : (c : Content T) → entries_after c 0 ≡ live_entries c
  all_after c = all_listed 0 c.slots
    where
      all_listed : (m : ℕ) (xs : List (Option (ℕ × T)))
          → past 0 (listed_from (m + 1) xs) ≡ listed_from (m + 1) xs
      all_listed m [] = refl
      all_listed m (None ∷ xs) = all_listed (m + 1) xs
      all_listed m (Some e ∷ xs) =
          rw (lt-ltb 0 (m + 1) (omega arith)) (ap (λ l. (m + 1, e) ∷ l) (all_listed (m + 1) xs))
