-- What a removal at the first live index does to the entries that are left, and to the removals
-- that are still to come, in any arena.
use Rattle.std.proofs.Common.{◌≡◌, ◌≢◌, ℕ, ◌+◌, ◌<◌, ◌≤◌, List, [], ◌∷◌, map}
use Rattle.std.proofs.Common.{Bool, false, true≢false, Option, Some, None, IsSome, is_some, inl}
use Rattle.std.proofs.Common.{inr, refl, sym, ap, subst, ◌∙◌, arith}
use Rattle.std.proofs.lemmas.Bool.{eq-eqb, ne_eqb, cases_order}
use Rattle.std.proofs.lemmas.Bool.Decides.{eqb_tells}
use Rattle.std.specs.List.Sorted.{IsStrictlyIncreasing}
use Rattle.std.specs.Option.{option_map}
use Rattle.triple_arena_ptr.specs.Generation.{next_generation}
use Rattle.triple_arena.specs.Compression.{index_of}
use Rattle.triple_arena.specs.Drains.{removals, DrainKeeps, DrainKeepsAlong, IsAllAhead}
use Rattle.triple_arena.specs.Entries.{counter_wraps, look_up, value_if, without}
use Rattle.triple_arena.specs.Walk.{Walk, IsAhead, ComesBefore, IsFirstLive, past}
use Rattle.triple_arena.specs.declared.drain.Drain.{Drain}
use Rattle.triple_arena.specs.RiseLaws.{RiseFrom, first_stands, look_up_other, by_look_up}
use Rattle.triple_arena.specs.RiseLaws.{rise_above}

-- a walk that rises goes on behind what it passed
rising : (w : Walk) (i j : ℕ) → w.falls ≡ false → i + 1 ≤ j → j ≤ w.high
    → ((past w i).falls ≡ false) × IsAhead (past w i) j
rising w i j is low high = rw is (refl, (low, high))

module _ {T : Type 0} where
  pub removals_none : (last counter : Option ℕ) {entries : List (ℕ × (ℕ × T))} → entries ≡ []
      → removals last counter entries ≡ []
  removals_none last counter none = rw none refl

  none_some : {o : Option (ℕ × T)} → o ≡ None → IsSome o → ⊥
  none_some none some = true≢false (sym some ∙ ap is_some none)

  or_none : (o : Option (ℕ × T)) → (IsSome o → o ≡ None) → o ≡ None
  or_none None none = refl
  or_none (Some e) none = none refl

  -- where no index is live no entry is listed
  pub none_listed : (entries : ℕ → Option (ℕ × T)) (l : List (ℕ × (ℕ × T)))
      → ((j : ℕ) → entries j ≡ look_up l j) → ((j : ℕ) → entries j ≡ None) → l ≡ []
  none_listed entries [] listed none = refl
  none_listed entries (e ∷ l) listed none = absurd (first_stands e l (sym (listed e.0) ∙ none e.0))

  -- where nothing is found ahead no index is live
  pub none_ahead : (entries : ℕ → Option (ℕ × T)) (w : Walk) → IsAllAhead entries w
      → ((j : ℕ) → IsAhead w j → entries j ≡ None) → (j : ℕ) → entries j ≡ None
  none_ahead entries w ahead none j = or_none (entries j) (λ some. none j (ahead j some).1)

  -- where no index is live, each is ahead
  pub all_gone : (entries : ℕ → Option (ℕ × T)) (w : Walk) → ((j : ℕ) → entries j ≡ None)
      → IsAllAhead entries w
  all_gone entries w none j some = absurd (none_some (none j) some)

  none_before : (entries : ℕ → Option (ℕ × T)) (w : Walk) (i g : ℕ) → IsAllAhead entries w
      → IsFirstLive entries w i g → (j : ℕ) → j < i → entries j ≡ None
  none_before entries w i g ahead first j below =
      or_none (entries j) (λ some.
      let is = ahead j some in
      first.first j is.1 (subst (λ b. ComesBefore b j i) (sym is.0) below))

  -- a value that is found under a generation stands there
  entry_of_value : (o : Option (ℕ × T)) (g : ℕ) (t : T) → Some t ≡ value_if g o → o ≡ Some (g, t)
  entry_of_value None g t found = absurd (cc)
  entry_of_value (Some e) g t found =
      elim (eqb_tells e.0 g) [
        | inl same ↦
            let at : value_if g (Some e) ≡ Some e.1 = rw same.0 refl in
            let given : Some t ≡ Some e.1 = found ∙ at in
            let is : t ≡ e.1 = cc in
            ap (λ n. Some (n, e.1)) same.1 ∙ ap (λ x. Some (g, x)) (sym is)
        | inr other ↦ absurd (let none : value_if g (Some e) ≡ None = rw other.0 refl in
            let given : Some t ≡ None = found ∙ none in cc)
      ]

module _ {T : Type 0} (old new : ℕ → Option (ℕ × T)) (i : ℕ)
    (taken : (j : ℕ) → new j ≡ without old i j) where
  gone : new i ≡ None
  gone = taken i ∙ rw (eq-eqb i i refl) refl

  kept : (j : ℕ) → j ≢ i → new j ≡ old j
  kept j differs = taken j ∙ rw (ne_eqb j i differs) refl

  -- the entry at the first live index comes first, and then those that are left without it
  first_taken : (before after : List (ℕ × (ℕ × T))) (e : ℕ × T)
      → IsStrictlyIncreasing (map index_of before) → IsStrictlyIncreasing (map index_of after)
      → ((j : ℕ) → old j ≡ look_up before j) → ((j : ℕ) → new j ≡ look_up after j)
      → ((j : ℕ) → j < i → old j ≡ None) → old i ≡ Some e
      → before ≡ (i, e) ∷ after
  unfolding RiseFrom
  first_taken before after e increase increases was is lower found =
      by_look_up 0 before ((i, e) ∷ after) (rise_above 0 before increase (λ j some. omega arith))
      (omega arith, rise_above (i + 1) after increases above) same
    where
      above : (j : ℕ) → IsSome (look_up after j) → i + 1 ≤ j
      above j some =
          let live : IsSome (new j) = subst IsSome (sym (is j)) some in
          elim (cases_order i j) [
            | inl this ↦ absurd (none_some (ap new (sym this) ∙ gone) live)
            | inr (inl less) ↦ omega (arith, less)
            | inr (inr more) ↦ absurd
                (none_some (kept j (λ z. omega (arith, z, more)) ∙ lower j more) live)
          ]

      same : (j : ℕ) → look_up before j ≡ look_up ((i, e) ∷ after) j
      same j =
          elim (eqb_tells i j) [
            | inl this ↦ sym (was j) ∙ ap old (sym this.1) ∙ found ∙ rw this.0 refl
            | inr other ↦ sym (was j) ∙ sym (kept j (λ z. other.1 (sym z))) ∙ is j
                ∙ sym (look_up_other (i, e) after j other.1)
          ]

  -- after a removal each live index is ahead of what was passed
  still_ahead : (w : Walk) (g : ℕ) → IsAllAhead old w → IsFirstLive old w i g
      → IsAllAhead new (past w i)
  still_ahead w g ahead first j some =
      elim (eqb_tells j i) [
        | inl same ↦ absurd (none_some (ap new same.1 ∙ gone) some)
        | inr other ↦
            let was : IsSome (old j) = subst IsSome (kept j other.1) some in
            let is = ahead j was in
            let low : j < i → ⊥ =
            λ below. none_some (none_before old w i g ahead first j below) was in
            let differs = other.1 in
            rising w i j is.0 (omega (arith, differs, low)) is.1.1
      ]

module _ {S T : Type 0} (entry_of : S → ℕ → Option (ℕ × T)) (listed : S → List (ℕ × (ℕ × T))) where
  -- the entry at the first live index left, and the walk went on
  pub record FirstLeft (old new : S) (entry : ℕ × (ℕ × T)) (after : Walk) : Type 0 where
    pub first : listed old ≡ entry ∷ listed new
    pub ahead : IsAllAhead (entry_of new) after

  pub first_left : ((s : S) (j : ℕ) → entry_of s j ≡ look_up (listed s) j)
      → ((s : S) → IsStrictlyIncreasing (map index_of (listed s)))
      → (old new : S) (before after : Walk) (i g : ℕ) (t : T) → IsAllAhead (entry_of old) before
      → IsFirstLive (entry_of old) before i g × (after ≡ past before i)
      → Some t ≡ value_if g (entry_of old i)
      → ((j : ℕ) → entry_of new j ≡ without (entry_of old) i j)
      → FirstLeft old new (i, (g, t)) after
  first_left entry_listed increase old new before after i g t ahead step value taken =
      record {
        first =
            first_taken (entry_of old) (entry_of new) i taken (listed old) (listed new) (g, t)
            (increase old) (increase new) (entry_listed old)
            (entry_listed new) (none_before (entry_of old) before i g ahead step.0)
            (entry_of_value (entry_of old i) g t value);
        ahead = subst (IsAllAhead (entry_of new)) (sym step.1)
            (still_ahead (entry_of old) (entry_of new) i taken before g ahead step.0);
      }

-- the first removal that is still to come was made
pub removal_made : {T : Type 0} (last counter : Option ℕ) {after : Option ℕ}
    {old new : List (ℕ × (ℕ × T))} {entry : ℕ × (ℕ × T)} {wrapped : Bool}
    → old ≡ entry ∷ new → wrapped ≡ counter_wraps last counter
    → after ≡ option_map (next_generation last) counter
    → removals last counter old ≡ (entry, wrapped) ∷ removals last after new
removal_made last counter first told stepped = rw (first, stepped, told) refl

module _ {P T A Inx Gen Word Alloc Adv : Type 0} (entry_of : A → ℕ → Option (ℕ × T))
    (walk_of : Adv → Walk) (counter_of : A → Option ℕ)
    (listed : A → List (ℕ × (ℕ × T))) (is_removed : A → ℕ → A → Type 0) (left : A → A)
    (last : Option ℕ) (index generation : P → ℕ) where
  -- what a drain keeps at a step it keeps at every later one
  pub keeps_along : (first : Drain P T A Inx Gen Word Alloc Adv)
      → DrainKeepsAlong entry_of walk_of counter_of listed is_removed left last index generation
      first
  keeps_along first [] later run = subst (DrainKeeps left first) run (refl, refl)
  keeps_along first (item ∷ items) later run =
      let step = run.1.1 in
      let rest = keeps_along run.0 items later run.2 in
      (rest.0 ∙ step.0, rest.1 ∙ step.1)
