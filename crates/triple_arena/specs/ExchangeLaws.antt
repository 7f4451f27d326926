-- What an exchange of two values changes and keeps.
use Rattle.std.proofs.Common.{◌≡◌, ◌≢◌, ℕ, length, Option, Some, None, IsSome, true≢false, inl, inr}
use Rattle.std.proofs.Common.{refl, sym, ap, ◌∙◌}
use Rattle.std.proofs.lemmas.Bool.Decides.{eqb_tells}
use Rattle.triple_arena.specs.Entries.{with_values_exchanged}
use Rattle.triple_arena.specs.Content.{Content, entry_at, live_count, with_value, with_value_from}
use Rattle.triple_arena.specs.Content.{with_exchange, IsWellFormed}
use Rattle.triple_arena.specs.ContentLaws.{entry-with_value, live-with_value, slots-with_value}
use Rattle.triple_arena.specs.ContentLaws.{counter-with_value, free-with_value, room-with_value}
use Rattle.triple_arena.specs.ContentLaws.{formed-with_value}

module _ {T : Type 0} where
  -- an exchange is a write at each index
  pub exchange-is : (c : Content T) (i j : ℕ) (x y : ℕ × T) → entry_at c i ≡ Some x
      → entry_at c j ≡ Some y
      → with_exchange c i j ≡ with_value (with_value c i y.1) j x.1
  exchange-is c i j x y at_i at_j =
      ap (λ o. with_value_from (with_value_from c i o) j (entry_at c i)) at_j ∙ ap
      (λ o. with_value_from (with_value c i y.1) j o) at_i

  -- the values at two indexes change places
  pub entry-with_exchange : (c : Content T) (i j : ℕ) → IsSome (entry_at c i)
      → IsSome (entry_at c j) → i ≢ j → (k : ℕ)
      → entry_at (with_exchange c i j) k ≡ with_values_exchanged (entry_at c) i j k
  entry-with_exchange c i j first second two k
      = by_entries (entry_at c i) (entry_at c j) refl refl first second
    where
      entries : (x y : ℕ × T) → entry_at c i ≡ Some x → entry_at c j ≡ Some y → (k : ℕ)
          → entry_at (with_value (with_value c i y.1) j x.1) k
          ≡ with_values_exchanged (entry_at c) i j k
      entries x y at_i at_j k =
          let last = entry-with_value (with_value c i y.1) j x.1 k in
          let first = entry-with_value c i y.1 k in
          let here = entry-with_value c i y.1 j in
          elim (eqb_tells j i) [
            | inl same ↦ absurd (two (sym same.1))
            | inr differs ↦
                let stays : entry_at (with_value c i y.1) j ≡ Some y = here ∙ rw differs.0 at_j in
                elim (eqb_tells k j) [
                  | inl same ↦
                      elim (eqb_tells k i) [
                        | inl again ↦ absurd (two (sym again.1 ∙ same.1))
                        | inr other ↦ last ∙ rw (same.0, other.0, stays, at_i, at_j) refl
                      ]
                  | inr other ↦
                      elim (eqb_tells k i) [
                        | inl again ↦ last ∙ rw other.0 (first ∙ rw (again.0, at_i, at_j) refl)
                        | inr away ↦ last ∙ rw other.0 (first ∙ rw away.0 refl)
                      ]
                ]
          ]

      by_entries : (o p : Option (ℕ × T)) → entry_at c i ≡ o → entry_at c j ≡ p
          → IsSome o → IsSome p
          → entry_at (with_exchange c i j) k ≡ with_values_exchanged (entry_at c) i j k
      by_entries None p at_i at_j some other = absurd (true≢false (sym some))
      by_entries (Some x) None at_i at_j some other = absurd (true≢false (sym other))
      by_entries (Some x) (Some y) at_i at_j some other
          = ap (λ d. entry_at d k) (exchange-is c i j x y at_i at_j) ∙ entries x y at_i at_j k

  -- what each write keeps is kept by both
  kept_by_both : {X : Type 0} (field : Content T → X)
      → ((c : Content T) (i : ℕ) (t : T) → field (with_value c i t) ≡ field c)
      → (c : Content T) (i j : ℕ) → field (with_exchange c i j) ≡ field c
  kept_by_both field keeps c i j = from (with_value_from c i (entry_at c j)) j
      (entry_at c i) ∙ from c i (entry_at c j)
    where
      from : (d : Content T) (n : ℕ) (o : Option (ℕ × T)) → field (with_value_from d n o) ≡ field d
      from d n None = refl
      from d n (Some x) = keeps d n x.1

  pub live-with_exchange : (c : Content T) (i j : ℕ)
      → live_count (with_exchange c i j) ≡ live_count c
  live-with_exchange = kept_by_both live_count live-with_value

  pub slots-with_exchange : (c : Content T) (i j : ℕ)
      → length (with_exchange c i j).slots ≡ length c.slots
  slots-with_exchange = kept_by_both (λ c. length c.slots) slots-with_value

  pub counter-with_exchange : (c : Content T) (i j : ℕ) → (with_exchange c i j).counter ≡ c.counter
  counter-with_exchange = kept_by_both (λ c. c.counter) counter-with_value

  pub free-with_exchange : (c : Content T) (i j : ℕ) → (with_exchange c i j).free ≡ c.free
  free-with_exchange = kept_by_both (λ c. c.free) free-with_value

  pub room-with_exchange : (c : Content T) (i j : ℕ) → (with_exchange c i j).room ≡ c.room
  room-with_exchange = kept_by_both (λ c. c.room) room-with_value

  pub formed-with_exchange : (c : Content T) (i j : ℕ) → IsWellFormed c
      → IsWellFormed (with_exchange c i j)
  formed-with_exchange c i j formed = from (with_value_from c i (entry_at c j)) j (entry_at c i)
      (from c i (entry_at c j) formed)
    where
      from : (d : Content T) (n : ℕ) (o : Option (ℕ × T)) → IsWellFormed d
          → IsWellFormed (with_value_from d n o)
      from d n None well = well
      from d n (Some x) well = formed-with_value d n x.1 well

-- what an exchange changes and keeps
pub ruleset exchanges = (
  formed-with_exchange,
  entry-with_exchange,
  live-with_exchange,
  slots-with_exchange,
  counter-with_exchange,
  free-with_exchange,
  room-with_exchange,
)
