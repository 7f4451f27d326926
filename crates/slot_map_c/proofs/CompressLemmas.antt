-- What a compression gives: one generation for all, greater than each that was given before.
use Rattle.std.proofs.Common.{◌≡◌, ◌≢◌, ◌∙◌, sym, ap, refl, ℕ, zero, suc, ◌+◌, ◌≤◌, arith}
use Rattle.std.proofs.Common.{List, [], ◌∷◌, map, slice_get, false, inl, inr, Option, Some, None}
use Rattle.std.proofs.Common.{IsSome, IfSome, is_some, true≢false, Bool, true, subst}
use Rattle.std.specs.Option.{option_map}
use Rattle.std.proofs.lemmas.Bool.{ne_eqb}
use Rattle.triple_arena_ptr.specs.Generation.{next_generation}
use Rattle.triple_arena.specs.Changes.{IsCompressed}
use Rattle.triple_arena.specs.Compression.{entry_of_listed, generation_of}
use Rattle.triple_arena.specs.Content.{entry_at, get, live_count, some_counter}
use Rattle.triple_arena.specs.LiveEntries.{live_entries}
use Rattle.triple_arena.specs.Content.{IsWellFormed}
use Rattle.triple_arena.specs.ContentLaws.{entry_seen}
use Rattle.slot_map_c.specs.State.{State, IsPast, IsSound, IsAtEnd, greatest}

-- one generation for all that is listed
one_generation : (g : ℕ) (xs ys : List (ℕ × (ℕ × ℕ))) (k : ℕ) (e : ℕ × (ℕ × ℕ))
    → map generation_of xs ≡ map (λ _. g) ys → slice_get xs k ≡ Some e → generation_of e ≡ g
one_generation g [] ys k e same at = absurd (true≢false (ap is_some (sym at)))
one_generation g (x ∷ xs) [] k e same at = absurd (cc)
one_generation g (x ∷ xs) (y ∷ ys) zero e same at =
    let is : x ≡ e = cc in
    let head : generation_of x ≡ g = cc in
    ap generation_of (sym is) ∙ head
one_generation g (x ∷ xs) (y ∷ ys) (suc k) e same at =
    let rest : map generation_of xs ≡ map (λ _. g) ys = cc in
    one_generation g xs ys k e rest at

module _ (old new : State)
    (compressed : IsCompressed entry_at live_count some_counter (λ c. c.room) (Some greatest)
    live_entries false old.arena new.arena)
    (before_end : old.arena.counter ≢ greatest) where
  stepped : next_generation (Some greatest) old.arena.counter ≡ old.arena.counter + 1
  stepped = rw (ne_eqb old.arena.counter greatest before_end) refl

  pub counter_steps : new.arena.counter ≡ old.arena.counter + 1
  counter_steps = (let is : Some new.arena.counter
      ≡ Some (next_generation (Some greatest) old.arena.counter) = compressed.counter in
      let same : new.arena.counter ≡ next_generation (Some greatest) old.arena.counter = cc in
      same ∙ stepped)

  -- what is live has the new generation
  entry_is : (i : ℕ) (e : ℕ × ℕ) → entry_at new.arena i ≡ Some e → e.0 ≡ old.arena.counter + 1
  entry_is zero e at = absurd (true≢false (ap is_some (sym at)))
  entry_is (suc k) e at =
      let next : k + 1 ≡ suc k = omega arith in
      let entry : entry_at new.arena (suc k)
      ≡ option_map entry_of_listed (slice_get (live_entries new.arena) k)
      = ap (entry_at new.arena) (sym next) ∙ compressed.entries k in
      by_listed (slice_get (live_entries new.arena) k) refl (sym entry ∙ at)
    where
      by_listed : (o : Option (ℕ × (ℕ × ℕ))) → slice_get (live_entries new.arena) k ≡ o
          → option_map entry_of_listed (slice_get (live_entries new.arena) k) ≡ Some e
          → e.0 ≡ old.arena.counter + 1
      by_listed None is found = absurd (let none : None ≡ Some e
          = ap (option_map entry_of_listed) (sym is) ∙ found in cc)
      by_listed (Some x) is found =
          let some : Some (entry_of_listed x) ≡ Some e
          = ap (option_map entry_of_listed) (sym is) ∙ found in
          let same : entry_of_listed x ≡ e = cc in
          ap (λ (y : ℕ × ℕ). y.0) (sym same)
          ∙ one_generation (next_generation (Some greatest) old.arena.counter)
          (live_entries new.arena) (live_entries old.arena) k x compressed.generations is
          ∙ stepped

  pub entries_given : (i : ℕ) → IfSome (entry_at new.arena i) (λ e. e.0 ≤ new.arena.counter)
  entries_given i = by_entry (entry_at new.arena i) refl
    where
      by_entry : (o : Option (ℕ × ℕ)) → entry_at new.arena i ≡ o
          → IfSome (entry_at new.arena i) (λ e. e.0 ≤ new.arena.counter)
      by_entry None is = rw is tt
      by_entry (Some e) is =
          let own : e.0 ≤ new.arena.counter = omega (arith, entry_is i e is, counter_steps) in
          rw is own

  -- what was given before finds nothing from now on
  given_past : (i g : ℕ) → g ≤ old.arena.counter → IsPast new i g
  given_past i g below =
      record {
        gone = by_entry (entry_at new.arena i) refl;
        past = λ _. omega (arith, below, counter_steps);
      }
    where
      by_entry : (o : Option (ℕ × ℕ)) → entry_at new.arena i ≡ o → get new.arena i g ≡ None
      by_entry None is = rw is refl
      by_entry (Some e) is =
          let other : e.0 ≢ g = λ same. omega (arith, entry_is i e is, same, below) in
          rw (is, ne_eqb e.0 g other) refl

-- a map that is not at its end is not spent, and its counter can step
unspent : (s : State) → (IsAtEnd s → ⊥) → s.is_spent ≡ false
unspent s before = by_flag s.is_spent refl
  where
    by_flag : (b : Bool) → s.is_spent ≡ b → s.is_spent ≡ false
    by_flag true is = absurd (before (inl is))
    by_flag false is = is

module _ (old new : State) (sound : IsSound old)
    (compressed : IsCompressed entry_at live_count some_counter (λ c. c.room) (Some greatest)
    live_entries false old.arena new.arena)
    (before : IsAtEnd old → ⊥) where
  steps : old.arena.counter ≢ greatest
  steps = λ same. before (inr same)

  pub compressed_sound : IsWellFormed new.arena → IsSound new
  compressed_sound formed =
      record {
        formed = formed;
        limit = ap (λ r. r.limit) compressed.room ∙ sound.limit;
        given = λ _ i. entries_given old new compressed steps i;
      }

  -- each handle that found an entry has ended
  pub compressed_ends : (i g : ℕ) → IsSome (get old.arena i g) → IsPast new i g
  compressed_ends i g found = by_value (get old.arena i g) refl
    where
      by_value : (o : Option ℕ) → get old.arena i g ≡ o → IsPast new i g
      by_value None is = absurd (true≢false (sym found ∙ ap is_some is))
      by_value (Some t) is =
          let at = entry_seen g (entry_at old.arena i) t is in
          let own : IfSome (Some (g, t)) (λ (e : ℕ × ℕ). e.0 ≤ old.arena.counter)
          = subst (λ o. IfSome o (λ (e : ℕ × ℕ). e.0 ≤ old.arena.counter)) at
          (sound.given (unspent old before) i) in
          given_past old new compressed steps i g own

  -- and one that had ended stays so
  pub compressed_ended : (i g : ℕ) → IsPast old i g → IsPast new i g
  compressed_ended i g past =
      let below = past.past (unspent old before) in
      given_past old new compressed steps i g (omega (arith, below))
