-- A removal and an insertion after whatever was done with an arena before.
use Rattle.std.proofs.Common.{◌≡◌, ℕ, false, List, [], ◌∷◌, ◌++◌, append-nil, Option, Some, None}
use Rattle.std.proofs.Common.{refl, sym, ap, subst, ◌∙◌, inl, inr}
use Rattle.std.proofs.lemmas.Bool.{eq-eqb}
use Rattle.std.proofs.lemmas.Bool.Decides.{eqb_tells}
use Rattle.std.specs.Option.{option_map}
use Rattle.std.specs.Prelude.{OnSome}
use Rattle.triple_arena_ptr.specs.InvalidationResult.{answer_of}
use Rattle.triple_arena_ptr.specs.declared.invalidation.InvalidationResult.{InvalidationResult}
use Rattle.triple_arena_ptr.specs.declared.invalidation.InvalidationResult.TheVariants.{Success}
use Rattle.triple_arena_ptr.specs.declared.invalidation.InvalidationResult.TheVariants.{GenerationOverflow}
use Rattle.triple_arena_ptr.specs.declared.invalidation.InvalidationResult.TheVariants.{InvalidPtr}
use Rattle.triple_arena_stack.specs.Room.{Room}
use Rattle.triple_arena.specs.Changes.{IsInserted, IsRemoved}
use Rattle.triple_arena.specs.Entries.{with_entry, without, counter_wraps, IsOneOf}
use Rattle.triple_arena.specs.Steps.{insert, remove, AreNew, Finds, Happens, History, IsReached}
use Rattle.triple_arena.specs.Steps.{all_given, reached}
use Rattle.triple_arena.specs.StepsLaws.{last_is_new, reached-append, given-append, happens-append}

-- what holds of an answer holds where the pointer was valid
pub where_valid : {T X : Type 0} (r : InvalidationResult T) → (r ≡ InvalidPtr → ⊥)
    → OnSome (answer_of r) X → X
where_valid (Success t) valid x = x
where_valid (GenerationOverflow t) valid x = x
where_valid InvalidPtr valid x = absurd (valid refl)

-- one entry is taken out, and one is put in
pub put_over : {T : Type 0} (old mid new : ℕ → Option (ℕ × T)) (i j : ℕ) (entry : ℕ × T)
    → ((k : ℕ) → mid k ≡ without old i k)
    → ((k : ℕ) → new k ≡ with_entry mid j entry k) → (k : ℕ)
    → new k ≡ with_entry (without old i) j entry k
put_over old mid new i j entry out put k = put k
    ∙ elim (eqb_tells k j) [ inl is ↦ rw is.0 refl | inr other ↦ rw other.0 (out k) ]

module _ {S T : Type 0} (entry_of : S → ℕ → Option (ℕ × T)) (live_of : S → ℕ)
    (counter_of : S → Option ℕ) (room_of : S → Room)
    (listed : S → List (ℕ × (ℕ × T))) (last : Option ℕ) {old mid new : S} {i j next g : ℕ} {t : T}
    (history : History S T)
    (r : IsReached entry_of live_of counter_of room_of listed last history old)
    (stays : counter_wraps last (counter_of old) ≡ false)
    (removed : IsRemoved entry_of live_of counter_of room_of last i old mid)
    (inserted : IsInserted entry_of live_of counter_of next j g t mid new) where
  abbrev Leads : S → History S T → Type 0
  Leads s h = Happens entry_of live_of counter_of room_of listed last s h

  -- the insertion, and what comes after it
  inserts : (later : History S T) → Leads new later → Leads mid ((insert j g t, new) ∷ later)
  inserts later happens = (
    record {
      index = refl;
      generation = inserted.generation;
      vacant = inserted.vacant;
      entries = inserted.entries;
      live = inserted.live;
      counter = inserted.counter;
    },
    refl,
    happens,
  )

  -- the removal, and what comes after it
  removes : (later : History S T) → Leads mid later
      → Leads r.made (history ++ (remove i, mid) ∷ later)
  removes later happens =
      happens-append entry_of live_of counter_of room_of listed last r.made history
      ((remove i, mid) ∷ later) r.happens
      (subst (λ s. Leads s ((remove i, mid) ∷ later)) (sym r.leads)
      (removed, ap (λ b. b ∷ []) stays, happens))

  -- the removal and what comes after it lead on from where the arena was
  leads_on : (later : History S T) → Leads mid later
      → IsReached entry_of live_of counter_of room_of listed last
      (history ++ (remove i, mid) ∷ later) (reached mid later)
  leads_on later happens = record {
    greatest = r.greatest;
    counts = r.counts;
    made = r.made;
    new = r.new;
    happens = removes later happens;
    leads = reached-append r.made history ((remove i, mid) ∷ later);
  }

  pub never_given : ((h : History S T) (s : S)
      → IsReached entry_of live_of counter_of room_of listed last h s → AreNew (all_given listed h))
      → IsOneOf (all_given listed history) (j, g) → ⊥
  never_given once one =
      let both = (remove i, mid) ∷ (insert j g t, new) ∷ [] in
      let all = once (history ++ both) new
      (leads_on ((insert j g t, new) ∷ []) (inserts [] tt)) in
      last_is_new (all_given listed history) (j, g)
      (subst AreNew (given-append listed history both) all) one

  pub ended : ((before after : History S T) (s : S) (p : ℕ × ℕ)
      → IsReached entry_of live_of counter_of room_of listed last before s → Leads s after
      → IsOneOf (all_given listed before) p → (Finds entry_of s p → ⊥)
      → Finds entry_of (reached s after) p → ⊥)
      → (k : ℕ) → IsOneOf (all_given listed history) (i, k) → (later : History S T)
      → Leads new later
      → Finds entry_of (reached new later) (i, k) → ⊥
  ended stay k one later happens =
      let gone = (remove i, mid) ∷ [] in
      let given : all_given listed (history ++ gone) ≡ all_given listed history =
      given-append listed history gone ∙ append-nil (all_given listed history) in
      let none : entry_of mid i ≡ None = removed.entries i ∙ rw (eq-eqb i i refl) refl in
      stay (history ++ gone) ((insert j g t, new) ∷ later) mid (i, k) (leads_on [] tt)
      (inserts later happens) (subst (λ l. IsOneOf l (i, k)) (sym given) one) (nothing none)
    where
      nothing : entry_of mid i ≡ None → Finds entry_of mid (i, k) → ⊥
      nothing none f = let found : None ≡ Some k = ap (option_map (λ entry. entry.0)) (sym none)
          ∙ f in absurd (cc)
