-- What copies of links are: their values, their interlinks, and what is left where none was made.
use Rattle.std.specs.Prelude.{slice_get, Result, Ok, Err, OnOk, IsErrOf}
use Rattle.std.proofs.Common.{◌≡◌, ℕ, Bool, List, [], ◌∷◌, map, Option, Some, None, eqb, true}
use Rattle.std.proofs.Common.{false, option_map, refl, sym, ap, subst, ◌∙◌, inl, inr}
use Rattle.std.proofs.lemmas.Bool.Decides.{eqb_tells}
use Rattle.std.proofs.lemmas.Option.{slice_get-map}
use Rattle.triple_arena_ptr.specs.declared.errors.ReallocationError.{ReallocationError}
use Rattle.triple_arena_ptr.specs.declared.errors.ReallocationError.TheVariants.{BeyondMaxCapacity}
use Rattle.triple_arena_ptr.specs.declared.errors.ReallocationError.TheVariants.{AllocError}
use Rattle.triple_arena_stack.specs.Room.{Room}
use Rattle.triple_arena.specs.Changes.{IsNew}
use Rattle.triple_arena.specs.Content.{Content, entry_at, live_count, some_counter, IsWellFormed}
use Rattle.triple_arena.specs.Copy.{copied, IsUnmadeCopy}
use Rattle.triple_arena.specs.CopyLaws.{entry-copied, live_entries-rise}
use Rattle.triple_arena.specs.Entries.{look_up}
use Rattle.triple_arena.specs.LiveEntries.{live_entries, entry-listed}
use Rattle.triple_arena_chain.specs.LinkShape.{IndexLink}
use Rattle.linked_lists.specs.LinkedLists.{Ends, IsAgreed}
use Rattle.linked_lists.specs.LinkedListLaws.{IsAgreed-same}
use Rattle.triple_arena_chain.specs.LinkCopies.{IsLinkedCopy, listed_ends}
use Rattle.triple_arena_chain.specs.Links.{valued, values_in, entry_ends, ends_in, IsChained}
use Rattle.triple_arena_chain.specs.Listed.{listed_value}
use Rattle.triple_arena_chain.specs.Values.{room_in}

module _ {T : Type 0} where
  -- the value of a link is listed where the link is
  pub listed_as_value : (entries : List (ℕ × (ℕ × IndexLink T))) (k : ℕ)
      (e : ℕ × (ℕ × IndexLink T)) → slice_get entries k ≡ Some e
      → slice_get (map listed_value entries) k ≡ Some (listed_value e)
  listed_as_value entries k e at = slice_get-map listed_value entries k
      ∙ ap (option_map listed_value) at

  -- no link, no value
  pub values_new : (first : Option ℕ) (own : Room) (new : Content (IndexLink T))
      → IsNew entry_at live_count some_counter room_in first own new
      → IsNew values_in live_count some_counter room_in first own new
  values_new first own new fresh =
      record {
        entries = λ j. ap (option_map valued) (fresh.entries j);
        live = fresh.live;
        counter = fresh.counter;
        room = fresh.room;
      }

  -- a copy that was not made
  pub values_unmade : (takes_memory : Bool) (last_generation : Option ℕ) (last : ℕ)
      (emptied : Content (IndexLink T) → Content (IndexLink T))
      (refused refused' : Type 0) (old new : Content (IndexLink T))
      → IsUnmadeCopy entry_at live_count some_counter room_in takes_memory last_generation last
      emptied refused old new → (refused → refused')
      → IsUnmadeCopy values_in live_count some_counter room_in takes_memory last_generation last
      emptied refused' old new
  values_unmade takes_memory last_generation last emptied refused refused' old new unmade gives =
      elim unmade [
        | inl memory ↦ inl memory
        | inr left ↦
            inr (gives left.0, values_new _ _ new left.1, left.2)
      ]

module _ {T : Type 0} where
  -- no link is live, so the interlinks agree
  chained-none : (c : Content (IndexLink T)) → IsWellFormed c → ((j : ℕ) → entry_at c j ≡ None)
      → IsChained c
  chained-none c formed none =
      record {
        formed = formed;
        agreed = record {
          forward = λ p q next. absurd
              (let at : ends_in c p ≡ None = ap (option_map entry_ends) (none p) in
              cc);
          backward = λ p q prev. absurd
              (let at : ends_in c q ≡ None = ap (option_map entry_ends) (none q) in
              cc);
        };
      }

  -- a clone has the interlinks
  pub ends-cloned : (source c d : Content (IndexLink T)) (counter : Option ℕ)
      → d ≡ copied c counter (live_entries source) → (k : ℕ)
      → ends_in d k ≡ ends_in source k
  ends-cloned source c d counter is k =
      ap (λ e. ends_in e k) is
      ∙ ap (option_map entry_ends)
      (entry-copied c counter (live_entries source) (live_entries-rise source) k
      ∙ sym (entry-listed source k))

module _ {T : Type 0} where
  -- whatever a copy answered, the interlinks agree
  pub chained_after : (source : ℕ → Option Ends) (old new : Content (IndexLink T))
      (emptied : Content (IndexLink T) → Content (IndexLink T)) (takes_memory : Bool)
      (last_generation : Option ℕ) (last : ℕ) (refused : Type 0)
      (r : Result (Unit {0}) ReallocationError) → IsAgreed source
      → IsChained old → IsWellFormed new → OnOk r ((k : ℕ) → ends_in new k ≡ source k)
      → (IsErrOf r BeyondMaxCapacity → new ≡ old)
      → (IsErrOf r AllocError
      → IsUnmadeCopy entry_at live_count some_counter room_in takes_memory last_generation last
      emptied refused old new)
      → IsChained new
  chained_after source old new emptied takes_memory last_generation last refused (Ok _) agreed
      before formed same kept unmade =
      record { formed = formed; agreed = IsAgreed-same source (ends_in new) same agreed }
  chained_after source old new emptied takes_memory last_generation last refused
      (Err BeyondMaxCapacity) agreed before formed same kept unmade =
      subst IsChained (sym (kept refl)) before
  chained_after source old new emptied takes_memory last_generation last refused (Err AllocError)
      agreed before formed same kept unmade =
      elim (unmade refl) [
        | inl memory ↦ subst IsChained (sym memory.2) before
        | inr left ↦ chained-none new formed left.1.entries
      ]

module _ {L T : Type 0} (neighbors : L → Option ℕ × Option ℕ) where
  -- links that are listed with the interlinks of others have them at each index
  pub ends_linked : (links : List (ℕ × (ℕ × L))) (new : Content (IndexLink T))
      → IsLinkedCopy neighbors links (live_entries new) → (k : ℕ)
      → ends_in new k ≡ listed_ends neighbors links k
  ends_linked links new same k =
      ap (option_map entry_ends) (entry-listed new k)
      ∙ by_lists links (live_entries new) same
    where
      by_lists : (xs : List (ℕ × (ℕ × L))) (ys : List (ℕ × (ℕ × IndexLink T)))
          → IsLinkedCopy neighbors xs ys
          → option_map entry_ends (look_up ys k) ≡ listed_ends neighbors xs k
      by_lists [] [] zip = refl
      by_lists [] (y ∷ ys) zip = absurd zip
      by_lists (x ∷ xs) [] zip = absurd zip
      by_lists (x ∷ xs) (y ∷ ys) zip =
          elim (eqb_tells x.0 k) [
            | inl here ↦
                let there : eqb y.0 k ≡ true = ap (λ n. eqb n k) zip.0.0 ∙ here.0 in
                rw (here.0, there) (ap
                (λ (o : Option ℕ × Option ℕ). (let e : Option Ends =
                Some (o.0, o.1) in e)) zip.0.1)
            | inr other ↦
                let elsewhere : eqb y.0 k ≡ false = ap (λ n. eqb n k) zip.0.0 ∙ other.0 in
                rw (other.0, elsewhere) (by_lists xs ys zip.1)
          ]
