-- What a write of an interlink, and of a value in a link, changes and keeps.
use Rattle.std.proofs.Common.{◌≡◌, ◌==◌, if◌then◌else◌, ℕ, true, Option, Some, None, IsSome, IfSome}
use Rattle.std.proofs.Common.{is_some, refl, sym, ap, subst, ◌∙◌, inl, inr}
use Rattle.std.specs.Option.{option_map}
use Rattle.std.proofs.lemmas.Bool.Decides.{eqb_tells}
use Rattle.triple_arena.specs.Entries.{with_value_at}
use Rattle.triple_arena.specs.Content.{Content, entry_at, live_count, some_counter, IsWellFormed}
use Rattle.triple_arena.specs.ContentLaws.{formed-with_value, entry-with_value, live-with_value}
use Rattle.triple_arena.specs.ContentLaws.{slots-with_value, counter-with_value, free-with_value}
use Rattle.triple_arena.specs.ContentLaws.{room-with_value}
use Rattle.triple_arena_chain.specs.LinkShape.{IndexLink}
use Rattle.linked_lists.specs.LinkedLists.{Ends, with_next_if, with_prev_if, renext, reprev}
use Rattle.linked_lists.specs.LinkedListLaws.{IsAgreed-same}
use Rattle.triple_arena_chain.specs.Links.{valued, values_in, with_link, with_link_of}
use Rattle.triple_arena_chain.specs.Links.{with_value_in, IsKept, IsChained, link_ends, entry_ends}
use Rattle.triple_arena_chain.specs.Links.{ends_in, with_next_of, with_prev_of}

module _ {T : Type 0} where
  -- what two changes in turn keep
  pub kept_on : (a b c : Content (IndexLink T)) → IsKept a b → IsKept b c → IsKept a c
  kept_on a b c first second =
      record {
        live = second.live ∙ first.live;
        slots = second.slots ∙ first.slots;
        free = second.free ∙ first.free;
        counter = second.counter ∙ first.counter;
        room = second.room ∙ first.room;
      }

  abbrev changed : (IndexLink T → IndexLink T) → ℕ × IndexLink T → ℕ × IndexLink T
  changed f entry = (entry.0, f entry.1)

  abbrev changed_ends : (IndexLink T → IndexLink T) → ℕ × IndexLink T → Ends
  changed_ends f entry = link_ends (f entry.1)

  -- a write of a link changes the entry at its index alone
  pub entry-with_link : (c : Content (IndexLink T)) (i : ℕ)
      (f : IndexLink T → IndexLink T) (k : ℕ)
      → entry_at (with_link c i f) k
      ≡ (if k == i then option_map (changed f) (entry_at c i) else entry_at c k)
  entry-with_link c i f k = by_entry (entry_at c i) refl
    where
      by_entry : (o : Option (ℕ × IndexLink T)) → entry_at c i ≡ o
          → entry_at (with_link c i f) k
          ≡ (if k == i then option_map (changed f) (entry_at c i) else entry_at c k)
      by_entry None is =
          ap (λ d. entry_at d k) (ap (with_link_of c i f) is)
          ∙ elim (eqb_tells k i) [
            | inl same ↦ rw (same.0, is) (ap (entry_at c) same.1 ∙ is)
            | inr other ↦ rw other.0 refl
          ]
      by_entry (Some e) is =
          ap (λ d. entry_at d k) (ap (with_link_of c i f) is)
          ∙ entry-with_value c i (f e.1) k
          ∙ elim (eqb_tells k i) [
            | inl same ↦ rw (same.0, is) refl
            | inr other ↦ rw other.0 refl
          ]

  pub kept-with_link : (c : Content (IndexLink T)) (i : ℕ) (f : IndexLink T → IndexLink T)
      → IsKept c (with_link c i f)
  kept-with_link c i f = by_entry (entry_at c i) refl
    where
      by_entry : (o : Option (ℕ × IndexLink T)) → entry_at c i ≡ o → IsKept c (with_link c i f)
      by_entry None is =
          subst (IsKept c) (sym (ap (with_link_of c i f) is))
          (record { live = refl; slots = refl; free = refl; counter = refl; room = refl })
      by_entry (Some e) is =
          subst (IsKept c) (sym (ap (with_link_of c i f) is))
          (record {
            live = live-with_value c i (f e.1);
            slots = slots-with_value c i (f e.1);
            free = free-with_value c i (f e.1);
            counter = counter-with_value c i (f e.1);
            room = room-with_value c i (f e.1);
          })

  pub formed-with_link : (c : Content (IndexLink T)) (i : ℕ) (f : IndexLink T → IndexLink T)
      → IsWellFormed c → IsWellFormed (with_link c i f)
  formed-with_link c i f formed = by_entry (entry_at c i) refl
    where
      by_entry : (o : Option (ℕ × IndexLink T)) → entry_at c i ≡ o
          → IsWellFormed (with_link c i f)
      by_entry None is = subst IsWellFormed (sym (ap (with_link_of c i f) is)) formed
      by_entry (Some e) is = subst IsWellFormed (sym (ap (with_link_of c i f) is))
          (formed-with_value c i (f e.1) formed)

  -- a write that leaves the values of links leaves the values
  values-with_link : (c : Content (IndexLink T)) (i : ℕ) (f : IndexLink T → IndexLink T)
      → ((l : IndexLink T) → (f l).t ≡ l.t)
      → (k : ℕ) → values_in (with_link c i f) k ≡ values_in c k
  values-with_link c i f same k =
      ap (option_map valued) (entry-with_link c i f k)
      ∙ elim (eqb_tells k i) [
        | inl at ↦ rw at.0 (by_entry (entry_at c i) ∙ ap (values_in c) (sym at.1))
        | inr other ↦ rw other.0 refl
      ]
    where
      by_entry : (o : Option (ℕ × IndexLink T))
          → option_map valued (option_map (changed f) o) ≡ option_map valued o
      by_entry None = refl
      by_entry (Some e) = ap (λ t. Some (e.0, t)) (same e.1)

module _ {T : Type 0} where
  ends-with_link : (c : Content (IndexLink T)) (i : ℕ) (f : IndexLink T → IndexLink T) (k : ℕ)
      → ends_in (with_link c i f) k
      ≡ (if k == i then option_map (changed_ends f) (entry_at c i) else ends_in c k)
  ends-with_link c i f k =
      ap (option_map entry_ends) (entry-with_link c i f k)
      ∙ elim (eqb_tells k i) [
        | inl at ↦ rw at.0 (by_entry (entry_at c i))
        | inr other ↦ rw other.0 refl
      ]
    where
      by_entry : (o : Option (ℕ × IndexLink T))
          → option_map entry_ends (option_map (changed f) o)
          ≡ option_map (changed_ends f) o
      by_entry None = refl
      by_entry (Some e) = refl

  -- another next of a link
  pub ends-with_next_of : (c : Content (IndexLink T)) (at next : Option ℕ) (k : ℕ)
      → ends_in (with_next_of c at next) k
      ≡ with_next_if (ends_in c) at next k
  ends-with_next_of c None next k = refl
  ends-with_next_of c (Some i) next k =
      ends-with_link c i (λ link. record link { next = next }) k
      ∙ elim (eqb_tells k i) [
        | inl at ↦ rw at.0 (by_entry (entry_at c i) ∙ ap
            (λ n. renext next (ends_in c n)) (sym at.1))
        | inr other ↦ rw other.0 refl
      ]
    where
      by_entry : (o : Option (ℕ × IndexLink T))
          → option_map (changed_ends (λ link. record link { next = next })) o
          ≡ renext next (option_map entry_ends o)
      by_entry None = refl
      by_entry (Some e) = refl

  -- another previous one of a link
  pub ends-with_prev_of : (c : Content (IndexLink T)) (at prev : Option ℕ) (k : ℕ)
      → ends_in (with_prev_of c at prev) k
      ≡ with_prev_if (ends_in c) at prev k
  ends-with_prev_of c None prev k = refl
  ends-with_prev_of c (Some i) prev k =
      ends-with_link c i (λ link. record link { prev = prev }) k
      ∙ elim (eqb_tells k i) [
        | inl at ↦ rw at.0 (by_entry (entry_at c i) ∙ ap
            (λ n. reprev prev (ends_in c n)) (sym at.1))
        | inr other ↦ rw other.0 refl
      ]
    where
      by_entry : (o : Option (ℕ × IndexLink T))
          → option_map (changed_ends (λ link. record link { prev = prev })) o
          ≡ reprev prev (option_map entry_ends o)
      by_entry None = refl
      by_entry (Some e) = refl

  -- what was live is live
  pub live-with_link : (c : Content (IndexLink T)) (i : ℕ) (f : IndexLink T → IndexLink T)
      (k : ℕ) → IsSome (entry_at c k)
      → IsSome (entry_at (with_link c i f) k)
  live-with_link c i f k some =
      ap is_some (entry-with_link c i f k)
      ∙ elim (eqb_tells k i) [
        | inl at ↦ rw at.0 (by_entry (entry_at c i) (subst (λ n. IsSome (entry_at c n)) at.1 some))
        | inr other ↦ rw other.0 some
      ]
    where
      by_entry : (o : Option (ℕ × IndexLink T)) → IsSome o
          → is_some (option_map (changed f) o) ≡ true
      by_entry None h = h
      by_entry (Some e) h = refl

  pub live-with_next_of : (c : Content (IndexLink T)) (at next : Option ℕ) (k : ℕ)
      → IsSome (entry_at c k)
      → IsSome (entry_at (with_next_of c at next) k)
  live-with_next_of c None next k some = some
  live-with_next_of c (Some i) next k some
      = live-with_link c i (λ link. record link { next = next }) k some

  pub neighbor-with_next_of : (c : Content (IndexLink T)) (at next other : Option ℕ)
      → IfSome other (λ i. IsSome (entry_at c i))
      → IfSome other (λ i. IsSome (entry_at (with_next_of c at next) i))
  neighbor-with_next_of c at next None live = tt
  neighbor-with_next_of c at next (Some j) live = live-with_next_of c at next j live

  kept-same : (c : Content (IndexLink T)) → IsKept c c
  kept-same c = record { live = refl; slots = refl; free = refl; counter = refl; room = refl }

  pub values-with_next_of : (c : Content (IndexLink T)) (at next : Option ℕ) (k : ℕ)
      → values_in (with_next_of c at next) k ≡ values_in c k
  values-with_next_of c None next k = refl
  values-with_next_of c (Some i) next k
      = values-with_link c i (λ link. record link { next = next }) (λ l. refl) k

  pub values-with_prev_of : (c : Content (IndexLink T)) (at prev : Option ℕ) (k : ℕ)
      → values_in (with_prev_of c at prev) k ≡ values_in c k
  values-with_prev_of c None prev k = refl
  values-with_prev_of c (Some i) prev k
      = values-with_link c i (λ link. record link { prev = prev }) (λ l. refl) k

  pub kept-with_next_of : (c : Content (IndexLink T)) (at next : Option ℕ)
      → IsKept c (with_next_of c at next)
  kept-with_next_of c None next = kept-same c
  kept-with_next_of c (Some i) next
      = kept-with_link c i (λ link. record link { next = next })

  pub kept-with_prev_of : (c : Content (IndexLink T)) (at prev : Option ℕ)
      → IsKept c (with_prev_of c at prev)
  kept-with_prev_of c None prev = kept-same c
  kept-with_prev_of c (Some i) prev
      = kept-with_link c i (λ link. record link { prev = prev })

  pub formed-with_next_of : (c : Content (IndexLink T)) (at next : Option ℕ) → IsWellFormed c
      → IsWellFormed (with_next_of c at next)
  formed-with_next_of c None next formed = formed
  formed-with_next_of c (Some i) next formed
      = formed-with_link c i (λ link. record link { next = next }) formed

  pub formed-with_prev_of : (c : Content (IndexLink T)) (at prev : Option ℕ) → IsWellFormed c
      → IsWellFormed (with_prev_of c at prev)
  formed-with_prev_of c None prev formed = formed
  formed-with_prev_of c (Some i) prev formed
      = formed-with_link c i (λ link. record link { prev = prev }) formed

  -- another value in a link leaves the interlinks
  pub ends-with_value_in : (c : Content (IndexLink T)) (i : ℕ) (t : T) (k : ℕ)
      → ends_in (with_value_in c i t) k ≡ ends_in c k
  ends-with_value_in c i t k =
      ends-with_link c i (λ link. record link { t = t }) k
      ∙ elim (eqb_tells k i) [
        | inl at ↦ rw at.0 (ap (ends_in c) (sym at.1))
        | inr other ↦ rw other.0 refl
      ]

module _ {T : Type 0} where
  -- and is what it was written
  pub values-with_value_in : (c : Content (IndexLink T)) (i : ℕ) (t : T) (k : ℕ)
      → values_in (with_value_in c i t) k ≡ with_value_at (values_in c) i t k
  values-with_value_in c i t k =
      ap (option_map valued) (entry-with_link c i (λ link. record link { t = t }) k)
      ∙ elim (eqb_tells k i) [
        | inl at ↦ rw at.0 (by_entry (entry_at c i))
        | inr other ↦ rw other.0 refl
      ]
    where
      by_entry : (o : Option (ℕ × IndexLink T))
          → option_map valued (option_map (changed (λ link. record link { t = t })) o)
          ≡ option_map (λ (e : ℕ × T). (let v : ℕ × T = (e.0, t) in v)) (option_map valued o)
      by_entry None = refl
      by_entry (Some e) = refl

  pub kept-with_value_in : (c : Content (IndexLink T)) (i : ℕ) (t : T)
      → IsKept c (with_value_in c i t)
  kept-with_value_in c i t = kept-with_link c i (λ link. record link { t = t })

  pub live-with_value_in : (c : Content (IndexLink T)) (i : ℕ) (t : T)
      → live_count (with_value_in c i t) ≡ live_count c
  live-with_value_in c i t = (kept-with_value_in c i t).live

  pub counter-with_value_in : (c : Content (IndexLink T)) (i : ℕ) (t : T)
      → some_counter (with_value_in c i t) ≡ some_counter c
  counter-with_value_in c i t = ap Some (kept-with_value_in c i t).counter

  pub room-with_value_in : (c : Content (IndexLink T)) (i : ℕ) (t : T)
      → (with_value_in c i t).room ≡ c.room
  room-with_value_in c i t = (kept-with_value_in c i t).room

  pub formed-with_value_in : (c : Content (IndexLink T)) (i : ℕ) (t : T) → IsWellFormed c
      → IsWellFormed (with_value_in c i t)
  formed-with_value_in c i t formed = formed-with_link c i (λ link. record link { t = t }) formed

module _ {T : Type 0} where
  -- the interlinks agree as before
  pub chained-with_value_in : (c : Content (IndexLink T)) (i : ℕ) (w : T) → IsChained c
      → IsChained (with_value_in c i w)
  chained-with_value_in c i w chained =
      record {
        formed = formed-with_value_in c i w chained.formed;
        agreed = IsAgreed-same (ends_in c) (ends_in (with_value_in c i w))
            (ends-with_value_in c i w) chained.agreed;
      }

-- what a write of a value changes and keeps
pub ruleset link_writes
    = (
      chained-with_value_in,
      formed-with_value_in,
      values-with_value_in,
      ends-with_value_in,
      kept-with_value_in,
    )

-- what is live stays live where an interlink is written
pub ruleset live_links = (neighbor-with_next_of)
