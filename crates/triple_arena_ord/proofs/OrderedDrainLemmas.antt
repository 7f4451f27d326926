-- The first entry of the list leaves.
use Rattle.std.proofs.Common.{◌≡◌, ℕ, suc, List, [], ◌∷◌, ◌++◌, length, Option, Some, None, IsSome}
use Rattle.std.proofs.Common.{append-nil, refl, sym, ap, subst, ◌∙◌, arith}
use Rattle.std.proofs.lemmas.Bool.{ne_eqb}
use Rattle.triple_arena_ptr.specs.Generation.{next_generation}
use Rattle.triple_arena_ptr.specs.InvalidationOption.{value_of}
use Rattle.triple_arena_ptr.specs.declared.invalidation.InvalidationOption.{InvalidationOption}
use Rattle.triple_arena.specs.Drains.{removals}
use Rattle.triple_arena.specs.DrainLaws.{removals-length}
use Rattle.triple_arena.specs.Entries.{without}
use Rattle.linked_lists.specs.LinkedLists.{Off, On, Apart, first_or, last_or}
use Rattle.linked_lists.specs.LinkedListLaws.{Off-not_on, On-cons}
use Rattle.linked_lists.specs.ChainLaws.{Apart-split, On-first}
use Rattle.triple_arena_chain.specs.Links.{ends_in}
use Rattle.linked_lists.specs.UniquenessLaws.{linear_apart}
use Rattle.triple_arena_ord.specs.Ordered.{Ordered, IsOrdered, order_in, entry_in, size_in}
use Rattle.triple_arena_ord.specs.Ordered.{counter_in, ordered_entries, entries_at}
use Rattle.triple_arena_ord.specs.OrderedDrains.{emptied_after, IsItemTaken, IsFirstTaken}
use Rattle.triple_arena_ord.specs.OrderedDrains.{IsLastTaken}
use Rattle.triple_arena_ord.specs.OrderedDrains.{TakesFirst}
use Rattle.triple_arena_ord.specs.OrderedDrains.{drain_arena, drain_lender, drain_rest, IsOn}
use Rattle.triple_arena_ord.specs.OrderedDrains.{DrainSteps, DrainKeepsAlong}
use Rattle.triple_arena_ord.specs.Removal.{Loses, IsEntryRemoved}
use Rattle.triple_arena_ord.specs.declared.ord_arena.drain.OrderedDrain.{OrderedDrain}
use Rattle.triple_arena_ord.proofs.InsertLemmas.{split_same}
use Rattle.triple_arena_ord.proofs.OrderedWalkLemmas.{listed_first, on_lives}

-- the last of a list, and what is before it
last_split : (w : List ℕ) (h : ℕ) → last_or None w ≡ Some h
    → (front : List ℕ) × (w ≡ front ++ h ∷ [])
last_split [] h e = absurd (cc)
last_split (x ∷ []) h e = let same : x ≡ h = cc in ([], ap (λ y. y ∷ []) same)
last_split (x ∷ y ∷ w) h e =
    let rest = last_split (y ∷ w) h e in (x ∷ rest.0, ap (λ l. x ∷ l) rest.1)

module _ {T : Type 0} where
  -- an index that is not listed can go
  listed_other : (o p : Ordered T) (h : ℕ) → ((k : ℕ) → entry_in p k ≡ without (entry_in o) h k)
      → (xs : List ℕ) → Off xs h → entries_at p xs ≡ entries_at o xs
  listed_other o p h entries [] off = refl
  listed_other o p h entries (x ∷ xs) off =
      let same : entry_in p x ≡ entry_in o x = entries x ∙ rw (ne_eqb x h off.0) refl in
      rw (same, listed_other o p h entries xs off.1) refl

  module _ (o p : Ordered T) (is : IsOrdered o) (h : ℕ) where
    -- the list without its first index
    pub record Shorter : Type 0 where
      pub after : List ℕ
      pub was : order_in o ≡ h ∷ after
      pub now : order_in p ≡ after

    shorter : first_or (order_in o) None ≡ Some h
        → Loses (order_in o) (order_in p) h → Shorter
    shorter first lost = by lost.before lost.was lost.is
      where
        by : (before : List ℕ) → order_in o ≡ before ++ h ∷ lost.after
            → order_in p ≡ before ++ lost.after → Shorter
        by [] was now = record { after = lost.after; was = was; now = now }
        by (x ∷ before) was now =
            let begins : Some x ≡ Some h = ap (λ l. first_or l None) (sym was) ∙ first in
            let same : x ≡ h = cc in
            let apart : Apart (x ∷ before ++ h ∷ lost.after) =
            subst Apart was (linear_apart (ends_in o.chains) None (order_in o)
            is.linear) in
            absurd (Off-not_on before lost.after h
            (subst (λ y. Off (before ++ h ∷ lost.after) y) same apart.0))

    -- the entries are listed without the first
    pub first_gone : (last : Option ℕ) (entry : ℕ × T) → first_or (order_in o) None ≡ Some h
        → entry_in o h ≡ Some entry → IsEntryRemoved last h o p
        → ordered_entries o ≡ (h, entry) ∷ ordered_entries p
    first_gone last entry first at removed =
        let s = shorter first removed.order in
        let off = (subst Apart s.was
        (linear_apart (ends_in o.chains) None (order_in o) is.linear)).0 in
        ap (entries_at o) s.was ∙ listed_first o h entry s.after at
        ∙ ap (λ l. (h, entry) ∷ l) (sym (listed_other o p h removed.entries s.after off))
        ∙ ap (λ l. (h, entry) ∷ entries_at p l) (sym s.now)

  -- nothing is listed where there is no first
  pub none_first : (o : Ordered T) → first_or (order_in o) None ≡ None
      → ordered_entries o ≡ []
  none_first o none = ap (entries_at o) (nil (order_in o) none)
    where
      nil : (w : List ℕ) → first_or w None ≡ None → w ≡ []
      nil [] h = refl
      nil (x ∷ w) h = absurd (cc)

  pub listed-append : (o : Ordered T) (v w : List ℕ)
      → entries_at o (v ++ w) ≡ entries_at o v ++ entries_at o w
  listed-append o [] w = refl
  listed-append o (x ∷ v) w = by (entry_in o x) refl (listed-append o v w)
    where
      by : (e : Option (ℕ × T)) → entry_in o x ≡ e
          → entries_at o (v ++ w) ≡ entries_at o v ++ entries_at o w
          → entries_at o (x ∷ (v ++ w)) ≡ entries_at o (x ∷ v) ++ entries_at o w
      by None is rest = rw is rest
      by (Some e) is rest = rw is (ap (λ l. (x, e) ∷ l) rest)

  -- nothing is listed where there is no last
  pub none_last : (o : Ordered T) → last_or None (order_in o) ≡ None
      → ordered_entries o ≡ []
  none_last o none = ap (entries_at o) (nil (order_in o) none)
    where
      some : (x : ℕ) (w : List ℕ) → last_or (Some x) w ≡ None → ⊥
      some x [] e = cc
      some x (y ∷ w) e = some y w e

      nil : (w : List ℕ) → last_or None w ≡ None → w ≡ []
      nil [] e = refl
      nil (x ∷ w) e = absurd (some x w e)

  module _ (o p : Ordered T) (is : IsOrdered o) (h : ℕ) where
    -- the entries are listed without the last
    last_gone : (last : Option ℕ) (entry : ℕ × T) → last_or None (order_in o) ≡ Some h
        → entry_in o h ≡ Some entry → IsEntryRemoved last h o p
        → ordered_entries o ≡ ordered_entries p ++ (h, entry) ∷ []
    last_gone last entry ends at removed =
        let lost = removed.order in
        let split = last_split (order_in o) h ends in
        let apart = linear_apart (ends_in o.chains) None (order_in o) is.linear in
        let same = split_same lost.before h lost.after split.0 [] (subst Apart lost.was apart)
        (sym lost.was ∙ split.1) in
        let off = (Apart-split split.0 [] h (subst Apart split.1 apart)).0 in
        let now : order_in p ≡ split.0 =
        lost.is ∙ ap (λ l. l ++ lost.after) same.0 ∙ ap (λ l. split.0 ++ l) same.1
        ∙ append-nil split.0 in
        ap (entries_at o) split.1 ∙ listed-append o split.0 (h ∷ [])
        ∙ ap (λ l. entries_at o split.0 ++ l) (listed_first o h entry [] at)
        ∙ ap (λ l. l ++ (h, entry) ∷ []) (sym (listed_other o p h removed.entries split.0 off))
        ∙ ap (λ l. entries_at p l ++ (h, entry) ∷ []) (sym now)

  module _ {P : Type 0} (last : Option ℕ) (index generation : P → ℕ)
      (o p : Ordered T) (h : ℕ) (item : InvalidationOption (P × T)) (is : IsOrdered o)
      (taken : IsItemTaken last index generation h item o p) where
    -- a removal at an end of the list
    pub first_taken : first_or (order_in o) None ≡ Some h
        → IsFirstTaken last index generation item o p
    first_taken first = record {
      first = first_gone o p is h last _ first taken.was taken.removed
          ∙ ap (λ n. (n, (generation (value_of item).0, (value_of item).1))
          ∷ ordered_entries p) (sym taken.at);
      overflow = taken.overflow;
      removed = subst (λ k. IsEntryRemoved last k o p) (sym taken.at) taken.removed;
    }

    pub last_taken : last_or None (order_in o) ≡ Some h
        → IsLastTaken last index generation item o p
    last_taken ends = record {
      at_end = last_gone o p is h last _ ends taken.was taken.removed
          ∙ ap (λ n. ordered_entries p
          ++ (n, (generation (value_of item).0, (value_of item).1)) ∷ []) (sym taken.at);
      overflow = taken.overflow;
      removed = subst (λ k. IsEntryRemoved last k o p) (sym taken.at) taken.removed;
    }

-- what is left in the end
emptied_next : {T : Type 0} (last : Option ℕ) (n h : ℕ) (o p : Ordered T)
    → IsEntryRemoved last h o p
    → emptied_after last n p ≡ emptied_after last (suc n) o
emptied_next last n h o p removed = rw (removed.room, removed.counter) refl

module _ {T : Type 0} (o : Ordered T) (is : IsOrdered o) where
  listed_length : (xs : List ℕ) → ((i : ℕ) → On xs i → IsSome (entry_in o i))
      → length (entries_at o xs) ≡ length xs
  listed_length [] live = refl
  listed_length (x ∷ xs) live =
      by (listed_length xs (λ i on. live i (On-cons x i xs on))) (entry_in o x) refl
      (live x (On-first x xs))
    where
      by : length (entries_at o xs) ≡ length xs → (v : Option (ℕ × T)) → entry_in o x ≡ v → IsSome v
          → length (entries_at o (x ∷ xs)) ≡ length (x ∷ xs)
      by rest None at some = absurd (cc)
      by rest (Some entry) at some = ap length (listed_first o x entry xs at) ∙ omega (arith, rest)

  -- so many are listed as entries are left
  pub all_listed : length (ordered_entries o) ≡ size_in o
  all_listed = listed_length (order_in o) (on_lives o is) ∙ is.counted

  -- and so many are left to remove
  pub removals_left : (last : Option ℕ)
      → length (removals last (counter_in o) (ordered_entries o)) ≡ size_in o
  removals_left last = removals-length last (counter_in o) (ordered_entries o) ∙ all_listed

module _ {P T S Inx Gen Word Alloc : Type 0} (last : Option ℕ)
    (index generation : P → ℕ) where
  -- the first entry leaves: a drain gives its removal, and is on by one
  pub drain_steps : (item : Option (InvalidationOption (P × T)))
      (old new : OrderedDrain P T S Inx Gen Word Alloc)
      → TakesFirst last index generation item (drain_arena old) (drain_arena new)
      → drain_lender new ≡ drain_lender old
      → DrainSteps last index generation old item new
  drain_steps None old new took lender =
      let rest : drain_rest last old ≡ [] =
      ap (removals last (counter_in (drain_arena old))) took.0 in (
        (
          rest,
          ap (λ (o : Ordered T). removals last (counter_in o) (ordered_entries o))
              took.1 ∙ rest,
        ),
        record { lender = lender; leaves = ap (emptied_after last 1) took.1 },
        took,
      )
  drain_steps (Some item) old new took lender = (
    ap (removals last (counter_in (drain_arena old))) took.first
        ∙ rw (took.overflow, took.removed.counter) refl,
    record {
      lender = lender;
      leaves =
          emptied_next last 1 (index (value_of item).0) (drain_arena old) (drain_arena new)
          took.removed;
    },
    took,
  )

  -- steps on, one after another
  steps_on : (n : ℕ) (old mid new : OrderedDrain P T S Inx Gen Word Alloc) → IsOn last 1 old mid
      → IsOn last n mid new → IsOn last (suc n) old new
  steps_on n old mid new first rest =
      record {
        lender = rest.lender ∙ first.lender;
        leaves = rest.leaves ∙ go n (ap (λ (o : Ordered T). o.chains.counter) first.leaves)
            (ap (λ (o : Ordered T). o.chains.room) first.leaves);
      }
    where
      go : (n : ℕ) → next_generation last (drain_arena mid).chains.counter
          ≡ next_generation last (next_generation last (drain_arena old).chains.counter)
          → (drain_arena mid).chains.room ≡ (drain_arena old).chains.room
          → emptied_after last (suc n) (drain_arena mid)
          ≡ emptied_after last (suc (suc n)) (drain_arena old)
      go n counter room = rw (counter, room) refl

  pub keeps_along : (first : OrderedDrain P T S Inx Gen Word Alloc)
      → DrainKeepsAlong last index generation first
  keeps_along first [] later run =
      subst (IsOn last 0 first) run (record { lender = refl; leaves = refl })
  keeps_along first (item ∷ items) later run =
      steps_on (length items) first run.0 later run.1.1 (keeps_along run.0 items later run.2)
