-- Links that are moved to another arena, one by one: those that are left, the calls of the map, and
-- those that are placed.
use Rattle.std.proofs.Common.{◌≡◌, ◌≢◌, ◌==◌, false, ℕ, zero, suc, ◌+◌, ◌<◌, ◌≤◌, List, [], ◌∷◌}
use Rattle.std.proofs.Common.{◌++◌, length, map, replicate, Option, Some, None, option_map, refl}
use Rattle.std.proofs.Common.{sym, ap, subst, ◌∙◌, arith, inl, inr, append_assoc}
use Rattle.std.specs.Prelude.{slice_get}
use Rattle.std.specs.Fn.{iterate}
use Rattle.std.specs.List.{FoldsTo}
use Rattle.std.proofs.lemmas.Bool.Decides.{eqb_tells}
use Rattle.std.proofs.lemmas.Fn.{FoldsTo-push}
use Rattle.std.proofs.lemmas.List.{map_push, length_push, replicate-append-replicate}
use Rattle.triple_arena_ptr.specs.declared.invalidation.InvalidationOption.{InvalidationOption}
use Rattle.triple_arena_ptr.specs.Generation.{next_generation, next_wraps}
use Rattle.triple_arena_ptr.specs.InvalidationOption.{value_of, overflowed}
use Rattle.triple_arena_stack.specs.Room.{Room}
use Rattle.triple_arena.specs.Changes.{IsRemoved}
use Rattle.triple_arena.specs.Compression.{index_of, generation_of, IsCompact}
use Rattle.triple_arena.specs.Content.{Content, entry_at, live_count, some_counter, next_index}
use Rattle.triple_arena.specs.Content.{arena_capacity, inserted, IsWellFormed}
use Rattle.triple_arena.specs.Entries.{with_entry}
use Rattle.triple_arena.specs.InsertionLaws.{entry-inserted, live-inserted, counter-inserted}
use Rattle.triple_arena.specs.InsertionLaws.{room-inserted, formed-inserted}
use Rattle.triple_arena.specs.LiveEntries.{listed_from}
use Rattle.triple_arena.specs.Transfer.{Transfer, entry_before, entry_after, wrapped, steps_wrap}
use Rattle.triple_arena_chain.specs.LinkShape.{IndexLink}
use Rattle.linked_lists.specs.LinkedLists.{Ends, Off, On, reprev, with_prev}
use Rattle.linked_lists.specs.LinkedListLaws.{Off-front, Off-back}
use Rattle.triple_arena_chain.specs.IterChains.{link_and, links_along}
use Rattle.triple_arena_chain.specs.LinkLaws.{ends-with_prev_of, values-with_prev_of}
use Rattle.triple_arena_chain.specs.LinkLaws.{kept-with_prev_of, formed-with_prev_of}
use Rattle.triple_arena_chain.specs.Links.{valued, values_in, IsKept, link_ends, entry_ends}
use Rattle.triple_arena_chain.specs.Links.{ends_in, with_prev_of}
use Rattle.linked_lists.specs.ChainLaws.{On-either, on_differs}
use Rattle.triple_arena_chain.specs.Listed.{listed_value, listed_values}
use Rattle.triple_arena_chain.specs.ListedLaws.{listed_values-length}
use Rattle.triple_arena_chain.specs.Renaming.{ends_renamed}
use Rattle.triple_arena_chain.specs.Values.{room_in}
use Rattle.triple_arena_chain.proofs.ListedLemmas.{values_listed}

-- an index on a list with one more is on the list, or is that one
pub data OnPush (xs : List ℕ) (i k : ℕ) : Type 0 where
  before : On xs k → OnPush xs i k
  pushed : k ≡ i → OnPush xs i k

pub on_push : (xs : List ℕ) (i k : ℕ) → On (xs ++ i ∷ []) k → OnPush xs i k
on_push xs i k on =
    elim (On-either xs (i ∷ []) k on) [
      | inl there ↦ before there
      | inr there ↦
          elim (eqb_tells k i) [
            | inl same ↦ pushed same.1
            | inr other ↦ absurd (on_differs (i ∷ []) k k there ((λ same. other.1 (sym same)), tt)
                refl)
          ]
    ]

module _ {U : Type 0} (last : Option ℕ) (old : Content (IndexLink U)) where
  -- these links were taken out of the source, in this order
  pub record AreTaken (order : List ℕ) (now : Content (IndexLink U)) : Type 0 where
    pub gone : (j : ℕ) → On order j → entry_at now j ≡ None
    pub stay : (j : ℕ) → Off order j → entry_at now j ≡ entry_at old j
    pub live : live_count now + length order ≡ live_count old
    pub counter : (n : ℕ)
        → iterate (next_generation last) n now.counter
        ≡ iterate (next_generation last) (length order + n) old.counter
    pub room : now.room ≡ old.room
    pub formed : IsWellFormed now

  pub taken_none : IsWellFormed old → AreTaken [] old
  taken_none formed =
      record {
        gone = λ j on. absurd (on_differs [] j j on tt refl);
        stay = λ j off. refl;
        live = omega arith;
        counter = λ n. let none : n ≡ length {A = ℕ} [] + n = omega arith in
            ap (λ k. iterate (next_generation last) k old.counter) none;
        room = refl;
        formed = formed;
      }

  pub taken_more : (order : List ℕ) (i : ℕ) (now new : Content (IndexLink U)) → AreTaken order now
      → IsRemoved entry_at live_count some_counter room_in last i now new → IsWellFormed new
      → AreTaken (order ++ i ∷ []) new
  taken_more order i now new t removed formed =
      let long = length_push order i in
      let less = removed.live in
      let all = t.live in
      record {
        gone = λ j on.
            elim (eqb_tells j i) [
              | inl same ↦ removed.entries j ∙ rw same.0 refl
              | inr other ↦
                  elim (on_push order i j on) [
                    | before there ↦ removed.entries j ∙ rw other.0 (t.gone j there)
                    | pushed is ↦ absurd (other.1 is)
                  ]
            ];
        stay = λ j off.
            elim (eqb_tells j i) [
              | inl same ↦ absurd ((Off-back order (i ∷ []) j off).0 (sym same.1))
              | inr other ↦ removed.entries j
                  ∙ rw other.0 (t.stay j (Off-front order (i ∷ []) j off))
            ];
        live = omega (arith, long, less, all);
        counter = λ n.
            let both : Some new.counter ≡ Some (next_generation last now.counter) =
            removed.counter in
            let next : new.counter ≡ next_generation last now.counter = cc in
            let count : length order + suc n ≡ length (order ++ i ∷ []) + n = omega (arith, long) in
            ap (iterate (next_generation last) n) next ∙ t.counter (suc n)
            ∙ ap (λ k. iterate (next_generation last) k old.counter) count;
        room = removed.room ∙ t.room;
        formed = formed;
      }

module _ {L : Type 0} where
  along_one : (i : ℕ) (o : Option (ℕ × L)) (xs ys : List (ℕ × (ℕ × L)))
      → link_and i o (xs ++ ys) ≡ link_and i o xs ++ ys
  along_one i None xs ys = refl
  along_one i (Some e) xs ys = refl

  pub along_push : (entries : ℕ → Option (ℕ × L)) (order : List ℕ) (i : ℕ) (e : ℕ × L)
      → entries i ≡ Some e
      → links_along entries (order ++ i ∷ []) ≡ links_along entries order ++ (i, e) ∷ []
  along_push entries [] i e is = ap (λ o. link_and i o []) is
  along_push entries (x ∷ order) i e is =
      ap (link_and x (entries x)) (along_push entries order i e is)
      ∙ along_one x (entries x) (links_along entries order) ((i, e) ∷ [])

module _ {Q U P T F : Type 0} (old_index old_generation : Q → ℕ) (index generation : P → ℕ)
    (step : F → Q → InvalidationOption U → P → T → F → Type 0) (f : F) (last : Option ℕ)
    (old : Content (IndexLink U)) where
  -- the map was called at these links, in this order, and gave the values that are placed
  pub record AreCalled (order : List ℕ) (f' : F) (counter : ℕ)
      (into : Content (IndexLink T)) : Type 0 where
    pub moves : List (Transfer Q U P T)
    pub calls : FoldsTo (λ h move k. step h move.from move.item move.to move.given k) f moves f'
    pub before : map (entry_before old_index old_generation index generation) moves
        ≡ links_along (values_in old) order
    pub told : (n : ℕ) → map wrapped moves ++ steps_wrap last n (Some counter)
        ≡ steps_wrap last (length order + n) (some_counter old)
    pub after : map (entry_after old_index old_generation index generation) moves
        ≡ listed_values into

  pub called_none : (into : Content (IndexLink T)) → listed_values into ≡ []
      → AreCalled [] f old.counter into
  called_none into none =
      record {
        moves = [];
        calls = refl;
        before = refl;
        told = λ n. let count : n ≡ length {A = ℕ} [] + n = omega arith in
            ap (λ k. steps_wrap last k (some_counter old)) count;
        after = sym none;
      }

  pub called_more : (order : List ℕ) (i : ℕ) (f' f'' : F) (counter counter' : ℕ)
      (into new : Content (IndexLink T))
      (from : Q) (item : InvalidationOption U) (to : P) (given : T)
      → AreCalled order f' counter into
      → values_in old i ≡ Some (old_generation from, value_of item) → old_index from ≡ i
      → overflowed item ≡ next_wraps last counter
      → counter' ≡ next_generation last counter → step f' from item to given f''
      → listed_values new ≡ listed_values into ++ (index to, (generation to, given)) ∷ []
      → AreCalled (order ++ i ∷ []) f'' counter' new
  called_more order i f' f'' counter counter' into new from item to given c found at wraps next ran
      listed =
      let m : Transfer Q U P T = record { from = from; item = item; to = to; given = given } in
      record {
        moves = c.moves ++ m ∷ [];
        calls = FoldsTo-push _ _ c.moves f' m f'' c.calls ran;
        before =
            map_push (entry_before old_index old_generation index generation) c.moves m
            ∙ ap (λ l. l ++ (old_index from, (old_generation from, value_of item)) ∷ []) c.before
            ∙ ap (λ k. links_along (values_in old)
            order ++ (k, (old_generation from, value_of item)) ∷ []) at
            ∙ sym (along_push (values_in old) order i (old_generation from, value_of item) found);
        told = λ n.
            let long = length_push order i in
            let count : length order + suc n ≡ length (order ++ i ∷ []) + n = omega (arith, long) in
            ap (λ l. l ++ steps_wrap last n (Some counter')) (map_push wrapped c.moves m)
            ∙ append_assoc (map wrapped c.moves) (overflowed item ∷ [])
            (steps_wrap last n (Some counter'))
            ∙ ap (λ b. map wrapped c.moves ++ (b ∷ steps_wrap last n (Some counter'))) wraps
            ∙ ap (λ g. map wrapped
            c.moves ++ (next_wraps last counter ∷ steps_wrap last n (Some g))) next
            ∙ c.told (suc n)
            ∙ ap (λ k. steps_wrap last k (some_counter old)) count;
        after =
            map_push (entry_after old_index old_generation index generation) c.moves m
            ∙ ap (λ l. l ++ (index to, (generation to, given)) ∷ []) c.after
            ∙ sym listed;
      }

  -- a write of an interlink changes no value
  pub called_same : (order : List ℕ) (f' : F) (counter : ℕ) (into new : Content (IndexLink T))
      → listed_values new ≡ listed_values into
      → AreCalled order f' counter into → AreCalled order f' counter new
  called_same order f' counter into new same c =
      record {
        moves = c.moves;
        calls = c.calls;
        before = c.before;
        told = c.told;
        after = c.after ∙ sym same;
      }

module _ {T : Type 0} where
  -- what is at a place of a list with one more
  compact_from : (u : ℕ) (xs : List (ℕ × (ℕ × T))) (x : ℕ × (ℕ × T))
      → ((k : ℕ) (e : ℕ × (ℕ × T)) → slice_get xs k ≡ Some e → index_of e ≡ u + k)
      → index_of x ≡ u + length xs → (k : ℕ) (e : ℕ × (ℕ × T)) → slice_get (xs ++ x ∷ []) k ≡ Some e
      → index_of e ≡ u + k
  compact_from u [] x each last zero e is = let same : x ≡ e = cc in ap index_of (sym same) ∙ last
  compact_from u [] x each last (suc k) e is = absurd (let none : None ≡ Some e = is in cc)
  compact_from u (y ∷ xs) x each last zero e is = each zero e is
  compact_from u (y ∷ xs) x each last (suc k) e is =
      let rest =
      compact_from (u + 1) xs x (λ j d at. let next = each (suc j) d at in omega (arith, next))
      (omega (arith, last)) k e is in
      omega (arith, rest)

  compact_push : (xs : List (ℕ × (ℕ × T))) (x : ℕ × (ℕ × T)) → IsCompact xs
      → index_of x ≡ length xs + 1 → IsCompact (xs ++ x ∷ [])
  compact_push xs x compact last k e is =
      let at = compact_from 1 xs x (λ j d here. let one = compact j d here in omega (arith, one))
      (omega (arith, last)) k e is in omega (arith, at)

module _ {T : Type 0} where
  next_dense : (c : Content (IndexLink T)) → c.free ≡ [] → next_index c ≡ length c.slots + 1
  next_dense c none = rw none refl

  slots_dense : (c : Content (IndexLink T)) (l : IndexLink T) → c.free ≡ []
      → (inserted c l).slots ≡ c.slots ++ Some (c.counter, l) ∷ []
  slots_dense c l none = rw none refl

  free_dense : (c : Content (IndexLink T)) (l : IndexLink T) → c.free ≡ []
      → (inserted c l).free ≡ []
  free_dense c l none = rw none refl

  -- one more value at the end
  values_push : (n : ℕ) (xs : List (Option (ℕ × IndexLink T))) (e : ℕ × IndexLink T)
      → map listed_value (listed_from n (xs ++ Some e ∷ []))
      ≡ map listed_value (listed_from n xs) ++ (n + length xs, valued e) ∷ []
  values_push n [] e = ap (λ k. (k, valued e) ∷ []) (omega arith)
  values_push n (None ∷ xs) e =
      let next : (n + 1) + length xs ≡ n + length (None ∷ xs) = omega arith in
      values_push (n + 1) xs e
      ∙ ap (λ k. map listed_value (listed_from (n + 1) xs) ++ (k, valued e) ∷ []) next
  values_push n (Some x ∷ xs) e =
      let next : (n + 1) + length xs ≡ n + length (Some x ∷ xs) = omega arith in
      ap (λ l. (n, valued x) ∷ l)
      (values_push (n + 1) xs e
      ∙ ap (λ k. map listed_value (listed_from (n + 1) xs) ++ (k, valued e) ∷ []) next)

  pub listed_dense : (c : Content (IndexLink T)) (l : IndexLink T) → c.free ≡ []
      → listed_values (inserted c l)
      ≡ listed_values c ++ (1 + length c.slots, (c.counter, l.t)) ∷ []
  listed_dense c l none =
      ap (λ s. map listed_value (listed_from 1 s)) (slots_dense c l none)
      ∙ values_push 1 c.slots (c.counter, l)

module _ {T : Type 0} (g : ℕ) (room : Room) where
  -- these links, in this order, stand at the indexes from 1 on, and each that was at `i` is at `to
  -- i`, with the interlinks renamed
  pub record ArePlaced (order : List ℕ) (to : ℕ → ℕ) (wanted : ℕ → Option Ends)
      (now : Content (IndexLink T)) : Type 0 where
    pub slots : length now.slots ≡ length order
    pub live : live_count now ≡ length order
    pub free : now.free ≡ []
    pub counter : now.counter ≡ g
    pub own : now.room ≡ room
    pub formed : IsWellFormed now
    pub compact : IsCompact (listed_values now)
    pub generations : map generation_of (listed_values now) ≡ replicate (length order) g
    pub ends : (i : ℕ) → On order i
        → ends_in now (to i) ≡ option_map (ends_renamed to) (wanted i)

  pub placed_none : (to : ℕ → ℕ) (wanted : ℕ → Option Ends) (now : Content (IndexLink T))
      → now.slots ≡ [] → now.free ≡ [] → now.counter ≡ g
      → now.room ≡ room → live_count now ≡ 0 → listed_values now ≡ [] → IsWellFormed now
      → ArePlaced [] to wanted now
  placed_none to wanted now none free counter own empty listed formed =
      record {
        slots = ap length none;
        live = empty;
        free = free;
        counter = counter;
        own = own;
        formed = formed;
        compact = subst IsCompact (sym listed)
            (λ k e is. absurd (let gone : None ≡ Some e = is in cc));
        generations = ap (map generation_of) listed;
        ends = λ i on. absurd (on_differs [] i i on tt refl);
      }

  pub placed_more : (order : List ℕ) (i : ℕ) (to : ℕ → ℕ) (wanted : ℕ → Option Ends)
      (now new : Content (IndexLink T)) (l : IndexLink T)
      → ArePlaced order to wanted now → live_count now < arena_capacity now → new ≡ inserted now l
      → ((j : ℕ) → On order j → to j ≤ length order) → to i ≡ length order + 1
      → Some (link_ends l) ≡ option_map (ends_renamed to) (wanted i)
      → ArePlaced (order ++ i ∷ []) to wanted new
  placed_more order i to wanted now new l p fits is within at own =
      subst (ArePlaced (order ++ i ∷ []) to wanted) (sym is)
      record {
        slots = ap length (slots_dense now l p.free) ∙ length_push now.slots (Some (now.counter, l))
            ∙ ap (λ n. n + 1) p.slots ∙ sym long;
        live = live-inserted now l p.formed ∙ ap (λ n. n + 1) p.live ∙ sym long;
        free = free_dense now l p.free;
        counter = counter-inserted now l ∙ p.counter;
        own = room-inserted now l ∙ p.own;
        formed = formed-inserted now l p.formed fits;
        compact =
            subst IsCompact (sym listed)
            (compact_push (listed_values now) (1 + length now.slots, (now.counter, l.t)) p.compact
            (omega (arith, slots, many)));
        generations =
            ap (map generation_of) listed
            ∙ map_push generation_of (listed_values now) (1 + length now.slots, (now.counter, l.t))
            ∙ ap (λ xs. xs ++ now.counter ∷ []) p.generations
            ∙ ap (λ c. replicate (length order) g ++ c ∷ []) p.counter
            ∙ replicate-append-replicate (length order) 1 g
            ∙ ap (λ n. replicate n g) (sym long);
        ends = λ j on. elim (on_push order i j on)
            [ before there ↦ other j there | pushed same ↦ here j same ];
      }
    where
      long : length (order ++ i ∷ []) ≡ length order + 1
      long = length_push order i

      slots : length now.slots ≡ length order
      slots = p.slots

      listed : listed_values (inserted now l)
          ≡ listed_values now ++ (1 + length now.slots, (now.counter, l.t)) ∷ []
      listed = listed_dense now l p.free

      many : length (listed_values now) ≡ length order
      many = listed_values-length now ∙ p.live

      next : next_index now ≡ length order + 1
      next = next_dense now p.free ∙ ap (λ n. n + 1) p.slots

      other : (j : ℕ) → On order j
          → ends_in (inserted now l) (to j) ≡ option_map (ends_renamed to) (wanted j)
      other j there =
          let below = within j there in
          let stays : with_entry (entry_at now) (next_index now) (now.counter, l) (to j)
          ≡ entry_at now (to j) =
          elim (eqb_tells (to j) (next_index now)) [
            | inl same ↦ absurd (let is = same.1 in omega (arith, below, is, next))
            | inr differs ↦ rw differs.0 refl
          ] in
          ap (option_map entry_ends) (entry-inserted now l p.formed (to j) ∙ stays)
          ∙ p.ends j there

      here : (j : ℕ) → j ≡ i
          → ends_in (inserted now l) (to j) ≡ option_map (ends_renamed to) (wanted j)
      here j same =
          let new : with_entry (entry_at now) (next_index now) (now.counter, l) (to i)
          ≡ Some (now.counter, l) =
          elim (eqb_tells (to i) (next_index now)) [
            | inl is ↦ rw is.0 refl
            | inr differs ↦ absurd (differs.1 (at ∙ sym next))
          ] in
          ap (λ k. ends_in (inserted now l) (to k)) same
          ∙ ap (option_map entry_ends) (entry-inserted now l p.formed (to i) ∙ new)
          ∙ own
          ∙ ap (λ k. option_map (ends_renamed to) (wanted k)) (sym same)

  -- the previous index of the first link of a ring is written
  pub placed_closed : (order : List ℕ) (start : ℕ) (to : ℕ → ℕ) (wanted : ℕ → Option Ends)
      (prev : Option ℕ) (now new : Content (IndexLink T)) (first last : ℕ)
      → ArePlaced order to (with_prev wanted start None) now
      → new ≡ with_prev_of now (Some first) (Some last) → On order start
      → ((i j : ℕ) → On order i → On order j → to i ≡ to j → i ≡ j) → first ≡ to start
      → Some last ≡ option_map to prev → (next : Option ℕ)
      → wanted start ≡ Some (prev, next) → ArePlaced order to wanted new
  placed_closed order start to wanted prev now new first last p is on apart at end next stood =
      subst (ArePlaced order to wanted) (sym is)
      record {
        slots = kept.slots ∙ p.slots;
        live = kept.live ∙ p.live;
        free = kept.free ∙ p.free;
        counter = kept.counter ∙ p.counter;
        own = kept.room ∙ p.own;
        formed = formed-with_prev_of now (Some first) (Some last) p.formed;
        compact = subst IsCompact (sym same) p.compact;
        generations = ap (map generation_of) same ∙ p.generations;
        ends = λ i there.
            ends-with_prev_of now (Some first) (Some last) (to i)
            ∙ elim (eqb_tells i start) [
              | inl here ↦ rewritten i here.1
              | inr other ↦ kept_there i there other.0 other.1
            ];
      }
    where
      kept : IsKept now (with_prev_of now (Some first) (Some last))
      kept = kept-with_prev_of now (Some first) (Some last)

      same : listed_values (with_prev_of now (Some first) (Some last)) ≡ listed_values now
      same = values_listed now (with_prev_of now (Some first) (Some last))
          (values-with_prev_of now (Some first) (Some last))

      opened : with_prev wanted start None start ≡ Some (None, next)
      opened = elim (eqb_tells start start)
          [ inl is ↦ rw is.0 (ap (reprev None) stood) | inr other ↦ absurd (other.1 refl) ]

      rewritten : (i : ℕ) → i ≡ start
          → with_prev (ends_in now) first (Some last) (to i)
          ≡ option_map (ends_renamed to) (wanted i)
      rewritten i here =
          elim (eqb_tells (to i) first) [
            | inl hit ↦
                rw hit.0
                (ap (reprev (Some last))
                (ap (λ k. ends_in now (to k)) here ∙ p.ends start on
                ∙ ap (option_map (ends_renamed to)) opened)
                ∙ ap (λ o. Some (o, option_map to next)) end
                ∙ sym (ap (λ k. option_map (ends_renamed to) (wanted k)) here
                ∙ ap (option_map (ends_renamed to)) stood))
            | inr differs ↦ absurd (differs.1 (ap to here ∙ sym at))
          ]

      kept_there : (i : ℕ) → On order i → (i == start) ≡ false → i ≢ start
          → with_prev (ends_in now) first (Some last) (to i)
          ≡ option_map (ends_renamed to) (wanted i)
      kept_there i there test other =
          elim (eqb_tells (to i) first) [
            | inl hit ↦ absurd (other (apart i start there on (hit.1 ∙ at)))
            | inr differs ↦
                let same : with_prev wanted start None i ≡ wanted i = rw test refl in
                rw differs.0 (p.ends i there ∙ ap (option_map (ends_renamed to)) same)
          ]
