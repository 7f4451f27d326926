-- What a canonical transfer leaves once no link is left.
use Rattle.std.proofs.Common.{◌≡◌, ℕ, zero, suc, ◌+◌, List, [], ◌∷◌, length, map, replicate, Option}
use Rattle.std.proofs.Common.{Some, None, IsSome, is_some, option_map, true≢false, refl, sym, ap}
use Rattle.std.proofs.Common.{◌∙◌, arith, inl, inr, append-nil}
use Rattle.std.specs.Prelude.{slice_get}
use Rattle.std.specs.Fn.{iterate}
use Rattle.std.specs.List.{range_with_len}
use Rattle.std.proofs.lemmas.Bool.Decides.{eqb_tells}
use Rattle.std.proofs.lemmas.List.{length-map}
use Rattle.triple_arena_ptr.specs.declared.invalidation.InvalidationOption.{InvalidationOption}
use Rattle.triple_arena_ptr.specs.Generation.{next_generation}
use Rattle.triple_arena_stack.specs.Room.{Room}
use Rattle.triple_arena.specs.Compression.{entry_of_listed}
use Rattle.triple_arena.specs.Content.{Content, entry_at, live_count, some_counter}
use Rattle.triple_arena.specs.Entries.{look_up}
use Rattle.triple_arena.specs.Transfer.{entry_before, entry_after, wrapped, steps_wrap}
use Rattle.triple_arena.specs.Transfer.{IsTransferred, IsFilled}
use Rattle.triple_arena_chain.specs.LinkShape.{IndexLink}
use Rattle.linked_lists.specs.LinkedLists.{Ends, next_in, prev_in, next_at, prev_at, IsAgreed, On}
use Rattle.linked_lists.specs.AllChainsLaws.{all_live}
use Rattle.linked_lists.specs.LinkedListLaws.{off_or_on}
use Rattle.triple_arena_chain.specs.CanonicalTransfer.{IsMovedInOrder}
use Rattle.triple_arena_chain.specs.IterChains.{links_along}
use Rattle.linked_lists.specs.ChainLaws.{live_next_in, live_prev_in}
use Rattle.linked_lists.specs.Chains.{all_members}
use Rattle.triple_arena_chain.specs.Links.{valued, values_in, entry_ends, ends_in, IsChained}
use Rattle.triple_arena_chain.specs.Listed.{listed_values}
use Rattle.triple_arena_chain.specs.ListedLaws.{value-listed, listed_values-length}
use Rattle.triple_arena_chain.specs.Renaming.{ends_renamed, FollowsRenaming}
use Rattle.triple_arena_chain.specs.Values.{room_in}
use Rattle.triple_arena_chain.proofs.GatheredLemmas.{within_slots}
use Rattle.triple_arena_chain.proofs.ListedLemmas.{none_listed}
use Rattle.triple_arena_chain.proofs.RenamingLemmas.{renamed_by}
use Rattle.linked_lists.specs.PositionLaws.{place_in, place_apart, place_onto, places_run}
use Rattle.triple_arena_chain.proofs.MovedChainLemmas.{rising_of}
use Rattle.triple_arena_chain.proofs.MovingLemmas.{AreChainsMoved}

-- what is listed at the places from 1 on is found under them
found_from : {T : Type 0} (u k : ℕ) (l : List (ℕ × (ℕ × T)))
    → ((j : ℕ) (e : ℕ × (ℕ × T)) → slice_get l j ≡ Some e → e.0 ≡ u + j)
    → look_up l (u + k) ≡ option_map entry_of_listed (slice_get l k)
found_from u k [] each = refl
found_from u zero (x ∷ l) each =
    elim (eqb_tells x.0 (u + 0)) [
      | inl here ↦ rw here.0 refl
      | inr other ↦ absurd (other.1 (each 0 x refl))
    ]
found_from u (suc k) (x ∷ l) each =
    let at = each 0 x refl in
    let next : u + suc k ≡ u + 1 + k = omega arith in
    elim (eqb_tells x.0 (u + suc k)) [
      | inl here ↦ absurd (let is = here.1 in omega (arith, at, is))
      | inr other ↦
          rw other.0
          (ap (look_up l) next ∙ found_from (u + 1) k l
          (λ j e is. let more = each (suc j) e is in omega (arith, more)))
    ]

next_renamed : (to : ℕ → ℕ) (o : Option Ends)
    → next_in (option_map (ends_renamed to) o) ≡ option_map to (next_in o)
next_renamed to None = refl
next_renamed to (Some v) = refl

prev_renamed : (to : ℕ → ℕ) (o : Option Ends)
    → prev_in (option_map (ends_renamed to) o) ≡ option_map to (prev_in o)
prev_renamed to None = refl
prev_renamed to (Some v) = refl

some_renamed : (to : ℕ → ℕ) (o : Option Ends) → is_some (option_map (ends_renamed to) o) ≡ is_some o
some_renamed to None = refl
some_renamed to (Some v) = refl

named : (to : ℕ → ℕ) (o : Option ℕ) (q : ℕ) → option_map to o ≡ Some q
    → (j : ℕ) × (o ≡ Some j) × (to j ≡ q)
named to None q is = absurd (let none : None ≡ Some q = is in cc)
named to (Some j) q is = (j, refl, let same : to j ≡ q = cc in same)

-- interlinks that are others under names of their own
module _ (to : ℕ → ℕ) (e e' : ℕ → Option Ends) (agreed : IsAgreed e)
    (ends : (i : ℕ) → IsSome (e i) → e' (to i) ≡ option_map (ends_renamed to) (e i))
    (apart : (i j : ℕ) → IsSome (e i) → IsSome (e j) → to i ≡ to j → i ≡ j)
    (onto : (k : ℕ) → IsSome (e' k) → (i : ℕ) × IsSome (e i) × (to i ≡ k)) where
  nexts : (i : ℕ) → IsSome (e i) → next_at e' (to i) ≡ option_map to (next_at e i)
  nexts i some = ap next_in (ends i some) ∙ next_renamed to (e i)

  prevs : (i : ℕ) → IsSome (e i) → prev_at e' (to i) ≡ option_map to (prev_at e i)
  prevs i some = ap prev_in (ends i some) ∙ prev_renamed to (e i)

  image_agreed : IsAgreed e'
  image_agreed =
      record {
        forward = λ p q goes.
            let n = onto p (live_next_in (e' p) q goes) in
            let m = named to (next_at e n.0) q (sym (nexts n.0 n.1) ∙ ap (next_at e') n.2 ∙ goes) in
            let back = agreed.forward n.0 m.0 m.1 in
            ap (prev_at e') (sym m.2) ∙ prevs m.0 (live_prev_in (e m.0) n.0 back)
            ∙ ap (option_map to) back ∙ ap Some n.2;
        backward = λ p q comes.
            let n = onto q (live_prev_in (e' q) p comes) in
            let m = named to (prev_at e n.0) p (sym (prevs n.0 n.1) ∙ ap (prev_at e') n.2 ∙ comes)
            in
            let goes = agreed.backward m.0 n.0 m.1 in
            ap (next_at e') (sym m.2) ∙ nexts m.0 (live_next_in (e m.0) n.0 goes)
            ∙ ap (option_map to) goes ∙ ap Some n.2;
      }

  image_follows : FollowsRenaming to e e'
  image_follows =
      renamed_by to e e' agreed
      (record {
        live = λ i some. ap is_some (ends i some) ∙ some_renamed to (e i) ∙ some;
        nexts = nexts;
        onto = onto;
      }) apart
      image_agreed

module _ {Q U P T F : Type 0} {old_index old_generation : Q → ℕ} {index generation : P → ℕ}
    {step : F → Q → InvalidationOption U → P → T → F → Type 0} {f : F} {last : Option ℕ}
    {old : Content (IndexLink U)} {g : ℕ} {room : Room}
    {low : ℕ} {f' : F} {from : Content (IndexLink U)} {into : Content (IndexLink T)}
    (chained : IsChained old)
    (m : AreChainsMoved old_index old_generation index generation step f last old
    g room low f' from into)
    (nothing : (j : ℕ) → entry_at from j ≡ None) where
  abbrev held : ℕ → Option Ends
  held = ends_in old

  whole : (i : ℕ) → IsSome (held i) → On (all_members m.done) i
  whole i some =
      elim (off_or_on (all_members m.done) i) [
        | inl off ↦ absurd (true≢false
            (sym some ∙ ap (λ o. is_some (option_map entry_ends o))
            (sym (m.moved.taken.stay i off) ∙ nothing i)))
        | inr on ↦ on
      ]

  held_on : (i : ℕ) → On (all_members m.done) i → IsSome (held i)
  held_on i on = all_live held m.done i m.are.chains on

  pub nothing_left : live_count from ≡ 0
  nothing_left =
      sym (listed_values-length from)
      ∙ ap length (none_listed from (λ j. ap (option_map valued) (nothing j)))

  count : length (all_members m.done) ≡ live_count old
  count = let all = m.moved.taken.live in let none = nothing_left in omega (arith, all, none)

  pub stepped_for_each : from.counter ≡ iterate (next_generation last) (live_count old) old.counter
  stepped_for_each =
      let steps : length (all_members m.done) + 0 ≡ live_count old =
      (let many = count in omega (arith, many)) in
      m.moved.taken.counter 0 ∙ ap (λ n. iterate (next_generation last) n old.counter) steps

  pub room_left : from.room ≡ old.room
  room_left = m.moved.taken.room

  onto : (k : ℕ) → IsSome (ends_in into k)
      → (i : ℕ) × IsSome (held i) × (place_in (all_members m.done) i ≡ k)
  onto zero some = absurd (true≢false (sym some))
  onto (suc k) some =
      let slots = m.moved.placed.slots in
      let within = within_slots into (suc k) some in
      let n = place_onto (all_members m.done) (suc k) m.are.once (omega arith)
      (omega (arith, slots, within)) in (n.0, held_on n.0 n.1, n.2)

  follows : FollowsRenaming (place_in (all_members m.done)) held (ends_in into)
  follows =
      image_follows (place_in (all_members m.done)) held (ends_in into) chained.agreed
      (λ i some. m.moved.placed.ends i (whole i some))
      (λ i j some some' same. place_apart (all_members m.done) i j (whole i some) (whole j some')
      same) onto

  transferred : IsTransferred old_index old_generation index generation step f last
      (some_counter old) (links_along (values_in old) (all_members m.done)) (listed_values into)
  transferred =
      let c = m.moved.called in
      let calls = length-map c.moves (entry_before old_index old_generation index generation) in
      let placed = length-map c.moves (entry_after old_index old_generation index generation) in
      let before = ap length c.before in
      let after = ap length c.after in
      let listed = listed_values-length into in
      let live = m.moved.placed.live in
      let steps : length (all_members m.done) + 0
      ≡ length (links_along (values_in old) (all_members m.done)) =
      omega (arith, calls, placed, before, after, listed, live) in
      record {
        moves = c.moves;
        last = f';
        calls = c.calls;
        before = c.before;
        told = sym (append-nil (map wrapped c.moves)) ∙ c.told 0
            ∙ ap (λ n. steps_wrap last n (some_counter old)) steps;
        after = c.after;
      }

  pub moved_in_order : IsMovedInOrder old_index old_generation index generation
      step f last old into
  moved_in_order =
      record {
        order = links_along (values_in old) (all_members m.done);
        laid = record {
          chains = m.done;
          in_order = record {
            are = record { chains = m.are.chains; once = m.are.once; whole = whole };
            rising = rising_of low m.done m.are.rising;
          };
          along = refl;
          to = place_in (all_members m.done);
          runs = places_run (all_members m.done) m.are.once ∙ ap (range_with_len 1) count;
          renamed = follows;
          slots = m.moved.placed.slots ∙ count;
          free = m.moved.placed.free;
        };
        moved = transferred;
      }

  pub moved_chained : IsChained into
  moved_chained =
      record {
        formed = m.moved.placed.formed;
        agreed =
            image_agreed (place_in (all_members m.done)) held (ends_in into) chained.agreed
            (λ i some. m.moved.placed.ends i (whole i some))
            (λ i j some some' same. place_apart (all_members m.done) i j (whole i some)
            (whole j some') same) onto;
      }

  pub moved_filled : (before : Content (IndexLink T))
      → IsFilled values_in live_count some_counter room_in listed_values (live_count old) g room
      before into
  moved_filled before =
      record {
        compact = m.moved.placed.compact;
        entries = λ k.
            let place : k + 1 ≡ 1 + k = omega arith in
            value-listed into (k + 1)
            ∙ ap (look_up (listed_values into)) place
            ∙ found_from 1 k (listed_values into)
            (λ j e is. let at = m.moved.placed.compact j e is in omega (arith, at));
        generations = m.moved.placed.generations ∙ ap (λ n. replicate n g) count;
        live = m.moved.placed.live ∙ count;
        counter = ap Some m.moved.placed.counter;
        room = m.moved.placed.own;
      }
