-- What a transfer has done after so many slots of the source, and what it leaves.
use Rattle.std.proofs.Common.{◌≡◌, ℕ, zero, suc, ◌+◌, ◌-◌, ◌<◌, ◌≤◌, List, [], ◌∷◌, ◌++◌, map}
use Rattle.std.proofs.Common.{length, get_or, set, replicate, Option, Some, None, slice_get}
use Rattle.std.proofs.Common.{is_some, count_by, refl, sym, ap, ◌∙◌, arith, append_assoc}
use Rattle.std.proofs.Common.{append-nil, add-zero, length-append, length-set}
use Rattle.std.specs.Fn.{iterate}
use Rattle.std.specs.List.{FoldsTo}
use Rattle.std.specs.Option.{option_map}
use Rattle.std.proofs.lemmas.Fn.{FoldsTo-push}
use Rattle.std.proofs.lemmas.List.{map-id, map_push, length-map, length_push}
use Rattle.triple_arena_ptr.specs.declared.invalidation.InvalidationOption.{InvalidationOption}
use Rattle.triple_arena_ptr.specs.Generation.{next_generation}
use Rattle.triple_arena_ptr.specs.InvalidationOption.{value_of as value_in, overflowed}
use Rattle.triple_arena.specs.Entries.{counter_wraps}
use Rattle.triple_arena.specs.LiveEntries.{listed_from, listed-length}
use Rattle.triple_arena.specs.Compression.{index_of, entry_of_listed, generation_of, value_of}
use Rattle.triple_arena.specs.Compression.{IsCompact}
use Rattle.triple_arena.specs.Transfer.{steps_wrap, Transfer, entry_before, entry_after, wrapped}
use Rattle.triple_arena.specs.Transfer.{IsTransferred}
use Rattle.triple_arena.specs.SlotTransfer.{slot_with, given_of, MovesOut}
use Rattle.triple_arena.proofs.CompressionLemmas.{set_here, get_here, opened, listed-push}

-- one step more
after_one_more : (last : Option ℕ) (n g : ℕ)
    → iterate (next_generation last) (suc n) g
    ≡ next_generation last (iterate (next_generation last) n g)
after_one_more last zero g = refl
after_one_more last (suc n) g = after_one_more last n (next_generation last g)

after_first : (last : Option ℕ) (n : ℕ) (counter : Option ℕ)
    → option_map (iterate (next_generation last) n) (option_map (next_generation last) counter)
    ≡ option_map (iterate (next_generation last) (suc n)) counter
after_first last n None = refl
after_first last n (Some g) = refl

then_next : (last : Option ℕ) (n : ℕ) (counter : Option ℕ)
    → option_map (next_generation last) (option_map (iterate (next_generation last) n) counter)
    ≡ option_map (iterate (next_generation last) (suc n)) counter
then_next last n None = refl
then_next last n (Some g) = ap Some (sym (after_one_more last n g))

no_steps : (last counter : Option ℕ)
    → counter ≡ option_map (iterate (next_generation last) 0) counter
no_steps last None = refl
no_steps last (Some g) = refl

wraps_one_more : (last : Option ℕ) (n : ℕ) (counter : Option ℕ)
    → steps_wrap last (suc n) counter
    ≡ steps_wrap last n counter ++ counter_wraps last
    (option_map (iterate (next_generation last) n) counter) ∷ []
wraps_one_more last zero counter = ap (λ o. counter_wraps last o ∷ []) (no_steps last counter)
wraps_one_more last (suc n) counter =
    ap (λ l. counter_wraps last counter ∷ l)
    (wraps_one_more last n (option_map (next_generation last) counter)
    ∙ ap (λ o. steps_wrap last n (option_map (next_generation last) counter) ++ counter_wraps last
    o ∷ []) (after_first last n counter))

module _ {Q U P T F : Type 0} (old_index old_generation : Q → ℕ) (index generation : P → ℕ)
    (step : F → Q → InvalidationOption U → P → T → F → Type 0) where
  -- of the slots `old`, `at` are passed: their entries are the calls so far, and the slots `to`
  -- have what these gave
  pub record Partly (f : F) (last counter : Option ℕ) (g : ℕ) (old : List (Option (ℕ × U))) (f' : F)
      (from : List (Option (ℕ × U)))
      (to : List (Option (ℕ × T))) (counter' : Option ℕ) (at : ℕ) : Type 0 where
    pub moves : List (Transfer Q U P T)
    pub front : List (Option (ℕ × U))
    pub rest : List (Option (ℕ × U))
    pub calls : FoldsTo (λ h move k. step h move.from move.item move.to move.given k) f moves f'
    pub before : map (entry_before old_index old_generation index generation) moves ++ listed_from
        (at + 1) rest ≡ listed_from 1 old
    pub told : map wrapped moves ≡ steps_wrap last (length moves) counter
    pub after : map (entry_after old_index old_generation index generation) moves ≡ listed_from 1 to
    pub slots : to ≡ map (slot_with g) (map given_of moves)
    pub from_is : from ≡ front ++ rest
    pub passed : length front ≡ at
    pub whole : length from ≡ length old
    pub stepped : counter' ≡ option_map (iterate (next_generation last) (length moves)) counter

  pub partly_none : {f : F} {last counter : Option ℕ} {g : ℕ} {old : List (Option (ℕ × U))}
      {to : List (Option (ℕ × T))} → to ≡ []
      → Partly f last counter g old f old to counter 0
  partly_none {last} {counter} {old} none =
      rw none
      record {
        moves = [];
        front = [];
        rest = old;
        calls = refl;
        before = refl;
        told = refl;
        after = refl;
        slots = refl;
        from_is = refl;
        passed = refl;
        whole = refl;
        stepped = no_steps last counter;
      }

  pub partly_same : {f : F} {last counter : Option ℕ} {g : ℕ} {old : List (Option (ℕ × U))}
      {f' f'' : F} {from from' : List (Option (ℕ × U))}
      {to to' : List (Option (ℕ × T))} {counter' counter'' : Option ℕ} {at : ℕ} → f'' ≡ f'
      → from' ≡ from → to' ≡ to → counter'' ≡ counter'
      → Partly f last counter g old f' from to counter' at
      → Partly f last counter g old f'' from' to' counter'' at
  partly_same state source target count p = rw (state, source, target, count) p

  -- the next slot, and what comes behind it
  record Next (f : F) (last counter : Option ℕ) (g : ℕ) (old : List (Option (ℕ × U))) (f' : F)
      (from : List (Option (ℕ × U)))
      (to : List (Option (ℕ × T))) (counter' : Option ℕ) (at : ℕ) (o : Option (ℕ × U)) : Type 0
    where
      pub p : Partly f last counter g old f' from to counter' at
      pub rest : List (Option (ℕ × U))
      pub rest_is : p.rest ≡ o ∷ rest
      pub emptied : set from at None ≡ (p.front ++ None ∷ []) ++ rest

  next_of : {f : F} {last counter : Option ℕ} {g : ℕ} {old : List (Option (ℕ × U))} {f' : F}
      {from : List (Option (ℕ × U))}
      {to : List (Option (ℕ × T))} {counter' : Option ℕ} {at : ℕ} {o : Option (ℕ × U)}
      → Partly f last counter g old f' from to counter' at
      → slice_get from at ≡ Some o → at < length from
      → Next f last counter g old f' from to counter' at o
  next_of {from} {at} {o} p found below =
      let sizes = ap length p.from_is ∙ length-append p.front p.rest in
      let passed = p.passed in
      let r = opened p.rest (omega arith) in
      let split : from ≡ p.front ++ r.first ∷ r.others = p.from_is ∙ ap (λ l. p.front ++ l) r.is in
      let here : at ≡ length p.front = omega arith in
      let same : Some r.first ≡ Some o = sym (get_here p.front r.others r.first at here)
      ∙ ap (λ l. slice_get l at) (sym split) ∙ found in
      let is : r.first ≡ o = cc in
      record {
        p = p;
        rest = r.others;
        rest_is = r.is ∙ ap (λ x. x ∷ r.others) is;
        emptied =
            ap (λ l. set l at None) split
            ∙ set_here p.front r.others r.first None at here
            ∙ sym (append_assoc p.front (None ∷ []) r.others);
      }

  -- a free slot is passed
  pub partly_free : {f : F} {last counter : Option ℕ} {g : ℕ} {old : List (Option (ℕ × U))} {f' : F}
      {from from' : List (Option (ℕ × U))}
      {to : List (Option (ℕ × T))} {counter' : Option ℕ} {at i : ℕ}
      → Partly f last counter g old f' from to counter' at
      → slice_get from at ≡ Some None → at < length from → i ≡ at + 1
      → from' ≡ set from (i - 1) None
      → Partly f last counter g old f' from' to counter' (at + 1)
  partly_free {from} {from'} {at} p found below place written =
      let emptied : from' ≡ set from at None = written ∙ ap (λ k. set from k None) (omega arith) in
      let n = next_of p found below in
      let passed = n.p.passed in
      let longer = length_push n.p.front None in
      let whole = n.p.whole in
      let sizes = ap length emptied ∙ length-set from at None in
      record {
        moves = n.p.moves;
        front = n.p.front ++ None ∷ [];
        rest = n.rest;
        calls = n.p.calls;
        before = ap (λ l. map (entry_before old_index old_generation index generation)
            n.p.moves ++ listed_from (at + 1) l) (sym n.rest_is) ∙ n.p.before;
        told = n.p.told;
        after = n.p.after;
        slots = n.p.slots;
        from_is = emptied ∙ n.emptied;
        passed = omega arith;
        whole = sizes ∙ whole;
        stepped = n.p.stepped;
      }

  -- a live slot is passed: `f'` was called there and left `f''`
  pub partly_live : {f : F} {last counter : Option ℕ} {g : ℕ} {old : List (Option (ℕ × U))}
      {f' f'' : F} {from from' : List (Option (ℕ × U))}
      {to to' : List (Option (ℕ × T))} {counter' counter'' : Option ℕ} {at own i j : ℕ} {v : U}
      {t : T} {p : Q} {item : InvalidationOption U} {q : P}
      → Partly f last counter g old f' from to counter' at
      → slice_get from at ≡ Some (Some (own, v)) → at < length from → i ≡ at + 1
      → from' ≡ set from (i - 1) None → j ≡ length to + 1 → to' ≡ to ++ Some (g, t) ∷ []
      → old_index p ≡ i → old_generation p ≡ own → value_in item ≡ v
      → overflowed item ≡ counter_wraps last counter'
      → counter'' ≡ option_map (next_generation last) counter' → index q ≡ j → generation q ≡ g
      → step f' p item q t f''
      → Partly f last counter g old f'' from' to' counter'' (at + 1)
  partly_live {last} {counter} {g} {f'} {f''} {from} {from'} {to} {to'} {counter'} {at} {own} {v}
      {t} {p} {item} {q} partly found below old_place emptied
      new_place appended old_index_is old_generation_is value_is tells counts index_is generation_is
      ran =
      let n = next_of partly found below in
      let m : Transfer Q U P T = record { from = p; item = item; to = q; given = t } in
      let taken : from' ≡ set from at None = emptied ∙ ap (λ k. set from k None) (omega arith) in
      let entries = map (entry_before old_index old_generation index generation) n.p.moves in
      let passed = n.p.passed in
      let longer = length_push n.p.front None in
      let sizes = ap length taken ∙ length-set from at None in
      let one_more = length_push n.p.moves m in
      let many : length (n.p.moves ++ m ∷ []) ≡ suc (length n.p.moves) = omega arith in
      let stands : (at + 1, (own, v)) ≡ entry_before old_index old_generation index generation m =
      ap (λ k. (k, (own, v))) (sym (old_index_is ∙ old_place))
      ∙ ap (λ k. (old_index p, (k, v))) (sym old_generation_is)
      ∙ ap (λ u. (old_index p, (old_generation p, u))) (sym value_is) in
      let goes : (1 + length to, (g, t)) ≡ entry_after old_index old_generation index generation m =
      ap (λ k. (k, (g, t))) (omega (arith, index_is, new_place))
      ∙ ap (λ k. (index q, (k, t))) (sym generation_is) in
      record {
        moves = n.p.moves ++ m ∷ [];
        front = n.p.front ++ None ∷ [];
        rest = n.rest;
        calls = FoldsTo-push _ _ n.p.moves f' m f'' n.p.calls ran;
        before =
            ap (λ l. l ++ listed_from ((at + 1) + 1) n.rest)
            (map_push (entry_before old_index old_generation index generation) n.p.moves m)
            ∙ append_assoc entries (entry_before old_index old_generation index generation m ∷ [])
            (listed_from ((at + 1) + 1) n.rest)
            ∙ ap (λ e. entries ++ (e ∷ listed_from ((at + 1) + 1) n.rest)) (sym stands)
            ∙ ap (λ l. entries ++ listed_from (at + 1) l) (sym n.rest_is)
            ∙ n.p.before;
        told =
            map_push wrapped n.p.moves m
            ∙ ap (λ l. l ++ wrapped m ∷ []) n.p.told
            ∙ ap (λ b. steps_wrap last (length n.p.moves) counter ++ b ∷ [])
            (tells ∙ ap (counter_wraps last) n.p.stepped)
            ∙ sym (wraps_one_more last (length n.p.moves) counter)
            ∙ ap (λ k. steps_wrap last k counter) (sym many);
        after =
            map_push (entry_after old_index old_generation index generation) n.p.moves m
            ∙ ap (λ l. l ++ entry_after old_index old_generation index generation m ∷ []) n.p.after
            ∙ ap (λ e. listed_from 1 to ++ e ∷ []) (sym goes)
            ∙ sym (listed-push 1 to (g, t))
            ∙ ap (listed_from 1) (sym appended);
        slots =
            appended
            ∙ ap (λ l. l ++ Some (g, t) ∷ []) n.p.slots
            ∙ sym (map_push (slot_with g) (map given_of n.p.moves) t)
            ∙ ap (map (slot_with g)) (sym (map_push given_of n.p.moves m));
        from_is = taken ∙ n.emptied;
        passed = omega arith;
        whole = sizes ∙ n.p.whole;
        stepped = counts ∙ ap (option_map (next_generation last)) n.p.stepped
            ∙ then_next last (length n.p.moves) counter
            ∙ ap (λ k. option_map (iterate (next_generation last) k) counter) (sym many);
      }

  -- a live slot that is not passed has a free place in the target
  pub fits_one : {f : F} {last counter : Option ℕ} {g : ℕ} {old : List (Option (ℕ × U))} {f' : F}
      {from : List (Option (ℕ × U))}
      {to : List (Option (ℕ × T))} {counter' : Option ℕ} {at : ℕ} {e : ℕ × U}
      → Partly f last counter g old f' from to counter' at
      → slice_get from at ≡ Some (Some e) → at < length from → length to + 1 ≤ count_by is_some old
  fits_one {g} {old} {to} {at} {e} p found below =
      let n = next_of p found below in
      let entries = map (entry_before old_index old_generation index generation) n.p.moves in
      let all = ap length n.p.before ∙ listed-length 1 old in
      let parts = length-append entries (listed_from (at + 1) n.p.rest) in
      let some : length (listed_from (at + 1) n.p.rest)
      ≡ suc (length (listed_from ((at + 1) + 1) n.rest)) =
      ap (λ l. length (listed_from (at + 1) l)) n.rest_is in
      let moved = length-map n.p.moves (entry_before old_index old_generation index generation) in
      let kept = ap length n.p.slots in
      let first = length-map n.p.moves given_of in
      let second = length-map (map given_of n.p.moves) (slot_with g) in
      omega arith

  nothing_left : {f : F} {last counter : Option ℕ} {g : ℕ} {old : List (Option (ℕ × U))} {f' : F}
      {from : List (Option (ℕ × U))}
      {to : List (Option (ℕ × T))} {counter' : Option ℕ} {at : ℕ}
      → (p : Partly f last counter g old f' from to counter' at) → length from ≤ at
      → map (entry_before old_index old_generation index generation) p.moves ≡ listed_from 1 old
  nothing_left {at} p past =
      let sizes = ap length p.from_is ∙ length-append p.front p.rest in
      let passed = p.passed in
      let none : p.rest ≡ [] = empty p.rest (omega arith) in
      sym (append-nil (map (entry_before old_index old_generation index generation) p.moves))
      ∙ ap (λ l. map (entry_before old_index old_generation index generation) p.moves ++ listed_from
      (at + 1) l) (sym none)
      ∙ p.before
    where
      empty : {X : Type 0} (xs : List X) → length xs ≡ 0 → xs ≡ []
      empty [] e = refl
      empty (x ∷ xs) e = absurd (omega arith)

  -- all slots are passed
  pub partly_all : {f : F} {last counter : Option ℕ} {g : ℕ} {old : List (Option (ℕ × U))} {f' : F}
      {from : List (Option (ℕ × U))}
      {to : List (Option (ℕ × T))} {counter' : Option ℕ} {at : ℕ}
      → Partly f last counter g old f' from to counter' at → length from ≤ at
      → MovesOut old_index old_generation index generation step f last counter g (listed_from 1 old)
      to
  partly_all {last} {counter} {old} {f'} p past =
      let passed = nothing_left p past in
      let many : length p.moves ≡ length (listed_from 1 old) =
      sym (length-map p.moves (entry_before old_index old_generation index generation))
      ∙ ap length passed in
      record {
        moves = p.moves;
        last = f';
        calls = p.calls;
        before = passed;
        told = p.told ∙ ap (λ k. steps_wrap last k counter) many;
        after = p.after;
        slots = p.slots;
      }

  -- and the counter was stepped once for each of their entries
  pub partly_stepped : {f : F} {last counter : Option ℕ} {g : ℕ} {old : List (Option (ℕ × U))}
      {f' : F} {from : List (Option (ℕ × U))}
      {to : List (Option (ℕ × T))} {counter' : Option ℕ} {at : ℕ}
      → Partly f last counter g old f' from to counter' at → length from ≤ at
      → counter' ≡ option_map (iterate (next_generation last) (count_by is_some old)) counter
  partly_stepped {last} {counter} {old} p past =
      let passed = nothing_left p past in
      let many : length p.moves ≡ count_by is_some old =
      sym (length-map p.moves (entry_before old_index old_generation index generation))
      ∙ ap length passed
      ∙ listed-length 1 old in
      p.stepped ∙ ap (λ k. option_map (iterate (next_generation last) k) counter) many

module _ {T : Type 0} where
  -- live slots stand at every place
  placed : (g n : ℕ) (values : List T) (k : ℕ) (e : ℕ × (ℕ × T))
      → slice_get (listed_from n (map (slot_with g) values)) k ≡ Some e → index_of e ≡ n + k
  placed g n [] k e found = absurd (cc)
  placed g n (t ∷ values) zero e found =
      let same : (n, (g, t)) ≡ e = cc in
      sym (ap index_of same) ∙ sym (add-zero n)
  placed g n (t ∷ values) (suc k) e found = let rest = placed g (n + 1) values k e found in
      omega arith

  in_place : (g n : ℕ) (values : List T) (k : ℕ)
      → get_or (map (slot_with g) values) k None
      ≡ option_map entry_of_listed (slice_get (listed_from n (map (slot_with g) values)) k)
  in_place g n [] k = refl
  in_place g n (t ∷ values) zero = refl
  in_place g n (t ∷ values) (suc k) = in_place g (n + 1) values k

  generations_of : (g n : ℕ) (values : List T)
      → map generation_of (listed_from n (map (slot_with g) values)) ≡ replicate (length values) g
  generations_of g n [] = refl
  generations_of g n (t ∷ values) = ap (λ l. g ∷ l) (generations_of g (n + 1) values)

  values_of : (g n : ℕ) (values : List T)
      → map value_of (listed_from n (map (slot_with g) values)) ≡ values
  values_of g n [] = refl
  values_of g n (t ∷ values) = ap (λ l. t ∷ l) (values_of g (n + 1) values)

  -- what is known of slots that have these values alone
  pub record Rowed (n g : ℕ) (new : List (Option (ℕ × T))) : Type 0 where
    pub compact : IsCompact (listed_from 1 new)
    pub entries : (k : ℕ)
        → get_or new k None ≡ option_map entry_of_listed (slice_get (listed_from 1 new) k)
    pub generations : map generation_of (listed_from 1 new) ≡ replicate n g
    pub values : new ≡ map (slot_with g) (map value_of (listed_from 1 new))
    pub live : count_by is_some new ≡ n
    pub all : length new ≡ n

  pub rowed : {n g : ℕ} {new : List (Option (ℕ × T))} (values : List T)
      → new ≡ map (slot_with g) values → length values ≡ n → Rowed n g new
  rowed {n} {g} {new} values is many =
      let counted = listed-length 1 new in
      let listed = ap (λ l. length (map value_of (listed_from 1 l))) is
      ∙ ap length (values_of g 1 values) in
      let stands = length-map (listed_from 1 new) value_of in
      let sizes = ap length is in
      let all = length-map values (slot_with g) in
      record {
        compact = λ k e found.
            let at = placed g 1 values k e
            (ap (λ l. slice_get (listed_from 1 l) k) (sym is) ∙ found) in
            omega arith;
        entries = λ k. rw is (in_place g 1 values k);
        generations = ap (λ l. map generation_of (listed_from 1 l)) is ∙ generations_of g 1 values
            ∙ ap (λ k. replicate k g) many;
        values = is ∙ ap (map (slot_with g)) (sym (values_of g 1 values))
            ∙ ap (λ l. map (slot_with g) (map value_of (listed_from 1 l))) (sym is);
        live = omega arith;
        all = omega arith;
      }

module _ {Q U P T F : Type 0} {old_index old_generation : Q → ℕ} {index generation : P → ℕ}
    {step : F → Q → InvalidationOption U → P → T → F → Type 0} where
  -- so many slots as there were entries
  pub out_rowed : {f : F} {last counter : Option ℕ} {g : ℕ} {old : List (ℕ × (ℕ × U))}
      {new : List (Option (ℕ × T))}
      → MovesOut old_index old_generation index generation step f last counter g old new
      → Rowed (length old) g new
  out_rowed m =
      let first = length-map m.moves given_of in
      let second = length-map m.moves (entry_before old_index old_generation index generation) in
      let whole = ap length m.before in
      rowed (map given_of m.moves) m.slots (omega arith)

  pub out_mapped : {f : F} {last counter : Option ℕ} {g : ℕ} {old : List (ℕ × (ℕ × U))}
      {new : List (Option (ℕ × T))}
      → MovesOut old_index old_generation index generation step f last counter g old new
      → IsTransferred old_index old_generation index generation step f last counter old
      (listed_from 1 new)
  out_mapped m = record {
    moves = m.moves;
    last = m.last;
    calls = m.calls;
    before = m.before;
    told = m.told;
    after = m.after;
  }

  -- where a slot is what it holds
  pub out_mapped_direct : {f : F} {last counter : Option ℕ} {g : ℕ} {old : List (ℕ × (ℕ × U))}
      (new : List (Option (ℕ × T)))
      → MovesOut old_index old_generation index generation step f last counter g old
      (map (λ slot. slot) new)
      → IsTransferred old_index old_generation index generation step f last counter old
      (listed_from 1 new)
  out_mapped_direct new m = rw (map-id new) at (out_mapped m)
