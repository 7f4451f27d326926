-- What a compression has done after so many slots, and what it leaves.
use Rattle.std.proofs.Common.{◌≡◌, ℕ, Bool, false, ◌||◌, is_some, count_by, zero, suc, ◌+◌, ◌-◌}
use Rattle.std.proofs.Common.{◌<◌, ◌≤◌, List, [], ◌∷◌, ◌++◌, map, length, get_or, set, take, Option}
use Rattle.std.proofs.Common.{Some, None, slice_get, refl, sym, ap, ◌∙◌, arith, append_assoc}
use Rattle.std.proofs.Common.{append-nil, add-zero, length-append, length-set}
use Rattle.std.specs.List.{FoldsTo, list_any}
use Rattle.std.specs.Option.{option_map}
use Rattle.std.proofs.lemmas.Fn.{FoldsTo-push}
use Rattle.std.proofs.lemmas.List.Folds.{list_any-append}
use Rattle.std.proofs.Math.Bool.{or-false}
use Rattle.std.proofs.lemmas.List.{map_push, take_at, length-map, length_push}
use Rattle.triple_arena_stack.specs.Room.{Room}
use Rattle.triple_arena.specs.Slot.{Slot, entry_of}
use Rattle.triple_arena.specs.Changes.{IsCompressed}
use Rattle.triple_arena.specs.Content.{Content, entry_at, live_count, some_counter}
use Rattle.triple_arena.specs.Layout.{content_of, IsSound}
use Rattle.triple_arena.specs.ContentLaws.{entry_at_slot}
use Rattle.triple_arena.specs.LiveEntries.{listed_from, listed-length, live_entries}
use Rattle.triple_arena.specs.Compression.{renewed, Move, index_of, entry_of_listed, generation_of}
use Rattle.triple_arena.specs.Compression.{value_of, IsCompact, compacted, live_values}
use Rattle.triple_arena.specs.Compression.{entry_before, entry_after, IsMapped}
use Rattle.triple_arena.specs.SlotCompression.{Compacts}
use Rattle.triple_arena.proofs.FreeListLemmas.{none_free, sound_of}

module _ {X : Type 0} where
  pub set_here : (xs ys : List X) (x y : X) (k : ℕ) → k ≡ length xs
      → set (xs ++ x ∷ ys) k y ≡ xs ++ y ∷ ys
  set_here [] ys x y zero at = refl
  set_here [] ys x y (suc k) at = absurd (omega arith)
  set_here (z ∷ xs) ys x y zero at = absurd (omega arith)
  set_here (z ∷ xs) ys x y (suc k) at = ap (λ l. z ∷ l) (set_here xs ys x y k (omega arith))

  pub get_here : (xs ys : List X) (x : X) (k : ℕ) → k ≡ length xs
      → slice_get (xs ++ x ∷ ys) k ≡ Some x
  get_here [] ys x zero at = refl
  get_here [] ys x (suc k) at = absurd (omega arith)
  get_here (z ∷ xs) ys x zero at = absurd (omega arith)
  get_here (z ∷ xs) ys x (suc k) at = get_here xs ys x k (omega arith)

  -- a list that is not empty, by its first item and the others
  pub record Opened (xs : List X) : Type 0 where
    pub first : X
    pub others : List X
    pub is : xs ≡ first ∷ others

  pub opened : (xs : List X) → 0 < length xs → Opened xs
  opened [] some = absurd (omega arith)
  opened (x ∷ xs) some = record { first = x; others = xs; is = refl }

module _ {T : Type 0} where
  -- one more live slot at the end
  pub listed-push : (n : ℕ) (xs : List (Option (ℕ × T))) (e : ℕ × T)
      → listed_from n (xs ++ Some e ∷ []) ≡ listed_from n xs ++ (n + length xs, e) ∷ []
  listed-push n [] e = ap (λ k. (k, e) ∷ []) (omega arith)
  listed-push n (None ∷ xs) e =
      let next : (n + 1) + length xs ≡ n + length (None ∷ xs) = omega arith in
      listed-push (n + 1) xs e ∙ ap (λ k. listed_from (n + 1) xs ++ (k, e) ∷ []) next
  listed-push n (Some x ∷ xs) e =
      let next : (n + 1) + length xs ≡ n + length (Some x ∷ xs) = omega arith in
      ap (λ l. (n, x) ∷ l) (listed-push (n + 1) xs e
      ∙ ap (λ k. listed_from (n + 1) xs ++ (k, e) ∷ []) next)

module _ {G T : Type 0} (number : G → ℕ) where
  -- what was taken out of a slot is what stood there
  pub stood_some : {r : Option (G × T)} (slots : List (Option (ℕ × T))) {i : ℕ} (at : ℕ) {own : G}
      {t : T}
      → Some (option_map (λ e. (number e.0, e.1)) r) ≡ slice_get slots (i - 1) → i ≡ at + 1
      → r ≡ Some (own, t)
      → slice_get slots at ≡ Some (Some (number own, t))
  stood_some slots {i} at stood place is =
      let back : at ≡ i - 1 = omega arith in
      ap (slice_get slots) back ∙ sym stood
      ∙ ap (λ x. Some (option_map (λ (e : G × T). (number e.0, e.1)) x)) is

  pub stood_none : {r : Option (G × T)} (slots : List (Option (ℕ × T))) {i : ℕ} (at : ℕ)
      → Some (option_map (λ e. (number e.0, e.1)) r) ≡ slice_get slots (i - 1) → i ≡ at + 1
      → r ≡ None → slice_get slots at ≡ Some None
  stood_none slots {i} at stood place is =
      let back : at ≡ i - 1 = omega arith in
      ap (slice_get slots) back ∙ sym stood
      ∙ ap (λ x. Some (option_map (λ (e : G × T). (number e.0, e.1)) x)) is

module _ {P T F : Type 0} (index generation : P → ℕ) (step : F → P → T → P → T → F → Type 0) where
  -- what a call leaves in a slot, where entries get their generations renewed so
  abbrev pub stored : (ℕ → ℕ) → Move P T → Option (ℕ × T)
  stored renew move = Some (renew (generation move.from), move.given)

  -- of the slots `old`, `at` are passed and `live` of those were live: these stand in front, then
  -- come slots that do
  -- not matter, and then what is not passed. `wrapped` says whether the test holds of a generation
  -- that was passed
  pub record Partly (f : F) (renew : ℕ → ℕ) (wraps : ℕ → Bool) (old : List (Option (ℕ × T)))
      (f' : F) (now : List (Option (ℕ × T))) (at live : ℕ)
      (wrapped : Bool) : Type 0 where
    pub moves : List (Move P T)
    pub gap : List (Option (ℕ × T))
    pub rest : List (Option (ℕ × T))
    pub calls : FoldsTo (λ h move k. step h move.from move.value move.to move.given k) f moves f'
    pub before : map (entry_before index generation) moves ++ listed_from (at + 1) rest
        ≡ listed_from 1 old
    pub after : map (entry_after index generation) moves ≡ listed_from 1 (map (stored renew) moves)
    pub slots : now ≡ map (stored renew) moves ++ (gap ++ rest)
    pub lives : length moves ≡ live
    pub passed : live + length gap ≡ at
    pub whole : length now ≡ length old
    pub told : wrapped ≡ list_any wraps
        (map generation_of (map (entry_before index generation) moves))

  pub partly_none : {f : F} {renew : ℕ → ℕ} {wraps : ℕ → Bool} {old : List (Option (ℕ × T))}
      → Partly f renew wraps old f old 0 0 false
  partly_none {old} =
      record {
        moves = [];
        gap = [];
        rest = old;
        calls = refl;
        before = refl;
        after = refl;
        slots = refl;
        lives = refl;
        passed = refl;
        whole = refl;
        told = refl;
      }

  pub partly_same : {f : F} {renew : ℕ → ℕ} {wraps : ℕ → Bool} {old : List (Option (ℕ × T))}
      {f' f'' : F} {now now' : List (Option (ℕ × T))}
      {at live live' : ℕ} {wrapped wrapped' : Bool} → f'' ≡ f' → now' ≡ now → live' ≡ live
      → wrapped' ≡ wrapped
      → Partly f renew wraps old f' now at live wrapped
      → Partly f renew wraps old f'' now' at live' wrapped'
  partly_same state slots count told p = rw (state, slots, count, told) p

  -- the next slot, and what comes behind it
  pub record Next (f : F) (renew : ℕ → ℕ) (wraps : ℕ → Bool) (old : List (Option (ℕ × T))) (f' : F)
      (now : List (Option (ℕ × T))) (at live : ℕ)
      (wrapped : Bool) (o : Option (ℕ × T)) : Type 0 where
    pub p : Partly f renew wraps old f' now at live wrapped
    pub rest : List (Option (ℕ × T))
    pub rest_is : p.rest ≡ o ∷ rest
    pub emptied : set now at None ≡ map (stored renew) p.moves ++ ((p.gap ++ None ∷ []) ++ rest)

  pub next_of : {f : F} {renew : ℕ → ℕ} {wraps : ℕ → Bool} {old : List (Option (ℕ × T))} {f' : F}
      {now : List (Option (ℕ × T))} {at live : ℕ}
      {wrapped : Bool} {o : Option (ℕ × T)} → Partly f renew wraps old f' now at live wrapped
      → slice_get now at ≡ Some o → at < length now
      → Next f renew wraps old f' now at live wrapped o
  next_of {renew} {now} {at} {o} p found below =
      let A = map (stored renew) p.moves in
      let lives = p.lives in
      let passed = p.passed in
      let counted = length-map p.moves (stored renew) in
      let sizes = ap length p.slots ∙ length-append A (p.gap ++ p.rest) in
      let more = length-append p.gap p.rest in
      let front = length-append A p.gap in
      let r = opened p.rest (omega arith) in
      let split : now ≡ (A ++ p.gap) ++ r.first ∷ r.others = p.slots
      ∙ ap (λ l. A ++ (p.gap ++ l)) r.is ∙ sym (append_assoc A p.gap (r.first ∷ r.others)) in
      let here : at ≡ length (A ++ p.gap) = omega arith in
      let same : Some r.first ≡ Some o = sym (get_here (A ++ p.gap) r.others r.first at here)
      ∙ ap (λ l. slice_get l at) (sym split) ∙ found in
      let is : r.first ≡ o = cc in
      record {
        p = p;
        rest = r.others;
        rest_is = r.is ∙ ap (λ x. x ∷ r.others) is;
        emptied =
            ap (λ l. set l at None) split
            ∙ set_here (A ++ p.gap) r.others r.first None at here
            ∙ append_assoc A p.gap (None ∷ r.others)
            ∙ ap (λ l. A ++ l) (sym (append_assoc p.gap (None ∷ []) r.others));
      }

  -- a free slot is passed
  pub partly_free : {f : F} {renew : ℕ → ℕ} {wraps : ℕ → Bool} {old : List (Option (ℕ × T))}
      {f' : F} {now now' : List (Option (ℕ × T))}
      {at live i : ℕ} {wrapped : Bool} → Partly f renew wraps old f' now at live wrapped
      → slice_get now at ≡ Some None → at < length now → i ≡ at + 1
      → now' ≡ set now (i - 1) None → Partly f renew wraps old f' now' (at + 1) live wrapped
  partly_free {now} {now'} {at} p found below place written =
      let emptied : now' ≡ set now at None = written ∙ ap (λ k. set now k None) (omega arith) in
      let n = next_of p found below in
      let passed = n.p.passed in
      let longer = length-append n.p.gap (None ∷ []) in
      let whole = n.p.whole in
      let sizes = ap length emptied ∙ length-set now at None in
      record {
        moves = n.p.moves;
        gap = n.p.gap ++ None ∷ [];
        rest = n.rest;
        calls = n.p.calls;
        before = ap (λ l. map (entry_before index generation) n.p.moves ++ listed_from (at + 1) l)
            (sym n.rest_is) ∙ n.p.before;
        after = n.p.after;
        slots = emptied ∙ n.emptied;
        lives = n.p.lives;
        passed = omega arith;
        whole = sizes ∙ whole;
        told = n.p.told;
      }

  -- a live slot is passed: `f'` was called there and left `f''`
  pub partly_live : {f : F} {renew : ℕ → ℕ} {wraps : ℕ → Bool} {old : List (Option (ℕ × T))}
      {f' f'' : F} {now now' now'' : List (Option (ℕ × T))}
      {at live own next i j : ℕ} {t u : T} {from to : P} {wrapped wrapped' : Bool}
      → Partly f renew wraps old f' now at live wrapped
      → slice_get now at ≡ Some (Some (own, t)) → at < length now → i ≡ at + 1
      → now' ≡ set now (i - 1) None → j ≡ live + 1
      → now'' ≡ set now' (j - 1) (Some (next, u)) → index from ≡ i → generation from ≡ own
      → index to ≡ j → generation to ≡ next → next ≡ renew own
      → wrapped' ≡ (wrapped || wraps own) → step f' from t to u f''
      → Partly f renew wraps old f'' now'' (at + 1) (live + 1) wrapped'
  partly_live {renew} {wraps} {f'} {f''} {now} {now'} {now''} {at} {live} {own} {next} {t} {u}
      {from} {to} p found below old_place emptied
      new_place filled from_index from_generation to_index to_generation next_is tells ran =
      let n = next_of p found below in
      let m : Move P T = record { from = from; value = t; to = to; given = u } in
      let left : Some (next, u) ≡ stored renew m =
      ap (λ k. Some (k, u)) (next_is ∙ ap renew (sym from_generation)) in
      let taken : now' ≡ set now at None = emptied ∙ ap (λ k. set now k None) (omega arith) in
      let put : now'' ≡ set now' live (stored renew m) = filled
      ∙ ap (λ k. set now' k (Some (next, u))) (omega arith) ∙ ap (set now' live) left in
      let A = map (stored renew) n.p.moves in
      let lives = n.p.lives in
      let passed = n.p.passed in
      let longer = length-append n.p.gap (None ∷ []) in
      let counted = length-map n.p.moves (stored renew) in
      let y = opened (n.p.gap ++ None ∷ []) (omega arith) in
      let shorter = ap length y.is in
      let sizes = ap length put ∙ length-set now' live (stored renew m) ∙ ap length taken
      ∙ length-set now at None in
      let one_more = length_push n.p.moves m in
      let split : now' ≡ A ++ y.first ∷ (y.others ++ n.rest) = taken ∙ n.emptied
      ∙ ap (λ l. A ++ (l ++ n.rest)) y.is in
      let stands : (at + 1, (own, t)) ≡ entry_before index generation m =
      ap (λ k. (k, (own, t))) (sym (from_index ∙ old_place))
      ∙ ap (λ k. (index from, (k, t))) (sym from_generation) in
      let e : ℕ × T = (renew (generation from), u) in
      let goes : (1 + length A, e) ≡ entry_after index generation m =
      ap (λ k. (k, e)) (omega (arith, to_index, new_place))
      ∙ ap (λ k. (index to, (k, u))) (ap renew from_generation ∙ sym (to_generation ∙ next_is)) in
      let passed_generations = map generation_of (map (entry_before index generation) n.p.moves) in
      record {
        moves = n.p.moves ++ m ∷ [];
        gap = y.others;
        rest = n.rest;
        calls = FoldsTo-push _ _ n.p.moves f' m f'' n.p.calls ran;
        before =
            ap (λ l. l ++ listed_from ((at + 1) + 1) n.rest)
            (map_push (entry_before index generation) n.p.moves m)
            ∙ append_assoc (map (entry_before index generation) n.p.moves)
            (entry_before index generation m ∷ []) (listed_from ((at + 1) + 1) n.rest)
            ∙ ap (λ e. map (entry_before index generation)
            n.p.moves ++ (e ∷ listed_from ((at + 1) + 1) n.rest)) (sym stands)
            ∙ ap (λ l. map (entry_before index generation) n.p.moves ++ listed_from (at + 1) l)
            (sym n.rest_is)
            ∙ n.p.before;
        after =
            map_push (entry_after index generation) n.p.moves m
            ∙ ap (λ l. l ++ entry_after index generation m ∷ []) n.p.after
            ∙ ap (λ e. listed_from 1 A ++ e ∷ []) (sym goes)
            ∙ sym (listed-push 1 A e)
            ∙ ap (listed_from 1) (sym (map_push (stored renew) n.p.moves m));
        slots =
            put
            ∙ ap (λ l. set l live (stored renew m)) split
            ∙ set_here A (y.others ++ n.rest) y.first (stored renew m) live (omega arith)
            ∙ sym (append_assoc A (stored renew m ∷ []) (y.others ++ n.rest))
            ∙ ap (λ l. l ++ (y.others ++ n.rest)) (sym (map_push (stored renew) n.p.moves m));
        lives = omega arith;
        passed = omega arith;
        whole = sizes ∙ n.p.whole;
        told =
            tells
            ∙ ap (λ b. b || wraps own) n.p.told
            ∙ ap (λ b. list_any wraps passed_generations || b)
            (ap wraps (sym from_generation) ∙ sym (or-false (wraps (generation from))))
            ∙ sym (list_any-append wraps passed_generations (generation from ∷ []))
            ∙ ap (list_any wraps)
            (sym (map_push generation_of (map (entry_before index generation) n.p.moves)
            (entry_before index generation m)))
            ∙ ap (λ l. list_any wraps (map generation_of l))
            (sym (map_push (entry_before index generation) n.p.moves m));
      }

  nothing_left : {f : F} {renew : ℕ → ℕ} {wraps : ℕ → Bool} {old : List (Option (ℕ × T))} {f' : F}
      {now : List (Option (ℕ × T))} {at live : ℕ}
      {wrapped : Bool} → (p : Partly f renew wraps old f' now at live wrapped) → length now ≤ at
      → map (entry_before index generation) p.moves ≡ listed_from 1 old
  nothing_left {renew} {at} p past =
      let A = map (stored renew) p.moves in
      let lives = p.lives in
      let passed = p.passed in
      let counted = length-map p.moves (stored renew) in
      let sizes = ap length p.slots ∙ length-append A (p.gap ++ p.rest) in
      let more = length-append p.gap p.rest in
      let none : p.rest ≡ [] = empty p.rest (omega arith) in
      sym (append-nil (map (entry_before index generation) p.moves))
      ∙ ap (λ l. map (entry_before index generation) p.moves ++ listed_from (at + 1) l) (sym none)
      ∙ p.before
    where
      empty : {X : Type 0} (xs : List X) → length xs ≡ 0 → xs ≡ []
      empty [] e = refl
      empty (x ∷ xs) e = absurd (omega arith)

  -- all slots are passed, and those behind the live ones go
  pub partly_all : {f : F} {renew : ℕ → ℕ} {wraps : ℕ → Bool} {old : List (Option (ℕ × T))} {f' : F}
      {now new : List (Option (ℕ × T))} {at live : ℕ}
      {wrapped : Bool} → Partly f renew wraps old f' now at live wrapped → length now ≤ at
      → new ≡ take live now
      → Compacts index generation step f renew old new
  partly_all {renew} {f'} {live} p past kept =
      let A = map (stored renew) p.moves in
      let lives = p.lives in
      let counted = length-map p.moves (stored renew) in
      let front = kept ∙ ap (take live) p.slots ∙ take_at A (p.gap ++ p.rest) live (omega arith) in
      record {
        moves = p.moves;
        last = f';
        calls = p.calls;
        before = nothing_left p past;
        after = p.after ∙ ap (listed_from 1) (sym front);
        slots = front;
      }

  -- and the last call left the map so
  pub partly_last : {f : F} {renew : ℕ → ℕ} {wraps : ℕ → Bool} {old : List (Option (ℕ × T))}
      {f' : F} {now new : List (Option (ℕ × T))} {at live : ℕ}
      {wrapped : Bool} (p : Partly f renew wraps old f' now at live wrapped)
      (past : length now ≤ at) (kept : new ≡ take live now)
      → (partly_all p past kept).last ≡ f'
  unfolding partly_all
  partly_last p past kept = refl

  -- and the test holds of one of their generations, or of none
  pub partly_told : {f : F} {renew : ℕ → ℕ} {wraps : ℕ → Bool} {old : List (Option (ℕ × T))}
      {f' : F} {now : List (Option (ℕ × T))} {at live : ℕ}
      {wrapped : Bool} → Partly f renew wraps old f' now at live wrapped → length now ≤ at
      → wrapped ≡ list_any wraps (map generation_of (listed_from 1 old))
  partly_told {wraps} p past = p.told
      ∙ ap (λ l. list_any wraps (map generation_of l)) (nothing_left p past)

  -- live slots stand at every place
  placed : (renew : ℕ → ℕ) (n : ℕ) (moves : List (Move P T)) (k : ℕ) (e : ℕ × (ℕ × T))
      → slice_get (listed_from n (map (stored renew) moves)) k ≡ Some e
      → index_of e ≡ n + k
  placed renew n [] k e found = absurd (cc)
  placed renew n (m ∷ moves) zero e found =
      let same : (n, (renew (generation m.from), m.given)) ≡ e = cc in
      sym (ap index_of same) ∙ sym (add-zero n)
  placed renew n (m ∷ moves) (suc k) e found = let rest = placed renew (n + 1) moves k e found in
      omega arith

  in_place : (renew : ℕ → ℕ) (n : ℕ) (moves : List (Move P T)) (k : ℕ)
      → get_or (map (stored renew) moves) k None
      ≡ option_map entry_of_listed (slice_get (listed_from n (map (stored renew) moves)) k)
  in_place renew n [] k = refl
  in_place renew n (m ∷ moves) zero = refl
  in_place renew n (m ∷ moves) (suc k) = in_place renew (n + 1) moves k

  generations_of : (renew : ℕ → ℕ) (n : ℕ) (moves : List (Move P T))
      → map generation_of (listed_from n (map (stored renew) moves))
      ≡ map (λ e. renew (generation_of e)) (map (entry_before index generation) moves)
  generations_of renew n [] = refl
  generations_of renew n (m ∷ moves) =
      ap (λ l. renew (generation m.from) ∷ l) (generations_of renew (n + 1) moves)

  -- what is known of slots that were compacted: the entries stand in their order, with their
  -- generations renewed
  pub record Lined (f : F) (renew : ℕ → ℕ) (old new : List (Option (ℕ × T))) : Type 0 where
    pub mapped : IsMapped index generation step f (listed_from 1 old) (listed_from 1 new)
    pub compact : IsCompact (listed_from 1 new)
    pub entries : (k : ℕ)
        → get_or new k None ≡ option_map entry_of_listed (slice_get (listed_from 1 new) k)
    pub generations : map generation_of (listed_from 1 new)
        ≡ map (λ e. renew (generation_of e)) (listed_from 1 old)
    pub live : count_by is_some new ≡ count_by is_some old
    pub all : length new ≡ count_by is_some new

  pub lined : {f : F} {renew : ℕ → ℕ} {old new : List (Option (ℕ × T))}
      → Compacts index generation step f renew old new → Lined f renew old new
  lined {renew} {old} {new} k =
      let moves = k.moves in
      let old_length = listed-length 1 old in
      let new_length = listed-length 1 new in
      let before = ap length k.before in
      let after = ap length k.after in
      let befores = length-map moves (entry_before index generation) in
      let afters = length-map moves (entry_after index generation) in
      let slots = ap length k.slots in
      let all = length-map moves (stored renew) in
      record {
        mapped = record {
          moves = moves;
          last = k.last;
          calls = k.calls;
          before = k.before;
          after = k.after;
        };
        compact = λ i e found.
            let at = placed renew 1 moves i e
            (ap (λ l. slice_get (listed_from 1 l) i) (sym k.slots) ∙ found) in
            omega arith;
        entries = λ i. rw (k.slots) (in_place renew 1 moves i);
        generations = ap (λ l. map generation_of (listed_from 1 l)) k.slots
            ∙ generations_of renew 1 moves ∙ ap (map (λ e. renew (generation_of e))) k.before;
        live = omega arith;
        all = omega arith;
      }

  given_values : (g : ℕ) (moves : List (Move P T))
      → map (λ t. Some (g, t)) (map value_of (map (entry_after index generation) moves))
      ≡ map (stored (λ _. g)) moves
  given_values g [] = refl
  given_values g (m ∷ moves) = ap (λ l. Some (g, m.given) ∷ l) (given_values g moves)

  -- what an arena is after its slots were compacted
  pub record Compacted (f : F) (g : ℕ) (c : Content T) (es : List (Slot T)) (len : ℕ) (room : Room)
      (new : Content T) : Type 0 where
    pub sound : IsSound es len None room
    pub mapped : IsMapped index generation step f (live_entries c) (live_entries new)
    pub content : new ≡ compacted g (live_values new) c
    pub compact : IsCompact (live_entries new)
    pub entries : (k : ℕ)
        → entry_at new (k + 1) ≡ option_map entry_of_listed (slice_get (live_entries new) k)
    pub generations : map generation_of (live_entries new) ≡ map (λ _. g) (live_entries c)
    pub live : live_count new ≡ live_count c

  pub compacted_arena : (f : F) (g g0 : ℕ) (es es' : List (Slot T)) (len : ℕ) (head : Option ℕ)
      (room room' : Room) (c : Content T)
      → Compacts index generation step f (λ _. g) (map entry_of es) (map entry_of es')
      → IsSound es len head room → content_of es room g0 head ≡ c
      → room' ≡ room → Compacted f g c es' len room' (content_of es' room' g None)
  compacted_arena f g g0 es es' len head room room' c k s seen kept =
      let d = lined k in
      let counted = s.counted in
      let total = s.total in
      let fits = s.fits in
      let live = d.live in
      let all = d.all in
      let own = length-map es' entry_of in
      let left = sound_of es' len None [] room (omega arith) (omega arith) (none_free es')
      (omega arith) in
      let new = content_of es' room g None in
      let values : map entry_of es' ≡ map (λ t. Some (g, t)) (live_values new) =
      k.slots ∙ sym (given_values g k.moves)
      ∙ ap (λ l. map (λ t. Some (g, t)) (map value_of l)) k.after in
      rw (← seen, kept)
      record {
        sound = left.sound;
        mapped = d.mapped;
        content = rw (left.free_is) (ap (λ l. record new { slots = l; free = [] }) values);
        compact = d.compact;
        entries = λ k.
            let back : k + 1 - 1 ≡ k = omega arith in
            entry_at_slot new (k + 1) (omega arith) ∙ ap (λ n. get_or new.slots n None) back
            ∙ d.entries k;
        generations = d.generations;
        live = d.live;
      }

  -- a map that gives what it gets leaves the values
  pub values_kept : {f : F} {old new : List (ℕ × (ℕ × T))}
      → ((h k : F) (from to : P) (t u : T) → step h from t to u k → u ≡ t)
      → IsMapped index generation step f old new → map value_of new ≡ map value_of old
  values_kept {f} keeps m = ap (map value_of) (sym m.after) ∙ by_moves m.moves f m.calls
      ∙ ap (map value_of) m.before
    where
      by_moves : (moves : List (Move P T)) (h : F)
          → FoldsTo (λ h move k. step h move.from move.value move.to move.given k) h moves m.last
          → map value_of (map (entry_after index generation) moves)
          ≡ map value_of (map (entry_before index generation) moves)
      by_moves [] h calls = refl
      by_moves (x ∷ moves) h calls =
          let same = keeps h calls.0 x.from x.to x.value x.given calls.1 in
          let rest = by_moves moves calls.0 calls.2 in
          rw same (ap (λ l. x.value ∷ l) rest)

module _ {T : Type 0} where
  -- what an arena is after a compression
  pub record Compressed (last : Option ℕ) (reset : Bool) (c : Content T) (es : List (Slot T))
      (len : ℕ) (room : Room) (new : Content T) : Type 0 where
    pub sound : IsSound es len None room
    pub compressed : IsCompressed entry_at live_count some_counter (λ d. d.room) last live_entries
        reset c new
    pub exact : new ≡ compacted (renewed last reset c.counter) (live_values new) c

module _ {P T F : Type 0} {index generation : P → ℕ} {step : F → P → T → P → T → F → Type 0} where
  -- its slots are compacted, and its counter is renewed
  pub compressed_arena : {f : F} {last : Option ℕ} {reset : Bool} {g g0 : ℕ}
      {es es' : List (Slot T)} {len : ℕ} {head : Option ℕ} {room
      room' : Room} {c : Content T}
      → Compacts index generation step f (λ _. g) (map entry_of es) (map entry_of es')
      → IsSound es len head room → content_of es room g0 head ≡ c
      → room' ≡ room → g ≡ renewed last reset g0
      → Compressed last reset c es' len room' (content_of es' room' g None)
  compressed_arena {f} {last} {reset} {g} {g0} {es} {es'} {len} {head} {room} {room'} {c} k s seen
      kept is =
      let d = compacted_arena index generation step f g g0 es es' len head room room' c k s seen
      kept in
      let next : g ≡ renewed last reset c.counter = is
      ∙ ap (λ x. renewed last reset x.counter) seen in
      record {
        sound = d.sound;
        compressed = record {
          compact = d.compact;
          entries = d.entries;
          generations = d.generations ∙ ap (λ n. map (λ _. n) (live_entries c)) next;
          live = d.live;
          counter = ap Some next;
          room = kept ∙ ap (λ x. x.room) seen;
        };
        exact = d.content ∙ ap (λ n. compacted n (live_values (content_of es' room' g None)) c)
            next;
      }
