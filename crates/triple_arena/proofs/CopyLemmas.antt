-- How a copy comes to be, slot by slot.
use Rattle.std.proofs.Common.{◌≡◌, ℕ, zero, suc, ◌+◌, ◌-◌, ◌<◌, ◌≤◌, List, [], ◌∷◌, ◌++◌, map}
use Rattle.std.proofs.Common.{length, replicate, slice_get, Option, Some, None, is_some, count_by}
use Rattle.std.proofs.Common.{refl, sym, ap, subst, ◌∙◌, arith, append_assoc, append-nil, true}
use Rattle.std.proofs.Common.{false, true≢false, inl, inr, le-leb, Bool, eqb}
use Rattle.std.specs.Prelude.{Result, Ok, Err, OnOk, unwrap_or, ◌⊎◌}
use Rattle.std.specs.Borrow.{Bor}
use Rattle.std.specs.List.{last_or}
use Rattle.std.specs.Option.{option_map}
use Rattle.std.proofs.lemmas.Fn.{FoldsTo-push}
use Rattle.std.proofs.lemmas.List.{map_push, length-map, length_push}
use Rattle.triple_arena_ptr.specs.Generation.{next_generation}
use Rattle.triple_arena_stack.specs.Room.{Room, capacity}
use Rattle.triple_arena.specs.ArenaRoom.{room_with}
use Rattle.triple_arena.specs.Entries.{generation_at, look_up}
use Rattle.triple_arena.specs.Slot.{Slot, entry_of}
use Rattle.triple_arena.specs.Layout.{content_of, IsFreeList, IsSound}
use Rattle.triple_arena.specs.Content.{Content, entry_at, live_count, some_counter, vacant_from}
use Rattle.triple_arena.specs.Content.{reallocated, cleared}
use Rattle.triple_arena.specs.FreeListLaws.{vacant-counted}
use Rattle.triple_arena.specs.Changes.{IsNew}
use Rattle.triple_arena.specs.Compression.{index_of, listed_under}
use Rattle.triple_arena.specs.LiveEntries.{listed_from, listed-length, live_entries, entry-listed}
use Rattle.triple_arena.specs.LiveEntries.{live_entries-length}
use Rattle.triple_arena.specs.Copy.{last_listed, spread, copied, Call, Calls, IsMappedCopy}
use Rattle.triple_arena.specs.Copy.{IsRefusedCopy, IsCopy}
use Rattle.triple_arena.proofs.CompressionLemmas.{listed-push, get_here}
use Rattle.triple_arena.proofs.FreeListLemmas.{none_free, sound_of}

last_of_push : {A : Type 0} (o : Option A) (xs : List A) (x : A) → last_or o (xs ++ x ∷ []) ≡ Some x
last_of_push o [] x = refl
last_of_push o (y ∷ xs) x = last_of_push (Some y) xs x

module _ {T : Type 0} where
  -- the last of a list that has one entry more
  pub last_pushed : (entries : List (ℕ × (ℕ × T))) (e : ℕ × (ℕ × T))
      → last_listed (entries ++ e ∷ []) ≡ index_of e
  last_pushed entries e =
      ap (λ l. unwrap_or (last_or None l) 0) (map_push index_of entries e)
      ∙ ap (λ o. unwrap_or o 0) (last_of_push None (map index_of entries) (index_of e))

  -- one more free slot at the end
  pub listed-push_free : (n : ℕ) (xs : List (Option (ℕ × T)))
      → listed_from n (xs ++ None ∷ []) ≡ listed_from n xs
  listed-push_free n [] = refl
  listed-push_free n (None ∷ xs) = listed-push_free (n + 1) xs
  listed-push_free n (Some e ∷ xs) = ap (λ l. (n, e) ∷ l) (listed-push_free (n + 1) xs)

  -- the last live slot has the last index
  pub last_listed-push : (xs : List (Option (ℕ × T))) (e : ℕ × T)
      → last_listed (listed_from 1 (xs ++ Some e ∷ [])) ≡ length xs + 1
  last_listed-push xs e =
      let at : 1 + length xs ≡ length xs + 1 = omega arith in
      ap last_listed (listed-push 1 xs e) ∙ last_pushed (listed_from 1 xs) (1 + length xs, e) ∙ at

module _ {E U : Type 0} (shown : E → Option (ℕ × U)) where
  unread : {X : Type 0} (read : X → ℕ × U) (r : Option X) → is_some r ≡ false
      → option_map read r ≡ None
  unread read None none = refl
  unread read (Some x) none = absurd (true≢false none)

  -- the last slot is free
  pub ends_free : {X : Type 0} (read : X → ℕ × U) (r : Option X) (all left before : List E)
      (last : E) → left ≡ before ++ last ∷ []
      → option_map read r ≡ shown last → is_some r ≡ false
      → listed_from 1 (map shown left) ≡ listed_from 1 (map shown all)
      → listed_from 1 (map shown before) ≡ listed_from 1 (map shown all)
  ends_free {X} read r all left before last split reads none same =
      let free : shown last ≡ None = sym reads ∙ unread read r none in
      sym (listed-push_free 1 (map shown before))
      ∙ ap (λ o. listed_from 1 (map shown before ++ o ∷ [])) (sym free)
      ∙ ap (listed_from 1) (sym (map_push shown before last))
      ∙ ap (λ l. listed_from 1 (map shown l)) (sym split)
      ∙ same

  -- the last slot is live
  pub ends_live : {X : Type 0} (read : X → ℕ × U) (r : Option X) (all left before : List E)
      (last : E) → left ≡ before ++ last ∷ []
      → option_map read r ≡ shown last → is_some r ≡ true
      → listed_from 1 (map shown left) ≡ listed_from 1 (map shown all)
      → length left ≡ last_listed (listed_from 1 (map shown all))
  ends_live {X} read r all left before last split reads some same = by_slot r reads some
    where
      by_slot : (o : Option X) → option_map read o ≡ shown last → is_some o ≡ true
          → length left ≡ last_listed (listed_from 1 (map shown all))
      by_slot None reads some = absurd (true≢false (sym some))
      by_slot (Some x) reads some =
          let e = read x in
          let is : shown last ≡ Some e = sym reads in
          let sizes = ap length split in
          let longer = length_push before last in
          let mapped = length-map before shown in
          let at : length left ≡ length (map shown before) + 1 = omega arith in
          at
          ∙ sym (last_listed-push (map shown before) e)
          ∙ ap (λ o. last_listed (listed_from 1 (map shown before ++ o ∷ []))) (sym is)
          ∙ ap (λ l. last_listed (listed_from 1 l)) (sym (map_push shown before last))
          ∙ ap (λ l. last_listed (listed_from 1 (map shown l))) (sym split)
          ∙ ap last_listed same

  -- there is no slot
  pub ends_empty : (all left : List E) → length left ≡ 0
      → listed_from 1 (map shown left) ≡ listed_from 1 (map shown all)
      → length left ≡ last_listed (listed_from 1 (map shown all))
  ends_empty all [] none same = ap last_listed same
  ends_empty all (x ∷ left) none same = absurd (omega arith)

module _ {P U T A F : Type 0} (index generation : P → ℕ)
    (step : F → P → Bor U → Result T A → F → Type 0) where
  abbrev shown_at : Call P U T → ℕ × (ℕ × U)
  shown_at call = listed_under index generation call.pointer call.lent.now

  abbrev made_at : Call P U T → ℕ × (ℕ × T)
  made_at call = listed_under index generation call.pointer call.given

  -- the slots before `left` are copied, to `new`, and `live` of them are live
  pub record Copying (f : F) (old : List (Option (ℕ × U))) (f' : F) (left : List (Option (ℕ × U)))
      (new : List (Option (ℕ × T))) (live : ℕ) : Type 0 where
    pub calls : List (Call P U T)
    pub made : Calls step f calls f'
    pub before : map shown_at calls ++ listed_from (length new + 1) left ≡ listed_from 1 old
    pub after : map made_at calls ≡ listed_from 1 new
    pub whole : length new + length left ≡ length old
    pub lives : live ≡ length calls
    pub few : live ≤ length new

  pub copying_none : (f : F) (old : List (Option (ℕ × U))) {new : List (Option (ℕ × T))} → new ≡ []
      → Copying f old f old new 0
  copying_none f old none =
      rw none
      record {
        calls = [];
        made = refl;
        before = refl;
        after = refl;
        whole = omega arith;
        lives = refl;
        few = omega arith;
      }

  -- a free slot more
  pub copying_free : {f : F} {old : List (Option (ℕ × U))} {f' : F}
      {left rest : List (Option (ℕ × U))} {new new' : List (Option (ℕ × T))} {live : ℕ}
      → Copying f old f' left new live → left ≡ None ∷ rest → new' ≡ new ++ None ∷ []
      → Copying f old f' rest new' live
  copying_free {f} {old} {f'} {left} {rest} {new} {new'} c is put =
      let longer = length_push new None in
      let sizes = ap length is in
      let w = c.whole in
      let few = c.few in
      let next : length (new ++ None ∷ []) + 1 ≡ length new + 1 + 1 = omega arith in
      rw put
      record {
        calls = c.calls;
        made = c.made;
        before =
            ap (λ n. map shown_at c.calls ++ listed_from n rest) next
            ∙ ap (λ l. map shown_at c.calls ++ listed_from (length new + 1) l) (sym is)
            ∙ c.before;
        after = c.after ∙ sym (listed-push_free 1 new);
        whole = omega arith;
        lives = c.lives;
        few = omega arith;
      }

  -- a live slot more
  pub copying_live : {f : F} {old : List (Option (ℕ × U))} {f' f'' : F}
      {left rest : List (Option (ℕ × U))} {new new' : List (Option (ℕ × T))}
      {live g i : ℕ} {p : P} {u : Bor U} {t : T} {r : Result T A}
      → Copying f old f' left new live → left ≡ Some (g, u.now) ∷ rest → i ≡ length new + 1
      → index p ≡ i → generation p ≡ g
      → step f' p u r f'' → r ≡ Ok t → new' ≡ new ++ Some (g, t) ∷ []
      → Copying f old f'' rest new' (live + 1)
  copying_live {f} {old} {f'} {f''} {left} {rest} {new} {new'} {live} {g} {i} {p} {u} {t} {r} c is
      place has_index has_generation called given put =
      let ran : step f' p u (Ok t) f'' = subst (λ x. step f' p u x f'') given called in
      let call : Call P U T = record { pointer = p; lent = u; given = t } in
      let longer = length_push new (Some (g, t)) in
      let sizes = ap length is in
      let counted = length_push c.calls call in
      let w = c.whole in
      let l = c.lives in
      let few = c.few in
      let next : length (new ++ Some (g, t) ∷ []) + 1 ≡ length new + 1 + 1 = omega arith in
      let at : 1 + length new ≡ index p = omega arith in
      let seen : shown_at call ≡ (length new + 1, (g, u.now)) =
      ap (λ k. (k, (generation p, u.now))) (has_index ∙ place)
      ∙ ap (λ k. (length new + 1, (k, u.now))) has_generation in
      let gives : (1 + length new, (g, t)) ≡ made_at call =
      ap (λ k. (k, (g, t))) at ∙ ap (λ k. (index p, (k, t))) (sym has_generation) in
      rw put
      record {
        calls = c.calls ++ call ∷ [];
        made = FoldsTo-push _ _ c.calls f' call f'' c.made ran;
        before =
            ap (λ l. l ++ listed_from (length (new ++ Some (g, t) ∷ []) + 1) rest)
            (map_push shown_at c.calls call)
            ∙ append_assoc (map shown_at c.calls) (shown_at call ∷ [])
            (listed_from (length (new ++ Some (g, t) ∷ []) + 1) rest)
            ∙ ap (λ n. map shown_at c.calls ++ (shown_at call ∷ listed_from n rest)) next
            ∙ ap (λ e. map shown_at c.calls ++ (e ∷ listed_from (length new + 1 + 1) rest)) seen
            ∙ ap (λ l. map shown_at c.calls ++ listed_from (length new + 1) l) (sym is)
            ∙ c.before;
        after =
            map_push made_at c.calls call
            ∙ ap (λ l. l ++ made_at call ∷ []) c.after
            ∙ ap (λ e. listed_from 1 new ++ e ∷ []) (sym gives)
            ∙ sym (listed-push 1 new (g, t));
        whole = omega arith;
        lives = omega arith;
        few = omega arith;
      }

  -- the next one is refused
  pub copying_refused : {f : F} {old : List (Option (ℕ × U))} {f' f'' : F}
      {left rest : List (Option (ℕ × U))} {new : List (Option (ℕ × T))}
      {live g i : ℕ} {p : P} {u : Bor U} {e : A} {r : Result T A}
      → Copying f old f' left new live → left ≡ Some (g, u.now) ∷ rest → i ≡ length new + 1
      → index p ≡ i → generation p ≡ g
      → step f' p u r f'' → r ≡ Err e → IsRefusedCopy index generation step f (listed_from 1 old)
  copying_refused {f} {old} {f'} {f''} {left} {rest} {new} {live} {g} {i} {p} {u} {e} {r} c is place
      has_index has_generation called refused =
      let ran : step f' p u (Err e) f'' = subst (λ x. step f' p u x f'') refused called in
      let seen : listed_under index generation p u.now ≡ (length new + 1, (g, u.now)) =
      ap (λ k. (k, (generation p, u.now))) (has_index ∙ place)
      ∙ ap (λ k. (length new + 1, (k, u.now))) has_generation in
      record {
        calls = c.calls;
        refusing = f';
        last = f'';
        pointer = p;
        lent = u;
        error = e;
        rest = listed_from (length new + 1 + 1) rest;
        made = c.made;
        refused = ran;
        before =
            ap (λ x. map shown_at c.calls ++ (x ∷ listed_from (length new + 1 + 1) rest)) seen
            ∙ ap (λ l. map shown_at c.calls ++ listed_from (length new + 1) l) (sym is)
            ∙ c.before;
      }

  -- all slots are copied
  pub record Copied (f : F) (old : List (Option (ℕ × U))) (new : List (Option (ℕ × T)))
      (live : ℕ) : Type 0 where
    pub mapped : IsMappedCopy index generation step f (listed_from 1 old) (listed_from 1 new)
    pub whole : length new ≡ length old
    pub lives : live ≡ count_by is_some new

  pub copying_all : {f : F} {old : List (Option (ℕ × U))} {f' : F} (left : List (Option (ℕ × U)))
      {new : List (Option (ℕ × T))} {live : ℕ}
      → length left ≡ 0 → Copying f old f' left new live → Copied f old new live
  copying_all {f} {old} {f'} [] {new} none c =
      let after = ap length c.after in
      let counted = length-map c.calls made_at in
      let lives = c.lives in
      let listed = listed-length 1 new in
      let w = c.whole in
      record {
        mapped = record {
          calls = c.calls;
          last = f';
          made = c.made;
          before = sym (append-nil (map shown_at c.calls)) ∙ c.before;
          after = c.after;
        };
        whole = omega arith;
        lives = omega arith;
      }
  copying_all {f} {old} {f'} (x ∷ left) none c = absurd (omega arith)

-- what the first slot holds, and what comes behind it
pub first_shown : {E U X : Type 0} (shown : E → Option (ℕ × U)) (read : X → ℕ × U)
    {left rest : List E} {slot : E} {r : Option X} {x : X}
    → left ≡ slot ∷ rest → option_map read r ≡ shown slot → r ≡ Some x
    → map shown left ≡ Some (read x) ∷ map shown rest
first_shown shown read {left} {rest} {slot} split reads is =
    ap (map shown) split ∙ ap (λ o. o ∷ map shown rest) (sym reads ∙ ap (option_map read) is)

pub first_free : {E U X : Type 0} (shown : E → Option (ℕ × U)) (read : X → ℕ × U)
    {left rest : List E} {slot : E} {r : Option X}
    → left ≡ slot ∷ rest → option_map read r ≡ shown slot → r ≡ None
    → map shown left ≡ None ∷ map shown rest
first_free shown read {left} {rest} {slot} split reads is =
    ap (map shown) split ∙ ap (λ o. o ∷ map shown rest) (sym reads ∙ ap (option_map read) is)

-- what a slot more holds
pub pushed_slot : {L T : Type 0} (entry : L → Option (ℕ × T)) (new : List L) {new' : List L}
    {slot : L} {o : Option (ℕ × T)} → new' ≡ new ++ slot ∷ []
    → entry slot ≡ o → map entry new' ≡ map entry new ++ o ∷ []
pushed_slot entry new {new'} {slot} put is = ap (map entry) put ∙ map_push entry new slot
    ∙ ap (λ o. map entry new ++ o ∷ []) is

module _ {T : Type 0} where
  last_either : (x : ℕ × (ℕ × T)) (entries : List (ℕ × (ℕ × T)))
      → (last_listed (x ∷ entries) ≡ x.0) ⊎ (last_listed (x ∷ entries) ≡ last_listed entries)
  last_either x [] = inl refl
  last_either x (y ∷ entries) = inr refl

  free_more : (k : ℕ) (xs : List (Option (ℕ × T)))
      → replicate (suc k) None ++ xs ≡ replicate k None ++ None ∷ xs
  free_more zero xs = refl
  free_more (suc k) xs = ap (λ l. None ∷ l) (free_more k xs)

  spread_from : (n k m : ℕ) (xs : List (Option (ℕ × T))) → 0 < n → m ≡ n + k
      → last_listed (listed_from m xs) + 1 ≡ m + length xs
      → spread n (listed_from m xs) ≡ replicate k None ++ xs
  spread_from n k m [] some is last =
      let none : 0 ≡ k = omega arith in
      ap (λ j. replicate j None ++ []) none
  spread_from n k m (None ∷ xs) some is last =
      spread_from n (suc k) (m + 1) xs some (omega arith) (omega arith) ∙ free_more k xs
  spread_from n k m (Some e ∷ []) some is last =
      let gap : m - n ≡ k = omega arith in
      ap (λ j. replicate j None ++ Some e ∷ []) gap
  spread_from n k m (Some e ∷ (x ∷ xs)) some is last =
      let gap : m - n ≡ k = omega arith in
      let rest : spread (m + 1) (listed_from (m + 1) (x ∷ xs)) ≡ x ∷ xs =
      elim (last_either (m, e) (listed_from (m + 1) (x ∷ xs))) [
        | inl first ↦ absurd (omega (arith, first, last))
        | inr same ↦ spread_from (m + 1) 0 (m + 1) (x ∷ xs) (omega arith) (omega arith)
            (omega (arith, same, last))
      ] in
      ap (λ j. replicate j None ++ Some e ∷ spread (m + 1) (listed_from (m + 1) (x ∷ xs))) gap
      ∙ ap (λ l. replicate k None ++ Some e ∷ l) rest

  -- slots of which the last one is live are those that hold their entries
  pub spread_listed : (xs : List (Option (ℕ × T))) → length xs ≡ last_listed (listed_from 1 xs)
      → spread 1 (listed_from 1 xs) ≡ xs
  spread_listed xs last = spread_from 1 0 1 xs (omega arith) (omega arith) (omega arith)

  none_vacant : (es : List (Slot T)) (l : List ℕ) → length l ≡ 0 → IsFreeList es None l
  none_vacant es [] none = none_free es
  none_vacant es (i ∷ l) none = absurd (omega arith)

  -- where all slots are live, none is on the list of free slots
  pub all_live : (es : List (Slot T)) (live : ℕ) → live ≡ count_by is_some (map entry_of es)
      → live ≡ length es
      → IsFreeList es None (vacant_from 1 (map entry_of es))
  all_live es live counted all =
      let total = vacant-counted 1 (map entry_of es) in
      let sizes = length-map es entry_of in
      none_vacant es (vacant_from 1 (map entry_of es)) (omega arith)

module _ {G : Type 0} (number : G → ℕ) where
  pub number_or : (o : Option G) (own : G)
      → number (unwrap_or o own) ≡ unwrap_or (option_map number o) (number own)
  number_or None own = refl
  number_or (Some g) own = refl

-- a room that has so much is the same with at least that
pub room_enough : (n : ℕ) (room : Room) → n ≤ capacity room → room_with n room ≡ room
room_enough n room enough = rw (le-leb n (capacity room) enough) refl

module _ {P U T A F : Type 0} (index generation : P → ℕ)
    (step : F → P → Bor U → Result T A → F → Type 0) where
  same_indexes : (calls : List (Call P U T))
      → map index_of (map (shown_at index generation step) calls)
      ≡ map index_of (map (made_at index generation step) calls)
  same_indexes [] = refl
  same_indexes (call ∷ calls) = ap (λ l. index call.pointer ∷ l) (same_indexes calls)

  -- a copy has the last index of its source
  pub last_copied : {f : F} {old : List (ℕ × (ℕ × U))} {new : List (ℕ × (ℕ × T))}
      → IsMappedCopy index generation step f old new
      → last_listed old ≡ last_listed new
  last_copied m =
      ap last_listed (sym m.before)
      ∙ ap (λ l. unwrap_or (last_or None l) 0) (same_indexes m.calls)
      ∙ ap last_listed m.after

  -- what an arena is whose slots are copies
  pub record CopiedArena (f : F) (old : List (ℕ × (ℕ × U))) (c : Content T) (counter : Option ℕ)
      (es : List (Slot T)) (len : ℕ) (head : Option ℕ) (room : Room)
      (new : Content T) : Type 0 where
    pub sound : IsSound es len head room
    pub mapped : IsMappedCopy index generation step f old (live_entries new)
    pub exact : new ≡ copied c counter (live_entries new)

  pub copied_arena : {E : Type 0} (shown : E → Option (ℕ × U)) (source : List E) {f : F}
      (c : Content T) (counter : Option ℕ) (es es' : List (Slot T))
      {len g : ℕ} {head : Option ℕ} {room : Room}
      → IsMappedCopy index generation step f (listed_from 1 (map shown source))
      (listed_from 1 (map entry_of es))
      → length es ≡ length source → length source ≡ last_listed (listed_from 1 (map shown source))
      → len ≡ count_by is_some (map entry_of es)
      → map entry_of es' ≡ map entry_of es → IsFreeList es' head (vacant_from 1 (map entry_of es))
      → length source ≤ capacity c.room → room ≡ c.room → g ≡ unwrap_or counter c.counter
      → CopiedArena f (listed_from 1 (map shown source)) c counter es' len head room
      (content_of es' room g head)
  copied_arena shown source {f} c counter es es' {len} {g} {head} {room} m whole last lives same
      chain fits room_is counter_is =
      let slots = map entry_of es in
      let total = vacant-counted 1 slots in
      let sizes = length-map es entry_of in
      let sizes' = length-map es' entry_of in
      let kept = ap length same in
      let ends : length slots ≡ last_listed (listed_from 1 slots) =
      omega (arith, whole, last, sizes, last_copied m) in
      let s = sound_of es' len head (vacant_from 1 slots) room
      (lives ∙ sym (ap (count_by is_some) same))
      (omega (arith, lives, total, sizes, sizes', kept))
      chain (omega (arith, whole, fits, sizes, sizes', kept, ap capacity room_is)) in
      let spreads = spread_listed slots ends in
      let enough : last_listed (listed_from 1 slots) ≤ capacity room =
      omega (arith, ends, sizes, whole, fits, ap capacity room_is) in
      let stays = room_enough (last_listed (listed_from 1 slots)) room enough in
      record {
        sound = s.sound;
        mapped = rw same m;
        exact = rw (s.free_is, same, spreads, counter_is, ← room_is, stays) refl;
      }

  same_pointers : (calls : List (Call P U T)) (j : ℕ)
      → option_map (λ (e : ℕ × T). e.0) (look_up (map (made_at index generation step) calls) j)
      ≡ option_map (λ (e : ℕ × U). e.0) (look_up (map (shown_at index generation step) calls) j)
  same_pointers [] j = refl
  same_pointers (call ∷ calls) j = by_test (same_pointers calls j) (eqb (index call.pointer) j) refl
    where
      by_test : option_map (λ (e : ℕ × T). e.0)
          (look_up (map (made_at index generation step) calls) j)
          ≡ option_map (λ (e : ℕ × U). e.0) (look_up (map (shown_at index generation step) calls) j)
          → (b : Bool) → eqb (index call.pointer) j ≡ b
          → option_map (λ (e : ℕ × T). e.0)
          (look_up (map (made_at index generation step) (call ∷ calls)) j)
          ≡ option_map (λ (e : ℕ × U). e.0)
          (look_up (map (shown_at index generation step) (call ∷ calls)) j)
      by_test rest true is = rw is refl
      by_test rest false is = rw is rest

  -- what is known of any copy, by what its entries are
  pub record Mirrors (source : ℕ → Option (ℕ × U)) (source_live : ℕ) (entries : List (ℕ × (ℕ × U)))
      (new : List (ℕ × (ℕ × T))) : Type 0 where
    pub pointers : (j : ℕ)
        → option_map (λ (e : ℕ × T). e.0) (look_up new j) ≡ generation_at source j
    pub live : length new ≡ source_live
    pub last : last_listed new ≡ last_listed entries

  pub mirrors : {f : F} {old : List (ℕ × (ℕ × U))} {source : ℕ → Option (ℕ × U)} {source_live : ℕ}
      {entries : List (ℕ × (ℕ × U))} {new : List (ℕ × (ℕ × T))}
      → IsMappedCopy index generation step f old new → old ≡ entries
      → ((j : ℕ) → source j ≡ look_up entries j) → length entries ≡ source_live
      → Mirrors source source_live entries new
  mirrors {f} {old} {source} {source_live} {entries} {new} m same listed counted =
      let before = ap length m.before in
      let after = ap length m.after in
      let befores = length-map m.calls (shown_at index generation step) in
      let afters = length-map m.calls (made_at index generation step) in
      let all = ap length same in
      record {
        pointers = λ j.
            ap (λ l. option_map (λ (e : ℕ × T). e.0) (look_up l j)) (sym m.after)
            ∙ same_pointers m.calls j
            ∙ ap (λ l. option_map (λ (e : ℕ × U). e.0) (look_up l j)) (m.before ∙ same)
            ∙ ap (option_map (λ (e : ℕ × U). e.0)) (sym (listed j));
        live = omega arith;
        last = sym (last_copied m) ∙ ap last_listed same;
      }

module _ {T : Type 0} where
  -- a copy into an arena that was grown to the last index
  pub copied_grown : (c : Content T) (n : ℕ) (counter : Option ℕ) (entries : List (ℕ × (ℕ × T)))
      → last_listed entries ≡ n → n ≤ capacity (room_with n c.room)
      → copied (reallocated c n) counter entries ≡ copied c counter entries
  copied_grown c n counter entries last fits =
      let in_this : Room → Content T =
      λ r. record {
        slots = spread 1 entries;
        counter = unwrap_or counter c.counter;
        free = vacant_from 1 (spread 1 entries);
        room = r;
      } in
      let stays : room_with (last_listed entries) (room_with n c.room)
      ≡ room_with (last_listed entries) c.room =
      rw last (room_enough n (room_with n c.room) fits) in
      ap in_this stays

  -- what an arena is that was grown and then became a copy
  pub record GrownCopy {U : Type 0} (source : ℕ → Option (ℕ × U)) (source_live last : ℕ)
      (counter : Option ℕ) (c new : Content T) : Type 0 where
    pub exact : new ≡ copied c counter (live_entries new)
    pub copy : IsCopy entry_at live_count some_counter (λ d. d.room) source source_live last counter
        c new

  -- an arena that was grown and then cleared
  pub emptied : (g : Option ℕ) {n last : ℕ} (c : Content T) {grown new : Content T}
      → new ≡ cleared g grown → grown ≡ reallocated c n → n ≡ last
      → IsNew entry_at live_count some_counter (λ d. d.room)
      (option_map (next_generation g) (some_counter c)) (room_with last c.room) new
      × (new ≡ cleared g (reallocated c last))
  emptied g {n} {last} c {grown} {new} is grew at =
      let whole : new ≡ cleared g (reallocated c last) = is
      ∙ ap (cleared g) (grew ∙ ap (reallocated c) at) in (
        record {
          entries = λ j. ap (λ x. entry_at x j) whole ∙ no_entry g (reallocated c last) j;
          live = ap live_count whole;
          counter = ap some_counter whole;
          room = ap (λ x. x.room) whole;
        },
        whole,
      )
    where
      no_entry : (g : Option ℕ) (c : Content T) (j : ℕ) → entry_at (cleared g c) j ≡ None
      no_entry g c zero = refl
      no_entry g c (suc j) = refl

module _ {P U T A F : Type 0} (index generation : P → ℕ)
    (step : F → P → Bor U → Result T A → F → Type 0) where
  pub grown_copy : {f : F} {old : List (ℕ × (ℕ × U))} {source : ℕ → Option (ℕ × U)}
      {source_live n : ℕ} {entries : List (ℕ × (ℕ × U))}
      {counter given : Option ℕ}
      (c : Content T) {grown new : Content T}
      → IsMappedCopy index generation step f old (live_entries new) → old ≡ entries
      → ((j : ℕ) → source j ≡ look_up entries j) → length entries ≡ source_live
      → new ≡ copied grown given (live_entries new) → given ≡ counter → grown ≡ reallocated c n
      → n ≡ last_listed entries → n ≤ capacity grown.room
      → GrownCopy source source_live (last_listed entries) counter c new
  grown_copy {f} {old} {source} {source_live} {n} {entries} {counter} {given} c {grown} {new} m same
      listed counted is takes grew at fits =
      let q = mirrors index generation step m same listed counted in
      let live = live_entries-length new in
      let l = q.live in
      let enough : n ≤ capacity (room_with n c.room) = subst (λ x. n ≤ capacity x.room) grew fits in
      let exact : new ≡ copied c counter (live_entries new) =
      is ∙ ap (λ x. copied x given (live_entries new)) grew
      ∙ ap (λ o. copied (reallocated c n) o (live_entries new)) takes
      ∙ copied_grown c n counter (live_entries new) (q.last ∙ sym at) enough in
      record {
        exact = exact;
        copy = record {
          pointers = λ j. ap (option_map (λ (e : ℕ × T). e.0)) (entry-listed new j) ∙ q.pointers j;
          live = omega arith;
          counter = ap some_counter exact;
          room = ap (λ x. x.room) exact ∙ ap (λ k. room_with k c.room) q.last;
        };
      }

  -- a value that was refused is one of the entries
  pub refused_at : {f : F} {old : List (ℕ × (ℕ × U))}
      → (r : IsRefusedCopy index generation step f old)
      → slice_get old (length r.calls) ≡ Some (listed_under index generation r.pointer r.lent.now)
  refused_at r =
      ap (λ l. slice_get l (length r.calls)) (sym r.before)
      ∙ get_here (map (shown_at index generation step) r.calls) r.rest
      (listed_under index generation r.pointer r.lent.now) (length r.calls)
      (sym (length-map r.calls (shown_at index generation step)))

  pub refused_same : {f : F} {old entries : List (ℕ × (ℕ × U))} → old ≡ entries
      → IsRefusedCopy index generation step f old
      → IsRefusedCopy index generation step f entries
  refused_same {f} same r = subst (IsRefusedCopy index generation step f) same r

-- what follows of two facts where a call succeeded
pub on_ok : {X E A B C : Type 0} (r : Result X E) → (A → B → C) → OnOk r A → OnOk r B → OnOk r C
on_ok (Ok x) gives a b = gives a b
on_ok (Err e) gives a b = tt
