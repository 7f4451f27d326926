-- What a compression that notes the new pointers has done, and what it leaves.
use Rattle.std.proofs.Common.{◌≡◌, ℕ, Bool, inl, inr, zero, suc, ◌+◌, ◌-◌, ◌<◌, ◌≤◌, List, [], ◌∷◌}
use Rattle.std.proofs.Common.{◌++◌, map, length, get_or, set, replicate, Option, Some, None}
use Rattle.std.proofs.Common.{slice_get, refl, sym, ap, ◌∙◌, arith, append_assoc, append-nil}
use Rattle.std.specs.Prelude.{unwrap_or}
use Rattle.std.specs.List.{FoldsTo, last_or}
use Rattle.triple_arena_stack.specs.Room.{Room}
use Rattle.triple_arena.specs.Copy.{last_listed, spread, directly_copied}
use Rattle.triple_arena.specs.CopyLaws.{last_listed-is}
use Rattle.triple_arena.proofs.CopyLemmas.{last_pushed, spread_listed, room_enough}
use Rattle.triple_arena.specs.Iterators.{pointer_of}
use Rattle.triple_arena.specs.LiveEntries.{listed_from, live_entries as live_entries_of}
use Rattle.std.proofs.lemmas.Bool.Decides.{leb_tells}
use Rattle.triple_arena.specs.Content.{Content, last_index}
use Rattle.triple_arena.specs.FreeListLaws.{last_index-is}
use Rattle.triple_arena.proofs.CompressionLemmas.{Partly, next_of, get_here}
use Rattle.triple_arena.specs.Compression.{Move, index_of, entry_of_listed, entry_before}
use Rattle.triple_arena.specs.Compression.{entry_after}
use Rattle.triple_arena.specs.DirectContent.{DirectContent, entry_at, arena_capacity, reaching}
use Rattle.triple_arena.specs.DirectContent.{live_entries, IsPlace}
use Rattle.triple_arena.specs.Recaster.{pointer_in, IsRecaster}
use Rattle.triple_arena.specs.RecasterLaws.{stands}
use Rattle.triple_arena.specs.SlotRecaster.{notes, CompactsNoting}

module _ {X : Type 0} where
  -- a slot past the others is listed after them
  listed-past : (n k : ℕ) (m : ℕ) (e : ℕ × X) → m ≡ suc k
      → listed_from n (set (replicate m None) k (Some e)) ≡ (n + k, e) ∷ []
  listed-past n zero zero e same = absurd (omega arith)
  listed-past n zero (suc m) e same =
      let none : m ≡ 0 = omega arith in
      let here : n ≡ n + 0 = omega arith in
      rw none (ap (λ i. (i, e) ∷ []) here)
  listed-past n (suc k) zero e same = absurd (omega arith)
  listed-past n (suc k) (suc m) e same =
      let next : (n + 1) + k ≡ n + suc k = omega arith in
      listed-past (n + 1) k m e (omega arith) ∙ ap (λ i. (i, e) ∷ []) next

  padded : (n k m : ℕ) (xs : List (Option (ℕ × X))) (e : ℕ × X) → length xs ≤ k
      → m ≡ suc k - length xs
      → listed_from n (set (xs ++ replicate m None) k (Some e))
      ≡ listed_from n xs ++ (n + k, e) ∷ []
  padded n k m [] e past same = listed-past n k m e (omega arith)
  padded n zero m (x ∷ xs) e past same = absurd (omega arith)
  padded n (suc k) m (None ∷ xs) e past same =
      let next : (n + 1) + k ≡ n + suc k = omega arith in
      padded (n + 1) k m xs e (omega arith) (omega arith)
      ∙ ap (λ i. listed_from (n + 1) xs ++ (i, e) ∷ []) next
  padded n (suc k) m (Some y ∷ xs) e past same =
      let next : (n + 1) + k ≡ n + suc k = omega arith in
      ap (λ l. (n, y) ∷ l) (padded (n + 1) k m xs e (omega arith) (omega arith)
      ∙ ap (λ i. listed_from (n + 1) xs ++ (i, e) ∷ []) next)

  -- an insertion past the slots
  pub listed_more : (d : DirectContent X) {at i : ℕ} (g : ℕ) (t : X) → length d.slots ≤ at
      → i ≡ at + 1
      → listed_from 1 (set (reaching i d.slots) (i - 1) (Some (g, t)))
      ≡ live_entries d ++ (i, (g, t)) ∷ []
  listed_more d {at} {i} g t past place =
      let back : i - 1 ≡ at = omega arith in
      let whole : i ≡ suc at = omega arith in
      let first : 1 + at ≡ i = omega arith in
      ap (λ k. listed_from 1 (set (reaching i d.slots) k (Some (g, t)))) back
      ∙ padded 1 at (i - length d.slots) d.slots (g, t) past (ap (λ k. k - length d.slots) whole)
      ∙ ap (λ k. live_entries d ++ (k, (g, t)) ∷ []) first

  nothing_past : (xs : List (Option (ℕ × X))) (k : ℕ) → length xs ≤ k → get_or xs k None ≡ None
  nothing_past [] k past = refl
  nothing_past (x ∷ xs) zero past = absurd (omega arith)
  nothing_past (x ∷ xs) (suc k) past = nothing_past xs k (omega arith)

  -- an index past the slots is a place where it is within the capacity
  pub place_past : (d : DirectContent X) {at i : ℕ} → length d.slots ≤ at → i ≡ at + 1
      → at < arena_capacity d → IsPlace d i
  place_past d {at} {i} past place below =
      record { positive = omega arith; fits = omega arith; vacant = vacant i place }
    where
      vacant : (j : ℕ) → j ≡ at + 1 → entry_at d j ≡ None
      vacant zero same = absurd (omega arith)
      vacant (suc k) same = nothing_past d.slots k (omega arith)

  -- the slots end at the last entry where there is none
  pub ends_none : {xs : List (Option (ℕ × X))} → xs ≡ []
      → length xs ≡ last_listed (listed_from 1 xs)
  ends_none none = rw none refl

  -- and after an insertion past the others
  pub ends_more : (entries : List (ℕ × (ℕ × X))) (e : ℕ × (ℕ × X)) (slots : List (Option (ℕ × X)))
      → listed_from 1 slots ≡ entries ++ e ∷ []
      → length slots ≡ e.0 → length slots ≡ last_listed (listed_from 1 slots)
  ends_more entries e slots more long = long ∙ sym (ap last_listed more ∙ last_pushed entries e)

  indexes_of : (entries : List (ℕ × (ℕ × X)))
      → map (λ (p : ℕ × ℕ). p.0) (map pointer_of entries) ≡ map index_of entries
  indexes_of [] = refl
  indexes_of (e ∷ entries) = ap (λ l. e.0 ∷ l) (indexes_of entries)

-- entries with the same pointers end at the same index
last_same : {X Y : Type 0} (xs : List (ℕ × (ℕ × X))) (ys : List (ℕ × (ℕ × Y)))
    → map pointer_of xs ≡ map pointer_of ys → last_listed xs ≡ last_listed ys
last_same xs ys same =
    ap (λ l. unwrap_or (last_or None l) 0)
    (sym (indexes_of xs) ∙ ap (map (λ (p : ℕ × ℕ). p.0)) same ∙ indexes_of ys)

-- slots that end at their last entry are a copy of it, in a room that it fits in
pub exact_map : {P T : Type 0} (c : Content T) (d d' : DirectContent P)
    → map pointer_of (live_entries d') ≡ map pointer_of (live_entries_of c)
    → length d'.slots ≡ last_listed (live_entries d') → d'.room ≡ d.room
    → last_index c ≤ arena_capacity d
    → d' ≡ directly_copied d (live_entries d')
exact_map {P} c d d' from ends kept fits =
    let last = last_same (live_entries d') (live_entries_of c) from ∙ last_listed-is c in
    let stays = room_enough (last_listed (live_entries d')) d.room (omega (arith, last, fits)) in
    let shape : List (Option (ℕ × P)) → Room
    → DirectContent P = λ slots room. record { slots = slots; room = room } in
    ap (λ slots. shape slots d'.room) (sym (spread_listed d'.slots ends))
    ∙ ap (shape (spread 1 (live_entries d'))) (kept ∙ sym stays)

-- a new pointer is noted under an old one
pub noted_one : {P T : Type 0} (index generation : P → ℕ) (l : List (ℕ × (ℕ × P)))
    {l' : List (ℕ × (ℕ × P))} (from to : P) {t : T} {i g : ℕ}
    → l' ≡ l ++ (i, (g, to)) ∷ [] → index from ≡ i → g ≡ generation from
    → notes index generation l from t to t l'
noted_one index generation l from to {g} more place own = (
  refl,
  more ∙ ap (λ k. l ++ (k, (g, to)) ∷ []) (sym place)
      ∙ ap (λ k. l ++ (index from, (k, to)) ∷ []) own,
)

module _ {P T : Type 0} (index generation : P → ℕ) where
  -- what was noted
  abbrev noted : Move P T → ℕ × (ℕ × P)
  noted move = (index move.from, (generation move.from, move.to))

  all_noted : (moves : List (Move P T)) (first last : List (ℕ × (ℕ × P)))
      → FoldsTo (λ l move k. notes index generation l move.from move.value move.to move.given k)
      first moves last
      → last ≡ first ++ map noted moves
  all_noted [] first last calls = sym calls ∙ sym (append-nil first)
  all_noted (m ∷ moves) first last calls =
      all_noted moves calls.0 last calls.2
      ∙ ap (λ l. l ++ map noted moves) calls.1.1
      ∙ append_assoc first (noted m ∷ []) (map noted moves)

  noted_from : (moves : List (Move P T))
      → map pointer_of (map noted moves)
      ≡ map pointer_of (map (entry_before index generation) moves)
  noted_from [] = refl
  noted_from (m ∷ moves) = ap (λ l. (index m.from, generation m.from) ∷ l) (noted_from moves)

  noted_to : (moves : List (Move P T))
      → map (pointer_in index generation) (map noted moves)
      ≡ map pointer_of (map (entry_after index generation) moves)
  noted_to [] = refl
  noted_to (m ∷ moves) = ap (λ l. (index m.to, generation m.to) ∷ l) (noted_to moves)

  -- what was noted is the map
  pub is_recaster : {g : ℕ} {old new : List (Option (ℕ × T))} {entries : List (ℕ × (ℕ × P))}
      → CompactsNoting index generation g old new entries
      → IsRecaster index generation (listed_from 1 old) (listed_from 1 new) entries
  is_recaster n =
      let k = n.moved in
      let all = sym n.all ∙ all_noted k.moves [] k.last k.calls in
      record {
        from = ap (map pointer_of) all ∙ noted_from k.moves ∙ ap (map pointer_of) k.before;
        to = ap (map (pointer_in index generation)) all ∙ noted_to k.moves
            ∙ ap (map pointer_of) k.after;
      }

  -- a live slot that is not passed is listed
  pub reached : {F : Type 0} {step : F → P → T → P → T → F → Type 0} {f : F} {renew : ℕ → ℕ}
      {wraps : ℕ → Bool} {old : List (Option (ℕ × T))} {f' : F}
      {now : List (Option (ℕ × T))} {at live : ℕ} {wrapped : Bool} {e : ℕ × T} (cap : ℕ)
      → Partly index generation step f renew wraps old f' now at live wrapped
      → slice_get now at ≡ Some (Some e) → at < length now
      → ((k : ℕ) (entry : ℕ × (ℕ × T)) → slice_get (listed_from 1 old) k ≡ Some entry
      → index_of entry ≤ cap) → at + 1 ≤ cap
  reached {step} {old} {at} {e} cap p found below reaches =
      let n = next_of index generation step p found below in
      let entries = map (entry_before index generation) n.p.moves in
      let there : slice_get (listed_from 1 old) (length entries) ≡ Some (at + 1, e) =
      ap (λ l. slice_get l (length entries)) (sym n.p.before)
      ∙ ap (λ r. slice_get (entries ++ listed_from (at + 1) r) (length entries)) n.rest_is
      ∙ get_here entries (listed_from ((at + 1) + 1) n.rest) (at + 1, e) (length entries) refl in
      reaches (length entries) (at + 1, e) there

module _ {T : Type 0} where
  -- no listed entry is past the last live index
  pub listed-within : (c : Content T) (k : ℕ) (e : ℕ × (ℕ × T))
      → slice_get (listed_from 1 c.slots) k ≡ Some e → index_of e ≤ last_index c
  listed-within c k e found =
      let s = stands 1 c.slots k e found in
      elim (leb_tells (index_of e) (last_index c)) [
        | inl below ↦ below.1
        | inr above ↦
            let past = (last_index-is c).past (suc s.at) (omega (arith, above.1, s.index)) in
            let both : Some (entry_of_listed e) ≡ None = sym s.slot ∙ past in
            absurd (cc)
      ]
