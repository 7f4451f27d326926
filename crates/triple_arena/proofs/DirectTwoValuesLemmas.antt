-- A direct arena with two values written is sound, and is as it was but for them.
use Rattle.std.proofs.Common.{◌≡◌, ◌≤◌, ◌<◌, refl, sym, ap, subst, ◌∙◌, arith, ℕ, zero, suc, ◌-◌}
use Rattle.std.proofs.Common.{List, [], ◌∷◌, length, map, IsSome, slice_set}
use Rattle.std.proofs.lemmas.Bool.{false≢true}
use Rattle.std.specs.Prelude.{Option, Some, None, slice_index_or}
use Rattle.std.specs.Option.{option_map}
use Rattle.triple_arena_stack.specs.Room.{Room, capacity}
use Rattle.triple_arena.specs.Content.{entry_at}
use Rattle.triple_arena.specs.ContentLaws.{live-with_value, slots-with_value}
use Rattle.triple_arena.specs.DirectContent.{DirectContent, as_content, with_value}
use Rattle.triple_arena.specs.DirectLayout.{direct_of, IsSound}
use Rattle.triple_arena.specs.DirectSlot.{value_of, with_slot_value}
use Rattle.triple_arena.specs.TwoValues.{changed_at, written_both, with_two_direct_values}

module _ {T : Type 0} where
  -- the value of a slot, by its entry
  pub value_at_slot : (es : List (Option (ℕ × T))) (n : ℕ)
      → option_map (λ (e : ℕ × T). e.1) (slice_index_or es n None)
      ≡ slice_index_or (map value_of es) n None
  value_at_slot [] zero = refl
  value_at_slot [] (suc n) = refl
  value_at_slot (e ∷ es) zero = refl
  value_at_slot (e ∷ es) (suc n) = value_at_slot es n

  -- a slot that has a value is one of the slots
  pub is_within : (es : List (Option (ℕ × T))) (n : ℕ)
      → IsSome (slice_index_or (map value_of es) n None) → n < length es
  is_within [] zero p = absurd (false≢true p)
  is_within [] (suc n) p = absurd (false≢true p)
  is_within (e ∷ es) zero p = omega arith
  is_within (e ∷ es) (suc n) p = let q = is_within es n p in omega (arith, q)

  -- a write to a slot that has no value changes nothing
  kept : (es : List (Option (ℕ × T))) (n : ℕ) (t : T) → slice_index_or es n None ≡ None
      → changed_at n (λ e. with_slot_value e t) es ≡ es
  kept [] n t none = refl
  kept (None ∷ es) zero t none = refl
  kept (Some x ∷ es) zero t none = cc
  kept (e ∷ es) (suc n) t none = ap (λ (l : List (Option (ℕ × T))). e ∷ l) (kept es n t none)

  -- a write to one that has an entry keeps its generation
  set : (es : List (Option (ℕ × T))) (n : ℕ) (t : T) (x : ℕ × T)
      → slice_index_or es n None ≡ Some x
      → changed_at n (λ e. with_slot_value e t) es ≡ slice_set es n (Some (x.0, t))
  set [] zero t x some = cc
  set [] (suc n) t x some = cc
  set (None ∷ es) zero t x some = cc
  set (Some y ∷ es) zero t x some =
      let same : y ≡ x = cc in ap (λ (z : ℕ × T). Some (z.0, t) ∷ es) same
  set (e ∷ es) (suc n) t x some =
      ap (λ (l : List (Option (ℕ × T))). e ∷ l) (set es n t x some)

  -- a write to a slot is a write at its index
  written_at : (es : List (Option (ℕ × T))) (room : Room) (n : ℕ) (t : T)
      → direct_of (changed_at n (λ e. with_slot_value e t) es) room
      ≡ with_value (direct_of es room) (suc n) t
  written_at es room n t = by_entry (entry_at (as_content (direct_of es room)) (suc n)) refl
    where
      by_entry : (o : Option (ℕ × T)) → entry_at (as_content (direct_of es room)) (suc n) ≡ o
          → direct_of (changed_at n (λ e. with_slot_value e t) es) room
          ≡ with_value (direct_of es room) (suc n) t
      by_entry None e = rw (e, kept es n t e) refl
      by_entry (Some x) e =
          let place : n ≡ suc n - 1 = omega arith in
          rw e
          (ap (λ (l : List (Option (ℕ × T))). direct_of l room)
          (set es n t x e ∙ ap (λ (k : ℕ). slice_set es k (Some (x.0, t))) place))

  pub record Written (es' : List (Option (ℕ × T))) (len : ℕ) (room' : Room) (d : DirectContent T)
      : Type 0 where
    pub sound : IsSound es' len room'
    pub content : direct_of es' room' ≡ d

  pub written : {es es' : List (Option (ℕ × T))} {len : ℕ} (low high : ℕ) {room room' : Room}
      {d : DirectContent T} (x y : T) → IsSound es len room → direct_of es room ≡ d
      → es' ≡ written_both with_slot_value es low high x y → room' ≡ room
      → Written es' len room' (with_two_direct_values d low high x y)
  written {es} {es'} low high {room} {d = d} x y sound seen is same =
      let old : DirectContent T = direct_of es room in
      let one : DirectContent T = with_value old (suc low) x in
      let first = written_at es room low x in
      let both = written_at (changed_at low (λ e. with_slot_value e x) es) room high y
      ∙ ap (λ (z : DirectContent T). with_value z (suc high) y) first in
      let new : direct_of es' room ≡ with_two_direct_values old low high x y =
      ap (λ (l : List (Option (ℕ × T))). direct_of l room) is ∙ both in
      let live = ap (λ (z : DirectContent T). Rattle.triple_arena.specs.DirectContent.live_count z)
      new
      ∙ live-with_value (as_content one) (suc high) y
      ∙ live-with_value (as_content old) (suc low) x in
      let long = ap (λ (z : DirectContent T). length z.slots) new
      ∙ slots-with_value (as_content one) (suc high) y
      ∙ slots-with_value (as_content old) (suc low) x in
      rw same
      record {
        sound = record {
          counted = sound.counted ∙ sym live;
          fits = subst (λ (n : ℕ). n ≤ capacity room) (sym long) sound.fits;
        };
        content = new ∙ ap (λ (z : DirectContent T). with_two_direct_values z low high x y) seen;
      }
