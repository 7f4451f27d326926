-- The slots after two values changed places.
use Rattle.std.proofs.Common.{◌≡◌, ◌≢◌, ℕ, List, Option, Some, IsSome, refl, sym, ◌∙◌}
use Rattle.std.proofs.lemmas.Bool.{ne_eqb}
use Rattle.triple_arena.specs.Content.{Content, entry_at, with_value, with_exchange}
use Rattle.triple_arena.specs.ContentLaws.{entry-with_value}
use Rattle.triple_arena.specs.ExchangeLaws.{exchange-is}
use Rattle.triple_arena_stack.specs.Room.{Room}
use Rattle.triple_arena_stack.specs.Stack.{item_at}
use Rattle.triple_arena.specs.Layout.{content_of, IsSound}
use Rattle.triple_arena.specs.Slot.{Slot, used, value_of, with_slot_value}
use Rattle.triple_arena.specs.TwoValues.{HaveValuesExchanged}
use Rattle.triple_arena.proofs.FreeListLemmas.{the_some, Becomes, finds, rewritten}

module _ {T : Type 0} where
  -- the slot at a live index is allocated
  pub used_at : (es : List (Slot T)) {room : Room} {g : ℕ} (head : Option ℕ) {c : Content T} (i : ℕ)
      → content_of es room g head ≡ c
      → IsSome (entry_at c i) → (x : Slot T) → Some x ≡ item_at es i → IsSome (value_of x)
  used_at es {room} {g} head {c} i seen some x at =
      let e = the_some _ some in
      let f = finds head seen e.1 in
      value e.0 (at ∙ f.found)
    where
      value : (e : ℕ × T) → Some x ≡ Some (used e.0 e.1) → IsSome (value_of x)
      value e same = let is : x ≡ used e.0 e.1 = cc in rw is refl

  -- slots whose values changed places
  pub exchanged : {es es' : List (Slot T)} {len i j : ℕ} {head : Option ℕ} {room room' : Room}
      {g : ℕ} {c : Content T} → IsSound es len head room
      → content_of es room g head ≡ c → IsSome (entry_at c i) → IsSome (entry_at c j) → i ≢ j
      → HaveValuesExchanged value_of with_slot_value i j es es'
      → room' ≡ room → Becomes es' len head room' g (with_exchange c i j)
  exchanged {es'} {len} {i} {j} {head} {room'} {g} {c} sound seen first second two written kept =
      let e = the_some _ first in
      let f = the_some _ second in
      both e.0 f.0 e.1 f.1
    where
      both : (e f : ℕ × T) → entry_at c i ≡ Some e → entry_at c j ≡ Some f
          → Becomes es' len head room' g (with_exchange c i j)
      both e f at_i at_j =
          let old = finds head seen at_i in
          let other = finds head seen at_j in
          let whole = written (used e.0 e.1) (used f.0 f.1) e.1 f.1 (sym old.found)
          (sym other.found) refl refl in
          let one = rewritten i f.1 sound seen at_i old.found refl refl in
          let stays : entry_at (with_value c i f.1) j ≡ Some f = entry-with_value c i f.1 j
          ∙ rw (ne_eqb j i (λ same. two (sym same))) at_j in
          let there = finds head one.content stays in
          let all = rewritten j e.1 one.sound one.content stays there.found whole kept in
          record {
            sound = all.sound;
            content = all.content ∙ sym (exchange-is c i j e f at_i at_j);
          }
