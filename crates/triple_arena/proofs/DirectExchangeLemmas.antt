-- The slots of a direct arena after two values changed places.
use Rattle.std.proofs.Common.{◌≡◌, ◌≢◌, ℕ, zero, suc, ◌-◌, List, [], ◌∷◌, get_or, slice_get, Option}
use Rattle.std.proofs.Common.{Some, None, IsSome, is_some, refl, sym, ap, ◌∙◌}
use Rattle.std.proofs.lemmas.Bool.{ne_eqb}
use Rattle.triple_arena_stack.specs.Room.{Room}
use Rattle.triple_arena_stack.specs.Stack.{item_at}
use Rattle.triple_arena.specs.ContentLaws.{live_entry}
use Rattle.triple_arena.specs.DirectContent.{DirectContent, as_content, entry_at, with_value}
use Rattle.triple_arena.specs.DirectContent.{with_exchange}
use Rattle.triple_arena.specs.DirectLaws.{entry-with_value}
use Rattle.triple_arena.specs.DirectExchangeLaws.{exchange-is}
use Rattle.triple_arena.specs.DirectLayout.{direct_of, IsSound}
use Rattle.triple_arena.specs.DirectSlot.{value_of, with_slot_value}
use Rattle.triple_arena.specs.TwoValues.{HaveValuesExchanged}
use Rattle.triple_arena.proofs.FreeListLemmas.{the_some}
use Rattle.triple_arena.proofs.DirectLemmas.{Becomes, written}

module _ {T : Type 0} where
  held : (xs : List (Option (ℕ × T))) (k : ℕ) (e : ℕ × T) → get_or xs k None ≡ Some e
      → slice_get xs k ≡ Some (Some e)
  held [] k e found = absurd (cc)
  held (x ∷ xs) zero e found = ap Some found
  held (x ∷ xs) (suc k) e found = held xs k e found

  -- the slot at a live index holds its entry
  pub holds : {xs : List (Option (ℕ × T))} {room : Room} {d : DirectContent T} (i : ℕ) {e : ℕ × T}
      → direct_of xs room ≡ d
      → entry_at d i ≡ Some e → Some (Some e) ≡ item_at xs i
  holds {xs} {room} i {e} seen is =
      let there : entry_at (direct_of xs room) i ≡ Some e = ap (λ x. entry_at x i) seen ∙ is in
      let l = live_entry (as_content (direct_of xs room)) i (ap is_some there) in
      let same : Some l.entry ≡ Some e = sym l.is ∙ there in
      sym (held xs (i - 1) e (l.read ∙ same))

  pub used_at : (xs : List (Option (ℕ × T))) {room : Room} {d : DirectContent T} (i : ℕ)
      → direct_of xs room ≡ d
      → IsSome (entry_at d i) → (x : Option (ℕ × T)) → Some x ≡ item_at xs i → IsSome (value_of x)
  used_at xs {room} {d} i seen some x at =
      let e = the_some _ some in
      value e.0 (at ∙ sym (holds i seen e.1))
    where
      value : (e : ℕ × T) → Some x ≡ Some (Some e) → IsSome (value_of x)
      value e same = let is : x ≡ Some e = cc in rw is refl

  pub exchanged : {xs xs' : List (Option (ℕ × T))} {len i j : ℕ} {room room' : Room}
      {d : DirectContent T} → IsSound xs len room
      → direct_of xs room ≡ d → IsSome (entry_at d i) → IsSome (entry_at d j) → i ≢ j
      → HaveValuesExchanged value_of with_slot_value i j xs xs'
      → room' ≡ room → Becomes xs' len room' (with_exchange d i j)
  exchanged {xs} {xs'} {len} {i} {j} {room} {room'} {d} sound seen first second two written_to
      kept =
      let e = the_some _ first in
      let f = the_some _ second in
      both e.0 f.0 e.1 f.1
    where
      both : (e f : ℕ × T) → entry_at d i ≡ Some e → entry_at d j ≡ Some f
          → Becomes xs' len room' (with_exchange d i j)
      both e f at_i at_j =
          let old = holds i seen at_i in
          let other = holds j seen at_j in
          let whole = written_to (Some e) (Some f) e.1 f.1 old other refl refl in
          let positive = (live_entry (as_content d) i first).positive in
          let further = (live_entry (as_content d) j second).positive in
          let one = written i f.1 sound seen positive old refl refl in
          let stays : entry_at (with_value d i f.1) j ≡ Some f = entry-with_value d i f.1 j
          ∙ rw (ne_eqb j i (λ same. two (sym same))) at_j in
          let there = holds j one.content stays in
          let all = written j e.1 one.sound one.content further there whole kept in
          record {
            sound = all.sound;
            content = all.content ∙ sym (exchange-is d i j e f at_i at_j);
          }
