-- What accepted rooms mean for the parts of a store.
use Rattle.std.proofs.Common.{◌≡◌, ◌∙◌, sym, ap, subst, refl, Bool, true, false, nat_lt, ℕ, ◌-◌}
use Rattle.std.proofs.Common.{◌^◌, ◌<◌, ◌≤◌, ◌↔◌, ◌||◌, nat_le, Option, Some, None, arith, inl, inr}
use Rattle.std.proofs.lemmas.Bool.{leb-false, ltb-false, cases_lt, lt-ltb, le-ltb}
use Rattle.triple_arena_ptr.specs.Index.{max_index_of}
use Rattle.triple_arena_stack.specs.Room.{Room, IsBeyond, capacity}
use Rattle.triple_arena.specs.Content.{Content, arena_capacity, empty}
use Rattle.triple_arena.specs.DirectContent.{DirectContent, empty as no_pointers}
use Rattle.triple_arena.specs.DirectContent.{arena_capacity as mirror_capacity}
use Rattle.triple_arena.specs.ArenaRoom.{index_limit, room_of}
use Rattle.route_lines.specs.declared.refusal.RoomError.TheVariants.{Generation, Index, Stack}
use Rattle.route_book.specs.Rooms.{counts_short, is_past, refusal_of}

no_some : {X : Type 0} {x : X} → ◌≡◌ {A = Option X} (Some x) None → ⊥
no_some e = absurd (cc)

-- a room that is not full has place for one item more
pub room_left : (room count : ℕ) (ended : Bool) → (nat_le room count || ended) ≡ false
    → count < room
room_left room count ended is = leb-false room count (by (nat_le room count) is)
  where
    by : (b : Bool) → (b || ended) ≡ false → b ≡ false
    by true full = full
    by false free = refl

module _ (last : Option ℕ) (greatest : ℕ) (limit : Option ℕ) (total : ℕ)
    (accepted : refusal_of last greatest limit total ≡ None) where
  record IsAccepted : Type 0 where
    counts : counts_short last ≡ false
    indexed : nat_lt (max_index_of greatest) total ≡ false
    stacked : is_past limit total ≡ false

  is_accepted : IsAccepted
  is_accepted = by (counts_short last) refl (nat_lt (max_index_of greatest) total) refl
      (is_past limit total) refl
    where
      by : (a : Bool) → counts_short last ≡ a → (b : Bool)
          → nat_lt (max_index_of greatest) total ≡ b → (c : Bool) → is_past limit total ≡ c
          → IsAccepted
      by true one b two c three =
          let refused : refusal_of last greatest limit total ≡ Some Generation = rw one refl in
          absurd (no_some (sym refused ∙ accepted))
      by false one true two c three =
          let refused : refusal_of last greatest limit total ≡ Some Index = rw (one, two) refl in
          absurd (no_some (sym refused ∙ accepted))
      by false one false two true three =
          let refused : refusal_of last greatest limit total ≡ Some Stack =
          rw (one, two, three) refl in absurd (no_some (sym refused ∙ accepted))
      by false one false two false three = record { counts = one; indexed = two; stacked = three }

  pub counts_long : counts_short last ≡ false
  counts_long = is_accepted.counts

  not_beyond : (l : Option ℕ) → is_past l total ≡ false → (n : ℕ) → n ≤ total → IsBeyond l n → ⊥
  not_beyond None is n within beyond = beyond
  not_beyond (Some m) is n within beyond = let from = ltb-false m total is in
      omega (arith, from, within, beyond)

  in_index : (l : Option ℕ) (n : ℕ) → n ≤ max_index_of greatest → (IsBeyond l n → ⊥)
      → IsBeyond (index_limit greatest l) n → ⊥
  in_index (Some m) n within fits beyond = fits (omega (arith, within, beyond))
  in_index None n within fits beyond = elim (cases_lt greatest (2 ^ 64 - 1)) [
    | inl less ↦
        let limited : index_limit greatest None ≡ Some greatest =
        rw (lt-ltb greatest (2 ^ 64 - 1) less) refl in
        let past : greatest < n = subst (λ l. IsBeyond l n) limited beyond in
        omega (arith, within, past)
    | inr more ↦
        let free : index_limit greatest None ≡ None = rw (le-ltb greatest (2 ^ 64 - 1) more) refl in
        subst (λ l. IsBeyond l n) free beyond
  ]

  -- each part fits in a stack of its room
  pub part_fits : (room : ℕ → Room) → ((n : ℕ) → IsBeyond (room n).limit n ↔ IsBeyond limit n)
      → (r : Room) (n : ℕ) → r ≡ room n → n ≤ total → IsBeyond (room_of greatest r).limit n → ⊥
  part_fits room same r n is within =
      let indexed = ltb-false (max_index_of greatest) total is_accepted.indexed in
      in_index r.limit n (omega (arith, indexed, within))
      (λ beyond. not_beyond limit is_accepted.stacked n within
      ((same n).0 (subst (λ q. IsBeyond q.limit n) is beyond)))

-- a mirror has the room of an arena whose stack is made for as many
pub mirror_fits : {T U : Type 0} (c : Content T) (d : DirectContent U) (counter greatest : ℕ)
    (r q : Room) → c ≡ empty counter (room_of greatest r) → d ≡ no_pointers (room_of greatest q)
    → r ≡ q
    → arena_capacity c ≡ mirror_capacity d
mirror_fits c d counter greatest r q one two same =
    let arena = ap arena_capacity one ∙ ap (λ (x : Room). capacity (room_of greatest x)) same in
    let mirror = ap mirror_capacity two in
    arena ∙ sym mirror
