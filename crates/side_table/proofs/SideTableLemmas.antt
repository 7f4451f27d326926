-- What a step of a table that follows a compression carries over.
use Rattle.std.proofs.Common.{◌≡◌, ◌≢◌, ◌∙◌, sym, ap, subst, refl, ℕ, suc, ◌+◌, ◌<◌, ◌≤◌}
use Rattle.std.proofs.Common.{arith, List, [], ◌∷◌, map, slice_get}
use Rattle.std.proofs.Common.{inl, inr, Option, Some, None, IsSome, IfSome, IfNone, OnSome}
use Rattle.std.proofs.Common.{is_some, true≢false}
use Rattle.std.specs.Option.{option_map}
use Rattle.std.proofs.lemmas.Bool.{eq-eqb, ne_eqb}
use Rattle.std.proofs.lemmas.Bool.Decides.{eqb_tells, leb_tells}
use Rattle.std.proofs.lemmas.Option.{none-some, some_pair_parts}
use Rattle.triple_arena_ptr.specs.InvalidationOption.{value_of}
use Rattle.triple_arena_ptr.specs.declared.invalidation.InvalidationOption.{InvalidationOption}
use Rattle.triple_arena_stack.specs.Room.{capacity}
use Rattle.triple_arena.specs.Changes.{IsRemoved}
use Rattle.triple_arena.specs.ContentLaws.{entry_seen}
use Rattle.triple_arena.specs.DirectContent.{DirectContent, entry_at}
use Rattle.triple_arena.specs.DirectContent.{live_count, no_counter, arena_capacity, IsPlace}
use Rattle.triple_arena.specs.Entries.{generation_at, value_if, with_entry, without}
use Rattle.triple_arena.specs.Iterators.{pointer_of}
use Rattle.triple_arena.specs.Recaster.{pointer_in}
use Rattle.side_table.specs.SideTable.{Rises, NeverGoesUp, IsCarried, IsEntryTaken, with_moved}
use Rattle.side_table.specs.CompressionLaws.{found, not_found}

module _ {T : Type 0} where
  -- an entry under this generation
  stands : (o : Option (ℕ × T)) (g : ℕ) → option_map (λ (e : ℕ × T). e.0) o ≡ Some g
      → (t : T) × (o ≡ Some (g, t))
  stands None g live = absurd (cc)
  stands (Some e) g live =
      let is : e.0 ≡ g = cc in
      (e.1, ap (λ k. Some (k, e.1)) is)

  without_other : (at : ℕ → Option (ℕ × T)) (i j : ℕ) → j ≢ i → without at i j ≡ at j
  without_other at i j other = rw (ne_eqb j i other) refl

  without_same : (at : ℕ → Option (ℕ × T)) (i j : ℕ) → j ≡ i → without at i j ≡ None
  without_same at i j same = rw (eq-eqb j i same) refl

  with_other : (at : ℕ → Option (ℕ × T)) (i j : ℕ) (e : ℕ × T) → j ≢ i
      → with_entry at i e j ≡ at j
  with_other at i j e other = rw (ne_eqb j i other) refl

  with_same : (at : ℕ → Option (ℕ × T)) (i j : ℕ) (e : ℕ × T) → j ≡ i
      → with_entry at i e j ≡ Some e
  with_same at i j e same = rw (eq-eqb j i same) refl

module _ {G T : Type 0} (number : G → ℕ) where
  pub taken : (answer : Option (InvalidationOption (G × T))) (last : Option ℕ) (i : ℕ)
      (old new : DirectContent T)
      → option_map (λ a. (number (value_of a).0, (value_of a).1)) answer ≡ entry_at old i
      → OnSome answer (IsRemoved entry_at live_count no_counter (λ d. d.room) last i old new)
      → IfNone answer (new ≡ old) → IsEntryTaken i old new
  taken None last i old new stood removed kept = record {
    vacant = ap (λ d. entry_at d i) kept ∙ sym stood;
    others = λ j other. ap (λ d. entry_at d j) kept;
    room = ap (λ d. d.room) kept;
  }
  taken (Some a) last i old new stood removed kept = record {
    vacant = removed.entries i ∙ without_same (entry_at old) i i refl;
    others = λ j other. removed.entries j ∙ without_other (entry_at old) i j other;
    room = removed.room;
  }

  -- the value that it had
  pub value_taken : (answer : Option (InvalidationOption (G × T))) (o : Option (ℕ × T))
      → option_map (λ a. (number (value_of a).0, (value_of a).1)) answer ≡ o
      → option_map (λ e. e.1) (option_map value_of answer) ≡ option_map (λ e. e.1) o
  value_taken None o stood = ap (option_map (λ (e : ℕ × T). e.1)) stood
  value_taken (Some a) o stood = ap (option_map (λ (e : ℕ × T). e.1)) stood

-- where a value was taken out, its new pointer is within the capacity
pub fits_still : {P T : Type 0} (index : P → ℕ) (named : ℕ → Option (ℕ × P))
    (answer : Option (InvalidationOption T)) (last : Option ℕ) (i g : ℕ)
    (old new : DirectContent T) (t : T) (q : P)
    → NeverGoesUp index named → value_if g (named i) ≡ Some q
    → option_map value_of answer ≡ Some t
    → option_map value_of answer ≡ value_if g (entry_at old i)
    → OnSome answer (IsRemoved entry_at live_count no_counter (λ d. d.room) last i old new)
    → ((j : ℕ) → IsSome (entry_at old j) → j ≤ arena_capacity old)
    → index q ≤ arena_capacity new
fits_still index named None last i g old new t q down names is stood removed fits =
    absurd (none-some t is)
fits_still index named (Some a) last i g old new t q down names is stood removed fits =
    let here = entry_seen g (entry_at old i) t (sym stood ∙ is) in
    let low = down i g q (entry_seen g (named i) q names) in
    let within = fits i (ap is_some here) in
    subst (λ r. index q ≤ capacity r) (sym removed.room) (omega (arith, low, within))

-- an entry that is put where one was taken out replaces it
pub put_over : {T : Type 0} {old new : DirectContent T} (i : ℕ) (e : ℕ × T) → IsEntryTaken i old new
    → (j : ℕ) → with_entry (entry_at new) i e j ≡ with_entry (entry_at old) i e j
put_over {old} {new} i e t j = elim (eqb_tells j i) [
  | inl same ↦ with_same (entry_at new) i j e same.1 ∙ sym (with_same (entry_at old) i j e same.1)
  | inr other ↦ with_other (entry_at new) i j e other.1 ∙ t.others j other.1
      ∙ sym (with_other (entry_at old) i j e other.1)
]

pub place_taken : {T : Type 0} {old new : DirectContent T} (i : ℕ) → IsEntryTaken i old new → 0 < i
    → i ≤ arena_capacity old → IsPlace new i
place_taken i t positive fits = record {
  positive = positive;
  fits = subst (λ r. i ≤ capacity r) (sym t.room) fits;
  vacant = t.vacant;
}

module _ {P T : Type 0} (index generation : P → ℕ) (named : ℕ → Option (ℕ × P))
    (old : ℕ → Option (ℕ × T)) where
  -- a table of which the values up to an index were carried over
  pub record IsCarriedTo (low : ℕ) (now : ℕ → Option (ℕ × T)) : Type 0 where
    pub ahead : (j : ℕ) → low ≤ j → now j ≡ old j
    pub from : (j h : ℕ) (t : T) → j < low → now j ≡ Some (h, t)
        → (c : IsCarried index generation named old j h t) × (c.old_index < low)
    pub to : (j h : ℕ) (t : T) (c : IsCarried index generation named old j h t)
        → c.old_index < low → now j ≡ Some (h, t)

  pub none_carried : (low : ℕ) → low ≤ 1 → old 0 ≡ None → IsCarriedTo low old
  none_carried low first none = record {
    ahead = λ j up. refl;
    from = λ j h t below is. absurd (no 0 h t refl (let z : j ≡ 0 = omega (arith, below, first) in
        sym (ap old z) ∙ is));
    to = λ j h t c below. absurd (no c.old_index c.old_generation t
        (let z : c.old_index ≡ 0 = omega (arith, below, first) in z) c.stood);
  }
    where
      no : (i g : ℕ) (t : T) → i ≡ 0 → old i ≡ Some (g, t) → ⊥
      no i g t z is = none-some (g, t) (sym none ∙ sym (ap old z) ∙ is)

  module _ (rises : Rises index named) (down : NeverGoesUp index named) (low i g : ℕ)
      (now after : ℕ → Option (ℕ × T)) (carried : IsCarriedTo low now) (up : low ≤ i)
      (between : (j : ℕ) → low ≤ j → j < i → now j ≡ None) (t : T) (is : now i ≡ Some (g, t)) where
    -- what is passed and has no new pointer
    gap : (j h : ℕ) (u : T) → low ≤ j → j < i → old j ≡ Some (h, u) → ⊥
    gap j h u back less stood =
        none-some (h, u) (sym (between j back less) ∙ carried.ahead j back ∙ stood)

    stood_here : old i ≡ Some (g, t)
    stood_here = sym (carried.ahead i up) ∙ is

    -- below the next index there is what was carried over, or the entry itself
    below_next : (j h : ℕ) (u : T) → j ≢ i → j < i + 1 → now j ≡ Some (h, u)
        → (c : IsCarried index generation named old j h u) × (c.old_index < i + 1)
    below_next j h u other below at = elim (leb_tells low j) [
      | inr less ↦
          let c = carried.from j h u less.1 at in
          let b = c.1 in
          (c.0, omega (arith, b, up))
      | inl back ↦ absurd (gap j h u back.1 (let o = other in omega (arith, o, below))
          (sym (carried.ahead j back.1) ∙ at))
    ]

    -- what was carried over before stands at another index than the one that the walk came to
    apart : (j h : ℕ) (u : T) (c : IsCarried index generation named old j h u) → c.old_index < i
        → j ≢ i
    apart j h u c less same =
        let low_index = down c.old_index c.old_generation c.pointer c.renamed in
        let at = c.has_index in
        omega (arith, low_index, at, less, same)

    before : (j h : ℕ) (u : T) (c : IsCarried index generation named old j h u) → c.old_index < i
        → now j ≡ Some (h, u)
    before j h u c less = elim (leb_tells low c.old_index) [
      | inr below ↦ carried.to j h u c below.1
      | inl back ↦ absurd (gap c.old_index c.old_generation u back.1 less c.stood)
    ]

    module _ (none : value_if g (named i) ≡ None) (made : (j : ℕ) → after j ≡ without now i j) where
      pub dropped : IsCarriedTo (i + 1) after
      dropped = record {
        ahead = λ j past.
            let other : j ≢ i = λ e. omega (arith, e, past) in
            made j ∙ without_other now i j other ∙ carried.ahead j (omega (arith, past, up));
        from = λ j h u below at. elim (eqb_tells j i) [
          | inl same ↦ absurd (none-some (h, u)
              (sym (without_same now i j same.1) ∙ sym (made j) ∙ at))
          | inr other ↦ below_next j h u other.1 below
              (sym (without_other now i j other.1) ∙ sym (made j) ∙ at)
        ];
        to = λ j h u c below. elim (eqb_tells c.old_index i) [
          | inl same ↦ absurd (no j h u c same.1)
          | inr other ↦
              let less : c.old_index < i = let o = other.1 in omega (arith, o, below) in
              made j ∙ without_other now i j (apart j h u c less) ∙ before j h u c less
        ];
      }
        where
          no : (j h : ℕ) (u : T) (c : IsCarried index generation named old j h u)
              → c.old_index ≡ i → ⊥
          no j h u c same =
              let own : c.old_generation ≡ g =
              (some_pair_parts c.old_generation g u t (sym c.stood ∙ ap old same ∙ stood_here)).0 in
              not_found (named i) g c.pointer none
              (ap named (sym same) ∙ c.renamed ∙ ap (λ k. Some (k, c.pointer)) own)

    module _ (q : P) (some : value_if g (named i) ≡ Some q)
        (made : (j : ℕ) → after j
        ≡ with_entry (without now i) (index q) (generation q, t) j) where
      names : named i ≡ Some (g, q)
      names = entry_seen g (named i) q some

      pub moved : IsCarriedTo (i + 1) after
      moved = record {
        ahead = λ j past.
            let low_index = down i g q names in
            let new : j ≢ index q = λ e. omega (arith, e, past, low_index) in
            let other : j ≢ i = λ e. omega (arith, e, past) in
            made j ∙ with_other (without now i) (index q) j (generation q, t) new
            ∙ without_other now i j other ∙ carried.ahead j (omega (arith, past, up));
        from = λ j h u below at. elim (eqb_tells j (index q)) [
          | inl same ↦
              let own = some_pair_parts (generation q) h t u
              (sym (with_same (without now i) (index q) j (generation q, t) same.1)
              ∙ sym (made j) ∙ at) in (
                record {
                  old_index = i;
                  old_generation = g;
                  pointer = q;
                  stood = stood_here ∙ ap (λ y. Some (g, y)) own.1;
                  renamed = names;
                  has_index = sym same.1;
                  has_generation = own.0;
                },
                omega arith,
              )
          | inr new ↦ elim (eqb_tells j i) [
            | inl same ↦ absurd (none-some (h, u)
                (sym (without_same now i j same.1)
                ∙ sym (with_other (without now i) (index q) j (generation q, t) new.1)
                ∙ sym (made j) ∙ at))
            | inr other ↦ below_next j h u other.1 below
                (sym (without_other now i j other.1)
                ∙ sym (with_other (without now i) (index q) j (generation q, t) new.1)
                ∙ sym (made j) ∙ at)
          ]
        ];
        to = λ j h u c below. elim (eqb_tells c.old_index i) [
          | inl same ↦ here j h u c same.1
          | inr other ↦
              let less : c.old_index < i = let o = other.1 in omega (arith, o, below) in
              let lower = rises c.old_index i c.old_generation g c.pointer q c.renamed names less in
              let at = c.has_index in
              let new : j ≢ index q = λ e. omega (arith, e, at, lower) in
              made j ∙ with_other (without now i) (index q) j (generation q, t) new
              ∙ without_other now i j (apart j h u c less) ∙ before j h u c less
        ];
      }
        where
          here : (j h : ℕ) (u : T) (c : IsCarried index generation named old j h u)
              → c.old_index ≡ i → after j ≡ Some (h, u)
          here j h u c same =
              let own : u ≡ t =
              (some_pair_parts c.old_generation g u t (sym c.stood ∙ ap old same ∙ stood_here)).1 in
              let pointer : c.pointer ≡ q =
              (some_pair_parts c.old_generation g c.pointer q
              (sym c.renamed ∙ ap named same ∙ names)).1 in
              let at : j ≡ index q = sym c.has_index ∙ ap index pointer in
              let gen : generation q ≡ h = ap generation (sym pointer) ∙ c.has_generation in
              made j ∙ with_same (without now i) (index q) j (generation q, t) at
              ∙ ap (λ k. Some (k, t)) gen ∙ ap (λ y. Some (h, y)) (sym own)

  -- one entry more was carried over
  pub carried_on : Rises index named → NeverGoesUp index named → (low i g : ℕ)
      (now after : ℕ → Option (ℕ × T)) → IsCarriedTo low now → low ≤ i
      → ((j : ℕ) → low ≤ j → j < i → now j ≡ None) → generation_at now i ≡ Some g
      → ((j : ℕ) → after j
      ≡ with_moved index generation now i (value_if g (now i)) (value_if g (named i)) j)
      → IsCarriedTo (i + 1) after
  carried_on rises down low i g now after carried up between live made =
      let s = stands (now i) g live in
      let value = found (now i) g s.0 s.1 in
      by s.0 s.1 value (value_if g (named i)) refl
    where
      by : (t : T) → now i ≡ Some (g, t) → value_if g (now i) ≡ Some t → (o : Option P)
          → value_if g (named i) ≡ o → IsCarriedTo (i + 1) after
      by t is value None none = dropped rises down low i g now after carried up between t is none
          (λ j. made j
          ∙ ap (λ o. with_moved index generation now i o (value_if g (named i)) j) value
          ∙ ap (λ o. with_moved index generation now i (Some t) o j) none)
      by t is value (Some q) some = moved rises down low i g now after carried up between t is q
          some
          (λ j. made j
          ∙ ap (λ o. with_moved index generation now i o (value_if g (named i)) j) value
          ∙ ap (λ o. with_moved index generation now i (Some t) o j) some)

  -- what is live after such a step is not past what was
  pub reaches_on : NeverGoesUp index named → (low i g high : ℕ)
      (now after : ℕ → Option (ℕ × T)) → i ≤ high
      → ((j : ℕ) → after j
      ≡ with_moved index generation now i (value_if g (now i)) (value_if g (named i)) j)
      → ((j : ℕ) → IsSome (now j) → j ≤ high) → (j : ℕ) → IsSome (after j) → j ≤ high
  reaches_on down low i g high now after within made reaches j some =
      by (value_if g (now i)) (value_if g (named i)) refl (subst IsSome (made j) some)
    where
      not_here : IsSome (without now i j) → j ≤ high
      not_here some = elim (eqb_tells j i) [
        | inl same ↦ absurd (true≢false
            (sym (subst IsSome (without_same now i j same.1) some)))
        | inr other ↦ reaches j (subst IsSome (without_other now i j other.1) some)
      ]

      by : (o : Option T) (r : Option P) → value_if g (named i) ≡ r
          → IsSome (with_moved index generation now i o r j) → j ≤ high
      by None r is some = reaches j some
      by (Some t) None is some = not_here some
      by (Some t) (Some q) is some = elim (eqb_tells j (index q)) [
        | inl same ↦
            let low_index = down i g q (entry_seen g (named i) q is) in
            let at = same.1 in
            omega (arith, low_index, at, within)
        | inr new ↦ not_here (subst IsSome
            (with_other (without now i) (index q) j (generation q, t) new.1) some)
      ]

  -- all was carried over where nothing is left
  pub all_carried : (low : ℕ) (now : ℕ → Option (ℕ × T)) → NeverGoesUp index named
      → IsCarriedTo low now → ((j : ℕ) → IsSome (now j) → j < low) → (j h : ℕ) (t : T)
      → (now j ≡ Some (h, t) → IsCarried index generation named old j h t)
      × (IsCarried index generation named old j h t → now j ≡ Some (h, t))
  all_carried low now down carried over j h t = (
    λ is. (carried.from j h t (over j (ap is_some is)) is).0,
    λ c. carried.to j h t c (passed c),
  )
    where
      passed : (c : IsCarried index generation named old j h t) → c.old_index < low
      passed c = elim (leb_tells low c.old_index) [
        | inr less ↦ less.1
        | inl back ↦ absurd (let l = over c.old_index
            (ap is_some (carried.ahead c.old_index back.1 ∙ c.stood)) in
            let b = back.1 in omega (arith, l, b))
      ]

map_same : {X Y : Type 0} (f g : X → Y) (xs : List X)
    → ((k : ℕ) (x : X) → slice_get xs k ≡ Some x → f x ≡ g x) → map f xs ≡ map g xs
map_same f g [] same = refl
map_same f g (x ∷ xs) same =
    ap (λ y. y ∷ map f xs) (same 0 x refl)
    ∙ ap (λ l. g x ∷ l) (map_same f g xs (λ k y at. same (suc k) y at))

by_parts : {X Y Z : Type 0} (f : Y → Z) (g : X → Y) (xs : List X)
    → map (λ x. f (g x)) xs ≡ map f (map g xs)
by_parts f g [] = refl
by_parts f g (x ∷ xs) = ap (λ l. f (g x) ∷ l) (by_parts f g xs)

-- beside each new pointer stands what stood beside the old one
pub beside_kept : {P T U : Type 0} (index generation : P → ℕ) (entries : List (ℕ × (ℕ × P)))
    (before after : List (ℕ × (ℕ × T))) (old new : ℕ → ℕ → Option U)
    → map pointer_of entries ≡ map pointer_of before
    → map (pointer_in index generation) entries ≡ map pointer_of after
    → ((k i g : ℕ) (q : P) → slice_get entries k ≡ Some (i, (g, q))
    → new (index q) (generation q) ≡ old i g)
    → map (λ e. new e.0 e.1.0) after ≡ map (λ e. old e.0 e.1.0) before
beside_kept index generation entries before after old new from to same =
    let look : (ℕ → ℕ → Option _) → ℕ × ℕ → Option _ = λ find p. find p.0 p.1 in
    by_parts (look new) pointer_of after
    ∙ ap (map (look new)) (sym to)
    ∙ sym (by_parts (look new) (pointer_in index generation) entries)
    ∙ map_same (λ e. new (index e.1.1) (generation e.1.1)) (λ e. old e.0 e.1.0) entries
    (λ k e at. same k e.0 e.1.0 e.1.1 at)
    ∙ by_parts (look old) pointer_of entries
    ∙ ap (map (look old)) from
    ∙ sym (by_parts (look old) pointer_of before)

-- and each stands beside an entry
pub beside_valid : {P U : Type 0} (index generation : P → ℕ) (named : ℕ → Option (ℕ × P))
    (old new : ℕ → Option (ℕ × U)) (valid : ℕ → ℕ → Type 0)
    → ((j h : ℕ) (t : U) → new j ≡ Some (h, t) → IsCarried index generation named old j h t)
    → ((i g : ℕ) (q : P) → named i ≡ Some (g, q) → valid (index q) (generation q))
    → (j : ℕ) → IfSome (new j) (λ e. valid j e.0)
beside_valid index generation named old new valid carried names j = by (new j) refl
  where
    by : (o : Option (ℕ × _)) → new j ≡ o → IfSome o (λ e. valid j e.0)
    by None is = tt
    by (Some e) is =
        let c = carried j e.0 e.1 is in
        let here = names c.old_index c.old_generation c.pointer c.renamed in
        subst (λ k. valid k e.0) c.has_index
        (subst (λ h. valid (index c.pointer) h) c.has_generation here)
