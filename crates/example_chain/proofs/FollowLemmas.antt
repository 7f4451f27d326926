-- Entries that keep the pointers that they had.
use Rattle.std.proofs.Common.{◌≡◌, ◌≢◌, ◌==◌, ◌&&◌, if◌then◌else◌, ℕ, zero, suc, ◌+◌, ◌-◌, ◌<◌}
use Rattle.std.proofs.Common.{Bool, true, List, [], ◌∷◌, map, length, get_or, Option, Some, None}
use Rattle.std.proofs.Common.{slice_get, is_some, IsSome, IfSome, Bor, inl, inr, refl, sym, ap, ◌∙◌}
use Rattle.std.proofs.Common.{arith, true≢false}
use Rattle.std.specs.Option.{option_map, option_copied}
use Rattle.std.specs.List.{AllZip}
use Rattle.std.specs.List.Sorted.{IsStrictlyIncreasing}
use Rattle.std.proofs.lemmas.Bool.{eq-eqb, ne_eqb, eqb-true, and_parts}
use Rattle.std.proofs.lemmas.Bool.Decides.{eqb_tells}
use Rattle.std.proofs.lemmas.List.Kept.{AllPairs-from_increasing}
use Rattle.triple_arena.specs.Entries.{value_if, look_up}
use Rattle.triple_arena.specs.Compression.{index_of, value_of, IsCompact, IsMapped}
use Rattle.example_chain.specs.Follow.{IsFollowed, IsNamed, IsNamedBy, Keeps}
use Rattle.triple_arena.specs.CompressionLaws.{entries_related}

module _ {T : Type 0} (R : ℕ × (ℕ × T) → ℕ × (ℕ × T) → Type 0) where
  -- two entries at one place of two lists
  pub record Beside (xs ys : List (ℕ × (ℕ × T))) (x y : ℕ × (ℕ × T)) : Type 0 where
    pub place : ℕ
    pub stands : slice_get xs place ≡ Some x
    pub beside : slice_get ys place ≡ Some y
    pub related : R x y

  later : (x y u v : ℕ × (ℕ × T)) (xs ys : List (ℕ × (ℕ × T))) → Beside xs ys u v
      → Beside (x ∷ xs) (y ∷ ys) u v
  later x y u v xs ys b =
      record { place = suc b.place; stands = b.stands; beside = b.beside; related = b.related }

  -- what stands beside the entry that an index finds in the second list
  pub found_beside : (xs ys : List (ℕ × (ℕ × T))) (i : ℕ) (e : ℕ × T) → AllZip R xs ys
      → look_up ys i ≡ Some e → (x : ℕ × (ℕ × T)) × Beside xs ys x (i, e)
  found_beside [] [] i e related found = absurd (cc)
  found_beside [] (y ∷ ys) i e related found = absurd related
  found_beside (x ∷ xs) [] i e related found = absurd related
  found_beside (x ∷ xs) (y ∷ ys) i e related found =
      elim (eqb_tells y.0 i) [
        | inl same ↦
            let here : Some y.1 ≡ Some e = rw (same.0) at found in
            let is : y.1 ≡ e = cc in
            rw (← same.1, ← is) (
              x,
              record { place = 0; stands = refl; beside = refl; related = related.0 },
            )
        | inr other ↦
            let rest = found_beside xs ys i e related.1 (rw (other.0) at found) in
            (rest.0, later x y rest.0 (i, e) xs ys rest.1)
      ]

  -- and in the first one
  pub beside_found : (xs ys : List (ℕ × (ℕ × T))) (i : ℕ) (e : ℕ × T) → AllZip R xs ys
      → look_up xs i ≡ Some e → (y : ℕ × (ℕ × T)) × Beside xs ys (i, e) y
  beside_found [] [] i e related found = absurd (cc)
  beside_found [] (y ∷ ys) i e related found = absurd related
  beside_found (x ∷ xs) [] i e related found = absurd related
  beside_found (x ∷ xs) (y ∷ ys) i e related found =
      elim (eqb_tells x.0 i) [
        | inl same ↦
            let here : Some x.1 ≡ Some e = rw (same.0) at found in
            let is : x.1 ≡ e = cc in
            rw (← same.1, ← is) (
              y,
              record { place = 0; stands = refl; beside = refl; related = related.0 },
            )
        | inr other ↦
            let rest = beside_found xs ys i e related.1 (rw (other.0) at found) in
            (rest.0, later x y (i, e) rest.0 xs ys rest.1)
      ]

module _ {T : Type 0} where
  -- the index at a place, which is one of the list
  index_here : (xs : List (ℕ × (ℕ × T))) (k : ℕ) (e : ℕ × (ℕ × T)) → slice_get xs k ≡ Some e
      → get_or (map index_of xs) k 0 ≡ e.0
  index_here [] k e found = absurd (cc)
  index_here (x ∷ xs) zero e found = let is : x ≡ e = cc in ap index_of is
  index_here (x ∷ xs) (suc k) e found = index_here xs k e found

  place_within : (xs : List (ℕ × (ℕ × T))) (k : ℕ) (e : ℕ × (ℕ × T)) → slice_get xs k ≡ Some e
      → k < length (map index_of xs)
  place_within [] k e found = absurd (cc)
  place_within (x ∷ xs) zero e found = omega arith
  place_within (x ∷ xs) (suc k) e found = let rest = place_within xs k e found in omega arith

  -- where the indexes increase, what stands at a place is what its index finds
  pub found_at_index : (xs : List (ℕ × (ℕ × T))) (k : ℕ) (e : ℕ × (ℕ × T))
      → IsStrictlyIncreasing (map index_of xs) → slice_get xs k ≡ Some e
      → look_up xs e.0 ≡ Some e.1
  found_at_index [] k e increasing found = absurd (cc)
  found_at_index (x ∷ xs) zero e increasing found =
      let is : x ≡ e = cc in
      rw (eq-eqb x.0 e.0 (ap index_of is)) (ap (λ (y : ℕ × (ℕ × T)). Some y.1) is)
  found_at_index (x ∷ xs) (suc k) e increasing found =
      let within = place_within xs k e found in
      let here = index_here xs k e found in
      let below : x.0 < get_or (map index_of xs) k 0 =
      AllPairs-from_increasing (map index_of (x ∷ xs)) increasing 0 (suc k) 0 (omega arith)
      (omega arith) in
      rw (ne_eqb x.0 e.0 (λ same. omega arith)) (found_at_index xs k e (rest increasing) found)
    where
      rest : IsStrictlyIncreasing (map index_of (x ∷ xs)) → IsStrictlyIncreasing (map index_of xs)
      rest rises j fits =
          let next : suc j + 1 ≡ suc (j + 1) = omega arith in
          rw next at (rises (suc j) (omega arith))

some_still : {A B : Type 0} (f : A → B) (o : Option A) → is_some (option_map f o) ≡ is_some o
some_still f None = refl
some_still f (Some x) = refl

module _ {M P : Type 0} (was : M → P) where
  -- what a pointer finds, by the reference that was answered
  pub named_by : {o : Option (Bor M)} {found : Option M} {b : Bor M} {p : P}
      → option_copied o ≡ found → o ≡ Some b → was b.now ≡ p
      → option_map was found ≡ Some p
  named_by copied is names = ap (option_map was) (sym copied ∙ ap option_copied is) ∙ ap Some names

module _ {P M V : Type 0} (index generation : P → ℕ) (was : M → P) (value : M → V) where
  -- an arena before and after its entries moved: the lists are what stands at the indexes
  pub record Moves (before after : ℕ → Option (ℕ × M)) (old new : List (ℕ × (ℕ × M))) : Type 0 where
    pub kept : AllZip (Keeps index generation was value) old new
    pub old_listed : (i : ℕ) → before i ≡ look_up old i
    pub new_listed : (i : ℕ) → after i ≡ look_up new i
    pub old_rises : IsStrictlyIncreasing (map index_of old)
    pub new_rises : IsStrictlyIncreasing (map index_of new)
    pub compact : IsCompact new

  -- where each call of a map keeps the pointer and the value that it got
  pub kept_by : {F : Type 0} {step : F → P → M → P → M → F → Type 0} {f : F}
      {old new : List (ℕ × (ℕ × M))} → IsMapped index generation step f old new
      → ((h : F) (from : P) (t : M) (to : P) (u : M) (k : F) → step h from t to u k
      → (was u ≡ from) × (value u ≡ value t))
      → AllZip (Keeps index generation was value) old new
  kept_by m one =
      entries_related m (λ _. Unit {0}) (Keeps index generation was value) tt
      (λ h from t to u k all s. let r = one h from t to u k s in
      ((ap index r.0, ap generation r.0, r.1), tt))

  pub values_kept : (old new : List (ℕ × (ℕ × M)))
      → AllZip (Keeps index generation was value) old new
      → map value (map value_of new) ≡ map value (map value_of old)
  values_kept [] [] kept = refl
  values_kept [] (y ∷ new) kept = absurd kept
  values_kept (x ∷ old) [] kept = absurd kept
  values_kept (x ∷ old) (y ∷ new) kept =
      rw (kept.0.2) (ap (λ l. value x.1.1 ∷ l) (values_kept old new kept.1))

module _ {P : Type 0} (index generation : P → ℕ)
    (determined : (p q : P) → index p ≡ index q → generation p ≡ generation q → p ≡ q) where
  -- pointers that test as equal are
  pub same_pointer : {p q : P} {told test : Bool} → told ≡ test
      → test ≡ ((index p == index q) && (generation p == generation q)) → told ≡ true → p ≡ q
  same_pointer {p} {q} tells tested holds =
      let parts = and_parts (index p == index q) (generation p == generation q)
      (sym tested ∙ sym tells ∙ holds) in
      determined p q (eqb-true (index p) (index q) parts.0)
      (eqb-true (generation p) (generation q) parts.1)

module _ {P M V : Type 0} (index generation : P → ℕ) (was : M → P) (value : M → V)
    (determined : (p q : P) → index p ≡ index q → generation p ≡ generation q → p ≡ q)
    (before after : ℕ → Option (ℕ × M)) (old new : List (ℕ × (ℕ × M)))
    (m : Moves index generation was value before after old new) where
  -- where q finds an entry that has the old pointer p
  record Follows (p q : P) : Type 0 where
    pub follows : option_map value (value_if (generation q) (after (index q)))
        ≡ option_map value (value_if (generation p) (before (index p)))
    pub place : option_map index_of (slice_get old (index q - 1)) ≡ Some (index p)

  follows_to : (p q : P) → option_map was (value_if (generation q) (after (index q))) ≡ Some p
      → Follows p q
  follows_to p q found = by_entry (after (index q)) refl found
    where
      by_entry : (o : Option (ℕ × M)) → after (index q) ≡ o
          → option_map was (value_if (generation q) o) ≡ Some p → Follows p q
      by_entry None stands names = absurd (cc)
      by_entry (Some e) stands names =
          elim (eqb_tells e.0 (generation q)) [
            | inl same ↦
                let named : Some (was e.1) ≡ Some p = rw (same.0) at names in
                let is : was e.1 ≡ p = cc in
                let b = found_beside (Keeps index generation was value) old new (index q) e m.kept
                (sym (m.new_listed (index q)) ∙ stands) in
                let at : index p ≡ b.0.0 = ap index (sym is) ∙ b.1.related.0 in
                let given : b.0.1.0 ≡ generation p = sym (b.1.related.1) ∙ ap generation is in
                let finds : before (index p) ≡ Some b.0.1 =
                m.old_listed (index p) ∙ ap (look_up old) at
                ∙ found_at_index old b.1.place b.0 m.old_rises b.1.stands in
                let numbered : index q ≡ b.1.place + 1 =
                m.compact b.1.place (index q, e) b.1.beside in
                let back : index q - 1 ≡ b.1.place = omega arith in
                record {
                  follows = rw (stands, same.0, finds, eq-eqb b.0.1.0 (generation p) given)
                      (ap Some b.1.related.2);
                  place = ap (λ k. option_map index_of (slice_get old k)) back
                      ∙ ap (option_map index_of) b.1.stands ∙ ap Some (sym at);
                }
            | inr other ↦ absurd (let none : None ≡ Some p = rw (other.0) at names in cc)
          ]

  -- where p found an entry, one has the old pointer p
  none_followed : (p : P) → ((j : ℕ) → IfSome (after j) (λ e. was e.1 ≢ p))
      → IsSome (value_if (generation p) (before (index p))) → ⊥
  none_followed p none some = by_entry (before (index p)) refl some
    where
      by_entry : (o : Option (ℕ × M)) → before (index p) ≡ o → IsSome (value_if (generation p) o)
          → ⊥
      by_entry None stands some = true≢false (sym some)
      by_entry (Some e) stands some =
          elim (eqb_tells e.0 (generation p)) [
            | inl same ↦
                let b = beside_found (Keeps index generation was value) old new (index p) e m.kept
                (sym (m.old_listed (index p)) ∙ stands) in
                let is : was b.0.1.1 ≡ p =
                determined (was b.0.1.1) p b.1.related.0 (b.1.related.1 ∙ same.1) in
                let finds : after b.0.0 ≡ Some b.0.1 = m.new_listed b.0.0
                ∙ found_at_index new b.1.place b.0 m.new_rises b.1.beside in
                let not : IfSome (Some b.0.1) (λ e. was e.1 ≢ p) = rw finds at (none b.0.0) in
                not is
            | inr other ↦ true≢false
                (sym (let s : IsSome (if (e.0 == generation p) then Some e.1 else None) = some in
                rw (other.0) at s))
          ]

  -- what was answered for the pointer p, where the answer has p as its old pointer, or no entry has
  pub record Followed (p : P) (answer : Option P) : Type 0 where
    pub variant : (IsSome answer → IsSome (value_if (generation p) (before (index p))))
        × (IsSome (value_if (generation p) (before (index p))) → IsSome answer)
    pub follows : IfSome answer
        (λ q. option_map value (value_if (generation q) (after (index q)))
        ≡ option_map value (value_if (generation p) (before (index p))))
    pub place : IfSome answer
        (λ q. option_map index_of (slice_get old (index q - 1)) ≡ Some (index p))

  pub followed : (p : P) (answer : Option P) → IsNamed was index generation after p answer
      → Followed p answer
  followed p None named =
      record {
        variant = (
          λ some. absurd (true≢false (sym some)),
          λ some. absurd (none_followed p named some),
        );
        follows = tt;
        place = tt;
      }
  followed p (Some q) named =
      let q_follows = follows_to p q named in
      let stood = value_if (generation p) (before (index p)) in
      let stands = value_if (generation q) (after (index q)) in
      let some : is_some stood ≡ true =
      sym (some_still value stood) ∙ sym (ap is_some q_follows.follows) ∙ some_still value stands
      ∙ sym (some_still was stands)
      ∙ ap is_some named in
      record {
        variant = (λ _. some, λ _. refl);
        follows = q_follows.follows;
        place = q_follows.place;
      }

  -- and for a pointer of a table
  pub pointer_followed : (o answer : Option P) → IsNamedBy was index generation after o answer
      → IsFollowed (λ p. option_map value (value_if (generation p) (before (index p))))
      (λ p. option_map value (value_if (generation p) (after (index p)))) o answer
  pointer_followed None answer named = named
  pointer_followed (Some p) None named =
      nothing (value_if (generation p) (before (index p))) (none_followed p named)
    where
      nothing : (found : Option M) → (IsSome found → ⊥) → option_map value found ≡ None
      nothing None none = refl
      nothing (Some t) none = absurd (none refl)
  pointer_followed (Some p) (Some q) named =
      let told = followed p (Some q) named in (
        some_still value (value_if (generation p) (before (index p))) ∙ told.variant.0 refl,
        told.follows,
      )
