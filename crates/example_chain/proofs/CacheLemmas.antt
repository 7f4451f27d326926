-- What becomes of the order of use where an entry comes, is used, or goes.
use Rattle.std.proofs.Common.{◌≡◌, ◌≢◌, ℕ, List, [], ◌∷◌, ◌++◌, Option, Some, None, IsSome, IfSome}
use Rattle.std.proofs.Common.{option_map, refl, sym, ap, subst, ◌∙◌, inl, inr, true, false}
use Rattle.std.proofs.Common.{true≢false, ◌⊎◌}
use Rattle.std.proofs.lemmas.Bool.Decides.{eqb_tells}
use Rattle.triple_arena.specs.Content.{Content, get, entry_at}
use Rattle.triple_arena.specs.Entries.{generation_at, value_if, with_entry}
use Rattle.triple_arena_chain.specs.LinkShape.{IndexLink}
use Rattle.linked_lists.specs.LinkedLists.{On, Off, IsRing, Apart, first_or}
use Rattle.linked_lists.specs.LinkedLists.{prev_in, prev_at, taken_out}
use Rattle.linked_lists.specs.LinkedListLaws.{On-cons, Off-not_on, last_is, last_or-append}
use Rattle.triple_arena_chain.specs.KindLaws.{put-prev_to}
use Rattle.linked_lists.specs.ChainLaws.{turned}
use Rattle.triple_arena_chain.specs.Links.{valued, values_in, ends_in, ends_found, gap_among}
use Rattle.triple_arena_chain.specs.Links.{IsLinkInserted, IsTakenOut}
use Rattle.triple_arena_chain.specs.Moves.{gap_before, IsMoved}
use Rattle.example_chain.proofs.PlaylistLemmas.{told}
use Rattle.example_chain.proofs.ReversalLemmas.{finds, live_with}
use Rattle.example_chain.specs.Caches.{AreByUse, IsCache, kind_for}

some_is : {B : Type 0} (a b : B) → Some a ≡ Some b → a ≡ b
some_is a b is = cc

-- an index on a list is its first, or on the rest
on_parts : (x : ℕ) (xs : List ℕ) (i : ℕ) → On (x ∷ xs) i → (x ≡ i) ⊎ On xs i
on_parts x xs i on = by on.front on.is
  where
    by : (front : List ℕ) → x ∷ xs ≡ front ++ i ∷ on.back → (x ≡ i) ⊎ On xs i
    by [] is = inl (cc)
    by (y ∷ front) is = inr (record { front = front; back = on.back; is = cc })

here : (x : ℕ) (xs : List ℕ) (i : ℕ) → x ≡ i → On (x ∷ xs) i
here x xs i same = record { front = []; back = xs; is = ap (λ z. z ∷ xs) same }

-- one of the list comes to its front
on_moved : (front : List ℕ) (p : ℕ) (back : List ℕ) (i : ℕ) → On (front ++ p ∷ back) i
    → On (p ∷ front ++ back) i
on_moved [] p back i on = on
on_moved (x ∷ xs) p back i on = elim (on_parts x (xs ++ p ∷ back) i on) [
  | inl same ↦ On-cons p i (x ∷ xs ++ back) (here x (xs ++ back) i same)
  | inr rest ↦ elim (on_parts p (xs ++ back) i (on_moved xs p back i rest)) [
    | inl same ↦ here p (x ∷ xs ++ back) i same
    | inr left ↦ On-cons p i (x ∷ xs ++ back) (On-cons x i (xs ++ back) left)
  ]
]

-- the last of the list is this one, or it is on the list without it
on_before : (front : List ℕ) (p i : ℕ) → On (front ++ p ∷ []) i → p ≢ i → On front i
on_before [] p i on differs = elim (on_parts p [] i on) [
  | inl same ↦ absurd (differs same)
  | inr rest ↦ rest
]
on_before (x ∷ xs) p i on differs = elim (on_parts x (xs ++ p ∷ []) i on) [
  | inl same ↦ here x xs i same
  | inr rest ↦ On-cons x i xs (on_before xs p i rest differs)
]

-- a list that has a first has a last
pub parts_last : (w : List ℕ) (z : ℕ) → Some z ≡ first_or w None
    → (front : List ℕ) × ((i : ℕ) × (w ≡ front ++ i ∷ []))
parts_last [] z first = absurd (cc)
parts_last (x ∷ []) z first = ([], (x, refl))
parts_last (x ∷ y ∷ w) z first =
    let rest = parts_last (y ∷ w) y refl in
    (x ∷ rest.0, (rest.1.0, ap (λ l. x ∷ l) rest.1.1))

some_mapped : {A B : Type 0} (f : A → B) (o : Option A) → IsSome o → IsSome (option_map f o)
some_mapped f None some = absurd (true≢false (sym some))
some_mapped f (Some a) some = refl

-- what a pointer finds, by values
module _ {T : Type 0} (c : Content (IndexLink T)) (i g : ℕ) where
  pub value_of_get : IsSome (get c i g) → generation_at (values_in c) i ≡ Some g
  value_of_get = by (entry_at c i)
    where
      by : (o : Option (ℕ × IndexLink T)) → IsSome (value_if g o)
          → option_map (λ v. v.0) (option_map valued o) ≡ Some g
      by None some = absurd (true≢false (sym some))
      by (Some e) some = elim (eqb_tells e.0 g) [
        | inl is ↦ ap Some is.1
        | inr other ↦ absurd (let no : false ≡ true = rw other.0 at some in cc)
      ]

  pub get_of_value : generation_at (values_in c) i ≡ Some g → IsSome (get c i g)
  get_of_value = by (entry_at c i)
    where
      by : (o : Option (ℕ × IndexLink T)) → option_map (λ v. v.0) (option_map valued o) ≡ Some g
          → IsSome (value_if g o)
      by None none = absurd (let no : None ≡ Some g = none in cc)
      by (Some e) is =
          let at : e.0 ≡ g = cc in
          elim (eqb_tells e.0 g) [ inl same ↦ rw same.0 refl | inr other ↦ absurd (other.1 at) ]

some_value : {T : Type 0} (v : Option (ℕ × T)) {g : ℕ} → option_map (λ e. e.0) v ≡ Some g
    → IsSome v
some_value None {g} is = absurd (let never : None ≡ Some g = is in cc)
some_value (Some e) is = refl

module _ {P I T : Type 0} (index generation : P → ℕ) (number : I → ℕ) where
  -- there is a place for an entry that is used now
  pub gap_there : (c : Content (IndexLink T)) (latest : Option P) (uses : List ℕ)
      → AreByUse index generation c latest uses
      → IsSome (gap_among index generation number c (kind_for latest))
  gap_there c None uses is = refl
  gap_there c (Some q) uses is =
      some_mapped _ (ends_found c (index q) (generation q))
      (subst IsSome (sym (finds c (index q) (generation q) is.live))
      (live_with c (index q) (generation q) is.live))

  -- the latest has a previous one: the one used longest ago
  pub never_none : (c : Content (IndexLink T)) (q : P) (uses : List ℕ)
      → AreByUse index generation c (Some q) uses
      → prev_in (ends_found c (index q) (generation q)) ≡ None → ⊥
  never_none c q [] is none = let no' = is.first in cc
  never_none c q (z ∷ w) is none =
      let at : z ≡ index q = sym (some_is (index q) z is.first) in
      let end = last_is z w in
      let there : prev_at (ends_in c) z ≡ Some end.0 = ap prev_in is.ring.stands.0
      ∙ end.1 in
      let same : prev_at (ends_in c) z ≡ None =
      ap (λ k. prev_at (ends_in c) k) at
      ∙ ap prev_in (sym (finds c (index q) (generation q) is.live)) ∙ none in
      let never : Some end.0 ≡ None = sym there ∙ same in cc

  pub prev_found : (c : Content (IndexLink T)) (q : P) (uses : List ℕ)
      → AreByUse index generation c (Some q) uses → (n : ℕ)
      → prev_in (ends_found c (index q) (generation q)) ≡ Some n
      → prev_at (ends_in c) (index q) ≡ Some n
  prev_found c q uses is n found =
      ap prev_in (sym (finds c (index q) (generation q) is.live)) ∙ found

  module _ (old new : Content (IndexLink T)) where
    -- the entry at `p` is put before the latest
    pub touched : (q p : P)
        → IsMoved (index p) (gap_before old (index p) (index q)) old new
        → generation_at (values_in old) (index p) ≡ Some (generation p) → index p ≢ index q
        → (front back : List ℕ)
        → AreByUse index generation old (Some q) (front ++ index p ∷ back)
        → AreByUse index generation new (Some p) (index p ∷ front ++ back)
    touched q p moved lives differs [] back is =
        absurd (differs (sym (some_is (index q) (index p) is.first)))
    touched q p moved lives differs (z ∷ front) back is =
        let e = ends_in old in
        let mid = taken_out e (index p) in
        let at : z ≡ index q = sym (some_is (index q) z is.first) in
        let out : IsRing mid (back ++ z ∷ front) =
        moved.taken.from_ring (back ++ z ∷ front) (turned e (z ∷ front) (index p) back is.ring) in
        let left : IsRing mid (z ∷ front ++ back) = turned mid back z front out in
        record {
          first = refl;
          live = ap (option_map (λ v. v.0)) (moved.relinked.values (index p)) ∙ lives;
          ring = moved.put.in_ring z (front ++ back)
              (sym (ap prev_in left.stands.0) ∙ ap (λ k. prev_at mid k) at) (ap Some at) left;
          all = λ i some. on_moved (z ∷ front) (index p) back i
              (is.all i (subst IsSome (moved.relinked.values i) some));
        }

    pub touched_cache : (q p : P)
        → IsMoved (index p) (gap_before old (index p) (index q)) old new
        → generation_at (values_in old) (index p) ≡ Some (generation p) → index p ≢ index q
        → IsCache index generation old (Some q)
        → IsCache index generation new (Some p)
    touched_cache q p moved lives differs cache =
        let on = cache.1.all (index p) (some_value (values_in old (index p)) lives) in (
          index p ∷ on.front ++ on.back,
          touched q p moved lives differs on.front on.back
              (subst (AreByUse index generation old (Some q)) on.is cache.1),
        )

    -- the latest is used again
    pub stays : (q p : P) → ((index p ≢ index q) → ⊥) → (front back : List ℕ)
        → AreByUse index generation old (Some q) (front ++ index p ∷ back)
        → AreByUse index generation old (Some q) (index p ∷ front ++ back)
    stays q p same [] back is = is
    stays q p same (z ∷ front) back is =
        let at : z ≡ index q = sym (some_is (index q) z is.first) in
        elim (eqb_tells (index p) (index q)) [
          | inl one ↦ absurd (Off-not_on front back (index p)
              (subst (Off (front ++ index p ∷ back)) (at ∙ sym one.1) is.ring.apart.0))
          | inr other ↦ absurd (same other.1)
        ]

    -- another entry comes before the latest
    pub added : (latest : Option P) (n : P) (t : T)
        → IsSome (gap_among index generation number old (kind_for latest))
        → IfSome (gap_among index generation number old (kind_for latest))
        (λ gap. IsLinkInserted gap (index n) (generation n) t old new)
        → (uses : List ℕ) → AreByUse index generation old latest uses
        → AreByUse index generation new (Some n) (index n ∷ uses)
    added latest n t there inserted uses is =
        let values = told old new (index n) (generation n) t
        (gap_among index generation number old (kind_for latest)) there inserted
        (λ gap at. at.values) in
        record {
          first = refl;
          live = ap (option_map (λ v. v.0)) (values (index n)) ∙ own;
          ring = by latest uses there inserted is.first is.ring;
          all = λ i some. elim (eqb_tells i (index n)) [
            | inl same ↦ here (index n) uses i (sym same.1)
            | inr other ↦ On-cons (index n) i uses
                (is.all i (let z : values_in new i ≡ values_in old i = values i ∙ rw other.0 refl in
                subst IsSome z some))
          ];
        }
      where
        own : option_map (λ v. v.0)
            (with_entry (values_in old) (index n) (generation n, t) (index n))
            ≡ Some (generation n)
        own = elim (eqb_tells (index n) (index n)) [
          | inl same ↦ rw same.0 refl
          | inr other ↦ absurd (other.1 refl)
        ]

        by : (l : Option P) (w : List ℕ)
            → IsSome (gap_among index generation number old (kind_for l))
            → IfSome (gap_among index generation number old (kind_for l))
            (λ gap. IsLinkInserted gap (index n) (generation n) t old new)
            → option_map index l ≡ first_or w None → IsRing (ends_in old) w
            → IsRing (ends_in new) (index n ∷ w)
        by None [] there inserted first ring = inserted.lists.alone
        by None (z ∷ w) there inserted first ring = absurd (cc)
        by (Some q) [] there inserted first ring = absurd (cc)
        by (Some q) (z ∷ w) there inserted first ring =
            let at : z ≡ index q = sym (some_is (index q) z first) in
            let put = put-prev_to index generation number old new q (index n) (generation n) t there
            inserted in
            put.in_ring z w
            (sym (ap prev_in ring.stands.0) ∙ ap (λ k. prev_at (ends_in old) k) at)
            (ap Some at) ring

    -- the last of the ring goes, which the first has as its previous one
    module _ (last : Option ℕ) (q o : P)
        (taken : IsTakenOut last (index o) old new)
        (prev : prev_at (ends_in old) (index q) ≡ Some (index o)) (front : List ℕ) (i : ℕ)
        (is : AreByUse index generation old (Some q) (front ++ i ∷ [])) where
      pub is_oldest : i ≡ index o
      is_oldest = by front is.first is.ring
        where
          by : (w : List ℕ) → Some (index q) ≡ first_or (w ++ i ∷ []) None
              → IsRing (ends_in old) (w ++ i ∷ []) → i ≡ index o
          by [] first ring =
              let at : i ≡ index q = sym (some_is (index q) i first) in
              some_is i (index o) (sym (ap prev_in ring.stands.0)
              ∙ ap (λ k. prev_at (ends_in old) k) at ∙ prev)
          by (z ∷ w) first ring =
              let at : z ≡ index q = sym (some_is (index q) z first) in
              some_is i (index o) (sym (last_or-append (Some z) w (i ∷ []))
              ∙ sym (ap prev_in ring.stands.0)
              ∙ ap (λ k. prev_at (ends_in old) k) at ∙ prev)

      left_ring : IsRing (ends_in new) front
      left_ring = taken.lists.from_ring front
          (subst (λ z. IsRing (ends_in old) (z ∷ front)) is_oldest
          (turned (ends_in old) front i [] is.ring))

      left_all : (j : ℕ) → IsSome (values_in new j) → On front j
      left_all j some = elim (eqb_tells j (index o)) [
        | inl same ↦ absurd
            (let z : values_in new j ≡ None = taken.values j ∙ rw same.0 refl in
            let y : IsSome {T = ℕ × T} None = subst IsSome z some in true≢false (sym y))
        | inr other ↦ on_before front i j
            (is.all j (let z : values_in new j ≡ values_in old j = taken.values j
            ∙ rw other.0 refl in subst IsSome z some))
            (λ same. other.1 (sym same ∙ is_oldest))
      ]

      -- the first stays, where there is another one
      pub first_left : IsSome (get new (index q) (generation q))
          → AreByUse index generation new (Some q) front
      first_left there = record {
        first = by front is.first;
        live = value_of_get new (index q) (generation q) there;
        ring = left_ring;
        all = left_all;
      }
        where
          by : (w : List ℕ) → Some (index q) ≡ first_or (w ++ i ∷ []) None
              → Some (index q) ≡ first_or w None
          by (z ∷ w) first = first
          by [] first = absurd (
              let at : index q ≡ index o = some_is (index q) i first ∙ is_oldest in
              let lives = value_of_get new (index q) (generation q) there in
              elim (eqb_tells (index q) (index o)) [
                | inl same ↦ (
                    let z : values_in new (index q) ≡ None = taken.values (index q)
                    ∙ rw same.0 refl in
                    let y : None ≡ Some (generation q) = sym (ap (option_map (λ v. v.0)) z) ∙ lives
                    in cc)
                | inr other ↦ other.1 at
              ])

      pub none_left : (IsSome (get new (index q) (generation q)) → ⊥)
          → AreByUse index generation new None front
      none_left gone = record {
        first = by front is.first is.ring.apart;
        live = tt;
        ring = left_ring;
        all = left_all;
      }
        where
          by : (w : List ℕ) → Some (index q) ≡ first_or (w ++ i ∷ []) None → Apart (w ++ i ∷ [])
              → None ≡ first_or w None
          by [] first apart = refl
          by (z ∷ w) first apart = absurd (gone (get_of_value new (index q) (generation q)
              (elim (eqb_tells (index q) (index o)) [
                | inl same ↦ absurd (Off-not_on w [] i
                    (subst (Off (w ++ i ∷ []))
                    (sym (some_is (index q) z first) ∙ same.1 ∙ sym is_oldest) apart.0))
                | inr other ↦
                    let z : values_in new (index q) ≡ values_in old (index q) =
                    taken.values (index q) ∙ rw other.0 refl in
                    ap (option_map (λ v. v.0)) z ∙ is.live
              ])))

      -- the latest that is left
      pub left : (r : Option P) → (IsSome (get new (index q) (generation q)) → r ≡ Some q)
          → ((IsSome (get new (index q) (generation q)) → ⊥) → r ≡ None)
          → AreByUse index generation new r front
      left r there gone = by (get new (index q) (generation q)) refl
        where
          by : (o : Option (IndexLink T)) → get new (index q) (generation q) ≡ o
              → AreByUse index generation new r front
          by None at =
              let never : IsSome (get new (index q) (generation q)) → ⊥ =
              λ some. true≢false (sym (subst IsSome at some)) in
              subst (λ l. AreByUse index generation new l front) (sym (gone never))
              (none_left never)
          by (Some link) at =
              let some : IsSome (get new (index q) (generation q)) = subst IsSome (sym at) refl in
              subst (λ l. AreByUse index generation new l front) (sym (there some))
              (first_left some)
