-- A list whose keys ascend still does after an insertion where the key belongs, and after a
-- removal.
use Rattle.std.proofs.Common.{◌≡◌, ◌≢◌, ℕ, zero, suc, ◌+◌, List, [], ◌∷◌, ◌++◌, get_or, filter_map}
use Rattle.std.proofs.Common.{Option, Some}
use Rattle.std.proofs.Common.{None, Result, Ok, Err, arith, refl, sym, ap, ◌∙◌, subst, false, true}
use Rattle.std.proofs.Common.{inl, inr}
use Rattle.std.specs.Option.{option_map}
use Rattle.std.proofs.lemmas.Bool.{eq-eqb, ne_eqb}
use Rattle.std.proofs.lemmas.Bool.Decides.{eqb_tells}
use Rattle.std.specs.Cmp.{IsTotalOrder}
use Rattle.std.specs.Ordering.{is_lt, ordering_reverse}
use Rattle.std.specs.List.{cons_option, AllByRecursion}
use Rattle.std.specs.List.Sorted.{IsSorted}
use Rattle.std.specs.declared.cmp.Ordering.{Ordering}
use Rattle.std.specs.declared.cmp.Ordering.TheVariants.{Less, Equal, Greater}
use Rattle.std.proofs.lemmas.Cmp.{alike_right}
use Rattle.std.proofs.lemmas.List.Elements.{filter_map-append}
use Rattle.triple_arena.specs.Entries.{with_entry, without}
use Rattle.triple_arena_ptr.specs.declared.errors.OrdInsertionError.{OrdInsertionError}
use Rattle.linked_lists.specs.LinkedLists.{Off, Apart}
use Rattle.linked_lists.specs.LinkedListLaws.{Apart-taken, Off-front, Off-back}
use Rattle.triple_arena_chain.specs.Links.{ends_in}
use Rattle.linked_lists.specs.UniquenessLaws.{linear_apart}
use Rattle.triple_arena_ord.specs.Ordered.{Ordered, IsOrdered, IsAscending, order_in, entry_in}
use Rattle.triple_arena_ord.specs.Ordered.{StaysAscending, SameKeys, asked_of}
use Rattle.triple_arena_ord.specs.Inserted.{StandsAt, IsReplaced, IsAdded, IsInsertedAt}
use Rattle.triple_arena_ord.specs.Inserted.{IsPlacedBetween}
use Rattle.triple_arena_ord.specs.Removal.{IsEntryRemoved}
use Rattle.triple_arena_ord.proofs.SortedLemmas.{parts}

module _ {X : Type 0} (R : X → X → Ordering) where
  abbrev AllOf : (X → Type 0) → List X → Type 0
  AllOf Q [] = Unit {0}
  AllOf Q (x ∷ xs) = Q x × AllOf Q xs

  pub first : (x y : X) (xs : List X) → IsSorted R (x ∷ y ∷ xs) → is_lt (R y x) ≡ false
  first x y xs s = s 0 x (omega arith) (omega arith)

  pub tail : (x : X) (xs : List X) → IsSorted R (x ∷ xs) → IsSorted R xs
  tail x xs s k d low high =
      let up : suc k + 1 ≡ suc (k + 1) = omega arith in
      subst (λ z. is_lt (R (get_or (x ∷ xs) z d) (get_or xs k d)) ≡ false) up
      (s (suc k) d (omega arith) (omega arith))

  pub single : (x : X) → IsSorted R (x ∷ [])
  single x k d low high = absurd (omega arith)

  pub cons : (x y : X) (xs : List X) → is_lt (R y x) ≡ false → IsSorted R (y ∷ xs)
      → IsSorted R (x ∷ y ∷ xs)
  cons x y xs h s zero d low high = h
  cons x y xs h s (suc k) d low high =
      let down : suc (k + 1) ≡ suc k + 1 = omega arith in
      subst (λ z. is_lt (R (get_or (x ∷ y ∷ xs) z d) (get_or (y ∷ xs) k d)) ≡ false) down
      (s k d (omega arith) (omega arith))

  -- one more element between those that are not greater and those that are not less
  put : (xs : List X) (x : X) (ys : List X) → IsSorted R (xs ++ ys)
      → AllOf (λ z. is_lt (R x z) ≡ false) xs → AllOf (λ z. is_lt (R z x) ≡ false) ys
      → IsSorted R (xs ++ x ∷ ys)
  put [] x [] s low high = single x
  put [] x (y ∷ ys) s low high = cons x y ys high.0 s
  put (a ∷ []) x ys s low high = cons a x ys low.0 (put [] x ys (tail a ys s) tt high)
  put (a ∷ b ∷ xs) x ys s low high =
      cons a b (xs ++ x ∷ ys) (first a b (xs ++ ys) s)
      (put (b ∷ xs) x ys (tail a (b ∷ xs ++ ys) s) low.1 high)

  AllOf-map : (P Q : X → Type 0) → ((z : X) → P z → Q z) → (xs : List X) → AllOf P xs → AllOf Q xs
  AllOf-map P Q f [] all = tt
  AllOf-map P Q f (x ∷ xs) all = (f x all.0, AllOf-map P Q f xs all.1)

  -- no element is greater than a later one
  abbrev Rising : List X → Type 0
  Rising [] = Unit {0}
  Rising (x ∷ xs) = AllOf (λ z. is_lt (R z x) ≡ false) xs × Rising xs

  rising-sorted : (xs : List X) → Rising xs → IsSorted R xs
  rising-sorted [] p = λ k d low high. absurd (omega arith)
  rising-sorted (x ∷ []) p = single x
  rising-sorted (x ∷ y ∷ xs) p = cons x y xs p.0.0 (rising-sorted (y ∷ xs) p.1)

  sorted-rising : ((x y z : X) → is_lt (R y x) ≡ false → is_lt (R z y) ≡ false
      → is_lt (R z x) ≡ false) → (xs : List X) → IsSorted R xs → Rising xs
  sorted-rising trans [] s = tt
  sorted-rising trans (x ∷ []) s = (tt, tt)
  sorted-rising trans (x ∷ y ∷ xs) s =
      let rest = sorted-rising trans (y ∷ xs) (tail x (y ∷ xs) s) in
      let h = first x y xs s in (
        (
          h,
          AllOf-map (λ z. is_lt (R z y) ≡ false) (λ z. is_lt (R z x) ≡ false)
              (λ z low. trans x y z h low) xs rest.0,
        ),
        rest,
      )

  all-later : (Q : X → Type 0) (o : Option X) (xs : List X) → AllOf Q (cons_option o xs)
      → AllOf Q xs
  all-later Q None xs all = all
  all-later Q (Some x) xs all = all.1

  rising-later : (o : Option X) (xs : List X) → Rising (cons_option o xs) → Rising xs
  rising-later None xs p = p
  rising-later (Some x) xs p = p.1

  -- two elements that no third tells apart
  record Alike (x y : X) : Type 0 where
    pub left : (z : X) → R x z ≡ R y z
    pub right : (z : X) → R z x ≡ R z y

  abbrev Pairs : List X → List X → Type 0
  Pairs [] [] = Unit {0}
  Pairs [] (y ∷ ys) = ⊥
  Pairs (x ∷ xs) [] = ⊥
  Pairs (x ∷ xs) (y ∷ ys) = Alike x y × Pairs xs ys

  carried : (xs ys : List X) → Pairs xs ys → IsSorted R xs → IsSorted R ys
  carried [] [] p s = s
  carried [] (y ∷ ys) p s = absurd p
  carried (x ∷ xs) [] p s = absurd p
  carried (x ∷ []) (y ∷ []) p s = single y
  carried (x ∷ []) (y ∷ z ∷ ys) p s = absurd p.1
  carried (x ∷ a ∷ xs) (y ∷ []) p s = absurd p.1
  carried (x ∷ a ∷ xs) (y ∷ b ∷ ys) p s =
      let h : R a x ≡ R b y = p.1.0.left x ∙ p.0.right b in
      cons y b ys (ap is_lt (sym h) ∙ first x a xs s)
      (carried (a ∷ xs) (b ∷ ys) p.1 (tail x (a ∷ xs) s))

module _ {K T : Type 0} (R : K → K → Ordering) (key : T → K) (total : IsTotalOrder R) where
  abbrev below : ℕ × (ℕ × T) → ℕ × (ℕ × T) → Ordering
  below x y = R (key x.1.1) (key y.1.1)

  abbrev listed_of : (ℕ → Option (ℕ × T)) → List ℕ → List (ℕ × (ℕ × T))
  listed_of entry w = filter_map (λ i. option_map (λ e. (i, e)) (entry i)) w

  listed-same : (a b : ℕ → Option (ℕ × T)) → ((k : ℕ) → a k ≡ b k) → (xs : List ℕ)
      → listed_of a xs ≡ listed_of b xs
  listed-same a b h [] = refl
  listed-same a b h (x ∷ xs) = rw (h x, listed-same a b h xs) refl

  listed-other : (entry : ℕ → Option (ℕ × T)) (n : ℕ) (e : ℕ × T) (xs : List ℕ) → Off xs n
      → listed_of (with_entry entry n e) xs ≡ listed_of entry xs
  listed-other entry n e [] off = refl
  listed-other entry n e (x ∷ xs) off = by (entry x) refl (listed-other entry n e xs off.1)
    where
      other : with_entry entry n e x ≡ entry x
      other = rw (ne_eqb x n (off.0)) refl

      by : (o : Option (ℕ × T)) → entry x ≡ o
          → listed_of (with_entry entry n e) xs ≡ listed_of entry xs
          → listed_of (with_entry entry n e) (x ∷ xs) ≡ listed_of entry (x ∷ xs)
      by None at rest = rw (other, at) rest
      by (Some o) at rest = rw (other, at) (ap (λ l. (x, o) ∷ l) rest)

  -- what is asked of each index holds of each that is listed
  listed-all : (entry : ℕ → Option (ℕ × T)) (k : K) (A : Ordering → Type 0)
      (Q : ℕ × (ℕ × T) → Type 0) → ((z : ℕ × (ℕ × T)) → A (R k (key z.1.1)) → Q z)
      → (xs : List ℕ) → AllByRecursion (λ j. A (asked_of R key k (entry j))) xs
      → AllOf below Q (listed_of entry xs)
  listed-all entry k A Q f [] all = tt
  listed-all entry k A Q f (x ∷ xs) all = by (entry x) refl (listed-all entry k A Q f xs all.1)
    where
      by : (o : Option (ℕ × T)) → entry x ≡ o → AllOf below Q (listed_of entry xs)
          → AllOf below Q (listed_of entry (x ∷ xs))
      by None at rest = rw at rest
      by (Some o) at rest =
          let here : A (R k (key o.1)) = subst (λ e. A (asked_of R key k e)) at all.0 in
          rw at (f (x, o) here, rest)

  not_below : (x y : K) → R x y ≢ Greater → is_lt (R y x) ≡ false
  not_below x y h = by (R y x) refl
    where
      by : (a : Ordering) → R y x ≡ a → is_lt (R y x) ≡ false
      by Less e = absurd (h (total.antisymm x y ∙ ap ordering_reverse e))
      by Equal e = ap is_lt e
      by Greater e = ap is_lt e

  not_above : (x y : K) → R x y ≢ Less → is_lt (R x y) ≡ false
  not_above x y h = by (R x y) refl
    where
      by : (a : Ordering) → R x y ≡ a → is_lt (R x y) ≡ false
      by Less e = absurd (h e)
      by Equal e = ap is_lt e
      by Greater e = ap is_lt e

  -- one more entry between those that are not greater and those that are not less
  added : (entry new : ℕ → Option (ℕ × T)) (n g : ℕ) (t : T) (xs ys : List ℕ)
      → ((k : ℕ) → new k ≡ with_entry entry n (g, t) k) → Apart (xs ++ n ∷ ys)
      → IsSorted below (listed_of entry (xs ++ ys))
      → AllByRecursion (λ j. asked_of R key (key t) (entry j) ≢ Less) xs
      → AllByRecursion (λ j. asked_of R key (key t) (entry j) ≢ Greater) ys
      → IsSorted below (listed_of new (xs ++ n ∷ ys))
  added entry new n g t xs ys is apart s low high =
      let off = (Apart-taken xs ys n apart).1 in
      let e : ℕ × T = (g, t) in
      let x : ℕ × (ℕ × T) = (n, e) in
      let h : ℕ → Option (ℕ × (ℕ × T)) = λ i. option_map (λ e. (i, e)) (entry i) in
      let w : ℕ → Option (ℕ × (ℕ × T)) = λ i. option_map (λ e. (i, e)) (with_entry entry n e i) in
      let here : listed_of (with_entry entry n e) (n ∷ ys) ≡ x ∷ listed_of entry ys =
      rw (eq-eqb n n refl) (ap (λ l. x ∷ l) (listed-other entry n e ys (Off-back xs ys n off))) in
      let front : listed_of (with_entry entry n e) xs ≡ listed_of entry xs =
      listed-other entry n e xs (Off-front xs ys n off) in
      let split : listed_of new (xs ++ n ∷ ys)
      ≡ listed_of (with_entry entry n e) xs ++ listed_of (with_entry entry n e) (n ∷ ys) =
      listed-same new (with_entry entry n e) is (xs ++ n ∷ ys) ∙ filter_map-append w xs (n ∷ ys) in
      let whole : listed_of new (xs ++ n ∷ ys) ≡ listed_of entry xs ++ x ∷ listed_of entry ys =
      split ∙ ap (λ l. l ++ listed_of (with_entry entry n e) (n ∷ ys)) front
      ∙ ap (λ l. listed_of entry xs ++ l) here in
      let sorted = put below (listed_of entry xs) x (listed_of entry ys)
      (subst (IsSorted below) (filter_map-append h xs ys) s)
      (listed-all entry (key t) (λ d. d ≢ Less) (λ z. is_lt (below x z) ≡ false)
      (λ z h. not_above (key t) (key z.1.1) h) xs low)
      (listed-all entry (key t) (λ d. d ≢ Greater) (λ z. is_lt (below z x) ≡ false)
      (λ z h. not_below (key t) (key z.1.1) h) ys high) in
      subst (IsSorted below) (sym whole) sorted

  alike : (x g : ℕ) (t u : T) → R (key t) (key u) ≡ Equal → Alike below (x, (g, u)) (x, (g, t))
  alike x g t u e =
      let right : (k : K) → R k (key u) ≡ R k (key t) =
      λ k. sym (alike_right total (key t) (key u) k e) in
      record {
        left = λ z. total.antisymm (key u) (key z.1.1) ∙ ap ordering_reverse (right (key z.1.1))
            ∙ sym (total.antisymm (key t) (key z.1.1));
        right = λ z. right (key z.1.1);
      }

  -- an item with an equal key in the place of another
  paired : (entry : ℕ → Option (ℕ × T)) (i g : ℕ) (t u : T) → entry i ≡ Some (g, u)
      → R (key t) (key u) ≡ Equal
      → (w : List ℕ) → Pairs below (listed_of entry w) (listed_of (with_entry entry i (g, t)) w)
  paired entry i g t u was e [] = tt
  paired entry i g t u was e (x ∷ xs) =
      let rest = paired entry i g t u was e xs in
      elim (eqb_tells x i) [
        | inl same ↦ let at : entry x ≡ Some (g, u) = ap entry same.1
            ∙ was in rw (same.0, at) (alike x g t u e, rest)
        | inr other ↦ rw other.0 (by (entry x) refl rest)
      ]
    where
      by : (o : Option (ℕ × T)) → entry x ≡ o
          → Pairs below (listed_of entry xs) (listed_of (with_entry entry i (g, t)) xs)
          → Pairs below (filter_map (λ i. option_map (λ e. (i, e)) (entry i)) (x ∷ xs))
          (cons_option (option_map (λ e. (x, e)) (entry x))
          (listed_of (with_entry entry i (g, t)) xs))
      by None at rest = rw at rest
      by (Some o) at rest = rw at (record { left = λ z. refl; right = λ z. refl }, rest)

  -- entries whose keys are the same
  keyed : (a b : ℕ → Option (ℕ × T))
      → ((k : ℕ) → option_map (λ e. key e.1) (b k) ≡ option_map (λ e. key e.1) (a k))
      → (w : List ℕ) → Pairs below (listed_of a w) (listed_of b w)
  keyed a b same [] = tt
  keyed a b same (x ∷ xs) = by (a x) refl (b x) refl (keyed a b same xs)
    where
      by : (o : Option (ℕ × T)) → a x ≡ o → (q : Option (ℕ × T)) → b x ≡ q
          → Pairs below (listed_of a xs) (listed_of b xs)
          → Pairs below (listed_of a (x ∷ xs)) (listed_of b (x ∷ xs))
      by None at None to rest = rw (at, to) rest
      by None at (Some q) to rest =
          absurd (let z : Some (key q.1) ≡ None = sym (ap (option_map (λ e. key e.1)) to) ∙ same x
          ∙ ap (option_map (λ e. key e.1)) at in cc)
      by (Some o) at None to rest =
          absurd (let z : None ≡ Some (key o.1) = sym (ap (option_map (λ e. key e.1)) to) ∙ same x
          ∙ ap (option_map (λ e. key e.1)) at in cc)
      by (Some o) at (Some q) to rest =
          let found : Some (key q.1) ≡ Some (key o.1) = sym (ap (option_map (λ e. key e.1)) to)
          ∙ same x ∙ ap (option_map (λ e. key e.1)) at in
          let e : key q.1 ≡ key o.1 = cc found in
          rw (at, to) (record { left = λ z. rw e refl; right = λ z. rw e refl }, rest)

  -- without an index
  kept-all : (entry : ℕ → Option (ℕ × T)) (h : ℕ) (Q : ℕ × (ℕ × T) → Type 0) (w : List ℕ)
      → AllOf below Q (listed_of entry w) → AllOf below Q (listed_of (without entry h) w)
  kept-all entry h Q [] all = tt
  kept-all entry h Q (x ∷ xs) all =
      elim (eqb_tells x h) [
        | inl same ↦ rw same.0
            (kept-all entry h Q xs
            (all-later below Q (option_map (λ e. (x, e)) (entry x)) (listed_of entry xs) all))
        | inr other ↦ rw other.0
            (by (kept-all entry h Q xs) (option_map (λ e. (x, e)) (entry x)) all)
      ]
    where
      by : (AllOf below Q (listed_of entry xs) → AllOf below Q (listed_of (without entry h) xs))
          → (o : Option (ℕ × (ℕ × T)))
          → AllOf below Q (cons_option o (listed_of entry xs))
          → AllOf below Q (cons_option o (listed_of (without entry h) xs))
      by rest None all = rest all
      by rest (Some a) all = (all.0, rest all.1)

  kept-rising : (entry : ℕ → Option (ℕ × T)) (h : ℕ) (w : List ℕ) → Rising below (listed_of entry w)
      → Rising below (listed_of (without entry h) w)
  kept-rising entry h [] p = tt
  kept-rising entry h (x ∷ xs) p =
      elim (eqb_tells x h) [
        | inl same ↦ rw same.0
            (kept-rising entry h xs
            (rising-later below (option_map (λ e. (x, e)) (entry x)) (listed_of entry xs) p))
        | inr other ↦ rw other.0
            (by (kept-rising entry h xs) (option_map (λ e. (x, e)) (entry x)) p)
      ]
    where
      by : (Rising below (listed_of entry xs) → Rising below (listed_of (without entry h) xs))
          → (o : Option (ℕ × (ℕ × T)))
          → Rising below (cons_option o (listed_of entry xs))
          → Rising below (cons_option o (listed_of (without entry h) xs))
      by rest None p = rest p
      by rest (Some a) p = (kept-all entry h (λ z. is_lt (below z a) ≡ false) xs p.0, rest p.1)

  not_less : (x y z : ℕ × (ℕ × T)) → is_lt (below y x) ≡ false → is_lt (below z y) ≡ false
      → is_lt (below z x) ≡ false
  not_less x y z low high = by (below z x) refl
    where
      by : (a : Ordering) → below z x ≡ a → is_lt (below z x) ≡ false
      by Less e =
          let less : below z y ≡ Less =
          (parts total (key z.1.1) (key x.1.1) (key y.1.1) low).less e in
          let no : true ≡ false = sym (ap is_lt less) ∙ high in
          absurd (cc)
      by Equal e = ap is_lt e
      by Greater e = ap is_lt e

  pub removed_ascending : (last : Option ℕ) (h : ℕ) (o p : Ordered T)
      → IsEntryRemoved last h o p → StaysAscending R key o p
  removed_ascending last h o p s ascending =
      let w = order_in o in
      let f : ℕ → Option (ℕ × (ℕ × T)) = λ i. option_map (λ e. (i, e)) (entry_in p i) in
      let kept : IsSorted below (listed_of (without (entry_in o) h) w) =
      rising-sorted below (listed_of (without (entry_in o) h) w)
      (kept-rising (entry_in o) h w
      (sorted-rising below not_less (listed_of (entry_in o) w) ascending)) in
      let left : IsSorted below (listed_of (entry_in p) w) =
      subst (IsSorted below)
      (sym (listed-same (entry_in p) (without (entry_in o) h) s.entries w)) kept in
      let none : entry_in p h ≡ None = s.entries h ∙ rw (eq-eqb h h refl) refl in
      let here : listed_of (entry_in p) (h ∷ s.order.after)
      ≡ listed_of (entry_in p) s.order.after = rw none refl in
      let same : listed_of (entry_in p) (s.order.before ++ h ∷ s.order.after)
      ≡ listed_of (entry_in p) (s.order.before ++ s.order.after) =
      filter_map-append f s.order.before (h ∷ s.order.after)
      ∙ ap (λ l. listed_of (entry_in p) s.order.before ++ l) here
      ∙ sym (filter_map-append f s.order.before s.order.after) in
      subst (λ v. IsSorted below (listed_of (entry_in p) v)) (sym s.order.is)
      (subst (IsSorted below) (ap (listed_of (entry_in p)) s.order.was ∙ same) left)

  pub keyed_ascending : (o p : Ordered T)
      → order_in p ≡ order_in o
      → SameKeys key o p
      → StaysAscending R key o p
  keyed_ascending o p order keys ascending =
      subst (λ w. IsSorted below (listed_of (entry_in p) w)) (sym order)
      (carried below (listed_of (entry_in o) (order_in o))
      (listed_of (entry_in p) (order_in o))
      (keyed (entry_in o) (entry_in p) keys (order_in o)) ascending)

  module _ (o p : Ordered T) (i g : ℕ) (t : T) where
    pub replaced_ascending : (u : T) → R (key t) (key u) ≡ Equal → IsReplaced i g t u o p
        → StaysAscending R key o p
    replaced_ascending u equal r ascending =
        let entries = listed-same (entry_in p) (with_entry (entry_in o) i (g, t)) r.entries
        (order_in o) in
        let sorted = carried below (listed_of (entry_in o) (order_in o))
        (listed_of (with_entry (entry_in o) i (g, t)) (order_in o))
        (paired (entry_in o) i g t u r.was equal (order_in o)) ascending in
        subst (λ w. IsSorted below (listed_of (entry_in p) w)) (sym r.order)
        (subst (IsSorted below) (sym entries) sorted)

    pub added_ascending : IsOrdered p
        → IsPlacedBetween R key (key t) i o p
        → IsAdded i g t o p
        → StaysAscending R key o p
    added_ascending new_is s r ascending =
        let apart : Apart (order_in p) =
        linear_apart (ends_in p.chains) None (order_in p) new_is.linear in
        let sorted = added (entry_in o) (entry_in p) i g t s.before s.after r.entries
        (subst Apart s.is apart)
        (subst (λ w. IsSorted below (listed_of (entry_in o) w)) s.was ascending) s.none_greater
        s.none_less in
        subst (λ w. IsSorted below (listed_of (entry_in p) w)) (sym s.is) sorted

  module _ {P : Type 0} (index generation : P → ℕ)
      (allows : Option OrdInsertionError → Type 0) where
    -- an insertion in an entry with an equal key, or between the lesser and the greater ones
    pub inserted_ascending : (o p : Ordered T) (t : T) (place : Option (ℕ × Ordering))
        (result : Result (P × Option T) OrdInsertionError) → IsOrdered p
        → ((i g : ℕ) (u : T) → place ≡ Some (i, Equal) → entry_in o i ≡ Some (g, u)
        → R (key t) (key u) ≡ Equal)
        → ((n : ℕ) → StandsAt place (order_in o) (order_in p) n
        → IsPlacedBetween R key (key t) n o p)
        → IsInsertedAt index generation allows place t result o p
        → StaysAscending R key o p
    inserted_ascending o p t place result new_is equal between put ascending = by result refl
      where
        by : (r : Result (P × Option T) OrdInsertionError) → result ≡ r → IsAscending R key p
        by (Err e) at = subst (IsAscending R key) (sym (put.same e at)) ascending
        by (Ok a) at = answered a.1 refl
          where
            answered : (u : Option T) → a.1 ≡ u → IsAscending R key p
            answered (Some u) e =
                let r = put.replaced a.0 u (at ∙ ap (λ z. Ok (a.0, z)) e) in
                replaced_ascending o p (index a.0) (generation a.0) t u
                (equal (index a.0) (generation a.0) u r.0 r.1.was) r.1 ascending
            answered None e =
                let r = put.added a.0 (at ∙ ap (λ z. Ok (a.0, z)) e) in
                added_ascending o p (index a.0) (generation a.0) t new_is
                (between (index a.0) r.0) r.1 ascending
