-- What a way of questions comes to where the answers are those of a function.
use Rattle.std.proofs.Common.{◌≡◌, ℕ, ◌<◌, List, [], ◌∷◌, ◌++◌, append_assoc, append-nil, Option}
use Rattle.std.proofs.Common.{Some, None, refl, sym, ap, ◌∙◌, subst, arith}
use Rattle.std.specs.List.{AllByRecursion, last_or}
use Rattle.std.specs.declared.cmp.Ordering.{Ordering}
use Rattle.std.specs.declared.cmp.Ordering.TheVariants.{Less, Equal, Greater}
use Rattle.linked_lists.specs.LinkedLists.{On}
use Rattle.rank_tree.specs.Tree.{Tree, leaf, node, walk}
use Rattle.rank_tree.specs.Shape.{root_of, count}
use Rattle.rank_tree.specs.Search.{MayPrecede, IsParted, EndsAt, IsAnswer}
use Rattle.triple_arena_ord.specs.Asked.{left_by, IsWay}
use Rattle.rank_tree.specs.DescentLaws.{all-append, all-back, all-map, parted-after}
use Rattle.rank_tree.specs.DescentLaws.{parted-before}
use Rattle.rank_tree.specs.FrameLaws.{one-same}
use Rattle.triple_arena_ord.proofs.SeekLemmas.{all-counted}

-- an index of the walk is counted
pub walk-counted : (t : Tree) (j : ℕ) → On (walk t) j → 0 < count j t
walk-counted t j on = by t refl
  where
    counted : (t : Tree) → AllByRecursion (λ i. 0 < count i t) (walk t)
    counted leaf = tt
    counted (node l i k r) =
        let here = one-same i in
        all-append (λ j. 0 < count j (node l i k r)) (walk l) (i ∷ walk r)
        (all-map (λ j. 0 < count j l) (λ j. 0 < count j (node l i k r)) (λ j h. omega (arith, h))
        (walk l) (counted l)) (
          omega (arith, here),
          all-map (λ j. 0 < count j r) (λ j. 0 < count j (node l i k r))
              (λ j h. omega (arith, h)) (walk r) (counted r),
        )

    by : (u : Tree) → t ≡ u → 0 < count j t
    by u e = (all-back (λ i. 0 < count i t) on.front (j ∷ on.back)
        (subst (AllByRecursion (λ i. 0 < count i t)) on.is (counted t))).0

-- and what is counted is on the walk
on_all : (before xs : List ℕ) → AllByRecursion (On (before ++ xs)) xs
on_all before [] = tt
on_all before (x ∷ xs) = (
  record { front = before; back = xs; is = refl },
  subst (λ l. AllByRecursion (On l) xs) (append_assoc before (x ∷ []) xs)
      (on_all (before ++ x ∷ []) xs),
)

pub counted-walk : (t : Tree) (j : ℕ) → 0 < count j t → On (walk t) j
counted-walk t j h = all-counted (On (walk t)) t (on_all [] (walk t)) j h

pair_some : (a : ℕ × Ordering) (i : ℕ) (d : Ordering)
    → ◌≡◌ {A = Option (ℕ × Ordering)} (Some a) (Some (i, d)) → (a.0 ≡ i) × (a.1 ≡ d)
pair_some a i d h = let q : ℕ × Ordering = (i, d) in let g : a ≡ q = cc in
    (ap (λ p. p.0) g, ap (λ p. p.1) g)

-- the last index that was asked is on the list
pub way_on : (asked : List (ℕ × Ordering)) (w : List ℕ) → IsWay asked w → (i : ℕ) (d : Ordering)
    → last_or None asked ≡ Some (i, d) → On w i
way_on [] w way i d e = absurd (cc)
way_on (a ∷ []) w way i d e = let z = pair_some a i d e in
    record {
      front = way.0.front;
      back = way.0.back;
      is = way.0.is ∙ ap (λ x. way.0.front ++ x ∷ way.0.back) z.0;
    }
way_on (a ∷ b ∷ asked) w way i d e =
    turn a.1 refl (way_on (b ∷ asked) (left_by a.1 way.0.front way.0.back) way.1 i d e)
  where
    turn : (c : Ordering) → a.1 ≡ c → On (left_by a.1 way.0.front way.0.back) i → On w i
    turn Less u on =
        let is : way.0.front ≡ on.front ++ i ∷ on.back =
        ap (λ c. left_by c way.0.front way.0.back) (sym u) ∙ on.is in
        record {
          front = on.front;
          back = on.back ++ a.0 ∷ way.0.back;
          is = way.0.is
              ∙ ap (λ l. l ++ a.0 ∷ way.0.back) is
              ∙ append_assoc on.front (i ∷ on.back) (a.0 ∷ way.0.back);
        }
    turn Equal u on = let is : [] ≡ on.front ++ i ∷ on.back =
        ap (λ c. left_by c way.0.front way.0.back) (sym u) ∙ on.is in absurd (not_nil on.front is)
      where
        not_nil : (xs : List ℕ) → [] ≡ xs ++ i ∷ on.back → ⊥
        not_nil [] z = absurd (cc)
        not_nil (x ∷ xs) z = absurd (cc)
    turn Greater u on =
        let is : way.0.back ≡ on.front ++ i ∷ on.back =
        ap (λ c. left_by c way.0.front way.0.back) (sym u) ∙ on.is in
        record {
          front = way.0.front ++ a.0 ∷ on.front;
          back = on.back;
          is = way.0.is
              ∙ ap (λ l. way.0.front ++ a.0 ∷ l) is
              ∙ sym (append_assoc way.0.front (a.0 ∷ on.front) (i ∷ on.back));
        }

module _ (f : ℕ → Ordering) where
  -- it ends the questions, or is a neighbor of the gap
  way_places : (asked : List (ℕ × Ordering)) (low w high : List ℕ) → IsWay asked w
      → AllByRecursion (λ (a : ℕ × Ordering). f a.0 ≡ a.1) asked → IsParted f (low ++ (w ++ high))
      → AllByRecursion (λ y. f y ≡ Greater) low → AllByRecursion (λ y. f y ≡ Less) high
      → (i : ℕ) (d : Ordering)
      → last_or None asked ≡ Some (i, d) → EndsAt f (low ++ (w ++ high)) i d
  way_places [] low w high way all parted below above i d e = absurd (cc)
  way_places (a ∷ []) low w high way all parted below above i d e =
      let z = pair_some a i d e in
      record {
        before = low ++ way.0.front;
        after = way.0.back ++ high;
        is = ap (λ l. low ++ (l ++ high)) way.0.is
            ∙ simp append_assoc (ap (λ x. low ++ (way.0.front ++ x ∷ (way.0.back ++ high))) z.0);
        less = λ u. all-append (λ y. f y ≡ Greater) low way.0.front below
            (let nil : way.0.front ≡ [] = ap (λ c. left_by c way.0.front way.0.back) (sym (z.1 ∙ u))
            ∙ way.1 in rw nil tt);
        greater = λ u. all-append (λ y. f y ≡ Less) way.0.back high
            (let nil : way.0.back ≡ [] = ap (λ c. left_by c way.0.front way.0.back) (sym (z.1 ∙ u))
            ∙ way.1 in rw nil tt) above;
      }
  way_places (a ∷ b ∷ asked) low w high way all parted below above i d e =
      turn a.1 refl
      (λ u p h. way_places (b ∷ asked) low way.0.front (a.0 ∷ (way.0.back ++ high))
      (subst (λ c. IsWay (b ∷ asked) (left_by c way.0.front way.0.back)) u way.1) all.1 p below
      h i d e)
      (λ u p l. way_places (b ∷ asked) (low ++ (way.0.front ++ a.0 ∷ [])) way.0.back high
      (subst (λ c. IsWay (b ∷ asked) (left_by c way.0.front way.0.back)) u way.1) all.1 p l
      above i d e)
    where
      cut : low ++ (w ++ high) ≡ low ++ (way.0.front ++ a.0 ∷ (way.0.back ++ high))
      cut = ap (λ l. low ++ (l ++ high)) way.0.is ∙ simp append_assoc

      second : low ++ (way.0.front ++ a.0 ∷ (way.0.back ++ high))
          ≡ (low ++ (way.0.front ++ a.0 ∷ [])) ++ (way.0.back ++ high)
      second = simp append_assoc

      opened : IsParted f ((low ++ way.0.front) ++ a.0 ∷ (way.0.back ++ high))
      opened = subst (IsParted f)
          (cut ∙ sym (append_assoc low way.0.front (a.0 ∷ (way.0.back ++ high)))) parted

      turn : (c : Ordering) → a.1 ≡ c
          → (a.1 ≡ Less → IsParted f (low ++ (way.0.front ++ a.0 ∷ (way.0.back ++ high)))
          → AllByRecursion (λ y. f y ≡ Less) (a.0 ∷ (way.0.back ++ high)) → EndsAt f
          (low ++ (way.0.front ++ a.0 ∷ (way.0.back ++ high))) i d)
          → (a.1 ≡ Greater → IsParted f ((low ++ (way.0.front ++ a.0 ∷ [])) ++ (way.0.back ++ high))
          → AllByRecursion (λ y. f y ≡ Greater) (low ++ (way.0.front ++ a.0 ∷ []))
          → EndsAt f ((low ++ (way.0.front ++ a.0 ∷ [])) ++ (way.0.back ++ high)) i d)
          → EndsAt f (low ++ (w ++ high)) i d
      turn Less u to_left to_right =
          let here : f a.0 ≡ Less = all.0 ∙ u in
          subst (λ l. EndsAt f l i d) (sym cut) (to_left u (subst (IsParted f) cut parted) (
            here,
            all-map (λ y. MayPrecede (f a.0) (f y)) (λ y. f y ≡ Less) (λ y z. z.less here)
                (way.0.back ++ high) (parted-after f (low ++ way.0.front) a.0 (way.0.back ++ high)
                opened),
          ))
      turn Equal u to_left to_right =
          absurd (empty (left_by a.1 way.0.front way.0.back)
          (ap (λ c. left_by c way.0.front way.0.back) u) way.1)
        where
          empty : (l : List ℕ) → l ≡ [] → IsWay (b ∷ asked) l → ⊥
          empty [] n v = not_nil v.0.front v.0.is
            where
              not_nil : (xs : List ℕ) → [] ≡ xs ++ b.0 ∷ v.0.back → ⊥
              not_nil [] z = absurd (cc)
              not_nil (x ∷ xs) z = absurd (cc)
          empty (x ∷ l) n v = absurd (cc)
      turn Greater u to_left to_right =
          let here : f a.0 ≡ Greater = all.0 ∙ u in
          subst (λ l. EndsAt f l i d) (sym (cut ∙ second))
          (to_right u (subst (IsParted f) (cut ∙ second) parted)
          (all-append (λ y. f y ≡ Greater) low (way.0.front ++ a.0 ∷ []) below
          (all-append (λ y. f y ≡ Greater) way.0.front (a.0 ∷ [])
          (all-back (λ y. f y ≡ Greater) low way.0.front
          (all-map (λ y. MayPrecede (f y) (f a.0)) (λ y. f y ≡ Greater) (λ y z. z.greater here)
          (low ++ way.0.front)
          (parted-before f (low ++ way.0.front) a.0 (way.0.back ++ high) opened)))
          (here, tt))))

  pub way_answers : (t : Tree) (asked : List (ℕ × Ordering)) → IsWay asked (walk t)
      → AllByRecursion (λ (a : ℕ × Ordering). f a.0 ≡ a.1) asked → IsAnswer f t (last_or None asked)
  way_answers t asked way all = record {
    empty = λ u. none asked way u;
    lives = λ i d u. walk-counted t i (way_on asked (walk t) way i d u);
    asked = λ i d u. last_answers asked all i d u;
    parted = λ i d u p. subst (λ l. EndsAt f l i d) (append-nil (walk t))
        (way_places asked [] (walk t) [] way all (subst (IsParted f) (sym (append-nil (walk t))) p)
        tt tt i d u);
  }
    where
      no_root : (t : Tree) → walk t ≡ [] → root_of t ≡ None
      no_root leaf e = refl
      no_root (node l i k r) e = absurd (not_nil (walk l) e)
        where
          not_nil : (xs : List ℕ) → xs ++ i ∷ walk r ≡ [] → ⊥
          not_nil [] z = absurd (cc)
          not_nil (x ∷ xs) z = absurd (cc)

      never : (o : ℕ × Ordering) (asked : List (ℕ × Ordering)) → last_or (Some o) asked ≡ None → ⊥
      never o [] u = absurd (cc)
      never o (a ∷ asked) u = never a asked u

      none : (asked : List (ℕ × Ordering)) → IsWay asked (walk t) → last_or None asked ≡ None
          → root_of t ≡ None
      none [] way u = no_root t way
      none (a ∷ asked) way u = absurd (never a asked u)

      last_answers : (asked : List (ℕ × Ordering))
          → AllByRecursion (λ (a : ℕ × Ordering). f a.0 ≡ a.1) asked → (i : ℕ) (d : Ordering)
          → last_or None asked ≡ Some (i, d) → f i ≡ d
      last_answers [] all i d u = absurd (cc)
      last_answers (a ∷ []) all i d u = let z = pair_some a i d u in ap f (sym z.0) ∙ all.0 ∙ z.1
      last_answers (a ∷ b ∷ asked) all i d u = last_answers (b ∷ asked) all.1 i d u
