-- How many comparisons a search makes follows from where its ticket stands among the entries.
use Rattle.std.proofs.Common.{◌≡◌, ◌∙◌, sym, ap, subst, refl, ℕ, ◌+◌, ◌<◌, ◌≤◌, List, [], ◌∷◌}
use Rattle.std.proofs.Common.{map, length, Option, Some, None, arith, inl, inr}
use Rattle.std.specs.List.{AllByRecursion}
use Rattle.std.specs.Cmp.{nat_cmp_is}
use Rattle.std.specs.Ordering.{nat_cmp}
use Rattle.std.specs.declared.cmp.Ordering.{Ordering}
use Rattle.std.specs.declared.cmp.Ordering.TheVariants.{Less, Greater}
use Rattle.std.proofs.lemmas.Bool.{cases_lt, lt-ltb, le-ltb}
use Rattle.std.proofs.lemmas.Bool.Decides.{eqb_tells}
use Rattle.std.proofs.lemmas.List.{length-map}
use Rattle.rank_tree.specs.Comparisons.{most_comparisons}
use Rattle.rank_tree.specs.Search.{asked_down, led_by}
use Rattle.rank_tree.specs.DescentLaws.{all-front, all-back}
use Rattle.rank_tree.specs.Tree.{Tree, leaf, node, walk}
use Rattle.triple_arena_ord.specs.Ordered.{Ordered, asked_of, entry_in, order_in, ordered_entries}
use Rattle.triple_arena_ord.specs.Ordered.{size_in, tree_in}
use Rattle.ticket_book.specs.InArena.{asked_beside, asked_in, entries_of}
use Rattle.ticket_book.specs.Tickets.{Entry, TicketsRise, asked_among}
use Rattle.ticket_book.specs.AlongLaws.{along}

-- two tickets compare alike with each of these entries
abbrev AreAlike : ℕ → ℕ → List Entry → Type 0
AreAlike t u entries =
    AllByRecursion (λ (e : Entry). nat_cmp t e.ticket ≡ nat_cmp u e.ticket) entries

-- ---- a tree

same_down : (f g : ℕ → Ordering) (t : Tree) → AllByRecursion (λ j. f j ≡ g j) (walk t)
    → asked_down f t ≡ asked_down g t
same_down f g leaf all = refl
same_down f g (node l i k r) all =
    let here = all-back (λ j. f j ≡ g j) (walk l) (i ∷ walk r) all in
    let left = same_down f g l (all-front (λ j. f j ≡ g j) (walk l) (i ∷ walk r) all) in
    let right = same_down f g r here.1 in
    ap (λ d. 1 + led_by d (asked_down f l) (asked_down f r)) here.0
    ∙ ap (λ n. 1 + led_by (g i) n (asked_down f r)) left
    ∙ ap (λ n. 1 + led_by (g i) (asked_down g l) n) right

-- ---- an arena

alike_along : (at : ℕ → Option (ℕ × Entry)) (t u : ℕ) (w : List ℕ) → AreAlike t u (along at w)
    → AllByRecursion (λ j. asked_of nat_cmp (λ (e : Entry). e.ticket) t (at j)
    ≡ asked_of nat_cmp (λ (e : Entry). e.ticket) u (at j)) w
alike_along at t u [] all = tt
alike_along at t u (j ∷ w) all = by (at j) refl (alike_along at t u w) all
  where
    by : (o : Option (ℕ × Entry)) → at j ≡ o
        → (AreAlike t u (along at w)
        → AllByRecursion (λ k. asked_of nat_cmp (λ (e : Entry). e.ticket) t (at k)
        ≡ asked_of nat_cmp (λ (e : Entry). e.ticket) u (at k)) w)
        → AreAlike t u (along at (j ∷ w))
        → (asked_of nat_cmp (λ (e : Entry). e.ticket) t (at j)
        ≡ asked_of nat_cmp (λ (e : Entry). e.ticket) u (at j))
        × AllByRecursion (λ k. asked_of nat_cmp (λ (e : Entry). e.ticket) t (at k)
        ≡ asked_of nat_cmp (λ (e : Entry). e.ticket) u (at k)) w
    by None is rest all =
        let skip : along at (j ∷ w) ≡ along at w = rw is refl in
        (rw is refl, rest (subst (AreAlike t u) skip all))
    by (Some e) is rest all =
        let first : along at (j ∷ w) ≡ e.1 ∷ along at w = rw is refl in
        let both : AreAlike t u (e.1 ∷ along at w) = subst (AreAlike t u) first all in
        (rw is both.0, rest both.1)

-- ---- a list of entries

-- between two entries all tickets are asked for alike
asked_is : (f : ℕ → ℕ) (entries : List Entry) (low t : ℕ) → TicketsRise entries
    → AllByRecursion (λ (e : Entry). low ≤ e.ticket) entries
    → ((a b : ℕ) → low ≤ a → low ≤ b → AreAlike a b entries → f a ≡ f b) → low ≤ t
    → asked_among (f low) entries (map (λ (e : Entry). (f e.ticket, f (e.ticket + 1))) entries) t
    ≡ f t
asked_is f [] low t rise least alike from = alike low t (omega arith) from tt
asked_is f (e ∷ entries) low t rise least alike from = elim (cases_lt t e.ticket) [
  | inl under ↦
      rw (lt-ltb t e.ticket under)
      (alike low t (omega arith) from (
        both_below e.ticket low t (omega (arith, from, under)) under,
        below entries rise.0 under,
      ))
  | inr over ↦ elim (eqb_tells t e.ticket) [
    | inl same ↦ rw (le-ltb t e.ticket over, same.0) (ap f (sym same.1))
    | inr other ↦
        let apart = other.1 in
        let here = least.0 in
        rw (le-ltb t e.ticket over, other.0)
        (asked_is f entries (e.ticket + 1) t rise.1 (behind entries rise.0)
        (λ a b one two all. alike a b (omega (arith, here, one)) (omega (arith, here, two))
        (both_above e.ticket a b (omega (arith, one)) (omega (arith, two)), all))
        (omega (arith, over, apart)))
  ]
]
  where
    both_below : (n a b : ℕ) → a < n → b < n → nat_cmp a n ≡ nat_cmp b n
    both_below n a b one two = sym (nat_cmp_is a n Less one) ∙ nat_cmp_is b n Less two

    both_above : (n a b : ℕ) → n < a → n < b → nat_cmp a n ≡ nat_cmp b n
    both_above n a b one two = sym (nat_cmp_is a n Greater one) ∙ nat_cmp_is b n Greater two

    below : (xs : List Entry) → AllByRecursion (λ (x : Entry). e.ticket < x.ticket) xs
        → t < e.ticket → AreAlike low t xs
    below [] all under = tt
    below (x ∷ xs) all under = (
      let more = all.0 in both_below x.ticket low t (omega (arith, more, from, under))
          (omega (arith, more, under)),
      below xs all.1 under,
    )

    behind : (xs : List Entry) → AllByRecursion (λ (x : Entry). e.ticket < x.ticket) xs
        → AllByRecursion (λ (x : Entry). e.ticket + 1 ≤ x.ticket) xs
    behind [] all = tt
    behind (x ∷ xs) all = (let more = all.0 in omega (arith, more), behind xs all.1)

-- the number that stands for a search in the list is that of its comparisons
pub asked_there : (o : Ordered Entry) (t : ℕ)
    → TicketsRise (entries_of o)
    → asked_among (asked_in o 0) (entries_of o) (asked_beside o) t
    ≡ asked_in o t
asked_there o t rise =
    asked_is (asked_in o) (entries_of o) 0 t rise (each (entries_of o))
    (λ a b one two all. same_down _ _ (tree_in o)
    (alike_along (entry_in o) a b (order_in o) all)) (omega arith)
  where
    each : (xs : List Entry) → AllByRecursion (λ (x : Entry). 0 ≤ x.ticket) xs
    each [] = tt
    each (x ∷ xs) = (omega arith, each xs)

-- and it is within the bound
pub asked_within : (o : Ordered Entry) (t old new : ℕ)
    → TicketsRise (entries_of o) → new ≡ old + asked_in o t
    → new ≤ old + most_comparisons (size_in o) → length (ordered_entries o) ≡ size_in o
    → asked_among (asked_in o 0) (entries_of o) (asked_beside o) t
    ≤ most_comparisons (length (entries_of o))
asked_within o t old new rise ticks bound count =
    let is = asked_there o t rise in
    let size : length (entries_of o) ≡ size_in o =
    length-map (ordered_entries o) (λ x. x.1.1) ∙ count in
    let most : most_comparisons (length (entries_of o)) ≡ most_comparisons (size_in o) =
    ap most_comparisons size in
    omega (arith, is, most, ticks, bound)
