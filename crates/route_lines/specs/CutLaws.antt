-- Lists cut at an item, and what their items weigh.
use Rattle.std.proofs.Common.{◌≡◌, ◌∙◌, ap, subst, refl, Bool, true, false, ◌||◌, ◌==◌, ℕ, ◌+◌, ◌<◌}
use Rattle.std.proofs.Common.{◌≤◌, List}
use Rattle.std.proofs.Common.{[], ◌∷◌, ◌++◌, length, Option, Some, None, IfSome, cond, find, filter}
use Rattle.std.proofs.Common.{reverse, sym, arith}
use Rattle.std.specs.List.{AllByRecursion, list_any}
use Rattle.std.proofs.lemmas.Bool.{false≢true, ne_eqb}
use Rattle.std.proofs.lemmas.List.{reverse-append}
use Rattle.std.proofs.lemmas.List.Concat.{flat_map-append}
use Rattle.route_lines.specs.Cuts.{before, onward, up_to, behind, first_item, last_item}
use Rattle.route_lines.specs.Routes.{linear}
use Rattle.route_lines.specs.Sound.{total, count_of}
use Rattle.route_lines.specs.State.{Route, Stop, stop_list}

pub before_onward : {X : Type 0} (test : X → Bool) (xs : List X)
    → before test xs ++ onward test xs ≡ xs
before_onward test [] = refl
before_onward test (x ∷ xs) = at (test x) (before_onward test xs)
  where
    at : (b : Bool) → before test xs ++ onward test xs ≡ xs
        → cond b [] (x ∷ before test xs) ++ cond b (x ∷ xs) (onward test xs) ≡ x ∷ xs
    at true e = refl
    at false e = ap (λ ys. x ∷ ys) e

pub up_to_behind : {X : Type 0} (test : X → Bool) (xs : List X)
    → up_to test xs ++ behind test xs ≡ xs
up_to_behind test [] = refl
up_to_behind test (x ∷ xs) = at (test x) (up_to_behind test xs)
  where
    at : (b : Bool) → up_to test xs ++ behind test xs ≡ xs
        → cond b (x ∷ []) (x ∷ up_to test xs) ++ cond b xs (behind test xs) ≡ x ∷ xs
    at true e = refl
    at false e = ap (λ ys. x ∷ ys) e

-- ---- all items

pub all_weaker : {X : Type 0} (P Q : X → Type 0) (xs : List X) → ((x : X) → P x → Q x)
    → AllByRecursion P xs → AllByRecursion Q xs
all_weaker P Q [] f h = tt
all_weaker P Q (x ∷ xs) f h = (f x h.0, all_weaker P Q xs f h.1)

pub all_append : {X : Type 0} (P : X → Type 0) (xs ys : List X) → AllByRecursion P xs
    → AllByRecursion P ys → AllByRecursion P (xs ++ ys)
all_append P [] ys h k = k
all_append P (x ∷ xs) ys h k = (h.0, all_append P xs ys h.1 k)

pub all_front : {X : Type 0} (P : X → Type 0) (xs ys : List X) → AllByRecursion P (xs ++ ys)
    → AllByRecursion P xs
all_front P [] ys h = tt
all_front P (x ∷ xs) ys h = (h.0, all_front P xs ys h.1)

pub all_back : {X : Type 0} (P : X → Type 0) (xs ys : List X) → AllByRecursion P (xs ++ ys)
    → AllByRecursion P ys
all_back P [] ys h = h
all_back P (x ∷ xs) ys h = all_back P xs ys h.1

pub all_filter : {X : Type 0} (P : X → Type 0) (test : X → Bool) (xs : List X) → AllByRecursion P xs
    → AllByRecursion P (filter test xs)
all_filter P test [] h = tt
all_filter P test (x ∷ xs) h = at (test x) (all_filter P test xs h.1)
  where
    at : (b : Bool) → AllByRecursion P (filter test xs)
        → AllByRecursion P (cond b (x ∷ filter test xs) (filter test xs))
    at true k = (h.0, k)
    at false k = k

pub all_before : {X : Type 0} (P : X → Type 0) (test : X → Bool) (xs : List X) → AllByRecursion P xs
    → AllByRecursion P (before test xs)
all_before P test xs h =
    all_front P (before test xs) (onward test xs)
    (subst (AllByRecursion P) (sym (before_onward test xs)) h)

pub all_onward : {X : Type 0} (P : X → Type 0) (test : X → Bool) (xs : List X) → AllByRecursion P xs
    → AllByRecursion P (onward test xs)
all_onward P test xs h =
    all_back P (before test xs) (onward test xs)
    (subst (AllByRecursion P) (sym (before_onward test xs)) h)

pub all_behind : {X : Type 0} (P : X → Type 0) (test : X → Bool) (xs : List X) → AllByRecursion P xs
    → AllByRecursion P (behind test xs)
all_behind P test xs h =
    all_back P (up_to test xs) (behind test xs)
    (subst (AllByRecursion P) (sym (up_to_behind test xs)) h)

pub all_reverse : {X : Type 0} (P : X → Type 0) (xs : List X) → AllByRecursion P xs
    → AllByRecursion P (reverse xs)
all_reverse P [] h = tt
all_reverse P (x ∷ xs) h =
    subst (AllByRecursion P) (sym (reverse-append (x ∷ []) xs))
    (all_append P (reverse xs) (x ∷ []) (all_reverse P xs h.1) (h.0, tt))

pub first_in : {X : Type 0} (P : X → Type 0) (xs : List X) → AllByRecursion P xs
    → IfSome (first_item xs) P
first_in P [] h = tt
first_in P (x ∷ xs) h = h.0

pub last_in : {X : Type 0} (P : X → Type 0) (xs : List X) → AllByRecursion P xs
    → IfSome (last_item xs) P
last_in P [] h = tt
last_in P (x ∷ []) h = h.0
last_in P (x ∷ y ∷ xs) h = last_in P (y ∷ xs) h.1

-- what a search finds is one of the list, and passes
pub found_in : {X : Type 0} (P : X → Type 0) (test : X → Bool) (xs : List X) → AllByRecursion P xs
    → IfSome (find test xs) P
found_in P test [] each = tt
found_in P test (x ∷ xs) each = at (test x) (found_in P test xs each.1)
  where
    at : (b : Bool) → IfSome (find test xs) P → IfSome (cond b (Some x) (find test xs)) P
    at true behind = each.0
    at false behind = behind

pub found_passes : {X : Type 0} (test : X → Bool) (xs : List X) (x : X) → find test xs ≡ Some x
    → test x ≡ true
found_passes test [] x e = cc
found_passes test (y ∷ xs) x e = at (test y) refl e (found_passes test xs x)
  where
    at : (b : Bool) → test y ≡ b → cond b (Some y) (find test xs) ≡ Some x
        → (find test xs ≡ Some x → test x ≡ true) → test x ≡ true
    at true is e h = let same : y ≡ x = cc in subst (λ z. test z ≡ true) same is
    at false is e h = h e

pub found_if_any : {X : Type 0} (test : X → Bool) (xs : List X) → list_any test xs ≡ true
    → (x : X) × (find test xs ≡ Some x)
found_if_any test [] e = absurd (false≢true e)
found_if_any {X} test (x ∷ xs) e = at (test x) e (found_if_any test xs)
  where
    at : (b : Bool) → (b || list_any test xs) ≡ true
        → (list_any test xs ≡ true → (y : X) × (find test xs ≡ Some y))
        → (y : X) × (cond b (Some x) (find test xs) ≡ Some y)
    at true e h = (x, refl)
    at false e h = h e

-- ---- weights

pub total-append : {X : Type 0} (weight : X → ℕ) (xs ys : List X)
    → total weight (xs ++ ys) ≡ total weight xs + total weight ys
total-append weight [] ys = omega arith
total-append weight (x ∷ xs) ys = omega (arith, total-append weight xs ys)

pub length-total : {X : Type 0} (xs : List X) → length xs ≡ total (λ x. 1) xs
length-total [] = refl
length-total (x ∷ xs) = omega (arith, length-total xs)

pub count-any : {X : Type 0} (test : X → Bool) (xs : List X) → list_any test xs ≡ true
    → 1 ≤ count_of test xs
count-any test [] e = absurd (false≢true e)
count-any test (x ∷ xs) e = at (test x) e (count-any test xs)
  where
    at : (b : Bool) → (b || list_any test xs) ≡ true
        → (list_any test xs ≡ true → 1 ≤ count_of test xs) → 1 ≤ cond b 1 0 + count_of test xs
    at true e h = omega arith
    at false e h = omega (arith, h e)

pub count-none : {X : Type 0} (test : X → Bool) (xs : List X) → list_any test xs ≡ false
    → count_of test xs ≡ 0
count-none test [] e = refl
count-none test (x ∷ xs) e = at (test x) e (count-none test xs)
  where
    at : (b : Bool) → (b || list_any test xs) ≡ false
        → (list_any test xs ≡ false → count_of test xs ≡ 0) → cond b 1 0 + count_of test xs ≡ 0
    at true e h = cc
    at false e h = omega (arith, h e)

pub none-count : {X : Type 0} (test : X → Bool) (xs : List X) → count_of test xs ≡ 0
    → list_any test xs ≡ false
none-count test xs e = at (list_any test xs) refl
  where
    at : (b : Bool) → list_any test xs ≡ b → list_any test xs ≡ false
    at true is = absurd (omega (arith, e, count-any test xs is))
    at false is = is

pub any-count : {X : Type 0} (test : X → Bool) (xs : List X) → 1 ≤ count_of test xs
    → list_any test xs ≡ true
any-count test xs some = at (list_any test xs) refl
  where
    at : (b : Bool) → list_any test xs ≡ b → list_any test xs ≡ true
    at true is = is
    at false is = absurd (omega (arith, some, count-none test xs is))

pub found_counted : {X : Type 0} (test : X → Bool) (xs : List X) (x : X) → find test xs ≡ Some x
    → 1 ≤ count_of test xs
found_counted {X} test xs x e = count-any test xs (some xs e)
  where
    some : (ys : List X) → find test ys ≡ Some x → list_any test ys ≡ true
    some [] f = cc
    some (y ∷ ys) f = go (test y) f (some ys)
      where
        go : (b : Bool) → cond b (Some y) (find test ys) ≡ Some x
            → (find test ys ≡ Some x → list_any test ys ≡ true) → (b || list_any test ys) ≡ true
        go true g h = refl
        go false g h = h g

pub none_found : {X : Type 0} (test : X → Bool) (xs : List X) → count_of test xs ≡ 0
    → find test xs ≡ None
none_found {X} test xs none = at (find test xs) refl
  where
    at : (o : Option X) → find test xs ≡ o → find test xs ≡ None
    at None e = e
    at (Some x) e = absurd (omega (arith, none, found_counted test xs x e))

pub not_found : {X : Type 0} (test : X → Bool) (xs : List X) → find test xs ≡ None
    → count_of test xs ≡ 0
not_found test xs none = at (list_any test xs) refl
  where
    at : (b : Bool) → list_any test xs ≡ b → count_of test xs ≡ 0
    at true e = let some = found_if_any test xs e in let no : None ≡ Some some.0 = sym none
        ∙ some.1 in cc
    at false e = count-none test xs e

-- no ticket is above the greatest
pub none_above : {X : Type 0} (ticket : X → ℕ) (last n : ℕ) (xs : List X)
    → AllByRecursion (λ x. (0 < ticket x) × (ticket x ≤ last)) xs → last < n
    → count_of (λ x. ticket x == n) xs ≡ 0
none_above ticket last n [] given above = refl
none_above ticket last n (x ∷ xs) given above =
    omega (
      arith,
      none_above ticket last n xs given.1 above,
      ap {B = ℕ} (λ b. cond b 1 0) (ne_eqb (ticket x) n (λ e. omega (arith, e, given.0.1, above))),
    )

pub stop_list-more : (routes : List Route) (new : Stop)
    → stop_list (routes ++ linear (new ∷ []) ∷ []) ≡ stop_list routes ++ new ∷ []
stop_list-more routes new = flat_map-append (λ r. r.stops) routes (linear (new ∷ []) ∷ [])
