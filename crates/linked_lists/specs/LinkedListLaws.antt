-- Each live index stands in a chain.
use Rattle.std.proofs.Common.{◌≡◌, ◌≢◌, ℕ, zero, suc, ◌+◌, ◌-◌, ◌<◌, ◌≤◌, List, [], ◌∷◌, ◌++◌}
use Rattle.std.proofs.Common.{length, Option, Some, None, IsSome, is_some, refl, sym, ap, subst}
use Rattle.std.proofs.Common.{◌∙◌, arith, true, false, inl, inr, ◌⊎◌, append_assoc, length-append}
use Rattle.std.proofs.lemmas.Bool.Decides.{eqb_tells}
use Rattle.linked_lists.specs.LinkedLists.{Ends, next_in, prev_in, next_at, prev_at, IsAgreed}
use Rattle.linked_lists.specs.LinkedLists.{first_or, last_or, IsSegment, Off, Apart, On, Standing}
use Rattle.linked_lists.specs.LinkedLists.{linear, ring}

-- interlinks that are the same at each index
pub IsAgreed-same : (e f : ℕ → Option Ends) → ((i : ℕ) → f i ≡ e i) → IsAgreed e → IsAgreed f
IsAgreed-same e f same agreed =
    record {
      forward = λ p q h. ap prev_in (same q) ∙ agreed.forward p q (sym (ap next_in (same p)) ∙ h);
      backward = λ p q h. ap next_in (same p) ∙ agreed.backward p q (sym (ap prev_in (same q)) ∙ h);
    }

pub first_or-append : (xs ys : List ℕ) (a : Option ℕ)
    → first_or (xs ++ ys) a ≡ first_or xs (first_or ys a)
first_or-append [] ys a = refl
first_or-append (x ∷ xs) ys a = refl

pub last_or-append : (b : Option ℕ) (xs ys : List ℕ)
    → last_or b (xs ++ ys) ≡ last_or (last_or b xs) ys
last_or-append b [] ys = refl
last_or-append b (x ∷ xs) ys = last_or-append (Some x) xs ys

pub Off-front : (xs ys : List ℕ) (i : ℕ) → Off (xs ++ ys) i → Off xs i
Off-front [] ys i off = tt
Off-front (x ∷ xs) ys i off = (off.0, Off-front xs ys i off.1)

pub Off-back : (xs ys : List ℕ) (i : ℕ) → Off (xs ++ ys) i → Off ys i
Off-back [] ys i off = off
Off-back (x ∷ xs) ys i off = Off-back xs ys i off.1

pub Off-append : (xs ys : List ℕ) (i : ℕ) → Off xs i → Off ys i → Off (xs ++ ys) i
Off-append [] ys i f g = g
Off-append (x ∷ xs) ys i f g = (f.0, Off-append xs ys i f.1 g)

pub Off-not_on : (xs ys : List ℕ) (i : ℕ) → Off (xs ++ i ∷ ys) i → ⊥
Off-not_on [] ys i off = off.0 refl
Off-not_on (x ∷ xs) ys i off = Off-not_on xs ys i off.1

pub off_or_on : (xs : List ℕ) (i : ℕ) → Off xs i ⊎ On xs i
off_or_on [] i = inl tt
off_or_on (x ∷ xs) i =
    elim (eqb_tells x i) [
      | inl same ↦ inr (record { front = []; back = xs; is = ap (λ y. y ∷ xs) same.1 })
      | inr differs ↦
          elim (off_or_on xs i) [
            | inl off ↦ inl (differs.1, off)
            | inr on ↦ inr (record {
              front = x ∷ on.front;
              back = on.back;
              is = ap (λ ys. x ∷ ys) on.is;
            })
          ]
    ]

Off-taken : (xs ys : List ℕ) (x i : ℕ) → Off (xs ++ x ∷ ys) i → Off (xs ++ ys) i
Off-taken [] ys x i off = off.1
Off-taken (y ∷ xs) ys x i off = (off.0, Off-taken xs ys x i off.1)

-- an index of a list that is taken out of it leaves the others apart, and is off them
pub Apart-taken : (xs ys : List ℕ) (x : ℕ) → Apart (xs ++ x ∷ ys) → Apart (xs ++ ys)
    × Off (xs ++ ys) x
Apart-taken [] ys x apart = (apart.1, apart.0)
Apart-taken (y ∷ xs) ys x apart =
    let rest = Apart-taken xs ys x apart.1 in (
      (Off-taken xs ys x y apart.0, rest.0),
      ((λ same. Off-not_on xs ys y (subst (λ z. Off (xs ++ z ∷ ys) y) (sym same) apart.0)), rest.1),
    )

pub Apart-last : (xs : List ℕ) (y : ℕ) → Apart xs → Off xs y → Apart (xs ++ y ∷ [])
Apart-last [] y apart off = (tt, tt)
Apart-last (x ∷ xs) y apart off
    = (
      Off-append xs (y ∷ []) x apart.0 ((λ same. off.0 (sym same)), tt),
      Apart-last xs y apart.1 off.1,
    )

-- each index of a list is less than this number
abbrev pub Below : ℕ → List ℕ → Type 0
Below n [] = Unit {0}
Below n (x ∷ xs) = (x < n) × Below n xs

pub Below-front : (n : ℕ) (xs ys : List ℕ) → Below n (xs ++ ys) → Below n xs
Below-front n [] ys below = tt
Below-front n (x ∷ xs) ys below = (below.0, Below-front n xs ys below.1)

pub Below-back : (n : ℕ) (xs ys : List ℕ) → Below n (xs ++ ys) → Below n ys
Below-back n [] ys below = below
Below-back n (x ∷ xs) ys below = Below-back n xs ys below.1

Below-taken : (n : ℕ) (xs ys : List ℕ) (x : ℕ) → Below n (xs ++ x ∷ ys) → Below n (xs ++ ys)
Below-taken n [] ys x below = below.1
Below-taken n (y ∷ xs) ys x below = (below.0, Below-taken n xs ys x below.1)

Below-less : (n : ℕ) (xs : List ℕ) → Off xs n → Below (suc n) xs → Below n xs
Below-less n [] off below = tt
Below-less n (x ∷ xs) off below =
    let differs : x ≢ n = off.0 in
    let some : x < suc n = below.0 in
    (omega (arith, differs, some), Below-less n xs off.1 below.1)

-- apart indexes below a number are at most that many
pub few : (n : ℕ) (xs : List ℕ) → Apart xs → Below n xs → length xs ≤ n
few zero [] apart below = omega arith
few zero (x ∷ xs) apart below = absurd (omega (arith, below.0))
few (suc n) xs apart below =
    elim (off_or_on xs n) [
      | inl off ↦ let less = few n xs apart (Below-less n xs off below) in omega (arith, less)
      | inr on ↦
          let parts = on.is in
          let taken = Apart-taken on.front on.back n (subst Apart parts apart) in
          let left = Below-taken (suc n) on.front on.back n (subst (Below (suc n)) parts below) in
          let less = few n (on.front ++ on.back) taken.0
          (Below-less n (on.front ++ on.back) taken.1 left) in
          let whole = ap length parts in
          let long = length-append on.front (n ∷ on.back) in
          let short = length-append on.front on.back in
          omega (arith, less, whole, long, short)
    ]

-- no index stands on both of two lists whose indexes are apart together
pub Apart-both : (xs ys : List ℕ) (z : ℕ) → Apart (xs ++ ys) → On xs z → On ys z → ⊥
Apart-both xs ys z apart first second =
    let split : xs ++ ys ≡ first.front ++ z ∷ (first.back ++ ys) =
    ap (λ l. l ++ ys) first.is ∙ append_assoc first.front (z ∷ first.back) ys in
    let off = (Apart-taken first.front (first.back ++ ys) z (subst Apart split apart)).1 in
    let behind : Off ys z =
    Off-back first.back ys z (Off-back first.front (first.back ++ ys) z off) in
    Off-not_on second.front second.back z (subst (λ l. Off l z) second.is behind)

-- a list that begins with an index has a last one, which is on it
pub last_is : (x : ℕ) (xs : List ℕ) → (z : ℕ) × (last_or (Some x) xs ≡ Some z)
last_is x [] = (x, refl)
last_is x (y ∷ ys) = last_is y ys

pub On-cons : (x z : ℕ) (xs : List ℕ) → On xs z → On (x ∷ xs) z
On-cons x z xs on = record { front = x ∷ on.front; back = on.back; is = ap (λ l. x ∷ l) on.is }

pub last_on : (x : ℕ) (xs : List ℕ) (z : ℕ) → last_or (Some x) xs ≡ Some z → On (x ∷ xs) z
last_on x [] z is = let same : x ≡ z =
    cc in record { front = []; back = []; is = ap (λ y. y ∷ []) same }
last_on x (y ∷ ys) z is = On-cons x z (y ∷ ys) (last_on y ys z is)

live_by_prev : (o : Option Ends) (p : ℕ) → prev_in o ≡ Some p → o ≡ Some (Some p, next_in o)
live_by_prev None p h = absurd (let no : None ≡ Some p = h in cc)
live_by_prev (Some v) p h = let is : v.0 ≡ Some p = h in ap (λ w. Some (w, v.1)) is

live_by_next : (o : Option Ends) (n : ℕ) → next_in o ≡ Some n → o ≡ Some (prev_in o, Some n)
live_by_next None n h = absurd (let no : None ≡ Some n = h in cc)
live_by_next (Some v) n h = let is : v.1 ≡ Some n = h in ap (λ w. Some (v.0, w)) is

pub not_first : (x : ℕ) (xs : List ℕ) → first_or xs None ≡ Some x → Off xs x → ⊥
not_first x [] is off = absurd (let no : None ≡ Some x = is in cc)
not_first x (y ∷ ys) is off = off.0 (let same : y ≡ x = cc in same)

off_later : (x y : ℕ) (zs front back : List ℕ) → x ∷ zs ≡ front ++ y ∷ back → Off zs x → Off back x
off_later x y zs [] back is off = let same : zs ≡ back = cc in subst (λ l. Off l x) same off
off_later x y zs (w ∷ front) back is off =
    let same : zs ≡ front ++ y ∷ back = cc in
    (Off-back front (y ∷ back) x (subst (λ l. Off l x) same off)).1

module _ (e : ℕ → Option Ends) where
  pub segment-append : (b a : Option ℕ) (xs ys : List ℕ) → IsSegment e b xs (first_or ys a)
      → IsSegment e (last_or b xs) ys a → IsSegment e b (xs ++ ys) a
  segment-append b a [] ys s t = t
  segment-append b a (x ∷ xs) ys s t
      = (rw (first_or-append xs ys a) s.0, segment-append (Some x) a xs ys s.1 t)

  pub segment-front : (b a : Option ℕ) (xs ys : List ℕ) → IsSegment e b (xs ++ ys) a
      → IsSegment e b xs (first_or ys a)
  segment-front b a [] ys s = tt
  segment-front b a (x ∷ xs) ys s
      = (rw (← first_or-append xs ys a) s.0, segment-front (Some x) a xs ys s.1)

  pub segment-back : (b a : Option ℕ) (xs ys : List ℕ) → IsSegment e b (xs ++ ys) a
      → IsSegment e (last_or b xs) ys a
  segment-back b a [] ys s = s
  segment-back b a (x ∷ xs) ys s = segment-back (Some x) a xs ys s.1

  -- the next of the last of a list is what follows the list
  pub next_of_last : (b a : Option ℕ) (x : ℕ) (xs : List ℕ) (z : ℕ) → last_or (Some x) xs ≡ Some z
      → IsSegment e b (x ∷ xs) a → next_at e z ≡ a
  next_of_last b a x [] z is s = let same : x ≡ z = cc in ap (next_at e) (sym same) ∙ ap next_in s.0
  next_of_last b a x (y ∷ ys) z is s = next_of_last (Some x) a y ys z is s.1

  module _ (agreed : IsAgreed e) (n : ℕ) (bounded : (i : ℕ) → IsSome (e i) → i < n) where
    below : (i : ℕ) (v : Ends) → e i ≡ Some v → i < n
    below i v is = bounded i (ap is_some is)

    Below-last : (xs : List ℕ) (y : ℕ) → Below n xs → y < n → Below n (xs ++ y ∷ [])
    Below-last [] y all one = (one, tt)
    Below-last (x ∷ xs) y all one = (all.0, Below-last xs y all.1 one)

    -- from an index on: to an end, or back to it
    data Onward (b : Option ℕ) (i : ℕ) : Type 0 where
      to_end : (ys : List ℕ) → IsSegment e b (i ∷ ys) None → Apart (i ∷ ys) → Below n (i ∷ ys)
          → Onward b i
      around : (ys : List ℕ) → IsSegment e b (i ∷ ys) (Some i) → Apart (i ∷ ys) → Onward b i

    onward : (fuel : ℕ) (b : Option ℕ) (i : ℕ) (ys : List ℕ) (a : Option ℕ)
        → length (i ∷ ys) + fuel ≡ n + 1 → IsSegment e b (i ∷ ys) a
        → Apart (i ∷ ys) → Below n (i ∷ ys) → Onward b i
    onward fuel b i ys None long s apart all = to_end ys s apart all
    onward zero b i ys (Some y) long s apart all = let less =
        few n (i ∷ ys) apart all in absurd (omega (arith, less, long))
    onward (suc fuel) b i ys (Some y) long s apart all =
        let z = last_is i ys in
        let into : prev_at e y ≡ Some z.0 =
        agreed.forward z.0 y (next_of_last b (Some y) i ys z.0 z.1 s) in
        let here : e y ≡ Some (Some z.0, next_at e y) = live_by_prev (e y) z.0 into in
        elim (eqb_tells i y) [
          | inl same ↦ around ys (subst (λ w. IsSegment e b (i ∷ ys) (Some w)) (sym same.1) s) apart
          | inr differs ↦
              elim (off_or_on ys y) [
                | inl off ↦
                    let tail : IsSegment e (last_or b (i ∷ ys)) (y ∷ []) (next_at e y) =
                    (here ∙ ap (λ w. Some (w, next_at e y)) (sym z.1), tt) in
                    let grown = length-append ys (y ∷ []) in
                    onward fuel b i (ys ++ y ∷ []) (next_at e y) (omega (arith, long, grown))
                    (segment-append b (next_at e y) (i ∷ ys) (y ∷ []) s tail)
                    (Apart-last (i ∷ ys) y apart (differs.1, off))
                    (Below-last (i ∷ ys) y all (below y (Some z.0, next_at e y) here))
                | inr on ↦
                    let parts : i ∷ ys ≡ (i ∷ on.front) ++ y ∷ on.back = ap (λ l. i ∷ l) on.is in
                    let s' : IsSegment e b ((i ∷ on.front) ++ y ∷ on.back) (Some y) =
                    subst (λ l. IsSegment e b l (Some y)) parts s in
                    let at_y = (segment-back b (Some y) (i ∷ on.front) (y ∷ on.back) s').0 in
                    let w = last_is i on.front in
                    let before : prev_at e y ≡ Some w.0 = ap prev_in at_y ∙ w.1 in
                    let both : Some w.0 ≡ Some z.0 = sym before ∙ into in
                    let same : w.0 ≡ z.0 = cc in
                    let z_last : last_or (Some y) on.back ≡ Some z.0 =
                    sym (last_or-append (Some i) on.front (y ∷ on.back)) ∙ ap (last_or (Some i))
                    (sym on.is) ∙ z.1 in
                    absurd
                    (Apart-both (i ∷ on.front) (y ∷ on.back) z.0 (subst Apart parts apart)
                    (subst (On (i ∷ on.front)) same (last_on i on.front w.0 w.1))
                    (last_on y on.back z.0 z_last))
              ]
        ]

    backward : (fuel : ℕ) (i : ℕ) (ys xs : List ℕ) (b : Option ℕ)
        → length (xs ++ i ∷ ys) + fuel ≡ n + 1 → IsSegment e b (xs ++ i ∷ ys) None
        → Apart (xs ++ i ∷ ys) → Below n (xs ++ i ∷ ys) → Standing e i
    backward fuel i ys xs None long s apart all = linear xs ys s
    backward zero i ys xs (Some y) long s apart all = let less =
        few n (xs ++ i ∷ ys) apart all in absurd (omega (arith, less, long))
    backward (suc fuel) i ys xs (Some y) long s apart all =
        by_first (λ b here off. backward fuel i ys (y ∷ xs) b (omega (arith, long)) (here, s)
        (off, apart)
        (below y (b, first_or (xs ++ i ∷ ys) None) here, all))
        (xs ++ i ∷ ys) refl
      where
        by_first : ((b : Option ℕ) → e y ≡ Some (b, first_or (xs ++ i ∷ ys) None)
            → Off (xs ++ i ∷ ys) y → Standing e i)
            → (zs : List ℕ) → xs ++ i ∷ ys ≡ zs → Standing e i
        by_first on_from [] none
            = absurd (let long' = ap length none in let sizes =
            length-append xs (i ∷ ys) in omega (arith, long', sizes))
        by_first on_from (x ∷ zs) is =
            let t : IsSegment e (Some y) (x ∷ zs) None = subst
            (λ l. IsSegment e (Some y) l None) is s in
            let out : next_at e y ≡ Some x = agreed.backward y x (ap prev_in t.0) in
            let here : e y ≡ Some (prev_at e y, Some x) = live_by_next (e y) x out in
            let first : Some x ≡ first_or (xs ++ i ∷ ys) None =
            ap (λ l. first_or l None) (sym is) in
            elim (off_or_on (xs ++ i ∷ ys) y) [
              | inl off ↦ on_from (prev_at e y) (here ∙ ap (λ w. Some (prev_at e y, w)) first) off
              | inr on ↦
                  let at_y = (segment-back (Some y) None on.front (y ∷ on.back)
                  (subst (λ l. IsSegment e (Some y) l None) on.is s)).0 in
                  let then : first_or on.back None ≡ Some x = sym (ap next_in at_y) ∙ out in
                  let once : Off zs x = (subst Apart is apart).0 in
                  absurd (not_first x on.back
                  then (off_later x y zs on.front on.back (sym is ∙ on.is) once))
            ]

    around_stands : (b : Option ℕ) (i : ℕ) (ys : List ℕ) → b ≡ prev_at e i
        → IsSegment e b (i ∷ ys) (Some i) → Apart (i ∷ ys) → Standing e i
    around_stands b i ys is s apart =
        let z = last_is i ys in
        let into : prev_at e i ≡ Some z.0 =
        agreed.forward z.0 i (next_of_last b (Some i) i ys z.0 z.1 s) in
        ring ys (record {
          stands = subst (λ o. IsSegment e o (i ∷ ys) (Some i)) (is ∙ into ∙ sym z.1) s;
          apart = apart;
        })

    -- each live index stands in a chain
    pub stands : (i : ℕ) → IsSome (e i) → Standing e i
    stands i some =
        let is : e i ≡ Some (prev_at e i, next_at e i) = of_live (e i) some in
        by_onward (onward n (prev_at e i) i [] (next_at e i) (omega arith) (is, tt) (tt, tt)
        (bounded i some, tt))
      where
        of_live : (o : Option Ends) → IsSome o → o ≡ Some (prev_in o, next_in o)
        of_live None h = absurd (let no : false ≡ true = h in cc)
        of_live (Some v) h = refl

        by_onward : Onward (prev_at e i) i → Standing e i
        by_onward (to_end ys s apart all) =
            let less = few n (i ∷ ys) apart all in
            backward (n + 1 - length (i ∷ ys)) i ys [] (prev_at e i)
            (omega (arith, less)) s apart all
        by_onward (around ys s apart) = around_stands (prev_at e i) i ys refl s apart
