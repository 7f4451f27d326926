-- Laws of chains as lists: a chain is known from the nexts of its indexes, an index stands in one
-- chain, and a chain goes on.
use Rattle.std.proofs.Common.{◌≡◌, ◌≢◌, ℕ, List, [], ◌∷◌, ◌++◌, Option, Some, None, IsSome, is_some}
use Rattle.std.proofs.Common.{true, false, refl, sym, ap, subst, ◌∙◌, inl, inr, ◌⊎◌, arith, length}
use Rattle.std.proofs.Common.{append_assoc, length-append, true≢false}
use Rattle.linked_lists.specs.LinkedLists.{Ends, next_in, prev_in, next_at, prev_at, IsAgreed}
use Rattle.linked_lists.specs.LinkedLists.{first_or, last_or, IsSegment, Off, On, Apart, IsLinear}
use Rattle.linked_lists.specs.LinkedLists.{IsRing, linear, ring}
use Rattle.linked_lists.specs.LinkedListLaws.{first_or-append, last_or-append, Off-front, Off-back}
use Rattle.linked_lists.specs.LinkedListLaws.{Off-append, Off-not_on, off_or_on, Apart-taken}
use Rattle.linked_lists.specs.LinkedListLaws.{Apart-both, On-cons, last_is, next_of_last}
use Rattle.linked_lists.specs.LinkedListLaws.{segment-append, segment-front, segment-back}
use Rattle.linked_lists.specs.UniquenessLaws.{Ended, none, some_last, ended, same_around}
use Rattle.linked_lists.specs.UniquenessLaws.{stands_once}
use Rattle.linked_lists.specs.Chains.{Chain, Linear, Cyclic, members, IsChainOf}

pub On-first : (x : ℕ) (xs : List ℕ) → On (x ∷ xs) x
On-first x xs = record { front = []; back = xs; is = refl }

pub On-front : (xs ys : List ℕ) (i : ℕ) → On xs i → On (xs ++ ys) i
On-front xs ys i on = record {
  front = on.front;
  back = on.back ++ ys;
  is = ap (λ l. l ++ ys) on.is ∙ append_assoc on.front (i ∷ on.back) ys;
}

pub On-back : (xs ys : List ℕ) (i : ℕ) → On ys i → On (xs ++ ys) i
On-back [] ys i on = on
On-back (x ∷ xs) ys i on = On-cons x i (xs ++ ys) (On-back xs ys i on)

pub On-split : (xs ys : List ℕ) (i : ℕ) → On (xs ++ i ∷ ys) i
On-split xs ys i = record { front = xs; back = ys; is = refl }

-- what is on a list is not what is off it
pub on_differs : (xs : List ℕ) (i k : ℕ) → On xs k → Off xs i → k ≢ i
on_differs xs i k on off same
    = Off-not_on on.front on.back i
    (subst (λ j. Off (on.front ++ j ∷ on.back) i) same (subst (λ l. Off l i) on.is off))

pub off_or_not : (xs : List ℕ) (i : ℕ) → (On xs i → ⊥) → Off xs i
off_or_not xs i not = elim (off_or_on xs i) [ inl off ↦ off | inr on ↦ absurd (not on) ]

pub first_on : (xs : List ℕ) (f : ℕ) → first_or xs None ≡ Some f → On xs f
first_on [] f is = absurd (let no : None ≡ Some f = is in cc)
first_on (x ∷ xs) f is = let same : x ≡ f = cc in subst (On (x ∷ xs)) same (On-first x xs)

-- the parts of a list whose indexes are apart
pub Apart-split : (xs ys : List ℕ) (i : ℕ) → Apart (xs ++ i ∷ ys) → Off xs i × Off ys i
Apart-split xs ys i apart = let off =
    (Apart-taken xs ys i apart).1 in (Off-front xs ys i off, Off-back xs ys i off)

pub Apart-front : (xs ys : List ℕ) → Apart (xs ++ ys) → Apart xs
Apart-front [] ys apart = tt
Apart-front (x ∷ xs) ys apart = (Off-front xs ys x apart.0, Apart-front xs ys apart.1)

pub Apart-back : (xs ys : List ℕ) → Apart (xs ++ ys) → Apart ys
Apart-back [] ys apart = apart
Apart-back (x ∷ xs) ys apart = Apart-back xs ys apart.1

pub Apart-append : (xs ys : List ℕ) → Apart xs → Apart ys → ((k : ℕ) → On xs k → Off ys k)
    → Apart (xs ++ ys)
Apart-append [] ys first second off = second
Apart-append (x ∷ xs) ys first second off = (
  Off-append xs ys x first.0 (off x (On-first x xs)),
  Apart-append xs ys first.1 second (λ k on. off k (On-cons x k xs on)),
)

pub Apart-turned : (xs ys : List ℕ) → Apart (xs ++ ys) → Apart (ys ++ xs)
Apart-turned xs ys apart =
    Apart-append ys xs (Apart-back xs ys apart) (Apart-front xs ys apart)
    (λ k on. off_or_not xs k (λ too. Apart-both xs ys k apart too on))

pub On-either : (xs ys : List ℕ) (k : ℕ) → On (xs ++ ys) k → On xs k ⊎ On ys k
On-either xs ys k on =
    elim (off_or_on xs k) [
      | inr here ↦ inl here
      | inl off ↦
          elim (off_or_on ys k) [
            | inr there ↦ inr there
            | inl off' ↦ absurd (on_differs (xs ++ ys) k k on (Off-append xs ys k off off') refl)
          ]
    ]

pub On-turned : (xs ys : List ℕ) (k : ℕ) → On (xs ++ ys) k → On (ys ++ xs) k
On-turned xs ys k on = elim (On-either xs ys k on) [
  | inl here ↦ On-back ys xs k here
  | inr there ↦ On-front ys xs k there
]

pub of_live : (o : Option Ends) → IsSome o → o ≡ Some (prev_in o, next_in o)
of_live None h = absurd (let no : false ≡ true = h in cc)
of_live (Some v) h = refl

pub live_next_in : (o : Option Ends) (n : ℕ) → next_in o ≡ Some n → IsSome o
live_next_in None n h = absurd (let no : None ≡ Some n = h in cc)
live_next_in (Some v) n h = refl

pub live_prev_in : (o : Option Ends) (n : ℕ) → prev_in o ≡ Some n → IsSome o
live_prev_in None n h = absurd (let no : None ≡ Some n = h in cc)
live_prev_in (Some v) n h = refl

module _ (e : ℕ → Option Ends) where
  -- each index of a list is live and has the one that follows it as its next, the last one this
  abbrev pub Follows : List ℕ → Option ℕ → Type 0
  Follows [] a = Unit {0}
  Follows (x ∷ xs) a = (IsSome (e x) × (next_at e x ≡ first_or xs a)) × Follows xs a

  pub follows : (b a : Option ℕ) (xs : List ℕ) → IsSegment e b xs a → Follows xs a
  follows b a [] s = tt
  follows b a (x ∷ xs) s = ((ap is_some s.0, ap next_in s.0), follows (Some x) a xs s.1)

  pub Follows-append : (a : Option ℕ) (xs ys : List ℕ) → Follows xs (first_or ys a) → Follows ys a
      → Follows (xs ++ ys) a
  Follows-append a [] ys f g = g
  Follows-append a (x ∷ xs) ys f g
      = ((f.0.0, f.0.1 ∙ sym (first_or-append xs ys a)), Follows-append a xs ys f.1 g)

  pub Follows-front : (a : Option ℕ) (xs ys : List ℕ) → Follows (xs ++ ys) a
      → Follows xs (first_or ys a)
  Follows-front a [] ys f = tt
  Follows-front a (x ∷ xs) ys f
      = ((f.0.0, f.0.1 ∙ first_or-append xs ys a), Follows-front a xs ys f.1)

  pub Follows-back : (a : Option ℕ) (xs ys : List ℕ) → Follows (xs ++ ys) a → Follows ys a
  Follows-back a [] ys f = f
  Follows-back a (x ∷ xs) ys f = Follows-back a xs ys f.1

  pub Follows-live : (a : Option ℕ) (xs : List ℕ) (k : ℕ) → Follows xs a → On xs k → IsSome (e k)
  Follows-live a xs k f on
      = (Follows-back a on.front (k ∷ on.back) (subst (λ l. Follows l a) on.is f)).0.0

  -- what stands on a list is live
  pub live_on : (b a : Option ℕ) (xs : List ℕ) (k : ℕ) → IsSegment e b xs a → On xs k → IsSome (e k)
  live_on b a xs k s on
      = ap is_some (segment-back e b a on.front (k ∷ on.back)
      (subst (λ l. IsSegment e b l a) on.is s)).0

  -- what is not live is on no list
  pub none_off : (b a : Option ℕ) (xs : List ℕ) (k : ℕ) → IsSegment e b xs a → e k ≡ None → Off xs k
  none_off b a xs k s vacant = off_or_not xs k
      (λ on. true≢false (sym (live_on b a xs k s on) ∙ ap is_some vacant))

  -- the next of an index of a list is on it, or follows it
  pub on_next : (b a : Option ℕ) (xs : List ℕ) (k y : ℕ) → IsSegment e b xs a → On xs k
      → next_at e k ≡ Some y → On xs y ⊎ (a ≡ Some y)
  on_next b a xs k y s on out = by on.back on.is
    where
      by : (back : List ℕ) → xs ≡ on.front ++ k ∷ back → On xs y ⊎ (a ≡ Some y)
      by [] is = inr (sym (ap next_in
          (segment-back e b a on.front (k ∷ []) (subst (λ l. IsSegment e b l a) is s)).0) ∙ out)
      by (z ∷ zs) is =
          let both : Some z ≡ Some y =
          sym (ap next_in (segment-back e b a on.front (k ∷ z ∷ zs)
          (subst (λ l. IsSegment e b l a) is s)).0) ∙ out in
          let same : z ≡ y = cc in
          inl (subst (On xs) same
          (record {
            front = on.front ++ k ∷ [];
            back = zs;
            is = is ∙ sym (append_assoc on.front (k ∷ []) (z ∷ zs));
          }))

  -- the previous one of an index of a list is on it, or before it
  pub on_prev : (b a : Option ℕ) (xs : List ℕ) (k y : ℕ) → IsSegment e b xs a → On xs k
      → prev_at e k ≡ Some y → On xs y ⊎ (b ≡ Some y)
  on_prev b a xs k y s on into = by (ended on.front)
    where
      here : prev_at e k ≡ last_or b on.front
      here = ap prev_in (segment-back e b a on.front (k ∷ on.back)
          (subst (λ l. IsSegment e b l a) on.is s)).0

      by : Ended on.front → On xs y ⊎ (b ≡ Some y)
      by (none is) = inr (sym (here ∙ ap (last_or b) is) ∙ into)
      by (some_last zs z is) =
          let both : Some z ≡ Some y =
          sym (here ∙ ap (last_or b) is ∙ last_or-append b zs (z ∷ [])) ∙ into in
          let same : z ≡ y = cc in
          inl (subst (On xs) same
          (record {
            front = zs;
            back = k ∷ on.back;
            is = on.is ∙ ap (λ l. l ++ k ∷ on.back) is ∙ append_assoc zs (z ∷ []) (k ∷ on.back);
          }))

  pub last_on_list : (xs : List ℕ) (y : ℕ) → last_or None xs ≡ Some y → On xs y
  last_on_list xs y is = by (ended xs)
    where
      by : Ended xs → On xs y
      by (none empty) = absurd (let no : None ≡ Some y = sym (ap (last_or None) empty) ∙ is in cc)
      by (some_last zs z whole) =
          let both : Some z ≡ Some y =
          sym (last_or-append None zs (z ∷ [])) ∙ sym (ap (last_or None) whole) ∙ is in
          let same : z ≡ y = cc in
          subst (On xs) same (record { front = zs; back = []; is = whole })

  -- a chain goes on within itself
  pub holds_next : (c : Chain) (k y : ℕ) → IsChainOf e c → On (members c) k → next_at e k ≡ Some y
      → On (members c) y
  holds_next (Linear xs) k y s on out =
      elim (on_next None None xs k y s on out)
      [ inl here ↦ here | inr past ↦ absurd (let never : None ≡ Some y = past in cc) ]
  holds_next (Cyclic xs) k y r on out =
      elim (on_next (last_or None xs) (first_or xs None) xs k y r.stands on out)
      [ inl here ↦ here | inr first ↦ first_on xs y first ]

  pub holds_prev : (c : Chain) (k y : ℕ) → IsChainOf e c → On (members c) k → prev_at e k ≡ Some y
      → On (members c) y
  holds_prev (Linear xs) k y s on into =
      elim (on_prev None None xs k y s on into)
      [ inl here ↦ here | inr past ↦ absurd (let never : None ≡ Some y = past in cc) ]
  holds_prev (Cyclic xs) k y r on into =
      elim (on_prev (last_or None xs) (first_or xs None) xs k y r.stands on into)
      [ inl here ↦ here | inr last ↦ last_on_list xs y last ]

  -- the indexes of a chain are live
  pub live_in : (c : Chain) (k : ℕ) → IsChainOf e c → On (members c) k → IsSome (e k)
  live_in (Linear xs) k s on = live_on None None xs k s on
  live_in (Cyclic xs) k r on = live_on (last_or None xs) (first_or xs None) xs k r.stands on

  -- the first of a linear chain has no previous one
  pub starts : (xs : List ℕ) (f : ℕ) → IsLinear e xs → first_or xs None ≡ Some f
      → prev_at e f ≡ None
  starts [] f s is = absurd (let no : None ≡ Some f = is in cc)
  starts (x ∷ xs) f s is = let same : x ≡ f = cc in ap (prev_at e) (sym same) ∙ ap prev_in s.0

  -- a chain has what comes after one of its indexes
  pub reaches : (c : Chain) (x y : ℕ) (xs : List ℕ) → IsChainOf e c → Follows (x ∷ xs) (Some y)
      → On (members c) x → On (members c) y
  reaches c x y [] chain f on = holds_next c x y chain on f.0.1
  reaches c x y (z ∷ zs) chain f on = reaches c z y zs chain f.1 (holds_next c x z chain on f.0.1)

  -- a ring from any of its indexes on
  pub turned : (xs : List ℕ) (y : ℕ) (ys : List ℕ) → IsRing e (xs ++ y ∷ ys)
      → IsRing e (y ∷ ys ++ xs)
  turned xs y ys r =
      let b = last_or None (xs ++ y ∷ ys) in
      let a = first_or (xs ++ y ∷ ys) None in
      let b_is : b ≡ last_or (Some y) ys = last_or-append None xs (y ∷ ys) in
      let a_is : a ≡ first_or xs (Some y) = first_or-append xs (y ∷ ys) None in
      let b' = last_or (Some y) (ys ++ xs) in
      let b'_is : b' ≡ last_or b xs = last_or-append (Some y) ys xs ∙ ap (λ o. last_or o xs)
      (sym b_is) in
      let front : IsSegment e (last_or (Some y) ys) xs (Some y) =
      subst (λ o. IsSegment e o xs (Some y)) b_is (segment-front e b a xs (y ∷ ys) r.stands) in
      let back : IsSegment e b' (y ∷ ys) (first_or xs (Some y)) =
      subst (λ o. IsSegment e o (y ∷ ys) (first_or xs (Some y))) (sym b'_is)
      (subst (IsSegment e (last_or b xs) (y ∷ ys)) a_is (segment-back e b a xs (y ∷ ys) r.stands))
      in
      record {
        stands = segment-append e b' (Some y) (y ∷ ys) xs back front;
        apart = Apart-turned xs (y ∷ ys) r.apart;
      }

  -- two linear chains that share an index are one
  pub linear_same : (xs ys : List ℕ) (k : ℕ) → IsLinear e xs → IsLinear e ys → On xs k
      → On ys k → xs ≡ ys
  linear_same xs ys k s t on on' =
      let s' = subst (IsLinear e) on.is s in
      let t' = subst (IsLinear e) on'.is t in
      let same = stands_once e k (linear on.front on.back s') (linear on'.front on'.back t') in
      on.is ∙ ap (λ l. l ++ k ∷ on.back) same.0 ∙ ap (λ l. on'.front ++ k ∷ l) same.1 ∙ sym on'.is

  -- no index stands on a ring and in a linear chain
  pub ring_or_linear : (xs ys : List ℕ) (k : ℕ) → IsRing e xs → IsLinear e ys → On xs k
      → On ys k → ⊥
  ring_or_linear xs ys k r t on on' =
      let r' = turned on.front k on.back (subst (IsRing e) on.is r) in
      stands_once e k (ring (on.back ++ on.front) r')
      (linear on'.front on'.back (subst (IsLinear e) on'.is t))

  -- a ring has all indexes of a ring that it shares one with
  pub ring_same : (xs ys : List ℕ) (k j : ℕ) → IsRing e xs → IsRing e ys → On xs k → On ys k
      → On ys j → On xs j
  ring_same xs ys k j r q on on' at =
      let q' = turned at.front j at.back (subst (IsRing e) at.is q) in
      let there : On (j ∷ at.back ++ at.front) k =
      On-turned at.front (j ∷ at.back) k (subst (λ l. On l k) at.is on') in
      let f = Follows-back (Some j) there.front (k ∷ there.back)
      (subst (λ l. Follows l (Some j)) there.is
      (follows (last_or None (j ∷ at.back ++ at.front)) (Some j)
      (j ∷ at.back ++ at.front) q'.stands)) in
      reaches (Cyclic xs) k j there.back r f on

  -- two chains that share an index have the same indexes
  pub shares : (c d : Chain) (k j : ℕ) → IsChainOf e c → IsChainOf e d → On (members c) k
      → On (members d) k → On (members d) j → On (members c) j
  shares (Linear xs) (Linear ys) k j s t on on' at
      = subst (λ l. On l j) (sym (linear_same xs ys k s t on on')) at
  shares (Linear xs) (Cyclic ys) k j s t on on' at = absurd (ring_or_linear ys xs k t s on' on)
  shares (Cyclic xs) (Linear ys) k j s t on on' at = absurd (ring_or_linear xs ys k s t on on')
  shares (Cyclic xs) (Cyclic ys) k j s t on on' at = ring_same xs ys k j s t on on' at

  module _ (agreed : IsAgreed e) where
    -- a list whose nexts are known stands
    pub stands_by : (x : ℕ) (xs : List ℕ) (a : Option ℕ) → Follows (x ∷ xs) a
        → IsSegment e (prev_at e x) (x ∷ xs) a
    stands_by x [] a f = (of_live (e x) f.0.0 ∙ ap (λ o. Some (prev_at e x, o)) f.0.1, tt)
    stands_by x (y ∷ ys) a f =
        let into : prev_at e y ≡ Some x = agreed.forward x y f.0.1 in (
          of_live (e x) f.0.0 ∙ ap (λ o. Some (prev_at e x, o)) f.0.1,
          subst (λ o. IsSegment e o (y ∷ ys) a) into (stands_by y ys a f.1),
        )

    pub linear_by : (xs : List ℕ) → Follows xs None
        → ((f : ℕ) → first_or xs None ≡ Some f → prev_at e f ≡ None) → IsLinear e xs
    linear_by [] f start = tt
    linear_by (x ∷ xs) f start = subst (λ o. IsSegment e o (x ∷ xs) None) (start x refl)
        (stands_by x xs None f)

    pub ring_by : (x : ℕ) (xs : List ℕ) → Follows (x ∷ xs) (Some x) → Off xs x → IsRing e (x ∷ xs)
    ring_by x xs f off =
        let s = stands_by x xs (Some x) f in
        let z = last_is x xs in
        let into : prev_at e x ≡ last_or (Some x) xs =
        agreed.forward z.0 x (next_of_last e (prev_at e x) (Some x) x xs z.0 z.1 s) ∙ sym z.1 in
        record {
          stands = subst (λ o. IsSegment e o (x ∷ xs) (Some x)) into s;
          apart = (off, once (prev_at e x) x xs [] s off);
        }
      where
        -- no index comes twice before the first one comes again
        once : (b : Option ℕ) (y : ℕ) (ys zs : List ℕ) → IsSegment e b (y ∷ ys) (Some x)
            → Off ys x → Apart ys
        once b y [] zs s off = tt
        once b y (v ∷ vs) zs s off = (
          off_or_not vs v
              (λ on.
              let t : IsSegment e (Some v) (on.front ++ v ∷ on.back) (Some x) =
              subst (λ l. IsSegment e (Some v) l (Some x)) on.is s.1.1 in
              let again = segment-back e (Some v) (Some x) on.front (v ∷ on.back) t in
              let short = Off-back (on.front ++ v ∷ []) on.back x
              (subst (λ l. Off l x) (on.is ∙ sym (append_assoc on.front (v ∷ []) on.back)) off.1) in
              let same = same_around e x (Some y) (last_or (Some v) on.front) v vs on.back off.1
              short s.1 again in
              let whole = ap length on.is in
              let less = ap length same in
              let sizes = length-append on.front (v ∷ on.back) in
              omega (arith, whole, less, sizes)),
          once (Some y) v vs zs s.1 off.1,
        )

    pub ring_by_first : (xs : List ℕ) (x : ℕ) → first_or xs None ≡ Some x → Follows xs (Some x)
        → Apart xs → IsRing e xs
    ring_by_first [] x is f apart = absurd (let no : None ≡ Some x = is in cc)
    ring_by_first (y ∷ ys) x is f apart =
        let same : x ≡ y = cc in
        ring_by y ys (subst (λ z. Follows (y ∷ ys) (Some z)) same f) apart.0

module _ (e e' : ℕ → Option Ends) where
  -- a list stands in other interlinks that are the same on it
  pub segment-where : (b a : Option ℕ) (xs : List ℕ) → ((k : ℕ) → On xs k → e' k ≡ e k)
      → IsSegment e b xs a → IsSegment e' b xs a
  segment-where b a [] same s = tt
  segment-where b a (x ∷ xs) same s
      = (
        same x (On-first x xs) ∙ s.0,
        segment-where (Some x) a xs (λ k on. same k (On-cons x k xs on)) s.1,
      )

  pub chain_where : (c : Chain) → ((k : ℕ) → On (members c) k → e' k ≡ e k) → IsChainOf e c
      → IsChainOf e' c
  chain_where (Linear xs) same s = segment-where None None xs same s
  chain_where (Cyclic xs) same r
      = record {
        stands = segment-where (last_or None xs) (first_or xs None) xs same r.stands;
        apart = r.apart;
      }
