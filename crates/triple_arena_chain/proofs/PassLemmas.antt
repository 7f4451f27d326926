-- A pass over the live indexes, in their order, that writes the interlinks of each.
use Rattle.std.proofs.Common.{◌≡◌, ◌≢◌, ℕ, zero, suc, ◌+◌, ◌<◌, ◌≤◌, Option, Some, None, is_some}
use Rattle.std.proofs.Common.{IsSome, true, true≢false, option_map, inl, inr, ◌⊎◌, refl, sym, ap}
use Rattle.std.proofs.Common.{subst, ◌∙◌, arith}
use Rattle.std.specs.Prelude.{false, IsNone, IfSome, ◌↔◌}
use Rattle.std.proofs.lemmas.Bool.{eq-eqb, ne_eqb}
use Rattle.std.proofs.lemmas.Bool.Decides.{eqb_tells, leb_tells}
use Rattle.triple_arena.specs.Content.{Content, entry_at, IsWellFormed}
use Rattle.triple_arena.specs.Entries.{generation_at}
use Rattle.triple_arena.specs.Walk.{Walk, IsFirstLive, past}
use Rattle.triple_arena_chain.specs.LinkShape.{IndexLink}
use Rattle.linked_lists.specs.LinkedLists.{Ends, next_in, prev_in, next_at, prev_at, renext}
use Rattle.linked_lists.specs.LinkedLists.{reprev}
use Rattle.triple_arena_chain.specs.LinkLaws.{ends-with_prev_of, ends-with_next_of}
use Rattle.triple_arena_chain.specs.LinkLaws.{values-with_prev_of, values-with_next_of}
use Rattle.triple_arena_chain.specs.LinkLaws.{kept-with_prev_of, kept-with_next_of, kept_on}
use Rattle.triple_arena_chain.specs.LinkLaws.{formed-with_prev_of, formed-with_next_of}
use Rattle.triple_arena_chain.specs.Links.{valued, values_in, entry_ends, ends_in, with_next_of}
use Rattle.triple_arena_chain.specs.Links.{with_prev_of, IsKept}
use Rattle.triple_arena_chain.specs.Renaming.{live_below, numbered, prev_of, forwarded}
use Rattle.triple_arena_chain.proofs.RenamingLemmas.{live_below-live, live_below-below}
use Rattle.triple_arena_chain.proofs.RenamingLemmas.{live_below-flat}

module _ {T : Type 0} where
  pub some_valued : (o : Option (ℕ × IndexLink T)) → is_some (option_map valued o) ≡ is_some o
  some_valued None = refl
  some_valued (Some e) = refl

  -- the same values stand at the same indexes
  pub live_as : (c d : Content (IndexLink T)) → ((j : ℕ) → values_in d j ≡ values_in c j)
      → (j : ℕ) → is_some (entry_at d j) ≡ is_some (entry_at c j)
  live_as c d same j = sym (some_valued (entry_at d j)) ∙ ap is_some (same j)
      ∙ some_valued (entry_at c j)

  pub none_of : (o : Option (ℕ × IndexLink T)) → (IsSome o → ⊥) → o ≡ None
  none_of None not = refl
  none_of (Some e) not = absurd (not refl)

module _ {T : Type 0} where
  some_ended : (o : Option (ℕ × IndexLink T))
      → is_some (option_map entry_ends o) ≡ is_some o
  some_ended None = refl
  some_ended (Some e) = refl

  pub live_ends : (c : Content (IndexLink T)) (j : ℕ)
      → is_some (ends_in c j) ≡ is_some (entry_at c j)
  live_ends c j = some_ended (entry_at c j)

  no_ends : (c : Content (IndexLink T)) (j : ℕ) → entry_at c j ≡ None → ends_in c j ≡ None
  no_ends c j none = ap (option_map entry_ends) none

  -- below an index the interlinks are these, and from there on as they were
  pub record IsPassed (wanted : ℕ → Option Ends) (low : ℕ)
      (old new : Content (IndexLink T)) : Type 0 where
    pub passed : (j : ℕ) → j < low → ends_in new j ≡ wanted j
    pub ahead : (j : ℕ) → low ≤ j → ends_in new j ≡ ends_in old j
    pub values : (j : ℕ) → values_in new j ≡ values_in old j
    pub kept : IsKept old new
    pub formed : IsWellFormed new

  module _ (wanted : ℕ → Option Ends) (old : Content (IndexLink T))
      (free : (j : ℕ) → ends_in old j ≡ None → wanted j ≡ None) where
    pub begun : (low : ℕ) → low ≡ 1 → IsWellFormed old → IsPassed wanted low old old
    begun low is formed =
        record {
          passed = λ j below. let zeroth : j ≡ 0 = omega (arith, is, below) in
              rw zeroth (sym (free 0 refl));
          ahead = λ j above. refl;
          values = λ j. refl;
          kept = record { live = refl; slots = refl; free = refl; counter = refl; room = refl };
          formed = formed;
        }

    -- what is passed is not live from the lowest index to the one that is found
    none_between : (c : Content (IndexLink T)) (w : Walk) (i g : ℕ) → w.falls ≡ false
        → IsFirstLive (entry_at c) w i g → (j : ℕ) → w.low ≤ j → j < i
        → entry_at c j ≡ None
    none_between c w i g rises first j above below =
        first.first j (above, omega (arith, below, first.ahead.1)) (rw rises below)

    pub passed_one : (c new : Content (IndexLink T)) (w : Walk) (i g : ℕ)
        → IsPassed wanted w.low old c → w.falls ≡ false → IsFirstLive (entry_at c) w i g
        → ends_in new i ≡ wanted i
        → ((j : ℕ) → j ≢ i → ends_in new j ≡ ends_in c j)
        → ((j : ℕ) → values_in new j ≡ values_in c j) → IsKept c new → IsWellFormed new
        → IsPassed wanted (i + 1) old new
    passed_one c new w i g p rises first here others values kept formed =
        record {
          passed = λ j below.
              elim (eqb_tells j i) [
                | inl same ↦ subst (λ k. ends_in new k ≡ wanted k) (sym same.1) here
                | inr other ↦
                    others j other.1
                    ∙ elim (leb_tells w.low j) [
                      | inl above ↦
                          let none = no_ends c j
                          (none_between c w i g rises first j above.1 (between j below other.1))
                          in
                          none ∙ sym (free j (sym (p.ahead j above.1) ∙ none))
                      | inr under ↦ p.passed j under.1
                    ]
              ];
          ahead = λ j above. others j (λ same. omega (arith, above, same))
              ∙ p.ahead j (omega (arith, above, first.ahead.0));
          values = λ j. values j ∙ p.values j;
          kept = kept_on old c new p.kept kept;
          formed = formed;
        }
      where
        between : (j : ℕ) → j < i + 1 → j ≢ i → j < i
        between j below other =
            elim (leb_tells i j) [
              | inl reach ↦
                  absurd (other (omega (arith, below, reach.1)))
              | inr under ↦ under.1
            ]

  pub prev_written : (c new : Content (IndexLink T)) (i : ℕ) (o : Option ℕ) (k : ℕ) → i ≡ k
      → new ≡ with_prev_of c (Some i) o
      → ends_in new k ≡ reprev o (ends_in c k)
  prev_written c new i o k is made =
      ap (λ d. ends_in d k) made ∙ ends-with_prev_of c (Some i) o k
      ∙ rw (eq-eqb k i (sym is)) refl

  pub prev_unwritten : (c new : Content (IndexLink T)) (i : ℕ) (o : Option ℕ) (k : ℕ)
      → i ≡ k → new ≡ with_prev_of c (Some i) o
      → (j : ℕ) → j ≢ k → ends_in new j ≡ ends_in c j
  prev_unwritten c new i o k is made j other =
      ap (λ d. ends_in d j) made ∙ ends-with_prev_of c (Some i) o j
      ∙ rw (ne_eqb j i (λ same. other (same ∙ is))) refl

  pub next_written : (c new : Content (IndexLink T)) (i : ℕ) (o : Option ℕ) (k : ℕ) → i ≡ k
      → new ≡ with_next_of c (Some i) o
      → ends_in new k ≡ renext o (ends_in c k)
  next_written c new i o k is made =
      ap (λ d. ends_in d k) made ∙ ends-with_next_of c (Some i) o k
      ∙ rw (eq-eqb k i (sym is)) refl

  pub next_unwritten : (c new : Content (IndexLink T)) (i : ℕ) (o : Option ℕ) (k : ℕ)
      → i ≡ k → new ≡ with_next_of c (Some i) o
      → (j : ℕ) → j ≢ k → ends_in new j ≡ ends_in c j
  next_unwritten c new i o k is made j other =
      ap (λ d. ends_in d j) made ∙ ends-with_next_of c (Some i) o j
      ∙ rw (ne_eqb j i (λ same. other (same ∙ is))) refl

-- the number after a count, where it is an index of the type
made_index : {I : Type 0} (number : I → ℕ) (o : Option I) (greatest n count : ℕ)
    → (IsNone o ↔ (greatest < n)) → IfSome o (λ x. number x ≡ n) → n ≡ count + 1
    → count + 1 ≤ greatest → option_map number o ≡ Some (count + 1)
made_index number None greatest n count past same is within =
    absurd (let beyond = past.0 refl in omega (arith, beyond, is, within))
made_index number (Some x) greatest n count past same is within = ap Some (same ∙ is)

renumbered : (o : Option Ends) (n : ℕ)
    → reprev (Some n) o ≡ option_map (λ (v : Ends). (let w : Ends = (Some n, v.1) in w)) o
renumbered None n = refl
renumbered (Some v) n = refl

module _ {T : Type 0} (old : Content (IndexLink T)) where
  abbrev before : ℕ → Option Ends
  before = ends_in old

  pub free_numbered : (j : ℕ) → before j ≡ None → numbered before j ≡ None
  free_numbered j none = rw none refl

  -- the ranks up to the first live index
  pub record IsCounted (c : Content (IndexLink T)) (w : Walk) (i count : ℕ) : Type 0 where
    pub below : count + 1 ≤ i
    pub rank_is : count ≡ live_below before i
    pub after : count + 1 ≡ live_below before (i + 1)

  pub counted : (c : Content (IndexLink T)) (w : Walk) (i g count : ℕ)
      → IsPassed (numbered before) w.low old c → w.falls ≡ false
      → IsFirstLive (entry_at c) w i g → count ≡ live_below before w.low → IsCounted c w i count
  counted c w i g count p rises first is = by_index i refl
    where
      some_live : IsSome (entry_at c i)
      some_live = by_entry (entry_at c i) first.live
        where
          by_entry : (o : Option (ℕ × IndexLink T))
              → option_map (λ (e : ℕ × IndexLink T). e.0) o ≡ Some g → IsSome o
          by_entry None gone = absurd (cc)
          by_entry (Some e) is = refl

      live : IsSome (before i)
      live = live_ends old i ∙ sym (live_as old c p.values i) ∙ some_live

      flat : live_below before i ≡ live_below before w.low
      flat = live_below-flat before w.low i first.ahead.0
          (λ j above under. sym (p.ahead j above)
          ∙ no_ends c j (first.first j (above, omega (arith, under, first.ahead.1))
          (rw rises under)))

      by_index : (k : ℕ) → i ≡ k → IsCounted c w i count
      by_index zero none = absurd
          (let no : is_some (before 0) ≡ true = subst (λ n. IsSome (before n)) none live in
          true≢false (sym no))
      by_index (suc k) here =
          let under = live_below-below before refl k in
          let up = live_below-live before i live in
          let same : live_below before i ≡ live_below before (suc k) =
          ap (live_below before) here in
          let next : i + 1 ≡ suc i = omega arith in
          record {
            below = omega (arith, under, flat, is, same, here);
            rank_is = is ∙ sym flat;
            after = ap (λ n. n + 1) (is ∙ sym flat) ∙ sym up ∙ ap (live_below before) (sym next);
          }

  -- the first live index ahead has its number
  pub numbered_one : {I : Type 0} (number : I → ℕ) (c new : Content (IndexLink T)) (w : Walk)
      (i g count greatest n : ℕ) (x : ℕ) (o : Option I)
      → IsPassed (numbered before) w.low old c → w.falls ≡ false
      → IsFirstLive (entry_at c) w i g → IsCounted c w i count → x ≡ i
      → new ≡ with_prev_of c (Some x) (option_map number o)
      → (IsNone o ↔ (greatest < n))
      → IfSome o (λ y. number y ≡ n) → n ≡ count + 1 → i ≤ greatest
      → IsPassed (numbered before) (i + 1) old new
  numbered_one number c new w i g count greatest n x o p rises first count_is at made past same is
      within =
      let own = option_map number o in
      let below = count_is.below in
      let index = made_index number o greatest n count past same is (omega (arith, below, within))
      in
      passed_one (numbered before) old free_numbered c new w i g p rises first
      (prev_written c new x own i at made ∙ ap (λ m. reprev m (ends_in c i)) index
      ∙ renumbered (ends_in c i) (count + 1)
      ∙ ap (λ e. option_map (λ (v : Ends). (let r : Ends = (Some (count + 1), v.1) in r)) e)
      (p.ahead i first.ahead.0)
      ∙ ap (λ m. option_map (λ (v : Ends). (let r : Ends = (Some (m + 1), v.1) in r)) (before i))
      count_is.rank_is)
      (prev_unwritten c new x own i at made)
      (λ j. ap (λ d. values_in d j) made ∙ values-with_prev_of c (Some x) own j)
      (subst (IsKept c) (sym made) (kept-with_prev_of c (Some x) own))
      (subst IsWellFormed (sym made) (formed-with_prev_of c (Some x) own p.formed))

-- what was found is live
pub found_live : {X : Type 0} (entries : ℕ → Option (ℕ × X)) (i g : ℕ)
    → generation_at entries i ≡ Some g → IsSome (entries i)
found_live {X} entries i g live = by_entry (entries i) live
  where
    by_entry : (o : Option (ℕ × X)) → option_map (λ (e : ℕ × X). e.0) o ≡ Some g → IsSome o
    by_entry None gone = absurd (cc)
    by_entry (Some e) is = refl

module _ {T : Type 0} where
  pub unchanged : (c new : Content (IndexLink T)) (at o : Option ℕ)
      → new ≡ with_prev_of c at o → (j : ℕ) → values_in new j ≡ values_in c j
  unchanged c new at o made j = ap (λ d. values_in d j) made ∙ values-with_prev_of c at o j

module _ {T : Type 0} (old : Content (IndexLink T)) where
  abbrev pub held : ℕ → Option Ends
  held = ends_in old

  pub free_forwarded : (j : ℕ) → held j ≡ None → forwarded held j ≡ None
  free_forwarded j none = rw none refl

  same_prev : (o : Option Ends)
      → prev_in (option_map (λ (v : Ends). (let w : Ends = (v.0, prev_of held v.1) in w)) o)
      ≡ prev_in o
  same_prev None = refl
  same_prev (Some v) = refl

  -- the previous indexes stay
  prevs_stay : (c : Content (IndexLink T)) (low : ℕ) → IsPassed (forwarded held) low old c
      → (j : ℕ)
      → prev_at (ends_in c) j ≡ prev_at held j
  prevs_stay c low p j =
      elim (leb_tells low j) [
        | inl above ↦ ap prev_in (p.ahead j above.1)
        | inr under ↦ ap prev_in (p.passed j under.1) ∙ same_prev (held j)
      ]

  prev_of_stays : (c : Content (IndexLink T)) (low : ℕ)
      → IsPassed (forwarded held) low old c → (o : Option ℕ)
      → prev_of (ends_in c) o ≡ prev_of held o
  prev_of_stays c low p None = refl
  prev_of_stays c low p (Some j) = prevs_stay c low p j

  -- what a link ahead names is live
  pub passed_next : (c : Content (IndexLink T)) (low : ℕ)
      → IsPassed (forwarded held) low old c
      → ((p q : ℕ) → next_at held p ≡ Some q → IsSome (held q)) → (i : ℕ) → low ≤ i → (q : ℕ)
      → next_at (ends_in c) i ≡ Some q
      → IsSome (entry_at c q)
  passed_next c low p live i above q goes =
      live_as old c p.values q ∙ sym (live_ends old q)
      ∙ live i q (sym (ap next_in (p.ahead i above)) ∙ goes)

  -- the first live index ahead has its next under the new index
  pub forwarded_one : (c new : Content (IndexLink T)) (w : Walk) (i g : ℕ) (x : ℕ) (o : Option ℕ)
      → IsPassed (forwarded held) w.low old c → w.falls ≡ false
      → IsFirstLive (entry_at c) w i g → x ≡ i
      → o ≡ prev_of (ends_in c) (next_at (ends_in c) i)
      → new ≡ with_next_of c (Some x) o → IsPassed (forwarded held) (i + 1) old new
  forwarded_one c new w i g x o p rises first at gives made =
      passed_one (forwarded held) old free_forwarded c new w i g p rises first
      (next_written c new x o i at made
      ∙ ap (λ m. renext m (ends_in c i))
      (gives ∙ prev_of_stays c w.low p (next_at (ends_in c) i))
      ∙ ap (λ e. renext (prev_of held (next_in e)) e) (p.ahead i first.ahead.0)
      ∙ by_ends (held i))
      (next_unwritten c new x o i at made)
      (λ j. ap (λ d. values_in d j) made ∙ values-with_next_of c (Some x) o j)
      (subst (IsKept c) (sym made) (kept-with_next_of c (Some x) o))
      (subst IsWellFormed (sym made) (formed-with_next_of c (Some x) o p.formed))
    where
      by_ends : (e : Option Ends)
          → renext (prev_of held (next_in e)) e
          ≡ option_map (λ (v : Ends). (let w : Ends = (v.0, prev_of held v.1) in w)) e
      by_ends None = refl
      by_ends (Some v) = refl

  -- no previous index but of a link that is passed, of which each that has a next is its previous
  -- one
  pub record IsJoined (low : ℕ) (c : Content (IndexLink T)) : Type 0 where
    pub nexts : (j : ℕ) → next_at (ends_in c) j ≡ next_at held j
    pub joined : (p q : ℕ) → p < low → next_at held p ≡ Some q
        → prev_at (ends_in c) q ≡ Some p
    pub only : (p q : ℕ) → prev_at (ends_in c) q ≡ Some p
        → (p < low) × (next_at held p ≡ Some q)
    pub values : (j : ℕ) → values_in c j ≡ values_in old j
    pub kept : IsKept old c
    pub formed : IsWellFormed c

  pub joined_none : (low : ℕ) → low ≡ 1 → ((k : ℕ) → prev_at held k ≡ None) → IsWellFormed old
      → IsJoined low old
  joined_none low is alone formed =
      record {
        nexts = λ j. refl;
        joined = λ p q below goes. absurd
            (let zeroth : p ≡ 0 = omega (arith, is, below) in let gone : None ≡ Some q =
            ap (next_at held) (sym zeroth) ∙ goes in cc);
        only = λ p q comes. absurd (let gone : None ≡ Some p = sym (alone q) ∙ comes in cc);
        values = λ j. refl;
        kept = record { live = refl; slots = refl; free = refl; counter = refl; room = refl };
        formed = formed;
      }

  abbrev pub AreNextsApart : Type 0
  AreNextsApart = (p q r : ℕ) → next_at held p ≡ Some r → next_at held q ≡ Some r → p ≡ q

  next_reprev : (m : Option ℕ) (o : Option Ends) → next_in (reprev m o) ≡ next_in o
  next_reprev m None = refl
  next_reprev m (Some v) = refl

  prev_reprev : (m : Option ℕ) (o : Option Ends) → IsSome o → prev_in (reprev m o) ≡ m
  prev_reprev m None some = absurd (true≢false (sym some))
  prev_reprev m (Some v) some = refl

module _ {T : Type 0} where
  pub next_unchanged : (c new : Content (IndexLink T)) (at o : Option ℕ)
      → new ≡ with_next_of c at o → (j : ℕ) → values_in new j ≡ values_in c j
  next_unchanged c new at o made j = ap (λ d. values_in d j) made
      ∙ values-with_next_of c at o j

module _ {T : Type 0} (old : Content (IndexLink T)) where
  -- a next that is there is live
  pub next_live : (low : ℕ) (c : Content (IndexLink T)) (o : Option ℕ) (i : ℕ)
      → IsJoined old low c
      → ((p q : ℕ) → next_at (held old) p ≡ Some q → IsSome (held old q))
      → o ≡ next_at (ends_in c) i
      → IfSome o (λ y. IsSome (entry_at c y))
  next_live low c None i j live goes = tt
  next_live low c (Some y) i j live goes =
      live_as old c j.values y ∙ sym (live_ends old y)
      ∙ live i y (sym (j.nexts i) ∙ sym goes)

  module _ (apart : AreNextsApart old) (c new : Content (IndexLink T)) (w : Walk) (i g : ℕ)
      (x : ℕ) (j : IsJoined old w.low c)
      (rises : w.falls ≡ false) (first : IsFirstLive (entry_at c) w i g) (at : x ≡ i) where
    -- a link up to this one that has a next is passed, or is this one
    up_to : (p q : ℕ) → p < i + 1 → next_at (held old) p ≡ Some q → (p < w.low) ⊎ (p ≡ i)
    up_to p q below goes =
        elim (leb_tells w.low p) [
          | inl above ↦
              elim (eqb_tells p i) [
                | inl same ↦ inr same.1
                | inr other ↦
                    absurd (
                    let under : p < i = elim (leb_tells i p) [
                      | inl reach ↦ absurd (other.1 (omega (arith, below, reach.1)))
                      | inr less ↦
                          less.1
                    ] in
                    let none = no_ends c p
                    (first.first p (above.1, omega (arith, under, first.ahead.1))
                    (rw rises under)) in
                    let gone : None ≡ Some q = sym (ap next_in none) ∙ j.nexts p ∙ goes in
                    cc
                    )
              ]
          | inr under ↦ inl under.1
        ]

    here_none : next_at (ends_in c) i ≡ None → IsJoined old (i + 1) c
    here_none ends =
        record {
          nexts = j.nexts;
          joined = λ p q below goes.
              elim (up_to p q below goes) [
                | inl under ↦ j.joined p q under goes
                | inr same ↦ absurd (let gone : None ≡ Some q = sym ends ∙ j.nexts i
                    ∙ ap (next_at (held old)) (sym same) ∙ goes in cc)
              ];
          only = λ p q comes. let o = j.only p q comes in (omega (arith, o.0, first.ahead.0), o.1);
          values = j.values;
          kept = j.kept;
          formed = j.formed;
        }

    here_some : (y : ℕ) → next_at (ends_in c) i ≡ Some y
        → IsSome (entry_at c y) → new ≡ with_prev_of c (Some y) (Some x)
        → IsJoined old (i + 1) new
    here_some y goes some made =
        record {
          nexts = λ k.
              elim (eqb_tells k y) [
                | inl same ↦ subst (λ n. next_at (ends_in new) n
                    ≡ next_at (ends_in c) n) (sym same.1)
                    (ap next_in written ∙ next_reprev old (Some x)
                    (ends_in c y))
                | inr other ↦ ap next_in (unwritten k other.1)
              ] ∙ j.nexts k;
          joined = λ p q below out.
              elim (eqb_tells q y) [
                | inl same ↦
                    let is : p ≡ i = apart p i y (out ∙ ap Some same.1)
                    (sym (j.nexts i) ∙ goes) in
                    ap (prev_at (ends_in new)) same.1 ∙ prev_here ∙ ap Some (sym is)
                | inr other ↦
                    ap prev_in (unwritten q other.1)
                    ∙ elim (up_to p q below out) [
                      | inl under ↦ j.joined p q under out
                      | inr is ↦
                          absurd (other.1 (
                          let both : Some q ≡ Some y = sym out
                          ∙ ap (next_at (held old)) is ∙ sym (j.nexts i) ∙ goes in
                          let same : q ≡ y = cc in
                          same
                          ))
                    ]
              ];
          only = λ p q comes.
              elim (eqb_tells q y) [
                | inl same ↦
                    let back : Some i ≡ Some p = sym prev_here
                    ∙ ap (prev_at (ends_in new)) (sym same.1) ∙ comes in
                    let is : i ≡ p = cc in (
                      omega (arith, is),
                      ap (next_at (held old)) (sym is) ∙ sym (j.nexts i)
                          ∙ goes ∙ ap Some (sym same.1),
                    )
                | inr other ↦ let o = j.only p q (sym (ap prev_in (unwritten q other.1)) ∙ comes) in
                    (omega (arith, o.0, first.ahead.0), o.1)
              ];
          values = λ k. unchanged c new (Some y) (Some x) made k ∙ j.values k;
          kept = kept_on old c new j.kept
              (subst (IsKept c) (sym made) (kept-with_prev_of c (Some y) (Some x)));
          formed = subst IsWellFormed (sym made)
              (formed-with_prev_of c (Some y) (Some x) j.formed);
        }
      where
        written : ends_in new y
            ≡ reprev (Some x) (ends_in c y)
        written = prev_written c new y (Some x) y refl made

        unwritten : (k : ℕ) → k ≢ y → ends_in new k ≡ ends_in c k
        unwritten = prev_unwritten c new y (Some x) y refl made

        prev_here : prev_at (ends_in new) y ≡ Some i
        prev_here =
            ap prev_in written ∙ prev_reprev old (Some x)
            (ends_in c y) (live_ends c y ∙ some) ∙ ap Some at

    -- the next of the first live index ahead has it as its previous one
    pub joined_one : (next : Option ℕ) → next ≡ next_at (ends_in c) i
        → IfSome next (λ y. IsSome (entry_at c y))
        → new ≡ with_prev_of c next (Some x) → IsJoined old (i + 1) new
    joined_one None goes some made =
        subst (IsJoined old (i + 1)) (sym made) (here_none (sym goes))
    joined_one (Some y) goes some made = here_some y (sym goes) some made
