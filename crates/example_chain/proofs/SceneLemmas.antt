-- What each call on a scene keeps.
use Rattle.std.proofs.Common.{◌≡◌, ◌≢◌, ◌∙◌, inl, inr, sym, ap, subst, refl, true≢false, ℕ, zero}
use Rattle.std.proofs.Common.{suc, List, [], ◌∷◌, ◌++◌, length, slice_set, get_or, take, Option}
use Rattle.std.proofs.Common.{Some, None, IsSome, OnSome, option_map, arith}
use Rattle.std.proofs.lemmas.Bool.{eq-eqb, ne_eqb}
use Rattle.std.proofs.lemmas.Bool.Decides.{eqb_tells}
use Rattle.std.proofs.lemmas.List.{get_or-set_other}
use Rattle.triple_arena.specs.Changes.{IsInserted, IsRemoved}
use Rattle.triple_arena.specs.Content.{Content, entry_at, live_count, some_counter, IsWellFormed}
use Rattle.triple_arena.specs.Entries.{value_if}
use Rattle.example_chain.specs.Follow.{IsNamedBy}
use Rattle.example_chain.specs.Scene.{State, found, node_at, IsScene}

the : {X : Type 0} {x y : X} → Some x ≡ Some y → x ≡ y
the e = cc

read_pushed : {X : Type 0} (xs : List (Option X)) (x : Option X) (k : ℕ) → k ≢ length xs
    → get_or (xs ++ x ∷ []) k None ≡ get_or xs k None
read_pushed [] x zero other = absurd (other refl)
read_pushed [] x (suc k) other = refl
read_pushed (y ∷ xs) x zero other = refl
read_pushed (y ∷ xs) x (suc k) other = read_pushed xs x k (λ e. other (ap suc e))

read_pushed_at : {X : Type 0} (xs : List (Option X)) (x : Option X)
    → get_or (xs ++ x ∷ []) (length xs) None ≡ x
read_pushed_at [] x = refl
read_pushed_at (y ∷ xs) x = read_pushed_at xs x

set_none : {X : Type 0} (xs : List (Option X)) (k : ℕ) → get_or (slice_set xs k None) k None ≡ None
set_none [] k = refl
set_none (x ∷ xs) zero = refl
set_none (x ∷ xs) (suc k) = set_none xs k

-- what is written over all of a list is all that is left
pub taken : {X : Type 0} (front behind : List X) (n : ℕ) → n ≡ length front
    → take n (front ++ behind) ≡ front
taken [] behind zero e = refl
taken [] behind (suc n) e = absurd (omega (arith, e))
taken (x ∷ front) behind zero e = absurd (omega (arith, e))
taken (x ∷ front) behind (suc n) e = ap (λ l. x ∷ l) (taken front behind n (omega (arith, e)))

-- a removal leaves what stands at other indexes
pub elsewhere : {M : Type 0} {c d : Content M} {last : Option ℕ} {i : ℕ}
    → IsRemoved entry_at live_count some_counter (λ c. c.room) last i c d
    → (j : ℕ) → j ≢ i → entry_at d j ≡ entry_at c j
elsewhere {i} removed j other = removed.entries j ∙ rw (ne_eqb j i other) refl

-- what holds where there is an answer, and there is one with a value
pub on_answer : {A M X : Type 0} (value : A → M) {v : Option M} (answer : Option A)
    → option_map value answer ≡ v → IsSome v → OnSome answer X → X
on_answer value None e some on = absurd (true≢false (sym (rw (sym e) at some)))
on_answer value (Some a) e some on = on

module _ {P M N : Type 0} (index generation : P → ℕ) (node : M → N) where
  pub record Added (old new : State P M) : Type 0 where
    pub scene : IsScene index generation new
    pub others : (k : ℕ) → k ≢ length old.pointers
        → node_at index generation node new k ≡ node_at index generation node old k

  pub added : {old new : State P M} {next : ℕ} {p : P} {m : M}
      → IsInserted entry_at live_count some_counter next (index p) (generation p) m old.nodes
      new.nodes
      → new.pointers ≡ old.pointers ++ Some p ∷ [] → IsWellFormed new.nodes
      → IsScene index generation old → Added old new
  added {old} {new} {p} {m} inserted pushed formed scene = record {
    scene = record { formed = formed; live = live; apart = apart };
    others = λ k other. ap (found index generation node new.nodes) (before k other)
        ∙ same (get_or old.pointers k None) (scene.live k);
  }
    where
      before : (k : ℕ) → k ≢ length old.pointers
          → get_or new.pointers k None ≡ get_or old.pointers k None
      before k other = ap (λ l. get_or l k None) pushed ∙ read_pushed old.pointers (Some p) k other

      last : get_or new.pointers (length old.pointers) None ≡ Some p
      last = ap (λ l. get_or l (length old.pointers) None) pushed
          ∙ read_pushed_at old.pointers (Some p)

      -- a live entry is not at the index that was free
      elsewhere : (i g : ℕ) → IsSome (value_if g (entry_at old.nodes i)) → i ≢ index p
      elsewhere i g some e =
          let none : value_if g (entry_at old.nodes i) ≡ None =
          ap (value_if g) (ap (entry_at old.nodes) e ∙ inserted.vacant) in
          true≢false (sym (rw none at some))

      kept : (i g : ℕ) → IsSome (value_if g (entry_at old.nodes i))
          → entry_at new.nodes i ≡ entry_at old.nodes i
      kept i g some = inserted.entries i ∙ elim (eqb_tells i (index p)) [
        | inl at ↦ absurd (elsewhere i g some at.1)
        | inr other ↦ rw other.0 refl
      ]

      same : (o : Option P)
          → ((q : P) → o ≡ Some q → IsSome (value_if (generation q) (entry_at old.nodes (index q))))
          → found index generation node new.nodes o ≡ found index generation node old.nodes o
      same None some = refl
      same (Some q) some = ap (λ e. option_map node (value_if (generation q) e))
          (kept (index q) (generation q) (some q refl))

      live : (k : ℕ) (q : P) → get_or new.pointers k None ≡ Some q
          → IsSome (value_if (generation q) (entry_at new.nodes (index q)))
      live k q e = elim (eqb_tells k (length old.pointers)) [
        | inl at ↦
            let is : p ≡ q = the (sym last ∙ ap (λ n. get_or new.pointers n None) (sym at.1) ∙ e) in
            subst (λ r. IsSome (value_if (generation r) (entry_at new.nodes (index r)))) is
            (rw (
              inserted.entries (index p),
              eq-eqb (index p) (index p) refl,
              eq-eqb (generation p) (generation p) refl,
            ) refl)
        | inr other ↦
            let some = scene.live k q (sym (before k other.1) ∙ e) in
            subst (λ o. IsSome (value_if (generation q) o))
            (sym (kept (index q) (generation q) some)) some
      ]

      apart : (k l : ℕ) (q r : P) → get_or new.pointers k None ≡ Some q
          → get_or new.pointers l None ≡ Some r → k ≢ l → index q ≢ index r
      apart k l q r e f differ = elim (eqb_tells k (length old.pointers)) [
        | inl at ↦ elim (eqb_tells l (length old.pointers)) [
          | inl both ↦ absurd (differ (at.1 ∙ sym both.1))
          | inr other ↦
              let is : p ≡ q = the (sym last ∙ ap (λ n. get_or new.pointers n None) (sym at.1) ∙ e)
              in
              λ i. elsewhere (index r) (generation r) (scene.live l r (sym (before l other.1) ∙ f))
              (sym i ∙ ap index (sym is))
        ]
        | inr other ↦ elim (eqb_tells l (length old.pointers)) [
          | inl at ↦
              let is : p ≡ r = the (sym last ∙ ap (λ n. get_or new.pointers n None) (sym at.1) ∙ f)
              in
              λ i. elsewhere (index q) (generation q) (scene.live k q (sym (before k other.1) ∙ e))
              (i ∙ ap index (sym is))
          | inr more ↦ scene.apart k l q r (sym (before k other.1) ∙ e) (sym (before l more.1) ∙ f)
              differ
        ]
      ]

  pub record Without (old new : State P M) (number : ℕ) : Type 0 where
    pub scene : IsScene index generation new
    pub others : (k : ℕ) → k ≢ number
        → node_at index generation node new k ≡ node_at index generation node old k

  -- a pointer is forgotten, and other entries stay
  pub forgotten : {old new : State P M} {number : ℕ} {p : P}
      → get_or old.pointers number None ≡ Some p → new.pointers ≡ slice_set old.pointers number None
      → ((j : ℕ) → j ≢ index p → entry_at new.nodes j ≡ entry_at old.nodes j)
      → IsWellFormed new.nodes → IsScene index generation old → Without old new number
  forgotten {old} {new} {number} {p} was gone kept formed scene = record {
    scene = record { formed = formed; live = live; apart = apart };
    others = λ k other. ap (found index generation node new.nodes) (before k other)
        ∙ same k other (get_or old.pointers k None) refl;
  }
    where
      before : (k : ℕ) → k ≢ number → get_or new.pointers k None ≡ get_or old.pointers k None
      before k other = ap (λ l. get_or l k None) gone
          ∙ get_or-set_other old.pointers number k None None other

      -- what stands at another number
      other_than : (k : ℕ) (q : P) → get_or new.pointers k None ≡ Some q → k ≢ number
      other_than k q e at =
          let none : get_or new.pointers k None ≡ None =
          ap (λ n. get_or new.pointers n None) at ∙ ap (λ l. get_or l number None) gone
          ∙ set_none old.pointers number in
          let both : Some q ≡ None = sym e ∙ none in
          cc

      old_at : (k : ℕ) (q : P) → get_or new.pointers k None ≡ Some q
          → get_or old.pointers k None ≡ Some q
      old_at k q e = sym (before k (other_than k q e)) ∙ e

      stays : (k : ℕ) (q : P) → k ≢ number → get_or old.pointers k None ≡ Some q
          → entry_at new.nodes (index q) ≡ entry_at old.nodes (index q)
      stays k q other e = kept (index q) (scene.apart k number q p e was other)

      same : (k : ℕ) → k ≢ number → (o : Option P) → get_or old.pointers k None ≡ o
          → found index generation node new.nodes o ≡ found index generation node old.nodes o
      same k other None e = refl
      same k other (Some q) e =
          ap (λ entry. option_map node (value_if (generation q) entry)) (stays k q other e)

      live : (k : ℕ) (q : P) → get_or new.pointers k None ≡ Some q
          → IsSome (value_if (generation q) (entry_at new.nodes (index q)))
      live k q e = subst (λ o. IsSome (value_if (generation q) o))
          (sym (stays k q (other_than k q e) (old_at k q e))) (scene.live k q (old_at k q e))

      apart : (k l : ℕ) (q r : P) → get_or new.pointers k None ≡ Some q
          → get_or new.pointers l None ≡ Some r → k ≢ l → index q ≢ index r
      apart k l q r e f differ = scene.apart k l q r (old_at k q e) (old_at l r f) differ

module _ {P M : Type 0} (index generation : P → ℕ) (was : M → P) (entries : ℕ → Option (ℕ × M))
  where
    -- what is known of a pointer that followed its entry
    record Follower (old : Option P) (q : P) : Type 0 where
      pub from : P
      pub is : old ≡ Some from
      pub by : option_map was (value_if (generation q) (entries (index q))) ≡ Some from

    follower : (old new : Option P) (q : P) → new ≡ Some q
        → IsNamedBy was index generation entries old new → Follower old q
    follower None None q e named = cc
    follower None (Some r) q e named = cc
    follower (Some p) None q e named = cc
    follower (Some p) (Some r) q e named =
        record {
          from = p;
          is = refl;
          by =
              subst (λ x. option_map was (value_if (generation x) (entries (index x))) ≡ Some p)
              (the e)
              named;
        }

    some_of : (o : Option M) (p : P) → option_map was o ≡ Some p → IsSome o
    some_of None p e = cc
    some_of (Some m) p e = refl

    -- two entries at one index are the same
    same_entry : (g h : ℕ) (o : Option (ℕ × M)) (p q : P) → option_map was (value_if g o) ≡ Some p
        → option_map was (value_if h o) ≡ Some q → p ≡ q
    same_entry g h None p q e f = cc
    same_entry g h (Some x) p q e f = elim (eqb_tells x.0 g) [
      | inl one ↦ elim (eqb_tells x.0 h) [
        | inl two ↦ let first : Some (was x.1) ≡ Some p = rw one.0 at e in
            let second : Some (was x.1) ≡ Some q = rw two.0 at f in sym (the first) ∙ the second
        | inr two ↦ absurd (let none : None ≡ Some q = rw two.0 at f in cc)
      ]
      | inr one ↦ absurd (let none : None ≡ Some p = rw one.0 at e in cc)
    ]

    pub followed : {old new : State P M} (before after : List (Option P))
        → entry_at new.nodes ≡ entries → before ≡ old.pointers → new.pointers ≡ after
        → ((k : ℕ) → IsNamedBy was index generation entries (get_or before k None)
        (get_or after k None))
        → IsWellFormed new.nodes → IsScene index generation old → IsScene index generation new
    followed {old} {new} before after stands is_old is_new named formed scene = record {
      formed = formed;
      live = λ k q e. rw stands
          (some_of (value_if (generation q) (entries (index q))) (at k q e).from (at k q e).by);
      apart = λ k l q r e f differ same.
          let one = at k q e in
          let two = at l r f in
          let here = subst (λ i. option_map was (value_if (generation q) (entries i))
          ≡ Some one.from)
          same one.by in
          let both : one.from ≡ two.from =
          same_entry (generation q) (generation r) (entries (index r)) one.from two.from here
          two.by in
          scene.apart k l one.from two.from one.is two.is differ (ap index both);
    }
      where
        at : (k : ℕ) (q : P) → get_or new.pointers k None ≡ Some q
            → Follower (get_or old.pointers k None) q
        at k q e =
            let of_old = subst (λ l. IsNamedBy was index generation entries (get_or l k None)
            (get_or after k None)) is_old (named k) in
            follower (get_or old.pointers k None) (get_or after k None) q
            (ap (λ l. get_or l k None) (sym is_new) ∙ e) of_old
