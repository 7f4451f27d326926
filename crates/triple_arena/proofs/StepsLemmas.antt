-- What each step does to the pointers, and what follows for those that were given.
use Rattle.std.proofs.Common.{◌≡◌, ◌==◌, ◌⊎◌, inl, inr, ℕ, zero, suc, ◌+◌, ◌<◌, ◌≤◌, true, false}
use Rattle.std.proofs.Common.{List, [], ◌∷◌, ◌++◌, map, length, replicate, Option, Some, None}
use Rattle.std.proofs.Common.{IsSome, slice_get, refl, sym, ap, subst, ◌∙◌, arith, true≢false}
use Rattle.std.proofs.lemmas.Bool.{eq-eqb}
use Rattle.std.proofs.lemmas.Bool.Decides.{eqb_tells}
use Rattle.std.specs.Fn.{iterate}
use Rattle.std.specs.Option.{option_map}
use Rattle.triple_arena_ptr.specs.Generation.{next_generation}
use Rattle.triple_arena_stack.specs.Room.{Room}
use Rattle.triple_arena.proofs.EntriesLemmas.{either_of}
use Rattle.triple_arena.specs.Changes.{IsNew}
use Rattle.triple_arena.specs.Entries.{counter_wraps, generation_at, look_up, revalued, IsOneOf}
use Rattle.triple_arena.specs.Compression.{entry_of_listed, generation_of, generation_given}
use Rattle.triple_arena.specs.Compression.{index_of, pointer_of}
use Rattle.triple_arena.specs.Transfer.{steps_wrap}
use Rattle.triple_arena.specs.Steps.{Step, insert, remove, invalidate, clear, drain, inc_generation}
use Rattle.triple_arena.specs.Steps.{compress, exchange, write, reallocate, give_up_copy, keep}
use Rattle.triple_arena.specs.Steps.{counts, AreNew, Finds, given, all_given, reached, Takes}
use Rattle.triple_arena.specs.Steps.{Happens, History}

-- the generation of an entry, if there is one
abbrev generation : {T : Type 0} → Option (ℕ × T) → Option ℕ
generation o = option_map (λ entry. entry.0) o

same_pair : {i j g h : ℕ} → i ≡ j → g ≡ h → ◌≡◌ {A = ℕ × ℕ} (i, g) (j, h)
same_pair e f = cc

both_new : (l m : List (ℕ × ℕ)) → AreNew l → AreNew m
    → ((p : ℕ × ℕ) → IsOneOf l p → IsOneOf m p → ⊥) → AreNew (l ++ m)
both_new [] m new more apart = more
both_new (q ∷ l) m new more apart =
    (λ one. twice (either_of l m q one), both_new l m new.1 more (λ p one. apart p (inr one)))
  where
    twice : IsOneOf l q ⊎ IsOneOf m q → ⊥
    twice (inl first) = new.0 first
    twice (inr second) = apart q (inl refl) second

module _ {T : Type 0} where
  record Listed (entries : List (ℕ × (ℕ × T))) (p : ℕ × ℕ) : Type 0 where
    pub place : ℕ
    pub entry : ℕ × (ℕ × T)
    pub stands : slice_get entries place ≡ Some entry
    pub is : pointer_of entry ≡ p

  listed_of : (entries : List (ℕ × (ℕ × T))) (p : ℕ × ℕ) → IsOneOf (map pointer_of entries) p
      → Listed entries p
  listed_of [] p one = absurd one
  listed_of (e ∷ entries) p (inl here) = record { place = 0; entry = e; stands = refl; is = here }
  listed_of (e ∷ entries) p (inr one) =
      let l = listed_of entries p one in
      record { place = suc l.place; entry = l.entry; stands = l.stands; is = l.is }

  is_listed : (entries : List (ℕ × (ℕ × T))) (k : ℕ) (e : ℕ × (ℕ × T))
      → slice_get entries k ≡ Some e → IsOneOf (map pointer_of entries) (pointer_of e)
  is_listed [] k e found = absurd (cc)
  is_listed (x ∷ entries) zero e found = inl (let same : x ≡ e = cc in ap pointer_of same)
  is_listed (x ∷ entries) (suc k) e found = inr (is_listed entries k e found)

  -- where each stands at its own index, none is listed twice
  listed_once : (n : ℕ) (entries : List (ℕ × (ℕ × T)))
      → ((k : ℕ) (e : ℕ × (ℕ × T)) → slice_get entries k ≡ Some e → index_of e ≡ n + k)
      → AreNew (map pointer_of entries)
  listed_once n [] at = tt
  listed_once n (x ∷ entries) at =
      let later = λ (k : ℕ) (e : ℕ × (ℕ × T)) (found : slice_get entries k ≡ Some e). at (suc k) e
      found in (
        λ one.
            let l = listed_of entries (pointer_of x) one in
            let same : index_of l.entry ≡ index_of x = ap (λ (p : ℕ × ℕ). p.0) l.is in
            omega (arith, at 0 x refl, later l.place l.entry l.stands, same),
        listed_once (n + 1) entries (λ k e found. omega (arith, later k e found)),
      )

  -- a list whose generations are all one
  same_generation : {X : Type 0} (g : ℕ) (entries : List (ℕ × (ℕ × T))) (xs : List X)
      → map generation_of entries ≡ map (λ _. g) xs → (k : ℕ)
      (e : ℕ × (ℕ × T)) → slice_get entries k ≡ Some e → generation_of e ≡ g
  same_generation g [] xs same k e found = absurd (cc)
  same_generation g (x ∷ entries) [] same k e found = absurd (cc)
  same_generation g (x ∷ entries) (y ∷ xs) same zero e found =
      let is : x ≡ e = cc in
      let first : generation_of x ≡ g = cc in
      ap generation_of (sym is) ∙ first
  same_generation g (x ∷ entries) (y ∷ xs) same (suc k) e found =
      let rest : map generation_of entries ≡ map (λ _. g) xs = cc in
      same_generation g entries xs rest k e found

module _ {S T : Type 0} (entry_of : S → ℕ → Option (ℕ × T)) where
  -- a step from the counter c to c' gives these pointers, and others are found only where they were
  -- before; where the counter
  -- stays none ends
  pub record Effect (c c' : ℕ) (l : List (ℕ × ℕ)) (old new : S) : Type 0 where
    pub rises : c ≤ c'
    pub found : (p : ℕ × ℕ) → Finds entry_of new p → Finds entry_of old p ⊎ IsOneOf l p
    pub kept : c ≡ c' → (p : ℕ × ℕ) → Finds entry_of old p → Finds entry_of new p
    pub finds : (p : ℕ × ℕ) → IsOneOf l p → Finds entry_of new p × (p.1 ≡ c')
    pub fresh : (p : ℕ × ℕ) → IsOneOf l p → p.1 ≡ c → Finds entry_of old p → ⊥
    pub once : AreNew l

  keeps : {c : ℕ} {old new : S}
      → ((j : ℕ) → generation_at (entry_of new) j ≡ generation_at (entry_of old) j)
      → Effect c c [] old new
  keeps same = record {
    rises = omega arith;
    found = λ p f. inl (sym (same p.0) ∙ f);
    kept = λ stays p f. same p.0 ∙ f;
    finds = λ p one. absurd one;
    fresh = λ p one at f. one;
    once = tt;
  }

  steps : {c : ℕ} {l : List (ℕ × ℕ)} {old new : S}
      → ((p : ℕ × ℕ) → Finds entry_of new p → Finds entry_of old p ⊎ IsOneOf l p)
      → ((p : ℕ × ℕ) → IsOneOf l p → Finds entry_of new p × (p.1 ≡ c + 1)) → AreNew l
      → Effect c (c + 1) l old new
  steps found finds once = record {
    rises = omega arith;
    found = found;
    kept = λ stays p f. absurd (omega (arith, stays));
    finds = finds;
    fresh = λ p one at f. omega (arith, at, (finds p one).1);
    once = once;
  }

  -- what an entry finds by its generation
  finds_by : {s : S} {p : ℕ × ℕ} {o : Option (ℕ × T)} → entry_of s p.0 ≡ o → Finds entry_of s p
      → generation o ≡ Some p.1
  finds_by e f = ap generation (sym e) ∙ f

module _ {S T : Type 0} (entry_of : S → ℕ → Option (ℕ × T)) (live_of : S → ℕ)
    (counter_of : S → Option ℕ) (room_of : S → Room)
    (listed : S → List (ℕ × (ℕ × T))) (none_at_zero : (s : S) → entry_of s 0 ≡ None)
    (entry_listed : (s : S) (j : ℕ) → entry_of s j ≡ look_up (listed s) j)
    (listed_counted : (s : S) → length (listed s) ≡ live_of s) (greatest : ℕ) where
  -- what is not there is not found
  absent : {s : S} {p : ℕ × ℕ} → entry_of s p.0 ≡ None → Finds entry_of s p → ⊥
  absent {p} none f = let o : None ≡ Some p.1 = ap generation (sym none) ∙ f in absurd (cc)

  -- a step of the counter that does not wrap
  next_is : {c : ℕ} {o : Option ℕ} → o ≡ Some c → counter_wraps (Some greatest) o ≡ false
      → next_generation (Some greatest) c ≡ c + 1
  next_is {c} is wraps = let at : (c == greatest) ≡ false = rw is at wraps in rw at refl

  -- the counter after such a step
  stepped_to : {c : ℕ} {old new : S} → counter_of old ≡ Some c
      → counter_wraps (Some greatest) (counter_of old) ≡ false
      → counter_of new ≡ option_map (next_generation (Some greatest)) (counter_of old)
      → counter_of new ≡ Some (c + 1)
  stepped_to is wraps after = after ∙ ap (option_map (next_generation (Some greatest))) is
      ∙ ap Some (next_is is wraps)

  record Stepped (c : ℕ) (l : List (ℕ × ℕ)) (old new : S) : Type 0 where
    pub c' : ℕ
    pub is : counter_of new ≡ Some c'
    pub effect : Effect entry_of c c' l old new

  same_counter : {c : ℕ} {old new : S} → counter_of old ≡ Some c → counter_of new ≡ counter_of old
      → ((j : ℕ) → generation_at (entry_of new) j ≡ generation_at (entry_of old) j)
      → Stepped c [] old new
  same_counter {c} is after same = record { c' = c; is = after ∙ is; effect = keeps entry_of same }

  -- an entry more
  inserted_step : {c : ℕ} {old new : S} (i g : ℕ) (t : T) → counter_of old ≡ Some c
      → Takes entry_of live_of counter_of room_of listed (Some greatest) (insert i g t) old new
      → Stepped c ((i, g) ∷ []) old new
  inserted_step {c} {old} {new} i g t is took = record {
    c' = c;
    is = took.counter ∙ is;
    effect = record {
      rises = omega arith;
      found = λ p f. elim (eqb_tells p.0 i) [
        | inl same ↦
            let o : Some g ≡ Some p.1 =
            finds_by entry_of {s = new} {p = p} {o = Some (g, t)}
            (took.entries p.0 ∙ rw same.0 refl) f in
            let at : g ≡ p.1 = cc in
            inr (inl (same_pair (sym same.1) at))
        | inr other ↦ inl (let stays : entry_of new p.0 ≡ entry_of old p.0 = took.entries p.0
            ∙ rw other.0 refl in ap generation (sym stays) ∙ f)
      ];
      kept = λ stays p f. elim (eqb_tells p.0 i) [
        | inl same ↦ absurd (absent (subst (λ n. entry_of old n ≡ None) (sym same.1) took.vacant) f)
        | inr other ↦ let stays : entry_of new p.0 ≡ entry_of old p.0 = took.entries p.0
            ∙ rw other.0 refl in ap generation stays ∙ f
      ];
      finds = λ p one. by_pair p one;
      fresh = λ p one at f. elim one [
        | inl here ↦
            let none : entry_of old p.0 ≡ None =
            subst (λ (q : ℕ × ℕ). entry_of old q.0 ≡ None) here took.vacant in
            absent none f
        | inr none ↦ none
      ];
      once = (λ one. one, tt);
    };
  }
    where
      given_is : g ≡ c
      given_is = let at : Some g ≡ Some c = took.generation ∙ is in cc

      by_pair : (p : ℕ × ℕ) → IsOneOf ((i, g) ∷ []) p → Finds entry_of new p × (p.1 ≡ c)
      by_pair p (inr none) = absurd none
      by_pair p (inl here) =
          let stands : entry_of new i ≡ Some (g, t) = took.entries i ∙ rw (eq-eqb i i refl) refl in
          subst (λ (q : ℕ × ℕ). Finds entry_of new q × (q.1 ≡ c)) here
          (ap generation stands, given_is)

  -- an entry less
  removed_step : {c : ℕ} {old new : S} (i : ℕ) → counter_of old ≡ Some c
      → counter_wraps (Some greatest) (counter_of old) ≡ false
      → Takes entry_of live_of counter_of room_of listed (Some greatest) (remove i) old new
      → Stepped c [] old new
  removed_step {c} {old} {new} i is wraps took = record {
    c' = c + 1;
    is = stepped_to is wraps took.counter;
    effect = steps entry_of
        (λ p f. elim (eqb_tells p.0 i) [
          | inl same ↦ absurd (absent (took.entries p.0 ∙ rw same.0 refl) f)
          | inr other ↦ inl (let stays : entry_of new p.0 ≡ entry_of old p.0 = took.entries p.0
              ∙ rw other.0 refl in ap generation (sym stays) ∙ f)
        ])
        (λ p one. absurd one) tt;
  }

  -- no entry, and the counter stepped once
  emptied_step : {c : ℕ} {old new : S} → counter_of old ≡ Some c
      → counter_wraps (Some greatest) (counter_of old) ≡ false
      → ((j : ℕ) → entry_of new j ≡ None)
      → counter_of new ≡ option_map (next_generation (Some greatest)) (counter_of old)
      → Stepped c [] old new
  emptied_step {c} {old} {new} is wraps none after = record {
    c' = c + 1;
    is = stepped_to is wraps after;
    effect = steps entry_of (λ p f. absurd (absent (none p.0) f)) (λ p one. absurd one) tt;
  }

  -- the counter alone
  counted_step : {c : ℕ} {old new : S} → counter_of old ≡ Some c
      → counter_wraps (Some greatest) (counter_of old) ≡ false
      → Takes entry_of live_of counter_of room_of listed (Some greatest) inc_generation old new
      → Stepped c [] old new
  counted_step {c} {old} {new} is wraps took = record {
    c' = c + 1;
    is = stepped_to is wraps took.counter;
    effect = steps entry_of (λ p f. inl (sym (ap generation (took.entries p.0)) ∙ f))
        (λ p one. absurd one) tt;
  }

  -- so many steps of the counter, none of which wraps
  stepped_often : (n c : ℕ) → steps_wrap (Some greatest) n (Some c) ≡ replicate n false
      → iterate (next_generation (Some greatest)) n c ≡ c + n
  stepped_often zero c wraps = omega arith
  stepped_often (suc n) c wraps =
      let first : counter_wraps (Some greatest) (Some c) ≡ false = cc in
      let rest : steps_wrap (Some greatest) n (Some (next_generation (Some greatest) c))
      ≡ replicate n false = cc in
      let next = next_is refl first in
      let often = stepped_often n (next_generation (Some greatest) c) rest in
      omega (arith, often, next)

  nothing : {X : Type 0} (xs : List X) → length xs ≡ 0 → xs ≡ []
  nothing [] none = refl
  nothing (x ∷ xs) none = absurd (omega (arith, none))

  -- where nothing is live nothing is found
  none_live : (s : S) (p : ℕ × ℕ) → live_of s ≡ 0 → Finds entry_of s p → ⊥
  none_live s p none f =
      let empty = nothing (listed s) (listed_counted s ∙ none) in
      absent {s = s} {p = p} (entry_listed s p.0 ∙ ap (λ l. look_up l p.0) empty) f

  drained_step : {c : ℕ} {old new : S} → counter_of old ≡ Some c
      → steps_wrap (Some greatest) (live_of old) (counter_of old) ≡ replicate (live_of old) false
      → Takes entry_of live_of counter_of room_of listed (Some greatest) drain old new
      → Stepped c [] old new
  drained_step {c} {old} {new} is wraps took = record {
    c' = c + live_of old;
    is =
        took.counter
        ∙ ap (option_map (iterate (next_generation (Some greatest)) (live_of old))) is
        ∙ ap Some (stepped_often (live_of old) c
        (ap (steps_wrap (Some greatest) (live_of old)) (sym is) ∙ wraps));
    effect = record {
      rises = omega arith;
      found = λ p f. absurd (absent (took.entries p.0) f);
      kept = λ stays p f. absurd (none_live old p (omega (arith, stays)) f);
      finds = λ p one. absurd one;
      fresh = λ p one at f. one;
      once = tt;
    };
  }

  -- the only step of a counter
  one_step : (o : Option ℕ) → steps_wrap (Some greatest) 1 o ≡ replicate 1 false
      → counter_wraps (Some greatest) o ≡ false
  one_step o wraps = cc

  -- a pointer ends, and another one is given
  invalidated_step : {c : ℕ} {old new : S} (i g : ℕ) → counter_of old ≡ Some c
      → counter_wraps (Some greatest) (counter_of old) ≡ false
      → Takes entry_of live_of counter_of room_of listed (Some greatest) (invalidate i g) old new
      → Stepped c ((i, g) ∷ []) old new
  invalidated_step {c} {old} {new} i g is wraps took = by_entry (entry_of old i) refl took.0
    where
      given_is : g ≡ c + 1
      given_is =
          let at : Some g ≡ Some (c + 1) = sym took.1
          ∙ ap (option_map (next_generation (Some greatest))) is ∙ ap Some (next_is is wraps) in
          cc

      by_entry : (o : Option (ℕ × T)) → entry_of old i ≡ o → IsSome o
          → Stepped c ((i, g) ∷ []) old new
      by_entry None e some = absurd (true≢false (sym some))
      by_entry (Some x) e some = record {
        c' = c + 1;
        is = stepped_to is wraps took.2.counter;
        effect = steps entry_of
            (λ p f. elim (eqb_tells p.0 i) [
              | inl same ↦
                  let o : Some g ≡ Some p.1 =
                  finds_by entry_of {s = new} {p = p} (here p.0 same.0) f in
                  let at : g ≡ p.1 = cc in
                  inr (inl (same_pair (sym same.1) at))
              | inr other ↦ inl (let stays : entry_of new p.0 ≡ entry_of old p.0 =
                  took.2.entries p.0 ∙ rw other.0 refl in ap generation (sym stays) ∙ f)
            ])
            by_pair ((λ one. one), tt);
      }
        where
          here : (j : ℕ) → (j == i) ≡ true → entry_of new j ≡ Some (g, x.1)
          here j same = took.2.entries j ∙ rw (same, e) refl

          by_pair : (p : ℕ × ℕ) → IsOneOf ((i, g) ∷ []) p → Finds entry_of new p × (p.1 ≡ c + 1)
          by_pair p (inr none) = absurd none
          by_pair p (inl at) =
              subst (λ (q : ℕ × ℕ). Finds entry_of new q × (q.1 ≡ c + 1)) at
              (ap generation (here i (eq-eqb i i refl)), given_is)

  -- all entries move, and each gets a new pointer
  compressed_step : {c : ℕ} {old new : S} → counter_of old ≡ Some c
      → counter_wraps (Some greatest) (counter_of old) ≡ false
      → Takes entry_of live_of counter_of room_of listed (Some greatest) compress old new
      → Stepped c (map pointer_of (listed new)) old new
  compressed_step {c} {old} {new} is wraps took = record {
    c' = c + 1;
    is = stepped_to is wraps took.counter;
    effect = steps entry_of
        (λ p f. inr (subst (IsOneOf (map pointer_of (listed new))) (same_pair refl refl)
        (by_index p.0 p.1 f)))
        by_listed
        (listed_once 1 (listed new) (λ k e found. omega (arith, took.compact k e found)));
  }
    where
      renewed : map generation_of (listed new) ≡ map (λ _. c + 1) (listed old)
      renewed =
          took.generations ∙ ap
          (λ o. map (λ e. generation_given (Some greatest) false o (generation_of e))
          (listed old)) is
          ∙ ap (λ n. map (λ _. n) (listed old)) (next_is is wraps)

      by_index : (i g : ℕ) → Finds entry_of new (i, g)
          → IsOneOf (map pointer_of (listed new)) (i, g)
      by_index zero g f = absurd (absent {p = (0, g)} (none_at_zero new) f)
      by_index (suc k) g f = by_place (slice_get (listed new) k) refl
        where
          stands : entry_of new (suc k) ≡ option_map entry_of_listed (slice_get (listed new) k)
          stands = let next : k + 1 ≡ suc k = omega arith in ap (entry_of new) (sym next)
              ∙ took.entries k

          by_place : (o : Option (ℕ × (ℕ × T))) → slice_get (listed new) k ≡ o
              → IsOneOf (map pointer_of (listed new)) (suc k, g)
          by_place None e = absurd
              (absent {p = (suc k, g)} (stands ∙ ap (option_map entry_of_listed) e) f)
          by_place (Some x) e =
              let o : Some x.1.0 ≡ Some g =
              finds_by entry_of {s = new} {p = (suc k, g)}
              (stands ∙ ap (option_map entry_of_listed) e) f in
              let at : x.1.0 ≡ g = cc in
              let here : x.0 ≡ suc k = omega (arith, took.compact k x e) in
              subst (IsOneOf (map pointer_of (listed new))) (same_pair here at)
              (is_listed (listed new) k x e)

      by_listed : (p : ℕ × ℕ) → IsOneOf (map pointer_of (listed new)) p
          → Finds entry_of new p × (p.1 ≡ c + 1)
      by_listed p one =
          let l = listed_of (listed new) p one in
          let at = same_generation (c + 1) (listed new) (listed old) renewed l.place l.entry
          l.stands in
          let stands : entry_of new l.entry.0 ≡ Some l.entry.1 =
          ap (entry_of new) (took.compact l.place l.entry l.stands) ∙ took.entries l.place
          ∙ ap (option_map entry_of_listed) l.stands in
          subst (λ (q : ℕ × ℕ). Finds entry_of new q × (q.1 ≡ c + 1)) l.is
          (ap generation stands, at)

  revalue : (o : Option (ℕ × T)) (t : T)
      → generation (option_map (λ entry. (entry.0, t)) o) ≡ generation o
  revalue None t = refl
  revalue (Some x) t = refl

  revalued_keeps : (a b : Option (ℕ × T)) → IsSome b → generation (revalued a b) ≡ generation a
  revalued_keeps None b some = refl
  revalued_keeps (Some x) None some = absurd (true≢false (sym some))
  revalued_keeps (Some x) (Some y) some = refl

  written_step : {c : ℕ} {old new : S} (i : ℕ) (t : T) → counter_of old ≡ Some c
      → Takes entry_of live_of counter_of room_of listed (Some greatest) (write i t) old new
      → Stepped c [] old new
  written_step {old} {new} i t is took = same_counter is took.1 same
    where
      same : (j : ℕ) → generation_at (entry_of new) j ≡ generation_at (entry_of old) j
      same j = elim (eqb_tells j i) [
        | inl at ↦
            let here : entry_of new j ≡ option_map (λ entry. (entry.0, t)) (entry_of old i) =
            took.0 j ∙ rw at.0 refl in
            ap generation here ∙ revalue (entry_of old i) t
            ∙ ap (λ n. generation (entry_of old n)) (sym at.1)
        | inr other ↦ let here : entry_of new j ≡ entry_of old j = took.0 j
            ∙ rw other.0 refl in ap generation here
      ]

  exchanged_step : {c : ℕ} {old new : S} (i j : ℕ) → counter_of old ≡ Some c
      → Takes entry_of live_of counter_of room_of listed (Some greatest) (exchange i j) old new
      → Stepped c [] old new
  exchanged_step {old} {new} i j is took = same_counter is took.2.counter same
    where
      same : (k : ℕ) → generation_at (entry_of new) k ≡ generation_at (entry_of old) k
      same k = elim (eqb_tells k i) [
        | inl at ↦
            let here : entry_of new k ≡ revalued (entry_of old i) (entry_of old j) =
            took.2.entries k ∙ rw at.0 refl in
            ap generation here ∙ revalued_keeps (entry_of old i) (entry_of old j) took.1
            ∙ ap (λ n. generation (entry_of old n)) (sym at.1)
        | inr other ↦ elim (eqb_tells k j) [
          | inl at ↦
              let here : entry_of new k ≡ revalued (entry_of old j) (entry_of old i) =
              took.2.entries k ∙ rw (other.0, at.0) refl in
              ap generation here ∙ revalued_keeps (entry_of old j) (entry_of old i) took.0
              ∙ ap (λ n. generation (entry_of old n)) (sym at.1)
          | inr more ↦ let here : entry_of new k ≡ entry_of old k = took.2.entries k
              ∙ rw (other.0, more.0) refl in ap generation here
        ]
      ]

  step_of : {c : ℕ} (step : Step T) (old new : S) → counter_of old ≡ Some c
      → Takes entry_of live_of counter_of room_of listed (Some greatest) step old new
      → steps_wrap (Some greatest) (counts step (live_of old)) (counter_of old)
      ≡ replicate (counts step (live_of old)) false
      → Stepped c (given listed step new) old new
  step_of (insert i g t) old new is took wraps = inserted_step i g t is took
  step_of (remove i) old new is took wraps =
      removed_step i is (one_step (counter_of old) wraps) took
  step_of (invalidate i g) old new is took wraps =
      invalidated_step i g is (one_step (counter_of old) wraps) took
  step_of clear old new is took wraps =
      emptied_step is (one_step (counter_of old) wraps) took.entries took.counter
  step_of drain old new is took wraps = drained_step is wraps took
  step_of inc_generation old new is took wraps =
      counted_step is (one_step (counter_of old) wraps) took
  step_of compress old new is took wraps = compressed_step is (one_step (counter_of old) wraps) took
  step_of (exchange i j) old new is took wraps = exchanged_step i j is took
  step_of (write i t) old new is took wraps = written_step i t is took
  step_of (reallocate n) old new is took wraps =
      same_counter is took.counter (λ j. ap generation (took.entries j))
  step_of (give_up_copy n) old new is took wraps =
      emptied_step is (one_step (counter_of old) wraps) took.entries took.counter
  step_of keep old new is took wraps = same_counter is took.1 took.0

  -- the counter is past the first generation, and the generations of all entries lie between the
  -- two
  record Counted (c : ℕ) (s : S) : Type 0 where
    pub is : counter_of s ≡ Some c
    pub low : 1 < c
    pub bounds : (p : ℕ × ℕ) → Finds entry_of s p → (1 < p.1) × (p.1 ≤ c)

  -- a pointer that may have been given: no further than the counter, and where it has the counter's
  -- generation it finds an entry
  Past : ℕ → S → ℕ × ℕ → Type 0
  Past c s p = (p.1 ≤ c) × (p.1 ≡ c → Finds entry_of s p)

  counted_after : {c : ℕ} {l : List (ℕ × ℕ)} {old new : S} → Counted c old
      → (e : Stepped c l old new) → Counted e.c' new
  counted_after {c} {l} {old} {new} counted e = record {
    is = e.is;
    low = omega (arith, counted.low, e.effect.rises);
    bounds = λ p f. between p (e.effect.found p f);
  }
    where
      between : (p : ℕ × ℕ) → Finds entry_of old p ⊎ IsOneOf l p → (1 < p.1) × (p.1 ≤ e.c')
      between p (inl before) = let b = counted.bounds p before in
          (b.0, omega (arith, b.1, e.effect.rises))
      between p (inr one) =
          let at = (e.effect.finds p one).1 in
          (omega (arith, at, counted.low, e.effect.rises), omega (arith, at))

  past_after : {c : ℕ} {l : List (ℕ × ℕ)} {old new : S} (p : ℕ × ℕ) → Past c old p
      → (e : Stepped c l old new) → Past e.c' new p
  unfolding Past
  past_after {c} p past e =
      let rises = e.effect.rises in
      let within = past.0 in (
        omega arith,
        λ at. let stays : c ≡ e.c' = omega (arith, at) in
            e.effect.kept stays p (past.1 (omega (arith, at))),
      )

  past_given : {c : ℕ} {l : List (ℕ × ℕ)} {old new : S} (p : ℕ × ℕ) → IsOneOf l p
      → (e : Stepped c l old new) → Past e.c' new p
  unfolding Past
  past_given p one e = let f = e.effect.finds p one in (omega (arith, f.1), λ at. f.0)

  not_again : {c : ℕ} {l : List (ℕ × ℕ)} {old new : S} (p : ℕ × ℕ) → Past c old p
      → (e : Stepped c l old new) → IsOneOf l p → ⊥
  unfolding Past
  not_again {c} p past e one =
      let f = e.effect.finds p one in
      let at : p.1 ≡ c = omega (arith, f.1, past.0, e.effect.rises) in
      e.effect.fresh p one at (past.1 at)

  neither : {X Y : Type 0} → (X → ⊥) → (Y → ⊥) → X ⊎ Y → ⊥
  neither first second (inl x) = first x
  neither first second (inr y) = second y

  -- what is known at the end of a history of a pointer that may have been given before it
  record Carried (s : S) (h : History S T) (p : ℕ × ℕ) : Type 0 where
    pub c : ℕ
    pub counted : Counted c (reached s h)
    pub past : Past c (reached s h) p
    pub never : IsOneOf (all_given listed h) p → ⊥
    pub gone : (Finds entry_of s p → ⊥) → Finds entry_of (reached s h) p → ⊥

  carried : (h : History S T) {c : ℕ} (s : S) → Counted c s
      → Happens entry_of live_of counter_of room_of listed (Some greatest) s h
      → (p : ℕ × ℕ) → Past c s p → Carried s h p
  carried [] {c} s counted happens p past =
      record { c = c; counted = counted; past = past; never = λ one. one; gone = λ none. none }
  carried (moment ∷ h) {c} s counted happens p past =
      let e = step_of moment.0 s moment.1 counted.is happens.0 happens.1 in
      let l = given listed moment.0 moment.1 in
      let again = not_again p past e in
      let rest = carried h moment.1 (counted_after counted e) happens.2 p (past_after p past e) in
      record {
        c = rest.c;
        counted = rest.counted;
        past = rest.past;
        never = λ one. elim (either_of l (all_given listed h) p one) [
          | inl here ↦ again here
          | inr there ↦ rest.never there
        ];
        gone = λ none f. rest.gone (λ g. neither none again (e.effect.found p g)) f;
      }

  -- no pointer is given twice
  once_in : (h : History S T) {c : ℕ} (s : S) → Counted c s
      → Happens entry_of live_of counter_of room_of listed (Some greatest) s h
      → AreNew (all_given listed h)
  once_in [] s counted happens = tt
  once_in (moment ∷ h) s counted happens =
      let e = step_of moment.0 s moment.1 counted.is happens.0 happens.1 in
      let after = counted_after counted e in
      both_new (given listed moment.0 moment.1) (all_given listed h) e.effect.once
      (once_in h moment.1 after happens.2)
      (λ p one. (carried h moment.1 after happens.2 p (past_given p one e)).never)

  -- what was given in a history is known at its end
  record Kept (s : S) (p : ℕ × ℕ) : Type 0 where
    pub c : ℕ
    pub counted : Counted c s
    pub past : Past c s p

  kept_in : (h : History S T) {c : ℕ} (s : S) → Counted c s
      → Happens entry_of live_of counter_of room_of listed (Some greatest) s h
      → (p : ℕ × ℕ) → IsOneOf (all_given listed h) p → Kept (reached s h) p
  kept_in [] s counted happens p one = absurd one
  kept_in (moment ∷ h) s counted happens p one =
      let e = step_of moment.0 s moment.1 counted.is happens.0 happens.1 in
      let after = counted_after counted e in
      elim (either_of (given listed moment.0 moment.1) (all_given listed h) p one) [
        | inl here ↦ let k = carried h moment.1 after happens.2 p (past_given p here e) in
            record { c = k.c; counted = k.counted; past = k.past }
        | inr there ↦ kept_in h moment.1 after happens.2 p there
      ]

  counted_in : (h : History S T) {c : ℕ} (s : S) → Counted c s
      → Happens entry_of live_of counter_of room_of listed (Some greatest) s h
      → (c' : ℕ) × Counted c' (reached s h)
  counted_in [] {c} s counted happens = (c, counted)
  counted_in (moment ∷ h) s counted happens =
      let e = step_of moment.0 s moment.1 counted.is happens.0 happens.1 in
      counted_in h moment.1 (counted_after counted e) happens.2

  -- a new arena
  begun : {s : S} {room : Room} → IsNew entry_of live_of counter_of room_of (Some 2) room s
      → Counted 2 s
  begun new = record {
    is = new.counter;
    low = omega arith;
    bounds = λ p f. absurd (absent (new.entries p.0) f);
  }

  pub given_once : {s : S} {room : Room} → IsNew entry_of live_of counter_of room_of (Some 2) room s
      → (h : History S T)
      → Happens entry_of live_of counter_of room_of listed (Some greatest) s h
      → AreNew (all_given listed h)
  given_once {s} new h happens = once_in h s (begun new) happens

  pub ended_stays : {s : S} {room : Room}
      → IsNew entry_of live_of counter_of room_of (Some 2) room s → (h k : History S T)
      → Happens entry_of live_of counter_of room_of listed (Some greatest) s h
      → Happens entry_of live_of counter_of room_of listed (Some greatest) (reached s h) k
      → (p : ℕ × ℕ) → IsOneOf (all_given listed h) p
      → (Finds entry_of (reached s h) p → ⊥) → Finds entry_of (reached (reached s h) k) p → ⊥
  ended_stays {s} new h k happens more p one none =
      let known = kept_in h s (begun new) happens p one in
      (carried k (reached s h) known.counted more p known.past).gone none

  pub first_finds_none : {s : S} {room : Room}
      → IsNew entry_of live_of counter_of room_of (Some 2) room s → (h : History S T)
      → Happens entry_of live_of counter_of room_of listed (Some greatest) s h → (i : ℕ)
      → Finds entry_of (reached s h) (i, 1) → ⊥
  first_finds_none {s} new h happens i f =
      let b = ((counted_in h s (begun new) happens).1).bounds (i, 1) f in
      omega (arith, b.0)
