-- An entry that is got, or put in.
use Rattle.std.proofs.Common.{◌≡◌, ◌≢◌, ◌∙◌, sym, ap, subst, refl, ℕ, Option, Some, None}
use Rattle.std.proofs.Common.{Result, Ok, Err, option_map, inl, inr, true}
use Rattle.std.specs.Cmp.{ranked}
use Rattle.std.specs.Ordering.{nat_cmp}
use Rattle.std.specs.declared.cmp.Ordering.TheVariants.{Equal}
use Rattle.std.proofs.lemmas.Bool.{eq-eqb}
use Rattle.std.proofs.lemmas.Bool.Decides.{eqb_tells}
use Rattle.triple_arena.specs.Entries.{value_if, with_entry}
use Rattle.triple_arena_ptr.specs.declared.errors.OrdInsertionError.{OrdInsertionError}
use Rattle.triple_arena_ord.specs.Found.{Answers}
use Rattle.triple_arena_ord.specs.Inserted.{GetsOrInserts, IsReplaced}
use Rattle.triple_arena_ord.specs.Ordered.{asked_at, entry_in}
use Rattle.ord_map_c.specs.Changes.{IsPut, as_put, refusal_of}
use Rattle.ord_map_c.specs.Entries.{Pair, pair, pointer_of, value_of}
use Rattle.ord_map_c.specs.State.{Arena, IsMap}
use Rattle.ord_map_c.specs.declared.handle.Handle.{Handle}
use Rattle.ord_map_c.specs.declared.refusal.Refusal.{Refusal}
use Rattle.ord_map_c.proofs.AlongLemmas.{AllStand, key_in, pair_is}
use Rattle.ord_map_c.proofs.ChangeLemmas.{found_there, put_is, rewritten}
use Rattle.ord_map_c.proofs.SearchLemmas.{asked_is, live_at}

-- what is written again where it stands
written_again : (at : ℕ → Option (ℕ × Pair)) (i : ℕ) (e : ℕ × Pair) → at i ≡ Some e
    → (k : ℕ) → at k ≡ with_entry at i e k
written_again at i e is k = elim (eqb_tells k i) [
  | inr differs ↦ rw differs.0 refl
  | inl same ↦ rw same.0 (ap at same.1 ∙ is)
]

-- an entry stays: it is as if its value gave way to itself
stays : (o : Arena) → IsMap o → AllStand → (h : Handle) (key value : ℕ)
    → entry_in o h.index ≡ Some (h.generation, pair key value)
    → IsPut key value (Ok (h, Some value)) o o
stays o map law h key value is =
    let i = h.index in
    let g = h.generation in
    let own = pair key value in
    let again : IsReplaced i g own own o o = record {
      was = is;
      order = refl;
      entries = written_again (entry_in o) i (g, own) is;
      root = refl;
      nodes = λ k. refl;
      kept = record { live = refl; slots = refl; free = refl; counter = refl; room = refl };
    } in
    let now = rewritten o o map law i g own own refl again in
    record {
      entries = now.entries;
      was = sym (ap (option_map value_of) now.was);
      pairs = again.entries;
      added = λ never. absurd (let no : Some value ≡ None = never in cc);
      replaced = λ was equal. (let value_is : value ≡ was = cc in
          subst (λ n. IsReplaced i g own (pair key n) o o) value_is again);
      same = λ _. ap (option_map pointer_of) now.was;
      found = found_there (entry_in o) (entry_in o) i g own again.entries;
      others = λ j h other. refl;
      counter = refl;
      room = refl;
      limited = λ never. absurd (let no : Some value ≡ None = never in cc);
      absent = tt;
      full = tt;
      limit = λ never. absurd (cc);
      memory = λ never. absurd (cc);
      refusals = tt;
      refused = tt;
      map = map;
    }

-- a pair that stands under this generation is found by it
stands_there : (at : Option (ℕ × Pair)) (g : ℕ) (t u : Pair) → at ≡ Some (g, t)
    → value_if g at ≡ Some u → u ≡ t
stands_there at g t u is found =
    let there : value_if g at ≡ Some t = rw (is, eq-eqb g g refl) refl in
    let same : Some u ≡ Some t = sym found ∙ there in
    cc

-- the pair that comes back where an entry was got
abbrev came_back : {P : Type 0} → Result (P × Option Pair) OrdInsertionError → Option Pair
came_back (Ok r) = r.1
came_back (Err e) = None

module _ {P : Type 0} (index generation : P → ℕ) (old new : Arena) (map : IsMap old)
    (law : AllStand) (key value : ℕ) (made : Result (P × Option Pair) OrdInsertionError)
    (given : Pair) (is_key : given.k ≡ key) (is_value : given.v ≡ value)
    (by_given : GetsOrInserts nat_cmp key_in index generation (Some true) given
    made old new) where
  gets : GetsOrInserts nat_cmp key_in index generation (Some true)
      (pair key value) made old new
  gets = subst (λ (t : Pair). GetsOrInserts nat_cmp key_in index generation
      (Some true) t made old new) (pair_is given key value is_key is_value) by_given

  pub kept : (p : P) (f : Option Pair) (u : Pair) → made ≡ Ok (p, f) → f ≡ Some u → new ≡ old
  kept p f u is some = (gets.found p u (is ∙ ap (λ f. Ok (p, f)) some)).1

  -- the pointer that was got finds an entry
  pub never_gone : (p : P) (f : Option Pair) (u : Pair) → made ≡ Ok (p, f) → f ≡ Some u
      → value_if (generation p) (entry_in new (index p)) ≡ None → ⊥
  never_gone p f u is some gone =
      let whole = gets.found p u (is ∙ ap (λ f. Ok (p, f)) some) in
      let at = live_at old (index p) (generation p) whole.2.live in
      let there : value_if (generation p) (entry_in old (index p)) ≡ Some at.pair =
      rw (at.is, eq-eqb (generation p) (generation p) refl) refl in
      let no : Some at.pair ≡ None = sym there
      ∙ ap (λ (o : Arena). value_if (generation p) (entry_in o (index p))) (sym whole.1)
      ∙ gone in
      cc

  -- what stands where an entry was got
  pub got_at : (p : P) (f : Option Pair) (u : Pair) → made ≡ Ok (p, f) → f ≡ Some u
      → (x : Pair) → value_if (generation p) (entry_in new (index p)) ≡ Some x
      → entry_in old (index p) ≡ Some (generation p, pair key x.v)
  got_at p f u is some x found =
      let whole = gets.found p u (is ∙ ap (λ f. Ok (p, f)) some) in
      let at = live_at old (index p) (generation p) whole.2.live in
      let same : key ≡ at.pair.k = ranked key at.pair.k Equal
      (sym (asked_is old key (index p) (generation p) at.pair at.is Equal whole.2.way)) in
      let own : x ≡ at.pair = stands_there (entry_in old (index p)) (generation p) at.pair x at.is
      (ap (λ (o : Arena). value_if (generation p) (entry_in o (index p))) (sym whole.1)
      ∙ found) in
      at.is ∙ ap (λ (t : Pair). (let e : Option (ℕ × Pair) = Some (generation p, t) in e))
      (pair_is at.pair key x.v (sym same) (ap (λ (t : Pair). t.v) (sym own)))

  -- an entry that was got
  pub got_is : (h : Handle) (p : P) (f : Option Pair) (u : Pair) → made ≡ Ok (p, f) → f ≡ Some u
      → h ≡ record { index = index p; generation = generation p } → (x : Pair)
      → value_if (generation p) (entry_in new (index p)) ≡ Some x → (v : ℕ) → v ≡ x.v
      → IsPut key v (Ok (h, Some v)) old new
  got_is h p f u is some handle x found v value_is =
      let own : Handle = record { index = index p; generation = generation p } in
      let stood = stays old map law own key x.v (got_at p f u is some x found) in
      subst (λ n. IsPut key v (Ok (h, Some v)) old n) (sym (kept p f u is some))
      (subst (λ n. IsPut key n (Ok (h, Some n)) old old) (sym value_is)
      (subst (λ (k : Handle). IsPut key x.v (Ok (k, Some x.v)) old old) (sym handle) stood))

  -- one that was put in
  pub added_is : (h : Handle) (p : P) (f : Option Pair) → made ≡ Ok (p, f) → f ≡ None
      → h ≡ record { index = index p; generation = generation p }
      → IsPut key value (Ok (h, None)) old new
  added_is h p f is none handle =
      let whole : made ≡ Ok (p, None) = is ∙ ap (λ f. Ok (p, f)) none in
      let never : (q : P) (u : Pair) → made ≢ Ok (q, Some u) = λ q u other. absurd
      (let no : None ≡ Some u = ap came_back (sym whole ∙ other) in cc) in
      let own : Handle = record { index = index p; generation = generation p } in
      subst (λ (k : Handle). IsPut key value (Ok (k, None)) old new) (sym handle)
      (subst (λ r. IsPut key value (as_put r index generation) old new) whole
      (put_is old new map law index generation key value made (gets.inserted never)))

  -- one that was refused
  pub refused_is : (e : OrdInsertionError) (r : Refusal) → made ≡ Err e → r ≡ refusal_of e
      → IsPut key value (Err r) old new
  refused_is e r is refusal =
      let never : (q : P) (u : Pair) → made ≢ Ok (q, Some u) = λ q u other. absurd
      (let no : ◌≡◌ {A = Result (P × Option Pair) OrdInsertionError} (Err e)
      (Ok (q, Some u)) = sym is ∙ other in cc) in
      subst (λ (r : Refusal). IsPut key value (Err r) old new) (sym refusal)
      (subst (λ r. IsPut key value (as_put r index generation) old new) is
      (put_is old new map law index generation key value made (gets.inserted never)))
