-- What insertions, removals and writes of an arena make of its list.
use Rattle.std.proofs.Common.{◌≡◌, ◌≢◌, ◌∙◌, sym, ap, subst, refl, ℕ, zero, suc, ◌+◌, ◌≤◌, List, []}
use Rattle.std.proofs.Common.{◌∷◌, ◌++◌, true, Option, Some, None, Result, Ok, Err, option_map, inl}
use Rattle.std.proofs.Common.{inr, ◌⊎◌}
use Rattle.std.specs.Cmp.{ranked, nat_cmp_is}
use Rattle.std.specs.Result.{IsErrOf}
use Rattle.std.specs.Ordering.{nat_cmp}
use Rattle.std.specs.declared.cmp.Ordering.TheVariants.{Equal}
use Rattle.std.proofs.lemmas.Bool.{eq-eqb, ne_eqb}
use Rattle.std.proofs.lemmas.Bool.Decides.{eqb_tells}
use Rattle.rank_tree.specs.Tree.{walk}
use Rattle.rank_tree.specs.Whole.{tree_of}
use Rattle.triple_arena.specs.Content.{arena_capacity, entry_at}
use Rattle.triple_arena.specs.Entries.{value_if, with_entry}
use Rattle.triple_arena_ptr.specs.declared.errors.OrdInsertionError.{OrdInsertionError}
use Rattle.triple_arena_ptr.specs.declared.errors.OrdInsertionError.TheVariants.{BeyondMaxCapacity}
use Rattle.triple_arena_ptr.specs.declared.errors.OrdInsertionError.TheVariants.{FailedOrdRequirement}
use Rattle.triple_arena_ptr.specs.declared.errors.OrdInsertionError.TheVariants.{NotWithinCapacity}
use Rattle.triple_arena_ptr.specs.declared.errors.OrdInsertionError.TheVariants.{AllocError}
use Rattle.triple_arena_chain.specs.Links.{valued}
use Rattle.triple_arena_chain.specs.LinkShape.{IndexLink}
use Rattle.triple_arena_ord.specs.Ascending.{entries_along}
use Rattle.triple_arena_ord.specs.Node.{itemed, view_of}
use Rattle.triple_arena_ord.specs.NodeShape.{IndexNode}
use Rattle.triple_arena_ord.specs.States.{reallocated_in}
use Rattle.triple_arena_ord.specs.Inserted.{InsertsByKey, IsAdded, IsReplaced, IsPlacedByKey}
use Rattle.triple_arena_ord.specs.Inserted.{growing_room}
use Rattle.triple_arena_ord.specs.Ordered.{IsOrdered, entry_in, order_in, size_in}
use Rattle.triple_arena_ord.specs.Removal.{IsEntryRemoved}
use Rattle.ord_map_c.specs.Changes.{IsPut, as_put}
use Rattle.ord_map_c.specs.Entries.{Pair, KeysRise, value_of, pair, with_key, pointer_of, put_in}
use Rattle.ord_map_c.specs.Entries.{without_key}
use Rattle.ord_map_c.specs.State.{Arena, IsMap, listed}
use Rattle.ord_map_c.specs.declared.handle.Handle.{Handle}
use Rattle.ord_map_c.specs.declared.refusal.Refusal.{Refusal}
use Rattle.ord_map_c.specs.declared.refusal.Refusal.TheVariants.{NoMemory, Full}
use Rattle.ord_map_c.proofs.AlongLemmas.{AllStand, apart_of, along, along_split, along_same}
use Rattle.ord_map_c.proofs.AlongLemmas.{along-append, above_along, below_along, ascends, key_in}
use Rattle.ord_map_c.proofs.AlongLemmas.{pair_is, some_same}
use Rattle.ord_map_c.proofs.ListLemmas.{put_at, rise_at, with_at, without_at, rise_out, put_gap}
use Rattle.ord_map_c.proofs.ListLemmas.{rise_put, none_with}

missed : (h g : ℕ) (t : Pair) → h ≢ g → value_if h (Some (g, t)) ≡ None
missed h g t differs = rw (ne_eqb g h (λ e. differs (sym e))) refl

-- what is written at one index leaves what other handles find
pub others_stay : (old new : ℕ → Option (ℕ × Pair)) (i g : ℕ) (t : Pair)
    → ((k : ℕ) → new k ≡ with_entry old i (g, t) k)
    → (old i ≡ None) ⊎ ((u : Pair) × (old i ≡ Some (g, u))) → (j h : ℕ) → (j ≢ i) ⊎ (h ≢ g)
    → value_if h (new j) ≡ value_if h (old j)
others_stay old new i g t entries stood j h other = elim (eqb_tells j i) [
  | inr differs ↦
      let same : new j ≡ old j = entries j ∙ rw differs.0 refl in
      ap (value_if h) same
  | inl same ↦ elim other [
    | inl differs ↦ absurd (differs same.1)
    | inr differs ↦
        let now : new j ≡ Some (g, t) = entries j ∙ rw same.0 refl in
        let before : value_if h (old j) ≡ None = elim stood [
          | inl vacant ↦ ap (value_if h) (ap old same.1 ∙ vacant)
          | inr held ↦ ap (value_if h) (ap old same.1 ∙ held.1) ∙ missed h g held.0 differs
        ] in
        ap (value_if h) now ∙ missed h g t differs ∙ sym before
  ]
]

-- and is found there
pub found_there : (old new : ℕ → Option (ℕ × Pair)) (i g : ℕ) (t : Pair)
    → ((k : ℕ) → new k ≡ with_entry old i (g, t) k) → value_if g (new i) ≡ Some t
found_there old new i g t entries =
    let here : new i ≡ Some (g, t) = entries i ∙ rw (eq-eqb i i refl) refl in
    let found : value_if g (Some (g, t)) ≡ Some t = rw (eq-eqb g g refl) refl in
    ap (value_if g) here ∙ found

module _ (old new : Arena) (map : IsMap old) (law : AllStand) where
  -- another value in an entry
  pub record Rewritten (i g : ℕ) (t u : Pair) : Type 0 where
    pub entries : listed new ≡ put_in (listed old) (i, (g, t))
    pub was : with_key (listed old) t.k ≡ Some (i, (g, u))
    pub rise : KeysRise (listed new)

  pub rewritten : (i g : ℕ) (t u : Pair) → t.k ≡ u.k → IsReplaced i g t u old new
      → Rewritten i g t u
  rewritten i g t u same replaced =
      let on = law old i map.ordered (rw replaced.was refl) in
      let apart = apart_of old map.ordered on.front on.back i on.is in
      let other : (k : ℕ) → k ≢ i → entry_in new k ≡ entry_in old k =
      λ k differs. replaced.entries k ∙ rw (ne_eqb k i differs) refl in
      let here : entry_in new i ≡ Some (g, t) = replaced.entries i ∙ rw (eq-eqb i i refl) refl in
      let low = along (entry_in old) on.front in
      let high = along (entry_in old) on.back in
      let before : listed old ≡ low ++ (i, (g, u)) ∷ high =
      ap (along (entry_in old)) on.is
      ∙ along_split (entry_in old) on.front on.back i (g, u) replaced.was in
      let after : listed new ≡ low ++ (i, (g, t)) ∷ high =
      ap (along (entry_in new)) (replaced.order ∙ on.is)
      ∙ along_split (entry_in new) on.front on.back i (g, t) here
      ∙ ap (λ l. l ++ (i, (g, t)) ∷ along (entry_in new) on.back)
      (along_same (entry_in old) (entry_in new) i other on.front apart.0)
      ∙ ap (λ l. low ++ (i, (g, t)) ∷ l)
      (along_same (entry_in old) (entry_in new) i other on.back apart.1) in
      let up = subst KeysRise before map.rise in
      record {
        entries = after ∙ sym (ap (λ l. put_in l (i, (g, t))) before
            ∙ put_at low high (i, (g, u)) up (i, (g, t)) same);
        was = ap (with_key (listed old)) same ∙ ap (λ l. with_key l u.k) before
            ∙ with_at low high (i, (g, u)) up;
        rise = subst KeysRise (sym after) (rise_at low high (i, (g, u)) up (i, (g, t)) same);
      }

  -- one entry more
  pub record Entered (i g : ℕ) (t : Pair) : Type 0 where
    pub entries : listed new ≡ put_in (listed old) (i, (g, t))
    pub absent : with_key (listed old) t.k ≡ None
    pub rise : KeysRise (listed new)

  pub entered : (i g : ℕ) (t : Pair) → IsOrdered new
      → IsPlacedByKey nat_cmp key_in t.k i old new
      → IsAdded i g t old new → Entered i g t
  entered i g t ordered placed added =
      let apart = apart_of new ordered placed.before placed.after i placed.is in
      let other : (k : ℕ) → k ≢ i → entry_in new k ≡ entry_in old k =
      λ k differs. added.entries k ∙ rw (ne_eqb k i differs) refl in
      let here : entry_in new i ≡ Some (g, t) = added.entries i ∙ rw (eq-eqb i i refl) refl in
      let low = along (entry_in old) placed.before in
      let high = along (entry_in old) placed.after in
      let before : listed old ≡ low ++ high =
      ap (along (entry_in old)) placed.was
      ∙ along-append (entry_in old) placed.before placed.after in
      let after : listed new ≡ low ++ (i, (g, t)) ∷ high =
      ap (along (entry_in new)) placed.is
      ∙ along_split (entry_in new) placed.before placed.after i (g, t) here
      ∙ ap (λ l. l ++ (i, (g, t)) ∷ along (entry_in new) placed.after)
      (along_same (entry_in old) (entry_in new) i other placed.before apart.0)
      ∙ ap (λ l. low ++ (i, (g, t)) ∷ l)
      (along_same (entry_in old) (entry_in new) i other placed.after apart.1) in
      let up = ascends old map.rise in
      let below = below_along (entry_in old) t.k placed.before (placed.greater up) in
      let above = above_along (entry_in old) t.k placed.after (placed.less up) in
      record {
        entries = after ∙ sym (ap (λ l. put_in l (i, (g, t))) before
            ∙ put_gap low high t.k below above (i, (g, t)) refl);
        absent = ap (λ l. with_key l t.k) before ∙ none_with low high t.k below above;
        rise = subst KeysRise (sym after)
            (rise_put low high t.k below above (i, (g, t)) refl
            (subst KeysRise before map.rise));
      }

  -- one entry less
  pub record TakenOut (t : Pair) : Type 0 where
    pub entries : listed new ≡ without_key (listed old) t.k
    pub rise : KeysRise (listed new)

  pub taken_out : (last : Option ℕ) (i g : ℕ) (t : Pair)
      → IsEntryRemoved last i old new
      → entry_in old i ≡ Some (g, t) → TakenOut t
  taken_out last i g t removed is =
      let loses = removed.order in
      let apart = apart_of old map.ordered loses.before loses.after i loses.was in
      let other : (k : ℕ) → k ≢ i → entry_in new k ≡ entry_in old k =
      λ k differs. removed.entries k ∙ rw (ne_eqb k i differs) refl in
      let low = along (entry_in old) loses.before in
      let high = along (entry_in old) loses.after in
      let before : listed old ≡ low ++ (i, (g, t)) ∷ high =
      ap (along (entry_in old)) loses.was
      ∙ along_split (entry_in old) loses.before loses.after i (g, t) is in
      let after : listed new ≡ low ++ high =
      ap (along (entry_in new)) loses.is
      ∙ along-append (entry_in new) loses.before loses.after
      ∙ ap (λ l. l ++ along (entry_in new) loses.after)
      (along_same (entry_in old) (entry_in new) i other loses.before apart.0)
      ∙ ap (λ l. low ++ l)
      (along_same (entry_in old) (entry_in new) i other loses.after apart.1) in
      let up = subst KeysRise before map.rise in
      record {
        entries = after ∙ sym (ap (λ l. without_key l t.k) before
            ∙ without_at low high (i, (g, t)) up);
        rise = subst KeysRise (sym after) (rise_out low high (i, (g, t)) up);
      }

  -- ---- an insertion

  module _ {P : Type 0} (index generation : P → ℕ) (key value : ℕ)
      (made : Result (P × Option Pair) OrdInsertionError) where
    abbrev own : Pair
    own = pair key value

    -- no entry compares as equal, so none has the key
    none_equal : (w : List ℕ)
        → ((i : ℕ) → option_map (λ e. nat_cmp key (key_in e.1)) (entry_in old i) ≢ Some Equal)
        → with_key (along (entry_in old) w) key ≡ None
    none_equal [] never = refl
    none_equal (i ∷ w) never = by (entry_in old i) refl (never i) (none_equal w never)
      where
        by : (o : Option (ℕ × Pair)) → entry_in old i ≡ o
            → option_map (λ e. nat_cmp key (key_in e.1)) (entry_in old i) ≢ Some Equal
            → with_key (along (entry_in old) w) key ≡ None
            → with_key (along (entry_in old) (i ∷ w)) key ≡ None
        by None is differs rest = rw is rest
        by (Some e) is differs rest =
            let apart : e.1.k ≢ key = λ same. differs
            (ap (option_map (λ e. nat_cmp key (key_in e.1))) is
            ∙ ap Some (sym (nat_cmp_is key e.1.k Equal (sym same)))) in
            rw (is, ne_eqb e.1.k key apart) rest

    pub put_is : InsertsByKey nat_cmp key_in index generation (Some true) own made
        old new
        → IsPut key value (as_put made index generation) old new
    put_is inserts = by made refl
      where
        by : (r : Result (P × Option Pair) OrdInsertionError) → made ≡ r
            → IsPut key value (as_put made index generation) old new
        by (Ok (p, None)) is =
            let both = inserts.inserted.added p is in
            let now = entered (index p) (generation p) own inserts.ordered both.0 both.1 in
            let free = inserts.inserted.fits p is in
            rw is (record {
              entries = now.entries;
              was = sym (ap (option_map value_of) now.absent);
              pairs = both.1.entries;
              added = λ _. both.1;
              replaced = λ was never. absurd (let no : None ≡ Some was = never in cc);
              same = λ never. absurd (cc);
              found = found_there (entry_in old) (entry_in new) (index p) (generation p) own
                  both.1.entries;
              others = others_stay (entry_in old) (entry_in new) (index p) (generation p) own
                  both.1.entries (inl both.1.vacant);
              counter = inserts.counter;
              room = inserts.room ∙ rw is refl;
              limited = λ _. free;
              absent = tt;
              full = tt;
              limit = λ never. absurd (cc);
              memory = λ never. absurd (cc);
              refusals = tt;
              refused = tt;
              map = record { ordered = inserts.ordered; rise = now.rise };
            })
        by (Ok (p, Some u)) is =
            let both = inserts.inserted.replaced p u is in
            let same : key ≡ u.k = ranked key u.k Equal (sym both.0) in
            let now = rewritten (index p) (generation p) own u same both.1 in
            rw is (record {
              entries = now.entries;
              was = sym (ap (option_map value_of) now.was);
              pairs = both.1.entries;
              added = λ never. absurd (let no : Some u.v ≡ None = never in cc);
              replaced = λ was equal.
                  (let value_is : u.v ≡ was = cc in
                  subst (λ (x : Pair). IsReplaced (index p) (generation p) own x
                  old new)
                  (ap (λ n. pair n u.v) (sym same) ∙ ap (pair key) value_is) both.1);
              same = λ _. ap (option_map pointer_of) now.was;
              found = found_there (entry_in old) (entry_in new) (index p) (generation p) own
                  both.1.entries;
              others = others_stay (entry_in old) (entry_in new) (index p) (generation p) own
                  both.1.entries (inr (u, both.1.was));
              counter = inserts.counter;
              room = inserts.room ∙ rw is refl;
              limited = λ never. absurd (let no : Some u.v ≡ None = never in cc);
              absent = tt;
              full = tt;
              limit = λ never. absurd (cc);
              memory = λ never. absurd (cc);
              refusals = tt;
              refused = tt;
              map = record { ordered = inserts.ordered; rise = now.rise };
            })
        by (Err e) is =
            let why = inserts.inserted.refused e is in
            let same = inserts.inserted.same e is in
            let absent = none_equal (order_in old)
            (inserts.inserted.absent e is (ascends old map.rise)) in
            refusal e is why same absent
          where
            Is : Refusal → Refusal → Type 0
            Is x y = IsErrOf {T = Handle × Option ℕ} (Err x) y

            stays : (x : Refusal) → arena_capacity old.chains ≤ size_in old
                → (Is x Full → old.chains.room.limit ≡ Some (size_in old))
                → (Is x NoMemory → old.chains.room.limit ≢ Some (size_in old))
                → Is x NoMemory ⊎ Is x Full → new ≡ old → with_key (listed old) key ≡ None
                → IsPut key value (Err x) old new
            stays x full limit memory refusals same absent = record {
              entries = tt;
              was = tt;
              pairs = tt;
              added = tt;
              replaced = tt;
              same = tt;
              found = tt;
              others = tt;
              counter = inserts.counter;
              room = tt;
              limited = tt;
              absent = absent;
              full = full;
              limit = limit;
              memory = memory;
              refusals = refusals;
              refused = same;
              map = subst IsMap (sym same) map;
            }

            refusal : (e : OrdInsertionError) → made ≡ Err e
                → growing_room true (size_in old) old.chains.room (Some e)
                → new ≡ old → with_key (listed old) key ≡ None
                → IsPut key value (as_put made index generation) old new
            refusal FailedOrdRequirement is why same absent = absurd why.1
            refusal NotWithinCapacity is why same absent = absurd why.1
            refusal BeyondMaxCapacity is why same absent =
                rw is (stays Full why.0 (λ _. why.1) (λ never. absurd (cc)) (inr refl) same absent)
            refusal AllocError is why same absent =
                rw is (stays NoMemory why.0 (λ never. absurd (cc)) (λ _. why.1.1) (inl refl) same
                absent)

-- ---- facts of the answers

-- what stood where a removal found an entry
pub taken_stood : {A G : Type 0} (generation : G → ℕ) (value : A → G × Pair) (answer : Option A)
    (taken : G × Pair) (stood : Option (ℕ × Pair)) → option_map value answer ≡ Some taken
    → option_map {U = ℕ × Pair} (λ a. (generation (value a).0, (value a).1)) answer ≡ stood
    → stood ≡ Some (generation taken.0, taken.1)
taken_stood {A} {G} generation value None taken stood is found =
    absurd (let no : ◌≡◌ {A = Option (G × Pair)} None (Some taken) = is in cc)
taken_stood generation value (Some a) taken stood is found =
    sym found ∙ ap (option_map {U = ℕ × Pair} (λ x. (generation x.0, x.1))) is

-- what holds where there is an answer
pub where_some : {A B Q : Type 0} (f : A → B) (o : Option A) (b : B) → option_map f o ≡ Some b
    → Rattle.std.specs.Prelude.OnSome o Q → Q
where_some f None b is holds = absurd (cc)
where_some f (Some a) b is holds = holds

-- an entry with this key
pub record Keyed (o : Arena) (i key : ℕ) : Type 0 where
  pub generation : ℕ
  pub value : ℕ
  pub is : entry_in o i ≡ Some (generation, pair key value)

pub keyed : (o : Arena) (i key : ℕ) → option_map (λ e. e.1.k) (entry_in o i) ≡ Some key
    → Keyed o i key
keyed o i key = by (entry_in o i) refl
  where
    by : (e : Option (ℕ × Pair)) → entry_in o i ≡ e
        → option_map (λ (x : ℕ × Pair). x.1.k) e ≡ Some key → Keyed o i key
    by None is never = absurd (cc)
    by (Some x) is same = record {
      generation = x.0;
      value = x.1.v;
      is = (let own : x.1.k ≡ key = cc in
          is ∙ ap (λ (t : Pair). (let z : Option (ℕ × Pair) = Some (x.0, t) in z))
          (pair_is x.1 key x.1.v own refl));
    }

-- an entry with this generation and this key
pub record Paired (o : Arena) (i generation key : ℕ) : Type 0 where
  pub value : ℕ
  pub is : entry_in o i ≡ Some (generation, pair key value)

pub paired : (o : Arena) (i generation key : ℕ)
    → option_map {U = ℕ × ℕ} (λ e. (e.0, e.1.k)) (entry_in o i) ≡ Some (generation, key)
    → Paired o i generation key
paired o i generation key = by (entry_in o i) refl
  where
    by : (e : Option (ℕ × Pair)) → entry_in o i ≡ e
        → option_map {U = ℕ × ℕ} (λ x. (x.0, x.1.k)) e ≡ Some (generation, key)
        → Paired o i generation key
    by None is never = absurd (cc)
    by (Some x) is same = record {
      value = x.1.v;
      is = (let both = some_same (x.0, x.1.k) (generation, key) same in
          let first : x.0 ≡ generation = ap (λ (p : ℕ × ℕ). p.0) both in
          let second : x.1.k ≡ key = ap (λ (p : ℕ × ℕ). p.1) both in
          is ∙ ap (λ (n : ℕ). (let z : Option (ℕ × Pair) = Some (n, x.1) in z)) first
          ∙ ap (λ (t : Pair). (let z : Option (ℕ × Pair) = Some (generation, t) in z))
          (pair_is x.1 key x.1.v second refl));
    }

-- ---- more room

-- the list is as it was
pub listed-reallocated : (o : Arena) (n : ℕ) → listed (reallocated_in o n) ≡ listed o
listed-reallocated o n =
    ap (λ (e : ℕ → Option (ℕ × IndexLink (IndexNode Pair))). entries_along
    (λ i. option_map itemed (option_map valued (e i)))
    (walk (tree_of (λ i. option_map
    (λ (x : ℕ × IndexNode Pair). view_of x.1)
    (option_map valued (e i))) o.root)))
    (λ j k. same k j)
  where
    same : (k : ℕ) → entry_at (reallocated_in o n).chains k ≡ entry_at o.chains k
    same zero = refl
    same (suc k) = refl
