-- One pointer more in a mirror, and what its entries are as numbers.
use Rattle.std.proofs.Common.{◌≡◌, ◌≢◌, ◌∙◌, sym, ap, subst, refl, Bool, true, false, ◌==◌}
use Rattle.std.proofs.Common.{if◌then◌else◌, ℕ, ◌+◌, ◌<◌, ◌≤◌, inl, inr, List, Option, Some, None}
use Rattle.std.proofs.Common.{IsSome, is_some, arith}
use Rattle.std.specs.Option.{option_map}
use Rattle.std.proofs.lemmas.Bool.{ne_eqb, eq-eqb}
use Rattle.std.proofs.lemmas.Bool.Decides.{eqb_tells, leb_tells}
use Rattle.triple_arena.specs.Entries.{value_if, with_entry}
use Rattle.ticket_book.specs.Tickets.{Entry, lookup}
use Rattle.route_book.specs.Packing.{IsNoted, IsMirrored, IsBooked}
use Rattle.ticket_book.specs.Mirrors.{Mirror, numbers}
use Rattle.route_book.proofs.OptionLemmas.{some_same}

module _ {P : Type 0} (index generation : P → ℕ) (at : ℕ → Option (ℕ × P)) where
  abbrev pair : P → ℕ × ℕ
  pair p = (index p, generation p)

  pub none_numbers : (i : ℕ) → numbers index generation at i ≡ None → at i ≡ None
  none_numbers i none = by (at i) none
    where
      by : (o : Option (ℕ × P))
          → option_map (λ (e : ℕ × P). (let z : ℕ × (ℕ × ℕ) = (e.0, (index e.1, generation e.1)) in
          z)) o ≡ None → o ≡ None
      by None is = refl
      by (Some x) is = absurd
          (let no : ◌≡◌ {A = Option (ℕ × (ℕ × ℕ))} (Some (x.0, (index x.1, generation x.1))) None =
          is in cc)

  pub numbers_with : (new : ℕ → Option (ℕ × P)) (i g : ℕ) (p : P)
      → ((k : ℕ) → new k ≡ with_entry at i (g, p) k)
      → (k : ℕ) → numbers index generation new k
      ≡ with_entry (numbers index generation at) i (g, pair p) k
  numbers_with new i g p entries k =
      ap (option_map (λ e. (e.0, (index e.1, generation e.1)))) (entries k) ∙ by (k == i)
    where
      by : (b : Bool) → option_map
          (λ (e : ℕ × P). (let z : ℕ × (ℕ × ℕ) = (e.0, (index e.1, generation e.1)) in z))
          (if b then Some (g, p) else at k)
          ≡ (if b then Some (g, pair p) else numbers index generation at k)
      by true = refl
      by false = refl

module _ {T : Type 0} (ticket : T → ℕ) (book : List Entry) (at : ℕ → Option (ℕ × T)) where
  -- where no item stands between two bounds
  pub mirrored_gap : (low high : ℕ) (m : Mirror) → low ≤ high
      → ((j : ℕ) → low ≤ j → j < high → at j ≡ None)
      → IsMirrored ticket book at low m → IsMirrored ticket book at high m
  mirrored_gap low high m up none mirrored = record { filled = filled; only = only }
    where
      filled : (j h : ℕ) (t : T) (e : Entry) → j < high → at j ≡ Some (h, t)
          → lookup book (ticket t) ≡ Some e → m e.index ≡ Some (e.generation, (j, h))
      filled j h t e below is known = elim (leb_tells low j) [
        | inl back ↦ absurd (let no : None ≡ Some (h, t) = sym (none j back.1 below) ∙ is in cc)
        | inr less ↦ mirrored.filled j h t e less.1 is known
      ]

      only : (i h : ℕ) (q : ℕ × ℕ) → m i ≡ Some (h, q) → IsNoted ticket book at high i h q
      only i h q is =
          let n = mirrored.only i h q is in
          record {
            below = (let b = n.below in omega (arith, b, up));
            item = n.item;
            stands = n.stands;
            entry = n.entry;
            known = n.known;
            index = n.index;
            generation = n.generation;
          }

  -- the pointer to one item more
  module _ (i h : ℕ) (t : T) (e : Entry) (m : Mirror) (room : ℕ) (stands : at i ≡ Some (h, t))
      (known : lookup book (ticket t) ≡ Some e)
      (booked : IsBooked ticket book at room) (mirrored : IsMirrored ticket book at i m) where
    pub not_noted : m e.index ≡ None
    not_noted = by (m e.index) refl
      where
        by : (o : Option (ℕ × (ℕ × ℕ))) → m e.index ≡ o → m e.index ≡ None
        by None is = is
        by (Some x) is =
            let n = mirrored.only e.index x.0 x.1 is in
            let same = booked.apart x.1.0 i x.1.1 h n.item t n.entry e n.stands stands n.known known
            n.index in
            absurd (let b = n.below in omega (arith, b, same))

    module _ (m' : Mirror)
        (entries : (k : ℕ) → m' k ≡ with_entry m e.index (e.generation, (i, h)) k) where
      pub noted : IsMirrored ticket book at (i + 1) m'
      noted = record { filled = filled; only = only }
        where
          filled : (j n : ℕ) (u : T) (d : Entry) → j < i + 1 → at j ≡ Some (n, u)
              → lookup book (ticket u) ≡ Some d → m' d.index ≡ Some (d.generation, (j, n))
          filled j n u d below is known' = elim (eqb_tells j i) [
            | inl same ↦
                let pair : (h, t) ≡ (n, u) = some_same (sym stands ∙ sym (ap at same.1) ∙ is) in
                let gen : h ≡ n = ap (λ (x : ℕ × T). x.0) pair in
                let item : t ≡ u = ap (λ (x : ℕ × T). x.1) pair in
                let own : e ≡ d = some_same
                (sym known ∙ ap (λ x. lookup book (ticket x)) item ∙ known') in
                let here : m' e.index ≡ Some (e.generation, (i, h)) = entries e.index
                ∙ rw (eq-eqb e.index e.index refl) refl in
                ap (λ (x : Entry). m' x.index) (sym own) ∙ here
                ∙ ap (λ (x : Entry). Some (x.generation, (i, h))) own
                ∙ ap (λ x. Some (d.generation, (x, h))) (sym same.1)
                ∙ ap (λ x. Some (d.generation, (j, x))) gen
            | inr other ↦
                let less : j < i = (let o = other.1 in omega (arith, o, below)) in
                let old = mirrored.filled j n u d less is known' in
                entries d.index ∙ rw (ne_eqb d.index e.index
                (λ same. other.1 (booked.apart j i n h u t d e is stands known' known same)))
                old
          ]

          only : (k g : ℕ) (q : ℕ × ℕ) → m' k ≡ Some (g, q) → IsNoted ticket book at (i + 1) k g q
          only k g q is = elim (eqb_tells k e.index) [
            | inl same ↦
                let here : m' k ≡ Some (e.generation, (i, h)) = entries k ∙ rw same.0 refl in
                let pair : (e.generation, (i, h)) ≡ (g, q) = some_same (sym here ∙ is) in
                subst (λ (x : ℕ × (ℕ × ℕ)). IsNoted ticket book at (i + 1) k x.0 x.1) pair
                (record {
                  below = omega arith;
                  item = t;
                  stands = stands;
                  entry = e;
                  known = known;
                  index = sym same.1;
                  generation = refl;
                })
            | inr other ↦
                let old : m k ≡ Some (g, q) = sym (entries k ∙ rw other.0 refl) ∙ is in
                let n = mirrored.only k g q old in
                record {
                  below = (let b = n.below in omega (arith, b));
                  item = n.item;
                  stands = n.stands;
                  entry = n.entry;
                  known = n.known;
                  index = n.index;
                  generation = n.generation;
                }
          ]

  -- the item that a ticket's entry has, and its place in the mirror
  pub entry_of : (i h room : ℕ) (t : T) → at i ≡ Some (h, t) → IsBooked ticket book at room
      → lookup book (ticket t) ≢ None
  entry_of i h room t is booked none = let k = booked.known i h t is in
      absurd (let no : None ≡ Some k.0 = sym none ∙ k.1.0 in cc)

  pub entry_fits : (i h room : ℕ) (t : T) (e : Entry) → at i ≡ Some (h, t)
      → lookup book (ticket t) ≡ Some e → IsBooked ticket book at room
      → (0 < e.index) × (e.index ≤ room)
  entry_fits i h room t e is known booked =
      let k = booked.known i h t is in
      let same : k.0 ≡ e = some_same (sym k.1.0 ∙ known) in
      subst (λ (x : Entry). (0 < x.index) × (x.index ≤ room)) same k.1.1

-- what the calls of a note tell
module _ {P T : Type 0} (index generation : P → ℕ) (ticket : T → ℕ) (book : List Entry)
    (at : ℕ → Option (ℕ × T)) (p : P) (t : T)
    (value : Some t ≡ value_if (generation p) (at (index p))) (n : ℕ) (named : n ≡ ticket t)
    (room : ℕ) (booked : IsBooked ticket book at room) where
  stands : at (index p) ≡ Some (generation p, t)
  stands = by (at (index p)) refl value
    where
      by : (o : Option (ℕ × T)) → at (index p) ≡ o → Some t ≡ value_if (generation p) o
          → at (index p) ≡ Some (generation p, t)
      by None is found = absurd (let no : Some t ≡ None = found in cc)
      by (Some x) is found = elim (eqb_tells x.0 (generation p)) [
        | inl same ↦
            let e : value_if (generation p) (Some x) ≡ Some x.1 = rw same.0 refl in
            let own : x.1 ≡ t = some_same (sym e ∙ sym found) in
            is ∙ ap (λ k. Some (k, x.1)) same.1 ∙ ap (λ y. Some (generation p, y)) own
        | inr other ↦
            let e : value_if (generation p) (Some x) ≡ None = rw other.0 refl in
            absurd (let no : Some t ≡ None = found ∙ e in cc)
      ]

  pub note_known : lookup book n ≢ None
  note_known none = entry_of ticket book at (index p) (generation p) room t stands booked
      (sym (ap (lookup book) named) ∙ none)

  module _ (e : Entry) (found : lookup book n ≡ Some e) (old : ℕ → Option (ℕ × P))
      (mirrored : IsMirrored ticket book at (index p) (numbers index generation old)) where
    known : lookup book (ticket t) ≡ Some e
    known = sym (ap (lookup book) named) ∙ found

    pub note_fits : (0 < e.index) × (e.index ≤ room)
    note_fits = entry_fits ticket book at (index p) (generation p) room t e stands known booked

    pub note_vacant : old e.index ≡ None
    note_vacant =
        none_numbers index generation old e.index
        (not_noted ticket book at (index p) (generation p) t e (numbers index generation old) room
        stands known booked mirrored)

    pub note_done : (before new : ℕ → Option (ℕ × P)) (k g : ℕ) → ((j : ℕ) → before j ≡ old j)
        → k ≡ e.index → g ≡ e.generation
        → ((j : ℕ) → new j ≡ with_entry before k (g, p) j)
        → IsMirrored ticket book at (index p + 1) (numbers index generation new)
    note_done before new k g same is_index is_generation entries =
        noted ticket book at (index p) (generation p) t e (numbers index generation old) room stands
        known booked mirrored (numbers index generation new)
        (numbers_with index generation old new e.index e.generation p all)
      where
        all : (j : ℕ) → new j ≡ with_entry old e.index (e.generation, p) j
        all j = entries j ∙ ap (λ x. with_entry before x (g, p) j) is_index
            ∙ ap (λ x. with_entry before e.index (x, p) j) is_generation ∙ by (j == e.index)
          where
            by : (b : Bool) → (if b then Some (e.generation, p) else before j)
                ≡ (if b then Some (e.generation, p) else old j)
            by true = refl
            by false = same j

-- the same items below two bounds
module _ {T : Type 0} (ticket : T → ℕ) (book : List Entry) (at : ℕ → Option (ℕ × T)) where
  pub mirrored_all : (low high : ℕ) (m : Mirror) → ((k : ℕ) → IsSome (at k) → k < low)
      → ((k : ℕ) → IsSome (at k) → k < high)
      → IsMirrored ticket book at low m → IsMirrored ticket book at high m
  mirrored_all low high m all all' mirrored = record {
    filled = λ j h t e below is known. mirrored.filled j h t e (all j (ap is_some is)) is known;
    only = λ i h q is. (let n = mirrored.only i h q is in
        record {
          below = all' q.0 (ap is_some n.stands);
          item = n.item;
          stands = n.stands;
          entry = n.entry;
          known = n.known;
          index = n.index;
          generation = n.generation;
        });
  }
