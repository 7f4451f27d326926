-- Mirrors that are filled by tickets, and what they make of references.
use Rattle.std.proofs.Common.{◌≡◌, ◌∙◌, sym, ap, subst, refl, ℕ, ◌<◌, ◌≤◌, inl, inr, List, Option}
use Rattle.std.proofs.Common.{Some, None, IsSome, is_some}
use Rattle.std.proofs.lemmas.Bool.{eq-eqb}
use Rattle.std.proofs.lemmas.Bool.Decides.{eqb_tells}
use Rattle.triple_arena.specs.Entries.{value_if}
use Rattle.ticket_book.specs.declared.entry.Kind.{Kind}
use Rattle.ticket_book.specs.Tickets.{Entry, lookup}
use Rattle.route_book.specs.Holds.{found_by, entry, IsLive}
use Rattle.route_book.specs.Packing.{AreMoved, IsMirror, IsMirrored, IsBooked}
use Rattle.ticket_book.specs.Mirrors.{Mirror, renewed_pointer}
use Rattle.route_book.proofs.OptionLemmas.{some_same}

-- the items of one kind, moved, while the book has the old pointers
module _ {T : Type 0} (ticket : T → ℕ) (kind : Kind) (book : List Entry) (to : ℕ → ℕ) (g : ℕ)
    (old new : ℕ → Option (ℕ × T))
    (held : (i h : ℕ) (t : T) → old i ≡ Some (h, t)
    → lookup book (ticket t) ≡ Some (entry (ticket t) kind i h)) (moved : AreMoved to g old new)
  where
    -- what the book has for the ticket of a moved item
    was : (k h : ℕ) (t : T) (e : Entry) → new k ≡ Some (h, t) → lookup book (ticket t) ≡ Some e
        → (old e.index ≡ Some (e.generation, t)) × (to e.index ≡ k)
    was k h t e is known =
        let o = moved.onto k h t is in
        let same : entry (ticket t) kind o.0 o.1.0 ≡ e =
        some_same (sym (held o.0 o.1.0 t o.1.1.0) ∙ known) in
        let index : o.0 ≡ e.index = ap (λ (x : Entry). x.index) same in
        let generation : o.1.0 ≡ e.generation = ap (λ (x : Entry). x.generation) same in (
          ap old (sym index) ∙ o.1.1.0 ∙ ap (λ n. Some (n, t)) generation,
          ap to (sym index) ∙ o.1.1.1.0,
        )

    pub booked : (room : ℕ) → ((i : ℕ) → IsSome (old i) → (0 < i) × (i ≤ room))
        → IsBooked ticket book new room
    booked room fits = record {
      known = λ j h t is.
          let o = moved.onto j h t is in
          let within = fits o.0 (ap is_some o.1.1.0) in
          (entry (ticket t) kind o.0 o.1.0, (held o.0 o.1.0 t o.1.1.0, within));
      apart = λ j k h n t u d e is is' known known' same.
          let a = was j h t d is known in
          let b = was k n u e is' known' in
          sym a.1 ∙ ap to same ∙ b.1;
    }

    pub mirror_is : (low : ℕ) (m : Mirror) → IsMirrored ticket book new low m
        → ((k : ℕ) → IsSome (new k) → k < low) → IsMirror to g old m
    mirror_is low m mirrored all = record { into = into; only = only }
      where
        into : (i h : ℕ) (t : T) → old i ≡ Some (h, t) → m i ≡ Some (h, (to i, g))
        into i h t is =
            let stands = moved.into i h t is in
            mirrored.filled (to i) g t (entry (ticket t) kind i h) (all (to i) (ap is_some stands))
            stands (held i h t is)

        only : (i h : ℕ) (q : ℕ × ℕ) → m i ≡ Some (h, q) → (t : T) × (old i ≡ Some (h, t))
        only i h q is =
            let n = mirrored.only i h q is in
            let w = was q.0 q.1 n.item n.entry n.stands n.known in
            (n.item, ap old (sym n.index) ∙ w.0 ∙ ap (λ k. Some (k, n.item)) n.generation)

-- what a mirror makes of a reference
module _ {T : Type 0} (to : ℕ → ℕ) (g : ℕ) (old new : ℕ → Option (ℕ × T)) (m : Mirror)
    (moved : AreMoved to g old new) (mirror : IsMirror to g old m) where
  -- a pointer that finds an item
  pub mirror_live : (i h : ℕ) (t : T) → value_if h (old i) ≡ Some t
      → (value_if h (m i) ≡ Some (to i, g)) × (value_if g (new (to i)) ≡ Some t)
  mirror_live i h t is = by (old i) refl is
    where
      by : (o : Option (ℕ × T)) → old i ≡ o → value_if h o ≡ Some t
          → (value_if h (m i) ≡ Some (to i, g)) × (value_if g (new (to i)) ≡ Some t)
      by None at found = absurd (let no : None ≡ Some t = found in cc)
      by (Some x) at found = elim (eqb_tells x.0 h) [
        | inr other ↦ absurd (let no : None ≡ Some t =
            sym (let e : value_if h (Some x) ≡ None = rw other.0 refl in e) ∙ found in cc)
        | inl same ↦
            let val : x.1 ≡ t = some_same
            (sym (let e : value_if h (Some x) ≡ Some x.1 = rw same.0 refl in e) ∙ found) in
            let is_old : old i ≡ Some (h, t) = at ∙ ap (λ n. Some (n, x.1)) same.1
            ∙ ap (λ y. Some (h, y)) val in (
              ap (value_if h) (mirror.into i h t is_old) ∙ rw (eq-eqb h h refl) refl,
              ap (value_if g) (moved.into i h t is_old) ∙ rw (eq-eqb g g refl) refl,
            )
      ]

  -- one that finds none
  pub mirror_dead : (i h : ℕ) → value_if h (old i) ≡ None → value_if h (m i) ≡ None
  mirror_dead i h is = by (m i) refl
    where
      by : (o : Option (ℕ × (ℕ × ℕ))) → m i ≡ o → value_if h o ≡ None
      by None at = refl
      by (Some x) at = elim (eqb_tells x.0 h) [
        | inr other ↦ rw other.0 refl
        | inl same ↦
            let has = mirror.only i x.0 x.1 at in
            let found : value_if h (old i) ≡ Some has.0 = ap (value_if h) has.1 ∙ rw same.0 refl in
            absurd (let no : None ≡ Some has.0 = sym is ∙ found in cc)
      ]

  -- a reference finds what it found, and one that found nothing is none
  pub found_recast : (r : Option (ℕ × ℕ)) → found_by new (found_by m r) ≡ found_by old r
  found_recast None = refl
  found_recast (Some q) = by (value_if q.1 (old q.0)) refl
    where
      by : (o : Option T) → value_if q.1 (old q.0) ≡ o
          → found_by new (value_if q.1 (m q.0)) ≡ value_if q.1 (old q.0)
      by None is = ap (found_by new) (mirror_dead q.0 q.1 is) ∙ sym is
      by (Some t) is = let l = mirror_live q.0 q.1 t is in ap (found_by new) l.0 ∙ l.1 ∙ sym is

  pub live_recast : (r : Option (ℕ × ℕ)) → IsLive new (found_by m r)
  live_recast None = tt
  live_recast (Some q) = by (value_if q.1 (old q.0)) refl
    where
      by : (o : Option T) → value_if q.1 (old q.0) ≡ o → IsLive new (value_if q.1 (m q.0))
      by None is = subst (IsLive new) (sym (mirror_dead q.0 q.1 is)) tt
      by (Some t) is = let l = mirror_live q.0 q.1 t is in
          subst (IsLive new) (sym l.0) (ap is_some l.1)

  -- the pointer of an entry of the book
  pub renewed_live : (i h : ℕ) (t : T) → value_if h (old i) ≡ Some t
      → renewed_pointer m i h ≡ (to i, g)
  renewed_live i h t is = let l = mirror_live i h t is in rw l.0 refl
