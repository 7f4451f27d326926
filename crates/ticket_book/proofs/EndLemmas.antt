-- What the entries along a list are where one is taken out, and where each is renewed.
use Rattle.std.proofs.Common.{◌≡◌, ◌≢◌, ◌∙◌, sym, ap, subst, refl, true, false, ℕ, ◌<◌, List, []}
use Rattle.std.proofs.Common.{◌∷◌, ◌++◌, map, Option, Some, None, IsSome, OnSome, option_map, arith}
use Rattle.std.proofs.Common.{inl}
use Rattle.std.proofs.Common.{inr}
use Rattle.std.specs.List.{AllByRecursion}
use Rattle.std.proofs.lemmas.Bool.{eq-eqb, ne_eqb}
use Rattle.std.proofs.lemmas.Bool.Decides.{eqb_tells}
use Rattle.triple_arena.specs.Entries.{without}
use Rattle.linked_lists.specs.LinkedLists.{Apart, Off}
use Rattle.linked_lists.specs.ChainLaws.{Apart-split}
use Rattle.triple_arena_chain.specs.Links.{ends_in}
use Rattle.linked_lists.specs.UniquenessLaws.{linear_apart}
use Rattle.triple_arena_ord.specs.Ordered.{Ordered, IsOrdered, entry_in, order_in}
use Rattle.triple_arena_ord.specs.Removal.{IsEntryRemoved}
use Rattle.ticket_book.specs.InArena.{StandByNumber, entries_of}
use Rattle.ticket_book.specs.Tickets.{Entry, TicketsRise, without_ticket}
use Rattle.ticket_book.specs.AlongLaws.{along, along-append, along_none, along_some}
use Rattle.ticket_book.proofs.LookLemmas.{numbered_without}

-- ---- an entry less

-- those beside the one with the ticket stay
filter_all : (t : ℕ) (xs : List Entry) → AllByRecursion (λ (e : Entry). t < e.ticket) xs
    → without_ticket t xs ≡ xs
filter_all t [] all = refl
filter_all t (x ∷ xs) all = let less = all.0 in
    rw (ne_eqb x.ticket t (λ same. omega (arith, less, same)))
    (ap (λ l. x ∷ l) (filter_all t xs all.1))

one_out : (front back : List Entry) (e : Entry) → TicketsRise (front ++ e ∷ back)
    → without_ticket e.ticket (front ++ e ∷ back) ≡ front ++ back
one_out [] back e rise = rw (eq-eqb e.ticket e.ticket refl) (filter_all e.ticket back rise.0)
one_out (x ∷ front) back e rise =
    let less = below front rise.0 in
    rw (ne_eqb x.ticket e.ticket (λ same. omega (arith, same, less)))
    (ap (λ l. x ∷ l) (one_out front back e rise.1))
  where
    below : (xs : List Entry) → AllByRecursion (λ (f : Entry). x.ticket < f.ticket) (xs ++ e ∷ back)
        → x.ticket < e.ticket
    below [] all = all.0
    below (y ∷ xs) all = below xs all.1

still_rise : (t : ℕ) (xs : List Entry) → TicketsRise xs → TicketsRise (without_ticket t xs)
still_rise t [] rise = tt
still_rise t (x ∷ xs) rise = elim (eqb_tells x.ticket t) [
  | inl same ↦ rw same.0 (still_rise t xs rise.1)
  | inr other ↦ rw other.0 (kept xs rise.0, still_rise t xs rise.1)
]
  where
    kept : (ys : List Entry) → AllByRecursion (λ (f : Entry). x.ticket < f.ticket) ys
        → AllByRecursion (λ (f : Entry). x.ticket < f.ticket) (without_ticket t ys)
    kept [] all = tt
    kept (y ∷ ys) all = elim (eqb_tells y.ticket t) [
      | inl same ↦ rw same.0 (kept ys all.1)
      | inr other ↦ rw other.0 (all.0, kept ys all.1)
    ]

-- the entries along indexes that are not the one that is gone
along_without : (at at' : ℕ → Option (ℕ × Entry)) (i : ℕ) → ((k : ℕ) → at' k ≡ without at i k)
    → (w : List ℕ) → Off w i → along at' w ≡ along at w
along_without at at' i entries [] off = refl
along_without at at' i entries (j ∷ w) off = by (at j) refl (along_without at at' i entries w off.1)
  where
    now : at' j ≡ at j
    now = entries j ∙ rw (ne_eqb j i off.0) refl

    by : (o : Option (ℕ × Entry)) → at j ≡ o → along at' w ≡ along at w
        → along at' (j ∷ w) ≡ along at (j ∷ w)
    by None is rest = along_none at' j w (now ∙ is) ∙ rest ∙ sym (along_none at j w is)
    by (Some e) is rest = along_some at' j w e (now ∙ is) ∙ ap (λ l. e.1 ∷ l) rest
        ∙ sym (along_some at j w e is)

-- the entry at an index is taken out
pub record IsTakenFrom (old new : Ordered Entry) (i g : ℕ) (e : Entry) : Type 0 where
  pub stood : entry_in old i ≡ Some (g, e)
  pub out : entries_of new ≡ without_ticket e.ticket (entries_of old)
  pub rise : TicketsRise (entries_of new)
  -- those that stood at the index of their own number still do
  pub numbered : (first : ℕ) → StandByNumber first (entry_in old)
      → StandByNumber first (entry_in new)
  pub others : (k : ℕ) → k ≢ i → entry_in new k ≡ entry_in old k

module _ (old new : Ordered Entry) (ordered : IsOrdered old)
    (rise : TicketsRise (entries_of old)) where
  entry_out : (last : Option ℕ) (i : ℕ) (e : ℕ × Entry) → IsEntryRemoved last i old new
      → entry_in old i ≡ Some e
      → entries_of new ≡ without_ticket e.1.ticket (entries_of old)
  entry_out last i e removed is =
      let apart = Apart-split removed.order.before removed.order.after i
      (subst Apart removed.order.was
      (linear_apart (ends_in old.chains) None (order_in old) ordered.linear)) in
      let at = entry_in old in
      let split : entries_of old
      ≡ along at removed.order.before ++ e.1 ∷ along at removed.order.after =
      ap (along at) removed.order.was
      ∙ along-append at removed.order.before (i ∷ removed.order.after)
      ∙ ap (λ l. along at removed.order.before ++ l) (along_some at i removed.order.after e is) in
      ap (along (entry_in new)) removed.order.is
      ∙ along-append (entry_in new) removed.order.before removed.order.after
      ∙ ap (λ l. l ++ along (entry_in new) removed.order.after)
      (along_without at (entry_in new) i removed.entries removed.order.before apart.0)
      ∙ ap (λ l. along at removed.order.before ++ l)
      (along_without at (entry_in new) i removed.entries removed.order.after apart.1)
      ∙ sym (ap (without_ticket e.1.ticket) split
      ∙ one_out (along at removed.order.before) (along at removed.order.after) e.1
      (subst TicketsRise split rise))

  -- what a removal tells that finds an entry
  module _ {A G : Type 0} (generation : G → ℕ) (value : A → G × Entry) (last : Option ℕ) (i : ℕ)
      (answer : Option A)
      (taken : G × Entry) (is : option_map value answer ≡ Some taken)
      (found : option_map {U = ℕ × Entry} (λ a. (generation (value a).0, (value a).1)) answer
      ≡ entry_in old i)
      (removed : OnSome answer (IsEntryRemoved last i old new)) where
    taken_stood : entry_in old i ≡ Some (generation taken.0, taken.1)
    taken_stood = sym found ∙ by answer is
      where
        by : (o : Option A) → option_map value o ≡ Some taken
            → option_map {U = ℕ × Entry} (λ a. (generation (value a).0, (value a).1)) o
            ≡ Some (generation taken.0, taken.1)
        by None none = absurd (let no : ◌≡◌ {A = Option (G × Entry)} None (Some taken) = none in cc)
        by (Some a) some = ap (option_map {U = ℕ × Entry} (λ x. (generation x.0, x.1))) some

    gone : IsEntryRemoved last i old new
    gone = by answer is removed
      where
        by : (o : Option A) → option_map value o ≡ Some taken
            → OnSome o (IsEntryRemoved last i old new)
            → IsEntryRemoved last i old new
        by None none h = absurd
            (let no : ◌≡◌ {A = Option (G × Entry)} None (Some taken) = none in cc)
        by (Some a) some h = h

    pub taken_from : IsTakenFrom old new i (generation taken.0) taken.1
    taken_from =
        let out = entry_out last i (generation taken.0, taken.1) gone taken_stood in
        record {
          stood = taken_stood;
          out = out;
          rise = subst TicketsRise (sym out) (still_rise taken.1.ticket (entries_of old) rise);
          numbered = λ first stand.
              numbered_without first i (entry_in old) (entry_in new) gone.entries stand;
          others = λ k other. gone.entries k ∙ rw (ne_eqb k i other) refl;
        }

-- a removal that finds nothing, though an entry stands
pub none_taken : {A B : Type 0} (value : A → B) (entry : A → ℕ × Entry) (answer : Option A)
    (stood : Option (ℕ × Entry))
    → option_map value answer ≡ None → option_map entry answer ≡ stood
    → IsSome (option_map (λ (e : ℕ × Entry). e.1) stood) → ⊥
none_taken value entry None stood none found some =
    absurd (let no : false ≡ true =
    subst (λ o. IsSome (option_map (λ (e : ℕ × Entry). e.1) o)) (sym found) some in cc)
none_taken {B = B} value entry (Some a) stood none found some =
    absurd (let no : ◌≡◌ {A = Option B} (Some (value a)) None = none in cc)

-- ---- each entry renewed

module _ (f : Entry → Entry) (at at' : ℕ → Option (ℕ × Entry))
    (each : (j : ℕ) → at' j ≡ option_map (λ e. (e.0, f e.1)) (at j)) where
  pub along_renewed : (w : List ℕ) → along at' w ≡ map f (along at w)
  along_renewed [] = refl
  along_renewed (j ∷ w) = by (at j) refl (along_renewed w)
    where
      by : (o : Option (ℕ × Entry)) → at j ≡ o → along at' w ≡ map f (along at w)
          → along at' (j ∷ w) ≡ map f (along at (j ∷ w))
      by None is rest =
          let none : at' j ≡ None = each j
          ∙ ap (option_map (λ (e : ℕ × Entry). (let z : ℕ × Entry = (e.0, f e.1) in z))) is in
          along_none at' j w none ∙ rest ∙ ap (map f) (sym (along_none at j w is))
      by (Some e) is rest =
          let some : at' j ≡ Some (e.0, f e.1) = each j
          ∙ ap (option_map (λ (e : ℕ × Entry). (let z : ℕ × Entry = (e.0, f e.1) in z))) is in
          along_some at' j w (e.0, f e.1) some ∙ ap (λ l. f e.1 ∷ l) rest
          ∙ ap (map f) (sym (along_some at j w e is))
