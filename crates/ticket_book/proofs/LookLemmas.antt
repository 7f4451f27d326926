-- What a look at the index of a ticket's own number finds, and which entries stand there.
use Rattle.std.proofs.Common.{◌≡◌, ◌∙◌, sym, ap, subst, refl, true, false, ℕ, ◌+◌}
use Rattle.std.proofs.Common.{◌<◌, ◌≤◌, ◌⊎◌, min, List, [], ◌∷◌, map, length, find, ◌==◌, Option}
use Rattle.std.proofs.Common.{Some, None, IsSome, arith, inl, inr}
use Rattle.std.specs.Option.{option_map}
use Rattle.std.specs.Cmp.{ranked}
use Rattle.std.specs.Ordering.{nat_cmp}
use Rattle.std.specs.declared.cmp.Ordering.TheVariants.{Equal}
use Rattle.std.proofs.lemmas.Bool.Decides.{eqb_tells}
use Rattle.std.proofs.Math.Nat.{mul-le-mul}
use Rattle.rank_tree.specs.Comparisons.{most_comparisons}
use Rattle.rank_tree.specs.ComparisonLaws.{most_comparisons-greatest}
use Rattle.triple_arena_ptr.specs.Index.{max_index_of}
use Rattle.triple_arena.specs.Content.{IsWellFormed, arena_capacity, entry_at as link_at}
use Rattle.triple_arena.specs.ContentLaws.{live-within}
use Rattle.triple_arena.specs.Entries.{with_entry, without}
use Rattle.triple_arena_chain.specs.LinkShape.{IndexLink}
use Rattle.triple_arena_chain.specs.Links.{valued}
use Rattle.triple_arena_ord.specs.Node.{itemed}
use Rattle.triple_arena_ord.specs.NodeShape.{IndexNode}
use Rattle.triple_arena_ord.specs.Ordered.{Ordered, asked_of, entry_in}
use Rattle.ticket_book.specs.InArena.{StandByNumber, entries_of}
use Rattle.ticket_book.specs.Tickets.{Entry, elsewhere_after}
use Rattle.ticket_book.specs.Tickets.{look_count, lookup}
use Rattle.ticket_book.proofs.TicketLemmas.{lookup_missing}

-- ---- how many comparisons are made

one_at_most : (o : Option Entry) → look_count o ≤ 1
one_at_most None = omega arith
one_at_most (Some e) = omega arith

one_allowed : (n : ℕ) → 1 ≤ n → 1 ≤ most_comparisons n
one_allowed n some =
    let two : 2 ≤ n + 1 = omega (arith, some) in
    most_comparisons-greatest n 1 (mul-le-mul {n₁ = 2} {m₁ = 2} two two)

-- a look is within the bound on a search
pub look_within : (l : List (ℕ × (ℕ × Entry))) (i : ℕ)
    → look_count (option_map (λ (x : ℕ × Entry). x.1)
    (find (λ (x : ℕ × Entry). x.0 == i) (map (λ x. (x.0, x.1.1)) l)))
    ≤ most_comparisons (length (map (λ x. x.1.1) l))
look_within [] i = omega arith
look_within (x ∷ l) i =
    let one = one_at_most (option_map (λ (y : ℕ × Entry). y.1)
    (find (λ (y : ℕ × Entry). y.0 == i) (map (λ y. (y.0, y.1.1)) (x ∷ l)))) in
    let more = one_allowed (length (map (λ y. y.1.1) (x ∷ l))) (omega arith) in
    omega (arith, one, more)

pub looked_at_none : (n : ℕ) (o : Option Entry) → o ≡ None → n ≡ n + look_count o
looked_at_none n o is = let none : look_count o ≡ 0 = ap look_count is in omega (arith, none)

pub looked_at_one : (n : ℕ) (o : Option Entry) (e : Entry) → o ≡ Some e → n + 1 ≡ n + look_count o
looked_at_one n o e is = let one : look_count o ≡ 1 = ap look_count is in omega (arith, one)

-- ---- what a look finds

-- no entry stands at index 0, or past the greatest index
pub nowhere : (o : Ordered Entry) (greatest t : ℕ) → IsWellFormed o.chains
    → arena_capacity o.chains ≤ max_index_of greatest → (t ≡ 0) ⊎ (greatest < t)
    → entry_in o t ≡ None
nowhere o greatest t formed bounded (inl zero_is) = ap (entry_in o) zero_is
nowhere o greatest t formed bounded (inr past) = by (link_at o.chains t) refl
  where
    by : (e : Option (ℕ × IndexLink (IndexNode Entry))) → link_at o.chains t ≡ e
        → entry_in o t ≡ None
    by None is = ap (λ e. option_map itemed (option_map valued e)) is
    by (Some e) is =
        let within = live-within o.chains formed t (rw is refl) in
        absurd (omega (arith, within, bounded, past))

-- a ticket that stands nowhere but at its own number is missing, if it is not there
pub missing_there : (o : Ordered Entry) (first t : ℕ)
    → StandByNumber first (entry_in o)
    → ((e : ℕ × Entry) → entry_in o t ≡ Some e → e.1.ticket ≡ t → ⊥)
    → t < first → lookup (entries_of o) t ≡ None
missing_there o first t stand apart low =
    sym (lookup_missing o t (λ i some equal. other i (entry_in o i) refl some equal))
  where
    other : (i : ℕ) (x : Option (ℕ × Entry)) → entry_in o i ≡ x → IsSome (entry_in o i)
        → asked_of nat_cmp (λ (e : Entry). e.ticket) t (entry_in o i) ≡ Equal → ⊥
    other i None is some equal = (let no : false ≡ true = subst IsSome is some in cc)
    other i (Some e) is some equal =
        let way : nat_cmp t e.1.ticket ≡ Equal = sym (rw is refl) ∙ equal in
        let same : t ≡ e.1.ticket = ranked t e.1.ticket Equal (sym way) in
        let here : i ≡ e.1.ticket = stand i e is (omega (arith, same, low)) in
        apart e (ap (entry_in o) (same ∙ sym here) ∙ is) (sym same)

pub none_there : {at : Option (ℕ × Entry)} {t : ℕ} → at ≡ None
    → (e : ℕ × Entry) → at ≡ Some e → e.1.ticket ≡ t → ⊥
none_there nothing e is same =
    (let no : ◌≡◌ {A = Option (ℕ × Entry)} None (Some e) = sym nothing ∙ is in cc)

pub other_there : {at : Option (ℕ × Entry)} {t : ℕ} (d : ℕ × Entry) → at ≡ Some d
    → (d.1.ticket ≡ t → ⊥) → (e : ℕ × Entry) → at ≡ Some e → e.1.ticket ≡ t → ⊥
other_there {t = t} d there apart e is same =
    let both : ◌≡◌ {A = Option (ℕ × Entry)} (Some d) (Some e) = sym there ∙ is in
    let own : d ≡ e = cc in
    apart (ap (λ (x : ℕ × Entry). x.1.ticket) own ∙ same)

-- ---- where entries stand

-- an entry more
pub numbered_added : (first t i g : ℕ) (new : Entry) (at at' : ℕ → Option (ℕ × Entry))
    → new.ticket ≡ t → ((k : ℕ) → at' k ≡ with_entry at i (g, new) k) → StandByNumber first at
    → StandByNumber (elsewhere_after first i t) at'
numbered_added first t i g new at at' ticket entries stand k e is less = elim (eqb_tells k i) [
  | inl same ↦
      let here : at' k ≡ Some (g, new) = entries k ∙ rw same.0 refl in
      let own : (g, new) ≡ e = some_own (g, new) e (sym here ∙ is) in
      let ticket_is : e.1.ticket ≡ t = ap (λ (x : ℕ × Entry). x.1.ticket) (sym own) ∙ ticket in
      elim (eqb_tells i t) [
        | inl by_number ↦ same.1 ∙ by_number.1 ∙ sym ticket_is
        | inr elsewhere ↦
            let low : e.1.ticket < min first t =
            subst (λ n. e.1.ticket < n) (rw elsewhere.0 refl) less in
            absurd (omega (arith, low, ticket_is))
      ]
  | inr other ↦ stand k e (sym (entries k ∙ rw other.0 refl) ∙ is) (below less)
]
  where
    some_own : (x y : ℕ × Entry) → ◌≡◌ {A = Option (ℕ × Entry)} (Some x) (Some y) → x ≡ y
    some_own x y same = cc

    below : {n : ℕ} → n < elsewhere_after first i t → n < first
    below {n} low = elim (eqb_tells i t) [
      | inl by_number ↦ subst (λ m. n < m) (rw by_number.0 refl) low
      | inr elsewhere ↦
          let less : n < min first t = subst (λ m. n < m) (rw elsewhere.0 refl) low in
          omega (arith, less)
    ]

-- an entry less
pub numbered_without : (first i : ℕ) (at at' : ℕ → Option (ℕ × Entry))
    → ((k : ℕ) → at' k ≡ without at i k) → StandByNumber first at → StandByNumber first at'
numbered_without first i at at' entries stand k e is less = elim (eqb_tells k i) [
  | inl same ↦
      let none : at' k ≡ None = entries k ∙ rw same.0 refl in
      absurd (let no : ◌≡◌ {A = Option (ℕ × Entry)} None (Some e) = sym none ∙ is in cc)
  | inr other ↦ stand k e (sym (entries k ∙ rw other.0 refl) ∙ is) less
]

-- each entry renewed, under its ticket
pub numbered_renewed : (f : Entry → Entry) (first : ℕ) (at at' : ℕ → Option (ℕ × Entry))
    → ((e : Entry) → (f e).ticket ≡ e.ticket)
    → ((k : ℕ) → at' k ≡ option_map {U = ℕ × Entry} (λ e. (e.0, f e.1)) (at k))
    → StandByNumber first at → StandByNumber first at'
numbered_renewed f first at at' same each stand k e is less = by (at k) refl
  where
    by : (o : Option (ℕ × Entry)) → at k ≡ o → k ≡ e.1.ticket
    by None was =
        let none : at' k ≡ None =
        each k ∙ ap (option_map {U = ℕ × Entry} (λ e. (e.0, f e.1))) was in
        absurd (let no : ◌≡◌ {A = Option (ℕ × Entry)} None (Some e) = sym none ∙ is in cc)
    by (Some d) was =
        let here : at' k ≡ Some (d.0, f d.1) =
        each k ∙ ap (option_map {U = ℕ × Entry} (λ e. (e.0, f e.1))) was in
        let both : ◌≡◌ {A = Option (ℕ × Entry)} (Some (d.0, f d.1)) (Some e) = sym here ∙ is in
        let own : f d.1 ≡ e.1 = cc in
        let ticket : d.1.ticket ≡ e.1.ticket = sym (same d.1) ∙ ap (λ (x : Entry). x.ticket) own in
        stand k d was (omega (arith, ticket, less)) ∙ ticket

pub numbered_from_zero : (at : ℕ → Option (ℕ × Entry)) → StandByNumber 0 at
numbered_from_zero at k e is less = absurd (omega (arith, less))
