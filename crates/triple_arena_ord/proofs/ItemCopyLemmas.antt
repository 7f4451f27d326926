-- What the calls of a map of links say of a map of their items.
use Rattle.std.specs.Prelude.{Result, Ok, Err}
use Rattle.std.specs.Borrow.{Bor}
use Rattle.std.proofs.Common.{◌≡◌, ℕ, List, [], ◌∷◌, ◌++◌, map, refl, sym, ap, ◌∙◌}
use Rattle.triple_arena.specs.Compression.{listed_under}
use Rattle.triple_arena.specs.Copy.{Call, Calls, IsMappedCopy, IsRefusedCopy}
use Rattle.triple_arena_chain.specs.LinkShape.{IndexLink}
use Rattle.triple_arena_chain.specs.Listed.{listed_value}
use Rattle.triple_arena_ord.specs.Copies.{listed_items}
use Rattle.triple_arena_ord.specs.Indexed.{listed_item}
use Rattle.triple_arena_ord.specs.NodeShape.{IndexNode}

module _ {L T : Type 0} (item : L → T) where
  items-append : (xs ys : List (ℕ × (ℕ × L)))
      → listed_items item (xs ++ ys) ≡ listed_items item xs ++ listed_items item ys
  items-append [] ys = refl
  items-append (x ∷ xs) ys = ap (λ l. (x.0, (x.1.0, item x.1.1)) ∷ l) (items-append xs ys)

-- the items of listed links are those of the listed nodes
pub items-listed : {T : Type 0} (links : List (ℕ × (ℕ × IndexLink (IndexNode T))))
    → listed_items (λ (l : IndexLink (IndexNode T)). l.t.t) links
    ≡ map listed_item (map listed_value links)
items-listed [] = refl
items-listed (x ∷ links) = ap (λ l. listed_item (listed_value x) ∷ l) (items-listed links)

module _ {P A U : Type 0} (index generation : P → ℕ) where
  abbrev seen : List (Call P A U) → List (ℕ × (ℕ × A))
  seen calls = map (λ call. listed_under index generation call.pointer call.lent.now) calls

  abbrev given : List (Call P A U) → List (ℕ × (ℕ × U))
  given calls = map (λ call. listed_under index generation call.pointer call.given) calls

module _ {P L T U E F : Type 0} (item : L → T) (index generation : P → ℕ)
    (step : F → P → Bor T → Result U E → F → Type 0) where
  -- calls of a map of items that saw the items of these links, and gave the same
  record ItemCalls (f : F) (calls : List (Call P L U)) (last : F) : Type 0 where
    pub items : List (Call P T U)
    pub made : Calls step f items last
    pub before : seen index generation items ≡ listed_items item (seen index generation calls)
    pub after : given index generation items ≡ given index generation calls

module _ {P L T U E F G : Type 0} (item : L → T) {index generation : P → ℕ}
    {step : F → P → Bor T → Result U E → F → Type 0}
    {linked : G → P → Bor L → Result U E → G → Type 0} (state : G → F)
    (one : (h : G) (p : P) (l : Bor L) (r : Result U E) (k : G) → linked h p l r k
    → (shown : Bor T) × (shown.now ≡ item l.now) × step (state h) p shown r (state k)) where
  item_calls : (calls : List (Call P L U)) (h last : G) → Calls linked h calls last
      → ItemCalls item index generation step (state h) calls (state last)
  item_calls [] h last made =
      record { items = []; made = ap state made; before = refl; after = refl }
  item_calls (x ∷ calls) h last made =
      let rest = item_calls calls made.0 last made.2 in
      let here = one h x.pointer x.lent (Ok x.given) made.0 made.1 in
      record {
        items = record { pointer = x.pointer; lent = here.0; given = x.given } ∷ rest.items;
        made = (state made.0, here.2, rest.made);
        before =
            ap (λ t. listed_under index generation x.pointer t ∷ seen index generation rest.items)
            here.1
            ∙ ap (λ l. listed_under index generation x.pointer (item x.lent.now) ∷ l) rest.before;
        after = ap (λ l. listed_under index generation x.pointer x.given ∷ l) rest.after;
      }

  -- the copy is that of the items
  pub items_mapped : {g : G} {old : List (ℕ × (ℕ × L))} {new : List (ℕ × (ℕ × U))}
      → IsMappedCopy index generation linked g old new
      → IsMappedCopy index generation step (state g) (listed_items item old) new
  items_mapped {g} m =
      let items = item_calls m.calls g m.last m.made in
      record {
        calls = items.items;
        last = state m.last;
        made = items.made;
        before = items.before ∙ ap (listed_items item) m.before;
        after = items.after ∙ m.after;
      }

  -- and where it refused, the map of the items refused
  pub items_refused : {g : G} {old : List (ℕ × (ℕ × L))}
      → IsRefusedCopy index generation linked g old
      → IsRefusedCopy index generation step (state g) (listed_items item old)
  items_refused {g} r =
      let items = item_calls r.calls g r.refusing r.made in
      let here = one r.refusing r.pointer r.lent (Err r.error) r.last r.refused in
      record {
        calls = items.items;
        refusing = state r.refusing;
        last = state r.last;
        pointer = r.pointer;
        lent = here.0;
        error = r.error;
        rest = listed_items item r.rest;
        made = items.made;
        refused = here.2;
        before =
            ap (λ l. l ++ listed_under index generation r.pointer here.0.now ∷ listed_items item
            r.rest) items.before
            ∙ ap (λ t. listed_items item (seen index generation r.calls) ++ listed_under index
            generation r.pointer t ∷ listed_items item r.rest) here.1
            ∙ sym (items-append item (seen index generation r.calls)
            (listed_under index generation r.pointer r.lent.now ∷ r.rest))
            ∙ ap (listed_items item) r.before;
      }
