-- An insertion where the search for its key ended, told by keys.
use Rattle.std.proofs.Common.{◌≡◌, ◌≢◌, ℕ, Option, Some, Result, Ok, Bool, refl, sym, ap, subst}
use Rattle.std.specs.Cmp.{IsTotalOrder}
use Rattle.std.specs.declared.cmp.Ordering.{Ordering}
use Rattle.std.specs.declared.cmp.Ordering.TheVariants.{Equal}
use Rattle.rank_tree.specs.Search.{IsAnswer}
use Rattle.triple_arena_ptr.specs.declared.errors.OrdInsertionError.{OrdInsertionError}
use Rattle.triple_arena.specs.Entries.{generation_at}
use Rattle.triple_arena_ord.specs.Ordered.{Ordered, IsOrdered, asked_at, tree_in, entry_in}
use Rattle.triple_arena_ord.specs.Found.{Answers}
use Rattle.triple_arena_ord.specs.Inserted.{InsertsAt, InsertsByKey, GetsOrInserts}
use Rattle.triple_arena_ord.proofs.InsertLemmas.{inserted_by_key}
use Rattle.triple_arena_ord.proofs.PlacedLemmas.{placed_ascending}
use Rattle.triple_arena_ord.proofs.PlacingLemmas.{placed_by_key}

module _ {T K P : Type 0} (cmp : K → K → Ordering) (key : T → K)
    (total : IsTotalOrder cmp) (index generation : P → ℕ) where
  pub inserts_by_key : (growth : Option Bool) (old new : Ordered T) (t : T) (k : K) → k ≡ key t
      → (place : Option (ℕ × Ordering)) (result : Result (P × Option T) OrdInsertionError)
      → IsOrdered old → IsAnswer (asked_at cmp key k old) (tree_in old) place
      → InsertsAt index generation growth place t result old new
      → InsertsByKey cmp key index generation growth t result old new
  inserts_by_key growth old new t k k_is place result ordered found put =
      let at =
      subst (λ z. IsAnswer (asked_at cmp key z old) (tree_in old) place) k_is found in
      record {
        inserted = inserted_by_key cmp key total index generation _ old new t k k_is place
            result ordered put.ordered found put.inserted;
        ascending = λ ascending.
            placed_ascending cmp key total old new index generation _ t place result ordered
            put.ordered (placed_by_key cmp key (key t) old total ordered place at)
            put.inserted ascending;
        counter = put.counter;
        room = put.room;
        ordered = put.ordered;
      }

  -- the search found an entry, which stays
  pub gets_found : (growth : Option Bool) (o : Ordered T) (t : T) (k : K) → k ≡ key t
      → (place : Option (ℕ × Ordering)) → IsOrdered o
      → IsAnswer (asked_at cmp key k o) (tree_in o) place
      → (p : P) → place ≡ Some (index p, Equal)
      → generation_at (entry_in o) (index p) ≡ Some (generation p)
      → GetsOrInserts cmp key index generation growth t (Ok (p, Some t)) o o
  gets_found growth o t k k_is place ordered found p at live = record {
    found = λ q u e. let z = pair q u e in (
      sym z.1,
      refl,
      subst (λ x. Answers index generation (asked_at cmp key (key t) o) o x Equal) z.0 answers,
    );
    inserted = λ none. absurd (none p t refl);
    ordered = ordered;
  }
    where
      answers : Answers index generation (asked_at cmp key (key t) o) o p Equal
      answers = subst (λ z. Answers index generation (asked_at cmp key z o) o p Equal) k_is
          (record { live = live; way = found.asked (index p) Equal at })

      pair : (q : P) (u : T)
          → ◌≡◌ {A = Result (P × Option T) OrdInsertionError} (Ok (p, Some t)) (Ok (q, Some u))
          → (p ≡ q) × (t ≡ u)
      pair q u e = let l : P × Option T = (p, Some t) in let r : P × Option T = (q, Some u) in
          let z : l ≡ r = cc in let y : Some t ≡ Some u = ap (λ x. x.1) z in
          (ap (λ x. x.0) z, cc y)

  -- the search found none, and there is an insertion
  pub inserts_unfound : (growth : Option Bool) (old new : Ordered T) (t : T) (k : K) → k ≡ key t
      → (place : Option (ℕ × Ordering)) (result : Result (P × Option T) OrdInsertionError)
      → IsOrdered old → IsAnswer (asked_at cmp key k old) (tree_in old) place
      → ((i : ℕ) → place ≢ Some (i, Equal))
      → InsertsAt index generation growth place t result old new
      → GetsOrInserts cmp key index generation growth t result old new
  inserts_unfound growth old new t k k_is place result ordered found none put = record {
    found = λ p u e. absurd (none (index p) (put.inserted.replaced p u e).0);
    inserted = λ none.
        inserts_by_key growth old new t k k_is place result ordered found put;
    ordered = put.ordered;
  }
