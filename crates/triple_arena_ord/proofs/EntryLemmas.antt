-- An insertion at an entry, whose pointer was told before.
use Rattle.std.proofs.Common.{◌≡◌, ℕ, Option, Some, None, Result, Ok, refl, sym, ap, ◌∙◌, subst}
use Rattle.std.specs.Option.{option_map}
use Rattle.std.specs.declared.cmp.Ordering.{Ordering}
use Rattle.std.specs.declared.cmp.Ordering.TheVariants.{Equal}
use Rattle.triple_arena_ptr.specs.declared.errors.OrdInsertionError.{OrdInsertionError}
use Rattle.triple_arena.specs.Entries.{generation_at}
use Rattle.triple_arena_ord.specs.Ordered.{Ordered, order_in, entry_in}
use Rattle.triple_arena_ord.specs.Inserted.{Replaces, StandsAt, IsReplaced, IsAdded, IsSamePlace}
use Rattle.triple_arena_ord.specs.Inserted.{IsInsertedAt, InsertsAt}
use Rattle.triple_arena_ord.specs.InsertEntry.{IsReadyAt}
use Rattle.triple_arena_ord.proofs.GrowthLemmas.{never}
use Rattle.triple_arena_ord.proofs.SettleLemmas.{inserted_there}

same_stamp : {T : Type 0} (e : Option (ℕ × T)) (g h : ℕ) (u : T) → e ≡ Some (g, u)
    → option_map (λ e. e.0) e ≡ Some h → g ≡ h
same_stamp e g h u at is = let z : Some g ≡ Some h = sym (ap (option_map (λ e. e.0)) at)
    ∙ is in cc z

module _ {T : Type 0} where
  module _ {P : Type 0} (index generation : P → ℕ) (t : T) (o new : Ordered T) (p q : P)
      (u : Option T) where
    -- the insertion answers the pointer that was told
    inserted_told : (allows : Option OrdInsertionError → Type 0)
        (place there : Option (ℕ × Ordering)) (result : Result (P × Option T) OrdInsertionError)
        → result ≡ Ok (q, u) → IsSamePlace (order_in o) there place
        → IsReadyAt place (index p) (generation p) o
        → IsInsertedAt index generation allows there t result o new
        → IsInsertedAt index generation allows place t (Ok (p, u)) o new
    inserted_told allows place there result is same ready raw = by u refl
      where
        put : IsInsertedAt index generation allows place t result o new
        put = inserted_there index generation allows t o new there place result same raw

        pair : (a : P) (v : Option T)
            → ◌≡◌ {A = Result (P × Option T) OrdInsertionError} (Ok (p, u)) (Ok (a, v))
            → (p ≡ a) × (u ≡ v)
        pair a v e = let l : P × Option T = (p, u) in let r : P × Option T = (a, v) in
            let z : l ≡ r = cc in (ap (λ x. x.0) z, ap (λ x. x.1) z)

        pointed : (i j : ℕ) → place ≡ Some (i, Equal) → place ≡ Some (j, Equal) → i ≡ j
        pointed i j a b = let z : Some i ≡ Some j =
            ap (option_map (λ (x : ℕ × Ordering). x.0)) (sym a ∙ b) in cc z

        by : (v : Option T) → u ≡ v
            → IsInsertedAt index generation allows place t (Ok (p, u)) o new
        by (Some v) at = record {
          replaced = λ a w e.
              let z = pair a (Some w) e in
              let r = put.replaced q w (is ∙ ap (λ x. Ok (q, x)) z.1) in
              let told = ready.replacing (subst Replaces (sym r.0) refl) in
              let i : index q ≡ index p = pointed (index q) (index p) r.0 told.0 in
              let g : generation q ≡ generation p =
              same_stamp (entry_in o (index q)) (generation q) (generation p) w r.1.was
              (ap (λ j. generation_at (entry_in o) j) i ∙ told.1) in
              let k : index q ≡ index a = i ∙ ap index z.0 in
              let h : generation q ≡ generation a = g ∙ ap generation z.0 in (
                subst (λ j. place ≡ Some (j, Equal)) k r.0,
                subst (λ j. IsReplaced j (generation a) t w o new) k
                    (subst (λ h. IsReplaced (index q) h t w o new) h r.1),
              );
          added = λ a e. let z = pair a None e in let y : Some v ≡ None = sym at
              ∙ z.1 in absurd (cc);
          fits = λ a e. put.fits q (is ∙ ap (λ x. Ok (q, x)) (pair a None e).1);
          refused = λ error e. absurd (cc);
          same = λ error e. absurd (cc);
        }
        by None at = record {
          replaced = λ a w e. let z = pair a (Some w) e in let y : None ≡ Some w = sym at
              ∙ z.1 in absurd (cc);
          added = λ a e.
              let z = pair a None e in
              let r = put.added q (is ∙ ap (λ x. Ok (q, x)) z.1) in
              let told = ready.new (λ h. never place h (order_in o) (order_in new)
              (index q) r.0) in
              let k : index q ≡ index a = r.1.index ∙ sym told.1.0 ∙ ap index z.0 in
              let h : generation q ≡ generation a = r.1.generation ∙ sym told.1.1
              ∙ ap generation z.0 in (
                subst (λ j. StandsAt place (order_in o) (order_in new) j) k r.0,
                subst (λ j. IsAdded j (generation a) t o new) k
                    (subst (λ h. IsAdded (index q) h t o new) h r.1),
              );
          fits = λ a e. put.fits q (is ∙ ap (λ x. Ok (q, x)) (pair a None e).1);
          refused = λ error e. absurd (cc);
          same = λ error e. absurd (cc);
        }

    -- the same of the whole insertion
    pub inserts_told : (place there : Option (ℕ × Ordering))
        (result : Result (P × Option T) OrdInsertionError) → result ≡ Ok (q, u)
        → IsSamePlace (order_in o) there place
        → IsReadyAt place (index p) (generation p) o
        → InsertsAt index generation None there t result o new
        → InsertsAt index generation None place t (Ok (p, u)) o new
    inserts_told place there result is same ready put = record {
      inserted = inserted_told _ place there result is same ready put.inserted;
      counter = put.counter;
      room = put.room;
      ordered = put.ordered;
    }
