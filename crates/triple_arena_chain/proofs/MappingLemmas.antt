-- What the calls of a map of links say of the values, and of the interlinks.
use Rattle.std.proofs.Common.{◌≡◌, Option, ℕ, List, [], ◌∷◌, ◌++◌, map, refl, ap, subst, ◌∙◌}
use Rattle.std.specs.Prelude.{Result, Ok, Err}
use Rattle.std.specs.Borrow.{Bor}
use Rattle.std.specs.List.{FoldsTo}
use Rattle.triple_arena.specs.Compression.{Move, entry_before, entry_after, listed_under, IsMapped}
use Rattle.triple_arena.specs.Copy.{Call, Calls, IsMappedCopy, IsRefusedCopy}
use Rattle.triple_arena_chain.specs.LinkShape.{IndexLink}
use Rattle.triple_arena_chain.specs.LinkCopies.{IsLinkedCopy}
use Rattle.triple_arena_chain.specs.Links.{prev_next_of}
use Rattle.triple_arena_chain.specs.Listed.{listed_value}

module _ {P T : Type 0} where
  -- a call of a map of links as a call of a map of their values
  abbrev valued_move : Move P (IndexLink T) → Move P T
  valued_move move = record
      { from = move.from; value = move.value.t; to = move.to; given = move.given.t }

  module _ (index generation : P → ℕ) where
    befores : (moves : List (Move P (IndexLink T)))
        → map (entry_before index generation) (map valued_move moves)
        ≡ map listed_value (map (entry_before index generation) moves)
    befores [] = refl
    befores (x ∷ moves) =
        ap (λ l. listed_value (entry_before index generation x) ∷ l) (befores moves)

    afters : (moves : List (Move P (IndexLink T)))
        → map (entry_after index generation) (map valued_move moves)
        ≡ map listed_value (map (entry_after index generation) moves)
    afters [] = refl
    afters (x ∷ moves) = ap (λ l. listed_value (entry_after index generation x) ∷ l) (afters moves)

module _ {P T F G : Type 0} {index generation : P → ℕ} {step : F → P → T → P → T → F → Type 0}
    {linked : G → P → IndexLink T → P → IndexLink T → G → Type 0} (state : G → F) where
  -- the values are those that a compression's map gave
  pub values_moved : {g : G} {old new : List (ℕ × (ℕ × IndexLink T))}
      → ((h : G) (from : P) (l : IndexLink T) (to : P) (m : IndexLink T) (k : G)
      → linked h from l to m k → step (state h) from l.t to m.t (state k))
      → IsMapped index generation linked g old new
      → IsMapped index generation step (state g) (map listed_value old) (map listed_value new)
  values_moved {g} one m =
      record {
        moves = map valued_move m.moves;
        last = state m.last;
        calls = by_moves m.moves g m.calls;
        before = befores index generation m.moves ∙ ap (map listed_value) m.before;
        after = afters index generation m.moves ∙ ap (map listed_value) m.after;
      }
    where
      by_moves : (moves : List (Move P (IndexLink T))) (h : G)
          → FoldsTo (λ h move k. linked h move.from move.value move.to move.given k) h moves m.last
          → FoldsTo (λ f move k. step f move.from move.value move.to move.given k) (state h)
          (map valued_move moves) (state m.last)
      by_moves [] h calls = ap state calls
      by_moves (x ∷ moves) h calls = (
        state calls.0,
        one h x.from x.value x.to x.given calls.0 calls.1,
        by_moves moves calls.0 calls.2,
      )

module _ {P L T : Type 0} where
  -- a call of a copy's map of links as a call of a map to their values
  abbrev valued_call : Call P L (IndexLink T) → Call P L T
  valued_call call = record { pointer = call.pointer; lent = call.lent; given = call.given.t }

module _ {P L A : Type 0} (index generation : P → ℕ) where
  abbrev seen : Call P L A → ℕ × (ℕ × L)
  seen call = listed_under index generation call.pointer call.lent.now

  abbrev made : Call P L A → ℕ × (ℕ × A)
  made call = listed_under index generation call.pointer call.given

module _ {P L T : Type 0} (index generation : P → ℕ) where
  seens : (calls : List (Call P L (IndexLink T)))
      → map (seen index generation) (map valued_call calls) ≡ map (seen index generation) calls
  seens [] = refl
  seens (x ∷ calls) = ap (λ l. seen index generation x ∷ l) (seens calls)

  mades : (calls : List (Call P L (IndexLink T)))
      → map (made index generation) (map valued_call calls)
      ≡ map listed_value (map (made index generation) calls)
  mades [] = refl
  mades (x ∷ calls) = ap (λ l. listed_value (made index generation x) ∷ l) (mades calls)

module _ {P L T E F G : Type 0} (step : F → P → Bor L → Result T E → F → Type 0)
    (linked : G → P → Bor L → Result (IndexLink T) E → G → Type 0) (state : G → F) where
  valued_calls : ((h : G) (p : P) (u : Bor L) (l : IndexLink T) (k : G) → linked h p u (Ok l) k
      → step (state h) p u (Ok l.t) (state k))
      → (calls : List (Call P L (IndexLink T))) (h last : G) → Calls linked h calls last
      → Calls step (state h) (map valued_call calls) (state last)
  valued_calls one [] h last calls = ap state calls
  valued_calls one (x ∷ rest) h last calls = (
    state calls.0,
    one h x.pointer x.lent x.given calls.0 calls.1,
    valued_calls one rest calls.0 last calls.2,
  )

module _ {P L T E F G : Type 0} {index generation : P → ℕ}
    {step : F → P → Bor L → Result T E → F → Type 0}
    {linked : G → P → Bor L → Result (IndexLink T) E → G → Type 0} (state : G → F) where
  -- the values are those that a copy's map gave
  pub values_mapped : {g : G} {old : List (ℕ × (ℕ × L))} {new : List (ℕ × (ℕ × IndexLink T))}
      → ((h : G) (p : P) (u : Bor L) (l : IndexLink T) (k : G) → linked h p u (Ok l) k
      → step (state h) p u (Ok l.t) (state k))
      → IsMappedCopy index generation linked g old new
      → IsMappedCopy index generation step (state g) old (map listed_value new)
  values_mapped {g} one m =
      record {
        calls = map valued_call m.calls;
        last = state m.last;
        made = valued_calls step linked state one m.calls g m.last m.made;
        before = seens index generation m.calls ∙ m.before;
        after = mades index generation m.calls ∙ ap (map listed_value) m.after;
      }

  -- and where it refused, the map refused
  pub values_refused : {g : G} {old : List (ℕ × (ℕ × L))}
      → ((h : G) (p : P) (u : Bor L) (l : IndexLink T) (k : G) → linked h p u (Ok l) k
      → step (state h) p u (Ok l.t) (state k))
      → ((h : G) (p : P) (u : Bor L) (e : E) (k : G) → linked h p u (Err e) k
      → step (state h) p u (Err e) (state k))
      → IsRefusedCopy index generation linked g old
      → IsRefusedCopy index generation step (state g) old
  values_refused {g} one refuses r =
      record {
        calls = map valued_call r.calls;
        refusing = state r.refusing;
        last = state r.last;
        pointer = r.pointer;
        lent = r.lent;
        error = r.error;
        rest = r.rest;
        made = valued_calls step linked state one r.calls g r.refusing r.made;
        refused = refuses r.refusing r.pointer r.lent r.error r.last r.refused;
        before = ap (λ l. l ++ listed_under index generation r.pointer r.lent.now ∷ r.rest)
            (seens index generation r.calls) ∙ r.before;
      }

module _ {P L T E G : Type 0} {index generation : P → ℕ}
    {linked : G → P → Bor L → Result (IndexLink T) E → G → Type 0} where
  -- the interlinks are those of the links that were lent
  pub links_copied : (neighbors : L → Option ℕ × Option ℕ) {g : G} {old : List (ℕ × (ℕ × L))}
      {new : List (ℕ × (ℕ × IndexLink T))}
      → ((h : G) (p : P) (u : Bor L) (l : IndexLink T) (k : G) → linked h p u (Ok l) k
      → prev_next_of l ≡ neighbors u.now)
      → IsMappedCopy index generation linked g old new → IsLinkedCopy neighbors old new
  links_copied neighbors {g} {old} {new} one m =
      subst (λ l. IsLinkedCopy neighbors l new) m.before
      (subst (IsLinkedCopy neighbors (map (seen index generation) m.calls)) m.after
      (by_calls m.calls g m.made))
    where
      by_calls : (calls : List (Call P L (IndexLink T))) (h : G) → Calls linked h calls m.last
          → IsLinkedCopy neighbors (map (seen index generation) calls)
          (map (made index generation) calls)
      by_calls [] h calls = tt
      by_calls (x ∷ rest) h calls =
          ((refl, one h x.pointer x.lent x.given calls.0 calls.1), by_calls rest calls.0 calls.2)
