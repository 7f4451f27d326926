-- Two values that are written are written in either order.
use Rattle.std.proofs.Common.{
  ◌≡◌,
  ◌≢◌,
  ℕ,
  zero,
  suc,
  ◌-◌,
  List,
  Option,
  Some,
  None,
  IsSome,
  refl,
  sym,
}
use Rattle.std.proofs.Common.{ap, ◌∙◌, arith}
use Rattle.std.proofs.Math.ListN.{set}
use Rattle.std.specs.Option.{option_map}
use Rattle.std.proofs.lemmas.Bool.{ne_eqb}
use Rattle.std.proofs.lemmas.List.{set_comm}
use Rattle.triple_arena.specs.Content.{Content, entry_at, with_value}
use Rattle.triple_arena.specs.ContentLaws.{entry-with_value}
use Rattle.triple_arena.specs.DirectContent.{DirectContent, as_content, of_content}
use Rattle.triple_arena.specs.TwoValues.{with_two_values, with_two_direct_values}

module _ {T : Type 0} where
  -- an entry has a value
  pub valued : (o : Option (ℕ × T)) → IsSome o → IsSome (option_map (λ (e : ℕ × T). e.1) o)
  valued None some = some
  valued (Some e) some = refl

  apart : (c : Content T) (i j : ℕ) (t : T) → j ≢ i
      → entry_at (with_value c i t) j ≡ entry_at c j
  apart c i j t two = entry-with_value c i t j ∙ rw (ne_eqb j i two) refl

  nothing : (c : Content T) (i : ℕ) (t : T) → entry_at c i ≡ None → with_value c i t ≡ c
  nothing c i t none = rw none refl

  something : (c : Content T) (i : ℕ) (t : T) (e : ℕ × T) → entry_at c i ≡ Some e
      → with_value c i t ≡ record c { slots = set c.slots (i - 1) (Some (e.0, t)) }
  something c i t e some = rw some refl

  before_apart : (c : Content T) (i j : ℕ) (e f : ℕ × T) → entry_at c i ≡ Some e
      → entry_at c j ≡ Some f → i ≢ j → i - 1 ≢ j - 1
  before_apart c zero j e f at_i at_j two = cc
  before_apart c (suc i) zero e f at_i at_j two = cc
  before_apart c (suc i) (suc j) e f at_i at_j two = λ same. two (omega (arith, same))

  -- the writes at two indexes, one after the other, are one in either order
  pub with_value-commutes : (c : Content T) (i j : ℕ) (x y : T) → i ≢ j
      → with_value (with_value c i x) j y ≡ with_value (with_value c j y) i x
  with_value-commutes c i j x y two
      = by_entries (entry_at c i) (entry_at c j) refl refl
    where
      by_entries : (o p : Option (ℕ × T)) → entry_at c i ≡ o → entry_at c j ≡ p
          → with_value (with_value c i x) j y ≡ with_value (with_value c j y) i x
      by_entries None p at_i at_j =
          ap (λ (d : Content T). with_value d j y) (nothing c i x at_i)
          ∙ sym (nothing (with_value c j y) i x (apart c j i y two ∙ at_i))
      by_entries (Some e) None at_i at_j =
          nothing (with_value c i x) j y (apart c i j x (λ same. two (sym same)) ∙ at_j)
          ∙ ap (λ (d : Content T). with_value d i x) (sym (nothing c j y at_j))
      by_entries (Some e) (Some f) at_i at_j =
          let first = something (with_value c i x) j y f
          (apart c i j x (λ same. two (sym same)) ∙ at_j) in
          let second = something (with_value c j y) i x e (apart c j i y two ∙ at_i) in
          let order = set_comm c.slots (i - 1) (j - 1) (Some (e.0, x)) (Some (f.0, y))
          (before_apart c i j e f at_i at_j two) in
          first
          ∙ ap (λ (d : Content T). record d { slots = set d.slots (j - 1) (Some (f.0, y)) })
          (something c i x e at_i)
          ∙ ap (λ (l : List (Option (ℕ × T))). record c { slots = l }) order
          ∙ sym (ap (λ (d : Content T). record d { slots = set d.slots (i - 1) (Some (e.0, x)) })
          (something c j y f at_j))
          ∙ sym second

  pub two-commute : (c : Content T) (i j : ℕ) (x y : T) → i ≢ j
      → with_two_values c i j x y ≡ with_two_values c j i y x
  two-commute c i j x y two = with_value-commutes c (suc i) (suc j) x y
      (λ same. two (omega (arith, same)))

  as_written : (d : DirectContent T) (i : ℕ) (t : T)
      → as_content (of_content (with_value (as_content d) i t)) ≡ with_value (as_content d) i t
  as_written d i t = by_entry (entry_at (as_content d) i) refl
    where
      by_entry : (o : Option (ℕ × T)) → entry_at (as_content d) i ≡ o
          → as_content (of_content (with_value (as_content d) i t)) ≡ with_value (as_content d) i t
      by_entry None e = rw e refl
      by_entry (Some x) e = rw e refl

  -- the same of a direct arena
  pub direct_two-commute : (d : DirectContent T) (i j : ℕ) (x y : T) → i ≢ j
      → with_two_direct_values d i j x y ≡ with_two_direct_values d j i y x
  direct_two-commute d i j x y two =
      ap (λ (c : Content T). of_content (with_value c (suc j) y)) (as_written d (suc i) x)
      ∙ ap of_content (two-commute (as_content d) i j x y two)
      ∙ sym (ap (λ (c : Content T). of_content (with_value c (suc i) x)) (as_written d (suc j) y))
