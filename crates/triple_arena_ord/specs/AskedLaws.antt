-- Where the questions of a search end, and what each of them keeps of the closure that is asked.
use Rattle.std.proofs.Common.{◌≡◌, ◌≢◌, ℕ, List, [], ◌∷◌, ◌++◌, append_assoc, Option, Some, None}
use Rattle.std.proofs.Common.{refl, sym, ap, ◌∙◌, subst}
use Rattle.std.specs.Borrow.{Bor}
use Rattle.std.specs.List.{FoldsTo, AllByRecursion}
use Rattle.std.specs.declared.cmp.Ordering.{Ordering}
use Rattle.std.specs.declared.cmp.Ordering.TheVariants.{Less, Equal, Greater}
use Rattle.linked_lists.specs.LinkedLists.{first_or, last_or}
use Rattle.linked_lists.specs.LinkedListLaws.{first_or-append, last_or-append}
use Rattle.triple_arena_ord.specs.Asked.{left_by, IsWay, Question, Reaches, AnswersBy}

-- the last index that was asked and answered Greater, and the last that answered Less
abbrev pub lower_by : Ordering → Option ℕ → ℕ → Option ℕ
lower_by Less o i = o
lower_by Equal o i = o
lower_by Greater o i = Some i

abbrev pub upper_by : Ordering → Option ℕ → ℕ → Option ℕ
upper_by Less o i = Some i
upper_by Equal o i = o
upper_by Greater o i = o

abbrev pub last_greater : Option ℕ → List (ℕ × Ordering) → Option ℕ
last_greater o [] = o
last_greater o (a ∷ asked) = last_greater (lower_by a.1 o a.0) asked

abbrev pub last_less : Option ℕ → List (ℕ × Ordering) → Option ℕ
last_less o [] = o
last_less o (a ∷ asked) = last_less (upper_by a.1 o a.0) asked

-- the list is cut where both stand, one at each side, as far as there are any
pub record IsCutAt (w : List ℕ) (lower upper : Option ℕ) : Type 0 where
  pub low : List ℕ
  pub high : List ℕ
  pub is : w ≡ low ++ high
  pub last : last_or None low ≡ lower
  pub first : first_or high None ≡ upper

record Cut (w : List ℕ) (before after : Option ℕ) (asked : List (ℕ × Ordering)) : Type 0 where
  pub low : List ℕ
  pub high : List ℕ
  pub is : w ≡ low ++ high
  pub last : last_or before low ≡ last_greater before asked
  pub first : first_or high after ≡ last_less after asked

cut_by : (asked : List (ℕ × Ordering)) (w : List ℕ) (before after : Option ℕ) → IsWay asked w
    → AllByRecursion (λ (a : ℕ × Ordering). a.1 ≢ Equal) asked → Cut w before after asked
cut_by [] w before after way all
    = record { low = []; high = []; is = way; last = refl; first = refl }
cut_by (a ∷ asked) w before after way all =
    turn a.1 refl (λ u. cut_by asked way.0.front before (Some a.0)
    (subst (λ d. IsWay asked (left_by d way.0.front way.0.back)) u way.1) all.1)
    (λ u. cut_by asked way.0.back (Some a.0) after
    (subst (λ d. IsWay asked (left_by d way.0.front way.0.back)) u way.1) all.1)
  where
    turn : (d : Ordering) → a.1 ≡ d → (a.1 ≡ Less → Cut way.0.front before (Some a.0) asked)
        → (a.1 ≡ Greater → Cut way.0.back (Some a.0) after asked) → Cut w before after (a ∷ asked)
    turn Less u to_left to_right =
        let c = to_left u in
        record {
          low = c.low;
          high = c.high ++ a.0 ∷ way.0.back;
          is = way.0.is ∙ ap (λ l. l ++ a.0 ∷ way.0.back) c.is ∙ append_assoc c.low c.high
              (a.0 ∷ way.0.back);
          last = c.last ∙ ap (λ d. last_greater (lower_by d before a.0) asked) (sym u);
          first = first_or-append c.high (a.0 ∷ way.0.back) after ∙ c.first ∙ ap
              (λ d. last_less (upper_by d after a.0) asked) (sym u);
        }
    turn Equal u to_left to_right = absurd (all.0 u)
    turn Greater u to_left to_right =
        let c = to_right u in
        record {
          low = way.0.front ++ a.0 ∷ c.low;
          high = c.high;
          is = way.0.is ∙ ap (λ l. way.0.front ++ a.0 ∷ l) c.is ∙ sym
              (append_assoc way.0.front (a.0 ∷ c.low) c.high);
          last = last_or-append before way.0.front (a.0 ∷ c.low) ∙ c.last ∙ ap
              (λ d. last_greater (lower_by d before a.0) asked) (sym u);
          first = c.first ∙ ap (λ d. last_less (upper_by d after a.0) asked) (sym u);
        }

-- where no answer was Equal, the last index that answered Greater and the last that answered Less
-- are neighbors, as far as there are any
pub way_ends : (asked : List (ℕ × Ordering)) (w : List ℕ) → IsWay asked w
    → AllByRecursion (λ (a : ℕ × Ordering). a.1 ≢ Equal) asked
    → IsCutAt w (last_greater None asked) (last_less None asked)
way_ends asked w way all =
    let c = cut_by asked w None None way all in
    record { low = c.low; high = c.high; is = c.is; last = c.last; first = c.first }

module _ {P T F : Type 0} (index generation : P → ℕ) (step : F → P → Bor T → Ordering → F
    → Type 0) where
  -- what each question keeps holds of each state that is reached, as that a closure captured this
  -- key
  pub reached_kept : (K : F → Type 0)
      → ((g : F) (p : P) (t : Bor T) (d : Ordering) (h : F) → K g → step g p t d h → K h)
      → (f g : F) → K f → Reaches index generation step f g → K g
  reached_kept K keeps f g at reached = along reached.0 f g at reached.1
    where
      along : (questions : List (Question P T)) (f g : F) → K f
          → FoldsTo (λ g q h. step g q.pointer q.lent q.answer h) f questions g → K g
      along [] f g at made = subst K made at
      along (q ∷ questions) f g at made =
          along questions made.0 g (keeps f q.pointer q.lent q.answer made.0 at made.1) made.2

  -- a closure that keeps what its answers depend on answers so from its first state on
  pub answers_kept : (K : F → Type 0) (side : ℕ → ℕ × T → Ordering)
      → ((g : F) (p : P) (t : Bor T) (d : Ordering) (h : F) → K g → step g p t d h
      → K h × (d ≡ side (index p) (generation p, t.now)))
      → (f : F) → K f → AnswersBy index generation step f side
  answers_kept K side tells f at g reached p t d h s =
      let keeps = reached_kept K (λ g p t d h k s. (tells g p t d h k s).0) in
      (tells g p t d h (keeps f g at reached) s).1

  -- and so do the answers behind a question
  pub answers_behind : (side : ℕ → ℕ × T → Ordering) (f : F) (p : P) (t : Bor T)
      (d : Ordering) (h : F)
      → step f p t d h → AnswersBy index generation step f side
      → AnswersBy index generation step h side
  answers_behind side f p t d h s by g reached =
      let q : Question P T = record { pointer = p; lent = t; answer = d } in
      by g (q ∷ reached.0, (h, s, reached.1))
