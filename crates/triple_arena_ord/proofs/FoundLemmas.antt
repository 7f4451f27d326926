-- What a search answers, from where it ends.
use Rattle.std.proofs.Common.{◌≡◌, ◌≢◌, ℕ, ◌<◌, List, [], ◌∷◌, map, Option, Some, None, IfSome}
use Rattle.std.proofs.Common.{refl, sym, ap, ◌∙◌, subst, arith}
use Rattle.std.specs.Borrow.{Bor}
use Rattle.std.specs.Option.{option_map}
use Rattle.std.specs.List.{FoldsTo, AllByRecursion, last_or}
use Rattle.std.specs.declared.cmp.Ordering.{Ordering}
use Rattle.std.specs.declared.cmp.Ordering.TheVariants.{Less, Equal, Greater}
use Rattle.triple_arena.specs.Entries.{generation_at}
use Rattle.rank_tree.specs.Tree.{Tree, leaf, node, walk, size}
use Rattle.rank_tree.specs.Shape.{root_of, count}
use Rattle.rank_tree.specs.Search.{IsParted, EndsAt, IsAnswer}
use Rattle.triple_arena_ord.specs.Near.{IsStop}
use Rattle.triple_arena_ord.specs.Asked.{Question, IsAsked, AnswersBy, answer_of, answer_at}
use Rattle.triple_arena_ord.specs.Asked.{found_by}
use Rattle.triple_arena_ord.specs.AskedLaws.{answers_behind}
use Rattle.triple_arena_ord.specs.Found.{IsFound, IsSimilar}
use Rattle.triple_arena_ord.specs.Ordered.{Ordered, IsOrdered, tree_in, order_in, entry_in, size_in}
use Rattle.rank_tree.specs.ClimbLaws.{size-walk}
use Rattle.triple_arena_ord.proofs.LiveLemmas.{entry_counted}
use Rattle.triple_arena_ord.proofs.SeekLemmas.{all-counted, unequal}
use Rattle.triple_arena_ord.proofs.WayLemmas.{walk-counted, way_answers}

-- a search that stops at an index of the walk answers it
pub stop_answers : (f : ℕ → Ordering) (t : Tree) (i : ℕ) (d : Ordering) → IsStop f (walk t) i d
    → IsAnswer f t (Some (i, d))
stop_answers f t i d s = record {
  empty = λ u. absurd (cc);
  lives = λ j e u. let z = pair u in subst (λ x. 0 < count x t) z.0 (walk-counted t i s.on);
  asked = λ j e u. let z = pair u in sym (ap f z.0) ∙ s.way ∙ z.1;
  parted = λ j e u p. let z = pair u in
      subst (λ x. EndsAt f (walk t) x e) z.0 (subst (λ x. EndsAt f (walk t) i x) z.1 (s.places p));
}
  where
    pair : {j : ℕ} {e : Ordering} → ◌≡◌ {A = Option (ℕ × Ordering)} (Some (i, d)) (Some (j, e))
        → (i ≡ j) × (d ≡ e)
    pair {j} {e} u = let a : ℕ × Ordering = (i, d) in let b : ℕ × Ordering = (j, e) in
        let g : a ≡ b = cc in (ap (λ p. p.0) g, ap (λ p. p.1) g)

if_at : {X : Type 0} (P : X → Type 0) (o : Option X) (x : X) → o ≡ Some x → IfSome o P → P x
if_at P None x e h = absurd (cc)
if_at P (Some y) x e h = let z : y ≡ x = cc in subst P z h

pub root_size : (t : Tree) → root_of t ≡ None → size t ≡ 0
root_size leaf e = refl
root_size (node l i k r) e = absurd (cc)

pub none_counted : (t : Tree) → size t ≡ 0 → (j : ℕ) → 0 < count j t → ⊥
none_counted leaf e j h = absurd (omega arith)
none_counted (node l i k r) e j h = absurd (omega arith)

module _ {T P : Type 0} (index generation : P → ℕ) (f : ℕ → Ordering)
    (parted : Type 0) (o : Ordered T) (is : IsOrdered o)
    (parts : parted → IsParted f (order_in o)) (a : Option (ℕ × Ordering))
    (answer : IsAnswer f (tree_in o) a) where
  pub found_from : (r : Option P) → ((p : P) → r ≡ Some p → a ≡ Some (index p, Equal))
      → (r ≡ None → (i : ℕ) → a ≢ Some (i, Equal))
      → IfSome r (λ p. generation_at (entry_in o) (index p) ≡ Some (generation p))
      → IsFound index generation f parted r o
  found_from r some none live = record {
    some = λ p e. record {
      live = if_at (λ p. generation_at (entry_in o) (index p) ≡ Some (generation p)) r p e live;
      way = answer.asked (index p) Equal (some p e);
    };
    none = λ p e i lives.
        let not = unequal f (tree_in o) a answer
        (λ j d u v. none e j (u ∙ ap (λ x. Some (j, x)) v)) (parts p) in
        all-counted (λ y. f y ≢ Equal) (tree_in o) not i (entry_counted o is i lives);
  }

  sized : size (tree_in o) ≡ size_in o
  sized = size-walk (tree_in o) ∙ is.counted

  pub similar_from : (r : Option (P × Ordering))
      → option_map {U = ℕ × Ordering} (λ x. (index x.0, x.1)) r ≡ a
      → IfSome r (λ x. generation_at (entry_in o) (index x.0) ≡ Some (generation x.0))
      → IsSimilar index generation f parted r o
  similar_from r same live = record {
    none = (
      λ e. sym sized ∙ root_size (tree_in o)
          (answer.empty (sym same ∙ ap (option_map {U = ℕ × Ordering} (λ x. (index x.0, x.1))) e)),
      λ e. nothing r refl (sized ∙ e),
    );
    some = λ p d e. record {
      live = if_at (λ x. generation_at (entry_in o) (index x.0) ≡ Some (generation x.0)) r
          (p, d) e live;
      way = answer.asked (index p) d (at p d e);
    };
    places = λ q p d e. answer.parted (index p) d (at p d e) (parts q);
  }
    where
      at : (p : P) (d : Ordering) → r ≡ Some (p, d) → a ≡ Some (index p, d)
      at p d e = sym same ∙ ap (option_map {U = ℕ × Ordering} (λ x. (index x.0, x.1))) e

      nothing : (s : Option (P × Ordering)) → r ≡ s → size (tree_in o) ≡ 0 → r ≡ None
      nothing None u z = u
      nothing (Some x) u z =
          absurd (none_counted (tree_in o) z (index x.0)
          (answer.lives (index x.0) x.1
          (sym same ∙ ap (option_map {U = ℕ × Ordering} (λ x. (index x.0, x.1))) u)))

-- what a closure was asked, where its answers are those of a function
module _ {T P F : Type 0} (index generation : P → ℕ)
    (step : F → P → Bor T → Ordering → F → Type 0) (o : Ordered T) (is : IsOrdered o)
    (g : F) (last : Option (P × Ordering)) (old new : ℕ)
    (asked : IsAsked index generation step (entry_in o) (order_in o) g last old new)
    (side : ℕ → ℕ × T → Ordering) (by : AnswersBy index generation step g side) where
  abbrev way_of : List (Question P T) → List (ℕ × Ordering)
  way_of questions = map (λ (q : Question P T). (index q.pointer, q.answer)) questions

  abbrev answers_of : List (Question P T) → List (P × Ordering)
  answers_of questions = map (λ (q : Question P T). (q.pointer, q.answer)) questions

  abbrev Listed : List (Question P T) → Type 0
  Listed questions = AllByRecursion
      (λ (q : Question P T). entry_in o (index q.pointer) ≡ Some (generation q.pointer, q.lent.now))
      questions

  agree : (questions : List (Question P T)) (h k : F) → AnswersBy index generation step h side
      → FoldsTo (λ g (q : Question P T) h. step g q.pointer q.lent q.answer h) h questions k
      → Listed questions
      → AllByRecursion (λ (a : ℕ × Ordering). answer_at side o a.0 ≡ a.1) (way_of questions)
  agree [] h k by made all = tt
  agree (q ∷ questions) h k by made all = (
    ap (answer_of side (index q.pointer)) all.0
        ∙ sym (by h ([], refl) q.pointer q.lent q.answer made.0 made.1),
    agree questions made.0 k
        (answers_behind index generation step side h q.pointer q.lent q.answer made.0 made.1 by)
        made.2 all.1,
  )

  last_same : (r : Option (P × Ordering)) (questions : List (Question P T))
      → option_map {U = ℕ × Ordering} (λ x. (index x.0, x.1)) (last_or r (answers_of questions))
      ≡ last_or (option_map {U = ℕ × Ordering} (λ x. (index x.0, x.1)) r) (way_of questions)
  last_same r [] = refl
  last_same r (q ∷ questions) = last_same (Some (q.pointer, q.answer)) questions

  abbrev Lives : P × Ordering → Type 0
  Lives x = generation_at (entry_in o) (index x.0) ≡ Some (generation x.0)

  last_lives : (r : Option (P × Ordering)) (questions : List (Question P T)) → IfSome r Lives
      → Listed questions → IfSome (last_or r (answers_of questions)) Lives
  last_lives r [] live all = live
  last_lives r (q ∷ questions) live all =
      last_lives (Some (q.pointer, q.answer)) questions (ap (option_map (λ (e : ℕ × T). e.0)) all.0)
      all.1

  abbrev f : ℕ → Ordering
  f = answer_at side o

  same : option_map {U = ℕ × Ordering} (λ x. (index x.0, x.1)) last
      ≡ last_or None (way_of asked.questions)
  same = ap (option_map {U = ℕ × Ordering} (λ x. (index x.0, x.1))) asked.ends
      ∙ last_same None asked.questions

  answer : IsAnswer f (tree_in o) (last_or None (way_of asked.questions))
  answer = way_answers f (tree_in o) (way_of asked.questions) asked.way
      (agree asked.questions g asked.last by asked.made asked.entries)

  live : IfSome last Lives
  live = subst (λ r. IfSome r Lives) (sym asked.ends)
      (last_lives None asked.questions tt asked.entries)

  pub similar_asked : IsSimilar index generation f (IsParted f (order_in o)) last o
  similar_asked = similar_from index generation f (IsParted f (order_in o)) o is
      (λ p. p) (last_or None (way_of asked.questions)) answer last same live

  pub found_asked : (r : Option P) → r ≡ found_by last
      → IsFound index generation f (IsParted f (order_in o)) r o
  found_asked r r_is = rw r_is
      (found_from index generation f (IsParted f (order_in o)) o is (λ p. p)
      (last_or None (way_of asked.questions)) answer (found_by last)
      (λ p e. sym same ∙ ap (option_map {U = ℕ × Ordering} (λ x. (index x.0, x.1))) (was last p e))
      (λ e i u. missed last e i (same ∙ u))
      (lives last live))
    where
      was : (l : Option (P × Ordering)) (p : P) → found_by l ≡ Some p → l ≡ Some (p, Equal)
      was None p e = absurd (cc)
      was (Some x) p e = at x.1 refl
        where
          at : (d : Ordering) → x.1 ≡ d → Some x ≡ Some (p, Equal)
          at Less u = let z : found_by (Some (x.0, x.1)) ≡ None =
              ap (λ d. found_by (Some (x.0, d))) u in absurd (cc)
          at Equal u =
              let z : found_by (Some (x.0, x.1)) ≡ Some x.0 =
              ap (λ d. found_by (Some (x.0, d))) u in
              let y : x.0 ≡ p = cc in ap Some (ap (λ d. (x.0, d)) u ∙ ap (λ q. (q, Equal)) y)
          at Greater u = let z : found_by (Some (x.0, x.1)) ≡ None =
              ap (λ d. found_by (Some (x.0, d))) u in absurd (cc)

      missed : (l : Option (P × Ordering)) → found_by l ≡ None → (i : ℕ)
          → option_map {U = ℕ × Ordering} (λ x. (index x.0, x.1)) l ≢ Some (i, Equal)
      missed None e i u = absurd (cc)
      missed (Some x) e i u =
          let s : ℕ × Ordering = (index x.0, x.1) in
          let t : ℕ × Ordering = (i, Equal) in
          let v : s ≡ t = cc in
          let w : x.1 ≡ Equal = ap (λ p. p.1) v in
          let z : found_by (Some (x.0, x.1)) ≡ Some x.0 = ap (λ d. found_by (Some (x.0, d))) w in
          absurd (cc)

      lives : (l : Option (P × Ordering)) → IfSome l Lives
          → IfSome (found_by l) (λ p. generation_at (entry_in o) (index p) ≡ Some (generation p))
      lives None h = tt
      lives (Some x) h = at x.1
        where
          at : (d : Ordering) → IfSome (found_by (Some (x.0, d)))
              (λ p. generation_at (entry_in o) (index p) ≡ Some (generation p))
          at Less = tt
          at Equal = h
          at Greater = tt

-- nothing is found where the last answer is not Equal
pub found_by_other : {P : Type 0} (last : Option (P × Ordering)) (p : P) (d : Ordering)
    → last ≡ Some (p, d) → d ≢ Equal → None ≡ found_by last
found_by_other last p d e not = sym (ap found_by e ∙ at d not)
  where
    at : (d : Ordering) → d ≢ Equal → found_by (Some (p, d)) ≡ None
    at Less n = refl
    at Equal n = absurd (n refl)
    at Greater n = refl
