-- A search goes down and asks a closure.
use Rattle.std.proofs.Common.{◌≡◌, ℕ, ◌+◌, ◌<◌, ◌≤◌, List, [], ◌∷◌, ◌++◌, length, map, append-nil}
use Rattle.std.proofs.Common.{append_assoc, length-append, Option, Some, None, refl, sym, ap, ◌∙◌}
use Rattle.std.proofs.Common.{subst, arith}
use Rattle.std.specs.Borrow.{Bor}
use Rattle.std.specs.Option.{option_map}
use Rattle.std.specs.List.{FoldsTo, AllByRecursion, last_or}
use Rattle.std.proofs.lemmas.Fn.{FoldsTo-push}
use Rattle.std.proofs.lemmas.List.{map-append}
use Rattle.std.specs.declared.cmp.Ordering.{Ordering}
use Rattle.std.specs.declared.cmp.Ordering.TheVariants.{Less, Equal, Greater}
use Rattle.rank_tree.specs.NodeView.{NodeView}
use Rattle.rank_tree.specs.declared.side.Side.TheVariants.{Left}
use Rattle.triple_arena_ord.specs.NodeShape.{IndexNode}
use Rattle.triple_arena_ord.specs.Node.{view_of, itemed}
use Rattle.rank_tree.specs.Store.{Store, rank_or_link, rank_or_zero}
use Rattle.rank_tree.specs.Tree.{Tree, leaf, node, walk, rank_of, IsRanked}
use Rattle.rank_tree.specs.Shape.{node_view, root_of, Represents}
use Rattle.rank_tree.specs.Whole.{IsWhole, tree_of}
use Rattle.rank_tree.specs.SpotLaws.{rank_link}
use Rattle.triple_arena_ord.specs.Asked.{IsWay, Question, IsAsked}
use Rattle.triple_arena_ord.specs.Node.{nodes_among, items_among}

-- where an answer leads
abbrev pub goes : Ordering → NodeView → Option ℕ
goes Less v = v.left
goes Equal v = None
goes Greater v = v.right

-- at a node without children no answer leads on
pub goes_nowhere : (d : Ordering) (v : NodeView) → v.left ≡ None → v.right ≡ None → goes d v ≡ None
goes_nowhere Less v left right = left
goes_nowhere Equal v left right = refl
goes_nowhere Greater v left right = right

All-push : {X : Type 0} (P : X → Type 0) (xs : List X) (x : X) → AllByRecursion P xs → P x
    → AllByRecursion P (xs ++ x ∷ [])
All-push P [] x all h = (h, tt)
All-push P (y ∷ ys) x all h = (all.0, All-push P ys x all.1 h)

last-push : {X : Type 0} (o : Option X) (xs : List X) (x : X) → last_or o (xs ++ x ∷ []) ≡ Some x
last-push o [] x = refl
last-push o (y ∷ ys) x = last-push (Some y) ys x

module _ {T P F : Type 0} (index generation : P → ℕ)
    (step : F → P → Bor T → Ordering → F → Type 0) (entry : ℕ → Option (ℕ × IndexNode T)) where
  abbrev way_of : List (Question P T) → List (ℕ × Ordering)
  way_of questions = map (λ (q : Question P T). (index q.pointer, q.answer)) questions

  abbrev answers_of : List (Question P T) → List (P × Ordering)
  answers_of questions = map (λ (q : Question P T). (q.pointer, q.answer)) questions

  abbrev Made : F → List (Question P T) → F → Type 0
  Made f questions last =
      FoldsTo (λ g (q : Question P T) h. step g q.pointer q.lent q.answer h) f questions last

  abbrev AreEntries : List (Question P T) → Type 0
  AreEntries questions =
      AllByRecursion (λ (q : Question P T). items_among entry (index q.pointer)
      ≡ Some (generation q.pointer, q.lent.now)) questions

  -- how far the questions have come
  pub record Asking (whole : Tree) (f : F) (link : Option ℕ) (place : Option (P × Ordering))
      (last : F) (old new : ℕ) : Type 0 where
    pub questions : List (Question P T)
    pub above : Option ℕ
    pub rest : Tree
    pub made : Made f questions last
    pub entries : AreEntries questions
    pub going : (more : List (ℕ × Ordering)) → IsWay more (walk rest)
        → IsWay (way_of questions ++ more) (walk whole)
    pub ends : place ≡ last_or None (answers_of questions)
    pub ticks : new ≡ old + length questions
    pub link_is : link ≡ root_of rest
    pub stands : Represents (nodes_among entry) above rest
    pub ranked : IsRanked rest
    pub left_over : length questions + rank_of rest ≤ rank_of whole

  pub asking_begins : (root : Option ℕ) (f : F) (old : ℕ) → IsWhole (nodes_among entry) root
      → Asking (tree_of (nodes_among entry) root) f root None f old old
  asking_begins root f old is = record {
    questions = [];
    above = None;
    rest = tree_of (nodes_among entry) root;
    made = refl;
    entries = tt;
    going = λ more w. w;
    ends = refl;
    ticks = omega arith;
    link_is = is.stands.0;
    stands = is.stands.1;
    ranked = is.ranked;
    left_over = omega arith;
  }

  pub record Asked (whole : Tree) (f : F) (link next : Option ℕ) (place : Option (P × Ordering))
      (last : F) (old new : ℕ) : Type 0 where
    pub goes_on : Asking whole f next place last old new
    pub falls : rank_or_link (nodes_among entry) next < rank_or_link
        (nodes_among entry) link

  pub asking_step : (whole : Tree) (f : F) (link : Option ℕ) (place : Option (P × Ordering)) (g : F)
      (old new : ℕ) → Asking whole f link place g old new
      → (i : ℕ) → link ≡ Some i → (stamp : ℕ) (v : IndexNode T) → entry i ≡ Some (stamp, v)
      → (p : P) → index p ≡ i → generation p ≡ stamp
      → (lent : Bor T) → lent.now ≡ v.t → (d : Ordering) (h : F) → step g p lent d h
      → (next : Option ℕ) → next ≡ goes d (view_of v)
      → (ticked : ℕ) → ticked ≡ new + 1 → Asked whole f link next (Some (p, d)) h old ticked
  asking_step whole f link place g old new a i link_is stamp v at p index_is stamp_is lent lent_is d
      h call next next_is ticked ticked_is = by a.rest refl
    where
      n : Store
      n = nodes_among entry

      q : Question P T
      q = record { pointer = p; lent = lent; answer = d }

      made : Made f (a.questions ++ q ∷ []) h
      made = FoldsTo-push (λ g (q : Question P T) h. step g q.pointer q.lent q.answer h) f
          a.questions g q h a.made call

      entries : AreEntries (a.questions ++ q ∷ [])
      entries =
          let here : items_among entry (index p) ≡ Some (generation p, lent.now) =
          rw (index_is, stamp_is, lent_is) (ap (option_map itemed) at) in
          All-push (λ (q : Question P T). items_among entry (index q.pointer)
          ≡ Some (generation q.pointer, q.lent.now)) a.questions q a.entries here

      ends : Some (p, d) ≡ last_or None (answers_of (a.questions ++ q ∷ []))
      ends = rw map-append (sym (last-push None (answers_of a.questions) (p, d)))

      counted : length (a.questions ++ q ∷ []) ≡ length a.questions + 1
      counted = length-append a.questions (q ∷ [])

      flat : (more : List (ℕ × Ordering))
          → way_of (a.questions ++ q ∷ []) ++ more ≡ way_of a.questions ++ (i, d) ∷ more
      flat more = simp (map-append, append_assoc)
          (ap (λ x. way_of a.questions ++ (x, d) ∷ more) index_is)

      by : (t : Tree) → a.rest ≡ t → Asked whole f link next (Some (p, d)) h old ticked
      by leaf e = let z : None ≡ Some i = sym (ap root_of e) ∙ sym a.link_is
          ∙ link_is in absurd (cc)
      by (node l x k r) e = turn d refl
        where
          xi : x ≡ i
          xi = let z : Some x ≡ Some i = sym (ap root_of e) ∙ sym a.link_is ∙ link_is in cc

          stands : Represents n a.above (node l i k r)
          stands = subst (λ y. Represents n a.above (node l y k r)) xi
              (subst (Represents n a.above) e a.stands)

          ranked : IsRanked (node l x k r)
          ranked = subst IsRanked e a.ranked

          is : view_of v ≡ node_view Left a.above (root_of l) k (root_of r)
          is = let z : Some (view_of v)
              ≡ Some (node_view Left a.above (root_of l) k (root_of r)) =
              sym (ap (option_map (λ e. view_of e.1)) at) ∙ stands.0 in cc

          at_rank : rank_or_link n link ≡ k
          at_rank = ap (rank_or_link n) link_is ∙ ap rank_or_zero stands.0

          over : length a.questions + k ≤ rank_of whole
          over = subst (λ t. length a.questions + rank_of t ≤ rank_of whole) e a.left_over

          going : (rest : Tree)
              → ((more : List (ℕ × Ordering)) → IsWay more (walk rest)
              → IsWay ((i, d) ∷ more) (walk l ++ x ∷ walk r))
              → (more : List (ℕ × Ordering)) → IsWay more (walk rest)
              → IsWay (way_of (a.questions ++ q ∷ []) ++ more) (walk whole)
          going rest here more w =
              subst (λ l. IsWay l (walk whole)) (sym (flat more))
              (a.going ((i, d) ∷ more)
              (subst (λ t. IsWay ((i, d) ∷ more) (walk t)) (sym e) (here more w)))

          to : (above : Option ℕ) (rest : Tree) → next ≡ root_of rest → Represents n above rest
              → IsRanked rest → rank_of rest < k
              → ((more : List (ℕ × Ordering)) → IsWay more (walk rest)
              → IsWay ((i, d) ∷ more) (walk l ++ x ∷ walk r))
              → Asked whole f link next (Some (p, d)) h old ticked
          to above rest next_root rest_stands rest_ranked less here =
              let rank = rank_link n above rest rest_stands in
              let ticks = a.ticks in
              record {
                goes_on = record {
                  questions = a.questions ++ q ∷ [];
                  above = above;
                  rest = rest;
                  made = made;
                  entries = entries;
                  going = going rest here;
                  ends = ends;
                  ticks = omega (arith, counted, ticks, ticked_is);
                  link_is = next_root;
                  stands = rest_stands;
                  ranked = rest_ranked;
                  left_over = omega (arith, counted, over, less);
                };
                falls = rw (next_root, at_rank, rank) less;
              }

          turn : (b : Ordering) → d ≡ b → Asked whole f link next (Some (p, d)) h old ticked
          turn Less u =
              to (Some i) l (next_is ∙ ap (λ b. goes b (view_of v)) u ∙ ap (λ z. z.left) is)
              stands.1 ranked.1 ranked.0.above_left
              (λ more w. rw u (
                record { front = walk l; back = walk r; is = ap (λ y. walk l ++ y ∷ walk r) xi },
                w,
              ))
          turn Equal u =
              to None leaf (next_is ∙ ap (λ b. goes b (view_of v)) u) tt tt
              (let b = ranked.0.above_left in omega (arith, b))
              (λ more w. rw u (
                record { front = walk l; back = walk r; is = ap (λ y. walk l ++ y ∷ walk r) xi },
                w,
              ))
          turn Greater u =
              to (Some i) r (next_is ∙ ap (λ b. goes b (view_of v)) u ∙ ap (λ z. z.right) is)
              stands.2 ranked.2 ranked.0.above_right
              (λ more w. rw u (
                record { front = walk l; back = walk r; is = ap (λ y. walk l ++ y ∷ walk r) xi },
                w,
              ))

  pub asking_ends : (whole : Tree) (f : F) (link : Option ℕ) (place : Option (P × Ordering)) (g : F)
      (old new : ℕ) → Asking whole f link place g old new → link ≡ None
      → (asked : IsAsked index generation step (items_among entry) (walk whole) f place old new)
      × (asked.last ≡ g) × (new ≤ old + rank_of whole)
  asking_ends whole f link place g old new a none = (
    record {
      questions = a.questions;
      last = g;
      made = a.made;
      entries = a.entries;
      way = subst (λ l. IsWay l (walk whole)) (append-nil (way_of a.questions))
          (a.going [] (nothing a.rest refl));
      ends = a.ends;
      ticks = a.ticks;
    },
    refl,
    let ticks = a.ticks in let over = a.left_over in omega (arith, ticks, over),
  )
    where
      nothing : (t : Tree) → a.rest ≡ t → walk a.rest ≡ []
      nothing leaf e = ap walk e
      nothing (node l x k r) e = let z : Some x ≡ None = sym (ap root_of e) ∙ sym a.link_is
          ∙ none in absurd (cc)
