-- A place directly before or after an index, where that has a child on this side: the neighbor in
-- the list has none on the other.
use Rattle.std.proofs.Common.{◌≡◌, ℕ, List, [], ◌∷◌, ◌++◌, append_assoc, Option, Some, None, IsSome}
use Rattle.std.proofs.Common.{is_some, true, Bool, Result, Ok, Err, refl, sym, ap, ◌∙◌, subst}
use Rattle.std.specs.Option.{option_map}
use Rattle.std.specs.declared.cmp.Ordering.{Ordering}
use Rattle.std.specs.declared.cmp.Ordering.TheVariants.{Less, Equal, Greater}
use Rattle.triple_arena_ptr.specs.declared.errors.OrdInsertionError.{OrdInsertionError}
use Rattle.triple_arena.specs.Content.{entry_at}
use Rattle.triple_arena_chain.specs.LinkShape.{IndexLink}
use Rattle.linked_lists.specs.LinkedLists.{IsLinear, Apart, next_in, prev_in, next_at, prev_at}
use Rattle.triple_arena_chain.specs.Links.{ends_in, entry_ends}
use Rattle.linked_lists.specs.UniquenessLaws.{linear_apart}
use Rattle.rank_tree.specs.declared.side.Side.{Side}
use Rattle.rank_tree.specs.declared.side.Side.TheVariants.{Left, Right}
use Rattle.triple_arena_ord.specs.NodeShape.{IndexNode}
use Rattle.rank_tree.specs.NodeView.{NodeView}
use Rattle.triple_arena_ord.specs.Node.{nodes_in, prev_for, next_for}
use Rattle.rank_tree.specs.Tree.{Tree, leaf, node, walk}
use Rattle.rank_tree.specs.Shape.{node_view, root_of, Context, top, under, plug, holder}
use Rattle.rank_tree.specs.Shape.{RepresentsTree}
use Rattle.rank_tree.specs.Search.{IsFreeAt}
use Rattle.triple_arena_ord.specs.Ordered.{Ordered, IsOrdered, StandsBeside, tree_in, order_in}
use Rattle.triple_arena_ord.specs.Ordered.{size_in}
use Rattle.triple_arena_ord.specs.Inserted.{StandsAt, Replaces, IsSamePlace, IsReplaced, IsAdded}
use Rattle.triple_arena_ord.specs.Inserted.{AddsAt, IsInsertedAt, InsertsAt, room_left}
use Rattle.triple_arena_ord.specs.Inserted.{under as under_pointer}
use Rattle.rank_tree.specs.FrameLaws.{plug-opens}
use Rattle.rank_tree.specs.DescentLaws.{before, after, plug-walk_is}
use Rattle.triple_arena_ord.proofs.GapLemmas.{linear_ends, last_snoc}
use Rattle.triple_arena_ord.proofs.InsertLemmas.{split_same}
use Rattle.triple_arena_ord.proofs.LeafLemmas.{Located, located}
use Rattle.triple_arena_ord.proofs.SuccessorLemmas.{flat, snoc}
use Rattle.rank_tree.specs.UniqueLaws.{plug_in, plug_in-plug, First, first_at}

-- the greatest index of a tree: the last of its walk has no right child
record Final (t : Tree) : Type 0 where
  context : Context
  index : ℕ
  rank : ℕ
  left : Tree
  is : t ≡ plug context (node left index rank leaf)
  at_end : walk t ≡ walk (plug context left) ++ index ∷ []

final_at : (t : Tree) (i : ℕ) → root_of t ≡ Some i → Final t
final_at leaf i e = absurd (cc)
final_at (node l x k leaf) i e =
    record { context = top; index = x; rank = k; left = l; is = refl; at_end = refl }
final_at (node l x k (node a y j b)) i e = go (final_at (node a y j b) y refl)
  where
    go : Final (node a y j b) → Final (node l x k (node a y j b))
    go h = record {
      context = plug_in (under top Right x k l) h.context;
      index = h.index;
      rank = h.rank;
      left = h.left;
      is = ap (λ t. node l x k t) h.is
          ∙ sym (plug_in-plug (under top Right x k l) h.context (node h.left h.index h.rank leaf));
      at_end = ap (λ w. walk l ++ x ∷ w) h.at_end
          ∙ sym (append_assoc (walk l) (x ∷ walk (plug h.context h.left)) (h.index ∷ []))
          ∙ ap (λ t. walk t ++ h.index ∷ [])
          (sym (plug_in-plug (under top Right x k l) h.context h.left));
    }

-- where an item is replaced, one is at the same place
pub replaces_there : (w : List ℕ) (one other : Option (ℕ × Ordering)) → IsSamePlace w one other
    → Replaces one → Replaces other
replaces_there w None other same replaces = absurd replaces
replaces_there w (Some a) other same replaces =
    subst Replaces (sym (same.replaced a.0 (ap (λ d. Some (a.0, d)) replaces))) refl

module _ {T : Type 0} (t : T) (o p : Ordered T) where
  -- a new entry at a place is one at the same place
  pub adds_there : (one other : Option (ℕ × Ordering)) (i g : ℕ)
      → IsSamePlace (order_in o) one other → AddsAt one i g t o p
      → AddsAt other i g t o p
  adds_there one other i g same put = record {
    stands = same.stands (order_in p) i put.stands;
    added = put.added;
    counter = put.counter;
    room = put.room;
    ordered = put.ordered;
  }

module _ {T P : Type 0} (index generation : P → ℕ)
    (allows : Option OrdInsertionError → Type 0) (t : T) (o p : Ordered T) where
  -- an insertion at a place is one at the same place
  pub inserted_there : (one other : Option (ℕ × Ordering))
      (result : Result (P × Option T) OrdInsertionError) → IsSamePlace (order_in o) one other
      → IsInsertedAt index generation allows one t result o p
      → IsInsertedAt index generation allows other t result o p
  inserted_there one other result same put = record {
    replaced = λ q u e. let r = put.replaced q u e in (same.replaced (index q) r.0, r.1);
    added = λ q e. let r = put.added q e in (same.stands (order_in p) (index q) r.0, r.1);
    fits = put.fits;
    refused = λ error e. let r = put.refused error e in (λ u. r.0 (same.replaces u), r.1);
    same = put.same;
  }

  -- the same by numbers
  abbrev Numbered : Option (ℕ × Ordering) → Result ((ℕ × ℕ) × Option T) OrdInsertionError → Type 0
  Numbered place result =
      IsInsertedAt (λ (q : ℕ × ℕ). q.0) (λ (q : ℕ × ℕ). q.1) allows place t result o p

  inserted_numbered : (place : Option (ℕ × Ordering))
      (result : Result (P × Option T) OrdInsertionError) (a : P) (u : Option T) → result ≡ Ok (a, u)
      → IsInsertedAt index generation allows place t result o p
      → Numbered place (Ok ((index a, generation a), u))
  inserted_numbered place result a u is put = record {
    replaced = λ q v e.
        let z = pair q (Some v) e in
        subst (λ (q : ℕ × ℕ). (place ≡ Some (q.0, Equal)) × IsReplaced q.0 q.1 t v o p) z.0
        (put.replaced a v (is ∙ ap (λ x. Ok (a, x)) z.1));
    added = λ q e.
        let z = pair q None e in
        subst (λ (q : ℕ × ℕ). StandsAt place (order_in o) (order_in p) q.0
        × IsAdded q.0 q.1 t o p) z.0 (put.added a (is ∙ ap (λ x. Ok (a, x)) z.1));
    fits = λ q e. put.fits a (is ∙ ap (λ x. Ok (a, x)) (pair q None e).1);
    refused = λ error e. absurd (cc);
    same = λ error e. absurd (cc);
  }
    where
      pair : (q : ℕ × ℕ) (v : Option T)
          → ◌≡◌ {A = Result ((ℕ × ℕ) × Option T) OrdInsertionError}
          (Ok ((index a, generation a), u)) (Ok (q, v)) → ((index a, generation a) ≡ q) × (u ≡ v)
      pair q v e =
          let l : (ℕ × ℕ) × Option T = ((index a, generation a), u) in
          let r : (ℕ × ℕ) × Option T = (q, v) in
          let z : l ≡ r = cc in
          (ap (λ x. x.0) z, ap (λ x. x.1) z)

  inserted_nowhere : (place : Option (ℕ × Ordering))
      (result : Result (P × Option T) OrdInsertionError) (error : OrdInsertionError)
      → result ≡ Err error
      → IsInsertedAt index generation allows place t result o p → Numbered place (Err error)
  inserted_nowhere place result error is put = record {
    replaced = λ q v e. absurd (cc);
    added = λ q e. absurd (cc);
    fits = λ q e. absurd (cc);
    refused = λ other e. put.refused other (is ∙ errs other e);
    same = λ other e. put.same other (is ∙ errs other e);
  }
    where
      errs : (other : OrdInsertionError)
          → ◌≡◌ {A = Result ((ℕ × ℕ) × Option T) OrdInsertionError} (Err error) (Err other)
          → ◌≡◌ {A = Result (P × Option T) OrdInsertionError} (Err error) (Err other)
      errs other e = let z : error ≡ other = cc in ap (λ x. Err x) z

module _ {T P : Type 0} (index generation : P → ℕ) (takes : Bool) (t : T)
    (o p : Ordered T) where
  -- an insertion that answers no pointer
  abbrev InsertsSome : Option (ℕ × Ordering) → Result (Option T) OrdInsertionError → Type 0
  InsertsSome place result = (q : ℕ × ℕ)
      × InsertsAt (λ (q : ℕ × ℕ). q.0) (λ (q : ℕ × ℕ). q.1) (Some takes) place t
      (under_pointer q result) o p

  pub numbered_ok : (one other : Option (ℕ × Ordering))
      (result : Result (P × Option T) OrdInsertionError) (a : P) (u : Option T) → result ≡ Ok (a, u)
      → IsSamePlace (order_in o) one other
      → InsertsAt index generation (Some takes) one t result o p → InsertsSome other (Ok u)
  numbered_ok one other result a u is same put = (
    (index a, generation a),
    record {
      inserted = inserted_numbered index generation _ t o p other result a u is
          (inserted_there index generation _ t o p one other result same put.inserted);
      counter = put.counter;
      room = put.room ∙ ap (λ r. room_left (Some takes) r (size_in o) o.chains.room) is;
      ordered = put.ordered;
    },
  )

  pub numbered_err : (one other : Option (ℕ × Ordering))
      (result : Result (P × Option T) OrdInsertionError) (error : OrdInsertionError)
      → result ≡ Err error
      → IsSamePlace (order_in o) one other
      → InsertsAt index generation (Some takes) one t result o p
      → InsertsSome other (Err error)
  numbered_err one other result error is same put = (
    (0, 0),
    record {
      inserted = inserted_nowhere index generation _ t o p other result error is
          (inserted_there index generation _ t o p one other result same put.inserted);
      counter = put.counter;
      room = put.room ∙ ap (λ r. room_left (Some takes) r (size_in o) o.chains.room) is;
      ordered = put.ordered;
    },
  )

module _ {I T : Type 0} (number : I → ℕ) where
  -- where a new leaf hangs that stands directly before or after an index
  pub record Settled (o : Ordered T) (side : Side) (h j : ℕ) (d : Ordering) : Type 0 where
    pub free : IsFreeAt d (nodes_in o.chains j)
    pub same : (w : List ℕ) (n : ℕ) → StandsAt (Some (j, d)) (order_in o) w n
        → StandsBeside side (order_in o) w h n

  -- the same of the index that a link is found to name, in the arena as it is seen
  pub settled_at : (o seen : Ordered T) (side : Side) (h : ℕ) (d : Ordering) (q : Option I)
      → (i : I) × ((q ≡ Some i) × Settled o side h (number i) d)
      → (j : I) → q ≡ Some j → o ≡ seen → Settled seen side h (number j) d
  settled_at o seen side h d q s j here same =
      let there = s.1.0 in
      let named : s.0 ≡ j = cc in
      subst (λ z. Settled z side h (number j) d) same
      (subst (λ i. Settled o side h (number i) d) named s.1.1)

  record Before (o : Ordered T) (h : ℕ) : Type 0 where
    index : ℕ
    is : prev_at (ends_in o.chains) h ≡ Some index
    settled : Settled o Left h index Greater

  record After (o : Ordered T) (h : ℕ) : Type 0 where
    index : ℕ
    is : next_at (ends_in o.chains) h ≡ Some index
    settled : Settled o Right h index Less

  module _ (o : Ordered T) (is : IsOrdered o) (h : ℕ) (v : NodeView)
      (at : nodes_in o.chains h ≡ Some v) where
    found : Located (tree_in o) h
    found = located top (tree_in o) h (is.all h (subst IsSome (sym at) refl))

    abbrev c : Context
    c = found.context

    abbrev a : Tree
    a = found.left

    abbrev k : ℕ
    k = found.rank

    abbrev r : Tree
    r = found.right

    at_h : Some v ≡ Some (node_view Left (holder c) (root_of a) k (root_of r))
    at_h = sym at ∙ (plug-opens (nodes_in o.chains) o.root c (node a h k r)
        (subst (RepresentsTree (nodes_in o.chains) o.root) found.is is.whole.stands)).1.0

    below : v ≡ node_view Left (holder c) (root_of a) k (root_of r)
    below = let e = at_h in cc e

    round : order_in o ≡ (before c ++ walk a) ++ h ∷ (walk r ++ after c)
    round = ap walk found.is ∙ plug-walk_is c (node a h k r) ∙ flat c a h (walk r)

    apart : Apart (order_in o)
    apart = linear_apart (ends_in o.chains) None (order_in o) is.linear

    before_in : (x : ℕ) → v.left ≡ Some x → Before o h
    before_in x left =
        let f : Final a = final_at a x (sym (ap (λ z. z.left) below) ∙ left) in
        let i = f.index in
        let inner = plug_in (under c Left h k r) f.context in
        let tree : tree_in o ≡ plug inner (node f.left i f.rank leaf) =
        found.is ∙ ap (λ t. plug c (node t h k r)) f.is
        ∙ sym (plug_in-plug (under c Left h k r) f.context (node f.left i f.rank leaf)) in
        let front = before c ++ walk (plug f.context f.left) in
        let back = walk r ++ after c in
        let to_end : before c ++ walk a ≡ front ++ i ∷ [] =
        ap (λ z. before c ++ z) f.at_end
        ∙ sym (append_assoc (before c) (walk (plug f.context f.left)) (i ∷ [])) in
        let order : order_in o ≡ (front ++ i ∷ []) ++ h ∷ back = round
        ∙ ap (λ z. z ++ h ∷ back) to_end in
        let flat_order : order_in o ≡ front ++ i ∷ h ∷ back = order
        ∙ append_assoc front (i ∷ []) (h ∷ back) in
        let ends = linear_ends (ends_in o.chains) (front ++ i ∷ []) h back
        (subst (IsLinear (ends_in o.chains)) order is.linear) in
        let node_at = (plug-opens (nodes_in o.chains) o.root inner
        (node f.left i f.rank leaf)
        (subst (RepresentsTree (nodes_in o.chains) o.root) tree is.whole.stands)).1.0 in
        record {
          index = i;
          is = ap prev_in ends ∙ last_snoc front i;
          settled = record {
            free = ap (option_map (λ z. z.right)) node_at;
            same = λ w n s.
                let split = split_same s.before i s.after front (h ∷ back) (subst Apart s.was apart)
                (sym s.was ∙ flat_order) in
                record {
                  before = front ++ i ∷ [];
                  after = back;
                  was = order;
                  is = s.is ∙ ap (λ z. z ++ i ∷ n ∷ s.after) split.0
                      ∙ ap (λ z. front ++ i ∷ n ∷ z) split.1
                      ∙ sym (append_assoc front (i ∷ []) (n ∷ h ∷ back));
                };
          };
        }

    after_in : (x : ℕ) → v.right ≡ Some x → After o h
    after_in x right =
        let f : First r = first_at r x (sym (ap (λ z. z.right) below) ∙ right) in
        let i = f.index in
        let inner = plug_in (under c Right h k a) f.context in
        let tree : tree_in o ≡ plug inner (node leaf i f.rank f.right) =
        found.is ∙ ap (λ t. plug c (node a h k t)) f.is
        ∙ sym (plug_in-plug (under c Right h k a) f.context (node leaf i f.rank f.right)) in
        let front = before c ++ walk a in
        let back = walk (plug f.context f.right) ++ after c in
        let order : order_in o ≡ front ++ h ∷ i ∷ back = round
        ∙ ap (λ w. front ++ h ∷ (w ++ after c)) f.at_start in
        let ends = linear_ends (ends_in o.chains) front h (i ∷ back)
        (subst (IsLinear (ends_in o.chains)) order is.linear) in
        let node_at = (plug-opens (nodes_in o.chains) o.root inner
        (node leaf i f.rank f.right)
        (subst (RepresentsTree (nodes_in o.chains) o.root) tree is.whole.stands)).1.0 in
        record {
          index = i;
          is = ap next_in ends;
          settled = record {
            free = ap (option_map (λ z. z.left)) node_at;
            same = λ w n s.
                let split = split_same s.before i s.after (front ++ h ∷ []) back
                (subst Apart s.was apart) (sym s.was ∙ order ∙ snoc front h (i ∷ back)) in
                record {
                  before = front;
                  after = i ∷ back;
                  was = order;
                  is = s.is ∙ ap (λ z. z ++ n ∷ i ∷ s.after) split.0
                      ∙ ap (λ z. (front ++ h ∷ []) ++ n ∷ i ∷ z) split.1
                      ∙ append_assoc front (h ∷ []) (n ∷ i ∷ back);
                };
          };
        }

    prev_is : (e : Option (ℕ × IndexLink (IndexNode T))) (q : Option ℕ) (i : ℕ)
        → option_map (λ e. prev_for Left e.1 h) e ≡ Some q
        → prev_in (option_map entry_ends e) ≡ Some i → q ≡ Some i
    prev_is None q i p e = absurd (cc)
    prev_is (Some l) q i p e = let z : l.1.prev ≡ q = cc p in sym z ∙ e

    next_is : (e : Option (ℕ × IndexLink (IndexNode T))) (q : Option ℕ) (i : ℕ)
        → option_map (λ e. next_for Right e.1 h) e ≡ Some q
        → next_in (option_map entry_ends e) ≡ Some i → q ≡ Some i
    next_is None q i p e = absurd (cc)
    next_is (Some l) q i p e = let z : l.1.next ≡ q = cc p in sym z ∙ e

    -- the neighbor that was read
    settled_before : (x : ℕ) → v.left ≡ Some x → (q : Option ℕ)
        → option_map (λ e. prev_for Left e.1 h) (entry_at o.chains h) ≡ Some q
        → (j : ℕ) × ((q ≡ Some j) × Settled o Left h j Greater)
    settled_before x left q p = let b = before_in x left in
        (b.index, (prev_is (entry_at o.chains h) q b.index p b.is, b.settled))

    settled_after : (x : ℕ) → v.right ≡ Some x → (q : Option ℕ)
        → option_map (λ e. next_for Right e.1 h) (entry_at o.chains h) ≡ Some q
        → (j : ℕ) × ((q ≡ Some j) × Settled o Right h j Less)
    settled_after x right q p = let b = after_in x right in
        (b.index, (next_is (entry_at o.chains h) q b.index p b.is, b.settled))

    -- the same, by the links as they stand in the nodes
    pub settled_prev : (l : Option I) → is_some l ≡ true → v.left ≡ option_map number l
        → (q : Option I)
        → option_map (λ e. prev_for Left e.1 h) (entry_at o.chains h)
        ≡ Some (option_map number q)
        → (j : I) × ((q ≡ Some j) × Settled o Left h (number j) Greater)
    settled_prev None some e q p = absurd (cc)
    settled_prev (Some x) some e q p = by q (settled_before (number x) e (option_map number q) p)
      where
        by : (q : Option I) → (j : ℕ)
            × ((option_map number q ≡ Some j) × Settled o Left h j Greater)
            → (j : I) × ((q ≡ Some j) × Settled o Left h (number j) Greater)
        by None s = let z = s.1.0 in absurd (cc)
        by (Some i) s = let z : number i ≡ s.0 = cc (s.1.0) in
            (i, (refl, subst (λ k. Settled o Left h k Greater) (sym z) s.1.1))

    pub settled_next : (l : Option I) → is_some l ≡ true → v.right ≡ option_map number l
        → (q : Option I)
        → option_map (λ e. next_for Right e.1 h) (entry_at o.chains h)
        ≡ Some (option_map number q)
        → (j : I) × ((q ≡ Some j) × Settled o Right h (number j) Less)
    settled_next None some e q p = absurd (cc)
    settled_next (Some x) some e q p = by q (settled_after (number x) e (option_map number q) p)
      where
        by : (q : Option I) → (j : ℕ) × ((option_map number q ≡ Some j) × Settled o Right h j Less)
            → (j : I) × ((q ≡ Some j) × Settled o Right h (number j) Less)
        by None s = let z = s.1.0 in absurd (cc)
        by (Some i) s = let z : number i ≡ s.0 = cc (s.1.0) in
            (i, (refl, subst (λ k. Settled o Right h k Less) (sym z) s.1.1))
