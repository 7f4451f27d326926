-- Steps of a walk along the list.
use Rattle.std.proofs.Common.{◌≡◌, if◌then◌else◌, ℕ, Bool, true, false, List, [], ◌∷◌, ◌++◌}
use Rattle.std.proofs.Common.{reverse, length, append_assoc, Option, Some, None, IsSome, IfSome}
use Rattle.std.proofs.Common.{is_some, option_map, refl, sym, ap, subst, ◌∙◌, inl, inr, ◌↔◌, arith}
use Rattle.std.proofs.lemmas.Bool.{eq-eqb, ne_eqb}
use Rattle.std.proofs.lemmas.List.{reverse-append, reverse-reverse}
use Rattle.triple_arena.specs.Content.{entry_at}
use Rattle.triple_arena.specs.Entries.{generation_at, value_if}
use Rattle.triple_arena_chain.specs.LinkShape.{IndexLink}
use Rattle.linked_lists.specs.LinkedLists.{Ends, Off, Apart, On, IsLinear, next_at, prev_at}
use Rattle.linked_lists.specs.LinkedLists.{next_in, prev_in, first_or, last_or}
use Rattle.linked_lists.specs.LinkedListLaws.{Off-append, Apart-last, last_or-append, off_or_on}
use Rattle.linked_lists.specs.ChainLaws.{Apart-split, first_on, last_on_list}
use Rattle.triple_arena_chain.specs.Links.{ends_in, entry_ends, valued}
use Rattle.linked_lists.specs.UniquenessLaws.{linear_apart}
use Rattle.triple_arena_ord.specs.NodeShape.{IndexNode}
use Rattle.triple_arena_ord.specs.Node.{nodes_in, itemed}
use Rattle.triple_arena_ord.specs.Ordered.{Ordered, IsOrdered, tree_in, order_in, entry_in}
use Rattle.triple_arena_ord.specs.OrderedWalks.{OrderedWalk, walk_at, from_index, from_where, along}
use Rattle.triple_arena_ord.specs.OrderedWalks.{IsFrom, left_over, IsEnd, IsGiven, IsOver}
use Rattle.triple_arena_ord.specs.Ordered.{entries_at}
use Rattle.triple_arena_ord.proofs.EndLemmas.{last_some}
use Rattle.triple_arena_ord.proofs.GapLemmas.{linear_ends}
use Rattle.triple_arena_ord.proofs.LawLemmas.{stands}
use Rattle.triple_arena_ord.proofs.LiveLemmas.{counted_entry}
use Rattle.rank_tree.specs.SeekLaws.{counted-lives}
use Rattle.triple_arena_ord.proofs.WayLemmas.{walk-counted}

-- a list whose indexes are apart, and the function that leads along it
record Leads (f : ℕ → Option ℕ) (w : List ℕ) : Type 0 where
  pub apart : Apart w
  pub next : (front : List ℕ) (i : ℕ) (back : List ℕ) → w ≡ front ++ i ∷ back
      → f i ≡ first_or back None

from_there : (front : List ℕ) (i : ℕ) (back : List ℕ) → Off front i
    → from_index (front ++ i ∷ back) i ≡ i ∷ back
from_there [] i back off = rw (eq-eqb i i refl) refl
from_there (x ∷ front) i back off = rw (ne_eqb x i off.0) (from_there front i back off.1)

from_nowhere : (w : List ℕ) (i : ℕ) → Off w i → from_index w i ≡ []
from_nowhere [] i off = refl
from_nowhere (x ∷ w) i off = rw (ne_eqb x i off.0) (from_nowhere w i off.1)

module _ (f : ℕ → Option ℕ) (w : List ℕ) (leads : Leads f w) where
  -- what follows an index
  from_next : (front : List ℕ) (i : ℕ) (back : List ℕ) → w ≡ front ++ i ∷ back
      → from_where w (first_or back None) ≡ back
  from_next front i [] is = refl
  from_next front i (y ∷ back) is =
      let split : w ≡ (front ++ i ∷ []) ++ y ∷ back = is
      ∙ sym (append_assoc front (i ∷ []) (y ∷ back)) in
      let off = (Apart-split (front ++ i ∷ []) back y (subst Apart split leads.apart)).0 in
      ap (λ l. from_index l y) split ∙ from_there (front ++ i ∷ []) y back off

  record Led (i : ℕ) : Type 0 where
    pub back : List ℕ
    pub here : from_index w i ≡ i ∷ back
    pub there : from_where w (f i) ≡ back
    pub next : f i ≡ first_or back None

  led : (i : ℕ) → On w i → Led i
  led i on =
      let off = (Apart-split on.front on.back i (subst Apart on.is leads.apart)).0 in
      let next = leads.next on.front i on.back on.is in
      record {
        back = on.back;
        here = ap (λ l. from_index l i) on.is ∙ from_there on.front i on.back off;
        there = ap (from_where w) next ∙ from_next on.front i on.back on.is;
        next = next;
      }

reverse_cons : (x : ℕ) (xs : List ℕ) → reverse (x ∷ xs) ≡ reverse xs ++ x ∷ []
reverse_cons x xs = reverse-append (x ∷ []) xs

Off-reverse : (xs : List ℕ) (i : ℕ) → Off xs i → Off (reverse xs) i
Off-reverse [] i off = tt
Off-reverse (x ∷ xs) i off =
    subst (λ l. Off l i) (sym (reverse_cons x xs))
    (Off-append (reverse xs) (x ∷ []) i (Off-reverse xs i off.1) (off.0, tt))

Apart-reverse : (xs : List ℕ) → Apart xs → Apart (reverse xs)
Apart-reverse [] apart = tt
Apart-reverse (x ∷ xs) apart =
    subst Apart (sym (reverse_cons x xs))
    (Apart-last (reverse xs) x (Apart-reverse xs apart.1) (Off-reverse xs x apart.0))

reverse_split : (front : List ℕ) (i : ℕ) (back : List ℕ)
    → reverse (front ++ i ∷ back) ≡ reverse back ++ i ∷ reverse front
reverse_split front i back =
    reverse-append front (i ∷ back) ∙ ap (λ l. l ++ reverse front) (reverse_cons i back)
    ∙ append_assoc (reverse back) (i ∷ []) (reverse front)

last_reversed : (xs : List ℕ) → last_or None (reverse xs) ≡ first_or xs None
last_reversed [] = refl
last_reversed (x ∷ xs) = ap (last_or None) (reverse_cons x xs)
    ∙ last_or-append None (reverse xs) (x ∷ [])

On-reverse : (xs : List ℕ) (i : ℕ) → On xs i → On (reverse xs) i
On-reverse xs i on = record {
  front = reverse on.back;
  back = reverse on.front;
  is = ap reverse on.is ∙ reverse_split on.front i on.back;
}

module _ {T : Type 0} (o : Ordered T) (is : IsOrdered o) where
  abbrev w : List ℕ
  w = order_in o

  abbrev e : ℕ → Option Ends
  e = ends_in o.chains

  onward : Leads (next_at e) w
  onward = record {
    apart = linear_apart e None w is.linear;
    next = λ front i back split. ap next_in
        (linear_ends e front i back (subst (IsLinear e) split is.linear));
  }

  backward : Leads (prev_at e) (reverse w)
  backward = record {
    apart = Apart-reverse w (linear_apart e None w is.linear);
    next = λ front i back split.
        let turned : w ≡ reverse back ++ i ∷ reverse front = sym (reverse-reverse w)
        ∙ ap reverse split ∙ reverse_split front i back in
        ap prev_in (linear_ends e (reverse back) i (reverse front)
        (subst (IsLinear e) turned is.linear)) ∙ last_reversed back;
  }

  -- the neighbor to which a walk goes
  abbrev neighbor : Bool → ℕ → Option ℕ
  neighbor true = prev_at e
  neighbor false = next_at e

  leads : (back : Bool) → Leads (neighbor back) (along back w)
  leads true = backward
  leads false = onward

  on_along : (back : Bool) (i : ℕ) → On w i → On (along back w) i
  on_along true i on = On-reverse w i on
  on_along false i on = on

  off_along : (back : Bool) (i : ℕ) → Off w i → Off (along back w) i
  off_along true i off = Off-reverse w i off
  off_along false i off = off

  neighbor_is : (back : Bool) (i : ℕ) (entry : ℕ × IndexLink (IndexNode T))
      → entry_at o.chains i ≡ Some entry
      → neighbor back i ≡ (if back then entry.1.prev else entry.1.next)
  neighbor_is true i entry found = ap (λ v. prev_in (option_map entry_ends v)) found
  neighbor_is false i entry found = ap (λ v. next_in (option_map entry_ends v)) found

  item_at : (i : ℕ) (entry : ℕ × IndexLink (IndexNode T)) → entry_at o.chains i ≡ Some entry
      → entry_in o i ≡ Some (entry.0, entry.1.t.t)
  item_at i entry found = ap (λ v. option_map itemed (option_map valued v)) found

  -- where an entry lives a step gives it, and goes to its neighbor
  gives : (before after : OrderedWalk) (i : ℕ) (entry : ℕ × IndexLink (IndexNode T))
      → before.at ≡ Some i → entry_at o.chains i ≡ Some entry
      → after.at ≡ (if before.back then entry.1.prev else entry.1.next) → after.back ≡ before.back
      → IsGiven i entry.0 o before after
  gives before after i entry at found goes same =
      let b = before.back in
      let item = item_at i entry found in
      let r = led (neighbor b) (along b w) (leads b) i
      (on_along b i (stands o is i (subst IsSome (sym item) refl))) in
      let to : after.at ≡ neighbor b i = goes ∙ sym (neighbor_is b i entry found) in
      let left_after : left_over o after ≡ r.back =
      ap (λ c. from_where (along c w) after.at) same ∙ ap (from_where (along b w)) to ∙ r.there in
      record {
        at = at;
        live = ap (option_map (λ (v : ℕ × T). v.0)) item;
        left = ap (from_where (along b w)) at ∙ r.here ∙ ap (λ l. i ∷ l) (sym left_after);
        next = to ∙ r.next ∙ ap (λ l. first_or l None) (sym left_after);
        same = same;
      }

  -- the same of a pointer to the entry
  pub given : (before after : OrderedWalk) (i g j : ℕ) (entry : ℕ × IndexLink (IndexNode T))
      → i ≡ j → g ≡ entry.0 → before.at ≡ Some j
      → entry_at o.chains j ≡ Some entry
      → after.at ≡ (if before.back then entry.1.prev else entry.1.next)
      → after.back ≡ before.back → IsGiven i g o before after
  given before after i g j entry is_i is_g at found goes same =
      subst (λ k. IsGiven k g o before after) (sym is_i)
      (subst (λ k. IsGiven j k o before after) (sym is_g)
      (gives before after j entry at found goes same))

  -- where none lives the walk is over
  pub ends : (before after : OrderedWalk) (i : ℕ) → before.at ≡ Some i → entry_at o.chains i ≡ None
      → after.at ≡ None → after.back ≡ before.back
      → IsOver o before after
  ends before after i at none over same =
      let vacant : entry_in o i ≡ None = ap (λ v. option_map itemed (option_map valued v)) none in
      record {
        vacant = subst (λ a. IfSome a (λ j. entry_in o j ≡ None)) (sym at) vacant;
        left = ap (from_where (along before.back w)) at
            ∙ from_nowhere (along before.back w) i (off_along before.back i (absent i vacant));
        ended = over;
        same = same;
      }
    where
      absent : (i : ℕ) → entry_in o i ≡ None → Off w i
      absent i vacant =
          elim (off_or_on w i) [
            | inl off ↦ off
            | inr on ↦ absurd (let no : false ≡ true = sym (ap is_some vacant)
                ∙ counted_entry o is i (walk-counted (tree_in o) i on) in cc)
          ]

  -- a walk from an entry goes along the list
  pub begins : (a : OrderedWalk) (i g : ℕ) (back : Bool) → IsSome (value_if g (entry_in o i))
      → a ≡ walk_at i back → IsFrom w i back (left_over o a)
  begins a i g back found a_is =
      let on = stands o is i (found_some (entry_in o i) found) in
      record {
        before = on.front;
        after = on.back;
        is = on.is;
        left_is = ap (left_over o) a_is ∙ by back on;
      }
    where
      found_some : (v : Option (ℕ × T)) → IsSome (value_if g v) → IsSome v
      found_some None h = absurd (cc)
      found_some (Some v) h = refl

      by : (back : Bool) (on : On w i)
          → from_index (along back w) i ≡ i ∷ (if back then reverse on.front else on.back)
      by true on =
          let turned : reverse w ≡ reverse on.back ++ i ∷ reverse on.front = ap reverse on.is
          ∙ reverse_split on.front i on.back in
          let off = (Apart-split (reverse on.back) (reverse on.front) i
          (subst Apart turned backward.apart)).0 in
          ap (λ l. from_index l i) turned ∙ from_there (reverse on.back) i (reverse on.front) off
      by false on =
          let off = (Apart-split on.front on.back i (subst Apart on.is onward.apart)).0 in
          ap (λ l. from_index l i) on.is ∙ from_there on.front i on.back off

  -- a walk from the first index goes along the whole list
  pub whole : (a : OrderedWalk) → a.at ≡ first_or w None → a.back ≡ false → left_over o a ≡ w
  whole a at forth = ap (λ c. from_where (along c w) a.at) forth ∙ ap (from_where w) at ∙ all w
    where
      all : (l : List ℕ) → from_where l (first_or l None) ≡ l
      all [] = refl
      all (x ∷ l) = rw (eq-eqb x x refl) refl

  pub on_lives : (i : ℕ) → On w i → IsSome (entry_in o i)
  on_lives i on = counted_entry o is i (walk-counted (tree_in o) i on)

  -- the ends of the list live
  pub first_lives : (i : ℕ) → first_or w None ≡ Some i → IsSome (entry_in o i)
  first_lives i at = on_lives i (first_on w i at)

  pub first_node : (i : ℕ) → first_or w None ≡ Some i → IsSome (nodes_in o.chains i)
  first_node i at =
      counted-lives (nodes_in o.chains) None (tree_in o) is.whole.stands.1 i
      (walk-counted (tree_in o) i (first_on w i at))

  pub last_node : (i : ℕ) → last_or None w ≡ Some i → IsSome (nodes_in o.chains i)
  last_node i at =
      counted-lives (nodes_in o.chains) None (tree_in o) is.whole.stands.1 i
      (walk-counted (tree_in o) i (last_on_list e w i at))

  pub last_lives : (i : ℕ) → last_or None w ≡ Some i → IsSome (entry_in o i)
  last_lives i at = on_lives i (last_on_list e w i at)

  -- there is an end exactly where there is an entry
  module _ {P : Type 0} (index generation : P → ℕ) (result : Option P)
      (live : IfSome result (λ p. generation_at (entry_in o) (index p) ≡ Some (generation p))) where
    end_is : (end : Option ℕ) → ((end ≡ None) ↔ (w ≡ [])) → option_map index result ≡ end
        → IsEnd index generation end result o
    end_is end nil at = record {
      at = at;
      live = live;
      none = (
        λ r. sym is.counted ∙ ap length (nil.0 (sym at ∙ ap (option_map index) r)),
        λ z. unmapped result (at ∙ nil.1 (no_length w (is.counted ∙ z))),
      );
    }
      where
        unmapped : (r : Option P) → option_map index r ≡ None → r ≡ None
        unmapped None h = refl
        unmapped (Some p) h = absurd (cc)

        no_length : (l : List ℕ) → length l ≡ 0 → l ≡ []
        no_length [] h = refl
        no_length (x ∷ l) h = absurd (omega (arith, h))

    pub first_is : option_map index result ≡ first_or w None
        → IsEnd index generation (first_or w None) result o
    first_is at = end_is (first_or w None) (by w, λ n. ap (λ l. first_or l None) n) at
      where
        by : (l : List ℕ) → first_or l None ≡ None → l ≡ []
        by [] h = refl
        by (x ∷ l) h = absurd (cc)

    pub last_is_end : option_map index result ≡ last_or None w
        → IsEnd index generation (last_or None w) result o
    last_is_end at = end_is (last_or None w) (by w, λ n. ap (last_or None) n) at
      where
        by : (l : List ℕ) → last_or None l ≡ None → l ≡ []
        by [] h = refl
        by (x ∷ l) h = absurd
            (let z = last_some x l in let no : None ≡ Some z.0 = sym h ∙ z.1 in cc)

-- the number of an index that was chosen by a test
pub chosen : (b c : Bool) (x prev next : Option ℕ) → b ≡ c → x ≡ (if c then prev else next)
    → x ≡ (if b then prev else next)
chosen b true x prev next is same = rw is same
chosen b false x prev next is same = rw is same

-- an entry that is listed
pub listed_first : {T : Type 0} (o : Ordered T) (i : ℕ) (entry : ℕ × T) (is : List ℕ)
    → entry_in o i ≡ Some entry
    → entries_at o (i ∷ is) ≡ (i, entry) ∷ entries_at o is
listed_first o i entry is at = rw at refl
