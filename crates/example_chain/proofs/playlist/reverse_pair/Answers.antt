use Rattle.std.proofs.Common.{rules, ◌≡◌, ℕ, Some, None, IsSome, is_some, true≢false, subst, sym}
use Rattle.std.proofs.Common.{refl, ap, ◌∙◌}
use Rattle.triple_arena.specs.Content.{Content}
use Rattle.linked_lists.specs.LinkedLists.{next_in, next_at, unlinked, linked}
use Rattle.triple_arena_chain.specs.LinkShape.{IndexLink}
use Rattle.triple_arena_chain.specs.Links.{ends_in, ends_found, gap_among, IsRelinked}
use Rattle.triple_arena_chain.specs.declared.kind.InsertKind.TheVariants.{Bridge}
use Rattle.linked_lists.specs.Chains.{IsSplit, IsAppended}
use Rattle.example_chain.proofs.ReversalLemmas.{IsTakenOut, Reversed, still_next, exchanged_back}
use Rattle.example_chain.proofs.ReversalLemmas.{is_end, fits, appended_back}
use Rattle.example_chain.proofs.playlist.reverse_pair.Given.{Over}
use Rattle.example_chain.proofs.playlist.reverse_pair.Goals.{After-exchange_next-2, Then-is_some}
use Rattle.example_chain.proofs.playlist.reverse_pair.Goals.{After-break_next, After-connect}
use Rattle.example_chain.proofs.playlist.reverse_pair.Goals.{After-from_residual-in_err-break_next}
use Rattle.example_chain.proofs.playlist.reverse_pair.Goals as goal

module _ (g : Over) (old m : Content (IndexLink g.row.T.Denot)) (before p q : g.row.P.Denot) where
  -- an exchange took `p` out
  abbrev IsOut : Type 0
  IsOut = IsTakenOut old m (g.P.PtrCore.index before) (g.P.PtrCore.index p) (g.P.PtrCore.index q)
      (g.P.PtrCore.generation before) (g.P.PtrCore.generation p) (g.P.PtrCore.generation q)

  abbrev IsTurned : Type 0
  IsTurned = Reversed old (g.P.PtrCore.index before) (g.P.PtrCore.index p) m

  -- and `q` is the end
  abbrev IsEnd : Type 0
  IsEnd = next_in (ends_found m (g.P.PtrCore.index q) (g.P.PtrCore.generation q)) ≡ None

taken : (g : _) (c : After-exchange_next-2 g)
    → IsOut g c.args.songs.now c.exchange_next.new.self c.args.before c.args.p c.in_ok-q.q
taken g c = record {
  chained = c.len.ensures.formed;
  to_p = search rules;
  to_q = search rules;
  at_q = search rules;
  relinked = c.in_ok-exchange_next.ensures.relinked;
  first = c.in_ok-exchange_next.ensures.lists;
}

-- it was put in again by an exchange
exchanged_twice : (g : _) (c : Then-is_some g)
    → IsTurned g c.args.songs.now c.exchange_next-2.new.self c.args.before c.args.p c.in_ok-q.q
exchanged_twice g c =
    let at = goal.at.Then-is_some g c in
    let came : IsSome c.exchange_next-2.result = search rules in
    let there : IsSome (next_in (ends_found c.exchange_next.new.self
    (g.P.PtrCore.index c.in_ok-q.q) (g.P.PtrCore.generation c.in_ok-q.q))) = search rules in
    exchanged_back (taken g at.After-exchange_next-2) c.exchange_next-2.result
    c.exchange_next-2.new.self came there c.exchange_next-2.ensures.relinked
    c.exchange_next-2.ensures.lists

-- or no exchange came about
at_end : (g : _) (c : After-break_next g)
    → IsOut g c.args.songs.now c.exchange_next.new.self c.args.before c.args.p c.in_ok-q.q
    → (out : IsOut g c.args.songs.now c.exchange_next-2.new.self c.args.before c.args.p c.in_ok-q.q)
    × IsEnd g c.args.songs.now c.exchange_next-2.new.self c.args.before c.args.p c.in_ok-q.q
at_end g c first =
    let old = c.args.songs.now in
    let same : c.exchange_next-2.new.self ≡ c.exchange_next.new.self = search rules in
    let gone : c.exchange_next-2.result ≡ None = search rules in
    let end = is_end first c.exchange_next-2.result c.exchange_next-2.ensures.variant.1 gone in
    subst (λ x. (out : IsOut g old x c.args.before c.args.p c.in_ok-q.q)
    × IsEnd g old x c.args.before c.args.p c.in_ok-q.q) (sym same) (first, end)

-- where it was parted from itself and appended
appended : (g : _) (c : After-connect g)
    → IsSome c.connect.result
    × IsTurned g c.args.songs.now c.connect.new.self c.args.before c.args.p c.in_ok-q.q
appended g c =
    let at = goal.at.After-connect g c in
    let index = g.P.PtrCore.index in
    let m = c.exchange_next-2.new.self in
    let p = index c.args.p in
    let q = index c.in_ok-q.q in
    let out = at_end g at.After-break_next (taken g at.After-exchange_next-2) in
    let breaks : (s : ℕ) → next_at (ends_in m) p ≡ Some s
    → IsRelinked (unlinked (ends_in m) p s) m c.break_next.new.self = search rules in
    let splits : (s : ℕ) → next_at (ends_in m) p ≡ Some s
    → IsSplit p s (ends_in m) (ends_in c.break_next.new.self) = search rules in
    let fit : IsSome (gap_among index g.P.PtrCore.generation g.P.Inx.PtrInxCore.number
    c.break_next.new.self (Bridge c.in_ok-q.q c.args.p)) =
    fits out.0 c.break_next.new.self out.1 breaks g.P.Inx.PtrInxCore.number index
    g.P.PtrCore.generation c.args.p c.in_ok-q.q refl refl refl refl in
    let some : IsSome c.connect.result = c.connect.ensures.variant.1 fit in
    let joined : IsRelinked (linked (ends_in c.break_next.new.self) q p)
    c.break_next.new.self c.connect.new.self = search rules in
    let ends : IsAppended q p (ends_in c.break_next.new.self)
    (ends_in c.connect.new.self) = search rules in (
      some,
      appended_back out.0 c.break_next.new.self out.1 breaks c.connect.new.self splits joined
          ends,
    )

-- it is parted from itself
parts : (g : _) (c : After-from_residual-in_err-break_next g) → ⊥
parts g c =
    let at = goal.at.After-from_residual-in_err-break_next g c in
    let out = at_end g at.After-break_next (taken g at.After-exchange_next-2) in
    let some : IsSome c.break_next.result =
    c.break_next.ensures.variant.1 (ap is_some (still_next out.0)) in
    let none : c.break_next.result ≡ None = search rules in
    absurd (true≢false (sym some ∙ ap is_some none))

pub returns-then-is_some-clause-linear : goal.returns-then-is_some-clause-linear
returns-then-is_some-clause-linear g c = (exchanged_twice g c).linear

pub returns-then-is_some-clause-ring : goal.returns-then-is_some-clause-ring
returns-then-is_some-clause-ring g c = (exchanged_twice g c).ring

pub returns-then-is_some-clause-ring_of_two : goal.returns-then-is_some-clause-ring_of_two
returns-then-is_some-clause-ring_of_two g c = (exchanged_twice g c).ring_of_two

pub returns-then-is_some-clause-alone : goal.returns-then-is_some-clause-alone
returns-then-is_some-clause-alone g c = (exchanged_twice g c).alone

pub returns-then-is_some-clause-others : goal.returns-then-is_some-clause-others
returns-then-is_some-clause-others g c = (exchanged_twice g c).others

pub returns-then-is_some-clause-songs : goal.returns-then-is_some-clause-songs
returns-then-is_some-clause-songs g c = (exchanged_twice g c).values

pub returns-in_err-break_next-clause-variant : goal.returns-in_err-break_next-clause-variant
returns-in_err-break_next-clause-variant g c = absurd (parts g c)

pub returns-in_err-break_next-clause-none : goal.returns-in_err-break_next-clause-none
returns-in_err-break_next-clause-none g c = absurd (parts g c)

pub returns-clause-variant : goal.returns-clause-variant
returns-clause-variant g c =
    let to_p : next_in (ends_found c.args.songs.now (g.P.PtrCore.index c.args.before)
    (g.P.PtrCore.generation c.args.before)) ≡ Some (g.P.PtrCore.index c.args.p) =
    search rules in
    let to_q : next_in (ends_found c.args.songs.now (g.P.PtrCore.index c.args.p)
    (g.P.PtrCore.generation c.args.p)) ≡ Some (g.P.PtrCore.index c.in_ok-q.q) = search rules in
    let some = (appended g c).0 in
    search (rules, some, to_p, to_q)

pub returns-clause-none : goal.returns-clause-none
returns-clause-none g c = let some = (appended g c).0 in search (rules, some)

pub returns-clause-linear : goal.returns-clause-linear
returns-clause-linear g c = let turned = (appended g c).1 in search (rules, turned.linear)

pub returns-clause-ring : goal.returns-clause-ring
returns-clause-ring g c = let turned = (appended g c).1 in search (rules, turned.ring)

pub returns-clause-ring_of_two : goal.returns-clause-ring_of_two
returns-clause-ring_of_two g c = let turned = (appended g c).1 in search (rules, turned.ring_of_two)

pub returns-clause-alone : goal.returns-clause-alone
returns-clause-alone g c = let turned = (appended g c).1 in search (rules, turned.alone)

pub returns-clause-others : goal.returns-clause-others
returns-clause-others g c = let turned = (appended g c).1 in search (rules, turned.others)

pub returns-clause-songs : goal.returns-clause-songs
returns-clause-songs g c = let turned = (appended g c).1 in search (rules, turned.values)
