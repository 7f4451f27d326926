-- `values_in_order` cuts the loan of the slots in two, one slot each, and has each slot lend its
-- value. Assumes `Logic`.
use mathlib.Core.Path.{◌≡◌, refl, ap, sym, subst, ◌∙◌}
use Prim.Native.Nat.{ℕ, zero, suc, ◌+◌, ◌*◌, ◌^◌, ◌<◌, ◌≤◌}
use native.Mathlib.Omega.{arith}
use native.Mathlib.Nat.{mul-le-mul_right, zero-mul, suc-mul}
use mathlib.Core.List.{List, [], ◌∷◌, ◌++◌}
use lib.ListN.{length}
use seplogic.Ra.Ura.{Ura}
use base.Stored.{Gv, coded_list}
use mir.Syntax.{Fn, Dict, Args, named, a_type, dcons, dnil, w64}
use mir.MapTy.{inst_fn}
use mir.Val.{Val, vptr, vint, vstruct, vcons, vnil}
use base.Logic.{SProp, ent, sep, emp, id⊢}
use base.Fml.{Lft, GName, Share, ftrue, flft, fobs, fbor}
use prog.Memory.{capped}
use prog.Capped.{capped_is}
use prog.Model.{Model}
use prog.Wp.{Env, WpFn}
use types.Logic.{Logic, sem}
use contract.CodeStep
use contract.Monad.{fact}
use contract.BorrowLft.{◌⊑◌}
use contract.Running.{Running, MachineTables, tables, tables_of}
use contract.Fact.{fact_i}
use sound.WpLaws.{WpFn-mono}
use types.Kit.{Item, ⋆, ‵, raw, ◌⊛◌, some, later, mean, at_ret, ◌$◌, ◌∵◌, !, qed, by, move, keep}
use types.Kit.{use0, use1, use2, use3, drop, split, split3, join, pick, await, group, rewrite}
use types.Kit.{fsplit, fsplit3, fjoin, fjoin3, fpack, feq_i, feq_l, suffices, frame, done, updating}
use types.Kit.{show, now as at_once}
use types.Part.{whole, sub, agg}
use types.Run.{
  stop,
  fld,
  hop,
  from,
  of_opd,
  addr,
  bin,
  size_word,
  and_then,
  no_more,
  first,
  blocks,
  exec,
  returns,
  enter,
}
use types.ByLocal.{
  alloc_all,
  pass_all,
  free_all,
  look_at,
  look_in_at,
  get,
  through,
  sets,
  sets_last,
  lands_as,
  is,
  env,
}
use types.SemTy.{SemTy, Arr, Body as Borrowed, cells}
use types.Mut.{open_ref}
use denote.Builtin.{usize}
use denote.Exit.{yes, no}
use denote.Follow.{follows}
use denote.FollowSlice.{heres_id}
use denote.RattleType.{RattleType, Valss, owns}
use denote.Memory.{mem}
use denote.Param.{param, copied, bounded}
use denote.Plain.{uint_vals, uint_Tells}
use denote.Ref.{MutRef, MutBor}
use denote.Shadow.{pure_l}
use denote.Signature.{plain, mut_slice_of}
use denote.Slice.{MutSlice, Room, room, slice_val, mut_slice_vals, mut_slice_Tells}
use denote.Steps.{nothing, heard, only}
use denote.Struct.Declared.{shape}
use denote.Struct.Struct.{within}
use denote.Struct.Tuple.{tuple_type}
use denote.Triple.Call.{calls_at}
use denote.Triple.Clauses.{Clauses, Ended, closing, Lasts, lasts}
use denote.Triple.Spec.{Meets, triple_of}
use denote.Triple.Table.{entered, framed}
use denote.Triple.Walked.{
  says,
  Stays,
  stay_dropped,
  walk_of,
  ends_at,
  walked,
  Goes-dropped,
  Goes-spent_slice,
  walk_Meets,
}
use borrow.Table.Elements.{at, at_mul, cut_app, join_app}
use Rattle.std.specs.Prelude.{IsSome, None, Some, slice_index_or, map}
use Rattle.std.proofs.VecSteps.Shapes.{after}
use Rattle.std.specs.declared.clone.Clone
use Rattle.std.specs.declared.cmp.PartialEq
use Rattle.triple_arena_ptr.specs.declared.ptr.PtrCore
use Rattle.triple_arena_ptr.specs.declared.ptr.PtrGenCore
use Rattle.triple_arena_ptr.specs.declared.ptr.PtrInxCore
use Rattle.triple_arena.specs.contracts.slot.ArenaSlot as E-type
use Rattle.triple_arena.specs.Slot.{value_of, with_slot_value}
use Rattle.triple_arena.specs.contracts.two_values.ArenaSlotValuesInOrder.values_in_order as F
use Rattle.triple_arena.specs.contracts.two_values.ArenaSlotValuesInOrder.values_in_order.Key.{
  name
      as #self,
}
use Rattle.triple_arena.specs.contracts.slot.ArenaSlotValueMut.value_mut as callee
use Rattle.triple_arena.specs.contracts.slot.ArenaSlotValueMut.value_mut.Key.{name as #callee}
use Rattle.triple_arena.proofs.slot.ArenaSlotValueMut.value_mut.Met as theirs
use Rattle.triple_arena.specs.BothWays.{after_ways}
use Rattle.triple_arena.proofs.BothWaysLemmas.{takes_two_ways, ways_parts}
use Rattle.triple_arena.proofs.TwoItemsLemmas.{
  Parted,
  parted,
  replaced,
  first_at,
  second_at,
  written_is,
  same_size,
}
use Rattle.triple_arena.proofs.two_values.ArenaSlotValuesInOrder.values_in_order.Statement as stated
use Rattle.triple_arena.proofs.two_values.ArenaSlotValuesInOrder.values_in_order.Code as code

-- where the product fits a word, the count is zero or the size fits too
uncapped : (i k : ℕ) → i * k < 2 ^ 64 → i * capped k ≡ i * k
uncapped zero k h = zero-mul (capped k) ∙ sym (zero-mul k)
uncapped (suc i) k h = let step = suc-mul i k in
    ap (λ (j : ℕ). suc i * j) (capped_is k (omega arith))

module _ (P T' PI PG PW : RattleType) (g0 : PtrCore.Ghosts P.Denot PI.Denot PG.Denot PW.Denot)
    (d0 : Dict) (g1 : Clone.Ghosts P.Denot) (d1 : Dict)
    (g2 : PtrInxCore.Ghosts PI.Denot PW.Denot) (d2 : Dict) (g3 : Clone.Ghosts PI.Denot) (d3 : Dict)
    (g4 : PartialEq.Ghosts PI.Denot) (d4 : Dict) (g5 : Clone.Ghosts PW.Denot) (d5 : Dict)
    (g6 : PtrGenCore.Ghosts PG.Denot) (d6 : Dict) (g7 : Clone.Ghosts PG.Denot) (d7 : Dict)
    (g8 : PartialEq.Ghosts PG.Denot) (d8 : Dict) where
  abbrev R : RattleType
  R = param 1 T'

  abbrev E : RattleType
  E = E-type.the_row (copied 0 P) (param 1 T') (copied 2 PI) (copied 3 PG) (copied 4 PW) g0 g2 g4 g6
      g8

  abbrev args : Args
  args = bounded (a_type ∷ a_type ∷ a_type ∷ a_type ∷ a_type ∷ []) (P, (T', (PI, (PG, (PW, tt)))))
      (dcons d0
      (dcons d1 (dcons d2 (dcons d3 (dcons d4 (dcons d5 (dcons d6 (dcons d7 (dcons d8 dnil)))))))))

  abbrev fn' : Fn
  fn' = inst_fn args code.function

  abbrev ended : Ended
  ended = F.ended P T' PI PG PW g0 d0 g1 d1 g2 d2 g3 d3 g4 d4 g5 d5 g6 d6 g7 d7 g8 d8

  abbrev stayed : Stays ended.signature.params ended.kept
  stayed = (
    stay_dropped (mut_slice_of (0 ∷ []) tt (plain (λ _. E))) no,
    (stay_dropped (plain (λ _. usize)) yes, (stay_dropped (plain (λ _. usize)) yes, tt)),
  )

  module _ {M : Type 1} {𝓤 : Ura M} (𝓛 : Logic 𝓤) (κ : Lft) (q : Share) (b o : ℕ) (γ : GName)
      (xs : List E.Denot) (low high : ℕ) (p : Parted xs low high) where
    open 𝓛 use {H, A}

    abbrev s : ℕ
    s = (mem E).size

    abbrev S : SemTy
    S = Arr (mem E) (length xs)

    -- where the two slots lie
    abbrev p₁ : ℕ
    p₁ = at o s (length p.front)

    abbrev p₂ : ℕ
    p₂ = at (p₁ + s) s (length p.mid)

    abbrev q₁ : ℕ
    q₁ = low * s + o

    abbrev q₂ : ℕ
    q₂ = high * s + o

    on₁ : p₁ ≡ q₁
    on₁ = at_mul o s (length p.front) ∙ ap (λ (k : ℕ). k * s + o) p.low_is

    on₂ : p₂ ≡ q₂
    on₂ =
        let step : p₂ ≡ length p.mid * s + (p₁ + s) = at_mul (p₁ + s) s (length p.mid) in
        let here : p₁ ≡ low * s + o = on₁ in
        let one : suc (low + length p.mid) * s ≡ (low + length p.mid) * s + s =
        suc-mul (low + length p.mid) s in
        let sum : (low + length p.mid) * s ≡ low * s + length p.mid * s =
        native.Mathlib.Nat.add-mul low (length p.mid) s in
        let all : q₂ ≡ suc (low + length p.mid) * s + o = ap (λ (k : ℕ). k * s + o) p.high_is in
        omega (arith, step, here, one, sum, all)

    abbrev Others : SProp 𝓤
    Others = sep 𝓤 (sem 𝓛 (cells (mem E) p.front b o))
        (sep 𝓤 (sem 𝓛 (cells (mem E) p.mid b (p₁ + s))) (sem 𝓛 (cells (mem E) p.back b (p₂ + s))))

    abbrev cs : List E.Denot → Gv
    cs = (coded_list E.coded).code

    mend : (x y : E.Denot) →
        ent 𝓤 (sep 𝓤 (sem 𝓛 ((mem E).own_at x b p₁)) (sep 𝓤 (sem 𝓛 ((mem E).own_at y b p₂)) Others))
        (sem 𝓛 (S.own_at (replaced p x y) b o))
    mend x y =
        let size : length (replaced p x y) ≡ length xs = same_size p.front p.mid p.back p.first
        p.second x y ∙ ap length (sym p.whole) in
        qed 𝓛 (‵ ((mem E).own_at x b p₁) ∷ ‵ ((mem E).own_at y b p₂) ∷ ‵ (cells (mem E) p.front b o)
        ∷ ‵ (cells (mem E) p.mid b (p₁ + s)) ∷ ‵ (cells (mem E) p.back b (p₂ + s)) ∷ []) ∵
        move ! (1 ∷ 4 ∷ []) $ fjoin ! $ move ! (3 ∷ 0 ∷ []) $
        use2 𝓛 (‵ (cells (mem E) (p.mid ++ y ∷ p.back) b (p₁ + s)))
        (join_app 𝓛 (mem E) p.mid (y ∷ p.back) b (p₁ + s)) $
        move ! (1 ∷ 0 ∷ []) $ fjoin ! $ move ! (1 ∷ 0 ∷ []) $
        use2 𝓛 (‵ (cells (mem E) (replaced p x y) b o))
        (join_app 𝓛 (mem E) p.front (x ∷ (p.mid ++ y ∷ p.back)) b o) $
        feq_i ! ℕ (length (replaced p x y)) (length xs) size $ fjoin ! $ done !

    abbrev Two : GName × GName → Item 𝓤
    Two γs = (‵ (fobs γs.0 (E.coded.code p.first)) ⊛ ‵ (fbor κ (Borrowed (mem E) b p₁ γs.0))) ⊛
        (‵ (fobs γs.1 (E.coded.code p.second)) ⊛ ‵ (fbor κ (Borrowed (mem E) b p₂ γs.1))) ⊛
        ‵ (flft κ q) ⊛ ‵ (after_ways S (mem E) (mem E) γ γs.0 γs.1 (replaced p))

    cuts : ent 𝓤 (sep 𝓤 (A.obs γ (cs xs)) (sep 𝓤 (A.bor κ (Borrowed S b o γ)) (A.lft κ q)))
        (H.⇛ (mean 𝓛 (some Two)))
    cuts = qed 𝓛 (‵ (fobs γ (cs xs)) ∷ ‵ (fbor κ (Borrowed S b o γ)) ∷ ‵ (flft κ q) ∷ []) ∵
        updating ! $
        open_ref ! tt S {x = xs} {b = b} {o = o} $ fsplit ! $ drop ! $
        rewrite ! 0 (λ (l : List E.Denot). ‵ (cells (mem E) l b o)) p.whole refl $
        use1 𝓛 (‵ (cells (mem E) p.front b o) ⊛
        ‵ (cells (mem E) (p.first ∷ (p.mid ++ p.second ∷ p.back)) b p₁))
        (cut_app 𝓛 (mem E) p.front (p.first ∷ (p.mid ++ p.second ∷ p.back)) b o) $ split ! $
        move ! (1 ∷ []) $ fsplit ! $ move ! (1 ∷ []) $
        use1 𝓛 (‵ (cells (mem E) p.mid b (p₁ + s)) ⊛ ‵ (cells (mem E) (p.second ∷ p.back) b p₂))
        (cut_app 𝓛 (mem E) p.mid (p.second ∷ p.back) b (p₁ + s)) $ split ! $ move ! (1 ∷ []) $
        fsplit ! $
        -- [the second; the back; the middle; the first; the front; the open borrow; obs; auth]
        move ! (2 ∷ 1 ∷ []) $ join ! $ move ! (3 ∷ 0 ∷ []) $ join ! $
        move ! (3 ∷ 4 ∷ 5 ∷ 2 ∷ 1 ∷ 0 ∷ []) $ group ! 6 $
        use1 𝓛 (later (some Two)) (takes_two_ways 𝓛 S (mem E) (mem E) (replaced p) κ q b o b p₁ b p₂
        γ Others mend (cs xs) (cs xs) p.first p.second) $ await ! tt $
        pick ! (λ γs. at_once ! $ show ! (λ (z : GName × GName). mean 𝓛 (Two z)) γs $ done !)

  module _ {M : Type 1} {𝓤 : Ura M} (𝓛 : Logic 𝓤) (𝓜 : Model 𝓤 𝓛.H) (𝓡 : Running 𝓤 𝓛.H 𝓜)
      (Callee-met : Meets 𝓛 (callee.signature P T' PI PG PW g0 d0 g1 d1 g2 d2 g3 d3 g4 d4 g5 d5 g6
      d6 g7 d7 g8 d8) (𝓡.run (𝓡.env (#callee args))) (callee.spec P T' PI PG PW g0 d0 g1 d1 g2
      d2 g3 d3 g4 d4 g5 d5 g6 d6 g7 d7 g8 d8 𝓛 𝓜.mem 𝓡.returns)) where
    open 𝓛 use {H, A}

    abbrev 𝓣 : MachineTables 𝓤 H 𝓜
    𝓣 = tables 𝓤 H 𝓜 𝓡 𝓡.env

    abbrev spec : Clauses 𝓤 ended
    spec = F.clauses P T' PI PG PW g0 d0 g1 d1 g2 d2 g3 d3 g4 d4 g5 d5 g6 d6 g7 d7 g8 d8 𝓛 𝓜.mem
        𝓡.returns

    module _ (κs : contract.Lifetimes.Lfts 6) (qs : contract.Lifetimes.Shares 6)
        (inside : contract.Lifetimes.AllOutlive 6 ended.signature.outlives κs) (b o : ℕ) (γ : GName)
        (xs : List E.Denot) (low high : ℕ) where
      abbrev κ : Lft
      κ = κs.0

      abbrev self : MutBor (List E.Denot)
      self = record { ref_ptr = (b, o); ghost_name = γ; now = xs }

      abbrev Lent : RattleType
      Lent = MutRef (named 0) κ R

      abbrev bound : (walk_of 𝓛 ended stayed spec).Ghost
      bound = (
        (
          κs,
          qs,
          inside,
          (self, (low, (high, tt))),
          (mut_slice_vals self, (vint w64 low ∷ [], (vint w64 high ∷ [], tt))),
        ),
        tt,
      )

      abbrev Post : Val → SProp 𝓤
      Post = (walk_of 𝓛 ended stayed spec).post bound

      abbrev others : Item 𝓤
      others = ‵ (flft κs.1.0 qs.1.0) ⊛ ‵ (flft κs.1.1.0 qs.1.1.0) ⊛ ‵ (flft κs.1.1.1.0 qs.1.1.1.0)
          ⊛ ‵ (flft κs.1.1.1.1.0 qs.1.1.1.1.0) ⊛ ‵ (flft κs.1.1.1.1.1.0 qs.1.1.1.1.1.0) ⊛ ‵ ftrue

      abbrev Had : List (Item 𝓤)
      Had = ‵ (fobs γ ((coded_list E.coded).code xs)) ∷
          ‵ (fbor κ (Borrowed (Arr (mem E) (length xs)) b o γ)) ∷ ‵ (flft κ qs.0) ∷ others ∷ []

      walk : κs.1.0 ⊑ P.lives → κs.1.1.0 ⊑ T'.lives → κs.1.1.1.0 ⊑ PI.lives →
          κs.1.1.1.1.0 ⊑ PG.lives → κs.1.1.1.1.1.0 ⊑ PW.lives → low < 2 ^ 64 → high < 2 ^ 64 →
          Room E (length xs) → low < high → high < length xs
          → IsSome (slice_index_or (map value_of xs) low None) →
          IsSome (slice_index_or (map value_of xs) high None)
          → ent 𝓤 (⋆ 𝓛 Had) (WpFn 𝓤 H 𝓣.C 𝓣.Λ fn' (slice_val (b, o) (length xs) ∷ vint w64 low ∷
          vint w64 high ∷ []) Post)
      walk lp lt li lg lw fl fh rm order below used₁ used₂ =
          let p : Parted xs low high = parted xs low high order below in
          let s : ℕ = (mem E).size in
          let n : ℕ = length xs in
          let fit : n * s < 2 ^ 63 = rm.1 in
          let o₁ : ℕ = low * s + o in
          let o₂ : ℕ = high * s + o in
          let m₁ : low * s ≤ n * s = mul-le-mul_right s (omega (arith, order, below)) in
          let m₂ : high * s ≤ n * s = mul-le-mul_right s (omega (arith, below)) in
          let f₁ : low * s < 2 ^ 64 = omega (arith, fit, m₁) in
          let f₂ : high * s < 2 ^ 64 = omega (arith, fit, m₂) in
          let u₁ : IsSome (value_of p.first) = subst (λ t. IsSome t) (first_at p value_of) used₁ in
          let u₂ : IsSome (value_of p.second) = subst (λ t. IsSome t) (second_at p value_of) used₂
          in
          let k = triple_of 𝓛 (callee.signature P T' PI PG PW g0 d0 g1 d1 g2 d2 g3 d3 g4 d4 g5 d5 g6
          d6 g7 d7 g8 d8) (callee.spec P T' PI PG PW g0 d0 g1 d1 g2 d2 g3 d3 g4 d4 g5 d5 g6 d6
          g7 d7 g8 d8 𝓛 𝓜.mem 𝓡.returns) in
          qed 𝓛 Had ∵ enter ! 𝓣.C 𝓣.Λ fn' (slice_val (b, o) n ∷ vint w64 low ∷ vint w64 high ∷ []) _
          $
          alloc_all ! (λ l. pass_all ! refl (
            (tt, (tt, (record { fits = rm.0 }, tt))),
            ((tt, record { fits = fl }), ((tt, record { fits = fh }), tt)),
          ) $
          let En : Env 𝓤 H = env fn'.locals l in
          group ! 3 $ use1 𝓛 (later (some (Two 𝓛 κ qs.0 b o γ xs low high p)))
          (cuts 𝓛 κ qs.0 b o γ xs low high p) $ await ! tt $ pick ! (λ δs. split3 ! $ split ! $
          -- [obs δ₁; its borrow; the second; the token with the ways; the other tokens]
          rewrite ! 1 (λ (k : ℕ). ‵ (fbor κ (Borrowed (mem E) b k δs.0)))
          (on₁ 𝓛 κ qs.0 b o γ xs low high p) refl $
          move ! (2 ∷ []) $ split ! $
          rewrite ! 1 (λ (k : ℕ). ‵ (fbor κ (Borrowed (mem E) b k δs.1)))
          (on₂ 𝓛 κ qs.0 b o γ xs low high p) refl $
          move ! (4 ∷ []) $ split ! $
          -- [the token; the ways; obs δ₂; its borrow; obs δ₁; its borrow; the other tokens]
          sets
          ! (addr
          ! (from ! (fld ! refl (hop ! (look_in_at ! 1 (sub ! 0 refl (whole !))) (stop !)))))
          refl (tt, tt) $
          first ! $ blocks ! $
          sets
          ! (is
          ! (bin ! (get ! refl) (size_word !)
          (record { fits = subst (λ (k : ℕ). k < 2 ^ 64) (sym (uncapped low s f₁)) f₁ }))
          (ap (vint w64) (uncapped low s f₁))) refl (tt, record { fits = f₁ }) $
          sets ! (bin ! (get ! refl) (get ! refl) tt) refl (tt, tt) $
          sets_last ! (addr ! (through ! refl (stop !))) refl (tt, tt) $
          exec ! 𝓣.C 𝓣.Λ En (after 2 fn'.body) (at_ret En Post) $
          sets ! (of_opd ! (get ! refl)) refl (tt, tt) $
          sets ! (addr ! (through ! refl (stop !))) refl (tt, tt) $
          let ref₁ : MutBor E.Denot = record { ref_ptr = (b, o₁); ghost_name = δs.0; now = p.first }
          in
          let y₁ : k.Ghost = ((κs, qs, inside, (ref₁, tt), (vptr b o₁ ∷ [], tt)), tt) in
          move ! (4 ∷ 5 ∷ []) $ feq_i ! (List Val) (vptr b o₁ ∷ []) (vptr b o₁ ∷ []) refl $
          fjoin3 ! $ nothing ! $ move ! (1 ∷ 0 ∷ []) $ fjoin ! $
          -- [the first slot; the token; the ways; obs δ₂; its borrow; the other tokens]
          move ! (1 ∷ 5 ∷ []) $ join ! $ move ! (0 ∷ 1 ∷ []) $ join ! $
          use0 𝓛 (raw (fact 𝓤 (Unit {0}))) (fact_i 𝓤 _ (emp 𝓤) tt) $
          use0 𝓛 (raw (fact 𝓤 (IsSome (value_of p.first)))) (fact_i 𝓤 _ (emp 𝓤) u₁) $ join ! $
          use0 𝓛 (raw (fact 𝓤 (κs.1.1.1.1.1.0 ⊑ PW.lives))) (fact_i 𝓤 _ (emp 𝓤) lw) $ join ! $
          use0 𝓛 (raw (fact 𝓤 (κs.1.1.1.1.0 ⊑ PG.lives))) (fact_i 𝓤 _ (emp 𝓤) lg) $ join ! $
          use0 𝓛 (raw (fact 𝓤 (κs.1.1.1.0 ⊑ PI.lives))) (fact_i 𝓤 _ (emp 𝓤) li) $ join ! $
          use0 𝓛 (raw (fact 𝓤 (κs.1.1.0 ⊑ T'.lives))) (fact_i 𝓤 _ (emp 𝓤) lt) $ join ! $
          use0 𝓛 (raw (fact 𝓤 (κs.1.0 ⊑ P.lives))) (fact_i 𝓤 _ (emp 𝓤) lp) $ join ! $
          move ! (1 ∷ 0 ∷ []) $ join ! $
          use1 𝓛 (raw (k.pre y₁)) (id⊢ 𝓤 (k.pre y₁)) $
          calls_at ! (framed 𝓤 H 𝓜 𝓣) k Callee-met y₁ (and_then ! (get ! refl) (no_more !)) (λ v₁.
          use1 𝓛
          (later
          (some (λ (r : MutBor T'.Denot). ((‵ (flft κ qs.0) ⊛ others) ⊛
          ‵ (Lent.own_val r (v₁ ∷ []))) ⊛
          some
          (λ (ws : Lasts (callee.ended P T' PI PG PW g0 d0 g1 d1 g2 d2 g3 d3 g4 d4 g5 d5 g6 d6
          g7 d7 g8 d8) κs (ref₁, tt)). ‵
          (lasts (callee.ended P T' PI PG PW g0 d0 g1 d1 g2 d2 g3 d3 g4 d4 g5 d5 g6 d6 g7 d7 g8
          d8) κs (ref₁, tt) ws) ⊛ (‵ (follows E R δs.0 r.ghost_name (with_slot_value p.first)) ⊛
          raw (fact 𝓤 (value_of p.first ≡ Some r.now))))))) (id⊢ 𝓤 (k.post y₁ v₁)) $
          await ! tt $ pick ! (λ r₁. split ! $ split ! $ move ! (2 ∷ []) $
          pick ! (λ ws₁. split ! $ drop ! $ split ! $ move ! (1 ∷ []) $ heard ! _ (λ told₁.
          -- [how the first slot follows; the tokens; the result; the ways; obs δ₂; its borrow]
          move ! (2 ∷ []) $ fsplit3 ! $ feq_l ! (λ e₁. lands_as ! (ap only e₁) refl (tt, tt) $
          -- [obs μ₁; its borrow; how; the tokens; the ways; obs δ₂; its borrow]
          first ! $ blocks ! $
          sets
          ! (is
          ! (bin ! (get ! refl) (size_word !)
          (record { fits = subst (λ (k : ℕ). k < 2 ^ 64) (sym (uncapped high s f₂)) f₂ }))
          (ap (vint w64) (uncapped high s f₂))) refl (tt, record { fits = f₂ }) $
          sets ! (bin ! (get ! refl) (get ! refl) tt) refl (tt, tt) $
          sets_last ! (addr ! (through ! refl (stop !))) refl (tt, tt) $
          exec ! 𝓣.C 𝓣.Λ En (after 6 fn'.body) (at_ret En Post) $
          sets ! (of_opd ! (get ! refl)) refl (tt, tt) $
          sets ! (addr ! (through ! refl (stop !))) refl (tt, tt) $
          let ref₂ : MutBor E.Denot = record {
            ref_ptr = (b, o₂);
            ghost_name = δs.1;
            now =
                p.second;
          } in
          let y₂ : k.Ghost = ((κs, qs, inside, (ref₂, tt), (vptr b o₂ ∷ [], tt)), tt) in
          move ! (5 ∷ 6 ∷ []) $ feq_i ! (List Val) (vptr b o₂ ∷ []) (vptr b o₂ ∷ []) refl $
          fjoin3 ! $ nothing ! $ move ! (1 ∷ 0 ∷ []) $ fjoin ! $
          -- [the second slot; obs μ₁; its borrow; how; the tokens; the ways]
          move ! (4 ∷ 0 ∷ []) $ join ! $
          use0 𝓛 (raw (fact 𝓤 (Unit {0}))) (fact_i 𝓤 _ (emp 𝓤) tt) $
          use0 𝓛 (raw (fact 𝓤 (IsSome (value_of p.second)))) (fact_i 𝓤 _ (emp 𝓤) u₂) $ join ! $
          use0 𝓛 (raw (fact 𝓤 (κs.1.1.1.1.1.0 ⊑ PW.lives))) (fact_i 𝓤 _ (emp 𝓤) lw) $ join ! $
          use0 𝓛 (raw (fact 𝓤 (κs.1.1.1.1.0 ⊑ PG.lives))) (fact_i 𝓤 _ (emp 𝓤) lg) $ join ! $
          use0 𝓛 (raw (fact 𝓤 (κs.1.1.1.0 ⊑ PI.lives))) (fact_i 𝓤 _ (emp 𝓤) li) $ join ! $
          use0 𝓛 (raw (fact 𝓤 (κs.1.1.0 ⊑ T'.lives))) (fact_i 𝓤 _ (emp 𝓤) lt) $ join ! $
          use0 𝓛 (raw (fact 𝓤 (κs.1.0 ⊑ P.lives))) (fact_i 𝓤 _ (emp 𝓤) lp) $ join ! $
          move ! (1 ∷ 0 ∷ []) $ join ! $
          use1 𝓛 (raw (k.pre y₂)) (id⊢ 𝓤 (k.pre y₂)) $
          calls_at ! (framed 𝓤 H 𝓜 𝓣) k Callee-met y₂ (and_then ! (get ! refl) (no_more !)) (λ v₂.
          use1 𝓛
          (later
          (some (λ (r : MutBor T'.Denot). ((‵ (flft κ qs.0) ⊛ others) ⊛
          ‵ (Lent.own_val r (v₂ ∷ []))) ⊛
          some
          (λ (ws : Lasts (callee.ended P T' PI PG PW g0 d0 g1 d1 g2 d2 g3 d3 g4 d4 g5 d5 g6 d6
          g7 d7 g8 d8) κs (ref₂, tt)). ‵
          (lasts (callee.ended P T' PI PG PW g0 d0 g1 d1 g2 d2 g3 d3 g4 d4 g5 d5 g6 d6 g7 d7 g8
          d8) κs (ref₂, tt) ws) ⊛ (‵ (follows E R δs.1 r.ghost_name (with_slot_value p.second))
          ⊛ raw (fact 𝓤 (value_of p.second ≡ Some r.now))))))) (id⊢ 𝓤 (k.post y₂ v₂)) $
          await ! tt $ pick ! (λ r₂. split ! $ split ! $ move ! (2 ∷ []) $
          pick ! (λ ws₂. split ! $ drop ! $ split ! $ move ! (1 ∷ []) $ heard ! _ (λ told₂.
          -- [how the second slot follows; the tokens; the result; obs μ₁; its borrow; how the first
          -- follows; the ways]
          move ! (2 ∷ []) $ fsplit3 ! $ feq_l ! (λ e₂. lands_as ! (ap only e₂) refl (tt, tt) $
          -- [obs μ₂; its borrow; how₂; the tokens; obs μ₁; its borrow; how₁; the ways]
          move ! (7 ∷ 6 ∷ 2 ∷ []) $
          use3 𝓛
          (‵ (after_ways (Arr (mem E) (length xs)) (mem R) (mem R) γ r₁.ghost_name r₂.ghost_name
          (λ x y. replaced p (with_slot_value p.first x) (with_slot_value p.second y))))
          (ways_parts 𝓛 (Arr (mem E) (length xs)) (mem E) (mem E) (mem R) (mem R) (replaced p)
          (with_slot_value p.first) (with_slot_value p.second) γ δs.0 δs.1 r₁.ghost_name
          r₂.ghost_name) $
          rewrite ! 0 (λ (f : T'.Denot → T'.Denot → List E.Denot). ‵
          (after_ways (Arr (mem E) (length xs)) (mem R) (mem R) γ r₁.ghost_name r₂.ghost_name
          f)) (λ i x y. written_is p with_slot_value x y i) refl $
          -- [the ways; obs μ₂; its borrow; the tokens; obs μ₁; its borrow]
          sets ! (addr ! (through ! refl (stop !))) refl (tt, tt) $
          sets ! (addr ! (through ! refl (stop !))) refl (tt, tt) $
          sets ! (agg ! (and_then ! (get ! refl) (and_then ! (get ! refl) (no_more !)))) refl
          (tt, (tt, (tt, tt))) $
          let z₁ : Val = vptr r₁.ref_ptr.0 r₁.ref_ptr.1 in
          let z₂ : Val = vptr r₂.ref_ptr.0 r₂.ref_ptr.1 in
          let v : Val = vstruct (vcons z₁ (vcons z₂ vnil)) in
          move ! (1 ∷ 2 ∷ []) $ feq_i ! (List Val) (z₂ ∷ []) (z₂ ∷ []) refl $ fjoin3 ! $
          move ! (3 ∷ 4 ∷ []) $ feq_i ! (List Val) (z₁ ∷ []) (z₁ ∷ []) refl $ fjoin3 ! $
          -- [the first; the second; the ways; the tokens]
          nothing ! $ move ! (2 ∷ 0 ∷ []) $ fjoin ! $ move ! (1 ∷ 0 ∷ []) $ fjoin ! $
          feq_i ! (List Val) (v ∷ []) (v ∷ []) refl $ fjoin ! $
          fpack ! (Valss (Lent ∷ Lent ∷ [])) (within (shape (tuple_type (Lent ∷ Lent ∷ [])))
          (r₁, (r₂, tt)) (v ∷ [])) (z₁ ∷ [], (z₂ ∷ [], tt)) $
          returns ! (look_at ! 0 refl) $ free_all ! refl $
          suffices ! _ (ends_at 𝓛 ended stayed spec bound v (r₁, r₂) (tt, (tt, (tt, tt)))
          (tt, (tt, (tt, tt)))) $
          -- [the result; the ways; the tokens]
          nothing ! $ nothing ! $ fjoin ! $ nothing ! $ fjoin ! $ nothing ! $ fjoin ! $ join ! $
          move ! (2 ∷ 0 ∷ []) $ join ! $ frame ! $
          says ! (first_at p value_of ∙ told₁, second_at p value_of ∙ told₂) $ done !))))))))))))

    meets : Meets 𝓛 ended.signature (WpFn 𝓤 H 𝓣.C 𝓣.Λ fn') (closing 𝓛 ended spec)
    unfolding tables_of contract.CodeStep.c_Tables
    meets =
        walk_Meets 𝓛 ended stayed (
          Goes-spent_slice 𝓛 6 (0 ∷ []) tt (plain (λ _. E)),
          (
            Goes-dropped 𝓛 6 (plain (λ _. usize)) yes (λ κs x f. refl),
            (Goes-dropped 𝓛 6 (plain (λ _. usize)) yes (λ κs x f. refl), tt),
          ),
        ) spec
        (WpFn 𝓤 H 𝓣.C 𝓣.Λ fn') (WpFn-mono 𝓤 H 𝓛.laws (tables_of 𝓤 H 𝓜 𝓣) fn')
        (walked 𝓛 ended stayed spec (WpFn 𝓤 H 𝓣.C 𝓣.Λ fn')
        (λ κs. (mut_slice_vals, (uint_vals w64, (uint_vals w64, tt))))
        (λ κs. (mut_slice_Tells (named 0) κs.0 E, (uint_Tells w64, (uint_Tells w64, tt))))
        (λ κs qs bounds a n are.
        let low : ℕ = a.1.0 in
        let high : ℕ = a.1.1.0 in
        let xs : List E.Denot = a.0.now in
        let γ : GName = a.0.ghost_name in
        qed 𝓛
        (((‵ (flft κs.0 qs.0) ⊛ ‵ (flft κs.1.0 qs.1.0) ⊛ ‵ (flft κs.1.1.0 qs.1.1.0) ⊛
        ‵ (flft κs.1.1.1.0 qs.1.1.1.0) ⊛ ‵ (flft κs.1.1.1.1.0 qs.1.1.1.1.0) ⊛
        ‵ (flft κs.1.1.1.1.1.0 qs.1.1.1.1.1.0) ⊛ ‵ ftrue) ⊛
        ‵ (owns (MutSlice (named 0) κs.0 E ∷ usize ∷ usize ∷ []) a (
          mut_slice_vals a.0,
          (vint w64 low ∷ [], (vint w64 high ∷ [], tt)),
        )))
        ∷ raw (fact 𝓤 (κs.1.0 ⊑ P.lives)) ∷ raw (fact 𝓤 (κs.1.1.0 ⊑ T'.lives)) ∷
        raw (fact 𝓤 (κs.1.1.1.0 ⊑ PI.lives)) ∷ raw (fact 𝓤 (κs.1.1.1.1.0 ⊑ PG.lives)) ∷
        raw (fact 𝓤 (κs.1.1.1.1.1.0 ⊑ PW.lives)) ∷ raw (fact 𝓤 (low < high)) ∷
        raw (fact 𝓤 (high < length xs)) ∷
        raw (fact 𝓤 (IsSome (slice_index_or (map value_of xs) low None))) ∷
        raw (fact 𝓤 (IsSome (slice_index_or (map value_of xs) high None))) ∷ []) ∵
        move ! (1 ∷ []) $
        heard ! _ (λ lp. move ! (1 ∷ []) $
        heard ! _ (λ lt. move ! (1 ∷ []) $
        heard ! _ (λ li. move ! (1 ∷ []) $
        heard ! _ (λ lg. move ! (1 ∷ []) $
        heard ! _ (λ lw. move ! (1 ∷ []) $
        heard ! _ (λ order. move ! (1 ∷ []) $
        heard ! _ (λ below. move ! (1 ∷ []) $
        heard ! _ (λ used₁. move ! (1 ∷ []) $ heard ! _ (λ used₂.
        split ! $ split ! $ move ! (2 ∷ []) $ fsplit ! $ fsplit3 ! $ fsplit ! $ drop ! $
        pure_l ! (room E (length xs)) (λ rm.
        -- [obs; the borrow; the indexes; κ2; ..; κ0; κ1]
        rewrite ! 0 (λ (zs : List E.Denot). ‵ (fobs γ ((coded_list E.coded).code zs)))
        (heres_id E xs) refl $
        keep ! (0 ∷ 1 ∷ 3 ∷ 4 ∷ []) $
        by ! (walk κs qs bounds a.0.ref_ptr.0 a.0.ref_ptr.1 γ xs low high lp lt li lg lw are.1.0.1
        are.1.1.0.1 rm order below used₁ used₂)))))))))))))

pub values_in_order_spec : {M : Type 1} → stated.statement M
values_in_order_spec 𝓤 𝓛 𝓜 𝓡 wired P T' PI PG PW LP LT LI LG LW cP cI cG cW g0 d0 g1 d1 g2 d2 g3 d3
    g4 d4 g5 d5 g6 d6 g7 d7 g8 d8 m0 m1 m2 m3 m4 m5 m6 m7 m8 =
    let cm = theirs.met 𝓤 𝓛 𝓜 𝓡 (code.calls-triple_arena::slot::ArenaSlotValueMut::value_mut 𝓡.env
    wired) P T' PI PG PW LP LT LI LG LW cP cI cG cW g0 d0 g1 d1 g2 d2 g3 d3 g4 d4 g5 d5 g6 d6 g7
    d7 g8 d8 m0 m1 m2 m3 m4 m5 m6 m7 m8 in
    let 𝓣' = tables 𝓤 𝓛.H 𝓜 𝓡 𝓡.env in
    entered 𝓤 𝓛.H (triple_of 𝓛 (ended P T' PI PG PW g0 d0 g1 d1 g2 d2 g3 d3 g4 d4 g5 d5 g6 d6 g7 d7
    g8 d8).signature
    (closing 𝓛 (ended P T' PI PG PW g0 d0 g1 d1 g2 d2 g3 d3 g4 d4 g5 d5 g6 d6 g7 d7 g8 d8)
    (spec P T' PI PG PW g0 d0 g1 d1 g2 d2 g3 d3 g4 d4 g5 d5 g6 d6 g7 d7 g8 d8 𝓛 𝓜 𝓡 cm))) 𝓣'.C
    𝓣'.Λ (#self (args P T' PI PG PW g0 d0 g1 d1 g2 d2 g3 d3 g4 d4 g5 d5 g6 d6 g7 d7 g8 d8))
    (fn' P T' PI PG PW g0 d0 g1 d1 g2 d2 g3 d3 g4 d4 g5 d5 g6 d6 g7 d7 g8 d8)
    (code.unfolded 𝓤 𝓛.H 𝓜 𝓡 wired (P, (T', (PI, (PG, (PW, tt))))) d0 d1 d2 d3 d4 d5 d6 d7 d8)
    (meets P T' PI PG PW g0 d0 g1 d1 g2 d2 g3 d3 g4 d4 g5 d5 g6 d6 g7 d7 g8 d8 𝓛 𝓜 𝓡 cm)
