-- `lend_in_order` opens the arena, has its stack lend the slots and two slots lend their values,
-- and closes the arena: it is sound at any two values. Assumes `Logic`.
use mathlib.Core.Path.{◌≡◌, refl, ap, sym, subst, ◌∙◌}
use Prim.Native.Nat.{ℕ, ◌+◌, ◌^◌, ◌<◌}
use mathlib.Core.List.{List, [], ◌∷◌, ◌++◌}
use lib.ListN.{length}
use lib.Dec.{T}
use seplogic.Ra.Ura.{Ura}
use base.Fraction.{full_share}
use base.Share
use base.Stored.{coded_list}
use mir.Syntax.{Fn, Dict, Args, named, a_type, dcons, dnil, w64}
use mir.MapTy.{inst_fn}
use mir.Val.{Val, vptr, vint, vstruct, vcons, vnil, has_ty, WT}
use base.Logic.{SProp, ent, sep, emp, id⊢, via}
use base.Fml.{Lft, GName, Share, ftrue, fsep, flft, fobs, fauth, fbor}
use prog.Memory.{up, align}
use prog.Model.{Model}
use prog.Wp.{Env, WpFn}
use types.Logic.{Logic, sem}
use types.Late.{ages, bor_new_deep}
use types.Tokens.{name_new}
use contract.CodeStep
use contract.Monad.{fact}
use contract.BorrowLft.{◌⊑◌, ⊑_trans}
use contract.Running.{Running, MachineTables, tables, tables_of}
use contract.Fact.{fact_i}
use sound.WpLaws.{WpFn-mono}
use types.Kit.{Item, ⋆, ‵, raw, ◌⊛◌, some, later, at_ret, ◌$◌, ◌∵◌, !, qed, by, move, keep, use0}
use types.Kit.{use1, use2, drop, split, split3, join, pick, await, group, rewrite, fsplit, fsplit3}
use types.Kit.{fjoin, fjoin3, fpack, feq_i, feq_l, suffices, frame, done}
use types.Part.{whole, sub, agg}
use types.Run.{
  stop,
  fld,
  from,
  hop,
  of_opd,
  addr,
  and_then,
  no_more,
  first,
  blocks,
  exec,
  returns,
  enter,
}
use types.ByLocal.{
  alloc_all,
  pass_all,
  free_all,
  look_at,
  look_in_at,
  get,
  get_in,
  through,
  sets,
  sets_last,
  lands_as,
  env,
}
use types.SemTy.{SemTy, Arr, Body as Borrowed, cells}
use types.Mut.{open_ref}
use denote.Exit.{yes, no}
use denote.RattleType.{RattleType, Denots, owns}
use denote.Memory.{mem, part_at, part_of, lone}
use denote.Follow.{follows, follows_both}
use denote.FollowSlice.{heres_id, slice_of}
use denote.Array.{Array}
use denote.Model.Fields.{view_owns, view_made, plain_out, Plain-in}
use denote.Param.{param, copied, bounded}
use denote.Param.Laws.{Laws}
use denote.Ref.{MutRef, MutBor}
use denote.Shadow.{pure_l}
use denote.Signature.{plain, mut_slice_of}
use denote.Slice.{MutSlice, Room, room, slice_val, mut_slice_vals, mut_slice_Tells}
use denote.Steps.{nothing, heard, only, peeks, owned}
use denote.Struct.Loose.{lawfuls}
use denote.Struct.Members.{Member}
use denote.Struct.Parts.{PartsBack}
use denote.Struct.Pick.{rest_at, field_out, field_back}
use denote.Triple.Call.{calls_at}
use denote.Triple.Clauses.{Clauses, Ended, closing, Lasts, lasts}
use denote.Triple.Spec.{Meets, triple_of}
use denote.Triple.Table.{entered, framed}
use denote.Triple.Walked.{
  says,
  Stays,
  stay_dropped,
  walk_of,
  ends_at,
  walked,
  Goes-dropped,
  Goes-spent_slice,
  walk_Meets,
}
use Rattle.std.specs.Prelude.{IsSome, None, Some, slice_index_or, map}
use Rattle.std.specs.Option.{option_map}
use Rattle.std.specs.List.{refill}
use Rattle.std.specs.declared.clone.Clone
use Rattle.std.specs.declared.cmp.PartialEq
use Rattle.triple_arena_ptr.specs.declared.ptr.PtrCore
use Rattle.triple_arena_ptr.specs.declared.ptr.PtrGenCore
use Rattle.triple_arena_ptr.specs.declared.ptr.PtrInxCore
use Rattle.triple_arena_stack.specs.declared.stack.NonZeroInxGenericStack as Stk
use Rattle.triple_arena_stack.specs.contracts.stack.NonZeroInxGenericStack.TheBound as Stk-bound
use Rattle.triple_arena_stack.specs.contracts.stack.NonZeroInxGenericStack.as_mut_slice as callee
use Rattle.triple_arena.specs.declared.slot.ArenaSlot.{ArenaSlot}
use Rattle.triple_arena.specs.declared.slots.ArenaSlots
use Rattle.triple_arena.specs.contracts.slot.ArenaSlot as E-type
use Rattle.triple_arena.specs.contracts.arena.Arena as A-type
use Rattle.triple_arena.specs.contracts.arena.Arena.TheInside as I-type
use Rattle.triple_arena.proofs.arena.Arena.TheInside.TheLaws as I-laws
use Rattle.triple_arena.specs.ArenaRoom.{room_of}
use Rattle.triple_arena.specs.Content.{Content}
use Rattle.triple_arena.specs.Slot.{with_slot_value, entry_of, value_of}
use Rattle.triple_arena.specs.TwoValues.{written_both, with_two_values}
use Rattle.triple_arena.specs.BothWays.{after_ways}
use Rattle.triple_arena_ptr.specs.contracts.optional_inx.OptionalInx
use denote.Builtin
use Rattle.std.specs.contracts.marker.PhantomData
use denote.Struct.Members
use denote.Param.Laws as P-Laws
use denote.Laws as D-Laws
use native.Mathlib.Omega.{arith}
use lib.Seq.{take_at}
use lib.ListN.{drop as drop_l}
use denote.Builtin.{usize}
use denote.Laws.{Is, Typed, shows}
use denote.Plain.{uint_vals, uint_Tells, uint_Makes}
use denote.Struct.Tuple.{Tuple}
use native.Mathlib.Omega.{arith}
use Rattle.std.proofs.VecSteps.Shapes.{after}
use Rattle.triple_arena.proofs.BothWaysLemmas.{ways_then, closes_both, ways_both}
use Rattle.triple_arena.proofs.TwoValuesLemmas.{
  written as lemma_written,
  value_at_slot,
  is_within,
  the_one,
  length-written,
}
use Rattle.triple_arena.specs.contracts.arena.lending.ArenaTwoValues.lend_in_order as F
use Rattle.triple_arena.specs.contracts.arena.lending.ArenaTwoValues.lend_in_order.Key.{
  name as
      #self,
}
use Rattle.triple_arena.specs.contracts.two_values.ArenaSlotValuesInOrder.values_in_order as inner
use Rattle.triple_arena.specs.contracts.two_values.ArenaSlotValuesInOrder.values_in_order.Key.{
  name
      as #inner,
}
use Rattle.triple_arena.proofs.two_values.ArenaSlotValuesInOrder.values_in_order.Met as theirs
use Rattle.triple_arena.proofs.arena.lending.ArenaTwoValues.lend_in_order.Statement as stated
use Rattle.triple_arena.proofs.arena.lending.ArenaTwoValues.lend_in_order.Code as code

module _ (P T' S P-Inx P-Gen P-Word S-Alloc : RattleType)
    (g0 : PtrCore.Ghosts P.Denot P-Inx.Denot P-Gen.Denot P-Word.Denot) (d0 : Dict)
    (g1 : Clone.Ghosts P.Denot) (d1 : Dict)
    (g2 : PtrInxCore.Ghosts P-Inx.Denot P-Word.Denot) (d2 : Dict) (g3 : Clone.Ghosts P-Inx.Denot)
    (d3 : Dict) (g4 : PartialEq.Ghosts P-Inx.Denot) (d4 : Dict) (g5 : Clone.Ghosts P-Word.Denot)
    (d5 : Dict)
    (g6 : PtrGenCore.Ghosts P-Gen.Denot) (d6 : Dict) (g7 : Clone.Ghosts P-Gen.Denot) (d7 : Dict)
    (g8 : PartialEq.Ghosts P-Gen.Denot) (d8 : Dict)
    (g9 : ArenaSlots.Ghosts S.Denot P.Denot T'.Denot S-Alloc.Denot P-Inx.Denot P-Gen.Denot
    P-Word.Denot) (d9 : Dict)
    (g10 : Stk.Ghosts S.Denot (ArenaSlot P.Denot T'.Denot P-Inx.Denot P-Gen.Denot P-Word.Denot)
    S-Alloc.Denot) (d10 : Dict) (d11 d12 : Dict) where
  abbrev R : RattleType
  R = param 1 T'

  abbrev E : RattleType
  E = E-type.the_row (copied 0 P) (param 1 T') (copied 3 P-Inx) (copied 4 P-Gen) (copied 5 P-Word)
      g0 g2 g4 g6 g8

  abbrev A : RattleType
  A = A-type.the_row (copied 0 P) (param 1 T') (param 2 S) (copied 3 P-Inx) (copied 4 P-Gen)
      (copied 5 P-Word) (param 6 S-Alloc) g0 g2 g4 g6 g8 g10

  abbrev Inside : RattleType
  Inside = I-type.the_row (copied 0 P) (param 1 T') (param 2 S) (copied 3 P-Inx) (copied 4 P-Gen)
      (copied 5 P-Word) (param 6 S-Alloc) g0 g2 g4 g6 g8 g10

  abbrev args : Args
  args = bounded (a_type ∷ a_type ∷ a_type ∷ a_type ∷ a_type ∷ a_type ∷ a_type ∷ [])
      (P, (T', (S, (P-Inx, (P-Gen, (P-Word, (S-Alloc, tt)))))))
      (dcons d0
      (dcons d1
      (dcons d2
      (dcons d3
      (dcons d4
      (dcons d5
      (dcons d6 (dcons d7 (dcons d8 (dcons d9 (dcons d10 (dcons d11 (dcons d12 dnil)))))))))))))

  abbrev fn' : Fn
  fn' = inst_fn args code.function

  abbrev ended : Ended
  ended = F.ended P T' S P-Inx P-Gen P-Word S-Alloc g0 d0 g1 d1 g2 d2 g3 d3 g4 d4 g5 d5 g6 d6 g7 d7
      g8 d8 g9 d9 g10 d10 d11 d12

  abbrev stayed : Stays ended.signature.params ended.kept
  stayed = (
    stay_dropped (mut_slice_of (0 ∷ []) tt (plain (λ _. A))) no,
    (stay_dropped (plain (λ _. usize)) yes, (stay_dropped (plain (λ _. usize)) yes, tt)),
  )

  abbrev view : Inside.Denot → Content T'.Denot
  view = A-type.the_view (copied 0 P) (param 1 T') (param 2 S) (copied 3 P-Inx) (copied 4 P-Gen)
      (copied 5 P-Word) (param 6 S-Alloc) g0 g2 g4 g6 g8 g10

  abbrev good : Inside.Denot → Type 0
  good = A-type.the_invariant (copied 0 P) (param 1 T') (param 2 S) (copied 3 P-Inx)
      (copied 4 P-Gen) (copied 5 P-Word) (param 6 S-Alloc) g0 g2 g4 g6 g8 g10

  -- what the slots' call is given
  abbrev inner-args : Args
  inner-args = bounded (a_type ∷ a_type ∷ a_type ∷ a_type ∷ a_type ∷ [])
      (P, (T', (P-Inx, (P-Gen, (P-Word, tt)))))
      (dcons d0
      (dcons d1 (dcons d2 (dcons d3 (dcons d4 (dcons d5 (dcons d6 (dcons d7 (dcons d8 dnil)))))))))

  -- the slots with two values written
  abbrev W : List E.Denot → ℕ → ℕ → T'.Denot → T'.Denot → List E.Denot
  W xs low high = written_both with_slot_value xs low high

  -- the arena as it is once two values were written
  written : (LS : Stk-bound.Lawful S E S-Alloc g10 d10) (a : Inside.Denot) (xs : List E.Denot)
      (low high : ℕ) → xs ≡ g10.items a.slots → good a → low < high
      → IsSome (slice_index_or (map value_of xs) low None) →
      IsSome (slice_index_or (map value_of xs) high None) → (x y : T'.Denot)
      → let s' : S.Denot =
      g10.with_items a.slots (refill (length (g10.items a.slots)) (g10.items a.slots)
      (W xs low high x y)) in
      (view (record a { slots = s' }) ≡ with_two_values (view a) low high x y) ×
      good (record a { slots = s' })
  written LS a xs low high is sound order live₁ live₂ x y =
      let es : List E.Denot = g10.items a.slots in
      let ws : List E.Denot = W xs low high x y in
      let long : length ws ≡ length es = length-written with_slot_value xs low high x y ∙
      ap length is in
      let all : refill (length es) es ws ≡ ws = take_at ws (drop_l (length ws) es) (length es)
      (omega (arith, long)) in
      let items : g10.items (g10.with_items a.slots (refill (length es) es ws)) ≡ W es low high x y
      =
      LS.items_with_items a.slots (refill (length es) es ws) ∙ all ∙
      ap (λ (ys : List E.Denot). W ys low high x y) is in
      let kept = ap (room_of g2.greatest) (LS.room_with_items a.slots (refill (length es) es ws)) in
      let l₁ : IsSome (slice_index_or (map value_of es) low None) =
      subst (λ (ys : List E.Denot). IsSome (slice_index_or (map value_of ys) low None)) is live₁
      in
      let l₂ : IsSome (slice_index_or (map value_of es) high None) =
      subst (λ (ys : List E.Denot). IsSome (slice_index_or (map value_of ys) high None)) is
      live₂ in
      let r = lemma_written low high x y sound refl order l₁ l₂ items kept in
      (r.content, r.sound)

  module _ {M : Type 1} {𝓤 : Ura M} (𝓛 : Logic 𝓤) (𝓜 : Model 𝓤 𝓛.H) (𝓡 : Running 𝓤 𝓛.H 𝓜)
      (LP : Laws P) (LT : Laws T') (LS : Laws S) (LI : Laws P-Inx) (LG : Laws P-Gen)
      (LW : Laws P-Word) (LA : Laws S-Alloc)
      (metS : Stk-bound.Met 𝓛 𝓜 𝓡 𝓡.env S E S-Alloc g10 d10)
      (Inner-met : Meets 𝓛 (inner.signature P T' P-Inx P-Gen P-Word g0 d0 g1 d1 g2 d2 g3 d3 g4 d4 g5
      d5 g6 d6 g7 d7 g8 d8) (𝓡.run (𝓡.env (#inner inner-args)))
      (inner.spec P T' P-Inx P-Gen P-Word g0 d0 g1 d1 g2 d2 g3 d3 g4 d4 g5 d5 g6 d6 g7 d7 g8 d8
      𝓛 𝓜.mem 𝓡.returns)) where
    open 𝓛 use {H}

    abbrev 𝓣 : MachineTables 𝓤 H 𝓜
    𝓣 = tables 𝓤 H 𝓜 𝓡 𝓡.env

    abbrev spec : Clauses 𝓤 ended
    spec = F.clauses P T' S P-Inx P-Gen P-Word S-Alloc g0 d0 g1 d1 g2 d2 g3 d3 g4 d4 g5 d5 g6 d6 g7
        d7 g8 d8 g9 d9 g10 d10 d11 d12 𝓛 𝓜.mem 𝓡.returns

    abbrev Sr : RattleType
    Sr = param 0 S

    abbrev Ir : RattleType
    Ir = param 1 E

    abbrev ms : List Member
    ms = record { row = param 2 S; ty = lone (param 2 S).mir } ∷
        record { row = copied 4 P-Gen; ty = lone (copied 4 P-Gen).mir } ∷
        record {
          row = Rattle.triple_arena_ptr.specs.contracts.optional_inx.OptionalInx.the_row
              (copied 3 P-Inx) (copied 5 P-Word) g2 g4;
          ty =
              lone (Rattle.triple_arena_ptr.specs.contracts.optional_inx.OptionalInx.the_row
              (copied 3 P-Inx) (copied 5 P-Word) g2 g4).mir;
        }
        ∷ record { row = denote.Builtin.usize; ty = lone denote.Builtin.usize.mir } ∷
        record {
          row =
              (Rattle.std.specs.contracts.marker.PhantomData.the_field (param 1 T')).row;
          ty =
              lone ((Rattle.std.specs.contracts.marker.PhantomData.the_field (param 1 T')).row).mir;
        }
        ∷ []

    -- where the stack lies in an arena
    abbrev so : ℕ → ℕ
    so o = o + up (align (lone (param 2 S).mir)) 0

    abbrev laws-of : D-Laws.Lawfuls 𝓛 (denote.Struct.Members.rows_of ms)
    laws-of = lawfuls 𝓛 (I-type.the_type (copied 0 P) (param 1 T') (param 2 S) (copied 3 P-Inx)
        (copied 4 P-Gen) (copied 5 P-Word) (param 6 S-Alloc) g0 g2 g4 g6 g8 g10).parts
        (I-laws.the_loose (copied 0 P) (param 1 T') (param 2 S) (copied 3 P-Inx) (copied 4 P-Gen)
        (copied 5 P-Word) (param 6 S-Alloc) g0 g2 g4 g6 g8 g10
        (P-Laws.copied_laws 0 P LP) (P-Laws.param_laws 1 T' LT) (P-Laws.param_laws 2 S LS)
        (P-Laws.copied_laws 3 P-Inx LI) (P-Laws.copied_laws 4 P-Gen LG)
        (P-Laws.copied_laws 5 P-Word LW) (P-Laws.param_laws 6 S-Alloc LA))

    module _ (rb ro : ℕ) (a : Inside.Denot) where
      abbrev vals : Denots (denote.Struct.Members.rows_of ms)
      vals = (a.slots, (a.counter, (a.head, (a.len, (tt, tt)))))

      abbrev Back : SProp 𝓤
      Back = sep 𝓤 (sem 𝓛 (rest_at full_share ms 0 vals rb ro 0))
          (PartsBack 𝓛 full_share [] ms rb ro)

      field_of : ent 𝓤 (sem 𝓛 (part_at Inside full_share a rb ro))
          (sep 𝓤 (sem 𝓛 (part_at Sr full_share a.slots rb (so ro))) Back)
      unfolding part_of
      field_of = field_out 𝓛 full_share [] ms laws-of vals rb ro 0

      -- the arena again, from its stack as the two values leave it
      back : (xs : List E.Denot) (low high : ℕ) → xs ≡ g10.items a.slots → good a → low < high
          → IsSome (slice_index_or (map value_of xs) low None) →
          IsSome (slice_index_or (map value_of xs) high None) → (x y : T'.Denot)
          → ent 𝓤
          (sep 𝓤
          (sem 𝓛
          (part_at Sr full_share
          (g10.with_items a.slots (refill (length (g10.items a.slots)) (g10.items a.slots)
          (W xs low high x y))) rb (so ro))) Back)
          (sem 𝓛 ((mem A).own_at (with_two_values (view a) low high x y) rb ro))
      unfolding part_of
      back xs low high is sound order live₁ live₂ x y =
          let s' : S.Denot =
          g10.with_items a.slots (refill (length (g10.items a.slots)) (g10.items a.slots)
          (W xs low high x y)) in
          let b : Inside.Denot = record a { slots = s' } in
          let vals' : Denots (denote.Struct.Members.rows_of ms) =
          (s', (a.counter, (a.head, (a.len, (tt, tt))))) in
          let new =
          written (record {
            items_with_items = metS.items_with_items;
            room_with_items =
                metS.room_with_items;
          }) a xs low high is sound order live₁ live₂ x y in
          qed 𝓛 (‵ (part_at Sr full_share s' rb (so ro)) ∷ raw Back ∷ []) ∵
          use2 𝓛 (‵ (part_at Inside full_share b rb ro)) (field_back 𝓛 full_share [] ms vals' rb ro
          0) $
          by ! (Plain-in A Inside (view_owns Inside (Content T'.Denot) A.coded view good) 𝓛
          full_share (with_two_values (view a) low high x y) b
          (view_made Inside (Content T'.Denot) A.coded view good 𝓛
          (with_two_values (view a) low high x y) b new) rb ro)

    module _ (rb ro : ℕ) where
      fill_one : (c d : Content T'.Denot) (ds : List (Content T'.Denot)) (f : Content T'.Denot →
          Content T'.Denot) → ds ≡ c ∷ [] → d ≡ f c
          → ent 𝓤 (sem 𝓛 ((mem A).own_at d rb ro))
          (sem 𝓛 ((Arr (mem A) (length ds)).own_at (map f ds) rb ro))
      fill_one c d ds f one is =
          let e : d ∷ [] ≡ map f ds = ap (λ (z : Content T'.Denot). z ∷ []) is ∙
          sym (ap (λ (zs : List (Content T'.Denot)). map f zs) one) in
          let size : length (map f ds) ≡ length ds =
          ap (λ (zs : List (Content T'.Denot)). length (map f zs)) one ∙ sym (ap length one) in
          qed 𝓛 (‵ ((mem A).own_at d rb ro) ∷ []) ∵ use0 𝓛 (‵ ftrue) (id⊢ 𝓤 (emp 𝓤)) $
          move ! (1 ∷ 0 ∷ []) $ fjoin ! $
          rewrite ! 0 (λ (zs : List (Content T'.Denot)). ‵ (cells (mem A) zs rb ro)) e refl $
          feq_i ! ℕ (length (map f ds)) (length ds) size $ fjoin ! $ done !

    module _ (κs : contract.Lifetimes.Lfts 8) where
      abbrev Lent : RattleType
      Lent = MutRef (named 0) κs.0 R

      good-pair : (r : MutBor T'.Denot × MutBor T'.Denot) (v : Val) →
          Is (Tuple (Lent ∷ Lent ∷ [])) r (v ∷ []) → Typed (Tuple (Lent ∷ Lent ∷ [])).mir (v ∷ [])
      good-pair r v is =
          let f : List Val → List Val → List Val =
          λ ws ms. vstruct (mir.Val.of_list (ws ++ (ms ++ []))) ∷ [] in
          let one : is.0.0 ≡ vptr r.0.ref_ptr.0 r.0.ref_ptr.1 ∷ [] = is.1.1.0.0 in
          let two : is.0.1.0 ≡ vptr r.1.ref_ptr.0 r.1.ref_ptr.1 ∷ [] = is.1.1.1.0.0 in
          let e : v ∷
          [] ≡ vstruct (vcons (vptr r.0.ref_ptr.0 r.0.ref_ptr.1)
          (vcons (vptr r.1.ref_ptr.0 r.1.ref_ptr.1) vnil)) ∷ [] = is.1.0 ∙
          (λ i. f (one i) (two i)) in
          subst (λ (vs : List Val). Typed (Tuple (Lent ∷ Lent ∷ [])).mir vs) (sym e)
          ((tt, (tt, (tt, tt))), tt)

    module _ (κs : contract.Lifetimes.Lfts 8) (qs : contract.Lifetimes.Shares 8)
        (within : contract.Lifetimes.AllOutlive 8 ended.signature.outlives κs) (rb ro : ℕ)
        (γ : GName) (ds : List (Content T'.Denot)) (low high : ℕ) where
      abbrev κ : Lft
      κ = κs.0

      abbrev κS : Lft
      κS = κs.1.1.1.0

      abbrev qS : Share
      qS = qs.1.1.1.0

      abbrev Out : RattleType
      Out = Tuple (Lent κs ∷ Lent κs ∷ [])

      abbrev self : MutBor (List (Content T'.Denot))
      self = record { ref_ptr = (rb, ro); ghost_name = γ; now = ds }

      abbrev bound : (walk_of 𝓛 ended stayed spec).Ghost
      bound = (
        (
          κs,
          qs,
          within,
          (self, (low, (high, tt))),
          (mut_slice_vals self, (vint w64 low ∷ [], (vint w64 high ∷ [], tt))),
        ),
        tt,
      )

      abbrev Post : Val → SProp 𝓤
      Post = (walk_of 𝓛 ended stayed spec).post bound

      abbrev five : Item 𝓤
      five = ‵ (flft κs.1.0 qs.1.0) ⊛ ‵ (flft κs.1.1.0 qs.1.1.0) ⊛
          ‵ (flft κs.1.1.1.1.0 qs.1.1.1.1.0) ⊛ ‵ (flft κs.1.1.1.1.1.0 qs.1.1.1.1.1.0) ⊛
          ‵ (flft κs.1.1.1.1.1.1.0 qs.1.1.1.1.1.1.0) ⊛ ‵ ftrue

      abbrev last : Item 𝓤
      last = ‵ (flft κs.1.1.1.1.1.1.1.0 qs.1.1.1.1.1.1.1.0) ⊛ ‵ ftrue

      abbrev Had : List (Item 𝓤)
      Had = ‵ (fobs γ ((coded_list A.coded).code ds)) ∷
          ‵ (fbor κ (Borrowed (Arr (mem A) (length ds)) rb ro γ)) ∷ ‵ (flft κ qs.0) ∷ ‵ (flft κS qS)
          ∷ five ∷ last ∷ []

      abbrev Fw : T'.Denot → T'.Denot → List (Content T'.Denot)
      Fw x y = map (λ c. with_two_values c low high x y) ds

      walk : κs.1.0 ⊑ P.lives → κs.1.1.0 ⊑ T'.lives → κS ⊑ S.lives → κs.1.1.1.1.0 ⊑ P-Inx.lives →
          κs.1.1.1.1.1.0 ⊑ P-Gen.lives → κs.1.1.1.1.1.1.0 ⊑ P-Word.lives
          → low < 2 ^ 64 → high < 2 ^ 64 → Room A (length ds) → (c : Content T'.Denot) → ds ≡ c ∷ []
          → low < high
          → IsSome (option_map (λ e. e.1) (slice_index_or c.slots low None)) →
          IsSome (option_map (λ e. e.1) (slice_index_or c.slots high None))
          → ent 𝓤 (⋆ 𝓛 Had) (WpFn 𝓤 H 𝓣.C 𝓣.Λ fn' (slice_val (rb, ro) (length ds) ∷ vint w64 low ∷
          vint w64 high ∷ []) Post)
      walk lp lt ls li lg lw fl fh rm₀ c one order used₁ used₂ =
          let ql : Share = base.Share.left qs.0 in
          let qr : Share = base.Share.right qs.0 in
          let q1 : Share = base.Share.left qS in
          let q2 : Share = base.Share.left (base.Share.right qS) in
          let q3 : Share = base.Share.right (base.Share.right qS) in
          let L : SemTy = Arr (mem A) (length ds) in
          let k = triple_of 𝓛 (callee.signature S E S-Alloc)
          (callee.spec S E S-Alloc g10 d10 d11 𝓛 𝓜.mem 𝓡.returns) in
          let j = triple_of 𝓛 (inner.signature P T' P-Inx P-Gen P-Word g0 d0 g1 d1 g2 d2 g3 d3 g4 d4
          g5 d5 g6 d6 g7 d7 g8 d8) (inner.spec P T' P-Inx P-Gen P-Word g0 d0 g1 d1 g2 d2 g3 d3
          g4 d4 g5 d5 g6 d6 g7 d7 g8 d8 𝓛 𝓜.mem 𝓡.returns) in
          qed 𝓛 Had ∵ enter ! 𝓣.C 𝓣.Λ fn' (slice_val (rb, ro) (length ds) ∷ vint w64 low ∷
          vint w64 high ∷ []) _ $
          alloc_all ! (λ l. pass_all ! refl (
            (tt, (tt, (record { fits = rm₀.0 }, tt))),
            ((tt, record { fits = fl }), ((tt, record { fits = fh }), tt)),
          ) $
          let En : Env 𝓤 H = env fn'.locals l in
          move ! (2 ∷ []) $ use1 𝓛 (‵ (flft κ ql) ⊛ ‵ (flft κ qr)) (𝓛.lfts.lft_split κ qs.0) $
          split ! $ move ! (2 ∷ 3 ∷ 1 ∷ []) $
          open_ref ! tt L {x = ds} {b = rb} {o = ro} $ fsplit ! $ drop ! $
          rewrite ! 0 (λ (zs : List (Content T'.Denot)). ‵ (cells (mem A) zs rb ro)) one refl $
          fsplit ! $ move ! (1 ∷ []) $ drop ! $
          -- [the arena; the open borrow; obs; auth; half the token; the stack's token; five; last]
          use1 𝓛
          (some (λ (x : (a : Inside.Denot) × ((view a ≡ c) × good a)). ‵
          (part_at Inside full_share x.0 rb ro)))
          (plain_out A Inside (view_owns Inside (Content T'.Denot) A.coded view good) 𝓛
          full_share c rb ro) $ pick ! (λ x.
          let a : Inside.Denot = x.0 in
          let es : List E.Denot = g10.items a.slots in
          use1 𝓛 (‵ (part_at Sr full_share a.slots rb (so ro)) ⊛ raw (Back rb ro a))
          (field_of rb ro a) $ split ! $
          name_new ! tt (Sr.coded.code a.slots) (λ δ. move ! (2 ∷ 1 ∷ []) $ fjoin ! $
          fpack ! S.Denot (λ z. fsep ((mem Sr).own_at z rb (so ro)) (fauth δ (Sr.coded.code z)))
          a.slots $
          -- [the stack; obs δ; the rest of the arena; the open borrow; obs; auth; half the token;
          -- the stack's token; the others]
          move ! (3 ∷ []) $ ages ! (λ n. move ! (1 ∷ []) $ bor_new_deep ! tt n κ $
          -- [the stack's borrow; the right to it; the open borrow; obs δ; the rest; obs; auth; half
          -- the token; the stack's token; the others]
          move ! (3 ∷ 0 ∷ []) $ feq_i ! (List Val) (vptr rb (so ro) ∷ []) (vptr rb (so ro) ∷ [])
          refl $ fjoin3 ! $ nothing ! $ move ! (1 ∷ 0 ∷ []) $ fjoin ! $
          -- [what the call takes; the right; the open borrow; the rest; obs; auth; half the token;
          -- the stack's token; the others]
          move ! (7 ∷ []) $ use1 𝓛 (‵ (flft κS q1) ⊛ ‵ (flft κS (base.Share.right qS)))
          (𝓛.lfts.lft_split κS qS) $ split ! $ move ! (1 ∷ []) $
          use1 𝓛 (‵ (flft κS q2) ⊛ ‵ (flft κS q3)) (𝓛.lfts.lft_split κS (base.Share.right qS)) $
          split ! $
          nothing ! $ move ! (2 ∷ 0 ∷ []) $ join ! $ move ! (1 ∷ 0 ∷ []) $ join ! $
          move ! (1 ∷ 0 ∷ []) $ join ! $ move ! (7 ∷ 0 ∷ []) $ join ! $ join ! $
          nothing ! $ use0 𝓛 (raw (fact 𝓤 (κS ⊑ S-Alloc.lives)))
          (fact_i 𝓤 _ (emp 𝓤) (⊑_trans κS S.lives S-Alloc.lives ls metS.Self-Alloc-lives)) $
          join ! $
          use0 𝓛 (raw (fact 𝓤 (κS ⊑ E.lives)))
          (fact_i 𝓤 _ (emp 𝓤) (⊑_trans κS S.lives E.lives ls metS.Self-Item-lives)) $ join ! $
          use0 𝓛 (raw (fact 𝓤 (κS ⊑ S.lives))) (fact_i 𝓤 _ (emp 𝓤) ls) $ join ! $
          move ! (1 ∷ 0 ∷ []) $ join ! $
          let ref : MutBor S.Denot = record { ref_ptr = (rb, so ro); ghost_name = δ; now = a.slots }
          in
          let κs' : contract.Lifetimes.Lfts 4 = (κ, (κS, (κS, (κS, tt)))) in
          let y : k.Ghost = (
            (
              κs',
              (ql, (q1, (q2, (q3, tt)))),
              (within.1.1.0, (within.1.1.0, tt)),
              (ref, tt),
              (vptr rb (so ro) ∷ [], tt),
            ),
            tt,
          ) in
          use1 𝓛 (raw (k.pre y)) (id⊢ 𝓤 (k.pre y)) $
          -- [the call; the right; the open borrow; the rest; obs; auth; five; last]
          sets
          ! (addr
          ! (from ! (fld ! refl (hop ! (look_in_at ! 1 (sub ! 0 refl (whole !))) (stop !)))))
          refl (tt, tt) $
          first ! $ blocks ! $ sets_last ! (addr ! (through ! refl (stop !))) refl (tt, tt) $
          exec ! 𝓣.C 𝓣.Λ En (after 2 fn'.body) (at_ret En Post) $
          sets ! (of_opd ! (get ! refl)) refl (tt, tt) $
          sets ! (addr ! (through ! refl (fld ! refl (stop !)))) refl (tt, tt) $
          calls_at ! (framed 𝓤 H 𝓜 𝓣) k (metS.as_mut_slice d11) y
          (and_then ! (get ! refl) (no_more !)) (λ v.
          let G : List E.Denot → S.Denot = λ xs. g10.with_items a.slots (refill (length es) es xs)
          in
          use1 𝓛
          (later
          (some
          (λ (r : MutBor (List E.Denot)). ((‵ (flft κ ql) ⊛ ‵ (flft κS q1) ⊛ ‵ (flft κS q2) ⊛
          ‵ (flft κS q3) ⊛ ‵ ftrue) ⊛ ‵ ((MutSlice (named 0) κ Ir).own_val r (v ∷ []))) ⊛
          some (λ (ws : Lasts (callee.ended S E S-Alloc g10 d10 d11) κs' (ref, tt)). ‵
          (lasts (callee.ended S E S-Alloc g10 d10 d11) κs' (ref, tt) ws) ⊛
          (‵ (follows Sr (Array Ir 0) δ r.ghost_name G) ⊛ raw (fact 𝓤 (r.now ≡ es)))))))
          (id⊢ 𝓤 (k.post y v)) $
          await ! tt $ pick ! (λ r. split ! $ split ! $ move ! (2 ∷ []) $
          pick ! (λ ws. split ! $ drop ! $ split ! $ move ! (1 ∷ []) $ heard ! _ (λ told.
          -- [how the stack follows; the tokens; the slice; the right to the stack; the open borrow;
          -- the rest; obs; auth; five; last]
          move ! (2 ∷ []) $ fsplit3 ! $ fsplit ! $
          feq_l ! (λ e. pure_l ! (room Ir (length r.now)) (λ rm.
          let b : ℕ = r.ref_ptr.0 in
          let o : ℕ = r.ref_ptr.1 in
          let xs : List E.Denot = r.now in
          let same : map entry_of xs ≡ c.slots = ap (λ (zs : List E.Denot). map entry_of zs) told ∙
          ap (λ (c : Content T'.Denot). c.slots) x.1.0 in
          let value₁ : option_map (λ e. e.1) (slice_index_or c.slots low None) ≡ slice_index_or
          (map value_of xs) low None =
          ap (λ zs. option_map (λ e. e.1) (slice_index_or zs low None)) (sym same) ∙
          value_at_slot xs low in
          let value₂ : option_map (λ e. e.1) (slice_index_or c.slots high None) ≡ slice_index_or
          (map value_of xs) high None =
          ap (λ zs. option_map (λ e. e.1) (slice_index_or zs high None)) (sym same) ∙
          value_at_slot xs high in
          let live₁ : IsSome (slice_index_or (map value_of xs) low None) =
          subst (λ o. IsSome o) value₁ used₁ in
          let live₂ : IsSome (slice_index_or (map value_of xs) high None) =
          subst (λ o. IsSome o) value₂ used₂ in
          rewrite ! 0 (λ (zs : List E.Denot). ‵ (fobs r.ghost_name ((coded_list Ir.coded).code zs)))
          (heres_id Ir xs) refl $
          lands_as ! (ap only e) refl (tt, (tt, (record { fits = rm.0 }, tt))) $
          sets
          ! (addr
          ! (from ! (fld ! refl (hop ! (look_in_at ! 6 (sub ! 0 refl (whole !))) (stop !)))))
          refl (tt, tt) $
          sets
          ! (agg
          ! (and_then ! (get ! refl)
          (and_then ! (get_in ! (fld ! refl (stop !)) (sub ! 1 refl (whole !))) (no_more !))))
          refl (tt, (tt, (record { fits = rm.0 }, tt))) $
          -- [obs; the slots' borrow; how the stack follows; the tokens; the right; the open borrow;
          -- the rest; obs; auth; five; last]
          let slots : MutBor (List E.Denot) = record {
            ref_ptr = (b, o);
            ghost_name =
                r.ghost_name;
            now = xs;
          } in
          use2 𝓛 (‵ ((MutSlice (named 0) κ Ir).own_val slots (slice_val (b, o) (length xs) ∷ [])))
          (slice_of 𝓛 Ir (named 0) κ b o r.ghost_name xs rm) $
          -- [the slice; how the stack follows; the tokens; the right; the open borrow; the rest;
          -- obs; auth; five; last]
          owned ! usize _ (uint_Makes 𝓛 w64) high _ (refl, fh) $ nothing ! $ move ! (1 ∷ 0 ∷ []) $
          fjoin ! $ owned ! usize _ (uint_Makes 𝓛 w64) low _ (refl, fl) $ fjoin ! $
          move ! (1 ∷ 0 ∷ []) $ fjoin ! $
          move ! (2 ∷ []) $ split ! $ move ! (0 ∷ 9 ∷ []) $ join ! $ move ! (0 ∷ 2 ∷ []) $ join ! $
          -- [what the call takes; the stack's tokens; how the stack follows; the right; the open
          -- borrow; the rest; obs; auth; last]
          use0 𝓛 (raw (fact 𝓤 (IsSome (slice_index_or (map value_of xs) high None))))
          (fact_i 𝓤 _ (emp 𝓤) live₂) $
          use0 𝓛 (raw (fact 𝓤 (IsSome (slice_index_or (map value_of xs) low None))))
          (fact_i 𝓤 _ (emp 𝓤) live₁) $ join ! $
          use0 𝓛 (raw (fact 𝓤 (high < length xs))) (fact_i 𝓤 _ (emp 𝓤) (is_within xs high live₂)) $
          join ! $ use0 𝓛 (raw (fact 𝓤 (low < high))) (fact_i 𝓤 _ (emp 𝓤) order) $ join ! $
          use0 𝓛 (raw (fact 𝓤 (κs.1.1.1.1.1.1.0 ⊑ P-Word.lives))) (fact_i 𝓤 _ (emp 𝓤) lw) $ join ! $
          use0 𝓛 (raw (fact 𝓤 (κs.1.1.1.1.1.0 ⊑ P-Gen.lives))) (fact_i 𝓤 _ (emp 𝓤) lg) $
          join ! $ use0 𝓛 (raw (fact 𝓤 (κs.1.1.1.1.0 ⊑ P-Inx.lives))) (fact_i 𝓤 _ (emp 𝓤) li) $
          join ! $ use0 𝓛 (raw (fact 𝓤 (κs.1.1.0 ⊑ T'.lives))) (fact_i 𝓤 _ (emp 𝓤) lt) $
          join ! $ use0 𝓛 (raw (fact 𝓤 (κs.1.0 ⊑ P.lives))) (fact_i 𝓤 _ (emp 𝓤) lp) $ join ! $
          move ! (1 ∷ 0 ∷ []) $ join ! $
          let κs'' : contract.Lifetimes.Lfts 6 =
          (κ, (κs.1.0, (κs.1.1.0, (κs.1.1.1.1.0, (κs.1.1.1.1.1.0, (κs.1.1.1.1.1.1.0, tt)))))) in
          let qs'' : contract.Lifetimes.Shares 6 =
          (ql, (qs.1.0, (qs.1.1.0, (qs.1.1.1.1.0, (qs.1.1.1.1.1.0, (qs.1.1.1.1.1.1.0, tt))))))
          in
          let z : j.Ghost = (
            (
              κs'',
              qs'',
              (within.0, (within.1.0, tt)),
              (slots, (low, (high, tt))),
              (slice_val (b, o) (length xs) ∷ [], (vint w64 low ∷ [], (vint w64 high ∷ [], tt))),
            ),
            tt,
          ) in
          use1 𝓛 (raw (j.pre z)) (id⊢ 𝓤 (j.pre z)) $
          -- [the call; the stack's tokens; how the stack follows; the right; the open borrow; the
          -- rest; obs; auth; last]
          calls_at ! (framed 𝓤 H 𝓜 𝓣) j Inner-met z
          (and_then ! (get ! refl)
          (and_then ! (get ! refl) (and_then ! (get ! refl) (no_more !)))) (λ v'.
          use1 𝓛
          (later
          (some (λ (p : MutBor T'.Denot × MutBor T'.Denot). ((‵ (flft κ ql) ⊛ five) ⊛
          ‵ (Out.own_val p (v' ∷ []))) ⊛
          some
          (λ (ws : Lasts (inner.ended P T' P-Inx P-Gen P-Word g0 d0 g1 d1 g2 d2 g3 d3 g4 d4 g5
          d5 g6 d6 g7 d7 g8 d8) κs'' (slots, (low, (high, tt)))). ‵
          (lasts (inner.ended P T' P-Inx P-Gen P-Word g0 d0 g1 d1 g2 d2 g3 d3 g4 d4 g5 d5 g6 d6
          g7 d7 g8 d8) κs'' (slots, (low, (high, tt))) ws) ⊛
          (‵ (after_ways (mem (Array Ir 0)) (mem R) (mem R) r.ghost_name p.0.ghost_name
          p.1.ghost_name (W xs low high))
          ⊛ raw (fact 𝓤 ((slice_index_or (map value_of xs) low None ≡ Some p.0.now) ×
          (slice_index_or (map value_of xs) high None ≡ Some p.1.now))))))))
          (id⊢ 𝓤 (j.post z v')) $
          await ! tt $ pick ! (λ p. split ! $ split ! $ move ! (2 ∷ []) $
          pick ! (λ ws'. split ! $ drop ! $ split ! $ move ! (1 ∷ []) $ heard ! _ (λ got.
          -- [how the slots follow; the token and five; the pair; the stack's tokens; how the stack
          -- follows; the right; the open borrow; the rest; obs; auth; last]
          move ! (4 ∷ 0 ∷ []) $
          use2 𝓛
          (‵ (after_ways (mem Sr) (mem R) (mem R) δ p.0.ghost_name p.1.ghost_name
          (λ x y. G (W xs low high x y)))) (ways_then 𝓛 (mem Sr) (mem (Array Ir 0)) (mem R)
          (mem R) G (W xs low high) δ r.ghost_name p.0.ghost_name p.1.ghost_name) $
          -- [how the stack follows; the token and five; the pair; the stack's tokens; the right;
          -- the open borrow; the rest; obs; auth; last]
          move ! (5 ∷ 7 ∷ 8 ∷ 4 ∷ 0 ∷ 6 ∷ []) $ group ! 6 $
          use1 𝓛
          (later (‵ (flft κ qr) ⊛
          ‵ (after_ways L (mem R) (mem R) γ p.0.ghost_name p.1.ghost_name Fw)))
          (closes_both 𝓛 L (mem Sr) (mem R) (mem R) (λ x y. G (W xs low high x y)) Fw κ qr rb ro rb
          (so ro) γ δ p.0.ghost_name p.1.ghost_name (Back rb ro a)
          (λ x' y'. via 𝓤 (sem 𝓛 ((mem A).own_at (with_two_values (view a) low high x' y') rb ro))
          (back rb ro a xs low high told x.1.1 order live₁ live₂ x' y')
          (fill_one rb ro c (with_two_values (view a) low high x' y') ds
          (λ z. with_two_values z low high x' y') one
          (ap (λ z. with_two_values z low high x' y') x.1.0))) n ((coded_list A.coded).code ds)
          ((coded_list A.coded).code ds)) $ await ! tt $ split ! $
          -- [half the token; how the arena follows; the token and five; the pair; the stack's
          -- tokens; last]
          move ! (1 ∷ []) $
          use1 𝓛 (‵ (follows_both (Array A 0) R R γ p.0.ghost_name p.1.ghost_name Fw))
          (ways_both 𝓛 (Array A 0) R R Fw γ p.0.ghost_name p.1.ghost_name) $
          move ! (2 ∷ []) $ split ! $ move ! (0 ∷ 3 ∷ []) $
          use2 𝓛 (‵ (flft κ qs.0)) (𝓛.lfts.lft_join κ qs.0) $
          -- [the token; five; how the arena follows; the pair; the stack's tokens; last]
          move ! (4 ∷ []) $ split3 ! $ move ! (2 ∷ []) $ split ! $ move ! (3 ∷ 0 ∷ []) $
          use2 𝓛 (‵ (flft κS (base.Share.right qS))) (𝓛.lfts.lft_join κS (base.Share.right qS))
          $ move ! (2 ∷ 0 ∷ []) $ use2 𝓛 (‵ (flft κS qS)) (𝓛.lfts.lft_join κS qS) $
          -- [the stack's token; nothing; the token; five; how the arena follows; the pair; last]
          move ! (3 ∷ []) $ split3 ! $ move ! (2 ∷ []) $ split3 ! $ move ! (2 ∷ []) $ split ! $
          -- [W; nothing; I; G; P; T; S; nothing; the token; how the arena follows; the pair; last]
          move ! (0 ∷ 11 ∷ []) $ join ! $ move ! (3 ∷ 0 ∷ []) $ join ! $ move ! (2 ∷ 0 ∷ []) $
          join ! $ move ! (4 ∷ 0 ∷ []) $ join ! $ move ! (3 ∷ 0 ∷ []) $ join ! $
          move ! (2 ∷ 0 ∷ []) $ join ! $ move ! (3 ∷ 0 ∷ []) $ join ! $
          -- [the tokens; nothing; nothing; how the arena follows; the pair]
          move ! (4 ∷ []) $ peeks ! Out _ (shows 𝓛 Out) p (v' ∷ [])
          (λ is. lands_as ! refl refl (good-pair κs p v' is).0 $
          returns ! (look_at ! 0 refl) $ free_all ! refl $ keep ! (0 ∷ 1 ∷ 4 ∷ []) $
          suffices ! _ (ends_at 𝓛 ended stayed spec bound v' p (tt, (tt, (tt, tt)))
          (tt, (tt, (tt, tt)))) $
          nothing ! $ nothing ! $ fjoin ! $ nothing ! $ fjoin ! $ nothing ! $ fjoin ! $ join ! $
          move ! (1 ∷ 0 ∷ []) $ join ! $ frame ! $
          says
          ! (λ c' e'. subst
          (λ (z : Content T'.Denot). (option_map (λ e. e.1) (slice_index_or z.slots low None) ≡
          Some p.0.now) ×
          (option_map (λ e. e.1) (slice_index_or z.slots high None) ≡ Some p.1.now))
          (ap (λ (zs : List (Content T'.Denot)). slice_index_or zs 0 c) (sym one ∙ e')) (
            value₁ ∙
                got.0,
            value₂ ∙ got.1,
          )) $ done !)))))))))))))))

    meets : Meets 𝓛 ended.signature (WpFn 𝓤 H 𝓣.C 𝓣.Λ fn') (closing 𝓛 ended spec)
    unfolding tables_of contract.CodeStep.c_Tables
    meets =
        walk_Meets 𝓛 ended stayed (
          Goes-spent_slice 𝓛 8 (0 ∷ []) tt (plain (λ _. A)),
          (
            Goes-dropped 𝓛 8 (plain (λ _. usize)) yes (λ κs x f. refl),
            (Goes-dropped 𝓛 8 (plain (λ _. usize)) yes (λ κs x f. refl), tt),
          ),
        ) spec
        (WpFn 𝓤 H 𝓣.C 𝓣.Λ fn') (WpFn-mono 𝓤 H 𝓛.laws (tables_of 𝓤 H 𝓜 𝓣) fn')
        (walked 𝓛 ended stayed spec (WpFn 𝓤 H 𝓣.C 𝓣.Λ fn')
        (λ κs. (mut_slice_vals, (uint_vals w64, (uint_vals w64, tt))))
        (λ κs. (mut_slice_Tells (named 0) κs.0 A, (uint_Tells w64, (uint_Tells w64, tt))))
        (λ κs qs bounds a n are.
        let low : ℕ = a.1.0 in
        let high : ℕ = a.1.1.0 in
        let ds : List (Content T'.Denot) = a.0.now in
        let γ : GName = a.0.ghost_name in
        qed 𝓛
        (((‵ (flft κs.0 qs.0) ⊛ ‵ (flft κs.1.0 qs.1.0) ⊛ ‵ (flft κs.1.1.0 qs.1.1.0) ⊛
        ‵ (flft κs.1.1.1.0 qs.1.1.1.0) ⊛ ‵ (flft κs.1.1.1.1.0 qs.1.1.1.1.0) ⊛
        ‵ (flft κs.1.1.1.1.1.0 qs.1.1.1.1.1.0) ⊛ ‵ (flft κs.1.1.1.1.1.1.0 qs.1.1.1.1.1.1.0) ⊛
        ‵ (flft κs.1.1.1.1.1.1.1.0 qs.1.1.1.1.1.1.1.0) ⊛ ‵ ftrue) ⊛
        ‵ (owns (MutSlice (named 0) κs.0 A ∷ usize ∷ usize ∷ []) a (
          mut_slice_vals a.0,
          (vint w64 low ∷ [], (vint w64 high ∷ [], tt)),
        )))
        ∷ raw (fact 𝓤 (κs.1.0 ⊑ P.lives)) ∷ raw (fact 𝓤 (κs.1.1.0 ⊑ T'.lives)) ∷
        raw (fact 𝓤 (κs.1.1.1.0 ⊑ S.lives)) ∷ raw (fact 𝓤 (κs.1.1.1.1.0 ⊑ P-Inx.lives)) ∷
        raw (fact 𝓤 (κs.1.1.1.1.1.0 ⊑ P-Gen.lives)) ∷
        raw (fact 𝓤 (κs.1.1.1.1.1.1.0 ⊑ P-Word.lives)) ∷
        raw (fact 𝓤 (κs.1.1.1.1.1.1.1.0 ⊑ S-Alloc.lives)) ∷ raw (fact 𝓤 (length ds ≡ 1)) ∷
        raw (fact 𝓤 (low < high))
        ∷ raw (fact 𝓤 ((c : Content T'.Denot) → ds ≡ c ∷ [] →
        IsSome (option_map (λ e. e.1) (slice_index_or c.slots low None)))) ∷
        raw (fact 𝓤 ((c : Content T'.Denot) → ds ≡ c ∷ [] →
        IsSome (option_map (λ e. e.1) (slice_index_or c.slots high None)))) ∷ []) ∵
        move ! (1 ∷ []) $
        heard ! _ (λ lp. move ! (1 ∷ []) $
        heard ! _ (λ lt. move ! (1 ∷ []) $
        heard ! _ (λ ls. move ! (1 ∷ []) $
        heard ! _ (λ li. move ! (1 ∷ []) $
        heard ! _ (λ lg. move ! (1 ∷ []) $
        heard ! _ (λ lw. move ! (1 ∷ []) $
        heard ! _ (λ la. move ! (1 ∷ []) $
        heard ! _ (λ single. move ! (1 ∷ []) $
        heard ! _ (λ order. move ! (1 ∷ []) $
        heard ! _ (λ used₁. move ! (1 ∷ []) $ heard ! _ (λ used₂.
        let the = the_one ds single in
        split ! $ split3 ! $ move ! (2 ∷ []) $ split3 ! $ move ! (2 ∷ []) $ split3 ! $
        move ! (2 ∷ []) $ split ! $
        -- [W; last; I; G; T; S; κ; P; what is owned]
        use0 𝓛 (‵ ftrue) (id⊢ 𝓤 (emp 𝓤)) $ move ! (1 ∷ 0 ∷ []) $ join ! $ move ! (3 ∷ 0 ∷ []) $
        join ! $ move ! (2 ∷ 0 ∷ []) $ join ! $ move ! (2 ∷ 0 ∷ []) $ join ! $
        move ! (4 ∷ 0 ∷ []) $ join ! $
        -- [five; last; S; κ; what is owned]
        move ! (4 ∷ []) $ fsplit ! $ fsplit3 ! $ fsplit ! $ drop ! $
        pure_l ! (room A (length ds)) (λ rm.
        rewrite ! 0 (λ (zs : List (Content T'.Denot)). ‵ (fobs γ ((coded_list A.coded).code zs)))
        (heres_id A ds) refl $
        -- [obs; the borrow; the indexes; five; last; S; κ]
        keep ! (0 ∷ 1 ∷ 6 ∷ 5 ∷ 3 ∷ 4 ∷ []) $
        by ! (walk κs qs bounds a.0.ref_ptr.0 a.0.ref_ptr.1 γ ds low high lp lt ls li lg lw
        are.1.0.1 are.1.1.0.1 rm the.0 the.1 order (used₁ the.0 the.1)
        (used₂ the.0 the.1))))))))))))))))

pub lend_in_order_spec : {M : Type 1} → stated.statement M
lend_in_order_spec 𝓤 𝓛 𝓜 𝓡 wired P T S PI PG PW SA LP LT LS LI LG LW LA cP cI cG cW g0 d0 g1 d1 g2
    d2 g3 d3 g4 d4 g5 d5 g6 d6 g7 d7 g8 d8 g9 d9 g10 d10 d11 d12 m0 m1 m2 m3 m4 m5 m6 m7 m8 m9 m10
    m11 m12 =
    let 𝓣' = tables 𝓤 𝓛.H 𝓜 𝓡 𝓡.env in
    let cm =
    theirs.met 𝓤 𝓛 𝓜 𝓡
    (code.calls-triple_arena::two_values::ArenaSlotValuesInOrder::values_in_order 𝓡.env wired) P
    T PI PG PW LP LT LI LG LW cP cI cG cW g0 d0 g1 d1 g2 d2 g3 d3 g4 d4 g5 d5 g6 d6 g7 d7 g8 d8
    m0 m1 m2 m3 m4 m5 m6 m7 m8 in
    entered 𝓤 𝓛.H (triple_of 𝓛 (ended P T S PI PG PW SA g0 d0 g1 d1 g2 d2 g3 d3 g4 d4 g5 d5 g6 d6 g7
    d7 g8 d8 g9 d9 g10 d10 d11 d12).signature
    (closing 𝓛 (ended P T S PI PG PW SA g0 d0 g1 d1 g2 d2 g3 d3 g4 d4 g5 d5 g6 d6 g7 d7 g8 d8 g9
    d9 g10 d10 d11 d12) (spec P T S PI PG PW SA g0 d0 g1 d1 g2 d2 g3 d3 g4 d4 g5 d5 g6 d6 g7 d7
    g8 d8 g9 d9 g10 d10 d11 d12 𝓛 𝓜 𝓡 LP LT LS LI LG LW LA m10 cm))) 𝓣'.C 𝓣'.Λ
    (#self (args P T S PI PG PW SA g0 d0 g1 d1 g2 d2 g3 d3 g4 d4 g5 d5 g6 d6 g7 d7 g8 d8 g9 d9
    g10 d10 d11 d12)) (fn' P T S PI PG PW SA g0 d0 g1 d1 g2 d2 g3 d3 g4 d4 g5 d5 g6 d6 g7 d7 g8
    d8 g9 d9 g10 d10 d11 d12)
    (code.unfolded 𝓤 𝓛.H 𝓜 𝓡 wired (P, (T, (S, (PI, (PG, (PW, (SA, tt))))))) d0 d1 d2 d3 d4 d5 d6 d7
    d8 d9 d10 d11 d12)
    (meets P T S PI PG PW SA g0 d0 g1 d1 g2 d2 g3 d3 g4 d4 g5 d5 g6 d6 g7 d7 g8 d8 g9 d9 g10 d10 d11
    d12 𝓛 𝓜 𝓡 LP LT LS LI LG LW LA m10 cm)
