-- `lend_slots` opens the arena, has its stack lend the slots, makes of that loan one of their
-- values, and closes the arena: it is sound at any values. Assumes `Logic`.
use mathlib.Core.Path.{◌≡◌, refl, ap, sym, subst, ◌∙◌}
use Prim.Native.Nat.{ℕ, ◌+◌, ◌*◌, ◌^◌}
use mathlib.Core.List.{List, [], ◌∷◌, ◌++◌}
use lib.ListN.{length}
use lib.Dec.{T}
use seplogic.Ra.Ura.{Ura}
use base.Fraction.{full_share}
use base.Share
use base.Stored.{coded_list}
use mir.Syntax.{Fn, Dict, Args, named, a_type, dcons, dnil}
use mir.MapTy.{inst_fn}
use mir.Val.{Val, vptr, vstruct, vcons, vnil}
use base.Logic.{SProp, ent, sep, emp, id⊢}
use base.Fml.{Lft, GName, Share, Fml, ftrue, fsep, flft, fobs, fauth, fbor}
use prog.Memory.{up, align}
use prog.Model.{Model}
use prog.Wp.{Env, WpFn}
use types.Logic.{Logic, sem}
use types.Late.{ages, bor_new_deep}
use types.Tokens.{name_new}
use contract.CodeStep
use contract.Monad.{fact}
use contract.BorrowLft.{◌⊑◌, ⊑_trans}
use contract.Running.{Running, MachineTables, tables, tables_of}
use contract.Fact.{fact_i}
use sound.WpLaws.{WpFn-mono}
use types.Kit.{Item, ⋆, ‵, raw, ◌⊛◌, some, later, ◌$◌, ◌∵◌, !, qed, by, move, keep, use0, use1}
use types.Kit.{use2, drop, split, split3, join, pick, await, group, rewrite, fsplit, fsplit3, fjoin}
use types.Kit.{fjoin3, fpack, feq_i, feq_l, flt_i, suffices, frame, done}
use types.Part.{whole, sub, agg}
use types.Run.{stop, fld, from, hop, addr, and_then, no_more, returns, enter}
use types.ByLocal.{
  alloc_all,
  pass_all,
  free_all,
  look_at,
  look_in_at,
  get,
  through,
  sets,
  lands_as,
  env,
}
use types.SemTy.{SemTy, Arr, Body as Borrowed}
use types.Mut.{open_ref}
use types.Follow.{after as tied, closes_following}
use denote.Exit.{no}
use denote.RattleType.{RattleType, Denots, owns}
use denote.Memory.{mem, part_at, part_of, lone}
use denote.Follow.{follows}
use denote.FollowSlice.{heres_id}
use denote.Array.{Array}
use denote.Model.Fields.{view_owns, view_made, plain_out, Plain-in}
use denote.Param.{param, copied, bounded}
use denote.Param.Laws.{Laws}
use denote.RawPtr.{Ptr, block_ptr}
use denote.Ref.{MutRef, MutBor}
use denote.Shadow.{makes_shadow, pure_l}
use denote.Signature.{plain, mut_ref_to, named_lft}
use denote.Slice.{MutSlice, room}
use denote.Steps.{nothing, heard, only}
use denote.Struct.Struct.{Struct}
use denote.Struct.Owning.{shape}
use denote.Struct.Loose.{lawfuls}
use denote.Struct.Members.{Member}
use denote.Struct.Parts.{PartsBack}
use denote.Struct.Pick.{rest_at, field_out, field_back}
use denote.Triple.Call.{calls_at}
use denote.Triple.Clauses.{Clauses, Ended, closing, Lasts, lasts}
use denote.Triple.Spec.{Meets, triple_of}
use denote.Triple.Table.{entered, framed}
use denote.Triple.Walked.{says, Stays, stay_dropped, walk_of, ends_at, Goes-spent_ref, walk_Meets}
use Rattle.std.specs.Prelude.{map}
use Rattle.std.specs.List.{refill}
use Rattle.std.specs.declared.clone.Clone
use Rattle.std.specs.declared.cmp.PartialEq
use Rattle.triple_arena_ptr.specs.declared.ptr.PtrCore
use Rattle.triple_arena_ptr.specs.declared.ptr.PtrGenCore
use Rattle.triple_arena_ptr.specs.declared.ptr.PtrInxCore
use Rattle.triple_arena_stack.specs.declared.stack.NonZeroInxGenericStack as Stk
use Rattle.triple_arena_stack.specs.contracts.stack.NonZeroInxGenericStack.TheBound as Stk-bound
use Rattle.triple_arena_stack.specs.contracts.stack.NonZeroInxGenericStack.as_mut_slice as callee
use Rattle.triple_arena.specs.declared.slot.ArenaSlot.{ArenaSlot}
use Rattle.triple_arena.specs.declared.slots.ArenaSlots
use Rattle.triple_arena.specs.declared.lent_slots.LentSlots.{LentSlots}
use Rattle.triple_arena.specs.contracts.slot.ArenaSlot as E-type
use Rattle.triple_arena.specs.contracts.slot.ArenaSlotLentValue.TheImpl as E-impl
use Rattle.triple_arena.specs.contracts.lent_slots.LentSlots as S-type
use Rattle.triple_arena.specs.contracts.arena.Arena as A-type
use Rattle.triple_arena.specs.contracts.arena.Arena.TheInside as I-type
use Rattle.triple_arena.proofs.arena.Arena.TheInside.TheLaws as I-laws
use Rattle.triple_arena.specs.contracts.arena.lending.ArenaLendsSlotsArenaSlot.lend_slots as F
use Rattle.triple_arena.specs.contracts.arena.lending.ArenaLendsSlotsArenaSlot.lend_slots.Key.{
  name
      as #self,
}
use Rattle.triple_arena.specs.ArenaRoom.{room_of}
use Rattle.triple_arena.specs.Content.{Content}
use Rattle.triple_arena.specs.LentSlots.{refilled}
use Rattle.triple_arena.specs.Slot.{with_slot_value, entry_of}
use Rattle.triple_arena.specs.IterMut.{values_at, with_values_of, holding}
use Rattle.triple_arena_ptr.specs.contracts.optional_inx.OptionalInx
use denote.Builtin
use Rattle.std.specs.contracts.marker.PhantomData
use denote.Struct.Members
use denote.Param.Laws as P-Laws
use denote.Laws as D-Laws
use Rattle.triple_arena.specs.declared.lent_slots.LentValue
use Rattle.triple_arena.proofs.LentSlotsLemmas.{after_then, starts, Started, RowOf, length-refilled}
use native.Mathlib.Omega.{arith}
use lib.Seq.{take_at}
use lib.ListN.{drop as drop_l}
use Rattle.triple_arena.proofs.IterMutLemmas.{refills, values-holding}
use Rattle.triple_arena.proofs.arena.lending.ArenaLendsSlotsArenaSlot.lend_slots.Statement as stated
use Rattle.triple_arena.proofs.arena.lending.ArenaLendsSlotsArenaSlot.lend_slots.Code as code

abbrev word : ℕ × ℕ → Val
word p = vstruct (vcons (vptr p.0 p.1) (vcons (vstruct vnil) vnil))

module _ (P T' S P-Inx P-Gen P-Word S-Alloc : RattleType)
    (g0 : PtrCore.Ghosts P.Denot P-Inx.Denot P-Gen.Denot P-Word.Denot) (d0 : Dict)
    (g1 : Clone.Ghosts P.Denot) (d1 : Dict)
    (g2 : PtrInxCore.Ghosts P-Inx.Denot P-Word.Denot) (d2 : Dict) (g3 : Clone.Ghosts P-Inx.Denot)
    (d3 : Dict) (g4 : PartialEq.Ghosts P-Inx.Denot) (d4 : Dict) (g5 : Clone.Ghosts P-Word.Denot)
    (d5 : Dict)
    (g6 : PtrGenCore.Ghosts P-Gen.Denot) (d6 : Dict) (g7 : Clone.Ghosts P-Gen.Denot) (d7 : Dict)
    (g8 : PartialEq.Ghosts P-Gen.Denot) (d8 : Dict)
    (g9 : ArenaSlots.Ghosts S.Denot P.Denot T'.Denot S-Alloc.Denot P-Inx.Denot P-Gen.Denot
    P-Word.Denot) (d9 : Dict)
    (g10 : Stk.Ghosts S.Denot (ArenaSlot P.Denot T'.Denot P-Inx.Denot P-Gen.Denot P-Word.Denot)
    S-Alloc.Denot) (d10 : Dict) (d11 d12 : Dict) where
  abbrev R : RattleType
  R = param 1 T'

  abbrev E : RattleType
  E = E-type.the_row (copied 0 P) (param 1 T') (copied 3 P-Inx) (copied 4 P-Gen) (copied 5 P-Word)
      g0 g2 g4 g6 g8

  abbrev A : RattleType
  A = A-type.the_row (copied 0 P) (param 1 T') (param 2 S) (copied 3 P-Inx) (copied 4 P-Gen)
      (copied 5 P-Word) (param 6 S-Alloc) g0 g2 g4 g6 g8 g10

  abbrev Inside : RattleType
  Inside = I-type.the_row (copied 0 P) (param 1 T') (param 2 S) (copied 3 P-Inx) (copied 4 P-Gen)
      (copied 5 P-Word) (param 6 S-Alloc) g0 g2 g4 g6 g8 g10

  abbrev args : Args
  args = bounded (a_type ∷ a_type ∷ a_type ∷ a_type ∷ a_type ∷ a_type ∷ a_type ∷ [])
      (P, (T', (S, (P-Inx, (P-Gen, (P-Word, (S-Alloc, tt)))))))
      (dcons d0
      (dcons d1
      (dcons d2
      (dcons d3
      (dcons d4
      (dcons d5
      (dcons d6 (dcons d7 (dcons d8 (dcons d9 (dcons d10 (dcons d11 (dcons d12 dnil)))))))))))))

  abbrev fn' : Fn
  fn' = inst_fn args code.function

  abbrev ended : Ended
  ended = F.ended P T' S P-Inx P-Gen P-Word S-Alloc g0 d0 g1 d1 g2 d2 g3 d3 g4 d4 g5 d5 g6 d6 g7 d7
      g8 d8 g9 d9 g10 d10 d11 d12

  abbrev stayed : Stays ended.signature.params ended.kept
  stayed = (stay_dropped (mut_ref_to (0 ∷ []) tt (plain (λ _. A))) no, tt)

  abbrev view : Inside.Denot → Content T'.Denot
  view = A-type.the_view (copied 0 P) (param 1 T') (param 2 S) (copied 3 P-Inx) (copied 4 P-Gen)
      (copied 5 P-Word) (param 6 S-Alloc) g0 g2 g4 g6 g8 g10

  abbrev good : Inside.Denot → Type 0
  good = A-type.the_invariant (copied 0 P) (param 1 T') (param 2 S) (copied 3 P-Inx)
      (copied 4 P-Gen) (copied 5 P-Word) (param 6 S-Alloc) g0 g2 g4 g6 g8 g10

  -- the arena as it is once its values were written
  written : (LS : Stk-bound.Lawful S E S-Alloc g10 d10) (a : Inside.Denot) (xs : List E.Denot) →
      xs ≡ g10.items a.slots → good a → (w : Content T'.Denot)
      → let s' : S.Denot =
      g10.with_items a.slots (refill (length (g10.items a.slots)) (g10.items a.slots)
      (refilled with_slot_value xs (values_at w))) in
      (view (record a { slots = s' }) ≡ with_values_of (view a) w) × good (record a { slots = s' })
  written LS a xs is sound w =
      let es : List E.Denot = g10.items a.slots in
      let ws : List E.Denot = refilled with_slot_value xs (values_at w) in
      let long : length ws ≡ length es = length-refilled with_slot_value xs (values_at w) ∙
      ap length is in
      let all : refill (length es) es ws ≡ ws = take_at ws (drop_l (length ws) es) (length es)
      (omega (arith, long)) in
      let items : g10.items (g10.with_items a.slots (refill (length es) es ws)) ≡ refilled
      with_slot_value es (values_at w) =
      LS.items_with_items a.slots (refill (length es) es ws) ∙ all ∙
      ap (λ (ys : List E.Denot). refilled with_slot_value ys (values_at w)) is in
      let kept = ap (room_of g2.greatest) (LS.room_with_items a.slots (refill (length es) es ws)) in
      let r = refills (values_at w) sound refl items kept in
      (r.content, r.sound)

  module _ {M : Type 1} {𝓤 : Ura M} (𝓛 : Logic 𝓤) (𝓜 : Model 𝓤 𝓛.H) (𝓡 : Running 𝓤 𝓛.H 𝓜)
      (LP : Laws P) (LT : Laws T') (LS : Laws S) (LI : Laws P-Inx) (LG : Laws P-Gen)
      (LW : Laws P-Word) (LA : Laws S-Alloc)
      (metS : Stk-bound.Met 𝓛 𝓜 𝓡 𝓡.env S E S-Alloc g10 d10) where
    open 𝓛 use {H}

    abbrev 𝓣 : MachineTables 𝓤 H 𝓜
    𝓣 = tables 𝓤 H 𝓜 𝓡 𝓡.env

    abbrev spec : Clauses 𝓤 ended
    spec = F.clauses P T' S P-Inx P-Gen P-Word S-Alloc g0 d0 g1 d1 g2 d2 g3 d3 g4 d4 g5 d5 g6 d6 g7
        d7 g8 d8 g9 d9 g10 d10 d11 d12 𝓛 𝓜.mem 𝓡.returns

    abbrev Sr : RattleType
    Sr = param 0 S

    abbrev Ir : RattleType
    Ir = param 1 E

    abbrev gE : Rattle.triple_arena.specs.declared.lent_slots.LentValue.Ghosts E.Denot T'.Denot
    gE = E-impl.ghosts (copied 0 P) (param 1 T') (copied 3 P-Inx) (copied 4 P-Gen) (copied 5 P-Word)
        g0 E-impl.no_dict g1 E-impl.no_dict g2 E-impl.no_dict g3 E-impl.no_dict g4 E-impl.no_dict g5
        E-impl.no_dict g6 E-impl.no_dict g7 E-impl.no_dict g8 E-impl.no_dict

    abbrev ms : List Member
    ms = record { row = param 2 S; ty = lone (param 2 S).mir } ∷
        record { row = copied 4 P-Gen; ty = lone (copied 4 P-Gen).mir } ∷
        record {
          row = Rattle.triple_arena_ptr.specs.contracts.optional_inx.OptionalInx.the_row
              (copied 3 P-Inx) (copied 5 P-Word) g2 g4;
          ty =
              lone (Rattle.triple_arena_ptr.specs.contracts.optional_inx.OptionalInx.the_row
              (copied 3 P-Inx) (copied 5 P-Word) g2 g4).mir;
        }
        ∷ record { row = denote.Builtin.usize; ty = lone denote.Builtin.usize.mir } ∷
        record {
          row =
              (Rattle.std.specs.contracts.marker.PhantomData.the_field (param 1 T')).row;
          ty =
              lone ((Rattle.std.specs.contracts.marker.PhantomData.the_field (param 1 T')).row).mir;
        }
        ∷ []

    -- where the stack lies in an arena
    abbrev so : ℕ → ℕ
    so o = o + up (align (lone (param 2 S).mir)) 0

    abbrev laws-of : D-Laws.Lawfuls 𝓛 (denote.Struct.Members.rows_of ms)
    laws-of = lawfuls 𝓛 (I-type.the_type (copied 0 P) (param 1 T') (param 2 S) (copied 3 P-Inx)
        (copied 4 P-Gen) (copied 5 P-Word) (param 6 S-Alloc) g0 g2 g4 g6 g8 g10).parts
        (I-laws.the_loose (copied 0 P) (param 1 T') (param 2 S) (copied 3 P-Inx) (copied 4 P-Gen)
        (copied 5 P-Word) (param 6 S-Alloc) g0 g2 g4 g6 g8 g10
        (P-Laws.copied_laws 0 P LP) (P-Laws.param_laws 1 T' LT) (P-Laws.param_laws 2 S LS)
        (P-Laws.copied_laws 3 P-Inx LI) (P-Laws.copied_laws 4 P-Gen LG)
        (P-Laws.copied_laws 5 P-Word LW) (P-Laws.param_laws 6 S-Alloc LA))

    module _ (rb ro : ℕ) (a : Inside.Denot) where
      abbrev vals : Denots (denote.Struct.Members.rows_of ms)
      vals = (a.slots, (a.counter, (a.head, (a.len, (tt, tt)))))

      abbrev Back : SProp 𝓤
      Back = sep 𝓤 (sem 𝓛 (rest_at full_share ms 0 vals rb ro 0))
          (PartsBack 𝓛 full_share [] ms rb ro)

      field_of : ent 𝓤 (sem 𝓛 (part_at Inside full_share a rb ro))
          (sep 𝓤 (sem 𝓛 (part_at Sr full_share a.slots rb (so ro))) Back)
      unfolding part_of
      field_of = field_out 𝓛 full_share [] ms laws-of vals rb ro 0

      -- the arena again, from its stack as the slots' values leave it
      back : (xs : List E.Denot) → xs ≡ g10.items a.slots → good a → (w : Content T'.Denot)
          → ent 𝓤
          (sep 𝓤
          (sem 𝓛
          (part_at Sr full_share
          (g10.with_items a.slots (refill (length (g10.items a.slots)) (g10.items a.slots)
          (refilled with_slot_value xs (values_at w)))) rb (so ro))) Back)
          (sem 𝓛 ((mem A).own_at (with_values_of (view a) w) rb ro))
      unfolding part_of
      back xs is sound w =
          let s' : S.Denot =
          g10.with_items a.slots (refill (length (g10.items a.slots)) (g10.items a.slots)
          (refilled with_slot_value xs (values_at w))) in
          let b : Inside.Denot = record a { slots = s' } in
          let vals' : Denots (denote.Struct.Members.rows_of ms) =
          (s', (a.counter, (a.head, (a.len, (tt, tt))))) in
          let new =
          written (record {
            items_with_items = metS.items_with_items;
            room_with_items =
                metS.room_with_items;
          }) a xs is sound w in
          qed 𝓛 (‵ (part_at Sr full_share s' rb (so ro)) ∷ raw Back ∷ []) ∵
          use2 𝓛 (‵ (part_at Inside full_share b rb ro)) (field_back 𝓛 full_share [] ms vals' rb ro
          0) $
          by ! (Plain-in A Inside (view_owns Inside (Content T'.Denot) A.coded view good) 𝓛
          full_share (with_values_of (view a) w) b
          (view_made Inside (Content T'.Denot) A.coded view good 𝓛 (with_values_of (view a) w) b
          new) rb ro)

    module _ (κs : contract.Lifetimes.Lfts 8) (qs : contract.Lifetimes.Shares 8)
        (within : contract.Lifetimes.AllOutlive 8 ended.signature.outlives κs) (rb ro : ℕ)
        (γ : GName) (d : Content T'.Denot) where
      abbrev κ : Lft
      κ = κs.0

      abbrev κS : Lft
      κS = κs.1.1.1.0

      abbrev qS : Share
      qS = qs.1.1.1.0

      abbrev Out : RattleType
      Out = S-type.the_row (named_lft 8 0 tt κs) R E gE

      abbrev Out-own : Ptr → List Val → Fml
      Out-own p = (Struct (shape (S-type.the_type (named_lft 8 0 tt κs) R E gE))).own_val
          (p, (tt, tt))

      out_made : (b o : ℕ) → ent 𝓤 (emp 𝓤) (sem 𝓛 (Out-own (block_ptr b o) (word (b, o) ∷ [])))
      out_made b o = makes_shadow 𝓛 (Out-own (block_ptr b o) (word (b, o) ∷ []))
          (λ vss. (tt, (tt, ((λ uss. (tt, tt)), tt)))) (
            (vptr b o ∷ [], (vstruct vnil ∷ [], tt)),
            (refl, (refl, ((tt, (refl, tt)), tt))),
          )

      abbrev bound : List Val → (walk_of 𝓛 ended stayed spec).Ghost
      bound us = (
        (
          κs,
          qs,
          within,
          (record { ref_ptr = (rb, ro); ghost_name = γ; now = d }, tt),
          (us, tt),
        ),
        tt,
      )

      abbrev Post : List Val → Val → SProp 𝓤
      Post us = (walk_of 𝓛 ended stayed spec).post (bound us)

      abbrev at : List Val
      at = vptr rb ro ∷ []

      abbrev rest : Item 𝓤
      rest = ‵ (flft κs.1.1.1.1.0 qs.1.1.1.1.0) ⊛ ‵ (flft κs.1.1.1.1.1.0 qs.1.1.1.1.1.0) ⊛
          ‵ (flft κs.1.1.1.1.1.1.0 qs.1.1.1.1.1.1.0) ⊛
          ‵ (flft κs.1.1.1.1.1.1.1.0 qs.1.1.1.1.1.1.1.0) ⊛ ‵ ftrue

      abbrev Had : List (Item 𝓤)
      Had = ‵ (fobs γ (A.coded.code d)) ∷ ‵ (fbor κ (Borrowed (mem A) rb ro γ)) ∷ ‵ (flft κ qs.0) ∷
          ‵ (flft κS qS) ∷ ‵ (flft κs.1.0 qs.1.0) ∷ ‵ (flft κs.1.1.0 qs.1.1.0) ∷ rest ∷ []

      walk : κS ⊑ S.lives → ent 𝓤 (⋆ 𝓛 Had) (WpFn 𝓤 H 𝓣.C 𝓣.Λ fn' at (Post at))
      walk ls =
          let ql : Share = base.Share.left qs.0 in
          let qr : Share = base.Share.right qs.0 in
          let q1 : Share = base.Share.left qS in
          let q2 : Share = base.Share.left (base.Share.right qS) in
          let q3 : Share = base.Share.right (base.Share.right qS) in
          let k = triple_of 𝓛 (callee.signature S E S-Alloc)
          (callee.spec S E S-Alloc g10 d10 d11 𝓛 𝓜.mem 𝓡.returns) in
          qed 𝓛 Had ∵ enter ! 𝓣.C 𝓣.Λ fn' at _ $ alloc_all ! (λ l. pass_all ! refl ((tt, tt), tt) $
          let En : Env 𝓤 H = env fn'.locals l in
          move ! (2 ∷ []) $ use1 𝓛 (‵ (flft κ ql) ⊛ ‵ (flft κ qr)) (𝓛.lfts.lft_split κ qs.0) $
          split ! $ move ! (2 ∷ 3 ∷ 1 ∷ []) $
          open_ref ! tt (mem A) {x = d} {b = rb} {o = ro} $
          -- [the arena; the open borrow; obs; auth; half the token; the stack's token; the others]
          use1 𝓛
          (some (λ (x : (a : Inside.Denot) × ((view a ≡ d) × good a)). ‵
          (part_at Inside full_share x.0 rb ro)))
          (plain_out A Inside (view_owns Inside (Content T'.Denot) A.coded view good) 𝓛
          full_share d rb ro) $ pick ! (λ x.
          let a : Inside.Denot = x.0 in
          let es : List E.Denot = g10.items a.slots in
          use1 𝓛 (‵ (part_at Sr full_share a.slots rb (so ro)) ⊛ raw (Back rb ro a))
          (field_of rb ro a) $ split ! $
          name_new ! tt (Sr.coded.code a.slots) (λ δ. move ! (2 ∷ 1 ∷ []) $ fjoin ! $
          fpack ! S.Denot (λ z. fsep ((mem Sr).own_at z rb (so ro)) (fauth δ (Sr.coded.code z)))
          a.slots $
          -- [the stack; obs δ; the rest of the arena; the open borrow; obs; auth; half the token;
          -- the stack's token; the others]
          move ! (3 ∷ []) $ ages ! (λ n. move ! (1 ∷ []) $ bor_new_deep ! tt n κ $
          -- [the stack's borrow; the right to it; the open borrow; obs δ; the rest; obs; auth; half
          -- the token; the stack's token; the others]
          move ! (3 ∷ 0 ∷ []) $ feq_i ! (List Val) (vptr rb (so ro) ∷ []) (vptr rb (so ro) ∷ [])
          refl $ fjoin3 ! $ nothing ! $ move ! (1 ∷ 0 ∷ []) $ fjoin ! $
          -- [what the call takes; the right; the open borrow; the rest; obs; auth; half the token;
          -- the stack's token; the others]
          move ! (7 ∷ []) $ use1 𝓛 (‵ (flft κS q1) ⊛ ‵ (flft κS (base.Share.right qS)))
          (𝓛.lfts.lft_split κS qS) $ split ! $ move ! (1 ∷ []) $
          use1 𝓛 (‵ (flft κS q2) ⊛ ‵ (flft κS q3)) (𝓛.lfts.lft_split κS (base.Share.right qS)) $
          split ! $
          nothing ! $ move ! (2 ∷ 0 ∷ []) $ join ! $ move ! (1 ∷ 0 ∷ []) $ join ! $
          move ! (1 ∷ 0 ∷ []) $ join ! $ move ! (7 ∷ 0 ∷ []) $ join ! $ join ! $
          nothing ! $ use0 𝓛 (raw (fact 𝓤 (κS ⊑ S-Alloc.lives)))
          (fact_i 𝓤 _ (emp 𝓤) (⊑_trans κS S.lives S-Alloc.lives ls metS.Self-Alloc-lives)) $
          join ! $
          use0 𝓛 (raw (fact 𝓤 (κS ⊑ E.lives)))
          (fact_i 𝓤 _ (emp 𝓤) (⊑_trans κS S.lives E.lives ls metS.Self-Item-lives)) $ join ! $
          use0 𝓛 (raw (fact 𝓤 (κS ⊑ S.lives))) (fact_i 𝓤 _ (emp 𝓤) ls) $ join ! $
          move ! (1 ∷ 0 ∷ []) $ join ! $
          let ref : MutBor S.Denot = record { ref_ptr = (rb, so ro); ghost_name = δ; now = a.slots }
          in
          let κs' : contract.Lifetimes.Lfts 4 = (κ, (κS, (κS, (κS, tt)))) in
          let y : k.Ghost = (
            (
              κs',
              (ql, (q1, (q2, (q3, tt)))),
              (within.1.1.0, (within.1.1.0, tt)),
              (ref, tt),
              (vptr rb (so ro) ∷ [], tt),
            ),
            tt,
          ) in
          use1 𝓛 (raw (k.pre y)) (id⊢ 𝓤 (k.pre y)) $
          -- [the call; the right; the open borrow; the rest; obs; auth; the others]
          sets ! (addr ! (through ! refl (fld ! refl (stop !)))) refl (tt, tt) $
          calls_at ! (framed 𝓤 H 𝓜 𝓣) k (metS.as_mut_slice d11) y
          (and_then ! (get ! refl) (no_more !)) (λ v.
          let G : List E.Denot → S.Denot = λ xs. g10.with_items a.slots (refill (length es) es xs)
          in
          use1 𝓛
          (later
          (some
          (λ (r : MutBor (List E.Denot)). ((‵ (flft κ ql) ⊛ ‵ (flft κS q1) ⊛ ‵ (flft κS q2) ⊛
          ‵ (flft κS q3) ⊛ ‵ ftrue) ⊛ ‵ ((MutSlice (named 0) κ Ir).own_val r (v ∷ []))) ⊛
          some (λ (ws : Lasts (callee.ended S E S-Alloc g10 d10 d11) κs' (ref, tt)). ‵
          (lasts (callee.ended S E S-Alloc g10 d10 d11) κs' (ref, tt) ws) ⊛
          (‵ (follows Sr (Array Ir 0) δ r.ghost_name G) ⊛ raw (fact 𝓤 (r.now ≡ es)))))))
          (id⊢ 𝓤 (k.post y v)) $
          await ! tt $ pick ! (λ r. split ! $ split ! $ move ! (2 ∷ []) $
          pick ! (λ ws. split ! $ drop ! $ split ! $ move ! (1 ∷ []) $ heard ! _ (λ told.
          -- [how the stack follows; the tokens; the slice; the right to the stack; the open borrow;
          -- the rest; obs; auth; the others]
          move ! (2 ∷ []) $ fsplit3 ! $ fsplit ! $
          feq_l ! (λ e. pure_l ! (room Ir (length r.now)) (λ rm.
          let b : ℕ = r.ref_ptr.0 in
          let o : ℕ = r.ref_ptr.1 in
          let xs : List E.Denot = r.now in
          let W : SemTy = RowOf R E gE.with_held (Content T'.Denot) A.coded values_at (holding d)
          (values-holding d) xs in
          let fill : Content T'.Denot → List E.Denot = λ w. refilled gE.with_held xs (values_at w)
          in
          rewrite ! 0 (λ (zs : List E.Denot). ‵ (fobs r.ghost_name ((coded_list Ir.coded).code zs)))
          (heres_id Ir xs) refl $
          lands_as ! (ap only e) refl (tt, (tt, (record { fits = rm.0 }, tt))) $
          sets
          ! (addr
          ! (from ! (fld ! refl (hop ! (look_in_at ! 2 (sub ! 0 refl (whole !))) (stop !)))))
          refl (tt, tt) $
          sets ! (agg ! (no_more !)) refl (tt, tt) $
          sets ! (agg ! (and_then ! (get ! refl) (and_then ! (get ! refl) (no_more !)))) refl
          (tt, (tt, (tt, tt))) $
          move ! (3 ∷ []) $ split ! $ move ! (2 ∷ 3 ∷ 0 ∷ []) $ group ! 3 $
          use1 𝓛
          (later
          (some (Started R E gE.with_held (Content T'.Denot) A.coded values_at (holding d)
          (values-holding d) 𝓛 κ ql b o r.ghost_name xs)))
          (starts R E gE.with_held (Content T'.Denot) A.coded values_at (holding d)
          (values-holding d) 𝓛 κ ql b o r.ghost_name xs) $ await ! tt $ pick ! (λ γs.
          let τ : GName = γs.0 in
          let out : LentSlots T'.Denot E.Denot =
          record {
            at = block_ptr b o;
            mark = record {};
            name = γs.1;
            tie = τ;
            block =
                b;
            offset = o;
            run = xs;
            placed = refl;
          } in
          split3 ! $ move ! (2 ∷ []) $ split ! $ move ! (5 ∷ 2 ∷ []) $
          use2 𝓛 (‵ (tied (mem Sr) W δ τ (λ w. G (fill w))))
          (after_then 𝓛 (mem Sr) (Arr (mem E) (length xs)) W G fill δ r.ghost_name τ) $
          -- [how the stack follows; the values' borrow; half the token; its obs; the stack's
          -- tokens; the right; the open borrow; the rest; obs; auth; the others]
          move ! (6 ∷ 8 ∷ 9 ∷ 5 ∷ 0 ∷ 7 ∷ []) $ group ! 6 $
          use1 𝓛 (later (‵ (flft κ qr) ⊛ ‵ (tied (mem A) W γ τ (with_values_of d))))
          (closes_following 𝓛 (mem A) (mem Sr) W (λ w. G (fill w)) (with_values_of d) κ qr rb ro rb
          (so ro) γ δ τ (Back rb ro a)
          (λ w. subst
          (λ (c : Content T'.Denot). ent 𝓤
          (sep 𝓤 (sem 𝓛 ((mem Sr).own_at (G (fill w)) rb (so ro))) (Back rb ro a))
          (sem 𝓛 ((mem A).own_at (with_values_of c w) rb ro))) x.1.0
          (back rb ro a xs told x.1.1 w)) n (A.coded.code d) (A.coded.code d)) $ await ! tt $
          split ! $
          move ! (3 ∷ 0 ∷ []) $ use2 𝓛 (‵ (flft κ qs.0)) (𝓛.lfts.lft_join κ qs.0) $
          move ! (4 ∷ []) $ split3 ! $ move ! (2 ∷ []) $ split ! $ move ! (3 ∷ 0 ∷ []) $
          use2 𝓛 (‵ (flft κS (base.Share.right qS))) (𝓛.lfts.lft_join κS (base.Share.right qS))
          $ move ! (2 ∷ 0 ∷ []) $ use2 𝓛 (‵ (flft κS qS)) (𝓛.lfts.lft_join κS qS) $
          -- [the stack's token; nothing; the token; how the arena follows; the values' borrow; its
          -- obs; the others]
          move ! (5 ∷ 4 ∷ []) $ fjoin ! $ flt_i ! (length xs * (mem E).size) (2 ^ 63) rm.1 $
          fjoin ! $ use0 𝓛 (‵ (Out-own (block_ptr b o) (word (b, o) ∷ []))) (out_made b o) $
          fjoin ! $
          returns ! (look_at ! 0 refl) $ free_all ! refl $
          move ! (1 ∷ 7 ∷ []) $ join ! $ move ! (6 ∷ 0 ∷ []) $ join ! $ move ! (5 ∷ 0 ∷ []) $
          join ! $ move ! (3 ∷ 0 ∷ []) $ join ! $ keep ! (1 ∷ 0 ∷ 3 ∷ []) $
          suffices ! _ (ends_at 𝓛 ended stayed spec (bound at) (word (b, o)) out (tt, tt) (tt, tt))
          $
          nothing ! $ nothing ! $ fjoin ! $ join ! $ move ! (1 ∷ 0 ∷ []) $ join ! $ frame ! $
          says ! (ap (λ (zs : List E.Denot). map entry_of zs) told ∙
          ap (λ (c : Content T'.Denot). c.slots) x.1.0) $ done !)))))))))))

      entry : (us : List Val) → ent 𝓤 ((walk_of 𝓛 ended stayed spec).pre (bound us))
          (WpFn 𝓤 H 𝓣.C 𝓣.Λ fn' (us ++ []) (Post us))
      entry us =
          qed 𝓛
          (((‵ (flft κ qs.0) ⊛ ‵ (flft κs.1.0 qs.1.0) ⊛ ‵ (flft κs.1.1.0 qs.1.1.0) ⊛
          ‵ (flft κS qS) ⊛ rest) ⊛
          ‵ (owns (MutRef (named 0) κ A ∷ [])
          (record { ref_ptr = (rb, ro); ghost_name = γ; now = d }, tt) (us, tt)))
          ∷ raw (fact 𝓤 (κs.1.0 ⊑ P.lives)) ∷ raw (fact 𝓤 (κs.1.1.0 ⊑ T'.lives)) ∷
          raw (fact 𝓤 (κS ⊑ S.lives)) ∷ raw (fact 𝓤 (κs.1.1.1.1.0 ⊑ P-Inx.lives)) ∷
          raw (fact 𝓤 (κs.1.1.1.1.1.0 ⊑ P-Gen.lives)) ∷
          raw (fact 𝓤 (κs.1.1.1.1.1.1.0 ⊑ P-Word.lives)) ∷
          raw (fact 𝓤 (κs.1.1.1.1.1.1.1.0 ⊑ S-Alloc.lives)) ∷ ‵ ftrue ∷ []) ∵
          move ! (3 ∷ []) $ heard ! _ (λ ls. keep ! (0 ∷ []) $ split ! $ split3 ! $
          move ! (2 ∷ []) $ split3 ! $
          -- [κ2; κS; the others; κ0; κ1; the reference]
          move ! (5 ∷ []) $ fsplit ! $ fsplit3 ! $
          feq_l ! (λ e. keep ! (0 ∷ 1 ∷ 6 ∷ 4 ∷ 7 ∷ 3 ∷ 5 ∷ []) $
          by ! (subst
          (λ (ws : List Val). ent 𝓤 (⋆ 𝓛 Had) (WpFn 𝓤 H 𝓣.C 𝓣.Λ fn' (ws ++ []) (Post ws)))
          (sym e) (walk ls))))

    meets : Meets 𝓛 ended.signature (WpFn 𝓤 H 𝓣.C 𝓣.Λ fn') (closing 𝓛 ended spec)
    unfolding tables_of contract.CodeStep.c_Tables
    meets =
        walk_Meets 𝓛 ended stayed (Goes-spent_ref 𝓛 8 (0 ∷ []) tt (plain (λ _. A)), tt) spec
        (WpFn 𝓤 H 𝓣.C 𝓣.Λ fn') (WpFn-mono 𝓤 H 𝓛.laws (tables_of 𝓤 H 𝓜 𝓣) fn')
        (λ z. let m = z.0.3.0 in entry z.0.0 z.0.1 z.0.2 m.ref_ptr.0 m.ref_ptr.1 m.ghost_name m.now
        z.0.4.0)

pub lend_slots_spec : {M : Type 1} → stated.statement M
lend_slots_spec 𝓤 𝓛 𝓜 𝓡 wired P T S PI PG PW SA LP LT LS LI LG LW LA cP cI cG cW g0 d0 g1 d1 g2 d2
    g3 d3 g4 d4 g5 d5 g6 d6 g7 d7 g8 d8 g9 d9 g10 d10 d11 d12 m0 m1 m2 m3 m4 m5 m6 m7 m8 m9 m10 m11
    m12 =
    let 𝓣' = tables 𝓤 𝓛.H 𝓜 𝓡 𝓡.env in
    entered 𝓤 𝓛.H (triple_of 𝓛 (ended P T S PI PG PW SA g0 d0 g1 d1 g2 d2 g3 d3 g4 d4 g5 d5 g6 d6 g7
    d7 g8 d8 g9 d9 g10 d10 d11 d12).signature
    (closing 𝓛 (ended P T S PI PG PW SA g0 d0 g1 d1 g2 d2 g3 d3 g4 d4 g5 d5 g6 d6 g7 d7 g8 d8 g9 d9
    g10 d10 d11 d12) (spec P T S PI PG PW SA g0 d0 g1 d1 g2 d2 g3 d3 g4 d4 g5 d5 g6 d6 g7 d7 g8
    d8 g9 d9 g10 d10 d11 d12 𝓛 𝓜 𝓡 LP LT LS LI LG LW LA m10))) 𝓣'.C 𝓣'.Λ
    (#self (args P T S PI PG PW SA g0 d0 g1 d1 g2 d2 g3 d3 g4 d4 g5 d5 g6 d6 g7 d7 g8 d8 g9 d9 g10
    d10 d11 d12)) (fn' P T S PI PG PW SA g0 d0 g1 d1 g2 d2 g3 d3 g4 d4 g5 d5 g6 d6 g7 d7 g8 d8
    g9 d9 g10 d10 d11 d12)
    (code.unfolded 𝓤 𝓛.H 𝓜 𝓡 wired (P, (T, (S, (PI, (PG, (PW, (SA, tt))))))) d0 d1 d2 d3 d4 d5 d6 d7
    d8 d9 d10 d11 d12)
    (meets P T S PI PG PW SA g0 d0 g1 d1 g2 d2 g3 d3 g4 d4 g5 d5 g6 d6 g7 d7 g8 d8 g9 d9 g10 d10 d11
    d12 𝓛 𝓜 𝓡 LP LT LS LI LG LW LA m10)
