-- `pop` cuts the first slot off. Assumes `Logic`.
use mathlib.Core.Path.{◌≡◌, refl, ap, ◌∙◌}
use Prim.Native.Nat.{ℕ, suc, ◌+◌, ◌*◌, ◌^◌, ◌<◌, ◌≤◌}
use native.Mathlib.Omega.{arith}
use native.Mathlib.Nat.{one-mul, mul-le-mul_right, not-suc-le-zero}
use mathlib.Core.List.{List, [], ◌∷◌, ◌++◌}
use lib.ListN.{length}
use seplogic.Ra.Ura.{Ura}
use base.Fraction.{full_share}
use base.Stored.{coded_list}
use mir.Syntax.{Fn, Dict, Args, named, a_type, dcons, dnil}
use mir.MapTy.{inst_fn}
use mir.Val.{Val, vptr, vstruct, vcons, vnil}
use base.Logic.{SProp, ent, sep, emp}
use base.Fml.{Lft, GName, Share, ftrue, fsep, flt, fat, flft, fobs, fbor}
use prog.Wp.{Env, Calls, Loops, WpFn, Tables}
use types.Logic.{Logic, sem}
use contract.Monad.{fact}
use contract.BorrowLft.{◌⊑◌}
use contract.Running.{tables, tables_of}
use sound.WpLaws.{WpFn-mono}
use types.Kit.{
  Item,
  ‵,
  raw,
  ◌⊛◌,
  some,
  later,
  at_ret,
  ◌$◌,
  ◌∵◌,
  !,
  qed,
  by,
  move,
  keep,
  use0,
  use1,
  use2,
  drop,
  split,
  split3,
  join,
  pick,
  await,
  group,
  rewrite,
  fsplit,
  fsplit3,
  fjoin,
  fjoin3,
  fpick,
  fpack,
  feq_i,
  feq_l,
  flt_l,
  flt_i,
  suffices,
  frame,
  done,
  updating,
  show,
  now as at_once,
}
use types.Part.{whole, sub, look_in, store_in, agg}
use types.Run.{
  size_lit,
  stop,
  fld,
  load,
  lit,
  of_opd,
  bin,
  and_then,
  no_more,
  assigns,
  first,
  blocks,
  exec,
  returns,
  enter,
}
use types.ByLocal.{alloc_all, pass_all, free_all, look_at, get, through, sets, sets_last, env}
use types.SemTy.{SemTy, Body as Borrowed}
use types.Mut.{open_ref}
use types.Follow.{after₂, takes_two}
use denote.RattleType.{RattleType, owns}
use denote.Memory.{mem, cell_at}
use denote.Param.{param, bounded}
use denote.RawPtr.{Ptr, block_ptr, ptr_val}
use denote.Ref.{MutRef, mut_vals, mut_Tells}
use denote.Shadow.{makes_shadow, pure_l}
use denote.Signature.{plain, named_lft}
use denote.Steps.{nothing, heard, opens, closes}
use denote.Struct.Struct.{Struct}
use denote.Struct.Owning.{shape}
use denote.Triple.Clauses.{Clauses, Ended, closing}
use denote.Triple.Entry.{on_entry}
use denote.Triple.Spec.{Meets, triple_of}
use denote.Triple.Table.{entered}
use denote.Triple.Walked.{says, Stays, stay_ref, walk_of, ends_at, walked, Goes-ref, walk_Meets}
use Rattle.std.specs.contracts.option.Option.{the_row as option_row}
use Rattle.std.specs.declared.option.Option.{Option}
use Rattle.std.specs.declared.option.Option.TheVariants.{None}
use Rattle.std.proofs.VecSteps.Shapes.{after}
use Rattle.triple_arena.specs.declared.lent_slots.LentValue as VM
use Rattle.triple_arena.specs.declared.lent_slots.LentSlots.{LentSlots}
use Rattle.triple_arena.specs.declared.lent_slots.LentSlot.{LentSlot}
use Rattle.triple_arena.specs.contracts.lent_slots.LentSlots as S-type
use Rattle.triple_arena.specs.contracts.lent_slots.LentSlot as O-type
use Rattle.triple_arena.specs.contracts.lent_slots.LentSlots.pop as F
use Rattle.triple_arena.specs.contracts.lent_slots.LentSlots.pop.Key.{name as #self}
use Rattle.triple_arena.specs.LentSlots.{One, Row, refilled, unwritten, row_owned}
use Rattle.triple_arena.proofs.lent_slots.LentSlots.pop.Statement as stated
use Rattle.triple_arena.proofs.lent_slots.LentSlots.pop.Code as code

parted : {X : Type 0} (xs : List X) → 0 < length xs → (y : X) × (ys : List X) × (xs ≡ y ∷ ys)
parted [] p = absurd (not-suc-le-zero p)
parted (y ∷ ys) p = (y, ys, refl)

abbrev word : ℕ × ℕ → Val
word p = vstruct (vcons (vptr p.0 p.1) (vcons (vstruct vnil) vnil))

module _ (T' E' : RattleType) (g : VM.Ghosts E'.Denot T'.Denot) (d : Dict) where
  abbrev R : RattleType
  R = param 0 T'

  abbrev E : RattleType
  E = param 1 E'

  abbrev args : Args
  args = bounded (a_type ∷ a_type ∷ []) (T', (E', tt)) (dcons d dnil)

  abbrev fn' : Fn
  fn' = inst_fn args code.function

  abbrev ended : Ended
  ended = F.ended T' E' g d

  abbrev stayed : Stays ended.signature.params ended.kept
  stayed = (stay_ref (0 ∷ []) tt (plain (λ κs. S-type.the_row (named_lft 4 1 tt κs) R E g)), tt)

  module _ {M : Type 1} {𝓤 : Ura M} (𝓛 : Logic 𝓤) (κ : Lft) (q : Share) (b o : ℕ) (δ : GName)
      (y : E'.Denot) (ys : List E'.Denot) where
    open 𝓛 use {H, A}

    abbrev s : ℕ
    s = (mem E).size

    abbrev c : Option T'.Denot → base.Stored.Gv
    c = (option_row R).coded.code

    abbrev cs : List (Option T'.Denot) → base.Stored.Gv
    cs = (coded_list (option_row R).coded).code

    abbrev W : SemTy
    W = Row R E g.with_held (y ∷ ys)

    abbrev O : SemTy
    O = One R E g.with_held y

    abbrev L : SemTy
    L = Row R E g.with_held ys

    mend : (w : Option T'.Denot) (ws : List (Option T'.Denot)) →
        ent 𝓤 (sep 𝓤 (sem 𝓛 (O.own_at w b o)) (sep 𝓤 (sem 𝓛 (L.own_at ws b (o + s))) (emp 𝓤)))
        (sem 𝓛 (W.own_at (w ∷ ws) b o))
    mend w ws = qed 𝓛 (‵ (O.own_at w b o) ∷ ‵ (L.own_at ws b (o + s)) ∷ raw (emp 𝓤) ∷ []) ∵
        move ! (1 ∷ []) $ fsplit ! $ feq_l ! (λ e.
        move ! (1 ∷ 0 ∷ []) $ fjoin ! $ feq_i ! ℕ (suc (length (refilled g.with_held ys ws)))
        (suc (length ys)) (ap suc e) $ fjoin ! $ keep ! (0 ∷ []) $ done !)

    abbrev Two : GName × GName → Item 𝓤
    Two γs = (‵ (fobs γs.0 (c None)) ⊛ ‵ (fbor κ (Borrowed O b o γs.0))) ⊛
        (‵ (fobs γs.1 (cs (unwritten ys))) ⊛ ‵ (fbor κ (Borrowed L b (o + s) γs.1))) ⊛ ‵ (flft κ q)

    cuts : ent 𝓤 (sep 𝓤 (A.obs δ (cs (unwritten (y ∷ ys))))
        (sep 𝓤 (A.bor κ (Borrowed W b o δ)) (A.lft κ q))) (H.⇛ (types.Kit.mean 𝓛 (some Two)))
    cuts = qed 𝓛 (‵ (fobs δ (cs (unwritten (y ∷ ys)))) ∷ ‵ (fbor κ (Borrowed W b o δ)) ∷
        ‵ (flft κ q) ∷ []) ∵ updating ! $
        open_ref ! tt W {x = unwritten (y ∷ ys)} {b = b} {o = o} $ fsplit ! $
        feq_l ! (λ e. fsplit ! $ move ! (1 ∷ []) $
        feq_i ! ℕ (length (refilled g.with_held ys (unwritten ys))) (length ys)
        (omega (arith, e)) $ fjoin ! $
        nothing ! $ move ! (3 ∷ 4 ∷ 5 ∷ 2 ∷ 1 ∷ 0 ∷ []) $ group ! 6 $
        use1 𝓛
        (later
        (some (λ (γs : GName × GName). (‵ (fobs γs.0 (c None)) ⊛
        ‵ (fbor κ (Borrowed O b o γs.0))) ⊛
        (‵ (fobs γs.1 (cs (unwritten ys))) ⊛ ‵ (fbor κ (Borrowed L b (o + s) γs.1))) ⊛
        ‵ (flft κ q) ⊛ ‵ (after₂ W O L δ γs.0 γs.1 ◌∷◌))))
        (takes_two 𝓛 W O L ◌∷◌ κ q b o b o b (o + s) δ (emp 𝓤) mend (cs (unwritten (y ∷ ys)))
        (cs (unwritten (y ∷ ys))) None (unwritten ys)) $ await ! tt $
        pick ! (λ γs. split3 ! $ move ! (2 ∷ []) $ split ! $ at_once ! $
        show ! (λ (z : GName × GName). types.Kit.mean 𝓛 (Two z)) γs $ keep ! (2 ∷ 3 ∷ 0 ∷ []) $
        done !))

  module _ {M : Type 1} {𝓤 : Ura M} (𝓛 : Logic 𝓤) (at : prog.Memory.Memory → SProp 𝓤)
      (run : prog.Routine.Routine → contract.Monad.Fun 𝓤) where
    open 𝓛 use {H, A}

    abbrev spec : Clauses 𝓤 ended
    spec = F.clauses T' E' g d 𝓛 at run

    module _ (κs : contract.Lifetimes.Lfts 4) (qs : contract.Lifetimes.Shares 4)
        (within : contract.Lifetimes.AllOutlive 4 ended.signature.outlives κs) (rb ro : ℕ)
        (γ : GName) (h : LentSlots T'.Denot E'.Denot) where
      abbrev κ : Lft
      κ = κs.0

      abbrev κ' : Lft
      κ' = κs.1.0

      abbrev It : RattleType
      It = S-type.the_row (named_lft 4 1 tt κs) R E g

      abbrev Out : RattleType
      Out = O-type.the_row (named_lft 4 1 tt κs) R E g

      abbrev bound : (walk_of 𝓛 ended stayed spec).Ghost
      bound = (
        (
          κs,
          qs,
          within,
          (record { ref_ptr = (rb, ro); ghost_name = γ; now = h }, tt),
          (vptr rb ro ∷ [], tt),
        ),
        tt,
      )

      abbrev Post : Val → SProp 𝓤
      Post = (walk_of 𝓛 ended stayed spec).post bound

      abbrev It-own : Ptr → List Val → base.Fml.Fml
      It-own p = (Struct (shape (S-type.the_type (named_lft 4 1 tt κs) R E g))).own_val
          (p, (tt, tt))

      abbrev Out-own : Ptr → List Val → base.Fml.Fml
      Out-own p = (Struct (shape (O-type.the_type (named_lft 4 1 tt κs) R E g))).own_val
          (p, (tt, tt))

      it_made : (b o : ℕ) → ent 𝓤 (emp 𝓤) (sem 𝓛 (It-own (block_ptr b o) (word (b, o) ∷ [])))
      it_made b o = makes_shadow 𝓛 (It-own (block_ptr b o) (word (b, o) ∷ []))
          (λ vss. (tt, (tt, ((λ uss. (tt, tt)), tt)))) (
            (vptr b o ∷ [], (vstruct vnil ∷ [], tt)),
            (refl, (refl, ((tt, (refl, tt)), tt))),
          )

      out_made : (b o : ℕ) → ent 𝓤 (emp 𝓤) (sem 𝓛 (Out-own (block_ptr b o) (word (b, o) ∷ [])))
      out_made b o = makes_shadow 𝓛 (Out-own (block_ptr b o) (word (b, o) ∷ []))
          (λ vss. (tt, (tt, ((λ uss. (tt, tt)), tt)))) (
            (vptr b o ∷ [], (vstruct vnil ∷ [], tt)),
            (refl, (refl, ((tt, (refl, tt)), tt))),
          )

      abbrev others : Item 𝓤
      others = ‵ (flft κs.1.1.0 qs.1.1.0) ⊛ ‵ (flft κs.1.1.1.0 qs.1.1.1.0) ⊛ ‵ ftrue

      module _ (C : Calls 𝓤 H) (Λ : Loops 𝓤 H) where
        walk : 0 < length h.run → ent 𝓤 (on_entry 𝓛 ended.signature κs qs bound.0.3 bound.0.4)
            (WpFn 𝓤 H C Λ fn' (vptr rb ro ∷ []) Post)
        walk one =
            let b : ℕ = h.block in
            let o : ℕ = h.offset in
            let cut = parted h.run one in
            let y : E'.Denot = cut.0 in
            let ys : List E'.Denot = cut.1 in
            let s : ℕ = (mem E).size in
            qed 𝓛 ((‵ (flft κ qs.0) ⊛ ‵ (flft κ' qs.1.0) ⊛ others) ∷
            ‵ (owns (MutRef (named 0) κ It ∷ []) bound.0.3 bound.0.4) ∷ []) ∵
            enter ! C Λ fn' (vptr rb ro ∷ []) _ $
            alloc_all ! (λ l. pass_all ! refl ((tt, tt), tt) $
            let En : Env 𝓤 H = env fn'.locals l in
            move ! (1 ∷ []) $ fsplit ! $ fsplit3 ! $ drop ! $ move ! (3 ∷ []) $ split3 ! $
            move ! (3 ∷ 4 ∷ 0 ∷ []) $
            opens ! tt It {h = h} rb ro (λ vs. move ! (1 ∷ []) $ fsplit ! $ pure_l ! _ (λ p.
            let f : List Val → List Val → List Val =
            λ us ms. vstruct (mir.Val.of_list (us ++ (ms ++ []))) ∷ [] in
            let at-is : p.0.0 ≡ vptr b o ∷ [] = p.1.1.0 ∙ ap (λ (z : Ptr). ptr_val z ∷ []) h.placed
            in
            let mark-is : p.0.1.0 ≡ vstruct vnil ∷ [] = p.1.1.1.0.1.0 in
            let is : vs ≡ word (b, o) ∷ [] = p.1.0 ∙ (λ i. f (at-is i) (mark-is i)) in
            rewrite ! 0 (λ (zs : List E'.Denot). ‵ (row_owned κ' R E g.with_held h.name b o zs))
            cut.2 refl $ fsplit ! $ flt_l ! (λ fits. fsplit ! $
            let once : 1 * s ≡ s = one-mul s in
            let on : 1 * s + o ≡ o + s = omega (arith, once) in
            let below : length ys * s ≤ suc (length ys) * s = mul-le-mul_right s (omega arith) in
            let first' : 1 * s ≤ suc (length ys) * s = mul-le-mul_right s (omega arith) in
            let tiny : s < 2 ^ 64 = omega (arith, fits, first', once) in
            let f₁ : 1 * s < 2 ^ 64 = omega (arith, tiny, once) in
            -- [obs and borrow of the row; the cell; the open borrow; obs γ; auth γ; the token of
            -- 'a; the others; nothing]
            move ! (0 ∷ 1 ∷ 6 ∷ []) $ group ! 3 $
            use1 𝓛 (later (some (Two 𝓛 κ' qs.1.0 b o h.name y ys)))
            (cuts 𝓛 κ' qs.1.0 b o h.name y ys) $ await ! tt $ pick ! (λ γs.
            let slot : LentSlot T'.Denot E'.Denot =
            record {
              at = block_ptr b o;
              mark = h.mark;
              name = γs.0;
              block = b;
              offset =
                  o;
              slot = y;
              placed = refl;
            } in
            let new : LentSlots T'.Denot E'.Denot = record {
              at = block_ptr b (o + s);
              mark =
                  h.mark;
              name = γs.1;
              tie = h.tie;
              block = b;
              offset = o + s;
              run = ys;
              placed =
                  refl;
            } in
            split3 ! $ split ! $ fjoin ! $ move ! (1 ∷ []) $ split ! $ fjoin ! $
            flt_i ! (length ys * s) (2 ^ 63) (omega (arith, fits, below)) $ fjoin ! $
            -- [the row; the slot; the token of 'a; the cell; the open borrow; obs γ; auth γ; the
            -- others; nothing]
            rewrite ! 3 (λ (us : List Val). ‵ (cell_at full_share It.mir us rb ro)) is refl $
            sets
            ! (of_opd ! (load ! (through ! refl (fld ! refl (stop !)))
            (look_in ! 3 (sub ! 0 refl (whole !))))) refl (tt, tt) $
            first ! $ blocks ! $
            sets ! (bin ! (lit ! tt) (size_lit ! (record { fits = tiny }))
            (record { fits = f₁ })) refl (tt, record { fits = f₁ }) $
            sets_last ! (bin ! (get ! refl) (get ! refl) tt) refl (tt, tt) $
            exec ! C Λ En (after 2 fn'.body) (at_ret En Post) $
            assigns ! (of_opd ! (get ! refl)) (through ! refl (fld ! refl (stop !)))
            (store_in ! 3 (sub ! 0 refl (whole !)) (tt, tt)) $
            sets ! (agg ! (no_more !)) refl (tt, tt) $
            sets ! (agg ! (and_then ! (get ! refl) (and_then ! (get ! refl) (no_more !)))) refl
            (tt, (tt, (tt, tt))) $
            rewrite ! 3 (λ (k : ℕ). ‵ (cell_at full_share It.mir (word (b, k) ∷ []) rb ro)) on refl
            $
            use0 𝓛 (‵ (It-own (block_ptr b (o + s)) (word (b, o + s) ∷ []))) (it_made b (o + s)) $
            fjoin ! $
            move ! (3 ∷ 0 ∷ 4 ∷ 5 ∷ 6 ∷ []) $ closes ! tt It new (word (b, o + s) ∷ []) rb ro $
            returns ! (look_at ! 0 refl) $ free_all ! refl $
            -- [obs γ; the borrow; the token; the slot; the token of 'a; the others; nothing]
            move ! (3 ∷ []) $ use0 𝓛 (‵ (Out-own (block_ptr b o) (word (b, o) ∷ []))) (out_made b o)
            $ fjoin ! $
            keep ! (1 ∷ 2 ∷ 3 ∷ 4 ∷ 5 ∷ 0 ∷ []) $
            suffices ! _ (ends_at 𝓛 ended stayed spec bound (word (b, o)) slot (new, tt) (tt, tt)) $
            says ! (cut.2, refl) $
            move ! (3 ∷ 4 ∷ []) $ join ! $ move ! (3 ∷ 0 ∷ []) $ join ! $ frame ! $
            feq_i ! (List Val) (vptr rb ro ∷ []) (vptr rb ro ∷ []) refl $ fjoin3 ! $ nothing ! $
            move ! (1 ∷ 0 ∷ []) $ fjoin ! $ done !)))))

    meets : (𝓣 : Tables 𝓤 H) → Meets 𝓛 ended.signature (WpFn 𝓤 H 𝓣.C 𝓣.Λ fn') (closing 𝓛 ended spec)
    meets 𝓣 =
        walk_Meets 𝓛 ended stayed
        (Goes-ref 𝓛 4 0 tt (plain (λ κs. S-type.the_row (named_lft 4 1 tt κs) R E g)), tt) spec
        (WpFn 𝓤 H 𝓣.C 𝓣.Λ fn') (WpFn-mono 𝓤 H 𝓛.laws 𝓣 fn')
        (walked 𝓛 ended stayed spec (WpFn 𝓤 H 𝓣.C 𝓣.Λ fn') (λ κs. (mut_vals, tt))
        (λ κs. (mut_Tells (named 0) κs.0 (S-type.the_row (named_lft 4 1 tt κs) R E g), tt))
        (λ κs qs bounds a n are.
        qed 𝓛 (raw (on_entry 𝓛 ended.signature κs qs a (vptr a.0.ref_ptr.0 a.0.ref_ptr.1 ∷ [], tt))
        ∷ raw (fact 𝓤 (κs.1.1.0 ⊑ T'.lives)) ∷ raw (fact 𝓤 (κs.1.1.1.0 ⊑ E'.lives)) ∷
        raw (fact 𝓤 (0 < length a.0.now.run)) ∷ []) ∵
        move ! (1 ∷ []) $
        heard ! _ (λ lt. move ! (1 ∷ []) $ heard ! _ (λ le. move ! (1 ∷ []) $ heard ! _ (λ one.
        by ! (walk κs qs bounds a.0.ref_ptr.0 a.0.ref_ptr.1 a.0.ghost_name a.0.now 𝓣.C 𝓣.Λ one))))))

pub pop_spec : {M : Type 1} → stated.statement M
unfolding tables_of
pop_spec 𝓤 𝓛 𝓜 𝓡 wired T E LT LE g d met =
    let 𝓣 : Tables 𝓤 𝓛.H = tables_of 𝓤 𝓛.H 𝓜 (tables 𝓤 𝓛.H 𝓜 𝓡 𝓡.env) in
    entered 𝓤 𝓛.H
    (triple_of 𝓛 (ended T E g d).signature
    (closing 𝓛 (ended T E g d) (spec T E g d 𝓛 𝓜.mem 𝓡.returns))) 𝓣.C 𝓣.Λ (#self (args T E g d))
    (fn' T E g d) (code.unfolded 𝓤 𝓛.H 𝓜 𝓡 wired (T, (E, tt)) d)
    (meets T E g d 𝓛 𝓜.mem 𝓡.returns 𝓣)
