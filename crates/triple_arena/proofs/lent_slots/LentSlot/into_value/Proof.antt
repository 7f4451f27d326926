-- `into_value` opens the loan of a slot, lends the slot itself to `lend_value`, and closes the loan
-- from what that says of the slot. Assumes `Logic`.
use mathlib.Core.Path.{◌≡◌, refl, ap, sym, subst, ◌∙◌}
use mathlib.Core.Option as maybe
use Prim.Native.Nat.{ℕ}
use mathlib.Core.List.{List, [], ◌∷◌, ◌++◌}
use lib.Dec.{T, lit<}
use seplogic.Ra.Ura.{Ura}
use base.Fraction.{full_share}
use base.Share
use base.Stored.{Gv}
use mir.Syntax.{Fn, Dict, Args, named, a_type, dcons, dnil}
use mir.MapTy.{inst_fn}
use mir.Val.{Val, vptr, vstruct, vcons, vnil, has_ty, WT}
use base.Logic.{SProp, ent, sep, emp, id⊢, wand, wand_i, snd∗, upd_i}
use base.Fml.{Lft, GName, Share, Fml, ftrue, fsep, flft, fobs, fauth, fres, flent, fdead, fwand}
use base.Fml.{fupd, fseps}
use prog.Wp.{Env, WpFn}
use ghost.Rules.{aged}
use types.Logic.{Logic, sem}
use types.Late.{ages, bor_new_deep, deep, close_deep}
use types.Tokens.{name_new, res_agree}
use contract.Monad.{fact}
use contract.BorrowLft.{◌⊑◌}
use contract.Running.{tables, tables_of}
use contract.Fact.{fact_i}
use sound.WpLaws.{WpFn-mono}
use contract.CodeStep
use types.Kit.{
  Item,
  ‵,
  raw,
  ◌⊛◌,
  some,
  later,
  at_ret,
  ◌$◌,
  ◌∵◌,
  !,
  qed,
  by,
  move,
  keep,
  use0,
  use1,
  use2,
  use3,
  drop,
  split,
  split3,
  join,
  pick,
  await,
  group,
  rewrite,
  fsplit,
  fsplit3,
  fjoin,
  fjoin3,
  fpick,
  fpack,
  feq_i,
  feq_l,
  suffices,
  frame,
  done,
  updating,
  show,
  now as at_once,
  assume,
}
use types.Part.{whole, sub}
use types.Run.{stop, fld, of_opd, addr, and_then, no_more, first, blocks, exec, returns, enter}
use types.ByLocal.{
  alloc_all,
  pass_all,
  free_all,
  look_at,
  get,
  get_in,
  through,
  sets,
  sets_last,
  lands_as,
  env,
  is,
}
use types.Match.{live}
use types.SemTy.{SemTy, Body as Borrowed}
use types.Mut.{open_ref}
use types.Follow.{closes_following}
use denote.Exit.{no}
use denote.RattleType.{RattleType, owns}
use denote.Laws.{Is, Typed, shows}
use denote.Memory.{mem, part_at}
use denote.Follow.{follows_if, follows_by}
use denote.Param.{param, bounded}
use denote.RawPtr.{Ptr, ptr_val}
use denote.Ref.{MutRef, MutBor}
use denote.Shadow.{pure_l}
use denote.Signature.{plain, named_lft}
use denote.Steps.{nothing, heard, peeks}
use denote.Triple.Call.{calls_at}
use denote.Triple.Clauses.{Clauses, Ended, closing}
use denote.Triple.Spec.{Meets, triple_of}
use denote.Triple.Table.{entered, framed}
use denote.Triple.Walked.{says, Stays, stay_dropped, walk_of, ends_at, Goes-dropped, walk_Meets}
use Rattle.std.specs.contracts.option.Option as Opt
use Rattle.std.specs.declared.option.Option.{Option}
use Rattle.std.specs.declared.option.Option.TheVariants.{None, Some}
use Rattle.std.specs.Option.{option_map, ghost_name_of}
use Rattle.std.proofs.VecSteps.Shapes.{after}
use Rattle.triple_arena.specs.declared.lent_slots.LentValue as VM
use Rattle.triple_arena.specs.declared.lent_slots.LentSlot.{LentSlot}
use Rattle.triple_arena.specs.contracts.lent_slots.LentSlot as O-type
use Rattle.triple_arena.specs.contracts.lent_slots.LentSlot.into_value as F
use Rattle.triple_arena.specs.contracts.lent_slots.LentSlot.into_value.Key.{name as #self}
use Rattle.triple_arena.specs.contracts.lent_slots.lend_value as callee
use Rattle.triple_arena.specs.contracts.lent_slots.lend_value.Key.{name as #callee}
use Rattle.triple_arena.proofs.lent_slots.lend_value.Met as theirs
use Rattle.triple_arena.specs.LentSlots.{One, one_owned}
use Rattle.triple_arena.proofs.lent_slots.LentSlot.into_value.Statement as stated
use Rattle.triple_arena.proofs.lent_slots.LentSlot.into_value.Code as code
use prog.Model.{Model}
use contract.Running.{Running, MachineTables}

abbrev word : ℕ × ℕ → Val
word p = vstruct (vcons (vptr p.0 p.1) (vcons (vstruct vnil) vnil))

module _ (T' E' : RattleType) (g : VM.Ghosts E'.Denot T'.Denot) (d : Dict) where
  abbrev R : RattleType
  R = param 0 T'

  abbrev E : RattleType
  E = param 1 E'

  abbrev args : Args
  args = bounded (a_type ∷ a_type ∷ []) (T', (E', tt)) (dcons d dnil)

  abbrev fn' : Fn
  fn' = inst_fn args code.function

  abbrev ended : Ended
  ended = F.ended T' E' g d

  module _ {M : Type 1} {𝓤 : Ura M} (𝓛 : Logic 𝓤) (κ : Lft) (q : Share) (n : ℕ) (b o : ℕ)
      (γ δ : GName) (x : E'.Denot) where
    open 𝓛 use {H, A}

    abbrev c : Option T'.Denot → Gv
    c = (Opt.the_row R).coded.code

    abbrev O : SemTy
    O = One R E g.with_held x

    abbrev Whole : Fml
    Whole = Borrowed O b o γ

    abbrev Lies : Fml
    Lies = Borrowed (mem E) b o δ

    abbrev Way : Fml
    Way = fwand (fsep (fdead κ) (fseps (Lies ∷ []))) (fupd Whole)

    abbrev Has : SProp 𝓤 → SProp 𝓤
    Has P =
        sep 𝓤 (aged 𝓤 H A n κ q Whole)
        (sep 𝓤 (A.obs γ (c None)) (sep 𝓤 (A.auth γ (c None)) (sep 𝓤 (A.lent (deep n κ) Lies) P)))

    late : ent 𝓤 (sep 𝓤 (aged 𝓤 H A n κ q Whole) (sep 𝓤 (A.lent (deep n κ) Lies) (sem 𝓛 Way)))
        (H.⇛ (A.lft κ q))
    late = qed 𝓛 (raw (aged 𝓤 H A n κ q Whole) ∷ ‵ (flent (deep n κ) Lies) ∷ ‵ Way ∷ []) ∵
        updating ! $
        use0 𝓛 (raw (wand 𝓤 (A.dead κ) (A.dead κ))) (wand_i 𝓤 (emp 𝓤) (A.dead κ) (A.dead κ)
        (snd∗ 𝓤 (emp 𝓤) (A.dead κ))) $ move ! (1 ∷ 2 ∷ 3 ∷ 0 ∷ []) $ group ! 4 $
        use1 𝓛 (later (‵ (flft κ q) ⊛ raw (wand 𝓤 (A.dead κ) (A.bor κ Whole))))
        (close_deep 𝓛 n κ κ q Whole Lies) $ await ! tt $ split ! $ at_once ! $ keep ! (0 ∷ []) $
        done !

    -- nothing was lent: the slot is as it was
    same_Way : ent 𝓤 (sep 𝓤 (A.res δ (E.coded.code x)) (A.auth γ (c None))) (sem 𝓛 Way)
    unfolding fseps
    same_Way = qed 𝓛 (‵ (fres δ (E.coded.code x)) ∷ ‵ (fauth γ (c None)) ∷ []) ∵
        assume ! (‵ (fsep (fdead κ) (fseps (Lies ∷ [])))) $
        suffices ! (sem 𝓛 Whole) (upd_i 𝓤 (sem 𝓛 Whole)) $
        fsplit ! $ drop ! $ fsplit ! $ fpick ! (λ z. fsplit ! $ move ! (3 ∷ 1 ∷ []) $
        res_agree ! E.coded (λ e. rewrite ! 2 (λ (t : E'.Denot). ‵ (part_at E full_share t b o))
        (sym e) refl $
        keep ! (2 ∷ 4 ∷ []) $ fjoin ! $
        fpack ! (Option T'.Denot) (λ t. fsep (O.own_at t b o) (fauth γ (c t))) None $ done !))

    closes : (m : maybe.Option GName) → ent 𝓤 (Has (sem 𝓛 (follows_if E R δ m (g.with_held x) x)))
        (H.⇛ (A.lft κ q))
    unfolding follows_by
    closes maybe.none = qed 𝓛 (raw (aged 𝓤 H A n κ q Whole) ∷ ‵ (fobs γ (c None)) ∷
        ‵ (fauth γ (c None)) ∷ ‵ (flent (deep n κ) Lies) ∷ ‵ (fres δ (E.coded.code x)) ∷ []) ∵
        updating ! $
        move ! (4 ∷ 2 ∷ []) $ use2 𝓛 (‵ Way) same_Way $ move ! (1 ∷ 3 ∷ 0 ∷ []) $ group ! 3 $
        use1 𝓛 (later (‵ (flft κ q))) late $ await ! tt $ at_once ! $ keep ! (0 ∷ []) $ done !
    closes (maybe.some μ) = qed 𝓛 (raw (aged 𝓤 H A n κ q Whole) ∷ ‵ (fobs γ (c None)) ∷
        ‵ (fauth γ (c None)) ∷ ‵ (flent (deep n κ) Lies) ∷
        ‵ (denote.Follow.follows E R δ μ (g.with_held x)) ∷ []) ∵ updating ! $
        nothing ! $ move ! (1 ∷ 2 ∷ 3 ∷ 4 ∷ 5 ∷ 0 ∷ []) $ group ! 6 $
        use1 𝓛 (later (‵ (flft κ q) ⊛ ‵ (types.Follow.after O (mem R) γ μ (λ w. Some w))))
        (closes_following 𝓛 O (mem E) (mem R) (g.with_held x) (λ w. Some w) κ q b o b o γ δ μ
        (emp 𝓤) (λ w. qed 𝓛 (‵ ((mem E).own_at (g.with_held x w) b o) ∷ raw (emp 𝓤) ∷ []) ∵
        keep ! (0 ∷ []) $ done !) n (c None) (c None)) $ await ! tt $ split ! $ at_once ! $
        keep ! (0 ∷ []) $ done !

  module _ {M : Type 1} {𝓤 : Ura M} (𝓛 : Logic 𝓤) (κ : Lft) where
    abbrev Lent : RattleType
    Lent = MutRef (named 0) κ R

    good : (r : Option (MutBor T'.Denot)) (v : Val) → Is (Opt.the_row Lent) r (v ∷ []) →
        Typed (Opt.the_row Lent).mir (v ∷ [])
    good None v is =
        let e : v ∷ [] ≡ live 0 vnil ∷ [] = is.1.0 ∙
        ap (λ (us : List Val). live 0 (mir.Val.of_list us) ∷ []) is.1.1.1.0 in
        subst (λ (vs : List Val). Typed (Opt.the_row Lent).mir vs) (sym e)
        ((tt, (record { fits = lit< tt }, tt)), tt)
    good (Some r) v is =
        let at : List Val = vptr r.ref_ptr.0 r.ref_ptr.1 ∷ [] in
        let e : v ∷ [] ≡ live 1 (vcons (vptr r.ref_ptr.0 r.ref_ptr.1) vnil) ∷ [] = is.1.0 ∙
        ap (λ (us : List Val). live 1 (mir.Val.of_list us) ∷ []) (is.1.1.1.0 ∙
        ap (λ (us : List Val). us ++ []) is.1.1.1.1.0.0) in
        subst (λ (vs : List Val). Typed (Opt.the_row Lent).mir vs) (sym e)
        ((tt, (record { fits = lit< tt }, (tt, tt))), tt)

  abbrev stayed : Stays ended.signature.params ended.kept
  stayed = (stay_dropped (plain (λ κs. O-type.the_row (named_lft 3 0 tt κs) R E g)) no, tt)

  module _ {M : Type 1} {𝓤 : Ura M} (𝓛 : Logic 𝓤) (𝓜 : Model 𝓤 𝓛.H) (𝓡 : Running 𝓤 𝓛.H 𝓜)
      (Callee-met : Meets 𝓛 (callee.signature T' E') (𝓡.run (𝓡.env (#callee args)))
      (callee.spec T' E' g d 𝓛 𝓜.mem 𝓡.returns)) where
    open 𝓛 use {H, A}

    abbrev 𝓣 : MachineTables 𝓤 H 𝓜
    𝓣 = tables 𝓤 H 𝓜 𝓡 𝓡.env

    abbrev spec : Clauses 𝓤 ended
    spec = F.clauses T' E' g d 𝓛 𝓜.mem 𝓡.returns

    module _ (κs : contract.Lifetimes.Lfts 3) (qs : contract.Lifetimes.Shares 3)
        (within : contract.Lifetimes.AllOutlive 3 ended.signature.outlives κs)
        (h : LentSlot T'.Denot E'.Denot) where
      abbrev κ : Lft
      κ = κs.0

      abbrev b : ℕ
      b = h.block

      abbrev o : ℕ
      o = h.offset

      abbrev x : E'.Denot
      x = h.slot

      abbrev It : RattleType
      It = O-type.the_row (named_lft 3 0 tt κs) R E g

      abbrev Out : RattleType
      Out = Opt.the_row (MutRef (named 0) κ R)

      abbrev bound : List Val → (walk_of 𝓛 ended stayed spec).Ghost
      bound us = ((κs, qs, within, (h, tt), (us, tt)), tt)

      abbrev Post : List Val → Val → SProp 𝓤
      Post us = (walk_of 𝓛 ended stayed spec).post (bound us)

      abbrev Had : List (Item 𝓤)
      Had = ‵ (one_owned κ R E g.with_held h.name b o x) ∷ ‵ (flft κ qs.0) ∷ ‵ (flft κs.1.0 qs.1.0)
          ∷ ‵ (flft κs.1.1.0 qs.1.1.0) ∷ []

      walk : κs.1.0 ⊑ T'.lives → κs.1.1.0 ⊑ E'.lives →
          ent 𝓤 (types.Kit.⋆ 𝓛 Had) (WpFn 𝓤 H 𝓣.C 𝓣.Λ fn' (word (b, o) ∷ [])
          (Post (word (b, o) ∷ [])))
      walk lt le =
          let ql : Share = base.Share.left qs.0 in
          let qr : Share = base.Share.right qs.0 in
          let k = triple_of 𝓛 (callee.signature T' E') (callee.spec T' E' g d 𝓛 𝓜.mem 𝓡.returns) in
          qed 𝓛 Had ∵ enter ! 𝓣.C 𝓣.Λ fn' (word (b, o) ∷ []) _ $
          alloc_all ! (λ l. pass_all ! refl ((tt, (tt, (tt, tt))), tt) $
          let En : Env 𝓤 H = env fn'.locals l in
          fsplit ! $ move ! (2 ∷ []) $ use1 𝓛 (‵ (flft κ ql) ⊛ ‵ (flft κ qr))
          (𝓛.lfts.lft_split κ qs.0) $ split ! $ move ! (2 ∷ 3 ∷ 1 ∷ []) $
          open_ref ! tt (One R E g.with_held x) {x = None} {b = b} {o = o} $
          -- [the slot; the open borrow; obs; auth; half the token; the others]
          name_new ! tt (E.coded.code x) (λ δ. move ! (2 ∷ 1 ∷ []) $ fjoin ! $
          fpack ! E'.Denot (λ z. fsep ((mem E).own_at z b o) (fauth δ (E.coded.code z))) x $
          move ! (2 ∷ []) $ ages ! (λ n. move ! (1 ∷ []) $ bor_new_deep ! tt n κ $
          -- [the slot's borrow; the right to it; the open borrow; obs δ; obs; auth; half the token;
          -- the others]
          move ! (3 ∷ 0 ∷ []) $ feq_i ! (List Val) (vptr b o ∷ []) (vptr b o ∷ []) refl $ fjoin3 ! $
          nothing ! $ move ! (1 ∷ 0 ∷ []) $ fjoin ! $
          nothing ! $ move ! (8 ∷ 0 ∷ []) $ join ! $ move ! (7 ∷ 0 ∷ []) $ join ! $
          move ! (6 ∷ 0 ∷ []) $ join ! $ join ! $
          nothing ! $ use0 𝓛 (raw (fact 𝓤 (κs.1.1.0 ⊑ E'.lives))) (fact_i 𝓤 _ (emp 𝓤) le) $ join ! $
          use0 𝓛 (raw (fact 𝓤 (κs.1.0 ⊑ T'.lives))) (fact_i 𝓤 _ (emp 𝓤) lt) $ join ! $
          move ! (1 ∷ 0 ∷ []) $ join ! $
          let ref : MutBor E'.Denot = record { ref_ptr = (b, o); ghost_name = δ; now = x } in
          let y : k.Ghost = ((κs, (ql, qs.1), within, (ref, tt), (vptr b o ∷ [], tt)), tt) in
          use1 𝓛 (raw (k.pre y)) (id⊢ 𝓤 (k.pre y)) $
          sets ! (of_opd ! (get_in ! (fld ! refl (stop !)) (sub ! 0 refl (whole !)))) refl (tt, tt)
          $ first ! $ blocks ! $ sets_last ! (addr ! (through ! refl (stop !))) refl (tt, tt) $
          exec ! 𝓣.C 𝓣.Λ En (after 2 fn'.body) (at_ret En (Post (word (b, o) ∷ []))) $
          sets ! (of_opd ! (get ! refl)) refl (tt, tt) $
          calls_at ! (framed 𝓤 H 𝓜 𝓣) k Callee-met y (and_then ! (get ! refl) (no_more !)) (λ v.
          use1 𝓛
          (later
          (some
          (λ (r : Option (MutBor T'.Denot)).
          ((‵ (flft κ ql) ⊛ ‵ (flft κs.1.0 qs.1.0) ⊛ ‵ (flft κs.1.1.0 qs.1.1.0) ⊛ ‵ ftrue) ⊛
          ‵ (Out.own_val r (v ∷ []))) ⊛
          some (λ (ws : denote.Triple.Clauses.Lasts (callee.ended T' E' g d) κs (ref, tt)). ‵
          (denote.Triple.Clauses.lasts (callee.ended T' E' g d) κs (ref, tt) ws) ⊛
          (‵ (follows_if E R δ (ghost_name_of r) (g.with_held x) x) ⊛
          raw (fact 𝓤 (option_map (λ m. m.now) r ≡ g.held x))))))) (id⊢ 𝓤 (k.post y v)) $
          await ! tt $ pick ! (λ r. split ! $ split ! $ move ! (2 ∷ []) $
          pick ! (λ ws. split ! $ drop ! $ split ! $ move ! (1 ∷ []) $ heard ! _ (λ told.
          -- [how the slot follows; the tokens; the result; the right to the slot; the open borrow;
          -- obs; auth]
          move ! (4 ∷ 5 ∷ 6 ∷ 3 ∷ 0 ∷ []) $ group ! 5 $
          use1 𝓛 (later (‵ (flft κ qr))) (closes 𝓛 κ qr n b o h.name δ x (ghost_name_of r)) $
          await ! tt $
          move ! (1 ∷ []) $ split ! $ move ! (0 ∷ 2 ∷ []) $
          use2 𝓛 (‵ (flft κ qs.0)) (𝓛.lfts.lft_join κ qs.0) $ move ! (2 ∷ []) $
          -- [the result; the token; the others]
          peeks ! Out _ (shows 𝓛 Out) r (v ∷ []) (λ is. lands_as ! refl refl (good 𝓛 κ r v is).0 $
          returns ! (look_at ! 0 refl) $ free_all ! refl $ move ! (1 ∷ 2 ∷ []) $ join ! $
          suffices ! _ (ends_at 𝓛 ended stayed spec (bound (word (b, o) ∷ [])) v r (tt, tt)
          (tt, tt)) $ says ! told $
          nothing ! $ nothing ! $ fjoin ! $ move ! (0 ∷ 2 ∷ []) $ join ! $ move ! (1 ∷ 0 ∷ []) $
          join ! $ done !))))))))

      entry : (us : List Val) → ent 𝓤 ((walk_of 𝓛 ended stayed spec).pre (bound us))
          (WpFn 𝓤 H 𝓣.C 𝓣.Λ fn' (us ++ []) (Post us))
      entry us =
          qed 𝓛 (((‵ (flft κ qs.0) ⊛ ‵ (flft κs.1.0 qs.1.0) ⊛ ‵ (flft κs.1.1.0 qs.1.1.0) ⊛ ‵ ftrue)
          ⊛ ‵ (owns (It ∷ []) (h, tt) (us, tt))) ∷ raw (fact 𝓤 (κs.1.0 ⊑ T'.lives)) ∷
          raw (fact 𝓤 (κs.1.1.0 ⊑ E'.lives)) ∷ ‵ ftrue ∷ []) ∵
          move ! (1 ∷ []) $
          heard ! _ (λ lt. move ! (1 ∷ []) $
          heard ! _ (λ le. split ! $ split3 ! $ move ! (2 ∷ []) $ split ! $ move ! (4 ∷ []) $
          fsplit ! $ fsplit ! $ pure_l ! _ (λ p.
          let f : List Val → List Val → List Val =
          λ ws ms. vstruct (mir.Val.of_list (ws ++ (ms ++ []))) ∷ [] in
          let at-is : p.0.0 ≡ vptr b o ∷ [] = p.1.1.0 ∙ ap (λ (z : Ptr). ptr_val z ∷ []) h.placed in
          let mark-is : p.0.1.0 ≡ vstruct vnil ∷ [] = p.1.1.1.0.1.0 in
          let is : us ≡ word (b, o) ∷ [] = p.1.0 ∙ (λ i. f (at-is i) (mark-is i)) in
          keep ! (0 ∷ 4 ∷ 5 ∷ 2 ∷ []) $
          by ! (subst (λ (ws : List Val). ent 𝓤 (types.Kit.⋆ 𝓛 Had)
          (WpFn 𝓤 H 𝓣.C 𝓣.Λ fn' (ws ++ []) (Post ws))) (sym is) (walk lt le)))))

    meets : Meets 𝓛 ended.signature (WpFn 𝓤 H 𝓣.C 𝓣.Λ fn') (closing 𝓛 ended spec)
    unfolding tables_of contract.CodeStep.c_Tables
    meets =
        walk_Meets 𝓛 ended stayed (
          Goes-dropped 𝓛 3 (plain (λ κs. O-type.the_row (named_lft 3 0 tt κs) R E g)) no
              (λ κs x w. refl),
          tt,
        ) spec (WpFn 𝓤 H 𝓣.C 𝓣.Λ fn')
        (WpFn-mono 𝓤 H 𝓛.laws (tables_of 𝓤 H 𝓜 𝓣) fn')
        (λ z. entry z.0.0 z.0.1 z.0.2 z.0.3.0 z.0.4.0)

pub into_value_spec : {M : Type 1} → stated.statement M
into_value_spec 𝓤 𝓛 𝓜 𝓡 wired T E LT LE g d met =
    let cm = theirs.met 𝓤 𝓛 𝓜 𝓡 (code.calls-triple_arena::lent_slots::lend_value 𝓡.env wired) T E LT
    LE g d met in
    let 𝓣' = tables 𝓤 𝓛.H 𝓜 𝓡 𝓡.env in
    entered 𝓤 𝓛.H
    (triple_of 𝓛 (ended T E g d).signature (closing 𝓛 (ended T E g d) (spec T E g d 𝓛 𝓜 𝓡 cm)))
    𝓣'.C 𝓣'.Λ (#self (args T E g d)) (fn' T E g d)
    (code.unfolded 𝓤 𝓛.H 𝓜 𝓡 wired (T, (E, tt)) d) (meets T E g d 𝓛 𝓜 𝓡 cm)
