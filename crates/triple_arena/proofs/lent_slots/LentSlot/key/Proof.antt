-- `key` opens the loan of a slot, lends the slot for a while, and closes the loan. Assumes `Logic`.
use mathlib.Core.Path.{◌≡◌, refl, ap, sym, ◌∙◌}
use Prim.Native.Nat.{ℕ}
use mathlib.Core.List.{List, [], ◌∷◌, ◌++◌}
use seplogic.Ra.Ura.{Ura}
use base.Fraction.{full_share}
use mir.Syntax.{Fn, Dict, Args, named, a_type, dcons, dnil}
use mir.MapTy.{inst_fn}
use mir.Val.{Val, vptr, vstruct, vcons, vnil}
use base.Logic.{SProp, ent, sep, emp, id⊢, wand, apply∗}
use base.Fml.{Lft, GName, Share, ftrue, fsep, flt, fat, flft, fobs, fauth, fres, fbor, fdead, flent}
use prog.Wp.{Env, WpFn}
use types.Logic.{Logic, sem}
use contract.Monad.{fact}
use contract.BorrowLft.{◌⊑◌}
use contract.Running.{tables, tables_of}
use sound.WpLaws.{WpFn-mono}
use types.Kit.{‵, raw, ◌⊛◌, some, later, at_ret, ◌$◌, ◌∵◌, !, qed, by, move, keep, use0, use1, use2}
use types.Kit.{use3, drop, split, split3, join, pick, await, rewrite, fsplit, fsplit3, fjoin}
use types.Kit.{fjoin3, feq_i, suffices, frame, done}
use types.Part.{whole, sub, look_in}
use types.Run.{stop, fld, load, addr, of_opd, and_then, no_more, first, blocks, exec, returns}
use types.Run.{enter}
use types.ByLocal.{
  alloc_all,
  pass_all,
  free_all,
  look_at,
  get,
  through,
  sets,
  sets_last,
  lands_as,
  env,
}
use types.SemTy.{Body as Borrowed}
use types.Mut.{open_ref, close_ref}
use types.Tokens.{lft_new, lft_end, lft-common}
use base.FractionLaws.{common}
use base.Share
use denote.Lend.{lends_ref, ref_back}
use denote.Laws.{shows}
use denote.Param.Laws.{Laws, param_laws}
use contract.BorrowLft.{meet_⊑_left, meet_⊑_right}
use contract.Fact.{fact_i}
use contract.CodeStep
use prog.Model.{Model}
use contract.Running.{Running, MachineTables}
use denote.Triple.Call.{calls_at}
use Rattle.std.proofs.option.Option.TheLaws.{the_row_laws as option-laws}
use Rattle.std.specs.Option.{option_map}
use Rattle.triple_arena.specs.declared.lent_slots.SlotKey as SK
use Rattle.triple_arena.specs.contracts.lent_slots.key_of as callee
use Rattle.triple_arena.specs.contracts.lent_slots.key_of.Key.{name as #callee}
use Rattle.triple_arena.proofs.lent_slots.key_of.Met as theirs
use denote.RattleType.{RattleType, owns}
use denote.Memory.{mem, cell_at}
use denote.Param.{param, bounded}
use denote.RawPtr.{Ptr, block_ptr, ptr_val}
use denote.Ref.{MutRef, MutBor, mut_vals, mut_Tells}
use denote.Shadow.{makes_shadow, pure_l}
use denote.Signature.{plain, named_lft}
use denote.Steps.{nothing, heard, opens, closes, peeks}
use denote.Struct.Struct.{Struct}
use denote.Struct.Owning.{shape}
use denote.Triple.Clauses.{Clauses, Ended, closing, Lasts, lasts}
use denote.Triple.Entry.{on_entry}
use denote.Triple.Spec.{Meets, triple_of}
use denote.Triple.Table.{entered, framed}
use denote.Triple.Walked.{says, Stays, stay_ref, walk_of, ends_at, walked, Goes-ref, walk_Meets}
use Rattle.std.specs.contracts.option.Option.{the_row as option_row}
use Rattle.std.specs.declared.option.Option.{Option}
use Rattle.std.specs.declared.option.Option.TheVariants.{None}
use Rattle.std.proofs.VecSteps.Shapes.{after}
use Rattle.triple_arena.specs.declared.lent_slots.LentValue as VM
use Rattle.triple_arena.specs.declared.lent_slots.LentSlot.{LentSlot}
use Rattle.triple_arena.specs.contracts.lent_slots.LentSlot as O-type
use Rattle.triple_arena.specs.contracts.lent_slots.LentSlot.key as F
use Rattle.triple_arena.specs.contracts.lent_slots.LentSlot.key.Key.{name as #self}
use Rattle.triple_arena.specs.LentSlots.{One}
use Rattle.triple_arena.proofs.lent_slots.LentSlot.key.Statement as stated
use Rattle.triple_arena.proofs.lent_slots.LentSlot.key.Code as code

abbrev word : ℕ × ℕ → Val
word p = vstruct (vcons (vptr p.0 p.1) (vcons (vstruct vnil) vnil))

module _ (T' E' G' : RattleType) (g : VM.Ghosts E'.Denot T'.Denot) (d : Dict)
    (k' : SK.Ghosts E'.Denot G'.Denot) (d' : Dict) where
  abbrev R : RattleType
  R = param 0 T'

  abbrev E : RattleType
  E = param 1 E'

  abbrev Gr : RattleType
  Gr = param 2 G'

  abbrev args : Args
  args = bounded (a_type ∷ a_type ∷ a_type ∷ []) (T', (E', (G', tt))) (dcons d (dcons d' dnil))

  abbrev their-args : Args
  their-args = bounded (a_type ∷ a_type ∷ []) (G', (E', tt)) (dcons d' dnil)

  abbrev fn' : Fn
  fn' = inst_fn args code.function

  abbrev ended : Ended
  ended = F.ended T' E' G' g d k' d'

  abbrev stayed : Stays ended.signature.params ended.kept
  stayed = (stay_ref (0 ∷ []) tt (plain (λ κs. O-type.the_row (named_lft 5 1 tt κs) R E g)), tt)

  module _ {M : Type 1} {𝓤 : Ura M} (𝓛 : Logic 𝓤) (𝓜 : Model 𝓤 𝓛.H) (𝓡 : Running 𝓤 𝓛.H 𝓜)
      (LG : Laws G')
      (Callee-met : Meets 𝓛 (callee.signature G' E') (𝓡.run (𝓡.env (#callee their-args)))
      (callee.spec G' E' k' d' 𝓛 𝓜.mem 𝓡.returns)) where
    open 𝓛 use {H, A}

    abbrev 𝓣 : MachineTables 𝓤 H 𝓜
    𝓣 = tables 𝓤 H 𝓜 𝓡 𝓡.env

    abbrev spec : Clauses 𝓤 ended
    spec = F.clauses T' E' G' g d k' d' 𝓛 𝓜.mem 𝓡.returns

    module _ (κs : contract.Lifetimes.Lfts 5) (qs : contract.Lifetimes.Shares 5)
        (within : contract.Lifetimes.AllOutlive 5 ended.signature.outlives κs) (rb ro : ℕ)
        (γ : GName) (h : LentSlot T'.Denot E'.Denot) where
      abbrev κ : Lft
      κ = κs.0

      abbrev κ' : Lft
      κ' = κs.1.0

      abbrev κE : Lft
      κE = κs.1.1.1.0

      abbrev qE : Share
      qE = qs.1.1.1.0

      abbrev κG : Lft
      κG = κs.1.1.1.1.0

      abbrev qG : Share
      qG = qs.1.1.1.1.0

      abbrev It : RattleType
      It = O-type.the_row (named_lft 5 1 tt κs) R E g

      abbrev Out : RattleType
      Out = option_row Gr

      abbrev It-own : Ptr → List Val → base.Fml.Fml
      It-own p = (Struct (shape (O-type.the_type (named_lft 5 1 tt κs) R E g))).own_val
          (p, (tt, tt))

      it_made : (b o : ℕ) → ent 𝓤 (emp 𝓤) (sem 𝓛 (It-own (block_ptr b o) (word (b, o) ∷ [])))
      it_made b o = makes_shadow 𝓛 (It-own (block_ptr b o) (word (b, o) ∷ []))
          (λ vss. (tt, (tt, ((λ uss. (tt, tt)), tt)))) (
            (vptr b o ∷ [], (vstruct vnil ∷ [], tt)),
            (refl, (refl, ((tt, (refl, tt)), tt))),
          )

      abbrev bound : (walk_of 𝓛 ended stayed spec).Ghost
      bound = (
        (
          κs,
          qs,
          within,
          (record { ref_ptr = (rb, ro); ghost_name = γ; now = h }, tt),
          (vptr rb ro ∷ [], tt),
        ),
        tt,
      )

      abbrev Post : Val → SProp 𝓤
      Post = (walk_of 𝓛 ended stayed spec).post bound

      walk : κE ⊑ E'.lives → κG ⊑ G'.lives →
          ent 𝓤 (on_entry 𝓛 ended.signature κs qs bound.0.3 bound.0.4)
          (WpFn 𝓤 H 𝓣.C 𝓣.Λ fn' (vptr rb ro ∷ []) Post)
      walk le lg =
          let b : ℕ = h.block in
          let o : ℕ = h.offset in
          let x : E'.Denot = h.slot in
          let ql : Share = base.Share.left qE in
          let qr : Share = base.Share.right qE in
          let k = triple_of 𝓛 (callee.signature G' E') (callee.spec G' E' k' d' 𝓛 𝓜.mem 𝓡.returns)
          in
          qed 𝓛 ((‵ (flft κ qs.0) ⊛ ‵ (flft κ' qs.1.0) ⊛ ‵ (flft κs.1.1.0 qs.1.1.0) ⊛ ‵ (flft κE qE)
          ⊛ ‵ (flft κG qG) ⊛ ‵ ftrue) ∷
          ‵ (owns (MutRef (named 0) κ It ∷ []) bound.0.3 bound.0.4) ∷ []) ∵
          enter ! 𝓣.C 𝓣.Λ fn' (vptr rb ro ∷ []) _ $
          alloc_all ! (λ l. pass_all ! refl ((tt, tt), tt) $
          let En : Env 𝓤 H = env fn'.locals l in
          move ! (1 ∷ []) $ fsplit ! $ fsplit3 ! $ drop ! $ move ! (3 ∷ []) $ split3 ! $
          move ! (2 ∷ []) $ split3 ! $ move ! (2 ∷ []) $ split ! $
          -- [κG; nothing; κT; κE; κ; κ'; obs γ; the borrow; nothing]
          move ! (6 ∷ 7 ∷ 4 ∷ []) $ opens ! tt It {h = h} rb ro (λ vs. move ! (1 ∷ []) $ fsplit ! $
          pure_l ! _ (λ p.
          let f : List Val → List Val → List Val =
          λ us ms. vstruct (mir.Val.of_list (us ++ (ms ++ []))) ∷ [] in
          let at-is : p.0.0 ≡ vptr b o ∷ [] = p.1.1.0 ∙ ap (λ (z : Ptr). ptr_val z ∷ []) h.placed in
          let mark-is : p.0.1.0 ≡ vstruct vnil ∷ [] = p.1.1.1.0.1.0 in
          let is : vs ≡ word (b, o) ∷ [] = p.1.0 ∙ (λ i. f (at-is i) (mark-is i)) in
          -- [the slot's loan; the cell; the open borrow; obs γ; auth γ; κG; nothing; κT; κE; κ';
          -- nothing]
          rewrite ! 1 (λ (us : List Val). ‵ (cell_at full_share It.mir us rb ro)) is refl $
          sets
          ! (of_opd ! (load ! (through ! refl (fld ! refl (stop !)))
          (look_in ! 1 (sub ! 0 refl (whole !))))) refl (tt, tt) $
          first ! $ blocks ! $ sets_last ! (addr ! (through ! refl (stop !))) refl (tt, tt) $
          exec ! 𝓣.C 𝓣.Λ En (after 2 fn'.body) (at_ret En Post) $
          sets ! (of_opd ! (get ! refl)) refl (tt, tt) $
          fsplit ! $ move ! (0 ∷ 1 ∷ 10 ∷ []) $ open_ref ! tt (One R E g.with_held x) {x = None}
          {b = b} {o = o} $
          -- [the slot; its open loan; obs; auth; the cell; the open borrow; obs γ; auth γ; κG;
          -- nothing; κT; κE; nothing]
          move ! (11 ∷ []) $ use1 𝓛 (‵ (flft κE ql) ⊛ ‵ (flft κE qr)) (𝓛.lfts.lft_split κE qE) $
          split ! $
          lft_new ! tt (λ α.
          let κα : Lft = α ∷ κE in
          let s : Share = (common full_share ql).0 in
          let Back : SProp 𝓤 = wand 𝓤 (A.lft κα s) (sep 𝓤 (A.lft (α ∷ []) full_share) (A.lft κE ql))
          in
          use2 𝓛 (‵ (flft κα s) ⊛ raw Back) (lft-common 𝓛 (α ∷ []) κE full_share ql) $ split ! $
          -- [κα; the way back; κE; the slot; its open loan; obs; auth; the cell; ..]
          move ! (3 ∷ []) $
          use1 𝓛
          (later
          (some
          (λ (δ : GName). ‵
          ((MutRef (named 0) κα E).own_val (record {
            ref_ptr = (b, o);
            ghost_name = δ;
            now =
                x;
          }) (vptr b o ∷ [])) ⊛ ‵ (flent κα (Borrowed (mem E) b o δ)))))
          (lends_ref 𝓛 E (named 0) κα x b o) $ await ! tt $ pick ! (λ δ. split ! $
          nothing ! $ move ! (1 ∷ 0 ∷ []) $ fjoin ! $
          nothing ! $ move ! (5 ∷ 0 ∷ []) $ join ! $ move ! (12 ∷ 0 ∷ []) $ join ! $
          move ! (3 ∷ 0 ∷ []) $ join ! $ join ! $
          nothing ! $ use0 𝓛 (raw (fact 𝓤 (κE ⊑ E'.lives))) (fact_i 𝓤 _ (emp 𝓤) le) $ join ! $
          use0 𝓛 (raw (fact 𝓤 (κG ⊑ G'.lives))) (fact_i 𝓤 _ (emp 𝓤) lg) $ join ! $
          move ! (1 ∷ 0 ∷ []) $ join ! $
          let ref : MutBor E'.Denot = record { ref_ptr = (b, o); ghost_name = δ; now = x } in
          let κs'' : contract.Lifetimes.Lfts 3 = (κα, (κG, (κE, tt))) in
          let y : k.Ghost = (
            (
              κs'',
              (s, (qG, (qr, tt))),
              (meet_⊑_right (α ∷ []) κE, tt),
              (ref, tt),
              (vptr b o ∷ [], tt),
            ),
            tt,
          ) in
          use1 𝓛 (raw (k.pre y)) (id⊢ 𝓤 (k.pre y)) $
          -- [the call; the right to the slot; the way back; the open loan; obs; auth; the cell; the
          -- open borrow; obs γ; auth γ; nothing; κT; nothing]
          calls_at ! (framed 𝓤 H 𝓜 𝓣) k Callee-met y (and_then ! (get ! refl) (no_more !)) (λ v.
          use1 𝓛
          (later
          (some
          (λ (r : Option G'.Denot). ((‵ (flft κα s) ⊛ ‵ (flft κG qG) ⊛ ‵ (flft κE qr) ⊛ ‵ ftrue)
          ⊛ ‵ (Out.own_val r (v ∷ []))) ⊛
          some (λ (ws : Lasts (callee.ended G' E' k' d') κs'' (ref, tt)). ‵
          (lasts (callee.ended G' E' k' d') κs'' (ref, tt) ws) ⊛
          (raw (fact 𝓤 (ws.0 ≡ x)) ⊛
          raw (fact 𝓤 (option_map k'.number_of r ≡ k'.key_number x))))))) (id⊢ 𝓤 (k.post y v)) $
          await ! tt $ pick ! (λ r. split ! $ split ! $ move ! (2 ∷ []) $
          pick ! (λ ws. split ! $ move ! (1 ∷ []) $ split ! $
          heard ! _ (λ same. heard ! _ (λ told.
          -- [what the call left; the tokens; the result; the right to the slot; the way back; the
          -- open loan; obs; auth; the cell; the open borrow; obs γ; auth γ; nothing; κT; nothing]
          fsplit ! $ fsplit ! $ rewrite ! 0 (λ (m : E'.Denot). ‵ (fres δ (E.coded.code m))) same
          refl $
          move ! (3 ∷ []) $ split3 ! $ move ! (0 ∷ 8 ∷ []) $
          use2 𝓛 (‵ (flft (α ∷ []) full_share) ⊛ ‵ (flft κE ql))
          (apply∗ 𝓤 (A.lft κα s) (sep 𝓤 (A.lft (α ∷ []) full_share) (A.lft κE ql))) $ split ! $
          -- [α's token; κE; κG; κE and nothing; the slot's last value; its borrow; nothing; the
          -- result; the right; the open loan; ..]
          lft_end ! tt $
          use1 𝓛 (‵ (fdead κα)) (𝓛.lfts.dead-incl κα (α ∷ []) (meet_⊑_left (α ∷ []) κE)) $
          move ! (0 ∷ 8 ∷ 4 ∷ []) $ use3 𝓛 (later (‵ ((mem E).own_at x b o)))
          (ref_back 𝓛 E κα δ x b o) $ await ! tt $
          -- [the slot; κE; κG; κE and nothing; a borrow; nothing; the result; the open loan; obs;
          -- auth; the cell; the open borrow; obs γ; auth γ; nothing; κT; nothing]
          move ! (0 ∷ 7 ∷ 8 ∷ 9 ∷ []) $ close_ref ! tt (One R E g.with_held x) None $ fjoin ! $
          use0 𝓛 (‵ (It-own (block_ptr b o) (word (b, o) ∷ []))) (it_made b o) $
          rewrite ! 0 (λ (z : Ptr). ‵ (It-own z (word (b, o) ∷ []))) (sym h.placed) refl $
          fjoin ! $
          -- [the slot's loan; κ'; κE; κG; κE and nothing; a borrow; nothing; the result; the cell;
          -- the open borrow; obs γ; auth γ; nothing; κT; nothing]
          move ! (8 ∷ 0 ∷ 9 ∷ 10 ∷ 11 ∷ []) $ closes ! tt It h (word (b, o) ∷ []) rb ro $
          -- [obs γ; the borrow; κ; κ'; κE; κG; κE and nothing; a borrow; nothing; the result;
          -- nothing; κT; nothing]
          move ! (9 ∷ []) $ peeks ! Out _ (shows 𝓛 Out) r (v ∷ [])
          (λ seen. lands_as ! refl refl (((option-laws Gr (param_laws 2 G' LG)).lawful 𝓛).typed
          r (v ∷ []) seen).0 $
          returns ! (look_at ! 0 refl) $ free_all ! refl $
          move ! (7 ∷ []) $ split ! $ move ! (7 ∷ 0 ∷ []) $
          use2 𝓛 (‵ (flft κE qE)) (𝓛.lfts.lft_join κE qE) $
          nothing ! $ move ! (8 ∷ 0 ∷ []) $ join ! $ move ! (1 ∷ 0 ∷ []) $ join ! $
          move ! (10 ∷ 0 ∷ []) $ join ! $ move ! (6 ∷ 0 ∷ []) $ join ! $ move ! (5 ∷ 0 ∷ []) $
          join ! $
          keep ! (0 ∷ 3 ∷ 4 ∷ 2 ∷ []) $
          suffices ! _ (ends_at 𝓛 ended stayed spec bound v r (h, tt) (tt, tt)) $
          says ! (told, refl) $
          frame ! $ feq_i ! (List Val) (vptr rb ro ∷ []) (vptr rb ro ∷ []) refl $ fjoin3 ! $
          nothing ! $ move ! (1 ∷ 0 ∷ []) $ fjoin ! $ done !)))))))))))

    meets : Meets 𝓛 ended.signature (WpFn 𝓤 H 𝓣.C 𝓣.Λ fn') (closing 𝓛 ended spec)
    unfolding tables_of contract.CodeStep.c_Tables
    meets =
        walk_Meets 𝓛 ended stayed
        (Goes-ref 𝓛 5 0 tt (plain (λ κs. O-type.the_row (named_lft 5 1 tt κs) R E g)), tt) spec
        (WpFn 𝓤 H 𝓣.C 𝓣.Λ fn') (WpFn-mono 𝓤 H 𝓛.laws (tables_of 𝓤 H 𝓜 𝓣) fn')
        (walked 𝓛 ended stayed spec (WpFn 𝓤 H 𝓣.C 𝓣.Λ fn') (λ κs. (mut_vals, tt))
        (λ κs. (mut_Tells (named 0) κs.0 (O-type.the_row (named_lft 5 1 tt κs) R E g), tt))
        (λ κs qs bounds a n are.
        qed 𝓛 (raw (on_entry 𝓛 ended.signature κs qs a (vptr a.0.ref_ptr.0 a.0.ref_ptr.1 ∷ [], tt))
        ∷ raw (fact 𝓤 (κs.1.1.0 ⊑ T'.lives)) ∷ raw (fact 𝓤 (κs.1.1.1.0 ⊑ E'.lives)) ∷
        raw (fact 𝓤 (κs.1.1.1.1.0 ⊑ G'.lives)) ∷ ‵ ftrue ∷ []) ∵
        move ! (2 ∷ []) $ heard ! _ (λ le. move ! (2 ∷ []) $ heard ! _ (λ lg. keep ! (0 ∷ []) $
        by ! (walk κs qs bounds a.0.ref_ptr.0 a.0.ref_ptr.1 a.0.ghost_name a.0.now le lg)))))

pub key_spec : {M : Type 1} → stated.statement M
key_spec 𝓤 𝓛 𝓜 𝓡 wired T E G LT LE LG g d k' d' met met' =
    let cm = theirs.met 𝓤 𝓛 𝓜 𝓡 (code.calls-triple_arena::lent_slots::key_of 𝓡.env wired) G E LG LE
    k' d' met' in
    let 𝓣' = tables 𝓤 𝓛.H 𝓜 𝓡 𝓡.env in
    entered 𝓤 𝓛.H (triple_of 𝓛 (ended T E G g d k' d').signature
    (closing 𝓛 (ended T E G g d k' d') (spec T E G g d k' d' 𝓛 𝓜 𝓡 LG cm))) 𝓣'.C 𝓣'.Λ
    (#self (args T E G g d k' d')) (fn' T E G g d k' d')
    (code.unfolded 𝓤 𝓛.H 𝓜 𝓡 wired (T, (E, (G, tt))) d d') (meets T E G g d k' d' 𝓛 𝓜 𝓡 LG cm)
