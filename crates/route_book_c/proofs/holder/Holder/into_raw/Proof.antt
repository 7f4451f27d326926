-- `into_raw` gives the pointer back, with what the holder owned, or nothing.
use mathlib.Core.Path.{◌≡◌, refl}
use mathlib.Core.List.{List, [], ◌∷◌, ◌++◌}
use mathlib.Core.Bool.{Bool, true, false}
use seplogic.Ra.Ura.{Ura}
use mir.Val.{Val, vcons, vnil}
use base.Logic.{SProp, ent, emp, never_e, id⊢}
use base.Fml.{ftrue, fsep}
use prog.Memory.{Memory}
use prog.Routine.{Routine}
use prog.Wp.{Env, WpFn, Calls, Loops}
use types.Logic.{Logic}
use contract.Monad.{Fun}
use contract.Running.{tables}
use types.Kit.{‵, raw, ◌⊛◌, prop, at_ret, ◌$◌, ◌∵◌, !, qed, by, move, drop, keep, use0, use1, join}
use types.Kit.{split, regoal, fsplit, fjoin, suffices, done}
use types.Match.{live}
use types.Part.{whole, sub, agg}
use types.Run.{stop, fld, lit, no_more, and_then, of_opd, first, branches, exec, returns, enter}
use types.ByLocal.{alloc_all, pass_all, free_all, look_at, get, get_in, sets, sets_last, env}
use denote.Exit.{yes}
use denote.RattleType.{RattleType}
use denote.RawPtr.{Ptr, block_ptr, null_ptr}
use denote.Steps.{nothing}
use Rattle.std.proofs.raw_atomic.Walks.{proved_at}
use denote.Triple.Walked.{says, Stays, stay_dropped, walk_of, ends_at, Goes-dropped}
use Rattle.std.proofs.Common.{lit<}
use Rattle.std.proofs.cell.Inside.{Good}
use denote.Param.{layout}
use Rattle.std.proofs.alloc.Calls.{token, handle_tells}
use Rattle.std.proofs.alloc.Shapes.{after}
use Rattle.std.proofs.option.Made.{Some-of, none_of}
use Rattle.std.specs.Box.Ownership.{box_owns}
use Rattle.std.specs.Prelude.{Some, None}
use Rattle.std.specs.Global.{Global}
use Rattle.std_alloc.proofs.ResultValues.{and_tt}
use Rattle.std_alloc.proofs.BoxSteps.Form.{D, R, word, box_typed}
use Rattle.std_alloc.proofs.BoxSteps.Steps.{box_in}
use Rattle.std.specs.contracts.option.Option as option
use Rattle.std_heap.specs.contracts.Global as Heap
use Rattle.route_book_c.specs.Held.{Kept}
use Rattle.route_book_c.proofs.Values.{ptr_typed, holder_val, holder_told, holder_typed}
use Rattle.route_book_c.proofs.AsBox.{E, RawRow, FromHolder, FromHeap}
use Rattle.route_book_c.specs.contracts.holder.Holder as Holder
use Rattle.route_book_c.specs.contracts.holder.Holder.into_raw as F
use Rattle.route_book_c.specs.contracts.holder.Holder.into_raw.Key.{name as #self}
use Rattle.route_book_c.proofs.holder.Holder.into_raw.Statement as stated
use Rattle.route_book_c.proofs.holder.Holder.into_raw.Code as code

abbrev stayed : Stays (F.ended).signature.params (F.ended).kept
stayed = (stay_dropped FromHolder yes, (stay_dropped FromHeap yes, tt))

module _ {M : Type 1} {𝓤 : Ura M} (𝓛 : Logic 𝓤) (at_mem : Memory → SProp 𝓤) (run : Routine → Fun 𝓤)
    (C : Calls 𝓤 𝓛.H) (Λ : Loops 𝓤 𝓛.H) where
  open 𝓛 use {H}

  abbrev Z : Type 0
  Z = (walk_of 𝓛 F.ended stayed (F.clauses 𝓛 at_mem run)).Ghost

  abbrev Out : RattleType
  Out = option.the_row RawRow

  walk : (p : Ptr) (m : Bool) (k : Kept) (a : Global) (us vs : List Val) → us ≡ holder_val p m ∷ []
      → let z : Z = (
        (
          tt,
          tt,
          tt,
          (record { at = p; is_made = m; kept = k }, (a, tt)),
          (
            us,
            (
              vs,
              tt,
            ),
          ),
        ),
        tt,
      ) in
      ent 𝓤 ((walk_of 𝓛 F.ended stayed (F.clauses 𝓛 at_mem run)).pre z) (WpFn 𝓤 H C Λ code.function
      (us ++ (vs ++ [])) ((walk_of 𝓛 F.ended stayed (F.clauses 𝓛 at_mem run)).post z))
  walk p true None a us vs told =
      let h : (Holder.the_row).Denot = record { at = p; is_made = true; kept = None } in
      qed 𝓛 ((‵ ftrue ⊛ ‵ (fsep ((Holder.the_row).own_val h us) (fsep ((Heap.the_row).own_val a vs)
      ftrue))) ∷ raw (emp 𝓤) ∷ []) ∵ split ! $ drop ! $ fsplit ! $ fsplit ! $ drop ! $
      keep ! (0 ∷ []) $ by ! (never_e 𝓤 _)
  walk p false (Some x) a us vs told =
      let h : (Holder.the_row).Denot = record { at = p; is_made = false; kept = Some x } in
      qed 𝓛 ((‵ ftrue ⊛ ‵ (fsep ((Holder.the_row).own_val h us) (fsep ((Heap.the_row).own_val a vs)
      ftrue))) ∷ raw (emp 𝓤) ∷ []) ∵ split ! $ drop ! $ fsplit ! $ fsplit ! $ drop ! $
      keep ! (0 ∷ []) $ by ! (never_e 𝓤 _)
  walk null_ptr true (Some x) a us vs told =
      let h : (Holder.the_row).Denot = record { at = null_ptr; is_made = true; kept = Some x } in
      qed 𝓛 ((‵ ftrue ⊛ ‵ (fsep ((Holder.the_row).own_val h us) (fsep ((Heap.the_row).own_val a vs)
      ftrue))) ∷ raw (emp 𝓤) ∷ []) ∵ split ! $ drop ! $ fsplit ! $ fsplit ! $ drop ! $ fsplit ! $
      keep ! (0 ∷ []) $ by ! (never_e 𝓤 _)
  walk p false None a us vs told =
      let h : (Holder.the_row).Denot = record { at = p; is_made = false; kept = None } in
      let z : Z = ((tt, tt, tt, (h, (a, tt)), (us, (vs, tt))), tt) in
      let Post = (walk_of 𝓛 F.ended stayed (F.clauses 𝓛 at_mem run)).post z in
      let fn = code.function in
      let typed : Good (layout Out) (live 0 vnil) = (tt, (record { fits = lit< tt }, tt)) in
      qed 𝓛 ((‵ ftrue ⊛ ‵ (fsep ((Holder.the_row).own_val h us) (fsep ((Heap.the_row).own_val a vs)
      ftrue))) ∷ raw (emp 𝓤) ∷ []) ∵ split ! $ drop ! $ fsplit ! $ fsplit ! $ drop ! $ drop ! $
      fsplit ! $
      handle_tells E.al ! a vs (λ hv ea fa. drop ! $ drop ! $ drop ! $
      regoal ! (λ (ws : List Val). prop (WpFn 𝓤 H C Λ fn ws Post)) (λ i. told i ++ (ea i ++ []))
      refl $
      enter ! C Λ fn (holder_val p false ∷ hv ∷ []) Post $ alloc_all ! (λ ls. pass_all ! refl
      (holder_typed p false, (fa, tt)) $ let Ev : Env 𝓤 H = env fn.locals ls in
      sets ! (of_opd ! (get_in ! (fld ! refl (stop !)) (sub ! 0 refl (whole !)))) refl (ptr_typed
      p) $ sets ! (of_opd ! (get_in ! (fld ! refl (stop !)) (sub ! 1 refl (whole !)))) refl (
        tt,
        tt,
      ) $
      sets ! (of_opd ! (get ! refl)) refl (tt, tt) $
      first ! $ branches ! (get ! refl)
      (λ no. absurd no)
      (λ _. sets_last ! (agg ! (and_then ! (lit ! tt) (no_more !))) refl typed $
      exec ! C Λ Ev (after 4 fn.body) (at_ret Ev Post) $
      sets ! (of_opd ! (get ! refl)) refl typed $ returns ! (look_at ! 0 refl) $ free_all ! refl $
      use0 𝓛 (‵ (Out.own_val None (live 0 vnil ∷ []))) (none_of 𝓛 RawRow) $
      suffices ! _ (ends_at 𝓛 F.ended stayed (F.clauses 𝓛 at_mem run) z (live 0 vnil) None (
        tt,
        (tt, tt),
      ) (tt, (tt, tt))) $ says ! refl $
      nothing ! $ nothing ! $ fjoin ! $ nothing ! $ fjoin ! $ join ! $ nothing ! $ join ! $
      done !)))
  walk (block_ptr b o) true (Some x) a us vs told =
      let p = block_ptr b o in
      let h : (Holder.the_row).Denot = record { at = p; is_made = true; kept = Some x } in
      let z : Z = ((tt, tt, tt, (h, (a, tt)), (us, (vs, tt))), tt) in
      let Post = (walk_of 𝓛 F.ended stayed (F.clauses 𝓛 at_mem run)).post z in
      let fn = code.function in
      let d : D E = record { ptr = p; alloc = a; value = x } in
      let made : RawRow.Denot = record { ptr = p; alloc = a; value = x } in
      qed 𝓛 ((‵ ftrue ⊛ ‵ (fsep ((Holder.the_row).own_val h us) (fsep ((Heap.the_row).own_val a vs)
      ftrue))) ∷ raw (emp 𝓤) ∷ []) ∵ split ! $ drop ! $ fsplit ! $ fsplit ! $ drop ! $
      move ! (1 ∷ []) $ fsplit ! $
      handle_tells E.al ! a vs (λ hv ea fa. move ! (1 ∷ []) $ drop ! $ move ! (2 ∷ []) $ drop ! $
      -- [the handle of the heap; what the box owned]
      let w = word E hv b o in
      let good = box_typed E hv b o fa in
      let typed : Good (layout Out) (live 1 (vcons w vnil)) = (
        and_tt _ (good.0),
        (
          record {
            fits =
                lit< tt;
          },
          (good.1, tt),
        ),
      ) in
      regoal ! (λ (ws : List Val). prop (WpFn 𝓤 H C Λ fn ws Post)) (λ i. told i ++ (ea i ++ []))
      refl $
      enter ! C Λ fn (holder_val p true ∷ hv ∷ []) Post $ alloc_all ! (λ ls. pass_all ! refl
      (holder_typed p true, (fa, tt)) $ let Ev : Env 𝓤 H = env fn.locals ls in
      sets ! (of_opd ! (get_in ! (fld ! refl (stop !)) (sub ! 0 refl (whole !)))) refl (tt, tt) $
      sets ! (of_opd ! (get_in ! (fld ! refl (stop !)) (sub ! 1 refl (whole !)))) refl (tt, tt) $
      sets ! (of_opd ! (get ! refl)) refl (tt, tt) $
      first ! $ branches ! (get ! refl)
      (λ _. sets ! (agg ! (and_then ! (get ! refl) (and_then ! (get ! refl) (no_more !)))) refl
      good $
      sets_last ! (agg ! (and_then ! (lit ! tt) (and_then ! (get ! refl) (no_more !)))) refl typed
      $ exec ! C Λ Ev (after 4 fn.body) (at_ret Ev Post) $
      sets ! (of_opd ! (get ! refl)) refl typed $ returns ! (look_at ! 0 refl) $ free_all ! refl $
      move ! (1 ∷ []) $ use1 𝓛 (‵ (box_owns (token E.al a) (R E) p x)) (id⊢ 𝓤 _) $ fsplit ! $
      box_in E ! d b o x refl refl $
      use1 𝓛 (‵ (RawRow.own_val made (w ∷ []))) (id⊢ 𝓤 _) $ use1 𝓛 (‵ (Out.own_val (Some made)
      (live 1 (vcons w vnil) ∷ []))) (Some-of 𝓛 RawRow made w) $
      suffices ! _ (ends_at 𝓛 F.ended stayed (F.clauses 𝓛 at_mem run) z (live 1 (vcons w vnil))
      (Some made) (tt, (tt, tt)) (tt, (tt, tt))) $ says ! refl $
      nothing ! $ nothing ! $ fjoin ! $ nothing ! $ fjoin ! $ join ! $ nothing ! $ join ! $ done !)
      (λ no. absurd no)))

pub into_raw_spec : {M : Type 1} → stated.statement M
into_raw_spec 𝓤 𝓛 𝓜 𝓡 wired =
    proved_at 𝓛 F.ended stayed (F.clauses 𝓛 𝓜.mem 𝓡.returns) 𝓜 𝓡 (
      Goes-dropped 𝓛 0 FromHolder yes
          (λ κs x f. refl),
      (Goes-dropped 𝓛 0 FromHeap yes (λ κs x f. refl), tt),
    ) #self code.function
    (code.unfolded 𝓤 𝓛.H 𝓜 𝓡 wired) (λ z are.
    let h = z.0.3.0 in
    walk 𝓛 𝓜.mem 𝓡.returns (tables 𝓤 𝓛.H 𝓜 𝓡 𝓡.env).C (tables 𝓤 𝓛.H 𝓜 𝓡 𝓡.env).Λ h.at h.is_made
    h.kept z.0.3.1.0 z.0.4.0 z.0.4.1.0 (holder_told h.at h.is_made z.0.4.0 are.0.0))
