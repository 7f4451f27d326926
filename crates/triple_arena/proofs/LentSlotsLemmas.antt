-- A loan of slots is made a loan of their values, which what held the slots follows. Assumes
-- `Logic`.
--     after_then      a part of the part
-- starts a `&mut` to slots is made a loan of their values, under a name whose values are of any
-- type D that has such values, `pick`, and gives them, `put`
use mathlib.Core.Path.{◌≡◌, refl, ap, sym, ◌∙◌}
use Prim.Native.Nat.{ℕ, suc}
use mathlib.Core.List.{List, [], ◌∷◌}
use lib.ListN.{length}
use seplogic.Ra.Ura.{Ura}
use base.Stored.{Coded, Gv, coded_list}
use base.Logic.{ent, sep, emp, wand, all}
use contract.Conj
use base.Fml.{Lft, GName, Share, Fml, fsep, feq, fex, flft, fobs, fauth, fres, fbor}
use types.Logic.{Logic, sem}
use types.Kit.{Item, ‵, raw, ◌⊛◌, some, later, mean, ◌$◌, ◌∵◌, !, qed, by, move, keep, use1, use2}
use types.Kit.{split, split3, pick, await, group, rewrite, each, assume, fsplit, fjoin, fpick}
use types.Kit.{fpack, feq_i, feq_l, done, updating, show, now as at_once}
use types.SemTy.{SemTy, Arr, Body as Borrowed}
use types.Mut.{open_ref}
use types.Follow.{after, takes_part, followed, came}
use denote.RattleType.{RattleType}
use denote.Memory.{mem}
use denote.Steps.{nothing}
use Rattle.std.specs.contracts.option.Option.{the_row as option_row}
use Rattle.std.specs.declared.option.Option.{Option}
use Rattle.triple_arena.specs.LentSlots.{Row, refilled, unwritten}

pub length-refilled : {T E : Type 0} (with : E → T → E) (xs : List E) (ws : List (Option T)) →
    length (refilled with xs ws) ≡ length xs
length-refilled with [] ws = refl
length-refilled with (x ∷ xs) [] = ap (λ (n : ℕ). suc n) (length-refilled with xs [])
length-refilled with (x ∷ xs) (w ∷ ws) = ap (λ (n : ℕ). suc n) (length-refilled with xs ws)

pub refilled-unwritten : {T E : Type 0} (with : E → T → E) (xs : List E) →
    refilled with xs (unwritten xs) ≡ xs
refilled-unwritten with [] = refl
refilled-unwritten with (x ∷ xs) = ap (λ (ys : List _). x ∷ ys) (refilled-unwritten with xs)

module _ {M : Type 1} {𝓤 : Ura M} (𝓛 : Logic 𝓤) (R T U : SemTy) (F : T.rep → R.rep) (G : U.rep →
    T.rep) (γ γ' γ'' : GName) where
  open 𝓛 use {A}

  pub after_then : ent 𝓤 (sep 𝓤 (sem 𝓛 (after R T γ γ' F)) (sem 𝓛 (after T U γ' γ'' G)))
      (sem 𝓛 (after R U γ γ'' (λ w. F (G w))))
  after_then =
      let From : R.rep → U.rep → Fml = λ z w. fsep (feq R.rep z (F (G w)))
      (fauth γ'' (U.coded.code w)) in
      let said = qed 𝓛 (‵ (after R T γ γ' F) ∷ ‵ (after T U γ' γ'' G) ∷ []) ∵
      each ! (λ (w : U.rep). wand 𝓤 (A.res γ'' (U.coded.code w))
      (A.res γ (R.coded.code (F (G w))))) (λ w. assume ! (‵ (fres γ'' (U.coded.code w))) $
      move ! (2 ∷ 0 ∷ []) $ use2 𝓛 (‵ (fres γ' (T.coded.code (G w)))) (followed 𝓛 T U G γ' γ'' w) $
      move ! (1 ∷ 0 ∷ []) $ by ! (followed 𝓛 R T F γ γ' (G w))) in
      let back = qed 𝓛 (‵ (after R T γ γ' F) ∷ ‵ (after T U γ' γ'' G) ∷ []) ∵
      each ! (λ (z : R.rep). wand 𝓤 (A.auth γ (R.coded.code z)) (sem 𝓛 (fex U.rep (From z))))
      (λ z. assume ! (‵ (fauth γ (R.coded.code z))) $
      use2 𝓛 (‵ (fex T.rep (λ y. fsep (feq R.rep z (F y)) (fauth γ' (T.coded.code y)))))
      (came 𝓛 R T F γ γ' z) $ fpick ! (λ y. fsplit ! $ feq_l ! (λ e.
      use2 𝓛 (‵ (fex U.rep (λ w. fsep (feq T.rep y (G w)) (fauth γ'' (U.coded.code w)))))
      (came 𝓛 T U G γ' γ'' y) $ fpick ! (λ w. fsplit ! $ feq_l ! (λ e'.
      feq_i ! R.rep z (F (G w)) (e ∙ ap F e') $ fjoin ! $ fpack ! U.rep (From z) w $ done !))))) in
      contract.Conj.conj_i 𝓤
      (all 𝓤 (λ (w : U.rep). wand 𝓤 (A.res γ'' (U.coded.code w))
      (A.res γ (R.coded.code (F (G w))))))
      (all 𝓤 (λ (z : R.rep). wand 𝓤 (A.auth γ (R.coded.code z)) (sem 𝓛 (fex U.rep (From z)))))
      said back

module _ (T E : RattleType) (with : E.Denot → T.Denot → E.Denot) (D : Type 0) (cD : Coded D)
    (pick' : D → List (Option T.Denot)) (put : List (Option T.Denot) → D)
    (picks : (ws : List (Option T.Denot)) → pick' (put ws) ≡ ws) where
  -- the values of slots, as those of a D
  abbrev pub RowOf : List E.Denot → SemTy
  RowOf xs = record {
    rep = D;
    coded = cD;
    size = 0;
    own_at = λ w b o. (Row T E with xs).own_at
        (pick' w) b o;
  }

  module _ {M : Type 1} {𝓤 : Ura M} (𝓛 : Logic 𝓤) (κ : Lft) (q : Share) (b o : ℕ) (δ : GName)
      (xs : List E.Denot) where
    open 𝓛 use {H, A}

    abbrev S : SemTy
    S = Arr (mem E) (length xs)

    abbrev W : SemTy
    W = RowOf xs

    abbrev L : SemTy
    L = Row T E with xs

    abbrev us : List (Option T.Denot)
    us = unwritten xs

    abbrev cs : List E.Denot → Gv
    cs = (coded_list E.coded).code

    abbrev cl : List (Option T.Denot) → Gv
    cl = (coded_list (option_row T).coded).code

    abbrev fill : D → List E.Denot
    fill w = refilled with xs (pick' w)

    abbrev pub Started : GName × GName → Item 𝓤
    Started γs = ‵ (after S W δ γs.0 fill) ⊛ ‵ (fobs γs.1 (cl us)) ⊛
        ‵ (fbor κ (Borrowed L b o γs.1)) ⊛ ‵ (flft κ q)

    pub starts : ent 𝓤 (sep 𝓤 (A.obs δ (cs xs)) (sep 𝓤 (A.bor κ (Borrowed S b o δ)) (A.lft κ q)))
        (H.⇛ (mean 𝓛 (some Started)))
    starts =
        let w₀ : D = put us in
        let is : xs ≡ refilled with xs (pick' w₀) = sym (refilled-unwritten with xs) ∙
        ap (λ (ws : List (Option T.Denot)). refilled with xs ws) (sym (picks us)) in
        qed 𝓛 (‵ (fobs δ (cs xs)) ∷ ‵ (fbor κ (Borrowed S b o δ)) ∷ ‵ (flft κ q) ∷ []) ∵
        updating ! $
        open_ref ! tt S {x = xs} {b = b} {o = o} $
        rewrite ! 0 (λ (ys : List E.Denot). ‵ (S.own_at ys b o)) is refl $
        nothing ! $ move ! (2 ∷ 3 ∷ 4 ∷ 1 ∷ 0 ∷ []) $ group ! 5 $
        use1 𝓛
        (later (some (λ (τ : GName). ‵ (fobs τ (cD.code w₀)) ⊛ ‵ (fbor κ (Borrowed W b o τ)) ⊛
        ‵ (flft κ q) ⊛ ‵ (after S W δ τ fill))))
        (takes_part 𝓛 S W fill κ q b o b o δ (emp 𝓤) (λ w. qed 𝓛 (‵ (W.own_at w b o) ∷ raw (emp 𝓤) ∷
        []) ∵ keep ! (0 ∷ []) $ done !) (cs xs) (cs xs) w₀) $ await ! tt $
        pick ! (λ τ. split3 ! $ move ! (2 ∷ []) $ split ! $
        -- [the token; after; obs τ; its borrow]
        move ! (2 ∷ 3 ∷ 0 ∷ []) $ open_ref ! tt W {x = w₀} {b = b} {o = o} $
        rewrite ! 0 (λ (ws : List (Option T.Denot)). ‵ (L.own_at ws b o)) (picks us) refl $
        nothing ! $ move ! (2 ∷ 3 ∷ 4 ∷ 1 ∷ 0 ∷ []) $ group ! 5 $
        use1 𝓛
        (later (some (λ (ν : GName). ‵ (fobs ν (cl us)) ⊛ ‵ (fbor κ (Borrowed L b o ν)) ⊛
        ‵ (flft κ q) ⊛ ‵ (after W L τ ν put))))
        (takes_part 𝓛 W L put κ q b o b o τ (emp 𝓤) (λ ws. qed 𝓛 (‵ (L.own_at ws b o) ∷ raw (emp 𝓤)
        ∷ []) ∵ rewrite ! 0 (λ (vs : List (Option T.Denot)). ‵ (L.own_at vs b o))
        (sym (picks ws)) refl $ keep ! (0 ∷ []) $ done !) (cD.code w₀) (cD.code w₀) us) $
        await ! tt $ pick ! (λ ν. split3 ! $ move ! (2 ∷ []) $ split ! $
        at_once ! $ show ! (λ (γs : GName × GName). mean 𝓛 (Started γs)) (τ, ν) $
        keep ! (4 ∷ 2 ∷ 3 ∷ 0 ∷ []) $ done !))
