-- Two parts of a whole are lent, and the whole's name follows theirs, both ways
-- (`specs/BothWays.antt`). Assumes `Logic`.
--     takes_two_ways      `Types/Follow.antt`'s `takes_two`, which keeps the way back
--     ways_then, ways_parts      two parts of a part;  a part of each of the two
--     closes_both      `closes_following`, where the call lent two parts
use mathlib.Core.Path.{◌≡◌, ap, ap₂, refl, ◌∙◌}
use base.Logic.{
  guard,
  mono_r,
  mono_l,
  SProp,
  ent,
  sep,
  wand,
  ex,
  all,
  id⊢,
  via,
  comm∗,
  apply∗,
  all_e,
  upd_i,
  emp,
  wand_i,
  snd∗,
}
use base.Fml.{fex, feq, Lft, GName, Share, Fml, ftrue, fsep, fwand, fupd, fdead, fobs, fauth, fres}
use base.Fml.{fbor, fobor, fseps, flent, flft}
use contract.Conj.{conj, conj_i, conj_l, conj_r}
use types.Kit.{some, given, learn, pick, feq_i, ‵, raw, ◌⊛◌, later, ◌$◌, ◌∵◌, !, qed, by, move}
use types.Kit.{keep, use0, use1, use2, use3, drop, split, split3, join, each, fsplit, fsplit3}
use types.Kit.{fjoin, fjoin3, fpick, fpack, suffices, updating, await, now, assume, show, done}
use types.Kit.{feq_l, rewrite, group}
use Prim.Native.Nat.{ℕ}
use mathlib.Core.List.{List, [], ◌∷◌}
use seplogic.Ra.Ura.{Ura}
use base.Stored.{Gv}
use ghost.Rules.{aged}
use types.Logic.{Logic, sem}
use types.Late.{deep, close_deep}
use types.Tokens.{name_new, obor_alter}
use types.SemTy.{SemTy, Body}
use types.Follow.{after, followed, came, Came}
use denote.Follow.{both_by, follows_both}
use denote.Memory.{mem}
use denote.RattleType.{RattleType}
use Rattle.triple_arena.specs.BothWays.{after_ways}

module _ {M : Type 1} {𝓤 : Ura M} (𝓛 : Logic 𝓤) (R T U : SemTy) (F : T.rep → U.rep → R.rep) where
  open 𝓛 use {H, A}

  abbrev Both : Type 0
  Both = T.rep × U.rep

  abbrev Says : GName → GName → GName → SProp 𝓤
  Says γ γ₁ γ₂ =
      all 𝓤
      (λ (w : Both). wand 𝓤 (sep 𝓤 (A.res γ₁ (T.coded.code w.0)) (A.res γ₂ (U.coded.code w.1)))
      (A.res γ (R.coded.code (F w.0 w.1))))

  abbrev From : GName → GName → Gv → Both → SProp 𝓤
  From γ₁ γ₂ g w = guard 𝓤 (g ≡ R.coded.code (F w.0 w.1))
      (sep 𝓤 (A.auth γ₁ (T.coded.code w.0)) (A.auth γ₂ (U.coded.code w.1)))

  abbrev Comes : GName → GName → GName → SProp 𝓤
  Comes γ γ₁ γ₂ = all 𝓤 (λ (g : Gv). wand 𝓤 (A.auth γ g) (ex 𝓤 (From γ₁ γ₂ g)))

  abbrev pub Turns₂ : GName → GName → GName → SProp 𝓤
  Turns₂ γ γ₁ γ₂ =
      all 𝓤
      (λ (w : Both). wand 𝓤 (sep 𝓤 (A.auth γ₁ (T.coded.code w.0)) (A.auth γ₂ (U.coded.code w.1)))
      (A.auth γ (R.coded.code (F w.0 w.1))))

  abbrev pub Came₂ : GName → GName → R.rep → Both → Fml
  Came₂ γ₁ γ₂ z w =
      fsep (feq R.rep z (F w.0 w.1))
      (fsep (fauth γ₁ (T.coded.code w.0)) (fauth γ₂ (U.coded.code w.1)))

  abbrev Back₂ : GName → GName → GName → SProp 𝓤
  Back₂ γ γ₁ γ₂ =
      all 𝓤 (λ (z : R.rep). wand 𝓤 (A.auth γ (R.coded.code z)) (sem 𝓛 (fex Both (Came₂ γ₁ γ₂ z))))

  coded₂ : (γ γ₁ γ₂ : GName) → ent 𝓤 (Comes γ γ₁ γ₂) (Back₂ γ γ₁ γ₂)
  coded₂ γ γ₁ γ₂ = qed 𝓛 (raw (Comes γ γ₁ γ₂) ∷ []) ∵
      each ! (λ (z : R.rep). wand 𝓤 (A.auth γ (R.coded.code z)) (sem 𝓛 (fex Both (Came₂ γ₁ γ₂ z))))
      (λ z.
      use1 𝓛 (raw (wand 𝓤 (A.auth γ (R.coded.code z)) (ex 𝓤 (From γ₁ γ₂ (R.coded.code z)))))
      (all_e 𝓤 (λ (y : Gv). wand 𝓤 (A.auth γ y) (ex 𝓤 (From γ₁ γ₂ y))) (R.coded.code z)) $
      assume ! (‵ (fauth γ (R.coded.code z))) $
      use2 𝓛
      (some (λ (w : Both). given (R.coded.code z ≡ R.coded.code (F w.0 w.1))
      (‵ (fauth γ₁ (T.coded.code w.0)) ⊛ ‵ (fauth γ₂ (U.coded.code w.1)))))
      (apply∗ 𝓤 (A.auth γ (R.coded.code z)) (ex 𝓤 (From γ₁ γ₂ (R.coded.code z)))) $
      pick ! (λ w. learn ! (λ e. split ! $ fjoin ! $
      feq_i ! R.rep z (F w.0 w.1) (R.coded.inj z (F w.0 w.1) e) $ fjoin ! $
      fpack ! Both (Came₂ γ₁ γ₂ z) w $ done !)))

  made₂ : (γ γ₁ γ₂ : GName) → ent 𝓤 (conj 𝓤 (Says γ γ₁ γ₂) (Comes γ γ₁ γ₂))
      (sem 𝓛 (after_ways R T U γ γ₁ γ₂ F))
  made₂ γ γ₁ γ₂ = conj_i 𝓤 (Says γ γ₁ γ₂) (Back₂ γ γ₁ γ₂) (conj_l 𝓤 (Says γ γ₁ γ₂) (Comes γ γ₁ γ₂))
      (via 𝓤 (Comes γ γ₁ γ₂) (conj_r 𝓤 (Says γ γ₁ γ₂) (Comes γ γ₁ γ₂)) (coded₂ γ γ₁ γ₂))

  pub ways_anew : (γ γ₁ γ₂ : GName) (u v : Gv) → ent 𝓤 (sep 𝓤 (A.obs γ u) (A.auth γ v))
      (H.⇛ (sep 𝓤 (sem 𝓛 (after_ways R T U γ γ₁ γ₂ F)) (Turns₂ γ γ₁ γ₂)))
  ways_anew γ γ₁ γ₂ u v = qed 𝓛 (‵ (fobs γ u) ∷ ‵ (fauth γ v) ∷ []) ∵ updating ! $
      use2 𝓛 (later (raw (conj 𝓤 (Says γ γ₁ γ₂) (Comes γ γ₁ γ₂)) ⊛ raw (Turns₂ γ γ₁ γ₂)))
      (𝓛.names.name_follow γ γ₁ γ₂ Both (λ w. T.coded.code w.0) (λ w. U.coded.code w.1)
      (λ w. R.coded.code (F w.0 w.1)) (λ s t e e'. ap₂ (λ x₁ x₂. R.coded.code (F x₁ x₂))
      (T.coded.inj s.0 t.0 e) (U.coded.inj s.1 t.1 e')) u v) $ await ! tt $ split ! $
      use1 𝓛 (‵ (after_ways R T U γ γ₁ γ₂ F)) (made₂ γ γ₁ γ₂) $ now ! $ done !

  pub said₂ : (γ γ₁ γ₂ : GName) (w : Both) →
      ent 𝓤 (sep 𝓤 (sem 𝓛 (after_ways R T U γ γ₁ γ₂ F))
      (sep 𝓤 (A.res γ₁ (T.coded.code w.0)) (A.res γ₂ (U.coded.code w.1))))
      (A.res γ (R.coded.code (F w.0 w.1)))
  said₂ γ γ₁ γ₂ w =
      let P : SProp 𝓤 = sep 𝓤 (A.res γ₁ (T.coded.code w.0)) (A.res γ₂ (U.coded.code w.1)) in
      let Q : SProp 𝓤 = A.res γ (R.coded.code (F w.0 w.1)) in
      via 𝓤 (sep 𝓤 (wand 𝓤 P Q) P)
      (mono_l 𝓤 P (via 𝓤 (Says γ γ₁ γ₂) (conj_l 𝓤 (Says γ γ₁ γ₂) (Back₂ γ γ₁ γ₂))
      (all_e 𝓤
      (λ (z : Both). wand 𝓤 (sep 𝓤 (A.res γ₁ (T.coded.code z.0)) (A.res γ₂ (U.coded.code z.1)))
      (A.res γ (R.coded.code (F z.0 z.1)))) w)))
      (via 𝓤 (sep 𝓤 P (wand 𝓤 P Q)) (comm∗ 𝓤 (wand 𝓤 P Q) P) (apply∗ 𝓤 P Q))

  pub came₂ : (γ γ₁ γ₂ : GName) (z : R.rep) →
      ent 𝓤 (sep 𝓤 (A.auth γ (R.coded.code z)) (sem 𝓛 (after_ways R T U γ γ₁ γ₂ F)))
      (sem 𝓛 (fex Both (Came₂ γ₁ γ₂ z)))
  came₂ γ γ₁ γ₂ z =
      via 𝓤 _
      (mono_r 𝓤 (A.auth γ (R.coded.code z))
      (via 𝓤 (Back₂ γ γ₁ γ₂) (conj_r 𝓤 (Says γ γ₁ γ₂) (Back₂ γ γ₁ γ₂))
      (all_e 𝓤 (λ (y : R.rep). wand 𝓤 (A.auth γ (R.coded.code y))
      (sem 𝓛 (fex Both (Came₂ γ₁ γ₂ y)))) z)))
      (apply∗ 𝓤 (A.auth γ (R.coded.code z)) (sem 𝓛 (fex Both (Came₂ γ₁ γ₂ z))))

  module _ (κ : Lft) (q : Share) (b o b₁ o₁ b₂ o₂ : ℕ) (γ : GName) (Rest : SProp 𝓤)
      (back : (w₁ : T.rep) (w₂ : U.rep) →
      ent 𝓤 (sep 𝓤 (sem 𝓛 (T.own_at w₁ b₁ o₁)) (sep 𝓤 (sem 𝓛 (U.own_at w₂ b₂ o₂)) Rest))
      (sem 𝓛 (R.own_at (F w₁ w₂) b o))) where
    abbrev Cut : GName → GName → List Fml
    Cut γ₁ γ₂ = Body T b₁ o₁ γ₁ ∷ Body U b₂ o₂ γ₂ ∷ []

    way_back₂ : (γ₁ γ₂ : GName) → ent 𝓤 (sep 𝓤 Rest (Turns₂ γ γ₁ γ₂))
        (sem 𝓛 (fwand (fsep (fdead κ) (fseps (Cut γ₁ γ₂))) (fupd (Body R b o γ))))
    unfolding fseps
    way_back₂ γ₁ γ₂ =
        qed 𝓛 (raw Rest ∷ raw (Turns₂ γ γ₁ γ₂) ∷ []) ∵
        assume ! (‵ (fsep (fdead κ) (fseps (Cut γ₁ γ₂)))) $
        suffices ! (sem 𝓛 (Body R b o γ)) (upd_i 𝓤 (sem 𝓛 (Body R b o γ))) $
        fsplit ! $ drop ! $ fsplit3 ! $ fpick ! (λ w₁. fsplit ! $ move ! (2 ∷ []) $
        fpick ! (λ w₂. fsplit ! $
        move ! (0 ∷ 5 ∷ []) $ join ! $ move ! (2 ∷ 0 ∷ []) $ use2 𝓛 (‵ (R.own_at (F w₁ w₂) b o))
        (back w₁ w₂) $ move ! (4 ∷ []) $
        use1 𝓛 (raw (wand 𝓤 (sep 𝓤 (A.auth γ₁ (T.coded.code w₁)) (A.auth γ₂ (U.coded.code w₂)))
        (A.auth γ (R.coded.code (F w₁ w₂)))))
        (all_e 𝓤
        (λ (w : Both). wand 𝓤
        (sep 𝓤 (A.auth γ₁ (T.coded.code w.0)) (A.auth γ₂ (U.coded.code w.1)))
        (A.auth γ (R.coded.code (F w.0 w.1)))) (w₁, w₂)) $
        move ! (3 ∷ 2 ∷ []) $ join ! $ use2 𝓛 (‵ (fauth γ (R.coded.code (F w₁ w₂))))
        (apply∗ 𝓤 (sep 𝓤 (A.auth γ₁ (T.coded.code w₁)) (A.auth γ₂ (U.coded.code w₂)))
        (A.auth γ (R.coded.code (F w₁ w₂)))) $
        move ! (1 ∷ 0 ∷ []) $ fjoin ! $
        fpack ! R.rep (λ z. fsep (R.own_at z b o) (fauth γ (R.coded.code z))) (F w₁ w₂) $
        keep ! (0 ∷ []) $ done !))

    abbrev pub TookWays : T.rep → U.rep → GName × GName → SProp 𝓤
    TookWays y z γs = sep 𝓤 (sep 𝓤 (A.obs γs.0 (T.coded.code y)) (A.bor κ (Body T b₁ o₁ γs.0)))
        (sep 𝓤 (sep 𝓤 (A.obs γs.1 (U.coded.code z)) (A.bor κ (Body U b₂ o₂ γs.1)))
        (sep 𝓤 (A.lft κ q) (sem 𝓛 (after_ways R T U γ γs.0 γs.1 F))))

    pub takes_two_ways : (u v : Gv) (y : T.rep) (z : U.rep)
        → ent 𝓤
        (sep 𝓤 (A.obor κ q (Body R b o γ))
        (sep 𝓤 (A.obs γ u)
        (sep 𝓤 (A.auth γ v)
        (sep 𝓤 (sem 𝓛 (T.own_at y b₁ o₁)) (sep 𝓤 (sem 𝓛 (U.own_at z b₂ o₂)) Rest)))))
        (H.⇛ (ex 𝓤 (TookWays y z)))
    unfolding fseps
    takes_two_ways u v y z =
        qed 𝓛 (‵ (fobor κ q (Body R b o γ)) ∷ ‵ (fobs γ u) ∷ ‵ (fauth γ v) ∷ ‵ (T.own_at y b₁ o₁) ∷
        ‵ (U.own_at z b₂ o₂) ∷ raw Rest ∷ []) ∵ updating ! $
        name_new ! tt (U.coded.code z)
        (λ γ₂. name_new ! tt (T.coded.code y) (λ γ₁. move ! (5 ∷ 6 ∷ []) $
        use2 𝓛 (later (‵ (after_ways R T U γ γ₁ γ₂ F) ⊛ raw (Turns₂ γ γ₁ γ₂)))
        (ways_anew γ γ₁ γ₂ u v) $ await ! tt $ split ! $
        -- [after; the way of the names; obs γ₁; auth γ₁; obs γ₂; auth γ₂; the open borrow; the
        -- first part; the second; the rest]
        move ! (9 ∷ 1 ∷ []) $
        use2 𝓛 (‵ (fwand (fsep (fdead κ) (fseps (Cut γ₁ γ₂))) (fupd (Body R b o γ))))
        (way_back₂ γ₁ γ₂) $
        move ! (8 ∷ 5 ∷ []) $ fjoin ! $
        fpack ! U.rep (λ x. fsep (U.own_at x b₂ o₂) (fauth γ₂ (U.coded.code x))) z $
        move ! (7 ∷ 4 ∷ []) $ fjoin ! $
        fpack ! T.rep (λ x. fsep (T.own_at x b₁ o₁) (fauth γ₁ (T.coded.code x))) y $
        use0 𝓛 (‵ ftrue) (id⊢ 𝓤 (emp 𝓤)) $ move ! (1 ∷ 2 ∷ 0 ∷ []) $ fjoin3 ! $
        move ! (5 ∷ 0 ∷ 1 ∷ []) $ obor_alter ! tt (Cut γ₁ γ₂) $
        use1 𝓛 (‵ (fbor κ (Body T b₁ o₁ γ₁)) ⊛ ‵ (fbor κ (Body U b₂ o₂ γ₂)) ⊛ ‵ ftrue) (id⊢ 𝓤 _)
        $ split3 ! $
        move ! (6 ∷ 1 ∷ []) $ join ! $ move ! (5 ∷ 1 ∷ []) $ join ! $ now ! $
        show ! (TookWays y z) (γ₁, γ₂) $ keep ! (0 ∷ 1 ∷ 3 ∷ 4 ∷ []) $ done !))

-- the parts of a part
module _ {M : Type 1} {𝓤 : Ura M} (𝓛 : Logic 𝓤) (R L T U : SemTy) (G : L.rep → R.rep) (F : T.rep →
    U.rep → L.rep) (γ ρ γ₁ γ₂ : GName) where
  open 𝓛 use {A}

  abbrev FG : T.rep → U.rep → R.rep
  FG x y = G (F x y)

  abbrev Two₁ : Type 0
  Two₁ = T.rep × U.rep

  pub ways_then : ent 𝓤 (sep 𝓤 (sem 𝓛 (after R L γ ρ G)) (sem 𝓛 (after_ways L T U ρ γ₁ γ₂ F)))
      (sem 𝓛 (after_ways R T U γ γ₁ γ₂ FG))
  ways_then =
      let said = qed 𝓛 (‵ (after R L γ ρ G) ∷ ‵ (after_ways L T U ρ γ₁ γ₂ F) ∷ []) ∵
      each
      ! (λ (w : Two₁). wand 𝓤
      (sep 𝓤 (A.res γ₁ (T.coded.code w.0)) (A.res γ₂ (U.coded.code w.1)))
      (A.res γ (R.coded.code (FG w.0 w.1)))) (λ w.
      assume ! (‵ (fres γ₁ (T.coded.code w.0)) ⊛ ‵ (fres γ₂ (U.coded.code w.1))) $
      move ! (2 ∷ 0 ∷ []) $ use2 𝓛 (‵ (fres ρ (L.coded.code (F w.0 w.1))))
      (said₂ 𝓛 L T U F ρ γ₁ γ₂ w) $ move ! (1 ∷ 0 ∷ []) $
      by ! (followed 𝓛 R L G γ ρ (F w.0 w.1))) in
      let back = qed 𝓛 (‵ (after R L γ ρ G) ∷ ‵ (after_ways L T U ρ γ₁ γ₂ F) ∷ []) ∵
      each ! (λ (z : R.rep). wand 𝓤 (A.auth γ (R.coded.code z))
      (sem 𝓛 (fex Two₁ (Came₂ 𝓛 R T U FG γ₁ γ₂ z))))
      (λ z. assume ! (‵ (fauth γ (R.coded.code z))) $
      use2 𝓛 (‵ (fex L.rep (Came 𝓛 R L G ρ z))) (came 𝓛 R L G γ ρ z) $
      fpick ! (λ y. fsplit ! $ feq_l ! (λ e.
      use2 𝓛 (‵ (fex Two₁ (Came₂ 𝓛 L T U F γ₁ γ₂ y))) (came₂ 𝓛 L T U F ρ γ₁ γ₂ y) $
      fpick ! (λ w. fsplit ! $ feq_l ! (λ e'.
      feq_i ! R.rep z (FG w.0 w.1) (e ∙ ap G e') $ fjoin ! $ fpack ! Two₁ (Came₂ 𝓛 R T U FG γ₁ γ₂ z)
      w $ done !))))) in
      conj_i 𝓤
      (all 𝓤
      (λ (w : Two₁). wand 𝓤 (sep 𝓤 (A.res γ₁ (T.coded.code w.0)) (A.res γ₂ (U.coded.code w.1)))
      (A.res γ (R.coded.code (FG w.0 w.1)))))
      (all 𝓤 (λ (z : R.rep). wand 𝓤 (A.auth γ (R.coded.code z))
      (sem 𝓛 (fex Two₁ (Came₂ 𝓛 R T U FG γ₁ γ₂ z))))) said back

-- a part of each of the two
module _ {M : Type 1} {𝓤 : Ura M} (𝓛 : Logic 𝓤) (R V W T U : SemTy) (F : V.rep → W.rep → R.rep)
    (G₁ : T.rep → V.rep) (G₂ : U.rep → W.rep) (γ δ₁ δ₂ γ₁ γ₂ : GName) where
  open 𝓛 use {A}

  abbrev FGs : T.rep → U.rep → R.rep
  FGs x y = F (G₁ x) (G₂ y)

  abbrev Two₂ : Type 0
  Two₂ = T.rep × U.rep

  pub ways_parts : ent 𝓤 (sep 𝓤 (sem 𝓛 (after_ways R V W γ δ₁ δ₂ F))
      (sep 𝓤 (sem 𝓛 (after V T δ₁ γ₁ G₁)) (sem 𝓛 (after W U δ₂ γ₂ G₂))))
      (sem 𝓛 (after_ways R T U γ γ₁ γ₂ FGs))
  ways_parts =
      let said = qed 𝓛 (‵ (after_ways R V W γ δ₁ δ₂ F) ∷ ‵ (after V T δ₁ γ₁ G₁) ∷
      ‵ (after W U δ₂ γ₂ G₂) ∷ []) ∵
      each
      ! (λ (w : Two₂). wand 𝓤
      (sep 𝓤 (A.res γ₁ (T.coded.code w.0)) (A.res γ₂ (U.coded.code w.1)))
      (A.res γ (R.coded.code (FGs w.0 w.1)))) (λ w.
      assume ! (‵ (fres γ₁ (T.coded.code w.0)) ⊛ ‵ (fres γ₂ (U.coded.code w.1))) $ split ! $
      move ! (3 ∷ 0 ∷ []) $ use2 𝓛 (‵ (fres δ₁ (V.coded.code (G₁ w.0))))
      (followed 𝓛 V T G₁ δ₁ γ₁ w.0) $
      move ! (3 ∷ 1 ∷ []) $ use2 𝓛 (‵ (fres δ₂ (W.coded.code (G₂ w.1))))
      (followed 𝓛 W U G₂ δ₂ γ₂ w.1) $
      move ! (1 ∷ 0 ∷ []) $ join ! $ move ! (1 ∷ 0 ∷ []) $
      by ! (said₂ 𝓛 R V W F γ δ₁ δ₂ (G₁ w.0, G₂ w.1))) in
      let back = qed 𝓛 (‵ (after_ways R V W γ δ₁ δ₂ F) ∷ ‵ (after V T δ₁ γ₁ G₁) ∷
      ‵ (after W U δ₂ γ₂ G₂) ∷ []) ∵
      each ! (λ (z : R.rep). wand 𝓤 (A.auth γ (R.coded.code z))
      (sem 𝓛 (fex Two₂ (Came₂ 𝓛 R T U FGs γ₁ γ₂ z))))
      (λ z. assume ! (‵ (fauth γ (R.coded.code z))) $
      use2 𝓛 (‵ (fex (V.rep × W.rep) (Came₂ 𝓛 R V W F δ₁ δ₂ z))) (came₂ 𝓛 R V W F γ δ₁ δ₂ z) $
      fpick ! (λ v. fsplit ! $ feq_l ! (λ e. fsplit ! $
      -- [auth δ₁; auth δ₂; after; after]
      move ! (0 ∷ 2 ∷ []) $ use2 𝓛 (‵ (fex T.rep (Came 𝓛 V T G₁ γ₁ v.0))) (came 𝓛 V T G₁ δ₁ γ₁ v.0)
      $ fpick ! (λ x. fsplit ! $ feq_l ! (λ e₁.
      move ! (1 ∷ 2 ∷ []) $ use2 𝓛 (‵ (fex U.rep (Came 𝓛 W U G₂ γ₂ v.1))) (came 𝓛 W U G₂ δ₂ γ₂ v.1)
      $ fpick ! (λ y. fsplit ! $ feq_l ! (λ e₂.
      move ! (1 ∷ 0 ∷ []) $ fjoin ! $ feq_i ! R.rep z (FGs x y) (e ∙ ap₂ F e₁ e₂) $ fjoin ! $
      fpack ! Two₂ (Came₂ 𝓛 R T U FGs γ₁ γ₂ z) (x, y) $ done !))))))) in
      conj_i 𝓤
      (all 𝓤
      (λ (w : Two₂). wand 𝓤 (sep 𝓤 (A.res γ₁ (T.coded.code w.0)) (A.res γ₂ (U.coded.code w.1)))
      (A.res γ (R.coded.code (FGs w.0 w.1)))))
      (all 𝓤 (λ (z : R.rep). wand 𝓤 (A.auth γ (R.coded.code z))
      (sem 𝓛 (fex Two₂ (Came₂ 𝓛 R T U FGs γ₁ γ₂ z))))) said back

-- The whole stays open while a part of it, S under the name δ, is lent at κ to a call, which says
-- that δ follows γ₁ and γ₂. The whole is then closed.
module _ {M : Type 1} {𝓤 : Ura M} (𝓛 : Logic 𝓤) (R S T U : SemTy) (G : T.rep → U.rep → S.rep)
    (F : T.rep → U.rep → R.rep) (κ : Lft) (q : Share) (b o b' o' : ℕ) (γ δ γ₁ γ₂ : GName)
    (Rest : SProp 𝓤)
    (back : (x : T.rep) (y : U.rep) → ent 𝓤 (sep 𝓤 (sem 𝓛 (S.own_at (G x y) b' o')) Rest)
    (sem 𝓛 (R.own_at (F x y) b o))) where
  open 𝓛 use {H, A}

  abbrev Two₃ : Type 0
  Two₃ = T.rep × U.rep

  late_Way₂ : ent 𝓤
      (sep 𝓤 Rest (sep 𝓤 (Turns₂ 𝓛 R T U F γ γ₁ γ₂) (sem 𝓛 (after_ways S T U δ γ₁ γ₂ G))))
      (sem 𝓛 (fwand (fsep (fdead κ) (fseps (Body S b' o' δ ∷ []))) (fupd (Body R b o γ))))
  unfolding fseps
  late_Way₂ =
      qed 𝓛 (raw Rest ∷ raw (Turns₂ 𝓛 R T U F γ γ₁ γ₂) ∷ ‵ (after_ways S T U δ γ₁ γ₂ G) ∷ []) ∵
      assume ! (‵ (fsep (fdead κ) (fseps (Body S b' o' δ ∷ [])))) $
      suffices ! (sem 𝓛 (Body R b o γ)) (upd_i 𝓤 (sem 𝓛 (Body R b o γ))) $
      fsplit ! $ drop ! $ fsplit ! $ fpick ! (λ z. fsplit ! $ move ! (1 ∷ 5 ∷ []) $
      use2 𝓛 (‵ (fex Two₃ (Came₂ 𝓛 S T U G γ₁ γ₂ z))) (came₂ 𝓛 S T U G δ γ₁ γ₂ z) $
      fpick ! (λ w. fsplit ! $ feq_l ! (λ e.
      rewrite ! 1 (λ (t : S.rep). ‵ (S.own_at t b' o')) e refl $ move ! (1 ∷ 3 ∷ []) $
      use2 𝓛 (‵ (R.own_at (F w.0 w.1) b o)) (back w.0 w.1) $ move ! (3 ∷ []) $
      use1 𝓛 (raw (wand 𝓤 (sep 𝓤 (A.auth γ₁ (T.coded.code w.0)) (A.auth γ₂ (U.coded.code w.1)))
      (A.auth γ (R.coded.code (F w.0 w.1)))))
      (all_e 𝓤
      (λ (t : Two₃). wand 𝓤
      (sep 𝓤 (A.auth γ₁ (T.coded.code t.0)) (A.auth γ₂ (U.coded.code t.1)))
      (A.auth γ (R.coded.code (F t.0 t.1)))) w) $
      move ! (2 ∷ 0 ∷ []) $ use2 𝓛 (‵ (fauth γ (R.coded.code (F w.0 w.1))))
      (apply∗ 𝓤 (sep 𝓤 (A.auth γ₁ (T.coded.code w.0)) (A.auth γ₂ (U.coded.code w.1)))
      (A.auth γ (R.coded.code (F w.0 w.1)))) $
      move ! (1 ∷ 0 ∷ []) $ fjoin ! $
      fpack ! R.rep (λ t. fsep (R.own_at t b o) (fauth γ (R.coded.code t))) (F w.0 w.1) $
      keep ! (0 ∷ []) $ done !)))

  pub closes_both : (n : ℕ) (u v : Gv) →
      ent 𝓤 (sep 𝓤 (aged 𝓤 H A n κ q (Body R b o γ))
      (sep 𝓤 (A.obs γ u)
      (sep 𝓤 (A.auth γ v) (sep 𝓤 (A.lent (deep n κ) (Body S b' o' δ))
      (sep 𝓤 (sem 𝓛 (after_ways S T U δ γ₁ γ₂ G)) Rest)))))
      (H.⇛ (sep 𝓤 (A.lft κ q) (sem 𝓛 (after_ways R T U γ γ₁ γ₂ F))))
  closes_both n u v =
      qed 𝓛 (raw (aged 𝓤 H A n κ q (Body R b o γ)) ∷ ‵ (fobs γ u) ∷ ‵ (fauth γ v) ∷
      ‵ (flent (deep n κ) (Body S b' o' δ)) ∷ ‵ (after_ways S T U δ γ₁ γ₂ G) ∷ raw Rest ∷ []) ∵
      updating ! $ move ! (1 ∷ 2 ∷ []) $
      use2 𝓛 (later (‵ (after_ways R T U γ γ₁ γ₂ F) ⊛ raw (Turns₂ 𝓛 R T U F γ γ₁ γ₂)))
      (ways_anew 𝓛 R T U F γ γ₁ γ₂ u v) $ await ! tt $ split ! $ move ! (5 ∷ 1 ∷ 4 ∷ []) $
      use3 𝓛 (‵ (fwand (fsep (fdead κ) (fseps (Body S b' o' δ ∷ []))) (fupd (Body R b o γ))))
      late_Way₂ $
      use0 𝓛 (raw (wand 𝓤 (A.dead κ) (A.dead κ)))
      (wand_i 𝓤 (emp 𝓤) (A.dead κ) (A.dead κ) (snd∗ 𝓤 (emp 𝓤) (A.dead κ))) $
      move ! (3 ∷ 4 ∷ 1 ∷ 0 ∷ []) $ group ! 4 $
      use1 𝓛 (later (‵ (flft κ q) ⊛ raw (wand 𝓤 (A.dead κ) (A.bor κ (Body R b o γ)))))
      (close_deep 𝓛 n κ κ q (Body R b o γ) (Body S b' o' δ)) $ await ! tt $ split ! $ now ! $
      keep ! (0 ∷ 2 ∷ []) $ done !

-- as callers read it
module _ {M : Type 1} {𝓤 : Ura M} (𝓛 : Logic 𝓤) (R T U : RattleType) (F : T.Denot → U.Denot →
    R.Denot) (γ γ₁ γ₂ : GName) where
  pub ways_both : ent 𝓤 (sem 𝓛 (after_ways (mem R) (mem T) (mem U) γ γ₁ γ₂ F))
      (sem 𝓛 (follows_both R T U γ γ₁ γ₂ F))
  unfolding both_by
  ways_both = conj_l 𝓤 (Says 𝓛 (mem R) (mem T) (mem U) F γ γ₁ γ₂)
      (Back₂ 𝓛 (mem R) (mem T) (mem U) F γ γ₁ γ₂)
