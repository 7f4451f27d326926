-- The machine value of a holder: what is owned tells it, and is made of nothing.
use Rattle.std.proofs.Common.{◌≡◌, List, [], ◌∷◌, ◌++◌, refl, ◌∙◌, lit<}
use mathlib.Core.Bool.{Bool}
use seplogic.Ra.Ura.{Ura}
use mir.Syntax.{ty_ptr, ty_bool, ty_struct, tcons, tnil}
use mir.Val.{Val, vbool, vstruct, vcons, vnil, of_list}
use base.Logic.{ent, emp}
use base.Fml.{Fml}
use types.Logic.{Logic, sem}
use denote.RattleType.{RattleType}
use denote.Builtin.{bool}
use denote.RawPtr.{Ptr, RawPtr, block_ptr, null_ptr, ptr_val}
use denote.Shadow.{shadow, makes_shadow}
use denote.Struct.Struct.{Struct}
use Rattle.std.proofs.cell.Inside.{Good}

abbrev pub plainly : List RattleType → RattleType
plainly Rs = Struct (record { name = []; args = []; types = []; fields = Rs })

pub ptr_typed : (p : Ptr) → Good ty_ptr (ptr_val p)
ptr_typed (block_ptr b o) = (tt, tt)
ptr_typed null_ptr = (tt, record { fits = lit< tt })

abbrev pub holder_val : Ptr → Bool → Val
holder_val p m = vstruct (vcons (ptr_val p) (vcons (vbool m) vnil))

abbrev pub holder_own : Ptr → Bool → List Val → Fml
holder_own p m = (plainly (RawPtr ∷ bool ∷ [])).own_val (p, (m, tt))

pub holder_told : (p : Ptr) (m : Bool) (vs : List Val) → shadow (holder_own p m vs) → vs ≡
    holder_val p m ∷ []
holder_told p m vs s = s.1.0 ∙ (λ i. vstruct (of_list (s.1.1.0 i ++ (s.1.1.1.0 i ++ []))) ∷ [])

pub holder_made : {M : Type 1} {𝓤 : Ura M} (𝓛 : Logic 𝓤) (p : Ptr) (m : Bool) → ent 𝓤 (emp 𝓤) (sem
    𝓛 (holder_own p m (holder_val p m ∷ [])))
holder_made 𝓛 p m = makes_shadow 𝓛 (holder_own p m (holder_val p m ∷ [])) (λ _. (
  tt,
  (
    tt,
    (
      tt,
      tt,
    ),
  ),
)) ((ptr_val p ∷ [], (vbool m ∷ [], tt)), (refl, (refl, (refl, tt))))

pub holder_typed : (p : Ptr) (m : Bool) → Good (ty_struct [] (tcons ty_ptr (tcons ty_bool tnil)))
    (holder_val p m)
holder_typed (block_ptr b o) m = (tt, (tt, (tt, tt)))
holder_typed null_ptr m = (tt, (record { fits = lit< tt }, (tt, tt)))
