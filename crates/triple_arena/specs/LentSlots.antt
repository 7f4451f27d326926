-- Values that are lent out of slots, which keep all else.
use Rattle.std.specs.Prelude.{ℕ, ◌*◌, ◌^◌, List, [], ◌∷◌, length, Option, None, Some}
use base.Fml.{Lft, GName, Fml, fsep, fobs, fbor, flt}
use base.Stored.{coded_list}
use types.SemTy.{SemTy, Body, Arr}
use denote.RattleType.{RattleType}
use denote.Memory.{mem}
use Rattle.std.specs.contracts.option.Option.{the_row as option_row}

-- the slot x, with the value w if one was written
abbrev pub filled : {T E : Type 0} → (E → T → E) → E → Option T → E
filled with x None = x
filled with x (Some w) = with x w

-- the slots, each with the value that was written, if one was
abbrev pub refilled : {T E : Type 0} → (E → T → E) → List E → List (Option T) → List E
refilled with [] ws = []
refilled with (x ∷ xs) [] = x ∷ refilled with xs []
refilled with (x ∷ xs) (w ∷ ws) = filled with x w ∷ refilled with xs ws

-- nothing was written yet
abbrev pub unwritten : {T E : Type 0} → List E → List (Option T)
unwritten [] = []
unwritten (x ∷ xs) = None ∷ unwritten xs

module _ (T E : RattleType) (with : E.Denot → T.Denot → E.Denot) where
  abbrev pub One : E.Denot → SemTy
  One x = record {
    rep = Option T.Denot;
    coded = (option_row T).coded;
    size = 0;
    own_at =
        λ w b o. (mem E).own_at (filled with x w) b o;
  }

  abbrev pub Row : List E.Denot → SemTy
  Row xs = record {
    rep = List (Option T.Denot);
    coded = coded_list (option_row T).coded;
    size =
        0;
    own_at = λ ws b o. (Arr (mem E) (length xs)).own_at (refilled with xs ws) b o;
  }

abbrev pub one_owned : Lft → (T E : RattleType) → (E.Denot → T.Denot → E.Denot) → GName → ℕ → ℕ →
    E.Denot → Fml
one_owned κ T E with γ b o x = fsep (fobs γ ((option_row T).coded.code None))
    (fbor κ (Body (One T E with x) b o γ))

abbrev pub row_owned : Lft → (T E : RattleType) → (E.Denot → T.Denot → E.Denot) → GName → ℕ → ℕ →
    List E.Denot → Fml
row_owned κ T E with γ b o xs = fsep (flt (length xs * (mem E).size) (2 ^ 63))
    (fsep (fobs γ ((coded_list (option_row T).coded).code (unwritten xs)))
    (fbor κ (Body (Row T E with xs) b o γ)))
