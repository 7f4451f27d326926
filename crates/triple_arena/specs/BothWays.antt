-- What a lender ends as where two parts of it are lent, and what the parts end as where it is
-- whole.
use base.Fml.{Fml, GName, fand, fall, fwand, fex, fsep, feq, fres, fauth}
use types.SemTy.{SemTy}
use denote.Memory.{mem}
use denote.RattleType.{RattleType}
use denote.Ref.{MutBor}

-- the last values of both parts give that of the whole, and a whole that is given back has two such
-- values
abbrev pub after_ways : (R T U : SemTy) → GName → GName → GName → (T.rep → U.rep → R.rep) → Fml
after_ways R T U γ γ₁ γ₂ F = fand
    (fall (T.rep × U.rep)
    (λ w. fwand (fsep (fres γ₁ (T.coded.code w.0)) (fres γ₂ (U.coded.code w.1)))
    (fres γ (R.coded.code (F w.0 w.1)))))
    (fall R.rep
    (λ z. fwand (fauth γ (R.coded.code z))
    (fex (T.rep × U.rep)
    (λ w. fsep (feq R.rep z (F w.0 w.1))
    (fsep (fauth γ₁ (T.coded.code w.0)) (fauth γ₂ (U.coded.code w.1)))))))

abbrev pub LendsBothWays : (R T U : RattleType) → MutBor R.Denot → MutBor T.Denot × MutBor U.Denot →
    (T.Denot → U.Denot → R.Denot) → Fml
LendsBothWays R T U s r F = after_ways (mem R) (mem T) (mem U) s.ghost_name r.0.ghost_name
    r.1.ghost_name F
