-- Texts that are written in several pieces.
use Rattle.std.proofs.Common.{◌≡◌, ◌∙◌, sym, ap, ℕ, List, ◌++◌, Option, Result, Ok, Err, OnErr}
use Rattle.std.proofs.Common.{append_assoc, length-append, arith}
use Rattle.std.specs.Io.KnownBytes.{Appends}
use Rattle.std.proofs.KnownBytes.{Appends-trans}
use Rattle.route_lines.specs.Written.{AppendsBeginning}

-- where one piece was written, and of the next a beginning, a beginning of the whole was
pub begun : (a b c : Option (List ℕ)) (sent piece rest text : List ℕ)
    → text ≡ (sent ++ piece) ++ rest → Appends a b sent → AppendsBeginning b c piece
    → AppendsBeginning a c text
begun a b c sent piece rest text whole written begins = record {
  part = sent ++ begins.part;
  missing = begins.missing ++ rest;
  whole = whole ∙ ap (λ p. (sent ++ p) ++ rest) begins.whole
      ∙ regrouped sent begins.part begins.missing rest;
  short = let h = begins.short in omega (arith, h, length-append begins.missing rest);
  appended = Appends-trans _ _ _ _ _ written begins.appended;
}
  where
    regrouped : (w x y z : List ℕ) → (w ++ (x ++ y)) ++ z ≡ (w ++ x) ++ (y ++ z)
    regrouped w x y z = ap (λ v. v ++ z) (sym (append_assoc w x y)) ∙ append_assoc (w ++ x) y z

pub on_err : {T E P : Type 0} (r : Result T E) → P → OnErr r P
on_err (Ok x) p = tt
on_err (Err e) p = p
