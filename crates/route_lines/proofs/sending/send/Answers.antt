use Rattle.std.proofs.Common.{◌≡◌, ◌∙◌, ◌++◌, ◌+◌, ◌==◌, ◌&&◌, if◌then◌else◌, Bool, ℕ, take, drop}
use Rattle.std.proofs.Common.{ap, sym, append_assoc, take-append-drop, arith}
use Rattle.std.proofs.KnownBytes.{Appends-trans}
use Rattle.std.proofs.lemmas.Bool.{ne_eqb}
use Rattle.std.proofs.lemmas.List.{take_rest}
use Rattle.route_lines.proofs.sending.send.Goals as goal

pub loop-rest-preserved : goal.loop-rest-preserved
loop-rest-preserved g c =
    let before = c.loop-rest.invariant.taken in
    let rest = c.loop-rest.rest.now in
    let taken = c.in_ok-taken.taken in
    let split : before.0 ++ rest ≡ (before.0 ++ take taken rest) ++ drop taken rest =
    ap (λ xs. before.0 ++ xs) (sym (take-append-drop taken rest))
    ∙ sym (append_assoc before.0 (take taken rest) (drop taken rest)) in
    record {
      taken = (
        before.0 ++ take taken rest,
        before.1 ∙ split ∙ ap (λ xs. (before.0 ++ take taken rest) ++ xs)
            (sym (take_rest rest taken)),
        Appends-trans _ _ _ _ _ before.2 c.in_ok-taken.ensures.bytes,
      );
      failed = none_failed _ _ taken _ c.if-taken-eq0.false c.in_ok-taken.ensures.failed
          ∙ c.loop-rest.invariant.failed;
    }
  where
    none_failed : (old new n : ℕ) (some : Bool) → (n ≡ 0 → ⊥)
        → new ≡ old + (if (n == 0) && some then 1 else 0) → new ≡ old
    none_failed old new n filled some e = e ∙ rw (ne_eqb n 0 some) (omega arith)
