use Rattle.std.proofs.Common.{◌∙◌, ◌≡◌, ◌++◌, ℕ, Option, List, [], refl, inl, inr, take, append-nil}
use Rattle.std.proofs.Common.{arith, subst, lit<, ◌==◌, false}
use Rattle.std.specs.Io.KnownBytes.{Consumes}
use Rattle.std.proofs.KnownBytes.{Consumes-nil, Consumes-trans, Consumes-kept}
use Rattle.std.proofs.lemmas.List.Elements.{All-nil}
use Rattle.route_lines.specs.UnfinishedLaws.{Takes-none, Takes-piece, Takes-whole, Takes-all}
use Rattle.route_lines.specs.UnfinishedLaws.{Stops-within, Stops-at_end}
use Rattle.route_book.proofs.running.run.Goals as goal

-- a read that gave nothing leaves the input as it was
nothing_read : (old mid new : Option (List ℕ)) (input piece : List ℕ) (n : ℕ)
    → Consumes old mid input → Consumes mid new (take n piece) → n ≡ 0 → Consumes old new input
nothing_read old mid new input piece n before read none =
    subst (Consumes old new) (append-nil input)
    (Consumes-trans old mid new input [] before
    (subst (λ k. Consumes mid new (take k piece)) none read))

pub loop-init : goal.loop-init
loop-init g c = record {
  taken = (
    [],
    Consumes-nil _,
    Takes-none [] [] _ _ _ _ (All-nil (λ b. (b == 10) ≡ false)) c.new-unfinished.ensures,
  );
  reads = refl;
  writes = refl;
  room = lit< tt;
  calls = omega arith;
}

pub returns-in-Err-clause-read : goal.returns-in-Err-clause-read
returns-in-Err-clause-read g c =
    let taken = c.loop.invariant.taken in (
      taken.0,
      Consumes-kept _ _ _ _ taken.1 c.in-Err.ensures.bytes,
      Takes-whole _ _ _ _ _ _ _ _ taken.2,
    )

pub returns-in-Ok-end-clause-ok : goal.returns-in-Ok-end-clause-ok
returns-in-Ok-end-clause-ok g c =
    let taken = c.loop.invariant.taken in
    let read = c.in-Ok.ensures.bytes in (
      taken.0,
      nothing_read _ _ _ taken.0 _ _ taken.1 read.0 c.if-n-eq0.true,
      read.1 c.if-n-eq0.true (omega (arith, c.read.auto.buf, c.loop.invariant.room)),
      Takes-all _ _ _ _ _ _ _ _ _ _ _ taken.2 (c.in-Ok-end.ensures.ok taken.2.rest taken.2.stands),
    )

pub returns-in-Err-end-clause-write : goal.returns-in-Err-end-clause-write
returns-in-Err-end-clause-write g c =
    let taken = c.loop.invariant.taken in
    let read = c.in-Ok.ensures.bytes in
    let ended = read.1 c.if-n-eq0.true (omega (arith, c.read.auto.buf, c.loop.invariant.room)) in (
      taken.0,
      nothing_read _ _ _ taken.0 _ _ taken.1 read.0 c.if-n-eq0.true,
      elim (c.in-Err-end.ensures.err taken.2.rest taken.2.stands) [
        | inl stopped ↦ inl (Stops-at_end _ _ _ _ _ _ _ _ _ _ _ _ taken.2 ended stopped)
        | inr carried ↦ inr (ended, Takes-all _ _ _ _ _ _ _ _ _ _ _ taken.2 carried)
      ],
    )

pub returns-in-Err-take-clause-write : goal.returns-in-Err-take-clause-write
returns-in-Err-take-clause-write g c =
    let taken = c.loop.invariant.taken in
    let read = c.in-Ok.ensures.bytes in (
      taken.0 ++ take c.in-Ok.n c.read.new.buf,
      Consumes-trans _ _ _ _ _ taken.1 read.0,
      inl (Stops-within _ _ _ _ _ _ _ _ _ _ _ _ _ taken.2 c.in-Err-take.ensures.err),
    )

pub loop-preserved : goal.loop-preserved
loop-preserved g c =
    let taken = c.loop.invariant.taken in
    let read = c.in-Ok.ensures in
    record {
      taken = (
        taken.0 ++ take c.in-Ok.n c.read.new.buf,
        Consumes-trans _ _ _ _ _ taken.1 read.bytes.0,
        Takes-piece _ _ _ _ _ _ _ _ _ _ _ _ _ taken.2 c.in_default.ensures.ok,
      );
      reads = omega (arith, read.failed, c.loop.invariant.reads);
      writes = c.in_default.ensures.ok_failed ∙ c.loop.invariant.writes;
      room = omega (arith, c.read.auto.buf, c.loop.invariant.room);
      calls = omega (arith, read.calls, c.loop.invariant.calls);
    }

pub returns-clause-too_long : goal.returns-clause-too_long
returns-clause-too_long g c =
    let taken = c.loop.invariant.taken in
    (taken.0, taken.1, Takes-whole _ _ _ _ _ _ _ _ taken.2)
