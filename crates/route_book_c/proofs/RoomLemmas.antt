-- Texts that are written one after another into room of the caller.
use Rattle.std.proofs.Common.{◌≡◌, ◌∙◌, sym, ap, ℕ, ◌+◌, ◌-◌, ◌≤◌, List, [], ◌++◌, length}
use Rattle.std.proofs.Common.{take, drop, append_assoc, length-append, length-drop, arith}
use Rattle.std.proofs.lemmas.List.{take-append-drop}
use Rattle.std.proofs.Math.Seq.{take_at, drop_at, drop-drop, length-take-le}
use Rattle.route_book_c.specs.Lines.{Wrote}

-- nothing is written yet
pub Wrote-none : (at : ℕ) (room : List ℕ) → at ≤ length room → Wrote at at [] room room
Wrote-none at room within = record {
  end_is = omega arith;
  fits = within;
  bytes = sym (take-append-drop at room);
}

module _ {a b : ℕ} {t old new : List ℕ} (w : Wrote a b t old new) where
  start : a ≤ length old
  start = omega (arith, w.end_is, w.fits)

  split : new ≡ (take a old ++ t) ++ drop b old
  split = w.bytes ∙ sym (append_assoc (take a old) t (drop b old))

  front_length : length (take a old ++ t) ≡ b
  front_length =
      length-append (take a old) t ∙ omega (arith, length-take-le a old start, w.end_is)

  pub Wrote-length : length new ≡ length old
  Wrote-length = omega (
    arith,
    ap length split,
    length-append (take a old ++ t) (drop b old),
    front_length,
    length-drop b old,
    w.fits,
  )

  -- up to the end, the text stands behind what was there
  pub Wrote-taken : take b new ≡ take a old ++ t
  Wrote-taken = ap (take b) split ∙ take_at (take a old ++ t) (drop b old) b front_length

  -- behind the end all is as it was
  pub Wrote-rest : drop b new ≡ drop b old
  Wrote-rest = ap (drop b) split ∙ drop_at (take a old ++ t) (drop b old) b front_length

-- one text after another
pub Wrote-more : {a b c : ℕ} {t u old mid new : List ℕ} → Wrote a b t old mid
    → Wrote b c u mid new → Wrote a c (t ++ u) old new
Wrote-more {a} {b} {c} {t} {u} {old} {mid} {new} first second = record {
  end_is = omega (arith, first.end_is, second.end_is, length-append t u);
  fits = omega (arith, second.fits, Wrote-length first);
  bytes =
      second.bytes
      ∙ ap (λ l. l ++ (u ++ drop c mid)) (Wrote-taken first)
      ∙ ap (λ l. (take a old ++ t) ++ (u ++ l)) behind
      ∙ append_assoc (take a old) t (u ++ drop c old)
      ∙ ap (λ l. take a old ++ l) (sym (append_assoc t u (drop c old)));
}
  where
    past : b + (c - b) ≡ c
    past = omega (arith, second.end_is)

    behind : drop c mid ≡ drop c old
    behind =
        ap (λ k. drop k mid) (sym past)
        ∙ sym (drop-drop (c - b) b mid)
        ∙ ap (drop (c - b)) (Wrote-rest first)
        ∙ drop-drop (c - b) b old
        ∙ ap (λ k. drop k old) past
