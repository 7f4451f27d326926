use Rattle.std.proofs.Common.{subst}
use Rattle.std.specs.Fmt.{DisplaysOnOk}
use Rattle.triple_arena_ptr.proofs.HexadecimalLemmas.{written_halves}
use Rattle.triple_arena_ptr.proofs.hexadecimal.fmt_u128.Goals as goal

pub returns-else-high-eq0 : goal.returns-else-high-eq0
returns-else-high-eq0 g c =
    let text = written_halves c.in_radix-else-high-eq0.result c.in_radix-else-high-eq0-2.result
    c.laid_out.result c.args.number c.in_radix-else-high-eq0.ensures
    c.in_radix-else-high-eq0-2.ensures c.laid_out.ensures c.if-high-eq0.false
    c.ranges.number.fits in
    subst (λ o. DisplaysOnOk g.W.Write.write_str_gives c.args.f.now c.write-else-high-eq0.result o
    c.write-else-high-eq0.new.self) text c.write-else-high-eq0.ensures.writes
