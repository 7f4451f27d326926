use Rattle.std.proofs.Common.{refl, rules}
use Rattle.example_chain.proofs.SceneLemmas.{followed, taken}
use Rattle.example_chain.proofs.scene.Scene.compress.Goals as goal

pub invariant_of-self : goal.invariant_of-self
invariant_of-self g c =
    followed g.P.PtrCore.index g.P.PtrCore.generation (λ m. m.was) _ _ _ refl
    c.deref_mut.ensures.value
    (taken c.compress_with_table.new.table _ _
    (search (
      rules,
      c.compress_with_table.auto.table,
      c.deref_mut.ensures.len,
      c.deref_mut.ensures.value,
    )))
    c.compress_with_table.ensures.named c.len.ensures.formed c.self.invariant
