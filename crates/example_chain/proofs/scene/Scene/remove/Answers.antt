use Rattle.std.proofs.Common.{◌≡◌, ◌∙◌, Some, None, get_or, slice_set, ap, rules}
use Rattle.example_chain.specs.Scene.{node_at}
use Rattle.example_chain.proofs.SceneLemmas.{Without, forgotten, elsewhere, on_answer}
use Rattle.example_chain.proofs.scene.Scene.remove.Goals.{After-remove}
use Rattle.example_chain.proofs.scene.Scene.remove.Goals as goal

-- the pointer is forgotten
gone : (g : _) (c : After-remove g)
    → Without g.P.PtrCore.index g.P.PtrCore.generation (λ m. m.value)
    (record { nodes = c.self.inside.nodes; pointers = c.self.inside.pointers.items })
    (record {
      nodes = c.remove.new.self;
      pointers = slice_set c.self.inside.pointers.items c.args.number c.replace.new.dest;
    }) c.args.number
gone g c =
    let was : get_or c.self.inside.pointers.items c.args.number None ≡ Some c.in_ok-p.p =
    search (
      rules,
      c.in_ok-p.was,
      c.in_ok-p.is,
      c.in_ok-p.ensures.value,
      c.replace.ensures.value,
      c.get_mut.ensures.item,
      c.in_ok-get_mut.ensures.value,
    ) in
    forgotten g.P.PtrCore.index g.P.PtrCore.generation (λ m. m.value)
    was
    (ap (slice_set c.self.inside.pointers.items c.args.number) c.replace.ensures.after)
    (elsewhere (on_answer _ _ c.remove.ensures.value
    (c.self.invariant.live c.args.number c.in_ok-p.p was) c.remove.ensures.removed))
    c.remove.ensures.formed c.self.invariant

pub invariant_of-self-in_err-moved : goal.invariant_of-self-in_err-moved
invariant_of-self-in_err-moved g c =
    (gone g (goal.at.invariant_of-self-in_err-moved g c).After-remove).scene

pub invariant_of-self-2 : goal.invariant_of-self-2
invariant_of-self-2 g c = (gone g (goal.at.invariant_of-self-2 g c).After-remove).scene

pub returns-clause-others : goal.returns-clause-others
returns-clause-others g c k other =
    (gone g (goal.at.returns-clause-others g c).After-remove).others k other
    ∙ ap (λ s. node_at g.P.PtrCore.index g.P.PtrCore.generation (λ m. m.value) s k) c.self.view_is
