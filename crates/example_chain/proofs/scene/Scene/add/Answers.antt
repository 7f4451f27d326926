use Rattle.std.proofs.Common.{◌≡◌, ◌∙◌, ap, length, rules}
use Rattle.example_chain.specs.Scene.{node_at}
use Rattle.example_chain.proofs.SceneLemmas.{added}
use Rattle.example_chain.proofs.scene.Scene.add.Goals as goal

pub invariant_of-self-2 : goal.invariant_of-self-2
invariant_of-self-2 g c =
    (added _ _ (λ m. m.value) c.in_ok-p.ensures.inserted
    (search (rules, c.push.ensures.items, c.reserve.ensures.items))
    c.in_ok-p.ensures.formed c.self.invariant).scene

pub returns-clause-others : goal.returns-clause-others
returns-clause-others g c k other =
    let length : length c.self.inside.pointers.items ≡ c.len-number.result =
    search (rules, c.len-number.ensures, c.reserve.ensures.len, c.reserve.ensures.items) in
    (added _ _ (λ m. m.value)
    {new = record { nodes = c.insert.new.self; pointers = c.push.new.self.items }}
    c.in_ok-p.ensures.inserted (search (rules, c.push.ensures.items, c.reserve.ensures.items))
    c.in_ok-p.ensures.formed c.self.invariant).others k (λ e. other (e ∙ length))
    ∙ ap (λ s. node_at g.P.PtrCore.index g.P.PtrCore.generation (λ m. m.value) s k) c.self.view_is
