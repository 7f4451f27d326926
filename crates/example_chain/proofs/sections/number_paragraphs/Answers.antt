use Rattle.example_chain.proofs.sections.number_paragraphs.Goals as goal

pub returns-clause-sections : goal.returns-clause-sections
returns-clause-sections g c =
    λ section linear. c.compress_canonical_makes_runs.ensures _ _ _ section
    c.compress_canonical.ensures.canonical linear
