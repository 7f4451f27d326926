use Rattle.route_book.proofs.command_line.serve.Goals as goal

pub returns-clause-answered : goal.returns-clause-answered
returns-clause-answered g c = c.run_and_tell.ensures.answered _ c.in_ok-book.ensures.made

pub returns-clause-fault : goal.returns-clause-fault
returns-clause-fault g c = c.run_and_tell.ensures.fault _ c.in_ok-book.ensures.made
