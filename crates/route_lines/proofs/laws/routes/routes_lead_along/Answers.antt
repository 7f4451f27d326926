use Rattle.route_lines.proofs.AlongLemmas.{lead_along, none_before_first, stops_stand}
use Rattle.route_lines.proofs.laws.routes.routes_lead_along.Goals as goal

pub returns : goal.returns
returns c = record {
  next = λ s sound. lead_along s.routes sound.routes;
  first = λ s sound. none_before_first s.routes sound.routes;
  stops = λ s sound. stops_stand s.routes sound.routes;
}
