use Rattle.std.proofs.Common.{◌∙◌, ◌++◌, refl}
use Rattle.std.proofs.KnownBytes.{Appends-trans}
use Rattle.std.proofs.lemmas.Result.{on_err_weaker, on_ok_weaker}
use Rattle.route_lines.specs.Reply.{place_line}
use Rattle.route_lines.specs.WrittenLaws.{on_err}
use Rattle.route_book.proofs.ListedLemmas.{none_yet, line_more, broken_off, broken_off_last}
use Rattle.route_book.proofs.ListedLemmas.{written_last}
use Rattle.route_book.proofs.answer.write_places.Goals as goal

pub loop-ticket-init : goal.loop-ticket-init
loop-ticket-init g c = record {
  gathered = none_yet place_line _ c.args.places c.args.places _ refl c.requires;
  failed = refl;
}

pub returns-in_err-make_room-clause-err : goal.returns-in_err-make_room-clause-err
returns-in_err-make_room-clause-err g c =
    let before = c.loop-ticket.invariant.gathered in
    on_err c.from_residual.result
    (broken_off place_line _ _ _ c.args.places c.loop-ticket.places before.0 _ before.1 before.2
    c.in_err-make_room.ensures.err)

pub loop-ticket-preserved : goal.loop-ticket-preserved
loop-ticket-preserved g c =
    let before = c.loop-ticket.invariant.gathered in
    let room = c.in_ok-make_room.ensures.ok in
    record {
      gathered = (
        before.0 ++ room.0,
        line_more place_line c.args.places c.loop-ticket.places c.next.new.self _ before.0 _ room.0
            _ _ before.1 c.in-Some.ensures.steps room.1 c.push_place.ensures,
        Appends-trans _ _ _ _ _ before.2 room.2,
      );
      failed = c.in_ok-make_room.ensures.ok_failed ∙ c.loop-ticket.invariant.failed;
    }

pub returns-in_err-make_room-2-clause-err : goal.returns-in_err-make_room-2-clause-err
returns-in_err-make_room-2-clause-err g c =
    let before = c.loop-ticket.invariant.gathered in
    on_err c.from_residual-in_err-make_room-2.result
    (broken_off place_line _ _ _ c.args.places c.loop-ticket.places before.0 _ before.1 before.2
    c.in_err-make_room-2.ensures.err)

pub returns-clause-err : goal.returns-clause-err
returns-clause-err g c =
    let before = c.loop-ticket.invariant.gathered in
    let room = c.in_ok-make_room-2.ensures.ok in
    on_err_weaker c.send.result
    (broken_off_last place_line _ _ _ _ c.args.places c.loop-ticket.places before.0 _ room.0 _ _
    before.1 c.in_default.ensures.steps.0 room.1 (c.as_slice.ensures ∙ c.push_line.ensures)
    before.2
    room.2) c.send.ensures.err

pub returns-clause-ok : goal.returns-clause-ok
returns-clause-ok g c =
    let before = c.loop-ticket.invariant.gathered in
    let room = c.in_ok-make_room-2.ensures.ok in
    on_ok_weaker c.send.result
    (written_last place_line _ _ _ _ c.args.places c.loop-ticket.places before.0 _ room.0 _ _
    before.1 c.in_default.ensures.steps.0 room.1 (c.as_slice.ensures ∙ c.push_line.ensures)
    before.2
    room.2) c.send.ensures.ok
