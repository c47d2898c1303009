use Rattle.std.proofs.Common.{◌++◌, codes, flat_map}
use Rattle.line_discovery.specs.SurveyTexts.{escaped_code, place_cell, session_name}
use Rattle.line_discovery.proofs.Putting.{put_two}
use Rattle.line_discovery.proofs.json.put_head.Goals as goal

pub returns : goal.returns
returns c =
    let key = c.args.key.now in
    let r = c.put_session.result in
    let begun = c.extend_from_slice.new.self.items in
    let placed = c.put_place.new.text.items in
    let mid = c.extend_from_slice-2.new.self.items in
    let end = c.put_session.new.text.items in
    let name = flat_map escaped_code (session_name key.session) in
    put_two r c.args.text.now.items begun end (codes "{\"address\":\"")
    (place_cell 0 key ++ (codes "\",\"session\":\"" ++ name))
    c.in_ok-extend_from_slice.ensures.items
    (put_two r begun placed end (place_cell 0 key) (codes "\",\"session\":\"" ++ name)
    c.in_ok-put_place.ensures
    (put_two r placed mid end (codes "\",\"session\":\"") name
    c.in_ok-extend_from_slice-2.ensures.items c.put_session.ensures))
