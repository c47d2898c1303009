use Rattle.std.proofs.Common.{codes}
use Rattle.line_discovery.proofs.Putting.{put_last, put_two}
use Rattle.line_discovery.proofs.words.put_named.Goals as goal

pub returns : goal.returns
returns c =
    let r = c.extend_from_slice-3.result in
    let new = c.extend_from_slice-3.new.self.items in
    let one = c.extend_from_slice.new.self.items in
    let two = c.put_session.new.text.items in
    let three = c.put_more_sessions.new.text.items in
    let four = c.extend_from_slice-2.new.self.items in
    let five = c.put_lines.new.text.items in
    let six = c.put_more_lines.new.text.items in
    put_two r c.args.text.now.items one new _ _ c.in_ok-extend_from_slice.ensures.items
    (put_two r one two new _ _ c.in_ok-put_session.ensures
    (put_two r two three new _ _ c.in_ok-put_more_sessions.ensures
    (put_two r three four new _ _ c.in_ok-extend_from_slice-2.ensures.items
    (put_two r four five new _ _ c.in_ok-put_lines.ensures
    (put_two r five six new _ _ c.in_ok-put_more_lines.ensures
    (put_last r six new (codes "\n") c.extend_from_slice-3.ensures.items))))))
