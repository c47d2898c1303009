use Rattle.std.proofs.Common.{codes}
use Rattle.line_discovery.proofs.Putting.{put_last, put_two}
use Rattle.line_discovery.proofs.text.put_head.Goals as goal

pub returns-in-Seconds : goal.returns-in-Seconds
returns-in-Seconds c =
    let r = c.extend_from_slice-in-Seconds.result in
    let one = c.extend_from_slice.new.self.items in
    let two = c.extend_from_slice-2.new.self.items in
    let end = c.extend_from_slice-in-Seconds.new.self.items in
    let times = codes "           first time            last time\n" in
    rw c.in-Seconds.is (put_two r c.args.text.now.items one end _ _
    c.in_ok-extend_from_slice.ensures.items
    (put_two r one two end _ times c.in_ok-extend_from_slice-2.ensures.items
    (put_last r two end times c.extend_from_slice-in-Seconds.ensures.items)))

pub returns-in-Utc : goal.returns-in-Utc
returns-in-Utc c =
    let r = c.extend_from_slice-in-Utc.result in
    let one = c.extend_from_slice.new.self.items in
    let two = c.extend_from_slice-2.new.self.items in
    let end = c.extend_from_slice-in-Utc.new.self.items in
    let times = codes "                     first time                      last time\n" in
    rw c.in-Utc.is (put_two r c.args.text.now.items one end _ _
    c.in_ok-extend_from_slice.ensures.items
    (put_two r one two end _ times c.in_ok-extend_from_slice-2.ensures.items
    (put_last r two end times c.extend_from_slice-in-Utc.ensures.items)))
