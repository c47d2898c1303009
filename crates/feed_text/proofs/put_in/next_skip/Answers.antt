use Rattle.capture_records.specs.Capture.{skip_record}
use Rattle.feed_text.proofs.PuttingIn.{given_put, no_skip, skip_put}
use Rattle.feed_text.proofs.put_in.next_skip.Goals as goal

pub returns-in-Some : goal.returns-in-Some
returns-in-Some c = λ r at is f keeps.
    given_put c.args.config.now c.args.coming.now r at
    (skip_record c.in-Some.skip.venue c.in-Some.skip.number) is (c.in-Some.ensures at f keeps)

pub returns-in-Some-skip_before : goal.returns-in-Some-skip_before
returns-in-Some-skip_before c = λ r at is f keeps.
    skip_put c.args.config.now c.args.coming.now r at c.in-Some-skip_before.number is
    (c.in_default.ensures at f keeps) (c.in-Some-skip_before.ensures at.histories f)

pub returns-in-None : goal.returns-in-None
returns-in-None c = λ r at is f keeps.
    no_skip c.args.config.now c.args.coming.now r at is (c.in_default.ensures at f keeps)
    (c.in-None.ensures at.histories f)
