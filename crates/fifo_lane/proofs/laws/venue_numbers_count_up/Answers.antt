use Rattle.feed_types.specs.Sequence.{first_place}
use Rattle.fifo_lane.proofs.Counting.{next_number, number_after_end, number_rises, own_number}
use Rattle.fifo_lane.proofs.laws.venue_numbers_count_up.Goals as goal

pub returns-clause-first : goal.returns-clause-first
returns-clause-first g c = λ venue x xs all message. own_number 1 x.number x.item all.0 message

pub returns-clause-next : goal.returns-clause-next
returns-clause-next g c = λ venue xs x y ys all more message. next_number g.G.Genuine.carries
    g.G.Genuine.ends venue first_place xs x y ys all more message

pub returns-clause-after_end : goal.returns-clause-after_end
returns-clause-after_end g c = λ venue xs x y ys all last message. number_after_end
    g.G.Genuine.carries g.G.Genuine.ends venue first_place xs x y ys all last message

pub returns-clause-rises : goal.returns-clause-rises
returns-clause-rises g c = λ venue xs x y ys all more. number_rises g.G.Genuine.carries
    g.G.Genuine.ends venue first_place xs x y ys all more
