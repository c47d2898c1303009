-- The number of the last item that is ready, and how many items there are.
use Rattle.std.proofs.Common.{◌≡◌, ap, sym, ◌∙◌, arith, length-append}
use Rattle.line_arbiter.specs.Streams.{closed_of, front_of, part_of, place_of, sent_of}
use Rattle.line_arbiter.specs.Skips.{AllSent}
use Rattle.line_arbiter.specs.Histories.{History}
use Rattle.line_arbiter.specs.laws.Fronts.{front_is, opens_most}
use Rattle.line_arbiter.specs.LastSent.{last_sent, stream_length}
use Rattle.line_arbiter.specs.States.{State}
use Rattle.line_arbiter.specs.Fits.{Fits}
use Rattle.line_arbiter.specs.laws.Lengths.{length-stream}
use Rattle.line_arbiter.specs.laws.Placing.{sent_back}

module _ (h : History) where
  -- all items of the present part, up to the last one, were taken
  pub last_all : AllSent h.present.packets (last_sent h)
  last_all =
      let packets = h.present.packets in
      let most = opens_most packets (front_of packets) (front_is packets) in
      let part = length-stream packets (front_of packets) in
      omega arith

  -- the items up to the last one are as many as the streams are long
  pub place_last : place_of h.present.packets (last_sent h) ≡ stream_length h
  place_last =
      let packets = h.present.packets in
      let most = opens_most packets (front_of packets) (front_is packets) in
      let part = length-stream packets (front_of packets) in
      let whole = length-append (closed_of packets) (part_of packets) in
      omega arith

  -- its number follows from their count
  pub last_counted : sent_of h.present.packets (stream_length h) ≡ last_sent h
  last_counted =
      let packets = h.present.packets in
      let most = opens_most packets (front_of packets) (front_is packets) in
      let part = length-stream packets (front_of packets) in
      let whole = length-append (closed_of packets) (part_of packets) in
      omega arith

  -- an arbiter that has sent all items has sent up to the last one
  pub sent_is_last : {s : State} → Fits s h.present.packets
      → place_of h.present.packets s.sent ≡ stream_length h → s.sent ≡ last_sent h
  sent_is_last fits all =
      sym (sent_back fits) ∙ ap (sent_of h.present.packets) all ∙ last_counted
