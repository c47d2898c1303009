use Rattle.packet_capture.proofs.OneReading.{same_frames}
use Rattle.packet_capture.proofs.laws.one_reading.Goals as goal

pub returns : goal.returns
returns c = same_frames
