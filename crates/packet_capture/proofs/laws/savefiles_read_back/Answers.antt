use Rattle.packet_capture.proofs.WrittenBack.{savefile_back}
use Rattle.packet_capture.proofs.laws.savefiles_read_back.Goals as goal

pub returns : goal.returns
returns c = savefile_back
