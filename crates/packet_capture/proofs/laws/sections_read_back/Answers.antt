use Rattle.packet_capture.proofs.SectionsBack.{section_back}
use Rattle.packet_capture.proofs.laws.sections_read_back.Goals as goal

pub returns : goal.returns
returns c = section_back
