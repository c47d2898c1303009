use Rattle.capture_records.specs.laws.Readings.{readings}
use Rattle.capture_records.proofs.laws.one_reading.Goals as goal

pub returns : goal.returns
returns c = readings
