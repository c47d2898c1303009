use Rattle.venue_normaliser.proofs.OneSnapshot.{same_fault, same_snapshot, snapshot_without}
use Rattle.venue_normaliser.proofs.laws.bytes_are_one_snapshot.Goals as goal

pub returns-clause-snapshot : goal.returns-clause-snapshot
returns-clause-snapshot c = same_snapshot

pub returns-clause-no_fault : goal.returns-clause-no_fault
returns-clause-no_fault c = snapshot_without

pub returns-clause-fault : goal.returns-clause-fault
returns-clause-fault c = same_fault
