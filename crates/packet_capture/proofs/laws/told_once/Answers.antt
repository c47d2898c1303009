use Rattle.packet_capture.proofs.OnePiece.{same_piece, same_stop, no_stop}
use Rattle.packet_capture.proofs.EveryPiece.{piece_or_stop}
use Rattle.packet_capture.proofs.laws.told_once.Goals as goal

pub returns-clause-piece : goal.returns-clause-piece
returns-clause-piece c = same_piece

pub returns-clause-stop : goal.returns-clause-stop
returns-clause-stop c = same_stop

pub returns-clause-not_both : goal.returns-clause-not_both
returns-clause-not_both c = no_stop

pub returns-clause-one : goal.returns-clause-one
returns-clause-one c = piece_or_stop
