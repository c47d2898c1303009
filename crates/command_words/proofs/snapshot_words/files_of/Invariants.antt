use Rattle.std.proofs.Common.{◌≡◌, length, map, take}
use Rattle.command_words.specs.SnapshotFiles.{SnapshotsOfVenues, files_of, named_by}
use Rattle.command_words.proofs.snapshot_words.files_of.Given as goal

abbrev pub invariant-loop-text : goal.invariant-loop-text
invariant-loop-text l = record {
  files : map named_by l.files.items
      ≡ files_of l.sessions (map (λ text. text.now) (take l.text-index l.texts));
  venues : SnapshotsOfVenues (length l.sessions) l.files.items;
}
