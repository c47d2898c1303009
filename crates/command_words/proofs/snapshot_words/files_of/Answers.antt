use Rattle.std.proofs.Common.{rules, ◌≡◌, ◌<◌, ◌∙◌, ◌++◌, ap, sym, length, map, None, Some, [], ◌∷◌, List, ℕ}
use Rattle.std.proofs.lemmas.List.Elements.{All-push, All-same}
use Rattle.command_words.specs.SnapshotFiles.{named_by}
use Rattle.command_words.specs.declared.snapshot_file.SnapshotFile.{SnapshotFile}
use Rattle.command_words.proofs.SnapshotNaming.{file_added, none_added}
use Rattle.command_words.proofs.snapshot_words.files_of.Goals.{in-Some+in_ok-name+in_ok-push, in_default}
use Rattle.command_words.proofs.snapshot_words.files_of.Goals as goal

-- it is of one of the venues with these first sessions
abbrev is_within : List (List ℕ) → SnapshotFile → Type 0
is_within sessions file = file.venue < length sessions

pub loop-text-preserved : goal.loop-text-preserved
loop-text-preserved c = elim c.match-venue_named.branch [
  | in-Some+in_ok-name+in_ok-push w ↦
      let file : SnapshotFile = record { venue = w.in-Some.venue; name = w.in_ok-name.name } in
      let pushed : c.match-venue_named.files.items ≡ c.loop-text.files.items ++ file ∷ [] =
      search rules in
      let is : c.venue_named.result ≡ Some file.venue = search rules in
      let few : file.venue < length c.args.sessions.now = search rules in
      record {
        files = ap (map named_by) pushed ∙ file_added c.args.sessions.now c.args.texts.now
            c.loop-text.text-index _ c.loop-text.files.items file c.loop-text-test.true
            c.loop-text.invariant.files (sym c.venue_named.ensures.venue ∙ is) (search rules);
        venues = All-same (is_within c.args.sessions.now) c.match-venue_named.files.items
            (c.loop-text.files.items ++ file ∷ []) pushed
            (All-push (is_within c.args.sessions.now) c.loop-text.files.items file
            c.loop-text.invariant.venues few);
      }
  | in_default w ↦
      let same : c.match-venue_named.files.items ≡ c.loop-text.files.items = search rules in
      let no : c.venue_named.result ≡ None = search rules in
      record {
        files = ap (map named_by) same ∙ none_added c.args.sessions.now c.args.texts.now
            c.loop-text.text-index _ c.loop-text.files.items c.loop-text-test.true
            c.loop-text.invariant.files (sym c.venue_named.ensures.venue ∙ no);
        venues = All-same (is_within c.args.sessions.now) c.match-venue_named.files.items
            c.loop-text.files.items same c.loop-text.invariant.venues;
      }
]
