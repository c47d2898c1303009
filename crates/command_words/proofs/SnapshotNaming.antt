-- The files of snapshots, by the texts that an option gives.
use Rattle.std.proofs.Common.{◌≡◌, ◌==◌, ◌+◌, ◌<◌, ◌++◌, ℕ, ◌∙◌, sym, ap, append-nil, Bool, List, [], ◌∷◌, None, Some, get_or, length, map, take, true, false, refl, Ok, Err}
use Rattle.std.specs.Prelude.{◌&&◌, count_by, if◌then◌else◌, is_some, string_bytes}
use Rattle.std.specs.Borrow.{Bor}
use Rattle.std.specs.List.{cons_option, list_all}
use Rattle.std.proofs.lemmas.List.{map-append, take_more}
use Rattle.std.proofs.lemmas.List.Elements.{filter_map-append}
use Rattle.std.proofs.lemmas.List.Folds.{fold-map, list_all-map}
use Rattle.command_words.specs.SnapshotFiles.{VenueFile, venues_once, file_by, file_of, files_of, named_by, names_file, snapshots_by, venue_named}
use Rattle.command_words.specs.declared.refusal.Refusal.TheVariants.{BadSnapshot, SnapshotTwice, UnknownSnapshot}
use Rattle.command_words.specs.declared.snapshot_file.SnapshotFile.{SnapshotFile}
use Rattle.command_words.proofs.Naming.{texts}

abbrev Texts : Type 0
Texts = List (Bor (List ℕ))

abbrev text_of : Bor (List ℕ) → List ℕ
text_of text = text.now

abbrev times_of : List SnapshotFile → ℕ → ℕ
times_of files venue = count_by (λ (file : SnapshotFile). file.venue == venue) files

times_named : (venue : ℕ) (files : List SnapshotFile)
    → count_by (λ (other : VenueFile). other.0 == venue) (map named_by files) ≡ times_of files venue
times_named venue files =
    fold-map (λ (a : ℕ) (other : VenueFile). a + (if other.0 == venue then 1 else 0)) named_by 0
    files

all_same : (f g : ℕ → ℕ) (files : List SnapshotFile) → ((venue : ℕ) → f venue ≡ g venue)
    → list_all (λ (file : VenueFile). f file.0 == 1) (map named_by files)
    ≡ list_all (λ (file : SnapshotFile). g file.venue == 1) files
all_same f g [] same = refl
all_same f g (x ∷ files) same =
    ap (λ (n : ℕ). (n == 1) && list_all (λ (file : VenueFile). f file.0 == 1) (map named_by files))
    (same x.venue)
    ∙ ap (λ (b : Bool). (g x.venue == 1) && b) (all_same f g files same)

once_named : (files : List SnapshotFile) → venues_once (map named_by files)
    ≡ list_all (λ (file : SnapshotFile). times_of files file.venue == 1) files
once_named files =
    all_same (λ venue. count_by (λ (other : VenueFile). other.0 == venue) (map named_by files))
    (times_of files) files (λ venue. times_named venue files)

pub nameless : (given : Texts) (sessions : List (List ℕ))
    → list_all (λ text. names_file text.now) given ≡ false
    → snapshots_by (texts given) sessions ≡ Err BadSnapshot
nameless given sessions bad =
    let n = list_all-map names_file text_of given ∙ bad in
    rw n refl

pub unknown : (given : Texts) (sessions : List (List ℕ))
    → list_all (λ text. names_file text.now) given ≡ true
    → list_all (λ text. is_some (venue_named sessions text.now)) given ≡ false
    → snapshots_by (texts given) sessions ≡ Err UnknownSnapshot
unknown given sessions good bad =
    let n = list_all-map names_file text_of given ∙ good in
    let v = list_all-map (λ text. is_some (venue_named sessions text)) text_of given ∙ bad in
    rw n (rw v refl)

pub twice : (given : Texts) (sessions : List (List ℕ)) (files : List SnapshotFile)
    → list_all (λ text. names_file text.now) given ≡ true
    → list_all (λ text. is_some (venue_named sessions text.now)) given ≡ true
    → map named_by files ≡ files_of sessions (texts given)
    → list_all (λ (file : SnapshotFile). times_of files file.venue == 1) files ≡ false
    → snapshots_by (texts given) sessions ≡ Err SnapshotTwice
twice given sessions files good known are bad =
    let n = list_all-map names_file text_of given ∙ good in
    let v = list_all-map (λ text. is_some (venue_named sessions text)) text_of given ∙ known in
    let o : venues_once (files_of sessions (texts given)) ≡ false =
    ap venues_once (sym are) ∙ once_named files ∙ bad in
    rw n (rw v (rw o refl))

pub found : (given : Texts) (sessions : List (List ℕ)) (files : List SnapshotFile)
    → list_all (λ text. names_file text.now) given ≡ true
    → list_all (λ text. is_some (venue_named sessions text.now)) given ≡ true
    → map named_by files ≡ files_of sessions (texts given)
    → list_all (λ (file : SnapshotFile). times_of files file.venue == 1) files ≡ true
    → snapshots_by (texts given) sessions ≡ Ok (map named_by files)
found given sessions files good known are once =
    let n = list_all-map names_file text_of given ∙ good in
    let v = list_all-map (λ text. is_some (venue_named sessions text)) text_of given ∙ known in
    let o : venues_once (files_of sessions (texts given)) ≡ true =
    ap venues_once (sym are) ∙ once_named files ∙ once in
    rw n (rw v (rw o (ap (λ (fs : List VenueFile). Ok fs) (sym are))))

abbrev found_in : List (List ℕ) → Texts → List VenueFile
found_in sessions given = files_of sessions (map text_of given)

files_more : (sessions : List (List ℕ)) (given : Texts) (i : ℕ) (d : Bor (List ℕ))
    → i < length given
    → found_in sessions (take (i + 1) given)
    ≡ found_in sessions (take i given) ++ cons_option (file_by sessions (get_or given i d).now) []
files_more sessions given i d less =
    ap (found_in sessions) (take_more given i d less)
    ∙ ap (files_of sessions) (map-append text_of (take i given) (get_or given i d ∷ []))
    ∙ filter_map-append (file_by sessions) (map text_of (take i given))
    ((get_or given i d).now ∷ [])

-- one file more
pub file_added : (sessions : List (List ℕ)) (given : Texts) (i : ℕ) (d : Bor (List ℕ))
    (files : List SnapshotFile) (file : SnapshotFile) → i < length given
    → map named_by files ≡ found_in sessions (take i given)
    → venue_named sessions (get_or given i d).now ≡ Some file.venue
    → string_bytes file.name ≡ file_of (get_or given i d).now
    → map named_by (files ++ file ∷ []) ≡ found_in sessions (take (i + 1) given)
file_added sessions given i d files file less before venue name =
    let added : cons_option (file_by sessions (get_or given i d).now) [] ≡ named_by file ∷ [] =
    rw venue (ap (λ (n : List ℕ). (file.venue, n) ∷ []) (sym name)) in
    map-append named_by files (file ∷ [])
    ∙ ap (λ (fs : List VenueFile). fs ++ named_by file ∷ []) before
    ∙ ap (λ (fs : List VenueFile). found_in sessions (take i given) ++ fs) (sym added)
    ∙ sym (files_more sessions given i d less)

-- none more
pub none_added : (sessions : List (List ℕ)) (given : Texts) (i : ℕ) (d : Bor (List ℕ))
    (files : List SnapshotFile) → i < length given
    → map named_by files ≡ found_in sessions (take i given)
    → venue_named sessions (get_or given i d).now ≡ None
    → map named_by files ≡ found_in sessions (take (i + 1) given)
none_added sessions given i d files less before none =
    let added : cons_option (file_by sessions (get_or given i d).now) [] ≡ [] = rw none refl in
    before ∙ sym (append-nil (found_in sessions (take i given)))
    ∙ ap (λ (fs : List VenueFile). found_in sessions (take i given) ++ fs) (sym added)
    ∙ sym (files_more sessions given i d less)
