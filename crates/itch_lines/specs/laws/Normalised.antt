-- What a line brings in calls after calls is what it brings in all of them.
use Rattle.std.proofs.Common.{◌∙◌, ℕ, List, [], ◌++◌, refl, sym, ap, subst, append_assoc, append-nil}
use Rattle.std.specs.Prelude.{flat_map}
use Rattle.std.specs.List.{AllByRecursion}
use Rattle.std.proofs.lemmas.List.Concat.{flat_map-append}
use Rattle.feed_types.specs.declared.line.LineId.{LineId}
use Rattle.item_packets.specs.laws.Parts.{all_append}
use Rattle.itch_lines.specs.Lines.{HandsOnMade, ItchLineState, IsPossible, IsUnfailing, made_in, received_in}

pub normalised_nothing : {S : Type 0} (brings : S → List (List ℕ) → S → Type 0)
    (none : (s : S) → brings s [] s) (l : ItchLineState S) → HandsOnMade brings l [] l
normalised_nothing brings none l = record {
  venue = refl;
  line = refl;
  sections = [];
  each = tt;
  sound = λ whole. tt;
  ended = λ has. has;
  came = none l.source;
  all = append-nil l.waiting;
}

pub normalised_more : {S : Type 0} (brings : S → List (List ℕ) → S → Type 0)
    (more : (s t u : S) (xs ys : List (List ℕ)) → brings s xs t → brings t ys u
    → brings s (xs ++ ys) u)
    (s t u : ItchLineState S) (xs ys : List (List ℕ)) → HandsOnMade brings s xs t
    → HandsOnMade brings t ys u → HandsOnMade brings s (xs ++ ys) u
normalised_more brings more s t u xs ys a b =
    let ws = s.waiting in
    let wt = t.waiting in
    let wu = u.waiting in
    let fa = flat_map made_in a.sections in
    let fb = flat_map made_in b.sections in
    record {
      venue = b.venue ∙ a.venue;
      line = b.line ∙ a.line;
      sections = a.sections ++ b.sections;
      each = all_append (IsPossible s.venue s.line) a.sections b.sections a.each
          (subst (λ (v : ℕ). AllByRecursion (IsPossible v s.line) b.sections) a.venue
          (subst (λ (l : LineId). AllByRecursion (IsPossible t.venue l) b.sections) a.line b.each));
      sound = λ whole. all_append IsUnfailing a.sections b.sections
          (a.sound (λ has. whole (b.ended has))) (b.sound whole);
      ended = λ has. b.ended (a.ended has);
      came = subst (λ (z : List (List ℕ)). brings s.source z u.source)
          (sym (flat_map-append received_in a.sections b.sections))
          (more s.source t.source u.source (flat_map received_in a.sections)
          (flat_map received_in b.sections) a.came b.came);
      all = ap (λ (z : List (List ℕ)). ws ++ z) (flat_map-append made_in a.sections b.sections)
          ∙ sym (append_assoc ws fa fb) ∙ ap (λ (z : List (List ℕ)). z ++ fb) a.all
          ∙ append_assoc xs wt fb ∙ ap (λ (z : List (List ℕ)). xs ++ z) b.all
          ∙ sym (append_assoc xs ys wu);
    }
