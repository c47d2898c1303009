-- Laws of surveys of the types of messages.
use Rattle.std.proofs.Common.{ℕ, List, [], ◌++◌, refl, ap, subst, ◌∙◌}
use Rattle.run_settings.specs.declared.time_span.TimeSpan.{TimeSpan}
use Rattle.capture_records.specs.Formats.{TimedRecord}
use Rattle.message_types.specs.declared.survey.TypeSurvey.{TypeSurvey}
use Rattle.message_types.specs.TypeCounts.{CountsRecords}
use Rattle.message_types.specs.TypeCountLaws.{type_counts_more, type_counts_none}
use Rattle.message_types.specs.TypeSurveys.{SurveysTypes}

module _ {S : Type 0} (reads : S → List ℕ → List TimedRecord → S → List ℕ → Type 0) where
  pub types_none : ((s : S) (xs : List ℕ) → reads s xs [] s xs)
      → (s : TypeSurvey S) (xs : List ℕ) → SurveysTypes reads s xs [] s xs
  types_none none s xs = record {
    read = [];
    are = none s.format xs;
    none = refl;
    counts = type_counts_none s.counts;
    span = refl;
  }

  pub types_more : ((s t u : S) (xs ys zs : List ℕ) (rs qs : List TimedRecord)
      → reads s xs rs t ys → reads t ys qs u zs → reads s xs (rs ++ qs) u zs)
      → (s t u : TypeSurvey S) (xs ys zs : List ℕ) (rs qs : List TimedRecord)
      → SurveysTypes reads s xs rs t ys → SurveysTypes reads t ys qs u zs
      → SurveysTypes reads s xs (rs ++ qs) u zs
  types_more more s t u xs ys zs rs qs a b = record {
    read = a.read ++ b.read;
    are = more s.format t.format u.format xs ys zs a.read b.read a.are b.are;
    none = ap (λ (l : List TimedRecord). l ++ qs) a.none ∙ b.none;
    counts = type_counts_more s.span s.counts t.counts u.counts a.read b.read a.counts
        (subst (λ (span : TimeSpan). CountsRecords span t.counts b.read u.counts) a.span b.counts);
    span = b.span ∙ a.span;
  }

  pub types_longer : ((s t : S) (xs ys more : List ℕ) (rs : List TimedRecord)
      → reads s xs rs t ys → reads s (xs ++ more) rs t (ys ++ more))
      → (s t : TypeSurvey S) (xs ys more : List ℕ) (rs : List TimedRecord)
      → SurveysTypes reads s xs rs t ys → SurveysTypes reads s (xs ++ more) rs t (ys ++ more)
  types_longer longer s t xs ys more rs a = record {
    read = a.read;
    are = longer s.format t.format xs ys more a.read a.are;
    none = a.none;
    counts = a.counts;
    span = a.span;
  }
