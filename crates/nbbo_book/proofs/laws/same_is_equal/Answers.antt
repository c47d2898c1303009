use Rattle.std.proofs.Common.{◌≡◌, true, subst}
use Rattle.feed_types.specs.declared.national.National.{National}
use Rattle.nbbo_book.specs.Changes.{is_same_national}
use Rattle.nbbo_book.proofs.Fronts.{same_national_sound}
use Rattle.nbbo_book.proofs.Stepping.{same_national_refl}
use Rattle.nbbo_book.proofs.laws.same_is_equal.Goals as goal

pub returns : goal.returns
returns c = λ x y. (
  λ h. same_national_sound x y h,
  λ e. subst (λ (t : National). is_same_national x t ≡ true) e (same_national_refl x),
)
