-- A filter as contracts see it.
use Rattle.filter_terms.specs.declared.terms.Terms.{Terms}
use Rattle.filter_terms.specs.declared.filter.Filter.{Filter}

-- the terms that the filter was made with
abbrev pub terms_of : {g F m : _} → Filter g F m → Terms
terms_of filter = filter.terms
