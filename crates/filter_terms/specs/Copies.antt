-- Terms that are a copy of others.
use Rattle.std.specs.Prelude.{◌≡◌}
use Rattle.filter_terms.specs.declared.terms.Terms.{Terms, All, Symbol, AnyOf, MinSize, StateIs, Both'}
use Rattle.filter_terms.specs.Terms.{meets}

-- they say the same, part by part, whatever room their lists take
abbrev pub SaysSame : Terms → Terms → Type 0
SaysSame All All = Unit {0}
SaysSame (Symbol s) (Symbol t) = t ≡ s
SaysSame (AnyOf xs) (AnyOf ys) = ys.items ≡ xs.items
SaysSame (MinSize m) (MinSize n) = n ≡ m
SaysSame (StateIs s) (StateIs t) = t ≡ s
SaysSame (Both' p a q b) (Both' p' a' q' b') = SaysSame a a' × SaysSame b b'
SaysSame a b = ⊥

-- a copy says the same, and so the same notices meet it
pub record IsCopy (terms copy : Terms) : Type 0 where
  pub says : SaysSame terms copy
  pub meets_same : meets copy ≡ meets terms
